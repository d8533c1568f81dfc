use Rattle.dp_lines.proofs.StepLaws.{told_of}
use Rattle.dp_lines.proofs.reader.Reader.line.Goals as goal

pub returns-clause-told : goal.returns-clause-told
returns-clause-told c = told_of c.advance.result c.args.self.now c.advance.new.self c.advance.ensures.stood c.advance.ensures.answered c.advance.ensures.passed c.advance.ensures.unchanged
