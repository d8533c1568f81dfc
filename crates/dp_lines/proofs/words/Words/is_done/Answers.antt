use Rattle.std.proofs.Common.{ap, ◌∙◌}
use Rattle.dp_lines.specs.Parts.{Left, is_done}
use Rattle.dp_lines.proofs.WordLaws.{front_done}
use Rattle.dp_lines.proofs.words.Words.is_done.Goals as goal

pub returns : goal.returns
returns c =
    let front = c.self.inside.front in
    front_done front.start front.end front.inside c.self.inside.line.now ∙ ap (λ (left : Left). is_done left.words) c.self.view_is
