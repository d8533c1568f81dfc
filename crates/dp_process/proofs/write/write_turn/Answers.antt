use Rattle.std.proofs.Common.{sym, subst}
use Rattle.std.specs.Prelude.{OnOk}
use Rattle.dp_engine.specs.declared.part_id.PartId.{PartId}
use Rattle.dp_process.specs.Processed.{written_of}
use Rattle.dp_process.specs.Writing.{AddsAll}
use Rattle.dp_process.proofs.write.write_turn.Goals as goal

pub returns-in-Model-clause-written : goal.returns-in-Model-clause-written
returns-in-Model-clause-written c =
    subst (λ (id : PartId). OnOk c.write_inference.result (AddsAll c.args.writer.now (written_of c.args.problem.now id c.args.turn.now.premises c.args.turn.now.consequent) c.write_inference.new.writer))
    (sym c.in-Model.is) c.write_inference.ensures.written
