-- The nogood stands behind those before it, in the scaffold and in the engine.
use Rattle.std.proofs.Common.{List, [], ◌∷◌, ◌++◌, sym, ◌∙◌, ap, refl}
use Rattle.dp_desk.specs.Sight.{output}
use Rattle.dp_domain.specs.Atoms.{Atomic}
use Rattle.dp_solver.specs.Marks.{asked}
use Rattle.dp_solver.proofs.DescentSteps.{on-engine}
use Rattle.dp_solver.proofs.OnceSteps.{kept-once}
use Rattle.dp_solver.proofs.RoundSteps.{added, added-part, added-unkept, nogood-on}
use Rattle.dp_solver.proofs.WritingSteps.{on-err}
use Rattle.dp_solver.proofs.round.add.Goals as goal

pub write_nogood-requires-clause-atoms : goal.write_nogood-requires-clause-atoms
write_nogood-requires-clause-atoms g c =
    nogood-on c.args.task.now.problem.now c.args.task.now.atoms.now c.args.task.now.goal c.args.atoms.items c.atoms.result.now c.requires.1.1.1.1.learned.variables
    (c.atoms.ensures ∙ kept-once c.args.atoms.items c.as_slice.result.now c.in_ok-nogood.nogood c.requires.1.1.1.1.once c.as_slice.ensures.value c.in_ok-nogood.ensures.atoms)

pub returns-in_err-write_nogood-clause-part : goal.returns-in_err-write_nogood-clause-part
returns-in_err-write_nogood-clause-part g c =
    on-err c.from_residual-in_err-write_nogood.result _
    (added-part (asked c.args.task.now) c.args.task.now.most g.was (output c.args.out (g.D.Desk.sight c.args.desk.now)) (output c.args.out (g.D.Desk.sight c.write_nogood.new.desk)) c.args.search.now c.args.atoms.items c.atoms.result.now
    c.requires.1.1.0 c.requires.1.1.1.0 c.requires.1.1.1.1
    (c.atoms.ensures ∙ kept-once c.args.atoms.items c.as_slice.result.now c.in_ok-nogood.nogood c.requires.1.1.1.1.once c.as_slice.ensures.value c.in_ok-nogood.ensures.atoms) c.in_err-write_nogood.ensures.part)

pub add-requires-clause-variables : goal.add-requires-clause-variables
add-requires-clause-variables g c =
    on-engine (asked c.args.task.now) c.args.search.now.root c.args.search.now.engine c.args.atoms.items c.in_ok-nogood.nogood c.requires.1.1.0.on
    (kept-once c.args.atoms.items c.as_slice.result.now c.in_ok-nogood.nogood c.requires.1.1.1.1.once c.as_slice.ensures.value c.in_ok-nogood.ensures.atoms) c.requires.1.1.1.1.learned.variables

pub returns-in_err-add-clause-part : goal.returns-in_err-add-clause-part
returns-in_err-add-clause-part g c =
    on-err c.from_residual-in_err-add.result _
    (added-unkept (asked c.args.task.now) c.args.task.now.most g.was (output c.args.out (g.D.Desk.sight c.args.desk.now)) (output c.args.out (g.D.Desk.sight c.write_nogood.new.desk)) c.args.search.now c.args.atoms.items c.atoms.result.now
    c.write_nogood.new.writer c.requires.1.1.0 c.requires.1.1.1.0 c.requires.1.1.1.1
    (c.atoms.ensures ∙ kept-once c.args.atoms.items c.as_slice.result.now c.in_ok-nogood.nogood c.requires.1.1.1.1.once c.as_slice.ensures.value c.in_ok-nogood.ensures.atoms) c.in_ok-write_nogood.ensures.written)

pub returns-clause-search : goal.returns-clause-search
returns-clause-search g c =
    added (asked c.args.task.now) c.args.task.now.most g.was (output c.args.out (g.D.Desk.sight c.args.desk.now)) (output c.args.out (g.D.Desk.sight c.write_nogood.new.desk)) c.args.search.now c.add.new.self c.write_nogood.new.writer
    _ c.args.atoms.items c.atoms.result.now c.requires.1.1.0 c.requires.1.1.1.0 c.requires.1.1.1.1
    (c.atoms.ensures ∙ kept-once c.args.atoms.items c.as_slice.result.now c.in_ok-nogood.nogood c.requires.1.1.1.1.once c.as_slice.ensures.value c.in_ok-nogood.ensures.atoms) c.in_ok-write_nogood.ensures.written
    c.add.ensures.problem (c.in_ok-add.ensures.nogoods ∙ ap (λ (ms : List Atomic). c.args.search.now.engine.nogoods ++ ms ∷ []) (sym c.atoms.ensures)) c.add.ensures.states refl
