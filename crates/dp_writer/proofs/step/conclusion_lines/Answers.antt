use Rattle.std.proofs.Common.{subst, []}
use Rattle.std.specs.Option.{option_to_list}
use Rattle.dp_writer.specs.Numbering.{Defines}
use Rattle.dp_writer.specs.Written.{bound_of}
use Rattle.dp_writer.proofs.StepLemmas.{conclusion_allowed, conclusion_writes}
use Rattle.dp_writer.proofs.step.conclusion_lines.Goals as goal

pub push_line-requires : goal.push_line-requires
push_line-requires c =
    let defines : Defines (option_to_list (bound_of c.args.problem.now c.args.claim)) c.args.atoms.now.keys c.claim_of.new.atoms.keys [] c.claim_of.new.text.items =
    subst (λ b. Defines (option_to_list (bound_of c.args.problem.now c.args.claim)) c.args.atoms.now.keys c.claim_of.new.atoms.keys b c.claim_of.new.text.items)
    c.new-text.ensures.items c.in_ok-claim.ensures.defines in
    conclusion_allowed (bound_of c.args.problem.now c.args.claim) c.in_ok-claim.claim c.args.atoms.now.keys c.claim_of.new.atoms.keys c.claim_of.new.text.items
    defines c.in_ok-claim.ensures.claimed

pub returns-clause-writes : goal.returns-clause-writes
returns-clause-writes c =
    let defines : Defines (option_to_list (bound_of c.args.problem.now c.args.claim)) c.args.atoms.now.keys c.claim_of.new.atoms.keys [] c.claim_of.new.text.items =
    subst (λ b. Defines (option_to_list (bound_of c.args.problem.now c.args.claim)) c.args.atoms.now.keys c.claim_of.new.atoms.keys b c.claim_of.new.text.items)
    c.new-text.ensures.items c.in_ok-claim.ensures.defines in
    conclusion_writes (bound_of c.args.problem.now c.args.claim) c.in_ok-claim.claim c.args.atoms.now.keys c.claim_of.new.atoms.keys c.claim_of.new.text.items
    defines c.in_ok-claim.ensures.claimed 0 c.push_line.new.text.items c.in_ok-push_line.ensures
