use Rattle.std.proofs.Common.{◌≡◌, ap, ◌∙◌, ◌++◌, map, subst, sym, [], rules}
use Rattle.dp_base.specs.Lists.{Each}
use Rattle.dp_lines.specs.Allowed.{IsNumber}
use Rattle.dp_lines.specs.Spelling.{line_text}
use Rattle.dp_lines.specs.declared.line.Line.TheVariants.{Nogood as nogood_line}
use Rattle.dp_writer.specs.Numbering.{Defines}
use Rattle.dp_writer.specs.Written.{named}
use Rattle.dp_writer.proofs.StepLemmas.{nogood_allowed, nogood_writes}
use Rattle.dp_writer.proofs.step.nogood_lines.Goals as goal

pub push_line-requires : goal.push_line-requires
push_line-requires c =
    let defines : Defines (map (named c.args.problem.now) c.args.denied.now) c.args.atoms.now.keys c.literals.new.atoms.keys [] c.literals.new.text.items =
    subst (λ b. Defines (map (named c.args.problem.now) c.args.denied.now) c.args.atoms.now.keys c.literals.new.atoms.keys b c.literals.new.text.items)
    c.new-text.ensures.items c.in_ok-denied.ensures.defines in
    let hints : c.new-2.result ≡ c.args.hints.now = search rules in
    nogood_allowed c.args.number (map (named c.args.problem.now) c.args.denied.now) c.new-2.result c.args.atoms.now.keys c.literals.new.atoms.keys c.literals.new.text.items
    c.new.result defines (c.new.ensures ∙ c.in_ok-denied.ensures.literals) c.requires.number (subst (Each IsNumber) (sym hints) c.requires.hints)

pub returns-clause-writes : goal.returns-clause-writes
returns-clause-writes c =
    let defines : Defines (map (named c.args.problem.now) c.args.denied.now) c.args.atoms.now.keys c.literals.new.atoms.keys [] c.literals.new.text.items =
    subst (λ b. Defines (map (named c.args.problem.now) c.args.denied.now) c.args.atoms.now.keys c.literals.new.atoms.keys b c.literals.new.text.items)
    c.new-text.ensures.items c.in_ok-denied.ensures.defines in
    let hints : c.new-2.result ≡ c.args.hints.now = search rules in
    nogood_writes c.args.number (map (named c.args.problem.now) c.args.denied.now) c.args.hints.now c.args.atoms.now.keys c.literals.new.atoms.keys c.literals.new.text.items
    c.new.result defines (c.new.ensures ∙ c.in_ok-denied.ensures.literals) c.push_line.new.text.items
    (c.in_ok-push_line.ensures ∙ ap (λ h. c.literals.new.text.items ++ line_text (nogood_line c.args.number c.new.result h)) hints)
    c.requires.number c.requires.hints
