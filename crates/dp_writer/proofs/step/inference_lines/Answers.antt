use Rattle.std.proofs.Common.{◌≡◌, ap, ◌∙◌, map, subst, [], rules}
use Rattle.std.specs.Option.{option_map}
use Rattle.dp_lines.specs.Allowed.{is_label}
use Rattle.dp_lines.specs.Spelling.{line_text}
use Rattle.dp_lines.specs.declared.line.Line.TheVariants.{Inference as inference_line}
use Rattle.std.proofs.Common.{Some, ◌++◌}
use Rattle.dp_writer.specs.Numbering.{Defines}
use Rattle.dp_writer.specs.Written.{named}
use Rattle.dp_writer.proofs.StepLemmas.{inference_allowed, inference_writes}
use Rattle.dp_writer.proofs.step.inference_lines.Goals as goal

pub push_line-requires : goal.push_line-requires
push_line-requires c =
    let front : Defines (map (named c.args.problem.now) c.args.premises.now) c.args.atoms.now.keys c.literals.new.atoms.keys [] c.literals.new.text.items =
    subst (λ b. Defines (map (named c.args.problem.now) c.args.premises.now) c.args.atoms.now.keys c.literals.new.atoms.keys b c.literals.new.text.items)
    c.new-text.ensures.items c.in_ok-premises.ensures.defines in
    let label : c.new-label.result ≡ c.args.label.now = search rules in
    inference_allowed c.args.number (map (named c.args.problem.now) c.args.premises.now) (option_map (named c.args.problem.now) c.args.consequent) c.args.constraint c.new-label.result
    c.args.atoms.now.keys c.literals.new.atoms.keys c.consequent_literal.new.atoms.keys c.literals.new.text.items c.consequent_literal.new.text.items
    c.new.result c.in_ok-consequent.consequent front c.in_ok-consequent.ensures.defines
    (c.new.ensures ∙ c.in_ok-premises.ensures.literals) c.in_ok-consequent.ensures.literal c.requires.number c.requires.constraint (ap is_label label ∙ c.requires.label)

pub returns-clause-writes : goal.returns-clause-writes
returns-clause-writes c =
    let front : Defines (map (named c.args.problem.now) c.args.premises.now) c.args.atoms.now.keys c.literals.new.atoms.keys [] c.literals.new.text.items =
    subst (λ b. Defines (map (named c.args.problem.now) c.args.premises.now) c.args.atoms.now.keys c.literals.new.atoms.keys b c.literals.new.text.items)
    c.new-text.ensures.items c.in_ok-premises.ensures.defines in
    let label : c.new-label.result ≡ c.args.label.now = search rules in
    inference_writes c.args.number (map (named c.args.problem.now) c.args.premises.now) (option_map (named c.args.problem.now) c.args.consequent) c.args.constraint c.args.label.now
    c.args.atoms.now.keys c.literals.new.atoms.keys c.consequent_literal.new.atoms.keys c.literals.new.text.items c.consequent_literal.new.text.items
    c.new.result c.in_ok-consequent.consequent front c.in_ok-consequent.ensures.defines
    (c.new.ensures ∙ c.in_ok-premises.ensures.literals) c.in_ok-consequent.ensures.literal
    c.push_line.new.text.items
    (c.in_ok-push_line.ensures ∙ ap (λ l. c.consequent_literal.new.text.items ++ line_text (inference_line c.args.number c.new.result c.in_ok-consequent.consequent (Some c.args.constraint) (Some l))) label)
    c.requires.number c.requires.constraint c.requires.label
