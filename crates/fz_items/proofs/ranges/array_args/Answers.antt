use Rattle.std.proofs.Common.{List, [], ◌∷◌, ◌++◌, None, map, rules, ap, sym, ◌∙◌}
use Rattle.dp_grammar.specs.Chain.{mapped}
use Rattle.fz_model.specs.Words.{Bracket, Round, Square}
use Rattle.fz_items.specs.Gives.{cause_of}
use Rattle.fz_items.specs.Literals.{range_of}
use Rattle.fz_items.specs.Notes.{brackets_of, closing_all}
use Rattle.fz_items.specs.declared.brackets.Shape.{Shape}
use Rattle.fz_items.specs.declared.brackets.Shape.TheVariants as shape
use Rattle.fz_items.proofs.Exits.{gives_stop}
use Rattle.fz_items.proofs.OutputRanges.{no_list, not_ended, no_range, a_list}
use Rattle.fz_items.proofs.ranges.array_args.Goals as goal

pub returns-in_err-pass_over-clause-reads : goal.returns-in_err-pass_over-clause-reads
returns-in_err-pass_over-clause-reads c =
    gives_stop {Y = Unit {0}} _ _ _ _ _ c.in_err-pass_over.field-0.0 _ c.from_residual.ensures.1
    (λ cause e. no_list c.args.source.now.left (search rules) ∙ ap (mapped (λ u. None)) (ap (λ (bs : List Bracket). closing_all (Round ∷ bs) c.args.source.now.left) (sym (ap brackets_of c.new.ensures.items)) ∙ e)) c.in_err-pass_over.ensures.reads

pub returns-then-not-is_mark-clause-reads : goal.returns-then-not-is_mark-clause-reads
returns-then-not-is_mark-clause-reads c = no_list c.args.source.now.left (search rules) ∙ ap (mapped (λ u. None)) (ap (λ (bs : List Bracket). closing_all (Round ∷ bs) c.args.source.now.left) (sym (ap brackets_of c.new.ensures.items)) ∙ c.in_ok-pass_over.ensures.reads)

pub returns-then-is_mark-clause-reads : goal.returns-then-is_mark-clause-reads
returns-then-is_mark-clause-reads c =
    a_list c.args.source.now.left c.mark.new.self.left c.ranges_inside.new.source.left c.mark-then-is_mark.new.self.left (map range_of c.in-Ok.ranges.items) tt tt
    c.in_ok-mark.ensures.reads (search rules) c.in_ok-mark-in-Ok.ensures.reads (search rules)

pub returns-in_err-pass_over-in-Ok-clause-reads : goal.returns-in_err-pass_over-in-Ok-clause-reads
returns-in_err-pass_over-in-Ok-clause-reads c =
    gives_stop {Y = Unit {0}} _ _ _ _ _ c.in_err-pass_over-in-Ok.field-0.0 _ c.from_residual-in_err-pass_over-in-Ok.ensures.1
    (λ cause e. not_ended c.args.source.now.left c.mark.new.self.left c.ranges_inside.new.source.left (map range_of c.in-Ok.ranges.items) tt c.in_ok-mark.ensures.reads (search rules) (search rules) (search rules)
    ∙ ap (mapped (λ u. None)) (ap (λ (bs : List Bracket). closing_all (Round ∷ bs) c.ranges_inside.new.source.left) (sym (ap brackets_of c.new-in-Ok.ensures.items)) ∙ e)) c.in_err-pass_over-in-Ok.ensures.reads

pub returns-in_ok-pass_over-in-Ok-clause-reads : goal.returns-in_ok-pass_over-in-Ok-clause-reads
returns-in_ok-pass_over-in-Ok-clause-reads c =
    not_ended c.args.source.now.left c.mark.new.self.left c.ranges_inside.new.source.left (map range_of c.in-Ok.ranges.items) tt c.in_ok-mark.ensures.reads (search rules) (search rules) (search rules)
    ∙ ap (mapped (λ u. None)) (ap (λ (bs : List Bracket). closing_all (Round ∷ bs) c.ranges_inside.new.source.left) (sym (ap brackets_of c.new-in-Ok.ensures.items)) ∙ c.in_ok-pass_over-in-Ok.ensures.reads)

pub returns-in_err-pass_over-in-Err-Refused-clause-reads : goal.returns-in_err-pass_over-in-Err-Refused-clause-reads
returns-in_err-pass_over-in-Err-Refused-clause-reads c =
    gives_stop {Y = Unit {0}} _ _ _ _ _ c.in_err-pass_over-in-Err-Refused.field-0.0 _ c.from_residual-in_err-pass_over-in-Err-Refused.ensures.1
    (λ cause e. no_range c.args.source.now.left c.mark.new.self.left c.ranges_inside.new.source.left (cause_of c.in-Err-Refused.field-0-0) tt c.in_ok-mark.ensures.reads (search rules) (search rules)
    ∙ ap (mapped (λ u. None)) (ap (λ (bs : List Bracket). closing_all (Square ∷ bs) c.ranges_inside.new.source.left) (sym (ap brackets_of (c.in_ok-push-in-Err-Refused.ensures.items ∙ ap (λ (shapes : List Shape). shapes ++ shape.Round ∷ []) c.new-below.ensures.items))) ∙ e))
    c.in_err-pass_over-in-Err-Refused.ensures.reads

pub returns-in_ok-pass_over-in-Err-Refused-clause-reads : goal.returns-in_ok-pass_over-in-Err-Refused-clause-reads
returns-in_ok-pass_over-in-Err-Refused-clause-reads c =
    no_range c.args.source.now.left c.mark.new.self.left c.ranges_inside.new.source.left (cause_of c.in-Err-Refused.field-0-0) tt c.in_ok-mark.ensures.reads (search rules) (search rules)
    ∙ ap (mapped (λ u. None)) (ap (λ (bs : List Bracket). closing_all (Square ∷ bs) c.ranges_inside.new.source.left) (sym (ap brackets_of (c.in_ok-push-in-Err-Refused.ensures.items ∙ ap (λ (shapes : List Shape). shapes ++ shape.Round ∷ []) c.new-below.ensures.items))) ∙ c.in_ok-pass_over-in-Err-Refused.ensures.reads)
