use Rattle.std.proofs.Common.{rules, [], ◌∷◌, map, sym, ap, ◌∙◌}
use Rattle.dp_grammar.specs.Listed.{listed}
use Rattle.fz_model.specs.Words.{Round, Square}
use Rattle.fz_items.specs.Gives.{cause_of}
use Rattle.fz_items.specs.Literals.{range_of}
use Rattle.fz_items.specs.Notes.{closing_all, range_listing}
use Rattle.fz_items.proofs.Exits.{gives_refused, refused_by}
use Rattle.fz_items.proofs.Listings.{range_listing_is}
use Rattle.fz_items.proofs.Lists.{listed_pushed, listed_refused, listed_closed, listed_unclosed}
use Rattle.fz_items.proofs.OutputRanges.{comma_kept, square_closed}
use Rattle.fz_items.proofs.ranges.ranges_inside.Goals as goal

pub returns-then-is_mark-clause-closed : goal.returns-then-is_mark-clause-closed
returns-then-is_mark-clause-closed c = square_closed (Round ∷ []) c.args.source.now.left c.mark.new.self.left tt c.in_ok-mark.ensures.reads

pub returns-in_err-range-clause-reads : goal.returns-in_err-range-clause-reads
returns-in_err-range-clause-reads c =
    gives_refused _ _ _ c.in_err-range.field-0.0 _ c.from_residual-in_err-range.ensures.1
    (listed_refused range_listing range_listing_is ((listed range_listing).read c.args.source.now.left) (map range_of c.items.ranges.items) c.items.source.left
    (cause_of c.in_err-range.field-0.0) c.plain_range-in-items.new.source.left (sym c.is_mark-in-items.ensures ∙ c.items-test.true) (search rules) c.items.invariant.0)

pub returns-in_err-range-clause-plain : goal.returns-in_err-range-clause-plain
returns-in_err-range-clause-plain c =
    refused_by _ c.in_err-range.field-0.0 _ c.from_residual-in_err-range.ensures.1
    (c.items.invariant.2 ∙ comma_kept Square (Round ∷ []) c.items.source.left (sym c.is_mark-in-items.ensures ∙ c.items-test.true) ∙ ap (closing_all (Square ∷ Round ∷ [])) (sym c.advance.ensures.left) ∙ c.plain_range-in-items.ensures.plain)

pub items-preserved : goal.items-preserved
items-preserved c = (
  listed_pushed range_listing range_listing_is range_of ((listed range_listing).read c.args.source.now.left) c.items.ranges.items _ c.items.source.left
      c.in_ok-range.range c.plain_range-in-items.new.source.left c.in_ok-push-2.ensures.items (sym c.is_mark-in-items.ensures ∙ c.items-test.true) (search rules) c.items.invariant.0,
  search rules,
  c.items.invariant.2 ∙ comma_kept Square (Round ∷ []) c.items.source.left (sym c.is_mark-in-items.ensures ∙ c.items-test.true) ∙ ap (closing_all (Square ∷ Round ∷ [])) (sym c.advance.ensures.left) ∙ c.plain_range-in-items.ensures.plain,
)

pub returns-in_err-mark-2-clause-reads : goal.returns-in_err-mark-2-clause-reads
returns-in_err-mark-2-clause-reads c =
    gives_refused _ _ _ c.in_err-mark-2.field-0.0 _ c.from_residual-in_err-mark-2.ensures.1
    (listed_unclosed range_listing range_listing_is ((listed range_listing).read c.args.source.now.left) (map range_of c.items.ranges.items) c.items.source.left
    (cause_of c.in_err-mark-2.field-0.0) c.mark-2.new.self.left (sym c.is_mark-in-items.ensures ∙ c.items-test.false) c.in_err-mark-2.ensures.reads c.items.invariant.0)

pub returns-clause-reads : goal.returns-clause-reads
returns-clause-reads c =
    listed_closed range_listing range_listing_is ((listed range_listing).read c.args.source.now.left) (map range_of c.items.ranges.items) c.items.source.left
    tt c.mark-2.new.self.left (sym c.is_mark-in-items.ensures ∙ c.items-test.false) c.in_ok-mark-2.ensures.reads c.items.invariant.0

pub returns-clause-closed : goal.returns-clause-closed
returns-clause-closed c = c.items.invariant.2 ∙ square_closed (Round ∷ []) c.items.source.left c.mark-2.new.self.left tt c.in_ok-mark-2.ensures.reads
