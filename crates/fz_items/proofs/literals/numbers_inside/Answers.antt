use Rattle.std.proofs.Common.{rules, arith, map, sym, ◌∙◌}
use Rattle.std.proofs.lemmas.List.{length-map}
use Rattle.dp_grammar.specs.Listed.{listed}
use Rattle.fz_model.specs.Limits.{max_elements}
use Rattle.fz_items.specs.Gives.{cause_of}
use Rattle.fz_items.specs.Literals.{number_listing}
use Rattle.fz_items.specs.Seen.{number_of}
use Rattle.fz_items.proofs.Exits.{gives_refused}
use Rattle.fz_items.proofs.Listings.{number_listing_is}
use Rattle.fz_items.proofs.Lists.{room_kept, listed_pushed, listed_refused, listed_closed, listed_unclosed}
use Rattle.fz_items.proofs.literals.numbers_inside.Goals as goal

pub returns-in_err-number-clause-reads : goal.returns-in_err-number-clause-reads
returns-in_err-number-clause-reads c =
    let listing = number_listing c.args.names.now c.args.bound in
    gives_refused _ _ _ c.in_err-number.field-0.0 _ c.from_residual-in_err-number.ensures.1
    (listed_refused listing (number_listing_is c.args.names.now c.args.bound) ((listed listing).read c.args.source.now.left) (map number_of c.items.numbers.items) c.items.source.left
    (cause_of c.in_err-number.field-0.0) c.listed_number-in-items.new.source.left (sym c.is_mark-in-items.ensures ∙ c.items-test.true) (search (rules, length-map)) c.items.invariant.0)

pub items-preserved : goal.items-preserved
items-preserved c =
    let listing = number_listing c.args.names.now c.args.bound in (
      listed_pushed listing (number_listing_is c.args.names.now c.args.bound) number_of ((listed listing).read c.args.source.now.left) c.items.numbers.items _ c.items.source.left
          c.in_ok-number.number c.listed_number-in-items.new.source.left c.in_ok-push-2.ensures.items (sym c.is_mark-in-items.ensures ∙ c.items-test.true) (search (rules, length-map)) c.items.invariant.0,
      search rules,
      room_kept c.args.names.now.elements max_elements c.items.numbers.items _ c.in_ok-number.number c.in_ok-push-2.ensures.items (omega (arith, c.in_ok-number.ensures.room, c.len.ensures)),
    )

pub returns-in_err-mark-2-clause-reads : goal.returns-in_err-mark-2-clause-reads
returns-in_err-mark-2-clause-reads c =
    let listing = number_listing c.args.names.now c.args.bound in
    gives_refused _ _ _ c.in_err-mark-2.field-0.0 _ c.from_residual-in_err-mark-2.ensures.1
    (listed_unclosed listing (number_listing_is c.args.names.now c.args.bound) ((listed listing).read c.args.source.now.left) (map number_of c.items.numbers.items) c.items.source.left
    (cause_of c.in_err-mark-2.field-0.0) c.mark-2.new.self.left (sym c.is_mark-in-items.ensures ∙ c.items-test.false) c.in_err-mark-2.ensures.reads c.items.invariant.0)

pub returns-clause-reads : goal.returns-clause-reads
returns-clause-reads c =
    let listing = number_listing c.args.names.now c.args.bound in
    listed_closed listing (number_listing_is c.args.names.now c.args.bound) ((listed listing).read c.args.source.now.left) (map number_of c.items.numbers.items) c.items.source.left
    tt c.mark-2.new.self.left (sym c.is_mark-in-items.ensures ∙ c.items-test.false) c.in_ok-mark-2.ensures.reads c.items.invariant.0
