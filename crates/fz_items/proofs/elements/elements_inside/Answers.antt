use Rattle.std.proofs.Common.{rules, arith, map, sym, ◌∙◌}
use Rattle.std.proofs.lemmas.List.{length-map}
use Rattle.dp_grammar.specs.Listed.{listed}
use Rattle.fz_model.specs.Limits.{max_elements}
use Rattle.fz_items.specs.Gives.{cause_of}
use Rattle.fz_items.specs.Wants.{element_listing}
use Rattle.fz_items.specs.Seen.{basic_text}
use Rattle.fz_items.proofs.Exits.{gives_refused}
use Rattle.fz_items.proofs.Listings.{element_listing_is}
use Rattle.fz_items.proofs.Lists.{room_kept, listed_pushed, listed_shortens, listed_refused, listed_closed, listed_unclosed}
use Rattle.fz_items.proofs.elements.elements_inside.Goals as goal

pub returns-in_err-element-clause-reads : goal.returns-in_err-element-clause-reads
returns-in_err-element-clause-reads c =
    let listing = element_listing c.args.names.now c.args.want c.args.size in
    gives_refused _ _ _ c.in_err-element.field-0.0 _ c.from_residual-in_err-element.ensures.1
    (listed_refused listing (element_listing_is c.args.names.now c.args.want c.args.size) ((listed listing).read c.args.source.now.left) (map basic_text c.items.elements.items) c.items.source.left
    (cause_of c.in_err-element.field-0.0) c.element-in-items.new.source.left (sym c.is_mark-in-items.ensures ∙ c.items-test.true) (search (rules, length-map)) c.items.invariant.0)

pub items-preserved : goal.items-preserved
items-preserved c =
    let listing = element_listing c.args.names.now c.args.want c.args.size in (
      listed_pushed listing (element_listing_is c.args.names.now c.args.want c.args.size) basic_text ((listed listing).read c.args.source.now.left) c.items.elements.items _ c.items.source.left
          c.in_ok-element.element c.element-in-items.new.source.left c.in_ok-push-2.ensures.items (sym c.is_mark-in-items.ensures ∙ c.items-test.true) (search (rules, length-map)) c.items.invariant.0,
      search rules,
      room_kept c.args.names.now.elements max_elements c.items.elements.items _ c.in_ok-element.element c.in_ok-push-2.ensures.items (omega (arith, c.in_ok-element.ensures.room, c.len.ensures)),
    )

pub returns-in_err-mark_if-2-clause-reads : goal.returns-in_err-mark_if-2-clause-reads
returns-in_err-mark_if-2-clause-reads c =
    let listing = element_listing c.args.names.now c.args.want c.args.size in
    gives_refused _ _ _ c.in_err-mark_if-2.field-0.0 _ c.from_residual-in_err-mark_if-2.ensures.1
    (listed_unclosed listing (element_listing_is c.args.names.now c.args.want c.args.size) ((listed listing).read c.args.source.now.left) (map basic_text c.items.elements.items) c.items.source.left
    (cause_of c.in_err-mark_if-2.field-0.0) c.mark_if-2.new.self.left (sym c.is_mark-in-items.ensures ∙ c.items-test.false) (search (rules, length-map)) c.items.invariant.0)

pub returns-clause-reads : goal.returns-clause-reads
returns-clause-reads c =
    let listing = element_listing c.args.names.now c.args.want c.args.size in
    listed_closed listing (element_listing_is c.args.names.now c.args.want c.args.size) ((listed listing).read c.args.source.now.left) (map basic_text c.items.elements.items) c.items.source.left
    tt c.mark_if-2.new.self.left (sym c.is_mark-in-items.ensures ∙ c.items-test.false) (search (rules, length-map)) c.items.invariant.0

pub items-smaller : goal.items-smaller
items-smaller c =
    let listing = element_listing c.args.names.now c.args.want c.args.size in
    listed_shortens listing (element_listing_is c.args.names.now c.args.want c.args.size) ((listed listing).read c.args.source.now.left) (map basic_text c.items.elements.items) c.items.source.left
    (basic_text c.in_ok-element.element) c.element-in-items.new.source.left (sym c.is_mark-in-items.ensures ∙ c.items-test.true) (search (rules, length-map)) c.items.invariant.0
