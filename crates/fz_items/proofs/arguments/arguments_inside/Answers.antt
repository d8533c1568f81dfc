use Rattle.std.proofs.Common.{◌≡◌, ◌≤◌, List, [], ◌∷◌, ◌++◌, map, sym, subst, ap, ◌∙◌, rules}
use Rattle.dp_grammar.specs.Grammar.{Takes, Stops}
use Rattle.dp_grammar.specs.Listed.{listed}
use Rattle.fz_model.specs.Constraints.{argument}
use Rattle.fz_model.specs.Context.{Context, with_elements}
use Rattle.fz_model.specs.Limits.{max_elements}
use Rattle.fz_items.specs.Arguments.{arg_count, arg_words, args_listing}
use Rattle.fz_items.specs.Gives.{cause_of}
use Rattle.fz_items.specs.Standing.{behind}
use Rattle.fz_items.proofs.ArgumentLists.{args_listing_is, behind_more, behind_none, close_reads, item_reads}
use Rattle.fz_items.proofs.Exits.{gives_refused, gives_stop}
use Rattle.fz_items.specs.declared.argument.ArgWords.{ArgWords}
use Rattle.fz_items.proofs.Lists.{IsListed, listed_first, listed_refused_first, listed_pushed, listed_shortens, listed_refused, listed_closed, listed_unclosed}
use Rattle.fz_items.proofs.arguments.arguments_inside.Goals as goal

pub returns-in_err-first-clause-reads : goal.returns-in_err-first-clause-reads
returns-in_err-first-clause-reads c =
    let context = c.args.names.now in
    let left = c.args.source.now.left in
    let rest = c.counted_argument.new.source.left in
    gives_stop arg_words _ ((argument context c.wanted.result).read left) _ _ c.in_err-first.field-0.0 rest c.from_residual-in_err-first.ensures.1
    (λ cause e. listed_refused_first (args_listing context c.args.kind) left cause rest (sym c.is_mark.ensures ∙ c.if-is_mark.false)
    (item_reads context c.args.kind [] 0 context c.wanted.result left left (Stops cause rest) (sym (behind_none context)) (search rules) c.wanted.ensures (search rules) e))
    c.in_err-first.ensures.reads

pub items-init : goal.items-init
items-init c =
    let context = c.args.names.now in
    let listing = args_listing context c.args.kind in
    let left = c.args.source.now.left in
    let rest = c.counted_argument.new.source.left in
    let first = c.in_ok-first.first in
    let pushed : c.push.new.self.items ≡ first ∷ [] = c.in_ok-push.ensures.items ∙ ap (λ (xs : List ArgWords). xs ++ first ∷ []) c.new-args.ensures.items in
    record {
      listed = subst (λ (xs : List ArgWords). IsListed listing ((listed listing).read left) (map arg_words xs) rest) (sym pushed)
          (listed_first listing left (arg_words first) rest (sym c.is_mark.ensures ∙ c.if-is_mark.false)
          (item_reads context c.args.kind [] 0 context c.wanted.result left left (Takes (arg_words first) rest) (sym (behind_none context)) (search rules) c.wanted.ensures (search rules) c.in_ok-first.ensures.reads));
      text = search rules;
      counted = c.in_ok-first.ensures.counted ∙ ap (λ (k : Context). with_elements k (arg_count first)) (sym (behind_none context)) ∙ behind_more context [] c.push.new.self.items first pushed;
      room = subst (λ (k : Context). k.elements ≤ max_elements) (sym c.in_ok-first.ensures.counted) c.in_ok-first.ensures.room;
    }

pub returns-in_err-arg-clause-reads : goal.returns-in_err-arg-clause-reads
returns-in_err-arg-clause-reads c =
    let context = c.args.names.now in
    let listing = args_listing context c.args.kind in
    let rest = c.counted_argument-in-items.new.source.left in
    gives_stop arg_words _ ((argument c.items.names c.wanted-in-items.result).read c.advance.new.self.left) _ _ c.in_err-arg.field-0.0 rest c.from_residual-in_err-arg.ensures.1
    (λ cause e. listed_refused listing (args_listing_is context c.args.kind) ((listed listing).read c.args.source.now.left) (map arg_words c.items.args.items) c.items.source.left cause rest
    (sym c.is_mark-in-items.ensures ∙ c.items-test.true)
    (item_reads context c.args.kind c.items.args.items c.len.result c.items.names c.wanted-in-items.result c.advance.new.self.left (behind c.items.source.left) (Stops cause rest)
    c.items.invariant.counted (search rules) c.wanted-in-items.ensures c.advance.ensures.left e)
    c.items.invariant.listed)
    c.in_err-arg.ensures.reads

pub items-smaller : goal.items-smaller
items-smaller c =
    let context = c.args.names.now in
    let listing = args_listing context c.args.kind in
    let rest = c.counted_argument-in-items.new.source.left in
    listed_shortens listing (args_listing_is context c.args.kind) ((listed listing).read c.args.source.now.left) (map arg_words c.items.args.items) c.items.source.left (arg_words c.in_ok-arg.arg) rest
    (sym c.is_mark-in-items.ensures ∙ c.items-test.true)
    (item_reads context c.args.kind c.items.args.items c.len.result c.items.names c.wanted-in-items.result c.advance.new.self.left (behind c.items.source.left) (Takes (arg_words c.in_ok-arg.arg) rest)
    c.items.invariant.counted (search rules) c.wanted-in-items.ensures c.advance.ensures.left c.in_ok-arg.ensures.reads)
    c.items.invariant.listed

pub items-preserved : goal.items-preserved
items-preserved c =
    let context = c.args.names.now in
    let listing = args_listing context c.args.kind in
    let rest = c.counted_argument-in-items.new.source.left in
    let arg = c.in_ok-arg.arg in
    record {
      listed = listed_pushed listing (args_listing_is context c.args.kind) arg_words ((listed listing).read c.args.source.now.left) c.items.args.items _ c.items.source.left arg rest
          c.in_ok-push-2.ensures.items (sym c.is_mark-in-items.ensures ∙ c.items-test.true)
          (item_reads context c.args.kind c.items.args.items c.len.result c.items.names c.wanted-in-items.result c.advance.new.self.left (behind c.items.source.left) (Takes (arg_words arg) rest)
          c.items.invariant.counted (search rules) c.wanted-in-items.ensures c.advance.ensures.left c.in_ok-arg.ensures.reads)
          c.items.invariant.listed;
      text = search rules;
      counted = c.in_ok-arg.ensures.counted ∙ ap (λ (k : Context). with_elements k (arg_count arg)) c.items.invariant.counted ∙ behind_more context c.items.args.items _ arg c.in_ok-push-2.ensures.items;
      room = subst (λ (k : Context). k.elements ≤ max_elements) (sym c.in_ok-arg.ensures.counted) c.in_ok-arg.ensures.room;
    }

pub returns-in_err-mark_if-2-clause-reads : goal.returns-in_err-mark_if-2-clause-reads
returns-in_err-mark_if-2-clause-reads c =
    let context = c.args.names.now in
    let listing = args_listing context c.args.kind in
    let rest = c.mark_if-2.new.self.left in
    let cause = cause_of c.in_err-mark_if-2.field-0.0 in
    gives_refused _ _ _ c.in_err-mark_if-2.field-0.0 _ c.from_residual-in_err-mark_if-2.ensures.1
    (listed_unclosed listing (args_listing_is context c.args.kind) ((listed listing).read c.args.source.now.left) (map arg_words c.items.args.items) c.items.source.left cause rest
    (sym c.is_mark-in-items.ensures ∙ c.items-test.false)
    (close_reads context c.args.kind c.items.args.items c.as_slice-2.result.now c.items.names c.in_ok-refused-2.refused c.items.source.left (Stops cause rest)
    c.items.invariant.counted c.as_slice-2.ensures.value c.in_ok-refused-2.ensures c.in_err-mark_if-2.ensures.reads)
    c.items.invariant.listed)

pub returns-clause-reads : goal.returns-clause-reads
returns-clause-reads c =
    let context = c.args.names.now in
    let listing = args_listing context c.args.kind in
    let rest = c.mark_if-2.new.self.left in
    listed_closed listing (args_listing_is context c.args.kind) ((listed listing).read c.args.source.now.left) (map arg_words c.items.args.items) c.items.source.left tt rest
    (sym c.is_mark-in-items.ensures ∙ c.items-test.false)
    (close_reads context c.args.kind c.items.args.items c.as_slice-2.result.now c.items.names c.in_ok-refused-2.refused c.items.source.left (Takes tt rest)
    c.items.invariant.counted c.as_slice-2.ensures.value c.in_ok-refused-2.ensures c.in_ok-mark_if-2.ensures.reads)
    c.items.invariant.listed
