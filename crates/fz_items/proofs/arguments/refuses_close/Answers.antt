use Rattle.std.proofs.Common.{true, false, map, sym, ap, ◌∙◌}
use Rattle.fz_model.specs.Constraints.{all_equal, array_length}
use Rattle.fz_items.specs.Arguments.{arg_words}
use Rattle.fz_items.proofs.ArgumentLists.{close_by, filter_mapped, not_few}
use Rattle.fz_items.proofs.arguments.refuses_close.Goals as goal

pub returns-then-not-are_equal : goal.returns-then-not-are_equal
returns-then-not-are_equal c =
    sym (close_by c.args.names.now c.args.kind (map arg_words c.args.args.now) false true false
    (not_few c.args.args.now c.args.kind c.least_args.result c.least_args.ensures c.if-args-least_args.false)
    (sym c.pairs_arrays.ensures ∙ c.if-pairs_arrays.true)
    (ap all_equal (sym (filter_mapped (array_length c.args.names.now) arg_words c.args.args.now) ∙ sym c.in_ok-lengths.ensures ∙ sym c.as_slice.ensures.value)
    ∙ sym c.are_equal.ensures ∙ c.if-not-are_equal.true))

pub returns-else-not-are_equal : goal.returns-else-not-are_equal
returns-else-not-are_equal c =
    sym (close_by c.args.names.now c.args.kind (map arg_words c.args.args.now) false true true
    (not_few c.args.args.now c.args.kind c.least_args.result c.least_args.ensures c.if-args-least_args.false)
    (sym c.pairs_arrays.ensures ∙ c.if-pairs_arrays.true)
    (ap all_equal (sym (filter_mapped (array_length c.args.names.now) arg_words c.args.args.now) ∙ sym c.in_ok-lengths.ensures ∙ sym c.as_slice.ensures.value)
    ∙ sym c.are_equal.ensures ∙ c.if-not-are_equal.false))
