-- What follows on the variable of a condition that has to fail.
use Rattle.std.proofs.Common.{◌≡◌, true, false, List, [], ◌∷◌, None, ℤ, refl, sym, ◌∙◌, ap}
use Rattle.std.specs.List.{filter, list_all}
use Rattle.dp_base.proofs.Lists.{Each-among, filter-whole, list_all-fails, list_all-from}
use Rattle.dp_domain.specs.Atoms.{Atomic, meets, negated}
use Rattle.dp_domain.specs.Sets.{greatest_from, least_from}
use Rattle.dp_domain.specs.Supports.{bound_by}
use Rattle.dp_domain.proofs.AtomLaws.{meets-from_not}
use Rattle.dp_rule_linear.specs.Differs.{is_single}
use Rattle.dp_rule_linear.specs.DiffersLaws.{first, only_first}
use Rattle.dp_rule_linear.proofs.CloseLaws.{bound-whole}

-- one value that does not meet the atom meets the negation
pub single_negated : (xs : List ℤ) (a : Atomic) → is_single xs ≡ true → list_all (meets a) xs ≡ false → list_all (meets (negated a)) xs ≡ true
single_negated xs a single none =
    let f = list_all-fails (meets a) xs none in
    let only = only_first xs single in
    list_all-from (meets (negated a)) xs (λ w here.
    meets-from_not a w (ap (meets a) (Each-among (λ w. w ≡ first xs) xs only.1 w here ∙ sym (Each-among (λ w. w ≡ first xs) xs only.1 f.0 f.1)) ∙ f.2))

pub single_fails : (xs : List ℤ) (a : Atomic) → is_single xs ≡ true → list_all (meets a) xs ≡ false → filter (meets (negated a)) xs ≡ xs
single_fails xs a single none = filter-whole (meets (negated a)) xs (single_negated xs a single none)

-- it gets no bound
pub single_bound : (xs : List ℤ) (a : Atomic) → true ≡ is_single xs → list_all (meets a) xs ≡ false → None ≡ bound_by xs (filter (meets (negated a)) xs) a.var
single_bound [] a single none = refl
single_bound (x ∷ xs) a single none = sym (bound-whole (x ∷ xs) (filter (meets (negated a)) (x ∷ xs)) a.var (least_from x xs) (greatest_from x xs) refl refl (single_fails (x ∷ xs) a (sym single) none))
