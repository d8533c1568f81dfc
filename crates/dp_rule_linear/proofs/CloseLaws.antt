-- The values near the least or the greatest of a set, and the bound that they give.
use Rattle.std.proofs.Common.{◌≡◌, ℕ, true, false, cond, List, Option, Some, None, option_map, ℤ, pos, neg_ℤ, ◌+ℤ◌, ◌-ℤ◌, ◌*ℤ◌, ◌≤ℤ◌, ◌<ℤ◌, int_le, int_lt, int_div, sym, ◌∙◌, ap, inl, inr, arith}
use Rattle.std.specs.List.{filter}
use Rattle.std.specs.Prelude.{unwrap_or}
use Rattle.std.proofs.lemmas.Int.{ints}
use Rattle.std.proofs.lemmas.Bool.{cases_Bool, false_from_ne_true}
use Rattle.dp_base.proofs.Lists.{Among-filter_all, Among-filter_only, filter-whole, list_all-from}
use Rattle.dp_domain.specs.Explanations.{is_less}
use Rattle.dp_domain.specs.Sets.{greatest, least}
use Rattle.dp_domain.specs.States.{Domains, values}
use Rattle.dp_domain.specs.Turns.{at_least, at_most, or_else}
use Rattle.dp_domain.proofs.AtomLaws.{le-from_test, lt-from_test, test-from_le, test-from_lt}
use Rattle.dp_domain.proofs.SetLaws.{greatest-among, greatest-bound, greatest-is, least-among, least-bound, least-is}
use Rattle.dp_domain.proofs.TurnLaws.{filter-same}
use Rattle.dp_domain.specs.Supports.{bound_by, lower_by, upper_by}
use Rattle.dp_rule_linear.specs.Bounds.{fitting, near_greatest, near_least}
use Rattle.dp_rule_linear.specs.Forms.{least_product}
use Rattle.dp_rule_linear.specs.IntLaws.{least-times, least-times_back}
use Rattle.dp_rule_linear.proofs.QuotientLaws.{opposites, within-quotient}

-- ---- fitting values are those near a bound

same_sum : (s p q : ℤ) → p ≡ q → s +ℤ p ≡ s +ℤ q
same_sum s p q e = ap (λ z. s +ℤ z) e

-- a term with a positive coefficient
pub fitting-positive : (slack : ℤ) (d : Domains) (a : ℤ) (x : ℕ) (l : ℤ) → pos 0 <ℤ a → pos 0 ≤ℤ slack → least (values d x) ≡ Some l → fitting slack d (a, x) ≡ near_least (int_div slack a) (values d x)
fitting-positive slack d a x l sign h e =
    let p : least_product d (a, x) ≡ a *ℤ l = ap (λ o. unwrap_or o (pos 0)) (least-times a (values d x) l (omega (arith, ints)) e) in
    let m : unwrap_or (least (values d x)) (pos 0) ≡ l = ap (λ o. unwrap_or o (pos 0)) e in
    filter-same (λ v. int_le (a *ℤ v) (slack +ℤ least_product d (a, x))) (λ v. int_le v (unwrap_or (least (values d x)) (pos 0) +ℤ int_div slack a)) (values d x)
    (λ v here. ap (λ z. int_le (a *ℤ v) (slack +ℤ z)) p ∙ within-quotient a v l slack sign h ∙ ap (λ z. int_le v (z +ℤ int_div slack a)) (sym m))

turned : (v g q : ℤ) → int_le (neg_ℤ v) (neg_ℤ g +ℤ q) ≡ int_le (g -ℤ q) v
turned v g q = elim (cases_Bool (int_le (g -ℤ q) v)) [
  | inl e ↦ let l = le-from_test (g -ℤ q) v e in test-from_le (neg_ℤ v) (neg_ℤ g +ℤ q) (omega (arith, ints)) ∙ sym e
  | inr e ↦ let l = lt-from_test (g -ℤ q) v e in test-from_lt (neg_ℤ v) (neg_ℤ g +ℤ q) (omega (arith, ints)) ∙ sym e
]

within_back : (a v g slack : ℤ) → a <ℤ pos 0 → pos 0 ≤ℤ slack → int_le (a *ℤ v) (slack +ℤ (a *ℤ g)) ≡ int_le (g -ℤ int_div slack (neg_ℤ a)) v
within_back a v g slack sign h =
    ap (λ z. int_le z (slack +ℤ (a *ℤ g))) (sym (opposites a v)) ∙ ap (λ z. int_le (neg_ℤ a *ℤ neg_ℤ v) (slack +ℤ z)) (sym (opposites a g))
    ∙ within-quotient (neg_ℤ a) (neg_ℤ v) (neg_ℤ g) slack (omega (arith, ints)) h
    ∙ turned v g (int_div slack (neg_ℤ a))

-- a term with a negative one
pub fitting-negative : (slack : ℤ) (d : Domains) (a : ℤ) (x : ℕ) (g : ℤ) → a <ℤ pos 0 → pos 0 ≤ℤ slack → greatest (values d x) ≡ Some g → fitting slack d (a, x) ≡ near_greatest (int_div slack (neg_ℤ a)) (values d x)
fitting-negative slack d a x g sign h e =
    let p : least_product d (a, x) ≡ a *ℤ g = ap (λ o. unwrap_or o (pos 0)) (least-times_back a (values d x) g (omega (arith, ints)) e) in
    let m : unwrap_or (greatest (values d x)) (pos 0) ≡ g = ap (λ o. unwrap_or o (pos 0)) e in
    filter-same (λ v. int_le (a *ℤ v) (slack +ℤ least_product d (a, x))) (λ v. int_le (unwrap_or (greatest (values d x)) (pos 0) -ℤ int_div slack (neg_ℤ a)) v) (values d x)
    (λ v here. ap (λ z. int_le (a *ℤ v) (slack +ℤ z)) p ∙ within_back a v g slack sign h ∙ ap (λ z. int_le (z -ℤ int_div slack (neg_ℤ a)) v) (sym m))

-- ---- the bounds

less_options : (o q : Option ℤ) (v w : ℤ) → o ≡ Some v → q ≡ Some w → is_less o q ≡ int_lt v w
less_options o q v w e f = ap (λ z. is_less z q) e ∙ ap (is_less (Some v)) f

not_less : (v : ℤ) → int_lt v v ≡ false
not_less v = false_from_ne_true (int_lt v v) (λ e. over_itself v e)
  where
    over_itself : (v : ℤ) → int_lt v v ≡ true → ⊥
    over_itself v e = omega (arith, ints)

less_by : (v w : ℤ) → v <ℤ w → int_lt v w ≡ true
less_by v w h = sym (omega (arith, ints))

-- where the least value is supported, there is no lower bound
lower_none : (xs good : List ℤ) (x : ℕ) (l : ℤ) → least xs ≡ Some l → least good ≡ Some l → lower_by xs good x ≡ None
lower_none xs good x l e f = ap (λ b. cond b (option_map (at_least x) (least good)) None) (less_options (least xs) (least good) l l e f ∙ not_less l)

upper_none : (xs good : List ℤ) (x : ℕ) (g : ℤ) → greatest xs ≡ Some g → greatest good ≡ Some g → upper_by xs good x ≡ None
upper_none xs good x g e f = ap (λ b. cond b (option_map (at_most x) (greatest good)) None) (less_options (greatest good) (greatest xs) g g f e ∙ not_less g)

lower_some : (xs good : List ℤ) (x : ℕ) (l w : ℤ) → least xs ≡ Some l → least good ≡ Some w → l <ℤ w → lower_by xs good x ≡ Some (at_least x w)
lower_some xs good x l w e f h =
    ap (λ b. cond b (option_map (at_least x) (least good)) None) (less_options (least xs) (least good) l w e f ∙ less_by l w h) ∙ ap (option_map (at_least x)) f

upper_some : (xs good : List ℤ) (x : ℕ) (g w : ℤ) → greatest xs ≡ Some g → greatest good ≡ Some w → w <ℤ g → upper_by xs good x ≡ Some (at_most x w)
upper_some xs good x g w e f h =
    ap (λ b. cond b (option_map (at_most x) (greatest good)) None) (less_options (greatest good) (greatest xs) w g f e ∙ less_by w g h) ∙ ap (option_map (at_most x)) f

-- where all values are supported, there is no bound
pub bound-whole : (xs good : List ℤ) (x : ℕ) (l g : ℤ) → least xs ≡ Some l → greatest xs ≡ Some g → good ≡ xs → bound_by xs good x ≡ None
bound-whole xs good x l g e f same =
    ap (λ o. or_else o (upper_by xs good x)) (lower_none xs good x l e (ap least same ∙ e)) ∙ upper_none xs good x g f (ap greatest same ∙ f)

-- where the least value is supported, and the greatest that is lies below the greatest value
pub bound-upper : (xs good : List ℤ) (x : ℕ) (l g w : ℤ) → least xs ≡ Some l → least good ≡ Some l → greatest xs ≡ Some g → greatest good ≡ Some w → w <ℤ g → bound_by xs good x ≡ Some (at_most x w)
bound-upper xs good x l g w e f h k less =
    ap (λ o. or_else o (upper_by xs good x)) (lower_none xs good x l e f) ∙ upper_some xs good x g w h k less

-- where the least that is supported lies above the least value
pub bound-lower : (xs good : List ℤ) (x : ℕ) (l w : ℤ) → least xs ≡ Some l → least good ≡ Some w → l <ℤ w → bound_by xs good x ≡ Some (at_least x w)
bound-lower xs good x l w e f less = ap (λ o. or_else o (upper_by xs good x)) (lower_some xs good x l w e f less)

-- ---- the values at most a number, or at least

upto_least : (xs : List ℤ) (m l : ℤ) → least xs ≡ Some l → l ≤ℤ m → least (filter (λ v. int_le v m) xs) ≡ Some l
upto_least xs m l e h = least-is (filter (λ v. int_le v m) xs) l
    (Among-filter_all (λ v. int_le v m) xs l (least-among xs l e) (test-from_le l m h))
    (λ v here. least-bound xs l e v (Among-filter_only (λ v. int_le v m) xs v here).0)

from_greatest : (xs : List ℤ) (m g : ℤ) → greatest xs ≡ Some g → m ≤ℤ g → greatest (filter (λ v. int_le m v) xs) ≡ Some g
from_greatest xs m g e h = greatest-is (filter (λ v. int_le m v) xs) g
    (Among-filter_all (λ v. int_le m v) xs g (greatest-among xs g e) (test-from_le m g h))
    (λ v here. greatest-bound xs g e v (Among-filter_only (λ v. int_le m v) xs v here).0)

upto_whole : (xs : List ℤ) (m g : ℤ) → greatest xs ≡ Some g → g ≤ℤ m → filter (λ v. int_le v m) xs ≡ xs
upto_whole xs m g e h = filter-whole (λ v. int_le v m) xs (list_all-from (λ v. int_le v m) xs (λ v here. let b = greatest-bound xs g e v here in test-from_le v m (omega (arith, ints))))

from_whole : (xs : List ℤ) (m l : ℤ) → least xs ≡ Some l → m ≤ℤ l → filter (λ v. int_le m v) xs ≡ xs
from_whole xs m l e h = filter-whole (λ v. int_le m v) xs (list_all-from (λ v. int_le m v) xs (λ v here. let b = least-bound xs l e v here in test-from_le m v (omega (arith, ints))))

-- values up to a number from the greatest on
pub upto-whole : (xs : List ℤ) (x : ℕ) (m l g : ℤ) → least xs ≡ Some l → greatest xs ≡ Some g → g ≤ℤ m → bound_by xs (filter (λ v. int_le v m) xs) x ≡ None
upto-whole xs x m l g e f h = bound-whole xs (filter (λ v. int_le v m) xs) x l g e f (upto_whole xs m g f h)

-- up to a number between the bounds
pub upto-bound : (xs : List ℤ) (x : ℕ) (m l g w : ℤ) → least xs ≡ Some l → greatest xs ≡ Some g → l ≤ℤ m → m <ℤ g → greatest (filter (λ v. int_le v m) xs) ≡ Some w → bound_by xs (filter (λ v. int_le v m) xs) x ≡ Some (at_most x w)
upto-bound xs x m l g w e f h k k' =
    let below = le-from_test w m (Among-filter_only (λ v. int_le v m) xs w (greatest-among (filter (λ v. int_le v m) xs) w k')).1 in
    bound-upper xs (filter (λ v. int_le v m) xs) x l g w e (upto_least xs m l e h) f k' (omega (arith, ints))

-- values from a number up to the least on
pub from-whole : (xs : List ℤ) (x : ℕ) (m l g : ℤ) → least xs ≡ Some l → greatest xs ≡ Some g → m ≤ℤ l → bound_by xs (filter (λ v. int_le m v) xs) x ≡ None
from-whole xs x m l g e f h = bound-whole xs (filter (λ v. int_le m v) xs) x l g e f (from_whole xs m l e h)

-- from a number between the bounds
pub from-bound : (xs : List ℤ) (x : ℕ) (m l w : ℤ) → least xs ≡ Some l → l <ℤ m → least (filter (λ v. int_le m v) xs) ≡ Some w → bound_by xs (filter (λ v. int_le m v) xs) x ≡ Some (at_least x w)
from-bound xs x m l w e h k =
    let above = le-from_test m w (Among-filter_only (λ v. int_le m v) xs w (least-among (filter (λ v. int_le m v) xs) w k)).1 in
    bound-lower xs (filter (λ v. int_le m v) xs) x l w e k (omega (arith, ints))
