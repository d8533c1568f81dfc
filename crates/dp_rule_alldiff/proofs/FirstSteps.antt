-- The lesser of numbers, one item on.
use Rattle.std.proofs.Common.{◌≡◌, ℕ, ◌+◌, ◌<◌, ◌≤◌, Bool, cond, List, [], ◌∷◌, ◌++◌, length, get_or, take, ℤ, pos, ◌+ℤ◌, ◌-ℤ◌, ◌≤ℤ◌, ◌<ℤ◌, int_le, Option, Some, None, refl, sym, ◌∙◌, ap, subst, inl, inr, arith}
use Rattle.std.specs.Prelude.{◌*◌, ◌^◌, neg_ℤ, if◌then◌else◌, IfSome}
use mir.Val.{to_z, of_z}
use mir.Syntax.{w64}
use Rattle.std.specs.List.{filter, filter_map, cons_option}
use Rattle.std.specs.Option.{option_and_then}
use Rattle.std.proofs.lemmas.Bool.{and_from, and_parts, cases_Bool, cond-false, cond-true}
use Rattle.std.proofs.lemmas.Int.{ints}
use Rattle.std.proofs.lemmas.List.{take_all, take_more}
use Rattle.std.proofs.lemmas.List.Elements.{filter_map-append}
use Rattle.dp_base.specs.Lists.{Among}
use Rattle.dp_base.proofs.Lists.{Among-append_cases, Among-append_left, Among-append_right, Among-filter_all, Among-filter_only}
use Rattle.dp_domain.specs.Sets.{IsDomain, IsSmall, greatest, least, least_from}
use Rattle.dp_domain.proofs.AtomLaws.{le-from_test, lt-from_test}
use Rattle.dp_domain.proofs.SetLaws.{IsSmall-among, greatest-among, least-among, least-bound, least-is, least_from-among, least_from-bound}
use Rattle.dp_rule_alldiff.specs.AllDifferent.{is_between}
use Rattle.dp_rule_alldiff.specs.OrderLaws.{le_itself}
use Rattle.dp_rule_alldiff.specs.Tight.{lesser, lower_in, opposite, start_over, upper_in, value_in}
use Rattle.dp_rule_alldiff.proofs.BlockLaws.{Among-filter_map_only, in_some, kept_none, least_some}

-- the least of the items so far and of the one more
least_end : (xs : List ℤ) (o : Option ℤ) → least (xs ++ cons_option o []) ≡ lesser (least xs) o
least_end xs None = ap least (append_none xs) ∙ lesser_none (least xs)
  where
    append_none : (xs : List ℤ) → xs ++ [] ≡ xs
    append_none [] = refl
    append_none (x ∷ xs) = ap (λ ys. x ∷ ys) (append_none xs)

    lesser_none : (o : Option ℤ) → o ≡ lesser o None
    lesser_none None = refl
    lesser_none (Some x) = refl
least_end [] (Some v) = refl
least_end (x ∷ xs) (Some v) = elim (cases_Bool (int_le (least_from x xs) v)) [
  | inl e ↦
      least-is ((x ∷ xs) ++ v ∷ []) (least_from x xs) (Among-append_left (least_from x xs) (x ∷ xs) (v ∷ []) (least_from-among x xs))
      (λ w here. elim (Among-append_cases w (x ∷ xs) (v ∷ []) here) [
        | inl h ↦ least_from-bound x xs w h
        | inr (inl same) ↦ subst (λ z. least_from x xs ≤ℤ z) (sym same) (le-from_test (least_from x xs) v e)
        | inr (inr none) ↦ absurd none
      ])
      ∙ sym (cond-true (int_le (least_from x xs) v) _ _ e)
  | inr e ↦
      least-is ((x ∷ xs) ++ v ∷ []) v (Among-append_right v (x ∷ xs) (v ∷ []) (inl refl))
      (λ w here. elim (Among-append_cases w (x ∷ xs) (v ∷ []) here) [
        | inl h ↦ below v (least_from x xs) w (lt-from_test (least_from x xs) v e) (least_from-bound x xs w h)
        | inr (inl same) ↦ subst (λ z. v ≤ℤ z) (sym same) (le_itself v)
        | inr (inr none) ↦ absurd none
      ])
      ∙ sym (cond-false (int_le (least_from x xs) v) _ _ e)
]
  where
    below : (v m w : ℤ) → v <ℤ m → m ≤ℤ w → v ≤ℤ w
    below v m w h k = omega (arith, ints)

-- the least so far, one item on
pub least_step : {A : Type 0} (f : A → Option ℤ) (xs : List A) (i : ℕ) (d : A) (o p q : Option ℤ) → i < length xs → o ≡ least (filter_map f (take i xs)) → q ≡ f (get_or xs i d) → p ≡ lesser o q → p ≡ least (filter_map f (take (i + 1) xs))
least_step f xs i d o p q h before now e =
    e ∙ ap (λ r. lesser r q) before ∙ ap (lesser (least (filter_map f (take i xs)))) now
    ∙ sym (
    ap (λ ys. least (filter_map f ys)) (take_more xs i d h)
    ∙ ap least (filter_map-append f (take i xs) (get_or xs i d ∷ []))
    ∙ least_end (filter_map f (take i xs)) (f (get_or xs i d))
    )

-- the least so far, at the end
pub least_all : {A : Type 0} (f : A → Option ℤ) (xs : List A) (i : ℕ) (o : Option ℤ) → length xs ≤ i → o ≡ least (filter_map f (take i xs)) → o ≡ least (filter_map f xs)
least_all f xs i o h e = e ∙ ap (λ ys. least (filter_map f ys)) (take_all i xs h)

-- the same by numbers that were read
pub over_same : (is : List (ℤ × ℤ)) (l u x y : ℤ) (o : Option ℤ) → x ≡ l → y ≡ u → o ≡ least (filter_map (start_over x y) is) → o ≡ least (filter_map (start_over l u) is)
over_same is l u x y o e f g = g ∙ ap (λ z. least (filter_map (start_over z y) is)) e ∙ ap (λ z. least (filter_map (start_over l z) is)) f

-- ---- values

small_of : (p : ℤ → Bool) (vs : List ℤ) (v : ℤ) → IsDomain vs → Among v (filter p vs) → IsSmall v
small_of p vs v domain here = IsSmall-among vs domain v (Among-filter_only p vs v here).0

pub small_least : (p : ℤ → Bool) (vs : List ℤ) (o : Option ℤ) → IsDomain vs → o ≡ least (filter p vs) → IfSome o IsSmall
small_least p vs None domain e = tt
small_least p vs (Some v) domain e = small_of p vs v domain (least-among (filter p vs) v (sym e))

pub small_greatest : (p : ℤ → Bool) (vs : List ℤ) (o : Option ℤ) → IsDomain vs → o ≡ greatest (filter p vs) → IfSome o IsSmall
small_greatest p vs None domain e = tt
small_greatest p vs (Some v) domain e = small_of p vs v domain (greatest-among (filter p vs) v (sym e))

pub small_first : (vs : List ℤ) (v : ℤ) → IsDomain vs → Some v ≡ least vs → IsSmall v
small_first vs v domain e = IsSmall-among vs domain v (least-among vs v (sym e))

pub small_last : (vs : List ℤ) (v : ℤ) → IsDomain vs → Some v ≡ greatest vs → IsSmall v
small_last vs v domain e = IsSmall-among vs domain v (greatest-among vs v (sym e))

-- the least value in an interval is the least from its first number on, where that is no more than its last
pub between_least : (a b : ℤ) (vs : List ℤ) (o : Option ℤ) → least (filter (int_le a) vs) ≡ o → option_and_then (λ v. cond (int_le v b) (Some v) None) o ≡ least (filter (is_between a b) vs)
between_least a b vs None e = sym (ap least (kept_none (is_between a b) vs (λ v here t. least_some (filter (int_le a) vs) v e (Among-filter_all (int_le a) vs v here (and_parts (int_le a v) (int_le v b) t).0))))
between_least a b vs (Some m) e = elim (cases_Bool (int_le m b)) [
  | inl within ↦
      let here = Among-filter_only (int_le a) vs m (least-among (filter (int_le a) vs) m e) in
      cond-true (int_le m b) (Some m) None within
      ∙ sym (least-is (filter (is_between a b) vs) m (Among-filter_all (is_between a b) vs m here.0 (and_from (int_le a m) (int_le m b) here.1 within))
      (λ v kept. let r = Among-filter_only (is_between a b) vs v kept in least-bound (filter (int_le a) vs) m e v (Among-filter_all (int_le a) vs v r.0 (and_parts (int_le a v) (int_le v b) r.1).0)))
  | inr beyond ↦
      cond-false (int_le m b) (Some m) None beyond
      ∙ sym (ap least (kept_none (is_between a b) vs (λ v here t.
      let r = and_parts (int_le a v) (int_le v b) t in
      out m b v (lt-from_test m b beyond) (least-bound (filter (int_le a) vs) m e v (Among-filter_all (int_le a) vs v here r.0)) (le-from_test v b r.1))))
]
  where
    out : (m b v : ℤ) → b <ℤ m → m ≤ℤ v → v ≤ℤ b → ⊥
    out m b v h k l = omega (arith, ints)

pub small_hole : (from : List (ℤ × ℤ)) (vs : List ℤ) (l : ℤ) (o : Option ℤ) → IsDomain vs → o ≡ least (filter_map (value_in vs l) from) → IfSome o IsSmall
small_hole from vs l None domain e = tt
small_hole from vs l (Some m) domain e =
    let i = Among-filter_map_only (value_in vs l) from m (least-among (filter_map (value_in vs l) from) m (sym e)) in
    small_of (is_between i.0.0 i.0.1) vs m domain (least-among (filter (is_between i.0.0 i.0.1) vs) m (in_some vs l m i.0 i.2).1)

-- ---- numbers as the code passes them

-- a number that is near enough to 0 is passed as it is
passed : (x : ℤ) → neg_ℤ (pos (2 * 10 ^ 9)) ≤ℤ x → x ≤ℤ pos (2 * 10 ^ 9) → to_z w64 (of_z w64 x) ≡ x
passed x h k = omega (arith, ints)

pub passed_small : (x : ℤ) → IsSmall x → to_z w64 (of_z w64 x) ≡ x
passed_small x small = let h = small.0 in let k = small.1 in omega (arith, ints)

opposite_near : (x : ℤ) → IsSmall x → (neg_ℤ (pos (2 * 10 ^ 9)) ≤ℤ opposite x) × (opposite x ≤ℤ pos (2 * 10 ^ 9))
opposite_near x small = let h = small.0 in let k = small.1 in (omega (arith, ints), omega (arith, ints))

pub passed_opposite : (x r : ℤ) → IsSmall x → r ≡ opposite (to_z w64 (of_z w64 x)) → to_z w64 (of_z w64 r) ≡ opposite x
passed_opposite x r small e =
    let f : r ≡ opposite x = e ∙ ap opposite (passed_small x small) in
    let near = opposite_near x small in
    ap (λ z. to_z w64 (of_z w64 z)) f ∙ passed (opposite x) near.0 near.1

between_near : (l u m : ℤ) → IsSmall l → IsSmall u → opposite u <ℤ m → m ≤ℤ opposite l → (neg_ℤ (pos (2 * 10 ^ 9)) ≤ℤ m) × (m ≤ℤ pos (2 * 10 ^ 9)) × (neg_ℤ (pos (2 * 10 ^ 9)) ≤ℤ opposite m) × (opposite m ≤ℤ pos (2 * 10 ^ 9)) × (neg_ℤ (pos (2 * 10 ^ 9)) ≤ℤ (opposite m +ℤ pos 1)) × ((opposite m +ℤ pos 1) ≤ℤ pos (2 * 10 ^ 9))
between_near l u m a b h k =
    let p = a.0 in let q = a.1 in let r = b.0 in let s = b.1 in
    (omega (arith, ints), omega (arith, ints), omega (arith, ints), omega (arith, ints), omega (arith, ints), omega (arith, ints))

-- the number after the opposite of one between opposites
pub passed_after : (l u m r y z : ℤ) → IsSmall l → IsSmall u → y ≡ opposite u → z ≡ opposite l → (y <ℤ m) × (m ≤ℤ z) → r ≡ opposite (to_z w64 (of_z w64 m)) → to_z w64 (of_z w64 (to_z w64 (of_z w64 r) +ℤ pos 1)) ≡ (opposite m +ℤ pos 1)
passed_after l u m r y z a b e f within g =
    let near = between_near l u m a b (subst (λ w. w <ℤ m) e within.0) (subst (λ w. m ≤ℤ w) f within.1) in
    ap (λ w. to_z w64 (of_z w64 (to_z w64 (of_z w64 w) +ℤ pos 1))) (g ∙ ap opposite (passed m near.0 near.1))
    ∙ ap (λ w. to_z w64 (of_z w64 (w +ℤ pos 1))) (passed (opposite m) near.2 near.3)
    ∙ passed (opposite m +ℤ pos 1) near.4 near.5

-- the number before one above the least value
pub passed_before : (l u m y z : ℤ) → IsSmall l → IsSmall u → y ≡ l → z ≡ u → (y <ℤ m) × (m ≤ℤ z) → to_z w64 (of_z w64 (to_z w64 (of_z w64 m) -ℤ pos 1)) ≡ (m -ℤ pos 1)
passed_before l u m y z a b e f within =
    let h = subst (λ w. w <ℤ m) e within.0 in
    let k = subst (λ w. m ≤ℤ w) f within.1 in
    let p = a.0 in
    let q = b.1 in
    ap (λ w. to_z w64 (of_z w64 (w -ℤ pos 1))) (passed m (omega (arith, ints)) (omega (arith, ints))) ∙ passed (m -ℤ pos 1) (omega (arith, ints)) (omega (arith, ints))

-- the value of a lower bound, as the code finds it
pub lower_found : (to : List (ℤ × ℤ)) (vs : List ℤ) (l u y z m c : ℤ) (r : Option ℤ) → y ≡ opposite u → z ≡ opposite l → Some m ≡ least (filter_map (start_over y z) to) → c ≡ (opposite m +ℤ pos 1) → r ≡ least (filter (int_le c) vs) → r ≡ lower_in to vs l u
lower_found to vs l u y z m c r f g first h k =
    k ∙ ap (λ w. least (filter (int_le w) vs)) h
    ∙ ap (λ p. option_and_then (λ n. least (filter (int_le (opposite n +ℤ pos 1)) vs)) p) (first ∙ ap (λ w. least (filter_map (start_over w z) to)) f ∙ ap (λ w. least (filter_map (start_over (opposite u) w) to)) g)

-- the value of an upper bound, as the code finds it
pub upper_found : (from : List (ℤ × ℤ)) (vs : List ℤ) (l u y z m c : ℤ) (r : Option ℤ) → y ≡ l → z ≡ u → Some m ≡ least (filter_map (start_over y z) from) → c ≡ (m -ℤ pos 1) → r ≡ greatest (filter (λ v. int_le v c) vs) → r ≡ upper_in from vs l u
upper_found from vs l u y z m c r f g first h k =
    k ∙ ap (λ w. greatest (filter (λ v. int_le v w) vs)) h
    ∙ ap (λ p. option_and_then (λ n. greatest (filter (λ v. int_le v (n -ℤ pos 1)) vs)) p) (first ∙ ap (λ w. least (filter_map (start_over w z) from)) f ∙ ap (λ w. least (filter_map (start_over l w) from)) g)

-- the least value in an interval, as the code finds it
pub between_found : (vs : List ℤ) (a b x y : ℤ) (o r : Option ℤ) → x ≡ a → y ≡ b → r ≡ option_and_then (λ v. if int_le v y then Some v else None) o → o ≡ least (filter (int_le x) vs) → r ≡ least (filter (is_between a b) vs)
between_found vs a b x y o r e f g h =
    g ∙ ap (λ p. option_and_then (λ v. cond (int_le v y) (Some v) None) p) (h ∙ ap (λ w. least (filter (int_le w) vs)) e)
    ∙ ap (λ w. option_and_then (λ v. cond (int_le v w) (Some v) None) (least (filter (int_le a) vs))) f
    ∙ between_least a b vs (least (filter (int_le a) vs)) refl
