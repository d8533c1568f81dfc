-- How the bounds of terms are found.
use Rattle.std.proofs.Common.{◌≡◌, ℕ, ◌+◌, ◌^◌, ◌<◌, ◌↔◌, true, false, List, [], ◌∷◌, length, drop, get_or, Option, Some, None, IsSome, IfSome, is_some, FitsSigned, ℤ, pos, negsuc, neg_ℤ, ◌+ℤ◌, ◌-ℤ◌, ◌*ℤ◌, ◌≤ℤ◌, ◌<ℤ◌, int_le, int_div, refl, sym, ◌∙◌, ap, subst, inl, arith}
use Rattle.std.specs.List.{filter}
use Rattle.std.specs.Prelude.{unwrap_or}
use mir.Syntax.{w64, w128}
use mir.Val.{of_z, to_z}
use Rattle.std.proofs.lemmas.Int.{ints, to_z-of_z}
use Rattle.std.proofs.lemmas.Bool.{false≢true, true≢false}
use Rattle.std.proofs.Math.Nat.{div-le_self}
use Rattle.dp_base.specs.Lists.{Among}
use Rattle.dp_base.proofs.Lists.{Among-filter_all, Among-filter_only}
use Rattle.dp_domain.specs.Atoms.{Atomic, IsNameable}
use Rattle.dp_domain.specs.declared.atom.Op.TheVariants.{Ge, Le}
use Rattle.dp_domain.specs.Sets.{IsDomain, IsSmall, greatest, least}
use Rattle.dp_domain.specs.States.{Domains, values}
use Rattle.dp_domain.specs.Supports.{bound_by}
use Rattle.dp_domain.specs.Turns.{at_least, at_most, or_else}
use Rattle.dp_domain.proofs.AtomLaws.{test-from_le}
use Rattle.dp_domain.proofs.SetLaws.{IsSmall-among, greatest-among, least-among}
use Rattle.dp_rule_linear.specs.Bounds.{first_bound, fitting, near_greatest, near_least}
use Rattle.dp_rule_linear.specs.Forms.{IsBounded, least_product}
use Rattle.dp_rule_linear.proofs.CloseLaws.{fitting-negative, fitting-positive, from-bound, from-whole, upto-bound, upto-whole}
use Rattle.dp_rule_linear.proofs.SumSteps.{left_at}

-- ---- atoms that are made

-- an atom that can be named is made
pub made : (r : Option Atomic) (a : Atomic) → IsSome r → IfSome r (λ b. b ≡ a) → r ≡ Some a
made None a there is = absurd (false≢true there)
made (Some b) a there is = ap Some is

small_read : (v : ℤ) → IsSmall v → to_z w64 (of_z w64 v) ≡ v
small_read v small = omega (arith, ints, small.0, small.1)

nameable-le : (v : ℤ) → IsSmall v → IsNameable Le v
nameable-le v small = (omega (arith, ints, small.0, small.1), omega (arith, ints, small.0, small.1))

nameable-ge : (v : ℤ) → IsSmall v → IsNameable Ge v
nameable-ge v small = (omega (arith, ints, small.0, small.1), omega (arith, ints, small.0, small.1))

made_le : (r : Option Atomic) (x : ℕ) (w v : ℤ) → IsSmall w → v ≡ to_z w64 (of_z w64 w) → (IsSome r ↔ IsNameable Le v) → IfSome r (λ a. a ≡ at_most x v) → r ≡ Some (at_most x w)
made_le r x w v small e named is =
    let s : v ≡ w = e ∙ small_read w small in
    made r (at_most x v) (named.1 (subst (IsNameable Le) (sym s) (nameable-le w small))) is ∙ ap (λ u. Some (at_most x u)) s

made_ge : (r : Option Atomic) (x : ℕ) (w v : ℤ) → IsSmall w → v ≡ to_z w64 (of_z w64 w) → (IsSome r ↔ IsNameable Ge v) → IfSome r (λ a. a ≡ at_least x v) → r ≡ Some (at_least x w)
made_ge r x w v small e named is =
    let s : v ≡ w = e ∙ small_read w small in
    made r (at_least x v) (named.1 (subst (IsNameable Ge) (sym s) (nameable-ge w small))) is ∙ ap (λ u. Some (at_least x u)) s

-- ---- bounds of one variable

no_greatest : (xs : List ℤ) (v : ℤ) → None ≡ greatest xs → Among v xs → ⊥
no_greatest [] v e h = h
no_greatest (x ∷ xs) v e h = cc

no_least : (xs : List ℤ) (v : ℤ) → None ≡ least xs → Among v xs → ⊥
no_least [] v e h = h
no_least (x ∷ xs) v e h = cc

near_above : (xs ys : List ℤ) (room l k : ℤ) → Some l ≡ least xs → ys ≡ xs → k ≡ l +ℤ room → filter (λ u. int_le u k) ys ≡ near_least room xs
near_above xs ys room l k e same is =
    ap (λ zs. filter (λ u. int_le u k) zs) same ∙ ap (λ z. filter (λ u. int_le u z) xs) (is ∙ ap (λ o. unwrap_or o (pos 0) +ℤ room) e)

near_below : (xs ys : List ℤ) (room g k : ℤ) → Some g ≡ greatest xs → ys ≡ xs → k ≡ g -ℤ room → filter (λ u. int_le k u) ys ≡ near_greatest room xs
near_below xs ys room g k e same is =
    ap (λ zs. filter (λ u. int_le k u) zs) same ∙ ap (λ z. filter (λ u. int_le z u) xs) (is ∙ ap (λ o. unwrap_or o (pos 0) -ℤ room) e)

-- room for all values
pub above-whole : (xs : List ℤ) (x : ℕ) (room l g : ℤ) → Some l ≡ least xs → Some g ≡ greatest xs → g ≤ℤ (l +ℤ room) → None ≡ bound_by xs (near_least room xs) x
above-whole xs x room l g e f h =
    sym (upto-whole xs x (unwrap_or (least xs) (pos 0) +ℤ room) l g (sym e) (sym f) (subst (λ o. g ≤ℤ (unwrap_or o (pos 0) +ℤ room)) e h))

pub below-whole : (xs : List ℤ) (x : ℕ) (room l g : ℤ) → Some l ≡ least xs → Some g ≡ greatest xs → (g -ℤ room) ≤ℤ l → None ≡ bound_by xs (near_greatest room xs) x
below-whole xs x room l g e f h =
    sym (from-whole xs x (unwrap_or (greatest xs) (pos 0) -ℤ room) l g (sym e) (sym f) (subst (λ o. (unwrap_or o (pos 0) -ℤ room) ≤ℤ l) f h))

-- there is room for the least value
pub above-some : (xs ys : List ℤ) (l k : ℤ) → Some l ≡ least xs → ys ≡ xs → l ≤ℤ k → None ≡ greatest (filter (λ u. int_le u k) ys) → ⊥
above-some xs ys l k e same h none =
    no_greatest (filter (λ u. int_le u k) xs) l (none ∙ ap (λ zs. greatest (filter (λ u. int_le u k) zs)) same) (Among-filter_all (λ u. int_le u k) xs l (least-among xs l (sym e)) (test-from_le l k h))

pub below-some : (xs ys : List ℤ) (g k : ℤ) → Some g ≡ greatest xs → ys ≡ xs → k ≤ℤ g → None ≡ least (filter (λ u. int_le k u) ys) → ⊥
below-some xs ys g k e same h none =
    no_least (filter (λ u. int_le k u) xs) g (none ∙ ap (λ zs. least (filter (λ u. int_le k u) zs)) same) (Among-filter_all (λ u. int_le k u) xs g (greatest-among xs g (sym e)) (test-from_le k g h))

-- the greatest value that there is room for is the bound
pub above-found : (xs ys : List ℤ) (x : ℕ) (room l g k w v : ℤ) (r : Option Atomic) → IsDomain xs → Some l ≡ least xs → Some g ≡ greatest xs → ys ≡ xs → k ≡ l +ℤ room → pos 0 ≤ℤ room → (l +ℤ room) <ℤ g
    → Some w ≡ greatest (filter (λ u. int_le u k) ys) → v ≡ to_z w64 (of_z w64 w) → (IsSome r ↔ IsNameable Le v) → IfSome r (λ a. a ≡ at_most x v) → r ≡ bound_by xs (near_least room xs) x
above-found xs ys x room l g k w v r domain e f same is room_is less found read named made_is =
    let m = unwrap_or (least xs) (pos 0) +ℤ room in
    let em : m ≡ l +ℤ room = ap (λ o. unwrap_or o (pos 0) +ℤ room) (sym e) in
    let top : greatest (filter (λ u. int_le u m) xs) ≡ Some w = sym (found ∙ ap greatest (near_above xs ys room l k e same is)) in
    let small : IsSmall w = IsSmall-among xs domain w (Among-filter_only (λ u. int_le u m) xs w (greatest-among (filter (λ u. int_le u m) xs) w top)).0 in
    made_le r x w v small read named made_is
    ∙ sym (upto-bound xs x m l g w (sym e) (sym f) (omega (arith, ints)) (omega (arith, ints)) top)

-- the least value that there is room for is the bound
pub below-found : (xs ys : List ℤ) (x : ℕ) (room l g k w v : ℤ) (r : Option Atomic) → IsDomain xs → Some l ≡ least xs → Some g ≡ greatest xs → ys ≡ xs → k ≡ g -ℤ room → l <ℤ (g -ℤ room)
    → Some w ≡ least (filter (λ u. int_le k u) ys) → v ≡ to_z w64 (of_z w64 w) → (IsSome r ↔ IsNameable Ge v) → IfSome r (λ a. a ≡ at_least x v) → r ≡ bound_by xs (near_greatest room xs) x
below-found xs ys x room l g k w v r domain e f same is less found read named made_is =
    let m = unwrap_or (greatest xs) (pos 0) -ℤ room in
    let em : m ≡ g -ℤ room = ap (λ o. unwrap_or o (pos 0) -ℤ room) (sym f) in
    let bottom : least (filter (λ u. int_le m u) xs) ≡ Some w = sym (found ∙ ap least (near_below xs ys room g k f same is)) in
    let small : IsSmall w = IsSmall-among xs domain w (Among-filter_only (λ u. int_le m u) xs w (least-among (filter (λ u. int_le m u) xs) w bottom)).0 in
    made_ge r x w v small read named made_is
    ∙ sym (from-bound xs x m l w (sym e) (omega (arith, ints)) bottom)

nothing_above : (xs : List ℤ) (x : ℕ) (room : ℤ) → None ≡ least xs → None ≡ bound_by xs (near_least room xs) x
nothing_above [] x room e = refl
nothing_above (y ∷ ys) x room e = absurd (no_least (y ∷ ys) y e (inl refl))

nothing_below : (xs : List ℤ) (x : ℕ) (room : ℤ) → None ≡ least xs → None ≡ bound_by xs (near_greatest room xs) x
nothing_below [] x room e = refl
nothing_below (y ∷ ys) x room e = absurd (no_least (y ∷ ys) y e (inl refl))

-- ---- rooms

-- a quotient is not negative, and no greater than the number
pub quotient_within : (s b : ℤ) → pos 0 ≤ℤ s → pos 0 <ℤ b → (pos 0 ≤ℤ int_div s b) × (int_div s b ≤ℤ s)
quotient_within (pos s) (pos b) h k = let m = div-le_self s b in (omega (arith, ints), omega (arith, ints))
quotient_within (pos s) (negsuc b) h k = absurd (omega (arith, ints))
quotient_within (negsuc s) b h k = absurd (omega (arith, ints))

-- the quotient as the code reads it
pub quotient_read : (s b s' b' : ℤ) → s' ≡ s → b' ≡ b → pos 0 ≤ℤ s → IsBounded (10 ^ 37) s → pos 0 <ℤ b → to_z w128 (of_z w128 (int_div s' b')) ≡ int_div s b
quotient_read s b s' b' e f h bounded k =
    let w = quotient_within s b h k in
    let fits : FitsSigned w128 (int_div s b) = fits_between (int_div s b) s w.0 w.1 bounded.1 in
    ap (λ z. to_z w128 (of_z w128 (int_div z b'))) e ∙ ap (λ z. to_z w128 (of_z w128 (int_div s z))) f ∙ to_z-of_z w128 (int_div s b) fits
  where
    fits_between : (q s : ℤ) → pos 0 ≤ℤ q → q ≤ℤ s → s ≤ℤ pos (10 ^ 37) → FitsSigned w128 q
    fits_between q s h k l = omega (arith, ints)

pub quotient_bounded : (s b s' b' : ℤ) → s' ≡ s → b' ≡ b → pos 0 ≤ℤ s → IsBounded (10 ^ 37) s → pos 0 <ℤ b → IsBounded (10 ^ 37) (to_z w128 (of_z w128 (int_div s' b')))
quotient_bounded s b s' b' e f h bounded k =
    subst (IsBounded (10 ^ 37)) (sym (quotient_read s b s' b' e f h bounded k)) (let w = quotient_within s b h k in stays (int_div s b) s w.0 w.1 bounded.1)
  where
    stays : (q s : ℤ) → pos 0 ≤ℤ q → q ≤ℤ s → s ≤ℤ pos (10 ^ 37) → IsBounded (10 ^ 37) q
    stays q s h k l = (omega (arith, ints), omega (arith, ints))

-- a positive coefficient leaves room above the least value
pub term-above : (s a q : ℤ) (d : Domains) (x : ℕ) (o : Option ℤ) (r : Option Atomic) → pos 0 <ℤ a → pos 0 ≤ℤ s → q ≡ int_div s a → least (values d x) ≡ o → r ≡ bound_by (values d x) (near_least q (values d x)) x → r ≡ bound_by (values d x) (fitting s d (a, x)) x
term-above s a q d x (Some l) r sign h is e found =
    found ∙ ap (λ z. bound_by (values d x) (near_least z (values d x)) x) is ∙ ap (λ ys. bound_by (values d x) ys x) (sym (fitting-positive s d a x l sign h e))
term-above s a q d x None r sign h is e found = found ∙ sym (nothing_above (values d x) x q (sym e)) ∙ nothing_fits (values d x) (sym e)
  where
    nothing_fits : (xs : List ℤ) → None ≡ least xs → None ≡ bound_by xs (filter (λ v. int_le (a *ℤ v) (s +ℤ least_product d (a, x))) xs) x
    nothing_fits [] e = refl
    nothing_fits (y ∷ ys) e = absurd (no_least (y ∷ ys) y e (inl refl))

-- a negative one leaves room below the greatest
pub term-below : (s a q : ℤ) (d : Domains) (x : ℕ) (o : Option ℤ) (r : Option Atomic) → a <ℤ pos 0 → pos 0 ≤ℤ s → q ≡ int_div s (neg_ℤ a) → greatest (values d x) ≡ o → r ≡ bound_by (values d x) (near_greatest q (values d x)) x → r ≡ bound_by (values d x) (fitting s d (a, x)) x
term-below s a q d x (Some g) r sign h is e found =
    found ∙ ap (λ z. bound_by (values d x) (near_greatest z (values d x)) x) is ∙ ap (λ ys. bound_by (values d x) ys x) (sym (fitting-negative s d a x g sign h e))
term-below s a q d x None r sign h is e found = found ∙ sym (nothing_near (values d x) (sym e)) ∙ nothing_fits (values d x) (sym e)
  where
    nothing_near : (xs : List ℤ) → None ≡ greatest xs → None ≡ bound_by xs (near_greatest q xs) x
    nothing_near [] e = refl
    nothing_near (y ∷ ys) e = absurd (no_greatest (y ∷ ys) y e (inl refl))

    nothing_fits : (xs : List ℤ) → None ≡ greatest xs → None ≡ bound_by xs (filter (λ v. int_le (a *ℤ v) (s +ℤ least_product d (a, x))) xs) x
    nothing_fits [] e = refl
    nothing_fits (y ∷ ys) e = absurd (no_greatest (y ∷ ys) y e (inl refl))

-- ---- one term after another

bound_here : (s : ℤ) (d : Domains) (ts : List (ℤ × ℕ)) (i : ℕ) (t : ℤ × ℕ) → i < length ts → t ≡ get_or ts i t → first_bound s d (drop i ts) ≡ or_else (bound_by (values d t.1) (fitting s d t) t.1) (first_bound s d (drop (i + 1) ts))
bound_here s d ts i t h e = ap (first_bound s d) (left_at ts i t h e)

first_there : {A : Type 0} (a b : Option A) → is_some a ≡ true → or_else a b ≡ a
first_there None b e = absurd (false≢true e)
first_there (Some a) b e = refl

pub first_absent : {A : Type 0} (a b : Option A) → is_some a ≡ false → or_else a b ≡ b
first_absent None b e = refl
first_absent (Some a) b e = absurd (true≢false e)

-- a term that gives a bound gives the first
pub bound_found : (s : ℤ) (d : Domains) (ts : List (ℤ × ℕ)) (i : ℕ) (t : ℤ × ℕ) (o : Option Atomic) → first_bound s d (drop i ts) ≡ first_bound s d ts → i < length ts → t ≡ get_or ts i t
    → o ≡ bound_by (values d t.1) (fitting s d t) t.1 → is_some o ≡ true → o ≡ first_bound s d ts
bound_found s d ts i t o so_far h e is there =
    sym (first_there o (first_bound s d (drop (i + 1) ts)) there) ∙ ap (λ p. or_else p (first_bound s d (drop (i + 1) ts))) is ∙ sym (bound_here s d ts i t h e) ∙ so_far

-- one that gives none leaves it to the others
pub bound_more : (s : ℤ) (d : Domains) (ts : List (ℤ × ℕ)) (i : ℕ) (t : ℤ × ℕ) (o : Option Atomic) → first_bound s d (drop i ts) ≡ first_bound s d ts → i < length ts → t ≡ get_or ts i t
    → o ≡ bound_by (values d t.1) (fitting s d t) t.1 → is_some o ≡ false → first_bound s d (drop (i + 1) ts) ≡ first_bound s d ts
bound_more s d ts i t o so_far h e is there =
    sym (first_absent o (first_bound s d (drop (i + 1) ts)) there) ∙ ap (λ p. or_else p (first_bound s d (drop (i + 1) ts))) is ∙ sym (bound_here s d ts i t h e) ∙ so_far
