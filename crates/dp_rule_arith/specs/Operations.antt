-- Products, maxima, minima and absolute values: what they mean, and where bounds show that they cannot hold.
use Rattle.std.specs.Prelude.{◌≡◌, ℕ, Bool, true, false, ◌||◌, ◌⊎◌, unwrap_or, unsigned_abs, List, [], ◌∷◌, ℤ, pos, neg_ℤ, ◌*ℤ◌, ◌<ℤ◌, int_lt}
use Rattle.std.specs.Int.{int_min, int_max}
use Rattle.dp_domain.specs.Faces.{Face}
use Rattle.dp_domain.specs.Sets.{least, greatest}
use Rattle.dp_domain.specs.States.{Domains, is_dead}
use Rattle.dp_domain.specs.Terms.{term_at, term_scope, term_values}
use Rattle.dp_domain.specs.declared.term.Term.{Term}
use Rattle.dp_domain.specs.declared.term.Term.TheVariants.{Const}
use Rattle.dp_rule_arith.specs.declared.absolute.Absolute.{Absolute}
use Rattle.dp_rule_arith.specs.declared.greatest.Greatest.{Greatest}
use Rattle.dp_rule_arith.specs.declared.least.Least.{Least}
use Rattle.dp_rule_arith.specs.declared.times.Times.{Times}

-- ---- intervals

-- the least of the values and the greatest; 0 of no values
abbrev pub ends_of : List ℤ → ℤ × ℤ
ends_of xs = (unwrap_or (least xs) (pos 0), unwrap_or (greatest xs) (pos 0))

-- the lower and the upper bound of a term
abbrev pub bounds : Domains → Term → ℤ × ℤ
bounds d t = ends_of (term_values d t)

-- one interval ends before the other begins
abbrev pub AreApart : ℤ × ℤ → ℤ × ℤ → Type 0
AreApart i j = (i.1 <ℤ j.0) ⊎ (j.1 <ℤ i.0)

-- the test of it
abbrev pub are_apart : ℤ × ℤ → ℤ × ℤ → Bool
are_apart i j = int_lt i.1 j.0 || int_lt j.1 i.0

-- from the least of the four products of an end of each to the greatest
abbrev pub product_span : ℤ × ℤ → ℤ × ℤ → ℤ × ℤ
product_span i j =
    (int_min (int_min (i.0 *ℤ j.0) (i.0 *ℤ j.1)) (int_min (i.1 *ℤ j.0) (i.1 *ℤ j.1)), int_max (int_max (i.0 *ℤ j.0) (i.0 *ℤ j.1)) (int_max (i.1 *ℤ j.0) (i.1 *ℤ j.1)))

-- from the greater of the lower ends to the greater of the upper ends
abbrev pub greater_span : ℤ × ℤ → ℤ × ℤ → ℤ × ℤ
greater_span i j = (int_max i.0 j.0, int_max i.1 j.1)

-- from the lesser of the lower ends to the lesser of the upper ends
abbrev pub lesser_span : ℤ × ℤ → ℤ × ℤ → ℤ × ℤ
lesser_span i j = (int_min i.0 j.0, int_min i.1 j.1)

-- from the least distance to 0 of the numbers between the ends to the greatest
abbrev pub absolute_span : ℤ × ℤ → ℤ × ℤ
absolute_span i = (int_max (pos 0) (int_max i.0 (neg_ℤ i.1)), int_max (neg_ℤ i.0) i.1)

-- ---- meanings

-- a times b is c
abbrev pub MeetsTimes : Times → (ℕ → ℤ) → Type 0
MeetsTimes q s = term_at s q.a *ℤ term_at s q.b ≡ term_at s q.c

-- c is the greater of a and b
abbrev pub MeetsGreatest : Greatest → (ℕ → ℤ) → Type 0
MeetsGreatest q s = int_max (term_at s q.a) (term_at s q.b) ≡ term_at s q.c

-- c is the lesser of a and b
abbrev pub MeetsLeast : Least → (ℕ → ℤ) → Type 0
MeetsLeast q s = int_min (term_at s q.a) (term_at s q.b) ≡ term_at s q.c

-- b is a without its sign
abbrev pub MeetsAbsolute : Absolute → (ℕ → ℤ) → Type 0
MeetsAbsolute q s = pos (unsigned_abs (term_at s q.a)) ≡ term_at s q.b

-- ---- clashes

-- a variable has no value, or the products by bounds lie apart from c
abbrev pub ClashesTimes : Times → Domains → Type 0
ClashesTimes q d = (is_dead d ≡ true) ⊎ AreApart (product_span (bounds d q.a) (bounds d q.b)) (bounds d q.c)

-- a variable has no value, or the greater of a and b lies apart from c
abbrev pub ClashesGreatest : Greatest → Domains → Type 0
ClashesGreatest q d = (is_dead d ≡ true) ⊎ AreApart (greater_span (bounds d q.a) (bounds d q.b)) (bounds d q.c)

-- a variable has no value, or the lesser of a and b lies apart from c
abbrev pub ClashesLeast : Least → Domains → Type 0
ClashesLeast q d = (is_dead d ≡ true) ⊎ AreApart (lesser_span (bounds d q.a) (bounds d q.b)) (bounds d q.c)

-- a variable has no value, or what a may be without its sign lies apart from b
abbrev pub ClashesAbsolute : Absolute → Domains → Type 0
ClashesAbsolute q d = (is_dead d ≡ true) ⊎ AreApart (absolute_span (bounds d q.a)) (bounds d q.b)

-- ---- faces

-- whether a variable has no value, or the interval of the arguments' bounds lies apart from the result's
abbrev pub test_by : (ℤ × ℤ → ℤ × ℤ → ℤ × ℤ) → Term → Term → Term → Domains → Bool
test_by span a b c d = is_dead d || are_apart (span (bounds d a) (bounds d b)) (bounds d c)

-- the variables of the terms and that test; no value is a point
abbrev pub face_by : (ℤ × ℤ → ℤ × ℤ → ℤ × ℤ) → Term → Term → Term → Face
face_by span a b c = record { scope = term_scope (a ∷ b ∷ c ∷ []); test = test_by span a b c; point = λ x v. false }

-- its variables and its test
abbrev pub face_times : Times → Face
face_times q = face_by product_span q.a q.b q.c

-- its variables and its test
abbrev pub face_greatest : Greatest → Face
face_greatest q = face_by greater_span q.a q.b q.c

-- its variables and its test
abbrev pub face_least : Least → Face
face_least q = face_by lesser_span q.a q.b q.c

-- its variables and its test; the second argument of the operation is not looked at
abbrev pub face_absolute : Absolute → Face
face_absolute q = face_by (λ i j. absolute_span i) q.a (Const (pos 0)) q.b
