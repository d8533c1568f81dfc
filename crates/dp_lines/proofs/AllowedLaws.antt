-- What is read has the numbers, names and labels that a log may have.
use Rattle.std.proofs.Common.{◌≡◌, ℕ, zero, suc, ◌^◌, Bool, true, false, cond, ◌&&◌, eqb, leb, List, [], ◌∷◌, drop, Result, Ok, Err, refl, sym, subst, arith}
use Rattle.std.specs.Prelude.{ℤ, pos, negsuc, neg_ℤ, ◌≤ℤ◌, int_le, unsigned_abs}
use Rattle.std.specs.Str.Parse.{digits_value}
use Rattle.std.proofs.lemmas.Bool.{leb-true, not-true}
use Rattle.std.proofs.lemmas.Int.{ints}
use Rattle.dp_domain.proofs.AtomLaws.{lt-from_test}
use Rattle.dp_domain.specs.Atoms.{IsNameable, largest}
use Rattle.dp_domain.specs.declared.atom.Op.{Op}
use Rattle.dp_domain.specs.declared.atom.Op.TheVariants.{Ge, Le, Eq, Ne}
use Rattle.dp_lines.specs.Allowed.{IsLiteral, IsNumber}
use Rattle.dp_lines.specs.Fields.{Reading, one, with_rest}
use Rattle.dp_lines.specs.Figures.{are_digits, figure, is_nameable, is_number, literal_at, number_at, signed_by}
use Rattle.dp_lines.specs.Words.{Word, front_word}
use Rattle.dp_lines.specs.declared.refusal.Flaw.{Flaw}
use Rattle.dp_lines.specs.declared.refusal.Flaw.TheVariants.{Form, Number}

-- what holds of a value that an answer gives
abbrev pub IfGiven : {X : Type 0} → (X → Type 0) → Result X Flaw → Type 0
IfGiven P (Ok x) = P x
IfGiven P (Err flaw) = Unit {0}

-- what holds of what was read of words
abbrev IfRead : {X : Type 0} → (X → Type 0) → Reading X → Type 0
IfRead P (Ok p) = P p.0
IfRead P (Err flaw) = Unit {0}

both : (a b : Bool) → (a && b) ≡ true → (a ≡ true) × (b ≡ true)
both true b e = (refl, e)
both false b e = absurd cc

figure_by : (digits : Bool) (n : ℕ) (fits : Bool) (unfit beyond : Flaw) → fits ≡ is_number n → IfGiven IsNumber (let r : Result ℕ Flaw = cond digits (cond fits (Ok n) (Err beyond)) (Err unfit) in r)
figure_by false n fits unfit beyond e = tt
figure_by true n false unfit beyond e = tt
figure_by true n true unfit beyond e =
    let p = both (leb 1 n) (leb n (10 ^ 18)) (sym e) in
    (leb-true 1 n p.0, leb-true n (10 ^ 18) p.1)

figure_allowed : (unfit beyond : Flaw) (ds : List ℕ) → IfGiven IsNumber (figure unfit beyond ds)
figure_allowed unfit beyond ds = figure_by (are_digits ds) (digits_value 10 ds) (is_number (digits_value 10 ds)) unfit beyond refl

pub number_allowed : (at : ℕ) (text : List ℕ) → IfGiven IsNumber (number_at at text)
number_allowed at text = figure_allowed (Form at) (Number at) text

size_negative : (n : ℕ) → unsigned_abs (neg_ℤ (pos n)) ≡ n
size_negative zero = refl
size_negative (suc n) = omega arith

signed_allowed : (negative : Bool) (r : Result ℕ Flaw) → IfGiven IsNumber r → IfGiven IsLiteral (signed_by negative r)
signed_allowed negative (Err flaw) h = tt
signed_allowed true (Ok n) h = subst (λ (k : ℕ). IsNumber k) (sym (size_negative n)) h
signed_allowed false (Ok n) h = h

literal_by : (minus : Bool) (at b : ℕ) (ds : List ℕ) → IfGiven IsLiteral (cond minus (signed_by true (number_at at ds)) (signed_by false (number_at at (b ∷ ds))))
literal_by true at b ds = signed_allowed true (number_at at ds) (number_allowed at ds)
literal_by false at b ds = signed_allowed false (number_at at (b ∷ ds)) (number_allowed at (b ∷ ds))

pub literal_allowed : (at : ℕ) (text : List ℕ) → IfGiven IsLiteral (literal_at at text)
literal_allowed at [] = tt
literal_allowed at (b ∷ ds) = literal_by (eqb b 45) at b ds

with_rest_allowed : {X : Type 0} (P : X → Type 0) (ws : List Word) (r : Result X Flaw) → IfGiven P r → IfRead P (with_rest ws r)
with_rest_allowed P ws (Ok x) h = h
with_rest_allowed P ws (Err flaw) h = tt

-- a thing that one word says
pub one_allowed : {X : Type 0} (P : X → Type 0) (read : ℕ → List ℕ → Result X Flaw) (end : ℕ) (ws : List Word) →
    ((at : ℕ) (text : List ℕ) → IfGiven P (read at text)) → IfRead P (one read end ws)
one_allowed {X = X} P read end ws h = with_rest_allowed P (drop 1 ws) (read (front_word end ws).at (front_word end ws).text) (h (front_word end ws).at (front_word end ws).text)

-- the size of a literal
pub literal_size : (l : ℤ) → IsLiteral l → (neg_ℤ (pos (10 ^ 18)) ≤ℤ l) × (l ≤ℤ pos (10 ^ 18))
literal_size (pos n) h = (omega (arith, ints), omega (arith, ints))
literal_size (negsuc n) h = (omega (arith, ints), omega (arith, ints))

pub literal_read : (end : ℕ) (ws rest : List Word) (l : ℤ) → one literal_at end ws ≡ Ok (l, rest) → (neg_ℤ (pos (10 ^ 18)) ≤ℤ l) × (l ≤ℤ pos (10 ^ 18))
literal_read end ws rest l e = literal_size l (subst (λ (r : Reading ℤ). IfRead IsLiteral r) e (one_allowed IsLiteral literal_at end ws literal_allowed))

pub nameable_found : (op : Op) (v : ℤ) → IsLiteral v → is_nameable op v ≡ true → IsNameable op v
nameable_found Ge v lit h = let large = literal_size v lit in let over = lt-from_test v (neg_ℤ largest) (not-true (int_le v (neg_ℤ largest)) h) in (omega (arith, ints, over), large.1)
nameable_found Le v lit h = let large = literal_size v lit in let under = lt-from_test largest v (not-true (int_le largest v) h) in (large.0, omega (arith, ints, under))
nameable_found Eq v lit h = literal_size v lit
nameable_found Ne v lit h = literal_size v lit

pub nameable_zero : (op : Op) → IsNameable op (pos 0)
nameable_zero Ge = (omega (arith, ints), omega (arith, ints))
nameable_zero Le = (omega (arith, ints), omega (arith, ints))
nameable_zero Eq = (omega (arith, ints), omega (arith, ints))
nameable_zero Ne = (omega (arith, ints), omega (arith, ints))
