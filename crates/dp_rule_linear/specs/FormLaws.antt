-- Sums at states and assignments.
use Rattle.std.specs.Prelude.{◌≡◌, ℕ, ◌<◌, false, unwrap_or, List, [], ◌∷◌, length, map, ℤ, pos, ◌+ℤ◌, ◌*ℤ◌, ◌≤ℤ◌}
use Rattle.std.proofs.Common.{refl, ◌∙◌, ap, inl, inr, arith}
use Rattle.std.proofs.lemmas.Int.{ints}
use Rattle.dp_base.specs.Lists.{Among}
use Rattle.dp_domain.specs.Sets.{least}
use Rattle.dp_domain.specs.States.{Domains, IsWithin, is_dead, values}
use Rattle.dp_domain.specs.Faces.{AgreesOn, Fixes}
use Rattle.dp_domain.proofs.StateLaws.{alive-value}
use Rattle.dp_domain.specs.Conditions.{with_condition}
use Rattle.dp_domain.proofs.ConditionLaws.{among_with_condition}
use Rattle.dp_rule_linear.specs.Forms.{Linear, least_product, least_sum, product, scope_of, sum_at, total, variables}
use Rattle.dp_base.proofs.ScopeLaws.{among_in_order}
use Rattle.dp_rule_linear.specs.IntLaws.{Among-map, least_image-bound, least_image-within}

-- ---- scopes

-- the variables of the terms are of the scope
pub variable_in_scope : (q : Linear) (x : ℕ) → Among x (variables q.terms) → Among x (scope_of q)
variable_in_scope q x here = among_in_order x (with_condition q.condition (variables q.terms)) (among_with_condition q.condition (variables q.terms) x here)

pub variable_of : (ts : List (ℤ × ℕ)) (t : ℤ × ℕ) → Among t ts → Among t.1 (variables ts)
variable_of ts t here = Among-map (λ u. u.1) ts t here

-- ---- sums

sum_le : (a b c d : ℤ) → a ≤ℤ b → c ≤ℤ d → (a +ℤ c) ≤ℤ (b +ℤ d)
sum_le a b c d h k = omega (arith, ints)

-- larger numbers have a larger sum
pub total-le : (f g : ℤ × ℕ → ℤ) (ts : List (ℤ × ℕ)) → ((t : ℤ × ℕ) → Among t ts → f t ≤ℤ g t) → total f ts ≤ℤ total g ts
total-le f g [] each = omega (arith, ints)
total-le f g (t ∷ ts) each = sum_le (f t) (g t) (total f ts) (total g ts) (each t (inl refl)) (total-le f g ts (λ u here. each u (inr here)))

-- the same numbers have the same sum
pub total-same : (f g : ℤ × ℕ → ℤ) (ts : List (ℤ × ℕ)) → ((t : ℤ × ℕ) → Among t ts → f t ≡ g t) → total f ts ≡ total g ts
total-same f g [] each = refl
total-same f g (t ∷ ts) each = ap (λ n. n +ℤ total f ts) (each t (inl refl)) ∙ ap (λ n. g t +ℤ n) (total-same f g ts (λ u here. each u (inr here)))

-- at a smaller state that is not dead the sum of the least values is no less
pub least_sum-within : (ts : List (ℤ × ℕ)) (d e : Domains) → IsWithin e d → is_dead e ≡ false → ((x : ℕ) → Among x (variables ts) → x < length e) → least_sum d ts ≤ℤ least_sum e ts
least_sum-within ts d e within alive covered = total-le (least_product d) (least_product e) ts (λ t here.
    let m = alive-value e t.1 alive (covered t.1 (variable_of ts t here)) in
    least_image-within (λ v. t.0 *ℤ v) (values d t.1) (values e t.1) m.0 m.1 (λ w there. within.each t.1 w there))

-- it depends on the sets of the terms' variables alone
pub least_sum-local : (ts : List (ℤ × ℕ)) (d e : Domains) → AgreesOn (variables ts) d e → least_sum d ts ≡ least_sum e ts
least_sum-local ts d e agrees = total-same (least_product d) (least_product e) ts (λ t here.
    ap (λ xs. unwrap_or (least (map (λ v. t.0 *ℤ v) xs)) (pos 0)) (agrees t.1 (variable_of ts t here)))

-- it is at most the sum at an assignment within the state
pub least_sum-bound : (ts : List (ℤ × ℕ)) (d : Domains) (s : ℕ → ℤ) → ((x : ℕ) → Among x (variables ts) → Among (s x) (values d x)) → least_sum d ts ≤ℤ sum_at s ts
least_sum-bound ts d s within = total-le (least_product d) (product s) ts (λ t here.
    least_image-bound (λ v. t.0 *ℤ v) (values d t.1) (s t.1) (within t.1 (variable_of ts t here)))

-- where each variable has one value, it is the sum at these
pub least_sum-fixed : (ts : List (ℤ × ℕ)) (d : Domains) (s : ℕ → ℤ) → Fixes (variables ts) s d → least_sum d ts ≡ sum_at s ts
least_sum-fixed ts d s fixes = total-same (least_product d) (product s) ts (λ t here.
    ap (λ xs. unwrap_or (least (map (λ v. t.0 *ℤ v) xs)) (pos 0)) (fixes t.1 (variable_of ts t here)))
