-- What the tests of numbers, names and counts have shown where they refuse nothing.
use Rattle.std.proofs.Common.{◌≡◌, ℕ, ◌+◌, ◌<◌, ◌≤◌, Bool, true, false, Option, Some, None, ℤ, pos, negsuc, ◌≤ℤ◌, nat_abs, nat_lt, nat_le, refl, arith}
use Rattle.std.specs.Int.Signed.{lt_z}
use Rattle.std.specs.Option.{option_map_or}
use Rattle.std.proofs.lemmas.Bool.{or_parts}
use Rattle.std.proofs.lemmas.Bool.Decides.{nat_tests}
use Rattle.std.proofs.lemmas.Int.{ints}
use Rattle.dp_domain.specs.Sets.{IsSmall}
use Rattle.fz_model.specs.Context.{Context, known, one_more}
use Rattle.fz_model.specs.Limits.{amount_limit, beyond_small, or_else, refuse_if, small, max_elements}
use Rattle.fz_model.specs.declared.fault.Fault.{Fault}
use Rattle.fz_model.specs.declared.fault.Fault.TheVariants.{Declared}
use Rattle.fz_model.specs.declared.meant.Meant.{Meant}
use Rattle.fz_facts.specs.Facts.{IsAmount}

pub not_refused : (b : Bool) (fault : Fault) → refuse_if b fault ≡ None → b ≡ false
not_refused true fault e = absurd cc
not_refused false fault e = refl

pub neither : (a b : Option Fault) → or_else a b ≡ None → (a ≡ None) × (b ≡ None)
neither None b e = (refl, e)
neither (Some fault) b e = absurd cc

-- what is known means something that passes
pub is_known : (o : Option Meant) (test : Meant → Option Fault) → known o test ≡ None → (m : Meant) × (o ≡ Some m) × (test m ≡ None)
is_known None test e = absurd cc
is_known (Some m) test e = (m, refl, e)

pub is_fresh : (o : Option Meant) → option_map_or (λ (m : Meant). Some Declared) o None ≡ None → o ≡ None
is_fresh None e = refl
is_fresh (Some m) e = absurd cc

-- ---- numbers

pub not_above : (a b : ℕ) → nat_lt a b ≡ false → b ≤ a
not_above a b e = grind (arith, nat_tests)

below : (a b : ℕ) → nat_le a b ≡ false → b < a
below a b e = grind (arith, nat_tests)

small_bounds : (v : ℤ) → nat_abs v ≤ 1000000000 → IsSmall v
small_bounds v h = (omega (arith, ints), omega (arith, ints))

pub small_number : (v : ℤ) → beyond_small v ≡ None → IsSmall v
small_number v e = small_bounds v (not_above small (nat_abs v) (not_refused _ _ e))

not_negative : (v : ℤ) → lt_z v (pos 0) ≡ false → pos 0 ≤ℤ v
not_negative (pos n) e = omega (arith, ints)
not_negative (negsuc n) e = absurd cc

pub amount_number : (v : ℤ) → amount_limit v ≡ None → IsAmount v
amount_number v e =
    let parts = or_parts (lt_z v (pos 0)) (nat_lt small (nat_abs v)) (not_refused _ _ e) in
    (not_negative v parts.0, (small_bounds v (not_above small (nat_abs v) parts.1)).1)

-- there are fewer elements than there may be
pub fewer : (context : Context) (count : ℕ) → one_more context count ≡ None → count < 2000000
fewer context count e = let h = below max_elements (context.elements + count) (not_refused _ _ e) in omega (arith, h)

pub below_limit : (limit count : ℕ) (fault : Fault) → refuse_if (nat_le limit count) fault ≡ None → count < limit
below_limit limit count fault e = below limit count (not_refused _ _ e)
