-- What is told of an output over all writes since it was opened.
use Rattle.std.proofs.Common.{◌≡◌, ◌⊎◌, ℕ, ◌+◌, ◌<◌, ◌≤◌, inl, inr, List, [], ◌∷◌, ◌++◌, length, refl, sym, ◌∙◌, ap, subst, arith, append_assoc, length-append}
use Rattle.std.proofs.lemmas.Bool.Decides.{leb_tells, nat_tests}
use Rattle.std.proofs.lemmas.List.{append-nil}
use Rattle.std.specs.List.{concat}
use Rattle.std.specs.Prelude.{Bool, true, false, Some, None, nat_le, if◌then◌else◌}
use Rattle.dp_desk.specs.Honest.{fitting, told_after}

it_fits : (room : ℕ) (bytes : List ℕ) → length bytes ≤ room → fitting room bytes ≡ Some bytes
it_fits room bytes fits = grind (arith, nat_tests)

it_is_long : (room : ℕ) (bytes : List ℕ) → room < length bytes → fitting room bytes ≡ None
it_is_long room bytes past = grind (arith, nat_tests)

none_after : (room : ℕ) (writes : List (List ℕ)) → told_after room None writes ≡ None
none_after room [] = refl
none_after room (bytes ∷ writes) = none_after room writes

told_step : (room : ℕ) (was bytes : List ℕ) (writes : List (List ℕ)) →
    ((nat_le (length was + length bytes) room ≡ true) × (length was + length bytes ≤ room)) ⊎ ((nat_le (length was + length bytes) room ≡ false) × (room < length was + length bytes)) →
    (length (was ++ bytes) ≤ room → told_after room (Some (was ++ bytes)) writes ≡ fitting room ((was ++ bytes) ++ concat writes)) →
    told_after room (Some was) (bytes ∷ writes) ≡ fitting room (was ++ (bytes ++ concat writes))
told_step room was bytes writes (inl test) more =
    ap (λ (b : Bool). told_after room (if b then Some (was ++ bytes) else None) writes) test.0
    ∙ more (omega (arith, length-append was bytes, test.1))
    ∙ ap (fitting room) (append_assoc was bytes (concat writes))
told_step room was bytes writes (inr test) more =
    ap (λ (b : Bool). told_after room (if b then Some (was ++ bytes) else None) writes) test.0
    ∙ none_after room writes
    ∙ sym (it_is_long room (was ++ (bytes ++ concat writes)) (omega (arith, length-append was (bytes ++ concat writes), length-append bytes (concat writes), test.1)))

-- all that was written is told, exactly while it fits
pub told_from : (room : ℕ) (was : List ℕ) (writes : List (List ℕ)) → length was ≤ room →
    told_after room (Some was) writes ≡ fitting room (was ++ concat writes)
told_from room was [] fits =
    subst (λ b. Some was ≡ fitting room b) (sym (append-nil was)) (sym (it_fits room was fits))
told_from room was (bytes ∷ writes) fits =
    told_step room was bytes writes (leb_tells (length was + length bytes) room) (told_from room (was ++ bytes) writes)
