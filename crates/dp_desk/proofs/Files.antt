-- The first file of a name, by its place in the list.
use Rattle.std.proofs.Common.{◌≡◌, ℕ, ◌<◌, List, [], length, get_or, sym, ◌∙◌, ap, arith}
use Rattle.std.specs.Prelude.{Bool, true, false, cond, Option, Some, None, IfSome, IfNone, option_map, unwrap_or, find, position, slice_get, bytes_eq}
use Rattle.std.proofs.lemmas.List.Folds.{find_at}
use Rattle.std.proofs.lemmas.List.Quantifiers.{position-Some}
use Rattle.std.proofs.lemmas.Option.{slice_get-get_or, slice_get_past}
use Rattle.std.proofs.lemmas.Grind.{common_steps}
use Rattle.dp_desk.specs.Stored.{held}
use Rattle.dp_desk.specs.Places.{bytes_at}

chosen : (b : Bool) (n at : ℕ) → cond b (Some n) None ≡ Some at → n ≡ at
chosen true n at is = cc
chosen false n at is = cc

-- a place that is found holds the first element that passes
find_at_position : {X : Type 0} (p : X → Bool) (xs : List X) (at : ℕ) → position p xs ≡ Some at → find p xs ≡ slice_get xs at
find_at_position p xs at is = find_at p xs ∙ ap (λ n. slice_get xs n) (chosen _ _ _ is)

-- where no place is found, none passes
none_at_position : {X : Type 0} (p : X → Bool) (xs : List X) → position p xs ≡ None → find p xs ≡ None
none_at_position p xs is = find_at p xs ∙ grind (arith, common_steps, slice_get_past)

held_when : (files : List (List ℕ × List ℕ)) (found : Option (List ℕ × List ℕ)) (at : ℕ) (x : List ℕ × List ℕ) →
    found ≡ slice_get files at → slice_get files at ≡ Some x → option_map (λ file. file.1) found ≡ Some (bytes_at files at)
held_when files found at x is is_x = ap (option_map (λ file. file.1)) (is ∙ is_x) ∙ ap (λ o. Some (unwrap_or (option_map (λ file. file.1) o) [])) (sym is_x)

-- the file at the place that is found is the one that the name holds
pub held_at : (files : List (List ℕ × List ℕ)) (name : List ℕ) (r : Option ℕ) →
    r ≡ position (λ file. bytes_eq file.0 name) files → IfSome r (λ at. held files name ≡ Some (bytes_at files at))
held_at files name None is = tt
held_at files name (Some at) is =
    let within : at < length files = (position-Some (λ file. bytes_eq file.0 name) files at ([], []) (sym is)).0 in
    held_when files _ at (get_or files at ([], [])) (find_at_position _ files at (sym is)) (slice_get-get_or files at ([], []) within)

-- a name that is not found holds nothing
pub held_nowhere : (files : List (List ℕ × List ℕ)) (name : List ℕ) (r : Option ℕ) →
    r ≡ position (λ file. bytes_eq file.0 name) files → IfNone r (held files name ≡ None)
held_nowhere files name None is = ap (option_map (λ file. file.1)) (none_at_position (λ file. bytes_eq file.0 name) files (sym is))
held_nowhere files name (Some at) is = tt
