-- Names that are no key twice lead to their variables.
use Rattle.std.specs.Prelude.{◌≡◌, ℕ, List, nat_eq}
use Rattle.std.specs.List.{IsDistinct}
use Rattle.std.specs.Map.{keys_of}
use Rattle.std.specs.Cmp.Lexicographic.{nat_list_eq_equiv, pointwise}
use Rattle.std.proofs.lemmas.Map.Entries.{lookup_from_place}
use Rattle.dp_parts.specs.Problems.{LeadBack}

pub lead_back : (names : List (List ℕ × ℕ)) → IsDistinct (pointwise nat_eq) (keys_of names) → LeadBack names
lead_back names distinct place x name stands = lookup_from_place nat_list_eq_equiv names place name x distinct stands
