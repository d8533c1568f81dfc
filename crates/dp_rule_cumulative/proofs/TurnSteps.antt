-- The turn by the parts of the tasks.
use Rattle.std.proofs.Common.{◌≡◌, Bool, true, false, Option, Some, None, option_map, refl, sym, ◌∙◌, ap}
use Rattle.std.specs.Prelude.{cond, ◌||◌}
use Rattle.dp_domain.specs.Atoms.{Atomic}
use Rattle.dp_domain.specs.States.{Domains, is_dead}
use Rattle.dp_domain.specs.Turns.{given, or_else, turn_of}
use Rattle.dp_domain.specs.declared.found.Found.TheVariants.{Atom, Clash}
use Rattle.std.specs.Option.{option_or}
use Rattle.dp_rule_cumulative.specs.Profiles.{is_exceeded, parts_of}
use Rattle.dp_rule_cumulative.specs.Schedules.{Schedule}
use Rattle.dp_rule_cumulative.specs.TimeTable.{face_cumulative, has_overload, test_cumulative}
use Rattle.dp_rule_cumulative.proofs.ProfileLaws.{exceeded-is}

second : (a b : Bool) → a ≡ false → (a || b) ≡ b
second a b e = ap (λ c. c || b) e

-- at a nonempty state the parts alone tell
pub test_is : (q : Schedule) (d : Domains) → is_dead d ≡ false → is_exceeded q.capacity (parts_of d q.tasks) ≡ test_cumulative q d
test_is q d alive = exceeded-is q.capacity d q.tasks ∙ sym (second (is_dead d) (has_overload q.capacity q.tasks d) alive)

-- a clash is the turn
pub clash_turn : (q : Schedule) (d : Domains) → test_cumulative q d ≡ true → Some Clash ≡ turn_of (face_cumulative q) d
clash_turn q d e = sym (ap (λ b. cond b (Some Clash) (option_map Atom (given (face_cumulative q) d (face_cumulative q).scope))) e)

-- else what is given is
pub given_turn : (q : Schedule) (d : Domains) (o : Option Atomic) → test_cumulative q d ≡ false → o ≡ given (face_cumulative q) d (face_cumulative q).scope → option_map Atom o ≡ turn_of (face_cumulative q) d
given_turn q d o e g = ap (λ p. option_map Atom p) g ∙ sym (ap (λ b. cond b (Some Clash) (option_map Atom (given (face_cumulative q) d (face_cumulative q).scope))) e)

-- the first of two, in both words
pub or_is : (a b : Option Atomic) → option_or a b ≡ or_else a b
or_is None b = refl
or_is (Some a) b = refl
