-- What the tests of a line say where none of them refuses.
use Rattle.std.proofs.Common.{◌≡◌, ℕ, ◌+◌, ◌≤◌, Bool, true, false, ◌&&◌, Option, Some, None, is_none, List, length, ℤ, refl, arith, nat_lt, nat_le}
use Rattle.std.proofs.lemmas.Bool.{and_parts, false≢true}
use Rattle.std.proofs.lemmas.Bool.Decides.{nat_tests}
use Rattle.dp_checker.specs.Judged.{or_else}
use Rattle.dp_checker.specs.SoundnessLaws.{second_passes}
use Rattle.dp_lines.specs.declared.line.Line.{Line}
use Rattle.dp_lines.specs.declared.line.Line.TheVariants.{Nogood}
use Rattle.dp_parts.specs.Posed.{Posed}
use Rattle.dp_scaffold.specs.Gathering.{Gathered, first_refusal, has_room, line_refusal, most_literals, most_nogoods, step_refusal, unless}
use Rattle.dp_scaffold.specs.declared.refusal.GatherWhy.{GatherWhy}
use Rattle.dp_scaffold.specs.declared.refusal.GatherWhy.TheVariants.{AfterConclusion, TooMany}

some_is_none : {A : Type 0} (x : A) (P : Type 0) → Some x ≡ None → P
some_is_none x P e = cc

first_passes : {A : Type 0} (a b : Option A) → or_else a b ≡ None → a ≡ None
first_passes None b e = refl
first_passes (Some x) b e = e

-- a test that does not refuse holds
pub holds_where_passed : (b : Bool) (why : GatherWhy) → unless b why ≡ None → b ≡ true
holds_where_passed true why e = refl
holds_where_passed false why e = some_is_none why (false ≡ true) e

none_where : {A : Type 0} (o : Option A) → is_none o ≡ true → o ≡ None
none_where None e = refl
none_where (Some x) e = absurd (false≢true e)

-- a line passes where its kind's tests do and nothing is claimed
pub unclaimed : (p : Posed) (g : Gathered) (line : Line) → first_refusal p g line ≡ None → g.claim ≡ None
unclaimed p g line e =
    none_where g.claim (holds_where_passed (is_none g.claim) AfterConclusion (first_passes (unless (is_none g.claim) AfterConclusion) (line_refusal p g line) e))

pub by_kind : (p : Posed) (g : Gathered) (line : Line) → first_refusal p g line ≡ None → line_refusal p g line ≡ None
by_kind p g line e = second_passes (unless (is_none g.claim) AfterConclusion) (line_refusal p g line) e

room_parts : (n m : ℕ) → (nat_lt n most_nogoods && nat_le m most_literals) ≡ true → (n + 1 ≤ most_nogoods) × (m ≤ most_literals)
room_parts n m e =
    let so : (nat_lt n most_nogoods ≡ true) × (nat_le m most_literals ≡ true) = and_parts (nat_lt n most_nogoods) (nat_le m most_literals) e in
    (few n so.0, small m so.1)
  where
    few : (n : ℕ) → nat_lt n most_nogoods ≡ true → n + 1 ≤ most_nogoods
    few n e = grind (arith, nat_tests, e)

    small : (m : ℕ) → nat_le m most_literals ≡ true → m ≤ most_literals
    small m e = grind (arith, nat_tests, e)

-- there is room for a nogood that passes
pub nogood_room : (p : Posed) (g : Gathered) (id : ℕ) (atoms : List ℤ) (hints : List ℕ) → line_refusal p g (Nogood id atoms hints) ≡ None →
    (length g.nogoods + 1 ≤ most_nogoods) × (g.literals + length atoms ≤ most_literals)
nogood_room p g id atoms hints e =
    room_parts (length g.nogoods) (g.literals + length atoms) (holds_where_passed (has_room g (length atoms)) TooMany (second_passes (step_refusal g id atoms) _ e))
