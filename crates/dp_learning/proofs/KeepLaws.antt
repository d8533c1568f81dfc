-- What holds of every state at rest: turns and runs from a start take no value of such a state.
use Rattle.std.proofs.Common.{◌≡◌, ℕ, true, false, List, ◌++◌, length, Option, Some, None, refl}
use Rattle.std.proofs.lemmas.Bool.{both_ways}
use Rattle.dp_base.specs.Lists.{Among}
use Rattle.dp_base.proofs.Lists.{Each-among, list_all-from}
use Rattle.dp_domain.specs.Atoms.{Atomic}
use Rattle.dp_domain.specs.Faces.{Face}
use Rattle.dp_domain.specs.States.{Domains, IsWithin, cut, cut_all, entails, entails_all, is_dead}
use Rattle.dp_domain.specs.Turns.{IsTurn}
use Rattle.dp_domain.specs.declared.found.Found.{Found}
use Rattle.dp_domain.specs.declared.found.Found.TheVariants.{Clash as Clashes, Atom as Gives}
use Rattle.dp_domain.proofs.StateLaws.{IsWithin-cut_all, IsWithin-trans, dead-within, entails-cut_all, entails-within, length-cut_all}
use Rattle.dp_engine.specs.declared.part_id.PartId.{PartId}
use Rattle.dp_engine.specs.declared.turn.Turn.TheVariants.{Atom, Clash}
use Rattle.dp_engine.specs.Placed.{AreSound, Placed, turn_order}
use Rattle.dp_engine.specs.Runs.{fails, follows, run, state_after}
use Rattle.dp_engine.specs.Turns.{Taken, first, turn_at}
use Rattle.dp_engine.proofs.FailureLaws.{order-more}
use Rattle.dp_engine.proofs.RunLaws.{turn-quiet}
use Rattle.dp_engine.proofs.TurnLaws.{first-among, first-turn}
use Rattle.dp_parts.specs.Posed.{Posed}
use Rattle.dp_learning.specs.Learning.{IsAtRest}
use Rattle.dp_learning.proofs.RestLaws.{at-rest-alive, at-rest-quiet, cuts-keep, none-fails, rest-kept, rest-no_failure, step-keeps, step-no_clash}

-- each state at rest within the base is within the state
abbrev pub KeepsRest : List Placed → Domains → Domains → Type 0
KeepsRest parts base d = (e : Domains) → IsAtRest parts e → IsWithin e base → IsWithin e d

-- the base is such a state
pub keeps-base : (parts : List Placed) (base : Domains) → KeepsRest parts base base
keeps-base parts base = λ e rest w. w

-- what a turn's atom leaves of such a state is one
pub keeps-turn : (n : ℕ) (parts : List Placed) (base d : Domains) (id : PartId) (a : Atomic) → AreSound n parts → length d ≡ n → turn_at parts d ≡ Atom id a → KeepsRest parts base d → KeepsRest parts base (cut d a)
keeps-turn n parts base d id a sound l t keeps = λ e rest w. step-keeps n parts d e id a sound l t rest (keeps e rest w)

-- and so is what a run leaves
pub keeps-run : (n : ℕ) (parts : List Placed) (base d : Domains) → AreSound n parts → length d ≡ n → KeepsRest parts base d → KeepsRest parts base (state_after d (run parts d))
keeps-run n parts base d sound l keeps = λ e rest w. rest-kept n parts d e sound l rest (keeps e rest w)

-- a state within the cut by atoms entails each of them
pub within-cuts_entails : (base e : Domains) (atoms : List Atomic) → IsWithin e (cut_all base atoms) → entails_all e atoms ≡ true
within-cuts_entails base e atoms w = list_all-from (entails e) atoms (λ a h. entails-within (cut_all base atoms) e a w (entails-cut_all base atoms a h))

-- atoms that cut the base may cut it too
pub keeps-assumed : (parts : List Placed) (base d : Domains) (atoms : List Atomic) → KeepsRest parts base d → KeepsRest parts (cut_all base atoms) (cut_all d atoms)
keeps-assumed parts base d atoms keeps = λ e rest w.
    cuts-keep d e atoms (keeps e rest (IsWithin-trans base (cut_all base atoms) e w (IsWithin-cut_all base atoms))) (within-cuts_entails base e atoms w)

-- where a part clashes at such a state the run from the base fails
pub keeps-clash : (n : ℕ) (parts : List Placed) (base d : Domains) (id : PartId) → AreSound n parts → length base ≡ n → length d ≡ n → turn_at parts d ≡ Clash id → KeepsRest parts base d → fails parts base ≡ true
keeps-clash n parts base d id sound m l t keeps = none-fails n parts base sound m (λ e rest w. step-no_clash n parts d e id sound l t rest (keeps e rest w))

-- where it is dead
pub keeps-dead : (n : ℕ) (parts : List Placed) (base d : Domains) → AreSound n parts → length base ≡ n → is_dead d ≡ true → KeepsRest parts base d → fails parts base ≡ true
keeps-dead n parts base d sound m dead keeps =
    none-fails n parts base sound m (λ e rest w. both_ways (is_dead e) (at-rest-alive parts e rest) (dead-within d e (keeps e rest w) dead))

-- or where the run from it fails
pub keeps-failure : (n : ℕ) (parts : List Placed) (base d : Domains) → AreSound n parts → length base ≡ n → length d ≡ n → fails parts d ≡ true → KeepsRest parts base d → fails parts base ≡ true
keeps-failure n parts base d sound m l f keeps =
    none-fails n parts base sound m (λ e rest w. both_ways (fails parts d) (rest-no_failure n parts d e sound l rest (keeps e rest w)) f)

-- a nogood follows where the run fails from such a state of the initial domains cut by its atoms
pub follows-from : (p : Posed) (before : List (List Atomic)) (atoms : List Atomic) (d : Domains) → AreSound (length p.initial) (turn_order p before) → length d ≡ length p.initial → fails (turn_order p before) d ≡ true → KeepsRest (turn_order p before) (cut_all p.initial atoms) d → follows p before atoms ≡ true
follows-from p before atoms d sound l f keeps =
    keeps-failure (length p.initial) (turn_order p before) (cut_all p.initial atoms) d sound (length-cut_all p.initial atoms) l f keeps

-- ---- more parts

no_turn : (f : Face) (e : Domains) (k : Found) → IsTurn f e None → IsTurn f e (Some k) → ⊥
no_turn f e Clashes none some = both_ways (f.test e) none.0 some
no_turn f e (Gives a) none some = none.1 a some.1.candidate

none_first : (n : ℕ) (parts : List Placed) (e : Domains) (o : Option Taken) → AreSound n parts → is_dead e ≡ false → ((q : Placed) → Among q parts → IsTurn q.face e None) → first parts e ≡ o → o ≡ None
none_first n parts e None sound alive quiet f = refl
none_first n parts e (Some t) sound alive quiet f =
    absurd (no_turn t.part.face e t.found (quiet t.part (first-among parts e t f)) (first-turn n parts e t sound alive f))

-- a state at rest for more parts is at rest for these
pub rest-fewer : (n : ℕ) (parts more : List Placed) (e : Domains) → AreSound n parts → AreSound n more → ((q : Placed) → Among q parts → Among q more) → IsAtRest more e → IsAtRest parts e
rest-fewer n parts more e sound sounds all rest =
    let alive = at-rest-alive more e rest in
    turn-quiet parts e alive (none_first n parts e (first parts e) sound alive
    (λ q m. Each-among (λ (r : Placed). IsTurn r.face e None) more (at-rest-quiet n more e sounds rest) q (all q m)) refl)

-- so with more parts fewer states have to be kept
pub keeps-more : (n : ℕ) (parts more : List Placed) (base d : Domains) → AreSound n parts → AreSound n more → ((q : Placed) → Among q parts → Among q more) → KeepsRest parts base d → KeepsRest more base d
keeps-more n parts more base d sound sounds all keeps = λ e rest w. keeps e (rest-fewer n parts more e sound sounds all rest) w

-- as with nogoods behind those that there were
pub keeps-longer : (n : ℕ) (p : Posed) (ns ms : List (List Atomic)) (base d : Domains) → AreSound n (turn_order p ns) → AreSound n (turn_order p (ns ++ ms)) → KeepsRest (turn_order p ns) base d → KeepsRest (turn_order p (ns ++ ms)) base d
keeps-longer n p ns ms base d sound sounds keeps = keeps-more n (turn_order p ns) (turn_order p (ns ++ ms)) base d sound sounds (λ q m. order-more p ns ms q m) keeps
