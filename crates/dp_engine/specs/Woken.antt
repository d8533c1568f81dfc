-- Woken parts: what is kept of the others, and how parts are woken.
use Rattle.std.specs.Prelude.{◌≡◌, ℕ, ◌+◌, ◌*◌, ◌/◌, ◌<◌, ◌≤◌, Bool, true, false, ◌++◌, List, [], ◌∷◌, length, get_or, slice_get, slice_set, Option, Some, None, if◌then◌else◌, ◌==◌, filter}
use Rattle.std.specs.List.{list_any}
use Rattle.dp_base.specs.Lists.{Among, Each}
use Rattle.dp_domain.specs.Atoms.{Atomic}
use Rattle.dp_domain.specs.States.{Domains, is_dead, values}
use Rattle.dp_domain.specs.Turns.{turn_of}
use Rattle.dp_engine.specs.declared.turn.Turn.{Turn}
use Rattle.dp_engine.specs.declared.turn.Turn.TheVariants.{Atom, Clash, Quiet, Empty}
use Rattle.dp_domain.specs.declared.found.Found.{Found}
use Rattle.dp_engine.specs.Engines.{Begins, IsEngine, Propagation, parts_of, states}
use Rattle.dp_engine.specs.Placed.{Placed}
use Rattle.dp_engine.specs.Debts.{History, IsKept}
use Rattle.dp_engine.specs.Rests.{Rest}
use Rattle.dp_engine.specs.Rosters.{Listed, all_placed}
use Rattle.dp_engine.specs.Turns.{told, turn_at}

-- whether the variable is of the scope
abbrev pub is_of : ℕ → List ℕ → Bool
is_of x scope = list_any (λ y. x == y) scope

-- the number of parts that have the variable in their scope
abbrev pub touch : ℕ → List Placed → ℕ
touch x parts = length (filter (λ q. is_of x q.face.scope) parts)

-- the places of these parts, where the first stands at place k
abbrev pub places_on : ℕ → ℕ → List Placed → List ℕ
places_on x k [] = []
places_on x k (q ∷ qs) = (if is_of x q.face.scope then k ∷ [] else []) ++ places_on x (k + 1) qs

-- the list of each variable is that of the places of the parts on it
pub record IsIndex (n : ℕ) (parts : List Placed) (lists : List (List ℕ)) : Type 0 where
  pub count : length lists ≡ n
  pub each : (x : ℕ) → x < n → get_or lists x [] ≡ places_on x 0 parts

-- these parts and more, which are woken
abbrev pub IsGrown : List Bool → List Bool → Type 0
IsGrown before now = (more : List Bool) × (now ≡ before ++ more) × Each (λ w. w ≡ true) more

-- the parts at these places are woken too
abbrev pub with_woken : List Bool → List ℕ → List Bool
with_woken woken [] = woken
with_woken woken (k ∷ ks) = with_woken (slice_set woken k true) ks

-- the place is one more in the list of each variable of the scope
abbrev pub entered : List (List ℕ) → ℕ → List ℕ → List (List ℕ)
entered lists k [] = lists
entered lists k (x ∷ xs) = entered (slice_set lists x (get_or lists x [] ++ k ∷ [])) k xs

-- how many are woken
abbrev pub owed_of : List Bool → ℕ
owed_of woken = length (filter (λ w. w) woken)

-- a bound on the searches of a step and the parts that are woken after it, by how many were woken before it: each search puts a
-- part to rest but that which gives the turn, and an atom wakes the parts on its variable
abbrev pub IsCounted : List Placed → ℕ → ℕ → ℕ → Turn → Type 0
IsCounted parts before searches now (Atom id a) = searches + now ≤ before + touch a.var parts
IsCounted parts before searches now (Clash id) = (searches + now ≤ before + 1) × (1 ≤ now)
IsCounted parts before searches now Quiet = searches + now ≤ before
IsCounted parts before searches now Empty = searches + now ≤ before

-- the woken parts after a turn: those on its atom's variable are woken
abbrev pub woken_after : List Bool → List (List ℕ) → Turn → List Bool
woken_after woken lists (Atom id a) = with_woken woken (get_or lists a.var [])
woken_after woken lists (Clash id) = woken
woken_after woken lists Quiet = woken
woken_after woken lists Empty = woken

-- the part at the place is woken and has this turn, which is the first of all
pub record IsFound (parts : List Placed) (d : Domains) (woken : List Bool) (place : ℕ) (turn : Turn) : Type 0 where
  pub part : Placed
  pub found : Found
  pub there : slice_get parts place ≡ Some part
  pub gives : turn_of part.face d ≡ Some found
  pub told_so : turn ≡ told part.id found
  pub first : turn ≡ turn_at parts d
  pub awake : get_or woken place false ≡ true

-- what a search among the woken parts finds, by the sums of searches and woken parts before it and after it
abbrev pub IsSearched : List Placed → Domains → List Bool → ℕ → ℕ → Option (ℕ × Turn) → Type 0
IsSearched parts d woken before now None = (now ≤ before) × (Quiet ≡ turn_at parts d)
IsSearched parts d woken before now (Some found) = (now ≤ before + 1) × IsFound parts d woken found.0 found.1

-- each place that is listed for a variable is one of so many
abbrev pub ArePlaces : ℕ → List (List ℕ) → Type 0
ArePlaces n lists = (x : ℕ) → Each (λ k. k < n) (get_or lists x [])

-- what an engine keeps of its parts: they are those of the roster, the index has them by their variables, those that are not woken
-- have no turn, now and at each earlier point, its states begin with the initial one, and it is known whether some variable has no value left
pub record IsTracked (e : Propagation) (roster : Listed) (lists : List (List ℕ)) (h : History) (dead : Bool) : Type 0 where
  pub engine : IsEngine e
  pub parts : all_placed roster ≡ parts_of e
  pub count : length h.now ≡ length (parts_of e)
  pub lasting : h.lasting ≤ length (parts_of e)
  pub index : IsIndex (length e.problem.initial) (parts_of e) lists
  pub kept : IsKept (parts_of e) h (record { past = e.past; present = e.present })
  pub start : Begins (e.problem.initial ∷ []) (states e)
  pub known : dead ≡ is_dead e.present

-- the first place at which a part is woken
pub record IsFirstWoken (woken : List Bool) (place : ℕ) : Type 0 where
  pub there : place < length woken
  pub woken_there : get_or woken place false ≡ true
  pub before : (k : ℕ) → k < place → get_or woken k false ≡ false

-- no part before the place is woken
abbrev pub AreResting : ℕ → List Bool → Type 0
AreResting place woken = (k : ℕ) → k < place → get_or woken k false ≡ false

-- the places stand in blocks of 512, each with a mark; no part in a block that is not marked is woken
pub record AreMarked (marks woken : List Bool) : Type 0 where
  pub reach : length woken ≤ 512 * length marks
  pub resting : (k : ℕ) → get_or marks (k / 512) false ≡ false → get_or woken k false ≡ false
