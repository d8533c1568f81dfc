-- Woken parts now and at earlier points.
use Rattle.std.specs.Prelude.{◌≡◌, ℕ, ◌<◌, nat_lt, Bool, true, false, List, [], ◌∷◌, length, get_or, slice_get, slice_set, reverse, Some, None, if◌then◌else◌}
use Rattle.dp_base.specs.Lists.{Among, Each}
use Rattle.dp_domain.specs.Faces.{AgreesOn}
use Rattle.dp_domain.specs.States.{Domains}
use Rattle.dp_engine.specs.declared.debts.Note.{Note}
use Rattle.dp_engine.specs.declared.debts.Note.TheVariants.{Left, Was}
use Rattle.dp_engine.specs.Placed.{Placed}
use Rattle.dp_engine.specs.Trails.{Course}
use Rattle.dp_engine.specs.Rests.{Rest}

-- which parts are woken, the notes that lead back to earlier points, the last one first, and how many parts every point had
pub record History : Type 0 where
  pub notes : List Note
  pub now : List Bool
  pub lasting : ℕ

-- the present point left
abbrev pub left : History → History
left h = record { notes = Left ∷ h.notes; now = h.now; lasting = h.lasting }

-- a part woken, with a note
abbrev pub touched : History → ℕ → History
touched h k = record { notes = Was k (get_or h.now k false) ∷ h.notes; now = slice_set h.now k true; lasting = h.lasting }

-- these parts woken one after the other
abbrev pub touched_each : History → List ℕ → History
touched_each h [] = h
touched_each h (k ∷ ks) = touched_each (touched h k) ks

-- some parts are woken, of which P holds
abbrev pub IsTouched : History → History → (List ℕ → Type 0) → Type 0
IsTouched before now P = (done : List ℕ) × (now ≡ touched_each before done) × P done

-- a part put to rest, with a note if some point did not have it
abbrev pub rested : History → ℕ → History
rested h k = record { notes = if nat_lt k h.lasting then h.notes else (Was k true ∷ h.notes); now = slice_set h.now k false; lasting = h.lasting }

-- the point that was left last
abbrev pub gone : ℕ → List Note → List Bool → History
gone n [] w = record { notes = []; now = w; lasting = n }
gone n (Left ∷ es) w = record { notes = es; now = w; lasting = n }
gone n (Was k b ∷ es) w = gone n es (slice_set w k b)

-- of the first so many parts those that are not touched see the same sets
abbrev pub IsStep : List Placed → ℕ → List ℕ → Domains → Domains → Type 0
IsStep parts n touches d e = (length e ≡ length d)
    × ((k : ℕ) (q : Placed) → k < n → slice_get parts k ≡ Some q → (Among k touches → ⊥) → AgreesOn q.face.scope d e)

-- at each earlier point, the last one first, the parts that were not woken had no turn; by the parts touched since the last of them
abbrev pub AreKept : List Placed → ℕ → List Note → List ℕ → List Bool → Domains → List Domains → Type 0
AreKept parts n [] touches w e past = past ≡ []
AreKept parts n (Was k b ∷ es) touches w e past = (k < length w) × AreKept parts n es (k ∷ touches) (slice_set w k b) e past
AreKept parts n (Left ∷ es) touches w e [] = ⊥
AreKept parts n (Left ∷ es) touches w e (d ∷ past) = Rest parts w d × IsStep parts n touches d e × AreKept parts n es [] w d past

-- the parts that are not woken have no turn, now and at each earlier point
pub record IsKept (parts : List Placed) (h : History) (c : Course) : Type 0 where
  pub rest : Rest parts h.now c.present
  pub earlier : AreKept parts h.lasting h.notes [] h.now c.present (reverse c.past)
