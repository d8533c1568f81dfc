-- The steps in one list of atoms: one more, one found by its number, all of them in turn.
use Rattle.std.proofs.Common.{◌≡◌, ℕ, ◌+◌, ◌-◌, ◌≤◌, Bool, ◌||◌, nat_eq, is_some, Option, Some, None, List, [], ◌∷◌, ◌++◌, length, take, drop, refl, sym, ◌∙◌, ap, subst, arith, length-append, length-drop}
use Rattle.std.specs.Prelude.{IfSome}
use Rattle.std.specs.List.{list_any}
use Rattle.std.specs.Map.{values_of}
use Rattle.std.specs.Option.{option_map}
use Rattle.std.proofs.lemmas.List.{drop-append-le, drop_at, map-append, take-append-le, take_all}
use Rattle.std.proofs.lemmas.Map.Made.{lookup-map_values}
use Rattle.dp_base.specs.Lists.{Each}
use Rattle.dp_base.proofs.Lists.{Each-append}
use Rattle.dp_domain.specs.Atoms.{Atomic}
use Rattle.dp_domain.specs.States.{Domains, entails_all}
use Rattle.dp_checker.specs.Kept.{AreBelow}
use Rattle.dp_checker.specs.Known.{found}
use Rattle.dp_checker.specs.SoundnessLaws.{found_each}
use Rattle.dp_checker.specs.Stored.{AreStored, IsStored, run_of, steps_of}
use Rattle.dp_checker.specs.declared.steps.Run.{Run}

-- more atoms behind it leave a step as it was
run_more : (atoms more : List Atomic) (r : Run) → IsStored atoms r → run_of (atoms ++ more) r ≡ run_of atoms r
run_more atoms more r s =
    let start : r.start ≤ length atoms = (let o = s.order in let w = s.within in omega arith) in
    let count : r.end - r.start ≤ length (drop r.start atoms) = (let o = s.order in let w = s.within in let n : length (drop r.start atoms) ≡ length atoms - r.start = length-drop r.start atoms in omega arith) in
    ap (take (r.end - r.start)) (drop-append-le r.start atoms more start) ∙ take-append-le (r.end - r.start) (drop r.start atoms) more count

stored_more : (atoms more : List Atomic) (r : Run) → IsStored atoms r → IsStored (atoms ++ more) r
stored_more atoms more r s = record {
  order = s.order;
  within = (let n : length (atoms ++ more) ≡ length atoms + length more = length-append atoms more in let w = s.within in omega arith);
}

steps_more : (atoms more : List Atomic) (runs : List (ℕ × Run)) → AreStored atoms runs → steps_of (atoms ++ more) runs ≡ steps_of atoms runs
steps_more atoms more [] s = refl
steps_more atoms more (e ∷ runs) s =
    ap (λ (xs : List Atomic). (e.0, xs) ∷ steps_of (atoms ++ more) runs) (run_more atoms more e.1 s.0)
    ∙ ap (λ (es : List (ℕ × List Atomic)). (e.0, run_of atoms e.1) ∷ es) (steps_more atoms more runs s.1)

all_stored_more : (atoms more : List Atomic) (runs : List (ℕ × Run)) → AreStored atoms runs → AreStored (atoms ++ more) runs
all_stored_more atoms more [] s = tt
all_stored_more atoms more (e ∷ runs) s = (stored_more atoms more e.1 s.0, all_stored_more atoms more runs s.1)

-- atoms that are no step's change nothing
pub steps-same : (atoms now more : List Atomic) (runs after : List (ℕ × Run)) → now ≡ atoms ++ more → after ≡ runs → AreStored atoms runs → steps_of now after ≡ steps_of atoms runs
steps-same atoms now more runs after e f s =
    ap (λ (xs : List Atomic). steps_of xs after) e ∙ ap (steps_of (atoms ++ more)) f ∙ steps_more atoms more runs s

pub stored-same : (atoms now more : List Atomic) (runs after : List (ℕ × Run)) → now ≡ atoms ++ more → after ≡ runs → AreStored atoms runs → AreStored now after
stored-same atoms now more runs after e f s =
    subst (λ (xs : List Atomic). AreStored xs after) (sym e) (subst (AreStored (atoms ++ more)) (sym f) (all_stored_more atoms more runs s))

last_run : (atoms more : List Atomic) (r : Run) → r.start ≡ length atoms → r.end ≡ length (atoms ++ more) → run_of (atoms ++ more) r ≡ more
last_run atoms more r a b =
    let count : length more ≤ r.end - r.start = (let n : length (atoms ++ more) ≡ length atoms + length more = length-append atoms more in omega arith) in
    ap (take (r.end - r.start)) (drop_at atoms more r.start (sym a)) ∙ take_all (r.end - r.start) more count

-- the atoms of a new step come behind the others
pub steps-added : (atoms now more : List Atomic) (runs after : List (ℕ × Run)) (id : ℕ) (r : Run) → now ≡ atoms ++ more → r.start ≡ length atoms → r.end ≡ length now
    → after ≡ runs ++ (id, r) ∷ [] → AreStored atoms runs → steps_of now after ≡ steps_of atoms runs ++ (id, more) ∷ []
steps-added atoms now more runs after id r e a b f s =
    let end : r.end ≡ length (atoms ++ more) = b ∙ ap (λ (xs : List Atomic). length xs) e in
    ap (λ (xs : List Atomic). steps_of xs after) e ∙ ap (steps_of (atoms ++ more)) f
    ∙ map-append (λ (p : ℕ × Run). (p.0, run_of (atoms ++ more) p.1)) runs ((id, r) ∷ [])
    ∙ ap (λ (es : List (ℕ × List Atomic)). es ++ (id, run_of (atoms ++ more) r) ∷ []) (steps_more atoms more runs s)
    ∙ ap (λ (xs : List Atomic). steps_of atoms runs ++ (id, xs) ∷ []) (last_run atoms more r a end)

pub stored-added : (atoms now more : List Atomic) (runs after : List (ℕ × Run)) (id : ℕ) (r : Run) → now ≡ atoms ++ more → r.start ≡ length atoms → r.end ≡ length now
    → after ≡ runs ++ (id, r) ∷ [] → AreStored atoms runs → AreStored now after
stored-added atoms now more runs after id r e a b f s =
    let n : length now ≡ length atoms + length more = ap (λ (xs : List Atomic). length xs) e ∙ length-append atoms more in
    let one : IsStored now r = record { order = omega arith; within = omega arith } in
    subst (AreStored now) (sym f)
    (Each-append (λ (p : ℕ × Run). IsStored now p.1) runs ((id, r) ∷ []) (stored-same atoms now more runs runs e refl s) (one, tt))

-- a step is found as its place is
pub found-steps : (atoms : List Atomic) (runs : List (ℕ × Run)) (k : ℕ) → found k (steps_of atoms runs) ≡ option_map (run_of atoms) (found k runs)
found-steps atoms runs k = lookup-map_values (run_of atoms) (nat_eq k) runs

pub found-where : (atoms : List Atomic) (runs : List (ℕ × Run)) (k : ℕ) (o : Option Run) → found k runs ≡ o → found k (steps_of atoms runs) ≡ option_map (run_of atoms) o
found-where atoms runs k o e = found-steps atoms runs k ∙ ap (option_map (run_of atoms)) e

-- and where its place is
some_mapped : (f : Run → List Atomic) (o : Option Run) → is_some o ≡ is_some (option_map f o)
some_mapped f None = refl
some_mapped f (Some r) = refl

pub some-where : (atoms : List Atomic) (runs : List (ℕ × Run)) (k : ℕ) → is_some (found k runs) ≡ is_some (found k (steps_of atoms runs))
some-where atoms runs k = some_mapped (run_of atoms) (found k runs) ∙ ap (λ (o : Option (List Atomic)). is_some o) (sym (found-steps atoms runs k))

-- what is found is stored
pub found-stored : (atoms : List Atomic) (runs : List (ℕ × Run)) (k : ℕ) (r : Run) → AreStored atoms runs → found k runs ≡ Some r → IsStored atoms r
found-stored atoms runs k r s e = subst (λ (o : Option Run). IfSome o (IsStored atoms)) e (found_each (IsStored atoms) k runs s)

none_where : (f : Run → List Atomic) (o : Option Run) → option_map f o ≡ None → o ≡ None
none_where f None e = refl
none_where f (Some r) e = cc

-- a number that is no step's is none's
pub found-none : (atoms : List Atomic) (runs : List (ℕ × Run)) (steps : List (ℕ × List Atomic)) (k : ℕ) → steps_of atoms runs ≡ steps → found k steps ≡ None → found k runs ≡ None
found-none atoms runs steps k e h =
    none_where (run_of atoms) (found k runs) (sym (found-steps atoms runs k) ∙ ap (λ (es : List (ℕ × List Atomic)). found k es) e ∙ h)

-- ---- all steps in turn

-- of so many variables each atom of each of the steps is on one
abbrev pub AreRunsBelow : ℕ → List Atomic → List Run → Type 0
AreRunsBelow n atoms rs = Each (λ r. IsStored atoms r × AreBelow n (run_of atoms r)) rs

-- whether the state entails one of the steps
abbrev pub entails_one : Domains → List Atomic → List Run → Bool
entails_one d atoms rs = list_any (λ r. entails_all d (run_of atoms r)) rs

pub runs-below : (n : ℕ) (atoms : List Atomic) (runs : List (ℕ × Run)) → AreStored atoms runs → Each (λ step. AreBelow n step.1) (steps_of atoms runs) → AreRunsBelow n atoms (values_of runs)
runs-below n atoms [] s b = tt
runs-below n atoms (e ∷ runs) s b = ((s.0, b.0), runs-below n atoms runs s.1 b.1)

pub runs-entailed : (d : Domains) (atoms : List Atomic) (runs : List (ℕ × Run)) → entails_one d atoms (values_of runs) ≡ list_any (λ step. entails_all d step.1) (steps_of atoms runs)
runs-entailed d atoms [] = refl
runs-entailed d atoms (e ∷ runs) = ap (λ (b : Bool). entails_all d (run_of atoms e.1) || b) (runs-entailed d atoms runs)
