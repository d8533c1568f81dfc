-- The lines of a written scaffold, one by one: those of defined atoms, a nogood's, and the conclusion's.
use Rattle.std.proofs.Common.{◌≡◌, ℕ, ◌+◌, ◌<◌, ◌≤◌, Bool, true, false, not, ◌&&◌, cond, Option, Some, None, Ok, is_none, is_some, List, [], ◌∷◌, ◌++◌, length, sym, ap, ◌∙◌, refl, arith}
use Rattle.std.specs.List.{list_all, list_any, sum_by}
use Rattle.std.specs.Option.{option_map}
use Rattle.std.proofs.lemmas.List.{length-map}
use Rattle.std.proofs.lemmas.List.Sums.{sum_by_push}
use Rattle.dp_base.specs.Lists.{Each}
use Rattle.dp_checker.specs.Judged.{has_goal, is_bound, or_else}
use Rattle.dp_checker.specs.Known.{first_undefined, found, literal_atoms}
use Rattle.dp_domain.specs.Atoms.{Atomic}
use Rattle.dp_domain.specs.declared.verdict.Verdict.{Verdict}
use Rattle.dp_domain.specs.declared.verdict.Verdict.TheVariants.{Unsat, Bound}
use Rattle.dp_judge.specs.Logs.{IsOfGoal}
use Rattle.dp_lines.specs.declared.line.Line.TheVariants.{Nogood as nogood_line}
use Rattle.dp_parts.specs.declared.goal.Goal.{Goal}
use Rattle.dp_parts.specs.declared.goal.Goal.TheVariants.{Satisfy, Minimize, Maximize}
use Rattle.dp_parts.specs.Posed.{Posed}
use Rattle.dp_parts.specs.Problems.{Csp, posed}
use Rattle.dp_replay.specs.Judging.{LeadsTo}
use Rattle.dp_replay.proofs.EntryLemmas.{entries, entries_push, found_behind}
use Rattle.dp_replay.proofs.StepLemmas.{IsRead, literals_defined, literals_read}
use Rattle.dp_rule_clause.specs.Nogoods.{IsOnce, each_once}
use Rattle.dp_scaffold.specs.Gathering.{Gathered, has_room, most_literals, most_nogoods, unless, with_atom, with_claim}
use Rattle.dp_scaffold.specs.declared.refusal.GatherWhy.TheVariants.{AtomTwice, NoGoal, StepTwice, TooMany, UnknownAtom, UnknownVar, WrongBound}
use Rattle.dp_writer.specs.Atoms.{Named, named_defined, same}
use Rattle.dp_writer.specs.Numbering.{line_if_new, new_lines, with_atom as table_with, with_atoms}
use Rattle.dp_writer.specs.Steps.{atoms_in, atoms_of, definition, line_of_bound, literals_in}
use Rattle.dp_writer.specs.Written.{bound_of, conclusion, named}
use Rattle.fz_prove.proofs.AtomLemmas.{defined_leads, once_whole}
use Rattle.fz_prove.proofs.GatherLemmas.{Gathers, gathers_append, gathers_line}
use Rattle.fz_prove.proofs.NumberLemmas.{has_place, number_new, numbers, numbers_push}

-- what is said of these defined atoms and these nogoods, which stand on these lines, before a claim
abbrev pub said : List Atomic → List (List Atomic) → List ℕ → Gathered
said table nogoods places = record {
  atoms = entries 0 table;
  steps = numbers 0 nogoods;
  literals = sum_by length nogoods;
  nogoods = nogoods;
  lines = places;
  ids = numbers 0 nogoods;
  claim = None;
}

-- the same with the claim, which stands on this line
abbrev pub closed : List Atomic → List (List Atomic) → List ℕ → ℕ → Verdict → Gathered
closed table nogoods places n claim = with_claim (said table nogoods places) n (Some claim)

-- ---- defined atoms

module _ (p : Posed) (nogoods : List (List Atomic)) (places : List ℕ) where
  -- the line of an atom that is new is gathered as the atom with the next number
  defined_once : (table : List Atomic) (n : ℕ) (d : Named) → LeadsTo p d
      → Gathers p n (said table nogoods places) (definition (length table + 1) d ∷ []) (said (table ++ d.atom ∷ []) nogoods places)
  defined_once table n d names =
      let unseen : found (length table + 1) (entries 0 table) ≡ None = found_behind 0 (length table + 1) table (omega arith) in
      gathers_line p n (said table nogoods places) (definition (length table + 1) d)
      (λ j. or_else (unless (is_some (names j)) UnknownVar) (unless (is_none (unseen j)) AtomTwice))
      ∙ ap (λ (o : Option ℕ). Ok (with_atom (said table nogoods places) (length table + 1) d.atom.op d.atom.value o)) names
      ∙ ap (λ (l : List (ℕ × Atomic)). Ok (record { atoms = l; steps = numbers 0 nogoods; literals = sum_by length nogoods; nogoods = nogoods; lines = places; ids = numbers 0 nogoods; claim = None }))
      (entries_push 0 (length table) table d.atom (omega arith))

  -- an atom that is new is defined, and another is not
  defined_if : (table : List Atomic) (n : ℕ) (d : Named) → LeadsTo p d → (b : Bool)
      → Gathers p n (said table nogoods places) (cond b [] (definition (length table + 1) d ∷ [])) (said (cond b table (table ++ d.atom ∷ [])) nogoods places)
  defined_if table n d names true = refl
  defined_if table n d names false = defined_once table n d names

  -- so with atoms, each in turn
  pub atoms_gather : (table : List Atomic) (n : ℕ) (atoms : List Named) → Each (LeadsTo p) atoms
      → Gathers p n (said table nogoods places) (new_lines table atoms) (said (with_atoms table atoms) nogoods places)
  atoms_gather table n [] names = refl
  atoms_gather table n (a ∷ atoms) names =
      let d : Named = named_defined a in
      let next : List Atomic = table_with table d.atom in
      let own = line_if_new table d in
      gathers_append p n (said table nogoods places) (said next nogoods places) (said (with_atoms next atoms) nogoods places) own (new_lines next atoms)
      (defined_if table n d (defined_leads p a names.0) (list_any (same d.atom) table))
      (atoms_gather next (n + length own) atoms names.1)

-- ---- a nogood

module _ (p : Posed) (table : List Atomic) (nogoods : List (List Atomic)) (places : List ℕ) (used : List Named)
    (reads : Each (IsRead table) used) (once : IsOnce (atoms_in used)) where
  -- a literal for each atom
  same_length : length (literals_in table used) ≡ length (atoms_in used)
  same_length = length-map used _ ∙ sym (length-map used (λ (a : Named). a.atom))

  -- the literals' atoms, each once, are the nogood's
  kept_atoms : each_once (literal_atoms (entries 0 table) (literals_in table used)) ≡ atoms_in used
  kept_atoms = ap each_once (literals_read table used reads) ∙ once_whole (atoms_in used) once

  -- its literals are counted
  more_literals : sum_by length nogoods + length (literals_in table used) ≡ sum_by length (nogoods ++ atoms_in used ∷ [])
  more_literals = ap (λ (k : ℕ). sum_by length nogoods + k) same_length ∙ sym (sum_by_push length nogoods (atoms_in used))

  -- its line is gathered as the nogood of its atoms, where there is room
  pub nogood_gathers : (n id : ℕ) → id ≡ length nogoods + 1 → length nogoods < most_nogoods → sum_by length nogoods + length (atoms_in used) ≤ most_literals
      → Gathers p n (said table nogoods places) (nogood_line id (literals_in table used) [] ∷ []) (said table (nogoods ++ atoms_in used ∷ []) (places ++ n ∷ []))
  nogood_gathers n id is few small =
      let here : first_undefined (entries 0 table) (literals_in table used) ≡ None = literals_defined table used reads in
      let new = number_new 0 id nogoods (omega arith) in
      let room : has_room (said table nogoods places) (length (literals_in table used)) ≡ true =
      has_place (length nogoods) (sum_by length nogoods + length (literals_in table used)) few (omega (arith, same_length, small)) in
      let ids = numbers_push 0 id nogoods (atoms_in used) (omega arith) in
      gathers_line p n (said table nogoods places) (nogood_line id (literals_in table used) [])
      (λ j. or_else (or_else (option_map UnknownAtom (here j)) (unless (not (new j)) StepTwice)) (unless (room j) TooMany))
      ∙ (λ j. Ok (record {
        atoms = entries 0 table;
        steps = ids j;
        literals = more_literals j;
        nogoods = nogoods ++ kept_atoms j ∷ [];
        lines = places ++ n ∷ [];
        ids = ids j;
        claim = None;
      }))

-- ---- a claim

-- where an atom is a bound on the goal, there is a goal
has_some : (goal : Goal) (a : Atomic) → is_bound goal a ≡ true → has_goal goal ≡ true
has_some Satisfy a h = h
has_some (Minimize x) a h = refl
has_some (Maximize x) a h = refl

-- its line is gathered as the claim
pub claim_gathers : (p : Csp) (table : List Atomic) (nogoods : List (List Atomic)) (places : List ℕ) (n : ℕ) (claim : Verdict)
    → Each (IsRead table) (atoms_of (conclusion p claim)) → IsOfGoal p claim
    → Gathers (posed p) n (said table nogoods places) (line_of_bound table (bound_of p claim) ∷ []) (closed table nogoods places n claim)
claim_gathers p table nogoods places n Unsat reads aimed = refl
claim_gathers p table nogoods places n (Bound a) reads aimed =
    let b : Named = named p a in
    let is : literal_atoms (entries 0 table) (literals_in table (b ∷ [])) ≡ a ∷ [] = literals_read table (b ∷ []) reads in
    let here : first_undefined (entries 0 table) (literals_in table (b ∷ [])) ≡ None = literals_defined table (b ∷ []) reads in
    let goal = has_some p.goal a aimed.0 in
    let fits = ap (λ (l : List Atomic). list_all (is_bound p.goal) l) is ∙ ap (λ (t : Bool). t && true) aimed.0 in
    gathers_line (posed p) n (said table nogoods places) (line_of_bound table (Some b))
    (λ j. or_else (option_map UnknownAtom (here j)) (or_else (unless (goal j) NoGoal) (unless (fits j) WrongBound)))
    ∙ ap (λ (o : Option Atomic). Ok (with_claim (said table nogoods places) n (option_map Bound o))) reads.0
