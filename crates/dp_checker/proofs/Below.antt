-- What is known speaks of the problem's variables alone, and holds of it: line by line.
use Rattle.std.proofs.Common.{◌≡◌, ℕ, ◌<◌, Bool, true, false, Option, Some, None, List, [], ◌∷◌, length, map, ℤ, pos, negsuc, ◌+◌, cond, sym, subst}
use Rattle.std.specs.Prelude.{IfSome}
use Rattle.std.specs.Option.{option_map}
use Rattle.std.specs.Map.{lookup}
use Rattle.std.specs.Str.{bytes_eq}
use Rattle.dp_base.specs.Lists.{Each}
use Rattle.dp_base.specs.Names.{named}
use Rattle.dp_base.proofs.Lists.{Each-append}
use Rattle.dp_domain.specs.Atoms.{Atomic, negated}
use Rattle.dp_domain.specs.States.{Domains}
use Rattle.dp_domain.specs.declared.atom.Op.{Op}
use Rattle.dp_lines.specs.declared.line.Line.{Line}
use Rattle.dp_lines.specs.declared.line.Line.TheVariants.{Atom, Inference, Nogood, Delete, Conclude}
use Rattle.dp_parts.specs.Problems.{Csp, IsProblem, posed}
use Rattle.dp_parts.specs.ProblemLaws.{soundly_posed}
use Rattle.dp_checker.specs.Judged.{after, against, first_refusal, inference_denial, with_atom}
use Rattle.dp_checker.specs.Kept.{AreBelow, IsKept}
use Rattle.dp_checker.specs.Known.{Known, cons_some, found, literal_atom, literal_atoms}
use Rattle.dp_checker.specs.SoundnessLaws.{backed_after, found_each}

negated_below : (n : ℕ) (o : Option Atomic) → IfSome o (λ a. a.var < n) → IfSome (option_map negated o) (λ a. a.var < n)
negated_below n None h = tt
negated_below n (Some a) h = h

-- a literal's atom is on one of the variables
pub literal_below : (n : ℕ) (atoms : List (ℕ × Atomic)) → Each (λ entry. entry.1.var < n) atoms → (l : ℤ) → IfSome (literal_atom atoms l) (λ a. a.var < n)
literal_below n atoms kept (pos k) = found_each (λ a. a.var < n) k atoms kept
literal_below n atoms kept (negsuc k) = negated_below n (found (k + 1) atoms) (found_each (λ a. a.var < n) (k + 1) atoms kept)

cons_below : (n : ℕ) (o : Option Atomic) (atoms : List Atomic) → IfSome o (λ a. a.var < n) → AreBelow n atoms → AreBelow n (cons_some o atoms)
cons_below n None atoms h e = e
cons_below n (Some a) atoms h e = (h, e)

pub literals_below : (n : ℕ) (atoms : List (ℕ × Atomic)) → Each (λ entry. entry.1.var < n) atoms → (ls : List ℤ) → AreBelow n (literal_atoms atoms ls)
literals_below n atoms kept [] = tt
literals_below n atoms kept (l ∷ ls) = cons_below n (literal_atom atoms l) (literal_atoms atoms ls) (literal_below n atoms kept l) (literals_below n atoms kept ls)

-- atoms on the variables of the initial state are on those of a state that is the same
pub below_base : (base initial : Domains) (atoms : List Atomic) → base ≡ initial → AreBelow (length initial) atoms → AreBelow (length base) atoms
below_base base initial atoms same below = subst (λ (d : Domains). AreBelow (length d) atoms) (sym same) below

map_negated_below : (n : ℕ) (atoms : List Atomic) → AreBelow n atoms → AreBelow n (map negated atoms)
map_negated_below n [] e = tt
map_negated_below n (a ∷ atoms) e = (e.0, map_negated_below n atoms e.1)

pub against_below : (n : ℕ) (atoms : List (ℕ × Atomic)) → Each (λ entry. entry.1.var < n) atoms → (o : Option ℤ) → AreBelow n (against atoms o)
against_below n atoms kept None = tt
against_below n atoms kept (Some l) = map_negated_below n (literal_atoms atoms (l ∷ [])) (literals_below n atoms kept (l ∷ []))

pub inference_below : (n : ℕ) (atoms : List (ℕ × Atomic)) → Each (λ entry. entry.1.var < n) atoms → (premises : List ℤ) (consequent : Option ℤ) → AreBelow n (inference_denial atoms premises consequent)
inference_below n atoms kept premises consequent =
    Each-append (λ a. a.var < n) (literal_atoms atoms premises) (against atoms consequent) (literals_below n atoms kept premises) (against_below n atoms kept consequent)

where_some : {A : Type 0} (P : A → Type 0) (b : Bool) (x : A) (o : Option A) → P x → IfSome o P → IfSome (cond b (Some x) o) P
where_some P true x o h e = h
where_some P false x o h e = e

found_where : {K A : Type 0} (P : A → Type 0) (test : K → Bool) (entries : List (K × A)) → Each (λ entry. P entry.1) entries → IfSome (lookup test entries) P
found_where P test [] e = tt
found_where P test (entry ∷ entries) e = where_some P (test entry.0) entry.1 (lookup test entries) e.0 (found_where P test entries e.1)

atoms_with : (n : ℕ) (known : Known) (id : ℕ) (op : Op) (value : ℤ) (o : Option ℕ) → IfSome o (λ x. x < n) → Each (λ entry. entry.1.var < n) known.atoms
    → Each (λ entry. entry.1.var < n) (with_atom known id op value o).atoms
atoms_with n known id op value None h e = e
atoms_with n known id op value (Some x) h e = Each-append (λ (entry : ℕ × Atomic). entry.1.var < n) known.atoms ((id, record { var = x; op = op; value = value }) ∷ []) e (h, tt)

steps_with : (n : ℕ) (known : Known) (id : ℕ) (op : Op) (value : ℤ) (o : Option ℕ) → Each (λ entry. AreBelow n entry.1) known.steps
    → Each (λ entry. AreBelow n entry.1) (with_atom known id op value o).steps
steps_with n known id op value None e = e
steps_with n known id op value (Some x) e = e

atoms_after : (p : Csp) → IsProblem p → (known : Known) → IsKept p known → (line : Line) → Each (λ entry. entry.1.var < length p.initial) (after (posed p) known line).atoms
atoms_after p whole known kept (Atom id name op value) =
    atoms_with (length p.initial) known id op value (named p.names name) (found_where (λ x. x < length p.initial) (bytes_eq name) p.names whole.names) kept.atoms
atoms_after p whole known kept (Inference id premises consequent constraint label) = kept.atoms
atoms_after p whole known kept (Nogood id atoms hints) = kept.atoms
atoms_after p whole known kept (Delete id) = kept.atoms
atoms_after p whole known kept (Conclude claim) = kept.atoms

steps_after : (p : Csp) (known : Known) → IsKept p known → (line : Line) → Each (λ entry. AreBelow (length p.initial) entry.1) (after (posed p) known line).steps
steps_after p known kept (Atom id name op value) = steps_with (length p.initial) known id op value (named p.names name) kept.steps
steps_after p known kept (Inference id premises consequent constraint label) =
    Each-append (λ (entry : ℕ × List Atomic). AreBelow (length p.initial) entry.1) known.steps ((id, inference_denial known.atoms premises consequent) ∷ []) kept.steps
    (inference_below (length p.initial) known.atoms kept.atoms premises consequent, tt)
steps_after p known kept (Nogood id atoms hints) =
    Each-append (λ (entry : ℕ × List Atomic). AreBelow (length p.initial) entry.1) known.steps ((id, literal_atoms known.atoms atoms) ∷ []) kept.steps
    (literals_below (length p.initial) known.atoms kept.atoms atoms, tt)
steps_after p known kept (Delete id) = kept.steps
steps_after p known kept (Conclude claim) = kept.steps

-- a line that no test refuses keeps what is kept
pub kept_after : (p : Csp) → IsProblem p → (known : Known) → IsKept p known → (line : Line) → first_refusal (posed p) known line ≡ None → IsKept p (after (posed p) known line)
kept_after p whole known kept line e = record {
  atoms = atoms_after p whole known kept line;
  steps = steps_after p known kept line;
  backed = backed_after (posed p) (soundly_posed p whole) known kept.backed line e;
}
