-- The lines of a written scaffold's steps, behind those of earlier steps.
use Rattle.std.proofs.Common.{◌≡◌, ℕ, zero, suc, ◌+◌, ◌<◌, ◌≤◌, Some, List, [], ◌∷◌, ◌++◌, length, map, ℤ, pos, negsuc, sym, ap, ◌∙◌, subst, refl, append_assoc, arith}
use Rattle.std.proofs.lemmas.List.{append-nil, length-append}
use Rattle.std.proofs.lemmas.Grind.{flat_map-append}
use Rattle.std.specs.List.{flat_map, sum_by}
use Rattle.std.specs.Option.{option_map}
use Rattle.dp_base.specs.Lists.{Each}
use Rattle.dp_base.proofs.Lists.{Each-append_parts, Each-weaker}
use Rattle.dp_checker.specs.Known.{literal_atom}
use Rattle.dp_domain.specs.Atoms.{Atomic, negated}
use Rattle.dp_domain.specs.States.{AreOf}
use Rattle.dp_domain.specs.declared.verdict.Verdict.{Verdict}
use Rattle.dp_judge.specs.Logs.{IsOfGoal}
use Rattle.dp_lines.specs.declared.line.Line.{Line}
use Rattle.dp_parts.specs.Posed.{Posed}
use Rattle.dp_parts.specs.Problems.{Csp, IsProblem, LeadBack, posed}
use Rattle.dp_replay.specs.Judging.{LeadsTo}
use Rattle.dp_replay.proofs.EntryLemmas.{entries, found_at, found_below}
use Rattle.dp_replay.proofs.StepLemmas.{IsRead}
use Rattle.dp_rule_clause.specs.Nogoods.{IsOnce}
use Rattle.dp_scaffold.specs.Gathering.{Gathered, most_literals, most_nogoods}
use Rattle.dp_scaffold.specs.Scaffolds.{nogood_of}
use Rattle.dp_writer.specs.Atoms.{Named, literal_in}
use Rattle.dp_writer.specs.Numbering.{new_lines, with_atoms}
use Rattle.dp_writer.specs.Reading.{atom_of}
use Rattle.dp_writer.specs.Steps.{Step, atoms_in, atoms_of, count_of, line_of, lines_after, lines_of, table}
use Rattle.dp_writer.specs.Written.{conclusion, named, nogood}
use Rattle.dp_writer.proofs.FirstLemmas.{atoms_after, lines_are}
use Rattle.dp_writer.proofs.ReadingLemmas.{are_read}
use Rattle.dp_writer.proofs.WrittenLemmas.{count_push}
use Rattle.fz_prove.proofs.AtomLemmas.{atoms_named, claim_leads, nogood_leads}
use Rattle.fz_prove.proofs.GatherLemmas.{Gathers, gathers_append}
use Rattle.fz_prove.proofs.LineLemmas.{atoms_gather, claim_gathers, closed, nogood_gathers, said}
use Rattle.fz_prove.proofs.NumberLemmas.{few_so_far, small_so_far}

-- ---- literals

-- a literal is looked up by its number's place
read_is : (atoms : List Atomic) (l : ℤ) → literal_atom (entries 0 atoms) l ≡ atom_of atoms l
read_is atoms (pos zero) = found_below 0 0 atoms (omega arith)
read_is atoms (pos (suc place)) = found_at 0 (suc place) place atoms (omega arith)
read_is atoms (negsuc n) = ap (option_map negated) (found_at 0 (n + 1) n atoms (omega arith))

-- the defined atoms of steps
abbrev pub known : List Step → List Atomic
known steps = atoms_in (table steps)

-- the literals of the last step stand for its atoms
pub last_read : (earlier : List Step) (step : Step) → Each (IsRead (known (earlier ++ step ∷ []))) (atoms_of step)
last_read earlier step =
    let whole : List Step = earlier ++ step ∷ [] in
    let atoms : List Atomic = known whole in
    let at_end : flat_map atoms_of whole ≡ flat_map atoms_of earlier ++ atoms_of step =
    flat_map-append atoms_of earlier (step ∷ []) ∙ ap (λ (l : List Named). flat_map atoms_of earlier ++ l) (append-nil (atoms_of step)) in
    let all : Each (IsRead atoms) (flat_map atoms_of whole) =
    Each-weaker (λ (a : Named). atom_of atoms (literal_in atoms a.atom) ≡ Some a.atom) (IsRead atoms) (λ a e. read_is atoms (literal_in atoms a.atom) ∙ e)
    (flat_map atoms_of whole) (are_read whole) in
    (Each-append_parts (IsRead atoms) (flat_map atoms_of earlier) (atoms_of step) (subst (Each (IsRead atoms)) at_end all)).1

-- ---- one step

-- the lines of a step's new atoms, then its own
step_gathers : (p : Posed) (earlier : List Step) (done : List (List Atomic)) (places : List ℕ) (n : ℕ) (step : Step) (later : ℕ → Gathered)
    → Each (LeadsTo p) (atoms_of step)
    → ((m : ℕ) → Gathers p m (said (known (earlier ++ step ∷ [])) done places) (line_of (known (earlier ++ step ∷ [])) (count_of earlier + 1) step ∷ []) (later m))
    → Gathers p n (said (known earlier) done places) (lines_of earlier step) (later (n + length (new_lines (known earlier) (atoms_of step))))
step_gathers p earlier done places n step later names own =
    let new : List Line = new_lines (known earlier) (atoms_of step) in
    let m : ℕ = n + length new in
    let turned : Gathers p m (said (with_atoms (known earlier) (atoms_of step)) done places) (line_of (with_atoms (known earlier) (atoms_of step)) (count_of earlier + 1) step ∷ []) (later m) =
    subst (λ (t : List Atomic). Gathers p m (said t done places) (line_of t (count_of earlier + 1) step ∷ []) (later m)) (sym (atoms_after earlier step)) (own m) in
    subst (λ (ls : List Line). Gathers p n (said (known earlier) done places) ls (later m)) (lines_are earlier step)
    (gathers_append p n (said (known earlier) done places) (said (with_atoms (known earlier) (atoms_of step)) done places) (later m) new
    (line_of (with_atoms (known earlier) (atoms_of step)) (count_of earlier + 1) step ∷ [])
    (atoms_gather p done places (known earlier) n (atoms_of step) names) turned)

-- ---- all steps

-- the lines behind earlier steps say these nogoods behind those done, and this claim
abbrev pub Says : Csp → ℕ → List Step → List (List Atomic) → List ℕ → List Step → List (List Atomic) → Verdict → Type 0
Says p n earlier done places steps nogoods claim =
    (later : Gathered) × Gathers (posed p) n (said (known earlier) done places) (lines_after earlier steps) later
    × (later.nogoods ≡ nogoods ++ nogood_of claim ∷ []) × (later.claim ≡ Some claim)

-- the steps of nogoods and a claim
abbrev pub written : Csp → List (List Atomic) → Verdict → List Step
written p nogoods claim = map (λ atoms. nogood p atoms []) nogoods ++ conclusion p claim ∷ []

-- the nogoods are of the problem's variables, and have no atom twice
abbrev pub IsWritable : Csp → List Atomic → Type 0
IsWritable p atoms = AreOf p.initial atoms × IsOnce atoms

-- the steps behind earlier ones, whose nogoods are done
module _ (p : Csp) (problem : IsProblem p) (back : LeadBack p.names) (claim : Verdict) (aimed : IsOfGoal p claim) where
  -- the conclusion says the claim behind all that is done
  pub last_says : (earlier : List Step) (done : List (List Atomic)) (places : List ℕ) (n : ℕ) → Says p n earlier done places (conclusion p claim ∷ []) done claim
  last_says earlier done places n =
      let step : Step = conclusion p claim in
      let atoms : List Atomic = known (earlier ++ step ∷ []) in
      let m : ℕ = n + length (new_lines (known earlier) (atoms_of step)) in
      let led : Gathers (posed p) n (said (known earlier) done places) (lines_of earlier step) (closed atoms done places m claim) =
      step_gathers (posed p) earlier done places n step (λ (k : ℕ). closed atoms done places k claim) (claim_leads p problem back claim aimed)
      (λ k. claim_gathers p atoms done places k claim (last_read earlier step) aimed) in (
        closed atoms done places m claim,
        subst (λ (ls : List Line). Gathers (posed p) n (said (known earlier) done places) ls (closed atoms done places m claim)) (sym (append-nil (lines_of earlier step))) led,
        refl,
        refl,
      )

  -- one nogood more is done
  pub nogood_done : (earlier : List Step) (done : List (List Atomic)) (places : List ℕ) (n : ℕ) (atoms : List Atomic) → IsWritable p atoms
      → count_of earlier ≡ length done → length done < most_nogoods → sum_by length done + length atoms ≤ most_literals
      → (m : ℕ) × Gathers (posed p) n (said (known earlier) done places) (lines_of earlier (nogood p atoms []))
      (said (known (earlier ++ nogood p atoms [] ∷ [])) (done ++ atoms ∷ []) (places ++ m ∷ []))
  nogood_done earlier done places n atoms fit count few small =
      let step : Step = nogood p atoms [] in
      let used : List Named = map (named p) atoms in
      let now : List Atomic = known (earlier ++ step ∷ []) in
      let same : atoms_in used ≡ atoms = atoms_named p atoms in
      let room : sum_by length done + length (atoms_in used) ≤ most_literals =
      subst (λ (l : List Atomic). sum_by length done + length l ≤ most_literals) (sym same) small in
      let led =
      step_gathers (posed p) earlier done places n step (λ (k : ℕ). said now (done ++ atoms_in used ∷ []) (places ++ k ∷ [])) (nogood_leads p problem back atoms fit.0)
      (λ k. nogood_gathers (posed p) now done places used (last_read earlier step) (subst IsOnce (sym same) fit.1) k (count_of earlier + 1) (omega (arith, count)) few room) in
      let m : ℕ = n + length (new_lines (known earlier) (atoms_of step)) in
      (m, subst (λ (l : List Atomic). Gathers (posed p) n (said (known earlier) done places) (lines_of earlier step) (said now (done ++ l ∷ []) (places ++ m ∷ []))) same led)

  -- more nogoods and the claim are said behind those done
  pub all_say : (earlier : List Step) (done : List (List Atomic)) (places : List ℕ) (n : ℕ) (more : List (List Atomic)) → Each (IsWritable p) more
      → count_of earlier ≡ length done → length (done ++ more) ≤ most_nogoods → sum_by length (done ++ more) ≤ most_literals
      → Says p n earlier done places (written p more claim) (done ++ more) claim
  all_say earlier done places n [] fit count few small =
      subst (λ (l : List (List Atomic)). Says p n earlier done places (written p [] claim) l claim) (sym (append-nil done)) (last_says earlier done places n)
  all_say earlier done places n (atoms ∷ more) fit count few small =
      let step : Step = nogood p atoms [] in
      let next : List Step = earlier ++ step ∷ [] in
      let now : List (List Atomic) = done ++ atoms ∷ [] in
      let moved : now ++ more ≡ done ++ atoms ∷ more = append_assoc done (atoms ∷ []) more in
      let one = nogood_done earlier done places n atoms fit.0 count (few_so_far most_nogoods done atoms more few) (small_so_far length most_literals done atoms more small) in
      let reached : List ℕ = places ++ one.0 ∷ [] in
      let counted : count_of next ≡ length now =
      (let e : count_of next ≡ count_of earlier + 1 = count_push earlier step in let f : length now ≡ length done + 1 = length-append done (atoms ∷ []) in omega (arith, e, f, count)) in
      let rest : Says p (n + length (lines_of earlier step)) next now reached (written p more claim) (now ++ more) claim =
      all_say next now reached (n + length (lines_of earlier step)) more fit.1 counted
      (subst (λ (l : List (List Atomic)). length l ≤ most_nogoods) (sym moved) few)
      (subst (λ (l : List (List Atomic)). sum_by length l ≤ most_literals) (sym moved) small) in (
        rest.0,
        gathers_append (posed p) n (said (known earlier) done places) (said (known next) now reached) rest.0 (lines_of earlier step) (lines_after next (written p more claim)) one.1 rest.1,
        rest.2 ∙ ap (λ (l : List (List Atomic)). l ++ nogood_of claim ∷ []) moved,
        rest.3,
      )
