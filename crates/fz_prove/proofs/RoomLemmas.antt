-- The steps of a written scaffold are said, or one of its nogoods is refused since there are too many.
use Rattle.std.proofs.Common.{◌≡◌, ℕ, ◌+◌, ◌<◌, ◌≤◌, ◌⊎◌, Bool, true, false, not, ◌&&◌, Some, None, Result, Ok, Err, List, [], ◌∷◌, ◌++◌, length, map, nat_le, nat_lt, refl, sym, ap, ◌∙◌, subst, inl, inr, append_assoc, arith}
use Rattle.std.specs.List.{enumerate_from, sum_by}
use Rattle.std.specs.Option.{option_map}
use Rattle.std.proofs.lemmas.Bool.{and_parts, leb-true, ltb-true}
use Rattle.std.proofs.lemmas.List.{append-nil, length-append, length-map}
use Rattle.std.proofs.lemmas.List.Sums.{sum_by_push}
use Rattle.dp_base.specs.Lists.{Each}
use Rattle.dp_checker.specs.Judged.{or_else}
use Rattle.dp_checker.specs.Known.{first_undefined}
use Rattle.dp_domain.specs.Atoms.{Atomic}
use Rattle.dp_domain.specs.declared.verdict.Verdict.{Verdict}
use Rattle.dp_judge.specs.Logs.{IsOfGoal}
use Rattle.dp_lines.specs.declared.line.Line.{Line}
use Rattle.dp_lines.specs.declared.line.Line.TheVariants.{Nogood as nogood_line}
use Rattle.dp_parts.specs.Posed.{Posed}
use Rattle.dp_parts.specs.Problems.{Csp, IsProblem, LeadBack, posed}
use Rattle.dp_replay.proofs.EntryLemmas.{entries}
use Rattle.dp_replay.proofs.StepLemmas.{IsRead, literals_defined}
use Rattle.dp_scaffold.specs.Gathering.{Gathered, after, gather_all, most_literals, most_nogoods, outcome, unless}
use Rattle.dp_scaffold.specs.Scaffolds.{nogood_of}
use Rattle.dp_scaffold.specs.declared.refusal.GatherWhy.TheVariants.{StepTwice, TooMany, UnknownAtom}
use Rattle.dp_scaffold.specs.declared.refusal.ScaffoldRefusal.{ScaffoldRefusal}
use Rattle.dp_writer.specs.Atoms.{Named}
use Rattle.dp_writer.specs.Numbering.{new_lines, with_atoms}
use Rattle.dp_writer.specs.Steps.{Step, atoms_in, atoms_of, count_of, line_of, lines_after, lines_of, literals_in}
use Rattle.dp_writer.specs.Written.{conclusion, named, nogood}
use Rattle.dp_writer.proofs.FirstLemmas.{atoms_after, lines_are}
use Rattle.dp_writer.proofs.WrittenLemmas.{count_push}
use Rattle.fz_prove.proofs.AtomLemmas.{atoms_named, nogood_leads}
use Rattle.fz_prove.proofs.GatherLemmas.{Gathers, all_append, gathers_append}
use Rattle.fz_prove.proofs.LineLemmas.{atoms_gather, said}
use Rattle.fz_prove.proofs.NumberLemmas.{number_new}
use Rattle.fz_prove.proofs.StepLemmas.{IsWritable, Says, known, last_read, last_says, nogood_done, written}

-- these lines are refused since there are too many nogoods or literals
abbrev pub AreTooMany : Posed → ℕ → Gathered → List Line → Type 0
AreTooMany p n g ls = (r : ScaffoldRefusal) × (r.why ≡ TooMany) × (gather_all p (Ok g) (enumerate_from n ls) ≡ Err r)

pub refusal_stays : (p : Posed) (r : ScaffoldRefusal) (ls : List (ℕ × Line)) → gather_all p (Err r) ls ≡ Err r
refusal_stays p r [] = refl
refusal_stays p r (line ∷ ls) = refusal_stays p r ls

-- lines are refused where the first are
too_many_first : (p : Posed) (n : ℕ) (g : Gathered) (front back : List Line) → AreTooMany p n g front → AreTooMany p n g (front ++ back)
too_many_first p n g front back h = (
  h.0,
  h.1,
  all_append p n (Ok g) front back
      ∙ ap (λ (r : Result Gathered ScaffoldRefusal). gather_all p r (enumerate_from (n + length front) back)) h.2
      ∙ refusal_stays p h.0 (enumerate_from (n + length front) back),
)

-- or where those behind the first are
too_many_later : (p : Posed) (n : ℕ) (g later : Gathered) (front back : List Line) → Gathers p n g front later → AreTooMany p (n + length front) later back → AreTooMany p n g (front ++ back)
too_many_later p n g later front back said_first h = (
  h.0,
  h.1,
  all_append p n (Ok g) front back
      ∙ ap (λ (r : Result Gathered ScaffoldRefusal). gather_all p r (enumerate_from (n + length front) back)) said_first
      ∙ h.2,
)

-- there is room, or there is none
room_by : (n m : ℕ) (b : Bool) → (nat_lt n most_nogoods && nat_le m most_literals) ≡ b → ((n < most_nogoods) × (m ≤ most_literals)) ⊎ ((nat_lt n most_nogoods && nat_le m most_literals) ≡ false)
room_by n m true e = let r = and_parts (nat_lt n most_nogoods) (nat_le m most_literals) e in inl (ltb-true n most_nogoods r.0, leb-true m most_literals r.1)
room_by n m false e = inr e

-- a nogood's line is refused where there is no room
nogood_refused : (p : Posed) (table : List Atomic) (nogoods : List (List Atomic)) (places : List ℕ) (used : List Named) → Each (IsRead table) used → (n id : ℕ) → id ≡ length nogoods + 1
    → (nat_lt (length nogoods) most_nogoods && nat_le (sum_by length nogoods + length (literals_in table used)) most_literals) ≡ false
    → AreTooMany p n (said table nogoods places) (nogood_line id (literals_in table used) [] ∷ [])
nogood_refused p table nogoods places used reads n id is full =
    let here : first_undefined (entries 0 table) (literals_in table used) ≡ None = literals_defined table used reads in
    let new = number_new 0 id nogoods (omega arith) in (
      record { line = n; why = TooMany },
      refl,
      ap (outcome n (after p (said table nogoods places) n (nogood_line id (literals_in table used) [])))
          (λ j. or_else (or_else (option_map UnknownAtom (here j)) (unless (not (new j)) StepTwice)) (unless (full j) TooMany)),
    )

-- the lines of a step whose own is refused
step_refused : (p : Posed) (earlier : List Step) (done : List (List Atomic)) (places : List ℕ) (n : ℕ) (step : Step)
    → Gathers p n (said (known earlier) done places) (new_lines (known earlier) (atoms_of step)) (said (with_atoms (known earlier) (atoms_of step)) done places)
    → ((m : ℕ) → AreTooMany p m (said (known (earlier ++ step ∷ [])) done places) (line_of (known (earlier ++ step ∷ [])) (count_of earlier + 1) step ∷ []))
    → AreTooMany p n (said (known earlier) done places) (lines_of earlier step)
step_refused p earlier done places n step defined own =
    let new : List Line = new_lines (known earlier) (atoms_of step) in
    let m : ℕ = n + length new in
    let turned : AreTooMany p m (said (with_atoms (known earlier) (atoms_of step)) done places) (line_of (with_atoms (known earlier) (atoms_of step)) (count_of earlier + 1) step ∷ []) =
    subst (λ (t : List Atomic). AreTooMany p m (said t done places) (line_of t (count_of earlier + 1) step ∷ [])) (sym (atoms_after earlier step)) (own m) in
    subst (AreTooMany p n (said (known earlier) done places)) (lines_are earlier step)
    (too_many_later p n (said (known earlier) done places) (said (with_atoms (known earlier) (atoms_of step)) done places) new
    (line_of (with_atoms (known earlier) (atoms_of step)) (count_of earlier + 1) step ∷ []) defined turned)

-- so many nogoods and literals a scaffold may have
abbrev pub AreFew : List (List Atomic) → Type 0
AreFew nogoods = (length nogoods ≤ most_nogoods) × (sum_by length nogoods ≤ most_literals)

module _ (p : Csp) (problem : IsProblem p) (back : LeadBack p.names) (claim : Verdict) (aimed : IsOfGoal p claim) where
  -- the nogoods behind those done are said, or are too many
  abbrev Ends : ℕ → List Step → List (List Atomic) → List ℕ → List (List Atomic) → Type 0
  Ends n earlier done places more =
      (Says p n earlier done places (written p more claim) (done ++ more) claim × AreFew (done ++ more))
      ⊎ AreTooMany (posed p) n (said (known earlier) done places) (lines_after earlier (written p more claim))

  -- no room for one more
  full : (earlier : List Step) (done : List (List Atomic)) (places : List ℕ) (n : ℕ) (atoms : List Atomic) (more : List (List Atomic)) → IsWritable p atoms → count_of earlier ≡ length done
      → (nat_lt (length done) most_nogoods && nat_le (sum_by length done + length atoms) most_literals) ≡ false
      → AreTooMany (posed p) n (said (known earlier) done places) (lines_after earlier (written p (atoms ∷ more) claim))
  full earlier done places n atoms more fit count none =
      let step : Step = nogood p atoms [] in
      let next : List Step = earlier ++ step ∷ [] in
      let used : List Named = map (named p) atoms in
      let same : length (literals_in (known next) used) ≡ length atoms = length-map used _ ∙ length-map atoms (named p) in
      too_many_first (posed p) n (said (known earlier) done places) (lines_of earlier step) (lines_after next (written p more claim))
      (step_refused (posed p) earlier done places n step
      (atoms_gather (posed p) done places (known earlier) n (atoms_of step) (nogood_leads p problem back atoms fit.0))
      (λ m. nogood_refused (posed p) (known next) done places used (last_read earlier step) m (count_of earlier + 1) (omega (arith, count))
      (ap (λ (k : ℕ). nat_lt (length done) most_nogoods && nat_le (sum_by length done + k) most_literals) same ∙ none)))

  pub say_ends : (earlier : List Step) (done : List (List Atomic)) (places : List ℕ) (n : ℕ) (more : List (List Atomic)) → Each (IsWritable p) more
      → count_of earlier ≡ length done → AreFew done → Ends n earlier done places more
  say_ends earlier done places n [] fit count few =
      let none : done ≡ done ++ [] = sym (append-nil done) in
      inl (subst (λ (l : List (List Atomic)). Says p n earlier done places (written p [] claim) l claim) none (last_says p problem back claim aimed earlier done places n), subst AreFew none few)
  say_ends earlier done places n (atoms ∷ more) fit count few =
      let step : Step = nogood p atoms [] in
      let next : List Step = earlier ++ step ∷ [] in
      let now : List (List Atomic) = done ++ atoms ∷ [] in
      let moved : now ++ more ≡ done ++ atoms ∷ more = append_assoc done (atoms ∷ []) more in
      elim (room_by (length done) (sum_by length done + length atoms) (nat_lt (length done) most_nogoods && nat_le (sum_by length done + length atoms) most_literals) refl) [
        | inl room ↦
            let one = nogood_done p problem back claim aimed earlier done places n atoms fit.0 count room.0 room.1 in
            let reached : List ℕ = places ++ one.0 ∷ [] in
            let longer : length now ≡ length done + 1 = length-append done (atoms ∷ []) in
            let counted : count_of next ≡ length now = (let e : count_of next ≡ count_of earlier + 1 = count_push earlier step in omega (arith, e, longer, count)) in
            let sum : sum_by length now ≡ sum_by length done + length atoms = sum_by_push length done atoms in
            let still : AreFew now = (omega (arith, longer, room.0), subst (λ (k : ℕ). k ≤ most_literals) (sym sum) room.1) in
            elim (say_ends next now reached (n + length (lines_of earlier step)) more fit.1 counted still) [
              | inl rest ↦ inl (
                (
                  rest.0.0,
                  gathers_append (posed p) n (said (known earlier) done places) (said (known next) now reached) rest.0.0 (lines_of earlier step) (lines_after next (written p more claim)) one.1 rest.0.1,
                  rest.0.2 ∙ ap (λ (l : List (List Atomic)). l ++ nogood_of claim ∷ []) moved,
                  rest.0.3,
                ),
                subst AreFew moved rest.1,
              )
              | inr rest ↦ inr (too_many_later (posed p) n (said (known earlier) done places) (said (known next) now reached) (lines_of earlier step) (lines_after next (written p more claim)) one.1 rest)
            ]
        | inr none ↦ inr (full earlier done places n atoms more fit.0 count none)
      ]
