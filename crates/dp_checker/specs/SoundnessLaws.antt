-- The law of accepted logs: all that they make known holds of the problem.
use Rattle.std.specs.Prelude.{◌≡◌, ℕ, zero, suc, ◌+◌, ◌-◌, ◌<◌, Bool, true, false, not, ◌&&◌, ◌||◌, Option, Some, None, Result, Ok, Err, IfSome, is_none, if◌then◌else◌, List, [], ◌∷◌, length, map, filter, ℤ, slice_index_or, nat_eq}
use Rattle.std.specs.List.{list_all, list_any}
use Rattle.std.specs.Option.{option_map}
use Rattle.std.specs.Str.{bytes_eq}
use Rattle.std.proofs.Common.{refl, sym, ◌∙◌, ap, subst, inl, inr, add-one}
use Rattle.std.proofs.lemmas.Bool.{both_ways, cases_Bool, cases_lt, or_cases, and_parts, not_from_false, false_from_ne_true}
use Rattle.dp_base.specs.Lists.{Among, Each}
use Rattle.dp_base.proofs.Lists.{Each-among, Each-append, Each-from_among, Among-filter_all, list_all-at, list_any-some}
use Rattle.dp_domain.specs.Atoms.{Atomic, meets, negated}
use Rattle.dp_domain.specs.States.{Domains, LiesIn, cut, cut_all, entails, entails_all, is_dead, values}
use Rattle.dp_domain.specs.Faces.{Covers}
use Rattle.dp_domain.proofs.AtomLaws.{meets-eq, meets-from_not}
use Rattle.dp_domain.proofs.StateLaws.{LiesIn-alive, LiesIn-cut, LiesIn-entails, cut-past, length-cut, length-cut_all}
use Rattle.dp_domain.specs.declared.atom.Op.{Op}
use Rattle.dp_domain.specs.declared.verdict.Verdict.TheVariants.{Bound as NoBetter}
use Rattle.dp_lines.specs.declared.line.Line.{Line}
use Rattle.dp_lines.specs.declared.line.Line.TheVariants.{Atom, Inference, Nogood, Delete, Conclude}
use Rattle.dp_lines.specs.declared.line.Claim.{Claim}
use Rattle.dp_lines.specs.declared.line.Claim.TheVariants.{Unsat, Bound}
use Rattle.dp_parts.specs.Posed.{IsSoundPart, IsSoundlyPosed, Labelled, Passes, Posed, Solves}
use Rattle.dp_base.specs.Names.{named}
use Rattle.dp_checker.specs.declared.refusal.StepRefusal.{StepRefusal}
use Rattle.dp_checker.specs.declared.refusal.Why.{Why}
use Rattle.dp_checker.specs.declared.refusal.Why.TheVariants.{AfterConclusion, NoClash, NoGoal, NotConcluded, NotImplied, StepTwice, UnknownAtom, UnknownConstraint, UnknownStep, WrongBound, WrongLabel}
use Rattle.dp_checker.specs.Judged.{after, against, concluded, conclusion_refusal, first_refusal, grounds, has_goal, inference_denial, initial_domain, is_bound, is_constraint, is_fitting, judge_all, line_refusal, naming, or_else, outcome, parts_of, unless, with_atom, with_last, with_step}
use Rattle.dp_checker.specs.Kept.{DeniesBelow, IsBacked, MeetsBelow}
use Rattle.dp_checker.specs.Known.{Known, cons_some, denials, first_undefined, first_unknown, found, literal_atom, literal_atoms, nothing}
use Rattle.dp_parts.specs.Rules.{concludes, cut_hint, implies, «is», is_labelled, keep_where, proves}
use Rattle.dp_parts.proofs.RuleLaws.{length-keep_where, values-keep_where}
use Rattle.dp_checker.specs.Soundness.{Denies, HoldsOf, IsSupported, Meets}

-- ---- states that an assignment lies in

lies_cut : (d : Domains) (s : ℕ → ℤ) (a : Atomic) → LiesIn s d → MeetsBelow (length d) s a → LiesIn s (cut d a)
lies_cut d s a lies m = elim (cases_lt a.var (length d)) [
  | inl k ↦ LiesIn-cut d s a lies (m k)
  | inr k ↦ subst (λ (e : Domains). LiesIn s e) (sym (cut-past d a k)) lies
]

-- an assignment that meets the atoms lies in the state cut by them
pub lies_cut_all : (d : Domains) (s : ℕ → ℤ) (atoms : List Atomic) → LiesIn s d → Each (MeetsBelow (length d) s) atoms → LiesIn s (cut_all d atoms)
lies_cut_all d s [] lies m = lies
lies_cut_all d s (a ∷ atoms) lies m =
    lies_cut_all (cut d a) s atoms (lies_cut d s a lies m.0) (subst (λ (n : ℕ). Each (MeetsBelow n s) atoms) (sym (length-cut d a)) m.1)

-- it meets what a state entails that it lies in
pub met_where_entailed : (d : Domains) (s : ℕ → ℤ) (atoms : List Atomic) → LiesIn s d → entails_all d atoms ≡ true → Each (MeetsBelow (length d) s) atoms
met_where_entailed d s atoms lies e =
    Each-from_among (MeetsBelow (length d) s) atoms (λ a k lt. LiesIn-entails d s a lt lies (list_all-at (entails d) atoms a e k))

-- ---- inferences

if_each : {A : Type 0} (P : A → Type 0) (b : Bool) (xs : List A) → Each P xs → Each P (if b then [] else xs)
if_each P true xs e = tt
if_each P false xs e = e

index_each : {A : Type 0} (P : A → Type 0) (xss : List (List A)) (i : ℕ) → Each (Each P) xss → Each P (slice_index_or xss i [])
index_each P [] i e = tt
index_each P (xs ∷ xss) zero e = e.0
index_each P (xs ∷ xss) (suc i) e = index_each P xss i e.1

parts_each : (P : Labelled → Type 0) (p : Posed) (constraint : Option ℕ) → Each (Each P) p.constraints → Each P (parts_of p constraint)
parts_each P p None e = tt
parts_each P p (Some k) e = index_each P p.constraints (k - 1) e

-- what holds of each part holds of those that an inference may rest on
pub grounds_each : (P : Labelled → Type 0) (p : Posed) (constraint : Option ℕ) (label : Option (List ℕ)) → Each (Each P) p.constraints → Each P (grounds p constraint label)
grounds_each P p constraint None e = parts_each P p constraint e
grounds_each P p constraint (Some label) e = if_each P (bytes_eq label initial_domain) (parts_of p constraint) (parts_each P p constraint e)

no_clash : (n : ℕ) (s : ℕ → ℤ) (start : Domains) (parts : List Labelled) (label : Option (List ℕ)) → length start ≡ n → LiesIn s start
    → Each (IsSoundPart n) parts → Each (λ part. Passes s part.face) parts → implies start parts label ≡ true → ⊥
no_clash n s start parts label count lies sound passes e =
    elim (or_cases (is_dead start) (list_any (λ part. is_labelled label part && part.face.test start) parts) e) [
      | inl dead ↦ both_ways (is_dead start) (LiesIn-alive start s lies) dead
      | inr some ↦
          let found : (part : Labelled) × Among part parts × ((is_labelled label part && part.face.test start) ≡ true) = list_any-some (λ part. is_labelled label part && part.face.test start) parts some in
          let part : Labelled = found.0 in
          let covers : Covers part.face.scope start = subst (λ (m : ℕ). Each (λ x. x < m) part.face.scope) (sym count) (Each-among (IsSoundPart n) parts sound part found.1).covered in
          both_ways (part.face.test start) (Each-among (λ q. Passes s q.face) parts passes part found.1 start covers lies) (and_parts (is_labelled label part) (part.face.test start) found.2).1
    ]

-- an inference that holds denies its atoms
pub inference_denies : (p : Posed) → IsSoundlyPosed p → (constraint : Option ℕ) (label : Option (List ℕ)) (denial : List Atomic)
    → implies (cut_all p.initial denial) (grounds p constraint label) label ≡ true → DeniesBelow p denial
inference_denies p sound constraint label denial e s solves met =
    no_clash (length p.initial) s (cut_all p.initial denial) (grounds p constraint label) label (length-cut_all p.initial denial)
    (lies_cut_all p.initial s denial solves.within met)
    (grounds_each (IsSoundPart (length p.initial)) p constraint label sound)
    (grounds_each (λ part. Passes s part.face) p constraint label solves.passes) e

-- ---- nogoods

lies_hint : (d : Domains) (s : ℕ → ℤ) (denial : List Atomic) → LiesIn s d → (Each (MeetsBelow (length d) s) denial → ⊥) → LiesIn s (cut_hint d denial)
lies_hint d s denial lies fails x lt =
    let keep : ℕ → ℤ → Bool = λ y v. not (entails_all (cut d («is» y v)) denial) in
    let here : x < length d = subst (λ (n : ℕ). x < n) (length-keep_where keep d) lt in
    let fixed : LiesIn s (cut d («is» x (s x))) = lies_cut d s («is» x (s x)) lies (λ k. (meets-eq x (s x) (s x)).1 refl) in
    let stays : entails_all (cut d («is» x (s x))) denial ≡ false =
    false_from_ne_true (entails_all (cut d («is» x (s x))) denial) (λ e. fails (subst (λ (n : ℕ). Each (MeetsBelow n s) denial) (length-cut d («is» x (s x))) (met_where_entailed (cut d («is» x (s x))) s denial fixed e))) in
    subst (λ (vs : List ℤ). Among (s x) vs) (sym (values-keep_where keep d x))
    (Among-filter_all (keep x) (values d x) (s x) (lies x here) (not_from_false (entails_all (cut d («is» x (s x))) denial) stays))

no_proof : (n : ℕ) (s : ℕ → ℤ) (hints : List (List Atomic)) (d : Domains) → length d ≡ n → LiesIn s d
    → Each (λ denial. Each (MeetsBelow n s) denial → ⊥) hints → proves d hints ≡ true → ⊥
no_proof n s [] d count lies denied e = both_ways (is_dead d) (LiesIn-alive d s lies) e
no_proof n s (denial ∷ hints) d count lies denied e =
    elim (or_cases (is_dead d || entails_all d denial) (proves (cut_hint d denial) hints) e) [
      | inl now ↦ elim (or_cases (is_dead d) (entails_all d denial) now) [
        | inl dead ↦ both_ways (is_dead d) (LiesIn-alive d s lies) dead
        | inr entailed ↦ denied.0 (subst (λ (m : ℕ). Each (MeetsBelow m s) denial) count (met_where_entailed d s denial lies entailed))
      ]
      | inr later ↦
          no_proof n s hints (cut_hint d denial) (length-keep_where (λ y v. not (entails_all (cut d («is» y v)) denial)) d ∙ count)
          (lies_hint d s denial lies (λ m. denied.0 (subst (λ (k : ℕ). Each (MeetsBelow k s) denial) count m))) denied.1 later
    ]

cons_each : {A : Type 0} (P : A → Type 0) (o : Option A) (xs : List A) → IfSome o P → Each P xs → Each P (cons_some o xs)
cons_each P None xs h e = e
cons_each P (Some x) xs h e = (h, e)

if_some_each : {A : Type 0} (P : A → Type 0) (b : Bool) (x : A) (o : Option A) → P x → IfSome o P → IfSome (if b then Some x else o) P
if_some_each P true x o h e = h
if_some_each P false x o h e = e

-- what holds of each entry holds of the one that is found
pub found_each : {A : Type 0} (P : A → Type 0) (k : ℕ) (entries : List (ℕ × A)) → Each (λ entry. P entry.1) entries → IfSome (found k entries) P
found_each P k [] e = tt
found_each P k (entry ∷ entries) e = if_some_each P (nat_eq k entry.0) entry.1 (found k entries) e.0 (found_each P k entries e.1)

-- and of each denial that hints name
pub denials_each : (P : List Atomic → Type 0) (steps : List (ℕ × List Atomic)) (hints : List ℕ) → Each (λ step. P step.1) steps → Each P (denials steps hints)
denials_each P steps [] e = tt
denials_each P steps (h ∷ hints) e = cons_each P (found h steps) (denials steps hints) (found_each P h steps e) (denials_each P steps hints e)

-- a nogood that is proved denies its atoms
pub nogood_denies : (p : Posed) (steps : List (ℕ × List Atomic)) (hints : List ℕ) (denial : List Atomic) → Each (λ step. DeniesBelow p step.1) steps
    → proves (cut_all p.initial denial) (denials steps hints) ≡ true → DeniesBelow p denial
nogood_denies p steps hints denial denied e s solves met =
    no_proof (length p.initial) s (denials steps hints) (cut_all p.initial denial) (length-cut_all p.initial denial)
    (lies_cut_all p.initial s denial solves.within met)
    (denials_each (λ atoms. Each (MeetsBelow (length p.initial) s) atoms → ⊥) steps hints (each_at p s solves steps denied)) e
  where
    each_at : (p : Posed) (s : ℕ → ℤ) → Solves s p → (steps : List (ℕ × List Atomic)) → Each (λ step. DeniesBelow p step.1) steps → Each (λ step. Each (MeetsBelow (length p.initial) s) step.1 → ⊥) steps
    each_at p s solves [] d = tt
    each_at p s solves (step ∷ steps) d = (d.0 s solves, each_at p s solves steps d.1)

-- ---- conclusions

-- a conclusion that holds leaves no solution that meets the atoms of its start
pub conclusion_denies : (p : Posed) (steps : List (ℕ × List Atomic)) (denial : List Atomic) → Each (λ step. DeniesBelow p step.1) steps
    → concludes (cut_all p.initial denial) steps ≡ true → DeniesBelow p denial
conclusion_denies p steps denial denied e s solves met =
    let start : Domains = cut_all p.initial denial in
    let lies : LiesIn s start = lies_cut_all p.initial s denial solves.within met in
    elim (or_cases (is_dead start) (list_any (λ step. entails_all start step.1) steps) e) [
      | inl dead ↦ both_ways (is_dead start) (LiesIn-alive start s lies) dead
      | inr some ↦
          let found : (step : ℕ × List Atomic) × Among step steps × (entails_all start step.1 ≡ true) = list_any-some (λ step. entails_all start step.1) steps some in
          Each-among (λ step. DeniesBelow p step.1) steps denied found.0 found.1 s solves
          (subst (λ (n : ℕ). Each (MeetsBelow n s) found.0.1) (length-cut_all p.initial denial) (met_where_entailed start s found.0.1 lies found.2))
    ]

bound_holds : (p : Posed) (steps : List (ℕ × List Atomic)) (o : Option Atomic) → Each (λ step. DeniesBelow p step.1) steps
    → concludes (cut_all p.initial (map negated (cons_some o []))) steps ≡ true → IfSome (option_map NoBetter o) (HoldsOf p)
bound_holds p steps None denied e = tt
bound_holds p steps (Some a) denied e = λ s solves. elim (cases_Bool (meets a (s a.var))) [
  | inl met ↦ met
  | inr fails ↦ absurd (conclusion_denies p steps (negated a ∷ []) denied e s solves (λ k. meets-from_not a (s a.var) fails, tt))
]

-- ---- lines

some_is_none : {A : Type 0} (x : A) (P : Type 0) → Some x ≡ None → P
some_is_none x P e = cc

first_passes : {A : Type 0} (a b : Option A) → or_else a b ≡ None → a ≡ None
first_passes None b e = refl
first_passes (Some x) b e = e

-- where neither of two tests refuses, the second does not
pub second_passes : {A : Type 0} (a b : Option A) → or_else a b ≡ None → b ≡ None
second_passes None b e = e
second_passes (Some x) b e = some_is_none x (b ≡ None) e

-- a test that does not refuse holds
pub holds_where_passed : (b : Bool) (why : Why) → unless b why ≡ None → b ≡ true
holds_where_passed true why e = refl
holds_where_passed false why e = some_is_none why (false ≡ true) e

backed_atom : (p : Posed) (known : Known) (id : ℕ) (op : Op) (value : ℤ) (o : Option ℕ) → IsBacked p known → IsBacked p (with_atom known id op value o)
backed_atom p known id op value None kept = kept
backed_atom p known id op value (Some x) kept = record { steps = kept.steps; conclusion = kept.conclusion }

backed_step : (p : Posed) (known : Known) (id : ℕ) (denial : List Atomic) → IsBacked p known → DeniesBelow p denial → IsBacked p (with_step known id denial)
backed_step p known id denial kept denied = record {
  steps = Each-append (λ step. DeniesBelow p step.1) known.steps ((id, denial) ∷ []) kept.steps (denied, tt);
  conclusion = kept.conclusion;
}

backed_claim : (p : Posed) (known : Known) (claim : Claim) → IsBacked p known → conclusion_refusal p known claim ≡ None → IsBacked p (record known { conclusion = concluded known claim })
backed_claim p known Unsat kept e = record {
  steps = kept.steps;
  conclusion = λ s solves. conclusion_denies p known.steps [] kept.steps (holds_where_passed (concludes p.initial known.steps) NotConcluded e) s solves tt;
}
backed_claim p known (Bound literal) kept e = record {
  steps = kept.steps;
  conclusion = bound_holds p known.steps (literal_atom known.atoms literal) kept.steps
      (holds_where_passed (concludes (cut_all p.initial (against known.atoms (Some literal))) known.steps) NotConcluded
      (second_passes (unless (list_all (is_bound p.goal) (literal_atoms known.atoms (literal ∷ []))) WrongBound) _
      (second_passes (unless (has_goal p.goal) NoGoal) _ (second_passes (naming UnknownAtom (first_undefined known.atoms (literal ∷ []))) _ e))));
}

backed_line : (p : Posed) → IsSoundlyPosed p → (known : Known) → IsBacked p known → (line : Line) → line_refusal p known line ≡ None → IsBacked p (after p known line)
backed_line p sound known kept (Atom id name op value) e = backed_atom p known id op value (named p.names name) kept
backed_line p sound known kept (Inference id premises consequent constraint label) e =
    backed_step p known id (inference_denial known.atoms premises consequent) kept
    (inference_denies p sound constraint label (inference_denial known.atoms premises consequent)
    (holds_where_passed (implies (cut_all p.initial (inference_denial known.atoms premises consequent)) (grounds p constraint label) label) NotImplied
    (second_passes (unless (is_fitting p constraint label) WrongLabel) _ (second_passes (unless (is_constraint p constraint) UnknownConstraint) _
    (second_passes (unless (is_none (found id known.steps)) StepTwice) _ (second_passes (naming UnknownAtom (first_undefined known.atoms (with_last premises consequent))) _ e))))))
backed_line p sound known kept (Nogood id atoms hints) e =
    backed_step p known id (literal_atoms known.atoms atoms) kept
    (nogood_denies p known.steps hints (literal_atoms known.atoms atoms) kept.steps
    (holds_where_passed (proves (cut_all p.initial (literal_atoms known.atoms atoms)) (denials known.steps hints)) NoClash
    (second_passes (naming UnknownStep (first_unknown known.steps hints)) _
    (second_passes (unless (is_none (found id known.steps)) StepTwice) _ (second_passes (naming UnknownAtom (first_undefined known.atoms atoms)) _ e)))))
backed_line p sound known kept (Delete id) e = kept
backed_line p sound known kept (Conclude claim) e = backed_claim p known claim kept e

-- a line that no test refuses leaves true what is known
pub backed_after : (p : Posed) → IsSoundlyPosed p → (known : Known) → IsBacked p known → (line : Line) → first_refusal p known line ≡ None → IsBacked p (after p known line)
backed_after p sound known kept line e =
    backed_line p sound known kept line (second_passes (unless (is_none known.conclusion) AfterConclusion) (line_refusal p known line) e)

-- ---- logs

err_is_ok : {A : Type 0} (refusal : StepRefusal) (known : Known) → Err refusal ≡ Ok known → A
err_is_ok refusal known e = cc

still_refused : (p : Posed) (refusal : StepRefusal) (lines : List (ℕ × Line)) → judge_all p (Err refusal) lines ≡ Err refusal
still_refused p refusal [] = refl
still_refused p refusal (line ∷ lines) = still_refused p refusal lines

known_same : (r : Result Known StepRefusal) (known next : Known) → r ≡ Ok known → r ≡ Ok next → known ≡ next
known_same r known next p q = cc

passed : (p : Posed) (number : ℕ) (known next later : Known) (lines : List (ℕ × Line)) (o : Option Why)
    → judge_all p (outcome number later o) lines ≡ Ok next → (o ≡ None) × (judge_all p (Ok later) lines ≡ Ok next)
passed p number known next later lines None e = (refl, e)
passed p number known next later lines (Some why) e = err_is_ok _ next (sym (still_refused p _ lines) ∙ e)

backed_lines : (p : Posed) → IsSoundlyPosed p → (lines : List (ℕ × Line)) (known next : Known) → IsBacked p known → judge_all p (Ok known) lines ≡ Ok next → IsBacked p next
backed_lines p sound [] known next kept e = subst (λ (k : Known). IsBacked p k) (known_same (Ok known) known next refl e) kept
backed_lines p sound (line ∷ lines) known next kept e =
    let so : (first_refusal p known line.1 ≡ None) × (judge_all p (Ok (after p known line.1)) lines ≡ Ok next) =
    passed p line.0 known next (after p known line.1) lines (first_refusal p known line.1) e in
    backed_lines p sound lines (after p known line.1) next (backed_after p sound known kept line.1 so.0) so.1

supported : (p : Posed) (known : Known) → IsBacked p known → IsSupported p known
supported p known kept = record {
  steps = Each-from_among (λ step. Denies p step.1) known.steps (λ step k s solves met.
      Each-among (λ q. DeniesBelow p q.1) known.steps kept.steps step k s solves
      (Each-from_among (MeetsBelow (length p.initial) s) step.1 (λ a here lt. Each-among (Meets s) step.1 met a here)));
  conclusion = kept.conclusion;
}

-- all that an accepted log makes known holds of the problem
pub accepted_is_supported : (p : Posed) (lines : List (ℕ × Line)) (known : Known) → judge_all p (Ok nothing) lines ≡ Ok known → IsSoundlyPosed p → IsSupported p known
accepted_is_supported p lines known e sound =
    supported p known (backed_lines p sound lines nothing known (record { steps = tt; conclusion = tt }) e)
