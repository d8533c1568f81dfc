-- Steps of the writing: nogood after nogood.
use Rattle.std.proofs.Common.{◌≡◌, ℕ, zero, suc, ◌+◌, ◌-◌, ◌<◌, ◌≤◌, Bool, true, false, cond, List, [], ◌∷◌, ◌++◌, length, get_or, Option, Some, None, refl, sym, ◌∙◌, ap, subst, inl, inr, add-one, arith}
use Rattle.std.specs.Prelude.{IfSome, is_some}
use Rattle.std.proofs.Math.Nat.{le-suc_iff}
use Rattle.std.proofs.lemmas.Bool.{both_ways}
use Rattle.std.proofs.lemmas.List.{get_or_append_left, get_or_default, length-append}
use Rattle.std.proofs.Math.Seq.{get_or-append_seam}
use Rattle.std.proofs.lemmas.Bool.Decides.{eqb_tells}
use Rattle.dp_base.specs.Lists.{Among, Each}
use Rattle.dp_base.proofs.Lists.{Each-among, Each-from_among}
use Rattle.dp_domain.specs.Atoms.{Atomic}
use Rattle.dp_domain.specs.declared.verdict.Verdict.{Verdict}
use Rattle.dp_engine.specs.declared.part_id.PartId.{PartId}
use Rattle.dp_engine.specs.declared.part_id.PartId.TheVariants.{Model, Nogood}
use Rattle.dp_justify.specs.Pieces.{justification, nogood_at}
use Rattle.dp_justify.specs.Replay.{Holds, HoldsBy, SpeaksOf}
use Rattle.dp_justify.specs.declared.kept.Kept.{Kept}
use Rattle.dp_justify.specs.declared.piece.Piece.{Piece}
use Rattle.dp_parts.specs.Posed.{Posed}
use Rattle.dp_parts.specs.Problems.{Csp, posed}
use Rattle.dp_scaffold.specs.Scaffolds.{IsScaffold, Learned, nogood_of}
use Rattle.dp_writer.specs.Steps.{Step}
use Rattle.dp_writer.specs.Written.{Adds, StandsFor, Written, conclusion, nogood}
use Rattle.dp_process.specs.Met.{is_met, kept_in, last_of, uses_at, uses_in}
use Rattle.dp_process.specs.Marks.{AreJustified, piece_at, pieces_down}
use Rattle.dp_process.specs.Processed.{count_below, hint_of, hints_of, after_turn, inferences, kept_at, kept_count, log_of, met_below, number_at, steps_at, steps_below}
use Rattle.dp_process.specs.Writing.{AddsAll, IsKnown, IsWritable, count_from, numbered, steps_from}
use Rattle.dp_process.proofs.MarkLaws.{AreGiven, given-below}
use Rattle.dp_process.proofs.MetLaws.{met-last, met-uses}
use Rattle.dp_process.proofs.PieceLaws.{IsGood, good-below, good-uses, justified-good}

-- ---- what is written of one place

at_steps : (p : Csp) (number : ℕ → ℕ) (n : ℕ) (atoms : List Atomic) (b : Bool) (answer : Option Piece) → (b ≡ true → is_some answer ≡ true)
    → cond b (inferences p (kept_in answer) ++ nogood p atoms (hints_of number n (kept_in answer)) ∷ []) [] ≡ steps_from p number n atoms (cond b answer None)
at_steps p number n atoms false answer h = refl
at_steps p number n atoms true None h = absurd (both_ways false refl (h refl))
at_steps p number n atoms true (Some q) h = refl

at_count : (p : Csp) (n : ℕ) (b : Bool) (answer : Option Piece) → (b ≡ true → is_some answer ≡ true) → n + cond b (length (inferences p (kept_in answer)) + 1) 0 ≡ count_from p n (cond b answer None)
at_count p n false answer h = omega arith
at_count p n true None h = absurd (both_ways false refl (h refl))
at_count p n true (Some q) h = refl

at_met : (n : ℕ) (b : Bool) (answer : Option Piece) → (b ≡ true → is_some answer ≡ true) → n + cond b 1 0 ≡ n + cond (is_some (cond b answer None)) 1 0
at_met n false answer h = refl
at_met n true None h = absurd (both_ways false refl (h refl))
at_met n true (Some q) h = refl

at_piece : (b : Bool) (answer : Option Piece) (q : Piece) → cond b answer None ≡ Some q → (b ≡ true) × (answer ≡ Some q)
at_piece false answer q e = let none : ◌≡◌ {A = Option Piece} None (Some q) = e in cc
at_piece true answer q e = (refl, e)

-- ---- numbers

-- numbers grow with the places
count_grows : (p : Csp) (nogoods : List (List Atomic)) (m k : ℕ) → k ≤ m → count_below p nogoods k ≤ count_below p nogoods m
count_grows p nogoods zero k h = let at : k ≡ 0 = omega arith in subst (λ (n : ℕ). count_below p nogoods k ≤ count_below p nogoods n) at (omega arith)
count_grows p nogoods (suc m) k h = elim ((le-suc_iff {m = k} {n = m}).0 h) [
  | inl l ↦ let less : count_below p nogoods k ≤ count_below p nogoods m = count_grows p nogoods m k l in omega arith
  | inr at ↦ subst (λ (n : ℕ). count_below p nogoods k ≤ count_below p nogoods n) at (omega arith)
]

-- a nogood that is met is a step
number_some : (p : Csp) (nogoods : List (List Atomic)) (place : ℕ) → is_met (posed p) nogoods place ≡ true → 1 ≤ number_at p nogoods place
number_some p nogoods place met =
    let here : cond (is_met (posed p) nogoods place) (length (inferences p (kept_at p nogoods place)) + 1) 0 ≡ length (inferences p (kept_at p nogoods place)) + 1 =
    ap (λ (b : Bool). cond b (length (inferences p (kept_at p nogoods place)) + 1) 0) met in
    omega arith

hint_same : (p : Posed) (place : ℕ) (f g : ℕ → ℕ) (n : ℕ) (id : PartId) (premises : List Atomic) (consequent : Option Atomic) → HoldsBy p place id premises consequent → ((j : ℕ) → j < place → f j ≡ g j) → hint_of f n id ≡ hint_of g n id
hint_same p place f g n (Model k i) premises consequent h same = refl
hint_same p place f g n (Nogood j) premises consequent h same = same j h

hints_same : (p : Posed) (place : ℕ) (f g : ℕ → ℕ) (n : ℕ) (turns : List Kept) → Each (Holds p place) turns → ((j : ℕ) → j < place → f j ≡ g j) → hints_of f n turns ≡ hints_of g n turns
hints_same p place f g n [] h same = refl
hints_same p place f g n (k ∷ turns) h same =
    λ j. hint_same p place f g n k.source k.premises k.consequent h.0 same j ∷ hints_same p place f g (after_turn n k.source) turns h.1 same j

steps_same : (p : Csp) (place : ℕ) (f g : ℕ → ℕ) (n : ℕ) (atoms : List Atomic) (piece : Option Piece) → ((q : Piece) → piece ≡ Some q → IsGood p place q) → ((j : ℕ) → j < place → f j ≡ g j) → steps_from p f n atoms piece ≡ steps_from p g n atoms piece
steps_same p place f g n atoms None good same = refl
steps_same p place f g n atoms (Some q) good same =
    ap (λ (hints : List ℕ). inferences p q.steps ++ nogood p atoms hints ∷ []) (hints_same (posed p) place f g n q.steps (good q refl).hold same)

-- ---- the last of the pieces

same_list : {A : Type 0} (x y : A) (xs ys : List A) → x ∷ xs ≡ y ∷ ys → (x ≡ y) × (xs ≡ ys)
same_list x y xs ys e = (cc, (cc))

last_same : {A : Type 0} (xs ys : List A) (x y : A) → xs ++ x ∷ [] ≡ ys ++ y ∷ [] → (xs ≡ ys) × (x ≡ y)
last_same [] [] x y e = (refl, (same_list x y [] [] e).0)
last_same [] (z ∷ ys) x y e = absurd (omega (arith, ap length e, length-append ys (y ∷ [])))
last_same (w ∷ xs) [] x y e = absurd (omega (arith, ap length e, length-append xs (x ∷ [])))
last_same (w ∷ xs) (z ∷ ys) x y e =
    let parts = same_list w z (xs ++ x ∷ []) (ys ++ y ∷ []) e in
    let rest = last_same xs ys x y parts.1 in
    (λ j. parts.0 j ∷ rest.0 j, rest.1)

-- the next piece is that of the place
pub piece-next : (p : Posed) (nogoods : List (List Atomic)) (place : ℕ) (pieces rest : List (Option Piece)) (piece : Option Piece) → place < length nogoods → pieces ≡ pieces_down p nogoods (length nogoods - place) → pieces ≡ rest ++ piece ∷ []
    → (piece ≡ piece_at p nogoods place) × (rest ≡ pieces_down p nogoods (length nogoods - (place + 1)))
piece-next p nogoods place pieces rest piece h is popped =
    let k : ℕ = length nogoods - (place + 1) in
    let count : length nogoods - place ≡ suc k = omega arith in
    let at : last_of nogoods - k ≡ place = omega arith in
    let r = last_same rest (pieces_down p nogoods k) piece (piece_at p nogoods (last_of nogoods - k)) (sym popped ∙ is ∙ ap (pieces_down p nogoods) count) in
    (r.1 ∙ ap (piece_at p nogoods) at, r.0)

pub some-left : (p : Posed) (nogoods : List (List Atomic)) (place : ℕ) (pieces : List (Option Piece)) → place < length nogoods → pieces ≡ pieces_down p nogoods (length nogoods - place) → 0 < length pieces
some-left p nogoods place pieces h is =
    let k : ℕ = length nogoods - (place + 1) in
    let count : length nogoods - place ≡ suc k = omega arith in
    let all : length pieces ≡ length (pieces_down p nogoods k ++ piece_at p nogoods (last_of nogoods - k) ∷ []) = ap length (is ∙ ap (pieces_down p nogoods) count) in
    omega (arith, all, length-append (pieces_down p nogoods k) (piece_at p nogoods (last_of nogoods - k) ∷ []))

-- ---- nogood after nogood

-- what stands where the nogoods below the place are written
pub record AreBelow (p : Csp) (nogoods : List (List Atomic)) (place : ℕ) (w : Written) (numbers : List ℕ) (met steps : ℕ) (pieces : List (Option Piece)) : Type 0 where
  pub stands : StandsFor w (steps_below p nogoods place) []
  pub written : w.count ≡ steps
  pub counted : steps ≡ count_below p nogoods place
  pub count : length numbers ≡ place
  pub known : (j : ℕ) → j < place → numbered numbers j ≡ number_at p nogoods j
  pub found : met ≡ met_below p nogoods place
  pub left : pieces ≡ pieces_down (posed p) nogoods (length nogoods - place)

pub below-start : (p : Csp) (nogoods : List (List Atomic)) (w : Written) (pieces : List (Option Piece)) → StandsFor w [] [] → pieces ≡ pieces_down (posed p) nogoods (length nogoods) → AreBelow p nogoods 0 w [] 0 0 pieces
below-start p nogoods w pieces stands is = let all : length nogoods ≡ length nogoods - 0 = omega arith in record {
  stands = stands;
  written = stands.count;
  counted = refl;
  count = refl;
  known = λ j h. absurd (omega arith);
  found = refl;
  left = is ∙ ap (pieces_down (posed p) nogoods) all;
}

-- a piece of a place is that of its nogood, which is met
pub record IsPieceOf (p : Csp) (nogoods : List (List Atomic)) (place : ℕ) (q : Piece) : Type 0 where
  pub met : is_met (posed p) nogoods place ≡ true
  pub answer : justification (posed p) nogoods place ≡ Some q
  pub good : IsGood p place q

piece_of_place : (p : Csp) (nogoods : List (List Atomic)) (place : ℕ) (piece : Option Piece) (q : Piece) → AreGiven p nogoods → place < length nogoods → piece ≡ piece_at (posed p) nogoods place → piece ≡ Some q → IsPieceOf p nogoods place q
piece_of_place p nogoods place piece q given h is some =
    let r = at_piece (is_met (posed p) nogoods place) (justification (posed p) nogoods place) q (sym is ∙ some) in
    record { met = r.0; answer = r.1; good = justified-good p nogoods place q (record { sound = given.problem; below = given.variables; within = omega arith }) r.1 }

source_known : (count : ℕ) (numbers : List ℕ) (id : PartId) → ((j : ℕ) → id ≡ Nogood j → (1 ≤ numbered numbers j) × (numbered numbers j ≤ count)) → IsKnown count numbers id
source_known count numbers (Model k i) h = tt
source_known count numbers (Nogood j) h = h j refl

-- a nogood that is used has a number, of a step that is written
used_known : (p : Csp) (nogoods : List (List Atomic)) (place : ℕ) (w : Written) (numbers : List ℕ) (met steps : ℕ) (pieces : List (Option Piece)) (q : Piece) (k : Kept) (j : ℕ)
    → AreGiven p nogoods → AreBelow p nogoods place w numbers met steps pieces → IsPieceOf p nogoods place q → Among k q.steps → k.source ≡ Nogood j → (1 ≤ numbered numbers j) × (numbered numbers j ≤ steps)
used_known p nogoods place w numbers met steps pieces q k j given below piece among e =
    let used : Among j q.uses = good-uses p place q k j piece.good among e in
    let less : j < place = good-below p place q j piece.good used in
    let found : is_met (posed p) nogoods j ≡ true = met-uses (uses_at (posed p) nogoods) (last_of nogoods) (length nogoods) place j (given-below p nogoods given) (omega (arith, given.some)) piece.met
    (subst (λ (answer : Option Piece). Among j (uses_in answer)) (sym piece.answer) used) in
    let some : 1 ≤ number_at p nogoods j = number_some p nogoods j found in
    let grows : number_at p nogoods j ≤ count_below p nogoods place = count_grows p nogoods place (suc j) (omega arith) in
    let same : numbered numbers j ≡ number_at p nogoods j = below.known j less in
    (omega arith, omega (arith, below.counted))

each_writable : (p : Csp) (nogoods : List (List Atomic)) (place : ℕ) (w : Written) (numbers : List ℕ) (met steps : ℕ) (pieces : List (Option Piece)) (q : Piece)
    → AreGiven p nogoods → AreBelow p nogoods place w numbers met steps pieces → IsPieceOf p nogoods place q → Each (IsWritable p numbers steps) q.steps
each_writable p nogoods place w numbers met steps pieces q given below piece = Each-from_among (IsWritable p numbers steps) q.steps (λ k a. record {
  holds = subst (λ (n : ℕ). Holds (posed p) n k) (sym below.count) (Each-among (Holds (posed p) place) q.steps piece.good.hold k a);
  speaks = Each-among (SpeaksOf p.initial) q.steps piece.good.speak k a;
  known = source_known steps numbers k.source (λ j e. used_known p nogoods place w numbers met steps pieces q k j given below piece a e);
})

if_some : (P : Piece → Type 0) (o : Option Piece) → ((q : Piece) → o ≡ Some q → P q) → IfSome o P
if_some P None h = tt
if_some P (Some q) h = h q refl

-- the kept turns of the next nogood can be written
pub below-writable : (p : Csp) (nogoods : List (List Atomic)) (place : ℕ) (w : Written) (numbers : List ℕ) (met steps : ℕ) (pieces : List (Option Piece)) (piece : Option Piece)
    → AreGiven p nogoods → AreBelow p nogoods place w numbers met steps pieces → place < length nogoods → piece ≡ piece_at (posed p) nogoods place → IfSome piece (λ q. Each (IsWritable p numbers steps) q.steps)
below-writable p nogoods place w numbers met steps pieces piece given below h is =
    if_some (λ q. Each (IsWritable p numbers steps) q.steps) piece
    (λ q some. each_writable p nogoods place w numbers met steps pieces q given below (piece_of_place p nogoods place piece q given h is some))

more_numbers : (p : Csp) (nogoods : List (List Atomic)) (place : ℕ) (numbers : List ℕ) (number : ℕ) → length numbers ≡ place → ((j : ℕ) → j < place → numbered numbers j ≡ number_at p nogoods j) → number ≡ number_at p nogoods place
    → (j : ℕ) → j < place + 1 → numbered (numbers ++ number ∷ []) j ≡ number_at p nogoods j
more_numbers p nogoods place numbers number count before e j h = elim (eqb_tells j place) [
  | inl k ↦ ap (numbered (numbers ++ number ∷ [])) (k.1 ∙ sym count) ∙ get_or-append_seam numbers number [] 0 ∙ e ∙ ap (number_at p nogoods) (sym k.1)
  | inr k ↦ let less : j < place = omega arith in get_or_append_left numbers (number ∷ []) 0 j (omega arith) ∙ before j less
]

-- one nogood more
pub below-next : (p : Csp) (nogoods : List (List Atomic)) (place : ℕ) (w next : Written) (numbers more : List ℕ) (met now steps count : ℕ) (pieces rest : List (Option Piece)) (piece : Option Piece) (atoms : List Atomic)
    → AreGiven p nogoods → AreJustified (posed p) nogoods 0 → AreBelow p nogoods place w numbers met steps pieces → place < length nogoods
    → piece ≡ piece_at (posed p) nogoods place → rest ≡ pieces_down (posed p) nogoods (length nogoods - (place + 1)) → atoms ≡ get_or nogoods place atoms
    → AddsAll w (steps_from p (numbered numbers) steps atoms piece) next → next.count ≡ count → count ≡ count_from p steps piece
    → more ≡ numbers ++ count ∷ [] → now ≡ met + cond (is_some piece) 1 0 → AreBelow p nogoods (place + 1) next more now count rest
below-next p nogoods place w next numbers more met now steps count pieces rest piece atoms given all below h is rest_is at added told_count told pushed one =
    let justified : is_met (posed p) nogoods place ≡ true → is_some (justification (posed p) nogoods place) ≡ true = λ found. all place (omega arith) h found in
    let b : Bool = is_met (posed p) nogoods place in
    let answer : Option Piece = justification (posed p) nogoods place in
    let same : steps_from p (numbered numbers) steps atoms piece ≡ cond (is_met (posed p) nogoods place) (steps_at p nogoods place) [] =
    steps_same p place (numbered numbers) (number_at p nogoods) steps atoms piece (λ q some. (piece_of_place p nogoods place piece q given h is some).good) below.known
    ∙ ap (λ (n : ℕ). steps_from p (number_at p nogoods) n atoms piece) below.counted
    ∙ ap (λ (ns : List Atomic). steps_from p (number_at p nogoods) (count_below p nogoods place) ns piece) (at ∙ sym (get_or_default nogoods place [] atoms h))
    ∙ ap (steps_from p (number_at p nogoods) (count_below p nogoods place) (nogood_at nogoods place)) is
    ∙ sym (at_steps p (number_at p nogoods) (count_below p nogoods place) (nogood_at nogoods place) (is_met (posed p) nogoods place) (justification (posed p) nogoods place) justified) in
    let counts : count ≡ count_below p nogoods (suc place) =
    told ∙ ap (λ (n : ℕ). count_from p n piece) below.counted ∙ ap (count_from p (count_below p nogoods place)) is
    ∙ sym (at_count p (count_below p nogoods place) (is_met (posed p) nogoods place) (justification (posed p) nogoods place) justified) in
    let meets : now ≡ met_below p nogoods (suc place) =
    one ∙ ap (λ (n : ℕ). n + cond (is_some piece) 1 0) below.found ∙ ap (λ (o : Option Piece). met_below p nogoods place + cond (is_some o) 1 0) is
    ∙ sym (at_met (met_below p nogoods place) (is_met (posed p) nogoods place) (justification (posed p) nogoods place) justified) in
    let step : suc place ≡ place + 1 = sym (add-one place) in
    record {
      stands = subst (λ (n : ℕ). StandsFor next (steps_below p nogoods n) []) step
          (subst (λ (s : List Step). StandsFor next (steps_below p nogoods place ++ s) []) same (added (steps_below p nogoods place) [] below.stands));
      written = told_count;
      counted = counts ∙ ap (count_below p nogoods) step;
      count = ap length pushed ∙ length-append numbers (count ∷ []) ∙ omega (arith, below.count);
      known = subst (λ (ns : List ℕ). (j : ℕ) → j < place + 1 → numbered ns j ≡ number_at p nogoods j) (sym pushed) (more_numbers p nogoods place numbers count below.count below.known counts);
      found = meets ∙ ap (met_below p nogoods) step;
      left = rest_is;
    }

-- ---- how many are kept

one_or_none : (b : Bool) → cond b 1 0 ≤ 1
one_or_none true = omega arith
one_or_none false = omega arith

-- no more are met than there are
pub met-few : (p : Csp) (nogoods : List (List Atomic)) (place : ℕ) → met_below p nogoods place ≤ place
met-few p nogoods zero = omega arith
met-few p nogoods (suc j) =
    let few : met_below p nogoods j ≤ j = met-few p nogoods j in
    let one : cond (is_met (posed p) nogoods j) 1 0 ≤ 1 = one_or_none (is_met (posed p) nogoods j) in
    omega arith

-- the conclusion's is one of those that are met
pub met-kept : (p : Csp) (nogoods : List (List Atomic)) (met : ℕ) → 0 < length nogoods → met ≡ met_below p nogoods (length nogoods) → (1 ≤ met) × (met - 1 ≡ met_below p nogoods (length nogoods - 1))
met-kept p nogoods met some is =
    let count : length nogoods ≡ suc (length nogoods - 1) = omega arith in
    let all : met ≡ met_below p nogoods (length nogoods - 1) + cond (is_met (posed p) nogoods (length nogoods - 1)) 1 0 = is ∙ ap (met_below p nogoods) count in
    let one : ◌≡◌ {A = ℕ} (cond (is_met (posed p) nogoods (length nogoods - 1)) 1 0) 1 = ap (λ (b : Bool). cond {A = ℕ} b 1 0) (met-last (posed p) nogoods) in
    (omega arith, omega arith)

-- ---- the whole log

pub some-nogood : (s : Learned) → IsScaffold s → 0 < length s.nogoods
some-nogood s h = omega (arith, ap length h.last.1, length-append h.last.0 (nogood_of s.claim ∷ []))

-- with the conclusion the steps are those of the log
pub log-stands : (p : Csp) (s : Learned) (nogoods : List (List Atomic)) (claim : Verdict) (mid now : Written) → nogoods ≡ s.nogoods → claim ≡ s.claim
    → StandsFor mid (steps_below p nogoods (length nogoods)) [] → Adds mid (conclusion p claim) now → StandsFor now (log_of p s) []
log-stands p s nogoods claim mid now e f stands added =
    subst (λ (steps : List Step). StandsFor now steps []) (λ j. steps_below p (e j) (length (e j)) ++ conclusion p (f j) ∷ [])
    (added (steps_below p nogoods (length nogoods)) [] stands)

-- and all but the conclusion's nogood are kept
pub log-kept : (p : Csp) (s : Learned) (nogoods : List (List Atomic)) (met : ℕ) → IsScaffold s → nogoods ≡ s.nogoods → met ≡ met_below p nogoods (length nogoods) → (1 ≤ met) × (met - 1 ≡ kept_count p s)
log-kept p s nogoods met h e is = met-kept p s.nogoods met (some-nogood s h) (is ∙ (λ j. met_below p (e j) (length (e j))))
