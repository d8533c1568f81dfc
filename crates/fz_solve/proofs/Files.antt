-- What solving leaves of the file and of the answer.
use Rattle.std.proofs.Common.{◌≡◌, ℕ, List, [], ◌∷◌, ◌++◌, None, Result, refl, sym, ◌∙◌, ap, subst, inl, inr, arith}
use Rattle.std.specs.Prelude.{IfOk, OnErr, OnOk, Ok, Err}
use Rattle.dp_desk.specs.Channel.{Channel, Shut, Hidden, Shown, Grows, GrowsByPart, IsOpen, Starts}
use Rattle.dp_desk.specs.Sight.{Sight, with_output}
use Rattle.dp_desk.specs.declared.desk.Out.TheVariants as Out
use Rattle.dp_desk.proofs.Channels.{grows_by_none}
use Rattle.dp_domain.specs.Atoms.{Atomic}
use Rattle.dp_learning.specs.Scaffolds.{scaffold_of}
use Rattle.dp_parts.specs.Problems.{Csp}
use Rattle.dp_solver.specs.Outcomes.{Solves}
use Rattle.dp_solver.specs.declared.outcome.Outcome.{Outcome}
use Rattle.dp_solver.specs.declared.outcome.SolveFault.{SolveFault}
use Rattle.fz_model.specs.Models.{Plan}
use Rattle.fz_solve.specs.Printed.{outcome_status, outcome_text}
use Rattle.fz_solve.specs.Solved.{FilesFront, Holds, HoldsAll, HoldsFront, IsTruth, Solved, SolvesFront}

-- ---- a file

-- what is opened and then grows by a text holds it
pub holds_of : (started now : Channel) (text : List ℕ) → Starts started → Grows started now text → Holds now text
holds_of Shut now text s g = absurd s
holds_of Hidden Shut text s g = absurd g
holds_of Hidden Hidden text s g = tt
holds_of Hidden (Shown bytes) text s g = absurd g
holds_of (Shown was) Shut text s g = absurd g
holds_of (Shown was) Hidden text s g = tt
holds_of (Shown was) (Shown bytes) text s g = g ∙ ap (λ w. w ++ text) s

front_by : (started now : Channel) (text front rest : List ℕ) → Starts started → text ≡ front ++ rest → Grows started now front → HoldsFront now text
front_by Shut now text front rest s e g = absurd s
front_by Hidden Shut text front rest s e g = absurd g
front_by Hidden Hidden text front rest s e g = tt
front_by Hidden (Shown bytes) text front rest s e g = absurd g
front_by (Shown was) Shut text front rest s e g = absurd g
front_by (Shown was) Hidden text front rest s e g = tt
front_by (Shown was) (Shown bytes) text front rest s e g = (rest, e ∙ ap (λ b. b ++ rest) (sym (g ∙ ap (λ w. w ++ front) s)))

-- what is opened and then grows by a part of a text holds a front of it
pub front_of : (started now : Channel) (text : List ℕ) → Starts started → GrowsByPart started now text → HoldsFront now text
front_of started now text s g = front_by started now text g.front g.rest s g.whole g.grows

-- nothing is a front of every text
no_part : (was now : Channel) (text : List ℕ) → IsOpen was → now ≡ was → GrowsByPart was now text
no_part was now text opened e = record { front = []; rest = text; whole = refl; grows = subst (λ c. Grows was c []) (sym e) (grows_by_none was opened) }

-- ---- the scaffold

none_split : (before after : List (List Atomic)) (nogood : List Atomic) → [] ≡ before ++ nogood ∷ after → ⊥
none_split [] after nogood e = cc
none_split (n ∷ before) after nogood e = cc

-- a file that was opened for what was found holds it
holds_all : (p : Csp) (most : ℕ) (started now : Channel) (outcome : Outcome) → Starts started → Solves p most started now outcome → HoldsAll p most now outcome
holds_all p most started now outcome s h = record {
  found = record { nogoods = h.nogoods; claim = h.claim; learned = h.learned; few = h.few; outcome_is = h.outcome };
  file = holds_of started now (scaffold_of p h.nogoods h.claim) s h.written;
}

pub holds_found : (p : Csp) (most : ℕ) (started now : Channel) (result : Result Outcome SolveFault) → Starts started → IfOk result (Solves p most started now) → IfOk result (HoldsAll p most now)
holds_found p most started now (Ok outcome) s h = holds_all p most started now outcome s h
holds_found p most started now (Err e) s h = tt

-- a file that was not opened
pub unopened : (p : Csp) (most : ℕ) (was now : Channel) → now ≡ was → FilesFront p most was now
unopened p most was now e = record {
  nogoods = [];
  claim = None;
  learned = λ before after nogood f. absurd (none_split before after nogood f);
  few = omega arith;
  follows = tt;
  file = inl e;
}

-- ---- the answer

-- where the file is written first, the answer is as it was, and the file is not changed by the answer
answer_kept : (was middle : Sight) → middle ≡ with_output Out.First middle.first was → middle.answer ≡ was.answer
answer_kept was middle e = ap (λ (t : Sight). t.answer) e

first_kept : (middle now : Sight) → now ≡ with_output Out.Answer now.answer middle → now.first ≡ middle.first
first_kept middle now e = ap (λ (t : Sight). t.first) e

-- both written whole
solved_of : (m : Plan) (p : Csp) (most status : ℕ) (was middle now : Sight) (outcome : Outcome) → middle ≡ with_output Out.First middle.first was → now ≡ with_output Out.Answer now.answer middle
    → HoldsAll p most middle.first outcome → Grows middle.answer now.answer (outcome_text m outcome) → status ≡ outcome_status outcome → IsTruth m outcome → Solved m p most status was now
solved_of m p most status was middle now outcome one two h told stands truth = record {
  outcome = outcome;
  found = h.found;
  file = subst (λ c. Holds c (scaffold_of p h.found.nogoods h.found.claim)) (sym (first_kept middle now two)) h.file;
  told = subst (λ c. Grows c now.answer (outcome_text m outcome)) (answer_kept was middle one) told;
  stands = stands;
  truth = truth;
}

-- so it is where the answer's status is that of the outcome
pub solved_ok : (m : Plan) (p : Csp) (most : ℕ) (was middle now : Sight) (outcome : Outcome) (result : Result ℕ SolveFault) → middle ≡ with_output Out.First middle.first was → now ≡ with_output Out.Answer now.answer middle
    → HoldsAll p most middle.first outcome → IsTruth m outcome → OnOk result (Grows middle.answer now.answer (outcome_text m outcome)) → IfOk result (λ status. status ≡ outcome_status outcome)
    → IfOk result (λ status. Solved m p most status was now)
solved_ok m p most was middle now outcome (Ok status) one two h truth told stands = solved_of m p most status was middle now outcome one two h told stands truth
solved_ok m p most was middle now outcome (Err e) one two h truth told stands = tt

-- a front of the text behind the whole file
pub part_told : (m : Plan) (p : Csp) (most : ℕ) (was middle now : Sight) (outcome : Outcome) (result : Result ℕ SolveFault) → middle ≡ with_output Out.First middle.first was
    → now ≡ with_output Out.Answer now.answer middle → HoldsAll p most middle.first outcome → OnErr result (GrowsByPart middle.answer now.answer (outcome_text m outcome))
    → OnErr result (SolvesFront m p most was now)
part_told m p most was middle now outcome (Ok status) one two h told = tt
part_told m p most was middle now outcome (Err e) one two h told =
    inr (record {
      outcome = outcome;
      found = h.found;
      file = subst (λ c. Holds c (scaffold_of p h.found.nogoods h.found.claim)) (sym (first_kept middle now two)) h.file;
      told = subst (λ c. GrowsByPart c now.answer (outcome_text m outcome)) (answer_kept was middle one) told;
    })

-- where the fact holds it holds on an error
pub on_err : {T E : Type 0} (result : Result T E) (X : Type 0) → X → OnErr result X
on_err (Ok v) X x = tt
on_err (Err e) X x = x
