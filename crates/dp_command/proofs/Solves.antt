-- What a search leaves of a desk, behind the reading of its model.
use Rattle.std.specs.Prelude.{◌≡◌, ◌≢◌, ◌⊎◌, ℕ, ◌<◌, ◌≤◌, Option, List, string_bytes}
use Rattle.std.proofs.Common.{sym, ◌∙◌, ap, subst, inl, inr, arith}
use Rattle.dp_desk.specs.Channel.{Channel, Files, Grows, GrowsByPart, IsAtEnd}
use Rattle.dp_desk.specs.Sight.{Sight, with_output}
use Rattle.dp_desk.specs.declared.desk.Out.TheVariants as Out
use Rattle.dp_lower.specs.Problem.{problem_of}
use Rattle.dp_parts.specs.Problems.{Csp, IsProblem}
use Rattle.dp_solver.specs.declared.outcome.Outcome.{Outcome}
use Rattle.dp_solver.specs.declared.outcome.Outcome.TheVariants.{Solution, Unsat, Optimal, Unknown}
use Rattle.fz_model.specs.Models.{Plan}
use Rattle.fz_solve.specs.Printed.{outcome_status, outcome_text}
use Rattle.fz_solve.specs.Solved.{FilesFront, Solved, SolvedPart, SolvesFront}
use Rattle.dp_command.proofs.Decides.{decided_by}
use Rattle.dp_command.proofs.Requests.{gen_solves_not, show_solves_not}
use Rattle.dp_command.specs.Due.{AreAtEnd, ChangesInputs, ReadsToEnd}
use Rattle.dp_command.specs.Solving.{IsSolved, SolvesModel, SolvesModelPart}
use Rattle.dp_command.specs.Tasks.{IsSearched, Searches}
use Rattle.dp_command.specs.Words.{Request, Check, Show, Process, Solve, Prove, Gen, Spells, IsSolve}
use Rattle.dp_command.specs.declared.task.Search.{Search}

-- ---- the status

-- how a search can end
abbrev pub Ends : ℕ → Type 0
Ends r = ((r ≡ 0) ⊎ (r ≡ 4)) ⊎ ((r ≡ 6) ⊎ (r ≡ 7))

outcome_ends : (r : ℕ) (o : Outcome) → r ≡ outcome_status o → (r ≡ 0) ⊎ (r ≡ 4)
outcome_ends r (Solution numbers) e = inl e
outcome_ends r Unsat e = inl e
outcome_ends r (Optimal numbers bound) e = inl e
outcome_ends r (Unknown best) e = inr e

pub search_ends : (search : Search) (r : ℕ) (was now : Sight) (before later : ℕ) → IsSearched search r was now before later → Ends r
search_ends search r was now before later (inl h) = inl (outcome_ends r h.0.outcome h.0.stands)
search_ends search r was now before later (inr (inl h)) = inr (inl h.0)
search_ends search r was now before later (inr (inr h)) = inr (inr h.0)

pub search_not_five : (r : ℕ) → Ends r → r ≡ 5 → ⊥
search_not_five r (inl (inl e)) f = omega (arith, e, f)
search_not_five r (inl (inr e)) f = omega (arith, e, f)
search_not_five r (inr (inl e)) f = omega (arith, e, f)
search_not_five r (inr (inr e)) f = omega (arith, e, f)

-- 0 and 4 are not 6 or 7
whole : (r : ℕ) → (r ≡ 0) ⊎ (r ≡ 4) → 6 ≤ r → ⊥
whole r (inl e) f = omega (arith, e, f)
whole r (inr e) f = omega (arith, e, f)

six : (r : ℕ) → r ≡ 6 → 6 ≤ r
six r e = omega (arith, e)

seven : (r : ℕ) → r ≡ 7 → 6 ≤ r
seven r e = omega (arith, e)

six_or_seven : (r : ℕ) → r ≡ 6 → r ≡ 7 → ⊥
six_or_seven r e f = omega (arith, e, f)

-- a solve that is none of these opens no file
pub unopened : (words : List (List ℕ)) (r : ℕ) → Ends r → IsSolve words → r ≢ 0 → r ≢ 6 → (IsSolve words → (r ≢ 4) × (r ≢ 7)) → ⊥
unopened words r (inl (inl e)) solve a b other = a e
unopened words r (inl (inr e)) solve a b other = (other solve).0 e
unopened words r (inr (inl e)) solve a b other = b e
unopened words r (inr (inr e)) solve a b other = (other solve).1 e

solved_small : (words : List (List ℕ)) (r : ℕ) → IsSolved words r → 6 ≤ r → ⊥
solved_small words r (solve, inl e) f = omega (arith, e, f)
solved_small words r (solve, inr e) f = omega (arith, e, f)

-- ---- the words

pub searched_words : (names : Option Files) (words : List (List ℕ)) (search : Search) → Searches names words search → IsSolve words
searched_words names words search s = (s.name, string_bytes search.out, search.conflicts, s.asked)

-- what was read to its end, where a solve was asked for, is the model
model_ended : (request : Request) (words : List (List ℕ)) (now : Sight) → Spells request words → AreAtEnd request now → IsSolve words → IsAtEnd now.model
model_ended (Check model log) words now e h solve = h.0
model_ended (Show log) words now e h solve = absurd (show_solves_not words (log, e) solve)
model_ended (Process model scaffold out workers) words now e h solve = h.0
model_ended (Solve model out most) words now e h solve = h
model_ended (Prove model workers most) words now e h solve = h
model_ended (Gen n model scaffold) words now e h solve = absurd (gen_solves_not words (n, model, scaffold, e) solve)

-- ---- behind the reading

moved_solved : (m : Plan) (p : Csp) (most r : ℕ) (was middle now : Sight) → middle.answer ≡ was.answer → Solved m p most r middle now → Solved m p most r was now
moved_solved m p most r was middle now same s = record {
  outcome = s.outcome;
  found = s.found;
  file = s.file;
  told = subst (λ (c : Channel). Grows c now.answer (outcome_text m s.outcome)) same s.told;
  stands = s.stands;
  truth = s.truth;
}

moved_part : (m : Plan) (p : Csp) (most : ℕ) (was middle now : Sight) → middle.answer ≡ was.answer → SolvedPart m p most middle now → SolvedPart m p most was now
moved_part m p most was middle now same s = record {
  outcome = s.outcome;
  found = s.found;
  file = s.file;
  told = subst (λ (c : Channel). GrowsByPart c now.answer (outcome_text m s.outcome)) same s.told;
}

moved_front : (m : Plan) (p : Csp) (most : ℕ) (was middle now : Sight) → middle.answer ≡ was.answer → middle.first ≡ was.first → SolvesFront m p most middle now → SolvesFront m p most was now
moved_front m p most was middle now answer first (inl h) = inl (subst (λ (c : Channel). FilesFront p most c now.first) first h.0, h.1 ∙ answer)
moved_front m p most was middle now answer first (inr h) = inr (moved_part m p most was middle now answer h)

-- ---- what was left

-- the words' model is solved
solves : (names : Option Files) (words : List (List ℕ)) (search : Search) (was middle now : Sight) (r : ℕ) →
    ChangesInputs was middle → now ≡ with_output Out.Answer now.answer (with_output Out.First now.first middle) → Searches names words search → ReadsToEnd words middle →
    Solved search.model search.problem search.conflicts r middle now → SolvesModel names words r was now
solves names words search was middle now r same rest s ended h =
    let solved : Solved search.model (problem_of search.model) search.conflicts r was now =
    subst (λ (p : Csp). Solved search.model p search.conflicts r was now) s.problem.posed
    (moved_solved search.model search.problem search.conflicts r was middle now (ap (λ (t : Sight). t.answer) same) h) in
    record {
      model = s.name;
      out = string_bytes search.out;
      most = search.conflicts;
      asked = s.asked;
      m = search.model;
      given = s.given;
      ended =
          subst IsAtEnd (sym (ap (λ (t : Sight). t.model) rest))
          (model_ended ended.request words middle ended.asked ended.ended (searched_words names words search s));
      solved = solved;
      decided = decided_by (problem_of search.model) search.conflicts solved.outcome (subst IsProblem s.problem.posed s.problem.sound) solved.found;
    }

-- fronts of its scaffold and of its text stand there
solves_part : (names : Option Files) (words : List (List ℕ)) (search : Search) (was middle now : Sight) →
    ChangesInputs was middle → Searches names words search → SolvesFront search.model search.problem search.conflicts middle now → SolvesModelPart names words was now
solves_part names words search was middle now same s h = record {
  model = s.name;
  out = string_bytes search.out;
  most = search.conflicts;
  asked = s.asked;
  m = search.model;
  given = s.given;
  front =
      subst (λ (p : Csp). SolvesFront search.model p search.conflicts was now) s.problem.posed
      (moved_front search.model search.problem search.conflicts was middle now (ap (λ (t : Sight). t.answer) same) (ap (λ (t : Sight). t.first) same) h);
}

-- at status 0 or 4
pub solved_search : (names : Option Files) (words : List (List ℕ)) (search : Search) (was middle now : Sight) (r before later : ℕ) →
    ChangesInputs was middle → now ≡ with_output Out.Answer now.answer (with_output Out.First now.first middle) → Searches names words search → ReadsToEnd words middle →
    IsSearched search r middle now before later → IsSolved words r → SolvesModel names words r was now
solved_search names words search was middle now r before later same rest s ended (inl h) is = solves names words search was middle now r same rest s ended h.0
solved_search names words search was middle now r before later same rest s ended (inr (inl h)) is = absurd (solved_small words r is (six r h.0))
solved_search names words search was middle now r before later same rest s ended (inr (inr h)) is = absurd (solved_small words r is (seven r h.0))

-- at status 6
pub front_search : (names : Option Files) (words : List (List ℕ)) (search : Search) (was middle now : Sight) (r before later : ℕ) →
    ChangesInputs was middle → Searches names words search → IsSearched search r middle now before later → r ≡ 6 → SolvesModelPart names words was now
front_search names words search was middle now r before later same s (inl h) e = absurd (whole r (outcome_ends r h.0.outcome h.0.stands) (six r e))
front_search names words search was middle now r before later same s (inr (inl h)) e = solves_part names words search was middle now same s h.1
front_search names words search was middle now r before later same s (inr (inr h)) e = absurd (six_or_seven r e h.0)

-- at status 7
pub left_search : (names : Option Files) (words : List (List ℕ)) (search : Search) (was middle now : Sight) (r before later : ℕ) →
    ChangesInputs was middle → Searches names words search → IsSearched search r middle now before later → r ≡ 7 → SolvesModelPart names words was now
left_search names words search was middle now r before later same s (inl h) e = absurd (whole r (outcome_ends r h.0.outcome h.0.stands) (seven r e))
left_search names words search was middle now r before later same s (inr (inl h)) e = absurd (six_or_seven r h.0 e)
left_search names words search was middle now r before later same s (inr (inr h)) e = solves_part names words search was middle now same s h.1

kept_count : (before between later : ℕ) → between ≡ before → later ≡ between → before < later → ⊥
kept_count before between later e f g = omega (arith, e, f, g)

-- what is counted is told, or is want of memory
pub seen_search : (search : Search) (middle now : Sight) (words : List (List ℕ)) (r before between later : ℕ) → between ≡ before → IsSolve words → IsSearched search r middle now between later →
    before < later → (r ≡ 6) ⊎ ((r ≡ 7) × IsSolve words)
seen_search search middle now words r before between later same solve (inl h) more = absurd (kept_count before between later same h.1 more)
seen_search search middle now words r before between later same solve (inr (inl h)) more = inl h.0
seen_search search middle now words r before between later same solve (inr (inr h)) more = inr (h.0, solve)
