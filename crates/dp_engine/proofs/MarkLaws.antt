-- Marks of blocks of places.
use Rattle.std.proofs.Common.{◌≡◌, ℕ, ◌+◌, ◌/◌, ◌≤◌, Bool, true, false, List, length, get_or, sym, ◌∙◌, inl, inr, arith}
use Rattle.std.proofs.lemmas.Bool.{cases_lt, false≢true}
use Rattle.std.proofs.lemmas.List.{get_or_default, get_or_past}
use Rattle.dp_engine.specs.Woken.{AreMarked}

-- a place without a mark is behind all marks
unmarked_past : (marks : List Bool) (j : ℕ) → ((i : ℕ) → get_or marks i true ≡ true) → get_or marks j false ≡ false → length marks ≤ j
unmarked_past marks j all e = elim (cases_lt j (length marks)) [
  | inl l ↦ absurd (false≢true (sym e ∙ get_or_default marks j false true l ∙ all j))
  | inr l ↦ l
]

-- all blocks may be marked
pub marked-all : (marks woken : List Bool) (n : ℕ) → length woken ≡ n → length marks ≡ n / 512 + 1 → ((i : ℕ) → get_or marks i true ≡ true) → AreMarked marks woken
marked-all marks woken n size count all = record {
  reach = omega arith;
  resting = λ k e. let past : length marks ≤ k / 512 = unmarked_past marks (k / 512) all e in get_or_past woken k false (omega arith);
}
