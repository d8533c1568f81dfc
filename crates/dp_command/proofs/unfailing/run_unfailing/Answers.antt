-- Without a fault there is no status of one.
use Rattle.std.specs.Prelude.{◌≡◌, ◌⊎◌, ℕ, ◌≤◌, ◌<◌}
use Rattle.std.proofs.Common.{arith, inl, inr}
use Rattle.std.proofs.lemmas.Bool.{cases_lt}
use Rattle.dp_desk.specs.Causes.{Rose}
use Rattle.dp_command.proofs.unfailing.run_unfailing.Goals as goal

-- a count that stays 0 did not rise
not_risen : Rose 0 0 → ⊥
not_risen h = omega (arith, h)

settled : (n : ℕ) → n ≤ 7 → (n ≡ 5 → Rose 0 0) → (n ≡ 6 → Rose 0 0) → (n ≤ 4) ⊎ (n ≡ 7)
settled n known five six = by_four (cases_lt 4 n)
  where
    by_six : (6 < n) ⊎ (n ≤ 6) → 5 < n → (n ≤ 4) ⊎ (n ≡ 7)
    by_six (inl h) g = inr (omega (arith, known, h))
    by_six (inr h) g = absurd (not_risen (six (omega (arith, g, h))))

    by_five : (5 < n) ⊎ (n ≤ 5) → 4 < n → (n ≤ 4) ⊎ (n ≡ 7)
    by_five (inl h) g = by_six (cases_lt 6 n) h
    by_five (inr h) g = absurd (not_risen (five (omega (arith, g, h))))

    by_four : (4 < n) ⊎ (n ≤ 4) → (n ≤ 4) ⊎ (n ≡ 7)
    by_four (inl h) = by_five (cases_lt 5 n) h
    by_four (inr h) = inl h

pub returns-clause-complete : goal.returns-clause-complete
returns-clause-complete g c = settled c.run.result c.run.ensures.answered.known c.run.ensures.faults.read c.run.ensures.faults.write
