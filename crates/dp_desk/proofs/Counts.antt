-- How a count of faults goes on over several calls.
use Rattle.std.proofs.Common.{ℕ, ◌≤◌, arith}
use Rattle.dp_desk.specs.Causes.{Rose}

-- a count that rose has risen since earlier
pub rose_since : (earlier before now : ℕ) → earlier ≤ before → Rose before now → Rose earlier now
rose_since earlier before now le rose = omega arith

-- a count that rose has risen until later
pub rose_until : (before now later : ℕ) → Rose before now → now ≤ later → Rose before later
rose_until before now later rose le = omega arith
