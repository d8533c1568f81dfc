-- Variables of which each stands at one position alone.
use Rattle.std.specs.Prelude.{ℕ, List, [], ◌∷◌}
use Rattle.dp_base.specs.Lists.{Among}

-- no variable stands there again
abbrev pub AreOnce : List ℕ → Type 0
AreOnce [] = Unit {0}
AreOnce (x ∷ xs) = (¬ (Among x xs)) × AreOnce xs
