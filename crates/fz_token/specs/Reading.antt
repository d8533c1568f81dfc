-- A text that is being read.
use Rattle.std.specs.Prelude.{ℕ, List}

-- a text, and the place up to which its tokens were taken
pub record Reading : Type 0 where
  pub text : List ℕ
  pub at : ℕ
