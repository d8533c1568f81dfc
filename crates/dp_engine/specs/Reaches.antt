-- The places of the parts on each variable, as an engine reaches them: those of an index below a bound, and its own.
use Rattle.std.specs.Prelude.{◌≡◌, ℕ, nat_lt, List, [], ◌∷◌, ◌++◌, drop, filter, get_or, length, Option, Some, None}
use Rattle.dp_base.specs.Lists.{Climbs}

-- the places below the bound
abbrev pub below : ℕ → List ℕ → List ℕ
below bound places = filter (λ k. nat_lt k bound) places

-- for each variable those of the index below the bound, and behind them its own
abbrev pub joined : ℕ → List (List ℕ) → List (List ℕ) → List (List ℕ)
joined bound [] own = []
joined bound (ks ∷ lists) own = (below bound ks ++ get_or own 0 []) ∷ joined bound lists (drop 1 own)

-- the lists, where there are some
abbrev pub own_lists : Option (List (List ℕ)) → List (List ℕ)
own_lists None = []
own_lists (Some lists) = lists

-- the places of each list of the index ascend, and there are as many own lists, where there are some
pub record AreOrdered (lists : List (List ℕ)) (mine : Option (List (List ℕ))) : Type 0 where
  pub own : (ls : List (List ℕ)) → mine ≡ Some ls → length ls ≡ length lists
  pub climb : (x : ℕ) → Climbs (get_or lists x [])
