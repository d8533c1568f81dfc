-- Calls of a function at a reference to an item.
use Rattle.std.specs.Prelude.{◌≡◌, Result, Ok}
use Rattle.std.specs.Fn.{FnReturnsAt, Shared}
use Rattle.dp_base.specs.declared.memory.Memory.{Memory}
use denote.Ref.{Bor}

-- f may be called at a reference to x
abbrev pub Takes : {F T R : Type 0} → Shared F (Bor T × Unit {0}) R → F → T → Type 0
Takes {F} {T} g f x = (p : Bor T) → p.now ≡ x → g.pre f (p, tt)

-- a call of f at a reference to x may give Ok of r
abbrev pub Gives : {F T R : Type 0} → Shared F (Bor T × Unit {0}) (Result R Memory) → F → T → R → Type 0
Gives g f x r = FnReturnsAt g f x (Ok r)
