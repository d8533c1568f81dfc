use Rattle.std.proofs.Common.{inl, inr, refl, rules}
use Rattle.dp_desk.proofs.memory_desk.MemoryDeskDesk.open_in.Goals as goal
use Rattle.dp_desk.proofs.memory_desk.MemoryDeskDesk.open_in.Goals.{in_default-via-in-Some+else-not-listed, in_default-via-in_default}

-- it was listed, or no file has the name
pub returns-in_default-clause-fails : goal.returns-in_default-clause-fails
returns-in_default-clause-fails c = elim c.in_default.branch [
  | in_default-via-in-Some+else-not-listed w ↦ (λ _. inl (search rules), λ _. refl)
  | in_default-via-in_default w ↦ (λ _. inr (search rules), λ _. refl)
]
