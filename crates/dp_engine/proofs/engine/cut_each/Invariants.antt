use Rattle.std.proofs.Common.{◌≡◌, ℕ, List, drop, length}
use Rattle.dp_domain.specs.States.{cut_all}
use Rattle.dp_engine.specs.Debts.{IsKept}
use Rattle.dp_engine.specs.Engines.{Begins, HaveCount}
use Rattle.dp_engine.specs.Placed.{Placed}
use Rattle.dp_engine.specs.Trails.{all_of}
use Rattle.dp_engine.specs.Woken.{IsIndex}
use Rattle.dp_engine.proofs.engine.cut_each.Given as goal

-- the state cut by the atoms that are left is the one cut by all
abbrev pub invariant-loop-atom : goal.invariant-loop-atom
invariant-loop-atom l = record {
  kept : (parts : List Placed) → IsIndex (length l.fn.trail.present) parts l.occurrences → IsKept parts l.fn.debts l.fn.trail → IsKept parts l.debts l.trail;
  bits : length l.debts.now ≡ length l.fn.debts.now;
  lasting : l.debts.lasting ≡ l.fn.debts.lasting;
  counts : (n : ℕ) → HaveCount n (all_of l.fn.trail) → HaveCount n (all_of l.trail);
  states : Begins (all_of l.fn.trail) (all_of l.trail);
  sets : length l.trail.present ≡ length l.fn.trail.present;
  cut : cut_all l.trail.present (drop l.atom-index l.atoms) ≡ cut_all l.fn.trail.present l.atoms;
}
