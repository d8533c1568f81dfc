use Rattle.std.proofs.Common.{◌≡◌, ◌||◌, false, length, get_or, take}
use Rattle.std.specs.Prelude.{nat_eq}
use Rattle.std.specs.List.{list_any}
use Rattle.dp_process.specs.Marks.{AreMarked}
use Rattle.dp_process.proofs.found.mark.Given as goal

abbrev pub invariant-loop-place : goal.invariant-loop-place
invariant-loop-place l = record {
  count : length l.marks.items ≡ length l.initial.marks.items;
  marked : AreMarked l.marks.items (λ i. get_or l.initial.marks.items i false || list_any (nat_eq i) (take l.place-index l.places));
}
