use Rattle.std.proofs.Common.{◌≡◌, ◌&&◌, map, drop}
use Rattle.std.specs.List.{list_any}
use Rattle.dp_parts.specs.Problems.{labelled}
use Rattle.dp_parts.specs.Rules.{is_labelled}
use Rattle.dp_checker.proofs.inference.any_clash.Given as goal

abbrev pub invariant-loop-part : goal.invariant-loop-part
invariant-loop-part l =
    list_any (λ part. is_labelled l.label part && part.face.test l.start) (map labelled (drop l.part-index l.parts)) ≡ list_any (λ part. is_labelled l.label part && part.face.test l.start) (map labelled l.parts)
