use Rattle.std.proofs.Common.{◌≡◌, map, take}
use Rattle.fz_model.specs.Context.{meaning}
use Rattle.fz_model.specs.ModelText.{int_constant}
use Rattle.fz_items.specs.Seen.{basic_text}
use Rattle.fz_items.proofs.kinds.integers.Given as goal

abbrev pub invariant-loop-word : goal.invariant-loop-word
invariant-loop-word l = l.constants.items ≡ map (λ text. int_constant (meaning l.names text)) (map basic_text (take l.word-index l.words))
