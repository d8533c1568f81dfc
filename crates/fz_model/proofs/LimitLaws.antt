-- What the tests of limits let through.
use Rattle.std.specs.Prelude.{◌≡◌, false, List, [], ◌∷◌, Option, Some, None, is_none, ℤ}
use Rattle.std.proofs.Common.{refl, ap, ◌∙◌, sym}
use Rattle.std.specs.List.{list_any}
use Rattle.fz_model.specs.Limits.{each_test, is_refused, no_test, or_else, refuse_if}
use Rattle.fz_model.specs.declared.fault.Fault.{Fault}
use Rattle.fz_model.specs.declared.fault.Fault.TheVariants.{Limit}

passes_all : (es : List (Option ℤ)) → list_any (is_refused no_test) es ≡ false
passes_all [] = refl
passes_all (None ∷ es) = passes_all es
passes_all (Some v ∷ es) = passes_all es

-- constants without a test of them are not refused
pub nothing_refused : (es : List (Option ℤ)) (fault : Fault) → list_any is_none es ≡ false → None ≡ or_else (refuse_if (list_any is_none es) fault) (each_test no_test es)
nothing_refused es fault e = sym (ap (λ b. or_else (refuse_if b fault) (each_test no_test es)) e ∙ ap (λ b. refuse_if b Limit) (passes_all es))
