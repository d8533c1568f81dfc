-- What is seen of annotations is what the model keeps of them.
use Rattle.std.proofs.Common.{◌≡◌, ℕ, ◌||◌, Bool, true, false, cond, if◌then◌else◌, not, List, [], ◌∷◌, Option, Some, None, Result, Ok, Err, refl, ap, sym, ◌∙◌}
use Rattle.std.specs.Prelude.{option_map, bytes_eq, codes, find}
use Rattle.std.specs.Option.{option_map_or}
use Rattle.dp_grammar.specs.Brackets.{spell_inside}
use Rattle.dp_grammar.specs.Grammar.{Cause}
use Rattle.dp_grammar.specs.Whole.{whole}
use Rattle.fz_model.specs.Annotations.{Annotation, Balanced}
use Rattle.fz_model.specs.Arrays.{args_fit, count_of, fit, notes_test, output_ranges, output_test}
use Rattle.fz_model.specs.Items.{IntText}
use Rattle.fz_model.specs.Limits.{refuse_if}
use Rattle.fz_model.specs.Models as model
use Rattle.fz_model.specs.Models.{is_noted, output_of}
use Rattle.fz_model.specs.declared.fault.Fault.{Fault}
use Rattle.fz_model.specs.declared.fault.Fault.TheVariants.{Kind}
use Rattle.fz_model.specs.Words.{Round, Word, bracketing}
use Rattle.fz_items.specs.Arrays.{array_test, elements_fit}
use Rattle.fz_items.specs.Notes.{Seen, add_note, args_ranges, ranges_in, seen_behind, seen_in}
use Rattle.fz_items.specs.States.{shown_ranges}

or_false : (a : Bool) → a ≡ (a || false)
or_false true = refl
or_false false = refl

or_assoc : (a b c : Bool) → ((a || b) || c) ≡ (a || (b || c))
or_assoc true b c = refl
or_assoc false b c = refl

var_behind : (seen : Seen) (ns : List Annotation) → (seen_behind seen ns).var ≡ (seen.var || is_noted (codes "output_var") ns)
var_behind seen [] = or_false seen.var
var_behind seen (a ∷ ns) = var_behind (add_note seen a) ns ∙ or_assoc seen.var (bytes_eq a.name (codes "output_var")) (is_noted (codes "output_var") ns)

pub var_seen : (ns : List Annotation) → (seen_in ns).var ≡ is_noted (codes "output_var") ns
var_seen ns = var_behind (record { var = false; array = None }) ns

-- ---- the first `output_array`

abbrev is_output : Annotation → Bool
is_output note = bytes_eq note.name (codes "output_array")

abbrev shown : Option Annotation → Option (Option (List (IntText × IntText)))
shown note = option_map (λ n. args_ranges n.args) note

stays : (var : Bool) (ranges : Option (List (IntText × IntText))) (ns : List Annotation) → (seen_behind (record { var = var; array = Some ranges }) ns).array ≡ Some ranges
stays var ranges [] = refl
stays var ranges (a ∷ ns) = stays (var || bytes_eq a.name (codes "output_var")) ranges ns

first_or_not : (b var : Bool) (a : Annotation) (ns : List Annotation) → ((var : Bool) → (seen_behind (record { var = var; array = None }) ns).array ≡ shown (find is_output ns))
    → (seen_behind (record { var = var; array = if b then Some (args_ranges a.args) else None }) ns).array ≡ shown (cond b (Some a) (find is_output ns))
first_or_not true var a ns h = stays var (args_ranges a.args) ns
first_or_not false var a ns h = h var

array_behind : (ns : List Annotation) (var : Bool) → (seen_behind (record { var = var; array = None }) ns).array ≡ shown (find is_output ns)
array_behind [] var = refl
array_behind (a ∷ ns) var = first_or_not (is_output a) (var || bytes_eq a.name (codes "output_var")) a ns (λ v. array_behind ns v)

pub array_seen : (ns : List Annotation) → (seen_in ns).array ≡ shown (find is_output ns)
array_seen ns = array_behind ns false

-- ---- its ranges

read_bounds : (r : Result (List (IntText × IntText)) (Cause Fault × List Word)) → model.ranges_read r ≡ shown_ranges (Some (ranges_in r))
read_bounds (Ok ranges) = refl
read_bounds (Err refusal) = refl

args_bounds : (args : Option Balanced) → model.ranges_of args ≡ shown_ranges (Some (args_ranges args))
args_bounds None = refl
args_bounds (Some args) = read_bounds (whole output_ranges (spell_inside bracketing (Round ∷ []) args))

found_bounds : (note : Option Annotation) → option_map_or (λ n. model.ranges_of n.args) note None ≡ shown_ranges (shown note)
found_bounds None = refl
found_bounds (Some note) = args_bounds note.args

pub output_seen : (ns : List Annotation) → output_of ns ≡ shown_ranges (seen_in ns).array
output_seen ns = found_bounds (find is_output ns) ∙ sym (ap shown_ranges (array_seen ns))

-- ---- the test of them

fit_so : (count : ℕ) (r : Result (List (IntText × IntText)) (Cause Fault × List Word)) → fit count r ≡ elements_fit count (ranges_in r)
fit_so count (Ok []) = refl
fit_so count (Ok (p ∷ ranges)) = refl
fit_so count (Err refusal) = refl

args_so : (count : ℕ) (args : Option Balanced) → args_fit count args ≡ elements_fit count (args_ranges args)
args_so count None = refl
args_so count (Some args) = fit_so count (whole output_ranges (spell_inside bracketing (Round ∷ []) args))

found_so : (count : ℕ) (note : Option Annotation) → output_test count note ≡ array_test count (shown note)
found_so count None = refl
found_so count (Some note) = ap (λ (b : Bool). refuse_if (not b) Kind) (args_so count note.args)

pub test_seen : (size : IntText) (ns : List Annotation) → notes_test size ns ≡ array_test (count_of size.0) (seen_in ns).array
test_seen size ns = found_so (count_of size.0) (find is_output ns) ∙ sym (ap (array_test (count_of size.0)) (array_seen ns))
