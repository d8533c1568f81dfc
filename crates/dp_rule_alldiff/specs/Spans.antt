-- Spans: the least and the greatest value of each position, and intervals with too many of them.
use Rattle.std.specs.Prelude.{ℕ, Bool, ◌&&◌, Option, Some, None, List, [], ◌∷◌, length, filter, ℤ, pos, ◌+ℤ◌, ◌-ℤ◌, ◌≤ℤ◌, int_le, int_lt}
use Rattle.std.specs.List.{filter_map, list_any}
use Rattle.dp_base.specs.Lists.{Each}
use Rattle.dp_domain.specs.Sets.{least_from, greatest_from}
use Rattle.dp_domain.specs.States.{Domains}
use Rattle.dp_domain.specs.Terms.{term_values}
use Rattle.dp_domain.specs.declared.term.Term.{Term}

-- the least and the greatest of the values; none of no values
abbrev pub span_of : List ℤ → Option (ℤ × ℤ)
span_of [] = None
span_of (v ∷ vs) = Some (least_from v vs, greatest_from v vs)

-- the span of each position, without positions that have no value
abbrev pub spans_of : Domains → List Term → List (ℤ × ℤ)
spans_of d terms = filter_map (λ t. span_of (term_values d t)) terms

-- the first number of the span is at most the last
abbrev pub IsSpan : ℤ × ℤ → Type 0
IsSpan span = span.0 ≤ℤ span.1

-- whether the span lies from a to b
abbrev pub is_inside : ℤ → ℤ → ℤ × ℤ → Bool
is_inside a b span = int_le a span.0 && int_le span.1 b

-- how many of the spans lie from a to b
abbrev pub count_inside : List (ℤ × ℤ) → ℤ → ℤ → ℕ
count_inside spans a b = length (filter (is_inside a b) spans)

-- whether more of the spans lie from a to b than there are numbers, of which there is one
abbrev pub is_crowded : List (ℤ × ℤ) → ℤ → ℤ → Bool
is_crowded spans a b = int_le a b && int_lt ((b -ℤ a) +ℤ pos 1) (pos (count_inside spans a b))

-- whether that is so from a to the last number of some span
abbrev pub is_crowded_from : List (ℤ × ℤ) → ℤ → Bool
is_crowded_from spans a = list_any (λ (s : ℤ × ℤ). is_crowded spans a s.1) spans

-- whether it is so from the first number of some span
abbrev pub has_crowd : List (ℤ × ℤ) → Bool
has_crowd spans = list_any (λ (s : ℤ × ℤ). is_crowded_from spans s.0) spans

-- the last number of each span is at most that of each span after it
abbrev pub AreInOrder : List (ℤ × ℤ) → Type 0
AreInOrder [] = Unit {0}
AreInOrder (s ∷ spans) = Each (λ (t : ℤ × ℤ). s.1 ≤ℤ t.1) spans × AreInOrder spans
