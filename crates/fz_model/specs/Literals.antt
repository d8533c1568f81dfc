-- Names, integers, sets and the types of variables, each with a test of its numbers.
use Rattle.std.specs.Prelude.{ℕ, Bool, ◌⊎◌, List, Option, Some, None, ℤ}
use Rattle.fz_token.specs.declared.Keyword.TheVariants as key
use Rattle.dp_grammar.specs.Brackets.{Plain}
use Rattle.dp_grammar.specs.Chain.{chain, behind_mark}
use Rattle.dp_grammar.specs.Choice.{either}
use Rattle.dp_grammar.specs.Leaf.{leaf}
use Rattle.dp_grammar.specs.Listed.{listed}
use Rattle.fz_model.specs.Marks.{Production, is_key, is_stop, is_open, is_close, keyword, stop, opens, closes}
use Rattle.fz_model.specs.declared.fault.Fault.{Fault}
use Rattle.fz_model.specs.Words.{Curly, Comma, DoubleDot, Word, Named, Number, Stop}

abbrev pub name_of : Word → Option (List ℕ)
name_of (Plain (Named bytes)) = Some bytes
name_of _ = None

abbrev pub name : (List ℕ → Option Fault) → Production (List ℕ)
name test = leaf (record { value = name_of; token = λ bytes. Plain (Named bytes); test = test })

-- an integer, and whether `..` follows it
abbrev pub integer_of : Word → Option (ℤ × Bool)
integer_of (Plain (Number value dotted)) = Some (value, dotted)
integer_of _ = None

abbrev pub integer : (ℤ → Option Fault) → Production (ℤ × Bool)
integer test = leaf (record { value = integer_of; token = λ p. Plain (Number p.0 p.1); test = λ p. test p.0 })

-- INT '..' INT
abbrev pub range : (ℤ → Option Fault) → Production ((ℤ × Bool) × (ℤ × Bool))
range test = chain (integer test) (λ low. behind_mark (stop DoubleDot) (integer test))

-- '{' (INT (',' INT)*)? '}', where the test of a number may look at the numbers before it
abbrev pub numbers : (List (ℤ × Bool) → ℤ → Option Fault) → Production (List (ℤ × Bool))
numbers test = behind_mark (opens Curly) (listed (record {
  is_separator = is_stop Comma;
  separator = Plain (Stop Comma);
  is_close = is_close Curly;
  item = λ kept. integer (test kept);
  close = λ kept. closes Curly;
}))

-- numbers in brackets, or a range, whose numbers have tests of their own
abbrev pub set_literal : (List (ℤ × Bool) → ℤ → Option Fault) → (ℤ → Option Fault) → Production (List (ℤ × Bool) ⊎ ((ℤ × Bool) × (ℤ × Bool)))
set_literal test bound = either (is_open Curly) (numbers test) (range bound)

-- 'bool', 'int', or a set of integers
abbrev pub var_type : (List (ℤ × Bool) → ℤ → Option Fault) → (ℤ → Option Fault) → Production (Unit {0} ⊎ (Unit {0} ⊎ (List (ℤ × Bool) ⊎ ((ℤ × Bool) × (ℤ × Bool)))))
var_type test bound = either (is_key key.Bool) (keyword key.Bool) (either (is_key key.Int) (keyword key.Int) (set_literal test bound))
