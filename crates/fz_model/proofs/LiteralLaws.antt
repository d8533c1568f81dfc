-- Names, integers, sets and types of variables are lawful, whatever their tests.
use Rattle.std.proofs.Common.{◌≡◌, ℕ, Bool, false, ◌⊎◌, inl, inr, List, [], Option, Some, ℤ, pos, refl, sym, ap}
use Rattle.fz_token.specs.declared.Keyword.{Keyword}
use Rattle.fz_token.specs.declared.Keyword.TheVariants as key
use Rattle.dp_grammar.specs.Brackets.{Plain, Opens, Closes}
use Rattle.dp_grammar.specs.Chain.{behind_mark}
use Rattle.dp_grammar.specs.Choice.{IsLed, either}
use Rattle.dp_grammar.specs.Grammar.{IsLawful}
use Rattle.dp_grammar.specs.Listed.{listed}
use Rattle.dp_grammar.proofs.Leaves.{leaf_lawful}
use Rattle.dp_grammar.proofs.Chains.{chain_lawful, behind_mark_lawful}
use Rattle.dp_grammar.proofs.Choices.{either_lawful}
use Rattle.dp_grammar.proofs.Lists.{listed_lawful}
use Rattle.fz_model.specs.Literals.{name_of, name, integer_of, integer, range, numbers, set_literal, var_type}
use Rattle.fz_model.specs.Marks.{is_key, is_stop, is_open, is_close, keyword, stop, opens, closes}
use Rattle.fz_model.specs.declared.fault.Fault.{Fault}
use Rattle.fz_model.specs.Words.{Curly, Comma, DoubleDot, Word, Named, Key, Number, Float, Quoted, Stop}
use Rattle.fz_model.proofs.MarkLaws.{stop_is_only, keyword_lawful, stop_lawful, opens_lawful, closes_lawful}

name_is : (w : Word) (bytes : List ℕ) → name_of w ≡ Some bytes → Plain (Named bytes) ≡ w
name_is (Plain (Named other)) bytes e = let same : other ≡ bytes = cc in ap (λ b. Plain (Named b)) (sym same)
name_is (Plain (Key k)) bytes e = absurd cc
name_is (Plain (Number value dotted)) bytes e = absurd cc
name_is (Plain Float) bytes e = absurd cc
name_is (Plain Quoted) bytes e = absurd cc
name_is (Plain (Stop p)) bytes e = absurd cc
name_is (Opens b) bytes e = absurd cc
name_is (Closes b) bytes e = absurd cc

pub name_lawful : (test : List ℕ → Option Fault) → IsLawful (name test)
name_lawful test = leaf_lawful (record { value = name_of; token = λ bytes. Plain (Named bytes); test = test }) (record { some = []; value_is = λ bytes. refl; token_is = name_is })

integer_is : (w : Word) (p : ℤ × Bool) → integer_of w ≡ Some p → Plain (Number p.0 p.1) ≡ w
integer_is (Plain (Number value dotted)) p e =
    let q : ℤ × Bool = (value, dotted) in
    let same : q ≡ p = cc in
    ap (λ (r : ℤ × Bool). Plain (Number r.0 r.1)) (sym same)
integer_is (Plain (Named bytes)) p e = absurd cc
integer_is (Plain (Key k)) p e = absurd cc
integer_is (Plain Float) p e = absurd cc
integer_is (Plain Quoted) p e = absurd cc
integer_is (Plain (Stop q)) p e = absurd cc
integer_is (Opens b) p e = absurd cc
integer_is (Closes b) p e = absurd cc

pub integer_lawful : (test : ℤ → Option Fault) → IsLawful (integer test)
integer_lawful test =
    leaf_lawful (record { value = integer_of; token = λ p. Plain (Number p.0 p.1); test = λ p. test p.0 }) (record { some = (pos 0, false); value_is = λ p. refl; token_is = integer_is })

pub range_lawful : (test : ℤ → Option Fault) → IsLawful (range test)
range_lawful test =
    chain_lawful (integer test) (λ low. behind_mark (stop DoubleDot) (integer test)) (integer_lawful test)
    (λ low. behind_mark_lawful (stop DoubleDot) (integer test) (stop_lawful DoubleDot) (integer_lawful test))

pub numbers_lawful : (test : List (ℤ × Bool) → ℤ → Option Fault) → IsLawful (numbers test)
numbers_lawful test =
    behind_mark_lawful (opens Curly) (listed (record {
      is_separator = is_stop Comma;
      separator = Plain (Stop Comma);
      is_close = is_close Curly;
      item = λ kept. integer (test kept);
      close = λ kept. closes Curly;
    })) (opens_lawful Curly)
    (listed_lawful (record {
      is_separator = is_stop Comma;
      separator = Plain (Stop Comma);
      is_close = is_close Curly;
      item = λ kept. integer (test kept);
      close = λ kept. closes Curly;
    }) (record {
      separates = stop_is_only Comma;
      item = λ kept. integer_lawful (test kept);
      close = λ kept. closes_lawful Curly;
      begins = λ kept x. refl;
      closes = λ kept c. refl;
      apart = λ kept c. refl;
    }))

pub set_literal_lawful : (test : List (ℤ × Bool) → ℤ → Option Fault) (bound : ℤ → Option Fault) → IsLawful (set_literal test bound)
set_literal_lawful test bound =
    either_lawful (is_open Curly) (numbers test) (range bound) (record { first = λ x. refl; second = λ y. refl })
    (numbers_lawful test) (range_lawful bound)

-- a set begins with neither `bool` nor `int`
no_key : (k : Keyword) (test : List (ℤ × Bool) → ℤ → Option Fault) (bound : ℤ → Option Fault) (z : List (ℤ × Bool) ⊎ ((ℤ × Bool) × (ℤ × Bool))) → IsLed (is_key k) false ((set_literal test bound).spell z)
no_key k test bound (inl x) = refl
no_key k test bound (inr y) = refl

no_bool : (test : List (ℤ × Bool) → ℤ → Option Fault) (bound : ℤ → Option Fault) (z : Unit {0} ⊎ (List (ℤ × Bool) ⊎ ((ℤ × Bool) × (ℤ × Bool)))) → IsLed (is_key key.Bool) false ((either (is_key key.Int) (keyword key.Int) (set_literal test bound)).spell z)
no_bool test bound (inl x) = refl
no_bool test bound (inr y) = no_key key.Bool test bound y

pub var_type_lawful : (test : List (ℤ × Bool) → ℤ → Option Fault) (bound : ℤ → Option Fault) → IsLawful (var_type test bound)
var_type_lawful test bound =
    either_lawful (is_key key.Bool) (keyword key.Bool) (either (is_key key.Int) (keyword key.Int) (set_literal test bound))
    (record { first = λ x. refl; second = no_bool test bound })
    (keyword_lawful key.Bool)
    (either_lawful (is_key key.Int) (keyword key.Int) (set_literal test bound)
    (record { first = λ x. refl; second = no_key key.Int test bound })
    (keyword_lawful key.Int) (set_literal_lawful test bound))
