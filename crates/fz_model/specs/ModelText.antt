-- A whole model: its items, its constraints and its goal, and what refuses a text's words first.
use Rattle.std.specs.Prelude.{ℕ, ◌+◌, Bool, true, false, ◌||◌, ◌&&◌, ◌⊎◌, if◌then◌else◌, List, [], ◌∷◌, ◌++◌, length, map, take, drop, ◌-◌, slice_get, Option, Some, None, Result, Ok, Err, ℤ}
use Rattle.std.proofs.Common.{inl, inr}
use Rattle.fz_token.specs.declared.Keyword.TheVariants as key
use Rattle.dp_grammar.specs.Brackets.{Plain, Closes}
use Rattle.dp_grammar.specs.Chain.{chain, behind_mark, before_mark}
use Rattle.dp_grammar.specs.Choice.{either}
use Rattle.dp_grammar.specs.Grammar.{Cause, Syntax, Test}
use Rattle.dp_grammar.specs.Many.{many}
use Rattle.dp_grammar.specs.Whole.{whole}
use Rattle.fz_model.specs.Annotations.{Balanced, balanced, Annotated, annotated}
use Rattle.fz_model.specs.Arrays.{array_item}
use Rattle.fz_model.specs.Constraints.{ConstraintWords, constraint_item}
use Rattle.fz_model.specs.Context.{Context, BasicText, meaning, known, goal_test, meant_by, with_elements}
use Rattle.fz_model.specs.declared.meant.Meant.{Meant}
use Rattle.fz_model.specs.declared.meant.Meant.TheVariants.{IntConst, BoolConst, SetConst, IntVar, BoolVar, IntArray, BoolArray}
use Rattle.fz_model.specs.Items.{IntText, SetWords, TypeWords, int_item, bool_item, set_item, variable_item, is_bool_type, type_elements, set_elements}
use Rattle.fz_model.specs.Limits.{no_test}
use Rattle.fz_model.specs.Literals.{name}
use Rattle.fz_model.specs.Marks.{Production, is_key, keyword, stop, opens}
use Rattle.fz_model.specs.declared.fault.Fault.{Fault}
use Rattle.fz_model.specs.declared.fault.Fault.TheVariants.{Unsupported}
use Rattle.fz_model.specs.Words.{Round, Square, Semicolon, Word, Float}

-- ---- items

-- 'predicate' NAME '(' balanced ')' ';'
abbrev pub predicate_item : Production (List ℕ × Balanced)
predicate_item = behind_mark (keyword key.Predicate) (chain (name no_test) (λ bytes. behind_mark (opens Round) (before_mark balanced (stop Semicolon))))

abbrev pub ArrayWords : Type 0
ArrayWords = (Bool × IntText) × ((TypeWords × (List ℕ × Annotated (List BasicText))) ⊎ ((Unit {0} ⊎ Unit {0}) × (List ℕ × Annotated (List BasicText))))

abbrev pub VariableWords : Type 0
VariableWords = TypeWords × (List ℕ × Annotated (BasicText ⊎ Unit {0}))

-- a predicate, an integer, a Boolean, a set, an array, or a variable
abbrev pub ItemWords : Type 0
ItemWords = (List ℕ × Balanced) ⊎ ((List ℕ × Annotated IntText) ⊎ ((List ℕ × Annotated Bool) ⊎ ((List ℕ × Annotated SetWords) ⊎ (ArrayWords ⊎ VariableWords))))

abbrev pub item : Context → Production ItemWords
item context =
    either (is_key key.Predicate) predicate_item
    (either (is_key key.Int) (int_item context)
    (either (is_key key.Bool) (bool_item context)
    (either (is_key key.Set) (set_item context)
    (either (is_key key.Array) (array_item context) (variable_item context)))))

abbrev pub begins_item : Word → Bool
begins_item word =
    is_key key.Predicate word || is_key key.Int word || is_key key.Bool word || is_key key.Set word || is_key key.Array word || is_key key.Var word

-- ---- what the items declare

-- what stands behind the annotations
abbrev pub closing : {C : Type 0} → Annotated C → C
closing (inl p) = p.1.1
closing (inr c) = c

abbrev pub declares : Context → List ℕ → Meant → Context
declares context bytes meant = record context { entries = context.entries ++ (bytes, meant) ∷ [] }

abbrev pub int_constant : Option Meant → Option ℤ
int_constant (Some (IntConst value)) = Some value
int_constant _ = None

abbrev pub bool_constant : Option Meant → Option Bool
bool_constant (Some (BoolConst value)) = Some value
bool_constant _ = None

-- an array of Booleans or integers, a parameter or not
abbrev pub array_of : Context → Bool → Bool → List BasicText → Meant
array_of context bools parameter elements =
    if bools then BoolArray parameter (map (λ text. bool_constant (meaning context text)) elements) else IntArray parameter (map (λ text. int_constant (meaning context text)) elements)

abbrev pub after_constants : Context → Unit {0} ⊎ Unit {0} → List ℕ → List BasicText → Context
after_constants context (inl bool) bytes elements = with_elements (declares context bytes (array_of context true true elements)) (length elements)
after_constants context (inr int) bytes elements = with_elements (declares context bytes (array_of context false true elements)) (length elements)

abbrev pub after_array : Context → ArrayWords → Context
after_array context (size, inl a) =
    with_elements (declares context a.1.0 (array_of context (is_bool_type a.0) false (closing a.1.1))) (type_elements a.0 + length (closing a.1.1))
after_array context (size, inr a) = after_constants context a.0 a.1.0 (closing a.1.1)

abbrev pub after_variable : Context → VariableWords → Context
after_variable context v =
    record (with_elements (declares context v.1.0 (if is_bool_type v.0 then BoolVar else IntVar)) (type_elements v.0)) { variables = context.variables + 1 }

-- a name is declared at the end of its item; a predicate declares nothing
abbrev pub after_item : Context → ItemWords → Context
after_item context (inl predicate) = context
after_item context (inr (inl i)) = declares context i.0 (IntConst (closing i.1).0)
after_item context (inr (inr (inl b))) = declares context b.0 (BoolConst (closing b.1))
after_item context (inr (inr (inr (inl s)))) = with_elements (declares context s.0 SetConst) (set_elements (closing s.1))
after_item context (inr (inr (inr (inr (inl a))))) = after_array context a
after_item context (inr (inr (inr (inr (inr v))))) = after_variable context v

abbrev pub nothing : Context
nothing = record { entries = []; elements = 0; variables = 0 }

abbrev pub after_items : Context → List ItemWords → Context
after_items context [] = context
after_items context (i ∷ items) = after_items (after_item context i) items

abbrev pub context_of : List ItemWords → Context
context_of items = after_items nothing items

-- ---- the goal

-- 'satisfy', or 'minimize' or 'maximize' and a name
abbrev pub GoalWords : Type 0
GoalWords = Unit {0} ⊎ ((Unit {0} ⊎ Unit {0}) × List ℕ)

abbrev pub goal : Context → Production GoalWords
goal context =
    before_mark (either (is_key key.Satisfy) (keyword key.Satisfy)
    (chain (either (is_key key.Minimize) (keyword key.Minimize) (keyword key.Maximize)) (λ which. name (λ bytes. known (meant_by context.entries bytes) goal_test))))
    (stop Semicolon)

-- 'solve' annotations, and the goal
abbrev pub solve_item : Context → Production (Annotated GoalWords)
solve_item context = behind_mark (keyword key.Solve) (annotated (λ notes. goal context))

-- ---- the model

abbrev pub Rest : Type 0
Rest = List ConstraintWords × Annotated GoalWords

-- constraints, and the goal
abbrev pub rest_of : Context → Production Rest
rest_of context = many (record { goes_on = is_key key.Constraint; item = λ kept. constraint_item context kept; close = λ kept. solve_item context })

abbrev pub ModelWords : Type 0
ModelWords = List ItemWords × Rest

abbrev pub model : Production ModelWords
model = many (record { goes_on = begins_item; item = λ kept. item (context_of kept); close = λ kept. rest_of (context_of kept) })

-- ---- words that are known and not supported

-- the word before a place, and the one before that
abbrev pub word_before : ℕ → List Word → Option Word
word_before back front = slice_get (drop (length front - back) front) 0

abbrev pub is_word : (Word → Bool) → Option Word → Bool
is_word test None = false
is_word test (Some word) = test word

abbrev pub is_square_close : Word → Bool
is_square_close (Closes Square) = true
is_square_close _ = false

abbrev pub is_float : Word → Bool
is_float (Plain Float) = true
is_float word = is_key key.Float word

-- `float`, a float, `set` behind `var`, and `set` behind the `of` of an array
abbrev pub is_unsupported : List Word → Word → Bool
is_unsupported front word =
    is_float word
    || (is_key key.Set word && (is_word (is_key key.Var) (word_before 1 front) || (is_word (is_key key.Of) (word_before 1 front) && is_word is_square_close (word_before 2 front))))

-- at a word that no production allows
abbrev pub syntax_or_unsupported : List Word → List Word → Cause Fault
syntax_or_unsupported front [] = Syntax
syntax_or_unsupported front (word ∷ rest) = if is_unsupported front word then Test Unsupported else Syntax

abbrev pub named_cause : List Word → Cause Fault → List Word → Cause Fault
named_cause text Syntax rest = syntax_or_unsupported (take (length text - length rest) text) rest
named_cause text (Test fault) rest = Test fault

abbrev pub named_refusal : List Word → Result ModelWords (Cause Fault × List Word) → Result ModelWords (Cause Fault × List Word)
named_refusal text (Ok m) = Ok m
named_refusal text (Err p) = Err (named_cause text p.0 p.1, p.1)

-- the words of a model, or the first refusal and the words from its place on
abbrev pub model_words : List Word → Result ModelWords (Cause Fault × List Word)
model_words text = named_refusal text (whole model text)
