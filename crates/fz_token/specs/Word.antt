-- Names and keywords.
use Rattle.std.specs.Prelude.{ℕ, ◌+◌, Bool, ◌||◌, ◌==◌, List, [], ◌∷◌, take, find, bytes_eq, codes, Option, Some, None}
use Rattle.std.specs.Char.{is_ascii_alphabetic, is_ascii_alphanumeric}
use Rattle.std.specs.List.{prefix_len}
use Rattle.fz_token.specs.declared.Keyword.{Keyword}
use Rattle.fz_token.specs.declared.Keyword.TheVariants.{Array, Bool as BoolWord, Constraint, False, Float, Int, Maximize, Minimize, Of, Predicate, Satisfy, Set, Solve, True, Var}
use Rattle.fz_token.specs.declared.Token.{Token}
use Rattle.fz_token.specs.declared.TokenKind.{TokenKind}
use Rattle.fz_token.specs.declared.TokenKind.TheVariants as kind

-- a letter or `_`
abbrev pub begins_word : ℕ → Bool
begins_word b = is_ascii_alphabetic b || (b == 95)

-- a letter, a digit or `_`
abbrev pub is_word_byte : ℕ → Bool
is_word_byte b = is_ascii_alphanumeric b || (b == 95)

abbrev pub spelling : Keyword → List ℕ
spelling Array = codes "array"
spelling BoolWord = codes "bool"
spelling Constraint = codes "constraint"
spelling False = codes "false"
spelling Float = codes "float"
spelling Int = codes "int"
spelling Maximize = codes "maximize"
spelling Minimize = codes "minimize"
spelling Of = codes "of"
spelling Predicate = codes "predicate"
spelling Satisfy = codes "satisfy"
spelling Set = codes "set"
spelling Solve = codes "solve"
spelling True = codes "true"
spelling Var = codes "var"

abbrev pub all_keywords : List Keyword
all_keywords =
    Array ∷ BoolWord ∷ Constraint ∷ False ∷ Float ∷ Int ∷ Maximize ∷ Minimize ∷ Of ∷ Predicate ∷ Satisfy ∷ Set ∷ Solve ∷ True ∷ Var ∷ []

-- the keyword that is spelled so
unfoldable pub keyword_of : List ℕ → Option Keyword
keyword_of word = find (λ keyword. bytes_eq (spelling keyword) word) all_keywords

abbrev pub word_len : List ℕ → ℕ
word_len s = prefix_len is_word_byte s

abbrev pub word_kind : Option Keyword → TokenKind
word_kind None = kind.Name
word_kind (Some keyword) = kind.Keyword keyword

-- the longest word that begins at `at`, where these bytes stand
abbrev pub word_at : ℕ → List ℕ → Token
word_at at s = record { kind = word_kind (keyword_of (take (word_len s) s)); start = at; end = at + word_len s }
