-- The place of a refusal, and words that are known and not supported.
use Rattle.std.specs.Prelude.{ℕ, ◌-◌, Bool, false, ◌||◌, ◌&&◌, List, [], ◌∷◌, length, take, drop, option_map, Option, Result, Ok, Err}
use Rattle.std.specs.Option.{option_map_or}
use Rattle.fz_token.specs.Stream.{Stream}
use Rattle.fz_token.specs.declared.Keyword.TheVariants as key
use Rattle.fz_token.specs.declared.TokenKind.{TokenKind}
use Rattle.fz_token.specs.declared.TokenRefusal.{TokenRefusal}
use Rattle.fz_model.specs.Marks.{is_key}
use Rattle.fz_model.specs.ModelText as grammar
use Rattle.fz_model.specs.ModelText.{is_float, is_square_close, is_word}
use Rattle.fz_model.specs.Words.{Word, kind_word}
use Rattle.fz_items.specs.Answers.{place_of_first}

-- the place of the first of the words that are left; behind the last it is the text's end, or why no token is there
abbrev pub here : ℕ → Stream → List Word → Result ℕ TokenRefusal
here size s [] = option_map_or (λ refusal. let r : Result ℕ TokenRefusal = Err refusal in r) s.refusal (Ok size)
here size s (word ∷ rest) = Ok (place_of_first size (drop (length s.tokens - length (word ∷ rest)) s.tokens))

-- the first of the words that are left is not supported behind those before it
abbrev pub unsupported_at : List Word → List Word → Bool
unsupported_at all [] = false
unsupported_at all (word ∷ rest) = grammar.is_unsupported (take (length all - length (word ∷ rest)) all) word

-- a word of the kind
abbrev pub bare : TokenKind → Word
bare kind = kind_word [] false kind

-- the same by the kinds of the word, of the one before it, and of the one before that
abbrev pub unsupported_kind : TokenKind → Option TokenKind → Option TokenKind → Bool
unsupported_kind kind last earlier =
    is_float (bare kind)
    || (is_key key.Set (bare kind) && (is_word (is_key key.Var) (option_map bare last) || (is_word (is_key key.Of) (option_map bare last) && is_word is_square_close (option_map bare earlier))))
