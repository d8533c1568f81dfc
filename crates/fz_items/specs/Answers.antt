-- What is answered for the bytes of a text: the model that they spell, or the first refusal and its place.
use Rattle.std.specs.Prelude.{◌≡◌, ℕ, ◌-◌, nat_le, if◌then◌else◌, Option, Some, None, Result, Ok, Err, List, [], ◌∷◌, length, drop}
use Rattle.std.specs.Option.{option_map_or}
use Rattle.dp_grammar.specs.Grammar as grammar
use Rattle.fz_token.specs.Stream.{Stream, stream}
use Rattle.fz_token.specs.declared.Token.{Token}
use Rattle.fz_token.specs.declared.TokenRefusal.{TokenRefusal}
use Rattle.fz_token.specs.declared.TokenRefusal.TheVariants as token
use Rattle.fz_model.specs.Models.{Plan, model_of}
use Rattle.fz_model.specs.ModelText.{ModelWords, model_words}
use Rattle.fz_model.specs.Words.{Word, words}
use Rattle.fz_model.specs.declared.fault.Fault.{Fault}
use Rattle.fz_model.specs.declared.fault.Fault.TheVariants as fault
use Rattle.fz_items.specs.declared.refusal.ModelRefusal.{ModelRefusal}
use Rattle.fz_items.specs.declared.refusal.ModelRefusal.TheVariants.{BadByte, Number, OpenString, Unsupported, Syntax, Unbounded, Unknown, Declared, Kind, Limit, Memory}

-- the most bytes of a text
abbrev pub max_bytes : ℕ
max_bytes = 67108864

-- a refusal of a token
abbrev pub token_refusal : TokenRefusal → ModelRefusal
token_refusal (token.BadByte at) = BadByte at
token_refusal (token.Number at) = Number at
token_refusal (token.OpenString at) = OpenString at

-- a refusal of a word, at its place
abbrev pub word_refusal : grammar.Cause Fault → ℕ → ModelRefusal
word_refusal grammar.Syntax at = Syntax at
word_refusal (grammar.Test fault.Unsupported) at = Unsupported at
word_refusal (grammar.Test fault.Unbounded) at = Unbounded at
word_refusal (grammar.Test fault.Unknown) at = Unknown at
word_refusal (grammar.Test fault.Declared) at = Declared at
word_refusal (grammar.Test fault.Kind) at = Kind at
word_refusal (grammar.Test fault.Limit) at = Limit at

-- the place of the first token; the text's length where there is none
abbrev pub place_of_first : ℕ → List Token → ℕ
place_of_first size [] = size
place_of_first size (token ∷ tokens) = token.start

-- the refusal of the first of the words that are left; behind the last word it is that of the tokens, if they end so
abbrev pub refusal_of : ℕ → Stream → grammar.Cause Fault → List Word → ModelRefusal
refusal_of size s cause [] = option_map_or token_refusal s.refusal (word_refusal cause size)
refusal_of size s cause (word ∷ rest) =
    word_refusal cause (place_of_first size (drop (length s.tokens - length (word ∷ rest)) s.tokens))

-- the model of these words, unless the tokens end with a refusal
abbrev pub modelled : Option TokenRefusal → ModelWords → Result Plan ModelRefusal
modelled None w = Ok (model_of w)
modelled (Some refusal) w = Err (token_refusal refusal)

abbrev pub answered : ℕ → Stream → Result ModelWords (grammar.Cause Fault × List Word) → Result Plan ModelRefusal
answered size s (Ok w) = modelled s.refusal w
answered size s (Err p) = Err (refusal_of size s p.0 p.1)

-- the place of a refusal
abbrev pub place_of : ModelRefusal → ℕ
place_of (BadByte at) = at
place_of (Number at) = at
place_of (OpenString at) = at
place_of (Unsupported at) = at
place_of (Syntax at) = at
place_of (Unbounded at) = at
place_of (Unknown at) = at
place_of (Declared at) = at
place_of (Kind at) = at
place_of (Limit at) = at
place_of Memory = 0

-- a longer text is refused at the first byte too many, unless it is at an earlier place, or there by a test before this one
abbrev pub refused_late : Result Plan ModelRefusal → Result Plan ModelRefusal
refused_late (Ok m) = Err (Limit max_bytes)
refused_late (Err refusal) = if nat_le (place_of refusal) max_bytes then Err refusal else Err (Limit max_bytes)

abbrev pub within_limit : ℕ → Result Plan ModelRefusal → Result Plan ModelRefusal
within_limit size answer = if nat_le size max_bytes then answer else refused_late answer

-- the model of a text, or its first refusal
abbrev pub model_text : List ℕ → Result Plan ModelRefusal
model_text text =
    let s = stream text in
    within_limit (length text) (answered (length text) s (model_words (words text s.tokens)))

-- a call gives the model of an answer, or its refusal; of want of memory nothing is said
abbrev pub Gives : Result Plan ModelRefusal → Result Plan ModelRefusal → Type 0
Gives answer (Ok m) = answer ≡ Ok m
Gives answer (Err Memory) = Unit {0}
Gives answer (Err refusal) = answer ≡ Err refusal

-- a call gives the model of the text, or its first refusal
abbrev pub Answers : List ℕ → Result Plan ModelRefusal → Type 0
Answers text result = Gives (model_text text) result
