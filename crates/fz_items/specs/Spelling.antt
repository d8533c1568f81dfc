-- What a text spells, and what refuses it first, in words that know nothing of reading.
use Rattle.std.specs.Prelude.{◌≡◌, ℕ, ◌≤◌, ◌<◌, ◌⊎◌, List, length, None, Some}
use Rattle.dp_grammar.specs.Grammar.{Cause}
use Rattle.dp_grammar.specs.Whole.{IsFirstRefusal}
use Rattle.fz_token.specs.Stream.{stream}
use Rattle.fz_token.specs.declared.TokenRefusal.{TokenRefusal}
use Rattle.fz_model.specs.Models.{Plan, model_of}
use Rattle.fz_model.specs.ModelText.{ModelWords, model, named_cause}
use Rattle.fz_model.specs.Words.{Word, words}
use Rattle.fz_model.specs.declared.fault.Fault.{Fault}
use Rattle.fz_items.specs.Answers.{max_bytes, place_of, refusal_of, token_refusal}
use Rattle.fz_items.specs.declared.refusal.ModelRefusal.{ModelRefusal}
use Rattle.fz_items.specs.declared.refusal.ModelRefusal.TheVariants.{Limit}

-- the words of the text's tokens
abbrev pub words_of : List ℕ → List Word
words_of text = words text (stream text).tokens

-- the text is all tokens, and their words spell the model and pass each test
pub record Spells (text : List ℕ) (m : Plan) : Type 0 where
  pub value : ModelWords
  pub tokens : (stream text).refusal ≡ None
  pub spelled : words_of text ≡ model.spell value
  pub passes : model.fault value ≡ None
  pub means : model_of value ≡ m

-- the words spell a model and pass each test, and behind them bytes stand that are no token
pub record IsBehind (text : List ℕ) (refusal : ModelRefusal) : Type 0 where
  pub value : ModelWords
  pub token : TokenRefusal
  pub tokens : (stream text).refusal ≡ Some token
  pub spelled : words_of text ≡ model.spell value
  pub passes : model.fault value ≡ None
  pub told : refusal ≡ token_refusal token

-- a word is refused first; or the end behind them, and there bytes may stand that are no token
pub record IsAtWord (text : List ℕ) (refusal : ModelRefusal) : Type 0 where
  pub cause : Cause Fault
  pub left : List Word
  pub first : IsFirstRefusal model (words_of text) cause left
  pub told : refusal ≡ refusal_of (length text) (stream text) (named_cause (words_of text) cause left) left

-- the first refusal of the tokens and the words
abbrev pub Refuses : List ℕ → ModelRefusal → Type 0
Refuses text refusal = IsBehind text refusal ⊎ IsAtWord text refusal

-- the text goes on beyond the last byte that it may have, and nothing up to there refuses it
pub record IsTooLong (text : List ℕ) : Type 0 where
  pub long : max_bytes < length text
  pub before : (refusal : ModelRefusal) → Refuses text refusal → max_bytes < place_of refusal

-- the first refusal of the text: of its tokens and words, at a byte that it may have; or of the first byte too many
abbrev pub RefusesFirst : List ℕ → ModelRefusal → Type 0
RefusesFirst text refusal =
    (Refuses text refusal × ((length text ≤ max_bytes) ⊎ (place_of refusal ≤ max_bytes))) ⊎ (IsTooLong text × (refusal ≡ Limit max_bytes))

-- the text spells the model, and has no byte too many
abbrev pub IsTextOf : List ℕ → Plan → Type 0
IsTextOf text m = Spells text m × (length text ≤ max_bytes)
