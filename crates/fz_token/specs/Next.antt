-- What comes next in a text, in the words of the table of forms.
use Rattle.std.specs.Prelude.{◌≡◌, ℕ, ◌+◌, ◌-◌, ◌<◌, ◌≤◌, List, length, take, drop, Option, Some, None, Result, Ok, Err}
use Rattle.fz_token.specs.Forms.{Says}
use Rattle.fz_token.specs.Gap.{IsGap}
use Rattle.fz_token.specs.Reading.{Reading}
use Rattle.fz_token.specs.declared.Token.{Token}
use Rattle.fz_token.specs.declared.TokenRefusal.{TokenRefusal}

-- the longest gap from `at` on ends at `start`
pub record EndsGap (text : List ℕ) (at start : ℕ) : Type 0 where
  pub order : at ≤ start
  pub within : start ≤ length text
  pub is_gap : IsGap (take (start - at) (drop at text))
  pub longest : (n : ℕ) → at + n ≤ length text → IsGap (take n (drop at text)) → at + n ≤ start

-- at the text's end nothing comes; else the table says what
abbrev pub SaysAt : ℕ → List ℕ → Result (Option Token) TokenRefusal → Type 0
SaysAt start text (Ok None) = start ≡ length text
SaysAt start text (Ok (Some token)) = (start < length text) × Says start (drop start text) (Ok token)
SaysAt start text (Err refusal) = (start < length text) × Says start (drop start text) (Err refusal)

-- the answer behind the blanks and comments that stand at the place
pub record IsNext (r : Reading) (answer : Result (Option Token) TokenRefusal) : Type 0 where
  pub start : ℕ
  pub ends_gap : EndsGap r.text r.at start
  pub says : SaysAt start r.text answer

-- no other answer is one behind the place
abbrev pub IsOnlyNext : Reading → Result (Option Token) TokenRefusal → Type 0
IsOnlyNext r answer = (other : Result (Option Token) TokenRefusal) → IsNext r other → other ≡ answer

-- blanks and comments alone are left
abbrev pub IsUsedUp : Reading → Type 0
IsUsedUp r = IsGap (drop r.at r.text)
