-- What comes next is what the table says.
use Rattle.std.proofs.Common.{◌≡◌, ℕ, ◌<◌, ◌≤◌, Bool, true, false, cond, leb, List, length, drop, Option, None, Result, Ok, Err, refl, sym, subst, arith}
use Rattle.std.proofs.lemmas.Bool.{leb-true, leb-false}
use Rattle.fz_token.specs.Forms.{Says}
use Rattle.fz_token.specs.Next.{SaysAt, IsNext}
use Rattle.fz_token.specs.Stream.{start_after, found, next_of}
use Rattle.fz_token.specs.Token.{token_at}
use Rattle.fz_token.specs.declared.Token.{Token}
use Rattle.fz_token.specs.declared.TokenRefusal.{TokenRefusal}
use Rattle.fz_token.proofs.Gaps.{ends_gap}
use Rattle.fz_token.proofs.TokenForms.{token_says}

found_says : (start : ℕ) (text : List ℕ) (t : Result Token TokenRefusal) → start < length text → Says start (drop start text) t → SaysAt start text (found t)
found_says start text (Ok token) h says = (h, says)
found_says start text (Err refusal) h says = (h, says)

says_at : (start : ℕ) (text : List ℕ) (past : Bool) → leb (length text) start ≡ past → start ≤ length text →
    SaysAt start text (cond past (Ok None) (found (token_at start (drop start text))))
says_at start text true e h = let past : length text ≤ start = leb-true (length text) start e in omega arith
says_at start text false e h = found_says start text (token_at start (drop start text)) (leb-false (length text) start e) (token_says start (drop start text))

pub next_says : (text : List ℕ) (at : ℕ) → at ≤ length text → IsNext (record { text = text; at = at }) (next_of (record { text = text; at = at }))
next_says text at h =
    let gap = ends_gap text at h in
    record { start = start_after text at; ends_gap = gap; says = says_at (start_after text at) text (leb (length text) (start_after text at)) refl gap.within }

-- any answer that is equal to it
pub answer_says : (text : List ℕ) (at : ℕ) (answer : Result (Option Token) TokenRefusal) → at ≤ length text → answer ≡ next_of (record { text = text; at = at }) →
    IsNext (record { text = text; at = at }) answer
answer_says text at answer h e = subst (IsNext (record { text = text; at = at })) (sym e) (next_says text at h)
