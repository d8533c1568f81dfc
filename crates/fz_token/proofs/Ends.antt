-- The end is answered where a gap alone is left.
use Rattle.std.proofs.Common.{◌≡◌, ◌↔◌, ℕ, ◌+◌, ◌-◌, ◌≤◌, List, length, take, drop, Option, Some, None, Result, Ok, Err, refl, sym, subst, arith}
use Rattle.std.proofs.lemmas.List.{length-drop, take_all}
use Rattle.fz_token.specs.Gap.{IsGap}
use Rattle.fz_token.specs.Next.{EndsGap, SaysAt, IsNext, IsUsedUp}
use Rattle.fz_token.specs.Reading.{Reading}
use Rattle.fz_token.specs.declared.Token.{Token}
use Rattle.fz_token.specs.declared.TokenRefusal.{TokenRefusal}

gap_left : (text : List ℕ) (at start : ℕ) → EndsGap text at start → start ≡ length text → IsGap (drop at text)
gap_left text at start g e =
    let size : length (drop at text) ≡ length text - at = length-drop at text in
    subst IsGap (take_all (start - at) (drop at text) (omega arith)) g.is_gap

end_reached : (text : List ℕ) (at start : ℕ) → EndsGap text at start → IsGap (drop at text) → start ≡ length text
end_reached text at start g h =
    let size : length (drop at text) ≡ length text - at = length-drop at text in
    let order : at ≤ start = g.order in
    let within : start ≤ length text = g.within in
    let all : take (length text - at) (drop at text) ≡ drop at text = take_all (length text - at) (drop at text) (omega arith) in
    let reached : at + (length text - at) ≤ start = g.longest (length text - at) (omega arith) (subst IsGap (sym all) h) in
    omega arith

says_end : (start : ℕ) (text : List ℕ) (answer : Result (Option Token) TokenRefusal) → start ≡ length text → SaysAt start text answer → answer ≡ Ok None
says_end start text (Ok None) e h = refl
says_end start text (Ok (Some token)) e h = absurd (omega (arith, h.0))
says_end start text (Err refusal) e h = absurd (omega (arith, h.0))

pub next_end : (r : Reading) (answer : Result (Option Token) TokenRefusal) → IsNext r answer → (answer ≡ Ok None) ↔ IsUsedUp r
next_end r answer h = (
  λ e. gap_left r.text r.at h.start h.ends_gap (subst (λ a. SaysAt h.start r.text a) e h.says),
  λ used. says_end h.start r.text answer (end_reached r.text r.at h.start h.ends_gap used) h.says,
)
