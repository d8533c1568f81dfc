use Rattle.std.proofs.Common.{◌≡◌, Ok, sym, subst, ℕ, Result, length}
use Rattle.fz_token.specs.Stream.{stream, stream_at, before}
use Rattle.fz_token.specs.declared.TokenRefusal.{TokenRefusal}
use Rattle.fz_items.specs.Refusals.{here}
use Rattle.fz_items.specs.Standing.{Standing, left_of}
use Rattle.fz_items.proofs.RefusalLaws.{first_token, place_at}
use Rattle.fz_items.proofs.source.Source.place.Goals as goal

abbrev answer : ℕ → Result ℕ TokenRefusal
answer at = Ok at

pub returns-in-Ok-Some : goal.returns-in-Ok-Some
returns-in-Ok-Some c =
    let inside = c.self.inside in
    let after = before inside.ahead (stream_at inside.tokens) in
    subst (λ (s : Standing). answer c.in-Ok-Some.token.start ≡ here (length s.text) (stream s.text) s.left) c.self.view_is
    (sym (place_at inside.text.now (left_of inside.present inside.ahead inside.tokens) c.in-Ok-Some.token after.tokens c.self.invariant.1
    (first_token inside.present c.in-Ok-Some.field-0 c.in-Ok-Some.token after c.in-Ok-Some.is (rw c.in-Ok-Some.is at c.in-Ok-Some.field-0-is))))
