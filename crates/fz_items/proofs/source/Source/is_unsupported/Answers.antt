use Rattle.std.proofs.Common.{◌≡◌, sym, ap, subst, ◌∙◌}
use Rattle.fz_token.specs.Stream.{stream}
use Rattle.fz_model.specs.Words.{words}
use Rattle.fz_items.specs.Refusals.{unsupported_at}
use Rattle.fz_items.specs.Standing.{Standing, behind, left_of}
use Rattle.fz_items.proofs.RefusalLaws.{unsupported_is}
use Rattle.fz_items.proofs.source.Source.is_unsupported.Goals as goal

pub returns-in-Some : goal.returns-in-Some
returns-in-Some c =
    let inside = c.self.inside in
    subst (λ (s : Standing). c.is_unsupported.result ≡ unsupported_at (words s.text (stream s.text).tokens) s.left) c.self.view_is
    (c.is_unsupported.ensures
    ∙ sym (unsupported_is inside.text.now (left_of inside.present inside.ahead inside.tokens) inside.last inside.earlier c.in-Some.seen.bytes.now c.in-Some.seen.dotted c.in-Some.seen.kind (behind c.args.self.now.left)
    c.self.invariant.2 (ap (λ (s : Standing). s.left) c.self.view_is ∙ c.in-Some.ensures)))
