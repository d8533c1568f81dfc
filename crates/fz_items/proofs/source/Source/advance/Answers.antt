use Rattle.std.proofs.Common.{rules}
use Rattle.fz_token.specs.Stream.{stream_at, before}
use Rattle.fz_items.proofs.Streams.{behind_as, passed_as}
use Rattle.fz_items.proofs.source.Source.advance.Goals as goal

pub invariant_of-self : goal.invariant_of-self
invariant_of-self c =
    let inside = c.self.inside in (
      search rules,
      passed_as inside.text.now inside.present c.in-Ok-Some.field-0 c.in-Ok-Some.token (before inside.ahead (stream_at inside.tokens)) (before inside.ahead (before c.next-self-inside.result (stream_at c.next-self-inside.new.self)))
          c.in-Ok-Some.is (rw c.in-Ok-Some.is at c.in-Ok-Some.field-0-is) (search rules) c.self.invariant.1,
      behind_as inside.text.now inside.present c.in-Ok-Some.field-0 c.in-Ok-Some.token (before inside.ahead (stream_at inside.tokens)) (before inside.ahead (before c.next-self-inside.result (stream_at c.next-self-inside.new.self))) inside.last inside.earlier
          c.in-Ok-Some.is (rw c.in-Ok-Some.is at c.in-Ok-Some.field-0-is) (search rules) c.self.invariant.2,
    )
