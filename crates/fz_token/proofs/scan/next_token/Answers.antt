use Rattle.std.proofs.Common.{◌≡◌, ◌<◌, length, drop, sym, ◌∙◌, ap, subst, arith, rules}
use Rattle.fz_token.specs.Stream.{start_after, found, stream_at, before, place_after}
use Rattle.fz_token.specs.Token.{token_at}
use Rattle.fz_token.proofs.Ends.{next_end}
use Rattle.fz_token.proofs.Nexts.{answer_says}
use Rattle.fz_token.proofs.Only.{next_only}
use Rattle.fz_token.proofs.Streams.{stream_ends, stream_found}
use Rattle.fz_token.proofs.scan.next_token.Goals as goal

pub returns-then-start-text-clause-stream : goal.returns-then-start-text-clause-stream
returns-then-start-text-clause-stream c = stream_ends c.args.text.now (start_after c.args.text.now c.args.at) (omega (arith, c.gap_end-start.ensures.value, c.if-start-text.true))

pub returns-clause-stream : goal.returns-clause-stream
returns-clause-stream c =
    let text = c.args.text.now in
    let start = c.gap_end-start.result in
    let is_left : start < length text = omega (arith, c.gap_end-start.ensures.within) in
    let is_token : c.token_at.result ≡ token_at start (drop start text) = c.token_at.ensures.value ∙ ap (token_at start) c.split_at.ensures.back in
    let is_found : c.map.result ≡ found c.token_at.result = search rules in
    subst (λ r. stream_at (record { text = text; at = c.args.at }) ≡ before r (stream_at (record { text = text; at = place_after r c.args.at }))) (sym is_found)
    (stream_found text c.args.at start (length c.split_at.result.1.now) c.token_at.result c.gap_end-start.ensures.value is_left is_token c.token_at.ensures.within)

pub returns-then-start-text-clause-table : goal.returns-then-start-text-clause-table
returns-then-start-text-clause-table c = answer_says c.args.text.now c.args.at _ c.requires (search rules)

pub returns-then-start-text-clause-only : goal.returns-then-start-text-clause-only
returns-then-start-text-clause-only c =
    λ other h. next_only (record { text = c.args.text.now; at = c.args.at }) other _ h (answer_says c.args.text.now c.args.at _ c.requires (search rules))

pub returns-then-start-text-clause-end : goal.returns-then-start-text-clause-end
returns-then-start-text-clause-end c = next_end (record { text = c.args.text.now; at = c.args.at }) _ (answer_says c.args.text.now c.args.at _ c.requires (search rules))

pub returns-clause-table : goal.returns-clause-table
returns-clause-table c = answer_says c.args.text.now c.args.at c.map.result c.requires (search rules)

pub returns-clause-only : goal.returns-clause-only
returns-clause-only c =
    λ other h. next_only (record { text = c.args.text.now; at = c.args.at }) other c.map.result h (answer_says c.args.text.now c.args.at c.map.result c.requires (search rules))

pub returns-clause-end : goal.returns-clause-end
returns-clause-end c = next_end (record { text = c.args.text.now; at = c.args.at }) c.map.result (answer_says c.args.text.now c.args.at c.map.result c.requires (search rules))
