-- The results of both shares are those of all items.
use Rattle.std.specs.List.{AllZip}
use Rattle.std.proofs.lemmas.Result.{IfOk-at_ok}
use Rattle.dp_pool.specs.Calls.{Gives}
use Rattle.dp_pool.proofs.RunLaws.{both-runs}
use Rattle.dp_pool.proofs.mapping.+shares.Goals as goal

pub returns : goal.returns
returns g t c =
    both-runs (Gives g.F.Fn c.args.f.now) c.args.items.now c.split_at.result.0.now c.split_at.result.1.now _ _ _
    c.split_at.ensures.by_index.0 c.in_ok-append.ensures.items
    (IfOk-at_ok (λ v. AllZip (Gives g.F.Fn c.args.f.now) _ v.items) c.in_ok-results.was c.join-low_results.ensures.first)
    (IfOk-at_ok (λ v. AllZip (Gives g.F.Fn c.args.f.now) _ v.items) c.in_ok-rest.was c.join-low_results.ensures.second)
