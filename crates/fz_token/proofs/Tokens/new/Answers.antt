use Rattle.fz_token.proofs.Order.{stream_in_order}
use Rattle.fz_token.proofs.Tokens.new.Goals as goal

pub returns-clause-in_order : goal.returns-clause-in_order
returns-clause-in_order c = stream_in_order c.args.text.now
