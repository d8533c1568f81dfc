-- The index may be the number exactly where the state has it.
use Rattle.std.proofs.Common.{◌+◌, pos, arith}
use Rattle.std.proofs.lemmas.Int.{ints}
use Rattle.dp_domain.specs.Terms.{term_values}
use Rattle.dp_domain.proofs.ShareLaws.{is_among-by}
use Rattle.dp_rule_element.proofs.entries.may_be_at.Goals as goal

pub returns : goal.returns
returns c = is_among-by (pos (c.args.place + 1)) _ (term_values c.args.state.now c.args.index) c.has.result (omega (arith, ints)) c.has.ensures
