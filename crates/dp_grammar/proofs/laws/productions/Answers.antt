use Rattle.dp_grammar.proofs.Bracketings.{inside_lawful}
use Rattle.dp_grammar.proofs.Leaves.{leaf_lawful, mark_lawful, tested_mark_lawful}
use Rattle.dp_grammar.proofs.Chains.{chain_lawful, shaped_lawful, behind_mark_lawful, before_mark_lawful}
use Rattle.dp_grammar.proofs.Choices.{either_lawful}
use Rattle.dp_grammar.proofs.Lists.{listed_lawful}
use Rattle.dp_grammar.proofs.Manys.{links_lawful, many_lawful, unrolled}
use Rattle.dp_grammar.proofs.laws.productions.Goals as goal

pub returns-clause-leaf : goal.returns-clause-leaf
returns-clause-leaf g c = λ l is. leaf_lawful l is

pub returns-clause-mark : goal.returns-clause-mark
returns-clause-mark g c = λ is t only. mark_lawful is t only

pub returns-clause-chain : goal.returns-clause-chain
returns-clause-chain g c = λ first next first_is next_is. chain_lawful first next first_is next_is

pub returns-clause-shaped : goal.returns-clause-shaped
returns-clause-shaped g c = λ make unmake p shape lawful. shaped_lawful make unmake p shape lawful

pub returns-clause-behind_mark : goal.returns-clause-behind_mark
returns-clause-behind_mark g c = λ m p m_is p_is. behind_mark_lawful m p m_is p_is

pub returns-clause-before_mark : goal.returns-clause-before_mark
returns-clause-before_mark g c = λ p m p_is m_is. before_mark_lawful p m p_is m_is

pub returns-clause-either : goal.returns-clause-either
returns-clause-either g c = λ test first second apart first_is second_is. either_lawful test first second apart first_is second_is

pub returns-clause-many : goal.returns-clause-many
returns-clause-many g c = λ r is. many_lawful r is

pub returns-clause-links : goal.returns-clause-links
returns-clause-links g c = λ link is. links_lawful link is

pub returns-clause-unrolled : goal.returns-clause-unrolled
returns-clause-unrolled g c = λ link is kept text. unrolled link is kept text

pub returns-clause-inside : goal.returns-clause-inside
returns-clause-inside g c = λ b is opened. inside_lawful _ b is opened

pub returns-clause-listed : goal.returns-clause-listed
returns-clause-listed g c = λ l is. listed_lawful l is

pub returns-clause-tested_mark : goal.returns-clause-tested_mark
returns-clause-tested_mark g c = λ is t refusal only. tested_mark_lawful is t refusal only
