use Rattle.fz_items.proofs.SpellingLaws.{text_read, text_refused}
use Rattle.fz_items.proofs.laws.exactness.Goals as goal

pub returns-clause-read : goal.returns-clause-read
returns-clause-read c = λ text m. text_read text m

pub returns-clause-refused : goal.returns-clause-refused
returns-clause-refused c = λ text refusal. text_refused text refusal
