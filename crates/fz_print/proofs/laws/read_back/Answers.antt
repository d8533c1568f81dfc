use Rattle.fz_print.proofs.Passing.{canonical_means, read_again}
use Rattle.fz_print.proofs.Printing.{printed_words}
use Rattle.fz_print.proofs.SpelledItems.{canonical_spelled}
use Rattle.fz_print.proofs.laws.read_back.Goals as goal

pub returns-clause-unrefused : goal.returns-clause-unrefused
returns-clause-unrefused c = λ m is. (printed_words m (canonical_spelled m is)).0

pub returns-clause-spelled : goal.returns-clause-spelled
returns-clause-spelled c = λ m is. (printed_words m (canonical_spelled m is)).1

pub returns-clause-read : goal.returns-clause-read
returns-clause-read c = λ m is. read_again m is (canonical_spelled m is)

pub returns-clause-means : goal.returns-clause-means
returns-clause-means c = λ m is. canonical_means m is
