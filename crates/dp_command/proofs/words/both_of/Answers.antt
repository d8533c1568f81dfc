use Rattle.std.proofs.Common.{ℕ, MatchOption}
use Rattle.dp_command.specs.Words.{AskBoth}
use Rattle.dp_command.proofs.Options.{of_four, of_two}
use Rattle.dp_command.proofs.words.both_of.Goals as goal

-- src/words.rt:159:1
pub returns-in-len2 : goal.returns-in-len2
returns-in-len2 c =
    of_two
    (λ texts. MatchOption c.one_of.result ((workers : ℕ) → (most : ℕ) → AskBoth texts workers most → ⊥) (λ both. AskBoth texts both.0 both.1))
    c.args.options.now _ c.in-len2.len_at_least c.in-len2.len_below c.one_of.ensures

-- src/words.rt:159:1
pub returns-in-len4 : goal.returns-in-len4
returns-in-len4 c =
    of_four
    (λ texts. MatchOption c.each_of.result ((workers : ℕ) → (most : ℕ) → AskBoth texts workers most → ⊥) (λ both. AskBoth texts both.0 both.1))
    c.args.options.now _ c.in-len4.len_at_least c.in-len4.len_below c.each_of.ensures
