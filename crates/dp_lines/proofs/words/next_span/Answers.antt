use Rattle.dp_lines.proofs.WordLaws.{empty_span, word_span}
use Rattle.dp_lines.proofs.words.next_span.Goals as goal

pub returns-in-empty-clause-words : goal.returns-in-empty-clause-words
returns-in-empty-clause-words c =
    empty_span c.args.inside c.args.at c.blanks_len-blanks.result c.args.line.now c.split_at.result.1.now c.split_at-2.result.1.now c.split_at.ensures.back c.blanks_len-blanks.ensures.value c.split_at-2.ensures.back c.in-empty.len_below c.blanks_len-blanks.ensures.within c.requires.within

pub returns-in-len1-up-clause-words : goal.returns-in-len1-up-clause-words
returns-in-len1-up-clause-words c =
    word_span c.args.inside c.args.at c.blanks_len-blanks.result c.word_len.result c.is_inside_behind.result c.args.line.now c.split_at.result.1.now c.split_at-2.result.1.now c.split_at.ensures.back c.blanks_len-blanks.ensures.value c.split_at-2.ensures.back c.in-len1-up.len_at_least c.word_len.ensures.value c.is_inside_behind.ensures
