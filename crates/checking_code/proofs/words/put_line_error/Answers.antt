-- `put_line_error` puts one behind the other.
use Rattle.printing.proofs.Puts.{room-second, put_both}
use Rattle.checking.proofs.Words.{error-is, word_first}
use borrow.Author.Rules.{rules}
use Rattle.checking_code.proofs.words.put_line_error.Goals as goal

pub put_word-a-requires : goal.put_word-a-requires
put_word-a-requires c = search word_first

pub put_numbered-requires : goal.put_numbered-requires
put_numbered-requires c = search (rules, room-second, error-is)

pub returns : goal.returns
returns c = search (rules, put_both, error-is)
