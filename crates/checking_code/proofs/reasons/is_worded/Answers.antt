-- `is_worded` tries the three words.
use Rattle.checking.proofs.Wording.{rect-word, layer-word, plan-word}
use borrow.Author.Rules.{rules}
use Rattle.checking_code.proofs.reasons.is_worded.Goals as goal

pub returns-then-starts : goal.returns-then-starts
returns-then-starts c = search (rules, rect-word)

pub returns-then-starts-2 : goal.returns-then-starts-2
returns-then-starts-2 c = search (rules, layer-word)

pub returns-else-starts-2 : goal.returns-else-starts-2
returns-else-starts-2 c = search (rules, plan-word)
