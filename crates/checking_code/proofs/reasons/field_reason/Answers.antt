-- `field_reason` looks at the word, and then at what stands behind it.
use Rattle.checking.proofs.Told.{worded-told, spaced-told, word-told}
use borrow.Author.Rules.{rules}
use Rattle.checking_code.proofs.reasons.field_reason.Goals as goal

pub returns-then-is_worded : goal.returns-then-is_worded
returns-then-is_worded c = search (rules, worded-told)

pub returns-then-is_spaced : goal.returns-then-is_spaced
returns-then-is_spaced c = search (rules, spaced-told)

pub returns : goal.returns
returns c = search (rules, word-told)
