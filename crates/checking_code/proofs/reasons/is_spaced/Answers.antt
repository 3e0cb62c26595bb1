-- `is_spaced` tries a space, and the three words with one.
use Rattle.checking.proofs.Wording.{space_first, rect-space, layer-space, no-space}
use borrow.Author.Rules.{rules}
use Rattle.checking_code.proofs.reasons.is_spaced.Goals as goal

pub returns-then-starts : goal.returns-then-starts
returns-then-starts c = search (rules, space_first)

pub returns-then-starts-2 : goal.returns-then-starts-2
returns-then-starts-2 c = search (rules, rect-space)

pub returns-then-starts-3 : goal.returns-then-starts-3
returns-then-starts-3 c = search (rules, layer-space)

pub returns-else-starts-3 : goal.returns-else-starts-3
returns-else-starts-3 c = search (rules, no-space)
