-- `line_reason` tries one thing after the other, and then word and fields.
use Rattle.listing.proofs.Reasons.{mark-told, return-told, blank-told, worded-told, other-told}
use borrow.Author.Rules.{rules}
use Rattle.listing_code.proofs.line_reasons.line_reason.Goals as goal

pub returns-then-starts : goal.returns-then-starts
returns-then-starts c = search (rules, mark-told)

pub returns-then-has : goal.returns-then-has
returns-then-has c = search (rules, return-told)

pub returns-then-starts-2 : goal.returns-then-starts-2
returns-then-starts-2 c = search (rules, blank-told)

pub returns-then-starts-3 : goal.returns-then-starts-3
returns-then-starts-3 c = search (rules, worded-told)

pub returns : goal.returns
returns c = search (rules, other-told)
