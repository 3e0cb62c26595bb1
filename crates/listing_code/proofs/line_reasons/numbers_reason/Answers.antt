-- `numbers_reason` tries one thing after the other.
use Rattle.listing.proofs.Reasons.{zero-told, long-told, numbers-told, no-end-told}
use borrow.Author.Rules.{rules}
use Rattle.listing_code.proofs.line_reasons.numbers_reason.Goals as goal

pub returns-then-leading_zero : goal.returns-then-leading_zero
returns-then-leading_zero c = search (rules, zero-told)

pub returns-then-long_number : goal.returns-then-long_number
returns-then-long_number c = search (rules, long-told)

pub returns-then-has : goal.returns-then-has
returns-then-has c = search (rules, numbers-told)

pub returns : goal.returns
returns c = search (rules, no-end-told)
