-- `fields_reason` tries one thing after the other.
use Rattle.listing.proofs.Reasons.{space-told, plus-told, point-told, fields_told}
use borrow.Author.Rules.{rules}
use Rattle.listing_code.proofs.line_reasons.fields_reason.Goals as goal

pub returns-then-has : goal.returns-then-has
returns-then-has c = search (rules, space-told)

pub returns-then-has-2 : goal.returns-then-has-2
returns-then-has-2 c = search (rules, plus-told)

pub returns-then-has-3 : goal.returns-then-has-3
returns-then-has-3 c = search (rules, point-told)

pub returns : goal.returns
returns c = search (rules, fields_told)
