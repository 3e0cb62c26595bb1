-- `told_reason` looks at the line where it is not well formed.
use Rattle.listing.proofs.Reasons.{told_same, told_line}
use borrow.Author.Rules.{rules}
use Rattle.listing_code.proofs.windows_text.told_reason.Goals as goal

pub returns-in-OtherNumbers : goal.returns-in-OtherNumbers
returns-in-OtherNumbers c = search (rules, told_line)

pub returns-in_default : goal.returns-in_default
returns-in_default c = search (rules, told_same)
