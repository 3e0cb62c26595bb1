-- `cover` refuses bytes that are too many, and covers the records of any other.
use borrow.Author.Rules.{rules}
use Rattle.outcomes.proofs.Outcomes.{told_same}
use Rattle.listing.proofs.Stops.{cover-long, cover-corners}
use Rattle.listing_code.proofs.cover.Goals as goal

pub returns-then-records-gt-LONGEST_INPUT : goal.returns-then-records-gt-LONGEST_INPUT
returns-then-records-gt-LONGEST_INPUT c = search (rules, told_same, cover-long)

pub returns : goal.returns
returns c = search (rules, told_same, cover-corners)
