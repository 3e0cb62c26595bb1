-- `word_reason` tries one thing after the other.
use Rattle.listing.proofs.Reasons.{before-told, behind-told, word-told}
use borrow.Author.Rules.{rules}
use Rattle.listing_code.proofs.line_reasons.word_reason.Goals as goal

pub returns-then-starts : goal.returns-then-starts
returns-then-starts c = search (rules, before-told)

pub returns-then-starts-2 : goal.returns-then-starts-2
returns-then-starts-2 c = search (rules, behind-told)

pub returns : goal.returns
returns c = search (rules, word-told)
