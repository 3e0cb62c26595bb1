-- `reason_of` tries one thing after the other, and then word, fields and numbers.
use Rattle.checking.proofs.Told.{empty-told, mark-told, return-told, blank-told, place-told, fields_told}
use borrow.Author.Rules.{rules}
use Rattle.checking_code.proofs.reasons.reason_of.Goals as goal

pub returns-then-l-eq0 : goal.returns-then-l-eq0
returns-then-l-eq0 c = search (rules, empty-told)

pub returns-then-starts : goal.returns-then-starts
returns-then-starts c = search (rules, mark-told)

pub returns-then-has : goal.returns-then-has
returns-then-has c = search (rules, return-told)

pub returns-then-starts-2 : goal.returns-then-starts-2
returns-then-starts-2 c = search (rules, blank-told)

pub returns-then-is_line : goal.returns-then-is_line
returns-then-is_line c = search (rules, place-told)

pub returns : goal.returns
returns c = search (rules, fields_told)
