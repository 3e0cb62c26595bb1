-- `one_number` looks at the word, and at what stands behind it.
use Rattle.checking.proofs.Wording.{layer-long, no_layer, no_number, number-ends}
use mathlib.Core.Path.{ap, ◌∙◌}
use native.Mathlib.Omega.{arith}
use Rattle.std.proofs.lemmas.Slice.{between_to_end}
use Rattle.checking.specs.Reasons.{digits_end}
use borrow.Author.Rules.{rules}
use Rattle.checking_code.proofs.reasons.one_number.Goals as goal

pub digit_at-requires : goal.digit_at-requires
digit_at-requires c = search (rules, layer-long)

pub returns-then-digit_at : goal.returns-then-digit_at
returns-then-digit_at c =
    number-ends _ _ c.starts.ensures c.if-starts.true _ _ c.digit_at.ensures c.if-digit_at.true
    (c.digits_end.ensures ∙ ap digits_end (between_to_end c.args.l.now 6 _ (omega arith)))

pub returns-else-digit_at : goal.returns-else-digit_at
returns-else-digit_at c = search (rules, no_number)

pub returns-else-starts : goal.returns-else-starts
returns-else-starts c = search (rules, no_layer)
