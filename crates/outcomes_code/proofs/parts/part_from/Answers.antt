use Rattle.outcomes.proofs.Texts.{skipped-none, skipped-more, skipped-all}
use borrow.Author.Rules.{rules}
use Rattle.outcomes_code.proofs.parts.part_from.Goals as goal

pub loop-init : goal.loop-init
loop-init c = search skipped-none

pub loop-preserved : goal.loop-preserved
loop-preserved c = search (rules, skipped-more)

pub returns : goal.returns
returns c = search (rules, skipped-all)
