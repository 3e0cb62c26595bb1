-- `hatching_of` asks for one layer after the other.
use borrow.Author.Rules.{rules}
use Rattle.picture.proofs.Hatchings.{hatching-1, hatching-2, hatching-3, hatching-4, hatching-5, hatching-6}
use Rattle.picture_code.proofs.hatchings.hatching_of.Goals as goal

pub returns-then-layer-eq1 : goal.returns-then-layer-eq1
returns-then-layer-eq1 c = search (rules, hatching-1)

pub returns-then-layer-eq2 : goal.returns-then-layer-eq2
returns-then-layer-eq2 c = search (rules, hatching-2)

pub returns-then-layer-eq3 : goal.returns-then-layer-eq3
returns-then-layer-eq3 c = search (rules, hatching-3)

pub returns-then-layer-eq4 : goal.returns-then-layer-eq4
returns-then-layer-eq4 c = search (rules, hatching-4)

pub returns-then-layer-eq5 : goal.returns-then-layer-eq5
returns-then-layer-eq5 c = search (rules, hatching-5)

pub returns : goal.returns
returns c = search (rules, hatching-6)
