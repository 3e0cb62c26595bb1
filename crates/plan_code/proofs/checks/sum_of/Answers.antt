-- `plan_code::checks::sum_of`: the library's sum is ours.
use Rattle.std.proofs.Common.{◌≡◌, ℕ, ◌+◌, List, [], ◌∷◌, refl, ap, ◌∙◌, rules}
use Rattle.std.proofs.lemmas.List.Sums.{sum_by-cons}
use Rattle.std.specs.Prelude as std
use Rattle.lists.specs.Lists.{sum}
use Rattle.plan_code.proofs.checks.sum_of.Goals as goal

ours : (ns : List ℕ) → std.sum ns ≡ sum ns
ours [] = refl
ours (n ∷ ns) = sum_by-cons (λ x. x) n ns ∙ ap (λ s. n + s) (ours ns)

pub returns : goal.returns
returns c = let e : c.sum.result ≡ std.sum c.args.sizes.now = search rules in e ∙ ours c.args.sizes.now
