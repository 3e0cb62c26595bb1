use mathlib.Core.Path.{sym, ap, ◌∙◌}
use native.Mathlib.Omega.{arith}
use lib.Dec.{eqb}
use Rattle.std.specs.List.{position}
use Rattle.std.proofs.lemmas.Slice.{between_to_end}
use Rattle.outcomes.proofs.Texts.{found_at, found_none}
use Rattle.outcomes_code.proofs.parts.end_of.Goals as goal

pub returns-in-Some : goal.returns-in-Some
returns-in-Some c =
    found_at _ _ _ _ c.requires
    (sym c.in-Some.is ∙ (c.first_of.ensures ∙ ap (position (λ b. eqb b c.args.e)) (between_to_end c.args.text.now c.args.from _ (omega arith))))

pub returns-in-None : goal.returns-in-None
returns-in-None c =
    found_none _ _ _ c.requires
    (sym c.in-None.is ∙ (c.first_of.ensures ∙ ap (position (λ b. eqb b c.args.e)) (between_to_end c.args.text.now c.args.from _ (omega arith))))
