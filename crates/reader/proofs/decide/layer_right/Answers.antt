-- `layer_right` tests what is due, the layers, the size and the margin, one after the other.
use mathlib.Core.Path.{sym, ◌∙◌}
use mathlib.Core.Logic.{inl, inr}
use native.Mathlib.Omega.{arith}
use mir.Syntax.{w32}
use mir.Val.{SFits}
use mir.Facts.{to_z-of_z}
use Rattle.std.proofs.lemmas.Grind.{common_steps}
use Rattle.text.proofs.Counting.{right-due, right-full, right-size, right-margin}
use Rattle.reader.proofs.decide.layer_right.Goals as goal
use Rattle.reader.proofs.decide.layer_right.Goals.{then-t-lt-MOST_LAYERS, else-t-lt-MOST_LAYERS}

pub returns-then-up_to : goal.returns-then-up_to
returns-then-up_to c =
    let f : SFits w32 c.args.n = c.ranges.n in
    let g : SFits w32 c.args.margin = c.ranges.margin in
    elim c.if-t-lt-MOST_LAYERS.branch [
      | then-t-lt-MOST_LAYERS w ↦ simp to_z-of_z at c.up_to-then-up_to.ensures
          ∙ right-margin _ _ _ w.if-t-lt-MOST_LAYERS.true.0 w.if-t-lt-MOST_LAYERS.true.1 (sym (simp to_z-of_z at w.up_to.ensures) ∙ (sym w.value-is ∙ c.if-up_to.true))
      | else-t-lt-MOST_LAYERS w ↦ absurd (grind (arith, common_steps))
    ]

pub returns-else-up_to : goal.returns-else-up_to
returns-else-up_to c =
    let f : SFits w32 c.args.n = c.ranges.n in
    c.if-up_to.false
    ∙ elim c.if-t-lt-MOST_LAYERS.branch [
      | then-t-lt-MOST_LAYERS w ↦ right-size _ _ _ w.if-t-lt-MOST_LAYERS.true.0 w.if-t-lt-MOST_LAYERS.true.1 (sym (simp to_z-of_z at w.up_to.ensures) ∙ (sym w.value-is ∙ c.if-up_to.false))
      | else-t-lt-MOST_LAYERS w ↦ elim w.if-t-lt-MOST_LAYERS.either [ inl full ↦ right-full _ _ _ full.0 full.1 | inr due ↦ right-due _ _ _ due ]
    ]
