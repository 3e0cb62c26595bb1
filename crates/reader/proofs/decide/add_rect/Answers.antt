-- `add_rect` counts one rectangle more, or spoils the tally.
use mathlib.Core.Path.{sym, ◌∙◌}
use native.Mathlib.Nat.{pos_of_ne-zero}
use Rattle.text.proofs.Counting.{rect-undue, rect-out, rect-added}
use Rattle.reader.proofs.decide.add_rect.Goals as goal
use Rattle.reader.proofs.decide.add_rect.Goals.{then-t-eq0-via-then-t-eq0, then-t-eq0-via-else-t-eq0+then-not-in_range}

pub returns-then-t-eq0 : goal.returns-then-t-eq0
returns-then-t-eq0 c =
    elim c.then-t-eq0.branch [
      | then-t-eq0-via-then-t-eq0 w ↦ rect-undue _ _ _ w.if-t-eq0.true c.spoil.ensures
      | then-t-eq0-via-else-t-eq0+then-not-in_range w ↦ rect-out _ _ _ (pos_of_ne-zero w.if-t-eq0.false) (sym w.in_range.ensures ∙ w.if-not-in_range.true) c.spoil.ensures
    ]

pub returns : goal.returns
returns c = rect-added c.args.t c.args.r (pos_of_ne-zero c.if-t-eq0.false) (sym c.in_range.ensures ∙ c.if-not-in_range.false)
