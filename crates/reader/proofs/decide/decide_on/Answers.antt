-- `decide_on` goes by the tally of the lines behind the PLAN line.
use mathlib.Core.Path.{◌≡◌, sym, ap, ◌∙◌}
use native.Mathlib.Omega.{arith}
use Prim.Native.Nat.{ℕ}
use mathlib.Core.List.{List}
use lib.IntN.{ℤ}
use lib.ListN.{drop}
use mir.Syntax.{w32}
use mir.Val.{SFits}
use mir.Facts.{to_z-of_z}
use Rattle.plan.proofs.Causes.{number-above, passed}
use Rattle.line.specs.declared.Line.TheVariants.{Plan}
use Rattle.line.specs.Places.{Line-at}
use Rattle.text.specs.declared.Tally.{Tally}
use Rattle.text.specs.Parsing.{lines_of}
use Rattle.text.specs.inner.Counting.{none_yet, tally_from, tally_cause}
use Rattle.text.proofs.Filling.{form_cause, tally-tells, Accepted, accepted, refused-form, refused-room, taken}
use Rattle.reader.proofs.decide.decide_on.Goals as goal

-- the cause of the tally is that of the text's lines
module _ (s : List ℕ) (k : ℤ) (next : ℕ) (at : Line-at s 0 (Plan k) next) (t : Tally) (counted : t ≡ tally_from none_yet (drop next s)) where
  same-cause : (n : ℕ) → n ≡ tally_cause k t → n ≡ form_cause (lines_of s)
  same-cause n e = e ∙ (ap (tally_cause k) counted ∙ tally-tells s k next at)

  accepts : 0 ≡ tally_cause k t → Accepted s k next t
  accepts e = rw counted (accepted s k next at (sym (same-cause 0 e)))

pub returns-in_err-check_tally : goal.returns-in_err-check_tally
returns-in_err-check_tally c =
    let f : SFits w32 c.args.k = c.ranges.k in
    rw (passed _ _ c.from_residual.ensures.1)
    (refused-form c.args.s.now c.args.room _ (number-above _) (same-cause _ _ _ c.requires _ c.tally-t.ensures _ (simp to_z-of_z at c.in_err-check_tally.ensures)))

pub overflow_mul-t : goal.overflow_mul-t
overflow_mul-t c =
    let f : SFits w32 c.args.k = c.ranges.k in
    let good : Accepted c.args.s.now c.args.k c.args.next c.tally-t.result = accepts _ _ _ c.requires _ c.tally-t.ensures (simp to_z-of_z at c.in_ok-check_tally.ensures) in
    omega (arith, good.few)

pub returns-then-room-t : goal.returns-then-room-t
returns-then-room-t c =
    let f : SFits w32 c.args.k = c.ranges.k in
    let good : Accepted c.args.s.now c.args.k c.args.next c.tally-t.result = accepts _ _ _ c.requires _ c.tally-t.ensures (simp to_z-of_z at c.in_ok-check_tally.ensures) in
    refused-room _ _ _ _ _ good c.if-room-t.true

pub overflow_cast-shape : goal.overflow_cast-shape
overflow_cast-shape c =
    let f : SFits w32 c.args.k = c.ranges.k in
    let good : Accepted c.args.s.now c.args.k c.args.next c.tally-t.result = accepts _ _ _ c.requires _ c.tally-t.ensures (simp to_z-of_z at c.in_ok-check_tally.ensures) in
    simp to_z-of_z (good.sign, omega (arith, good.layers))

pub returns : goal.returns
returns c =
    let f : SFits w32 c.args.k = c.ranges.k in
    let good : Accepted c.args.s.now c.args.k c.args.next c.tally-t.result = accepts _ _ _ c.requires _ c.tally-t.ensures (simp to_z-of_z at c.in_ok-check_tally.ensures) in
    simp to_z-of_z (taken c.args.s.now c.args.k c.args.next c.args.room _ good c.requires.inside c.if-room-t.false)
