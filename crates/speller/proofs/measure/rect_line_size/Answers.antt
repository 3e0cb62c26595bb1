-- `rect_line_size` adds up the word and two corners.
use mathlib.Core.Path.{◌≡◌}
use Prim.Native.Nat.{ℕ, ◌+◌}
use native.Mathlib.Omega.{arith}
use lib.ListN.{length}
use mir.Syntax.{w32}
use mir.Val.{SFits, to_z, of_z}
use mir.Facts.{to_z-of_z}
use borrow.Author.Rules.{rules}
use Rattle.geometry.proofs.Machine.{Fitting}
use Rattle.decimal.specs.Numerals.{numeral}
use Rattle.decimal.proofs.Numerals.{numeral-few}
use Rattle.line.proofs.Lines.{shorts}
use Rattle.line.proofs.Lengths.{rect-length}
use Rattle.speller.proofs.measure.rect_line_size.Goals as goal

pub corner_size-requires : goal.corner_size-requires
corner_size-requires c =
    let fitting : Fitting c.args.r = search rules in
    let h = shorts c.args.r c.requires in
    let f : SFits w32 c.args.r.left = fitting.left in
    let g : SFits w32 c.args.r.bottom = fitting.bottom in
    simp to_z-of_z (h.0, h.1)

pub overflow_add-result : goal.overflow_add-result
overflow_add-result c =
    let fitting : Fitting c.args.r = search rules in
    let lower : (v : ℕ) → v ≡ 2 + length (numeral (to_z w32 (of_z w32 c.args.r.left))) + length (numeral (to_z w32 (of_z w32 c.args.r.bottom))) → v ≡ 2 + length (numeral c.args.r.left) + length (numeral c.args.r.bottom) = λ v e. let f : SFits w32 c.args.r.left = fitting.left in
    let g : SFits w32 c.args.r.bottom = fitting.bottom in
    simp to_z-of_z at e in
    omega (arith, lower _ c.corner_size.ensures, numeral-few c.args.r.left, numeral-few c.args.r.bottom)

pub corner_size-requires-2 : goal.corner_size-requires-2
corner_size-requires-2 c =
    let fitting : Fitting c.args.r = search rules in
    let h = shorts c.args.r c.requires in
    let f : SFits w32 c.args.r.right = fitting.right in
    let g : SFits w32 c.args.r.top = fitting.top in
    simp to_z-of_z (h.2, h.3)

pub overflow_add-result-2 : goal.overflow_add-result-2
overflow_add-result-2 c =
    let fitting : Fitting c.args.r = search rules in
    let lower : (v : ℕ) → v ≡ 2 + length (numeral (to_z w32 (of_z w32 c.args.r.left))) + length (numeral (to_z w32 (of_z w32 c.args.r.bottom))) → v ≡ 2 + length (numeral c.args.r.left) + length (numeral c.args.r.bottom) = λ v e. let f : SFits w32 c.args.r.left = fitting.left in
    let g : SFits w32 c.args.r.bottom = fitting.bottom in
    simp to_z-of_z at e in
    let upper : (v : ℕ) → v ≡ 2 + length (numeral (to_z w32 (of_z w32 c.args.r.right))) + length (numeral (to_z w32 (of_z w32 c.args.r.top))) → v ≡ 2 + length (numeral c.args.r.right) + length (numeral c.args.r.top) = λ v e. let f : SFits w32 c.args.r.right = fitting.right in
    let g : SFits w32 c.args.r.top = fitting.top in
    simp to_z-of_z at e in
    omega (arith, lower _ c.corner_size.ensures, upper _ c.corner_size-2.ensures, numeral-few c.args.r.left, numeral-few c.args.r.bottom, numeral-few c.args.r.right, numeral-few c.args.r.top)

pub returns : goal.returns
returns c =
    let fitting : Fitting c.args.r = search rules in
    let lower : (v : ℕ) → v ≡ 2 + length (numeral (to_z w32 (of_z w32 c.args.r.left))) + length (numeral (to_z w32 (of_z w32 c.args.r.bottom))) → v ≡ 2 + length (numeral c.args.r.left) + length (numeral c.args.r.bottom) = λ v e. let f : SFits w32 c.args.r.left = fitting.left in
    let g : SFits w32 c.args.r.bottom = fitting.bottom in
    simp to_z-of_z at e in
    let upper : (v : ℕ) → v ≡ 2 + length (numeral (to_z w32 (of_z w32 c.args.r.right))) + length (numeral (to_z w32 (of_z w32 c.args.r.top))) → v ≡ 2 + length (numeral c.args.r.right) + length (numeral c.args.r.top) = λ v e. let f : SFits w32 c.args.r.right = fitting.right in
    let g : SFits w32 c.args.r.top = fitting.top in
    simp to_z-of_z at e in
    omega (arith, lower _ c.corner_size.ensures, upper _ c.corner_size-2.ensures, rect-length c.args.r)
