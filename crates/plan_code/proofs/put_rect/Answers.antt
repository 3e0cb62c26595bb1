-- `put_rect` stores the four cells, one behind the other.
use native.Mathlib.Omega.{arith}
use lib.ListN.{length-set}
use mir.Syntax.{w32}
use mir.Val.{SFits}
use mir.Facts.{to_z-of_z}
use Rattle.geometry.proofs.Machine.{Fitting}
use Rattle.lists.proofs.Stores.{put_four}
use borrow.Author.Rules.{rules}
use Rattle.plan_code.proofs.put_rect.Goals as goal

pub bounds-cells-at-2 : goal.bounds-cells-at-2
bounds-cells-at-2 c = simp length-set (omega arith)

pub bounds-cells-at-3 : goal.bounds-cells-at-3
bounds-cells-at-3 c = simp length-set (omega arith)

pub bounds-cells-at-4 : goal.bounds-cells-at-4
bounds-cells-at-4 c = simp length-set (omega arith)

pub returns : goal.returns
returns c =
    let fitting : Fitting c.args.r = search rules in
    let a = c.args in
    let g = fitting in
    let f₀ : SFits w32 a.r.left = g.left in
    let f₁ : SFits w32 a.r.bottom = g.bottom in
    let f₂ : SFits w32 a.r.right = g.right in
    let f₃ : SFits w32 a.r.top = g.top in
    simp to_z-of_z (put_four a.cells.now a.at a.r.left a.r.bottom a.r.right a.r.top)
