-- `put_rect_line` writes the word and two corners.
use mir.Syntax.{w32}
use mir.Val.{SFits}
use mir.Facts.{to_z-of_z}
use native.Mathlib.Omega.{arith}
use borrow.Author.Rules.{rules}
use Rattle.geometry.proofs.Machine.{Fitting}
use Rattle.pens.proofs.Pens.{writing}
use Rattle.speller.proofs.put.put_rect_line.Goals as goal

pub put_corner-requires-2 : goal.put_corner-requires-2
put_corner-requires-2 c =
    let fitting : Fitting c.args.r = search rules in
    let f : SFits w32 c.args.r.left = fitting.left in
    let g : SFits w32 c.args.r.bottom = fitting.bottom in
    let k : SFits w32 c.args.r.right = fitting.right in
    let l : SFits w32 c.args.r.top = fitting.top in
    let e = simp to_z-of_z at c.put_corner.ensures in
    simp to_z-of_z (grind (arith, writing, c.put.ensures, c.requires))

pub returns : goal.returns
returns c =
    let fitting : Fitting c.args.r = search rules in
    let f : SFits w32 c.args.r.left = fitting.left in
    let g : SFits w32 c.args.r.bottom = fitting.bottom in
    let k : SFits w32 c.args.r.right = fitting.right in
    let l : SFits w32 c.args.r.top = fitting.top in
    let e = simp to_z-of_z at c.put_corner.ensures in
    let h = simp to_z-of_z at c.put_corner-2.ensures in
    grind (arith, writing, c.put.ensures)
