-- `rows_code::grown_in`.
use mathlib.Core.Path.{◌≡◌, sym, ap, subst, ◌∙◌}
use mathlib.Core.Bool.{true}
use mathlib.Core.List.{List}
use Prim.Native.Nat.{ℕ, ◌*◌}
use native.Mathlib.Omega.{arith}
use lib.IntN.{ℤ}
use lib.ListN.{length, take, drop, length-drop}
use lib.Seq.{length-take-le}
use Rattle.geometry.specs.declared.Rect.{Rect}
use Rattle.geometry.specs.Rectangles.{in_range, grown_by}
use Rattle.geometry.proofs.Rectangles.{grown-none}
use Rattle.plan.specs.Plan.{rect_at}
use Rattle.rows_code.proofs.grown_in.Goals as goal

-- a margin of 0 grows nothing
kept : (r q : Rect) (m : ℕ) → m ≡ 0 → r ≡ q → r ≡ grown_by m q
kept r q m z e = e ∙ (sym (grown-none q) ∙ ap (λ (n : ℕ). grown_by n q) (sym z))

pub rect_at-r-requires : goal.rect_at-r-requires
rect_at-r-requires c =
    let d = length-drop (4 * c.args.start) c.args.cells.now in
    let t = length-take-le (4 * c.args.size) (drop (4 * c.args.start) c.args.cells.now) (omega arith) in
    omega (arith, ap length c.layer_cells.ensures)

pub returns-then-margin-eq0 : goal.returns-then-margin-eq0
returns-then-margin-eq0 c =
    let read : c.rect_at-r.result ≡ rect_at (take (4 * c.args.size) (drop (4 * c.args.start) c.args.cells.now)) c.args.place = c.rect_at-r.ensures ∙ ap (λ (l : List ℤ). rect_at l c.args.place) c.layer_cells.ensures in
    kept _ _ _ c.if-margin-eq0.true read

pub grow-requires : goal.grow-requires
grow-requires c =
    let read : c.rect_at-r.result ≡ rect_at (take (4 * c.args.size) (drop (4 * c.args.start) c.args.cells.now)) c.args.place = c.rect_at-r.ensures ∙ ap (λ (l : List ℤ). rect_at l c.args.place) c.layer_cells.ensures in
    (subst (λ (r : Rect). in_range r ≡ true) (sym read) (c.requires.1.1.ranged c.if-margin-eq0.false), c.requires.1.1.small)

pub returns : goal.returns
returns c =
    let read : c.rect_at-r.result ≡ rect_at (take (4 * c.args.size) (drop (4 * c.args.start) c.args.cells.now)) c.args.place = c.rect_at-r.ensures ∙ ap (λ (l : List ℤ). rect_at l c.args.place) c.layer_cells.ensures in
    c.grow.ensures ∙ ap (grown_by _) read
