-- The ground of a row and what is told of it, as functions that look at rows hand it on; no contract of an exported call cites it.
use Rattle.std.specs.Prelude.{List, cond, ℕ, ℤ, Option, Some, None, Result, Ok, Err}
use Rattle.std.specs.Int.Signed.{lt_z}
use Rattle.geometry.specs.declared.Rect.{Rect}
use Rattle.geometry.specs.Rectangles.{common, nonempty, meets, kind_of}
use Rattle.plan.specs.declared.Shape.{Shape}
use Rattle.plan.specs.Causes.{on_cause}
use Rattle.plan.specs.Plan.{Layer, layers, plan_cause}
use Rattle.rows.specs.declared.Ground.{Ground}
use Rattle.join.specs.Join.{rects, common_of, guard_layer}
use Rattle.rows.specs.RowCall.{is_row}

-- the ground with one rectangle more, that of layer i: the guard is the first of the greatest lefts
unfoldable pub take_in : Ground → Rect → ℕ → Option Ground
take_in g r i =
    let c = common g.common r in
    cond (meets g.common r) (Some (record { common = c; kind = kind_of c; guard = cond (lt_z g.common.left r.left) i g.guard })) None

-- the ground of rectangles: their intersection, its kind, and the guard's layer from 0
abbrev pub ground_by : List Rect → Ground
ground_by rs = record { common = common_of rs; kind = kind_of (common_of rs); guard = guard_layer rs }

-- what rectangles share
unfoldable pub shared_by : List Rect → Option Ground
shared_by rs = cond (nonempty (common_of rs)) (Some (ground_by rs)) None

-- the ground of the row that cells name: nothing where they name none
unfoldable pub ground_of : List Layer → List ℕ → Option Ground
ground_of ls row = cond (is_row ls row) (Some (ground_by (rects ls row))) None

-- what cells name in a plan with these layers
unfoldable pub row_named : List Layer → List ℕ → Option Ground
row_named ls row = cond (is_row ls row) (Some (ground_by (rects ls row))) None

-- ... and in a plan that is checked first
unfoldable pub plan_named : Shape → List ℤ → List ℕ → Result (Option Ground) ℕ
plan_named s cells row = on_cause (plan_cause s cells) (Ok (row_named (layers s cells) row)) Err
