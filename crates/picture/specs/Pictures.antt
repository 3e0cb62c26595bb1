-- The picture of a plan, and what the command `picture` says. It is drawn as the report lists it: each layer with its rectangles in their order, then the rows
-- in the table's order.
use Rattle.std.specs.Prelude.{List, [], ◌∷◌, ◌++◌, cond, ℕ, suc, ◌+◌, ◌*◌, ◌/◌, ◌%◌, eqb, ℤ, pos, neg_ℤ, length, get_or}
use Rattle.std.proofs.Math.Option.{none}
use Rattle.lists.specs.Lists.{each}
use Rattle.geometry.specs.declared.Rect.{Rect}
use Rattle.geometry.specs.declared.Kind.{Kind}
use Rattle.geometry.specs.declared.Kind.TheVariants.{Ground, Edge, Point}
use Rattle.geometry.specs.Rectangles.{grown_by}
use Rattle.plan.specs.declared.Shape.{Shape}
use Rattle.plan.specs.Causes.{on_cause}
use Rattle.plan.specs.Plan.{Layer, layers_of, sizes_of, layers, grown}
use Rattle.sweep.specs.Sweep.{sweep_order}
use Rattle.join.specs.Join.{common_in, kind_in}
use Rattle.join.specs.Table.{plan_table}
use Rattle.paging.specs.Calls.{run_cause}
use Rattle.printing.specs.Lines.{row_line}
use Rattle.reporting.specs.Report.{run_work_cells, empty_table}
use Rattle.outcomes.specs.Outcomes.{Outcome, done, refused}
use Rattle.listing.specs.Plans.{on_plan}
use Rattle.picture.specs.declared.Frame.{Frame}
use Rattle.picture.specs.Templates.{fill}
use Rattle.picture.specs.Texts.{head_text, open_text, title_text, outline_text, hatch_text, end_text, margin_text, close_text, legend_text}
use Rattle.picture.specs.Texts.{rows_text, row_text, ground_text, edge_text, point_text, tail_text}
use Rattle.picture.specs.Frames.{ground_of, frame_of, longer, width_of, bar_of}
use Rattle.picture.specs.Hatchings.{hatching_of, beyond, points}

-- ---- rectangles
-- the numbers of a rectangle's path: to its left bottom corner, and then to its right, its top and its left
abbrev pub corners : Rect → List ℤ
corners r = r.left ∷ r.bottom ∷ r.right ∷ r.top ∷ r.left ∷ []

-- the outline of a rectangle, and its layer's hatching in it
unfoldable pub outlined : (unit layer : ℕ) → Rect → List ℕ
outlined u j r = fill outline_text (corners r) ++ fill hatch_text (points (beyond u r) r (hatching_of j))

-- its end: where its layer has a margin, it is drawn grown by it
abbrev pub grown_part : (margin : ℕ) → Rect → List ℕ
grown_part m r = fill (cond (eqb m 0) end_text margin_text) (corners (grown_by m r))

-- the rectangle at a place of a layer, both numbered as in the report
unfoldable pub shape_at : (unit layer margin place : ℕ) → Rect → List ℕ
shape_at u j m p r = fill title_text (pos j ∷ pos p ∷ []) ++ (outlined u j r ++ grown_part m r)

-- ---- layers
-- all rectangles of a layer, in their order
abbrev pub shapes_of : (unit layer margin : ℕ) → Layer → List ℕ
shapes_of u j m l = each (λ p. shape_at u j m p (l.rect p)) 0 l.size

-- how far the ground is moved, so that its left and top are at 0
abbrev pub moved : Frame → List ℤ
moved f = neg_ℤ f.left ∷ neg_ℤ f.top ∷ []

-- the sample of a layer in the legend
abbrev pub sample : (unit : ℕ) → Rect
sample u = record { left = pos 0; bottom = pos 0; right = pos (4 * u); top = pos (2 * u) }

-- where a layer's line of the legend stands: at the right of the ground, a line for each layer
abbrev pub legend_place : Frame → (layer : ℕ) → List ℤ
legend_place f j = pos (f.width + 5 * f.unit) ∷ pos (3 * f.unit * j + 2 * f.unit) ∷ []

-- what it says: the layer, how many rectangles it has and its margin
abbrev pub legend_says : Frame → (layer margin size : ℕ) → List ℤ
legend_says f j m n = pos f.unit ∷ pos j ∷ pos n ∷ pos m ∷ []

-- the line, with a sample
unfoldable pub legend : Frame → (layer margin size : ℕ) → List ℕ
legend f j m n =
    fill close_text (legend_place f j) ++ (outlined f.unit j (sample f.unit) ++ fill legend_text (legend_says f j m n))

-- a layer and its line of the legend
unfoldable pub layer_part : Frame → (layer margin : ℕ) → Layer → List ℕ
layer_part f j m l = fill open_text (pos j ∷ moved f) ++ (shapes_of f.unit j m l ++ legend f j m l.size)

-- layers from the one at j on, counted from 0; 01 numbers them from 1
abbrev pub layer_parts : Frame → (margins : List ℕ) → (j : ℕ) → List Layer → List ℕ
layer_parts f ms j [] = []
layer_parts f ms j (l ∷ ls) = layer_part f (suc j) (get_or ms j 0) l ++ layer_parts f ms (suc j) ls

-- ---- rows
-- the common ground of a row, a line or a cross, by its kind
unfoldable pub mark : (unit : ℕ) → Kind → Rect → List ℕ
mark u Ground r = fill ground_text (corners r)
mark u Edge r = fill edge_text (corners r)
mark u Point r = fill point_text (r.left ∷ r.bottom ∷ pos u ∷ [])

-- a row: the report's line is its title
unfoldable pub row_part : (unit : ℕ) → List Layer → List ℕ → List ℕ
row_part u ls row = row_text ++ (row_line ls row ++ mark u (kind_in ls row) (common_in ls row))

-- rows, in their order
abbrev pub row_parts : (unit : ℕ) → List Layer → List (List ℕ) → List ℕ
row_parts u ls [] = []
row_parts u ls (row ∷ rows) = row_part u ls row ++ row_parts u ls rows

-- ---- the whole
-- a length with one decimal, of its tenths
abbrev pub tenths : ℕ → List ℤ → List ℤ
tenths n more = pos (n / 10) ∷ pos (n % 10) ∷ more

-- the part of the ground that is seen, with 5 units around it and 55 more at its right for the legend; lines of 3 tenths of a unit, those of hatchings of 2,
-- dashes of 8 with gaps of 6, thick lines of 6; and the white ground, which is all that is seen
abbrev pub seen : Frame → List ℤ
seen f =
    let n = f.unit in let e = pos (5 * n) in
    let w = pos (f.width + 65 * n) in let h = pos (longer f.height (30 * n) + 10 * n) in
    e ∷ e ∷ w ∷ h
    ∷ tenths (width_of (3 * n)) (tenths (width_of (2 * n)) (tenths (8 * n) (tenths (6 * n) (tenths (width_of (6 * n)) (e ∷ e ∷ w ∷ h ∷ [])))))

-- the number of rows, and the scale bar: its length, and its metres with three decimals
abbrev pub scale : Frame → (rows : ℕ) → List ℤ
scale f n =
    let x = pos (f.width + 5 * f.unit) in let b = bar_of f.unit in
    x ∷ pos f.unit ∷ pos n ∷ x ∷ pos (24 * f.unit) ∷ pos b ∷ pos f.unit
    ∷ pos (b / 1000) ∷ pos (b / 100 % 10) ∷ pos (b / 10 % 10) ∷ pos (b % 10) ∷ []

-- a picture of layers as they are drawn, and of rows of the layers as they are grown
unfoldable pub picture_of : Frame → (margins : List ℕ) → (drawn whole : List Layer) → (rows : List (List ℕ)) → List ℕ
picture_of f ms drawn whole rows =
    fill head_text (seen f)
    ++ (layer_parts f ms 0 drawn ++ (fill rows_text (moved f) ++ (row_parts f.unit whole rows ++ fill tail_text (scale f (length rows)))))

-- the picture of a plan
abbrev pub picture : Shape → List ℤ → List ℕ
picture s cells = picture_of (frame_of (ground_of (grown s cells))) s.margins (layers_of (sizes_of s) cells) (layers s cells) (plan_table s cells)

-- what is said of a plan: the report's run refuses it, or it is drawn
unfoldable pub plan_picture : Shape → List ℤ → Outcome
plan_picture s cells = on_cause (run_cause none s cells (sweep_order (grown s cells)) empty_table run_work_cells) (done (picture s cells)) refused

-- what is said of a text
abbrev pub picture_said : List ℕ → Outcome
picture_said t = on_plan plan_picture t
