-- How long a picture may be: no number has more than 21 bytes.
use mathlib.Core.Path.{◌≡◌}
use mathlib.Core.List.{List, [], ◌∷◌, ◌++◌}
use mathlib.Core.Bool.{Bool, true, false, cond}
use Prim.Native.Nat.{ℕ, zero, suc, ◌+◌, ◌*◌, ◌≤◌}
use native.Mathlib.Omega.{arith}
use lib.Dec.{eqb}
use lib.IntN.{ℤ, pos}
use lib.ListN.{length, get_or, take, drop, length-append}
use Rattle.lists.specs.Lists.{each, sum}
use Rattle.geometry.specs.declared.Rect.{Rect}
use Rattle.geometry.specs.declared.Kind.{Kind}
use Rattle.geometry.specs.declared.Kind.TheVariants.{Ground, Edge, Point}
use Rattle.geometry.specs.Rectangles.{grown_by}
use Rattle.plan.specs.Plan.{Layer, rect_at, layers_of}
use Rattle.join.specs.Join.{common_in, kind_in}
use Rattle.rows.specs.Tables.{cells_of}
use Rattle.printing.specs.Lines.{row_line}
use Rattle.printing.proofs.Lines.{rows_few}
use Rattle.picture.specs.declared.Frame.{Frame}
use Rattle.picture.specs.Templates.{fill}
use Rattle.picture.specs.Texts.{head_text, open_text, title_text, outline_text, hatch_text, end_text, margin_text, close_text, legend_text}
use Rattle.picture.specs.Texts.{rows_text, row_text, ground_text, edge_text, point_text, tail_text}
use Rattle.picture.specs.Pictures.{corners, outlined, grown_part, shape_at, shapes_of, moved, sample, legend_place, legend_says, legend}
use Rattle.picture.specs.Pictures.{layer_part, layer_parts, mark, row_part, row_parts, seen, scale, picture_of}
use Rattle.picture.specs.Hatchings.{hatching_of, beyond, points}
use Rattle.picture.proofs.Fills.{fill-few}

-- ---- rectangles
outline-few : (u j : ℕ) (r : Rect) → length (outlined u j r) ≤ 500
unfolding outlined outline_text hatch_text
outline-few u j r =
    let zs = points (beyond u r) r (hatching_of j) in
    omega (arith, length-append (fill outline_text (corners r)) (fill hatch_text zs), fill-few outline_text (corners r), fill-few hatch_text zs)

close-few : (t : Bool) (zs : List ℤ) → length (fill (cond t end_text margin_text) zs) ≤ 100 + 21 * length zs
unfolding end_text margin_text
close-few true zs = omega (arith, fill-few end_text zs)
close-few false zs = omega (arith, fill-few margin_text zs)

shape-few : (u j m p : ℕ) (r : Rect) → length (shape_at u j m p r) ≤ 800
unfolding shape_at title_text
shape-few u j m p r =
    let a = fill title_text (pos j ∷ pos p ∷ []) in
    let b = grown_part m r in
    omega (
      arith,
      length-append a (outlined u j r ++ b),
      length-append (outlined u j r) b,
      fill-few title_text (pos j ∷ pos p ∷ []),
      outline-few u j r,
      close-few (eqb m 0) (corners (grown_by m r)),
    )

each-few : (f : ℕ → List ℕ) (m : ℕ) → ((p : ℕ) → length (f p) ≤ m) → (p n : ℕ) → length (each f p n) ≤ m * n
each-few f m h p zero = omega arith
each-few f m h p (suc n) = let e : m * suc n ≡ m + m * n = omega arith in omega (arith, e, length-append (f p) (each f (suc p) n), h p, each-few f m h (suc p) n)

-- ---- layers
legend-few : (f : Frame) (j m n : ℕ) → length (legend f j m n) ≤ 900
unfolding legend close_text legend_text
legend-few f j m n =
    let a = fill close_text (legend_place f j) in
    let b = outlined f.unit j (sample f.unit) in
    let zs = legend_says f j m n in
    omega (
      arith,
      length-append a (b ++ fill legend_text zs),
      length-append b (fill legend_text zs),
      fill-few close_text (legend_place f j),
      outline-few f.unit j (sample f.unit),
      fill-few legend_text zs,
    )

layer-few : (f : Frame) (j m : ℕ) (l : Layer) → length (layer_part f j m l) ≤ 1100 + 800 * l.size
unfolding layer_part open_text
layer-few f j m l =
    let u = f.unit in
    omega (
      arith,
      length-append (fill open_text (pos j ∷ moved f)) (shapes_of u j m l ++ legend f j m l.size),
      length-append (shapes_of u j m l) (legend f j m l.size),
      fill-few open_text (pos j ∷ moved f),
      legend-few f j m l.size,
      each-few (λ p. shape_at u j m p (l.rect p)) 800 (λ p. shape-few u j m p (l.rect p)) 0 l.size,
    )

layers-few : (f : Frame) (ms : List ℕ) (j : ℕ) (ns : List ℕ) (cells : List ℤ) → length (layer_parts f ms j (layers_of ns cells)) ≤ 1100 * length ns + 800 * sum ns
layers-few f ms j [] cells = omega arith
layers-few f ms j (n ∷ ns) cells =
    let l : Layer = record { size = n; rect = rect_at (take (4 * n) cells) } in
    omega (
      arith,
      length-append (layer_part f (suc j) (get_or ms j 0) l) (layer_parts f ms (suc j) (layers_of ns (drop (4 * n) cells))),
      layer-few f (suc j) (get_or ms j 0) l,
      layers-few f ms (suc j) ns (drop (4 * n) cells),
    )

-- ---- rows
mark-few : (u : ℕ) (kind : Kind) (r : Rect) → length (mark u kind r) ≤ 200
unfolding mark ground_text edge_text point_text
mark-few u Ground r = omega (arith, fill-few ground_text (corners r))
mark-few u Edge r = omega (arith, fill-few edge_text (corners r))
mark-few u Point r = omega (arith, fill-few point_text (r.left ∷ r.bottom ∷ pos u ∷ []))

row-few : (u : ℕ) (ls : List Layer) (row : List ℕ) → length (row_part u ls row) ≤ 300 + 21 * length row
unfolding row_part row_text
row-few u ls row =
    omega (
      arith,
      length-append row_text (row_line ls row ++ mark u (kind_in ls row) (common_in ls row)),
      length-append (row_line ls row) (mark u (kind_in ls row) (common_in ls row)),
      mark-few u (kind_in ls row) (common_in ls row),
      rows_few ls (row ∷ []),
      length-append (row_line ls row) [],
      length-append row [],
    )

parts-few : (u : ℕ) (ls : List Layer) (rows : List (List ℕ)) → length (row_parts u ls rows) ≤ 300 * length rows + 21 * length (cells_of rows)
parts-few u ls [] = omega arith
parts-few u ls (row ∷ rows) =
    omega (arith, length-append (row_part u ls row) (row_parts u ls rows), row-few u ls row, length-append row (cells_of rows), parts-few u ls rows)

-- ---- the whole
pub picture-few : (f : Frame) (ms ns : List ℕ) (cells : List ℤ) (ls : List Layer) (rows : List (List ℕ))
    → length (picture_of f ms (layers_of ns cells) ls rows) ≤ 4000 + 1100 * length ns + 800 * sum ns + 300 * length rows + 21 * length (cells_of rows)
unfolding picture_of head_text rows_text tail_text
picture-few f ms ns cells ls rows =
    let a = layer_parts f ms 0 (layers_of ns cells) in
    let b = row_parts f.unit ls rows in
    let t = fill tail_text (scale f (length rows)) in
    omega (
      arith,
      length-append (fill head_text (seen f)) (a ++ (fill rows_text (moved f) ++ (b ++ t))),
      length-append a (fill rows_text (moved f) ++ (b ++ t)),
      length-append (fill rows_text (moved f)) (b ++ t),
      length-append b t,
      fill-few head_text (seen f),
      fill-few rows_text (moved f),
      fill-few tail_text (scale f (length rows)),
      layers-few f ms 0 ns cells,
      parts-few f.unit ls rows,
    )
