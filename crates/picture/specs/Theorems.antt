-- Theorem: what a picture has, for every plan: well-formed markup, each rectangle and each row once, in its order and at its coordinates. Proved in
-- proofs/Theorems.antt.
use Rattle.std.specs.Prelude.{◌≡◌, ◌⊎◌, ℕ, suc, ◌+◌, ◌*◌, ◌/◌, ◌<◌, ◌≤◌, ℤ, pos, neg_ℤ, ◌-ℤ◌, length, get_or, drop, ◌≤ℤ◌, ◌<ℤ◌}
use mathlib.Core.List.{List, [], ◌∷◌, ◌++◌, flat_map}
use Rattle.lists.specs.Lists.{upto}
use Rattle.geometry.specs.declared.Rect.{Rect}
use Rattle.geometry.specs.declared.Kind.TheVariants.{Ground, Edge, Point}
use Rattle.geometry.specs.Rectangles.{grown_by}
use Rattle.decimal.specs.Numerals.{decimal, numeral}
use Rattle.plan.specs.Causes.{on_cause}
use Rattle.plan.specs.Plan.{Layer, rect_at, count}
use Rattle.plan.specs.Spots.{layer_at}
use Rattle.join.specs.Join.{common_in, kind_in}
use Rattle.printing.specs.Lines.{row_line}
use Rattle.text.specs.Reader.{text_shape, text_cells}
use Rattle.reporting.specs.Report.{report_cause}
use Rattle.outcomes.specs.Texts.{ascii}
use Rattle.outcomes.specs.Outcomes.{done, refused}
use Rattle.picture.specs.declared.Frame.{Frame}
use Rattle.picture.specs.Templates.{fill}
use Rattle.picture.specs.Texts.{head_text, tail_text}
use Rattle.picture.specs.Markup.{start, end, scan}
use Rattle.picture.specs.Frames.{ground_of, frame_of, longer, width_of}
use Rattle.picture.specs.Hatchings.{hatching_of, beyond, fourth, points}
use Rattle.picture.specs.Pictures.{outlined, shape_at, shapes_of, legend, layer_part, mark, row_part, seen, scale, picture_of, picture, picture_said}

-- a rectangle's path in front of other bytes, in literals: to its left bottom corner, to its right, to its top, to its left, and closed
abbrev pub path_then : Rect → List ℕ → List ℕ
path_then r rest =
    ascii "M" ++ (numeral r.left ++ (ascii " " ++ (numeral r.bottom ++ (ascii "H" ++ (numeral r.right
    ++ (ascii "V" ++ (numeral r.top ++ (ascii "H" ++ (numeral r.left ++ (ascii "Z" ++ rest))))))))))

-- numbers in front of other bytes, each behind a space
abbrev pub spaced_then : List ℤ → List ℕ → List ℕ
spaced_then [] rest = rest
spaced_then (z ∷ zs) rest = ascii " " ++ (numeral z ++ spaced_then zs rest)

-- a line in front of other bytes: to its first point, and then from each to the next
abbrev pub line_then : List ℤ → List ℕ → List ℕ
line_then zs rest =
    let z : ℕ → ℤ = λ i. get_or zs i (pos 0) in
    ascii "M" ++ (numeral (z 0) ++ (ascii " " ++ (numeral (z 1) ++ (ascii "L" ++ (numeral (z 2) ++ spaced_then (drop 3 zs) rest)))))

-- the title of a rectangle
abbrev pub title_of : (layer place : ℕ) → List ℕ
title_of j p = ascii "<g><title>layer " ++ (decimal j ++ (ascii ", place " ++ (decimal p ++ ascii "</title>")))

-- north is up, and the ground's left and top are at 0: a point x, y comes to x - left, top - y
abbrev pub north_up : Frame → List ℕ
north_up f =
    ascii "<g transform='scale(1 -1) translate(" ++ (numeral (neg_ℤ f.left) ++ (ascii " " ++ (numeral (neg_ℤ f.top) ++ ascii ")'>\n")))

pub record PicturesHold : Type 0 where
  -- a text whose report is printed has a picture of its plan, and any other is refused as the report refuses it
  pub said : (t : List ℕ) → picture_said t ≡ on_cause (report_cause t) (done (picture (text_shape t) (text_cells t))) refused
  -- a picture has a head, each layer once, in its order, with its number from 1 on and its own margin, each row once, in the table's order, and the tail
  pub whole : (f : Frame) (ms : List ℕ) (drawn whole : List Layer) (rows : List (List ℕ)) → picture_of f ms drawn whole rows
      ≡ fill head_text (seen f)
      ++ (flat_map (λ j. layer_part f (suc j) (get_or ms j 0) (layer_at drawn j)) (upto (λ q. q) 0 (length drawn))
      ++ (north_up f ++ (flat_map (row_part f.unit whole) rows ++ fill tail_text (scale f (length rows)))))
  -- a layer is its rectangles, with north up, and its line of the legend
  pub layer : (f : Frame) (j m : ℕ) (l : Layer) → layer_part f j m l
      ≡ (ascii "<g class='l" ++ (decimal j ++ (ascii "'>" ++ north_up f))) ++ (shapes_of f.unit j m l ++ legend f j m l.size)
  -- every picture is one element whose tags are balanced, each attribute with one value, and has only bytes that are printed, tabs and line ends; whatever the
  -- plan, no byte of it is taken for a tag
  pub formed : (f : Frame) (ms : List ℕ) (drawn whole : List Layer) (rows : List (List ℕ)) → scan start (picture_of f ms drawn whole rows) ≡ end
  -- each rectangle of a layer once, in its order ..
  pub shapes : (u j m : ℕ) (l : Layer) → shapes_of u j m l ≡ flat_map (λ p. shape_at u j m p (l.rect p)) (upto (λ q. q) 0 l.size)
  -- .. with its layer and place, ..
  pub drawn : (u j p : ℕ) (r : Rect) → shape_at u j 0 p r ≡ title_of j p ++ (outlined u j r ++ ascii "</g>\n")
  -- .. and dashed around it the grown one
  pub grown : (u j m p : ℕ) (r : Rect) → 0 < m
      → shape_at u j m p r ≡ title_of j p ++ (outlined u j r ++ (ascii "<path class='m' d='" ++ path_then (grown_by m r) (ascii "'/></g>\n")))
  -- its outline where it lies, and in it the hatching of its layer, ..
  pub outline : (u j : ℕ) (r : Rect) → outlined u j r
      ≡ (ascii "<path d='" ++ path_then r (ascii "'/>")) ++ (ascii "<path class='h' d='" ++ line_then (points (beyond u r) r (hatching_of j)) (ascii "'/>"))
  -- .. whose points lie within it, ..
  pub strokes : (a b : ℤ) (q : ℕ) → a ≤ℤ b → q ≤ 4 → (a ≤ℤ fourth 0 a b q) × (fourth 0 a b q ≤ℤ b)
  pub spread : (u : ℕ) (r : Rect) → (r.left <ℤ r.right) ⊎ (r.bottom <ℤ r.top) → beyond u r ≡ 0
  -- .. but a unit around it where it is a point
  pub spot : (u : ℕ) (r : Rect) → r.left ≡ r.right → r.bottom ≡ r.top → beyond u r ≡ u
  -- each row with the report's line, and its common ground ..
  pub titled : (u : ℕ) (ls : List Layer) (row : List ℕ)
      → row_part u ls row ≡ ascii "<g><title>" ++ (row_line ls row ++ mark u (kind_in ls row) (common_in ls row))
  -- .. where it lies
  pub ground : (u : ℕ) (r : Rect) → mark u Ground r ≡ ascii "</title><path class='g' d='" ++ path_then r (ascii "'/></g>\n")
  pub edge : (u : ℕ) (r : Rect) → mark u Edge r ≡ ascii "</title><path class='e' d='" ++ path_then r (ascii "'/></g>\n")
  pub point : (u : ℕ) (r : Rect) → mark u Point r
      ≡ ascii "</title><path class='p' transform='translate(" ++ (numeral r.left ++ (ascii " " ++ (numeral r.bottom
      ++ (ascii ") scale(" ++ (decimal u ++ ascii ")' d='M-1 -1L1 1M-1 1L1 -1'/></g>\n")))))
  -- what is seen begins 5 units at the left of the ground and above it, and ends beyond its width and its height, ..
  pub view : (f : Frame) → let u = f.unit in fill head_text (seen f)
      ≡ ascii "<svg xmlns='http://www.w3.org/2000/svg' viewBox='-" ++ (decimal (5 * u) ++ (ascii " -" ++ (decimal (5 * u)
      ++ (ascii " " ++ (decimal (f.width + 65 * u) ++ (ascii " " ++ (decimal (longer f.height (30 * u) + 10 * u)
      ++ fill (drop 58 head_text) (drop 4 (seen f)))))))))
  -- .. with no line wider than 32,767 millimetres; ..
  pub pens : (n : ℕ) → (width_of n ≤ n) × (width_of n / 10 ≤ 32767)
  pub enough : (f : Frame) → f.height ≤ longer f.height (30 * f.unit)
  -- .. which are those of the ground; ..
  pub sides : (r : Rect) → r.left ≤ℤ r.right → r.bottom ≤ℤ r.top
      → (pos (frame_of r).width ≡ r.right -ℤ r.left) × (pos (frame_of r).height ≡ r.top -ℤ r.bottom)
  -- .. all rectangles lie in the ground, and what is seen is never empty: its unit is at least 1
  pub inside : (cells : List ℤ) (i : ℕ) → i < count cells → let g = ground_of cells in let r = rect_at cells i in
      (g.left ≤ℤ r.left) × (g.bottom ≤ℤ r.bottom) × (r.right ≤ℤ g.right) × (r.top ≤ℤ g.top)
  pub unit : (r : Rect) → 0 < (frame_of r).unit
