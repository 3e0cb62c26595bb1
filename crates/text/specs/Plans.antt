-- The text of a plan, and the plan that lines give.
use Rattle.std.specs.Prelude.{List, [], ◌∷◌, ◌++◌, Bool, false, ◌&&◌, ℕ, zero, suc, ◌*◌, eqb, ℤ, pos, negsuc, nat_abs, length, take, drop}
use Rattle.lists.specs.Lists.{padded}
use Rattle.plan.specs.declared.Shape.{Shape}
use Rattle.plan.specs.Plan.{sizes_of, plan_cause}
use Rattle.line.specs.declared.Line.{Line}
use Rattle.text.specs.Spelling.{spell}
use Rattle.line.specs.declared.Line.TheVariants.{Plan, Layer, Rectangle}

-- ---- from a plan to its text

-- the RECT lines of cells, four for each
abbrev pub rect_lines : List ℤ → List Line
rect_lines (a ∷ b ∷ c ∷ d ∷ cells) = Rectangle (record { left = a; bottom = b; right = c; top = d }) ∷ rect_lines cells
rect_lines [] = []
rect_lines (a ∷ []) = []
rect_lines (a ∷ b ∷ []) = []
rect_lines (a ∷ b ∷ c ∷ []) = []

-- 01: "then for each layer a LAYER line and its RECT lines". 02, Q-4: each layer's margin is "written as a second number on its LAYER line"; the text
-- takes the cells "ungrown"
abbrev pub layer_lines : (sizes margins : List ℕ) → List ℤ → List Line
layer_lines [] ms cells = []
layer_lines (n ∷ ns) [] cells = []
layer_lines (n ∷ ns) (m ∷ ms) cells = Layer (pos n) (pos m) ∷ (rect_lines (take (4 * n) cells) ++ layer_lines ns ms (drop (4 * n) cells))

-- 01: "One PLAN line comes first"; the sizes and margins behind it are those of the k layers
unfoldable pub plan_lines : Shape → List ℤ → List Line
plan_lines s cells = Plan (pos s.k) ∷ layer_lines (sizes_of s) (take s.k s.margins) cells

-- "the one text of a plan"
unfoldable pub text_of : Shape → List ℤ → List ℕ
text_of s cells = spell (plan_lines s cells)

-- ---- from lines to a plan

-- the k that the PLAN line gives
abbrev pub stated_layers : List Line → ℕ
stated_layers [] = 0
stated_layers (Plan k ∷ ls) = nat_abs k
stated_layers (Layer n m ∷ ls) = 0
stated_layers (Rectangle b ∷ ls) = 0

-- the sizes that the LAYER lines give
abbrev pub layer_sizes : List Line → List ℕ
layer_sizes [] = []
layer_sizes (Plan k ∷ ls) = layer_sizes ls
layer_sizes (Layer n m ∷ ls) = nat_abs n ∷ layer_sizes ls
layer_sizes (Rectangle b ∷ ls) = layer_sizes ls

-- the margins that they give
abbrev pub layer_margins : List Line → List ℕ
layer_margins [] = []
layer_margins (Plan k ∷ ls) = layer_margins ls
layer_margins (Layer n m ∷ ls) = nat_abs m ∷ layer_margins ls
layer_margins (Rectangle b ∷ ls) = layer_margins ls

-- the cells that the RECT lines give
abbrev pub cells_in : List Line → List ℤ
cells_in [] = []
cells_in (Plan k ∷ ls) = cells_in ls
cells_in (Layer n m ∷ ls) = cells_in ls
cells_in (Rectangle b ∷ ls) = b.left ∷ b.bottom ∷ b.right ∷ b.top ∷ cells_in ls

-- the shape that lines give: sizes and margins past the last layer are 0
unfoldable pub shape_in : List Line → Shape
shape_in ls = record { k = stated_layers ls; sizes = padded 6 (layer_sizes ls); margins = padded 6 (layer_margins ls) }

-- `due` RECT lines come first, and behind each LAYER line as many as it says. A size or a margin below 0 is no plan's
abbrev pub rects_agree : ℕ → List Line → Bool
rects_agree due [] = eqb due 0
rects_agree due (Plan k ∷ ls) = false
rects_agree due (Layer (pos n) (pos m) ∷ ls) = eqb due 0 && rects_agree n ls
rects_agree due (Layer (pos n) (negsuc m) ∷ ls) = false
rects_agree due (Layer (negsuc n) m ∷ ls) = false
rects_agree zero (Rectangle b ∷ ls) = false
rects_agree (suc due) (Rectangle b ∷ ls) = rects_agree due ls

-- the PLAN line says how many LAYER lines there are, and the others are counted
abbrev pub well_counted : List Line → Bool
well_counted [] = false
well_counted (Plan (pos k) ∷ ls) = eqb (length (layer_sizes ls)) k && rects_agree 0 ls
well_counted (Plan (negsuc k) ∷ ls) = false
well_counted (Layer n m ∷ ls) = false
well_counted (Rectangle b ∷ ls) = false

-- 10 does not apply: nothing is miscounted, and none of 1, 2, 17 and 4 would apply. 02, Q-4: "17, after 2, in a text 10"
unfoldable pub agrees : List Line → Bool
agrees ls = well_counted ls && eqb (plan_cause (shape_in ls) (cells_in ls)) 0
