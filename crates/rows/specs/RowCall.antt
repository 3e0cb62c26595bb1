-- The row call (01, "The table"): "takes a plan and lent cells and returns the guard's layer and the area of the row in them".
use Rattle.std.specs.Prelude.{List, [], ◌∷◌, Bool, true, false, cond, ◌&&◌, ℕ, suc, ℤ, ltb, Option, Some, None, Result, Ok, Err}
use Rattle.geometry.specs.declared.Rect.{Rect}
use Rattle.geometry.specs.Rectangles.{nonempty, letter_of}
use Rattle.plan.specs.declared.Shape.{Shape}
use Rattle.plan.specs.Causes.{on_cause}
use Rattle.plan.specs.Plan.{Layer, layers, plan_cause}
use Rattle.rows.specs.declared.Row.{Row}
use Rattle.rows.specs.declared.CommonGround.{CommonGround}
use Rattle.join.specs.Join.{rects, no_rect, common_in, area_in, kind_in, guard_layer}
use Rattle.join.specs.Table.{sizes_in}

-- one place for each size, below it
abbrev pub fits : List ℕ → List ℕ → Bool
fits [] [] = true
fits [] (p ∷ row) = false
fits (n ∷ ns) [] = false
fits (n ∷ ns) (p ∷ row) = ltb p n && fits ns row

-- the cells name a row of J (specs/Theorems.antt, `names`): they fit, and their rectangles have something in common
unfoldable pub is_row : List Layer → List ℕ → Bool
is_row ls row = fits (sizes_in ls) row && nonempty (common_in ls row)

-- the row call; its checks are 1 2 17 3 4. 01: "Where they are not k cells or name no row of J, it returns layer 0 and area 0."
unfoldable pub row_call : Shape → List ℤ → List ℕ → Result (Option Row) ℕ
row_call s cells row =
    let ls = layers s cells in
    let found : Row = record { layer = suc (guard_layer (rects ls row)); area = area_in ls row } in
    on_cause (plan_cause s cells) (Ok (cond (is_row ls row) (Some found) None)) Err

-- 01's number and values of each answer: the cause or 0, the guard's layer from 1, the area
pub record RowValues : Type 0 where
  pub number : ℕ
  pub layer : ℕ
  pub area : ℕ

abbrev pub row_values : Result (Option Row) ℕ → RowValues
row_values (Err cause) = record { number = cause; layer = 0; area = 0 }
row_values (Ok None) = record { number = 0; layer = 0; area = 0 }
row_values (Ok (Some row)) = record { number = 0; layer = row.layer; area = row.area }

-- ---- the call for a row's common ground (02, Q-7), with the checks of the row call
unfoldable pub common_call : Shape → List ℤ → List ℕ → Result (Option CommonGround) ℕ
common_call s cells row =
    let ls = layers s cells in
    let found : CommonGround = record { rect = common_in ls row; kind = kind_in ls row } in
    on_cause (plan_cause s cells) (Ok (cond (is_row ls row) (Some found) None)) Err

-- the number and values of each answer: the cause or 0, the letter of the kind and the rectangle. Kind 0 is the mark of no row
pub record CommonValues : Type 0 where
  pub number : ℕ
  pub kind : ℕ
  pub common : Rect

abbrev pub common_values : Result (Option CommonGround) ℕ → CommonValues
common_values (Err cause) = record { number = cause; kind = 0; common = no_rect }
common_values (Ok None) = record { number = 0; kind = 0; common = no_rect }
common_values (Ok (Some told)) = record { number = 0; kind = letter_of told.kind; common = told.rect }
