-- The class call (02, Q-2): "takes a plan and a row's cells and returns the class, 17 where they name no row"; its checks 15 and 16; how many rows fall in
-- each class.
use Rattle.std.specs.Prelude.{List, Bool, true, false, cond, ◌&&◌, ℕ, ◌-◌, ℤ, eqb, leb, length, get_or, Option, Some, None, Result, Ok, Err}
use Rattle.lists.specs.Lists.{upto, keep, holds_below}
use Rattle.geometry.specs.declared.Rect.{Rect}
use Rattle.plan.specs.declared.Shape.{Shape}
use Rattle.plan.specs.Causes.{unless, ◌or_else◌, on_cause}
use Rattle.plan.specs.Plan.{Layer, layers_of, sizes_of, layers, plan_cause}
use Rattle.plan.specs.Spots.{layer_at}
use Rattle.join.specs.Join.{same_z}
use Rattle.rows.specs.RowCall.{is_row}
use Rattle.crossings.specs.Crossings.{class_in}

-- ---- the checks
-- a rectangle is a segment: where level, a horizontal one, whose bottom and top do not differ; else a vertical one, whose left and right do not
unfoldable pub lies : (level : Bool) → Rect → Bool
lies level r = cond level (same_z r.bottom r.top) (same_z r.left r.right)

-- all rectangles of layer i, counted from 0, are such segments
abbrev pub layer_lies : (level : Bool) → List Layer → ℕ → Bool
layer_lies level ls i = let l = layer_at ls i in holds_below (λ p. lies level (l.rect p)) l.size

-- the drawn half of check 16, whose other half is `unwidened`: layer k − 1 holds horizontal segments, layer k vertical ones
unfoldable pub segmented : List Layer → Bool
segmented ls = layer_lies true ls (length ls - 2) && layer_lies false ls (length ls - 1)

-- neither of these layers has a margin. 02, Q-4: "a margin above 0 on a segment layer is 16"
unfoldable pub unwidened : (margins : List ℕ) (k : ℕ) → Bool
unwidened ms k = eqb (get_or ms (k - 2) 0) 0 && eqb (get_or ms (k - 1) 0) 0

-- 02: "fewer than three layers, 15; bottom and top differing in layer k − 1, or left and right in layer k, 16; both after 4, in that order". The segments
-- are those drawn, and with margin 0 the grown ones too
unfoldable pub crossing_cause : Shape → List ℤ → ℕ
crossing_cause s cells =
    plan_cause s cells or_else unless (leb 3 s.k) 15 or_else unless (unwidened s.margins s.k && segmented (layers_of (sizes_of s) cells)) 16

-- ---- the class call: of a row its class, 0, or 4(i − 1) and 1, 2, 3 or 4 for the left, right, bottom or top end in layer i
unfoldable pub class_call : Shape → List ℤ → List ℕ → Result (Option ℕ) ℕ
class_call s cells row =
    let ls = layers s cells in on_cause (crossing_cause s cells) (Ok (cond (is_row ls row) (Some (class_in ls row)) None)) Err

-- its number and class for each answer; "17 where they name no row" is no refusal
pub record ClassValues : Type 0 where
  pub number : ℕ
  pub class : ℕ

abbrev pub class_values : Result (Option ℕ) ℕ → ClassValues
class_values (Err cause) = record { number = cause; class = 0 }
class_values (Ok None) = record { number = 0; class = 17 }
class_values (Ok (Some class)) = record { number = 0; class = class }

-- ---- 02: "how many rows fall in each class 0 to 16"
abbrev pub count_of : List Layer → List (List ℕ) → ℕ → ℕ
count_of ls rows class = length (keep (λ row. eqb (class_in ls row) class) rows)

abbrev pub class_counts : List Layer → List (List ℕ) → List ℕ
class_counts ls rows = upto (count_of ls rows) 0 17
