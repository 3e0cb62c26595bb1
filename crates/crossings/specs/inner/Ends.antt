-- What the functions that find a row's class promise one another; no public call's contract cites it.
use Rattle.std.specs.Prelude.{Bool, cond, List, ℕ, Option, Some, None}
use Rattle.lists.specs.Lists.{holds_below}
use Rattle.geometry.specs.declared.Rect.{Rect}
use Rattle.plan.specs.Plan.{Layer}
use Rattle.rows.specs.RowCall.{is_row}
use Rattle.crossings.specs.Crossings.{covers_first, covers_last, class_in}
use Rattle.crossings.specs.ClassCall.{lies}

-- the first of the four ends that the rectangle covers: 1 left, 2 right, 3 bottom, 4 top; 0 where it covers none
unfoldable pub end_in : (r h v : Rect) → ℕ
end_in r h v = cond (covers_first r h) 1 (cond (covers_last r h) 2 (cond (covers_first r v) 3 (cond (covers_last r v) 4 0)))

-- the first n rectangles are segments of this kind
abbrev pub all_lie : (level : Bool) → ℕ → (ℕ → Rect) → Bool
all_lie level n rect = holds_below (λ p. lies level (rect p)) n

-- what the class call tells of a plan with these layers
unfoldable pub class_told : List Layer → List ℕ → Option ℕ
class_told ls row = cond (is_row ls row) (Some (class_in ls row)) None
