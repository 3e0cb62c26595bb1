-- The pair call (02, Q-11): "either that they share a point, or the first pair of layers, by its lower layer and then its higher, whose two
-- rectangles do not meet".
use Rattle.std.specs.Prelude.{List, [], ◌∷◌, cond, ℕ, suc, ◌+◌, ℤ, ltb, length, Option, Some, None, Result, Ok, Err}
use Rattle.geometry.specs.declared.Rect.{Rect}
use Rattle.geometry.specs.Rectangles.{meets}
use Rattle.plan.specs.declared.Shape.{Shape}
use Rattle.plan.specs.Causes.{unless, ◌or_else◌, on_cause}
use Rattle.plan.specs.Plan.{sizes_of, layers, plan_cause}
use Rattle.join.specs.Join.{rects}
use Rattle.rows.specs.RowCall.{fits}
use Rattle.pairs.specs.declared.Pair.{Pair}

-- how many of the rectangles stand before the first that does not meet r; all of them, where each meets it
abbrev pub apart_at : Rect → List Rect → ℕ
apart_at r [] = 0
apart_at r (q ∷ qs) = cond (meets r q) (suc (apart_at r qs)) 0

-- a pair of layers, as it is told
abbrev pub apart : (lower higher : ℕ) → Option Pair
apart lower higher = Some (record { lower = lower; higher = higher })

-- the first pair among the rectangles of layer i and the later ones: one with layer i's, else one behind it, else none (specs/Theorems.antt, `first`, `either`)
abbrev pub first_pair : ℕ → List Rect → Option Pair
first_pair i [] = None
first_pair i (r ∷ rs) = cond (ltb (apart_at r rs) (length rs)) (apart i (suc i + apart_at r rs)) (first_pair (suc i) rs)

-- the first of the causes 1 2 17 3 4 23 that applies. 02: "not k places, or a place not in its layer, 23, after 4" (specs/Theorems.antt, `causes`)
unfoldable pub pair_cause : Shape → List ℤ → List ℕ → ℕ
pair_cause s cells row = plan_cause s cells or_else unless (fits (sizes_of s) row) 23

-- the pair call: a pair, or none where they share a point. 01 numbers layers from 1
unfoldable pub pair_call : Shape → List ℤ → List ℕ → Result (Option Pair) ℕ
pair_call s cells row = on_cause (pair_cause s cells row) (Ok (first_pair 1 (rects (layers s cells) row))) Err

-- the number and values of each answer: the cause or 0, the lower layer and the higher, from 1; both 0 where they share a point, and after a refusal
pub record PairValues : Type 0 where
  pub number : ℕ
  pub lower : ℕ
  pub higher : ℕ

abbrev pub pair_values : Result (Option Pair) ℕ → PairValues
pair_values (Err cause) = record { number = cause; lower = 0; higher = 0 }
pair_values (Ok None) = record { number = 0; lower = 0; higher = 0 }
pair_values (Ok (Some pair)) = record { number = 0; lower = pair.lower; higher = pair.higher }
