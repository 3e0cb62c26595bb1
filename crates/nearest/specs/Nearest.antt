-- What lies nearest to a box in each layer (02, Q-1: "what lies closest to a plinth").
use Rattle.std.specs.Prelude.{List, [], ◌∷◌, cond, ℕ, zero, suc, ◌+◌, ◌*◌, ℤ, nat_abs, ◌-ℤ◌, leb, get_or, Option, Some, None, Result, Ok, Err}
use Rattle.std.specs.Int.Signed.{lt_z}
use Rattle.lists.specs.Lists.{each, upto}
use Rattle.geometry.specs.declared.Rect.{Rect}
use Rattle.geometry.specs.Rectangles.{in_range}
use Rattle.plan.specs.declared.Shape.{Shape}
use Rattle.plan.specs.Causes.{unless, ◌or_else◌, on_cause}
use Rattle.plan.specs.Plan.{Layer, layers, plan_cause}
use Rattle.plan.specs.Spots.{layer_at}
use Rattle.nearest.specs.declared.Near.{Near}

-- 02: "The gap along an axis is 0 where the extents meet, else the distance between facing edges"
unfoldable pub axis_gap : (low high from to : ℤ) → ℕ
axis_gap low high from to = cond (lt_z high from) (nat_abs (from -ℤ high)) (cond (lt_z to low) (nat_abs (low -ℤ to)) 0)

-- 02: "the squared gap is the sum of both squares" (specs/Theorems.antt, `gaps`: the least squared distance of their points)
unfoldable pub squared_gap : Rect → Rect → ℕ
squared_gap a r =
    let x = axis_gap a.left a.right r.left r.right in let y = axis_gap a.bottom a.top r.bottom r.top in x * x + y * y

-- the entry of an empty layer, or one past k
abbrev pub nothing : Option Near
nothing = None

-- the nearest so far, unless the rectangle at p is nearer. 02: "Among equals the lowest place wins"
unfoldable pub nearer : Option Near → ℕ → ℕ → Option Near
nearer None p gap = Some (record { place = p; gap = gap })
nearer (Some best) p gap = Some (cond (leb best.gap gap) best (record { place = p; gap = gap }))

-- the nearest of a layer's first n rectangles
unfoldable pub nearest_to : Rect → (ℕ → Rect) → ℕ → Option Near
nearest_to a rect zero = nothing
nearest_to a rect (suc n) = nearer (nearest_to a rect n) n (squared_gap a (rect n))

-- 02: "for each layer the place of the rectangle with the smallest squared gap, and that gap" (specs/Theorems.antt, `IsNearest`)
abbrev pub nearest_in : Rect → Layer → Option Near
nearest_in a l = nearest_to a l.rect l.size

-- what an accepted call answers: six entries, the first layer first; a layer past k is an empty one
abbrev pub nearest_of : List Layer → Rect → List (Option Near)
nearest_of ls a = upto (λ j. nearest_in a (layer_at ls j)) 0 6

-- the box is as given, never grown (02, Q-4). 02: "the box has left > right, bottom > top or a coordinate out of range, 14, after 4"
unfoldable pub nearest_cause : Shape → List ℤ → Rect → ℕ
nearest_cause s cells a = plan_cause s cells or_else unless (in_range a) 14

-- the call
unfoldable pub nearest_call : Shape → List ℤ → Rect → Result (List (Option Near)) ℕ
nearest_call s cells a = on_cause (nearest_cause s cells a) (Ok (nearest_of (layers s cells) a)) Err

-- the number and entries of each answer; a refusal returns its number and six entries with nothing found
pub record NearestValues : Type 0 where
  pub number : ℕ
  pub layers : List (Option Near)

abbrev pub nearest_values : Result (List (Option Near)) ℕ → NearestValues
nearest_values (Err cause) = record { number = cause; layers = upto (λ j. nothing) 0 6 }
nearest_values (Ok layers) = record { number = 0; layers = layers }

-- an entry as cells: whether anything was found (0 or 1), its place, the squared gap.
-- 02: "An empty layer, or one past k, says so with place and gap 0"
abbrev pub entry_cells : Option Near → List ℕ
entry_cells None = 0 ∷ 0 ∷ 0 ∷ []
entry_cells (Some e) = 1 ∷ e.place ∷ e.gap ∷ []

-- an answer as cells, three for each layer
abbrev pub near_cells : NearestValues → List ℕ
near_cells r = each (λ j. entry_cells (get_or r.layers j nothing)) 0 6
