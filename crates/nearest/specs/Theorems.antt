-- Theorem: what is promised of the nearest rectangles, for every plan and box. Proved in proofs/Theorems.antt.
use Rattle.std.specs.Prelude.{◌≡◌, List, [], ◌∷◌, true, ◌↔◌, ℕ, ◌+◌, ◌*◌, ◌≤◌, ◌<◌, ℤ, pos, nat_abs, ◌-ℤ◌, length, get_or, take, drop, Option, Some, None, Ok, Err}
use Rattle.geometry.specs.declared.Rect.{Rect}
use Rattle.geometry.specs.Rectangles.{In, nonempty, meets, held}
use Rattle.geometry.specs.Theorems.{Ranged}
use Rattle.plan.specs.declared.Shape.{Shape}
use Rattle.plan.specs.Causes.{Check, Passed}
use Rattle.plan.specs.Plan.{Layer, layers}
use Rattle.plan.specs.Spots.{layer_at}
use Rattle.plan.specs.Theorems.{PlanChecks}
use Rattle.nearest.specs.declared.Near.{Near}
use Rattle.nearest.specs.Nearest.{squared_gap, nearest_cause, nearest_call, NearestValues, nearest_values, near_cells}

-- the squared distance of the points x, y and u, v
abbrev pub squared_distance : (x y u v : ℤ) → ℕ
squared_distance x y u v = nat_abs (u -ℤ x) * nat_abs (u -ℤ x) + nat_abs (v -ℤ y) * nat_abs (v -ℤ y)

-- what the number means, of a box and a rectangle that both hold a point. Whole millimetres are points enough: all edges are whole
pub record GapHolds (a r : Rect) : Type 0 where
  -- no point of the one is nearer to a point of the other, and two are as near
  pub least : (x y u v : ℤ) → In x y a → In u v r → squared_gap a r ≤ squared_distance x y u v
  pub attained : (x : ℤ) × (y : ℤ) × (u : ℤ) × (v : ℤ) × (In x y a × In u v r × (squared_distance x y u v ≡ squared_gap a r))
  -- 0 exactly where they have a common point
  pub touching : (squared_gap a r ≡ 0) ↔ (meets a r ≡ true)

-- that nothing is found
abbrev pub none_found : Option Near
none_found = None

-- an entry of a layer: nothing, of an empty one; else the lowest place among those with the smallest gap, and that gap
pub data IsNearest (a : Rect) (l : Layer) : Option Near → Type 0 where
  empty : l.size ≡ 0 → IsNearest a l none_found
  nearest : (p gap : ℕ) → p < l.size → gap ≡ squared_gap a (l.rect p) → ((q : ℕ) → q < l.size → gap ≤ squared_gap a (l.rect q))
      → ((q : ℕ) → q < p → gap < squared_gap a (l.rect q)) → IsNearest a l (Some (record { place = p; gap = gap }))

-- the entry of layer j, counted from 0
abbrev pub entry : NearestValues → ℕ → Option Near
entry r j = get_or r.layers j none_found

-- of one call
pub record NearestTold (s : Shape) (cells : List ℤ) (a : Rect) : Type 0 where
  -- the causes: a plan's, then 14, "the box has left > right, bottom > top or a coordinate out of range"; the answer tells the number
  pub causes : PlanChecks s cells (Check 14 (Ranged a) Passed) (nearest_cause s cells a)
  pub number : (nearest_values (nearest_call s cells a)).number ≡ nearest_cause s cells a
  -- an accepted call answers for layers 1 to 6, in this order
  pub accepted : nearest_cause s cells a ≡ 0 → (j : ℕ) → j < 6 → IsNearest a (layer_at (layers s cells) j) (entry (nearest_values (nearest_call s cells a)) j)
  -- nothing is found in a layer past k, and in any where the call is refused
  pub past : (j : ℕ) → (nearest_cause s cells a ≡ 0 → s.k ≤ j) → entry (nearest_values (nearest_call s cells a)) j ≡ none_found

pub record NearestHolds : Type 0 where
  pub gaps : (a r : Rect) → nonempty a ≡ true → nonempty r ≡ true → GapHolds a r
  -- of a box with coordinates from −m to m and a rectangle with coordinates from −n to n: 8.04005 × 10^14 with 10,000,000 and
  -- 10,050,000, as in every plan, which fits 64 bits
  pub bound : (m n : ℕ) (a r : Rect) → held (pos m) a ≡ true → held (pos n) r ≡ true → squared_gap a r ≤ 2 * ((m + n) * (m + n))
  pub told : (s : Shape) (cells : List ℤ) (a : Rect) → NearestTold s cells a
  -- the number and the entries that each answer stands for; a refusal's are six with nothing found
  pub values : (entries : List (Option Near)) (n : ℕ) → (nearest_values (Ok entries) ≡ record { number = 0; layers = entries })
      × (nearest_values (Err n) ≡ record { number = n; layers = None ∷ None ∷ None ∷ None ∷ None ∷ None ∷ [] })
  -- as cells, three for each layer: found (0 or 1), place, gap; where nothing is found, "with place and gap 0"
  pub long : (r : NearestValues) → length (near_cells r) ≡ 18
  pub cells : (r : NearestValues) (j : ℕ) → j < 6 → (e : Near) → entry r j ≡ Some e → take 3 (drop (3 * j) (near_cells r)) ≡ 1 ∷ e.place ∷ e.gap ∷ []
  pub no_cells : (r : NearestValues) (j : ℕ) → j < 6 → entry r j ≡ none_found → take 3 (drop (3 * j) (near_cells r)) ≡ 0 ∷ 0 ∷ 0 ∷ []
