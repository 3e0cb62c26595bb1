-- Theorem: what is promised of the class of every row, of the class call, and of the checks 15 and 16. Proved in proofs/Theorems.antt.
use Rattle.std.specs.Prelude.{◌≡◌, true, ◌↔◌, ℕ, suc, ◌+◌, ◌-◌, ◌*◌, ◌≤◌, ◌<◌, ℤ, length, get_or, Option, Some, None, Result, Ok, Err}
use mathlib.Core.List.{List, [], Memᴰ}
use Rattle.geometry.specs.declared.Rect.{Rect}
use Rattle.geometry.specs.Rectangles.{In}
use Rattle.geometry.specs.Theorems.{Meet}
use Rattle.plan.specs.declared.Shape.{Shape}
use Rattle.plan.specs.Causes.{Check, Passed}
use Rattle.plan.specs.Plan.{layers_of, sizes_of, layers, Typed}
use Rattle.plan.specs.Theorems.{PlanChecks}
use Rattle.plan.specs.Spots.{layer_at}
use Rattle.join.specs.Join.{rects, common_of}
use Rattle.join.specs.Table.{plan_table}
use Rattle.crossings.specs.Crossings.{covers}
use Rattle.crossings.specs.ClassCall.{crossing_cause, class_call, class_values}

-- ---- 02's words
-- the rectangle of layer i, from 1, in a row
abbrev pub of_layer : List Rect → ℕ → Rect
of_layer rs i = get_or rs (i - 1) (common_of [])

-- "A segment crosses a rectangle when they meet and the rectangle covers neither endpoint."
pub record Crosses (s r : Rect) : Type 0 where
  pub meet : Meet s r
  pub first : In s.left s.bottom r → ⊥
  pub last : In s.right s.top r → ⊥

-- the ends that r covers of the horizontal segment h and of the vertical one v: "4(i − 1) + 1 when its rectangle covers the left end, + 2 the right end, + 3
-- the bottom end, + 4 the top end"
pub data Covered (h v r : Rect) : ℕ → Type 0 where
  left : In h.left h.bottom r → Covered h v r 1
  right : In h.right h.top r → Covered h v r 2
  bottom : In v.left v.bottom r → Covered h v r 3
  top : In v.right v.top r → Covered h v r 4

-- ... "for layer i", from 1 to k − 2
pub data Numbered (rs : List Rect) (h v : Rect) : ℕ → Type 0 where
  numbered : (i : ℕ) → 1 ≤ i → i + 2 ≤ length rs → {e : ℕ} → Covered h v (of_layer rs i) e → Numbered rs h v (4 * (i - 1) + e)

-- the class of a row of these k rectangles, of which h and v are the segments
pub record IsClass (rs : List Rect) (h v : Rect) (class : ℕ) : Type 0 where
  -- "class 0 where both segments cross every rectangle of layers 1 to k − 2"
  pub none : (class ≡ 0) ↔ ((i : ℕ) → 1 ≤ i → i + 2 ≤ length rs → Crosses h (of_layer rs i) × Crosses v (of_layer rs i))
  -- "Otherwise its class is the smallest of these"
  pub one : (class ≡ 0 → ⊥) → Numbered rs h v class
  pub smallest : (n : ℕ) → Numbered rs h v n → class ≤ n
  -- at most 4(k − 2)
  pub most : class ≤ 4 * (length rs - 2)

-- ---- the checks
-- each rectangle of layer i, from 0, is such a segment as drawn. 02, Q-4: "a margin above 0 on a segment layer is 16", also where it is empty
abbrev pub LayerLies : Shape → List ℤ → (i : ℕ) → (Rect → Type 0) → Type 0
LayerLies s cells i Lies =
    let l = layer_at (layers_of (sizes_of s) cells) i in (get_or s.margins i 0 ≡ 0) × ((p : ℕ) → p < l.size → Lies (l.rect p))

-- "bottom and top" do not differ "in layer k − 1", nor "left and right in layer k"
abbrev pub Segments : Shape → List ℤ → Type 0
Segments s cells = LayerLies s cells (s.k - 2) (λ r. r.bottom ≡ r.top) × LayerLies s cells (s.k - 1) (λ r. r.left ≡ r.right)

-- ---- the class call: what it answers for these cells, whose rectangles are rs
pub record ClassHolds (s : Shape) (cells : List ℤ) (row : List ℕ) (rs : List Rect) (answer : Result (Option ℕ) ℕ) : Type 0 where
  -- of a row of the table its class; its segments are those of layers k − 1 and k
  pub class : Memᴰ row (plan_table s cells)
      → (class : ℕ) × (answer ≡ Ok (Some class)) × IsClass rs (of_layer rs (s.k - 1)) (of_layer rs s.k) class × (length rs ≡ s.k)
  pub others : (Memᴰ row (plan_table s cells) → ⊥) → answer ≡ Ok None

pub record Crossings : Type 0 where
  -- a rectangle covers exactly the points that lie in it
  pub covers : (r : Rect) (x y : ℤ) → (covers r x y ≡ true) ↔ In x y r
  -- "fewer than three layers, 15", then 16, "both after 4, in that order"
  pub causes : (s : Shape) (cells : List ℤ) → Typed s
      → PlanChecks s cells (Check 15 (3 ≤ s.k) (Check 16 (Segments s cells) Passed)) (crossing_cause s cells)
  pub refused : (s : Shape) (cells : List ℤ) (row : List ℕ) (n : ℕ) → crossing_cause s cells ≡ suc n
      → class_call s cells row ≡ Err (suc n)
  pub classes : (s : Shape) (cells : List ℤ) → Typed s → crossing_cause s cells ≡ 0
      → (row : List ℕ) → ClassHolds s cells row (rects (layers s cells) row) (class_call s cells row)
  -- the number and the class of each answer: "17 where they name no row"
  pub values : (n : ℕ) → (class_values (Err n) ≡ record { number = n; class = 0 }) × (class_values (Ok None) ≡ record { number = 0; class = 17 })
      × (class_values (Ok (Some n)) ≡ record { number = 0; class = n })
