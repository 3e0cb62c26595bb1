-- Theorem: what is promised of the rectangles and of the causes of every plan. Proved in proofs/Theorems.antt.
use Rattle.std.specs.Prelude.{◌≡◌, List, [], ◌∷◌, ◌++◌, map, Ok, Err, ◌↔◌, ℕ, ◌*◌, ◌≤◌, ◌<◌, true, ℤ, pos, length, get_or}
use Rattle.lists.specs.Lists.{sum}
use Rattle.geometry.specs.declared.Rect.{Rect}
use Rattle.geometry.specs.Rectangles.{between, held, grown_by}
use Rattle.geometry.specs.Theorems.{Ranged}
use Rattle.plan.specs.declared.Shape.{Shape}
use Rattle.plan.specs.declared.cause.Cause.{Cause}
use Rattle.plan.specs.declared.cause.Cause.TheVariants as cause
use Rattle.plan.specs.Causes.{number_of, refusal, read_by, by_number, Check, Passed}
use Rattle.plan.specs.Plan.{rect_at, count, layers_of, sizes_of, grown, layers, plan_cause, Sound}
use Rattle.plan.specs.Spots.{Spot, layer_at, Has, rect_of}
use Rattle.plan.specs.Frames.{Framed}

-- ---- 01, "The plan": what each of the causes denies
-- the numbers of layers, from 1 on, are at most `most`, and 0 past k
abbrev pub Bounded : (most k : ℕ) → List ℕ → Type 0
Bounded most k ns = (j : ℕ) → (get_or ns j 0 ≤ most) × (k ≤ j → get_or ns j 0 ≡ 0)

-- each rectangle in range, ungrown
abbrev pub AllIn : List ℤ → Type 0
AllIn cells = (i : ℕ) → i < count cells → Ranged (rect_at cells i)

-- the lines of a plan, in the order in which they are checked; those of every call with a plan go on from them: "k layers, 2 to 6"; sizes of "0 to 512";
-- 02, Q-4: margins of "0 to 50,000"; "four for each rectangle", "n is the sum of the sizes"; each of them in range
abbrev pub PlanChecks : Shape → List ℤ → (Next : ℕ → Type 0) → ℕ → Type 0
PlanChecks s cells Next =
    Check 1 ((2 ≤ s.k) × (s.k ≤ 6)) (Check 2 (Bounded 512 s.k s.sizes) (Check 17 (Bounded 50000 s.k s.margins)
    (Check 3 (length cells ≡ 4 * sum s.sizes) (Check 4 (AllIn cells) Next))))

-- 02, Q-13: "Every plan of the old range gives the same rows, trials and printed totals." Table, walk, pages and sums have no range in their definitions, and
-- where every cell is from −1,000,000 to 1,000,000, check 4 asks what it asked with that range (`old`)
abbrev pub OldCells : List ℤ → Type 0
OldCells cells = (i : ℕ) → between (pos 1000000) (get_or cells i (pos 0)) ≡ true

-- 02, Q-4: the grown plan
pub record Grows (s : Shape) (cells : List ℤ) : Type 0 where
  -- layer by layer and place by place, each rectangle is "the one grown by its margin on all four sides"; layers and places are counted from 0
  pub sizes : (j : ℕ) → (layer_at (layers s cells) j).size ≡ get_or (sizes_of s) j 0
  pub rects : (t : Spot) → Has (layers s cells) t
      → rect_of (layers s cells) t ≡ grown_by (get_or s.margins t.layer 0) (rect_of (layers_of (sizes_of s) cells) t)
  -- with all margins 0 it is the plan
  pub none : Sound s cells → ((j : ℕ) → get_or s.margins j 0 ≡ 0) → grown s cells ≡ cells

pub record Plans : Type 0 where
  -- a cause's number says which it is, and is never that of none
  pub numbered : (c d : Cause) → number_of c ≡ number_of d → c ≡ d
  pub never : (c : Cause) → number_of c ≡ 0 → ⊥
  -- the numbers of the causes, in figures
  pub figures : map number_of (cause.WrongLayerCount ∷ cause.WrongSize ∷ cause.WrongCellCount ∷ cause.WrongRectangle ∷ cause.WrongOrder ∷ cause.WrongTicket ∷
      cause.SmallTable ∷ cause.WrongOrderLength ∷ cause.MalformedText ∷ cause.WrongPlanText ∷ cause.FewCells ∷ cause.SmallTextBuffer ∷
      cause.LongInput ∷ cause.WrongBox ∷ cause.FewLayers ∷ cause.WrongSegment ∷ cause.WrongMargin ∷ cause.WrongCounter ∷
      cause.SmallWork ∷ cause.WrongRecord ∷ cause.WrongStops ∷ cause.WrongRound ∷ cause.WrongPlaces ∷ cause.WrongWindow ∷ [])
      ≡ 1 ∷ 2 ∷ 3 ∷ 4 ∷ 5 ∷ 6 ∷ 7 ∷ 8 ∷ 9 ∷ 10 ∷ 11 ∷ 12 ∷ 13 ∷ 14 ∷ 15 ∷ 16 ∷ 17 ∷ 18 ∷ 19 ∷ 20 ∷ 21 ∷ 22 ∷ 23 ∷ 24 ∷ []
  -- an answer tells 0 and itself, a refusal the number of its cause
  pub tells : (n : ℕ) (c : Cause) → (refusal (Ok n) ≡ 0) × (refusal {A = ℕ} (Err c) ≡ number_of c) × (by_number (Ok n) ≡ Ok n) × (by_number {A = ℕ} (Err c) ≡ Err (number_of c))
  -- a refusal that is any number is the number that it is read as
  pub reads : (f : ℕ → ℕ) (n m : ℕ) → (read_by f (Ok n) ≡ Ok n) × (read_by {A = ℕ} f (Err m) ≡ Err (f m))
  -- "four for each rectangle: left, bottom, right, top": those of the rectangle with number p stand behind 4p cells
  pub fields : (p : ℕ) (front : List ℤ) (r : Rect) (rest : List ℤ) → length front ≡ 4 * p
      → rect_at (front ++ r.left ∷ r.bottom ∷ r.right ∷ r.top ∷ rest) p ≡ r
  pub causes : (s : Shape) (cells : List ℤ) → PlanChecks s cells Passed (plan_cause s cells)
  pub old : (cells : List ℤ) → OldCells cells → AllIn cells ↔ ((i : ℕ) → i < count cells → held (pos 1000000) (rect_at cells i) ≡ true)
  -- the sizes of the layers are the first k
  pub sizes : (s : Shape) (j : ℕ) → j < s.k → get_or (sizes_of s) j 0 ≡ get_or s.sizes j 0
  pub grows : (s : Shape) (cells : List ℤ) → Grows s cells
  -- what the checks let through is, grown, what the table and the walk ask for; the sizes of the layers make up n, and there are k
  pub frames : (s : Shape) (cells : List ℤ) → Sound s cells
      → Framed (sizes_of s) (grown s cells) × (sum (sizes_of s) ≡ sum s.sizes) × (length (sizes_of s) ≡ s.k)
