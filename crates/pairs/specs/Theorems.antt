-- Theorem: what the pair call answers for every sound plan and all places, for every k (02, Q-11). Proved in proofs/Theorems.antt.
use Rattle.std.specs.Prelude.{◌≡◌, List, ◌↔◌, ◌⊎◌, ℕ, suc, ◌≤◌, ◌<◌, ℤ, length, get_or, Option, Some, None, Result, Ok, Err}
use Rattle.lists.specs.Lists.{All, Pairwise}
use Rattle.geometry.specs.declared.Rect.{Rect}
use Rattle.geometry.specs.Rectangles.{In}
use Rattle.geometry.specs.Theorems.{Meet}
use Rattle.plan.specs.declared.Shape.{Shape}
use Rattle.plan.specs.Causes.{Check, Passed}
use Rattle.plan.specs.Plan.{Layer, layers, Sound}
use Rattle.plan.specs.Theorems.{PlanChecks}
use Rattle.plan.specs.Spots.{rect_of}
use Rattle.join.specs.Join.{Within, InJoin}
use Rattle.pairs.specs.declared.Pair.{Pair}
use Rattle.pairs.specs.PairCall.{pair_cause, pair_call, pair_values}

-- the rectangle holds a point
abbrev pub HoldsPoint : Rect → Type 0
HoldsPoint r = (x : ℤ) × (y : ℤ) × In x y r

-- ---- pairs of layers. Here layers are counted from 0
-- the rectangle that a row names in layer i
abbrev pub chosen : List Layer → List ℕ → ℕ → Rect
chosen ls row i = rect_of ls (record { layer = i; place = get_or row i 0 })

-- 02: a "pair of layers .. whose two rectangles do not meet", i the lower and j the higher
pub record IsPair (ls : List Layer) (row : List ℕ) (i j : ℕ) : Type 0 where
  pub order : i < j
  pub there : j < length ls
  pub apart : Meet (chosen ls row i) (chosen ls row j) → ⊥

-- 02: "the first pair of layers, by its lower layer and then its higher": none comes before it
pub record IsFirstPair (ls : List Layer) (row : List ℕ) (i j : ℕ) : Type 0 where
  pub pair : IsPair ls row i j
  pub first : (a b : ℕ) → IsPair ls row a b → (i < a) ⊎ ((i ≡ a) × (j ≤ b))

-- ---- the call
-- what is answered for one place in each layer of a sound plan
pub record PairHolds (ls : List Layer) (row : List ℕ) (answer : Result (Option Pair) ℕ) : Type 0 where
  -- "either that they share a point": exactly when they do
  pub share : (answer ≡ Ok None) ↔ InJoin ls row
  -- "or the first pair of layers", told from 1: exactly when it is that
  pub first : (i j : ℕ) → (answer ≡ Ok (Some (record { lower = suc i; higher = suc j }))) ↔ IsFirstPair ls row i j
  -- it is one of the two
  pub either : (answer ≡ Ok None) ⊎ ((i : ℕ) × (j : ℕ) × (answer ≡ Ok (Some (record { lower = suc i; higher = suc j }))))
  -- "Such a pair is there exactly when the combination has no common point"
  pub exactly : ((i : ℕ) × (j : ℕ) × IsPair ls row i j) ↔ (InJoin ls row → ⊥)
  -- "the smallest part of it that shows this": no row of J has the two rectangles of such a pair, whatever the others are ...
  pub shows : (i j : ℕ) → IsPair ls row i j → (other : List ℕ) → get_or other i 0 ≡ get_or row i 0 → get_or other j 0 ≡ get_or row j 0
      → InJoin ls other → ⊥
  -- ... and no smaller part shows it: a rectangle alone has a point
  pub alone : (i : ℕ) → i < length ls → HoldsPoint (chosen ls row i)

pub record PairCalls (s : Shape) (cells : List ℤ) (row : List ℕ) : Type 0 where
  -- the causes: a plan's, then 23, "not k places, or a place not in its layer"
  pub causes : PlanChecks s cells (Check 23 (Within (layers s cells) row) Passed) (pair_cause s cells row)
  pub refused : (n : ℕ) → pair_cause s cells row ≡ suc n → pair_call s cells row ≡ Err (suc n)
  pub answer : Sound s cells → Within (layers s cells) row → PairHolds (layers s cells) row (pair_call s cells row)

pub record Pairs : Type 0 where
  -- rectangles that each hold a point have a common one exactly when each two of them meet, however many there are
  pub helly : (rs : List Rect) → All HoldsPoint rs → ((x : ℤ) × (y : ℤ) × All (In x y) rs) ↔ Pairwise Meet rs
  pub calls : (s : Shape) (cells : List ℤ) (row : List ℕ) → PairCalls s cells row
  -- the number and values of each answer; "A refusal returns its number and 0 for all else"
  pub share : pair_values (Ok None) ≡ record { number = 0; lower = 0; higher = 0 }
  pub pair : (lower higher : ℕ)
      → pair_values (Ok (Some (record { lower = lower; higher = higher }))) ≡ record { number = 0; lower = lower; higher = higher }
  pub refused : (cause : ℕ) → pair_values (Err cause) ≡ record { number = cause; lower = 0; higher = 0 }
