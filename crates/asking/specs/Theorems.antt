-- Theorem: what a whole square root is, which rows `pairs` tells of every accepted plan, the lines byte by byte, and what is said of every text. Proved in
-- proofs/Theorems.antt.
use Rattle.std.specs.Prelude.{◌≡◌, ◌↔◌, ◌⊎◌, ℕ, suc, ◌+◌, ◌*◌, ◌/◌, ◌%◌, ◌≤◌, ◌<◌, ℤ, length, Some, None}
use mathlib.Core.List.{List, [], ◌∷◌, ◌++◌, Memᴰ}
use Rattle.lists.specs.Lists.{Distinct}
use Rattle.geometry.specs.Rectangles.{letter_of}
use Rattle.decimal.specs.Numerals.{decimal}
use Rattle.plan.specs.declared.Shape.{Shape}
use Rattle.plan.specs.Plan.{Layer, layers, Sound}
use Rattle.plan.specs.Spots.{layer_at}
use Rattle.plan.specs.Causes.{Check, Passed}
use Rattle.join.specs.Join.{InJoin, area_in, kind_in}
use Rattle.join.specs.Table.{plan_table}
use Rattle.join.specs.Theorems.{IsTable}
use Rattle.text.specs.Plans.{text_of}
use Rattle.text.specs.Theorems.{Formed, PlanText}
use Rattle.outcomes.specs.Outcomes.{Outcome, refused}
use Rattle.asking.specs.Roots.{root}
use Rattle.asking.specs.Pairs.{two_shape, two_cells, PairRow, pair_rows}
use Rattle.asking.specs.Lines.{share_line, apart_line, near_line, pair_line, count_line}
use Rattle.asking.specs.Answers.{text_cause, on_plan}

-- the square of the root is not above n, and that of the next number is
pub record Rooted (n : ℕ) : Type 0 where
  pub most : root n * root n ≤ n
  pub least : n < suc (root n) * suc (root n)

-- the layers of a plan at i and j, grown, from 0
abbrev pub two_layers : Shape → List ℤ → (i j : ℕ) → List Layer
two_layers s cells i j = layer_at (layers s cells) i ∷ layer_at (layers s cells) j ∷ []

-- of the plan of the layers at i and j
pub record TwoHold (s : Shape) (cells : List ℤ) (i j : ℕ) : Type 0 where
  -- it is accepted, and its layers are the two of the plan
  pub sound : Sound (two_shape s i j) (two_cells s cells i j)
  pub same : layers (two_shape s i j) (two_cells s cells i j) ≡ two_layers s cells i j
  -- its table has every pair of places of the two layers whose rectangles have a common point, each once, none else, in 01's order
  pub table : IsTable (two_layers s cells i j) (plan_table (two_shape s i j) (two_cells s cells i j))

-- a row of two layers that are asked for: 0 asks for all, else one of the two has the number, from 1
pub record ToldRow (s : Shape) (cells : List ℤ) (layer : ℕ) (p : PairRow) : Type 0 where
  pub order : p.lower < p.higher
  pub there : p.higher < s.k
  pub asked : (layer ≡ 0) ⊎ ((layer ≡ suc p.lower) ⊎ (layer ≡ suc p.higher))
  pub met : InJoin (two_layers s cells p.lower p.higher) p.row

pub record PairsHold (s : Shape) (cells : List ℤ) (layer : ℕ) : Type 0 where
  -- the rows that `pairs` tells are exactly these, each once
  pub exactly : (p : PairRow) → Memᴰ p (pair_rows s cells layer) ↔ ToldRow s cells layer p
  pub once : Distinct (pair_rows s cells layer)

-- ---- the lines, byte by byte
pub record AnswerLinesHold : Type 0 where
  -- S H A R E; A P A R T and both layers
  pub share : share_line ≡ 83 ∷ 72 ∷ 65 ∷ 82 ∷ 69 ∷ 10 ∷ []
  pub apart : (lower higher : ℕ) → apart_line lower higher
      ≡ 65 ∷ 80 ∷ 65 ∷ 82 ∷ 84 ∷ 9 ∷ (decimal lower ++ 9 ∷ (decimal higher ++ 10 ∷ []))
  -- N E A R, layer, place, squared gap, and the root of 10,000 times it with two decimals; N O N E and the layer
  pub near : (layer place gap : ℕ) → let h = root (10000 * gap) in
      near_line layer (Some (record { place = place; gap = gap }))
      ≡ 78 ∷ 69 ∷ 65 ∷ 82 ∷ 9 ∷ (decimal layer ++ 9 ∷ (decimal place ++ 9 ∷ (decimal gap
      ++ 9 ∷ ((decimal (h / 100) ++ 46 ∷ (48 + h / 10 % 10) ∷ (48 + h % 10) ∷ []) ++ 10 ∷ []))))
  pub none : (layer : ℕ) → near_line layer None
      ≡ 78 ∷ 79 ∷ 78 ∷ 69 ∷ 9 ∷ (decimal layer ++ 10 ∷ [])
  -- P A I R, both layers from 1, both places, area, kind; T O T A L and the number
  pub pair : (ls : List Layer) (i j p q : ℕ) → let row = p ∷ q ∷ [] in pair_line ls (record { lower = i; higher = j; row = row })
      ≡ 80 ∷ 65 ∷ 73 ∷ 82 ∷ 9 ∷ (decimal (suc i) ++ 9 ∷ (decimal (suc j) ++ 9 ∷ (decimal p ++ 9 ∷ (decimal q
      ++ 9 ∷ (decimal (area_in ls row) ++ 9 ∷ letter_of (kind_in ls row) ∷ 10 ∷ [])))))
  pub count : (n : ℕ) → count_line n ≡ 84 ∷ 79 ∷ 84 ∷ 65 ∷ 76 ∷ 9 ∷ (decimal n ++ 10 ∷ [])

-- ---- what is said of a text
pub record TextsHold : Type 0 where
  -- 13, "input above 65,536 bytes", whatever they are; 9; 10
  pub causes : (t : List ℕ) → Check 13 (length t ≤ 65536) (Check 9 (Formed t) (Check 10 (PlanText t) Passed)) (text_cause t)
  -- one of these is told as a refusal; else what is said is said of the text's plan
  pub refusal : (t : List ℕ) (told : Shape → List ℤ → Outcome) (n : ℕ) → text_cause t ≡ suc n → on_plan t told ≡ refused (suc n)
  pub planned : (s : Shape) (cells : List ℤ) (told : Shape → List ℤ → Outcome) → Sound s cells → length (text_of s cells) ≤ 65536
      → on_plan (text_of s cells) told ≡ told s cells

pub record Asking : Type 0 where
  pub roots : (n : ℕ) → Rooted n
  pub two : (s : Shape) (cells : List ℤ) → Sound s cells → (i j : ℕ) → i < s.k → j < s.k → TwoHold s cells i j
  pub pairs : (s : Shape) (cells : List ℤ) → Sound s cells → (layer : ℕ) → PairsHold s cells layer
  pub lines : AnswerLinesHold
  pub texts : TextsHold
