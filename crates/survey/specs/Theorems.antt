-- Theorem: what is promised of covers, of strips and of the call, for all strips and corners. Proved in proofs/Theorems.antt.
use Rattle.std.specs.Prelude.{◌≡◌, true, ◌↔◌, ℕ, suc, ◌+◌, ◌*◌, ◌/◌, ◌≤◌, ◌<◌, ℤ, pos, neg_ℤ, ◌≤ℤ◌, T, length, get_or, drop, Float, Result, Ok, Err}
use mathlib.Core.List.{List, [], ◌∷◌, ◌++◌, map, flat_map, Memᴰ}
use Rattle.std.specs.Float.{nan, binary64}
use Rattle.std.specs.Float.Ieee.{of_bits}
use Rattle.lists.specs.Lists.{All, Pairwise, padded, upto}
use Rattle.geometry.specs.declared.Rect.{Rect}
use Rattle.geometry.specs.Theorems.{Ranged}
use Rattle.plan.specs.declared.Shape.{Shape}
use Rattle.plan.specs.Causes.{Check, Passed}
use Rattle.plan.specs.Plan.{rect_at, plan_cause}
use Rattle.plan.specs.Theorems.{Bounded, AllIn}
use Rattle.floats.specs.Values.{exact}
use Rattle.floats.specs.Theorems.{Finite, AtMost}
use Rattle.survey.specs.declared.Corners.{Corners}
use Rattle.survey.specs.declared.Strip.{Strip}
use Rattle.survey.specs.declared.Strip.TheVariants.{Free, From, To, Between}
use Rattle.survey.specs.Records.{corners_at, cover_of, cover_cells}
use Rattle.survey.specs.CoverCall.{kept, cover_cause, cover_answer, cover_values, cover_after}

-- ---- covers
-- left and bottom are not below those of the rectangle, right and top not above, as exact values: a record in order then lies in it
pub record Contains (r : Rect) (c : Corners) : Type 0 where
  pub left : AtMost (exact r.left) c.left
  pub bottom : AtMost (exact r.bottom) c.bottom
  pub right : AtMost c.right (exact r.right)
  pub top : AtMost c.top (exact r.top)

-- the first rectangle lies in the second
pub record Inside (a b : Rect) : Type 0 where
  pub left : b.left ≤ℤ a.left
  pub bottom : b.bottom ≤ℤ a.bottom
  pub right : a.right ≤ℤ b.right
  pub top : a.top ≤ℤ b.top

-- 02: "the smallest whole-millimetre rectangle that contains it"
pub record IsCover (c : Corners) (r : Rect) : Type 0 where
  pub contains : Contains r c
  pub smallest : (s : Rect) → Contains s c → Inside r s

-- ---- strips
-- 02: "free, has a lower stop, an upper stop, or both", "its stops belonging to it": the value x lies in the strip
abbrev pub InStrip : Strip → Float → Type 0
InStrip Free x = T true
InStrip (From a) x = AtMost a x
InStrip (To b) x = AtMost x b
InStrip (Between a b) x = AtMost a x × AtMost x b

-- some value lies both in the closed extent from low to high and in the strip
pub record Meets (s : Strip) (low high : Float) : Type 0 where
  pub value : Float
  pub is_finite : Finite value
  pub from_low : AtMost low value
  pub to_high : AtMost value high
  pub in_strip : InStrip s value

-- ---- what each of the causes denies
-- two finite floats, the first not above the second
pub record Ordered (low high : Float) : Type 0 where
  pub low_finite : Finite low
  pub high_finite : Finite high
  pub order : AtMost low high

-- 21: "a stop not finite or the lower above the upper"
abbrev pub SoundStops : Strip → Type 0
SoundStops Free = T true
SoundStops (From a) = Finite a
SoundStops (To b) = Finite b
SoundStops (Between a b) = Ordered a b

-- 20: "any record's corner not finite, out of order, or covered beyond a million millimetres", ten million since Q-13 (`Ranged`)
abbrev pub Surveyed : Corners → Type 0
Surveyed c = Ordered c.left c.right × Ordered c.bottom c.top × Ranged (cover_of c)

-- 20: "corners not four a record, or any record's .."
abbrev pub Recorded : List Float → Type 0
Recorded corners = ((n : ℕ) × (length corners ≡ 4 * n)) × ((i : ℕ) → i < length corners / 4 → Surveyed (corners_at corners i))

-- ---- the call
-- a plan's checks accept the layer of the covers of these records: 2 by its size, 3 by its cells, 4 by its rectangles
abbrev pub GoodLayer : List Corners → Type 0
GoodLayer cs = (length cs ≤ 512) × (length (cover_cells cs) ≡ 4 * length cs) × AllIn (cover_cells cs)

-- what an accepted call that keeps these records answers, and leaves in these cells
pub record CoverAccepted (cs : List Corners) (cells : List ℤ) (answer : Result ℕ ℕ) (after : List ℤ) : Type 0 where
  -- "the number kept is returned"
  pub returned : answer ≡ Ok (length cs)
  -- "The kept records' covers form a layer, in their order, in the first cells of a lent buffer; the other cells keep their contents"
  pub layer : upto (rect_at after) 0 (length cs) ≡ map cover_of cs
  pub good : GoodLayer cs
  pub left : after ≡ cover_cells cs ++ drop (4 * length cs) cells
  pub long : length after ≡ length cells

module _ (across upward : Strip) (corners : List Float) (cs : List Corners) where
  -- these are the records at these places
  pub record KeptAt (places : List ℕ) : Type 0 where
    pub are : cs ≡ map (corners_at corners) places
    -- "in their order"
    pub order : Pairwise (λ i j. i < j) places
    -- "A record is kept exactly when its closed extent, before covering, meets the strip on both axes."
    pub which : (i : ℕ) → let c = corners_at corners i in
        Memᴰ i places ↔ ((i < length corners / 4) × Meets across c.left c.right × Meets upward c.bottom c.top)

  -- a call with these strips and corners that keeps these records: its lent cells, its cause, its answer, and the cells afterwards
  pub record CoverHolds (cells : List ℤ) (cause : ℕ) (answer : Result ℕ ℕ) (after : List ℤ) : Type 0 where
    -- "Checks, 21 first", then 20, "then more than 512 kept, 2, and too few cells, 11"
    pub causes : Check 21 (SoundStops across × SoundStops upward) (Check 20 (Recorded corners)
        (Check 2 (length cs ≤ 512) (Check 11 (4 * length cs ≤ length cells) Passed))) cause
    pub kept : SoundStops across → SoundStops upward → Recorded corners → (places : List ℕ) × KeptAt places
    pub accepted : cause ≡ 0 → CoverAccepted cs cells answer after
    -- 01: "A refusal returns its number and 0 for all else", and the cells are as they were
    pub refused : (n : ℕ) → cause ≡ suc n → (answer ≡ Err (suc n)) × (after ≡ cells)

pub record Surveys : Type 0 where
  -- the cover contains its record, no smaller one does, and no other rectangle is so
  pub cover : (c : Corners) (r : Rect) → Finite c.left → Finite c.bottom → Finite c.right → Finite c.top
      → IsCover c r ↔ (r ≡ cover_of c)
  -- 02, Q-13: "Coordinates widen to 10,000,000 either way of 0, in 4, 10, 14 and 20 alike": the cover is in range exactly when the record is, as exact
  -- values; a corner at the ten million itself is
  pub reach : (c : Corners) → Ordered c.left c.right → Ordered c.bottom c.top → let m = pos 10000000 in
      Ranged (cover_of c) ↔ Contains (record { left = neg_ℤ m; bottom = neg_ℤ m; right = m; top = m }) c
  pub calls : (across upward : Strip) (corners : List Float) (cells : List ℤ)
      → CoverHolds across upward corners (kept across upward corners) cells (cover_cause across upward corners (length cells))
      (cover_answer across upward corners (length cells)) (cover_after across upward corners cells)
  -- two to six layers such as accepted calls leave (`good`) are, with any margins in range, a plan that no check refuses
  pub plan : (layers : List (List Corners)) (margins : List ℕ)
      → let s : Shape = record { k = length layers; sizes = padded 6 (map length layers); margins = margins } in
      (2 ≤ s.k) × (s.k ≤ 6) → Bounded 50000 s.k s.margins → All GoodLayer layers → plan_cause s (flat_map cover_cells layers) ≡ 0
  -- the number and value of each answer
  pub told : (n : ℕ) → (cover_values (Ok n) ≡ record { number = 0; kept = n }) × (cover_values (Err n) ≡ record { number = n; kept = 0 })
  -- 02: "left, bottom, right, top", four a record
  pub corners : (s : List Float) (i : ℕ) → let at : ℕ → Float = λ j. get_or s (4 * i + j) nan in
      corners_at s i ≡ record { left = at 0; bottom = at 1; right = at 2; top = at 3 }
  -- the corners −0.5, −0.0, 0.5 and 1.5, by their bits: left, bottom, right and top stand in this order in the cells
  pub example : let s = map (of_bits binary64) (0xbfe0_0000_0000_0000 ∷ 0x8000_0000_0000_0000 ∷ 0x3fe0_0000_0000_0000 ∷ 0x3ff8_0000_0000_0000 ∷ []) in
      cover_after Free Free s (pos 7 ∷ pos 7 ∷ pos 7 ∷ pos 7 ∷ pos 7 ∷ []) ≡ neg_ℤ (pos 1) ∷ pos 0 ∷ pos 1 ∷ pos 2 ∷ pos 7 ∷ []
