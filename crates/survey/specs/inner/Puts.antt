-- What the functions below the call ask and give; no public call's contract cites this.
use Rattle.std.specs.Prelude.{◌≡◌, List, [], ◌∷◌, Bool, true, cond, ◌&&◌, ℕ, ◌+◌, ◌≤◌, T, ℤ, length, Float}
use Rattle.std.specs.Float.Ieee.{le}
use Rattle.floats.specs.Parts.{near}
use Rattle.survey.specs.declared.Corners.{Corners}
use Rattle.survey.specs.declared.Strip.{Strip}
use Rattle.survey.specs.Records.{records, all_sound, sound_record, kept_by, cover_cells}
use Rattle.survey.specs.CoverCall.{layer_of}

-- two floats in order that can be taken to 32 bits
abbrev pub spanned : Float → Float → Bool
spanned low high = near low && near high && le low high

-- all four corners can be
pub record Near (c : Corners) : Type 0 where
  pub left : T (near c.left)
  pub bottom : T (near c.bottom)
  pub right : T (near c.right)
  pub top : T (near c.top)

-- the cells that one record gives
abbrev pub cells_of : Strip → Strip → Corners → List ℤ
cells_of across upward c = cond (kept_by across upward c) (cover_cells (c ∷ [])) []

-- a sound record, and room for its cells
pub record RecordFits (across upward : Strip) (c : Corners) (cells : List ℤ) (at : ℕ) : Type 0 where
  pub sound : sound_record c ≡ true
  pub room : at + length (cells_of across upward c) ≤ length cells

-- sound records, and room for the layer
pub record LayerFits (across upward : Strip) (corners : List Float) (cells : List ℤ) : Type 0 where
  pub sound : all_sound (records corners) ≡ true
  pub room : length (layer_of across upward corners) ≤ length cells
