-- Parts of texts by their places; no public call's contract cites this.
use Rattle.std.specs.Prelude.{◌≡◌, List, ℕ, ◌+◌, ◌≤◌, length, drop}
use Rattle.outcomes.specs.Texts.{up_to, behind_first, text_part}

-- r is the place of the first byte e from a place on, or the end of the text where there is none
pub record EndsAt (e : ℕ) (text : List ℕ) (from r : ℕ) : Type 0 where
  pub place : r ≡ from + length (up_to e (drop from text))
  pub inside : r ≤ length text

-- r is the place behind the first byte e from a place on, or the end of the text where there is none
pub record GoesOnAt (e : ℕ) (text : List ℕ) (from r : ℕ) : Type 0 where
  pub inside : r ≤ length text
  pub rest : drop r text ≡ behind_first e (drop from text)

-- the part of a number starts at r
pub record StartsAt (e n : ℕ) (text : List ℕ) (r : ℕ) : Type 0 where
  pub inside : r ≤ length text
  pub part : up_to e (drop r text) ≡ text_part e n text
