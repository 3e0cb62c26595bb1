-- Laws of the lines of the counts: what is left to be put, class by class.
use mathlib.Core.Path.{◌≡◌, refl}
use mathlib.Core.List.{List, [], ◌∷◌, ◌++◌}
use Prim.Native.Nat.{ℕ, zero, suc, ◌+◌, ◌≤◌, ◌<◌}
use native.Mathlib.Omega.{arith}
use lib.ListN.{length, get_or, drop, drop_of_length-le}
use Rattle.decimal.specs.Numerals.{decimal}
use Rattle.decimal.proofs.Places.{at_byte}
use Rattle.lists.specs.inner.Stores.{Put}
use Rattle.lists.proofs.Stores.{Left, left-all, left-put, left-none}
use Rattle.printing.specs.Lines.{line_of}
use Rattle.printing.specs.inner.Parts.{FitsAt}
use Rattle.printing.proofs.Puts.{room-left}
use Rattle.listing.specs.Lines.{CLASS, class_line, class_lines}

-- ---- one class
-- nothing is put for a class without rows
pub no-count : (buf : List ℕ) (at class count : ℕ) → count ≡ 0 → Put buf at (class_line class count) buf at
unfolding class_line
no-count buf at class count e = rw e (record { place = omega arith; stored = refl })

pub some-count : (class count : ℕ) → (count ≡ 0 → ⊥) → class_line class count ≡ line_of CLASS (decimal class ∷ decimal count ∷ [])
unfolding class_line
some-count class zero h = absurd (h refl)
some-count class (suc n) h = refl

pub count_room : (buf : List ℕ) (at class count : ℕ) → (count ≡ 0 → ⊥) → FitsAt buf at (class_line class count) → FitsAt buf at (line_of CLASS (decimal class ∷ decimal count ∷ []))
count_room buf at class count h f = rw (some-count class count h) at f

-- ---- all of them
module _ (first : List ℕ) (from : ℕ) (counts : List ℕ) where
  -- the first i are put; those from i on are left to be put at `at`
  pub record Uncounted (buf : List ℕ) (at i : ℕ) : Type 0 where
    pub inside : i ≤ length counts
    pub left : Left first from (class_lines 0 counts) buf at (class_lines i (drop i counts))

  pub none-counted : Uncounted first from 0
  none-counted = record { inside = omega arith; left = left-all _ _ _ }

  module _ (buf : List ℕ) (at i : ℕ) (u : Uncounted buf at i) where
    -- the next one, and those behind it
    split : i < length counts → Left first from (class_lines 0 counts) buf at (class_line i (get_or counts i 0) ++ class_lines (i + 1) (drop (i + 1) counts))
    split h = let e : i + 1 ≡ suc i = omega arith in rw e (rw (at_byte counts i h, e) at u.left)

    pub next-count-room : i < length counts → FitsAt first from (class_lines 0 counts) → FitsAt buf at (class_line i (get_or counts i 0))
    next-count-room h r = room-left _ _ _ _ _ (class_line i (get_or counts i 0)) _ r (split h)

    pub next-counted : i < length counts → (last : List ℕ) (r : ℕ) → Put buf at (class_line i (get_or counts i 0)) last r → Uncounted last r (i + 1)
    next-counted h last r p = record { inside = omega arith; left = left-put _ _ _ _ _ (class_line i (get_or counts i 0)) _ _ _ p (split h) }

    pub all-counted : length counts ≤ i → Put first from (class_lines 0 counts) buf at
    all-counted h = left-none _ _ _ _ _ (rw (drop_of_length-le counts h) at u.left)
