-- Laws of numbers that are written one behind the other, each behind its tab.
use mathlib.Core.Path.{◌≡◌}
use mathlib.Core.List.{List, ◌∷◌}
use Prim.Native.Nat.{ℕ, ◌+◌, ◌≤◌, ◌<◌}
use native.Mathlib.Omega.{arith}
use lib.ListN.{length, get_or, drop, drop_of_length-le}
use Rattle.decimal.specs.Numerals.{decimal}
use Rattle.decimal.proofs.Places.{at_byte}
use Rattle.pens.specs.declared.Pen.{Pen}
use Rattle.pens.specs.Pens.{RoomFor, wrote}
use Rattle.pens.proofs.Pens.{Due, due-room, due-then, due-none}
use Rattle.printing.specs.inner.Parts.{tabbed}

module _ (first : Pen) (ns : List ℕ) where
  -- the first i are written; those from i on are left
  pub record Fields (pen : Pen) (i : ℕ) : Type 0 where
    pub inside : i ≤ length ns
    pub left : Due first (tabbed ns) pen (tabbed (drop i ns))

  module _ (pen : Pen) (i : ℕ) (f : Fields pen i) where
    -- the next one, and those behind it
    split : i < length ns → Due first (tabbed ns) pen (tabbed (get_or ns i 0 ∷ drop (i + 1) ns))
    split h = rw (at_byte ns i h) at f.left

    pub next-field-room : i < length ns → RoomFor pen (9 ∷ decimal (get_or ns i 0))
    next-field-room h = due-room _ _ _ (9 ∷ decimal (get_or ns i 0)) _ (split h)

    pub next_field : i < length ns → (q : Pen) → q ≡ wrote pen (9 ∷ decimal (get_or ns i 0)) → Fields q (i + 1)
    next_field h q e = record { inside = omega arith; left = due-then _ _ _ (9 ∷ decimal (get_or ns i 0)) _ q (split h) e }

    pub all-fields : length ns ≤ i → pen ≡ wrote first (tabbed ns)
    all-fields h = due-none _ _ _ (rw (drop_of_length-le ns h) at f.left)
