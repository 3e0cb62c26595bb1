-- Laws of texts whose holes are filled: one byte after the other.
use mathlib.Core.Path.{◌≡◌, refl, ap}
use mathlib.Core.List.{List, [], ◌∷◌, ◌++◌}
use mathlib.Core.Bool.{Bool, true, false, cond}
use Prim.Native.Nat.{ℕ, suc, ◌+◌, ◌*◌, ◌≤◌, ◌<◌}
use native.Mathlib.Omega.{arith}
use native.Mathlib.Numerals.{add-one}
use lib.Dec.{eqb}
use lib.IntN.{ℤ, pos, negsuc}
use borrow.Author.Tests.{ne_eqb}
use lib.ListN.{length, get_or, drop, length-append, drop_of_length-le}
use lib.Seq.{drop-cons}
use Rattle.decimal.specs.Numerals.{numeral}
use Rattle.decimal.proofs.Numerals.{length-decimal, size-most}
use Rattle.pens.specs.declared.Pen.{Pen}
use Rattle.pens.specs.Pens.{RoomFor, wrote}
use Rattle.pens.proofs.Pens.{Due, due-all, due-room, due-then, due-none}
use Rattle.picture.specs.Templates.{piece, later, fill}

as-it-is : (b : ℕ) (zs : List ℤ) → (b ≡ 64 → ⊥) → piece b zs ≡ b ∷ []
unfolding piece
as-it-is b [] h = refl
as-it-is b (z ∷ zs) h = rw (ne_eqb b 64 h)

as-they-are : (b : ℕ) (zs : List ℤ) → (b ≡ 64 → ⊥) → zs ≡ later b zs
unfolding later
as-they-are b [] h = refl
as-they-are b (z ∷ zs) h = rw (ne_eqb b 64 h)

module _ (b : ℕ) (zs : List ℤ) (j : ℕ) where
  -- a hole takes the number that is next
  pub hole-piece : b ≡ 64 → j < length zs → (z : ℤ) → z ≡ get_or zs j (pos 0) → piece b (drop j zs) ≡ numeral z
  unfolding piece
  hole-piece e h z f = rw (drop-cons zs j (pos 0) h, e, f)

  pub hole-later : b ≡ 64 → j < length zs → drop (j + 1) zs ≡ later b (drop j zs)
  unfolding later
  hole-later e h = rw (drop-cons zs j (pos 0) h, e, add-one)

  -- where there is none, it stays
  pub none-piece : length zs ≤ j → piece b (drop j zs) ≡ b ∷ []
  unfolding piece
  none-piece h = rw (drop_of_length-le zs {i = j} h)

  pub none-later : length zs ≤ j → drop j zs ≡ later b (drop j zs)
  unfolding later
  none-later h = rw (drop_of_length-le zs {i = j} h)

  -- any other byte is itself
  pub other-piece : (b ≡ 64 → ⊥) → piece b (drop j zs) ≡ b ∷ []
  other-piece h = as-it-is b (drop j zs) h

  pub other-later : (b ≡ 64 → ⊥) → drop j zs ≡ later b (drop j zs)
  other-later h = as-they-are b (drop j zs) h

-- ---- the loop: what is written, and the bytes from i on with the numbers from j on, give the whole text
module _ (text : List ℕ) (zs : List ℤ) (first : Pen) where
  pub record Filling (pen : Pen) (i j : ℕ) : Type 0 where
    pub inside : j ≤ length zs
    pub left : Due first (fill text zs) pen (fill (drop i text) (drop j zs))

  pub none_filled : RoomFor first (fill text zs) → Filling first 0 0
  none_filled h = record { inside = omega arith; left = due-all first (fill text zs) h }

  module _ (pen : Pen) (i j : ℕ) (g : Filling pen i j) where
    pub all-filled : length text ≤ i → pen ≡ wrote first (fill text zs)
    all-filled h = due-none _ _ _ (rw (drop_of_length-le text {i = i} h) at g.left)

    module _ (h : i < length text) (b : ℕ) (e : b ≡ get_or text i 0) where
      split : Due first (fill text zs) pen (piece b (drop j zs) ++ fill (drop (suc i) text) (later b (drop j zs)))
      split = rw (drop-cons text i 0 h, ← e) at g.left

      pub next-piece-room : RoomFor pen (piece b (drop j zs))
      next-piece-room = due-room _ _ _ (piece b (drop j zs)) _ split

      pub next-filled : (q : Pen) (n : ℕ) → q ≡ wrote pen (piece b (drop j zs)) → n ≤ length zs → drop n zs ≡ later b (drop j zs) → Filling q (i + 1) n
      next-filled q n w m d =
          rw add-one (record { inside = m; left = rw d (due-then _ _ _ (piece b (drop j zs)) _ q split w) })

-- ---- how long it may be: no number has more than 21 bytes
numeral-few : (z : ℤ) → length (numeral z) ≤ 21
unfolding numeral
numeral-few (pos n) = omega (arith, length-decimal n, size-most 19 n)
numeral-few (negsuc n) = omega (arith, length-decimal (suc n), size-most 19 (suc n))

piece-few : (b : ℕ) (zs : List ℤ) → length (piece b zs) + 21 * length (later b zs) ≤ 1 + 21 * length zs
unfolding piece later
piece-few b [] = omega arith
piece-few b (z ∷ zs) = go (eqb b 64)
  where
    go : (t : Bool) → length (cond t (numeral z) (b ∷ [])) + 21 * length (cond t zs (z ∷ zs)) ≤ 1 + 21 * suc (length zs)
    go true = omega (arith, numeral-few z)
    go false = omega arith

pub fill-few : (t : List ℕ) (zs : List ℤ) → length (fill t zs) ≤ length t + 21 * length zs
fill-few [] zs = omega arith
fill-few (b ∷ t) zs = omega (arith, length-append (piece b zs) (fill t (later b zs)), piece-few b zs, fill-few t (later b zs))
