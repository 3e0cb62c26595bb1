-- How many digits and bytes the lines of a sound plan have.
use mathlib.Core.Path.{◌≡◌, refl}
use mathlib.Core.List.{List, [], ◌∷◌}
use mathlib.Core.Bool.{true}
use Prim.Native.Nat.{ℕ, zero, suc, ◌+◌, ◌*◌, ◌^◌, ◌≤◌}
use native.Mathlib.Omega.{arith}
use lib.Dec.{eqb, lit≤}
use lib.IntN.{ℤ, pos, negsuc, nat_abs}
use lib.ListN.{length}
use borrow.Author.Tests.{lt-ltb}
use Rattle.lists.proofs.Tests.{clash, both}
use Rattle.geometry.specs.declared.Rect.{Rect}
use Rattle.geometry.specs.Rectangles.{in_range}
use Rattle.geometry.proofs.Integers.{zarith, size-law, one_side}
use Rattle.geometry.specs.Theorems.{Coordinate}
use Rattle.geometry.proofs.Rectangles as geometry
use Rattle.lists.specs.Lists.{sum}
use Rattle.decimal.specs.Numerals.{most_digits, short, numeral}
use Rattle.decimal.proofs.Numerals.{size_below, numeral-below}
use Rattle.line.specs.declared.Line.{Line}
use Rattle.line.specs.declared.Line.TheVariants.{Plan, Layer, Rectangle}
use Rattle.line.specs.Lines.{spell_to, short_rect}
use Rattle.line.proofs.Lengths.{rect-length, layer-length, spell-length}
use Rattle.text.specs.Spelling.{spell, all_short}
use Rattle.text.specs.Plans.{layer_sizes, rects_agree}
use Rattle.text.proofs.Sound.{Inside, inside-layer, inside-rect}

-- ---- digits
coordinate-short : (z : ℤ) → Coordinate z → short z ≡ true
coordinate-short z c = lt-ltb (nat_abs z) (10 ^ most_digits) (omega (zarith, c.0, c.1, size-law z, one_side z))

pub rect-short : (r : Rect) → in_range r ≡ true → short_rect r ≡ true
rect-short r h =
    let g = geometry.ranged r h in
    rw (
      coordinate-short r.left g.left,
      coordinate-short r.bottom g.bottom,
      coordinate-short r.right g.right,
      coordinate-short r.top g.top,
    )

pub lines-short : (due : ℕ) (ls : List Line) → rects_agree due ls ≡ true → Inside ls → all_short ls ≡ true
lines-short due [] e i = refl
lines-short due (Plan k ∷ ls) e i = clash e refl
lines-short due (Layer (negsuc n) m ∷ ls) e i = clash e refl
lines-short due (Layer (pos n) (negsuc m) ∷ ls) e i = clash e refl
lines-short due (Layer (pos n) (pos m) ∷ ls) e i =
    let b = inside-layer i in
    rw (lt-ltb n (10 ^ most_digits) (omega (arith, b.0)), lt-ltb m (10 ^ most_digits) (omega (arith, b.1))) (lines-short n ls (both (eqb due 0) (rects_agree n ls) e).1 b.2)
lines-short zero (Rectangle q ∷ ls) e i = clash e refl
lines-short (suc due) (Rectangle q ∷ ls) e i = let b = inside-rect i in rw (rect-short q b.0) (lines-short due ls e b.1)

-- ---- bytes: a LAYER line has at most 16, a RECT line at most 45
coordinate-long : (z : ℤ) → Coordinate z → length (numeral z) ≤ 9
coordinate-long z c = numeral-below 7 z (lit≤ tt) (omega (zarith, c.0, c.1, size-law z, one_side z))

rect-long : (r : Rect) → in_range r ≡ true → length (spell_to (Rectangle r) []) ≤ 45
rect-long r h =
    let g = geometry.ranged r h in
    omega (arith, rect-length r, coordinate-long r.left g.left, coordinate-long r.bottom g.bottom, coordinate-long r.right g.right, coordinate-long r.top g.top)

pub lines_long : (due : ℕ) (ls : List Line) → rects_agree due ls ≡ true → Inside ls → length (spell ls) ≤ 16 * length (layer_sizes ls) + 45 * (due + sum (layer_sizes ls))
lines_long due [] e i = omega arith
lines_long due (Plan k ∷ ls) e i = clash e refl
lines_long due (Layer (negsuc n) m ∷ ls) e i = clash e refl
lines_long due (Layer (pos n) (negsuc m) ∷ ls) e i = clash e refl
lines_long due (Layer (pos n) (pos m) ∷ ls) e i =
    let b = inside-layer i in
    let r = lines_long n ls (both (eqb due 0) (rects_agree n ls) e).1 b.2 in
    omega (arith, spell-length (Layer (pos n) (pos m)) (spell ls), layer-length n m, size_below 2 n (lit≤ tt) (omega (arith, b.0)), size_below 4 m (lit≤ tt) (omega (arith, b.1)))
lines_long zero (Rectangle q ∷ ls) e i = clash e refl
lines_long (suc due) (Rectangle q ∷ ls) e i =
    let b = inside-rect i in
    let r = lines_long due ls e b.1 in
    omega (arith, spell-length (Rectangle q) (spell ls), rect-long q b.0)
