-- Laws of RECT lines that are written one behind the other.
use mathlib.Core.Path.{◌≡◌, subst}
use mathlib.Core.List.{List, [], ◌∷◌}
use Prim.Native.Nat.{ℕ, ◌+◌, ◌*◌, ◌≤◌, ◌<◌}
use native.Mathlib.Omega.{arith}
use native.Mathlib.Numerals.{add-one}
use lib.IntN.{ℤ}
use lib.ListN.{length, drop}
use Rattle.pens.specs.declared.Pen.{Pen}
use Rattle.pens.specs.Pens.{RoomFor, wrote}
use Rattle.pens.proofs.Pens.{Due, due-none}
use Rattle.plan.specs.Plan.{rect_at}
use Rattle.line.specs.declared.Line.{Line}
use Rattle.line.specs.declared.Line.TheVariants.{Rectangle}
use Rattle.line.specs.Lines.{spell_to}
use Rattle.text.specs.Spelling.{spell}
use Rattle.text.specs.Plans.{rect_lines}
use Rattle.text.proofs.Spelling.{lines-room, lines-then}
use Rattle.text.proofs.Lengths.{rects-next, rects-none}

-- the RECT lines from the rectangle p on are left to be written
abbrev pub Rects : (first : Pen) (cells : List ℤ) (pen : Pen) (p : ℕ) → Type 0
Rects first cells pen p = Due first (spell (rect_lines cells)) pen (spell (rect_lines (drop (4 * p) cells)))

module _ (first : Pen) (cells : List ℤ) (pen : Pen) (p n : ℕ) (whole : length cells ≡ 4 * n) (h : p < n) (r : Rects first cells pen p) where
  next : rect_lines (drop (4 * p) cells) ≡ Rectangle (rect_at cells p) ∷ rect_lines (drop (4 * (p + 1)) cells)
  next = rw add-one (rects-next p cells (omega (arith, whole)))

  left : Due first (spell (rect_lines cells)) pen (spell (Rectangle (rect_at cells p) ∷ rect_lines (drop (4 * (p + 1)) cells)))
  left = subst (λ (ls : List Line). Due first (spell (rect_lines cells)) pen (spell ls)) next r

  pub rects-room : RoomFor pen (spell_to (Rectangle (rect_at cells p)) [])
  rects-room = lines-room first (spell (rect_lines cells)) pen (Rectangle (rect_at cells p) ∷ []) (rect_lines (drop (4 * (p + 1)) cells)) left

  pub rects-more : (q : Pen) → q ≡ wrote pen (spell_to (Rectangle (rect_at cells p)) []) → Rects first cells q (p + 1)
  rects-more q e = lines-then first (spell (rect_lines cells)) pen (Rectangle (rect_at cells p) ∷ []) (rect_lines (drop (4 * (p + 1)) cells)) left q e

pub rects-end : (first : Pen) (cells : List ℤ) (pen : Pen) (p : ℕ) → length cells ≤ 4 * p → Rects first cells pen p → pen ≡ wrote first (spell (rect_lines cells))
rects-end first cells pen p h r =
    due-none first (spell (rect_lines cells)) pen
    (subst (λ (ls : List Line). Due first (spell (rect_lines cells)) pen (spell ls)) (rects-none p cells h) r)
