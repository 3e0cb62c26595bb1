-- `c_codec::cursor_in`: by its first cell.
use mathlib.Core.Path.{◌≡◌, ap}
use mathlib.Core.List.{List, [], ◌∷◌}
use Prim.Native.Nat.{ℕ, ◌≤◌}
use lib.Dec.{eqb}
use lib.ListN.{get_or, drop}
use lib.Seq.{get_or-drop}
use borrow.Author.Tests.{le-leb}
use borrow.Author.Rules.{rules}
use Rattle.lists.specs.Lists.{padded}
use Rattle.paging.specs.declared.Cursor.{Cursor}
use Rattle.c_cells.specs.Cells.{cursor_in}
use Rattle.c_cells.proofs.Cells.{five-cells, in-none}
use Rattle.c_codec.proofs.cursor_in.Goals as goal

-- the chosen places, read one by one
places : (l : List ℕ) → get_or l 4 0 ∷ get_or l 5 0 ∷ get_or l 6 0 ∷ get_or l 7 0 ∷ get_or l 8 0 ∷ [] ≡ padded 5 (drop 4 l)
places l = rw (← get_or-drop 4 l 0 0, ← get_or-drop 4 l 1 0, ← get_or-drop 4 l 2 0, ← get_or-drop 4 l 3 0, ← get_or-drop 4 l 4 0) (five-cells (drop 4 l))

-- cells whose first is 0 or 1 are a cursor
in_some : (l : List ℕ) → get_or l 0 0 ≤ 1
    → record { ended = eqb (get_or l 0 0) 1; layer = get_or l 1 0; place = get_or l 2 0; filled = get_or l 3 0; chosen = get_or l 4 0 ∷ get_or l 5 0 ∷ get_or l 6 0 ∷ get_or l 7 0 ∷ get_or l 8 0 ∷ []; next = get_or l 9 0 }
    ≡ cursor_in l
in_some l low =
    rw (le-leb (get_or l 0 0) 1 low)
    (ap {B = Cursor} (λ chosen. record { ended = eqb (get_or l 0 0) 1; layer = get_or l 1 0; place = get_or l 2 0; filled = get_or l 3 0; chosen = chosen; next = get_or l 9 0 }) (places l))

pub returns-then-ten-gt1 : goal.returns-then-ten-gt1
returns-then-ten-gt1 c = in-none c.args.cells.now c.if-ten-gt1.true

pub returns : goal.returns
returns c = in_some c.args.cells.now c.if-ten-gt1.false
