-- Theorem: a windows text has no fault exactly where it is the spelling of as many windows as there are rectangles, and these are then the windows that it
-- tells. Proved in proofs/Spelled.antt.
use Rattle.std.specs.Prelude.{◌≡◌, List, [], ◌∷◌, ◌++◌, true, ◌⊎◌, ℕ, suc, ◌+◌, ◌<◌, pos, length}
use Rattle.lists.specs.Lists.{All}
use Rattle.line.specs.Lines.{put_field}
use Rattle.windows.specs.declared.Window.{Window}
use Rattle.windows.specs.Windows.{is_window}
use Rattle.listing.specs.Reasons.{WINDOW}
use Rattle.listing.specs.Windows.{FaultValues, wrong, window_due, beyond, fault_from, hours_from}

-- the line of a window, and the bytes behind it
abbrev pub window_line : (from to : ℕ) → List ℕ → List ℕ
window_line from to rest = WINDOW ++ put_field (pos from) 9 (put_field (pos to) 10 rest)

-- a line for each window, and the bytes behind them
abbrev pub windows_then : List Window → List ℕ → List ℕ
windows_then [] rest = rest
windows_then (w ∷ ws) rest = window_line w.from w.to (windows_then ws rest)

abbrev pub windows_text : List Window → List ℕ
windows_text ws = windows_then ws []

-- their cells, from and then to
abbrev pub window_cells : List Window → List ℕ
window_cells [] = []
window_cells (w ∷ ws) = w.from ∷ w.to ∷ window_cells ws

-- a text is the spelling of these n windows, each as stated
pub record Spells (n : ℕ) (t : List ℕ) (ws : List Window) : Type 0 where
  pub many : length ws ≡ n
  pub stated : All (λ w. is_window w ≡ true) ws
  pub text : t ≡ windows_text ws

-- a text of n windows, read from a line on, is wrong first in the line behind these: there a window is due and none stands, or none is due and bytes are left
pub record FirstWrong (n line : ℕ) (t : List ℕ) (f : FaultValues) (ws : List Window) (rest : List ℕ) : Type 0 where
  pub stated : All (λ w. is_window w ≡ true) ws
  pub text : t ≡ windows_then ws rest
  pub named : f.line ≡ line + length ws
  pub here : ((length ws < n) × (r : ℕ) × (window_due rest ≡ wrong r) × (f.reason ≡ suc r))
      ⊎ ((length ws ≡ n) × (0 < length rest) × (f.reason ≡ beyond (window_due rest)))

pub record WindowsTexts : Type 0 where
  -- the spelling of n windows has no fault, and its cells are theirs
  pub read : (n : ℕ) (t : List ℕ) (ws : List Window) → Spells n t ws → ((fault_from n 1 t).reason ≡ 0) × (hours_from n t ≡ window_cells ws)
  -- a text without a fault is the spelling of n windows
  pub spelled : (n : ℕ) (t : List ℕ) → (fault_from n 1 t).reason ≡ 0 → (ws : List Window) × Spells n t ws
  -- of one with a fault, the line named is the first wrong one: all before it are windows
  pub first : (n : ℕ) (t : List ℕ) (r : ℕ) → (fault_from n 1 t).reason ≡ suc r
      → (ws : List Window) × (rest : List ℕ) × FirstWrong n 1 t (fault_from n 1 t) ws rest
