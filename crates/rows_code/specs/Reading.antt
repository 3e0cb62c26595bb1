-- Cells whose rectangles are grown as they are read, so that no copy is made; no contract of an exported call cites it.
use Rattle.std.specs.Prelude.{◌≡◌, List, true, ℕ, ◌*◌, ◌≤◌, ◌<◌, ℤ, length, get_or}
use Rattle.std.specs.Coded.{le_prop}
use denote.Struct.Props.{props}
use Rattle.lists.specs.Lists.{All, sum}
use Rattle.lists.specs.inner.Props.{All-prop}
use Rattle.geometry.specs.declared.Rect.{Rect}
use Rattle.geometry.specs.Rectangles.{in_range, most_margin}
use Rattle.plan.specs.Plan.{rect_at, layers_of, grown_layers}
use Rattle.plan.specs.Frames.{Framed}

-- the cells of layers, each rectangle grown by its layer's margin
abbrev pub widened : (sizes margins : List ℕ) → List ℤ → List ℤ
widened ns ms cells = grown_layers ms 0 (layers_of ns cells)

-- a rectangle can be grown by m, or m is 0
pub record Widens (r : Rect) (m : ℕ) : Type 0 where
  pub small : m ≤ most_margin
  pub ranged : (m ≡ 0 → ⊥) → in_range r ≡ true

-- so can each of these cells by each margin, and what they then are is framed
pub record Readable (sizes margins : List ℕ) (cells : List ℤ) : Type 0 where
  pub framed : Framed sizes (widened sizes margins cells)
  pub whole : length cells ≡ 4 * sum sizes
  pub many : length sizes ≤ length margins
  pub widens : (i j : ℕ) → i < sum sizes → Widens (rect_at cells i) (get_or margins j 0)

-- ... in one way at most
pub Readable-prop : (sizes margins : List ℕ) (cells : List ℤ) → IsProp (Readable sizes margins cells)
Readable-prop sizes margins cells = let small : IsProp (All (λ n. n ≤ 512) sizes) = All-prop (λ n. le_prop) sizes in Prim.hlevel (small, props)
