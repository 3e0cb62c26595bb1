-- Theorem: the lines of a plan text, byte by byte, and that a line is read and spelled exactly so. Proved in proofs/Theorems.antt.
use Rattle.std.specs.Prelude.{◌≡◌, List, ◌∷◌, ◌++◌, true, ◌↔◌, ℕ, ℤ}
use Rattle.std.proofs.Math.Option.{some}
use Rattle.geometry.specs.declared.Rect.{Rect}
use Rattle.decimal.specs.Theorems.{Spells}
use Rattle.line.specs.declared.Line.{Line}
use Rattle.line.specs.declared.Line.TheVariants.{Plan, Layer, Rectangle}
use Rattle.line.specs.Lines.{spell_to, short_line}
use Rattle.line.specs.Parsing.{line}

-- a text is a line and then the bytes `rest`. 01: "each ended by byte 10, fields parted by byte 9"; which bytes are a number: `Spells` (crate decimal)
pub data Starts (rest : List ℕ) : Line → List ℕ → Type 0 where
  -- "PLAN, k": P L A N
  plan : {a : List ℕ} {k : ℤ} → Spells a k → Starts rest (Plan k) (80 ∷ 76 ∷ 65 ∷ 78 ∷ 9 ∷ (a ++ 10 ∷ rest))
  -- "LAYER, n_j", and 02, Q-4: a margin "written as a second number on its LAYER line": L A Y E R
  layer : {a b : List ℕ} {n m : ℤ} → Spells a n → Spells b m
      → Starts rest (Layer n m) (76 ∷ 65 ∷ 89 ∷ 69 ∷ 82 ∷ 9 ∷ (a ++ 9 ∷ (b ++ 10 ∷ rest)))
  -- "RECT, left, bottom, right, top": R E C T
  rect : {a b c d : List ℕ} {r : Rect} → Spells a r.left → Spells b r.bottom → Spells c r.right → Spells d r.top
      → Starts rest (Rectangle r) (82 ∷ 69 ∷ 67 ∷ 84 ∷ 9 ∷ (a ++ 9 ∷ (b ++ 9 ∷ (c ++ 9 ∷ (d ++ 10 ∷ rest)))))

pub record LinesHold : Type 0 where
  -- a line is read where its bytes stand, and nowhere else ..
  pub reads : (t : List ℕ) (l : Line) (rest : List ℕ) → (line t ≡ some (l, rest)) ↔ Starts rest l t
  -- .. and these are the bytes of its spelling, where its numbers are such as a text may have
  pub spelled : (t : List ℕ) (l : Line) (rest : List ℕ) → ((short_line l ≡ true) × (t ≡ spell_to l rest)) ↔ Starts rest l t
