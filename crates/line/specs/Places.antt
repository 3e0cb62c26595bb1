-- Lines read from a place of a text, as the code does: what `lexer` promises `reader`; no public call's contract cites it.
use Rattle.std.specs.Prelude.{◌≡◌, ◌↔◌, List, [], ◌∷◌, Bool, true, false, ◌&&◌, ℕ, ◌≤◌, ◌<◌, eqb, ℤ, Option, length, drop}
use Rattle.std.proofs.Math.Option.{some}
use Rattle.decimal.specs.declared.Kind.{Kind}
use Rattle.decimal.specs.inner.Bytes.{kind_of}
use Rattle.decimal.specs.inner.Places.{placed}
use Rattle.line.specs.declared.Line.{Line}
use Rattle.line.specs.Parsing.{field, plan_line, layer_line, rect_line, line}

-- the text starts with a word
abbrev pub starts_with : List ℕ → List ℕ → Bool
starts_with [] t = true
starts_with (w ∷ ws) [] = false
starts_with (w ∷ ws) (b ∷ t) = eqb w b && starts_with ws t

-- no other byte than e has the kind
abbrev pub Alone : Kind → ℕ → Type 0
Alone k e = (b : ℕ) → (kind_of b ≡ k) ↔ (b ≡ e)

-- the number at a place that has the byte e behind it
unfoldable pub field_from : List ℕ → ℕ → ℕ → Option (ℤ × ℕ)
field_from s at e = placed (length s) (field e (drop at s))

-- the four fields of a RECT line at a place
unfoldable pub rect_from : List ℕ → ℕ → Option (Line × ℕ)
rect_from s at = placed (length s) (rect_line (drop at s))

-- the two fields of a LAYER line at a place
unfoldable pub layer_from : List ℕ → ℕ → Option (Line × ℕ)
layer_from s at = placed (length s) (layer_line (drop at s))

-- the one field of a PLAN line at a place
unfoldable pub plan_from : List ℕ → ℕ → Option (Line × ℕ)
plan_from s at = placed (length s) (plan_line (drop at s))

-- the line at a place
unfoldable pub line_from : List ℕ → ℕ → Option (Line × ℕ)
line_from s at = placed (length s) (line (drop at s))

-- a line stands at a place, and the text goes on at i
pub record Line-at (s : List ℕ) (at : ℕ) (l : Line) (i : ℕ) : Type 0 where
  pub reads : line (drop at s) ≡ some (l, drop i s)
  pub after : at < i
  pub inside : i ≤ length s
