-- A line read from the start of a text.
use Rattle.std.specs.Prelude.{List, [], ◌∷◌, cond, ℕ, eqb, ℤ}
use Rattle.std.proofs.Math.Option.{Option, none, some}
use Rattle.decimal.specs.Reading.{Reading, number}
use Rattle.line.specs.declared.Line.{Line}
use Rattle.line.specs.declared.Line.TheVariants.{Plan, Layer, Rectangle}
use Rattle.line.specs.Lines.{PLAN, LAYER, RECT}

-- what f makes of the value, where there is one
abbrev pub next : {A B : Type 0} → Option A → (A → Option B) → Option B
next none f = none
next (some a) f = f a

-- the first that there is
abbrev pub either : {A : Type 0} → Option A → Option A → Option A
either none o = o
either (some a) o = some a

-- the bytes behind a word that the text starts with
abbrev pub behind : List ℕ → List ℕ → Option (List ℕ)
behind [] t = some t
behind (w ∷ ws) [] = none
behind (w ∷ ws) (b ∷ t) = cond (eqb w b) (behind ws t) none

-- a number with the byte e behind it
abbrev pub field : ℕ → List ℕ → Reading ℤ
field e t = next (number t) (λ p. next (behind (e ∷ []) p.1) (λ r. some (p.0, r)))

-- the one field of a PLAN line
abbrev pub plan_line : List ℕ → Reading Line
plan_line t = next (field 10 t) (λ k. some (Plan k.0, k.1))

-- the two fields of a LAYER line
abbrev pub layer_line : List ℕ → Reading Line
layer_line t =
    next (field 9 t) (λ n.
    next (field 10 n.1) (λ m.
    some (Layer n.0 m.0, m.1)))

-- the four fields of a RECT line
abbrev pub rect_line : List ℕ → Reading Line
rect_line t =
    next (field 9 t) (λ a.
    next (field 9 a.1) (λ b.
    next (field 9 b.1) (λ c.
    next (field 10 c.1) (λ d.
    some (Rectangle (record { left = a.0; bottom = b.0; right = c.0; top = d.0 }), d.1)))))

-- the line at the start of a text, by its word
unfoldable pub line : List ℕ → Reading Line
line t =
    either (next (behind RECT t) rect_line)
    (either (next (behind LAYER t) layer_line)
    (next (behind PLAN t) plan_line))
