-- The theorem `LinesHold`.
use mathlib.Core.Path.{◌≡◌, refl, ap, ◌∙◌}
use mathlib.Core.List.{List, ◌∷◌, ◌++◌}
use mathlib.Core.Bool.{true}
use mathlib.Core.Option.{none}
use Prim.Native.Nat.{ℕ}
use lib.IntN.{ℤ}
use Rattle.lists.proofs.Tests.{both, and-true}
use Rattle.decimal.specs.Numerals.{numeral, short}
use Rattle.decimal.specs.Theorems.{Spells}
use Rattle.decimal.proofs.Theorems.{numbers}
use Rattle.line.specs.declared.Line.{Line}
use Rattle.line.specs.declared.Line.TheVariants.{Plan, Layer, Rectangle}
use Rattle.line.specs.Lines.{LAYER, spell_to, short_line}
use Rattle.line.specs.Parsing.{line}
use Rattle.line.specs.Theorems.{Starts, plan, layer, rect, LinesHold}
use Rattle.line.proofs.Lines.{shorts, line_reads, line-spelled, old-layer}

-- a short number's numeral spells it
spells : (z : ℤ) → short z ≡ true → Spells (numeral z) z
spells z h = (numbers.spelled (numeral z) z).0 (h, refl)

-- ---- a line's bytes and its spelling
pub starts : (l : Line) (rest : List ℕ) → short_line l ≡ true → Starts rest l (spell_to l rest)
starts (Plan k) rest h = plan (spells k h)
starts (Layer n m) rest h =
    let s = both (short n) (short m) h in
    layer (spells n s.0) (spells m s.1)
starts (Rectangle r) rest h =
    let s = shorts r h in
    rect (spells r.left s.0) (spells r.bottom s.1) (spells r.right s.2) (spells r.top s.3)

pub started : {rest t : List ℕ} {l : Line} → Starts rest l t → (short_line l ≡ true) × (t ≡ spell_to l rest)
started (plan {a} {k} p) = let s = (numbers.spelled a k).1 p in (s.0, rw s.1)
started (layer {a} {b} {n} {m} p q) =
    let s = (numbers.spelled a n).1 p in
    let u = (numbers.spelled b m).1 q in
    (and-true (short n) (short m) s.0 u.0, rw (s.1, u.1))
started (rect {a} {b} {c} {d} {r} p q v w) =
    let s = (numbers.spelled a r.left).1 p in
    let u = (numbers.spelled b r.bottom).1 q in
    let x = (numbers.spelled c r.right).1 v in
    let y = (numbers.spelled d r.top).1 w in
    (rw (s.0, u.0, x.0, y.0), rw (s.1, u.1, x.1, y.1))

-- no line is read where LAYER and a single number stand
pub old-line : (a : List ℕ) (n : ℤ) (rest : List ℕ) → Spells a n → line (LAYER ++ (a ++ 10 ∷ rest)) ≡ none
old-line a n rest p =
    let s = (numbers.spelled a n).1 p in
    ap (λ (l : List ℕ). line (LAYER ++ (l ++ 10 ∷ rest))) s.1 ∙ old-layer n rest s.0

pub lines-hold : LinesHold
lines-hold =
    record {
      reads = λ t l rest. (
        λ h. let s = line-spelled t (l, rest) h in rw s.text (starts l rest s.few),
        λ h. let s = started h in ap line s.1 ∙ line_reads l rest s.0,
      );
      spelled = λ t l rest. (λ h. rw h.1 (starts l rest h.0), started);
    }
