-- Of a text with the cause 10 something is told.
use mathlib.Core.Path.{◌≡◌, refl, ap, ◌∙◌}
use mathlib.Core.List.{List, [], ◌∷◌}
use mathlib.Core.Bool.{Bool, true, false}
use Prim.Native.Nat.{ℕ}
use native.Mathlib.Omega.{arith}
use lib.Dec.{leb}
use lib.IntN.{ℤ}
use lib.ListN.{length}
use Rattle.lists.proofs.Tests.{clash}
use Rattle.line.specs.declared.Line.{Line}
use Rattle.line.specs.declared.Line.TheVariants.{Plan, Layer, Rectangle}
use Rattle.text.specs.Spelling.{all_inner, headed}
use Rattle.text.specs.Parsing.{lines_of}
use Rattle.text.specs.Reader.{lines_cause, read_cause}
use Rattle.text.proofs.Parsing.{spelling-of-lines}
use Rattle.plan.specs.Causes.{unless, ◌or_else◌}
use mathlib.Core.Option.{Option, none, some}
use Rattle.lists.specs.Lists.{list_in}
use Rattle.text.specs.Plans.{cells_in, agrees}
use Rattle.checking.specs.Faults.{Note, faults_of}
use Rattle.checking.proofs.Agreeing.{none-agrees}

-- a text with the cause 10 has lines that are headed and do not agree
pub record Disagreeing (t : List ℕ) : Type 0 where
  pub k : ℤ
  pub lines : List Line
  pub whole : lines_of t ≡ some (Plan k ∷ lines)
  pub inner : all_inner lines ≡ true
  pub not : agrees (Plan k ∷ lines) ≡ false

pub disagreeing : (room : ℕ) (t : List ℕ) → read_cause room t ≡ 10 → Disagreeing t
unfolding read_cause
disagreeing room t e = go (lines_of t) refl e
  where
    parts : (ls : List Line) → lines_of t ≡ some ls → headed ls ≡ true → agrees ls ≡ false → Disagreeing t
    parts [] q h a = clash h refl
    parts (Plan k ∷ ls) q h a = record { k = k; lines = ls; whole = q; inner = h; not = a }
    parts (Layer n m ∷ ls) q h a = clash h refl
    parts (Rectangle r ∷ ls) q h a = clash h refl

    unlike : (a b : Bool) → ◌≡◌ {A = ℕ} (unless a 10 or_else unless b 11) 10 → a ≡ false
    unlike false b e = refl
    unlike true true e = absurd (omega arith)
    unlike true false e = absurd (omega arith)

    go : (o : Option (List Line)) → lines_of t ≡ o → lines_cause room o ≡ 10 → Disagreeing t
    go none q z = absurd (omega arith)
    go (some ls) q z = parts ls q (spelling-of-lines t ls q).first (unlike (agrees ls) (leb (length (cells_in ls)) room) z)

-- something is told of it
pub something : (t : List ℕ) → Disagreeing t → (x : Note) × (xs : List Note) × (faults_of (list_in (lines_of t)) ≡ x ∷ xs)
something t d = go (faults_of (Plan d.k ∷ d.lines)) refl
  where
    go : (xs : List Note) → faults_of (Plan d.k ∷ d.lines) ≡ xs → (x : Note) × (ys : List Note) × (faults_of (list_in (lines_of t)) ≡ x ∷ ys)
    go [] e = clash (none-agrees d.k d.lines d.inner e) d.not
    go (x ∷ xs) e = (x, xs, ap (λ (o : Option (List Line)). faults_of (list_in o)) d.whole ∙ e)
