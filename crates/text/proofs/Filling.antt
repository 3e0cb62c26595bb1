-- Laws of the reader's decision: what the tally behind the PLAN line says of the whole text.
use mathlib.Core.Path.{◌≡◌, refl, sym, ap, ap₂, ◌∙◌}
use mathlib.Core.List.{List, [], ◌∷◌}
use mathlib.Core.Option.{Option, none, some}
use mathlib.Core.Bool.{Bool, true, false, cond}
use Prim.Native.Nat.{ℕ, ◌*◌, ◌≤◌, ◌<◌}
use native.Mathlib.Omega.{arith}
use lib.Dec.{T, leb}
use lib.IntN.{ℤ, pos, negsuc, nat_abs}
use lib.Signed.{non_neg}
use lib.ListN.{length, drop}
use borrow.Author.Tests.{le-leb, lt-leb}
use Rattle.lists.proofs.Tests.{clash}
use Rattle.plan.specs.Causes.{unless, ◌or_else◌}
use Rattle.line.specs.declared.Line.{Line}
use Rattle.line.specs.declared.Line.TheVariants.{Plan, Layer, Rectangle}
use Rattle.text.specs.declared.Tally.{Tally}
use Rattle.text.specs.Spelling.{inner, all_inner}
use Rattle.line.specs.Parsing.{next, line}
use Rattle.text.specs.Parsing.{all_lines, lines_of}
use Rattle.text.specs.Plans.{cells_in, shape_in, agrees}
use Rattle.text.specs.Reader.{lines_cause, read_cause, text_shape, text_cells}
use Rattle.line.specs.Places.{Line-at}
use Rattle.text.specs.inner.Counting.{none_yet, unformed, add_layer, add_rect, add_lines, add_if, tally_from, tally_cause}
use Rattle.text.specs.inner.Filling.{rest_cells, Taken}
use Rattle.text.proofs.Parsing.{only, first_then, first-none}
use Rattle.text.proofs.Counting.{few-none, few-lines}
use Rattle.text.proofs.Sound.{counted-cells}
use Rattle.text.proofs.Verdict.{Agreed, agreed, verdict}
use Rattle.lists.specs.Lists.{is_some}

-- 9 or 10, before the cells are compared
abbrev pub form_cause : Option (List Line) → ℕ
form_cause none = 9
form_cause (some ls) = unless (agrees ls) 10

-- ---- refusals
refused-by : (room : ℕ) (o : Option (List Line)) → (form_cause o ≡ 0 → ⊥) → lines_cause room o ≡ form_cause o
refused-by room none h = refl
refused-by room (some ls) h = go (agrees ls) h
  where
    go : (b : Bool) → (unless b 10 ≡ 0 → ⊥) → (unless b 10 or_else unless (leb (length (cells_in ls)) room) 11) ≡ unless b 10
    go true k = absurd (k refl)
    go false k = refl

-- 9 or 10
pub refused-form : (s : List ℕ) (room cause : ℕ) → (cause ≡ 0 → ⊥) → cause ≡ form_cause (lines_of s) → cause ≡ read_cause room s
unfolding read_cause
refused-form s room cause n e = e ∙ sym (refused-by room (lines_of s) (λ z. n (e ∙ z)))

-- ---- the first line
unformed-lines : (t : Tally) (ls : List Line) → all_inner ls ≡ false → add_lines t ls ≡ unformed
unformed-lines t [] e = clash refl e
unformed-lines t (Plan k ∷ ls) e = refl
unformed-lines t (Layer n m ∷ ls) e = unformed-lines (add_layer t n m) ls e
unformed-lines t (Rectangle r ∷ ls) e = unformed-lines (add_rect t r) ls e

-- the lines of a text that starts with a PLAN line
abbrev head_of : ℤ → Option (List Line) → Option (List Line)
head_of k none = none
head_of k (some ls) = cond (all_inner ls) (some (Plan k ∷ ls)) none

pub lines_none : (s : List ℕ) → line s ≡ none → lines_of s ≡ none
unfolding lines_of
lines_none [] e = refl
lines_none (b ∷ s) e = rw (first-none (b ∷ s) (omega arith) e)

headless : (l : Line) (o : Option (List Line)) → inner l ≡ true → only (next o (λ ls. some (l ∷ ls))) ≡ none
headless (Plan k) o h = clash h refl
headless (Layer n m) none h = refl
headless (Layer n m) (some ls) h = refl
headless (Rectangle r) none h = refl
headless (Rectangle r) (some ls) h = refl

pub lines_other : (s : List ℕ) (l : Line) (i : ℕ) → inner l ≡ true → Line-at s 0 l i → lines_of s ≡ none
unfolding lines_of
lines_other s l i h p = ap only (first_then s (l, drop i s) p.reads) ∙ headless l (all_lines (drop i s)) h

headed-is : (k : ℤ) (o : Option (List Line)) → only (next o (λ ls. some (Plan k ∷ ls))) ≡ head_of k o
headed-is k none = refl
headed-is k (some ls) = refl

-- ---- behind the PLAN line
-- an accepted text: what the tally says of it
pub record Accepted (s : List ℕ) (k : ℤ) (i : ℕ) (t : Tally) : Type 0 where
  pub sign : T (non_neg k)
  pub layers : nat_abs k ≤ 6
  pub few : t.rects ≤ 3072
  pub shape : record { k = nat_abs k; sizes = t.sizes; margins = t.margins } ≡ text_shape s
  pub cells : length (text_cells s) ≡ 4 * t.rects
  pub cause : (room : ℕ) → read_cause room s ≡ unless (leb (4 * t.rects) room) 11
  pub formed : is_some (all_lines (drop i s)) ≡ true
  pub rest : rest_cells (drop i s) ≡ text_cells s

module _ (s : List ℕ) (k : ℤ) (i : ℕ) (p : Line-at s 0 (Plan k) i) where
  lines_are : lines_of s ≡ head_of k (all_lines (drop i s))
  unfolding lines_of
  lines_are = ap only (first_then s (Plan k, drop i s) p.reads) ∙ headed-is k (all_lines (drop i s))

  pub tally-tells : tally_cause k (tally_from none_yet (drop i s)) ≡ form_cause (lines_of s)
  unfolding tally_from
  tally-tells = go (all_lines (drop i s)) ∙ sym (ap form_cause lines_are)
    where
      inside : (ls : List Line) (b : Bool) → all_inner ls ≡ b → tally_cause k (add_lines none_yet ls) ≡ form_cause (cond b (some (Plan k ∷ ls)) none)
      inside ls true e = verdict k ls e
      inside ls false e = ap (tally_cause k) (unformed-lines none_yet ls e) ∙ (unfold tally_cause in refl)

      go : (o : Option (List Line)) → tally_cause k (add_if none_yet o) ≡ form_cause (head_of k o)
      go none = unfold tally_cause in refl
      go (some ls) = inside ls (all_inner ls) refl

  -- the lines behind it, and what they agree on
  record Behind : Type 0 where
    size : ℕ
    lines : List Line
    sign : k ≡ pos size
    reads : all_lines (drop i s) ≡ some lines
    whole : lines_of s ≡ some (Plan k ∷ lines)
    right : agrees (Plan k ∷ lines) ≡ true
    agreed : Agreed size lines

  behind : form_cause (lines_of s) ≡ 0 → Behind
  behind e = go (all_lines (drop i s)) refl (sym (ap form_cause lines_are) ∙ e)
    where
      nonneg : (z : ℤ) (ls : List Line) → agrees (Plan z ∷ ls) ≡ true → (n : ℕ) × (z ≡ pos n)
      nonneg (pos n) ls a = (n, refl)
      nonneg (negsuc n) ls a = clash a (unfold agrees in refl)

      found : (ls : List Line) (b : Bool) → agrees (Plan k ∷ ls) ≡ b → all_lines (drop i s) ≡ some ls → all_inner ls ≡ true → ◌≡◌ {A = ℕ} (unless b 10) 0 → Behind
      found ls false a r j z = absurd (omega arith)
      found ls true a r j z =
          let n = nonneg k ls a in
          record {
            size = n.0;
            lines = ls;
            sign = n.1;
            reads = r;
            whole = lines_are ∙ (ap (head_of k) r ∙ rw j);
            right = a;
            agreed = agreed n.0 ls (sym (ap (λ (z : ℤ). agrees (Plan z ∷ ls)) n.1) ∙ a);
          }

      inside : (ls : List Line) (b : Bool) → all_inner ls ≡ b → all_lines (drop i s) ≡ some ls → form_cause (cond b (some (Plan k ∷ ls)) none) ≡ 0 → Behind
      inside ls false j r z = absurd (omega arith)
      inside ls true j r z = found ls (agrees (Plan k ∷ ls)) refl r j z

      go : (o : Option (List Line)) → all_lines (drop i s) ≡ o → form_cause (head_of k o) ≡ 0 → Behind
      go none r z = absurd (omega arith)
      go (some ls) r z = inside ls (all_inner ls) refl r z

  pub accepted : form_cause (lines_of s) ≡ 0 → Accepted s k i (tally_from none_yet (drop i s))
  unfolding tally_from text_shape text_cells read_cause rest_cells shape_in
  accepted e =
      let b = behind e in
      let ls = b.lines in
      let a = b.agreed in
      let d = a.tally.done in
      let f = few-lines none_yet ls few-none in
      let n : length (cells_in ls) ≡ 4 * (add_lines none_yet ls).rects = omega (arith, counted-cells 0 ls a.count, d.rects) in
      rw b.reads (record {
        sign = rw b.sign tt;
        layers = rw b.sign a.high;
        few = omega (arith, f.rects, f.layers);
        shape = rw b.whole (ap₂ (λ (ns ms : List ℕ). record { k = nat_abs k; sizes = ns; margins = ms }) d.sizes d.margins);
        cells = rw b.whole n;
        cause = λ room. rw (b.whole, b.right, n);
        formed = rw b.reads;
        rest = rw (b.reads, b.whole);
      })

-- ---- 11, or the plan
module _ (s : List ℕ) (k : ℤ) (i room : ℕ) (t : Tally) (a : Accepted s k i t) where
  pub refused-room : room < 4 * t.rects → 11 ≡ read_cause room s
  refused-room h = sym (a.cause room ∙ rw (lt-leb (4 * t.rects) room h))

  pub taken : i ≤ length s → 4 * t.rects ≤ room → Taken s room (record { shape = record { k = nat_abs k; sizes = t.sizes; margins = t.margins }; next = i })
  taken j h = record {
    passed = a.cause room ∙ rw (le-leb (4 * t.rects) room h);
    shape = a.shape;
    room = record { inside = j; formed = a.formed; fits = omega (arith, ap length a.rest, a.cells) };
    cells = a.rest;
  }
