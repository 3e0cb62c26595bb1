-- Laws of fields and lines that are read at a place of a text.
use mathlib.Core.Path.{◌≡◌, refl, sym, ap, ◌∙◌}
use mathlib.Core.List.{List, [], ◌∷◌, ◌++◌, append_assoc}
use mathlib.Core.Option.{Option, none, some}
use mathlib.Core.Bool.{Bool, true, false}
use mathlib.Core.Logic.{◌⊎◌, inl, inr}
use Prim.Native.Nat.{ℕ, ◌+◌, ◌-◌, ◌≤◌, ◌<◌}
use Rattle.lists.proofs.Tests.{total}
use borrow.Author.Tests.{eq-eqb, ne_eqb}
use native.Mathlib.Omega.{arith}
use lib.IntN.{ℤ}
use lib.ListN.{length, get_or, take, drop, length-append, length-drop, take-append-drop}
use lib.Seq.{drop-drop, drop_at}
use Rattle.std.specs.Prelude.{None}
use Rattle.std.proofs.lemmas.Option.{none-some, some_pair_parts}
use Rattle.decimal.specs.Numerals.{numeral, short}
use Rattle.decimal.specs.declared.Kind.{Kind}
use Rattle.decimal.specs.inner.Bytes.{kind_of}
use Rattle.decimal.specs.Reading.{Reading, number}
use Rattle.decimal.specs.inner.Places.{read_to, placed, number_from}
use Rattle.decimal.proofs.Reading.{number_spelled}
use Rattle.decimal.proofs.Places.{place}
use Rattle.line.specs.declared.Line.{Line}
use Rattle.line.specs.declared.Line.TheVariants.{Plan, Layer, Rectangle}
use Rattle.line.specs.Lines.{PLAN, LAYER, RECT, spell_to}
use Rattle.line.specs.Parsing.{either, field, plan_line, layer_line, rect_line, line}
use Rattle.line.specs.Places.{starts_with, Alone, field_from, rect_from, layer_from, plan_from, line_from, Line-at}
use Rattle.line.proofs.Lines.{field-spelled, behind-spelled, line-spelled, spell-front, shorter}
use Rattle.line.proofs.Words.{behind-is, alone-inside, behind-byte, behind-past}

-- ---- what is behind a reading is the text from a later place on

pub suffix : (s p r : List ℕ) (at : ℕ) → drop at s ≡ p ++ r → (drop (length s - length r) s ≡ r) × (length r ≤ length s)
suffix s p r at e =
    let w : s ≡ take at s ++ p ++ r = sym (take-append-drop at s) ∙ (ap (λ (l : List ℕ). take at s ++ l) e ∙ sym (append_assoc (take at s) p r)) in
    let l : length s ≡ length (take at s ++ p) + length r = ap length w ∙ length-append (take at s ++ p) r in
    (ap (drop (length s - length r)) w ∙ drop_at (take at s ++ p) r (length s - length r) (omega arith), omega arith)

module _ {A : Type 0} where
  pub record Placed (o : Reading A) (n : ℕ) (a : A) (i : ℕ) : Type 0 where
    pub rest : List ℕ
    pub reads : o ≡ some (a, rest)
    pub at : n - length rest ≡ i

  pub placed-value : (n : ℕ) (o : Reading A) (a : A) (i : ℕ) → read_to a i ≡ placed n o → Placed o n a i
  placed-value n none a i e = absurd (none-some (a, i) (sym e))
  placed-value n (some p) a i e =
      let f = some_pair_parts a p.0 i (n - length p.1) e in
      record { rest = p.1; reads = ap (λ (b : A). some (b, p.1)) (sym f.0); at = sym f.1 }

  pub placed-bad : (n : ℕ) (o : Reading A) → None ≡ placed n o → o ≡ none
  placed-bad n none e = refl
  placed-bad n (some p) e = absurd (none-some (p.0, n - length p.1) e)

-- a number from a place on, up to the next
pub record Numbered-at (s : List ℕ) (at : ℕ) (z : ℤ) (i : ℕ) : Type 0 where
  pub reads : number (drop at s) ≡ some (z, drop i s)
  pub inside : i ≤ length s
  pub few : short z ≡ true

pub number-on : (s : List ℕ) (at : ℕ) (z : ℤ) (i : ℕ) → read_to z i ≡ number_from s at → Numbered-at s at z i
unfolding number_from
number-on s at z i e =
    let p = placed-value (length s) (number (drop at s)) z i e in
    let m = number_spelled (drop at s) z p.rest p.reads in
    let f = suffix s (numeral z) p.rest at m.text in
    let r : p.rest ≡ drop i s = sym f.0 ∙ ap (λ (j : ℕ). drop j s) p.at in
    record { reads = p.reads ∙ ap (λ (l : List ℕ). some (z, l)) r; inside = omega (arith, p.at, f.1); few = m.few }

-- ---- a field

module _ (s : List ℕ) (at : ℕ) (k : Kind) (z : ℤ) (i : ℕ) (m : Numbered-at s at z i) (e : ℕ) (a : Alone k e) where
  pub field-good : kind_of (get_or s i 0) ≡ k → read_to z (i + 1) ≡ field_from s at e
  unfolding field_from
  field-good h =
      let l = alone-inside k e a s i h in
      rw (m.reads, behind-byte e s i l, eq-eqb e (get_or s i 0) (sym ((a (get_or s i 0)).0 h)), place s (i + 1) (omega arith))

  pub field-other : (kind_of (get_or s i 0) ≡ k → ⊥) → None ≡ field_from s at e
  unfolding field_from
  field-other h = go (total (length s) i)
    where
      go : (length s ≤ i) ⊎ (i < length s) → None ≡ placed (length s) (field e (drop at s))
      go (inl l) = rw (m.reads, behind-past e s i l)
      go (inr l) = rw (m.reads, behind-byte e s i l, ne_eqb e (get_or s i 0) (λ q. h ((a (get_or s i 0)).1 (sym q))))

pub field-none : (s : List ℕ) (at e : ℕ) → None ≡ number_from s at → None ≡ field_from s at e
unfolding field_from number_from
field-none s at e h = rw (placed-bad (length s) (number (drop at s)) h)

-- a field from a place on, up to the next
pub record Fielded-at (s : List ℕ) (at e : ℕ) (z : ℤ) (i : ℕ) : Type 0 where
  pub reads : field e (drop at s) ≡ some (z, drop i s)
  pub inside : i ≤ length s
  pub few : short z ≡ true

pub field-on : (s : List ℕ) (at e : ℕ) (z : ℤ) (i : ℕ) → read_to z i ≡ field_from s at e → Fielded-at s at e z i
unfolding field_from
field-on s at e z i h =
    let p = placed-value (length s) (field e (drop at s)) z i h in
    let m = field-spelled e (drop at s) (z, p.rest) p.reads in
    let f = suffix s (numeral z ++ e ∷ []) p.rest at (m.text ∙ sym (append_assoc (numeral z) (e ∷ []) p.rest)) in
    let r : p.rest ≡ drop i s = sym f.0 ∙ ap (λ (j : ℕ). drop j s) p.at in
    record { reads = p.reads ∙ ap (λ (l : List ℕ). some (z, l)) r; inside = omega (arith, p.at, f.1); few = m.few }

pub field-bad : (s : List ℕ) (at e : ℕ) → None ≡ field_from s at e → field e (drop at s) ≡ none
unfolding field_from
field-bad s at e h = placed-bad (length s) (field e (drop at s)) h

-- ---- the four fields of a RECT line

module _ (s : List ℕ) (at : ℕ) where
  pub no-left : field 9 (drop at s) ≡ none → None ≡ rect_from s at
  unfolding rect_from
  no-left h = rw h

  module _ (left : ℤ) (a : ℕ) (f : Fielded-at s at 9 left a) where
    pub no-bottom : field 9 (drop a s) ≡ none → None ≡ rect_from s at
    unfolding rect_from
    no-bottom h = rw (f.reads, h)

    module _ (bottom : ℤ) (b : ℕ) (g : Fielded-at s a 9 bottom b) where
      pub no-right : field 9 (drop b s) ≡ none → None ≡ rect_from s at
      unfolding rect_from
      no-right h = rw (f.reads, g.reads, h)

      module _ (right : ℤ) (c : ℕ) (k : Fielded-at s b 9 right c) where
        pub no_top : field 10 (drop c s) ≡ none → None ≡ rect_from s at
        unfolding rect_from
        no_top h = rw (f.reads, g.reads, k.reads, h)

        pub all-four : (top : ℤ) (d : ℕ) → Fielded-at s c 10 top d → read_to (Rectangle (record { left = left; bottom = bottom; right = right; top = top })) d ≡ rect_from s at
        unfolding rect_from
        all-four top d l = rw (f.reads, g.reads, k.reads, l.reads, place s d l.inside)

-- ---- the two fields of a LAYER line

module _ (s : List ℕ) (at : ℕ) where
  pub no_size : field 9 (drop at s) ≡ none → None ≡ layer_from s at
  unfolding layer_from
  no_size h = rw h

  module _ (n : ℤ) (a : ℕ) (f : Fielded-at s at 9 n a) where
    pub no-margin : field 10 (drop a s) ≡ none → None ≡ layer_from s at
    unfolding layer_from
    no-margin h = rw (f.reads, h)

    pub size-and-margin : (m : ℤ) (b : ℕ) → Fielded-at s a 10 m b → read_to (Layer n m) b ≡ layer_from s at
    unfolding layer_from
    size-and-margin m b g = rw (f.reads, g.reads, place s b g.inside)

-- ---- the one field of a PLAN line

module _ (s : List ℕ) (at : ℕ) where
  pub plan-good : (k : ℤ) (i : ℕ) → Fielded-at s at 10 k i → read_to (Plan k) i ≡ plan_from s at
  unfolding plan_from
  plan-good k i p = rw (p.reads, place s i p.inside)

  pub plan-bad : field 10 (drop at s) ≡ none → None ≡ plan_from s at
  unfolding plan_from
  plan-bad h = rw h

-- ---- a line, by its word

either-none : {A : Type 0} (o : Option A) → either o none ≡ o
either-none none = refl
either-none (some a) = refl

rect-line : (r : List ℕ) → line (RECT ++ r) ≡ rect_line r
unfolding line
rect-line r = either-none (rect_line r)

layer-line : (r : List ℕ) → line (LAYER ++ r) ≡ layer_line r
unfolding line
layer-line r = either-none (layer_line r)

plan-line : (r : List ℕ) → line (PLAN ++ r) ≡ plan_line r
unfolding line
plan-line r = refl

-- a word stands at a place, and what is behind it
word_at : (w s : List ℕ) (at : ℕ) → starts_with w (drop at s) ≡ true → drop at s ≡ w ++ drop (at + length w) s
word_at w s at h =
    behind-spelled w (drop at s) (drop (at + length w) s) (behind-is w (drop at s) ∙ rw (h, drop-drop (length w) at s))

module _ (s : List ℕ) (at : ℕ) where
  pub rect-at : starts_with RECT (drop at s) ≡ true → rect_from s (at + 5) ≡ line_from s at
  unfolding rect_from line_from
  rect-at h = ap (placed (length s)) (sym (ap line (word_at RECT s at h) ∙ rect-line (drop (at + 5) s)))

  pub layer-at : starts_with LAYER (drop at s) ≡ true → layer_from s (at + 6) ≡ line_from s at
  unfolding layer_from line_from
  layer-at h = ap (placed (length s)) (sym (ap line (word_at LAYER s at h) ∙ layer-line (drop (at + 6) s)))

  pub plan-at : starts_with PLAN (drop at s) ≡ true → plan_from s (at + 5) ≡ line_from s at
  unfolding plan_from line_from
  plan-at h = ap (placed (length s)) (sym (ap line (word_at PLAN s at h) ∙ plan-line (drop (at + 5) s)))

  pub no_word : starts_with RECT (drop at s) ≡ false → starts_with LAYER (drop at s) ≡ false → starts_with PLAN (drop at s) ≡ false → None ≡ line_from s at
  unfolding line_from line
  no_word h k l = rw (behind-is RECT (drop at s), behind-is LAYER (drop at s), behind-is PLAN (drop at s), h, k, l)

-- ---- from line to line

pub line_on : (s : List ℕ) (at : ℕ) (l : Line) (i : ℕ) → read_to l i ≡ line_from s at → Line-at s at l i
unfolding line_from
line_on s at l i h =
    let p = placed-value (length s) (line (drop at s)) l i h in
    let f = suffix s (spell_to l []) p.rest at ((line-spelled (drop at s) (l, p.rest) p.reads).text ∙ spell-front l p.rest) in
    let z : p.rest ≡ drop i s = sym f.0 ∙ ap (λ (j : ℕ). drop j s) p.at in
    record {
      reads = p.reads ∙ ap (λ (r : List ℕ). some (l, r)) z;
      after = omega (arith, p.at, f.1, shorter (drop at s) (l, p.rest) p.reads, length-drop at s);
      inside = omega (arith, p.at);
    }

pub line-bad : (s : List ℕ) (at : ℕ) → None ≡ line_from s at → line (drop at s) ≡ none
unfolding line_from
line-bad s at h = placed-bad (length s) (line (drop at s)) h
