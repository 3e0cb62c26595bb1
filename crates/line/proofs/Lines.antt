-- Laws of one line: it is read from its spelling, and whatever is read was spelled so.
use mathlib.Core.Path.{◌≡◌, refl, sym, ap, ap₂, ◌∙◌, subst}
use mathlib.Core.List.{List, [], ◌∷◌, ◌++◌, append_assoc}
use mathlib.Core.Option.{Option, none, some, some-injective, none-ne-some}
use mathlib.Core.Bool.{Bool, true, false, cond, ◌&&◌}
use mathlib.Core.Logic.{◌⊎◌, inl, inr}
use Prim.Native.Nat.{ℕ, suc, ◌≤◌, ◌<◌}
use native.Mathlib.Omega.{arith}
use lib.Dec.{eqb}
use lib.IntN.{ℤ}
use lib.ListN.{length, length-append}
use borrow.Author.Tests.{eqb-true, eq-eqb}
use Rattle.lists.proofs.Tests.{both}
use Rattle.geometry.specs.declared.Rect.{Rect}
use Rattle.decimal.specs.Numerals.{numeral, short}
use Rattle.decimal.specs.inner.Bytes.{kind_of}
use Rattle.decimal.specs.Reading.{Reading, number}
use Rattle.decimal.proofs.Reading.{Stops, number-reads, number_spelled}
use Rattle.line.specs.declared.Line.{Line}
use Rattle.line.specs.declared.Line.TheVariants.{Plan, Layer, Rectangle}
use Rattle.line.specs.Lines.{PLAN, LAYER, RECT, put_field, spell_to, short_rect, short_line}
use Rattle.line.specs.Parsing.{next, either, behind, field, plan_line, layer_line, rect_line, line}

-- ---- what a chain of readings was made of

pub next-some : {A B : Type 0} (o : Option A) (f : A → Option B) (b : B) → next o f ≡ some b → (a : A) × (o ≡ some a) × (f a ≡ some b)
next-some none f b e = absurd (none-ne-some b e)
next-some (some a) f b e = (a, refl, e)

pub behind-reads : (w r : List ℕ) → behind w (w ++ r) ≡ some r
behind-reads [] r = refl
behind-reads (b ∷ w) r = rw (eq-eqb b b refl) (behind-reads w r)

pub behind-spelled : (w t r : List ℕ) → behind w t ≡ some r → t ≡ w ++ r
behind-spelled [] t r e = some-injective t r e
behind-spelled (b ∷ w) [] r e = absurd (none-ne-some r e)
behind-spelled (b ∷ w) (a ∷ t) r e = go (eqb b a) refl (behind-spelled w t r) e
  where
    go : (d : Bool) → eqb b a ≡ d → (behind w t ≡ some r → t ≡ w ++ r) → cond d (behind w t) none ≡ some r → a ∷ t ≡ b ∷ (w ++ r)
    go true p f q = ap₂ ◌∷◌ (sym (eqb-true b a p)) (f q)
    go false p f q = absurd (none-ne-some r q)

-- ---- a field: a number, and behind it a byte that is no digit

pub field-reads : (z : ℤ) (e : ℕ) (r : List ℕ) → short z ≡ true → Stops (e ∷ r) → field e (put_field z e r) ≡ some (z, r)
field-reads z e r h st = rw (number-reads z (e ∷ r) h st, behind-reads (e ∷ []) r)

tab-reads : (z : ℤ) (r : List ℕ) → short z ≡ true → field 9 (put_field z 9 r) ≡ some (z, r)
unfolding kind_of
tab-reads z r h = field-reads z 9 r h refl

end_reads : (z : ℤ) (r : List ℕ) → short z ≡ true → field 10 (put_field z 10 r) ≡ some (z, r)
unfolding kind_of
end_reads z r h = field-reads z 10 r h refl

pub record Fielded (e : ℕ) (t : List ℕ) (z : ℤ) (r : List ℕ) : Type 0 where
  pub text : t ≡ put_field z e r
  pub few : short z ≡ true

pub field-spelled : (e : ℕ) (t : List ℕ) (p : ℤ × List ℕ) → field e t ≡ some p → Fielded e t p.0 p.1
field-spelled e t p h = go (next-some (number t) _ p h)
  where
    go : (q : ℤ × List ℕ) × (number t ≡ some q) × (next (behind (e ∷ []) q.1) (λ r. some (q.0, r)) ≡ some p) → Fielded e t p.0 p.1
    go (q, h₁, h₂) =
        let m = number_spelled t q.0 q.1 h₁ in
        let b = next-some (behind (e ∷ []) q.1) (λ r. some (q.0, r)) p h₂ in
        let s : q.1 ≡ e ∷ b.0 = behind-spelled (e ∷ []) q.1 b.0 b.1 in
        let x : ◌≡◌ {A = ℤ × List ℕ} (q.0, b.0) p = some-injective (q.0, b.0) p b.2 in
        subst (λ (y : ℤ × List ℕ). Fielded e t y.0 y.1) x
        (record { text = m.text ∙ ap (λ (l : List ℕ). numeral q.0 ++ l) s; few = m.few })

-- ---- a line

pub shorts : (b : Rect) → short_rect b ≡ true → (short b.left ≡ true) × (short b.bottom ≡ true) × (short b.right ≡ true) × (short b.top ≡ true)
shorts b h =
    let h₁ = both (short b.left) (short b.bottom && (short b.right && short b.top)) h in
    let h₂ = both (short b.bottom) (short b.right && short b.top) h₁.1 in
    let h₃ = both (short b.right) (short b.top) h₂.1 in
    (h₁.0, h₂.0, h₃.0, h₃.1)

pub line_reads : (l : Line) (r : List ℕ) → short_line l ≡ true → line (spell_to l r) ≡ some (l, r)
unfolding line
line_reads (Plan k) r h = rw (end_reads k r h)
line_reads (Layer n m) r h =
    let s = both (short n) (short m) h in
    rw (tab-reads n (put_field m 10 r) s.0, end_reads m r s.1)
line_reads (Rectangle b) r h =
    let s = shorts b h in
    rw (
      tab-reads b.left (put_field b.bottom 9 (put_field b.right 9 (put_field b.top 10 r))) s.0,
      tab-reads b.bottom (put_field b.right 9 (put_field b.top 10 r)) s.1,
      tab-reads b.right (put_field b.top 10 r) s.2,
      end_reads b.top r s.3,
    )

either-some : {A : Type 0} (o p : Option A) (a : A) → either o p ≡ some a → (o ≡ some a) ⊎ (p ≡ some a)
either-some none p a e = inr e
either-some (some b) p a e = inl e

pub record Lined (t : List ℕ) (l : Line) (r : List ℕ) : Type 0 where
  pub text : t ≡ spell_to l r
  pub few : short_line l ≡ true

-- what holds of a line and what is behind it, read so, holds of the pair that it equals
line-pair : {t : List ℕ} {p : Line × List ℕ} (l : Line) (r : List ℕ) → ◌≡◌ {A = Reading Line} (some (l, r)) (some p) → Lined t l r → Lined t p.0 p.1
line-pair {t} {p} l r e h =
    subst (λ (q : Line × List ℕ). Lined t q.0 q.1) (some-injective (l, r) p e) h

plan-spelled : (t : List ℕ) (p : Line × List ℕ) → next (behind PLAN t) plan_line ≡ some p → Lined t p.0 p.1
plan-spelled t p e =
    let w = next-some (behind PLAN t) _ p e in
    let k = next-some (field 10 w.0) _ p w.2 in
    let sk = field-spelled 10 w.0 k.0 k.1 in
    line-pair (Plan k.0.0) k.0.1 k.2
    (record { text = behind-spelled PLAN t w.0 w.1 ∙ ap (λ (l : List ℕ). PLAN ++ l) sk.text; few = sk.few })

layer-spelled : (t : List ℕ) (p : Line × List ℕ) → next (behind LAYER t) layer_line ≡ some p → Lined t p.0 p.1
layer-spelled t p e =
    let w = next-some (behind LAYER t) _ p e in
    let n = next-some (field 9 w.0) _ p w.2 in
    let m = next-some (field 10 n.0.1) _ p n.2 in
    let sn = field-spelled 9 w.0 n.0 n.1 in
    let sm = field-spelled 10 n.0.1 m.0 m.1 in
    line-pair (Layer n.0.0 m.0.0) m.0.1 m.2
    (record {
      text = behind-spelled LAYER t w.0 w.1 ∙ ap (λ (l : List ℕ). LAYER ++ l) (sn.text ∙ ap (put_field n.0.0 9) sm.text);
      few = rw (sn.few, sm.few);
    })

rect-spelled : (t : List ℕ) (p : Line × List ℕ) → next (behind RECT t) rect_line ≡ some p → Lined t p.0 p.1
rect-spelled t p e =
    let w = next-some (behind RECT t) _ p e in
    let a = next-some (field 9 w.0) _ p w.2 in
    let b = next-some (field 9 a.0.1) _ p a.2 in
    let c = next-some (field 9 b.0.1) _ p b.2 in
    let d = next-some (field 10 c.0.1) _ p c.2 in
    let sa = field-spelled 9 w.0 a.0 a.1 in
    let sb = field-spelled 9 a.0.1 b.0 b.1 in
    let sc = field-spelled 9 b.0.1 c.0 c.1 in
    let sd = field-spelled 10 c.0.1 d.0 d.1 in
    line-pair (Rectangle (record { left = a.0.0; bottom = b.0.0; right = c.0.0; top = d.0.0 })) d.0.1 d.2
    (record {
      text =
          behind-spelled RECT t w.0 w.1
          ∙ ap (λ (l : List ℕ). RECT ++ l)
          (sa.text ∙ ap (put_field a.0.0 9) (sb.text ∙ ap (put_field b.0.0 9) (sc.text ∙ ap (put_field c.0.0 9) sd.text)));
      few = rw (sa.few, sb.few, sc.few, sd.few);
    })

pub line-spelled : (t : List ℕ) (p : Line × List ℕ) → line t ≡ some p → Lined t p.0 p.1
unfolding line
line-spelled t p e = go (either-some (next (behind RECT t) rect_line) _ p e)
  where
    other : (next (behind LAYER t) layer_line ≡ some p) ⊎ (next (behind PLAN t) plan_line ≡ some p) → Lined t p.0 p.1
    other (inl h) = layer-spelled t p h
    other (inr h) = plan-spelled t p h

    go : (next (behind RECT t) rect_line ≡ some p) ⊎ (either (next (behind LAYER t) layer_line) (next (behind PLAN t) plan_line) ≡ some p) → Lined t p.0 p.1
    go (inl h) = rect-spelled t p h
    go (inr h) = other (either-some (next (behind LAYER t) layer_line) _ p h)

-- no line is read where LAYER and a single number stand
pub old-layer : (n : ℤ) (r : List ℕ) → short n ≡ true → line (LAYER ++ put_field n 10 r) ≡ none
unfolding line kind_of
old-layer n r h = rw (number-reads n (10 ∷ r) h refl)

-- ---- a line and the bytes behind it

pub spell-front : (l : Line) (r : List ℕ) → spell_to l r ≡ spell_to l [] ++ r
spell-front (Plan k) r = simp append_assoc
spell-front (Layer n m) r = simp append_assoc
spell-front (Rectangle b) r = simp append_assoc

pub longer : (l : Line) (r : List ℕ) → suc (length r) ≤ length (spell_to l r)
longer (Plan k) r = simp length-append (omega arith)
longer (Layer n m) r = simp length-append (omega arith)
longer (Rectangle b) r = simp length-append (omega arith)

pub shorter : (t : List ℕ) (p : Line × List ℕ) → line t ≡ some p → length p.1 < length t
shorter t p e = subst (λ (l : List ℕ). length p.1 < length l) (sym (line-spelled t p e).text) (longer p.0 p.1)
