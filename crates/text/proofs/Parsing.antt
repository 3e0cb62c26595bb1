-- Lines are read from their spelling, and whatever is read was spelled so.
use mathlib.Core.Path.{◌≡◌, refl, sym, ap, ◌∙◌, subst}
use mathlib.Core.List.{List, [], ◌∷◌, ◌++◌}
use mathlib.Core.Option.{Option, none, some, some-injective, none-ne-some}
use mathlib.Core.Bool.{Bool, true, false, cond}
use Prim.Native.Nat.{ℕ, zero, suc, ◌≤◌, ◌<◌}
use native.Mathlib.Nat.{le_refl}
use native.Mathlib.Omega.{arith}
use lib.ListN.{length}
use Rattle.lists.proofs.Tests.{both}
use Rattle.decimal.specs.Reading.{Reading}
use Rattle.line.specs.declared.Line.{Line}
use Rattle.line.specs.declared.Line.TheVariants.{Plan, Layer, Rectangle}
use Rattle.line.specs.Lines.{spell_to, short_line}
use Rattle.text.specs.Spelling.{spell, headed, all_short}
use Rattle.line.proofs.Lines.{next-some, line_reads, line-spelled, longer, shorter}
use Rattle.line.specs.Parsing.{next, line}
use Rattle.text.specs.Parsing.{lines_by, lines_in, all_lines, lines_of}
use Rattle.text.proofs.Spelling.{line-then}

-- lines, where they are headed
abbrev pub only : Option (List Line) → Option (List Line)
only o = next o (λ ls. cond (headed ls) (some ls) none)

first-line : (g : List ℕ → Option (List Line)) (l : Line) (r : List ℕ)
    → lines_by g (spell_to l r) ≡ next (line (spell_to l r)) (λ p. next (g p.1) (λ ls. some (p.0 ∷ ls)))
first-line g (Plan k) r = refl
first-line g (Layer n m) r = refl
first-line g (Rectangle b) r = refl

lines-read : (ls : List Line) (f : ℕ) → all_short ls ≡ true → length ls ≤ f → lines_in f (spell ls) ≡ some ls
lines-read [] zero h k = refl
lines-read [] (suc f) h k = refl
lines-read (l ∷ ls) zero h k = absurd (omega arith)
lines-read (l ∷ ls) (suc f) h k =
    let s = both (short_line l) (all_short ls) h in
    first-line (lines_in f) l (spell ls) ∙ rw (line_reads l (spell ls) s.0, lines-read ls f s.1 (omega arith))

-- if g reads only what is spelled, so does a line and then g
by : (g : List ℕ → Option (List Line)) → ((t : List ℕ) (ls : List Line) → g t ≡ some ls → (t ≡ spell ls) × (all_short ls ≡ true))
    → (t : List ℕ) (ls : List Line) → lines_by g t ≡ some ls → (t ≡ spell ls) × (all_short ls ≡ true)
by g f [] ls e =
    let x : [] ≡ ls = some-injective [] ls e in
    subst (λ (ks : List Line). ([] ≡ spell ks) × (all_short ks ≡ true)) x (refl, refl)
by g f (b ∷ t) ls e =
    let p = next-some (line (b ∷ t)) _ ls e in
    let q = next-some (g p.0.1) _ ls p.2 in
    let l = line-spelled (b ∷ t) p.0 p.1 in
    let m = f p.0.1 q.0 q.1 in
    subst (λ (ks : List Line). (b ∷ t ≡ spell ks) × (all_short ks ≡ true)) (some-injective (p.0.0 ∷ q.0) ls q.2)
    (l.text ∙ ap (spell_to p.0.0) m.0, rw l.few m.1)

lines-spelled : (f : ℕ) (t : List ℕ) (ls : List Line) → lines_in f t ≡ some ls → (t ≡ spell ls) × (all_short ls ≡ true)
lines-spelled zero t ls e = by (λ r. none) (λ r ks h. absurd (none-ne-some ks h)) t ls e
lines-spelled (suc f) t ls e = by (lines_in f) (lines-spelled f) t ls e

-- ---- a whole text

few-lines : (ls : List Line) → length ls ≤ length (spell ls)
few-lines [] = le_refl 0
few-lines (l ∷ ls) = omega (arith, longer l (spell ls), few-lines ls)

-- lines are read from their spelling ..
pub lines-of-spelling : (ls : List Line) → headed ls ≡ true → all_short ls ≡ true → lines_of (spell ls) ≡ some ls
unfolding lines_of
lines-of-spelling ls h k = rw (lines-read ls (length (spell ls)) k (few-lines ls), h)

-- .. and whatever is read was spelled so
pub record Spelled (t : List ℕ) (ls : List Line) : Type 0 where
  pub text : t ≡ spell ls
  pub first : headed ls ≡ true
  pub few : all_short ls ≡ true

pub spelling-of-lines : (t : List ℕ) (ls : List Line) → lines_of t ≡ some ls → Spelled t ls
unfolding lines_of
spelling-of-lines t ls e = go (next-some (all_lines t) _ ls e)
  where
    pick : (ks : List Line) (b : Bool) → headed ks ≡ b → ◌≡◌ {A = Option (List Line)} (cond b (some ks) none) (some ls) → (t ≡ spell ks) × (all_short ks ≡ true) → Spelled t ls
    pick ks true p q h = subst (Spelled t) (some-injective ks ls q) (record { text = h.0; first = p; few = h.1 })
    pick ks false p q h = absurd (none-ne-some ls q)

    go : (ks : List Line) × (all_lines t ≡ some ks) × (cond (headed ks) (some ks) none ≡ some ls) → Spelled t ls
    go k = pick k.0 (headed k.0) refl k.2 (lines-spelled (length t) t k.0 k.1)

-- ---- a line shortens the text, so that as much fuel as there are bytes is enough

same_by : (g h : List ℕ → Option (List Line)) (b : ℕ) (t : List ℕ) → ((p : Line × List ℕ) → line (b ∷ t) ≡ some p → g p.1 ≡ h p.1) → lines_by g (b ∷ t) ≡ lines_by h (b ∷ t)
same_by g h b t f = go (line (b ∷ t)) refl
  where
    go : (o : Reading Line) → line (b ∷ t) ≡ o → next o (λ l. next (g l.1) (λ ls. some (l.0 ∷ ls))) ≡ next o (λ l. next (h l.1) (λ ls. some (l.0 ∷ ls)))
    go none e = refl
    go (some p) e = ap (λ (q : Option (List Line)). next q (λ ls. some (p.0 ∷ ls))) (f p e)

fuel : (f g : ℕ) (t : List ℕ) → length t ≤ f → length t ≤ g → lines_in f t ≡ lines_in g t
fuel zero zero t h k = refl
fuel zero (suc g) [] h k = refl
fuel zero (suc g) (b ∷ t) h k = absurd (omega arith)
fuel (suc f) zero [] h k = refl
fuel (suc f) zero (b ∷ t) h k = absurd (omega arith)
fuel (suc f) (suc g) [] h k = refl
fuel (suc f) (suc g) (b ∷ t) h k =
    same_by (lines_in f) (lines_in g) b t (λ p e. let s = shorter (b ∷ t) p e in fuel f g p.1 (omega arith) (omega arith))

-- the lines of a text that starts with a line: that one, and those behind it
pub first_then : (t : List ℕ) (p : Line × List ℕ) → line t ≡ some p → all_lines t ≡ next (all_lines p.1) (λ ls. some (p.0 ∷ ls))
first_then [] p e = let s = shorter [] p e in absurd (omega arith)
first_then (b ∷ t) p e =
    let s = shorter (b ∷ t) p e in
    rw e (ap (λ (q : Option (List Line)). next q (λ ls. some (p.0 ∷ ls))) (fuel (length t) (length p.1) p.1 (omega arith) (le_refl (length p.1))))

pub first-none : (t : List ℕ) → 0 < length t → line t ≡ none → all_lines t ≡ none
first-none [] h e = absurd (omega arith)
first-none (b ∷ t) h e = rw e

-- there are none where none are behind whole lines
pub none-behind : (ls : List Line) (r : List ℕ) → all_short ls ≡ true → all_lines r ≡ none → all_lines (spell ls ++ r) ≡ none
none-behind [] r h e = e
none-behind (l ∷ ls) r h e =
    let s = both (short_line l) (all_short ls) h in
    let f = first_then (spell_to l (spell ls ++ r)) (l, spell ls ++ r) (line_reads l (spell ls ++ r) s.0) in
    sym (ap all_lines (line-then l (spell ls) r)) ∙ f ∙ ap (λ (q : Option (List Line)). next q (λ ms. some (l ∷ ms))) (none-behind ls r s.1 e)
