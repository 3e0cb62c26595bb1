-- Laws of what comes before the loop over all lines: the PLAN line of a well formed text.
use mathlib.Core.Path.{◌≡◌, refl, sym, ap, ◌∙◌}
use mathlib.Core.List.{List, ◌∷◌}
use mathlib.Core.Option.{Option, none, some}
use mathlib.Core.Bool.{Bool, true, false}
use Prim.Native.Nat.{ℕ, ◌≤◌}
use native.Mathlib.Omega.{arith}
use lib.IntN.{ℤ}
use lib.ListN.{length, drop}
use Rattle.lists.specs.Lists.{is_some, list_in}
use Rattle.lists.specs.inner.Stores.{Put}
use Rattle.lists.proofs.Tests.{clash}
use Rattle.line.specs.declared.Line.{Line}
use Rattle.line.specs.declared.Line.TheVariants.{Plan}
use Rattle.line.specs.Parsing.{next, line}
use Rattle.line.specs.Places.{Line-at}
use Rattle.plan.specs.Limits.{most_cells}
use Rattle.text.specs.Spelling.{inner, headed}
use Rattle.text.specs.Reader.{lines_cause, read_cause}
use Rattle.text.proofs.Filling.{lines_none, lines_other}
use Rattle.outcomes.specs.inner.Rooms.{room_for_words}
use Rattle.text.specs.Parsing.{all_lines, lines_of}
use Rattle.text.proofs.Parsing.{first_then}
use Rattle.checking.specs.declared.Pen.{Pen}
use Rattle.checking.specs.Faults.{no_counts, layer_lines, faults_from, plan_faults}
use Rattle.checking.specs.Check.{more_error, fault_errors}
use Rattle.checking.specs.Places.{PutWords}
use Rattle.checking.specs.inner.Notes.{PenIn, Noted, LinesFrom, Headed}
use Rattle.checking.proofs.Notes.{noted-then, noted-all, more-few}

-- the lines behind the PLAN line
pub record Behind (s : List ℕ) (k : ℤ) (next : ℕ) : Type 0 where
  pub lines : List Line
  pub reads : all_lines (drop next s) ≡ some lines
  pub whole : lines_of s ≡ some (Plan k ∷ lines)

behind : (s : List ℕ) (k : ℤ) (i : ℕ) → Headed s k i → Behind s k i
unfolding lines_of
behind s k i h = go (all_lines (drop i s)) refl (first_then s (Plan k, drop i s) h.first.reads)
  where
    some-lines : (ls : List Line) (v : Bool) → headed (Plan k ∷ ls) ≡ v → all_lines (drop i s) ≡ some ls → all_lines s ≡ some (Plan k ∷ ls) → Behind s k i
    some-lines ls true e r w = record { lines = ls; reads = r; whole = rw (w, e) }
    some-lines ls false e r w = clash h.formed (rw (w, e))

    go : (o : Option (List Line)) → all_lines (drop i s) ≡ o → all_lines s ≡ next (all_lines (drop i s)) (λ ls. some (Plan k ∷ ls)) → Behind s k i
    go none e w = clash h.formed (let x : all_lines s ≡ none = w ∙ rw e in rw x)
    go (some ls) e w = some-lines ls (headed (Plan k ∷ ls)) refl e (w ∙ rw e)

pub lines-behind : (s : List ℕ) (k : ℤ) (i : ℕ) → Headed s k i → length s ≤ 65536 → LinesFrom s i
lines-behind s k i h short =
    let b = behind s k i h in
    record { formed = ap is_some b.reads; behind = omega (arith, h.first.after); inside = h.first.inside; short = short }

pub pen-start : (err : List ℕ) → room_for_words ≤ length err → PenIn err (record { at = 0; told = 0 })
pen-start err h = record { long = h; few = omega arith; at = omega arith }

-- all things are told, and then that there are more
pub faults-put : (s : List ℕ) (k : ℤ) (i layers : ℕ) (err mid late last : List ℕ) (p q : Pen) (r : ℕ) → Headed s k i → layers ≡ layer_lines (list_in (all_lines (drop i s)))
    → Noted err (record { at = 0; told = 0 }) (plan_faults k layers) mid p → Noted mid p (faults_from 2 no_counts (list_in (all_lines (drop i s)))) late q
    → Put late q.at (more_error q.told) last r → PutWords err (fault_errors (list_in (lines_of s))) last r
unfolding fault_errors
faults-put s k i layers err mid late last p q r h e a b d =
    let g = behind s k i h in
    let x : list_in (all_lines (drop i s)) ≡ g.lines = ap list_in g.reads in
    let y : list_in (lines_of s) ≡ Plan k ∷ g.lines = ap list_in g.whole in
    let w : layers ≡ layer_lines g.lines = e ∙ ap layer_lines x in
    let c = noted-then err mid late (record { at = 0; told = 0 }) p q (plan_faults k (layer_lines g.lines)) (faults_from 2 no_counts g.lines) (rw w at a) (rw x at b) in
    let z = noted-all err late last q _ r c d in
    rw y (record { put = z; few = omega (arith, z.place, d.place, more-few q.told, c.within.at, c.within.few) })

-- a well formed text starts with a PLAN line
module _ (s : List ℕ) (h : is_some (lines_of s) ≡ true) where
  pub plan-first : {X : Type 0} → line s ≡ none → X
  plan-first e = clash h (ap is_some (lines_none s e))

  pub plan-only : {X : Type 0} (l : Line) (i : ℕ) → inner l ≡ true → Line-at s 0 l i → X
  plan-only l i e f = clash h (ap is_some (lines_other s l i e f))

-- a text with cause 10 is well formed
pub ten-formed : (t : List ℕ) (cause : ℕ) → cause ≡ read_cause most_cells t → cause ≡ 10 → is_some (lines_of t) ≡ true
unfolding read_cause
ten-formed t cause e f = go (lines_of t) (sym f ∙ e)
  where
    go : (o : Option (List Line)) → 10 ≡ lines_cause most_cells o → is_some o ≡ true
    go none x = absurd (omega arith)
    go (some ls) x = refl

-- the cells that are lent do not matter
pub most-cause : (t : List ℕ) (room cause : ℕ) → cause ≡ read_cause room t → room ≡ most_cells → cause ≡ read_cause most_cells t
most-cause t room cause e f = e ∙ ap (λ (m : ℕ). read_cause m t) f
