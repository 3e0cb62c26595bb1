-- A line of a windows text is read from its spelling, and a window that is read was spelled so.
use mathlib.Core.Path.{◌≡◌, refl, ap, ◌∙◌, subst}
use mathlib.Core.List.{List, [], ◌∷◌, ◌++◌}
use mathlib.Core.Option.{none, some, some-injective}
use mathlib.Core.Bool.{Bool, true, false, cond}
use Prim.Native.Nat.{ℕ, zero, suc, ◌≤◌, ◌<◌, ◌^◌}
use native.Mathlib.Omega.{arith}
use lib.Dec.{leb, ltb}
use lib.IntN.{ℤ, pos, negsuc}
use borrow.Author.Tests.{ltb-true, leb-true, lt-ltb}
use Rattle.lists.proofs.Tests.{both}
use Rattle.decimal.specs.Numerals.{short, most_digits}
use Rattle.decimal.specs.inner.Bytes.{kind_of}
use Rattle.decimal.specs.Reading.{Reading}
use Rattle.line.specs.Lines.{put_field}
use Rattle.line.specs.Parsing.{next, behind, field}
use Rattle.line.proofs.Lines.{next-some, behind-spelled, field-reads, field-spelled}
use Rattle.windows.specs.Windows.{is_window}
use Rattle.checking.specs.Places.{first_line}
use Rattle.listing.specs.Reasons.{WINDOW, line_reason}
use Rattle.listing.specs.Windows.{window_fields, minute_of, WindowDue, window, wrong, judged, fields_due, line_due, reasoned, window_due}
use Rattle.listing.specs.Spelled.{window_line}

-- ---- the numbers of a window are short
window-limits : (from to : ℕ) → is_window (record { from = from; to = to }) ≡ true → (from < to) × (to ≤ 10080)
unfolding is_window
window-limits from to h = let b = both (ltb from to) (leb to 10080) h in (ltb-true from to b.0, leb-true to 10080 b.1)

minute-short : (n : ℕ) → n ≤ 10080 → short (pos n) ≡ true
minute-short n h = lt-ltb n (10 ^ most_digits) (omega arith)

-- ---- a line is read from its spelling
pub line_read : (from to : ℕ) (r : List ℕ) → is_window (record { from = from; to = to }) ≡ true → window_due (window_line from to r) ≡ window from to r
unfolding window_due kind_of
line_read from to r h =
    let l = window-limits from to h in
    let f = field-reads (pos from) 9 (put_field (pos to) 10 r) (minute-short from (omega (arith, l.0, l.1))) refl in
    let g = field-reads (pos to) 10 r (minute-short to l.1) refl in
    rw (f, g, h) refl

-- ---- a window that is read was spelled so
-- what stands behind a window that is due
abbrev pub Spelled : (t : List ℕ) → WindowDue → Type 0
Spelled t (window from to rest) = (t ≡ window_line from to rest) × (is_window (record { from = from; to = to }) ≡ true)
Spelled t (wrong reason) = 0 ≤ reason

module _ (t : List ℕ) where
  -- two numbers that are read
  judged-spelled : (y z : ℤ) (r : List ℕ) → t ≡ WINDOW ++ put_field y 9 (put_field z 10 r) → Spelled t (judged (minute_of y) (minute_of z) r)
  judged-spelled y z r e = go (is_window (record { from = minute_of y; to = minute_of z })) refl
    where
      go : (v : Bool) → is_window (record { from = minute_of y; to = minute_of z }) ≡ v → Spelled t (cond v (window (minute_of y) (minute_of z) r) (wrong 1))
      go false h = omega arith
      go true h = (e ∙ signs y z (window-limits (minute_of y) (minute_of z) h), h)
        where
          signs : (p q : ℤ) → (minute_of p < minute_of q) × (minute_of q ≤ 10080) → WINDOW ++ put_field p 9 (put_field q 10 r) ≡ window_line (minute_of p) (minute_of q) r
          signs (pos m) (pos n) l = refl
          signs (pos m) (negsuc n) l = absurd (omega (arith, l.1))
          signs (negsuc m) q l = absurd (omega (arith, l.0, l.1))

  fields-spelled : (o : Reading (ℤ × ℤ)) → next (behind WINDOW t) window_fields ≡ o → Spelled t (fields_due o)
  fields-spelled none e = omega arith
  fields-spelled (some p) e = go (next-some (behind WINDOW t) window_fields p e)
    where
      go : (a : List ℕ) × (behind WINDOW t ≡ some a) × (window_fields a ≡ some p) → Spelled t (fields_due (some p))
      go (a, h, k) =
          let x = next-some (field 9 a) (λ u. next (field 10 u.1) (λ v. some ((u.0, v.0), v.1))) p k in
          let y = next-some (field 10 x.0.1) (λ v. some ((x.0.0, v.0), v.1)) p x.2 in
          let f = field-spelled 9 a x.0 x.1 in
          let g = field-spelled 10 x.0.1 y.0 y.1 in
          let i : ◌≡◌ {A = (ℤ × ℤ) × List ℕ} ((x.0.0, y.0.0), y.0.1) p = some-injective ((x.0.0, y.0.0), y.0.1) p y.2 in
          let w : t ≡ WINDOW ++ put_field x.0.0 9 (put_field y.0.0 10 y.0.1)
          = behind-spelled WINDOW t a h ∙ ap (λ (l : List ℕ). WINDOW ++ l) (f.text ∙ ap (λ (l : List ℕ). put_field x.0.0 9 l) g.text) in
          subst (λ (q : (ℤ × ℤ) × List ℕ). Spelled t (fields_due (some q))) i (judged-spelled x.0.0 y.0.0 y.0.1 w)

  reasoned-spelled : (reason : ℕ) (d : WindowDue) → Spelled t d → Spelled t (reasoned reason d)
  reasoned-spelled reason (window from to rest) s = s
  reasoned-spelled reason (wrong zero) s = omega arith
  reasoned-spelled reason (wrong (suc r)) s = s

pub due-spelled : (t : List ℕ) → Spelled t (window_due t)
unfolding window_due
due-spelled [] = omega arith
due-spelled (b ∷ t) = reasoned-spelled (b ∷ t) (line_reason (first_line (b ∷ t))) (line_due (b ∷ t)) (fields-spelled (b ∷ t) (next (behind WINDOW (b ∷ t)) window_fields) refl)
