-- Laws of one line of a windows text: its minutes, and the window that it has.
use mathlib.Core.Path.{◌≡◌, refl, sym, ap, ◌∙◌}
use mathlib.Core.List.{List, [], ◌∷◌}
use mathlib.Core.Option.{Option, none, some}
use mathlib.Core.Bool.{Bool, true, false, cond}
use Prim.Native.Nat.{ℕ, zero, suc, ◌+◌, ◌≤◌, ◌<◌}
use native.Mathlib.Omega.{arith}
use lib.IntN.{ℤ, pos, negsuc, nat_abs}
use lib.Signed.{lt_z}
use lib.ListN.{length, drop, drop_of_length-le, length-drop}
use lib.Seq.{drop-drop}
use mir.Syntax.{w32}
use mir.Val.{SFits, Fits, to_z, of_z}
use mir.Facts.{to_z-of_z}
use borrow.Author.Tests.{ne_eqb}
use Rattle.geometry.proofs.Integers.{zarith, size-law, one_side, sfits→}
use Rattle.decimal.proofs.Signs.{short-fits}
use Rattle.line.specs.Parsing.{next, field}
use Rattle.line.specs.Places.{starts_with}
use Rattle.line.proofs.Words.{behind-is}
use Rattle.line.proofs.Places.{Fielded-at}
use Rattle.std.specs.Prelude.{Result, Ok, Err}
use Rattle.windows.specs.declared.Window.{Window}
use Rattle.windows.specs.Windows.{is_window}
use Rattle.checking.specs.Places.{first_line}
use Rattle.listing.specs.declared.reason.Reason.{Reason}
use Rattle.listing.specs.declared.reason.Reason.TheVariants as reason
use Rattle.listing.specs.Reasons.{WINDOW, reason_number, line_reason}
use Rattle.listing.specs.Windows.{window_fields, minute_of, WindowDue, wrong, judged, fields_due, line_due, reasoned, window_due}
use Rattle.listing.specs.inner.Parts.{Takes, judged_at, told_reason}

-- ---- a minute
pub minute-none : (z : ℤ) → lt_z z (pos 0) ≡ true → 10081 ≡ minute_of z
minute-none (pos n) e = absurd (omega zarith)
minute-none (negsuc n) e = refl

pub minute-some : (z : ℤ) → lt_z z (pos 0) ≡ false → nat_abs z ≡ minute_of z
minute-some (pos n) e = refl
minute-some (negsuc n) e = absurd (omega zarith)

pub minute-fits : (z : ℤ) → SFits w32 z → Fits w32 (nat_abs z)
minute-fits z f = omega (zarith, sfits→ w32 z f, size-law z, one_side z)

-- ---- a window that is judged
module _ (from to next : ℕ) (b : Bool) (e : b ≡ is_window (record { from = from; to = to })) where
  pub judged-good : b ≡ true → Ok (record { from = from; to = to }, next) ≡ judged_at from to next
  judged-good h = rw (sym e ∙ h)

  pub judged-bad : b ≡ false → Err reason.WrongWindow ≡ judged_at from to next
  judged-bad h = rw (sym e ∙ h)

-- ---- one line
module _ (t : List ℕ) (at : ℕ) where
  abbrev due : WindowDue
  due = fields_due (window_fields (drop at t))

  -- it is not well formed
  pub no-from : field 9 (drop at t) ≡ none → Takes t due (Err reason.OtherNumbers)
  no-from e = (0, refl, rw e)

  module _ (y : ℤ) (a : ℕ) (f : Fielded-at t at 9 y a) where
    pub no-to : field 10 (drop a t) ≡ none → Takes t due (Err reason.OtherNumbers)
    no-to e = (0, refl, rw (f.reads, e))

    module _ (z : ℤ) (b : ℕ) (g : Fielded-at t a 10 z b) where
      judged-takes : (from to : ℕ) → due ≡ judged from to (drop b t) → Takes t due (judged_at from to b)
      judged-takes from to e = go (is_window (record { from = from; to = to })) refl
        where
          go : (v : Bool) → is_window (record { from = from; to = to }) ≡ v → Takes t due (cond v (Ok (record { from = from; to = to }, b)) (Err reason.WrongWindow))
          go true h = (e ∙ rw h, g.inside)
          go false h = (1, refl, e ∙ rw h)

      -- both fields are there
      pub fields-take : (m n : ℕ) → m ≡ minute_of (to_z w32 (of_z w32 y)) → n ≡ minute_of (to_z w32 (of_z w32 z)) → (r : Result (Window × ℕ) Reason) → r ≡ judged_at m n b → Takes t due r
      fields-take m n p q r e =
          let p' : m ≡ minute_of y = p ∙ ap minute_of (to_z-of_z (short-fits y f.few)) in
          let q' : n ≡ minute_of z = q ∙ ap minute_of (to_z-of_z (short-fits z g.few)) in
          rw e (judged-takes m n (rw (f.reads, g.reads, p', q')))

due-some : (l : List ℕ) → 0 < length l → window_due l ≡ reasoned (line_reason (first_line l)) (line_due l)
unfolding window_due
due-some [] h = absurd (omega arith)
due-some (b ∷ l) h = refl

module _ (t : List ℕ) (at : ℕ) where
  at-line : line_due (drop at t) ≡ fields_due (next (cond (starts_with WINDOW (drop at t)) (some (drop 7 (drop at t))) none) window_fields)
  at-line = ap (λ (o : Option (List ℕ)). fields_due (next o window_fields)) (behind-is WINDOW (drop at t))

  pub other_word : starts_with WINDOW (drop at t) ≡ false → Takes t (line_due (drop at t)) (Err reason.OtherNumbers)
  other_word e = (0, refl, at-line ∙ rw e)

  pub window-word : starts_with WINDOW (drop at t) ≡ true → (r : Result (Window × ℕ) Reason) → Takes t (fields_due (window_fields (drop (at + 7) t))) r → Takes t (line_due (drop at t)) r
  window-word e r k =
      let m : line_due (drop at t) ≡ fields_due (window_fields (drop 7 (drop at t))) = rw e at at-line in
      rw (m ∙ ap (λ (l : List ℕ). fields_due (window_fields l)) (drop-drop 7 at t)) k

  -- there is none
  pub no_line : length t ≤ at → Takes t (window_due (drop at t)) (Err reason.FewWindows)
  unfolding window_due
  no_line h = (3, refl, rw (drop_of_length-le t h))

  -- a window, or what is told of a line that has none
  module _ (h : at < length t) where
    line-due : window_due (drop at t) ≡ reasoned (line_reason (first_line (drop at t))) (line_due (drop at t))
    line-due = due-some (drop at t) (omega (arith, length-drop at t))

    pub line-window : (r : Result (Window × ℕ) Reason) (p : Window × ℕ) → r ≡ Ok p → Takes t (line_due (drop at t)) r → Takes t (window_due (drop at t)) (Ok p)
    line-window r q e k = let p : Takes t (line_due (drop at t)) (Ok q) = rw e at k in (line-due ∙ ap (reasoned _) p.0, p.1)

    pub line-wrong : (r : Result (Window × ℕ) Reason) (x n : Reason) → r ≡ Err x → Takes t (line_due (drop at t)) r → reason_number n ≡ told_reason x (first_line (drop at t))
        → Takes t (window_due (drop at t)) (Err n)
    line-wrong r x n e k f = let p : Takes t (line_due (drop at t)) (Err x) = rw e at k in go p.0 p.1 p.2
      where
        go : (q : ℕ) → reason_number x ≡ suc q → line_due (drop at t) ≡ wrong q → Takes t (window_due (drop at t)) (Err n)
        go zero g d = (line_reason (first_line (drop at t)), rw g at f, line-due ∙ ap (reasoned _) d)
        go (suc q) g d = (suc q, f ∙ rw (ne_eqb (reason_number x) 1 (λ j. omega (arith, g, j))) g, line-due ∙ ap (reasoned _) d)
