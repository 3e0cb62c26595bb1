-- Laws of the tests of a line's bytes, as the code makes them byte by byte, and of the words of each reason.
use mathlib.Core.Path.{◌≡◌, sym, ap, ◌∙◌}
use mathlib.Core.List.{List}
use mathlib.Core.Bool.{Bool, true, false, ◌||◌}
use Prim.Native.Nat.{ℕ, ◌+◌, ◌≤◌, ◌<◌}
use native.Mathlib.Omega.{arith}
use lib.Dec.{leb}
use lib.ListN.{length, get_or, drop, drop_of_length-le}
use borrow.Author.Tests.{eq-eqb, ne_eqb, le-leb, lt-leb}
use Rattle.decimal.proofs.Places.{at_byte}
use Rattle.checking.specs.Reasons.{digit, digit_next, zero_leads, leading_zero, run_on, long_number}

-- ---- digits
module _ (l : List ℕ) (i : ℕ) where
  pub digit-there : (v : Bool) → i < length l → v ≡ digit (get_or l i 0) → v ≡ digit_next (drop i l)
  digit-there v h e = e ∙ sym (ap digit_next (at_byte l i h))

  pub digit-nowhere : length l ≤ i → false ≡ digit_next (drop i l)
  digit-nowhere h = sym (ap digit_next (drop_of_length-le l {i = i} h))

-- ---- a leading zero
module _ (before b : ℕ) (l : List ℕ) where
  pub no_zero : (b ≡ 48 → ⊥) → false ≡ zero_leads before b l
  unfolding zero_leads
  no_zero n = rw (ne_eqb b 48 n)

  module _ (z : b ≡ 48) where
    pub minus_zero : before ≡ 45 → true ≡ zero_leads before b l
    unfolding zero_leads
    minus_zero e = rw (eq-eqb b 48 z, eq-eqb before 45 e)

    module _ (n : before ≡ 45 → ⊥) where
      pub inner-zero : (before ≡ 9 → ⊥) → false ≡ zero_leads before b l
      unfolding zero_leads
      inner-zero m = rw (eq-eqb b 48 z, ne_eqb before 45 n, ne_eqb before 9 m)

      pub first-zero : before ≡ 9 → (v : Bool) → v ≡ digit_next l → v ≡ zero_leads before b l
      unfolding zero_leads
      first-zero e v d = d ∙ sym (rw (eq-eqb b 48 z, ne_eqb before 45 n, eq-eqb before 9 e))

-- the rest of the line, from i on and behind `before`, decides
pub record Leading (l : List ℕ) (before i : ℕ) : Type 0 where
  pub gives : leading_zero before (drop i l) ≡ leading_zero 0 l
  pub inside : i ≤ length l

module _ (l : List ℕ) (before i : ℕ) (k : Leading l before i) where
  next-zero : i < length l → (zero_leads before (get_or l i 0) (drop (i + 1) l) || leading_zero (get_or l i 0) (drop (i + 1) l)) ≡ leading_zero 0 l
  next-zero h = sym (ap (leading_zero before) (at_byte l i h)) ∙ k.gives

  pub leading-found : (v : Bool) → i < length l → v ≡ zero_leads before (get_or l i 0) (drop (i + 1) l) → v ≡ true → true ≡ leading_zero 0 l
  leading-found v h e t = sym (rw (sym e ∙ t)) ∙ next-zero h

  pub leading-more : (v : Bool) → i < length l → v ≡ zero_leads before (get_or l i 0) (drop (i + 1) l) → v ≡ false → Leading l (get_or l i 0) (i + 1)
  leading-more v h e f = record { gives = sym (rw (sym e ∙ f)) ∙ next-zero h; inside = omega arith }

  pub leading_end : length l ≤ i → false ≡ leading_zero 0 l
  leading_end h = sym (ap (leading_zero before) (drop_of_length-le l {i = i} h)) ∙ k.gives

-- ---- nine digits
pub run-longer : (run b : ℕ) (v : Bool) → v ≡ digit b → v ≡ true → run + 1 ≡ run_on run b
unfolding run_on
run-longer run b v e t = rw (sym e ∙ t) (omega arith)

pub run-over : (run b : ℕ) (v : Bool) → v ≡ digit b → v ≡ false → 0 ≡ run_on run b
unfolding run_on
run-over run b v e f = rw (sym e ∙ f)

-- the rest of the line, from i on and behind `run` digits, decides
pub record Running (l : List ℕ) (run i : ℕ) : Type 0 where
  pub gives : long_number run (drop i l) ≡ long_number 0 l
  pub inside : i ≤ length l
  pub few : run < 9

module _ (l : List ℕ) (run i : ℕ) (k : Running l run i) where
  next-run : (next : ℕ) → i < length l → next ≡ run_on run (get_or l i 0) → (leb 9 next || long_number next (drop (i + 1) l)) ≡ long_number 0 l
  next-run next h e = rw e (sym (ap (long_number run) (at_byte l i h)) ∙ k.gives)

  pub running-found : (next : ℕ) → i < length l → next ≡ run_on run (get_or l i 0) → 9 ≤ next → true ≡ long_number 0 l
  running-found next h e n = sym (rw (le-leb 9 next n)) ∙ next-run next h e

  pub running_more : (next : ℕ) → i < length l → next ≡ run_on run (get_or l i 0) → next < 9 → Running l next (i + 1)
  running_more next h e n = record { gives = sym (rw (lt-leb 9 next n)) ∙ next-run next h e; inside = omega arith; few = n }

  pub running-end : length l ≤ i → false ≡ long_number 0 l
  running-end h = sym (ap (long_number run) (drop_of_length-le l {i = i} h)) ∙ k.gives
