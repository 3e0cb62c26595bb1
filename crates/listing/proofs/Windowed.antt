-- Laws of reading a windows text, window by window.
use mathlib.Core.Path.{◌≡◌, refl, sym, ap, ◌∙◌}
use mathlib.Core.List.{List, [], ◌∷◌}
use Prim.Native.Nat.{ℕ, zero, suc, ◌+◌, ◌-◌, ◌*◌, ◌≤◌, ◌<◌}
use native.Mathlib.Omega.{arith}
use lib.ListN.{length, set, take, drop, drop_of_length-le, length-drop}
use lib.Seq.{take_at}
use mathlib.Core.Bool.{Bool, true, false, cond}
use lib.Dec.{eqb}
use borrow.Author.Tests.{ne_eqb}
use Rattle.lists.specs.inner.Stores.{Put}
use Rattle.lists.proofs.Stores.{Left, left-all, left-byte, left-none, put-start}
use Rattle.std.specs.Prelude.{Result, Ok, Err}
use Rattle.windows.specs.declared.Window.{Window}
use Rattle.listing.specs.declared.reason.Reason.{Reason}
use Rattle.listing.specs.declared.reason.Reason.TheVariants as reason
use Rattle.listing.specs.declared.Fault.{Fault}
use Rattle.listing.specs.Reasons.{reason_number}
use Rattle.listing.specs.Windows.{FaultValues, WindowDue, window, wrong, window_due, fault_due, beyond, fault_from, hours_due, hours_from}
use Rattle.listing.specs.inner.Parts.{Takes, Finds, ReadInto}
use Rattle.listing.proofs.Reasons.{window_only}

-- ---- a line behind the last window
fault-beyond : (line : ℕ) (l : List ℕ) → 0 < length l → fault_from 0 line l ≡ record { reason = beyond (window_due l); line = line }
fault-beyond line [] h = absurd (omega arith)
fault-beyond line (b ∷ l) h = refl

module _ (t l : List ℕ) (r : Result (Window × ℕ) Reason) (k : Takes t (window_due l) r) where
  -- a window
  pub beyond-window : (p : Window × ℕ) → r ≡ Ok p → 3 ≡ beyond (window_due l)
  beyond-window p e = let x : Takes t (window_due l) (Ok p) = rw e at k in rw x.0

  -- none, by what it is
  pub beyond-stated : r ≡ Err reason.WrongWindow → 3 ≡ beyond (window_due l)
  beyond-stated e =
      let x : Takes t (window_due l) (Err reason.WrongWindow) = rw e at k in
      let n : x.0 ≡ 1 = omega (arith, x.1) in
      rw (x.2, n)

  pub beyond-formed : (x : Reason) → r ≡ Err x → (x ≡ reason.WrongWindow → ⊥) → reason_number x ≡ beyond (window_due l)
  beyond-formed x e h =
      let y : Takes t (window_due l) (Err x) = rw e at k in
      let n : y.0 ≡ 1 → ⊥ = λ g. h (window_only x (omega (arith, g, y.1))) in
      rw (y.2, ne_eqb y.0 1 n) y.1

-- ---- line after line: i windows are read, and the text goes on at `at`
module _ (t : List ℕ) (n : ℕ) (first : List ℕ) where
  pub record Windowed (hours : List ℕ) (at i : ℕ) : Type 0 where
    pub few : i ≤ n
    pub inside : at ≤ length t
    pub fault : fault_from (n - i) (suc i) (drop at t) ≡ fault_from n 1 t
    pub left : Left first 0 (hours_from n t) hours (2 * i) (hours_from (n - i) (drop at t))

  pub none-windowed : Windowed first 0 0
  none-windowed = let z : n - 0 ≡ n = omega arith in record { few = omega arith; inside = omega arith; fault = rw z; left = rw z (left-all _ _ _) }

  module _ (hours : List ℕ) (at i : ℕ) (w : Windowed hours at i) where
    module _ (h : i < n) (r : Result (Window × ℕ) Reason) (k : Takes t (window_due (drop at t)) r) where
      abbrev more : ℕ
      more = n - (i + 1)

      one_more : n - i ≡ suc more
      one_more = omega arith

      -- something is wrong
      pub wrong-here : (e' : Reason) → r ≡ Err e' → ReadInto t n first (Err (record { reason = e'; line = i + 1 })) hours
      wrong-here e' e =
          let x = rw e at k in
          let l : i + 1 ≡ suc i = omega arith in
          record {
            fault = rw (← w.fault, one_more, x.2, x.1, l);
            reached = 2 * i;
            stored = left-none _ _ _ _ _ (rw (one_more, x.2) at w.left);
          }

      -- a window
      module _ (p : Window × ℕ) (e : r ≡ Ok p) where
        here : (window_due (drop at t) ≡ window p.0.from p.0.to (drop p.1 t)) × (p.1 ≤ length t)
        here = rw e at k

        pub one-windowed : Windowed (set (set hours (2 * i) p.0.from) (2 * i + 1) p.0.to) p.1 (i + 1)
        one-windowed =
            let a : 2 * (i + 1) ≡ 2 * i + 1 + 1 = omega arith in
            let l : suc (i + 1) ≡ suc (suc i) = omega arith in
            record {
              few = omega arith;
              inside = here.1;
              fault = rw l (rw (one_more, here.0) at w.fault);
              left = rw a (left-byte _ _ _ _ _ p.0.to _ (left-byte _ _ _ _ _ p.0.from _ (rw (one_more, here.0) at w.left)));
            }

    module _ (h : n ≤ i) where
      none_more : n - i ≡ 0
      none_more = omega arith

      all-stored : Put first 0 (hours_from n t) hours (2 * i)
      all-stored = left-none _ _ _ _ _ (rw none_more at w.left)

      -- more lines
      pub line-over : (x : Reason) → at < length t → reason_number x ≡ beyond (window_due (drop at t)) → ReadInto t n first (Err (record { reason = x; line = i + 1 })) hours
      line-over x l e =
          let k : i + 1 ≡ suc i = omega arith in
          let f : fault_from 0 (suc i) (drop at t) ≡ fault_from n 1 t = rw none_more at w.fault in
          let g = fault-beyond (suc i) (drop at t) (omega (arith, length-drop at t)) in
          record { fault = rw (e, k) (sym g ∙ f); reached = 2 * i; stored = all-stored }

      pub all-windowed : length t ≤ at → ReadInto t n first (Ok tt) hours
      all-windowed l = record { fault = sym (rw (none_more, drop_of_length-le t l) at w.fault); reached = 2 * i; stored = all-stored }

-- ---- the windows of a text without a fault
hours-long : (n line : ℕ) (t : List ℕ) → (fault_from n line t).reason ≡ 0 → length (hours_from n t) ≡ 2 * n
hours-long zero line t e = refl
hours-long (suc n) line t e = go (window_due t) e (hours-long n (suc line))
  where
    go : (d : WindowDue) → (fault_due d line (fault_from n (suc line))).reason ≡ 0 → ((u : List ℕ) → (fault_from n (suc line) u).reason ≡ 0 → length (hours_from n u) ≡ 2 * n)
        → length (hours_due d (hours_from n)) ≡ 2 * suc n
    go (window from to rest) q f = omega (arith, f rest q)
    go (wrong r) q f = absurd (omega (arith, q))

module _ (t : List ℕ) (n : ℕ) (first : List ℕ) (a : Result (Unit {0}) Fault) (hours : List ℕ) (r : ReadInto t n first a hours) (u : Unit {0}) (z : a ≡ Ok u) (room : 2 * n ≤ length first) where
  long : length (hours_from n t) ≡ 2 * n
  long = let f : Finds (fault_from n 1 t) (Ok u) = rw z at r.fault in hours-long n 1 t (ap (λ (x : FaultValues). x.reason) f)

  pub hours-read : take (2 * n) hours ≡ hours_from n t
  hours-read = rw (put-start first hours (hours_from n t) r.reached (omega (arith, long)) r.stored) (take_at (hours_from n t) (drop (length (hours_from n t)) first) (2 * n) long)

  pub hours-part : 2 * n ≡ length (take (2 * n) hours)
  hours-part = omega (arith, ap length hours-read, long)
