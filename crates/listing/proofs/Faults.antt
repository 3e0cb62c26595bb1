-- Laws of a windows text: what is said where it has a fault, and where it has none.
use mathlib.Core.Path.{◌≡◌, refl, ap, ◌∙◌}
use mathlib.Core.List.{List, [], ◌∷◌, ◌++◌, append_assoc}
use Prim.Native.Nat.{ℕ, zero, suc, ◌*◌, ◌≤◌}
use native.Mathlib.Omega.{arith}
use lib.IntN.{ℤ}
use lib.ListN.{length, take, length-append}
use Rattle.std.specs.Prelude.{Result, Ok, Err}
use Rattle.lists.specs.Lists.{sum}
use Rattle.lists.specs.inner.Stores.{Put}
use Rattle.decimal.specs.Numerals.{decimal}
use Rattle.plan.specs.declared.Shape.{Shape}
use Rattle.plan.specs.Causes.{on_cause}
use Rattle.plan.proofs.Plan.{few, count-is, checked}
use Rattle.lists.proofs.Stores.{put-length}
use Rattle.printing.specs.Lines.{refused_line}
use Rattle.printing.specs.inner.Parts.{FitsAt}
use Rattle.printing.proofs.Puts.{put_both}
use Rattle.outcomes.proofs.Outcomes.{told-refused-with}
use Rattle.listing.proofs.Lengths.{digits-few}
use Rattle.outcomes.specs.Texts.{ascii, text_part}
use Rattle.outcomes.specs.Outcomes.{Told, refused_with, refused_reply}
use Rattle.outcomes.specs.inner.Rooms.{Room, room_for_words}
use Rattle.listing.specs.declared.Fault.{Fault}
use Rattle.listing.specs.Reasons.{reason_number, window_reasons, window_words}
use Rattle.listing.specs.Windows.{FaultValues, fault_told, no_fault, fault_from, hours_from, fault_line}
use Rattle.listing.specs.Hours.{timed_said, plan_hours}
use Rattle.listing.specs.inner.Parts.{Ordered, Finds, ReadInto}
use Rattle.listing.proofs.Reasons.{number-above, words-few}
use Rattle.listing.proofs.Windowed.{hours-read, hours-part}

-- ---- the buffer
module _ (s : Shape) (cells : List ℤ) (order : List ℕ) (h : Ordered s cells order) (n : ℕ) (e : n ≡ sum s.sizes) where
  pub ready-few : n ≤ 3072
  ready-few = omega (arith, e, few s cells h.0, count-is s cells (checked s cells h.0))

  pub ready-hours : (hours : List ℕ) → length hours ≡ 6144 → 2 * n ≤ length hours
  ready-hours hours l = omega (arith, ready-few)

-- ---- what is said
faulty : {A : Type 0} (accepted refused : A) (c : ℕ) → (c ≡ 0 → ⊥) → on_cause c accepted (λ n. refused) ≡ refused
faulty accepted refused zero h = absurd (h refl)
faulty accepted refused (suc c) h = refl

module _ (windows : List ℕ) (s : Shape) (cells : List ℤ) (n : ℕ) (e : n ≡ sum s.sizes) (first hours : List ℕ) (a : Result (Unit {0}) Fault) (r : ReadInto windows n first a hours) where
  pub fault-said : (f : Fault) → a ≡ Err f → plan_hours windows s cells ≡ refused_with 24 (fault_line (fault_told f))
  unfolding plan_hours
  fault-said f h =
      let g : Finds (fault_from n 1 windows) (Err f) = rw h at r.fault in
      rw (← e, ← g) (faulty _ (refused_with 24 (fault_line (fault_told f))) (reason_number f.reason) (number-above f.reason))

  module _ (u : Unit {0}) (z : a ≡ Ok u) (room : 2 * n ≤ length first) where
    none-found : fault_from n 1 windows ≡ no_fault
    none-found = let g : Finds (fault_from n 1 windows) (Ok u) = rw z at r.fault in g

    pub hours-said : plan_hours windows s cells ≡ timed_said s cells (take (2 * n) hours)
    unfolding plan_hours
    hours-said = rw (← e, none-found, hours-read windows n first a hours r u z room)

    pub hours_two : length (take (2 * n) hours) ≡ 2 * sum s.sizes
    hours_two = omega (arith, e, hours-part windows n first a hours r u z room)

-- the same, in a buffer for the windows of any plan
module _ (windows : List ℕ) (s : Shape) (cells : List ℤ) (order : List ℕ) (h : Ordered s cells order) (n : ℕ) (e : n ≡ sum s.sizes) (first hours : List ℕ) (l : length first ≡ 6144)
    (a : Result (Unit {0}) Fault) (r : ReadInto windows n first a hours) where
  pub read-inside : 2 * n ≤ length hours
  read-inside = omega (arith, ready-few s cells order h n e, l, put-length first hours (hours_from n windows) 0 r.reached r.stored)

  module _ (u : Unit {0}) (z : a ≡ Ok u) where
    pub read-said : plan_hours windows s cells ≡ timed_said s cells (take (2 * n) hours)
    read-said = hours-said windows s cells n e first hours a r u z (ready-hours s cells order h n e first l)

    pub read-part : 2 * n ≡ length (take (2 * n) hours)
    read-part = hours-part windows n first a hours r u z (ready-hours s cells order h n e first l)

    pub read-two : length (take (2 * n) hours) ≡ 2 * sum s.sizes
    read-two = hours_two windows s cells n e first hours a r u z (ready-hours s cells order h n e first l)

-- ---- the line
parts : (f : FaultValues) → fault_line f ≡ ascii "overlay: windows, line " ++ (decimal f.line ++ (ascii ": " ++ (window_words f.reason ++ 10 ∷ [])))
unfolding fault_line
parts f = simp append_assoc

module _ (f : FaultValues) (err : List ℕ) where
  abbrev rest : List ℕ
  rest = decimal f.line ++ (ascii ": " ++ (window_words f.reason ++ 10 ∷ []))

  rest-few : length rest ≤ 514
  rest-few =
      omega (arith, length-append (decimal f.line) (ascii ": " ++ (window_words f.reason ++ 10 ∷ [])), length-append (window_words f.reason) (10 ∷ []), digits-few f.line, words-few f.reason)

  line-few : length (fault_line f) ≤ 537
  line-few = omega (arith, ap length (parts f), length-append (ascii "overlay: windows, line ") rest, rest-few)

  -- the words being a line of the table
  module _ (n : ℕ) (lines : List ℕ) (e : lines ≡ window_reasons) (g : n ≡ f.reason) (mid : List ℕ) (m : ℕ) (p : Put err 0 (ascii "overlay: windows, line ") mid m) where
    abbrev lined : List ℕ
    lined = decimal f.line ++ (ascii ": " ++ (text_part 10 n lines ++ 10 ∷ []))

    rest-is : rest ≡ lined
    unfolding window_words
    rest-is = rw (e, g)

    pub fault-room : room_for_words ≤ length err → FitsAt mid m lined
    fault-room h = rw (← rest-is) (record { fits = omega (arith, rest-few, p.place, put-length err mid (ascii "overlay: windows, line ") 0 m p) })

    pub fault-put : (last : List ℕ) (r : ℕ) → Put mid m lined last r → Put err 0 (fault_line f) last r
    fault-put last r q = put_both err 0 (ascii "overlay: windows, line ") lined mid m (fault_line f) last r p q (parts f ∙ ap (λ (l : List ℕ). ascii "overlay: windows, line " ++ l) rest-is)

  -- it is told
  pub fault-told : (out out_after errAfter : List ℕ) (m n : ℕ) → Room out err → Put out 0 (refused_line 24) out_after m → Put err 0 (fault_line f) errAfter n
      → Told (refused_with 24 (fault_line f)) out err out_after errAfter (refused_reply m n)
  fault-told out out_after errAfter m n r p q = told-refused-with out err out_after errAfter (fault_line f) 24 m n r (omega (arith, line-few, r.words)) p q
