-- Laws of a text that is read: the cause that refuses it, and the plan that it gives.
use mathlib.Core.Path.{◌≡◌, refl, sym, ap, ap₂, ◌∙◌}
use mathlib.Core.List.{List}
use Prim.Native.Nat.{ℕ, zero, suc, ◌*◌, ◌≤◌, ◌<◌}
use native.Mathlib.Omega.{arith}
use lib.IntN.{ℤ}
use lib.ListN.{length, take}
use borrow.Author.Tests.{le-leb, lt-leb}
use Rattle.lists.specs.Lists.{sum}
use Rattle.plan.specs.declared.Shape.{Shape}
use Rattle.plan.specs.Causes.{on_cause}
use Rattle.plan.specs.Plan.{Sound}
use Rattle.plan.specs.Limits.{most_cells}
use Rattle.std.specs.Prelude.{Result, Ok, Err}
use Rattle.plan.specs.declared.cause.Cause.{Cause}
use Rattle.plan.specs.Causes.{refusal, by_number}
use Rattle.text.specs.Reader.{ReadValues}
use Rattle.text.specs.Reader.{read_cause, text_shape, text_cells, read_answer, read_values, cells_after}
use Rattle.reporting.proofs.Texts.{plan-lent, shape-read, first_read}
use Rattle.reporting.proofs.Reports.{lent-sound, lent-inside}
use Rattle.outcomes.specs.Outcomes.{Outcome, refused}
use Rattle.asking.specs.Answers.{text_cause, on_plan}
use Rattle.asking_code.specs.Parts.{TextRead}

-- the number of a reader's answer
pub told-number : (r : Result Shape Cause) → (read_values (by_number r)).number ≡ refusal r
told-number (Ok s) = refl
told-number (Err c) = refl

-- a text that is too long
pub long-read : (t : List ℕ) (r : ReadValues) (lent : List ℤ) → 65536 < length t → r.number ≡ 13 → TextRead t r lent
unfolding text_cause
long-read t r lent h e = record { number = e ∙ rw (lt-leb (length t) 65536 h); plan = λ z. absurd (omega (arith, z, e)) }

-- any other, where cells for any plan are lent
pub short-read : (t : List ℕ) (cells after : List ℤ) (r : ReadValues) → length t ≤ 65536 → length cells ≡ most_cells → r ≡ read_values (read_answer (length cells) t)
    → r.number ≡ read_cause (length cells) t → after ≡ cells_after t cells → TextRead t r after
unfolding text_cause
short-read t cells after r short long e f g = record {
  number = rw long at f ∙ rw (le-leb (length t) 65536 short);
  plan = λ h. record {
    there = plan-lent t cells r short long e f after h g;
    shape = shape-read t cells r short long e f after h g;
    cells = first_read t cells r short long e f after h g;
  };
}

module _ (t : List ℕ) (r : ReadValues) (lent : List ℤ) (read : TextRead t r lent) where
  -- a text that is refused
  pub read-refused : (told : Shape → List ℤ → Outcome) → (r.number ≡ 0 → ⊥) → on_plan t told ≡ refused r.number
  unfolding on_plan
  read-refused told h = rw (← read.number) (go r.number h)
    where
      go : (n : ℕ) → (n ≡ 0 → ⊥) → on_cause n (told (text_shape t) (text_cells t)) refused ≡ refused n
      go zero h = absurd (h refl)
      go (suc n) h = refl

  -- the plan of any other: n rectangles of four cells
  module _ (h : r.number ≡ 0) (n : ℕ) (e : n ≡ sum r.shape.sizes) where
    pub read-plan : (told : Shape → List ℤ → Outcome) → on_plan t told ≡ told r.shape (take (4 * n) lent)
    unfolding on_plan
    read-plan told =
        let p = read.plan h in
        rw (← read.number, h) (ap₂ told (sym p.shape) (sym (ap (λ (m : ℕ). take (4 * m) lent) e ∙ p.cells)))

    pub read-sound : Sound r.shape (take (4 * n) lent)
    read-sound = lent-sound r.shape lent n e (read.plan h).there

    pub read-inside : 4 * n ≡ length (take (4 * n) lent)
    read-inside = lent-inside r.shape lent n e (read.plan h).there

    pub read_fits : 4 * n ≤ length lent
    read_fits = let f = (read.plan h).there.fits in omega arith
