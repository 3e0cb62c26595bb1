-- Laws of reading a text and making its plan's order.
use mathlib.Core.Path.{◌≡◌, refl, sym, ap, ◌∙◌}
use mathlib.Core.List.{List, ◌++◌}
use Prim.Native.Nat.{ℕ, zero, suc, ◌*◌, ◌≤◌, ◌<◌}
use native.Mathlib.Omega.{arith}
use lib.IntN.{ℤ}
use lib.ListN.{length, take, drop, length-append, length-take}
use lib.Seq.{take_at}
use borrow.Author.Tests.{le-leb, lt-leb}
use Rattle.lists.specs.Lists.{sum}
use Rattle.plan.specs.declared.Shape.{Shape}
use Rattle.plan.specs.Limits.{most_cells, most_rects}
use Rattle.plan.specs.Plan.{count, Sound, grown}
use Rattle.plan.proofs.Plan.{few}
use Rattle.sweep.specs.Sweep.{sweep_order, order_after}
use Rattle.text.specs.Reader.{ReadValues}
use Rattle.text.specs.Reader.{read_cause, read_answer, read_values, cells_after}
use Rattle.reporting.specs.inner.Parts.{plan_cells, Lent}
use Rattle.reporting.proofs.Reports.{swept}
use Rattle.reporting.proofs.Texts.{plan-lent, shape-read, first_read}
use Rattle.outcomes.specs.Outcomes.{Outcome, refused}
use Rattle.listing.specs.Plans.{text_cause, on_plan}
use Rattle.listing.specs.inner.Parts.{Ready, Prepared}

-- ---- what is said
module _ (say : Shape → List ℤ → Outcome) (t : List ℕ) where
  -- .. of a text that is refused
  pub said-refused : (n : ℕ) → n ≡ text_cause t → (n ≡ 0 → ⊥) → on_plan say t ≡ refused n
  unfolding on_plan
  said-refused zero e h = absurd (h refl)
  said-refused (suc n) e h = rw (← e)

  -- .. of its plan
  pub said-plan : (r : ReadValues) (lent : List ℤ) (order : List ℕ) → Prepared t r lent order → r.number ≡ 0 → on_plan say t ≡ say r.shape (plan_cells r.shape lent)
  unfolding on_plan
  said-plan r lent order p e = rw (sym p.cause ∙ e, p.cells e, p.shape e)

-- ---- reading
-- a text that is too long
pub long-refused : (t : List ℕ) (r : ReadValues) (lent : List ℤ) (order : List ℕ) → 65536 < length t → r.number ≡ 13 → Prepared t r lent order
unfolding text_cause
long-refused t r lent order h e =
    let no : r.number ≡ 0 → ⊥ = λ z. omega (arith, z, e) in
    record { cause = e ∙ rw (lt-leb (length t) 65536 h); ready = λ z. absurd (no z); shape = λ z. absurd (no z); cells = λ z. absurd (no z) }

module _ (t : List ℕ) (cells : List ℤ) (r : ReadValues) (short : length t ≤ 65536) (long : length cells ≡ most_cells) (e : r ≡ read_values (read_answer (length cells) t)) (f : r.number ≡ read_cause (length cells) t) where
  read-cause : r.number ≡ text_cause t
  unfolding text_cause
  read-cause = rw (le-leb (length t) 65536 short) (rw long at f)

  -- one that the reader refuses
  pub read-refused : (lent : List ℤ) (order : List ℕ) → (r.number ≡ 0 → ⊥) → Prepared t r lent order
  read-refused lent order h = record { cause = read-cause; ready = λ z. absurd (h z); shape = λ z. absurd (h z); cells = λ z. absurd (h z) }

  module _ (after : List ℤ) (h : r.number ≡ 0) (g : after ≡ cells_after t cells) where
    pub read-lent : Lent r.shape after
    read-lent = plan-lent t cells r short long e f after h g

    -- one that is accepted
    pub read-ready : (order : List ℕ) → Ready r.shape after order → Prepared t r after order
    read-ready order y =
        record { cause = read-cause; ready = λ z. y; shape = λ z. shape-read t cells r short long e f after h g; cells = λ z. first_read t cells r short long e f after h g }

-- ---- the order
module _ (s : Shape) (lent : List ℤ) (n : ℕ) (e : n ≡ sum s.sizes) (h : Lent s lent) where
  pub lent-part : 4 * n ≡ length (take (4 * n) lent)
  lent-part = omega (arith, length-take (4 * n) lent, h.fits)

  pub part_sound : Sound s (take (4 * n) lent)
  part_sound = rw e h.sound

  pub part_count : count (take (4 * n) lent) ≡ n
  part_count = omega (arith, lent-part)

  pub part-few : (order : List ℕ) → length order ≡ most_rects → n ≤ length order
  part-few order l = omega (arith, few s (take (4 * n) lent) part_sound, part_count)

  pub order-part : (order : List ℕ) → length order ≡ most_rects → length (take n order) ≡ n
  order-part order l = omega (arith, part-few order l, length-take n order)

  -- the part of the order's buffer that is made
  pub order-ready : (order part after : List ℕ) → length order ≡ most_rects → length part ≡ length (take n order) → part ≡ order_after s (take (4 * n) lent) (take n order)
      → after ≡ part ++ drop n order → Ready s lent after
  order-ready order part after l k p a =
      let b = part-few order l in
      let m : length part ≡ n = omega (arith, k, length-take n order, b) in
      let w = swept s (take (4 * n) lent) (take n order) part part_sound (omega (arith, length-take n order, b, part_count)) p in
      record {
        plan = h;
        long = omega (arith, e, ap length a, length-append part (drop n order), m);
        swept = rw (← e) (ap (take n) a ∙ (take_at part (drop n order) n m ∙ w));
      }

-- ---- a plan that is ready, n rectangles of four cells
pub prepared-ready : (t : List ℕ) (r : ReadValues) (lent : List ℤ) (order : List ℕ) → Prepared t r lent order → r.number ≡ 0 → Ready r.shape lent order
prepared-ready t r lent order p e = p.ready e

module _ (s : Shape) (lent : List ℤ) (order : List ℕ) (h : Ready s lent order) (n : ℕ) (e : n ≡ sum s.sizes) where
  pub ready-cells : 4 * n ≡ length (take (4 * n) lent)
  ready-cells = lent-part s lent n e h.plan

  pub ready-order : n ≡ length (take n order)
  ready-order = omega (arith, e, h.long, length-take n order)

  pub ready-sound : Sound s (take (4 * n) lent)
  ready-sound = part_sound s lent n e h.plan

  pub ready-swept : take n order ≡ sweep_order (grown s (take (4 * n) lent))
  ready-swept = rw e h.swept

  pub lent-said : (say : Shape → List ℤ → Outcome) → say s (plan_cells s lent) ≡ say s (take (4 * n) lent)
  lent-said say = rw e
