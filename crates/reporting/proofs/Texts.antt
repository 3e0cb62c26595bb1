-- Laws of the report on a text: the causes that refuse it, and the plan that it gives.
use mathlib.Core.Path.{◌≡◌, refl, sym, ap, ◌∙◌}
use mathlib.Core.Logic.{◌⊎◌, inl, inr}
use mathlib.Core.List.{List, ◌++◌}
use Prim.Native.Nat.{ℕ, zero, suc, ◌*◌, ◌≤◌, ◌<◌}
use native.Mathlib.Omega.{arith}
use lib.IntN.{ℤ}
use lib.ListN.{length, take, drop, length-append, length-take}
use lib.Seq.{take_at, take-append_seam}
use borrow.Author.Tests.{le-leb, lt-leb}
use Rattle.lists.specs.Lists.{sum}
use Rattle.lists.proofs.Tests.{total}
use Rattle.plan.specs.Limits.{most_cells}
use Rattle.std.specs.Prelude.{Result}
use Rattle.plan.specs.declared.cause.Cause.{Cause}
use Rattle.plan.specs.Causes.{refusal}
use Rattle.text.specs.Reader.{ReadValues}
use Rattle.text.specs.Reader.{read_cause, text_shape, text_cells, read_answer, read_values, cells_after}
use Rattle.text.proofs.Theorems.{of-plan}
use Rattle.lists.specs.inner.Stores.{Put}
use Rattle.lists.proofs.Stores.{put-start, put-length}
use Rattle.printing.specs.Lines.{refused_line}
use Rattle.printing.proofs.Lines.{refused-few}
use Rattle.reporting.specs.declared.Printout.{Printout}
use Rattle.reporting.specs.Report.{report_of, report_cause, room_for_any, out_after}
use Rattle.reporting.specs.inner.Parts.{plan_cells, Lent, plan_cause, plan_report, Printed}
use Rattle.reporting.proofs.Reports.{plan-longest}

pub long-text : (t : List ℕ) → 65536 < length t → report_of t ≡ refused_line 13
unfolding report_of report_cause
long-text t h = rw (lt-leb (length t) 65536 h)

pub long-cause : (t : List ℕ) → 65536 < length t → report_cause t ≡ 13
unfolding report_cause
long-cause t h = rw (lt-leb (length t) 65536 h)

module _ (t : List ℕ) (short : length t ≤ 65536) where
  refused-text-cause : (n : ℕ) → n ≡ read_cause most_cells t → (n ≡ 0 → ⊥) → report_cause t ≡ n
  unfolding report_cause
  refused-text-cause zero e h = absurd (h refl)
  refused-text-cause (suc n) e h = rw (le-leb (length t) 65536 short, ← e)

  plan-text-cause : read_cause most_cells t ≡ 0 → report_cause t ≡ plan_cause (text_shape t) (text_cells t)
  unfolding report_cause plan_cause
  plan-text-cause e = rw (le-leb (length t) 65536 short, e)

  pub refused-text : (n : ℕ) → n ≡ read_cause most_cells t → (n ≡ 0 → ⊥) → report_of t ≡ refused_line n
  unfolding report_of report_cause
  refused-text zero e h = absurd (h refl)
  refused-text (suc n) e h = rw (le-leb (length t) 65536 short, ← e)

  pub plan-text : read_cause most_cells t ≡ 0 → report_of t ≡ plan_report (text_shape t) (text_cells t)
  unfolding report_of report_cause plan_report plan_cause
  plan-text e = rw (le-leb (length t) 65536 short, e)

-- no report is longer
pub never-longer : (t : List ℕ) → length (report_of t) ≤ room_for_any
never-longer t = go (total (length t) 65536)
  where
    read : length t ≤ 65536 → (n : ℕ) → n ≡ read_cause most_cells t → length (report_of t) ≤ room_for_any
    read h zero e = rw (plan-text t h (sym e)) (plan-longest (text_shape t) (text_cells t) (of-plan most_cells t (sym e)).sound)
    read h (suc n) e = rw (refused-text t h (suc n) e (λ z. omega (arith, z))) (omega (arith, refused-few (suc n)))

    go : (length t ≤ 65536) ⊎ (65536 < length t) → length (report_of t) ≤ room_for_any
    go (inl h) = read h (read_cause most_cells t) refl
    go (inr h) = rw (long-text t h) (omega (arith, refused-few 13))

-- ---- what the reader answers where cells for any plan are lent
module _ (t : List ℕ) (cells : List ℤ) (r : ReadValues) (short : length t ≤ 65536) (long : length cells ≡ most_cells) (e : r ≡ read_values (read_answer (length cells) t)) (f : r.number ≡ read_cause (length cells) t) where
  pub refused-reading : (r.number ≡ 0 → ⊥) → report_of t ≡ refused_line r.number
  refused-reading h = refused-text t short r.number (rw long at f) h

  pub refused-reading-cause : (r.number ≡ 0 → ⊥) → report_cause t ≡ r.number
  refused-reading-cause h = refused-text-cause t short r.number (rw long at f) h

  module _ (after : List ℤ) (h : r.number ≡ 0) (g : after ≡ cells_after t cells) where
    pub accepted : read_cause most_cells t ≡ 0
    accepted = sym (rw long at f) ∙ h

    -- the shape and the cells of the text's plan
    pub shape-read : r.shape ≡ text_shape t
    shape-read = ap (λ (x : ReadValues). x.shape) (rw long at e) ∙ rw accepted

    cells-read : after ≡ text_cells t ++ drop (length (text_cells t)) cells
    cells-read = g ∙ rw (long, accepted)

    pub first_read : plan_cells r.shape after ≡ text_cells t
    first_read = rw (shape-read, cells-read) (take_at (text_cells t) (drop (length (text_cells t)) cells) (4 * sum (text_shape t).sizes) (of-plan most_cells t accepted).four)

    pub plan-lent : Lent r.shape after
    plan-lent =
        let p = of-plan most_cells t accepted in
        record {
          fits = rw (shape-read, cells-read) (omega (arith, p.four, length-append (text_cells t) (drop (length (text_cells t)) cells)));
          sound = rw (first_read, shape-read) p.sound;
        }

    pub plan-reading : report_of t ≡ plan_report r.shape (plan_cells r.shape after)
    plan-reading = plan-text t short accepted ∙ rw (first_read, shape-read)

    pub plan-reading-cause : report_cause t ≡ plan_cause r.shape (plan_cells r.shape after)
    plan-reading-cause = plan-text-cause t short accepted ∙ rw (first_read, shape-read)

-- ---- the buffer
-- bytes and a cause that are the same, however they are made
pub printed-same : (n m : ℕ) (xs whole out last : List ℕ) (r : Printout) → Printed n xs out last r → m ≡ n → whole ≡ xs → Printed m whole out last r
printed-same n m xs whole out last r p e f = rw (e, f) p

pub printed-put : (told : Result (Unit {0}) Cause) (size : ℕ) (bytes out last : List ℕ) → Put out 0 bytes last size → Printed (refusal told) bytes out last (record { told = told; size = size })
printed-put told size bytes out last p = record { number = refl; put = p }

-- r bytes stand at its start, said twice, so that the part that they are can be lent
abbrev Inside : ℕ → List ℕ → Type 0
Inside r out = (r ≤ length out) × (r ≡ length (take r out))

inside : (r : ℕ) (out : List ℕ) → r ≤ length out → Inside r out
inside r out h = (h, omega (arith, length-take r out))

pub printed : (t out last : List ℕ) (r : ℕ) → room_for_any ≤ length out → Put out 0 (report_of t) last r
    → (r ≡ length (report_of t)) × ((last ≡ out_after t out) × Inside r last)
printed t out last r h p =
    let e = put-start out last (report_of t) r (omega (arith, never-longer t)) p in
    let l = put-length out last (report_of t) 0 r p in
    (omega (arith, p.place), (e, inside r last (omega (arith, p.place, l, never-longer t))))

-- its first bytes, as many as the report has, are the report
pub first-bytes : (t out last : List ℕ) (r : ℕ) → r ≡ length (report_of t) → last ≡ out_after t out → take r last ≡ report_of t
first-bytes t out last r e f = rw (e, f) (take-append_seam (report_of t) _)
