-- What refuses a text, and what is said else.
use mathlib.Core.Path.{◌≡◌, refl, sym, ap, ◌∙◌}
use mathlib.Core.List.{List, [], ◌++◌, append_assoc}
use mathlib.Core.Logic.{◌↔◌, ◌⊎◌, inl, inr}
use Prim.Native.Nat.{ℕ, zero, suc, ◌≤◌, ◌<◌}
use native.Mathlib.Omega.{arith}
use lib.IntN.{ℤ}
use lib.ListN.{length, take}
use borrow.Author.Tests.{le-leb, lt-leb}
use Rattle.lists.specs.Lists.{sum}
use Rattle.lists.proofs.Tests.{total}
use Rattle.decimal.specs.Numerals.{decimal}
use Rattle.plan.specs.declared.Shape.{Shape}
use Rattle.plan.specs.Causes.{Check, fails, passes, Passed}
use Rattle.plan.specs.Limits.{most_cells}
use Rattle.plan.specs.Plan.{Sound}
use Rattle.text.specs.Plans.{text_of}
use Rattle.text.specs.Reader.{read_cause, text_shape}
use Rattle.text.specs.Theorems.{Formed, PlanText}
use Rattle.text.proofs.Text.{measured}
use Rattle.text.proofs.Theorems.{shape-back, read-causes, exactly}
use Rattle.printing.specs.Lines.{line_of, refused_line}
use Rattle.outcomes.specs.Texts.{ascii}
use Rattle.outcomes.specs.Outcomes.{done, refused_with}
use Rattle.checking.specs.Lines.{bad_line}
use Rattle.checking.specs.Check.{check_cause, plan_found, line_error, bad_error, why_lines, check_of, fault_errors}
use Rattle.checking.specs.Theorems.{FirstBad, FirstFault, Checks}
use Rattle.checking.proofs.FirstBad.{first-bad}
use Rattle.checking.proofs.Disagreeing.{disagreeing, something}
use Rattle.checking.proofs.Silent.{silent}

-- a text that is not too long has the reader's cause
short-cause : (t : List ℕ) → length t ≤ 65536 → check_cause t ≡ read_cause most_cells t
unfolding check_cause
short-cause t h = rw (le-leb (length t) 65536 h)

long-cause : (t : List ℕ) → 65536 < length t → check_cause t ≡ 13
unfolding check_cause
long-cause t h = rw (lt-leb (length t) 65536 h)

-- the text of a plan is accepted
plan-cause : (t : List ℕ) → PlanText t → read_cause most_cells t ≡ 0
plan-cause t p = let m = measured p.shape p.plan p.sound in (exactly most_cells t).1 (p, omega (arith, m.whole, m.few))

causes : (t : List ℕ) → Check 13 (length t ≤ 65536) (Check 9 (Formed t) (Check 10 (PlanText t) Passed)) (check_cause t)
causes t = size (total (length t) 65536)
  where
    read : length t ≤ 65536 → Check 9 (Formed t) (Check 10 (PlanText t) (Check 11 ((p : PlanText t) → length p.plan ≤ most_cells) Passed)) (read_cause most_cells t)
        → Check 9 (Formed t) (Check 10 (PlanText t) Passed) (check_cause t)
    read h (fails e x) = fails (short-cause t h ∙ e) x
    read h (passes f (fails e x)) = passes f (fails (short-cause t h ∙ e) x)
    read h (passes f (passes p c)) = passes f (passes p (short-cause t h ∙ plan-cause t p))

    size : (length t ≤ 65536) ⊎ (65536 < length t) → Check 13 (length t ≤ 65536) (Check 9 (Formed t) (Check 10 (PlanText t) Passed)) (check_cause t)
    size (inl h) = passes h (read h (read-causes most_cells t))
    size (inr h) = fails (long-cause t h) (λ l. omega arith)

-- what is said where no cause applies, and where one does
module _ (t : List ℕ) where
  pub said : check_cause t ≡ 0 → check_of t ≡ done (plan_found (text_shape t))
  unfolding check_of
  said e = rw e

  pub unsaid : (n : ℕ) → check_cause t ≡ suc n → check_of t ≡ refused_with (suc n) (why_lines (suc n) t)
  unfolding check_of
  unsaid n e = rw e

refused : (t : List ℕ) (n : ℕ) → check_cause t ≡ suc n → ((check_of t).status ≡ 1) × ((check_of t).out ≡ refused_line (suc n))
unfolding refused_with
refused t n e = (rw (unsaid t n e), rw (unsaid t n e))

accepted : (t : List ℕ) → ((length t ≤ 65536) × (read_cause most_cells t ≡ 0)) ↔ (take 4 (check_of t).out ≡ ascii "PLAN")
unfolding done plan_found line_of
accepted t = (λ h. rw (said t (short-cause t h.0 ∙ h.1)), λ e. go (check_cause t) refl e)
  where
    go : (n : ℕ) → check_cause t ≡ n → take 4 (check_of t).out ≡ ascii "PLAN" → (length t ≤ 65536) × (read_cause most_cells t ≡ 0)
    go zero c e = size (total (length t) 65536)
      where
        size : (length t ≤ 65536) ⊎ (65536 < length t) → (length t ≤ 65536) × (read_cause most_cells t ≡ 0)
        size (inl h) = (h, sym (short-cause t h) ∙ c)
        size (inr h) = absurd (omega (arith, long-cause t h))
    go (suc n) c e = let x : ascii "REFU" ≡ ascii "PLAN" = sym (ap (take 4) (refused t n c).1) ∙ e in let y : ◌≡◌ {A = ℕ} 82 80 = cc in absurd (omega arith)

plan : (s : Shape) (plan : List ℤ) → Sound s plan → length (text_of s plan) ≤ 65536
    → check_of (text_of s plan) ≡ record { status = 0; out = ascii "PLAN\t" ++ (decimal s.k ++ (ascii "\t" ++ (decimal (sum s.sizes) ++ ascii "\n"))); err = [] }
unfolding done plan_found line_of
plan s cells sound h =
    let p : PlanText (text_of s cells) = record { shape = s; plan = cells; sound = sound; text = refl } in
    said (text_of s cells) (short-cause (text_of s cells) h ∙ plan-cause (text_of s cells) p) ∙ rw (shape-back s cells sound)

first : (t : List ℕ) → check_cause t ≡ 9 → FirstBad t (bad_line t) × ((check_of t).err ≡ bad_error (bad_line t))
unfolding refused_with why_lines
first t e = (first-bad t (unformed (causes t)), rw (unsaid t 8 e))
  where
    unformed : Check 13 (length t ≤ 65536) (Check 9 (Formed t) (Check 10 (PlanText t) Passed)) (check_cause t) → Formed t → ⊥
    unformed (fails x n) = absurd (omega arith)
    unformed (passes h (fails x n)) = n
    unformed (passes h (passes f (fails x n))) = absurd (omega arith)
    unformed (passes h (passes f (passes p c))) = absurd (omega arith)

fault : (t : List ℕ) → check_cause t ≡ 10 → FirstFault t
unfolding refused_with why_lines fault_errors
fault t e =
    let x = something t (disagreeing most_cells t (sym (short-cause t (short (total (length t) 65536))) ∙ e)) in
    record { note = x.0; others = x.1; are = x.2; told = rw (unsaid t 9 e, x.2) (append_assoc (line_error x.0.number x.0.words) _ _) }
  where
    short : (length t ≤ 65536) ⊎ (65536 < length t) → length t ≤ 65536
    short (inl h) = h
    short (inr h) = absurd (omega (arith, long-cause t h))

pub checks : Checks
checks = record { causes = causes; accepted = accepted; plan = plan; refused = refused; first = first; fault = fault; silent = silent }
