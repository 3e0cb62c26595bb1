-- The lines byte by byte, and what is said of a text.
use mathlib.Core.Path.{◌≡◌, refl}
use mathlib.Core.Logic.{◌⊎◌, inl, inr}
use mathlib.Core.List.{List}
use Prim.Native.Nat.{ℕ, suc, ◌*◌, ◌≤◌, ◌<◌}
use native.Mathlib.Nat.{div-one}
use native.Mathlib.Omega.{arith}
use lib.IntN.{ℤ}
use lib.ListN.{length}
use borrow.Author.Tests.{le-leb, lt-leb}
use Rattle.lists.proofs.Tests.{total}
use Rattle.plan.specs.declared.Shape.{Shape}
use Rattle.plan.specs.Causes.{Check, fails, passes, Passed}
use Rattle.plan.specs.Limits.{most_cells}
use Rattle.plan.specs.Plan.{Sound}
use Rattle.text.specs.Plans.{text_of}
use Rattle.text.specs.Reader.{read_cause}
use Rattle.text.specs.Theorems.{Formed, PlanText}
use Rattle.text.proofs.Text.{measured}
use Rattle.text.proofs.Theorems.{shape-back, cells-back, read-causes, exactly}
use Rattle.printing.specs.Lines.{line_of, row_fields, square_metres}
use Rattle.outcomes.specs.Outcomes.{Outcome, refused}
use Rattle.asking.specs.Roots.{root}
use Rattle.asking.specs.Lines.{share_line, apart_line, near_line, pair_line, count_line}
use Rattle.asking.specs.Answers.{text_cause, on_plan}
use Rattle.asking.specs.Theorems.{AnswerLinesHold, TextsHold}

pub lines-hold : AnswerLinesHold
unfolding share_line apart_line near_line pair_line count_line line_of row_fields square_metres
lines-hold = record {
  share = refl;
  apart = λ lower higher. refl;
  near = λ layer place gap. rw (div-one (root (10000 * gap)));
  none = λ layer. refl;
  pair = λ ls i j p q. refl;
  count = λ n. refl;
}

module _ (t : List ℕ) where
  causes : Check 13 (length t ≤ 65536) (Check 9 (Formed t) (Check 10 (PlanText t) Passed)) (text_cause t)
  unfolding text_cause
  causes = size (total (length t) 65536)
    where
      same : length t ≤ 65536 → (n : ℕ) → read_cause most_cells t ≡ n → text_cause t ≡ n
      same h n e = rw (le-leb (length t) 65536 h) e

      whole : length t ≤ 65536 → PlanText t → text_cause t ≡ 0
      whole h p = let m = measured p.shape p.plan p.sound in same h 0 ((exactly most_cells t).1 (p, omega (arith, m.whole, m.few)))

      read : length t ≤ 65536 → Check 9 (Formed t) (Check 10 (PlanText t) (Check 11 ((p : PlanText t) → length p.plan ≤ most_cells) Passed)) (read_cause most_cells t)
          → Check 9 (Formed t) (Check 10 (PlanText t) Passed) (text_cause t)
      read h (fails e x) = fails (same h 9 e) x
      read h (passes f (fails e x)) = passes f (fails (same h 10 e) x)
      read h (passes f (passes p c)) = passes f (passes p (whole h p))

      size : (length t ≤ 65536) ⊎ (65536 < length t) → Check 13 (length t ≤ 65536) (Check 9 (Formed t) (Check 10 (PlanText t) Passed)) (text_cause t)
      size (inl h) = passes h (read h (read-causes most_cells t))
      size (inr h) = fails (rw (lt-leb (length t) 65536 h)) (λ l. omega arith)

refusal : (t : List ℕ) (told : Shape → List ℤ → Outcome) (n : ℕ) → text_cause t ≡ suc n → on_plan t told ≡ refused (suc n)
unfolding on_plan
refusal t told n e = rw e

planned : (s : Shape) (cells : List ℤ) (told : Shape → List ℤ → Outcome) → Sound s cells → length (text_of s cells) ≤ 65536 → on_plan (text_of s cells) told ≡ told s cells
unfolding on_plan text_cause
planned s cells told sound h =
    let p : PlanText (text_of s cells) = record { shape = s; plan = cells; sound = sound; text = refl } in
    let m = measured s cells sound in
    let e : read_cause most_cells (text_of s cells) ≡ 0 = (exactly most_cells (text_of s cells)).1 (p, omega (arith, m.whole, m.few)) in
    rw (le-leb (length (text_of s cells)) 65536 h, e, shape-back s cells sound, cells-back s cells sound)

pub texts-hold : TextsHold
texts-hold = record { causes = causes; refusal = refusal; planned = planned }
