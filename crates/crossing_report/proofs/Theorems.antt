-- The promises on the crossing report hold of every input.
use mathlib.Core.Path.{◌≡◌, refl, sym, ap, ◌∙◌}
use mathlib.Core.List.{List}
use Prim.Native.Nat.{ℕ, zero, suc, ◌<◌}
use native.Mathlib.Omega.{arith}
use lib.IntN.{ℤ}
use lib.Dec.{eqb}
use lib.ListN.{length, get_or, replicate}
use Rattle.lists.specs.Lists.{All}
use Rattle.lists.proofs.Lists.{all_map, all-of-mem}
use Rattle.lists.proofs.Kept.{keep_same, length-upto}
use Rattle.plan.specs.declared.Shape.{Shape}
use Rattle.plan.specs.Plan.{layers, sizes_of, Typed, grown}
use Rattle.plan.proofs.Plan.{or-else-zero, checked}
use Rattle.join.specs.Table.{table_of}
use Rattle.crossings.specs.Crossings.{class_in}
use Rattle.crossings.specs.ClassCall.{crossing_cause, class_call, class_values, count_of, class_counts}
use Rattle.std.specs.Prelude.{Option, Result}
use Rattle.crossings.proofs.Answers.{cause-sound}
use Rattle.crossings.proofs.Theorems as Class
use Rattle.crossing_report.specs.CrossingCall.{crossing_run_cause, crossing_call, crossing_table}
use Rattle.crossing_report.proofs.Runs.{crossing-checks, crossing-run}
use Rattle.crossing_report.specs.Theorems.{Counts, CrossingReports, Tallies}
use Rattle.crossing_report.proofs.Counting.{counts-at, counts-sum}

-- ---- the counts
module _ (s : Shape) (cells : List ℤ) (typed : Typed s) (passed : crossing_cause s cells ≡ 0) where
  -- what the class call says of a row of the table
  called : All (λ row. (class_in (layers s cells) row ≡ (class_values (class_call s cells row)).class) × (class_in (layers s cells) row < 17)) (table_of (sizes_of s) (grown s cells))
  called = all-of-mem (table_of (sizes_of s) (grown s cells)) (λ row m.
      let h = Class.row-class s cells typed passed row m in
      (sym (ap (λ (a : Result (Option ℕ) ℕ). (class_values a).class) h.0), omega (arith, h.1.most, h.2, (checked s cells (cause-sound s cells typed passed)).high)))

  counts : Counts s cells (class_counts (layers s cells) (table_of (sizes_of s) (grown s cells)))
  counts = record {
    seventeen = length-upto (count_of (layers s cells) (table_of (sizes_of s) (grown s cells))) 0 17;
    each = λ c l. counts-at (layers s cells) (table_of (sizes_of s) (grown s cells)) c l ∙ ap length (keep_same _ _ (all_map (λ row h. ap (λ (n : ℕ). eqb n c) h.0) called));
    sum = counts-sum (layers s cells) (all_map (λ row h. h.1) called);
  }

-- ---- refusals
-- zeros and nothing else
zeros : (n i : ℕ) → get_or (replicate {A = ℕ} n 0) i 0 ≡ 0
zeros zero i = refl
zeros (suc n) zero = refl
zeros (suc n) (suc i) = zeros n i

module _ (s : Shape) (cells : List ℤ) (order table : List ℕ) (work : ℕ) (typed : Typed s) where
  crossing-reports : CrossingReports s cells order table work (crossing_run_cause s cells order table work) (crossing_call s cells order table work) (crossing_table s cells order table work)
  unfolding crossing_run_cause crossing_call crossing_table
  crossing-reports = record {
    causes = crossing-checks s cells order table work typed;
    run = λ e. let p = (or-else-zero (crossing_cause s cells) _ e).0 in (crossing-run s cells order table work p, rw e (counts s cells typed p), rw e);
    refused = λ n e. rw e (refl, refl, zeros 17, refl);
  }

pub tallies : Tallies
tallies = record { reports = crossing-reports; answer = λ r c. (refl, refl) }
