-- The loop that counts: row by row, each row adds one to the count of its class.
use mathlib.Core.Path.{◌≡◌, refl, sym, ap, ◌∙◌}
use mathlib.Core.List.{List}
use mathlib.Core.Bool.{Bool, true, false}
use Prim.Native.Nat.{ℕ, zero, suc, ◌+◌, ◌-◌, ◌≤◌, ◌<◌}
use native.Mathlib.Omega.{arith}
use lib.IntN.{ℤ}
use lib.Dec.{eqb}
use lib.ListN.{length, get_or, set, take, drop, replicate, length-set, get_or-replicate}
use Rattle.std.proofs.Math.Seq.{take-length}
use lib.Seq.{get_or-set_same, get_or-set_other, ext_get_or}
use borrow.Author.Tests.{eq-eqb, eqb-true}
use Rattle.lists.proofs.Tests.{clash}
use Rattle.lists.proofs.Kept.{length-upto}
use Rattle.plan.specs.Plan.{Layer, layers_of}
use Rattle.rows.specs.RowCall.{is_row}
use Rattle.rows.specs.Tables.{rows_in}
use Rattle.rows.specs.inner.TableRows.{TableRows}
use Rattle.rows.proofs.TableRows.{Ahead, none_read, rows_split, next-is-row, one-read}
use Rattle.crossings.specs.Crossings.{class_in}
use Rattle.crossings.specs.ClassCall.{count_of, class_counts}
use Rattle.crossings.proofs.Reading.{row-shares, rects-long}
use Rattle.crossings.proofs.Numbers.{is-class}
use Rattle.crossing_report.proofs.Counting.{one, count-more, count-few, counts-at}

rows-many : (k n : ℕ) (table : List ℕ) → length (rows_in k n table) ≡ n
rows-many k zero table = refl
rows-many k (suc n) table = ap suc (rows-many k n (drop k table))

-- ---- classes are at most 16
pub class-small : (ns : List ℕ) (cells : List ℤ) (row : List ℕ) → 3 ≤ length ns → length ns ≤ 6 → is_row (layers_of ns cells) row ≡ true → class_in (layers_of ns cells) row ≤ 16
class-small ns cells row a b e =
    omega (arith, (is-class _ (row-shares ns cells row e a)).most, rects-long ns cells row e)

-- ---- the loop
module _ (ns : List ℕ) (cells : List ℤ) (table : List ℕ) (n : ℕ) where
  abbrev ours : List Layer
  ours = layers_of ns cells

  abbrev k : ℕ
  k = length ns

  -- the first i rows are counted; with those that are left, which stand from `start` on, the counts are those of all
  pub record Counting (counts : List ℕ) (start i : ℕ) : Type 0 where
    pub ahead : Ahead ns k cells table n start i
    pub long : length counts ≡ 17
    pub same : (c : ℕ) → c < 17 → get_or counts c 0 + count_of ours (rows_in k (n - i) (drop start table)) c ≡ count_of ours (rows_in k n table) c

  pub counting-none : TableRows ns k cells table n → Counting (replicate 17 0) 0 0
  counting-none h =
      let z : n - 0 ≡ n = omega arith in
      record { ahead = none_read ns k cells table n h; long = refl; same = λ c l. rw z (omega (arith, get_or-replicate {A = ℕ} 17 c 0 0 l)) }

  pub counting-all : (counts : List ℕ) (start i : ℕ) → Counting counts start i → n ≤ i → counts ≡ class_counts ours (rows_in k n table)
  counting-all counts start i a h =
      let z : n - i ≡ 0 = omega arith in
      ext_get_or 0 counts (class_counts ours (rows_in k n table)) (a.long ∙ sym (length-upto (count_of ours (rows_in k n table)) 0 17))
      (λ c l. omega (arith, rw z at (a.same c (omega (arith, a.long))), counts-at ours (rows_in k n table) c (omega (arith, a.long))))

  module _ (counts : List ℕ) (start i : ℕ) (a : Counting counts start i) (h : i < n) (row : List ℕ) (e : row ≡ take k (drop start table)) where
    pub row_is : is_row ours row ≡ true
    row_is = rw e (rw (take-length ns) at (next-is-row ns k cells table n start i a.ahead h))

    module _ (c : ℕ) (q : c ≡ class_in ours row) where
      pub class-fits : 3 ≤ k → k ≤ 6 → c < 17
      class-fits l m = omega (arith, q, class-small ns cells row l m row_is)

      -- what is left, without this row
      left : (d : ℕ) → count_of ours (rows_in k (n - i) (drop start table)) d ≡ one (eqb c d) + count_of ours (rows_in k (n - (i + 1)) (drop (start + k) table)) d
      left d =
          ap (λ (rows : List (List ℕ)). count_of ours rows d) (rows_split ns k cells table n start i h)
          ∙ count-more ours (take k (drop start table)) (rows_in k (n - (i + 1)) (drop (start + k) table)) d
          ∙ ap (λ (m : ℕ). one (eqb m d) + count_of ours (rows_in k (n - (i + 1)) (drop (start + k) table)) d) (ap (class_in ours) (sym e) ∙ sym q)

      module _ (l : c < 17) where
        pub count_fits : get_or counts c 0 + 1 ≤ n
        count_fits =
            omega (arith, a.same c l, rw (eq-eqb c c refl) at (left c), count-few ours (rows_in k n table) c, rows-many k n table)

        pub counting_more : Counting (set counts c (get_or counts c 0 + 1)) (start + k) (i + 1)
        counting_more = record {
          ahead = one-read ns k cells table n start i a.ahead h;
          long = length-set counts c (get_or counts c 0 + 1) ∙ a.long;
          same = λ d m. go d m (eqb c d) refl;
        }
          where
            go : (d : ℕ) → d < 17 → (t : Bool) → eqb c d ≡ t → get_or (set counts c (get_or counts c 0 + 1)) d 0 + count_of ours (rows_in k (n - (i + 1)) (drop (start + k) table)) d ≡ count_of ours (rows_in k n table) d
            go d m true f =
                let z = eqb-true c d f in
                rw (← z) (omega (arith, get_or-set_same counts c (get_or counts c 0 + 1) 0 (omega (arith, a.long)), a.same c l, rw (eq-eqb c c refl) at (left c)))
            go d m false f =
                omega (arith, get_or-set_other counts c d (get_or counts c 0 + 1) 0 (λ z. clash (eq-eqb c d (sym z)) f), a.same d m, rw f at (left d))
