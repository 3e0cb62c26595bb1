-- Whole square roots, the plan of two layers, and the rows that `pairs` tells.
use mathlib.Core.Path.{◌≡◌, refl, ap}
use mathlib.Core.Bool.{Bool, true, false, cond, ◌||◌}
use mathlib.Core.List.{List, [], Memᴰ}
use mathlib.Core.Logic.{◌⊎◌, inl, inr}
use Prim.Native.Nat.{ℕ, zero, suc, ◌+◌, ◌-◌, ◌≤◌, ◌<◌}
use native.Mathlib.Omega.{arith}
use lib.Dec.{eqb}
use lib.IntN.{ℤ}
use borrow.Author.Tests.{eqb-true, eq-eqb}
use Rattle.lists.specs.Lists.{All, none_left, done, Distinct, each}
use Rattle.lists.proofs.Lists.{all-at, all_any, all_map, all_of_map, all-of-mem, pairwise-++, pairwise-of-map}
use Rattle.lists.proofs.Kept.{all-each, mem-each}
use Rattle.plan.specs.declared.Shape.{Shape}
use Rattle.plan.specs.Plan.{Sound}
use Rattle.join.specs.Table.{plan_table}
use Rattle.asking.specs.Pairs.{two_shape, two_cells, PairRow, rows_of_two, asked, rows_with, pair_rows}
use Rattle.asking.specs.Theorems.{ToldRow, PairsHold, Asking}
use Rattle.asking.proofs.Roots.{rooted}
use Rattle.asking.proofs.Pairs.{two-hold}
use Rattle.asking.proofs.Said.{lines-hold, texts-hold}

-- which two layers are asked for
abbrev Asked : (layer i j : ℕ) → Type 0
Asked layer i j = (layer ≡ 0) ⊎ ((layer ≡ suc i) ⊎ (layer ≡ suc j))

is-asked : (layer i j : ℕ) → asked layer i j ≡ true → Asked layer i j
is-asked layer i j = go (eqb layer 0) refl (eqb layer (suc i)) refl
  where
    go : (a : Bool) → eqb layer 0 ≡ a → (b : Bool) → eqb layer (suc i) ≡ b → (a || (b || eqb layer (suc j))) ≡ true → Asked layer i j
    go true p b q e = inl (eqb-true layer 0 p)
    go false p true q e = inr (inl (eqb-true layer (suc i) q))
    go false p false q e = inr (inr (eqb-true layer (suc j) e))

or-true : (a : Bool) {b : Bool} → b ≡ true → (a || b) ≡ true
or-true true e = refl
or-true false e = e

asked_is : (layer i j : ℕ) → Asked layer i j → asked layer i j ≡ true
asked_is layer i j (inl e) = rw (eq-eqb layer 0 e)
asked_is layer i j (inr (inl e)) = or-true (eqb layer 0) (rw (eq-eqb layer (suc i) e))
asked_is layer i j (inr (inr e)) = or-true (eqb layer 0) (or-true (eqb layer (suc i)) (eq-eqb layer (suc j) e))

-- parts joined, where each element of a part tells its number
parts-once : {A : Type 0} (number : A → ℕ) (f : ℕ → List A) (p n : ℕ)
    → ((q : ℕ) → p ≤ q → q < p + n → All (λ a. number a ≡ q) (f q) × Distinct (f q)) → Distinct (each f p n)
parts-once number f p zero h = done
parts-once number f p (suc n) h =
    let first = h p (omega arith) (omega arith) in
    pairwise-++ first.1
    (all_map (λ a e. all-each f (suc p) n (λ q l m. all_map (λ b d g. let z = ap number g in omega (arith, e, d, z)) (h q (omega arith) (omega arith)).0)) first.0)
    (parts-once number f (suc p) n (λ q l m. h q (omega arith) (omega arith)))

module _ (s : Shape) (cells : List ℤ) (sound : Sound s cells) (layer : ℕ) where
  -- each of them is a row of two layers that are asked for
  two-told : (i j : ℕ) → i < j → j < s.k → asked layer i j ≡ true → All (ToldRow s cells layer) (rows_of_two s cells i j)
  two-told i j l h e =
      all_of_map (λ row. record { lower = i; higher = j; row = row })
      (all-of-mem (plan_table (two_shape s i j) (two_cells s cells i j)) (λ row m. record { order = l; there = h; asked = is-asked layer i j e; met = (two-hold s cells sound i j (omega arith) h).table.sound row m }))

  all_told : All (ToldRow s cells layer) (pair_rows s cells layer)
  all_told = all-each (rows_with s cells layer) 0 s.k (λ i a b. all-each (λ j. cond (asked layer i j) (rows_of_two s cells i j) []) (suc i) (s.k - suc i) (λ j c d. go i j c (omega arith) (asked layer i j) refl))
    where
      go : (i j : ℕ) → i < j → j < s.k → (t : Bool) → asked layer i j ≡ t → All (ToldRow s cells layer) (cond t (rows_of_two s cells i j) [])
      go i j l h true e = two-told i j l h e
      go i j l h false e = none_left

  -- ... and each such row is told
  told-there : (p : PairRow) → ToldRow s cells layer p → Memᴰ p (pair_rows s cells layer)
  told-there p t =
      let i = p.lower in
      let j = p.higher in
      let l = t.order in
      let h = t.there in
      let m : Memᴰ p (rows_of_two s cells i j) = mathlib.Core.List.Memᴰ.map {B = PairRow} (λ row. record { lower = i; higher = j; row = row }) ((two-hold s cells sound i j (omega arith) h).table.complete p.row t.met) in
      mem-each (rows_with s cells layer) 0 s.k i (omega arith) (omega arith)
      (mem-each (λ j. cond (asked layer i j) (rows_of_two s cells i j) []) (suc i) (s.k - suc i) j l (omega arith) (rw (asked_is layer i j t.asked) m))

  -- the rows of two layers have their numbers, and each stands once
  abbrev Numbered : (i j : ℕ) → List PairRow → Type 0
  Numbered i j rows = All (λ p. (p.lower ≡ i) × (p.higher ≡ j)) rows × Distinct rows

  two-once : (i j : ℕ) → i < s.k → j < s.k → (t : Bool) → Numbered i j (cond t (rows_of_two s cells i j) [])
  two-once i j a b false = (none_left, done)
  two-once i j a b true =
      let table = plan_table (two_shape s i j) (two_cells s cells i j) in (
        all_of_map {B = PairRow} (λ row. record { lower = i; higher = j; row = row }) (all_any (λ row. (refl, refl)) table),
        pairwise-of-map {B = PairRow} (λ row. record { lower = i; higher = j; row = row }) (λ x y d e. d (ap (λ (p : PairRow). p.row) e)) (two-hold s cells sound i j a b).table.once,
      )

  with-once : (i : ℕ) → i < s.k → All (λ p. p.lower ≡ i) (rows_with s cells layer i) × Distinct (rows_with s cells layer i)
  with-once i h = (
    all-each (λ j. cond (asked layer i j) (rows_of_two s cells i j) []) (suc i) (s.k - suc i) (λ j c d. all_map (λ p e. e.0) (two-once i j h (omega arith) (asked layer i j)).0),
    parts-once (λ p. p.higher) (λ j. cond (asked layer i j) (rows_of_two s cells i j) []) (suc i) (s.k - suc i)
        (λ j c d. let t = two-once i j h (omega arith) (asked layer i j) in (all_map (λ p e. e.1) t.0, t.1)),
  )

  pairs-hold : PairsHold s cells layer
  pairs-hold = record {
    exactly = λ p. (λ m. all-at all_told m, λ t. told-there p t);
    once = parts-once (λ p. p.lower) (rows_with s cells layer) 0 s.k (λ i a b. with-once i (omega arith));
  }

pub asking : Asking
asking = record { roots = rooted; two = two-hold; pairs = pairs-hold; lines = lines-hold; texts = texts-hold }
