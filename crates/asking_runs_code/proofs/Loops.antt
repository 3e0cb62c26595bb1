-- Laws of rows that are listed part by part.
use mathlib.Core.Path.{◌≡◌, refl, sym, ap, ◌∙◌}
use mathlib.Core.Bool.{Bool, true, false, not}
use mathlib.Core.List.{List, [], ◌∷◌, ◌++◌, flat_map, append_assoc}
use Prim.Native.Nat.{ℕ, suc, ◌+◌, ◌-◌, ◌≤◌, ◌<◌}
use native.Mathlib.Numerals.{add-one}
use native.Mathlib.Omega.{arith}
use lib.Dec.{eqb}
use lib.IntN.{ℤ}
use lib.ListN.{length, length-append}
use borrow.Author.Tests.{eq-eqb, ne_eqb}
use Rattle.lists.specs.Lists.{each}
use Rattle.lists.proofs.Stores.{Left, left-all, left-put, left-none}
use Rattle.plan.specs.declared.Shape.{Shape}
use Rattle.printing.proofs.Puts.{room-left}
use Rattle.asking.specs.Pairs.{PairRow, rows_of_two, asked}
use Rattle.asking.specs.Lines.{two_line}
use Rattle.asking_runs_code.specs.declared.Listed.{Listed}
use Rattle.asking_runs_code.specs.Listing.{rows_asked, Listable, Lists}

-- lines of two lists of rows
flat-++ : (line : PairRow → List ℕ) (l m : List PairRow) → flat_map line (l ++ m) ≡ flat_map line l ++ flat_map line m
unfolding flat_map
flat-++ line [] m = refl
flat-++ line (a ∷ l) m = ap (λ (t : List ℕ). line a ++ t) (flat-++ line l m) ∙ sym (append_assoc (line a) (flat_map line l) (flat_map line m))

-- no row has no line
pub none-listed : (line : PairRow → List ℕ) (out : List ℕ) (from : Listed) → Lists line [] out from out from
unfolding flat_map
none-listed line out from = record { put = record { place = omega arith; stored = refl }; count = omega arith }

-- n parts from p on, up to e; those before j are listed
module _ (line : PairRow → List ℕ) (f : ℕ → List PairRow) (p n e : ℕ) (first : List ℕ) (from : Listed) where
  pub record Going (buf : List ℕ) (now : Listed) (j : ℕ) : Type 0 where
    pub end : p + n ≡ e
    pub low : p ≤ j
    pub within : j ≤ e
    pub left : Left first from.at (flat_map line (each f p n)) buf now.at (flat_map line (each f j (e - j)))
    pub count : now.rows + length (each f j (e - j)) ≡ from.rows + length (each f p n)

  pub going-none : (j : ℕ) → j ≡ p → p + n ≡ e → Going first from j
  going-none j q h =
      let z : e - p ≡ n = omega arith in
      record { end = h; low = omega arith; within = omega arith; left = rw (q, z) (left-all _ _ _); count = rw (q, z) refl }

  module _ (buf : List ℕ) (now : Listed) (j : ℕ) (g : Going buf now j) where
    pub going-all : e ≤ j → Lists line (each f p n) first from buf now
    unfolding flat_map
    going-all h =
        let z : e - j ≡ 0 = omega arith in
        let c = rw z at g.count in
        record { put = left-none _ _ _ _ _ (rw z at g.left); count = omega arith }

    module _ (h : j < e) where
      split : each f j (e - j) ≡ f j ++ each f (j + 1) (e - (j + 1))
      split = let z : e - j ≡ suc (e - (j + 1)) = omega arith in rw (z, add-one)

      left : Left first from.at (flat_map line (each f p n)) buf now.at (flat_map line (f j) ++ flat_map line (each f (j + 1) (e - (j + 1))))
      left = rw (split, flat-++ line (f j) (each f (j + 1) (e - (j + 1)))) at g.left

      counted : now.rows + (length (f j) + length (each f (j + 1) (e - (j + 1)))) ≡ from.rows + length (each f p n)
      counted = rw (split, length-append (f j) (each f (j + 1) (e - (j + 1)))) at g.count

      pub next-listable : Listable line (each f p n) first from → Listable line (f j) buf now
      next-listable l = record { fits = room-left _ _ _ _ _ (flat_map line (f j)) _ l.fits left; few = omega (arith, l.few, counted) }

      pub next-listed : (last : List ℕ) (r : Listed) → Lists line (f j) buf now last r → Going last r (j + 1)
      next-listed last r l = record {
        end = g.end;
        low = omega (arith, g.low);
        within = omega arith;
        left = left-put _ _ _ _ _ (flat_map line (f j)) _ _ _ l.put left;
        count = omega (arith, l.count, counted);
      }

-- ---- the layers that are asked for
module _ (layer i j : ℕ) where
  pub asked-all : layer ≡ 0 → true ≡ asked layer i j
  asked-all e = rw (eq-eqb layer 0 e)

  module _ (h : layer ≡ 0 → ⊥) where
    pub asked-lower : layer ≡ i + 1 → true ≡ asked layer i j
    asked-lower e = rw (ne_eqb layer 0 h, eq-eqb layer (suc i) (rw add-one at e))

    pub asked-higher : (layer ≡ i + 1 → ⊥) → eqb layer (j + 1) ≡ asked layer i j
    asked-higher n = rw (ne_eqb layer 0 h, ne_eqb layer (suc i) (rw add-one at n), add-one j)

not-true : (b : Bool) → not b ≡ true → b ≡ false
not-true true e = sym e
not-true false e = refl

not-false : (b : Bool) → not b ≡ false → b ≡ true
not-false true e = refl
not-false false e = sym e

module _ (s : Shape) (cells : List ℤ) (layer i j : ℕ) (out : List ℕ) (from : Listed) (b : Bool) (e : b ≡ asked layer i j) where
  pub not-asked : not b ≡ true → Lists (two_line s cells) (rows_asked s cells layer i j) out from out from
  not-asked f = rw (← e, not-true b f) (none-listed (two_line s cells) out from)

  module _ (t : not b ≡ false) where
    pub asked-listable : Listable (two_line s cells) (rows_asked s cells layer i j) out from → Listable (two_line s cells) (rows_of_two s cells i j) out from
    asked-listable l = rw (← e, not-false b t) at l

    pub asked-listed : (after : List ℕ) (r : Listed) → Lists (two_line s cells) (rows_of_two s cells i j) out from after r → Lists (two_line s cells) (rows_asked s cells layer i j) out from after r
    asked-listed after r l = rw (← e, not-false b t) l
