-- What the first pair in the list of a row's rectangles says of layers: either all share a point, or it is the first pair of layers.
use mathlib.Core.Path.{◌≡◌, refl, sym, ap₂, ◌∙◌, subst}
use mathlib.Core.List.{List, []}
use mathlib.Core.Bool.{true}
use mathlib.Core.Logic.{◌⊎◌, inl, inr}
use Prim.Native.Nat.{ℕ, zero, suc, ◌≤◌, ◌<◌}
use native.Mathlib.Omega.{arith}
use lib.ListN.{length, get_or}
use Rattle.lists.specs.Lists.{All}
use Rattle.lists.proofs.Tests.{clash, total}
use Rattle.lists.proofs.Lists.{all_get_d}
use Rattle.geometry.specs.declared.Rect.{Rect}
use Rattle.geometry.specs.Rectangles.{In, nonempty, meets}
use Rattle.geometry.proofs.Rectangles.{meets-point}
use Rattle.plan.specs.Plan.{Layer}
use Rattle.plan.specs.Spots.{rect_of}
use Rattle.join.specs.Join.{Within, no_layer, ◌below◌, rects, InJoin, common_of}
use Rattle.join.proofs.Table.{within-long}
use Rattle.std.specs.Prelude.{Option, None, Result, Ok}
use Rattle.pairs.specs.declared.Pair.{Pair}
use Rattle.pairs.specs.PairCall.{apart, first_pair}
use Rattle.pairs.specs.Theorems.{chosen, IsPair, IsFirstPair}
use Rattle.pairs.proofs.Boxes.{pairs-point, meet-meets}
use Rattle.pairs.proofs.Firsts.{FirstAt, Found, none_apart, apart_in, found}

-- ---- the rectangles of a row by their layers
pub nowhere : Rect
nowhere = common_of []

chosen_at : {ls : List Layer} {row : List ℕ} → Within ls row → (i : ℕ) → i < length ls → get_or (rects ls row) i nowhere ≡ chosen ls row i
chosen_at no_layer i h = absurd (omega arith)
chosen_at (◌below◌ k ks) zero h = refl
chosen_at (◌below◌ k ks) (suc i) h = chosen_at ks i (omega arith)

module _ {ls : List Layer} {row : List ℕ} (w : Within ls row) where
  pub chosen-all : {P : Rect → Type 0} → All P (rects ls row) → (i : ℕ) → i < length ls → P (chosen ls row i)
  chosen-all {P} h i l = subst P (chosen_at w i l) (all_get_d nowhere h i (omega (arith, (within-long w).0)))

  -- ---- the first pair in the list of rectangles is the first pair of layers
  first-is : (i j : ℕ) → FirstAt nowhere (rects ls row) i j → IsFirstPair ls row i j
  first-is i j f = record {
    pair = record { order = f.order; there = there; apart = λ m. clash (meet-meets _ _ m) (sym (same i j (omega (arith, f.order, there)) there) ∙ f.apart) };
    first = λ a b p. later a b p (total a i) (total i a) (total j b);
  }
    where
      there : j < length ls
      there = omega (arith, f.there, (within-long w).0)

      same : (a b : ℕ) → a < length ls → b < length ls → meets (get_or (rects ls row) a nowhere) (get_or (rects ls row) b nowhere) ≡ meets (chosen ls row a) (chosen ls row b)
      same a b p q = ap₂ meets (chosen_at w a p) (chosen_at w b q)

      -- the two of an earlier pair meet
      meet : (a b : ℕ) → IsPair ls row a b → (a < i) ⊎ ((a ≡ i) × (b < j)) → ⊥
      meet a b p z =
          p.apart (meets-point _ _ (sym (same a b (omega (arith, p.order, p.there)) p.there) ∙ f.earlier a b p.order (omega (arith, p.there, (within-long w).0)) z))

      later : (a b : ℕ) → IsPair ls row a b → (a ≤ i) ⊎ (i < a) → (i ≤ a) ⊎ (a < i) → (j ≤ b) ⊎ (b < j) → (i < a) ⊎ ((i ≡ a) × (j ≤ b))
      later a b p (inr x) y z = inl x
      later a b p (inl x) (inr y) z = absurd (meet a b p (inl y))
      later a b p (inl x) (inl y) (inl z) = inr (omega arith, z)
      later a b p (inl x) (inl y) (inr z) = absurd (meet a b p (inr (omega arith, z)))

-- a pair and a common point exclude each other, whatever the other places
pub pair-excludes : {ls : List Layer} {row other : List ℕ} {i j : ℕ} → IsPair ls row i j → get_or other i 0 ≡ get_or row i 0 → get_or other j 0 ≡ get_or row j 0 → InJoin ls other → ⊥
pair-excludes {ls} {row} {other} {i} {j} p e f h = p.apart (h.x, h.y, (at i e (omega (arith, p.order, p.there)), at j f p.there))
  where
    at : (n : ℕ) → get_or other n 0 ≡ get_or row n 0 → n < length ls → In h.x h.y (chosen ls row n)
    at n q l = subst (λ (m : ℕ). In h.x h.y (rect_of ls (record { layer = n; place = m }))) q (chosen-all h.within h.inside n l)

-- there is one first pair at most
pub first_one : {ls : List Layer} {row : List ℕ} {i j a b : ℕ} → IsFirstPair ls row i j → IsFirstPair ls row a b → (i ≡ a) × (j ≡ b)
first_one {i = i} {j} {a} {b} f g = go (f.first a b g.pair) (g.first i j f.pair)
  where
    go : (i < a) ⊎ ((i ≡ a) × (j ≤ b)) → (a < i) ⊎ ((a ≡ i) × (b ≤ j)) → (i ≡ a) × (j ≡ b)
    go (inl p) (inl q) = absurd (omega arith)
    go (inl p) (inr q) = absurd (omega (arith, q.0))
    go (inr p) (inl q) = absurd (omega (arith, p.0))
    go (inr p) (inr q) = (p.0, omega (arith, p.1, q.1))

-- ---- the answer
pub data Outcome (ls : List Layer) (row : List ℕ) (v : Result (Option Pair) ℕ) : Type 0 where
  shares : v ≡ Ok None → InJoin ls row → Outcome ls row v
  clears : (i j : ℕ) → v ≡ Ok (apart (suc i) (suc j)) → IsFirstPair ls row i j → Outcome ls row v

pub outcome : {ls : List Layer} {row : List ℕ} → Within ls row → All (λ r. nonempty r ≡ true) (rects ls row) → Outcome ls row (Ok (first_pair 1 (rects ls row)))
outcome {ls} {row} w s = go (found nowhere 1 (rects ls row))
  where
    go : {v : Option Pair} → Found nowhere 1 (rects ls row) v → Outcome ls row (Ok v)
    go (none_apart m) = let p = pairs-point s m in shares refl (record { within = w; x = p.0; y = p.1; inside = p.2 })
    go (apart_in i j a b p q f) =
        let m : a ≡ suc i = omega arith in
        let n : b ≡ suc j = omega arith in
        clears i j (rw (m, n)) (first-is w i j f)
