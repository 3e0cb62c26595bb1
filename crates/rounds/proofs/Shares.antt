-- Laws of the order of service and of what each client is offered, for any number of probes that clients do.
use mathlib.Core.Path.{◌≡◌, refl, sym, ap, ◌∙◌}
use mathlib.Core.Logic.{◌⊎◌, inl, inr}
use mathlib.Core.List.{[], ◌∷◌, map}
use Prim.Native.Nat.{ℕ, zero, suc, ◌+◌, ◌-◌, ◌*◌, ◌/◌, ◌≤◌, ◌<◌}
use native.Mathlib.Nat.{le_trans, mul-le-mul_left, div-mul-le_self, le-div_iff_mul-le, div-le_self}
use native.Mathlib.Omega.{arith}
use borrow.Author.Tests.{le-leb, lt-leb, eq-eqb, ne_eqb}
use Rattle.lists.specs.Lists.{sum, numbers, upto}
use Rattle.lists.proofs.Tests.{total}
use Rattle.lists.proofs.Kept.{map-++}
use Rattle.lists.proofs.Numbers.{sum-++}
use Rattle.rounds.specs.Shares.{after, client_at, turn_of, left_behind}

-- ---- the client after another
pub after_last : (m t : ℕ) → t ≡ m → after m t ≡ 1
after_last m t e = rw (eq-eqb t m e)

pub after_next : (m t : ℕ) → (t ≡ m → ⊥) → after m t ≡ suc t
after_next m t h = rw (ne_eqb t m h)

-- ---- turns
module _ (m first : ℕ) (from : 1 ≤ first) (to : first ≤ m) where
  -- up to client m
  early : (i : ℕ) → first + i ≤ m → client_at m first i ≡ first + i
  early zero h = omega arith
  early (suc i) h =
      let e = early i (omega arith) in
      after_next m (client_at m first i) (λ z. omega arith) ∙ omega arith

  -- behind it
  late : (j : ℕ) → j < first → client_at m first (suc (m - first + j)) ≡ suc j
  late zero h = let e = early (m - first) (omega arith) in let z : m - first + 0 ≡ m - first = omega arith in rw z (after_last m (client_at m first (m - first)) (omega arith))
  late (suc j) h =
      let e = late j (omega arith) in
      let z : m - first + suc j ≡ suc (m - first + j) = omega arith in
      rw z (after_next m (client_at m first (suc (m - first + j))) (λ z. omega arith) ∙ ap suc e)

  -- where client i of the order is
  pub client-is : (i : ℕ) → i < m → ((first + i ≤ m) × (client_at m first i ≡ first + i)) ⊎ ((m < first + i) × (client_at m first i + m ≡ first + i))
  client-is i h = go (total (first + i) m)
    where
      go : (first + i ≤ m) ⊎ (m < first + i) → ((first + i ≤ m) × (client_at m first i ≡ first + i)) ⊎ ((m < first + i) × (client_at m first i + m ≡ first + i))
      go (inl l) = inl (l, early i l)
      go (inr l) =
          let z : suc (m - first + (first + i - m - 1)) ≡ i = omega arith in
          let e : client_at m first i ≡ suc (first + i - m - 1) = ap (client_at m first) (sym z) ∙ late (first + i - m - 1) (omega arith) in
          inr (l, omega arith)

  pub client-from : (i : ℕ) → i < m → 1 ≤ client_at m first i
  client-from i h = go (client-is i h)
    where
      go : ((first + i ≤ m) × (client_at m first i ≡ first + i)) ⊎ ((m < first + i) × (client_at m first i + m ≡ first + i)) → 1 ≤ client_at m first i
      go (inl p) = omega arith
      go (inr p) = omega arith

  pub client-to : (i : ℕ) → i < m → client_at m first i ≤ m
  client-to i h = go (client-is i h)
    where
      go : ((first + i ≤ m) × (client_at m first i ≡ first + i)) ⊎ ((m < first + i) × (client_at m first i + m ≡ first + i)) → client_at m first i ≤ m
      go (inl p) = omega arith
      go (inr p) = omega arith

  -- the turn of the client in turn i is i
  pub turn-client : (i : ℕ) → i < m → turn_of m first (client_at m first i) ≡ i
  turn-client i h = go (client-is i h)
    where
      go : ((first + i ≤ m) × (client_at m first i ≡ first + i)) ⊎ ((m < first + i) × (client_at m first i + m ≡ first + i)) → turn_of m first (client_at m first i) ≡ i
      go (inl p) = rw (le-leb first (client_at m first i) (omega arith)) (omega arith)
      go (inr p) = rw (lt-leb first (client_at m first i) (omega arith)) (omega arith)

  -- and the client in the turn of client t is t
  module _ (t : ℕ) (low : 1 ≤ t) (high : t ≤ m) where
    pub turn_below : turn_of m first t < m
    turn_below = go (total first t)
      where
        go : (first ≤ t) ⊎ (t < first) → turn_of m first t < m
        go (inl l) = rw (le-leb first t l) (omega arith)
        go (inr l) = rw (lt-leb first t l) (omega arith)

    pub client-turn : client_at m first (turn_of m first t) ≡ t
    client-turn = go (total first t)
      where
        go : (first ≤ t) ⊎ (t < first) → client_at m first (turn_of m first t) ≡ t
        go (inl l) = rw (le-leb first t l) (early (t - first) (omega arith) ∙ omega arith)
        go (inr l) =
            let z : m - first + t ≡ suc (m - first + (t - 1)) = omega arith in
            let k : suc (t - 1) ≡ t = omega arith in
            rw (lt-leb first t l) (rw z (late (t - 1) (omega arith) ∙ k))

-- ---- sums over all clients
-- one more at the end, and two parts
total-more : (g : ℕ → ℕ) (p n : ℕ) → sum (upto g p (suc n)) ≡ sum (upto g p n) + g (p + n)
total-more g p zero = let z : p + 0 ≡ p = omega arith in rw z (omega arith)
total-more g p (suc n) = let z : suc p + n ≡ p + suc n = omega arith in let e = total-more g (suc p) n in let d = ap g z in omega arith

pub total-parts : (g : ℕ → ℕ) (p a b : ℕ) → sum (upto g p (a + b)) ≡ sum (upto g p a) + sum (upto g (p + a) b)
total-parts g p zero b = let z : p + 0 ≡ p = omega arith in let y : 0 + b ≡ b = omega arith in rw (z, y) (omega arith)
total-parts g p (suc a) b =
    let z : suc p + a ≡ p + suc a = omega arith in
    let y : suc a + b ≡ suc (a + b) = omega arith in
    let e = total-parts g (suc p) a b in
    let d = ap (λ (x : ℕ). sum (upto g x b)) z in
    rw y (omega arith)

module _ (g : ℕ → ℕ) (m first : ℕ) (from : 1 ≤ first) (to : first ≤ m) where
  -- of the first i that are served
  abbrev in_turn : ℕ → ℕ
  in_turn i = sum (map (λ j. g (client_at m first j)) (numbers i))

  turn_more : (i : ℕ) → in_turn (suc i) ≡ in_turn i + g (client_at m first i)
  turn_more i =
      let f : ℕ → ℕ = λ j. g (client_at m first j) in
      let e = ap sum (map-++ f (numbers i) (i ∷ [])) ∙ sum-++ (map f (numbers i)) (map f (i ∷ [])) in
      omega arith

  early-sum : (i : ℕ) → first + i ≤ suc m → in_turn i ≡ sum (upto g first i)
  early-sum zero h = refl
  early-sum (suc i) h = let e = ap g (early m first from to i (omega arith)) in omega (arith, turn_more i, early-sum i (omega arith), total-more g first i)

  late-sum : (j : ℕ) → j < first → in_turn (suc (m - first + j)) ≡ sum (upto g first (suc (m - first))) + sum (upto g 1 j)
  late-sum zero h = let z : m - first + 0 ≡ m - first = omega arith in rw z (omega (arith, early-sum (suc (m - first)) (omega arith)))
  late-sum (suc j) h =
      let z : m - first + suc j ≡ suc (m - first + j) = omega arith in
      let e = ap g (late m first from to j (omega arith)) in
      let d : 1 + j ≡ suc j = omega arith in
      let b = ap g d in
      rw z (omega (arith, turn_more (suc (m - first + j)), late-sum j (omega arith), total-more g 1 j))

  -- each client once
  pub all-in-turn : in_turn m ≡ sum (upto g 1 m)
  all-in-turn =
      let z : suc (m - first + (first - 1)) ≡ m = omega arith in
      let y : (first - 1) + suc (m - first) ≡ m = omega arith in
      let x : 1 + (first - 1) ≡ first = omega arith in
      let e = rw (y, x) at (total-parts g 1 (first - 1) (suc (m - first))) in
      let d = ap in_turn (sym z) in
      omega (arith, late-sum (first - 1) (omega arith))

-- ---- what each is offered
module _ (did : ℕ → ℕ → ℕ) (few : (t b : ℕ) → did t b ≤ b) (m first budget : ℕ) where
  -- what the first i clients do
  abbrev done_by : (i : ℕ) → ℕ
  done_by i = sum (map (λ j. did (client_at m first j) (left_behind did m first budget j / (m - j))) (numbers i))

  -- what is left and what was done are the budget
  pub left-done : (i : ℕ) → i ≤ m → left_behind did m first budget i + done_by i ≡ budget
  unfolding left_behind
  left-done zero h = omega arith
  left-done (suc i) h =
      let f : ℕ → ℕ = λ j. did (client_at m first j) (left_behind did m first budget j / (m - j)) in
      let l = left_behind did m first budget i in
      let e = left-done i (omega arith) in
      let a = ap sum (map-++ f (numbers i) (i ∷ [])) ∙ sum-++ (map f (numbers i)) (map f (i ∷ [])) in
      let b : f i ≤ l = le_trans (few (client_at m first i) (l / (m - i))) (div-le_self l (m - i)) in
      omega arith

  -- what is left is at least a share for each that is still to serve
  pub left-enough : (i : ℕ) → i ≤ m → (m - i) * (budget / m) ≤ left_behind did m first budget i
  unfolding left_behind
  left-enough zero h = let z : m - 0 ≡ m = omega arith in rw z (omega (arith, div-mul-le_self budget m))
  left-enough (suc i) h =
      let l = left_behind did m first budget i in
      enough l (m - i) (m - suc i) (budget / m) (did (client_at m first i) (l / (m - i))) (omega arith) (left-enough i (omega arith)) (few (client_at m first i) (l / (m - i)))
    where
      -- one more is served
      enough : (l k n s d : ℕ) → k ≡ suc n → k * s ≤ l → d ≤ l / k → n * s ≤ l - d
      enough l k n s d z e f =
          let q : s ≤ l / k = (le-div_iff_mul-le {k = k} {x = s} {y = l} (omega arith)).1 (omega arith) in
          omega (arith, div-mul-le_self l k, mul-le-mul_left n q, ap (λ (x : ℕ). l / k * x) z, ap (λ (x : ℕ). x * s) z)

  -- 02: "at least B / m trials, rounded down", are offered to each
  pub share-offered : (i : ℕ) → i < m → budget / m ≤ left_behind did m first budget i / (m - i)
  share-offered i h = (le-div_iff_mul-le {k = m - i} {x = budget / m} {y = left_behind did m first budget i} (omega arith)).1 (omega (arith, left-enough i (omega arith)))
