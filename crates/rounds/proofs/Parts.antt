-- Laws of a list that is cut into parts of one size: the part of one number is read and put back.
use mathlib.Core.Path.{◌≡◌, refl, sym, ap, ◌∙◌}
use mathlib.Core.List.{List, [], ◌∷◌, ◌++◌, append_assoc}
use Prim.Native.Nat.{ℕ, zero, suc, ◌+◌, ◌-◌, ◌*◌, ◌/◌, ◌≤◌, ◌<◌}
use native.Mathlib.Nat.{mul-le-mul_right, mul-div-le}
use native.Mathlib.Omega.{arith}
use lib.ListN.{length, get_or, take, drop, length-append, length-take, length-drop, take-append-drop}
use lib.Seq.{take_at, drop_at, drop-drop}
use Rattle.lists.specs.Lists.{each}

-- what is read past the end of a list does not matter within it
pub get_d_any : {A : Type 0} (l : List A) (i : ℕ) (d e : A) → i < length l → get_or l i d ≡ get_or l i e
get_d_any [] i d e h = absurd (omega arith)
get_d_any (a ∷ l) zero d e h = refl
get_d_any (a ∷ l) (suc i) d e h = get_d_any l i d e (omega arith)

module _ {A : Type 0} where
  -- parts that agree where they are asked for
  pub each_within : (f g : ℕ → List A) (p n : ℕ) → ((t : ℕ) → p ≤ t → t < p + n → f t ≡ g t) → each f p n ≡ each g p n
  each_within f g p zero h = refl
  each_within f g p (suc n) h =
      let e = h p (omega arith) (omega arith) in
      let k = each_within f g (suc p) n (λ t a b. h t (omega arith) (omega arith)) in
      rw (e, k)

  -- all have this size
  pub each_long : (size : ℕ) (f : ℕ → List A) (p n : ℕ) → ((t : ℕ) → p ≤ t → t < p + n → length (f t) ≡ size) → length (each f p n) ≡ n * size
  each_long size f p zero h = omega arith
  each_long size f p (suc n) h =
      omega (arith, length-append (f p) (each f (suc p) n), h p (omega arith) (omega arith), each_long size f (suc p) n (λ t a b. h t (omega arith) (omega arith)))

  -- cut at one of them
  pub each-split : (f : ℕ → List A) (p a b : ℕ) → each f p (a + suc b) ≡ each f p a ++ (f (p + a) ++ each f (suc (p + a)) b)
  each-split f p zero b = let z : p + 0 ≡ p = omega arith in let y : 0 + suc b ≡ suc b = omega arith in rw (z, y)
  each-split f p (suc a) b =
      let z : p + suc a ≡ suc p + a = omega arith in
      let y : suc a + suc b ≡ suc (a + suc b) = omega arith in
      rw (z, y, each-split f (suc p) a b) (sym (append_assoc (f p) (each f (suc p) a) _))

  -- a list is its parts, and what stands behind them
  cut-from : (size : ℕ) (l : List A) (p n : ℕ) → each (λ t. take size (drop ((t - 1) * size) l)) (suc p) n ++ drop ((p + n) * size) l ≡ drop (p * size) l
  cut-from size l p zero = let z : p + 0 ≡ p = omega arith in rw z
  cut-from size l p (suc n) =
      let z : p + suc n ≡ suc p + n = omega arith in
      let y : suc p - 1 ≡ p = omega arith in
      let x : suc p * size ≡ p * size + size = omega arith in
      let e : drop (suc p * size) l ≡ drop size (drop (p * size) l) = ap (λ (i : ℕ). drop i l) x ∙ sym (drop-drop size (p * size) l) in
      rw (z, y) (append_assoc (take size (drop (p * size) l)) _ _ ∙ ap (λ (r : List A). take size (drop (p * size) l) ++ r) (cut-from size l (suc p) n ∙ e) ∙ take-append-drop size (drop (p * size) l))

  pub cut_all : (size : ℕ) (l : List A) (m : ℕ) → each (λ t. take size (drop ((t - 1) * size) l)) 1 m ++ drop (m * size) l ≡ l
  cut_all size l m = let z : 0 + m ≡ m = omega arith in let y : 0 * size ≡ 0 = omega arith in let e = cut-from size l 0 m in (rw (z, y) at e)

  -- one part has its size
  pub cut-long : (size : ℕ) (l : List A) (m t : ℕ) → 1 ≤ t → t ≤ m → m * size ≤ length l → length (take size (drop ((t - 1) * size) l)) ≡ size
  cut-long size l m t a b h =
      let k : t * size ≤ m * size = mul-le-mul_right size b in
      let e : t * size ≡ (t - 1) * size + size = tall size t a in
      length-take size (drop ((t - 1) * size) l) ∙ omega (arith, length-drop ((t - 1) * size) l)
    where
      tall : (size t : ℕ) → 1 ≤ t → t * size ≡ (t - 1) * size + size
      tall size zero a = absurd (omega arith)
      tall size (suc t) a = let z : suc t - 1 ≡ t = omega arith in rw z (omega arith)

  -- the parts from 1 on, with the rest behind them; c is one of the m
  module _ (size m : ℕ) (f : ℕ → List A) (rest : List A) (long : (t : ℕ) → 1 ≤ t → t ≤ m → length (f t) ≡ size) (c : ℕ) (low : 1 ≤ c) (high : c ≤ m) where
    front : length (each f 1 (c - 1)) ≡ (c - 1) * size
    front = each_long size f 1 (c - 1) (λ t a b. long t a (omega arith))

    split : each f 1 m ++ rest ≡ each f 1 (c - 1) ++ (f c ++ (each f (suc c) (m - c) ++ rest))
    split =
        let y : (c - 1) + suc (m - c) ≡ m = omega arith in
        let z : 1 + (c - 1) ≡ c = omega arith in
        let e = rw (y, z) at (each-split f 1 (c - 1) (m - c)) in
        ap (λ (l : List A). l ++ rest) e ∙ append_assoc (each f 1 (c - 1)) (f c ++ each f (suc c) (m - c)) rest ∙ ap (λ (l : List A). each f 1 (c - 1) ++ l) (append_assoc (f c) (each f (suc c) (m - c)) rest)

    behind : drop ((c - 1) * size) (each f 1 m ++ rest) ≡ f c ++ (each f (suc c) (m - c) ++ rest)
    behind = ap (drop ((c - 1) * size)) split ∙ drop_at (each f 1 (c - 1)) _ ((c - 1) * size) front

    pub part-is : take size (drop ((c - 1) * size) (each f 1 m ++ rest)) ≡ f c
    part-is = ap (take size) behind ∙ take_at (f c) _ size (long c low high)

    -- what stands behind all parts
    pub rest-is : drop (m * size) (each f 1 m ++ rest) ≡ rest
    rest-is = drop_at (each f 1 m) rest (m * size) (each_long size f 1 m (λ t a b. long t a (omega arith)))

    -- another part in its place
    pub part-put : (g : ℕ → List A) → ((t : ℕ) → 1 ≤ t → t ≤ m → (t ≡ c → ⊥) → g t ≡ f t)
        → take ((c - 1) * size) (each f 1 m ++ rest) ++ (g c ++ drop size (drop ((c - 1) * size) (each f 1 m ++ rest))) ≡ each g 1 m ++ rest
    part-put g same =
        let a : take ((c - 1) * size) (each f 1 m ++ rest) ≡ each f 1 (c - 1) = ap (take ((c - 1) * size)) split ∙ take_at (each f 1 (c - 1)) _ ((c - 1) * size) front in
        let b : drop size (drop ((c - 1) * size) (each f 1 m ++ rest)) ≡ each f (suc c) (m - c) ++ rest = ap (drop size) behind ∙ drop_at (f c) _ size (long c low high) in
        let d : each f 1 (c - 1) ≡ each g 1 (c - 1) = each_within f g 1 (c - 1) (λ t x y. sym (same t x (omega arith) (λ z. omega arith))) in
        let e : each f (suc c) (m - c) ≡ each g (suc c) (m - c) = each_within f g (suc c) (m - c) (λ t x y. sym (same t (omega arith) (omega arith) (λ z. omega arith))) in
        rw (a, b, d, e) (sym (split-of g))
      where
        split-of : (h : ℕ → List A) → each h 1 m ++ rest ≡ each h 1 (c - 1) ++ (h c ++ (each h (suc c) (m - c) ++ rest))
        split-of h =
            let y : (c - 1) + suc (m - c) ≡ m = omega arith in
            let z : 1 + (c - 1) ≡ c = omega arith in
            let e = rw (y, z) at (each-split h 1 (c - 1) (m - c)) in
            ap (λ (l : List A). l ++ rest) e ∙ append_assoc (each h 1 (c - 1)) (h c ++ each h (suc c) (m - c)) rest ∙ ap (λ (l : List A). each h 1 (c - 1) ++ l) (append_assoc (h c) (each h (suc c) (m - c)) rest)

-- ---- parts of whole rows
-- so many parts lie within the table
pub parts_within : (k m n t : ℕ) → t ≤ m → t * (k * (n / (k * m))) ≤ n
parts_within k m n t h =
    omega (arith, mul-le-mul_right (k * (n / (k * m))) h, mul-div-le n (k * m))
