-- Laws of classes: the numbers of the covered ends rise, so the smallest is the first; and in a row, where everything meets, a segment crosses a rectangle
-- exactly when no end is covered.
use mathlib.Core.Path.{◌≡◌, refl, sym, ap, ◌∙◌}
use mathlib.Core.List.{List, [], ◌∷◌}
use mathlib.Core.Bool.{Bool, true, false, not, cond, ◌&&◌}
use Prim.Native.Nat.{ℕ, zero, suc, ◌+◌, ◌-◌, ◌*◌, ◌≤◌, ◌<◌, min}
use native.Mathlib.Omega.{arith}
use native.Mathlib.Numerals.{add-one}
use lib.IntN.{ℤ}
use lib.Dec.{eqb}
use lib.ListN.{length, get_or, drop, drop_of_length-le}
use lib.Seq.{drop-cons, length-take-le, get_or-take}
use borrow.Author.Tests.{ne_eqb}
use Rattle.lists.specs.Lists.{All, none_left, ◌and◌, Pairwise, done, ◌then◌}
use Rattle.lists.proofs.Lists.{all_map, all_take, all_get_d}
use Rattle.geometry.specs.declared.Rect.{Rect}
use Rattle.geometry.specs.Rectangles.{In, meets}
use Rattle.geometry.proofs.Rectangles.{point-meets}
use Rattle.join.specs.Join.{common_of}
use Rattle.crossings.specs.Crossings.{covers_first, covers_last, crosses, horizontal_of, vertical_of, others_of, both_cross, if_so, covered_from, smallest_of, smallest, class_of}
use Rattle.crossings.specs.inner.Ends.{end_in}

-- ---- numbers that rise, from m on
pub record Rising (m : ℕ) (ns : List ℕ) : Type 0 where
  pub above : All (λ a. m ≤ a) ns
  pub rising : Pairwise (λ a b. a ≤ b) ns

rising-from : {m n : ℕ} {ns : List ℕ} → m ≤ n → Rising n ns → Rising m ns
rising-from h r = record { above = all_map (λ a k. omega arith) r.above; rising = r.rising }

rising-more : (t : Bool) (n : ℕ) {m : ℕ} {ns : List ℕ} → m ≤ n → Rising n ns → Rising m (if_so t n ns)
rising-more true n h r = record { above = ◌and◌ h (rising-from h r).above; rising = ◌then◌ r.above r.rising }
rising-more false n h r = rising-from h r

smallest-of : (n : ℕ) {ns : List ℕ} → All (λ a. n ≤ a) ns → smallest_of n ns ≡ n
smallest-of n none_left = refl
smallest-of n (◌and◌ {a = m} h hs) = let e : min n m ≡ n = omega arith in rw e (smallest-of n hs)

abbrev empty : List ℕ → Bool
empty [] = true
empty (n ∷ ns) = false

-- the smallest is the first, 0 where there is none
first-smallest : {m : ℕ} (ns : List ℕ) → Rising m ns → cond (empty ns) 0 (smallest ns) ≡ get_or ns 0 0
first-smallest [] r = refl
first-smallest (n ∷ ns) r = go r.rising
  where
    go : Pairwise (λ a b. a ≤ b) (n ∷ ns) → smallest_of n ns ≡ n
    go (◌then◌ h hs) = smallest-of n h

module _ (h v : Rect) where
  pub numbers-rise : (j : ℕ) (rs : List Rect) → Rising (4 * j + 1) (covered_from h v j rs)
  numbers-rise j [] = record { above = none_left; rising = done }
  numbers-rise j (r ∷ rs) =
      rising-more (covers_first r h) (4 * j + 1) (omega arith)
      (rising-more (covers_last r h) (4 * j + 2) (omega arith)
      (rising-more (covers_first r v) (4 * j + 3) (omega arith)
      (rising-more (covers_last r v) (4 * j + 4) (omega arith) (rising-from (omega arith) (numbers-rise (suc j) rs)))))

  -- ---- where everything meets
  abbrev pub BothMeet : Rect → Type 0
  BothMeet r = (meets h r ≡ true) × (meets v r ≡ true)

  both-cross : (j : ℕ) {rs : List Rect} → All BothMeet rs → both_cross h v rs ≡ empty (covered_from h v j rs)
  unfolding crosses
  both-cross j none_left = refl
  both-cross j (◌and◌ {a = r} {l = rs} m ms) = rw (m.0, m.1) (go (covers_first r h) (covers_last r h) (covers_first r v) (covers_last r v) (both-cross (suc j) ms))
    where
      go : (a b c d : Bool) → both_cross h v rs ≡ empty (covered_from h v (suc j) rs) → (((not a && not b) && (not c && not d)) && both_cross h v rs) ≡ empty (if_so a (4 * j + 1) (if_so b (4 * j + 2) (if_so c (4 * j + 3) (if_so d (4 * j + 4) (covered_from h v (suc j) rs)))))
      go true b c d i = refl
      go false true c d i = refl
      go false false true d i = refl
      go false false false true i = refl
      go false false false false i = i

  -- ---- rectangle by rectangle
  -- the first number of one rectangle and the others
  end-first : (r : Rect) (j : ℕ) (ns : List ℕ)
      → get_or (if_so (covers_first r h) (4 * j + 1) (if_so (covers_last r h) (4 * j + 2) (if_so (covers_first r v) (4 * j + 3) (if_so (covers_last r v) (4 * j + 4) ns)))) 0 0 ≡ cond (eqb (end_in r h v) 0) (get_or ns 0 0) (4 * j + end_in r h v)
  unfolding end_in
  end-first r j ns = go (covers_first r h) (covers_last r h) (covers_first r v) (covers_last r v)
    where
      go : (a b c d : Bool) → get_or (if_so a (4 * j + 1) (if_so b (4 * j + 2) (if_so c (4 * j + 3) (if_so d (4 * j + 4) ns)))) 0 0 ≡ cond (eqb (cond a 1 (cond b 2 (cond c 3 (cond d 4 0)))) 0) (get_or ns 0 0) (4 * j + cond a 1 (cond b 2 (cond c 3 (cond d 4 0))))
      go true b c d = refl
      go false true c d = refl
      go false false true d = refl
      go false false false true = refl
      go false false false false = refl

  -- the first j rectangles cover no end
  pub record Uncovered (rs : List Rect) (class j : ℕ) : Type 0 where
    pub within : j ≤ length rs
    pub same : get_or (covered_from h v j (drop j rs)) 0 0 ≡ class

  module _ (rs : List Rect) (class j : ℕ) (u : Uncovered rs class j) (l : j < length rs) (r : Rect) (is : r ≡ get_or rs j (common_of [])) where
    next : cond (eqb (end_in r h v) 0) (get_or (covered_from h v (suc j) (drop (suc j) rs)) 0 0) (4 * j + end_in r h v) ≡ class
    next =
        sym (end-first r j (covered_from h v (suc j) (drop (suc j) rs)))
        ∙ sym (ap (λ (qs : List Rect). get_or (covered_from h v j qs) 0 0) (drop-cons rs j (common_of []) l ∙ ap (λ (q : Rect). q ∷ drop (suc j) rs) (sym is)))
        ∙ u.same

    pub uncovered-more : end_in r h v ≡ 0 → Uncovered rs class (j + 1)
    uncovered-more e = rw add-one (record { within = l; same = rw e at next })

    pub uncovered-found : (e : ℕ) → e ≡ end_in r h v → (e ≡ 0 → ⊥) → 4 * j + e ≡ class
    uncovered-found zero e n = absurd (n refl)
    uncovered-found (suc e) q n = rw (← q, ne_eqb (suc e) 0 (λ z. omega arith)) at next

  pub uncovered-all : (rs : List Rect) (class j : ℕ) → Uncovered rs class j → length rs ≤ j → 0 ≡ class
  uncovered-all rs class j u l = sym (ap (λ (qs : List Rect). get_or (covered_from h v j qs) 0 0) (drop_of_length-le rs l)) ∙ u.same

-- ---- the class of rectangles with a common point
pub record Shares (rs : List Rect) : Type 0 where
  pub three : 3 ≤ length rs
  pub x : ℤ
  pub y : ℤ
  pub inside : All (In x y) rs

module _ (rs : List Rect) (s : Shares rs) where
  pub all_meet : All (BothMeet (horizontal_of rs) (vertical_of rs)) (others_of rs)
  all_meet =
      let p = all_get_d (common_of []) s.inside (length rs - 2) (omega (arith, s.three)) in
      let q = all_get_d (common_of []) s.inside (length rs - 1) (omega (arith, s.three)) in
      all_map (λ r i. (point-meets (horizontal_of rs) r s.x s.y p i, point-meets (vertical_of rs) r s.x s.y q i)) (all_take (length rs - 2) s.inside)

  pub class-first : class_of rs ≡ get_or (covered_from (horizontal_of rs) (vertical_of rs) 0 (others_of rs)) 0 0
  unfolding class_of
  class-first =
      let h = horizontal_of rs in
      let v = vertical_of rs in
      rw (both-cross h v 0 all_meet) (first-smallest (covered_from h v 0 (others_of rs)) (numbers-rise h v 0 (others_of rs)))

  pub others-long : length (others_of rs) ≡ length rs - 2
  others-long = length-take-le (length rs - 2) rs (omega arith)

  pub uncovered-none : Uncovered (horizontal_of rs) (vertical_of rs) (others_of rs) (class_of rs) 0
  uncovered-none = record { within = omega arith; same = sym class-first }

-- ---- the search for the class: n rectangles before the two segments, of which the first j cover no end
pub record Seeking (rs : List Rect) (h v : Rect) (n j : ℕ) : Type 0 where
  pub shares : Shares rs
  pub many : n ≡ length rs - 2
  pub uncovered : Uncovered h v (others_of rs) (class_of rs) j

pub seeking-none : (rs : List Rect) (h v : Rect) (k : ℕ) → Shares rs → length rs ≡ k → h ≡ get_or rs (k - 2) (common_of []) → v ≡ get_or rs (k - 1) (common_of []) → Seeking rs h v (k - 2) 0
seeking-none rs h v k s l p q =
    record { shares = s; many = rw (← l); uncovered = rw (p, q, ← l) (uncovered-none rs s) }

pub end-small : (r h v : Rect) → end_in r h v ≤ 4
unfolding end_in
end-small r h v = go (covers_first r h) (covers_last r h) (covers_first r v) (covers_last r v)
  where
    go : (a b c d : Bool) → cond a 1 (cond b 2 (cond c 3 (cond d 4 0))) ≤ 4
    go true b c d = omega arith
    go false true c d = omega arith
    go false false true d = omega arith
    go false false false true = omega arith
    go false false false false = omega arith

module _ (rs : List Rect) (h v : Rect) (n j : ℕ) (s : Seeking rs h v n j) where
  pub seeking-all : n ≤ j → 0 ≡ class_of rs
  seeking-all l = uncovered-all h v (others_of rs) (class_of rs) j s.uncovered (omega (arith, others-long rs s.shares, s.many))

  module _ (l : j < n) (r : Rect) (is : r ≡ get_or rs j (common_of [])) (e : ℕ) (found : e ≡ end_in r h v) where
    inside : j < length (others_of rs)
    inside = omega (arith, others-long rs s.shares, s.many)

    there : r ≡ get_or (others_of rs) j (common_of [])
    there = is ∙ sym (get_or-take (length rs - 2) rs j (common_of []) (omega (arith, s.many)))

    pub seeking-more : e ≡ 0 → Seeking rs h v n (j + 1)
    seeking-more z =
        record { shares = s.shares; many = s.many; uncovered = uncovered-more h v (others_of rs) (class_of rs) j s.uncovered inside r there (sym found ∙ z) }

    pub seeking-found : (e ≡ 0 → ⊥) → 4 * j + e ≡ class_of rs
    seeking-found z = uncovered-found h v (others_of rs) (class_of rs) j s.uncovered inside r there e found z

    pub found-small : length rs ≤ 6 → 4 * j + e ≤ 16
    found-small f = omega (arith, s.many, end-small r h v)
