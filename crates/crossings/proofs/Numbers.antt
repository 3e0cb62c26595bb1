-- The numbers of the ends that are covered are those that 02 gives them, and the class is as 02 says.
use mathlib.Core.Path.{◌≡◌, refl, sym, ap, ◌∙◌, subst}
use mathlib.Core.List.Memᴰ
use mathlib.Core.List.{List, [], ◌∷◌, Memᴰ}
use mathlib.Core.Bool.{Bool, true, false, ◌&&◌}
use mathlib.Core.Logic.{◌⊎◌, inl, inr}
use Prim.Native.Nat.{ℕ, zero, suc, ◌+◌, ◌-◌, ◌*◌, ◌≤◌, ◌<◌}
use native.Mathlib.Omega.{arith}
use lib.IntN.{ℤ}
use lib.Signed.{le_z}
use lib.ListN.{length, get_or}
use lib.Seq.{get_or-take}
use Rattle.lists.specs.Lists.{All, ◌and◌, Pairwise, ◌then◌}
use Rattle.lists.proofs.Lists.{all-at, all_get_d}
use Rattle.lists.proofs.Tests.{both, and-true, clash}
use Rattle.geometry.specs.declared.Rect.{Rect}
use Rattle.geometry.specs.Rectangles.{In}
use Rattle.geometry.proofs.Integers.{zarith}
use Rattle.join.specs.Join.{common_of}
use Rattle.crossings.specs.Crossings.{covers, covers_first, covers_last, horizontal_of, vertical_of, others_of, if_so, covered_from, class_of}
use Rattle.crossings.specs.Theorems.{of_layer, Crosses, Covered, left, right, bottom, top, Numbered, numbered, IsClass}
use Rattle.crossings.proofs.Classes.{Rising, numbers-rise, Shares, class-first, others-long}

pub covers-in : (r : Rect) (x y : ℤ) → covers r x y ≡ true → In x y r
unfolding covers
covers-in r x y e =
    let a = both (le_z r.left x && le_z x r.right && le_z r.bottom y) (le_z y r.top) e in
    let b = both (le_z r.left x && le_z x r.right) (le_z r.bottom y) a.0 in
    let c = both (le_z r.left x) (le_z x r.right) b.0 in
    omega zarith

pub in-covers : (r : Rect) (x y : ℤ) → In x y r → covers r x y ≡ true
unfolding covers
in-covers r x y h =
    and-true (le_z r.left x && le_z x r.right && le_z r.bottom y) (le_z y r.top)
    (and-true (le_z r.left x && le_z x r.right) (le_z r.bottom y) (and-true (le_z r.left x) (le_z x r.right) (omega zarith) (omega zarith)) (omega zarith))
    (omega zarith)

-- ---- the numbers in the list
here : (t : Bool) (n : ℕ) (ns : List ℕ) {d : ℕ} → t ≡ true → d ≡ n → Memᴰ d (if_so t n ns)
here true n ns e q = Memᴰ.head q
here false n ns e q = clash e refl

there : (t : Bool) (n : ℕ) (ns : List ℕ) {d : ℕ} → Memᴰ d ns → Memᴰ d (if_so t n ns)
there true n ns m = Memᴰ.tail m
there false n ns m = m

which : (t : Bool) {n d : ℕ} {ns : List ℕ} → Memᴰ d (if_so t n ns) → ((t ≡ true) × (d ≡ n)) ⊎ Memᴰ d ns
which true {n} {d} {ns} m = go (Memᴰ.cases_cons m)
  where
    go : (d ≡ n) ⊎ Memᴰ d ns → ((true ≡ true) × (d ≡ n)) ⊎ Memᴰ d ns
    go (inl e) = inl (refl, e)
    go (inr k) = inr k
which false m = inr m

module _ (h v : Rect) where
  -- d is the number of an end that the rectangle covers, where those of its layer come after n
  data Reached (r : Rect) (n d : ℕ) : Type 0 where
    at_left : covers_first r h ≡ true → d ≡ n + 1 → Reached r n d
    at_right : covers_last r h ≡ true → d ≡ n + 2 → Reached r n d
    at-bottom : covers_first r v ≡ true → d ≡ n + 3 → Reached r n d
    at_top : covers_last r v ≡ true → d ≡ n + 4 → Reached r n d

  -- what is left of the numbers of a rectangle and the later ones behind its first, its second and its third end
  abbrev after3 : ℕ → Rect → List Rect → List ℕ
  after3 j r rs = if_so (covers_last r v) (4 * j + 4) (covered_from h v (suc j) rs)

  abbrev after2 : ℕ → Rect → List Rect → List ℕ
  after2 j r rs = if_so (covers_first r v) (4 * j + 3) (after3 j r rs)

  abbrev after1 : ℕ → Rect → List Rect → List ℕ
  after1 j r rs = if_so (covers_last r h) (4 * j + 2) (after2 j r rs)

  past2 : (j : ℕ) (r : Rect) (rs : List Rect) {d : ℕ} → Memᴰ d (after2 j r rs) → Memᴰ d (covered_from h v j (r ∷ rs))
  past2 j r rs m = there (covers_first r h) (4 * j + 1) (after1 j r rs) (there (covers_last r h) (4 * j + 2) (after2 j r rs) m)

  past3 : (j : ℕ) (r : Rect) (rs : List Rect) {d : ℕ} → Memᴰ d (after3 j r rs) → Memᴰ d (covered_from h v j (r ∷ rs))
  past3 j r rs m = past2 j r rs (there (covers_first r v) (4 * j + 3) (after3 j r rs) m)

  reached-mem : (j : ℕ) (rs : List Rect) (p : ℕ) {d : ℕ} → p < length rs → Reached (get_or rs p (common_of [])) (4 * (j + p)) d → Memᴰ d (covered_from h v j rs)
  reached-mem j [] p l q = absurd (omega arith)
  reached-mem j (r ∷ rs) zero l (at_left e q) = here (covers_first r h) (4 * j + 1) (after1 j r rs) e (omega arith)
  reached-mem j (r ∷ rs) zero l (at_right e q) = there (covers_first r h) (4 * j + 1) (after1 j r rs) (here (covers_last r h) (4 * j + 2) (after2 j r rs) e (omega arith))
  reached-mem j (r ∷ rs) zero l (at-bottom e q) = past2 j r rs (here (covers_first r v) (4 * j + 3) (after3 j r rs) e (omega arith))
  reached-mem j (r ∷ rs) zero l (at_top e q) = past3 j r rs (here (covers_last r v) (4 * j + 4) (covered_from h v (suc j) rs) e (omega arith))
  reached-mem j (r ∷ rs) (suc p) {d} l q =
      let e : 4 * (j + suc p) ≡ 4 * (suc j + p) = omega arith in
      past3 j r rs (there (covers_last r v) (4 * j + 4) (covered_from h v (suc j) rs) (reached-mem (suc j) rs p (omega arith) (subst (λ (n : ℕ). Reached (get_or rs p (common_of [])) n d) e q)))

  abbrev Found : ℕ → List Rect → ℕ → Type 0
  Found j rs d = (p : ℕ) × (p < length rs) × Reached (get_or rs p (common_of [])) (4 * (j + p)) d

  mem-reached : (j : ℕ) (rs : List Rect) (d : ℕ) → Memᴰ d (covered_from h v j rs) → Found j rs d
  mem-reached j [] d m = absurd (Memᴰ.not-nil m)
  mem-reached j (r ∷ rs) d m = one (which (covers_first r h) m) (mem-reached (suc j) rs d)
    where
      later : Found (suc j) rs d → Found j (r ∷ rs) d
      later f =
          let e : 4 * (suc j + f.0) ≡ 4 * (j + suc f.0) = omega arith in
          (suc f.0, omega (arith, f.1), subst (λ (n : ℕ). Reached (get_or rs f.0 (common_of [])) n d) e f.2)

      four : ((covers_last r v ≡ true) × (d ≡ 4 * j + 4)) ⊎ Memᴰ d (covered_from h v (suc j) rs) → (Memᴰ d (covered_from h v (suc j) rs) → Found (suc j) rs d) → Found j (r ∷ rs) d
      four (inl k) f = (0, omega arith, at_top k.0 (omega (arith, k.1)))
      four (inr k) f = later (f k)

      three : ((covers_first r v ≡ true) × (d ≡ 4 * j + 3)) ⊎ Memᴰ d (after3 j r rs) → (Memᴰ d (covered_from h v (suc j) rs) → Found (suc j) rs d) → Found j (r ∷ rs) d
      three (inl k) f = (0, omega arith, at-bottom k.0 (omega (arith, k.1)))
      three (inr k) f = four (which (covers_last r v) k) f

      two : ((covers_last r h ≡ true) × (d ≡ 4 * j + 2)) ⊎ Memᴰ d (after2 j r rs)
          → (Memᴰ d (covered_from h v (suc j) rs) → Found (suc j) rs d) → Found j (r ∷ rs) d
      two (inl k) f = (0, omega arith, at_right k.0 (omega (arith, k.1)))
      two (inr k) f = three (which (covers_first r v) k) f

      one : ((covers_first r h ≡ true) × (d ≡ 4 * j + 1)) ⊎ Memᴰ d (after1 j r rs)
          → (Memᴰ d (covered_from h v (suc j) rs) → Found (suc j) rs d) → Found j (r ∷ rs) d
      one (inl k) f = (0, omega arith, at_left k.0 (omega (arith, k.1)))
      one (inr k) f = two (which (covers_last r h) k) f

-- ---- the first of numbers that rise
first-mem : (ns : List ℕ) → (get_or ns 0 0 ≡ 0 → ⊥) → Memᴰ (get_or ns 0 0) ns
first-mem [] n = absurd (n refl)
first-mem (m ∷ ns) n = Memᴰ.head refl

first-least : {m d : ℕ} (ns : List ℕ) → Rising m ns → Memᴰ d ns → (m ≤ get_or ns 0 0) × (get_or ns 0 0 ≤ d)
first-least [] r k = absurd (Memᴰ.not-nil k)
first-least {m} {d} (n ∷ ns) r k = (low r.above, go (Memᴰ.cases_cons k) r.rising)
  where
    low : All (λ a. m ≤ a) (n ∷ ns) → m ≤ n
    low (◌and◌ p ps) = p

    go : (d ≡ n) ⊎ Memᴰ d ns → Pairwise (λ a b. a ≤ b) (n ∷ ns) → n ≤ d
    go (inl e) p = omega arith
    go (inr q) (◌then◌ p ps) = all-at p q

-- ---- the class
module _ (rs : List Rect) (s : Shares rs) where
  abbrev numbers : List ℕ
  numbers = covered_from (horizontal_of rs) (vertical_of rs) 0 (others_of rs)

  across : of_layer rs (length rs - 1) ≡ horizontal_of rs
  across = let e : length rs - 1 - 1 ≡ length rs - 2 = omega arith in ap (λ (n : ℕ). get_or rs n (common_of [])) e

  other : (i : ℕ) → 1 ≤ i → i + 2 ≤ length rs → get_or (others_of rs) (i - 1) (common_of []) ≡ of_layer rs i
  other i a b = get_or-take (length rs - 2) rs (i - 1) (common_of []) (omega arith)

  reached : (i d : ℕ) → 1 ≤ i → i + 2 ≤ length rs → Reached (horizontal_of rs) (vertical_of rs) (of_layer rs i) (4 * (0 + (i - 1))) d → Memᴰ d numbers
  reached i d a b q =
      reached-mem (horizontal_of rs) (vertical_of rs) 0 (others_of rs) (i - 1) (omega (arith, others-long rs s))
      (subst (λ (r : Rect). Reached (horizontal_of rs) (vertical_of rs) r (4 * (0 + (i - 1))) d) (sym (other i a b)) q)

  -- its segments
  abbrev h : Rect
  h = of_layer rs (length rs - 1)

  abbrev v : Rect
  v = of_layer rs (length rs)

  covered-mem : (i : ℕ) → 1 ≤ i → i + 2 ≤ length rs → {e : ℕ} → Covered h v (of_layer rs i) e → Memᴰ (4 * (i - 1) + e) numbers
  covered-mem i a b (left q) = reached i _ a b (at_left (in-covers _ _ _ (subst (λ (h : Rect). In h.left h.bottom (of_layer rs i)) across q)) (omega arith))
  covered-mem i a b (right q) = reached i _ a b (at_right (in-covers _ _ _ (subst (λ (h : Rect). In h.right h.top (of_layer rs i)) across q)) (omega arith))
  covered-mem i a b (bottom q) = reached i _ a b (at-bottom (in-covers _ _ _ q) (omega arith))
  covered-mem i a b (top q) = reached i _ a b (at_top (in-covers _ _ _ q) (omega arith))

  numbered-mem : {d : ℕ} → Numbered rs h v d → Memᴰ d numbers
  numbered-mem (numbered i a b q) = covered-mem i a b q

  mem-numbered : {d : ℕ} → Memᴰ d numbers → Numbered rs h v d
  mem-numbered {d} m = let f = mem-reached (horizontal_of rs) (vertical_of rs) 0 (others_of rs) d m in go f.0 f.1 f.2
    where
      same : (p : ℕ) → p < length (others_of rs) → get_or (others_of rs) p (common_of []) ≡ of_layer rs (p + 1)
      same p l =
          let e : p + 1 - 1 ≡ p = omega arith in
          get_or-take (length rs - 2) rs p (common_of []) (omega (arith, others-long rs s)) ∙ sym (ap (λ (n : ℕ). get_or rs n (common_of [])) e)

      at : (p e : ℕ) → p < length (others_of rs) → d ≡ 4 * (0 + p) + e → Covered h v (of_layer rs (p + 1)) e → Numbered rs h v d
      at p e l q c = let z : 4 * (p + 1 - 1) + e ≡ d = omega arith in subst (Numbered rs h v) z (numbered (p + 1) (omega arith) (omega (arith, others-long rs s)) c)

      go : (p : ℕ) → p < length (others_of rs) → Reached (horizontal_of rs) (vertical_of rs) (get_or (others_of rs) p (common_of [])) (4 * (0 + p)) d → Numbered rs h v d
      go p l (at_left e q) = at p 1 l q (left (rw (across, ← same p l) (covers-in _ _ _ e)))
      go p l (at_right e q) = at p 2 l q (right (rw (across, ← same p l) (covers-in _ _ _ e)))
      go p l (at-bottom e q) = at p 3 l q (bottom (rw (← same p l) (covers-in _ _ _ e)))
      go p l (at_top e q) = at p 4 l q (top (rw (← same p l) (covers-in _ _ _ e)))

  class-numbered : (class_of rs ≡ 0 → ⊥) → Numbered rs h v (class_of rs)
  class-numbered n = mem-numbered (subst (λ (c : ℕ). Memᴰ c numbers) (sym (class-first rs s)) (first-mem numbers (λ e. n (class-first rs s ∙ e))))

  class-least : {d : ℕ} → Numbered rs h v d → (1 ≤ class_of rs) × (class_of rs ≤ d)
  class-least {d} k =
      let f = first-least numbers (numbers-rise (horizontal_of rs) (vertical_of rs) 0 (others_of rs)) (numbered-mem k) in
      (omega (arith, class-first rs s, f.0), omega (arith, class-first rs s, f.1))

  class-most : {d : ℕ} → Numbered rs h v d → d ≤ 4 * (length rs - 2)
  class-most (numbered i a b (left q)) = omega arith
  class-most (numbered i a b (right q)) = omega arith
  class-most (numbered i a b (bottom q)) = omega arith
  class-most (numbered i a b (top q)) = omega arith

  -- every point of the row lies in each rectangle
  point : (i : ℕ) → 1 ≤ i → i ≤ length rs → In s.x s.y (of_layer rs i)
  point i a b = all_get_d (common_of []) s.inside (i - 1) (omega arith)

  -- both segments cross every other rectangle
  abbrev CrossAll : Type 0
  CrossAll = (i : ℕ) → 1 ≤ i → i + 2 ≤ length rs → Crosses h (of_layer rs i) × Crosses v (of_layer rs i)

  cross-all : class_of rs ≡ 0 → CrossAll
  cross-all e i a b = (
    record {
      meet = (s.x, s.y, (point (length rs - 1) (omega arith) (omega arith), point i a (omega arith)));
      first = λ q. none (left q);
      last = λ q. none (right q);
    },
    record {
      meet = (s.x, s.y, (point (length rs) (omega arith) (omega arith), point i a (omega arith)));
      first = λ q. none (bottom q);
      last = λ q. none (top q);
    },
  )
    where
      none : {d : ℕ} → Covered h v (of_layer rs i) d → ⊥
      none c = omega (arith, (class-least (numbered i a b c)).0)

  none-covered : CrossAll → {d : ℕ} → Numbered rs h v d → ⊥
  none-covered f (numbered i a b (left q)) = (f i a b).0.first q
  none-covered f (numbered i a b (right q)) = (f i a b).0.last q
  none-covered f (numbered i a b (bottom q)) = (f i a b).1.first q
  none-covered f (numbered i a b (top q)) = (f i a b).1.last q

  pub is-class : IsClass rs h v (class_of rs)
  is-class = record {
    none = (cross-all, λ f. zero_of (class_of rs) refl f);
    one = class-numbered;
    smallest = λ n k. (class-least k).1;
    most = most-of (class_of rs) refl;
  }
    where
      zero_of : (c : ℕ) → class_of rs ≡ c → CrossAll → class_of rs ≡ 0
      zero_of zero e f = e
      zero_of (suc c) e f = absurd (none-covered f (class-numbered (λ z. omega arith)))

      most-of : (c : ℕ) → class_of rs ≡ c → class_of rs ≤ 4 * (length rs - 2)
      most-of zero e = omega arith
      most-of (suc c) e = class-most (class-numbered (λ z. omega arith))
