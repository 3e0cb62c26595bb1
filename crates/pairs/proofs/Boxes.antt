-- Helly's law for upright rectangles: where each two meet, all have a common point. What two have in common meets each third, so they can be taken one by one.
use mathlib.Core.Path.{◌≡◌}
use mathlib.Core.List.{List}
use mathlib.Core.Bool.{true}
use mathlib.Core.Logic.{◌↔◌}
use lib.IntN.{ℤ, pos}
use lib.Signed.{le_z, ◌≤ℤ◌}
use Rattle.lists.specs.Lists.{All, none_left, ◌and◌, Pairwise, done, ◌then◌}
use Rattle.lists.proofs.Tests.{and-true}
use Rattle.lists.proofs.Lists.{all_map, pairwise_map}
use Rattle.geometry.specs.declared.Rect.{Rect}
use Rattle.geometry.specs.Rectangles.{In, max_z, min_z, common, nonempty, meets}
use Rattle.geometry.proofs.Integers.{zarith}
use Rattle.geometry.proofs.Rectangles.{max-law, min-law, sides, point-meets}
use Rattle.join.specs.Join.{cut}
use Rattle.join.proofs.Join.{corner, point-some, cut_in}
use Rattle.geometry.specs.Theorems.{Meet}
use Rattle.pairs.specs.Theorems.{HoldsPoint}

-- two extents, a to x and b to y, meet where each begins before each ends
extents : (a b x y : ℤ) → max_z a b ≤ℤ min_z x y → (a ≤ℤ y) × (b ≤ℤ x) × (b ≤ℤ y)
extents a b x y h = let m = max-law a b in let n = min-law x y in (omega zarith, omega zarith, omega zarith)

-- what two extents have in common meets a third that both meet
third : (a b c x y z : ℤ) → max_z a b ≤ℤ min_z x y → max_z a c ≤ℤ min_z x z → max_z b c ≤ℤ min_z y z → max_z (max_z a b) c ≤ℤ min_z (min_z x y) z
third a b c x y z h k l =
    let p = extents a c x z k in
    let q = extents b c y z l in
    let m : max_z a b ≤ℤ z = omega (zarith, p.0, q.0, max-law a b) in
    let n : c ≤ℤ min_z x y = omega (zarith, p.1, q.1, min-law x y) in
    omega (zarith, p.2, max-law (max_z a b) c, min-law (min_z x y) z)

meet-third : (a b c : Rect) → meets a b ≡ true → meets a c ≡ true → meets b c ≡ true → meets (common a b) c ≡ true
unfolding meets nonempty common
meet-third a b c h k l =
    let p = sides (common a b) h in
    let q = sides (common a c) k in
    let r = sides (common b c) l in
    let u = third a.left b.left c.left a.right b.right c.right p.0 q.0 r.0 in
    let v = third a.bottom b.bottom c.bottom a.top b.top c.top p.1 q.1 r.1 in
    and-true (le_z (max_z (max_z a.left b.left) c.left) _) (le_z (max_z (max_z a.bottom b.bottom) c.bottom) _) (omega zarith) (omega zarith)

-- the common ground of a rectangle and others that meet it and each other holds a point
meet_all : (c : Rect) {rs : List Rect} → nonempty c ≡ true → All (λ r. meets c r ≡ true) rs → Pairwise (λ a b. meets a b ≡ true) rs → nonempty (cut c rs) ≡ true
unfolding meets
meet_all c e none_left done = e
meet_all c e (◌and◌ {a = r} k ks) (◌then◌ h hs) = meet_all (common c r) k (go ks h) hs
  where
    go : {rs : List Rect} → All (λ q. meets c q ≡ true) rs → All (λ q. meets r q ≡ true) rs → All (λ q. meets (common c r) q ≡ true) rs
    go none_left none_left = none_left
    go (◌and◌ {a = q} m ms) (◌and◌ n ns) = ◌and◌ (meet-third c r q k m n) (go ms ns)

pub pairs-point : {rs : List Rect} → All (λ r. nonempty r ≡ true) rs → Pairwise (λ a b. meets a b ≡ true) rs → (x : ℤ) × (y : ℤ) × All (In x y) rs
pairs-point none_left done = (pos 0, pos 0, none_left)
pairs-point (◌and◌ {a = r} {l = rs} e es) (◌then◌ h hs) =
    let c = cut r rs in (c.left, c.bottom, cut_in c.left c.bottom r rs (corner c (meet_all r e h hs)))

point-pairs : (x y : ℤ) {rs : List Rect} → All (In x y) rs → Pairwise Meet rs
point-pairs x y none_left = done
point-pairs x y (◌and◌ p ps) = ◌then◌ (all_map (λ b q. (x, y, (p, q))) ps) (point-pairs x y ps)

pub meet-meets : (a b : Rect) → Meet a b → meets a b ≡ true
meet-meets a b p = point-meets a b p.0 p.1 p.2.0 p.2.1

pub helly-holds : (rs : List Rect) → All HoldsPoint rs → ((x : ℤ) × (y : ℤ) × All (In x y) rs) ↔ Pairwise Meet rs
helly-holds rs some = (
  λ p. point-pairs p.0 p.1 p.2,
  λ m. pairs-point (all_map (λ r p. point-some p.0 p.1 r p.2) some) (pairwise_map (λ a b p. meet-meets a b p) m),
)
