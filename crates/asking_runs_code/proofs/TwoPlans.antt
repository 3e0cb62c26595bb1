-- Laws of the plan of the layers at i and j: its cells, how many rows it has, and that its lines are the plan's.
use mathlib.Core.Path.{◌≡◌, refl, sym, ap, ◌∙◌}
use mathlib.Core.List.{List, [], ◌∷◌, ◌++◌, map, flat_map}
use Prim.Native.Nat.{ℕ, ◌+◌, ◌*◌, ◌≤◌, ◌<◌}
use native.Mathlib.Nat.{mul-le-mul}
use native.Mathlib.Omega.{arith}
use lib.IntN.{ℤ}
use lib.ListN.{length, get_or, take, drop, length-append, length-take, length-map}
use lib.Seq.{take_at}
use Rattle.lists.specs.Lists.{rows_below, sum}
use Rattle.lists.specs.inner.Stores.{Put}
use Rattle.lists.proofs.Kept.{each-short}
use Rattle.lists.proofs.Stores.{put-start, put-length}
use Rattle.plan.specs.declared.Shape.{Shape}
use Rattle.plan.specs.Plan.{layers, Sound}
use Rattle.plan.proofs.Plan.{checked}
use Rattle.plan.proofs.Spots.{layer-within}
use Rattle.join.specs.Table.{sizes_in, plan_table}
use Rattle.join.proofs.Table.{within-rows}
use Rattle.ground_code.proofs.Known.{distinct-few}
use Rattle.symmetry.proofs.Sheets.{sheets-of}
use Rattle.asking.specs.Pairs.{two_shape, two_cells, PairRow, rows_of_two}
use Rattle.asking.specs.Lines.{two_line}
use Rattle.asking.specs.Theorems.{two_layers, TwoHold}
use Rattle.asking.proofs.Theorems.{asking}
use Rattle.asking_runs_code.specs.declared.Listed.{Listed}
use Rattle.asking_runs_code.specs.Parts.{of_two, lines_of_two, part_of, LayerThere}
use Rattle.asking_runs_code.specs.Listing.{Listable, Lists, Twofold, TwoListable, TwoListed}

-- two layers have no more rows than pairs of places
rows-of-two : (a b : ℕ) → a ≤ 512 → b ≤ 512 → length (rows_below (a ∷ b ∷ [])) ≤ 262144
rows-of-two a b h k =
    let one = each-short (λ q. map (λ (row : List ℕ). q ∷ row) (rows_below [])) 1 0 b (λ q. omega arith) in
    let all = each-short (λ p. map (λ (row : List ℕ). p ∷ row) (rows_below (b ∷ []))) b 0 a (λ p. omega (arith, one, length-map (rows_below (b ∷ [])) (λ (row : List ℕ). p ∷ row))) in
    omega (arith, all, mul-le-mul h k)

-- a line is the same of the plan as of the two layers
lines_same : (s : Shape) (cells : List ℤ) (i j : ℕ) (rows : List (List ℕ))
    → flat_map (two_line s cells) (map (λ row. record { lower = i; higher = j; row = row }) rows) ≡ lines_of_two (layers (two_shape s i j) (two_cells s cells i j)) i j rows
unfolding flat_map of_two
lines_same s cells i j [] = refl
lines_same s cells i j (row ∷ rows) =
    ap (λ (l : List ℕ). of_two (layers (two_shape s i j) (two_cells s cells i j)) i j row ++ l) (lines_same s cells i j rows)

module _ (s : Shape) (cells : List ℤ) (i j : ℕ) (sound : Sound s cells) (a : i < s.k) (b : j < s.k) where
  holds : TwoHold s cells i j
  holds = asking.two s cells sound i j a b

  pub size_few : (m : ℕ) → m < s.k → get_or s.sizes m 0 ≤ 512
  size_few m h = ((sheets-of s cells sound).sheet m h).small

  pub two-few : length (plan_table (two_shape s i j) (two_cells s cells i j)) ≤ 262144
  unfolding two_shape
  two-few =
      let table = plan_table (two_shape s i j) (two_cells s cells i j) in
      let ls = two_layers s cells i j in
      let z : sizes_in ls ≡ get_or s.sizes i 0 ∷ get_or s.sizes j 0 ∷ [] = ap sizes_in (sym holds.same) in
      let n = distinct-few table (rows_below (sizes_in ls)) holds.table.once (λ row m. within-rows (holds.table.sound row m).within) in
      omega (arith, n, ap (λ (l : List ℕ). length (rows_below l)) z, rows-of-two (get_or s.sizes i 0) (get_or s.sizes j 0) (size_few i a) (size_few j b))

  six : s.k ≤ 6
  six = (checked s cells sound).high

  pub both_below : (i < 6) × (j < 6)
  both_below = (omega (arith, six), omega (arith, six))

  layer-there : (m : ℕ) → m < s.k → LayerThere s.sizes cells m
  layer-there m h =
      record { few = omega (arith, sound.typed.sizes); there = omega (arith, sound.typed.sizes, six); inside = omega (arith, (checked s cells sound).whole, layer-within s.sizes m) }

  pub both-there : LayerThere s.sizes cells i × LayerThere s.sizes cells j
  both-there = (layer-there i a, layer-there j b)

  pub both-room : 4 * get_or s.sizes i 0 + 4 * get_or s.sizes j 0 ≤ 4096
  both-room = omega (arith, size_few i a, size_few j b)

  -- the plan as it is made
  module _ (shape2 : Shape) (q : shape2 ≡ two_shape s i j) (first run : List ℤ) (n : ℕ) (long : length first ≡ 4096)
      (p : Put first 0 (part_of s.sizes cells i ++ part_of s.sizes cells j) run n) where
    made-few : length (part_of s.sizes cells i ++ part_of s.sizes cells j) ≤ 4096
    made-few =
        omega (
          arith,
          both-room,
          length-append (part_of s.sizes cells i) (part_of s.sizes cells j),
          length-take (4 * get_or s.sizes i 0) (drop (4 * sum (take i s.sizes)) cells),
          length-take (4 * get_or s.sizes j 0) (drop (4 * sum (take j s.sizes)) cells),
        )

    pub made_inside : n ≤ length run
    made_inside = omega (arith, p.place, made-few, put-length first run _ 0 n p)

    pub made-long : n ≡ length (take n run)
    made-long = omega (arith, length-take n run, made_inside)

    made : take n run ≡ two_cells s cells i j
    unfolding two_cells
    made =
        let whole = part_of s.sizes cells i ++ part_of s.sizes cells j in
        ap (take n) (put-start first run whole n (omega (arith, made-few)) p) ∙ take_at whole (drop (length whole) first) n (omega (arith, p.place))

    pub twofold : Twofold shape2 (take n run) i j
    unfolding two_shape
    twofold = rw (q, made) (record { sound = holds.sound; two = refl; few = two-few; low = omega (arith, six); high = omega (arith, six) })

    module _ (out : List ℕ) (from : Listed) where
      pub two-listable : Listable (two_line s cells) (rows_of_two s cells i j) out from → TwoListable shape2 (take n run) i j out from
      two-listable l =
          rw (q, made) (record {
            fits = rw (lines_same s cells i j (plan_table (two_shape s i j) (two_cells s cells i j))) at l.fits;
            few = omega (arith, l.few, length-map {B = PairRow} (plan_table (two_shape s i j) (two_cells s cells i j)) (λ row. record { lower = i; higher = j; row = row }));
          })

      pub two-listed : (after : List ℕ) (r : Listed) → TwoListed shape2 (take n run) i j out from after r → Lists (two_line s cells) (rows_of_two s cells i j) out from after r
      two-listed after r l =
          let t = rw (q, made) at l in
          record {
            put = rw (lines_same s cells i j (plan_table (two_shape s i j) (two_cells s cells i j))) t.put;
            count = omega (arith, t.count, length-map {B = PairRow} (plan_table (two_shape s i j) (two_cells s cells i j)) (λ row. record { lower = i; higher = j; row = row }));
          }
