-- Theorem: 02, Q-8, "Layers in any order", of every accepted plan. Proved in proofs/Theorems.antt. Sentences in quotes are the request's.
use Rattle.std.specs.Prelude.{◌≡◌, ◌↔◌, ℕ, ◌+◌, ◌≤◌, ◌<◌, length, get_or}
use mathlib.Core.List.{List, ◌++◌, map, Memᴰ}
use Rattle.std.proofs.Math.Option.{none}
use Rattle.lists.specs.Lists.{Distinct, Below, sum}
use Rattle.totals.specs.Totals.{value_of}
use Rattle.geometry.specs.declared.Rect.{Rect}
use Rattle.geometry.specs.Rectangles.{common}
use Rattle.plan.specs.Plan.{Layer, layers_of, sizes_of, layers, Typed, Sound, grown}
use Rattle.plan.specs.Spots.{layer_at}
use Rattle.sweep.specs.Sweep.{sweep_order}
use Rattle.join.specs.Join.{rects, common_of, area_in}
use Rattle.join.specs.Table.{plan_table}
use Rattle.ground.specs.Union.{union_of, grounds}
use Rattle.paging.specs.Calls.{run_cause, run_call, run_table, RunValues, run_values}
use Rattle.rows.specs.Tables.{rows_in}
use Rattle.symmetry.specs.Plans.{Plan, exchanging, arranged, arranged_row, piece, counted_on}

-- ---- what the laws speak of
abbrev pub Accepted : Plan → Type 0
Accepted p = Sound p.shape p.cells

-- its layers, grown
abbrev pub grown_layers : Plan → List Layer
grown_layers p = layers p.shape p.cells

-- its rows, the common ground of a row, the sum of the rows' areas, and the area of their union
abbrev pub table_in : Plan → List (List ℕ)
table_in p = plan_table p.shape p.cells

abbrev pub ground_in : Plan → List ℕ → Rect
ground_in p row = common_of (rects (grown_layers p) row)

abbrev pub areas_in : Plan → ℕ
areas_in p = sum (map (area_in (grown_layers p)) (table_in p))

abbrev pub union_in : Plan → ℕ
union_in p = union_of (grounds (grown_layers p) (table_in p))

-- ---- what becomes of the layers; this judges the definitions of specs/Plans.antt
-- the layer at m as it is drawn, and its margin
abbrev pub drawn_at : Plan → ℕ → Layer
drawn_at p m = layer_at (layers_of (sizes_of p.shape) p.cells) m

abbrev pub margin_at : Plan → ℕ → ℕ
margin_at p m = get_or p.shape.margins m 0

-- layer m of q is layer n of p: its size, its rectangles, and its margin
pub record SameLayer (q : Plan) (m : ℕ) (p : Plan) (n : ℕ) : Type 0 where
  pub drawn : drawn_at q m ≡ drawn_at p n
  pub margin : margin_at q m ≡ margin_at p n

-- an arrangement of k layers: each of the places 0 to k − 1 once
pub record Arrangement (k : ℕ) (places : List ℕ) : Type 0 where
  pub long : length places ≡ k
  pub below : Below k places
  pub once : Distinct places

-- the one that exchanges i and j, and leaves every other place
pub record Exchange (k i j : ℕ) (places : List ℕ) : Type 0 where
  pub arrangement : Arrangement k places
  pub first : get_or places i 0 ≡ j
  pub second : get_or places j 0 ≡ i
  pub others : (m : ℕ) → m < k → (m ≡ i → ⊥) → (m ≡ j → ⊥) → get_or places m 0 ≡ m

-- of layer j, q has the n rectangles from the place `from` on, and its margin; every other layer is p's
pub record PieceIs (j from n : ℕ) (p q : Plan) : Type 0 where
  pub others : (m : ℕ) → m < p.shape.k → (m ≡ j → ⊥) → SameLayer q m p m
  pub margin : margin_at q j ≡ margin_at p j
  pub size : (drawn_at q j).size ≡ n
  pub rects : (r : ℕ) → r < n → (drawn_at q j).rect r ≡ (drawn_at p j).rect (from + r)

-- ---- rows
-- the same set of rows, each row once, and so as many: where `more` is one list behind another, the two share nothing
pub record SameSet (rows more : List (List ℕ)) : Type 0 where
  pub same : (row : List ℕ) → Memᴰ row rows ↔ Memᴰ row more
  pub once : Distinct rows
  pub once_too : Distinct more
  pub many : length rows ≡ length more

-- q has as many layers as p and is accepted too
abbrev pub AcceptedToo : (p q : Plan) → Type 0
AcceptedToo p q = (q.shape.k ≡ p.shape.k) × Accepted q

-- each row of p keeps its common ground, and so its kind, as the row of q that `change` makes of it
abbrev pub KeepsGround : (p q : Plan) (change : List ℕ → List ℕ) → Type 0
KeepsGround p q change = (row : List ℕ) → Memᴰ row (table_in p) → ground_in q (change row) ≡ ground_in p row

-- ---- layers in another order: the layer of q at m is the one of p at the m-th of the places
pub record Rearranged (places : List ℕ) (p q : Plan) : Type 0 where
  pub layers : (m : ℕ) → m < p.shape.k → SameLayer q m p (get_or places m 0)
  pub accepted : AcceptedToo p q
  -- "the same set of rows with those two columns exchanged, ..
  pub rows : SameSet (table_in q) (map (arranged_row places) (table_in p))
  -- .. and the same area sum"; the union has the same area too
  pub areas : areas_in q ≡ areas_in p
  pub union : union_in q ≡ union_in p
  pub ground : KeepsGround p q (arranged_row places)

-- ---- "Cutting a layer's list in two and joining with each part": layer j of p into its first m rectangles and the n behind them
pub record Cut (j m n : ℕ) (p one two : Plan) : Type 0 where
  pub pieces : PieceIs j 0 m p one × PieceIs j m n p two
  pub accepted : AcceptedToo p one × AcceptedToo p two
  -- "gives sets of rows that share nothing and together make the old one, the places of the second part counted on from the first."
  pub rows : SameSet (table_in p) (table_in one ++ map (counted_on j m) (table_in two))
  -- "The area sums of the two parts add up to the old one."
  pub areas : areas_in one + areas_in two ≡ areas_in p
  pub ground : KeepsGround one p (λ row. row) × KeepsGround two p (counted_on j m)

-- ---- whole runs: of a plan, with an order, into a table
-- what a whole run is lent: an order, a table, and a work buffer of so many cells
pub record Lent : Type 0 where
  pub order : List ℕ
  pub table : List ℕ
  pub work : ℕ

module _ (p : Plan) (l : Lent) where
  -- it is accepted: no cause refuses it, and so the table fits
  abbrev pub Ran : Type 0
  Ran = Typed p.shape × (run_cause none p.shape p.cells l.order l.table l.work ≡ 0)

  -- what it returns
  abbrev pub run_answer : RunValues
  run_answer = run_values (run_call none p.shape p.cells l.order l.table l.work)

  -- the rows that it hands out: k cells for each row that it reports, from its table as it left it
  abbrev pub handed_out : List (List ℕ)
  handed_out = rows_in p.shape.k run_answer.rows (run_table none p.shape p.cells l.order l.table l.work)

-- ---- "Taking common ground is commutative, associative, and unchanged by the same rectangle again."
pub record TakingGround : Type 0 where
  -- so what the test of two rectangles hands back does not depend on which comes first (geometry, `CommonGround`)
  pub commutative : (a b : Rect) → common a b ≡ common b a
  pub associative : (a b c : Rect) → common (common a b) c ≡ common a (common b c)
  pub same : (a : Rect) → common a a ≡ a
  pub again : (a b : Rect) → common (common a b) b ≡ common a b

pub record LayersInAnyOrder : Type 0 where
  -- all layers in any order, and the columns of a row likewise
  pub arrange : (places : List ℕ) (p : Plan) → Accepted p → Arrangement p.shape.k places → Rearranged places p (arranged places p)
  pub columns : (places row : List ℕ) (m : ℕ) → m < length places → get_or (arranged_row places row) m 0 ≡ get_or row (get_or places m 0) 0
  -- any two layers, of any k: one such arrangement
  pub exchange : (i j : ℕ) (p : Plan) → Accepted p → i < p.shape.k → j < p.shape.k
      → let places = exchanging p.shape.k i j in Exchange p.shape.k i j places × Rearranged places p (arranged places p)
  -- any layer, cut at any place; either part may be empty
  pub cut : (j m n : ℕ) (p : Plan) → Accepted p → j < p.shape.k → (drawn_at p j).size ≡ m + n → Cut j m n p (piece j 0 m p) (piece j m n p)
  -- "counted on from the first": at j by m, and nowhere else
  pub counted : (j m : ℕ) (row : List ℕ)
      → (j < length row → get_or (counted_on j m row) j 0 ≡ m + get_or row j 0)
      × ((i : ℕ) → (i ≡ j → ⊥) → get_or (counted_on j m row) i 0 ≡ get_or row i 0)
  pub ground : TakingGround
  -- so it is with what accepted whole runs hand out and return, with any orders, tables and work buffers
  pub runs : (places : List ℕ) (p q : Plan) (l m : Lent) → Rearranged places p q → Ran p l → Ran q m
      → SameSet (handed_out q m) (map (arranged_row places) (handed_out p l)) × ((run_answer q m).area ≡ (run_answer p l).area)
      × ((run_answer q m).ground ≡ (run_answer p l).ground)
  pub runs_cut : (j m n : ℕ) (p one two : Plan) (l a b : Lent) → Cut j m n p one two → Ran p l → Ran one a → Ran two b
      → SameSet (handed_out p l) (handed_out one a ++ map (counted_on j m) (handed_out two b))
      × (value_of (run_answer one a).area + value_of (run_answer two b).area ≡ value_of (run_answer p l).area)
  -- and a table and work buffer that suffice for a plan suffice, with its sweep order, for one of as many layers and no more rows
  pub fits : (p q : Plan) (l : Lent) → AcceptedToo p q → length (table_in q) ≤ length (table_in p) → Ran p l
      → Ran q (record { order = sweep_order (grown q.shape q.cells); table = l.table; work = l.work })
