-- A picture as a whole: head, layers, rows, tail; and what is said of a text.
use mathlib.Core.Path.{◌≡◌, refl, ap, ap₂, subst}
use mathlib.Core.List.{List, [], ◌∷◌, ◌++◌, flat_map}
use mathlib.Core.Bool.{Bool, true, false, cond}
use mathlib.Core.Option.{none}
use Prim.Native.Nat.{ℕ, zero, suc, ◌+◌, ◌*◌, ◌≤◌}
use native.Mathlib.Omega.{arith}
use lib.Dec.{leb}
use lib.IntN.{ℤ, pos, negsuc, nat_abs, ◌-ℤ◌}
use lib.ListN.{length, get_or, drop}
use lib.Signed.{◌≤ℤ◌}
use borrow.Author.Tests.{leb-true}
use Rattle.lists.specs.Lists.{upto}
use Rattle.geometry.specs.declared.Rect.{Rect}
use Rattle.geometry.specs.declared.Kind.TheVariants.{Point}
use Rattle.geometry.proofs.Integers.{zarith, sub-law}
use Rattle.decimal.specs.Numerals.{decimal, numeral}
use Rattle.plan.specs.Causes.{◌or_else◌, on_cause}
use Rattle.plan.specs.Plan.{Layer, grown}
use Rattle.plan.specs.Spots.{layer_at}
use Rattle.sweep.specs.Sweep.{sweep_order}
use Rattle.paging.specs.Calls.{run_cause}
use Rattle.text.specs.Reader.{text_shape, text_cells}
use Rattle.reporting.specs.Report.{report_cause, empty_table, run_work_cells}
use Rattle.outcomes.specs.Texts.{ascii}
use Rattle.outcomes.specs.Outcomes.{done, refused}
use Rattle.listing.specs.Plans.{text_cause, on_plan}
use Rattle.picture.specs.declared.Frame.{Frame}
use Rattle.picture.specs.Templates.{piece, later, fill}
use Rattle.picture.specs.Texts.{head_text, open_text, rows_text, point_text, tail_text}
use Rattle.picture.specs.Frames.{frame_of, longer}
use Rattle.picture.specs.Pictures.{shapes_of, legend, layer_part, layer_parts, mark, row_part, row_parts, seen, scale, picture_of, picture, plan_picture, picture_said}
use Rattle.picture.specs.Theorems.{north_up}

-- ---- what is said of a text
-- two causes in a row are the first that applies
caused : {A : Type 0} (a b : ℕ) (x : A) (f : ℕ → A) → on_cause a (on_cause b x f) f ≡ on_cause (a or_else b) x f
caused zero b x f = refl
caused (suc n) b x f = refl

pub said_of : (t : List ℕ) → picture_said t ≡ on_cause (report_cause t) (done (picture (text_shape t) (text_cells t))) refused
unfolding on_plan text_cause plan_picture report_cause
said_of t =
    let s = text_shape t in
    let cells = text_cells t in
    caused (text_cause t) (run_cause none s cells (sweep_order (grown s cells)) empty_table run_work_cells) (done (picture s cells)) refused

-- ---- each once, in its order
pub rows-flat : (u : ℕ) (ls : List Layer) (rows : List (List ℕ)) → row_parts u ls rows ≡ flat_map (row_part u ls) rows
unfolding flat_map
rows-flat u ls [] = refl
rows-flat u ls (row ∷ rows) = ap (λ (l : List ℕ). row_part u ls row ++ l) (rows-flat u ls rows)

-- layers that are those of g from j on
layers-flat : (f : Frame) (ms : List ℕ) (g : ℕ → Layer) (j : ℕ) (ls : List Layer) → ((i : ℕ) → layer_at ls i ≡ g (j + i))
    → layer_parts f ms j ls ≡ flat_map (λ i. layer_part f (suc i) (get_or ms i 0) (g i)) (upto (λ q. q) j (length ls))
unfolding flat_map
layers-flat f ms g j [] h = refl
layers-flat f ms g j (l ∷ ls) h =
    let here : l ≡ g j = subst (λ (n : ℕ). l ≡ g n) (omega arith) (h 0) in
    let later-on : (i : ℕ) → layer_at ls i ≡ g (suc j + i) = λ i. subst (λ (n : ℕ). layer_at ls i ≡ g n) (omega arith) (h (suc i)) in
    ap₂ (λ (x : Layer) (rest : List ℕ). layer_part f (suc j) (get_or ms j 0) x ++ rest) here (layers-flat f ms g (suc j) ls later-on)

-- ---- in literals
pub layer_is : (f : Frame) (j m : ℕ) (l : Layer) → layer_part f j m l
    ≡ (ascii "<g class='l" ++ (decimal j ++ (ascii "'>" ++ north_up f))) ++ (shapes_of f.unit j m l ++ legend f j m l.size)
unfolding layer_part open_text piece later numeral
layer_is f j m l = refl

pub point_at : (u : ℕ) (r : Rect) → mark u Point r
    ≡ ascii "</title><path class='p' transform='translate(" ++ (numeral r.left ++ (ascii " " ++ (numeral r.bottom
    ++ (ascii ") scale(" ++ (decimal u ++ ascii ")' d='M-1 -1L1 1M-1 1L1 -1'/></g>\n")))))
unfolding mark point_text piece later numeral
point_at u r = refl

pub whole_is : (f : Frame) (ms : List ℕ) (drawn whole : List Layer) (rows : List (List ℕ)) → picture_of f ms drawn whole rows
    ≡ fill head_text (seen f)
    ++ (flat_map (λ j. layer_part f (suc j) (get_or ms j 0) (layer_at drawn j)) (upto (λ q. q) 0 (length drawn))
    ++ (north_up f ++ (flat_map (row_part f.unit whole) rows ++ fill tail_text (scale f (length rows)))))
unfolding picture_of rows_text piece later
whole_is f ms drawn whole rows =
    ap₂ (λ (x y : List ℕ). fill head_text (seen f) ++ (x ++ (north_up f ++ (y ++ fill tail_text (scale f (length rows))))))
    (layers-flat f ms (layer_at drawn) 0 drawn (λ i. ap (layer_at drawn) (omega arith))) (rows-flat f.unit whole rows)

-- ---- what is seen
pub view-is : (f : Frame) → let u = f.unit in fill head_text (seen f)
    ≡ ascii "<svg xmlns='http://www.w3.org/2000/svg' viewBox='-" ++ (decimal (5 * u) ++ (ascii " -" ++ (decimal (5 * u)
    ++ (ascii " " ++ (decimal (f.width + 65 * u) ++ (ascii " " ++ (decimal (longer f.height (30 * u) + 10 * u)
    ++ fill (drop 58 head_text) (drop 4 (seen f)))))))))
unfolding head_text piece later numeral
view-is f = refl

pub longer-first : (a b : ℕ) → a ≤ longer a b
unfolding longer
longer-first a b = go (leb a b) refl
  where
    go : (t : Bool) → leb a b ≡ t → a ≤ cond t b a
    go true e = leb-true a b e
    go false e = omega arith

size_is : (z : ℤ) → pos 0 ≤ℤ z → pos (nat_abs z) ≡ z
size_is (pos n) h = refl
size_is (negsuc n) h = absurd (omega (zarith, h))

pub sides-are : (r : Rect) → r.left ≤ℤ r.right → r.bottom ≤ℤ r.top
    → (pos (frame_of r).width ≡ r.right -ℤ r.left) × (pos (frame_of r).height ≡ r.top -ℤ r.bottom)
unfolding frame_of
sides-are r h k = (
  size_is (r.right -ℤ r.left) (omega (zarith, h, sub-law r.right r.left)),
  size_is (r.top -ℤ r.bottom) (omega (zarith, k, sub-law r.top r.bottom)),
)
