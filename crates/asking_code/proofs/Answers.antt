-- Laws of what the commands answer: the room for it, and which outcome it is.
use mathlib.Core.Path.{◌≡◌, refl, sym, ap, ◌∙◌}
use mathlib.Core.Bool.{true}
use mathlib.Core.List.{List, [], ◌∷◌}
use Prim.Native.Nat.{ℕ, zero, suc, ◌+◌, ◌*◌, ◌≤◌, ◌<◌}
use native.Mathlib.Omega.{arith}
use lib.IntN.{ℤ}
use lib.ListN.{length, get_or, take, drop, length-append}
use Rattle.lists.specs.Lists.{sum}
use Rattle.lists.specs.inner.Stores.{Put}
use Rattle.decimal.specs.Numerals.{decimal}
use Rattle.geometry.specs.declared.Rect.{Rect}
use Rattle.geometry.specs.Rectangles.{in_extent}
use Rattle.plan.specs.declared.Shape.{Shape}
use Rattle.plan.specs.Causes.{on_cause}
use Rattle.plan.specs.Plan.{Layer, sizes_of, grown, layers, Sound}
use Rattle.plan.specs.Spots.{layer_at}
use Rattle.plan.specs.Frames.{Framed}
use Rattle.plan.proofs.Plan.{checked}
use Rattle.plan.proofs.Growing.{framed}
use Rattle.plan.proofs.Spots.{layers-long, has-layer, size_of, layer-at}
use Rattle.nearest.specs.declared.Near.{Near}
use Rattle.std.specs.Prelude.{Option, None, Result, Ok, Err}
use Rattle.nearest.specs.Nearest.{nearest_cause, nearest_call, NearestValues, nearest_values}
use Rattle.nearest.specs.Theorems.{IsNearest, empty, nearest, NearestTold}
use Rattle.nearest.proofs.Answers.{box-passed, layer-part}
use Rattle.nearest.proofs.Theorems.{nearest-holds}
use Rattle.pairs.specs.declared.Pair.{Pair}
use Rattle.pairs.specs.PairCall.{apart, pair_call}
use Rattle.text.specs.Reader.{ReadValues}
use Rattle.printing.specs.Lines.{fields_end, line_of}
use Rattle.outcomes.specs.declared.Reply.{Reply}
use Rattle.outcomes.specs.Outcomes.{Told, refused, done, done_reply}
use Rattle.outcomes.specs.inner.Rooms.{Room}
use Rattle.outcomes.proofs.Outcomes.{told_same, told-done}
use Rattle.asking.specs.Lines.{share_line, apart_line, near_lines}
use Rattle.asking.specs.Answers.{pair_outcome, apart_of, near_outcome, nearest_said}
use Rattle.asking_code.specs.Parts.{Small, Measured, TextRead}
use Rattle.asking_code.proofs.Texts.{read-plan}
use Rattle.asking_code.proofs.NearLines.{few, nears-few}

module _ (out err : List ℕ) (r : Room out err) where
  pub share-few : length share_line ≤ length out
  unfolding share_line line_of
  share-few = omega (arith, r.answer)

  pub share-room : 0 + length share_line ≤ length out
  share-room = omega (arith, share-few)

  module _ (lower higher : ℕ) where
    pub apart-few : length (apart_line lower higher) ≤ length out
    unfolding apart_line line_of
    apart-few = omega (
      arith,
      r.answer,
      few lower,
      few higher,
      length-append (decimal lower) (fields_end (decimal higher ∷ [])),
      length-append (decimal higher) (10 ∷ []),
    )

    pub apart-room : 0 + length (apart_line lower higher) ≤ length out
    apart-room = omega (arith, apart-few)

-- ---- `apart`
module _ (a b : Result (Option Pair) ℕ) (e : a ≡ b) where
  pub pair-refused : (n : ℕ) → a ≡ Err n → pair_outcome b ≡ refused n
  unfolding pair_outcome
  pair-refused n f = ap pair_outcome (sym e ∙ f)

  module _ (out err out_after : List ℕ) (n : ℕ) (r : Room out err) where
    pub share-told : a ≡ Ok None → Put out 0 share_line out_after n → Told (pair_outcome b) out err out_after err (done_reply n)
    unfolding pair_outcome
    share-told f p = rw (sym e ∙ f) (told-done out err share_line out_after n (share-few out err r) p)

    pub apart-told : (lower higher : ℕ) → a ≡ Ok (apart lower higher) → Put out 0 (apart_line lower higher) out_after n
        → Told (pair_outcome b) out err out_after err (done_reply n)
    unfolding pair_outcome
    apart-told lower higher f p = rw (sym e ∙ f) (told-done out err (apart_line lower higher) out_after n (apart-few out err r lower higher) p)

-- ---- `nearest`
module _ (s : Shape) (cells : List ℤ) (a : Rect) (r : NearestValues) (e : r ≡ nearest_values (nearest_call s cells a)) where
  pub near-refused : (r.number ≡ 0 → ⊥) → near_outcome s cells a ≡ refused r.number
  unfolding near_outcome
  near-refused h = rw (← e) (go r.number h)
    where
      go : (n : ℕ) → (n ≡ 0 → ⊥) → on_cause n (done (near_lines s.k r.layers)) refused ≡ refused n
      go zero h = absurd (h refl)
      go (suc n) h = refl

  module _ (z : r.number ≡ 0) (sound : Sound s cells) where
    six : s.k ≤ 6
    six = (checked s cells sound).high

    pub near-told : (out err out_after : List ℕ) (n : ℕ) → Room out err → Put out 0 (near_lines s.k r.layers) out_after n
        → Told (near_outcome s cells a) out err out_after err (done_reply n)
    unfolding near_outcome
    near-told out err out_after n room p =
        rw (← e, z) (told-done out err (near_lines s.k r.layers) out_after n (omega (arith, room.answer, nears-few s.k r.layers six)) p)

    pub nears-room : (out err : List ℕ) → Room out err → 0 + length (near_lines s.k r.layers) ≤ length out
    nears-room out err room = omega (arith, room.answer, nears-few s.k r.layers six)

    pub six-layers : s.k ≤ 6
    six-layers = six

    -- the squared gaps of a plan and a box in range
    pub measured : Measured r.layers
    measured = record { small = λ j h. rw e (small j h _ (told.accepted cause j h)) }
      where
        told : NearestTold s cells a
        told = nearest-holds.told s cells a

        cause : nearest_cause s cells a ≡ 0
        cause = sym told.number ∙ (sym (ap (λ (x : NearestValues). x.number) e) ∙ z)

        framed-sizes : Framed (sizes_of s) (grown s cells)
        framed-sizes = (framed s cells sound).1

        ranged : (j p : ℕ) → p < (layer_at (layers s cells) j).size → in_extent ((layer_at (layers s cells) j).rect p) ≡ true
        ranged j p h =
            let ns = sizes_of s in
            let l : j < length ns = omega (arith, layers-long ns (grown s cells), has-layer (layers s cells) j p h) in
            let part = take (4 * get_or ns j 0) (drop (4 * sum (take j ns)) (grown s cells)) in
            let k : p < get_or ns j 0 = omega (arith, size_of ns (grown s cells) j) in
            ap (λ (x : Layer). in_extent (x.rect p)) (layer-at ns (grown s cells) j l) ∙ (layer-part ns (grown s cells) j framed-sizes l (sum (take j ns)) part refl refl).ranged p k

        small : (j : ℕ) → j < 6 → (near : Option Near) → IsNearest a (layer_at (layers s cells) j) near → Small near
        small j h _ (empty x) = record { most = λ e q. cc }
        small j h _ (nearest p gap k x y w) = record {
          most = λ e q.
              let same : record { place = p; gap = gap } ≡ e = cc in
              omega (arith, ap (λ (n : Near). n.gap) same, x, nearest-holds.bound 10000000 10050000 a ((layer_at (layers s cells) j).rect p) (box-passed s cells a cause) (ranged j p k));
        }

-- ---- what is told of a plan that was read is told of its text
module _ (t : List ℕ) (r : ReadValues) (lent : List ℤ) (read : TextRead t r lent) (h : r.number ≡ 0) (n : ℕ) (e : n ≡ sum r.shape.sizes) (out err out_after errAfter : List ℕ) (reply : Reply) where
  pub apart-read : (places : List ℕ) → Told (pair_outcome (pair_call r.shape (take (4 * n) lent) places)) out err out_after errAfter reply
      → Told (apart_of t places) out err out_after errAfter reply
  apart-read places k = told_same _ out err out_after errAfter reply _ k (read-plan t r lent read h n e (λ s cells. pair_outcome (pair_call s cells places)))

  pub nearest-read : (box : Rect) → Told (near_outcome r.shape (take (4 * n) lent) box) out err out_after errAfter reply → Told (nearest_said t box) out err out_after errAfter reply
  nearest-read box k = told_same _ out err out_after errAfter reply _ k (read-plan t r lent read h n e (λ s cells. near_outcome s cells box))
