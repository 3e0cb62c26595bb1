-- Laws of cells that are copied, and of the parts that are so put together.
use mathlib.Core.Path.{◌≡◌, sym, ap, ◌∙◌}
use mathlib.Core.List.{List, ◌++◌, append_assoc}
use Prim.Native.Nat.{ℕ, ◌+◌, ◌*◌, ◌≤◌}
use native.Mathlib.Omega.{arith}
use lib.IntN.{ℤ}
use lib.ListN.{length, get_or, take, drop, length-take}
use lib.Seq.{drop-drop, sets-eq}
use borrow.Rule.Slice.PartMut.{put_mid}
use Rattle.lists.specs.Lists.{sum}
use Rattle.lists.specs.inner.Stores.{Put}
use Rattle.lists.proofs.Stores.{left-all, left-put, left-last, put-length}
use Rattle.asking_runs_code.specs.Parts.{part_of, LayerThere}

-- a run put by way of its part of the buffer
pub put_copied : (buf cells ys : List ℤ) (at k : ℕ) → at + k ≤ length buf → k ≡ length cells → ys ≡ cells → Put buf at cells (put_mid at k buf ys) (at + k)
put_copied buf cells ys at k h e q = record {
  place = omega (arith, e);
  stored = rw (q, e) (ap (λ (l : List ℤ). take at buf ++ (cells ++ l)) (drop-drop (length cells) at buf) ∙ (sym (append_assoc (take at buf) cells (drop (at + length cells) buf)) ∙ sym (sets-eq cells buf at (omega (arith, h, e)))));
}

-- ---- the cells of the layer at i
module _ (sizes : List ℕ) (cells : List ℤ) (i : ℕ) (h : LayerThere sizes cells i) where
  pub part-few : length (take i sizes) ≤ 6
  part-few = omega (arith, length-take i sizes, h.few)

  module _ (size start : ℕ) (e : size ≡ get_or sizes i 0) (f : start ≡ sum (take i sizes)) (part : List ℤ) (g : part ≡ take (4 * size) (drop (4 * start) cells)) where
    pub part-put : (run last : List ℤ) (at r : ℕ) → Put run at part last r → Put run at (part_of sizes cells i) last r
    part-put run last at r p = let q : part ≡ part_of sizes cells i = rw (g, e, f) in rw (← q) p

    pub part_room : (run : List ℤ) (at : ℕ) → at + 4 * get_or sizes i 0 ≤ length run → at + length part ≤ length run
    part_room run at r = rw g (omega (arith, length-take (4 * size) (drop (4 * start) cells)))

-- two parts, one behind the other
module _ (sizes : List ℕ) (cells run mid : List ℤ) (i j at : ℕ) (h : LayerThere sizes cells i) (p : Put run 0 (part_of sizes cells i) mid at) where
  pub second-room : 4 * get_or sizes i 0 + 4 * get_or sizes j 0 ≤ length run → at + 4 * get_or sizes j 0 ≤ length mid
  second-room r = omega (arith, p.place, put-length run mid (part_of sizes cells i) 0 at p, length-take (4 * get_or sizes i 0) (drop (4 * sum (take i sizes)) cells))

  pub both-put : (last : List ℤ) (r : ℕ) → Put mid at (part_of sizes cells j) last r → Put run 0 (part_of sizes cells i ++ part_of sizes cells j) last r
  both-put last r q = left-last _ _ _ _ _ (part_of sizes cells j) _ _ q (left-put _ _ _ _ _ (part_of sizes cells i) _ _ _ p (left-all _ _ _))
