use mathlib.Core.Path.{◌≡◌, refl, sym, ◌∙◌}
use mathlib.Core.List.{List}
use Prim.Native.Nat.{ℕ, ◌+◌, ◌-◌, ◌≤◌}
use native.Mathlib.Omega.{arith}
use lib.ListN.{length, take}
use lib.Seq.{sets-eq}
use borrow.Rule.Slice.PartMut.{put_mid}
use Rattle.std.proofs.Common.{append_assoc}
use Rattle.std.proofs.lemmas.List.{drop-drop}
use Rattle.lists.specs.inner.Stores.{Put}
use Rattle.pens.proofs.Pens.{wrote-put}
use Rattle.pens.specs.Pens.{place, capacity}
use Rattle.pens.proofs.Pen.put.Goals as goal

copied : (buf : List ℕ) (at : ℕ) (word now : List ℕ) → at + length word ≤ length buf → now ≡ word
    → Put buf at word (put_mid at (at + length word - at) buf now) (at + length word)
copied buf at word now h e =
    let n : at + length word - at ≡ length word = omega arith in
    record {
      place = refl;
      stored = rw (e, n, drop-drop (length word) at buf) (sym (sets-eq word buf at h ∙ append_assoc (take at buf) word _));
    }

pub returns : goal.returns
unfolding place capacity
returns c = wrote-put _ _ _ _ (copied _ _ _ _ c.requires c.copy_from_slice.ensures.after)
