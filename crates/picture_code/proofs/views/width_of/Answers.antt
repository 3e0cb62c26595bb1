-- `width_of` takes no wider one.
use mathlib.Core.Path.{◌≡◌, refl}
use mathlib.Core.Bool.{Bool, true, false, cond}
use Prim.Native.Nat.{ℕ, min}
use native.Mathlib.Omega.{arith}
use lib.Dec.{leb}
use borrow.Author.Tests.{leb-true, leb-false}
use Rattle.picture.specs.Frames.{width_of}
use Rattle.picture_code.proofs.views.width_of.Goals as goal

width-least : (n m : ℕ) → m ≡ min n 327670 → m ≡ width_of n
unfolding width_of
width-least n m e = go (leb n 327670) refl
  where
    go : (t : Bool) → leb n 327670 ≡ t → m ≡ cond t n 327670
    go true h = omega (arith, e, leb-true n 327670 h)
    go false h = omega (arith, e, leb-false n 327670 h)

pub returns : goal.returns
returns c = (width-least c.args.n _ (omega arith), omega arith)
