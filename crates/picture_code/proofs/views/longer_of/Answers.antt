-- `longer_of` takes the greater one.
use mathlib.Core.Path.{◌≡◌, refl}
use mathlib.Core.Bool.{Bool, true, false, cond}
use Prim.Native.Nat.{ℕ, max}
use native.Mathlib.Omega.{arith}
use lib.Dec.{leb}
use borrow.Author.Tests.{leb-true, leb-false}
use Rattle.picture.specs.Frames.{longer}
use Rattle.picture_code.proofs.views.longer_of.Goals as goal

longer-greatest : (a b m : ℕ) → m ≡ max a b → m ≡ longer a b
unfolding longer
longer-greatest a b m e = go (leb a b) refl
  where
    go : (t : Bool) → leb a b ≡ t → m ≡ cond t b a
    go true h = omega (arith, e, leb-true a b h)
    go false h = omega (arith, e, leb-false a b h)

pub returns : goal.returns
returns c = longer-greatest c.args.a c.args.b _ (omega arith)
