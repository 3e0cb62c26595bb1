-- `geometry_code::area`: two spans below 2^32 have a product below 2^64.
use borrow.Author.Rules.{rules}
use mathlib.Core.Path.{ap₂, ◌∙◌}
use Prim.Native.Nat.{◌*◌}
use Rattle.geometry.specs.Rectangles.{area_of}
use Rattle.geometry.proofs.Machine.{Fitting, square-fits, read-span}
use Rattle.geometry_code.proofs.area.Goals as goal

pub overflow_mul-result : goal.overflow_mul-result
overflow_mul-result c = square-fits c.span.ensures.1 c.span-2.ensures.1

pub returns : goal.returns
unfolding area_of
returns c =
    let fits-r : Fitting c.args.r = search rules in
    let f = fits-r in
    ap₂ ◌*◌ (c.span.ensures.0 ∙ read-span f.left f.right) (c.span-2.ensures.0 ∙ read-span f.bottom f.top)
