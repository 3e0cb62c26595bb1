-- `geometry_code::grow`: side by side.
use borrow.Author.Rules.{rules, sfits_of}
use mathlib.Core.Path.{◌≡◌, ap, ◌∙◌}
use mathlib.Core.Bool.{true}
use Prim.Native.Nat.{ℕ}
use lib.IntN.{ℤ, pos, ◌+ℤ◌, ◌-ℤ◌}
use mir.Syntax.{w32}
use mir.Val.{SFits, to_z, of_z}
use mir.Facts.{to_z-of_z}
use Rattle.geometry.specs.Rectangles.{reach, between, grown_by}
use Rattle.geometry.proofs.Machine.{rect-eq, Fitting}
use Rattle.geometry.proofs.Rectangles.{Held, held-is, is-between}
use Rattle.geometry_code.proofs.grow.Goals as goal

-- what a coordinate passed on is asked, and what comes back
ask : {z : ℤ} → SFits w32 z → between reach z ≡ true → between reach (to_z w32 (of_z w32 z)) ≡ true
ask f h = ap (between reach) (to_z-of_z f) ∙ h

got : (f : ℤ → ℤ → ℤ) (m : ℕ) {v z : ℤ} → SFits w32 v → SFits w32 z → v ≡ f (to_z w32 (of_z w32 z)) (pos m) → to_z w32 (of_z w32 v) ≡ f z (pos m)
got f m g h e = to_z-of_z g ∙ e ∙ ap (λ (x : ℤ). f x (pos m)) (to_z-of_z h)

pub lower-requires : goal.lower-requires
lower-requires c =
    let fits-r : Fitting c.args.r = search rules in
    let held : Held reach c.args.r = held-is reach c.args.r c.requires.0 in
    (ask fits-r.left (is-between reach _ held.left), c.requires.1)

pub lower-requires-2 : goal.lower-requires-2
lower-requires-2 c =
    let fits-r : Fitting c.args.r = search rules in
    let held : Held reach c.args.r = held-is reach c.args.r c.requires.0 in
    (ask fits-r.bottom (is-between reach _ held.bottom), c.requires.1)

pub higher-requires : goal.higher-requires
higher-requires c =
    let fits-r : Fitting c.args.r = search rules in
    let held : Held reach c.args.r = held-is reach c.args.r c.requires.0 in
    (ask fits-r.right (is-between reach _ held.right), c.requires.1)

pub higher-requires-2 : goal.higher-requires-2
higher-requires-2 c =
    let fits-r : Fitting c.args.r = search rules in
    let held : Held reach c.args.r = held-is reach c.args.r c.requires.0 in
    (ask fits-r.top (is-between reach _ held.top), c.requires.1)

pub returns : goal.returns
unfolding grown_by
returns c =
    let fits-r : Fitting c.args.r = search rules in
    let f = fits-r in
    let m = c.args.margin in
    rect-eq (got ◌-ℤ◌ m (sfits_of c.lower.type_inv) f.left c.lower.ensures)
    (got ◌-ℤ◌ m (sfits_of c.lower-2.type_inv) f.bottom c.lower-2.ensures)
    (got ◌+ℤ◌ m (sfits_of c.higher.type_inv) f.right c.higher.ensures)
    (got ◌+ℤ◌ m (sfits_of c.higher-2.type_inv) f.top c.higher-2.ensures)
