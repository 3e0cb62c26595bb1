-- `add_layer` counts one layer more, or spoils the tally.
use mathlib.Core.Path.{sym, ◌∙◌}
use native.Mathlib.Omega.{arith}
use mir.Syntax.{w32}
use mir.Val.{SFits}
use mir.Facts.{to_z-of_z}
use Rattle.text.proofs.Counting.{Right, right, layer-spoilt, layer-added}
use Rattle.reader.proofs.decide.add_layer.Goals as goal

pub returns-then-not-layer_right : goal.returns-then-not-layer_right
returns-then-not-layer_right c =
    let f : SFits w32 c.args.n = c.ranges.n in
    let g : SFits w32 c.args.margin = c.ranges.margin in
    layer-spoilt _ _ _ _ (sym (simp to_z-of_z at c.layer_right.ensures) ∙ c.if-not-layer_right.true) c.spoil.ensures

pub overflow_cast-size : goal.overflow_cast-size
overflow_cast-size c =
    let fitting : Right c.args.t c.args.n c.args.margin = let f : SFits w32 c.args.n = c.ranges.n in
    let g : SFits w32 c.args.margin = c.ranges.margin in
    right _ _ _ (sym (simp to_z-of_z at c.layer_right.ensures) ∙ c.if-not-layer_right.false) in
    let f : SFits w32 c.args.n = c.ranges.n in
    simp to_z-of_z (fitting.size.sign, omega (arith, fitting.size.size))

pub overflow_add-u : goal.overflow_add-u
overflow_add-u c =
    let fitting : Right c.args.t c.args.n c.args.margin = let f : SFits w32 c.args.n = c.ranges.n in
    let g : SFits w32 c.args.margin = c.ranges.margin in
    right _ _ _ (sym (simp to_z-of_z at c.layer_right.ensures) ∙ c.if-not-layer_right.false) in
    omega (arith, fitting.layers)

pub overflow_cast-u : goal.overflow_cast-u
overflow_cast-u c =
    let fitting : Right c.args.t c.args.n c.args.margin = let f : SFits w32 c.args.n = c.ranges.n in
    let g : SFits w32 c.args.margin = c.ranges.margin in
    right _ _ _ (sym (simp to_z-of_z at c.layer_right.ensures) ∙ c.if-not-layer_right.false) in
    let f : SFits w32 c.args.n = c.ranges.n in
    simp to_z-of_z (omega (arith, fitting.size.size))

pub overflow_add-u-2 : goal.overflow_add-u-2
overflow_add-u-2 c =
    let fitting : Right c.args.t c.args.n c.args.margin = let f : SFits w32 c.args.n = c.ranges.n in
    let g : SFits w32 c.args.margin = c.ranges.margin in
    right _ _ _ (sym (simp to_z-of_z at c.layer_right.ensures) ∙ c.if-not-layer_right.false) in
    let f : SFits w32 c.args.n = c.ranges.n in
    simp to_z-of_z (omega (arith, fitting.size.size, c.requires.rects, c.requires.layers))

pub bounds-u-j : goal.bounds-u-j
bounds-u-j c =
    let fitting : Right c.args.t c.args.n c.args.margin = let f : SFits w32 c.args.n = c.ranges.n in
    let g : SFits w32 c.args.margin = c.ranges.margin in
    right _ _ _ (sym (simp to_z-of_z at c.layer_right.ensures) ∙ c.if-not-layer_right.false) in
    fitting.layers

pub overflow_cast-u-2 : goal.overflow_cast-u-2
overflow_cast-u-2 c =
    let fitting : Right c.args.t c.args.n c.args.margin = let f : SFits w32 c.args.n = c.ranges.n in
    let g : SFits w32 c.args.margin = c.ranges.margin in
    right _ _ _ (sym (simp to_z-of_z at c.layer_right.ensures) ∙ c.if-not-layer_right.false) in
    let g : SFits w32 c.args.margin = c.ranges.margin in
    simp to_z-of_z (fitting.margin.sign, omega (arith, fitting.margin.size))

pub bounds-u-j-2 : goal.bounds-u-j-2
bounds-u-j-2 c =
    let fitting : Right c.args.t c.args.n c.args.margin = let f : SFits w32 c.args.n = c.ranges.n in
    let g : SFits w32 c.args.margin = c.ranges.margin in
    right _ _ _ (sym (simp to_z-of_z at c.layer_right.ensures) ∙ c.if-not-layer_right.false) in
    fitting.layers

pub returns : goal.returns
returns c =
    let f : SFits w32 c.args.n = c.ranges.n in
    let g : SFits w32 c.args.margin = c.ranges.margin in
    simp to_z-of_z (layer-added c.args.t c.args.n c.args.margin (sym (simp to_z-of_z at c.layer_right.ensures) ∙ c.if-not-layer_right.false))
