-- `put_all` writes the head, the layers and what stands on top of them: there is room for each.
use lib.ListN.{take}
use Rattle.pens.proofs.Pens.{room-first, room-behind}
use Rattle.plan.specs.Plan.{layers_of}
use Rattle.rows.specs.Tables.{rows_in}
use Rattle.picture.specs.Templates.{fill}
use Rattle.picture.specs.Texts.{head_text}
use Rattle.picture.specs.Pictures.{seen, layer_parts}
use Rattle.picture.specs.inner.Parts.{top_part, body_part}
use Rattle.picture_code.proofs.whole.put_all.Goals as goal

pub put_layers-requires-clause-room : goal.put_layers-requires-clause-room
put_layers-requires-clause-room c =
    let f = c.args.frame in
    let s = c.args.shape in
    let e = rw (c.head_text.ensures, c.seen_of.ensures) at c.put_filled.ensures in
    room-first _ (layer_parts f s.margins 0 (layers_of (take s.k s.sizes) c.args.drawn.now))
    (top_part f (layers_of (take s.k s.sizes) c.args.grown.now) (rows_in s.k c.args.n c.args.table.now) c.args.n)
    (room-behind _ _ (fill head_text (seen f)) (body_part f s c.args.drawn.now c.args.grown.now c.args.table.now c.args.n) e c.requires.room)

pub put_top-requires-clause-room : goal.put_top-requires-clause-room
put_top-requires-clause-room c =
    let f = c.args.frame in
    let s = c.args.shape in
    let e = rw (c.head_text.ensures, c.seen_of.ensures) at c.put_filled.ensures in
    room-behind _ _ (layer_parts f s.margins 0 (layers_of (take s.k s.sizes) c.args.drawn.now))
    (top_part f (layers_of (take s.k s.sizes) c.args.grown.now) (rows_in s.k c.args.n c.args.table.now) c.args.n)
    c.put_layers.ensures (room-behind _ _ (fill head_text (seen f)) (body_part f s c.args.drawn.now c.args.grown.now c.args.table.now c.args.n) e c.requires.room)
