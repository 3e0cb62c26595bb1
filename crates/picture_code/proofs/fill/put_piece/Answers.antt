-- `put_piece` writes the number that is next into a hole, and any other byte as it is.
use borrow.Author.Rules.{rules, sfits_of}
use mathlib.Core.Path.{◌≡◌}
use native.Mathlib.Omega.{arith}
use mir.Facts.{to_z-of_z}
use Rattle.pens.proofs.Pens.{room-same, wrote-same}
use Rattle.picture.proofs.Fills.{hole-piece, none-piece, other-piece}
use Rattle.picture_code.proofs.fill.put_piece.Goals as goal

pub put_byte-requires : goal.put_byte-requires
put_byte-requires c = room-same _ _ _ (other-piece _ _ c.args.j (search rules)) c.requires.1

pub returns-then-b-ne64 : goal.returns-then-b-ne64
returns-then-b-ne64 c = search (rules, wrote-same, other-piece)

pub put_byte-requires-then-numbers-j : goal.put_byte-requires-then-numbers-j
put_byte-requires-then-numbers-j c = room-same _ _ _ (none-piece _ _ c.args.j (omega arith)) c.requires.1

pub returns-then-numbers-j : goal.returns-then-numbers-j
returns-then-numbers-j c = search (rules, wrote-same, none-piece)

pub put_number-requires : goal.put_number-requires
put_number-requires c =
    let f = sfits_of {w = mir.Syntax.w64} c.put_number-arg-2-1.given in
    let e : c.args.b ≡ 64 = search rules in
    room-same _ _ _ (hole-piece c.args.b c.args.numbers.now c.args.j e (omega arith) _ (to_z-of_z f)) c.requires.1

pub returns : goal.returns
returns c =
    let f = sfits_of {w = mir.Syntax.w64} c.put_number-arg-2-1.given in
    let e : c.args.b ≡ 64 = search rules in
    wrote-same _ _ _ (hole-piece c.args.b c.args.numbers.now c.args.j e (omega arith) _ (to_z-of_z f)) _ c.put_number.ensures
