-- `cover_cells` tells the refusal, or puts the layer.
use Rattle.outcomes.proofs.Outcomes.{told_same}
use Rattle.listing.proofs.Cover.{corners-refused, kept-mul, kept-cast, kept-inside, kept-long, kept-cells, kept-short, kept-room, kept-told}
use borrow.Author.Rules.{rules}
use Rattle.listing_code.proofs.covers.cover_cells.Goals as goal

pub overflow_mul-m : goal.overflow_mul-m
overflow_mul-m c = search (rules, kept-mul _ _ _ _ c.requires.0 _ c.in-Ok.ensures.answer _ c.in-Ok.ensures.buffer)

pub overflow_cast-n : goal.overflow_cast-n
overflow_cast-n c = search (rules, kept-cast _ _ _ _ c.requires.0 _ c.in-Ok.ensures.answer _ c.in-Ok.ensures.buffer)

pub slice_bounds-put_layer-end : goal.slice_bounds-put_layer-end
slice_bounds-put_layer-end c = search (rules, kept-inside)

pub slice_bounds-put_layer-end-in-Ok : goal.slice_bounds-put_layer-end-in-Ok
slice_bounds-put_layer-end-in-Ok c = search (rules, kept-long)

pub put_layer-requires : goal.put_layer-requires
put_layer-requires c =
    record {
      cells_len = search (rules, kept-cells, kept-short, kept-room);
      cells_in_bounds = search (rules, kept-cells, kept-short, kept-room);
    }

pub returns-in-Err : goal.returns-in-Err
returns-in-Err c = told_same _ _ _ _ _ _ _ c.put_refusal.ensures (corners-refused _ _ _ _ c.requires.0 _ c.in-Err.ensures.answer)

pub returns-in-Ok : goal.returns-in-Ok
returns-in-Ok c = rw c.done.ensures (search (rules, kept-told _ _ _ _ c.requires.0 _ c.in-Ok.ensures.answer _ c.in-Ok.ensures.buffer))
