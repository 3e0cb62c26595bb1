-- `classes_told` puts the lines.
use Rattle.std.proofs.Common.{refl}
use Rattle.listing.proofs.Classes.{crossed-rows, crossed-three, crossed-kept, crossed-room, crossed-told}
use borrow.Author.Rules.{rules}
use Rattle.listing_runs_code.proofs.class_runs.classes_told.Goals as goal

pub put_class_grown-n-requires : goal.put_class_grown-n-requires
put_class_grown-n-requires c =
    let h = c.requires.0 in
    record {
      sound = (h.sound, crossed-rows _ _ _ _ h _ _ _ _ refl, crossed-three _ _ _ _ h _ _ _ _ refl, crossed-kept _ _ _ _ h _ _ _ _ refl);
      fits_at = crossed-room _ _ _ _ h _ _ _ _ refl _ _ c.requires.1;
    }

pub returns : goal.returns
returns c = rw c.done.ensures (crossed-told _ _ _ _ c.requires.0 _ _ _ _ refl _ _ _ _ c.requires.1 c.put_class_grown-n.ensures)
