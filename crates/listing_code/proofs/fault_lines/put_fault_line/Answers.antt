-- `put_fault_line` puts the name, and then the rest.
use Rattle.listing.specs.Windows.{fault_told}
use Rattle.listing.proofs.Faults.{fault-room, fault-put}
use Rattle.listing_code.proofs.fault_lines.put_fault_line.Goals as goal

pub put_numbered-requires : goal.put_numbered-requires
put_numbered-requires c = fault-room (fault_told c.args.fault) _ _ _ c.reason_lines-lines.ensures c.from.ensures _ _ c.put_word-at.ensures c.requires

pub returns : goal.returns
returns c = fault-put (fault_told c.args.fault) _ _ _ c.reason_lines-lines.ensures c.from.ensures _ _ c.put_word-at.ensures _ _ c.put_numbered.ensures
