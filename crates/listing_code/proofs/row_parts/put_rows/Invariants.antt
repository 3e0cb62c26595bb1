-- `put_rows` goes from row to row. The loop's invariant: what is due for the rows that are left is left to be put.
use Rattle.listing.proofs.Rows.{Unput}
use Rattle.listing_code.proofs.row_parts.put_rows.Given as goal

abbrev pub invariant-loop : goal.invariant-loop
invariant-loop g l = Unput (g.P.RowPart.takes l.part) (g.P.RowPart.bytes l.part) l.k l.table l.n l.initial.buf l.from l.buf l.at l.rest l.counter
