-- `read_windows` takes window after window. The loop's invariant: those from line i + 1 on are left.
use Rattle.listing.proofs.Windowed.{Windowed}
use Rattle.listing_code.proofs.windows_text.read_windows.Given as goal

abbrev pub invariant-loop-i : goal.invariant-loop-i
invariant-loop-i l = Windowed l.t l.n l.initial.hours l.hours l.at l.i
