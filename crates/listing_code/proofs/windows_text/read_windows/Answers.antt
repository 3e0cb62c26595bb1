use Rattle.listing.proofs.Windowed.{one-windowed}
use Rattle.listing_code.proofs.windows_text.read_windows.Goals as goal

pub loop-i-preserved : goal.loop-i-preserved
loop-i-preserved c =
    one-windowed _ _ _ c.loop-i.hours c.loop-i.at c.loop-i.i c.loop-i.invariant c.loop-i-test.true _ c.take_window.ensures (c.in-Ok.window, c.in-Ok.next) c.in-Ok.is
