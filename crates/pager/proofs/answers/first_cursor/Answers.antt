-- `pager::answers::first_cursor`: the cursor where the walk begins.
use mathlib.Core.Path.{ap, ◌∙◌}
use Rattle.paging.specs.Cursors.{due_cursor}
use Rattle.slots.specs.Frames.{frame_sizes}
use Rattle.pager.proofs.answers.first_cursor.Goals as goal

pub returns : goal.returns
returns c = c.cursor_of.ensures ∙ ap (due_cursor (frame_sizes c.args.walk.now.frame)) c.begin-start.ensures.rest
