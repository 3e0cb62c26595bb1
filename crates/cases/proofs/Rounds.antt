-- The case of a round holds, as the definitions compute it.
use mathlib.Core.Path.{refl}
use Rattle.lists.specs.Lists.{same}
use Rattle.totals.specs.Totals.{total_of}
use Rattle.geometry.specs.Rectangles.{max_z, min_z, common, nonempty, meets, between, held, grown_by, area_of}
use Rattle.plan.specs.Plan.{rect_at, grown, fits_at, plan_cause}
use Rattle.windows.specs.HoursCall.{hours_cause}
use Rattle.sweep.specs.Sweep.{before, sweep_order, order_cause}
use Rattle.join.specs.Join.{area_in}
use Rattle.join.specs.Table.{same_spot, belongs, table_of}
use Rattle.walk.specs.Walk.{walk_of}
use Rattle.paging.specs.Cursors.{same_cursor, resume}
use Rattle.paging.specs.Calls.{current, page_cause, page_call, page_table, page_counter}
use Rattle.rounds.specs.Shares.{left_behind}
use Rattle.rounds.specs.Rounds.{fits_round, round_cause, probes_of, round_call, round_counters, round_table}
use Rattle.cases.specs.Rounds.{ThreeServed}

pub three-served : ThreeServed
unfolding total_of max_z min_z common nonempty meets between held area_of rect_at grown_by grown fits_at plan_cause before sweep_order order_cause hours_cause area_in same_spot belongs table_of walk_of same same_cursor resume current page_cause page_call page_table page_counter left_behind fits_round round_cause probes_of round_call round_counters round_table
three-served = record { answer = refl; counters = refl; table = refl }
