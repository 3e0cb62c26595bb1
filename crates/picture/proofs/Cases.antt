-- The cases hold, as the definitions compute them.
use mathlib.Core.Path.{refl}
use Rattle.geometry.specs.Rectangles.{max_z, min_z, common, nonempty, kind_of, grown_by, area_of}
use Rattle.decimal.specs.Numerals.{size, decimal, numeral}
use Rattle.plan.specs.Plan.{rect_at, grown}
use Rattle.sweep.specs.Sweep.{before, sweep_order}
use Rattle.join.specs.Join.{area_in, kind_in, same_z}
use Rattle.join.specs.Table.{same_spot, belongs, table_of}
use Rattle.printing.specs.Lines.{line_of, row_fields}
use Rattle.picture.specs.Templates.{piece, later}
use Rattle.picture.specs.Texts.{head_text, open_text, title_text, outline_text, hatch_text, end_text, margin_text, close_text, legend_text}
use Rattle.picture.specs.Texts.{rows_text, row_text, ground_text, edge_text, point_text, tail_text}
use Rattle.picture.specs.Frames.{around, frame_of, longer, width_of, bar_of}
use Rattle.picture.specs.Hatchings.{hatching_of, beyond, fourth}
use Rattle.picture.specs.Pictures.{outlined, shape_at, legend, layer_part, mark, row_part, picture_of}
use Rattle.picture.specs.Cases.{Cases}

pub cases : Cases
unfolding max_z min_z common nonempty kind_of grown_by area_of size decimal numeral rect_at grown before sweep_order area_in kind_in same_z same_spot belongs table_of line_of row_fields piece later head_text open_text title_text outline_text hatch_text end_text margin_text close_text legend_text rows_text row_text ground_text edge_text point_text tail_text around frame_of longer width_of bar_of hatching_of beyond fourth outlined shape_at legend layer_part mark row_part picture_of
cases = record { small = refl; first = refl; second = refl; third = refl; fourth = refl; fifth = refl; sixth = refl }
