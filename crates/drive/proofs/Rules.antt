-- The rules of the drive and of the parts below it, for worked examples that the checker computes: to unfold this is to unfold them all.
use mathlib.Core.Bool.{Bool, true}
use Rattle.base.specs.Lists.{any}
use Rattle.base.specs.Ticks.{ticks, stops}
use Rattle.sensor_set.proofs.Rules.{sensor-rules}
use Rattle.sensors.specs.Sixteen.{conditions_below}
use Rattle.token_reader.specs.Format.{starts_with, part_in, is_end}
use Rattle.token_reader.specs.Read.{read_elements, read_list, read_tokens}
use Rattle.band.specs.Rows.{fresh_row, settle_row, reset_row}
use Rattle.band_columns.specs.Sets.{columns_fit, formed_row}
use Rattle.geometry.specs.Blocks.{any_block, band_of}
use Rattle.geometry.specs.Events.{no_span}
use Rattle.drive.specs.State.{fresh_drive, conditions_of, settle_of, tick_of, stop_next}
use Rattle.drive.specs.Events.{answer_of, act_of, step_of, stops_of, run_of}

unfoldable pub drive-rules : Bool
unfolding any ticks stops sensor-rules conditions_below starts_with part_in is_end read_elements read_list read_tokens fresh_row settle_row reset_row columns_fit formed_row any_block band_of no_span fresh_drive conditions_of settle_of tick_of stop_next answer_of act_of step_of stops_of run_of
drive-rules = true
