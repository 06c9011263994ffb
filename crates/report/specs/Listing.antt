-- Document 01, 'Listing': the bytes that tell of a script and its run.
use Rattle.std.specs.Prelude.{ℕ, List, ◌++◌, length}
use Rattle.drive.specs.State.{fresh_drive}
use Rattle.drive.specs.Events.{run_of, answers_of, stops_in}
use Rattle.script.specs.Whole.{Script, accepted, bad}
use Rattle.report.specs.Lines.{event_lines, drive_lines, bad_line}

-- the events' lines, then those of the drive that the last event left
unfoldable pub listing : Script → List ℕ
listing (accepted capacity bands sensors es) =
    let fresh = fresh_drive capacity bands sensors in
    event_lines (answers_of fresh es) (stops_in fresh es) (length es) ++ drive_lines bands sensors (run_of fresh es)
listing (bad place) = bad_line place

-- the most bytes of a listing (theorem `never-short`): 32,766 event lines of 13 bytes, 16 band lines of 11 and 16 sensor lines of 22
abbrev pub most_listed : ℕ
most_listed = 426486
