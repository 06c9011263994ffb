-- One event by its kind and its fields: a Set has its row, its mask, and a number for each column by rising bit, named or not.
use Rattle.std.specs.Prelude.{◌≡◌, ℕ, Bool, false, cond, ◌&&◌, List, eqb, leb, get_or, Result, Ok, Err}
use Rattle.answer.specs.declared.Refusal.{Refusal}
use Rattle.answer.specs.declared.Refusal.TheVariants.{OutOfRange}
use Rattle.sensor_set.specs.declared.SensorColumns.{SensorColumns}
use Rattle.band_columns.specs.declared.BandColumns.{BandColumns}
use Rattle.drive.specs.Events.{Event, reading, elapse, reset, sensor_set, band_set, geometry, transfer}
use Rattle.event_form.specs.declared.EventKind.{EventKind}
use Rattle.event_form.specs.declared.EventKind.TheVariants as K

-- "Events: 1 reading ..; 2 elapse ..; 3 reset ..; 4 sensor Set ..; 5 band Set ..; 6 geometry ..; 7 transfer .."
abbrev pub kind_number : EventKind → ℕ
kind_number K.Reading = 1
kind_number K.Elapse = 2
kind_number K.Reset = 3
kind_number K.SensorSet = 4
kind_number K.BandSet = 5
kind_number K.Geometry = 6
kind_number K.Transfer = 7

abbrev pub last_kind : ℕ
last_kind = 7

-- whether a number is that of a kind
abbrev pub is_kind : ℕ → Bool
is_kind number = leb 1 number && leb number last_kind

-- the kind of a number; 2 "out of range" where there is none
abbrev pub FindsKind : ℕ → Result EventKind Refusal → Type 0
FindsKind number (Ok kind) = kind_number kind ≡ number
FindsKind number (Err refusal) = (is_kind number ≡ false) × (refusal ≡ OutOfRange)

abbrev pub sensor_columns : List ℕ → SensorColumns
sensor_columns fields = record {
  mask = get_or fields 1 0;
  enabled = get_or fields 2 0;
  on_threshold = get_or fields 3 0;
  on_fraction = get_or fields 4 0;
  on_timeout = get_or fields 5 0;
  off_threshold = get_or fields 6 0;
  off_fraction = get_or fields 7 0;
  off_timeout = get_or fields 8 0;
}

abbrev pub band_columns : List ℕ → BandColumns
band_columns fields = record {
  mask = get_or fields 1 0;
  read_lock_enabled = get_or fields 2 0;
  write_lock_enabled = get_or fields 3 0;
  read_locked = get_or fields 4 0;
  write_locked = get_or fields 5 0;
  lock_on_reset = get_or fields 6 0;
}

-- "Events: 1 reading (sensor, value); 2 elapse (n); 3 reset (type); 4 sensor Set ..; 5 band Set ..; 6 geometry (band, start, length);
-- 7 transfer (0 read or 1 write, start, count)."
unfoldable pub event_by : (kind : ℕ) → (fields tokens : List ℕ) → Event
event_by kind fields tokens =
    cond (eqb kind 1) (reading (get_or fields 0 0) (get_or fields 1 0))
    (cond (eqb kind 2) (elapse (get_or fields 0 0))
    (cond (eqb kind 3) (reset (get_or fields 0 0))
    (cond (eqb kind 4) (sensor_set (get_or fields 0 0) (sensor_columns fields))
    (cond (eqb kind 5) (band_set (get_or fields 0 0) (band_columns fields) tokens)
    (cond (eqb kind 6) (geometry (get_or fields 0 0) (get_or fields 1 0) (get_or fields 2 0))
    (transfer (get_or fields 0 0) (get_or fields 1 0) (get_or fields 2 0)))))))
