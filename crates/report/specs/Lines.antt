-- Document 01, 'Listing': the lines, as ASCII has the letters, digits, spaces and line feeds.
use Rattle.std.specs.Prelude.{ℕ, zero, suc, ◌+◌, ◌/◌, ◌%◌, Bool, cond, List, [], ◌∷◌, ◌++◌, ltb, get_or}
use Rattle.base.specs.Lists.{one_if}
use Rattle.phases.specs.Phases.{phase_number}
use Rattle.sensor.specs.declared.single.Sensor.{Sensor}
use Rattle.sensor.specs.Single.{fresh_sensor}
use Rattle.evaluator.specs.declared.Evaluation.{Evaluation}
use Rattle.evaluator.specs.Value.{is_true}
use Rattle.band.specs.declared.Side.TheVariants.{Read, Write}
use Rattle.band.specs.declared.Row.{Row}
use Rattle.band.specs.Rows.{fresh_row, locked_on, value_in}
use Rattle.drive.specs.declared.Drive.{Drive}
use Rattle.drive.specs.State.{conditions_of}

-- ---- a line: its letter, each number in decimal after a space, and a line feed

-- the digits of a number, at most so many: those of a tenth of it, and the last one (0 is 48)
unfoldable pub digits : ℕ → ℕ → List ℕ
digits zero n = []
digits (suc most) n = cond (ltb n 10) ((48 + n) ∷ []) (digits most (n / 10) ++ ((48 + n % 10) ∷ []))

-- all of its digits, without leading zeros: a number n has at most n + 1 of them
unfoldable pub decimal : ℕ → List ℕ
decimal n = digits (suc n) n

-- each number after a space (32), and the line feed (10)
unfoldable pub fields : List ℕ → List ℕ
fields [] = 10 ∷ []
fields (n ∷ ns) = 32 ∷ (decimal n ++ fields ns)

unfoldable pub line : ℕ → List ℕ → List ℕ
line letter ns = letter ∷ fields ns

-- a line for each number below n, from 0 on
unfoldable pub lines : (ℕ → List ℕ) → ℕ → List ℕ
lines f zero = []
lines f (suc n) = lines f n ++ f n

-- ---- the lines of events, bands and sensors

-- "Per event: e, index from 0, answer, stops (0 unless elapse)." e is 101.
abbrev pub event_line : ℕ → ℕ → ℕ → List ℕ
event_line index answer stops = line 101 (index ∷ answer ∷ stops ∷ [])

abbrev pub event_lines : List ℕ → List ℕ → ℕ → List ℕ
event_lines answers stops count = lines (λ i. event_line i (get_or answers i 0) (get_or stops i 0)) count

-- "Then per band: b, number, ReadLocked, WriteLocked, value." b is 98. The value is 1 for TRUE, else 0.
abbrev pub band_line : ℕ → Row → Evaluation → List ℕ
band_line number row value = line 98 (number ∷ one_if (locked_on Read row) ∷ one_if (locked_on Write row) ∷ one_if (is_true value) ∷ [])

abbrev pub band_lines : List Bool → List Row → ℕ → List ℕ
band_lines conditions rows count = lines (λ i. band_line i (get_or rows i fresh_row) (value_in conditions (get_or rows i fresh_row))) count

-- "Then per sensor: s, number, level, phase, condition, remaining ticks." s is 115.
abbrev pub sensor_line : ℕ → Sensor → List ℕ
sensor_line number s =
    line 115 (number ∷ one_if s.level ∷ phase_number s.phase ∷ one_if s.condition ∷ s.timer ∷ [])

abbrev pub sensor_lines : List Sensor → ℕ → List ℕ
sensor_lines sensors count = lines (λ i. sensor_line i (get_or sensors i fresh_sensor)) count

-- so many bands and sensors of a drive
abbrev pub drive_lines : ℕ → ℕ → Drive → List ℕ
drive_lines bands sensors d = band_lines (conditions_of d) d.rows bands ++ sensor_lines d.sensors sensors

-- "A bad script prints f and the place only." f is 102.
abbrev pub bad_line : ℕ → List ℕ
bad_line place = line 102 (place ∷ [])
