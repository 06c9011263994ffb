-- Lists of events worked by computation: what is struck, what the history rule says, and what the run leaves.
use Prim.Native.Nat.{ℕ}
use mathlib.Core.Path.{◌≡◌, refl}
use mathlib.Core.Bool.{Bool, true, false}
use mathlib.Core.List.{List, [], ◌∷◌}
use Rattle.evaluator.specs.Value.{evaluate, value_of, mentions}
use Rattle.evaluator.specs.Formed.{count_from}
use Rattle.band.specs.declared.Side.{Side}
use Rattle.band.specs.declared.Side.TheVariants.{Read, Write}
use Rattle.band.specs.Rows.{locked_on}
use Rattle.drive.specs.declared.Drive.{Drive}
use Rattle.drive.specs.State.{fresh_drive, row_at}
use Rattle.drive.specs.Events.{Event, reading, elapse, reset, sensor_set, band_set, geometry, transfer, run_of}
use Rattle.drive.proofs.Rules.{drive-rules}
use Rattle.condition.specs.History.{tick_moments, moments, unlocks, locks}
use Rattle.condition.specs.Compared.{refers_in, named_in, stays, keep, compared, answers_to}
use Rattle.condition.proofs.Flags.{flag_after}

-- ---- the events

abbrev sensor_on : ℕ → ℕ → Event
sensor_on row timeout =
    sensor_set row
    (record {
      mask = 27;
      enabled = 1;
      on_threshold = 5;
      on_fraction = 0;
      on_timeout = timeout;
      off_threshold = 5;
      off_fraction = 0;
      off_timeout = 0;
    })

-- a Set of a band that names the columns of a mask, each with the same number, and LockOnReset with another
abbrev band_on : ℕ → ℕ → ℕ → ℕ → List ℕ → Event
band_on band mask v on_reset bytes =
    band_set band
    (record { mask = mask; read_lock_enabled = v; write_lock_enabled = v; read_locked = v; write_locked = v; lock_on_reset = on_reset })
    bytes

-- row 0, and row 0 AND NOT row 1
abbrev row_zero : List ℕ
row_zero = 0xF0 ∷ 0xF2 ∷ 0xA4 ∷ 0 ∷ 0 ∷ 0x0C ∷ 0x0E ∷ 0xA4 ∷ 0 ∷ 0 ∷ 0 ∷ 0 ∷ 0xF3 ∷ 0xF1 ∷ []

-- row 0 and AND, which runs short
abbrev zero_and : List ℕ
zero_and =
    0xF0
    ∷ 0xF2 ∷ 0xA4 ∷ 0 ∷ 0 ∷ 0x0C ∷ 0x0E ∷ 0xA4 ∷ 0 ∷ 0 ∷ 0 ∷ 0 ∷ 0xF3
    ∷ 0xF2 ∷ 0xA4 ∷ 0 ∷ 0 ∷ 0x04 ∷ 0x0E ∷ 0 ∷ 0xF3
    ∷ 0xF1 ∷ []

abbrev zero_not_one : List ℕ
zero_not_one =
    0xF0
    ∷ 0xF2 ∷ 0xA4 ∷ 0 ∷ 0 ∷ 0x0C ∷ 0x0E ∷ 0xA4 ∷ 0 ∷ 0 ∷ 0 ∷ 0 ∷ 0xF3
    ∷ 0xF2 ∷ 0xA4 ∷ 0 ∷ 0 ∷ 0x0C ∷ 0x0E ∷ 0xA4 ∷ 0 ∷ 0 ∷ 0 ∷ 1 ∷ 0xF3
    ∷ 0xF2 ∷ 0xA4 ∷ 0 ∷ 0 ∷ 0x04 ∷ 0x0E ∷ 2 ∷ 0xF3
    ∷ 0xF2 ∷ 0xA4 ∷ 0 ∷ 0 ∷ 0x04 ∷ 0x0E ∷ 0 ∷ 0xF3
    ∷ 0xF1
    ∷ []

abbrev fresh : Drive
fresh = fresh_drive 1000 2 2

-- document 01's script
abbrev script : List Event
script =
    sensor_on 0 3
    ∷ band_on 1 0x21 1 0 row_zero
    ∷ geometry 1 100 50
    ∷ reading 0 5000
    ∷ elapse 5
    ∷ transfer 0 99 2
    ∷ transfer 1 99 2
    ∷ band_on 1 4 0 0 []
    ∷ []

-- "a AND NOT b" with timers 3 and 5
abbrev crossing : List Event
crossing =
    sensor_on 0 3
    ∷ sensor_on 1 5
    ∷ band_on 0 0x21 1 0 zero_not_one
    ∷ reading 0 5000
    ∷ reading 1 5000
    ∷ elapse 6
    ∷ []

abbrev enable_read : Event
enable_read = band_on 0 1 1 0 []

-- band 1 under sensor 0, in no set of resets; its timer has one tick to go when an event comes, and then that tick
abbrev waiting : Event → List Event
waiting e = sensor_on 0 3 ∷ band_on 1 49 1 0 row_zero ∷ reading 0 5000 ∷ elapse 2 ∷ e ∷ elapse 1 ∷ []

abbrev lock_read : Event
lock_read = band_on 0 4 1 0 []

abbrev unlock_read : Event
unlock_read = band_on 0 4 0 0 []

-- an unlock that is refused with 2, for its LockOnReset of 256
abbrev bad_unlock : Event
bad_unlock = band_on 0 20 0 256 []

-- what the moments say of a side, and what the run leaves
abbrev told : Side → ℕ → List Event → Bool × Bool
told side band es =
    (flag_after (unlocks side band) (locks side band) false (moments fresh es), locked_on side (row_at (run_of fresh es) band))

record Worked : Type 0 where
  -- its own Sets, the events of the sensor that it names, and the elapse stay; geometry and transfers do not
  script-list : compared 1 script ≡ sensor_on 0 3 ∷ band_on 1 0x21 1 0 row_zero ∷ reading 0 5000 ∷ elapse 5 ∷ band_on 1 4 0 0 [] ∷ []
  script-answers : answers_to 1 fresh script ≡ 0 ∷ 8 ∷ []
  script-read : told Read 1 script ≡ (true, true)
  script-write : told Write 1 script ≡ (false, false)
  -- the other band names no sensor: only the elapse is left
  other-list : compared 0 script ≡ elapse 5 ∷ []
  -- TRUE at two ticks inside the elapse, and at no event's end
  crossing-read : told Read 0 crossing ≡ (true, true)
  -- a reset stays; it locks the side that is enabled, and not the other; one that is not in the set locks none
  reset-list : compared 0 (enable_read ∷ reset 0 ∷ []) ≡ enable_read ∷ reset 0 ∷ []
  reset-read : told Read 0 (enable_read ∷ reset 0 ∷ []) ≡ (true, true)
  reset-write : told Write 0 (enable_read ∷ reset 0 ∷ []) ≡ (false, false)
  no-reset : told Read 0 (enable_read ∷ reset 1 ∷ []) ≡ (false, false)
  -- document 02, #105: a programmatic reset stays, and locks the side where the set has bit 8; what is no type locks none
  programmatic-list : compared 0 (band_on 0 17 1 8 [] ∷ reset 3 ∷ []) ≡ band_on 0 17 1 8 [] ∷ reset 3 ∷ []
  programmatic-read : told Read 0 (band_on 0 17 1 8 [] ∷ reset 3 ∷ []) ≡ (true, true)
  programmatic-open : told Read 0 (band_on 0 17 1 7 [] ∷ reset 3 ∷ []) ≡ (false, false)
  no-type : told Read 0 (band_on 0 17 1 15 [] ∷ reset 4 ∷ []) ≡ (false, false)
  -- a timer goes on over it, and a power cycle stops it
  timer-goes-on : told Read 1 (waiting (reset 3)) ≡ (true, true)
  timer-stopped : told Read 1 (waiting (reset 0)) ≡ (false, false)
  -- without the reset, the Set or the reading the side stays unlocked: none of them may be struck
  needs-reset : told Read 0 (enable_read ∷ []) ≡ (false, false)
  needs-set : told Read 0 (reset 0 ∷ []) ≡ (false, false)
  needs-reading : told Read 1 (sensor_on 0 3 ∷ band_on 1 0x21 1 0 row_zero ∷ elapse 5 ∷ []) ≡ (false, false)
  -- a granted unlock counts, and a refused one does not
  unlocked : told Read 0 (lock_read ∷ unlock_read ∷ []) ≡ (false, false)
  refused : told Read 0 (lock_read ∷ bad_unlock ∷ []) ≡ (true, true)
  -- a refused Set names what its expression refers to, one that is refused as malformed too; a Set that does not name the expression names nothing, and so does one whose bytes
  -- are no tokens
  refused-names : compared 1 (band_on 1 48 0 256 row_zero ∷ reading 0 7 ∷ []) ≡ band_on 1 48 0 256 row_zero ∷ reading 0 7 ∷ []
  malformed-refused : answers_to 1 fresh (band_on 1 32 0 0 zero_and ∷ []) ≡ 13 ∷ []
  malformed-names : compared 1 (band_on 1 32 0 0 zero_and ∷ reading 0 7 ∷ []) ≡ band_on 1 32 0 0 zero_and ∷ reading 0 7 ∷ []
  unnamed : compared 1 (band_on 1 16 0 7 row_zero ∷ reading 0 7 ∷ []) ≡ band_on 1 16 0 7 row_zero ∷ []
  no-tokens : compared 1 (band_on 1 32 0 0 (0 ∷ row_zero) ∷ reading 0 7 ∷ []) ≡ band_on 1 32 0 0 (0 ∷ row_zero) ∷ []

worked : Worked
unfolding drive-rules evaluate count_from value_of mentions tick_moments moments unlocks locks refers_in named_in stays keep compared answers_to flag_after
worked = record {
  script-list = refl;
  script-answers = refl;
  script-read = refl;
  script-write = refl;
  other-list = refl;
  crossing-read = refl;
  reset-list = refl;
  reset-read = refl;
  reset-write = refl;
  no-reset = refl;
  programmatic-list = refl;
  programmatic-read = refl;
  programmatic-open = refl;
  no-type = refl;
  timer-goes-on = refl;
  timer-stopped = refl;
  needs-reset = refl;
  needs-set = refl;
  needs-reading = refl;
  unlocked = refl;
  refused = refl;
  refused-names = refl;
  malformed-refused = refl;
  malformed-names = refl;
  unnamed = refl;
  no-tokens = refl;
}
