-- Document 01, 'Bands', the paragraph 'History rule'. Nothing here reads a Locked column.
use Rattle.std.specs.Prelude.{ℕ, zero, suc, ◌≡◌, Bool, true, false, cond, ◌&&◌, ◌||◌, List, [], ◌∷◌, ◌++◌, eqb}
use Rattle.base.specs.Lists.{any}
use Rattle.evaluator.specs.Value.{is_true}
use Rattle.band.specs.declared.Side.{Side}
use Rattle.band_columns.specs.declared.BandColumns.{BandColumns}
use Rattle.band.specs.Rows.{enabled_on, in_set}
use Rattle.band_columns.specs.Sets.{names_locked}
use Rattle.drive.specs.declared.Drive.{Drive}
use Rattle.drive.specs.State.{row_at, value_at, tick_of}
use Rattle.drive.specs.Events.{Event, shape_of, if_ticking, if_resetting, if_setting, answer_of, step_of}

-- ---- the moments of a list of events

-- "A moment is the end of an event or of a tick in an elapse."
pub data MomentEnd : Type 0 where
  ended : Event → MomentEnd
  ticked : MomentEnd

-- with the drive before the event or the tick, and the drive after it
pub record Moment : Type 0 where
  pub cause : MomentEnd
  pub before : Drive
  pub after : Drive

-- "Granted means answered 0."
abbrev pub granted : Drive → Event → Bool
granted d e = eqb (answer_of d e) 0

-- "An elapse of n .. is n ticks"; no other event has any
abbrev pub length_of : Event → ℕ
length_of e = if_ticking (shape_of e) (λ n. n) 0

unfoldable pub tick_moments : ℕ → Drive → List Moment
tick_moments zero d = []
tick_moments (suc n) d = record { cause = ticked; before = d; after = tick_of d } ∷ tick_moments n (tick_of d)

-- an event that is refused has no ticks, and its end is a moment too
unfoldable pub moments : Drive → List Event → List Moment
moments d [] = []
moments d (e ∷ es) =
    cond (granted d e) (tick_moments (length_of e) d) []
    ++ (record { cause = ended e; before = d; after = step_of d e } ∷ moments (step_of d e) es)

-- ---- the three things that lock a side, and the one that unlocks it

abbrev pub by_event : (Event → Bool) → MomentEnd → Bool
by_event passes (ended e) = passes e
by_event passes ticked = false

-- the moment is the end of a granted event that passes the test
abbrev pub granted_end : (Event → Bool) → Moment → Bool
granted_end passes m = by_event (λ e. granted m.before e && passes e) m.cause

-- "The Sets in it are the band's own.": a Set of the band whose columns and expression bytes pass the test
abbrev pub own_set : ℕ → (BandColumns → List ℕ → Bool) → Event → Bool
own_set band passes e = if_setting (shape_of e) (λ b c bytes. eqb b band && passes c bytes) false

abbrev pub reset_with : (ℕ → Bool) → Event → Bool
reset_with passes e = if_resetting (shape_of e) passes false

-- "a granted Set named it 1", and "granted Set that named its Locked as 0"
abbrev pub set_to : ℕ → Side → ℕ → Moment → Bool
set_to v side band m = granted_end (own_set band (λ c bytes. names_locked side v c)) m

-- "a reset in the band's set came while the side was enabled"
abbrev pub reset_on : Side → ℕ → Moment → Bool
reset_on side band m =
    granted_end (reset_with (λ t. in_set (row_at m.before band).lock_on_reset t && enabled_on side (row_at m.before band))) m

-- "at some moment the side was enabled and the expression TRUE"
abbrev pub true_on : Side → ℕ → Moment → Bool
true_on side band m = enabled_on side (row_at m.after band) && is_true (value_at m.after band)

unfoldable pub unlocks : Side → ℕ → Moment → Bool
unlocks side band m = set_to 0 side band m

unfoldable pub locks : Side → ℕ → Moment → Bool
locks side band m = set_to 1 side band m || (reset_on side band m || true_on side band m)

-- "after the last granted Set that named its Locked as 0 (or from the start if none)", one of the three: some moment locks the side and no
-- later one unlocks it. "The moment at which that last Set ended is included": it is not later than itself.
pub record LockedByHistory (side : Side) (band : ℕ) (ms : List Moment) : Type 0 where
  pub earlier : List Moment
  pub moment : Moment
  pub later : List Moment
  pub order : ms ≡ earlier ++ (moment ∷ later)
  pub locking : locks side band moment ≡ true
  pub last : any (unlocks side band) later ≡ false
