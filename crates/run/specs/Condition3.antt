-- Condition 3 of a run: what its drive and the answers that it wrote share with every other script, and the history rule.
use Rattle.std.specs.Prelude.{ℕ, ◌≤◌, ◌<◌, ◌≡◌, ◌↔◌, true, cond, List, [], ◌∷◌, length, IsOk}
use Rattle.band.specs.declared.Side.{Side}
use Rattle.band.specs.Rows.{locked_on}
use Rattle.drive.specs.declared.Drive.{Drive}
use Rattle.drive.specs.State.{fresh_drive, row_at, value_at}
use Rattle.drive.specs.Events.{Event, run_of}
use Rattle.condition.specs.History.{own_set, moments, LockedByHistory}
use Rattle.condition.specs.Compared.{compared, answers_to}
use Rattle.script.specs.Whole.{accepted, read_script}
use Rattle.run.specs.declared.Ran.{Ran}
use Rattle.run.specs.declared.RanTwo.{RanTwo}

-- of the bytes written for a list of events, those that answer a Set of the band
unfoldable pub own_answers : ℕ → List Event → List ℕ → List ℕ
own_answers band [] bytes = []
own_answers band (e ∷ es) [] = []
own_answers band (e ∷ es) (b ∷ bytes) = cond (own_set band (λ c tokens. true) e) (b ∷ own_answers band es bytes) (own_answers band es bytes)

-- a run that ran all of a script's events
pub record RanWhole (s : List ℕ) (most : ℕ) (r : Ran) (capacity bands sensors : ℕ) (es : List Event) : Type 0 where
  pub reads : read_script s ≡ accepted capacity bands sensors es
  pub all : length es ≤ most
  pub done : IsOk r.events

-- "both runs end with that band's lock columns, expression and value alike, and give the same answers to its Sets, in the same order": this
-- run's band against what document 01 gives for another list of events
pub record LikeEvents (band : ℕ) (r : Ran) (es : List Event) (answers : List ℕ) (fresh : Drive) (fs : List Event) : Type 0 where
  pub row : row_at r.drive band ≡ row_at (run_of fresh fs) band
  pub value : value_at r.drive band ≡ value_at (run_of fresh fs) band
  pub own : own_answers band es answers ≡ answers_to band fresh fs

-- "have equal headers"
abbrev pub EqualHeaders : (capacity bands sensors capacity' bands' sensors' : ℕ) → Type 0
EqualHeaders capacity bands sensors capacity' bands' sensors' = (capacity ≡ capacity') × (bands ≡ bands') × (sensors ≡ sensors')

-- "after every script that reads to its end, a side of a band is locked exactly when document 01's history rule says so": the bands of this
-- run's drive
abbrev pub FollowsHistory : Ran → (capacity bands sensors : ℕ) → List Event → Type 0
FollowsHistory r capacity bands sensors es =
    (band : ℕ) → band < bands → (side : Side)
    → (locked_on side (row_at r.drive band) ≡ true) ↔ LockedByHistory side band (moments (fresh_drive capacity bands sensors) es)

-- Condition 3 of this run: against every script t that reads to its end with an equal header, and the history rule, for every band that the
-- header counts
pub record Condition3OfRun (s : List ℕ) (most : ℕ) (r : Ran) (answers : List ℕ) : Type 0 where
  pub isolation : (t : List ℕ) (capacity bands sensors : ℕ) (es : List Event) (capacity' bands' sensors' : ℕ) (fs : List Event)
      → RanWhole s most r capacity bands sensors es → read_script t ≡ accepted capacity' bands' sensors' fs
      → EqualHeaders capacity bands sensors capacity' bands' sensors'
      → (band : ℕ) → band < bands → compared band es ≡ compared band fs
      → LikeEvents band r es answers (fresh_drive capacity' bands' sensors') fs
  pub history : (capacity bands sensors : ℕ) (es : List Event) → RanWhole s most r capacity bands sensors es
      → FollowsHistory r capacity bands sensors es

-- a script that was run whole: a script has at most 32,766 events (`few-events` of crate script), so 65,536 are all of them
pub record RunWhole (s : List ℕ) (r : Ran) (capacity bands sensors : ℕ) (es : List Event) : Type 0 where
  pub reads : read_script s ≡ accepted capacity bands sensors es
  pub done : IsOk r.events

pub record LikeBands (band : ℕ) (r : RanTwo) (es fs : List Event) (answers answers2 : List ℕ) : Type 0 where
  pub row : row_at r.first.drive band ≡ row_at r.second.drive band
  pub value : value_at r.first.drive band ≡ value_at r.second.drive band
  pub own : own_answers band es answers ≡ own_answers band fs answers2

-- Condition 3 of two runs, on the two results and the two sets of answers themselves, with the history rule of both
pub record Condition3OfTwo (s t : List ℕ) (r : RanTwo) (answers answers2 : List ℕ) : Type 0 where
  pub isolation : (capacity bands sensors : ℕ) (es : List Event) (capacity' bands' sensors' : ℕ) (fs : List Event)
      → RunWhole s r.first capacity bands sensors es → RunWhole t r.second capacity' bands' sensors' fs
      → EqualHeaders capacity bands sensors capacity' bands' sensors'
      → (band : ℕ) → band < bands → compared band es ≡ compared band fs → LikeBands band r es fs answers answers2
  pub first-history : (capacity bands sensors : ℕ) (es : List Event) → RunWhole s r.first capacity bands sensors es
      → FollowsHistory r.first capacity bands sensors es
  pub second-history : (capacity bands sensors : ℕ) (es : List Event) → RunWhole t r.second capacity bands sensors es
      → FollowsHistory r.second capacity bands sensors es
