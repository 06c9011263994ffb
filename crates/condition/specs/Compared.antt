-- Document 01, 'Script', the paragraph 'For condition 3', and condition 3: what a band names, its compared list, and the answers to its Sets.
use Rattle.std.specs.Prelude.{ℕ, Bool, true, false, cond, ◌&&◌, List, [], ◌∷◌, ◌++◌, eqb}
use Rattle.base.specs.Lists.{any}
use Rattle.base.specs.Columns.{named}
use Rattle.evaluator.specs.Value.{mentions}
use Rattle.token_reader.specs.Read.{TokenOutcome, elements, refusal, read_tokens}
use Rattle.band_columns.specs.declared.BandColumns.{BandColumns}
use Rattle.drive.specs.declared.Drive.{Drive}
use Rattle.drive.specs.Events.{Event, Shape, ticking, resetting, setting, sensing, placing, looking, shape_of, answer_of, step_of}
use Rattle.condition.specs.History.{own_set}

-- "that reads as tokens .. refers to that sensor's row"
abbrev pub mentioned_in : ℕ → TokenOutcome → Bool
mentioned_in row (elements es) = mentions row es
mentioned_in row (refusal n) = false

-- a Set that names the expression, and the expression refers to the row
unfoldable pub refers_in : ℕ → BandColumns → List ℕ → Bool
refers_in row c bytes = named 32 c.mask && mentioned_in row (read_tokens bytes)

-- "A band names a sensor if any expression in any of its Sets in the script that reads as tokens, granted or refused, refers to that
-- sensor's row."
unfoldable pub named_in : ℕ → List Event → ℕ → Bool
named_in band es row = any (own_set band (refers_in row)) es

-- Strike "all Sets on other bands, all geometry events and transfers, all readings and Sets on sensors that the band never names": what
-- stays for a set of bands and a set of sensors
abbrev pub stays_by : (bands sensors : ℕ → Bool) → Shape → Bool
stays_by bands sensors (ticking n) = true
stays_by bands sensors (resetting t) = true
stays_by bands sensors (setting b c bytes) = bands b
stays_by bands sensors (sensing s x) = sensors s
stays_by bands sensors (placing b start n) = false
stays_by bands sensors (looking w start n) = false

unfoldable pub stays : (bands sensors : ℕ → Bool) → Event → Bool
stays bands sensors e = stays_by bands sensors (shape_of e)

unfoldable pub keep : {A : Type 0} → (A → Bool) → List A → List A
keep p [] = []
keep p (x ∷ l) = cond (p x) (x ∷ keep p l) (keep p l)

abbrev pub only : ℕ → ℕ → Bool
only band b = eqb b band

-- "The band's compared list is the script's events, in order and with all fields, less those that condition 3 strikes."
unfoldable pub compared : ℕ → List Event → List Event
compared band es = keep (stays (only band) (named_in band es)) es

-- "the same answers to its Sets, in the same order"
abbrev pub answer_to : ℕ → Drive → Event → List ℕ
answer_to band d e = cond (own_set band (λ c bytes. true) e) (answer_of d e ∷ []) []

unfoldable pub answers_to : ℕ → Drive → List Event → List ℕ
answers_to band d [] = []
answers_to band d (e ∷ es) = answer_to band d e ++ answers_to band (step_of d e) es
