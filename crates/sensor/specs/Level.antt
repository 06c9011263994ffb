-- Document 01, 'Sensors', the level rule: "Readings are thousandths", and so are On and Off.
use Rattle.std.specs.Prelude.{ℕ, ◌+◌, ◌*◌, Bool, true, false, cond, leb, ltb}

-- "Readings are thousandths, 0 to 4,294,967,295,999."
abbrev pub greatest_reading : ℕ
greatest_reading = 4294967295999

-- "On = 1,000 × on-threshold + on-fraction, Off likewise."
abbrev pub thousandths : ℕ → ℕ → ℕ
thousandths threshold fraction = 1000 * threshold + fraction

-- "if On ≥ Off, a reading ≥ On gives TRUE, one < Off gives FALSE; if On < Off, a reading ≤ On gives TRUE, one > Off gives FALSE;
-- otherwise the level stays."
unfoldable pub level_rule : ℕ → ℕ → ℕ → Bool → Bool
level_rule on off reading level =
    cond (leb off on)
    (cond (leb on reading) true (cond (ltb reading off) false level))
    (cond (leb reading on) true (cond (ltb off reading) false level))
