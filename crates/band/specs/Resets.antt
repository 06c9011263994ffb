-- Document 01, 'Bands', and document 02, #105, 'Programmatic reset': the types of resets and the sets of them (theorem `reset-types` in proofs/Resets).
use Rattle.std.specs.Prelude.{ℕ, ◌+◌, ◌≤◌, ◌<◌, ◌≡◌, Bool, false, cond, eqb}
use Rattle.band.specs.Rows.{fresh_row, last_reset_type, reset_bit, all_resets, in_set}

-- what a type adds to a set, where it is chosen
abbrev pub bit_if : Bool → ℕ → ℕ
bit_if chosen type = cond chosen (reset_bit type) 0

-- "a set as bits": the set of the types that are chosen
abbrev pub set_of : (ℕ → Bool) → ℕ
set_of chosen = bit_if (chosen 0) 0 + (bit_if (chosen 1) 1 + (bit_if (chosen 2) 2 + bit_if (chosen 3) 3))

pub record ResetTypes : Type 0 where
  -- "Reset types: 0 power cycle, 1 hardware, 2 hot plug."; "Type 3, refused with 2 so far, now resets"
  pub last : last_reset_type ≡ 3
  -- "1 power cycle, 2 hardware, 4 hot plug"; "bit 8 for the new type"
  pub power-cycle : reset_bit 0 ≡ 1
  pub hardware : reset_bit 1 ≡ 2
  pub hot-plug : reset_bit 2 ≡ 4
  pub programmatic : reset_bit 3 ≡ 8
  -- "LockOnReset takes 0 to 15"
  pub greatest : all_resets ≡ 15
  -- each choice of types is a set in that range, which has the types that are chosen and no other
  pub in-range : (chosen : ℕ → Bool) → set_of chosen ≤ all_resets
  pub has : (chosen : ℕ → Bool) (type : ℕ) → type ≤ last_reset_type → in_set (set_of chosen) type ≡ chosen type
  -- and each set in that range is the set of its types: no two have the same
  pub as_bits : (set : ℕ) → set ≤ all_resets → set_of (in_set set) ≡ set
  -- what is no type is in no set, not even in one that no Set can store
  pub no_other : (set type : ℕ) → last_reset_type < type → in_set set type ≡ false
  -- "Fresh: .. LockOnReset 1": the power cycle alone
  pub fresh : (type : ℕ) → in_set fresh_row.lock_on_reset type ≡ eqb type 0
