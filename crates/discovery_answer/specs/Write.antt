-- Document 02, #102: the discovery answer of a drive. "Add writer and reader of the discovery answer .. with the Locking feature 0002 and the
-- Locking LBA Ranges Control feature 0401, in that order".
use Rattle.std.specs.Prelude.{ℕ, ◌+◌, Bool, cond, ◌||◌, List, [], ◌∷◌, take}
use Rattle.base.specs.Lists.{any}
use Rattle.band.specs.declared.Row.{Row}
use Rattle.band.specs.declared.Side.TheVariants.{Read, Write}
use Rattle.band.specs.Rows.{closed_on}
use Rattle.drive.specs.declared.Drive.{Drive}
use Rattle.discovery_answer.specs.Format.{answer_bytes, locking_supported, media_encryption, locked, locking_feature, ranges_feature}

-- "an enabled locked side"
abbrev pub closed : Row → Bool
closed row = closed_on Read row || closed_on Write row

-- "The Locking feature's Locked flag is set exactly when some band has an enabled locked side": a band is below the header's count
unfoldable pub some_closed : Drive → Bool
some_closed d = any closed (take d.band_count d.rows)

-- "its other flags hold what 003, 3.6.2.2 fixes": "LockingSupported = 1", "MediaEncryption = 1", and no other is fixed there
unfoldable pub flags_of : Drive → ℕ
flags_of d = locking_supported + media_encryption + cond (some_closed d) locked 0

unfoldable pub discovery_of : Drive → List ℕ
discovery_of d = answer_bytes (locking_feature (flags_of d) ∷ ranges_feature ∷ [])

-- its bytes, whatever the drive (`DiscoveryAnswers.length-is`): the header's 48, and twice 4 and 12
abbrev pub discovery_bytes : ℕ
discovery_bytes = 80
