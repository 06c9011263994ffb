use Rattle.sensor_set.proofs.Fits.{fitting, on-fraction, off-fraction}
use Rattle.sensor_set.proofs.store.Goals as goal

pub column-requires : goal.column-requires
column-requires c = (fitting _ c.requires).on_threshold

pub column-requires-2 : goal.column-requires-2
column-requires-2 c = on-fraction _ c.requires

pub column-requires-3 : goal.column-requires-3
column-requires-3 c = (fitting _ c.requires).on_timeout

pub column-requires-4 : goal.column-requires-4
column-requires-4 c = (fitting _ c.requires).off_threshold

pub column-requires-5 : goal.column-requires-5
column-requires-5 c = off-fraction _ c.requires

pub column-requires-6 : goal.column-requires-6
column-requires-6 c = (fitting _ c.requires).off_timeout
