-- A store that was not asked stands as it stood.
use Rattle.std.proofs.Common.{refl}
use Rattle.client_sessions.specs.Standing.{Keeps, Standing}

pub keeps_same : (it : Standing) → Keeps it it
keeps_same it = record { sizes = refl; stable = refl; heard = refl; said = refl; moments = refl }
