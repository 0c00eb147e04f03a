use Rattle.std.proofs.Common.{false, refl}
use Rattle.redo_tests.proofs.byte_op.are_encoded.Goals as goal

pub encode-requires : goal.encode-requires
encode-requires c = (record { objects = 2; cap = 1; more = false }, refl)

pub encode-requires-2 : goal.encode-requires-2
encode-requires-2 c = (record { objects = 2; cap = 1; more = false }, refl)
