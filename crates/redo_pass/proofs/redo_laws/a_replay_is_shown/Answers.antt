use Rattle.formats.specs.Objects.{bounds_of}
use Rattle.redo_pass.proofs.Replays.{store_replayed}
use Rattle.redo_pass.proofs.redo_laws.a_replay_is_shown.Goals as goal

pub returns : goal.returns
returns g c p file before after w it made sound shows member_is values replayed cached =
    store_replayed (g.O.Oper.meaning (bounds_of p)) p file before after w it made sound shows replayed member_is values cached
