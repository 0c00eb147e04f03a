use Rattle.hash_file.proofs.AcceptedLemmas.{put_accepted, delete_accepted, put_narrow, delete_narrow}
use Rattle.hash_file.proofs.hash_file_laws.commands_are_accepted.Goals as goal

pub returns : goal.returns
returns c = record { put = put_accepted; delete = delete_accepted; put_too_large = put_narrow; delete_too_large = delete_narrow }
