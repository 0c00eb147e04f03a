use Rattle.resp_words.proofs.Apart.{one_answer, part_found, whole_found}
use Rattle.resp_words.proofs.command_laws.a_command_is_found.Goals as goal

pub returns : goal.returns
returns c = record { whole = whole_found; part = part_found; one = one_answer }
