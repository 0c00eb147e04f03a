use Rattle.std.proofs.Common.{◌≡◌, drop}
use Rattle.std.specs.List.{list_all}
use Rattle.client_sessions.specs.Answers.{is_graphic}
use Rattle.client_sessions.proofs.answering.are_graphic.Given as goal

abbrev pub invariant-loop-byte : goal.invariant-loop-byte
invariant-loop-byte l = list_all is_graphic (drop l.byte-index l.title) ≡ list_all is_graphic l.title
