use Rattle.std.proofs.Common.{refl}
use Rattle.resp_words.proofs.Apart.{in_pieces, one_way}
use Rattle.resp_words.proofs.command_laws.commands_are_told_apart.Goals as goal

pub returns : goal.returns
returns c = record {
  commands = λ limits bytes rest other commands others p q. (one_way limits bytes bytes rest other commands others refl p q).0;
  rest = λ limits bytes rest other commands others p q. (one_way limits bytes bytes rest other commands others refl p q).1;
  pieces = in_pieces;
}
