use Rattle.std.proofs.Common.{◌∙◌, sym}
use Rattle.frame_stream.proofs.Apart.{one_way, in_pieces}
use Rattle.frame_stream.proofs.frame_laws.frames_are_told_apart.Goals as goal

pub returns : goal.returns
returns c = record {
  payloads = λ bytes payloads others rest other a b. (one_way payloads others rest other a.whole b.whole a.unfinished b.unfinished (sym a.is ∙ b.is)).0;
  rest = λ bytes payloads others rest other a b. (one_way payloads others rest other a.whole b.whole a.unfinished b.unfinished (sym a.is ∙ b.is)).1;
  pieces = in_pieces;
}
