use Rattle.std.proofs.Common.{◌∙◌, sym}
use Rattle.client_frames.proofs.Apart.{frame_cancel, in_pieces, one_way}
use Rattle.client_frames.proofs.frame_laws.client_frames_are_told_apart.Goals as goal

pub returns : goal.returns
returns c = record {
  frame = frame_cancel;
  stream = λ bytes rest other frames others a b. one_way frames others rest other a.whole b.whole a.unfinished b.unfinished (sym a.is ∙ b.is);
  pieces = in_pieces;
}
