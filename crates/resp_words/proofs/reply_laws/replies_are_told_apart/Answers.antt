use Rattle.resp_words.proofs.Told.{reply_cancel}
use Rattle.resp_words.proofs.reply_laws.replies_are_told_apart.Goals as goal

pub returns : goal.returns
returns c = record {
  reply = λ a b x y small_a small_b same. (reply_cancel a b x y small_a small_b same).0;
  rest = λ a b x y small_a small_b same. (reply_cancel a b x y small_a small_b same).1;
}
