use Rattle.command_words.proofs.OneLemmas.{words_one}
use Rattle.command_words.proofs.word_laws.words_ask_one_thing.Goals as goal

pub returns : goal.returns
returns c = words_one
