use Rattle.std.specs.Str.Parse.{ParsesUnsigned, ExplainsUnsignedError, HasUnsignedDigitsIfOk}
use Rattle.clap.specs.Words.{found_of}
use Rattle.command_words.proofs.ReadLemmas.{if_gives, if_none}
use Rattle.command_words.proofs.words.short.Goals as goal

pub returns : goal.returns
returns c =
    let found = found_of c.args.matches.now in
    record {
      some = if_gives 32 found c.args.id.now (λ bs r. ParsesUnsigned 32 10 bs r × ExplainsUnsignedError 10 bs r × HasUnsignedDigitsIfOk bs r) c.get_one.result (λ t x g. g.0) c.get_one.ensures.none c.get_one.ensures.value;
      none = if_none 32 found c.args.id.now (λ bs r. ParsesUnsigned 32 10 bs r × ExplainsUnsignedError 10 bs r × HasUnsignedDigitsIfOk bs r) c.get_one.result (λ t x g. g.0) c.get_one.ensures.value;
    }
