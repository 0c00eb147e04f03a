use Rattle.std.specs.Str.Parse.{ParsesUnsigned, ExplainsUnsignedError, HasUnsignedDigitsIfOk}
use Rattle.clap.specs.Words.{found_of}
use Rattle.redo_log.proofs.AskLemmas.{if_number, if_none}
use Rattle.redo_log.proofs.options.wide.Goals as goal

pub returns : goal.returns
returns c =
    let found = found_of c.args.matches.now in
    record {
      some = if_number 64 found c.args.id.now (λ bs r. ParsesUnsigned 64 10 bs r × ExplainsUnsignedError 10 bs r × HasUnsignedDigitsIfOk bs r) c.try_get_one.result c.ok.result (λ t x g. g.0) c.try_get_one.ensures.none c.try_get_one.ensures.value c.ok.ensures.value;
      none = if_none 64 found c.args.id.now (λ bs r. ParsesUnsigned 64 10 bs r × ExplainsUnsignedError 10 bs r × HasUnsignedDigitsIfOk bs r) c.try_get_one.result c.ok.result (λ t x g. g.0) c.try_get_one.ensures.none c.try_get_one.ensures.value c.ok.ensures.value;
    }
