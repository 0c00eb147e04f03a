use Rattle.clap.specs.Words.{found_of}
use Rattle.redo_log.proofs.AskLemmas.{is_flag}
use Rattle.redo_log.proofs.options.flag.Goals as goal

pub returns : goal.returns
returns c = is_flag (found_of c.args.matches.now) c.args.id.now c.get_flag.result c.get_flag.ensures.none c.get_flag.ensures.value c.get_flag.ensures.other
