use Rattle.std.proofs.Common.{Bool, sym, subst}
use Rattle.clap.specs.Words.{found_of, rows_of}
use Rattle.command_words.specs.Words.{IsGiven}
use Rattle.command_words.proofs.ReadLemmas.{flag_given}
use Rattle.command_words.proofs.words.flag.Goals as goal

pub returns : goal.returns
returns c =
    let found = found_of c.args.matches.now in
    subst (λ (it : Bool). IsGiven (rows_of found) c.args.id.now it) (sym c.unwrap_or.ensures)
    (flag_given _ found c.args.id.now c.get_one.result c.get_one.ensures.none c.get_one.ensures.value)
