use Rattle.std.proofs.Common.{◌∙◌, None, Some, refl, sym}
use Rattle.clap.specs.Words.{found_of}
use Rattle.redo_log.proofs.AskLemmas.{if_holds, kind_text, no_kind_text}
use Rattle.redo_log.proofs.options.kind.Goals as goal

pub returns-in_err-kind_named-in-Some-clause-none : goal.returns-in_err-kind_named-in-Some-clause-none
returns-in_err-kind_named-in-Some-clause-none c =
    if_holds _ (no_kind_text (found_of c.args.matches.now) (Some c.in-Some.word.now) c.in-Some.ensures (λ k is. is.1 (sym c.in_err-kind_named-in-Some.ensures)))

pub returns-in_ok-kind_named-in-Some-clause-some : goal.returns-in_ok-kind_named-in-Some-clause-some
returns-in_ok-kind_named-in-Some-clause-some c =
    let is = c.in_ok-kind_named-in-Some.ensures in
    kind_text (found_of c.args.matches.now) (Some c.in-Some.word.now) _ c.in-Some.ensures (is, λ none. cc (is ∙ none))

pub returns-in-None-clause-some : goal.returns-in-None-clause-some
returns-in-None-clause-some c = kind_text (found_of c.args.matches.now) None None c.in-None.ensures refl
