use Rattle.std.proofs.Common.{arith}
use Rattle.clap.specs.Words.{found_of, rows_of}
use Rattle.formats.specs.Objects.{IsInRange}
use Rattle.command_words.specs.Words.{GivesParams}
use Rattle.formats.specs.declared.params.Params.{Params}
use Rattle.command_words.proofs.ReadLemmas.{if_holds}
use Rattle.command_words.proofs.words.params.Goals as goal

pub returns-in_err-short-clause-none : goal.returns-in_err-short-clause-none
returns-in_err-short-clause-none c =
    let none : (p : Params) → IsInRange p → GivesParams (rows_of (found_of c.args.values.now)) p → ⊥ = λ p range gives. c.in_err-short.ensures.none p.objects (omega (arith, range.objects)) gives.0 in
    if_holds _ none

pub returns-in_err-short-2-clause-none : goal.returns-in_err-short-2-clause-none
returns-in_err-short-2-clause-none c =
    let none : (p : Params) → IsInRange p → GivesParams (rows_of (found_of c.args.values.now)) p → ⊥ = λ p range gives. c.in_err-short-2.ensures.none p.cap (omega (arith, range.cap)) gives.1 in
    if_holds _ none

pub returns-in_err-short-3-clause-none : goal.returns-in_err-short-3-clause-none
returns-in_err-short-3-clause-none c =
    let none : (p : Params) → IsInRange p → GivesParams (rows_of (found_of c.args.values.now)) p → ⊥ = λ p range gives. c.in_err-short-3.ensures.none p.limit (omega (arith, range.limit)) gives.2 in
    if_holds _ none
