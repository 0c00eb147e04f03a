use Rattle.std.proofs.Common.{arith, ℕ, ◌<◌, ◌≤◌, ◌^◌}
use Rattle.clap.specs.Words.{found_of, rows_of}
use Rattle.command_words.specs.Words.{GivesDemo}
use Rattle.command_words.proofs.ReadLemmas.{if_holds}
use Rattle.command_words.proofs.words.demo.Goals as goal

pub returns-in_err-seed-clause-none : goal.returns-in_err-seed-clause-none
returns-in_err-seed-clause-none c =
    let none : (seed steps : ℕ) → seed < 2 ^ 64 → steps ≤ 1000000 → GivesDemo (rows_of (found_of c.args.values.now)) seed steps → ⊥ = λ seed steps small few gives. c.in_err-seed.ensures.none seed small gives.0 in
    if_holds _ none

pub returns-in_err-steps-clause-none : goal.returns-in_err-steps-clause-none
returns-in_err-steps-clause-none c =
    let none : (seed steps : ℕ) → seed < 2 ^ 64 → steps ≤ 1000000 → GivesDemo (rows_of (found_of c.args.values.now)) seed steps → ⊥ = λ seed steps small few gives. c.in_err-steps.ensures.none steps (omega (arith, few)) gives.1 in
    if_holds _ none
