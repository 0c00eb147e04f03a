use Rattle.std.proofs.Common.{arith, codes, ℕ, ◌<◌, ◌≤◌, ◌^◌}
use Rattle.clap.specs.Words.{found_of, rows_of}
use Rattle.command_words.specs.Words.{Gives}
use Rattle.command_words.proofs.ReadLemmas.{if_holds}
use Rattle.command_words.proofs.words.first.Goals as goal

pub returns-in_err-from-clause-none : goal.returns-in_err-from-clause-none
returns-in_err-from-clause-none c =
    let none : (from : ℕ) → 1 ≤ from → from < 2 ^ 62 → Gives (rows_of (found_of c.args.values.now)) (codes "FROM") from → ⊥ = λ from positive small gives. c.in_err-from.ensures.none from (omega (arith, small)) gives in
    if_holds _ none
