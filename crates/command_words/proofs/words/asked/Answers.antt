use Rattle.std.proofs.Common.{◌≡◌, codes, rules}
use Rattle.std.specs.Box.{box_value}
use Rattle.clap.specs.Words.{found_of, rows_of, subcommand_rows_of}
use Rattle.clap.specs.declared.parser.matches.ArgMatches.TheViews.{out-ArgMatches, out-SubCommand}
use Rattle.command_words.proofs.AskedLemmas.{named_is, no_init, no_demo, no_upgrade, no_ship}
use Rattle.command_words.proofs.ReadLemmas.{if_holds}
use Rattle.command_words.proofs.words.asked.Goals as goal

pub returns-in_err-params-in-init-clause-none : goal.returns-in_err-params-in-init-clause-none
returns-in_err-params-in-init-clause-none c =
    let named = named_is (λ b. (out-SubCommand (box_value b)).name.now) (λ b. rows_of (found_of (out-SubCommand (box_value b)).matches)) (out-ArgMatches c.args.matches.now).subcommand
    c.in_ok-name.name.now (rows_of (found_of c.in_ok-name.values.now)) c.in_ok-name.ensures.name c.in_ok-name.ensures.rows in
    let is : c.in_ok-name.name.now ≡ codes "init" = search rules in
    if_holds _ (no_init (subcommand_rows_of c.args.matches.now) _ _ named is c.in_err-params-in-init.ensures.none)

pub returns-in_err-seed-in-demo-clause-none : goal.returns-in_err-seed-in-demo-clause-none
returns-in_err-seed-in-demo-clause-none c =
    let named = named_is (λ b. (out-SubCommand (box_value b)).name.now) (λ b. rows_of (found_of (out-SubCommand (box_value b)).matches)) (out-ArgMatches c.args.matches.now).subcommand
    c.in_ok-name.name.now (rows_of (found_of c.in_ok-name.values.now)) c.in_ok-name.ensures.name c.in_ok-name.ensures.rows in
    let is : c.in_ok-name.name.now ≡ codes "demo" = search rules in
    if_holds _ (no_demo (subcommand_rows_of c.args.matches.now) _ _ named is c.in_err-seed-in-demo.ensures.none)

pub returns-in_err-params-in-upgrade-clause-none : goal.returns-in_err-params-in-upgrade-clause-none
returns-in_err-params-in-upgrade-clause-none c =
    let named = named_is (λ b. (out-SubCommand (box_value b)).name.now) (λ b. rows_of (found_of (out-SubCommand (box_value b)).matches)) (out-ArgMatches c.args.matches.now).subcommand
    c.in_ok-name.name.now (rows_of (found_of c.in_ok-name.values.now)) c.in_ok-name.ensures.name c.in_ok-name.ensures.rows in
    let is : c.in_ok-name.name.now ≡ codes "upgrade" = search rules in
    if_holds _ (no_upgrade (subcommand_rows_of c.args.matches.now) _ _ named is c.in_err-params-in-upgrade.ensures.none)

pub returns-in_err-first-in-ship-clause-none : goal.returns-in_err-first-in-ship-clause-none
returns-in_err-first-in-ship-clause-none c =
    let named = named_is (λ b. (out-SubCommand (box_value b)).name.now) (λ b. rows_of (found_of (out-SubCommand (box_value b)).matches)) (out-ArgMatches c.args.matches.now).subcommand
    c.in_ok-name.name.now (rows_of (found_of c.in_ok-name.values.now)) c.in_ok-name.ensures.name c.in_ok-name.ensures.rows in
    let is : c.in_ok-name.name.now ≡ codes "ship" = search rules in
    if_holds _ (no_ship (subcommand_rows_of c.args.matches.now) _ _ named is c.in_err-first-in-ship.ensures.none)
