use Rattle.std.proofs.Common.{◌≡◌, ◌∙◌, ℤ, Some, ap, codes, pos, subst}
use Rattle.std.proofs.lemmas.Result.{IfOk-weaker}
use Rattle.clap.specs.Words.{App, new_app, rule_of}
use Rattle.clap.specs.Values.{NarrowsTo}
use Rattle.clap.specs.declared.builder.arg.Arg.{Arg}
use Rattle.clap.specs.declared.builder.value_parser.ValueParser.{ValueParser}
use Rattle.command_words.specs.Commands.{any, number, numbers_from_one}
use Rattle.command_words.proofs.CommandLemmas.{about_app, about_local, arg_added, arg_local}
use Rattle.command_words.proofs.command.ship.Goals as goal

-- the parser of all numbers, narrowed
narrowed : {p r : ValueParser} {least most : ℤ} → p ≡ any → least ≡ pos 1 → most ≡ pos 4611686018427387903 → NarrowsTo p (Some least) (Some most) r → r ≡ numbers_from_one
narrowed {p} {r} {least} {most} is low high narrows =
    let from : NarrowsTo p (Some (pos 1)) (Some most) r = subst (λ l. NarrowsTo p (Some l) (Some most) r) low narrows in
    let both : NarrowsTo p (Some (pos 1)) (Some (pos 4611686018427387903)) r = subst (λ h. NarrowsTo p (Some (pos 1)) (Some h) r) high from in
    subst (λ v. NarrowsTo v (Some (pos 1)) (Some (pos 4611686018427387903)) r) is both

pub returns : goal.returns
returns c =
    let r : c.range.result ≡ numbers_from_one = narrowed c.value_parser.ensures c.new.ensures.start c.new.ensures.end c.range.ensures in
    let n = ap rule_of c.help-from.ensures ∙ c.number.ensures.rule ∙ ap (number (codes "FROM")) r in
    let f = ap (λ (a : Arg). a.global) c.help-from.ensures ∙ c.number.ensures.local in
    let old = about_app _ _ c.about.ensures ∙ c.new-2.ensures.app in
    let local = about_local _ _ c.about.ensures c.new-2.ensures.local in
    IfOk-weaker c.arg.result _ _ (λ m adds. (ap (λ (a : App). a.top) (arg_added (new_app (codes "ship")) _ adds old n f), arg_local adds local f)) c.arg.ensures
