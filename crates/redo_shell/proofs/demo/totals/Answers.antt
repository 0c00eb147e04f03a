use Rattle.std.proofs.Common.{◌∙◌, ◌%◌, ◌^◌, List, [], ℕ, length, ap, refl, subst}
use Rattle.std.specs.Prelude.{count_by}
use Rattle.disk_model.specs.Growing.{disk_of}
use Rattle.script_lines.specs.DemoScript.{script_of}
use Rattle.script_lines.specs.Grammar.{lines_of}
use Rattle.script_run.specs.Groups.{account_of}
use Rattle.redo_shell.specs.Demo.{demo_params, IsPlayed, is_newline, refusal_count, weighed}
use Rattle.redo_shell.proofs.DemoLemmas.{lines_are, refusals_are}
use Rattle.redo_shell.proofs.demo.totals.Goals as goal

pub returns : goal.returns
returns c =
    let it = subst (λ (l : List ℕ). IsPlayed (lines_of l) (disk_of c.in_ok-machine.machine).said c.in_ok-machine.accepted) c.in_ok-script.ensures c.in_ok-machine.ensures in
    let said = c.said-said.ensures ∙ it.said_is in
    record {
      seed_is = refl;
      steps_is = refl;
      replies = it.replies;
      added = it.added;
      answered = it.answered;
      lines = c.line_count.ensures ∙ ap (λ (l : List ℕ). count_by is_newline l) said ∙ lines_are it.replies;
      bytes = ap (λ (l : List ℕ). length l) said;
      accepted = it.accepted_is;
      refused = c.refusal_count.ensures ∙ ap (λ (l : List ℕ). refusal_count l) said ∙ refusals_are demo_params (account_of []) (lines_of (script_of c.args.seed c.args.steps)) it.replies it.answered.waits it.answered.account it.answered.answers;
      sum = c.checksum.ensures ∙ ap (λ (l : List ℕ). weighed l % 2 ^ 64) said;
    }
