use Rattle.std.proofs.Common.{◌+◌, ◌++◌, ◌∙◌, inl, List, ℕ, ap, sym, subst, arith}
use Rattle.disk_model.specs.Moments.{passes_twice}
use Rattle.disk_model.specs.declared.machine.FileNo.TheVariants.{Objects}
use Rattle.formats.specs.Objects.{last_slot}
use Rattle.shell_base.specs.Status.{IsOfOpened}
use Rattle.shell_base.specs.Notices.{already_version_two, damaged, smaller}
use Rattle.shell_base.specs.HoldLaws.{rises_within}
use Rattle.store_words.specs.Cut.{IsCutStore}
use Rattle.store_words.proofs.UpgradeLemmas.{cut_store, in_between, judged_whole, says_before, unopened_upgrade, upgrade_images, upgrade_settled, upgrade_steps, upgrade_unopened}
use Rattle.store_words.proofs.upgrading.upgrade.Goals as goal

pub returns-in-Ok-clause-time : goal.returns-in-Ok-clause-time
returns-in-Ok-clause-time g c = passes_twice (g.M.Machine.disk c.args.machine.now) (g.M.Machine.disk c.open_store.new.machine) (g.M.Machine.disk c.upgrade_open.new.machine) (g.met.M.Machine.lawful c.upgrade_open.new.machine) c.open_store.ensures.time c.upgrade_open.ensures.time

pub returns-in-Ok-clause-call : goal.returns-in-Ok-clause-call
returns-in-Ok-clause-call g c =
    let old = (g.M.Machine.disk c.args.machine.now) in
    let mid = (g.M.Machine.disk c.open_store.new.machine) in
    let new = (g.M.Machine.disk c.upgrade_open.new.machine) in
    let attached = c.in-Ok.ensures.ready.1 in
    let lawful = g.met.M.Machine.lawful c.open_store.new.machine in
    let first = c.open_store.ensures.time in
    let second = c.upgrade_open.ensures.time in
    record {
      stands = λ p commands opens.
          let opened = c.in-Ok.ensures.ok p commands opens in
          let files = c.open_store.ensures.opens p commands opens in
          let holds = (opened.shows files.first.0 files.first.1).0 in
          let told_mid = first.files_told.0 opens.told in
          let layout = c.in-Ok.ensures.layout opens.told in
          let leaves = c.upgrade_open.ensures.leaves p commands holds opened.all in
          let images = upgrade_images p c.args.params commands old mid new files first layout leaves.images in
          record {
            images = images;
            from_settled = upgrade_settled p c.args.params commands old new (g.met.M.Machine.lawful c.args.machine.now) opens images;
            stands = λ disk memory. leaves.stands;
            done = λ is. (c.upgrade_open.ensures.done p commands holds opened.all is).0;
            quiet = λ is. c.upgrade_open.ensures.quiet told_mid is ∙ files.quiet;
            said = says_before old.reads mid.reads layout files.quiet leaves.said;
            larger = λ is. (c.upgrade_open.ensures.done p commands holds opened.all is).1;
            smaller = λ is.
                let said = c.upgrade_open.ensures.smaller p commands holds is in
                (said.0, said.1 ∙ ap (λ (l : List ℕ). l ++ smaller p.objects p.cap) files.quiet);
            already = λ is.
                let said = c.upgrade_open.ensures.already told_mid attached is in
                (sym layout.version ∙ said.0, said.1 ∙ ap (λ (l : List ℕ). l ++ already_version_two) files.quiet);
            second = λ is. c.upgrade_open.ensures.second told_mid attached (layout.version ∙ is);
            idle = λ is. c.upgrade_open.ensures.idle p commands holds opened.all is;
            unopened = λ told is. absurd (subst IsOfOpened is c.upgrade_open.ensures.status.1);
            store = λ is. subst IsOfOpened is c.upgrade_open.ensures.status.1;
            steps = upgrade_steps p c.args.params commands old mid new files opened first (λ it. c.upgrade_open.ensures.leaves p commands it opened.all);
          };
      ends = c.upgrade_open.ensures.status.0;
      judged = λ told.
          let told_mid = first.files_told.0 told in
          judged_whole c.upgrade_open.result (c.in-Ok.ensures.read told) c.upgrade_open.ensures.status.1
          (λ is.
          let said = c.upgrade_open.ensures.damaged told_mid attached is in
          record {
            whole = c.in-Ok.ensures.read told;
            cut = in_between IsCutStore old mid new lawful first second (cut_store mid c.in-Ok.engine told_mid attached said.0);
            said = said.1 ∙ (λ i. c.in-Ok.ensures.quiet told i ++ damaged Objects (last_slot ((c.in-Ok.ensures.layout told).layout i) + 9));
          });
      read = λ is. absurd (subst IsOfOpened is c.upgrade_open.ensures.status.1);
    }

pub returns-in-Ok-clause-faults : goal.returns-in-Ok-clause-faults
returns-in-Ok-clause-faults g c = record {
  disk = λ is. rises_within _ _ _ _ c.open_store.ensures.time.disk_faults (omega arith) (c.upgrade_open.ensures.faults.disk is);
  output = λ is. rises_within _ _ _ _ c.open_store.ensures.time.say_faults (omega arith) (c.upgrade_open.ensures.faults.output is);
}

pub returns-in-Err-clause-call : goal.returns-in-Err-clause-call
returns-in-Err-clause-call g c =
    let old = (g.M.Machine.disk c.args.machine.now) in
    let mid = (g.M.Machine.disk c.open_store.new.machine) in
    let unopened = c.in-Err.ensures.unopened in
    record {
      stands = λ p commands opens.
          let files = c.open_store.ensures.opens p commands opens in
          let image = c.standing_files_meet_their_format.ensures.format p _ commands opens.stands in
          upgrade_unopened p c.args.params commands old mid c.in-Err.status (g.met.M.Machine.lawful c.args.machine.now) opens files unopened.ends ((unopened.judged opens.told).store image) (unopened.quiet opens.told image);
      ends = unopened_upgrade c.in-Err.status unopened.ends;
      judged = λ told. inl (unopened.judged told);
      read = unopened.read;
    }

pub returns-in-Err-clause-faults : goal.returns-in-Err-clause-faults
returns-in-Err-clause-faults g c = c.in-Err.ensures.unopened.faults
