use Rattle.std.proofs.Common.{◌≡◌, ◌++◌, ◌∙◌, ⊎_elim, inl, List, ℕ, ap, refl, sym, subst}
use Rattle.disk_model.specs.Disk.{Files, IsSettled}
use Rattle.disk_model.specs.declared.machine.FileNo.TheVariants.{Objects}
use Rattle.formats.specs.Objects.{BeginsStore}
use Rattle.restart.specs.Starts.{from_settled}
use Rattle.shell_base.specs.Notices.{already_a_store}
use Rattle.shell_base.specs.Store.{IsNew}
use Rattle.shell_base.specs.KeepLaws.{keeps_once, keeps_behind, settled_each}
use Rattle.shell_base.specs.HoldLaws.{still_settled}
use Rattle.store_words.proofs.InitLemmas.{in_made, not_failed, not_made}
use Rattle.store_words.proofs.making.init.Goals as goal

pub returns-in-Ok-clause-making : goal.returns-in-Ok-clause-making
returns-in-Ok-clause-making g c =
    let old = g.M.Machine.disk c.args.machine.now in
    let new = g.M.Machine.disk c.init.new.machine in
    record {
      ends = tt;
      done = λ told is. c.in-Ok.ensures.ok told;
      quiet = λ told ends. c.init.ensures.quiet told;
      images = c.init.ensures.images;
      from_settled = λ telling settled none.
          from_settled old new (λ files said. IsNew c.args.params files × (said ≡ old.said)) (g.met.M.Machine.lawful c.args.machine.now) telling settled (inl none, refl) (c.init.ensures.images telling none);
      settled = λ told fault. c.in-Ok.ensures.settled;
      keeps = λ told begins. absurd (c.in-Ok.ensures.fresh told begins);
      fresh = λ told is. c.in-Ok.ensures.fresh told;
      already = λ told is. cc is;
      read = λ is. cc is;
    }

pub returns-in-Err-DiskFault-clause-making : goal.returns-in-Err-DiskFault-clause-making
returns-in-Err-DiskFault-clause-making g c =
    let old = g.M.Machine.disk c.args.machine.now in
    let new = g.M.Machine.disk c.init.new.machine in
    record {
      ends = tt;
      done = λ told is. cc is;
      quiet = λ told ends. c.init.ensures.quiet told;
      images = c.init.ensures.images;
      from_settled = λ telling settled none.
          from_settled old new (λ files said. IsNew c.args.params files × (said ≡ old.said)) (g.met.M.Machine.lawful c.args.machine.now) telling settled (inl none, refl) (c.init.ensures.images telling none);
      settled = λ told fault. absurd (fault refl);
      keeps = λ told begins. keeps_once old new (c.init.ensures.kept told begins);
      fresh = λ told is. cc is;
      already = λ told is. cc is;
      read = λ is. cc is;
    }

pub returns-in-Err-AlreadyStore-clause-making : goal.returns-in-Err-AlreadyStore-clause-making
returns-in-Err-AlreadyStore-clause-making g c =
    let old = g.M.Machine.disk c.args.machine.now in
    let mid = g.M.Machine.disk c.init.new.machine in
    let new = g.M.Machine.disk c.end_with.new.machine in
    let begins : old.tells_files → BeginsStore (old.reads Objects) = (c.in-Err-AlreadyStore.ensures.already (cc (c.in-Err-AlreadyStore.field-0-is))).1 in
    let settled : old.tells_files → IsSettled new = λ told. still_settled c.end_with.ensures.runs (c.init.ensures.time.files_told.0 told) (c.in-Err-AlreadyStore.ensures.already (cc (c.in-Err-AlreadyStore.field-0-is))).0 in
    record {
      ends = in_made c.end_with.result c.end_with.ensures.status;
      done = λ told is. absurd (not_made c.end_with.result c.end_with.ensures.status is);
      quiet = λ told ends. absurd (⊎_elim (λ is. not_made c.end_with.result c.end_with.ensures.status is) (λ is. not_failed c.end_with.result c.end_with.ensures.status is) ends);
      images = λ telling none. absurd (none (begins ((g.met.M.Machine.lawful c.args.machine.now).telling telling)));
      from_settled = λ telling settled none. absurd (none (begins ((g.met.M.Machine.lawful c.args.machine.now).telling telling)));
      settled = λ told fault. settled told;
      keeps = λ told there. keeps_behind old mid new (c.init.ensures.kept told there) (keeps_once mid new c.end_with.ensures.runs);
      fresh = λ told is. absurd (not_made c.end_with.result c.end_with.ensures.status is);
      already = λ told is.
          let kept = c.init.ensures.kept told (begins told) in
          let told_now = c.init.ensures.time.files_told.0 told in
          let reads : new.reads ≡ old.reads = c.end_with.ensures.runs.reads told_now ∙ kept.reads told in
          record {
            begins = begins told;
            reads = reads;
            said = c.end_with.ensures.all told_now (λ e. cc (is, e)) ∙ ap (λ (l : List ℕ). l ++ already_a_store) (c.init.ensures.quiet told);
            each = settled_each new (λ (files : Files). BeginsStore (files Objects)) (settled told) (subst (λ (files : Files). BeginsStore (files Objects)) (sym reads) (begins told));
          };
      read = λ is files agrees.
          let from = c.end_with.ensures.runs.agreed files agrees in
          subst (λ (f : Files). BeginsStore (f Objects)) (sym from.2) ((c.in-Err-AlreadyStore.ensures.already (cc (c.in-Err-AlreadyStore.field-0-is))).2 from.0 from.1);
    }
