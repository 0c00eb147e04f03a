use Rattle.std.proofs.Common.{◌≡◌, subst, arith, Option}
use Rattle.std.specs.Prelude.{IfSome}
use Rattle.disk_model.specs.declared.machine.FileNo.TheVariants.{LogA, LogB}
use Rattle.log_blocks.specs.Choosing.{SeenIn}
use Rattle.formats.specs.FirstFault.{both_closed, same_epoch}
use Rattle.log_blocks.specs.Reading.{header_of}
use Rattle.log_blocks.specs.declared.seen.Seen.{Seen}
use Rattle.log_blocks.proofs.Choosing.{chosen_first}
use Rattle.log_blocks.proofs.loading.choose.Goals as goal

pub returns-then-first-second-clause-cause : goal.returns-then-first-second-clause-cause
returns-then-first-second-clause-cause c files a b =
    let first = subst (λ (o : Option Seen). SeenIn (files LogA) o) c.in-Some.is a in
    let second = subst (λ (o : Option Seen). SeenIn (files LogB) o) c.in-Some-b-2.is b in
    same_epoch (header_of c.in-Some.first.header) (header_of c.in-Some-b-2.second.header) first.0 second.0 c.if-first-second.true

pub returns-then-first-second-2-clause-chosen : goal.returns-then-first-second-2-clause-chosen
returns-then-first-second-2-clause-chosen c files a_file b_file a b =
    let first = subst (λ (o : Option Seen). SeenIn (files LogA) o) c.in-Some.is a in
    let second = subst (λ (o : Option Seen). SeenIn (files LogB) o) c.in-Some-b-2.is b in
    chosen_first files c.in-Some.first c.in-Some-b-2.second (subst (λ (o : Option Seen). IfSome o (λ seen. seen.file ≡ LogA)) c.in-Some.is a_file) first second (omega (arith, c.if-first-second-2.true))

pub returns-in-None-b-clause-cause : goal.returns-in-None-b-clause-cause
returns-in-None-b-clause-cause c files a b =
    both_closed (subst (λ (o : Option Seen). SeenIn (files LogA) o) c.in-None.is a) (subst (λ (o : Option Seen). SeenIn (files LogB) o) c.in-None-b.is b)
