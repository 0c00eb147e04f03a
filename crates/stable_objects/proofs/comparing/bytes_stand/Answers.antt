use Rattle.std.proofs.Common.{◌≡◌, ◌≤◌, ◌+◌, ◌-◌, ℕ, length, take, ◌∙◌, ap, refl, subst, arith}
use Rattle.std.proofs.lemmas.List.{take_all}
use Rattle.disk_model.specs.Disk.{Files, read_of}
use Rattle.disk_model.specs.Moments.{stays_here, stays_then}
use Rattle.disk_model.specs.declared.machine.FileNo.TheVariants.{Objects}
use Rattle.stable_objects.proofs.Compared.{stands_more}
use Rattle.stable_objects.proofs.comparing.bytes_stand.Goals as goal

pub loop-from-init : goal.loop-from-init
loop-from-init g c = record { kept = stays_here (g.M.Machine.disk c.args.machine.now) (g.met.M.Machine.lawful c.args.machine.now); within = omega arith; stand = λ told. refl }

pub loop-from-preserved : goal.loop-from-preserved
loop-from-preserved g c =
    let inv = c.loop-from.invariant in
    let first = g.M.Machine.disk c.args.machine.now in
    let bytes = c.args.bytes.now in
    let from = c.loop-from.from in
    let count = c.min-count.result in
    let within : from + count ≤ length bytes = omega (arith, c.min-count.ensures, inv.within, c.loop-from-test.true) in
    record {
      kept = stays_then inv.kept c.read_is.ensures.kept;
      within = within;
      stand = λ told.
          stands_more (first.reads Objects) ((g.M.Machine.disk c.loop-from.machine).reads Objects) bytes c.args.place from count (from + count - from) (omega arith) (ap (λ (f : Files). f Objects) (inv.kept.reads told)) within (inv.stand told)
          (c.in_ok-read_is.ensures.stands (inv.kept.time.files_told.0 told) c.if-not-branch.false);
    }

pub returns-in_err-read_is-clause-kept : goal.returns-in_err-read_is-clause-kept
returns-in_err-read_is-clause-kept g c = stays_then c.loop-from.invariant.kept c.read_is.ensures.kept

pub returns-then-not-branch-clause-kept : goal.returns-then-not-branch-clause-kept
returns-then-not-branch-clause-kept g c = stays_then c.loop-from.invariant.kept c.read_is.ensures.kept

pub returns-in_err-read_is-clause-cause : goal.returns-in_err-read_is-clause-cause
returns-in_err-read_is-clause-cause g c is_err below =
    let risen = c.in_err-read_is.ensures.cause refl below in omega (arith, risen, c.loop-from.invariant.kept.time.disk_faults)

pub returns-clause-stands : goal.returns-clause-stands
returns-clause-stands g c told same =
    let inv = c.loop-from.invariant in
    let bytes = c.args.bytes.now in
    let all : c.loop-from.from ≡ length bytes = omega (arith, inv.within, c.loop-from-test.false) in
    let file = (g.M.Machine.disk c.args.machine.now).reads Objects in
    subst (λ (n : ℕ). read_of file c.args.place n ≡ take n bytes) all (inv.stand told) ∙ take_all (length bytes) bytes (omega arith)
