use Rattle.std.proofs.Common.{◌≡◌, ℕ, ◌+◌, List, ◌++◌, length, ap, subst, arith, length-append}
use Rattle.byteorder.specs.Endian.{little_bytes}
use Rattle.oper_core.specs.LittleEndian.{length-little_bytes}
use Rattle.disk_model.specs.Disk.{HoldsAt}
use Rattle.disk_model.specs.declared.machine.FileNo.TheVariants.{Objects}
use Rattle.stable_objects.proofs.Outside.{filled_by}
use Rattle.stable_objects.proofs.Put.{head_run, fill_run}
use Rattle.stable_objects.proofs.replacing.write_slot.Goals as goal

head_long : (head : List ℕ) (lsn n : ℕ) → head ≡ little_bytes 8 lsn ++ little_bytes 4 n → length head ≡ 12
head_long head lsn n is = omega (arith, ap length is, length-append (little_bytes 8 lsn) (little_bytes 4 n), length-little_bytes 8 lsn, length-little_bytes 4 n)

pub returns-in_err-write_at-clause-runs : goal.returns-in_err-write_at-clause-runs
returns-in_err-write_at-clause-runs g c = head_run _ _ c.args.place c.head_of.result c.args.value.now (head_long _ _ _ c.head_of.ensures) c.write_at.ensures.runs

pub returns-in_err-write_at-2-clause-runs : goal.returns-in_err-write_at-2-clause-runs
returns-in_err-write_at-2-clause-runs g c = fill_run _ _ _ c.args.place c.head_of.result c.args.value.now (head_long _ _ _ c.head_of.ensures) c.write_at.ensures.runs c.write_at-2.ensures.runs

pub returns-clause-runs : goal.returns-clause-runs
returns-clause-runs g c = fill_run _ _ _ c.args.place c.head_of.result c.args.value.now (head_long _ _ _ c.head_of.ensures) c.write_at.ensures.runs c.write_at-2.ensures.runs

pub returns-clause-filled : goal.returns-clause-filled
returns-clause-filled g c told =
    let old = g.M.Machine.disk c.args.machine.now in
    let mid = g.M.Machine.disk c.write_at.new.self in
    let new = g.M.Machine.disk c.write_at-2.new.self in
    let told_mid = c.write_at.ensures.runs.time.files_told.0 told in
    let first = subst (λ (b : List ℕ). HoldsAt (c.args.place + 1) b (old.reads Objects) (mid.reads Objects)) c.head_of.ensures (c.in_ok-write_at.ensures.written told).changed in
    filled_by c.args.place c.args.lsn c.args.value.now (old.reads Objects) (mid.reads Objects) (new.reads Objects)
    (omega (arith, c.ranges.lsn.fits)) (omega (arith, c.requires.short)) first (c.in_ok-write_at-2.ensures.written told_mid).changed
