use Rattle.std.proofs.Common.{◌≡◌, ℕ, ◌+◌, List, ◌++◌, length, refl, ap, subst, arith, length-append}
use Rattle.byteorder.specs.Endian.{little_bytes}
use Rattle.oper_core.specs.LittleEndian.{length-little_bytes}
use Rattle.disk_model.specs.Disk.{Runs, Same, In, Torn, HoldsAt}
use Rattle.disk_model.specs.declared.machine.FileNo.TheVariants.{Objects}
use Rattle.stable_objects.specs.Replacing.{IsPut}
use Rattle.stable_objects.proofs.Put.{gate_run, front_run, pair_run, first_put}
use Rattle.stable_objects.proofs.slots.Slots.put_first.Goals as goal

head_long : (head : List ℕ) (lsn n : ℕ) → head ≡ little_bytes 8 lsn ++ little_bytes 4 n → length head ≡ 12
head_long head lsn n is = omega (arith, ap length is, length-append (little_bytes 8 lsn) (little_bytes 4 n), length-little_bytes 8 lsn, length-little_bytes 4 n)

pub returns-in_err-write_at-clause-runs : goal.returns-in_err-write_at-clause-runs
returns-in_err-write_at-clause-runs g c =
    let old = g.M.Machine.disk c.args.machine.now in
    let first = g.M.Machine.disk c.write_at.new.self in
    subst (λ (place : ℕ). Runs (In Objects (Torn place (13 + length c.args.bytes.now))) Same old first) c.place_of-place.ensures
    (gate_run old first first c.place_of-place.result (little_bytes 8 0 ++ little_bytes 4 0) c.args.bytes.now (head_long _ 0 0 refl) c.write_at.ensures.runs)

pub returns-in_err-write_at-2-clause-runs : goal.returns-in_err-write_at-2-clause-runs
returns-in_err-write_at-2-clause-runs g c =
    let old = g.M.Machine.disk c.args.machine.now in
    let mid = g.M.Machine.disk c.write_at-2.new.self in
    subst (λ (place : ℕ). Runs (In Objects (Torn place (13 + length c.args.bytes.now))) Same old mid) c.place_of-place.ensures
    (front_run _ _ _ c.place_of-place.result c.head_of.result c.args.bytes.now (head_long _ _ _ c.head_of.ensures) c.write_at.ensures.runs c.write_at-2.ensures.runs)

pub returns-in_err-write_at-3-clause-runs : goal.returns-in_err-write_at-3-clause-runs
returns-in_err-write_at-3-clause-runs g c =
    let old = g.M.Machine.disk c.args.machine.now in
    let new = g.M.Machine.disk c.write_at-3.new.self in
    subst (λ (place : ℕ). Runs (In Objects (Torn place (13 + length c.args.bytes.now))) Same old new) c.place_of-place.ensures
    (pair_run _ _ _ c.place_of-place.result c.head_of.result c.args.bytes.now (head_long _ _ _ c.head_of.ensures) c.write_at.ensures.runs _ c.write_at-2.ensures.runs c.write_at-3.ensures.runs)

pub returns-clause-runs : goal.returns-clause-runs
returns-clause-runs g c =
    let old = g.M.Machine.disk c.args.machine.now in
    let new = g.M.Machine.disk c.write_at-3.new.self in
    subst (λ (place : ℕ). Runs (In Objects (Torn place (13 + length c.args.bytes.now))) Same old new) c.place_of-place.ensures
    (pair_run _ _ _ c.place_of-place.result c.head_of.result c.args.bytes.now (head_long _ _ _ c.head_of.ensures) c.write_at.ensures.runs _ c.write_at-2.ensures.runs c.write_at-3.ensures.runs)

pub returns-clause-put : goal.returns-clause-put
returns-clause-put g c told =
    let old = g.M.Machine.disk c.args.machine.now in
    let first = g.M.Machine.disk c.write_at.new.self in
    let mid = g.M.Machine.disk c.write_at-2.new.self in
    let new = g.M.Machine.disk c.write_at-3.new.self in
    let told_first = c.write_at.ensures.runs.time.files_told.0 told in
    let told_mid = c.write_at-2.ensures.runs.time.files_told.0 told_first in
    let place = c.place_of-place.result in
    let head = subst (λ (b : List ℕ). HoldsAt (place + 1) b (first.reads Objects) (mid.reads Objects)) c.head_of.ensures (c.in_ok-write_at-2.ensures.written told_first).changed in
    subst (λ (at : ℕ). IsPut at c.args.lsn c.args.bytes.now (old.reads Objects) (new.reads Objects)) c.place_of-place.ensures
    (first_put place c.args.lsn c.args.bytes.now (old.reads Objects) (first.reads Objects) (mid.reads Objects) (new.reads Objects) (omega (arith, c.ranges.lsn.fits)) (omega (arith, c.requires.short, c.requires.layout.in_range.cap))
    (c.in_ok-write_at.ensures.written told).changed head (c.in_ok-write_at-3.ensures.written told_mid).changed)
