use Rattle.std.proofs.Common.{◌+◌, length, subst, arith}
use Rattle.formats.specs.Objects.{slot_place}
use Rattle.formats.specs.declared.layout.Layout.{Layout}
use Rattle.disk_model.specs.declared.machine.FileNo.TheVariants.{Objects}
use Rattle.stable_objects.specs.GateLaws.{torn_keeps, torn_run}
use Rattle.stable_objects.specs.Layouts.{IsLayout, new_layout}
use Rattle.stable_objects.specs.Making.{opened}
use Rattle.stable_objects.specs.Replacing.{IsPut}
use Rattle.backup_copy.proofs.Filled.{put_none, put_one}
use Rattle.backup_copy.proofs.copying.put_pair.Goals as goal

pub returns-then-lsn-eq0-clause-put : goal.returns-then-lsn-eq0-clause-put
returns-then-lsn-eq0-clause-put g c told cells pair may is =
    let file = (g.T.Machine.disk c.args.target.now).reads Objects in
    put_none c.args.params c.args.object c.args.lsn c.args.bytes.now cells pair c.requires.below may file (λ filled below none. c.a_file_is_filled.ensures.passed c.args.params c.args.object cells (opened file) filled below none) c.if-lsn-eq0.true is

pub returns-in_err-put_first-clause-runs : goal.returns-in_err-put_first-clause-runs
returns-in_err-put_first-clause-runs g c =
    torn_run (g.T.Machine.disk c.args.target.now) (g.T.Machine.disk c.put_first.new.machine) (slot_place c.new_layout.result c.args.object 0) (13 + length c.args.bytes.now) (omega (arith, c.new_layout.ensures.known.behind)) c.put_first.ensures.runs

pub returns-clause-runs : goal.returns-clause-runs
returns-clause-runs g c =
    torn_run (g.T.Machine.disk c.args.target.now) (g.T.Machine.disk c.put_first.new.machine) (slot_place c.new_layout.result c.args.object 0) (13 + length c.args.bytes.now) (omega (arith, c.new_layout.ensures.known.behind)) c.put_first.ensures.runs

pub returns-clause-put : goal.returns-clause-put
returns-clause-put g c told cells pair may is =
    let old = (g.T.Machine.disk c.args.target.now).reads Objects in
    let new = (g.T.Machine.disk c.put_first.new.machine).reads Objects in
    let known : IsLayout (new_layout c.args.params) = subst IsLayout c.new_layout.ensures.is c.new_layout.ensures.known in
    let put : IsPut (slot_place (new_layout c.args.params) c.args.object 0) c.args.lsn c.args.bytes.now old new =
    subst (λ (l : Layout). IsPut (slot_place l c.args.object 0) c.args.lsn c.args.bytes.now old new) c.new_layout.ensures.is (c.in_ok-put_first.ensures.put told) in
    let keeps = torn_keeps (slot_place c.new_layout.result c.args.object 0) (13 + length c.args.bytes.now) old new (omega (arith, c.new_layout.ensures.known.behind)) (c.put_first.ensures.runs.reads told).changed in
    put_one c.args.params c.args.object c.args.lsn c.args.bytes.now cells pair c.requires.below may old new
    (λ filled below some is_lsn short put. c.a_file_is_filled.ensures.put c.args.params c.args.object cells (opened old) (opened new) filled below some is_lsn short put)
    (λ at byte place lsn value old new. c.a_byte_is_written_later.ensures.put at byte place lsn value old new) (λ file. c.a_byte_is_written_later.ensures.gate file) c.requires.short c.if-lsn-eq0.false known keeps put is
