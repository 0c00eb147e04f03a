-- Files that stand for commands meet their format, and stand for fewer commands than there are LSNs.
use Rattle.std.proofs.Common.{ap, ℕ, ◌<◌, List, length, arith}
use Rattle.std.specs.Prelude.{◌^◌}
use Rattle.disk_model.specs.Disk.{Files}
use Rattle.disk_model.specs.declared.machine.FileNo.TheVariants.{Objects}
use Rattle.oper_core.specs.Meaning.{Meaning}
use Rattle.oper_core.specs.declared.bounds.Bounds.{Bounds}
use Rattle.formats.specs.Bytes.{IsOpenAt}
use Rattle.formats.specs.Objects.{place_in, lsn_at}
use Rattle.formats.specs.Records.{records_of}
use Rattle.formats.specs.declared.params.Params.{Params}
use Rattle.log_records.specs.RecordLaws.{lsn_end}
use Rattle.standing.specs.Shown.{next_held, next-stands}
use Rattle.store_engine.specs.Store.{IsWellFormed, Stands, meaning_in}
use Rattle.store_engine.specs.Counts.{commands-members_of}

module _ {O : Type 0} (meaning : Bounds → Meaning O) (p : Params) (files : Files) (commands : List O) (stands : Stands meaning p files commands) where
  pub well_formed : ((x s : ℕ) → x < p.objects → s < 2 → IsOpenAt (place_in (files Objects) x s) (files Objects) → lsn_at (place_in (files Objects) x s) (files Objects) < next_held (meaning_in meaning p) p files stands.parts stands.holds)
      → IsWellFormed meaning files
  well_formed late = record {
    params = p;
    active = stands.holds.active;
    header = stands.holds.header;
    groups = stands.holds.groups;
    objects = stands.holds.objects;
    log = stands.holds.log;
    none_late = late;
  }

  pub few_stand : length commands < 2 ^ 62
  few_stand =
      let m = meaning_in meaning p in
      let held = stands.holds in
      let base = held.header.base in
      let last = lsn_end m base base (records_of held.groups) held.log.log.log.in_range.base_high held.log.log.placed in
      omega (
        arith,
        last,
        next-stands m p files stands.parts held stands.history stands.installed stands.stable,
        commands-members_of stands.history,
        ap (λ (l : List O). length l) stands.commands_are,
      )
