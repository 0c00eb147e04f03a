use Rattle.std.proofs.Common.{◌≡◌, ◌∙◌, List, ℕ, [], ap, arith, refl, subst, sym, ⊎_elim}
use Rattle.std.specs.Prelude.{Err}
use Rattle.oper_core.specs.Meaning.{AreWithin, IsSmall}
use Rattle.oper_core.specs.declared.bounds.Bounds.{Bounds}
use Rattle.formats.specs.Objects.{bounds_of}
use Rattle.formats.specs.Records.{records_of}
use Rattle.redo_pass.specs.Endings.{as_error}
use Rattle.store_engine.specs.Shipping.{base_of}
use Rattle.store_engine.specs.Store.{meaning_in}
use Rattle.store_engine.specs.declared.ship_err.ShipErr.TheVariants.{DiskFault, Memory}
use Rattle.standby_node.specs.Same.{AreCodesIn, with_all}
use Rattle.standby_node.specs.Standby.{AreFramesOf}
use Rattle.standby_node.proofs.Loaded.{loadable, read_as, read_attached, read_twice, same_err, same_other}
use Rattle.standby_node.proofs.standby.Standby.mirror.Goals as goal

pub returns-in_err-base-clause-read : goal.returns-in_err-base-clause-read
returns-in_err-base-clause-read g c =
    let e = c.in_err-base.field-0.0 in
    read_as g.O.Oper.meaning _ _ _ _ _ _ (same_err c.log_base.result c.from_residual.result e DiskFault c.in_err-base.was (as_error (λ r. r ≡ Err e) c.from_residual.result e c.from_residual.ensures.1 refl)) c.log_base.ensures.read

pub returns-in_err-base-clause-attached : goal.returns-in_err-base-clause-attached
returns-in_err-base-clause-attached g c = read_attached g.O.Oper.meaning _ _ _ _ _ c.log_base.ensures.read

pub returns-in_err-log-clause-read : goal.returns-in_err-log-clause-read
returns-in_err-log-clause-read g c =
    let e = c.in_err-log.field-0.0 in
    read_twice g.O.Oper.meaning _ _ _ _ _ _ _ _ (λ failed. cc (c.in_ok-base.was, failed)) c.log_base.ensures.read
    (read_as g.O.Oper.meaning _ _ _ _ _ _ (same_err c.read_log.result c.from_residual-in_err-log.result e DiskFault c.in_err-log.was (as_error (λ r. r ≡ Err e) c.from_residual-in_err-log.result e c.from_residual-in_err-log.ensures.1 refl)) c.read_log.ensures.read)

pub returns-in_err-log-clause-attached : goal.returns-in_err-log-clause-attached
returns-in_err-log-clause-attached g c attached = read_attached g.O.Oper.meaning _ _ _ _ _ c.read_log.ensures.read (read_attached g.O.Oper.meaning _ _ _ _ _ c.log_base.ensures.read attached)

pub returns-in_err-log-clause-undamaged : goal.returns-in_err-log-clause-undamaged
returns-in_err-log-clause-undamaged g c told attached file place failed =
    let e = c.in_err-log.field-0.0 in
    let is = as_error (λ r. r ≡ Err e) c.from_residual-in_err-log.result e c.from_residual-in_err-log.ensures.1 refl in
    c.read_log.ensures.undamaged (c.log_base.ensures.read.kept.time.files_told.0 told) (read_attached g.O.Oper.meaning _ _ _ _ _ c.log_base.ensures.read attached) file place ((same_err c.read_log.result c.from_residual-in_err-log.result e _ c.in_err-log.was is).1 failed)

pub returns-in_err-load-clause-read : goal.returns-in_err-load-clause-read
returns-in_err-load-clause-read g c =
    let is = as_error (λ r. r ≡ Err Memory) c.from_residual-in_err-load.result Memory c.from_residual-in_err-load.ensures.1 refl in
    read_twice g.O.Oper.meaning _ _ _ _ _ _ _ _ (λ failed. cc (c.in_ok-base.was, failed)) c.log_base.ensures.read
    (read_as g.O.Oper.meaning _ _ _ _ _ _ (same_other c.read_log.result c.from_residual-in_err-load.result _ Memory DiskFault c.in_ok-log.was is (λ same. cc same)) c.read_log.ensures.read)

pub returns-in_err-load-clause-attached : goal.returns-in_err-load-clause-attached
returns-in_err-load-clause-attached g c attached = read_attached g.O.Oper.meaning _ _ _ _ _ c.read_log.ensures.read (read_attached g.O.Oper.meaning _ _ _ _ _ c.log_base.ensures.read attached)

pub returns-clause-read : goal.returns-clause-read
returns-clause-read g c =
    read_twice g.O.Oper.meaning _ _ _ _ _ _ _ _ (λ failed. cc (c.in_ok-base.was, failed)) c.log_base.ensures.read
    (read_as g.O.Oper.meaning _ _ _ _ _ _ (λ failed. cc (c.in_ok-log.was, failed), λ failed. cc failed) c.read_log.ensures.read)

pub returns-clause-attached : goal.returns-clause-attached
returns-clause-attached g c attached = read_attached g.O.Oper.meaning _ _ _ _ _ c.read_log.ensures.read (read_attached g.O.Oper.meaning _ _ _ _ _ c.log_base.ensures.read attached)

pub returns-clause-mirrors : goal.returns-clause-mirrors
returns-clause-mirrors g c p w shows =
    let meaning = g.O.Oper.meaning in
    let m = meaning_in meaning p in
    let mid = g.M.Machine.disk c.log_base.new.machine in
    let here = c.log_base.new.self.engine in
    let there = ⊎_elim (λ failed. absurd (cc (c.in_ok-base.was, failed))) (λ s. s) (c.log_base.ensures.read.shows p w shows) in
    let b = bounds_of p in
    let bounds : c.bounds-bounds.result ≡ b = c.bounds-bounds.ensures.value ∙ ap bounds_of shows.shows.store.params in
    let small = subst IsSmall bounds c.bounds-bounds.ensures.small in
    let within : AreWithin b b = record { objects = omega arith; cap = omega arith; more = λ is. is } in
    let base = c.in_ok-base.base in
    let base_is = c.in_ok-base.ensures.base ∙ sym (ap base_of c.log_base.ensures.read.engine) in
    let laws = c.what_is_shipped_is_followed.ensures in
    let it = loadable meaning p mid here w base c.in_ok-log.log.items there base_is (c.in_ok-log.ensures.frames there.shows.told) (λ low from groups are. laws.frames b b low from groups small small within are) (λ low from groups late are. laws.placed b low from groups late are)
    (λ low from groups late are. laws.members b low from groups late are) in
    let fit = subst (λ (n : Bounds). AreFramesOf (meaning n) it.payloads it.groups) (sym bounds) it.frames_are in
    let codes = c.in_ok-load.ensures.codes it.payloads it.groups it.whole fit (c.deref.ensures.value ∙ it.is) ∙ ap (λ (n : Bounds). with_all base (meaning n) [] (records_of it.groups)) bounds in
    record {
      bounds_are = c.in_ok-load.ensures.numbers.0 ∙ bounds;
      base_is = c.in_ok-load.ensures.numbers.1 ∙ it.base_is;
      codes_are = subst (λ (l : List (List ℕ)). AreCodesIn m w l) (sym codes) it.codes;
    }
