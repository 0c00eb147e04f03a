use Rattle.std.proofs.lemmas.Result.{err_from_is_err_and}
use Rattle.disk_model.specs.Moments.{agreed_before, stays_twice}
use Rattle.disk_model.specs.declared.machine.FileNo.TheVariants.{Objects}
use Rattle.stable_objects.proofs.Found.{only_the_disk}
use Rattle.stable_objects.proofs.HeadBytes.{heads_failed, loaded}
use Rattle.stable_objects.proofs.slots.Slots.load.Goals as goal

pub returns-in_err-layout-clause-whole : goal.returns-in_err-layout-clause-whole
returns-in_err-layout-clause-whole g c files agree p whole =
    let e = err_from_is_err_and c.from_residual.result c.from_residual.ensures.1 in
    rw (e.1, e.2) (only_the_disk _ (g.M.Machine.disk c.read_layout.new.machine).agrees files p _ agree whole c.in_err-layout.ensures.cause)

pub returns-in_err-heads-clause-cause : goal.returns-in_err-heads-clause-cause
returns-in_err-heads-clause-cause g c =
    let e = err_from_is_err_and c.from_residual-in_err-heads.result c.from_residual-in_err-heads.ensures.1 in
    rw (e.1, e.2) (heads_failed (g.M.Machine.disk c.args.machine.now) (g.M.Machine.disk c.read_layout.new.machine) (g.M.Machine.disk c.size.new.self) (g.M.Machine.disk c.read_heads.new.machine) c.in_ok-layout.layout c.in_ok-size.size _ c.read_layout.ensures.kept c.size.ensures.kept c.read_heads.ensures.kept c.in_ok-layout.ensures.read c.in_ok-size.ensures.size c.in_err-heads.ensures.cause)

pub returns-in_err-heads-clause-whole : goal.returns-in_err-heads-clause-whole
returns-in_err-heads-clause-whole g c files agree p whole =
    let e = err_from_is_err_and c.from_residual-in_err-heads.result c.from_residual-in_err-heads.ensures.1 in
    rw (e.1, e.2) (only_the_disk _ (g.M.Machine.disk c.read_heads.new.machine).agrees files p _ agree whole
    (heads_failed (g.M.Machine.disk c.args.machine.now) (g.M.Machine.disk c.read_layout.new.machine) (g.M.Machine.disk c.size.new.self) (g.M.Machine.disk c.read_heads.new.machine) c.in_ok-layout.layout c.in_ok-size.size _ c.read_layout.ensures.kept c.size.ensures.kept c.read_heads.ensures.kept c.in_ok-layout.ensures.read c.in_ok-size.ensures.size c.in_err-heads.ensures.cause))

pub returns-clause-kept : goal.returns-clause-kept
returns-clause-kept g c = stays_twice _ _ _ (stays_twice _ _ _ c.read_layout.ensures.kept c.size.ensures.kept) c.read_heads.ensures.kept

pub returns-clause-read : goal.returns-clause-read
returns-clause-read g c files agree =
    let sized = agreed_before c.read_heads.ensures.kept files agree in
    loaded c.in_ok-layout.layout (files Objects) c.in_ok-heads.heads.items c.in_ok-heads.lengths.items c.in_ok-size.size (c.in_ok-layout.ensures.read files (agreed_before c.size.ensures.kept files sized))
    (c.in_ok-size.ensures.size files sized) (c.in_ok-heads.ensures.read files agree)

pub returns-in_err-size-clause-kept : goal.returns-in_err-size-clause-kept
returns-in_err-size-clause-kept g c = stays_twice _ _ _ c.read_layout.ensures.kept c.size.ensures.kept

pub returns-in_err-heads-clause-kept : goal.returns-in_err-heads-clause-kept
returns-in_err-heads-clause-kept g c = stays_twice _ _ _ (stays_twice _ _ _ c.read_layout.ensures.kept c.size.ensures.kept) c.read_heads.ensures.kept
