use Rattle.std.proofs.Common.{ℕ, [], ◌∷◌, subst}
use Rattle.disk_model.specs.Disk.{HoldsAt}
use Rattle.disk_model.specs.declared.machine.FileNo.TheVariants.{Objects}
use Rattle.stable_objects.proofs.Upgraded.Admitted.{admitting, at_switch, either_version, now_set}
use Rattle.stable_objects.proofs.slots.Slots.admit_more.Goals as goal

pub returns-in_err-write_through-clause-runs : goal.returns-in_err-write_through-clause-runs
returns-in_err-write_through-clause-runs g c = at_switch _ _ _ _ c.switch_place.ensures c.write_through.ensures.runs

pub returns-in_err-write_through-clause-left : goal.returns-in_err-write_through-clause-left
returns-in_err-write_through-clause-left g c told are =
    let run = at_switch _ _ _ _ c.switch_place.ensures c.write_through.ensures.runs in
    either_version c.args.self.now _ _ are c.requires.second c.requires.fewer (run.reads told).changed

pub returns-in_err-write_through-clause-any_moment : goal.returns-in_err-write_through-clause-any_moment
returns-in_err-write_through-clause-any_moment g c told settled are =
    admitting c.args.self.now _ _ told settled are c.requires.second c.requires.fewer (at_switch _ _ _ _ c.switch_place.ensures c.write_through.ensures.runs)

pub returns-clause-runs : goal.returns-clause-runs
returns-clause-runs g c = at_switch _ _ _ _ c.switch_place.ensures c.write_through.ensures.runs

pub returns-clause-admitted : goal.returns-clause-admitted
returns-clause-admitted g c told are =
    let old = g.M.Machine.disk c.args.machine.now in
    let new = g.M.Machine.disk c.write_through.new.machine in
    let run = at_switch _ _ _ _ c.switch_place.ensures c.write_through.ensures.runs in
    now_set c.args.self.now _ _ are c.requires.second c.requires.fewer (run.reads told).changed
    (subst (λ (at : ℕ). HoldsAt at (1 ∷ []) (old.reads Objects) (new.reads Objects)) c.switch_place.ensures (c.in_ok-write_through.ensures.written told).changed)

pub returns-clause-left : goal.returns-clause-left
returns-clause-left g c told are =
    let run = at_switch _ _ _ _ c.switch_place.ensures c.write_through.ensures.runs in
    either_version c.args.self.now _ _ are c.requires.second c.requires.fewer (run.reads told).changed

pub returns-clause-any_moment : goal.returns-clause-any_moment
returns-clause-any_moment g c told settled are =
    admitting c.args.self.now _ _ told settled are c.requires.second c.requires.fewer (at_switch _ _ _ _ c.switch_place.ensures c.write_through.ensures.runs)
