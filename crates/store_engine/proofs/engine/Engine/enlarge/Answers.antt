use Rattle.std.proofs.Common.{◌∙◌, sym, ap, subst}
use Rattle.std.proofs.lemmas.Bool.{both_ways}
use Rattle.std.proofs.lemmas.Result.{err_from_is_err_and}
use Rattle.formats.specs.declared.params.Params.{Params}
use Rattle.running_store.specs.Laid.{Laid}
use Rattle.stable_objects.specs.Upgrades.Larger.{IsLarger}
use Rattle.stable_objects.specs.SlotsView.{SlotsView}
use Rattle.store_engine.specs.Engine.{EngineView}
use Rattle.store_engine.proofs.Enlarged.{already_two, done, failed, too_small}
use Rattle.store_engine.proofs.engine.Engine.enlarge.Goals as goal

pub returns-then-not-is_first : goal.returns-then-not-is_first
returns-then-not-is_first g c =
    let slots_are = c.slots-slots.ensures ∙ ap (λ (l : Laid). l.slots) c.objects.ensures ∙ ap (λ (e : EngineView). e.parts.volatile.objects.slots) c.self.view_is in
    already_two g.O.Oper.meaning c.a_changed_objects_file_stands.ensures.still c.a_changed_objects_file_stands.ensures.grown c.args.params (g.M.Machine.disk c.args.machine.now) (g.met.M.Machine.lawful c.args.machine.now) c.args.self.now c.engine_stands.ensures
    (λ first. both_ways _ c.if-not-is_first.true (c.is_first.ensures.1 (ap (λ (v : SlotsView). v.first) slots_are ∙ first)))

pub returns-then-not-has_room_for : goal.returns-then-not-has_room_for
returns-then-not-has_room_for g c =
    let slots_are = c.slots-slots.ensures ∙ ap (λ (l : Laid). l.slots) c.objects.ensures ∙ ap (λ (e : EngineView). e.parts.volatile.objects.slots) c.self.view_is in
    let numbers = c.params-stored.ensures ∙ ap (λ (v : SlotsView). v.params) slots_are in
    too_small g.O.Oper.meaning c.a_changed_objects_file_stands.ensures.still c.a_changed_objects_file_stands.ensures.grown c.args.params (g.M.Machine.disk c.args.machine.now) (g.met.M.Machine.lawful c.args.machine.now) c.args.self.now c.engine_stands.ensures _ _ (record {
      first = sym (ap (λ (v : SlotsView). v.first) slots_are) ∙ c.is_first.ensures.0 c.if-not-is_first.false;
      smaller = λ larger. both_ways _ c.if-not-has_room_for.true (c.has_room_for.ensures.1 (subst (λ (r : Params). IsLarger r c.args.params) (sym numbers) larger));
      objects_are = ap (λ (r : Params). r.objects) numbers;
      cap_is = ap (λ (r : Params). r.cap) numbers;
    })

pub returns-in_err-grow : goal.returns-in_err-grow
returns-in_err-grow g c =
    let e = err_from_is_err_and c.from_residual.result c.from_residual.ensures.1 in
    let larger = subst (λ (r : Params). IsLarger r c.args.params) c.params-stored.ensures (c.has_room_for.ensures.0 c.if-not-has_room_for.false) in
    rw (e.1, e.2) (failed g.O.Oper.meaning c.a_changed_objects_file_stands.ensures.still c.a_changed_objects_file_stands.ensures.grown c.args.params (g.M.Machine.disk c.args.machine.now) (g.met.M.Machine.lawful c.args.machine.now) c.args.self.now c.engine_stands.ensures c.slots-slots.result.now (c.slots-slots.ensures ∙ ap (λ (l : Laid). l.slots) c.objects.ensures ∙ ap (λ (e : EngineView). e.parts.volatile.objects.slots) c.self.view_is) (c.is_first.ensures.0 c.if-not-is_first.false) larger
    (g.M.Machine.disk c.grow.new.machine) c.grow.ensures.runs c.grow.ensures.left c.grow.ensures.any_moment c.in_err-grow.field-0.0 c.in_err-grow.ensures.cause)

pub returns : goal.returns
returns g c =
    let larger = subst (λ (r : Params). IsLarger r c.args.params) c.params-stored.ensures (c.has_room_for.ensures.0 c.if-not-has_room_for.false) in
    done g.O.Oper.meaning c.a_changed_objects_file_stands.ensures.still c.a_changed_objects_file_stands.ensures.grown c.args.params (g.M.Machine.disk c.args.machine.now) (g.met.M.Machine.lawful c.args.machine.now) c.args.self.now c.engine_stands.ensures c.slots-slots.result.now (c.slots-slots.ensures ∙ ap (λ (l : Laid). l.slots) c.objects.ensures ∙ ap (λ (e : EngineView). e.parts.volatile.objects.slots) c.self.view_is) (c.is_first.ensures.0 c.if-not-is_first.false) larger
    (g.M.Machine.disk c.grow.new.machine) c.grow.ensures.runs c.grow.ensures.left c.grow.ensures.any_moment c.in_ok-grow.ensures.settled c.in_ok-grow.ensures.grown
