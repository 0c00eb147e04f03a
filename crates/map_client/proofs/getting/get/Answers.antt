use Rattle.std.proofs.Common.{◌≡◌, ◌<◌, refl, ap, ◌∙◌, [], Ok, Err, option_map, arith}
use Rattle.std.proofs.lemmas.Result.{IfOk-weaker}
use Rattle.formats.specs.Objects.{bounds_of}
use Rattle.formats.specs.declared.params.Params.{Params}
use Rattle.running_store.specs.Taking.Ending.{Done}
use Rattle.store_engine.specs.Lists.{ending_of}
use Rattle.page_map.specs.Walk.{get_at, walk_from}
use Rattle.range_calls.specs.JoinLaws.{nothing_reads}
use Rattle.range_calls.specs.ReadLaws.{adds_passed, makes_err, passed, refused_passed}
use Rattle.range_calls.specs.Store.{state_of}
use Rattle.map_client.specs.Answers.{cause_of, get_told, told}
use Rattle.map_client.proofs.WalkLemmas.{get_bad, get_leaf, get_past, if_err_then}
use Rattle.map_client.proofs.getting.get.Goals as goal

pub returns-then-last-params-clause-reads : goal.returns-then-last-params-clause-reads
returns-then-last-params-clause-reads g c =
    nothing_reads g.S.Store.view (g.M.Machine.disk c.args.machine.now) c.args.store.now c.nothing_is_made.ensures.front (c.nothing_is_made.ensures.calls c.requires.unbroken)

pub returns-then-last-params-clause-refused : goal.returns-then-last-params-clause-refused
returns-then-last-params-clause-refused g c = λ p commands holds done.
    let fits = ap (λ (q : Params). q.objects) (c.params.ensures.value ∙ (g.S.Store.view.numbers p (g.M.Machine.disk c.args.machine.now) c.args.store.now commands holds)) in
    get_past c.args.map.now.lo c.args.map.now.hi (state_of p commands) c.args.key.now (bounds_of p) (omega (arith, c.if-last-params.true, c.last.ensures.value, fits))

pub returns-in_err-leaf-clause-reads : goal.returns-in_err-leaf-clause-reads
returns-in_err-leaf-clause-reads g c =
    makes_err c.from_residual.result c.in_err-leaf.field-0.0 (passed c.from_residual.result c.in_err-leaf.field-0.0 c.from_residual.ensures.1) c.in_err-leaf.ensures.reads

pub returns-in_err-leaf-clause-adds : goal.returns-in_err-leaf-clause-adds
returns-in_err-leaf-clause-adds g c = λ p commands holds.
    adds_passed g.S.Store.view c.from_residual.result c.in_err-leaf.field-0.0 (passed c.from_residual.result c.in_err-leaf.field-0.0 c.from_residual.ensures.1) (c.in_err-leaf.ensures.reads.adds p commands holds [] (λ done. refl))

pub returns-in_err-leaf-clause-refused : goal.returns-in_err-leaf-clause-refused
returns-in_err-leaf-clause-refused g c = λ p commands holds.
    let b = bounds_of p in
    let lo = c.args.map.now.lo in
    let hi = c.args.map.now.hi in
    let s = state_of p commands in
    let fits = ap (λ (q : Params). q.objects) (c.params.ensures.value ∙ (g.S.Store.view.numbers p (g.M.Machine.disk c.args.machine.now) c.args.store.now commands holds)) in
    let within : hi < b.objects = omega (arith, c.if-last-params.false, c.last.ensures.value, fits) in
    refused_passed c.from_residual.result c.in_err-leaf.field-0.0 (λ e. ending_of (cause_of e) ≡ Done → get_told b lo hi s c.args.key.now ≡ Err e)
    (passed c.from_residual.result c.in_err-leaf.field-0.0 c.from_residual.ensures.1)
    (λ done. get_bad lo hi s c.args.key.now b within c.in_err-leaf.field-0.0 (c.in_err-leaf.ensures.bad p commands holds done))

pub returns-clause-reads : goal.returns-clause-reads
returns-clause-reads g c =
    c.reads_go_on.ensures.behind c.args.machine.now c.walk.new.machine c.value_at.new.machine c.args.store.now c.walk.new.store c.value_at.new.store (λ p commands. []) _ c.in_ok-leaf.ensures.reads c.value_at.ensures.reads

pub returns-clause-calls : goal.returns-clause-calls
returns-clause-calls g c =
    (c.reads_go_on.ensures.behind c.args.machine.now c.walk.new.machine c.value_at.new.machine c.args.store.now c.walk.new.store c.value_at.new.store (λ p commands. []) _ c.in_ok-leaf.ensures.reads c.value_at.ensures.reads).calls

pub returns-clause-adds : goal.returns-clause-adds
returns-clause-adds g c = λ p commands holds.
    (c.reads_go_on.ensures.behind c.args.machine.now c.walk.new.machine c.value_at.new.machine c.args.store.now c.walk.new.store c.value_at.new.store (λ p commands. []) _ c.in_ok-leaf.ensures.reads c.value_at.ensures.reads).adds p commands holds [] (λ done. refl)

-- what the leaf has at the key
pub returns-clause-found : goal.returns-clause-found
returns-clause-found g c = λ p commands holds.
    let b = bounds_of p in
    let lo = c.args.map.now.lo in
    let hi = c.args.map.now.hi in
    let s = state_of p commands in
    let key = c.args.key.now in
    let leaf = c.in_ok-leaf.leaf in
    let fits = ap (λ (q : Params). q.objects) (c.params.ensures.value ∙ (g.S.Store.view.numbers p (g.M.Machine.disk c.args.machine.now) c.args.store.now commands holds)) in
    let within : hi < b.objects = omega (arith, c.if-last-params.false, c.last.ensures.value, fits) in
    IfOk-weaker c.value_at.result (λ found. get_at lo s key (walk_from lo hi s key 0 leaf) ≡ Ok (option_map (λ v. v.items) found)) (λ found. get_told b lo hi s key ≡ Ok (option_map (λ v. v.items) found))
    (λ found is. get_leaf lo hi s key b within leaf (c.in_ok-leaf.ensures.leaf p commands holds) (Ok (option_map (λ v. v.items) found)) (ap told is))
    (c.value_at.ensures.found p commands (c.reads_go_on.ensures.holds p c.args.machine.now c.walk.new.machine c.args.store.now c.walk.new.store commands c.in_ok-leaf.ensures.reads holds))

pub returns-clause-refused : goal.returns-clause-refused
returns-clause-refused g c = λ p commands holds.
    let b = bounds_of p in
    let lo = c.args.map.now.lo in
    let hi = c.args.map.now.hi in
    let s = state_of p commands in
    let key = c.args.key.now in
    let leaf = c.in_ok-leaf.leaf in
    let fits = ap (λ (q : Params). q.objects) (c.params.ensures.value ∙ (g.S.Store.view.numbers p (g.M.Machine.disk c.args.machine.now) c.args.store.now commands holds)) in
    let within : hi < b.objects = omega (arith, c.if-last-params.false, c.last.ensures.value, fits) in
    let there : leaf < p.objects = omega (arith, within, c.in_ok-leaf.ensures.within) in
    if_err_then c.value_at.result (λ e. ending_of (cause_of e) ≡ Done → told (get_at lo s key (walk_from lo hi s key 0 leaf)) ≡ Err e) (λ e. ending_of (cause_of e) ≡ Done → get_told b lo hi s key ≡ Err e)
    (λ e is done. get_leaf lo hi s key b within leaf (c.in_ok-leaf.ensures.leaf p commands holds) (Err e) (is done))
    (c.value_at.ensures.bad p commands (c.reads_go_on.ensures.holds p c.args.machine.now c.walk.new.machine c.args.store.now c.walk.new.store commands c.in_ok-leaf.ensures.reads holds) there)
