use Rattle.std.proofs.Common.{refl, sym, ap, ◌∙◌, ℕ, [], ◌∷◌, List, Option, Result, Ok, Err}
use Rattle.formats.specs.Objects.{bounds_of}
use Rattle.call_plans.specs.Plan.{Plan}
use Rattle.range_calls.specs.ComesLaws.{comes_read, comes_refused, ran}
use Rattle.range_calls.specs.JoinLaws.{memory_is_short, nothing_reads, reads_then}
use Rattle.range_calls.specs.ReadLaws.{passed}
use Rattle.range_calls.specs.Store.{Command, state_of}
use Rattle.map_client.specs.Answers.{MapErr}
use Rattle.name_ranges.specs.Directory.{key_of}
use Rattle.named_objects.specs.Answers.{object_told}
use Rattle.named_objects.specs.Giving.{new_comes, put_comes, put_found}
use Rattle.named_objects.proofs.putting.put.Goals as goal

pub returns-in_err-key : goal.returns-in_err-key
returns-in_err-key g c =
    let e = c.in_err-key.field-0.0 in
    let failed : Result ℕ MapErr = Err e in
    comes_refused g.S.Store.view (put_comes c.args.map.now.lo c.args.map.now.hi c.args.name.now c.args.given c.args.spare) c.from_residual.result e (passed c.from_residual.result e c.from_residual.ensures.1)
    (reads_then g.S.Store.view g.M.Machine.disk c.reads_run_short.ensures c.args.machine.now c.args.machine.now c.args.store.now c.args.store.now failed
    (nothing_reads g.S.Store.view (g.M.Machine.disk c.args.machine.now) c.args.store.now c.nothing_is_made.ensures.front (c.nothing_is_made.ensures.calls c.requires.unbroken)) c.in_err-key.ensures.memory)
    (λ p commands holds done. absurd (memory_is_short e c.in_err-key.ensures.memory done))

pub returns-in_err-object : goal.returns-in_err-object
returns-in_err-object g c =
    let lo = c.args.map.now.lo in
    let hi = c.args.map.now.hi in
    let e = c.in_err-object.field-0.0 in
    let r = c.from_residual-in_err-object.result in
    comes_refused g.S.Store.view (put_comes lo hi c.args.name.now c.args.given c.args.spare) r e (passed r e c.from_residual-in_err-object.ensures.1) c.in_err-object.ensures.reads
    (λ p commands holds done.
    ap (put_found lo hi (key_of c.args.name.now) c.args.given c.args.spare p commands)
    (sym (c.in_err-object.ensures.answer p commands holds done ∙ ap (λ (key : List ℕ). object_told (bounds_of p) lo hi (state_of p commands) key) (c.as_slice.ensures.value ∙ c.in_ok-key.ensures.value))))

-- the object of the name is written
pub returns-in-Some : goal.returns-in-Some
returns-in-Some g c =
    let lo = c.args.map.now.lo in
    let hi = c.args.map.now.hi in
    let op = c.changed.result in
    comes_read g.S.Store.view g.M.Machine.disk c.calls_go_on.ensures c.args.machine.now c.object_at.new.machine c.run.new.machine c.args.store.now c.object_at.new.store c.run.new.store
    (ran (op ∷ [])) (put_comes lo hi c.args.name.now c.args.given c.args.spare) c.run.result c.in_ok-object.ensures.reads
    (λ p commands holds.
    let told = c.in_ok-object.ensures.answer p commands holds refl ∙ ap (λ (key : List ℕ). object_told (bounds_of p) lo hi (state_of p commands) key) (c.as_slice.ensures.value ∙ c.in_ok-key.ensures.value) in
    ap (λ (o : Command). (let q : Plan Command MapErr = ran (o ∷ []) p commands in q)) c.changed.ensures
    ∙ ap (put_found lo hi (key_of c.args.name.now) c.args.given c.args.spare p commands) (ap (λ (o : Option ℕ). (let r : Result (Option ℕ) MapErr = Ok o in r)) (sym c.in-Some.is) ∙ told))
    c.run.ensures

-- a spare one is written, and the key is set
pub returns-in-None : goal.returns-in-None
returns-in-None g c =
    let lo = c.args.map.now.lo in
    let hi = c.args.map.now.hi in
    comes_read g.S.Store.view g.M.Machine.disk c.calls_go_on.ensures c.args.machine.now c.object_at.new.machine c.put_new.new.machine c.args.store.now c.object_at.new.store c.put_new.new.store
    (new_comes lo hi c.in_ok-key.key.items c.args.given c.args.spare) (put_comes lo hi c.args.name.now c.args.given c.args.spare) c.put_new.result c.in_ok-object.ensures.reads
    (λ p commands holds.
    let told = c.in_ok-object.ensures.answer p commands holds refl ∙ ap (λ (key : List ℕ). object_told (bounds_of p) lo hi (state_of p commands) key) (c.as_slice.ensures.value ∙ c.in_ok-key.ensures.value) in
    ap (λ (key : List ℕ). new_comes lo hi key c.args.given c.args.spare p commands) c.in_ok-key.ensures.value
    ∙ ap (put_found lo hi (key_of c.args.name.now) c.args.given c.args.spare p commands) (ap (λ (o : Option ℕ). (let r : Result (Option ℕ) MapErr = Ok o in r)) (sym c.in-None.is) ∙ told))
    c.put_new.ensures
