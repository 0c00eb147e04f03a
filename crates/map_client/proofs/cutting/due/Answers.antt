use Rattle.std.proofs.Common.{◌≡◌, ◌≤◌, ◌<◌, refl, sym, ap, ◌∙◌, subst, ℕ, ◌+◌, None, Ok, Err, [], arith}
use Rattle.formats.specs.Objects.{bounds_of}
use Rattle.formats.specs.declared.params.Params.{Params}
use Rattle.running_store.specs.Taking.Ending.{Done}
use Rattle.store_engine.specs.Lists.{ending_of}
use Rattle.page_ops.specs.Reading.{level_in}
use Rattle.page_map.specs.Cutting.{GoesOn, due_on, due_seen}
use Rattle.page_map.specs.Map.{bytes_at}
use Rattle.page_map.specs.Sets.{due_in, room_of}
use Rattle.range_calls.specs.ReadLaws.{makes_err, nothing_passed, passed, refused_passed}
use Rattle.range_calls.specs.Store.{state_of}
use Rattle.map_client.specs.Answers.{MapErr, cause_of, told}
use Rattle.map_client.specs.Reading.{level_of}
use Rattle.map_client.specs.Turning.{GoesDown}
use Rattle.map_client.proofs.SetLemmas.{level_is, root_is_bad}
use Rattle.map_client.proofs.WalkLemmas.{none_opens, was_bad, was_read}
use Rattle.map_client.proofs.cutting.due.Goals as goal

pub returns-in_err-levels-clause-found : goal.returns-in_err-levels-clause-found
returns-in_err-levels-clause-found g c = λ p commands holds room.
    let pair = c.args.pair.now in
    let e = c.in_err-levels.field-0.0 in
    nothing_passed c.from_residual.result e (λ due. due_in (bounds_of p) pair.map.now.lo pair.map.now.hi pair.key pair.value (state_of p commands) ≡ Ok (due_seen due)) (passed c.from_residual.result e c.from_residual.ensures.1)

pub returns-in_err-levels-clause-bad : goal.returns-in_err-levels-clause-bad
returns-in_err-levels-clause-bad g c = λ p commands holds room.
    let pair = c.args.pair.now in
    let lo = pair.map.now.lo in
    let hi = pair.map.now.hi in
    let s = state_of p commands in
    let e = c.in_err-levels.field-0.0 in
    let fits = ap (λ (q : Params). q.objects) (g.S.Store.view.numbers p (g.M.Machine.disk c.args.machine.now) c.args.store.now commands holds) in
    let below : lo < p.objects = omega (arith, c.last-last.ensures.value, c.last-last.ensures.order, c.requires.there, fits) in
    refused_passed c.from_residual.result e (λ x. ending_of (cause_of x) ≡ Done → told (due_in (bounds_of p) lo hi pair.key pair.value s) ≡ Err x) (passed c.from_residual.result e c.from_residual.ensures.1)
    (λ done.
    let bad = was_bad lo (level_of (bytes_at lo s lo)) e (c.in_err-levels.ensures.answer p commands holds below done) in
    ap told (root_is_bad (bounds_of p) lo hi pair.key pair.value s (none_opens (bytes_at lo s lo) bad.0)) ∙ ap (λ (x : MapErr). Err x) (sym bad.1))

pub loop-step-init : goal.loop-step-init
loop-step-init g c =
    let pair = c.args.pair.now in
    let lo = pair.map.now.lo in
    let hi = pair.map.now.hi in
    record {
      reads = c.in_ok-levels.ensures.reads;
      within = (let low : c.new-descent.result.object ≤ hi = omega (arith, c.new-descent.ensures.object, c.root-root.ensures, c.last-last.ensures.value, c.last-last.ensures.order) in low);
      level = (let same : c.new-descent.result.level + 0 ≡ c.in_ok-levels.levels = omega (arith, c.new-descent.ensures.level) in same);
      due = λ p commands holds room.
          let s = state_of p commands in
          let fits = ap (λ (q : Params). q.objects) (g.S.Store.view.numbers p (g.M.Machine.disk c.args.machine.now) c.args.store.now commands holds) in
          let below : lo < p.objects = omega (arith, c.last-last.ensures.value, c.last-last.ensures.order, c.requires.there, fits) in
          let level = level_is (bytes_at lo s lo) c.in_ok-levels.levels (was_read lo (level_of (bytes_at lo s lo)) c.in_ok-levels.levels (c.in_ok-levels.ensures.answer p commands holds below refl)) in
          let begins = subst (λ (x : ℕ). due_on (room_of p.cap) x hi s pair.key pair.value c.new-descent.result ≡ due_in (bounds_of p) x hi pair.key pair.value s) c.root-root.ensures
          (c.new-descent.ensures.due (bounds_of p) hi s pair.key pair.value (level ∙ ap (λ (x : ℕ). level_in (bytes_at x s x)) (sym c.root-root.ensures))) in
          sym begins ∙ ap (λ (n : ℕ). due_on n lo hi s pair.key pair.value c.new-descent.result) (sym room);
    }

pub look-requires-clause-there : goal.look-requires-clause-there
look-requires-clause-there g c =
    let same = ap (λ (q : Params). q.objects) (c.loop-step.invariant.reads.calls.params) in
    (let below : c.loop-step.descent.object < (g.S.Store.view.params c.loop-step.store).objects = omega (arith, c.loop-step.invariant.within, c.requires.there, same) in below)

pub returns-in_err-further-clause-reads : goal.returns-in_err-further-clause-reads
returns-in_err-further-clause-reads g c =
    let e = c.in_err-further.field-0.0 in
    let r = c.from_residual-in_err-further.result in
    makes_err r e (passed r e c.from_residual-in_err-further.ensures.1)
    (c.reads_go_on.ensures.behind c.args.machine.now c.loop-step.machine c.look.new.machine c.args.store.now c.loop-step.store c.look.new.store (λ p commands. []) (cause_of e) c.loop-step.invariant.reads c.in_err-further.ensures.reads)

pub returns-in_err-further-clause-found : goal.returns-in_err-further-clause-found
returns-in_err-further-clause-found g c = λ p commands holds room.
    let pair = c.args.pair.now in
    let e = c.in_err-further.field-0.0 in
    let r = c.from_residual-in_err-further.result in
    nothing_passed r e (λ due. due_in (bounds_of p) pair.map.now.lo pair.map.now.hi pair.key pair.value (state_of p commands) ≡ Ok (due_seen due)) (passed r e c.from_residual-in_err-further.ensures.1)

pub returns-in_err-further-clause-bad : goal.returns-in_err-further-clause-bad
returns-in_err-further-clause-bad g c = λ p commands holds room.
    let pair = c.args.pair.now in
    let e = c.in_err-further.field-0.0 in
    let r = c.from_residual-in_err-further.result in
    refused_passed r e (λ x. ending_of (cause_of x) ≡ Done → told (due_in (bounds_of p) pair.map.now.lo pair.map.now.hi pair.key pair.value (state_of p commands)) ≡ Err x) (passed r e c.from_residual-in_err-further.ensures.1)
    (λ done. absurd (c.in_err-further.ensures.failed done))

pub loop-step-preserved : goal.loop-step-preserved
loop-step-preserved g c =
    let pair = c.args.pair.now in
    let lo = pair.map.now.lo in
    let hi = pair.map.now.hi in
    let inv = c.loop-step.invariant in
    let d = c.loop-step.descent in
    let down = subst (GoesDown hi d) c.in-On.is c.in_ok-further.ensures.down in
    record {
      reads = c.reads_go_on.ensures.behind c.args.machine.now c.loop-step.machine c.look.new.machine c.args.store.now c.loop-step.store c.look.new.store (λ p commands. []) None inv.reads c.in_ok-further.ensures.reads;
      within = down.1;
      level = (let same : c.in-On.next.level + (c.loop-step._step + 1) ≡ c.in_ok-levels.levels = omega (arith, inv.level, down.0) in same);
      due = λ p commands holds room.
          let s = state_of p commands in
          inv.due p commands holds room ∙ (subst (GoesOn pair.room lo hi s pair.key pair.value d) c.in-On.is (c.in_ok-further.ensures.found p commands (c.reads_go_on.ensures.holds p c.args.machine.now c.loop-step.machine c.args.store.now c.loop-step.store commands inv.reads holds))).0;
    }

pub returns-in-Found-clause-reads : goal.returns-in-Found-clause-reads
returns-in-Found-clause-reads g c =
    c.reads_go_on.ensures.behind c.args.machine.now c.loop-step.machine c.look.new.machine c.args.store.now c.loop-step.store c.look.new.store (λ p commands. []) None c.loop-step.invariant.reads c.in_ok-further.ensures.reads

pub returns-in-Found-clause-found : goal.returns-in-Found-clause-found
returns-in-Found-clause-found g c = λ p commands holds room.
    let pair = c.args.pair.now in
    let inv = c.loop-step.invariant in
    inv.due p commands holds room ∙ subst (GoesOn pair.room pair.map.now.lo pair.map.now.hi (state_of p commands) pair.key pair.value c.loop-step.descent) c.in-Found.is (c.in_ok-further.ensures.found p commands (c.reads_go_on.ensures.holds p c.args.machine.now c.loop-step.machine c.args.store.now c.loop-step.store commands inv.reads holds))

pub returns-in-Bad-clause-reads : goal.returns-in-Bad-clause-reads
returns-in-Bad-clause-reads g c =
    c.reads_go_on.ensures.behind c.args.machine.now c.loop-step.machine c.look.new.machine c.args.store.now c.loop-step.store c.look.new.store (λ p commands. []) None c.loop-step.invariant.reads c.in_ok-further.ensures.reads

pub returns-in-Bad-clause-bad : goal.returns-in-Bad-clause-bad
returns-in-Bad-clause-bad g c = λ p commands holds room done.
    let pair = c.args.pair.now in
    let inv = c.loop-step.invariant in
    ap told (inv.due p commands holds room ∙ subst (GoesOn pair.room pair.map.now.lo pair.map.now.hi (state_of p commands) pair.key pair.value c.loop-step.descent) c.in-Bad.is (c.in_ok-further.ensures.found p commands (c.reads_go_on.ensures.holds p c.args.machine.now c.loop-step.machine c.args.store.now c.loop-step.store commands inv.reads holds)))

-- the search ends at a leaf
pub returns-clause-bad : goal.returns-clause-bad
returns-clause-bad g c = λ p commands holds room done. absurd (omega (arith, c.loop-step.invariant.level, c.loop-step-test.false))
