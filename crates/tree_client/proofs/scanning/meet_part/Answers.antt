use Rattle.std.proofs.Common.{◌≡◌, ◌<◌, refl, sym, ap, subst, arith}
use Rattle.formats.specs.declared.params.Params.{Params}
use Rattle.range_calls.specs.Store.{state_of}
use Rattle.tree_client.specs.declared.part.Part.{Part}
use Rattle.oper_core.specs.State.{start}
use Rattle.running_store.specs.Taking.Ending.{Done}
use Rattle.store_engine.specs.Lists.{ending_of}
use Rattle.tree_client.specs.Answers.{cause_of}
use Rattle.store_calls.specs.Making.{Reads}
use Rattle.tree_client.specs.Scanning.{IsBad, part_scan}
use Rattle.tree_client.specs.Answers.{TreeErr}
use Rattle.range_calls.specs.JoinLaws.{memory_is_short, nothing_reads}
use Rattle.range_calls.specs.ReadLaws.{makes_err, passed, refused_passed}
use Rattle.tree_client.proofs.ScanLemmas.{first_taken, if_err, last_bad, last_goes, no_branch, on_ok, part_within, parts_within, rest_bad, rest_goes, rest_lighter, rest_within, weight_last}
use Rattle.tree_client.proofs.scanning.meet_part.Goals as goal

pub returns-then-is_empty-clause-ok : goal.returns-then-is_empty-clause-ok
returns-then-is_empty-clause-ok g c = λ p commands holds within.
    let lo = c.args.tree.now.lo in
    let hi = c.args.tree.now.hi in
    let fits = ap (λ (q : Params). q.objects) (g.S.Store.view.numbers p (g.M.Machine.disk c.args.machine.now) c.args.store.now commands holds) in
    let below : c.args.part.child < p.objects = omega (arith, part_within lo hi c.args.scan.now.parts.items c.args.part within, c.requires.there, fits) in
    on_ok c.meet_child.result (last_goes lo hi (state_of p commands) c.args.part c.args.scan.now.parts.items c.args.scan.now.pairs.items c.meet_child.new.scan.parts.items c.meet_child.new.scan.pairs.items (no_branch c.args.part.branches.items c.if-is_empty.ensures))
    (c.meet_child.ensures.ok p commands holds below (parts_within lo hi c.args.scan.now.parts.items c.args.part within))

pub returns-then-is_empty-clause-bad : goal.returns-then-is_empty-clause-bad
returns-then-is_empty-clause-bad g c = λ p commands holds within.
    let lo = c.args.tree.now.lo in
    let hi = c.args.tree.now.hi in
    let fits = ap (λ (q : Params). q.objects) (g.S.Store.view.numbers p (g.M.Machine.disk c.args.machine.now) c.args.store.now commands holds) in
    let below : c.args.part.child < p.objects = omega (arith, part_within lo hi c.args.scan.now.parts.items c.args.part within, c.requires.there, fits) in
    if_err c.meet_child.result (λ e bad done. last_bad lo hi (state_of p commands) c.args.part e (no_branch c.args.part.branches.items c.if-is_empty.ensures) (bad done)) (c.meet_child.ensures.bad p commands holds below)

pub returns-then-is_empty-clause-lighter : goal.returns-then-is_empty-clause-lighter
returns-then-is_empty-clause-lighter g c =
    let last = weight_last c.args.part (no_branch c.args.part.branches.items c.if-is_empty.ensures) in
    on_ok c.meet_child.result (λ less. omega (arith, less, last)) c.meet_child.ensures.lighter

pub returns-in_err-push_part-clause-reads : goal.returns-in_err-push_part-clause-reads
returns-in_err-push_part-clause-reads g c =
    makes_err c.from_residual.result c.in_err-push_part.field-0.0 (passed c.from_residual.result c.in_err-push_part.field-0.0 c.from_residual.ensures.1)
    (subst (λ (e : TreeErr). Reads g.S.Store.view (g.M.Machine.disk c.args.machine.now) (g.M.Machine.disk c.args.machine.now) c.args.store.now c.args.store.now (cause_of e)) (sym c.in_err-push_part.ensures.memory)
    (c.reads_run_short.ensures c.args.machine.now c.args.machine.now c.args.store.now c.args.store.now
    (nothing_reads g.S.Store.view (g.M.Machine.disk c.args.machine.now) c.args.store.now c.nothing_is_made.ensures.front (c.nothing_is_made.ensures.calls c.requires.unbroken))))

pub returns-in_err-push_part-clause-bad : goal.returns-in_err-push_part-clause-bad
returns-in_err-push_part-clause-bad g c = λ p commands holds within.
    refused_passed c.from_residual.result c.in_err-push_part.field-0.0 (λ (e : TreeErr). ending_of (cause_of e) ≡ Done → IsBad (part_scan c.args.tree.now.lo c.args.tree.now.hi (state_of p commands) c.args.part) e)
    (passed c.from_residual.result c.in_err-push_part.field-0.0 c.from_residual.ensures.1) (λ done. absurd (memory_is_short c.in_err-push_part.field-0.0 c.in_err-push_part.ensures.memory done))

pub returns-clause-ok : goal.returns-clause-ok
returns-clause-ok g c = λ p commands holds within.
    let lo = c.args.tree.now.lo in
    let hi = c.args.tree.now.hi in
    let fits = ap (λ (q : Params). q.objects) (g.S.Store.view.numbers p (g.M.Machine.disk c.args.machine.now) c.args.store.now commands holds) in
    let below : c.args.part.child < p.objects = omega (arith, part_within lo hi c.args.scan.now.parts.items c.args.part within, c.requires.there, fits) in
    let rest : Part = record { child = c.remove-key.result.1; branches = c.remove-key.new.self; depth = c.args.part.depth; from = c.greater.result; to = c.args.part.to } in
    let taken = first_taken c.args.part.branches.items c.remove-key.new.self.items c.remove-key.result c.if-is_empty.ensures c.remove-key.ensures.value c.remove-key.ensures.items in
    on_ok c.meet_child-2.result
    (rest_goes lo hi (state_of p commands) c.args.part rest c.remove-key.result c.remove-key.new.self.items taken refl refl refl c.greater.ensures refl c.lesser.result c.lesser.ensures
    c.args.scan.now.parts.items c.push_part.new.parts.items c.meet_child-2.new.scan.parts.items c.args.scan.now.pairs.items c.meet_child-2.new.scan.pairs.items c.in_ok-push_part.ensures.ok)
    (c.meet_child-2.ensures.ok p commands holds below
    (rest_within lo hi (state_of p commands) c.args.part rest c.remove-key.result c.remove-key.new.self.items taken refl refl refl c.greater.ensures refl c.lesser.result c.lesser.ensures
    c.args.scan.now.parts.items c.push_part.new.parts.items c.in_ok-push_part.ensures.ok within))

pub returns-clause-bad : goal.returns-clause-bad
returns-clause-bad g c = λ p commands holds within.
    let lo = c.args.tree.now.lo in
    let hi = c.args.tree.now.hi in
    let fits = ap (λ (q : Params). q.objects) (g.S.Store.view.numbers p (g.M.Machine.disk c.args.machine.now) c.args.store.now commands holds) in
    let below : c.args.part.child < p.objects = omega (arith, part_within lo hi c.args.scan.now.parts.items c.args.part within, c.requires.there, fits) in
    let rest : Part = record { child = c.remove-key.result.1; branches = c.remove-key.new.self; depth = c.args.part.depth; from = c.greater.result; to = c.args.part.to } in
    let taken = first_taken c.args.part.branches.items c.remove-key.new.self.items c.remove-key.result c.if-is_empty.ensures c.remove-key.ensures.value c.remove-key.ensures.items in
    if_err c.meet_child-2.result
    (λ e bad done. rest_bad lo hi (state_of p commands) c.args.part rest c.remove-key.result c.remove-key.new.self.items taken refl refl refl c.greater.ensures refl c.lesser.result c.lesser.ensures e (bad done))
    (c.meet_child-2.ensures.bad p commands holds below)

pub returns-clause-lighter : goal.returns-clause-lighter
returns-clause-lighter g c =
    let rest : Part = record { child = c.remove-key.result.1; branches = c.remove-key.new.self; depth = c.args.part.depth; from = c.greater.result; to = c.args.part.to } in
    let taken = first_taken c.args.part.branches.items c.remove-key.new.self.items c.remove-key.result c.if-is_empty.ensures c.remove-key.ensures.value c.remove-key.ensures.items in
    on_ok c.meet_child-2.result
    (rest_lighter 0 0 start c.args.part rest c.remove-key.result c.remove-key.new.self.items taken refl refl refl c.greater.ensures refl c.lesser.result c.lesser.ensures
    c.args.scan.now.parts.items c.push_part.new.parts.items c.meet_child-2.new.scan.parts.items c.in_ok-push_part.ensures.ok)
    c.meet_child-2.ensures.lighter
