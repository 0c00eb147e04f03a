use Rattle.std.proofs.Common.{◌≡◌, refl, sym, ◌∙◌, ℕ, List, true≢false}
use Rattle.std.proofs.lemmas.Bool.{lt-ltb}
use Rattle.page_map.specs.Cutting.{GoesOn}
use Rattle.range_calls.specs.ReadLaws.{nothing_passed, passed}
use Rattle.range_calls.specs.Store.{state_of}
use Rattle.map_client.specs.Turning.{GoesDown}
use Rattle.map_client.proofs.CutLemmas.{goes_down}
use Rattle.map_client.proofs.cutting.look.Goals as goal

pub returns-in_err-there-clause-down : goal.returns-in_err-there-clause-down
returns-in_err-there-clause-down g c =
    let e = c.in_err-there.field-0.0 in
    nothing_passed c.from_residual.result e (λ further. GoesDown c.args.pair.now.map.now.hi c.args.descent further) (passed c.from_residual.result e c.from_residual.ensures.1)

pub returns-in_err-there-clause-found : goal.returns-in_err-there-clause-found
returns-in_err-there-clause-found g c = λ p commands holds.
    let e = c.in_err-there.field-0.0 in
    let pair = c.args.pair.now in
    nothing_passed c.from_residual.result e (λ further. GoesOn pair.room pair.map.now.lo pair.map.now.hi (state_of p commands) pair.key pair.value c.args.descent further) (passed c.from_residual.result e c.from_residual.ensures.1)

pub returns-then-not-there-clause-failed : goal.returns-then-not-there-clause-failed
returns-then-not-there-clause-failed g c = λ done.
    absurd (true≢false (sym (lt-ltb c.args.descent.object (g.S.Store.view.params c.args.store.now).objects c.requires.there) ∙ sym c.in_ok-there.ensures.there ∙ c.if-not-there.true))

pub returns-in-Ok-clause-down : goal.returns-in-Ok-clause-down
returns-in-Ok-clause-down g c =
    let pair = c.args.pair.now in
    let value : List ℕ = c.get.result.now in
    goes_down pair.room pair.map.now.lo pair.map.now.hi (λ y. value) pair.key pair.value c.args.descent c.in-Ok.further (c.in-Ok.ensures (λ y. value) (c.bytes-bytes.ensures (λ y. value) refl))

pub returns-in-Ok-clause-found : goal.returns-in-Ok-clause-found
returns-in-Ok-clause-found g c = λ p commands holds.
    let pair = c.args.pair.now in
    let value : c.get.result.now ≡ state_of p commands c.args.descent.object = c.get.ensures.value ∙ c.in_ok-there.ensures.value p commands holds c.if-not-there.false in
    c.in-Ok.ensures (state_of p commands) (c.bytes-bytes.ensures (state_of p commands) (sym value))

pub returns-in-Err-clause-reads : goal.returns-in-Err-clause-reads
returns-in-Err-clause-reads g c =
    c.reads_run_short.ensures c.args.machine.now c.see.new.machine c.args.store.now c.see.new.store c.in_ok-there.ensures.reads
