use Rattle.std.proofs.Common.{◌≡◌, ◌≤◌, ◌-◌, ◌∷◌, ℕ, suc, true, false, [], length, length-append, sym, ap, ◌∙◌, subst, arith}
use Rattle.formats.specs.declared.params.Params.{Params}
use Rattle.page_map.specs.Checks.{Checking, before, check_from, is_met, taken}
use Rattle.page_map.specs.Map.{Range, bytes_at}
use Rattle.page_map.specs.Splits.{cells_read}
use Rattle.running_store.specs.Taking.Ending.{Done}
use Rattle.store_engine.specs.Lists.{ending_of}
use Rattle.range_calls.specs.JoinLaws.{memory_is_short, object_is_there}
use Rattle.range_calls.specs.ReadLaws.{passed, refused_passed}
use Rattle.range_calls.specs.Store.{state_of}
use Rattle.map_client.specs.Answers.{cause_of, told}
use Rattle.map_client.specs.Checking.{IsBad}
use Rattle.map_client.proofs.CheckLemmas.{in_range, unmet}
use Rattle.map_client.proofs.checking.meet.Goals as goal

pub returns-then-not-is_new-clause-bad : goal.returns-then-not-is_new-clause-bad
returns-then-not-is_new-clause-bad g c = λ p commands holds done.
    let s = state_of p commands in
    let old = c.args.check.now in
    ap told (c.a_check_goes_page_by_page.ensures.bad s c.args.page old (unmet c.args.page (bytes_at old.range.lo s c.args.page.object) old (sym c.is_new.ensures ∙ c.if-not-is_new.true)))

pub returns-in_err-there-clause-bad : goal.returns-in_err-there-clause-bad
returns-in_err-there-clause-bad g c = λ p commands holds.
    refused_passed c.from_residual.result c.in_err-there.field-0.0 (λ e. ending_of (cause_of e) ≡ Done → IsBad (state_of p commands) (before c.args.page c.args.check.now) e)
    (passed c.from_residual.result c.in_err-there.field-0.0 c.from_residual.ensures.1) (λ done. absurd (c.in_err-there.ensures.failed done))

pub returns-then-not-there-clause-bad : goal.returns-then-not-there-clause-bad
returns-then-not-there-clause-bad g c = λ p commands holds done.
    let old = c.args.check.now in
    let low : c.args.page.object ≤ old.range.hi = in_range old.range old.met.objects c.args.page.object (sym c.is_new.ensures ∙ c.if-not-is_new.false) in
    let numbers = g.S.Store.view.numbers p (g.M.Machine.disk c.args.machine.now) c.args.store.now commands holds in
    absurd (object_is_there _ p c.args.page.object numbers
    (omega (arith, low, ap (λ (r : Range). r.hi) c.requires.range, c.requires.there, ap (λ (q : Params). q.objects) numbers)) (sym c.if-not-there.true ∙ c.in_ok-there.ensures.there))

pub returns-in_err-fits-clause-bad : goal.returns-in_err-fits-clause-bad
returns-in_err-fits-clause-bad g c = λ p commands holds.
    refused_passed c.from_residual-in_err-fits.result c.in_err-fits.field-0.0 (λ e. ending_of (cause_of e) ≡ Done → IsBad (state_of p commands) (before c.args.page c.args.check.now) e)
    (passed c.from_residual-in_err-fits.result c.in_err-fits.field-0.0 c.from_residual-in_err-fits.ensures.1) (λ done. absurd (memory_is_short c.in_err-fits.field-0.0 c.in_err-fits.ensures.memory done))

-- what the object's bytes say
pub returns-then-not-fits-clause-bad : goal.returns-then-not-fits-clause-bad
returns-then-not-fits-clause-bad g c = λ p commands holds done.
    let s = state_of p commands in
    let old = c.args.check.now in
    let object : ℕ = c.args.page.object in
    let value : c.get.result.now ≡ s object = c.get.ensures.value ∙ c.in_ok-there.ensures.value p commands holds c.if-not-there.false in
    let bytes : c.bytes.result.now ≡ bytes_at old.range.lo s object = c.bytes.ensures s (sym value) ∙ ap (λ (r : Range). bytes_at r.lo s object) (sym c.requires.range) in
    ap told (c.a_check_goes_page_by_page.ensures.bad s c.args.page old ((λ k. is_met c.args.page (sym bytes k) old) ∙ sym c.in_ok-fits.ensures.fits ∙ c.if-not-fits.true))

pub returns-clause-range : goal.returns-clause-range
returns-clause-range g c = ap (λ (k : Checking). k.range) (c.in_ok-fits.ensures.next c.if-not-fits.false) ∙ c.requires.range

pub returns-clause-more : goal.returns-clause-more
returns-clause-more g c =
    let old = c.args.check.now in
    omega (arith, ap (λ (k : Checking). length k.met.objects) (c.in_ok-fits.ensures.next c.if-not-fits.false), length-append old.met.objects (c.args.page.object ∷ []))

pub returns-clause-few : goal.returns-clause-few
returns-clause-few g c =
    let next = c.meet_page.new.check in
    let range : next.range ≡ c.args.map.now = ap (λ (k : Checking). k.range) (c.in_ok-fits.ensures.next c.if-not-fits.false) ∙ c.requires.range in
    subst (λ (r : Range). length next.met.objects ≤ suc (r.hi - r.lo)) range (c.in_ok-fits.ensures.few c.if-not-fits.false)

pub returns-clause-goes : goal.returns-clause-goes
returns-clause-goes g c = λ p commands holds.
    let s = state_of p commands in
    let old = c.args.check.now in
    let object : ℕ = c.args.page.object in
    let value : c.get.result.now ≡ s object = c.get.ensures.value ∙ c.in_ok-there.ensures.value p commands holds c.if-not-there.false in
    let bytes : c.bytes.result.now ≡ bytes_at old.range.lo s object = c.bytes.ensures s (sym value) ∙ ap (λ (r : Range). bytes_at r.lo s object) (sym c.requires.range) in
    c.a_check_goes_page_by_page.ensures.met s c.args.page old ((λ k. is_met c.args.page (sym bytes k) old) ∙ sym c.in_ok-fits.ensures.fits ∙ c.if-not-fits.false)
    ∙ (λ k. check_from s (taken c.args.page (cells_read (sym bytes k)) old)) ∙ ap (check_from s) (sym (c.in_ok-fits.ensures.next c.if-not-fits.false))
