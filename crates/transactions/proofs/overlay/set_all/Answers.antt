use Rattle.std.proofs.Common.{◌≡◌, ◌<◌, ◌==◌, ℕ, suc, [], ◌∷◌, Some, if◌then◌else◌, length, drop, slice_index, subst, ap, ◌∙◌, length-append, arith}
use Rattle.dirty_cache.specs.Contents.{held}
use Rattle.running_store.specs.Laid.{with_entries}
use Rattle.running_store.proofs.SetLemmas.{taken, set_back}
use Rattle.transactions.proofs.OverlayLemmas.{as_tested}
use Rattle.transactions.proofs.overlay.set_all.Goals as goal

pub loop-value-preserved : goal.loop-value-preserved
loop-value-preserved c =
    let so_far = c.loop-value.invariant in
    let left = c.pop.new.self in
    let is = taken c.args.values c.loop-value.values left c.in-Some.value c.in-Some.ensures.some so_far.left in
    let size : length c.loop-value.values ≡ suc (length left) = omega (arith, ap length c.in-Some.ensures.some, length-append left (c.in-Some.value ∷ [])) in
    let at : c.len.result ≡ length left = c.len.ensures in
    let there : length left < length c.args.objects.now = omega (arith, so_far.few, size) in
    let before = subst (λ (n : ℕ). (x : ℕ) → held c.loop-value.made x ≡ with_entries (held c.args.made.now) 0 (drop n c.args.objects.now) (drop n c.args.values) x) size so_far.set in
    let entries = as_tested c.loop-value.made c.set.new.self (slice_index c.args.objects.now c.len.result) c.in-Some.value (c.set.ensures.entry ∙ ap (λ b. Some (record { lsn = 0; bytes = b })) c.into_vec.ensures) (λ y other. (c.set.ensures.others y other).entry) in
    let set = subst (λ (n : ℕ). (x : ℕ) → held c.set.new.self x ≡ (if x == slice_index c.args.objects.now n then Some (record { lsn = 0; bytes = c.in-Some.value }) else held c.loop-value.made x)) at entries in
    record {
      few = omega (arith, there);
      left = is.front;
      room = λ k d below. c.set.ensures.rooms _ (so_far.room k d below);
      set = set_back 0 c.args.objects.now c.args.values (length left) c.in-Some.value there is.more is.here (held c.args.made.now) (held c.loop-value.made) (held c.set.new.self) before set;
    }
