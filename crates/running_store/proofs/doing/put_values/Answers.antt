use Rattle.std.proofs.Common.{◌≡◌, ◌<◌, ◌==◌, ◌||◌, ℕ, suc, [], ◌∷◌, Some, if◌then◌else◌, length, drop, slice_index, subst, ap, ◌∙◌, length-append, arith}
use Rattle.oper_core.specs.State.{is_among}
use Rattle.dirty_cache.specs.Contents.{held, is_dirty}
use Rattle.number_lists.specs.Marks.{mark_at}
use Rattle.running_store.specs.Laid.{with_entries}
use Rattle.running_store.specs.Laid.Lengths.{with_marks}
use Rattle.running_store.proofs.SetLemmas.{taken, set_back, dirty_set, marks_set}
use Rattle.running_store.proofs.doing.put_values.Goals as goal

pub loop-value-preserved : goal.loop-value-preserved
loop-value-preserved c =
    let so_far = c.loop-value.invariant in
    let left = c.pop.new.self in
    let objects = c.args.objects.now in
    let v = c.in-Some.value in
    let is = taken c.args.values c.loop-value.values left v c.in-Some.ensures.some so_far.left in
    let size : length c.loop-value.values ≡ suc (length left) = omega (arith, ap length c.in-Some.ensures.some, length-append left (v ∷ [])) in
    let at : c.len.result ≡ length left = c.len.ensures in
    let there : length left < length objects = omega (arith, so_far.few, size) in
    let before = subst (λ (n : ℕ). (x : ℕ) → held c.loop-value.cache x ≡ with_entries (held c.args.cache.now) c.args.lsn (drop n objects) (drop n c.args.values) x) size so_far.set in
    let set = subst (λ (n : ℕ). (x : ℕ) → held c.put_value.new.cache x ≡ (if x == slice_index objects n then Some (record { lsn = c.args.lsn; bytes = v }) else held c.loop-value.cache x)) at c.put_value.ensures.entries in
    let dirty_before = subst (λ (n : ℕ). (x : ℕ) → is_dirty c.loop-value.cache x ≡ (is_among x (drop n objects) || is_dirty c.args.cache.now x)) size so_far.dirty in
    let dirty = subst (λ (n : ℕ). (x : ℕ) → is_dirty c.put_value.new.cache x ≡ ((x == slice_index objects n) || is_dirty c.loop-value.cache x)) at c.put_value.ensures.dirty in
    let marks_before = subst (λ (n : ℕ). (x : ℕ) → mark_at c.loop-value.empties.marks x ≡ with_marks (mark_at c.args.empties.now.marks) (drop n objects) (drop n c.args.values) x) size so_far.marks in
    let marks = subst (λ (n : ℕ). (x : ℕ) → mark_at c.put_value.new.empties.marks x ≡ (if x == slice_index objects n then (length v == 0) else mark_at c.loop-value.empties.marks x)) at c.put_value.ensures.marks in
    record {
      few = omega (arith, there);
      left = is.front;
      room = λ k d below. c.put_value.ensures.rooms _ (so_far.room k d below);
      set = set_back c.args.lsn objects c.args.values (length left) v there is.more is.here (held c.args.cache.now) (held c.loop-value.cache) (held c.put_value.new.cache) before set;
      dirty = dirty_set c.args.lsn objects c.args.values (length left) v there is.more is.here (is_dirty c.args.cache.now) (is_dirty c.loop-value.cache) (is_dirty c.put_value.new.cache) dirty_before dirty;
      count = c.put_value.ensures.count ∙ so_far.count;
      marks = marks_set c.args.lsn objects c.args.values (length left) v there is.more is.here (mark_at c.args.empties.now.marks) (mark_at c.loop-value.empties.marks) (mark_at c.put_value.new.empties.marks) marks_before marks;
    }
