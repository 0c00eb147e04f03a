use Rattle.std.proofs.Common.{◌∙◌, ◌==◌, ℕ, Bool, List, Some, length, ap, length-set}
use Rattle.std.specs.Prelude.{slice_set}
use Rattle.dirty_cache.specs.Contents.{held, is_dirty}
use Rattle.number_lists.specs.Marks.{mark_at}
use Rattle.running_store.proofs.SetLemmas.{mark_set, set_at, true_at}
use Rattle.running_store.proofs.doing.put_value.Goals as goal

pub returns-clause-entries : goal.returns-clause-entries
returns-clause-entries c =
    set_at (held c.args.cache.now) (held c.set.new.self) c.args.object (Some (record { lsn = c.args.lsn; bytes = c.args.value })) (c.set.ensures.entry ∙ (λ i. Some (record { lsn = c.args.lsn; bytes = c.into_vec.ensures i }))) (λ y apart. (c.set.ensures.others y apart).entry)

pub returns-clause-dirty : goal.returns-clause-dirty
returns-clause-dirty c = true_at (is_dirty c.args.cache.now) (is_dirty c.set.new.self) c.args.object c.set.ensures.dirty (λ y apart. (c.set.ensures.others y apart).dirty)

pub returns-clause-count : goal.returns-clause-count
returns-clause-count c = ap length c.note_value.ensures ∙ length-set c.args.empties.now.marks c.args.object (length c.as_slice.result.now == 0)

pub returns-clause-marks : goal.returns-clause-marks
returns-clause-marks c x =
    ap (λ (l : List Bool). mark_at l x) (c.note_value.ensures ∙ ap (λ (v : List ℕ). slice_set c.args.empties.now.marks c.args.object (length v == 0)) c.as_slice.ensures)
    ∙ mark_set c.args.empties.now.marks c.args.object (length c.args.value == 0) c.requires.below x
