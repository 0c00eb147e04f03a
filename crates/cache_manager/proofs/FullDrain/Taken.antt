-- The full turns of a drain, as calls on parts that show a world take them.
use Rattle.std.proofs.Common.{◌≡◌, ◌∙◌, ap, ℕ, ◌+◌, ◌<◌, ◌≤◌, false, List, [], length, arith, inl, inr}
use Rattle.std.specs.Prelude.{All}
use Rattle.std.specs.List.Sorted.{IsStrictlyIncreasing}
use Rattle.std.proofs.lemmas.List.{length-map}
use Rattle.std.proofs.lemmas.Bool.{both_ways, cases_Bool}
use Rattle.disk_model.specs.Disk.{Disk}
use Rattle.disk_model.specs.declared.machine.FileNo.TheVariants.{Objects}
use Rattle.oper_core.specs.Meaning.{Meaning, IsLawful, IsSmall}
use Rattle.oper_core.specs.State.{is_among}
use Rattle.oper_core.specs.declared.bounds.Bounds.{Bounds}
use Rattle.formats.specs.Objects.{bounds_of}
use Rattle.formats.specs.declared.params.Params.{Params}
use Rattle.log_blocks.specs.LogView.{used_of}
use Rattle.install_order.specs.declared.entry.Entry.{Entry}
use Rattle.write_graph.specs.Graph.{lsns}
use Rattle.dirty_cache.specs.Contents.{is_dirty}
use Rattle.explain_core.specs.World.{World, run}
use Rattle.running_store.specs.Laid.Among.{all_among}
use Rattle.running_store.specs.Courses.Laws.{behind_through}
use Rattle.running_store.specs.Courses.{Course, and_then, course, is_through}
use Rattle.cache_manager.specs.InstallCourses.{drain_course, removals, round_limit, turn_course}
use Rattle.running_store.specs.Courses.Stop.{Through}
use Rattle.running_store.specs.Parts.{Parts, Shows, meaning_in}
use Rattle.running_store.specs.Running.{KeepsSound}
use Rattle.cache_manager.proofs.Balance.{count_listed}
use Rattle.cache_manager.proofs.Counts.{count_at_most}
use Rattle.cache_manager.proofs.FullDrain.Turns.{all_turns_again, all_turns_none}
use Rattle.cache_manager.proofs.NextNode.Named.{no_members}
use Rattle.cache_manager.proofs.NextNode.Planned.{rises_apart, rises_from_increasing}
use Rattle.cache_manager.proofs.Removal.Members.{removals-append}
use Rattle.cache_manager.proofs.OneRound.Goes.{MayRound}
use Rattle.cache_manager.proofs.ThinNode.Worlds.{store_small}
use Rattle.cache_manager.proofs.NextNode.WorkOf.{AreAlone}

module _ {O : Type 0} (meaning : Bounds → Meaning O) (lawful : (b : Bounds) → IsSmall b → IsLawful (meaning b)) (keep : (b : Bounds) → IsSmall b → KeepsSound (meaning b)) (rounds : (b : Bounds) → IsSmall b → MayRound (meaning b)) (alone : AreAlone) (copied : ℕ)
    (now : Disk) (here : Parts) (p : Params) (v : World O) (shows : Shows (meaning_in meaning p) p now here v) where
  abbrev m : Meaning O
  m = meaning_in meaning p

  abbrev used : ℕ
  used = used_of here.log.log

  abbrev one : Course O
  one = turn_course m copied (round_limit m) v used

  small : IsSmall (bounds_of p)
  small = store_small m p (now.reads Objects) here.volatile v shows.store

  -- a turn is next
  pub turns : drain_course m copied v used ≡ and_then m v one (λ u used. drain_course m copied u used)
  turns = all_turns_again m copied (lawful (bounds_of p) small) (keep (bounds_of p) small) alone (rounds (bounds_of p) small) (round_limit m) (omega arith) v used shows.running

  -- it removes its nodes
  pub removes : one.stop ≡ Through → removals (drain_course m copied v used).steps ≡ removals one.steps + removals (drain_course m copied (run m v one.steps) one.used).steps
  removes through =
      let rest = drain_course m copied (run m v one.steps) one.used in
      ap (λ (c : Course O). removals c.steps) (turns ∙ behind_through one rest one.stop (ap is_through through)) ∙ removals-append one.steps rest.steps

  -- where the graph has no entry nothing is left
  pub drained : here.volatile.entries ≡ [] → drain_course m copied v used ≡ course [] used Through
  drained none = all_turns_none m copied (lawful (bounds_of p) small) (keep (bounds_of p) small) alone (rounds (bounds_of p) small) (round_limit m) (omega arith) v used (no_members m v here.volatile.entries shows.store.members none)

-- and nothing is dirty
pub all_clean : {O : Type 0} (m : Meaning O) (p : Params) (now : Disk) (here : Parts) (v : World O) → Shows m p now here v → here.volatile.entries ≡ [] → (x : ℕ) → is_dirty here.volatile.objects.cache x ≡ false
all_clean m p now here v shows none x = elim (cases_Bool (is_dirty here.volatile.objects.cache x)) [
  | inl dirty ↦ absurd (both_ways _ (ap (λ (es : List Entry). is_among (v.cache x).lsn (lsns es)) none) (shows.store.members (v.cache x).lsn ∙ (shows.running.sound.dirty x (shows.store.dirty x dirty)).1))
  | inr clean ↦ clean
]

-- there are fewer entries than LSNs below the next
pub few_entries : (n : ℕ) (entries : List Entry) → IsStrictlyIncreasing (lsns entries) → All (λ k. k < n) (lsns entries) → length entries ≤ n
few_entries n entries rising below =
    let counted = count_listed n (lsns entries) (rises_apart (lsns entries) (rises_from_increasing (lsns entries) rising)) (λ y there. all_among (λ k. k < n) (lsns entries) y below there) in
    omega (arith, counted, count_at_most n (λ k. is_among k (lsns entries)), length-map entries (λ (e : Entry). e.lsn))
