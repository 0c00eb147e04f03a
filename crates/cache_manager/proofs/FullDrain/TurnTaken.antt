-- A turn, as calls on parts that show a world take it: a round where the next node is due, and else an install, and nodes behind it.
use Rattle.std.proofs.Common.{◌≡◌, ◌∙◌, sym, subst, ap, ℕ, ◌+◌, ◌-◌, List, [], ◌∷◌, length, arith}
use Rattle.std.specs.Prelude.{IsTrue, IsFalse, not, nat_lt, ◌^◌, ◌/◌, max}
use Rattle.std.proofs.lemmas.Bool.{and_from, cond-false, cond-true, false_from_ne_true, lt-ltb, not_from_false}
use Rattle.disk_model.specs.Disk.{Disk}
use Rattle.disk_model.specs.declared.machine.FileNo.TheVariants.{Objects}
use Rattle.oper_core.specs.Meaning.{HasBounds, Meaning, IsLawful, IsSmall}
use Rattle.oper_core.specs.declared.bounds.Bounds.{Bounds}
use Rattle.formats.specs.Objects.{bounds_of}
use Rattle.formats.specs.declared.params.Params.{Params}
use Rattle.log_blocks.specs.LogView.{used_of}
use Rattle.install_order.specs.NodeLaws.{some-from}
use Rattle.write_graph.specs.Graph.{IsLeast, NamesMinimal}
use Rattle.explain_core.specs.Turns.{object_at}
use Rattle.explain_core.specs.World.{World, end_of, run}
use Rattle.running_store.specs.Courses.Laws.{behind_through}
use Rattle.running_store.specs.Courses.{Course, and_then, course, is_through}
use Rattle.running_store.specs.Courses.Stop.{Through}
use Rattle.running_store.specs.Laid.Limits.{objects_within}
use Rattle.running_store.specs.Parts.{Parts, Shows, meaning_in}
use Rattle.running_store.specs.Steps.Finished.{IsQuiet}
use Rattle.running_store.specs.Taking.{Ending, Takes}
use Rattle.running_store.specs.Taking.Ending.{Done}
use Rattle.running_store.specs.Taking.Laws.{IsCut, both, takes_both, takes_first}
use Rattle.cache_manager.specs.DueNodes.{IsDueFor, NamesDue}
use Rattle.cache_manager.specs.InstallCourses.{first_course, has_members, identities, install_course, is_next_due, may_flush, must_log, next_name, readied, ready_turn, removals, round_course, round_limit, turn_course, work, workless_nodes}
use Rattle.cache_manager.proofs.NextNode.Besides.{may_shown}
use Rattle.cache_manager.proofs.OneRound.DueWorlds.{due_found, due_passes}
use Rattle.cache_manager.proofs.NextNode.Named.{no_members}
use Rattle.cache_manager.proofs.NextNode.Least.{below, next_has_name}
use Rattle.cache_manager.proofs.OneRound.NextDue.{first, next_due}
use Rattle.cache_manager.proofs.NextNode.Work.{name_held, next_shown, work_shown}
use Rattle.cache_manager.proofs.Removal.Members.{install_removes_one, none_identities, removals-append}
use Rattle.cache_manager.proofs.ThinNode.Worlds.{store_small}
use Rattle.cache_manager.proofs.NextNode.WorkOf.{AreAlone}

-- so many nodes are in a round of a store with these numbers
pub limit_is : {O : Type 0} (meaning : Bounds → Meaning O) (bounded : (b : Bounds) → HasBounds b (meaning b)) (most : ℕ) (p q : Params) → most ≡ objects_within 64 (2 ^ 20) q → q ≡ p → most ≡ round_limit (meaning_in meaning p)
limit_is meaning bounded most p q is same =
    is ∙ ap (λ (k : Params). objects_within 64 (2 ^ 20) k) same ∙ ap (λ (c : ℕ). max 64 (2 ^ 20 / c)) (sym (bounded (bounds_of p)).cap)

-- there is nothing to install
pub ready_none : {O : Type 0} (m : Meaning O) (copied most : ℕ) (p : Params) (d : Disk) (it : Parts) (w : World O) → Shows m p d it w → it.volatile.entries ≡ [] → (used : ℕ) → ready_turn m copied most w used ≡ course [] used Through
ready_none m copied most p d it w shows none used =
    let first = first_course m copied most w used in
    cond-false (has_members m w) (and_then m w first (λ v left. workless_nodes m (most - removals first.steps) v left)) (course [] used Through) (no_members m w it.volatile.entries shows.store.members none)

-- what is logged before it removes no node
pub turn_removes : {O : Type 0} (m : Meaning O) (copied most : ℕ) (w : World O) (used : ℕ) → let one = identities m (readied m copied most w) w used in
    one.stop ≡ Through → removals (turn_course m copied most w used).steps ≡ removals (ready_turn m copied most (run m w one.steps) one.used).steps
turn_removes m copied most w used through =
    let one = identities m (readied m copied most w) w used in
    let rest = ready_turn m copied most (run m w one.steps) one.used in
    let both = ap (λ (c : Course _). removals c.steps) (behind_through one rest one.stop (ap is_through through)) ∙ removals-append one.steps rest.steps in
    omega (arith, both, (none_identities m (readied m copied most w) w used).removed)

-- One call, and after it another whose course is chosen by a number that the world and the log's length tell.
module _ {O : Type 0} (meaning : Bounds → Meaning O) (first : Meaning O → World O → ℕ → Course O) (number : Meaning O → World O → ℕ → ℕ) (rest : ℕ → Meaning O → World O → ℕ → Course O) where
  abbrev pub chosen : Meaning O → World O → ℕ → Course O
  chosen m w used = and_then m w (first m w used) (rest (number m w used) m)

  module _ (old new : Disk) (before after : Parts) (ending : Ending) where
    -- the first is cut, so that the other is not made
    pub takes_cut : IsCut ending → Takes meaning old new before after first ending → Takes meaning old new before after chosen ending
    takes_cut cut one = record {
      follows = λ p w shows. (takes_first meaning first (rest (number (meaning_in meaning p) w (used_of before.log.log))) old new before after ending cut one).follows p w shows;
      steps = λ told p w shows. (takes_first meaning first (rest (number (meaning_in meaning p) w (used_of before.log.log))) old new before after ending cut one).steps told p w shows;
    }

    -- both are made
    module _ (mid : Disk) (here : Parts) (n : ℕ) (is : (p : Params) (w : World O) → Shows (meaning_in meaning p) p old before w → n ≡ number (meaning_in meaning p) w (used_of before.log.log))
        (quiet : IsQuiet old mid) (one : Takes meaning old mid before here first Done) (other : Takes meaning mid new here after (rest n) ending) where
      one_behind : (p : Params) (w : World O) → Shows (meaning_in meaning p) p old before w → Takes meaning old new before after (both meaning first (rest (number (meaning_in meaning p) w (used_of before.log.log)))) ending
      one_behind p w shows =
          let k = number (meaning_in meaning p) w (used_of before.log.log) in
          takes_both meaning first (rest k) old mid new before here after ending quiet one (subst (λ (j : ℕ). Takes meaning mid new here after (rest j) ending) (is p w shows) other)

      pub takes_chosen : Takes meaning old new before after chosen ending
      takes_chosen = record { follows = λ p w shows. (one_behind p w shows).follows p w shows; steps = λ told p w shows. (one_behind p w shows).steps told p w shows }

module _ {O : Type 0} (meaning : Bounds → Meaning O) (lawful : (b : Bounds) → IsSmall b → IsLawful (meaning b)) (alone : AreAlone) (copied most : ℕ) (d : Disk) (it : Parts) (n : ℕ) (least : IsLeast (NamesMinimal it.volatile.entries) n)
    (p : Params) (w : World O) (shows : Shows (meaning_in meaning p) p d it w) where
  abbrev m : Meaning O
  m = meaning_in meaning p

  fine : IsLawful m
  fine = lawful (bounds_of p) (store_small m p (d.reads Objects) it.volatile w shows.store)

  held : IsTrue (w.graph n)
  held = name_held m fine p d it w shows n least

  some : IsTrue (has_members m w)
  some = some-from (end_of w) w.graph n (below m fine w shows.running.sound n held) held

  name_is : next_name m w ≡ n
  name_is =
      let named = next_shown m fine p d it w shows n least in
      let other = next_has_name m fine w shows.running.sound n held in
      let low = named.is_name.1 (next_name m w) other.1.0 in
      let high = other.1.1 n named.is_name.0 in
      omega (arith, low, high)

  -- the next node is due
  pub first_due : NamesDue it.volatile copied n → (used : ℕ) → first_course m copied most w used ≡ round_course m copied most w used
  first_due due used =
      let items : List ℕ = due.0 ∷ [] in
      let same : items ≡ work m w = work_shown m fine p d it w shows n least items due.1.work in
      let may = may_shown m fine alone p d it w shows n least items due.1.work copied (omega arith) due.1.fresh in
      let long = ap length same in
      let next : IsTrue (is_next_due m copied w) = and_from (not (must_log m copied w)) (nat_lt 0 (length (work m w))) (not_from_false _ may) (lt-ltb 0 (length (work m w)) (omega (arith, long))) in
      cond-true (is_next_due m copied w) (round_course m copied most w used) (install_course m copied w used) next

  -- it is not
  module _ (none : NamesDue it.volatile copied n → ⊥) where
    not_next : IsFalse (is_next_due m copied w)
    not_next = false_from_ne_true _ (λ next.
        let sound = shows.running.sound in
        let name = next_name m w in
        let one = first m fine w sound copied next in
        let found = due_found m fine alone p (d.reads Objects) it.volatile w shows.store sound copied name (due_passes m fine w sound (may_flush m copied) name one.0 (next_due m fine w sound copied next)) in
        none (object_at m w name, subst (λ (k : ℕ). IsDueFor it.volatile copied k (object_at m w name)) name_is found))

    pub first_alone : (used : ℕ) → first_course m copied most w used ≡ install_course m copied w used
    first_alone used = cond-false (is_next_due m copied w) (round_course m copied most w used) (install_course m copied w used) not_next

    pub alone_removes : (used : ℕ) → (install_course m copied w used).stop ≡ Through → removals (first_course m copied most w used).steps ≡ 1
    alone_removes used through = ap (λ (c : Course O). removals c.steps) (first_alone used) ∙ install_removes_one m copied w used some through

  -- behind it go nodes that have no object to flush, so many in all
  abbrev pub first_of_turn : Meaning O → World O → ℕ → Course O
  first_of_turn m w used = first_course m copied most w used

  abbrev pub nodes_first : Meaning O → World O → ℕ → ℕ
  nodes_first m w used = removals (first_course m copied most w used).steps

  abbrev pub nodes_behind : ℕ → Meaning O → World O → ℕ → Course O
  nodes_behind k m w used = workless_nodes m (most - k) w used

  pub ready_is : (used : ℕ) → chosen meaning first_of_turn nodes_first nodes_behind m w used ≡ ready_turn m copied most w used
  ready_is used = sym (cond-true (has_members m w) (chosen meaning first_of_turn nodes_first nodes_behind m w used) (course [] used Through) some)

  pub ready_removes : (used : ℕ) → let one = first_course m copied most w used in
      one.stop ≡ Through → removals (ready_turn m copied most w used).steps ≡ removals one.steps + removals (workless_nodes m (most - removals one.steps) (run m w one.steps) one.used).steps
  ready_removes used through =
      let one = first_course m copied most w used in
      let rest = workless_nodes m (most - removals one.steps) (run m w one.steps) one.used in
      ap (λ (c : Course O). removals c.steps) (sym (ready_is used) ∙ behind_through one rest one.stop (ap is_through through)) ∙ removals-append one.steps rest.steps
