-- How many members the graph has after steps that add no command: one more for each identity write, and those less that are
-- removed.
use Rattle.std.proofs.Common.{◌≡◌, ◌∙◌, sym, ap, ℕ, zero, suc, ◌+◌, ◌<◌, Bool, true, false, List, [], ◌∷◌, ◌++◌, length, refl, arith, inl, inr, length-append}
use Rattle.std.specs.Prelude.{IsTrue, ◌&&◌, ◌||◌, ◌==◌, not, if◌then◌else◌}
use Rattle.std.specs.List.Sorted.{IsStrictlyIncreasing}
use Rattle.std.proofs.lemmas.List.{length-map}
use Rattle.std.proofs.lemmas.Bool.{or_cases, or_left, or_right, and_parts, eq-eqb, eqb-true, false_from_ne_true}
use Rattle.disk_model.specs.Disk.{Disk}
use Rattle.oper_core.specs.Meaning.{Meaning}
use Rattle.oper_core.specs.State.{is_among}
use Rattle.formats.specs.declared.params.Params.{Params}
use Rattle.install_order.specs.declared.entry.Entry.{Entry}
use Rattle.write_graph.specs.Graph.{lsns}
use Rattle.explain_core.specs.CountLaws.{count_same, count_more}
use Rattle.explain_core.specs.History.{Member}
use Rattle.explain_core.specs.History.Member.{Command, Identity}
use Rattle.explain_core.specs.Sound.{IsSound}
use Rattle.explain_core.specs.Turns.{count_below}
use Rattle.explain_core.specs.World.{World, Step, step, run, end_of}
use Rattle.explain_core.specs.World.Step.{Begin, End, Append, Block_gate, Checkpoint, Slot_gate, Removal, Header_gate, Replay, Crash}
use Rattle.running_store.specs.Steps.Appended.{next_lsn}
use Rattle.cache_manager.specs.InstallCourses.{logged_by, logged_in, members_removed, members_removed_by}
use Rattle.running_store.specs.Parts.{Parts, Shows}
use Rattle.running_store.specs.Running.{AreUpkeep, IsUpkeep}
use Rattle.cache_manager.proofs.Lists.{AreApart}
use Rattle.cache_manager.proofs.NextNode.Planned.{rises_apart, rises_from_increasing}

-- so many pass, and the others do not
count_parts : (n : ℕ) (p q : ℕ → Bool) → count_below n (λ k. p k && not (q k)) + count_below n (λ k. p k && q k) ≡ count_below n p
count_parts zero p q = refl
count_parts (suc n) p q = omega (arith, count_parts n p q, here (p n) (q n))
  where
    here : (a b : Bool) → (if a && not b then 1 else 0) + (if a && b then 1 else 0) ≡ (if a then 1 else 0)
    here true true = refl
    here true false = refl
    here false b = refl

-- the LSNs of a list, counted
pub count_listed : (n : ℕ) (xs : List ℕ) → AreApart xs → ((y : ℕ) → IsTrue (is_among y xs) → y < n) → count_below n (λ k. is_among k xs) ≡ length xs
count_listed n [] apart low = count_nothing n
  where
    count_nothing : (n : ℕ) → count_below n (λ k. false) ≡ 0
    count_nothing zero = refl
    count_nothing (suc n) = ap (λ (k : ℕ). 0 + k) (count_nothing n)
count_listed n (x ∷ xs) apart low =
    count_more n x (λ k. is_among k xs) (low x (or_left (x == x) (is_among x xs) (eq-eqb x x refl))) apart.0
    ∙ ap suc (count_listed n xs apart.1 (λ y there. low y (or_right (y == x) (is_among y xs) there)))

module _ {O : Type 0} (m : Meaning O) where
  -- the members of the graph are of the history
  abbrev pub AreBelow : World O → Type 0
  AreBelow w = (n : ℕ) → IsTrue (w.graph n) → n < end_of w

  pub sound_below : (w : World O) → IsSound m w → AreBelow w
  sound_below w sound n there = omega (arith, (sound.graph n there).1, sound.next.1)

  pub record IsBalanced (w : World O) (steps : List (Step O)) (v : World O) : Type 0 where
    pub below : AreBelow v
    pub ends : end_of v ≡ end_of w + length (logged_in steps)
    pub count : count_below (end_of v) v.graph + members_removed m w steps ≡ count_below (end_of w) w.graph + length (logged_in steps)

  record StepsBalanced (w : World O) (s : Step O) (v : World O) : Type 0 where
    below : AreBelow v
    ends : end_of v ≡ end_of w + length (logged_by s)
    count : count_below (end_of v) v.graph + members_removed_by w s ≡ count_below (end_of w) w.graph + length (logged_by s)

  -- nothing changes that is counted
  unchanged : (w : World O) (s : Step O) (v : World O) → v.graph ≡ w.graph → v.history ≡ w.history → logged_by s ≡ [] → members_removed_by w s ≡ 0 → AreBelow w → StepsBalanced w s v
  unchanged w s v graph history none kept below =
      let ends : end_of v ≡ end_of w = ap (λ (h : List (Member O)). length h + 1) history in
      let none_long : length (logged_by s) ≡ 0 = ap length none in
      let count : count_below (end_of v) v.graph ≡ count_below (end_of w) w.graph = λ i. count_below (ends i) (graph i) in
      record {
        below = λ n there. let was = below n (ap (λ (g : ℕ → Bool). g n) (sym graph) ∙ there) in omega (arith, was, ends);
        ends = omega (arith, ends, none_long);
        count = omega (arith, count, none_long, kept);
      }

  balanced_step : (w : World O) (s : Step O) → IsUpkeep s → AreBelow w → StepsBalanced w s (step m w s)
  unfolding step
  balanced_step w Begin is below = absurd is
  balanced_step w End is below = absurd is
  balanced_step w (Append (Command op)) is below = absurd is
  balanced_step w (Append (Identity x value)) is below =
      let long : length (w.history ++ Identity x value ∷ []) ≡ length w.history + 1 = length-append w.history (Identity x value ∷ []) in
      let ends : length (w.history ++ Identity x value ∷ []) + 1 ≡ suc (end_of w) = omega (arith, long) in
      let out : w.graph (end_of w) ≡ false = false_from_ne_true _ (λ there. let low = below (end_of w) there in absurd (omega (arith, low))) in
      let next : ℕ → Bool = λ n. (n == end_of w) || w.graph n in
      let more : count_below (suc (end_of w)) next ≡ suc (count_below (suc (end_of w)) w.graph) = count_more (suc (end_of w)) (end_of w) w.graph (omega arith) out in
      let top : count_below (suc (end_of w)) w.graph ≡ 0 + count_below (end_of w) w.graph = ap (λ (b : Bool). (if b then 1 else 0) + count_below (end_of w) w.graph) out in
      let count : count_below (length (w.history ++ Identity x value ∷ []) + 1) next ≡ count_below (suc (end_of w)) next = ap (λ (k : ℕ). count_below k next) ends in
      record {
        below = λ n there. elim (or_cases (n == end_of w) (w.graph n) there) [
          | inl here ↦ let e = eqb-true n (end_of w) here in omega (arith, e, ends)
          | inr old ↦ let low = below n old in omega (arith, low, ends)
        ];
        ends = omega (arith, ends);
        count = omega (arith, count, more, top);
      }
  balanced_step w Block_gate is below = unchanged w Block_gate (step m w Block_gate) refl refl refl refl below
  balanced_step w Checkpoint is below = unchanged w Checkpoint (step m w Checkpoint) refl refl refl refl below
  balanced_step w (Slot_gate node x) is below = unchanged w (Slot_gate node x) (step m w (Slot_gate node x)) refl refl refl refl below
  balanced_step w (Removal node) is below = record {
    below = λ n there. below n (and_parts (w.graph n) (not (node n)) there).0;
    ends = omega arith;
    count = let parts = count_parts (end_of w) w.graph node in omega (arith, parts);
  }
  balanced_step w (Header_gate base) is below = unchanged w (Header_gate base) (step m w (Header_gate base)) refl refl refl refl below
  balanced_step w Replay is below = absurd is
  balanced_step w Crash is below = absurd is

  pub balanced : (w : World O) (steps : List (Step O)) → AreUpkeep steps → AreBelow w → IsBalanced w steps (run m w steps)
  unfolding run
  balanced w [] are below = record { below = below; ends = omega arith; count = omega arith }
  balanced w (s ∷ steps) are below =
      let first = balanced_step w s are.0 below in
      let rest = balanced (step m w s) steps are.1 first.below in
      let all = length-append (logged_by s) (logged_in steps) in
      record { below = rest.below; ends = omega (arith, first.ends, rest.ends, all); count = omega (arith, first.count, rest.count, all) }

  -- as many members as entries
  pub members_counted : (p : Params) (d : Disk) (it : Parts) (w : World O) → Shows m p d it w → IsStrictlyIncreasing (lsns it.volatile.entries) → count_below (end_of w) w.graph ≡ length it.volatile.entries
  members_counted p d it w shows rising =
      let members = shows.store.members in
      let below = sound_below w shows.running.sound in
      count_same (end_of w) w.graph (λ n. is_among n (lsns it.volatile.entries)) (λ n lt. sym (members n))
      ∙ count_listed (end_of w) (lsns it.volatile.entries) (rises_apart (lsns it.volatile.entries) (rises_from_increasing (lsns it.volatile.entries) rising)) (λ y there. below y (sym (members y) ∙ there))
      ∙ length-map it.volatile.entries (λ (e : Entry). e.lsn)

  -- what calls log and remove in all, as the parts say it that show the worlds before and after
  pub told_counts : (p : Params) (old new : Disk) (before after : Parts) (w : World O) (steps : List (Step O)) → Shows m p old before w → Shows m p new after (run m w steps) → AreUpkeep steps
      → IsStrictlyIncreasing (lsns before.volatile.entries) → IsStrictlyIncreasing (lsns after.volatile.entries) → (ops identities : ℕ) → after.log.next ≡ before.log.next + identities
      → length after.volatile.entries + ops ≡ length before.volatile.entries + identities → (ops ≡ members_removed m w steps) × (identities ≡ length (logged_in steps))
  told_counts p old new before after w steps shows done are first last ops identities next entries =
      let all = balanced w steps are (sound_below w shows.running.sound) in
      let counted = members_counted p old before w shows first in
      let left = members_counted p new after (run m w steps) done last in
      let lsn = next_lsn m p old before w shows in
      let later = next_lsn m p new after (run m w steps) done in
      let same : identities ≡ length (logged_in steps) = omega (arith, lsn, later, all.ends, next) in
      (omega (arith, all.count, counted, left, entries, same), same)
