-- Commands that are appended alone leave what is stable as it is.
use Rattle.std.proofs.Common.{◌≡◌, ◌∙◌, sym, subst, ap, ℕ, ◌+◌, ◌-◌, ◌≤◌, ◌^◌, List, [], ◌∷◌, ◌++◌, length, take, drop, refl, inl, inr, ◌⊎◌, ⊎_elim, arith, length-append}
use Rattle.std.proofs.lemmas.List.{take-append-le}
use Rattle.disk_model.specs.Disk.{Disk, Files, LeavesOnly}
use Rattle.disk_model.specs.Silent.{IsSilent, silent_weaker}
use Rattle.oper_core.specs.Meaning.{Meaning}
use Rattle.oper_core.specs.declared.bounds.Bounds.{Bounds}
use Rattle.formats.specs.declared.params.Params.{Params}
use Rattle.explain_core.specs.History.{Member, commands_of}
use Rattle.explain_core.specs.History.Member.{Command}
use Rattle.explain_core.specs.RunLaws.{Begins, begins-all, begins-empty, begins-first}
use Rattle.explain_core.specs.Sound.{IsSound}
use Rattle.explain_core.specs.Stable.{Stable, stable_of}
use Rattle.explain_core.specs.World.{Step, World, end_of, run, step}
use Rattle.explain_core.specs.World.Step.{Append}
use Rattle.running_store.specs.Calls.{IsFailed}
use Rattle.running_store.specs.Steps.Appended.{next_lsn}
use Rattle.running_store.specs.Taking.{Ending}
use Rattle.running_store.specs.Taking.Ending.{Done, Stopped, Short, Failed}
use Rattle.standing.specs.Moments.{ShowsSome}
use Rattle.standing.specs.Standing.{FilesShow, HoldsStable, StandsFor}
use Rattle.store_engine.specs.Counts.{forced_shown, take-commands}
use Rattle.store_engine.specs.Engine.{EngineView, Holds, ShowsIn, forced_in, used_in}
use Rattle.store_engine.specs.Grouping.{ungrouped}
use Rattle.store_engine.specs.Lists.{AddsFront, EndsBy, HasReached, commands_course}
use Rattle.store_engine.specs.Store.{Stands, meaning_in}
use Rattle.transactions.specs.Room.{HasRoomFor}
use Rattle.transactions.proofs.RoomLemmas.{appends, are_appends, none_stopped}

-- what is stable of a world is what is stable of another
record IsAsStable {O : Type 0} (w v : World O) : Type 0 where
  pub stable : stable_of v ≡ stable_of w
  pub front : take v.forced v.history ≡ take w.forced w.history
  pub within : v.forced ≤ length v.history

unless_failed : (e : Ending) → IsFailed e ⊎ (IsFailed e → ⊥)
unless_failed Done = inr (λ failed. failed)
unless_failed (Stopped stop) = inr (λ failed. failed)
unless_failed Short = inr (λ failed. failed)
unless_failed Failed = inl tt

module _ {O : Type 0} (m : Meaning O) where
  same_stable : (w : World O) → w.forced ≤ length w.history → IsAsStable w w
  same_stable w within = record { stable = refl; front = refl; within = within }

  joined_stable : (w v u : World O) → IsAsStable w v → IsAsStable v u → IsAsStable w u
  joined_stable w v u first second = record { stable = second.stable ∙ first.stable; front = second.front ∙ first.front; within = second.within }

  one_stable : (w : World O) (op : O) → w.forced ≤ length w.history → IsAsStable w (step m w (Append (Command op)))
  unfolding step
  one_stable w op within =
      let front = take-append-le w.forced w.history (Command op ∷ []) within in
      record {
        stable = ap (λ (h : List (Member O)). record { slots = w.slots; tables = w.tables; base = w.base; commands_before = w.commands_before; records = drop (w.base - 1) h }) front;
        front = front;
        within = omega (arith, within, length-append w.history (Command op ∷ []));
      }

  some_stable : (ops : List O) (taken : List (Step O)) (w : World O) → w.forced ≤ length w.history → Begins (appends ops) taken → IsAsStable w (run m w taken)
  unfolding run
  some_stable [] taken w within begins = subst (λ (l : List (Step O)). IsAsStable w (run m w l)) (sym (begins-empty taken begins)) (same_stable w within)
  some_stable (op ∷ ops) taken w within begins = elim (begins-first (Append (Command op)) (appends ops) taken (λ g same. cc) begins) [
    | inl none ↦ subst (λ (l : List (Step O)). IsAsStable w (run m w l)) (sym none) (same_stable w within)
    | inr more ↦
        let one = one_stable w op within in
        subst (λ (l : List (Step O)). IsAsStable w (run m w l)) (sym more.1)
        (joined_stable w (step m w (Append (Command op))) (run m (step m w (Append (Command op))) more.0) one (some_stable ops more.0 (step m w (Append (Command op))) one.within more.2))
  ]

module _ {O : Type 0} (meaning : Bounds → Meaning O) (p : Params) (old new : Disk) (before after : EngineView) (commands ops : List O) (holds : Holds meaning p old before commands)
    (room : HasRoomFor meaning before ops) (lsns : before.parts.log.next + length ops ≤ 2 ^ 62) (ending : Ending) (adds : AddsFront meaning p old new before after holds.world commands ops ending) where
  abbrev m : Meaning O
  m = meaning_in meaning p

  abbrev w : World O
  w = holds.world

  low : end_of w + length ops ≤ 2 ^ 62
  low = omega (arith, lsns, next_lsn m p old before.parts (ungrouped w) holds.shows.shows)

  part_stable : (taken : List (Step O)) → Begins (commands_course m p.limit ops w (used_in before)).steps taken → IsAsStable w (run m w taken)
  part_stable taken begins = some_stable m ops taken w holds.shows.sound.forced (subst (λ (l : List (Step O)). Begins l taken) (are_appends meaning p old before w holds.shows ops room low) begins)

  -- so each image stands for what was forced
  still_stands : ((files : Files) (w : World O) → IsSound m w → FilesShow m p files w → StandsFor meaning p files (commands_of (take w.forced w.history)))
      → (files : Files) → ShowsSome m p w (commands_course m p.limit ops w (used_in before)).steps files → Stands meaning p files (take (forced_in before) commands)
  still_stands stand files is =
      let shown : FilesShow m p files w = subst (λ (s : Stable O). HoldsStable m p files s) (part_stable is.taken is.begins).stable is.holds in
      let count = forced_shown m p old before.parts (ungrouped w) holds.shows.shows in
      let these : take (forced_in before) commands ≡ commands_of (take w.forced w.history) = (λ i. take (count i) (sym holds.commands_are i)) ∙ take-commands w.forced w.history in
      subst (λ (l : List O). StandsFor meaning p files l) (sym these) (stand files w holds.shows.sound shown)

  pub still_images : ((files : Files) (w : World O) → IsSound m w → FilesShow m p files w → StandsFor meaning p files (commands_of (take w.forced w.history)))
      → old.tells_moments → LeavesOnly old new (IsSilent (λ files. Stands meaning p files (take (forced_in before) commands)) old.said)
  still_images stand told =
      silent_weaker old new (ShowsSome m p w (commands_course m p.limit ops w (used_in before)).steps) (λ files. Stands meaning p files (take (forced_in before) commands)) (still_stands stand) (adds.steps told)

  -- the world that is reached is one after some of the appends
  reached_stable : (e : Ending) → ending ≡ e → (IsFailed e → ⊥) → (v : World O) → EndsBy m w (commands_course m p.limit ops w (used_in before)) v (used_in after) e → IsAsStable w v
  reached_stable Done is fine v ends = subst (λ (u : World O). IsAsStable w u) (sym ends.1.world_is) (part_stable (commands_course m p.limit ops w (used_in before)).steps (begins-all (commands_course m p.limit ops w (used_in before)).steps))
  reached_stable (Stopped stop) is fine v ends =
      absurd (none_stopped meaning p old before w holds.shows ops room low new after commands stop (subst (λ (e : Ending). AddsFront meaning p old new before after w commands ops e) is adds))
  reached_stable Short is fine v ends = subst (λ (u : World O). IsAsStable w u) (sym ends.holds) (part_stable ends.taken ends.begins)
  reached_stable Failed is fine v ends = absurd (fine tt)

  -- and as many commands are forced
  pub still_forced : (IsFailed ending → ⊥) → (has : HasReached meaning p new after w (used_in before) ops (commands ++ take adds.done ops) ending) → forced_in after ≡ forced_in before
  still_forced fine has =
      let front = (reached_stable ending refl fine has.world has.ends).front in
      forced_shown m p new after.parts (ungrouped has.world) has.shows.shows ∙ ap (λ (h : List (Member O)). length (commands_of h)) front
      ∙ sym (forced_shown m p old before.parts (ungrouped w) holds.shows.shows)

  -- what is there of it, unless the disk failed
  pub cut_lazily : IsFailed ending ⊎ ((done : ℕ) × Holds meaning p new after (commands ++ take done ops) × (forced_in after ≡ forced_in before))
  cut_lazily = ⊎_elim (λ failed. inl failed) (λ fine. ⊎_elim (λ failed. inl failed)
      (λ has. inr (adds.done, record { world = has.world; shows = has.shows; commands_are = has.commands_are }, still_forced fine has)) adds.kept) (unless_failed ending)
