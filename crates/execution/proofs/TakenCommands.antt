-- What holds of a command of another log that is admitted, and then appended behind the room that was made.
use Rattle.std.proofs.Common.{◌≡◌, ◌∙◌, sym, subst, ap, ℕ, ◌<◌, List, map, refl, arith}
use Rattle.std.specs.Prelude.{IsTrue, None}
use Rattle.disk_model.specs.Disk.{Disk}
use Rattle.disk_model.specs.declared.machine.FileNo.TheVariants.{Objects}
use Rattle.oper_core.specs.Cell.{Cell}
use Rattle.oper_core.specs.Meaning.{Meaning, HasBounds, IsSmall, IsLawful, Accepts, read_values, refusal_of}
use Rattle.oper_core.specs.State.{is_among}
use Rattle.oper_core.specs.declared.bounds.Bounds.{Bounds}
use Rattle.formats.specs.Objects.{bounds_of}
use Rattle.formats.specs.declared.params.Params.{Params}
use Rattle.explain_core.specs.History.{effect_of, reads_of}
use Rattle.explain_core.specs.History.Member.{Command}
use Rattle.explain_core.specs.Sound.{IsSound}
use Rattle.explain_core.specs.World.{World, step, run, IsLive}
use Rattle.explain_core.specs.World.Step.{Append}
use Rattle.log_blocks.specs.LogView.{used_of}
use Rattle.running_store.specs.Steps.Appended.{appended_shows}
use Rattle.running_store.specs.Laid.Among.{all_among}
use Rattle.running_store.specs.Calls.Commands.{IsCommanded, IsReady, command_length}
use Rattle.running_store.specs.Courses.Growth.{growth_shown}
use Rattle.running_store.specs.Laid.{IsLaidOn, values_in}
use Rattle.running_store.specs.Parts.{IsAppended, Shows, meaning_in}
use Rattle.running_store.specs.Parts.Stored.{run_one}
use Rattle.running_store.specs.StoreView.{StoreView, store_params}
use Rattle.running_store.specs.Taking.{IsAfter}
use Rattle.execution.specs.Courses.{refusal_in}
use Rattle.execution.proofs.Admitted.{accepted, range_shown, read_here, ready_here, writes_there}
use Rattle.execution.proofs.Finished.{done_long}
use Rattle.execution.proofs.Followed.{behind_room, roomed}
use Rattle.execution.proofs.Judging.{command_may}
use Rattle.execution.proofs.Roomed.{course_cache}
use Rattle.execution.proofs.TakenMembers.{MayCome}

module _ {O : Type 0} (meaning : Bounds → Meaning O) (op : O) (old : Disk) (before : StoreView) (values : List (List ℕ)) (n : ℕ) (ready : IsReady meaning (store_params before) op values)
    (long : n ≡ command_length (meaning_in meaning (store_params before)) op) (bounded : (b : Bounds) → HasBounds b (meaning b)) (lawful : (b : Bounds) → IsSmall b → IsLawful (meaning b))
    (told : old.tells_files → IsLaidOn before.parts.volatile.objects (old.reads Objects) → values ≡ read_values (meaning_in meaning (store_params before)) (values_in before.parts.volatile.objects (old.reads Objects)) op) where
  module _ (q : Params) (w : World O) (shows : Shows (meaning_in meaning q) q old before.parts w) where
    abbrev m : Meaning O
    m = meaning_in meaning q

    said : values ≡ read_values (meaning_in meaning (store_params before)) (values_in before.parts.volatile.objects (old.reads Objects)) op
    said = told shows.told shows.store.laid

    not_refused : refusal_in m w op ≡ None
    not_refused = accepted meaning bounded lawful q old before.parts w shows op values ready said

    ready_there : IsReady meaning q op values
    ready_there = ready_here meaning bounded lawful q old before.parts w shows op values ready said

  -- it may come next
  pub command_comes : MayCome meaning n (Command op) old before.parts
  command_comes q w shows = (command_may (meaning_in meaning q) w op (not_refused q w shows), subst (λ (r : Params). n ≡ command_length (meaning_in meaning r) op) shows.store.params long)

  module _ (mid : Disk) (room after : StoreView) (params : store_params room ≡ store_params before) (done : IsCommanded meaning room after op values)
      (keeps : (b : Bounds) (w : World O) (o : O) → IsSound (meaning b) w → IsLive w → Accepts (meaning b) (λ x. (w.cache x).value) o → IsSound (meaning b) (step (meaning b) w (Append (Command o)))) where
    module _ (q : Params) (w : World O) (shows : Shows (meaning_in meaning q) q old before.parts w) where
      abbrev used : ℕ
      used = used_of before.parts.log.log

      -- the world that has the room
      abbrev v : World O
      v = run (m q w shows) w (roomed meaning n (Command op) (m q w shows) w used).steps

      abbrev made : List (List ℕ)
      made = (m q w shows).effect op values

      same : v.cache ≡ w.cache
      same = course_cache (m q w shows) w n used

      accepted_there : refusal_in (m q w shows) v op ≡ None
      accepted_there = ap (λ (c : ℕ → Cell). refusal_of (m q w shows) (λ x. (c x).value) op) same ∙ not_refused q w shows

      done_there : IsAppended (m q w shows) room.parts after.parts (Command op) made
      done_there = subst (λ (r : Params). IsAppended (meaning_in meaning r) room.parts after.parts (Command op) ((meaning_in meaning r).effect op values)) (params ∙ shows.store.params) done.appended

      made_is : made ≡ effect_of (m q w shows) (Command op) (map (λ (x : ℕ). (v.cache x).value) (reads_of (m q w shows) (Command op)))
      made_is =
          ap (λ (l : List (List ℕ)). (m q w shows).effect op l) (read_here meaning bounded lawful q old before.parts w shows op values ready (said q w shows))
          ∙ ap (λ (c : ℕ → Cell). (m q w shows).effect op (map (λ (x : ℕ). (c x).value) ((m q w shows).reads op))) (sym same)

      writes_below : (x : ℕ) → IsTrue (is_among x ((m q w shows).writes op)) → x < q.objects
      writes_below x among =
          all_among (λ y. y < q.objects) ((m q w shows).writes op) x
          (writes_there meaning bounded lawful q (range_shown meaning bounded lawful q old before.parts w shows) op (ready_there q w shows).shape ((m q w shows).writes op) refl) among

      -- it is appended there
      pub command_after : Shows (m q w shows) q mid room.parts v → IsAfter (m q w shows) q mid after.parts v (behind_room meaning n (Command op) (m q w shows) v (used_of room.parts.log.log))
      command_after there =
          let low = done.lsn in
          record {
            shows = subst (λ (u : World O). Shows (m q w shows) q mid after.parts u) (sym (run_one (m q w shows) v (Append (Command op))))
                (appended_shows (m q w shows) q mid room.parts after.parts (Command op) made v there done_there made_is writes_below (omega (arith, low), (ready_there q w shows).shape) low
                (keeps (bounds_of q) v op there.running.sound there.running.live accepted_there));
            used = done_long (m q w shows) op made room.parts after.parts done_there ∙ growth_shown (m q w shows) mid room.parts.log v (command_length (m q w shows) op) there.log
                ∙ ap (λ (k : ℕ). (behind_room meaning k (Command op) (m q w shows) v (used_of room.parts.log.log)).used) (sym (command_comes q w shows).1);
          }
