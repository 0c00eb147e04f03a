-- What calls add that are made after others.
use Rattle.std.proofs.Common.{◌≡◌, ◌∙◌, sym, subst, ap, ℕ, ◌+◌, ◌≤◌, List, [], ◌++◌, length, take, refl, inl, inr, ◌⊎◌, ⊎_elim, Option, None, Some, arith, length-append, append_assoc}
use Rattle.std.proofs.Math.Seq.{drop-append-add, take-append-add, take-length}
use Rattle.std.proofs.lemmas.List.{append-nil, take-append-le}
use Rattle.disk_model.specs.Disk.{Files, Disk, IsDisk, LeavesOnly, Stays}
use Rattle.disk_model.specs.Moments.{passes_twice, runs_on, weaker}
use Rattle.disk_model.specs.Silent.{IsSilent}
use Rattle.oper_core.specs.Meaning.{Meaning}
use Rattle.oper_core.specs.declared.bounds.Bounds.{Bounds}
use Rattle.formats.specs.declared.params.Params.{Params}
use Rattle.log_blocks.specs.LogView.{used_of}
use Rattle.log_records.specs.RecordLog.{RecordLogView}
use Rattle.explain_core.specs.History.{commands_of}
use Rattle.explain_core.specs.World.{World}
use Rattle.standing.specs.Moments.{ShowsSome, TakesSome, moments_longer, moments_twice}
use Rattle.standing.specs.Standing.{StandsFor}
use Rattle.running_store.specs.Courses.Laws.{joined}
use Rattle.running_store.specs.Courses.{Course, Stop}
use Rattle.running_store.specs.Taking.{Ending}
use Rattle.running_store.specs.Taking.Ending.{Done, Stopped, Short, Failed}
use Rattle.store_engine.specs.Engine.{EngineView, Between, ShowsIn, commands_since, forced_in, group_size, used_in}
use Rattle.store_engine.specs.ImageLaws.{leaves_still}
use Rattle.store_engine.specs.Store.{meaning_in}
use Rattle.store_engine.specs.Lists.{AddsFront, HasReached, IsNeed, IsStoppedAt, commands_course, larger}
use Rattle.store_engine.proofs.ListCourses.{course_behind, ends_joined, ends_short}

larger_twice : (size : Option ℕ) (a b : ℕ) → larger (larger size a) b ≡ larger size (a + b)
larger_twice None a b = refl
larger_twice (Some n) a b = ap (λ (k : ℕ). Some k) (omega arith)

module _ {O : Type 0} (meaning : Bounds → Meaning O) (p : Params) where
  -- An image between some commands is one between more, since an earlier moment: the forced ones are as many as then, or at
  -- least all of the start.
  pub between_more : (old mid : Disk) (group : Option ℕ) (forced before start later : ℕ) (commands more : List O) (files : Files) (said : List ℕ) → mid.said ≡ old.said → before ≤ forced
      → (forced ≡ before) ⊎ ((group ≡ None) × (start ≤ forced)) → start ≤ later
      → Between meaning p mid group forced later commands files said → Between meaning p old group before start (commands ++ more) files said
  between_more old mid group forced before start later commands more files said quiet fewer either on is = record {
    quiet = is.quiet ∙ quiet;
    kept = is.kept;
    enough = omega (arith, is.enough, fewer);
    within = omega (arith, is.within, length-append commands more);
    which = ⊎_elim
        (λ as_many. ⊎_elim (λ same. inl (as_many ∙ same)) (λ (all : (group ≡ None) × (start ≤ forced)). inr (all.0, omega (arith, as_many, all.1))) either)
        (λ (all : (group ≡ None) × (later ≤ is.kept)). inr (all.0, omega (arith, all.1, on))) is.which;
    stands = subst (λ (l : List O). StandsFor meaning p files l) (sym (take-append-le is.kept commands more is.within)) is.stands;
  }

  -- so are all images of a call
  pub leaves_more : (old mid new : Disk) (group : Option ℕ) (forced before start later : ℕ) (commands more all : List O) → mid.said ≡ old.said → before ≤ forced
      → (forced ≡ before) ⊎ ((group ≡ None) × (start ≤ forced)) → start ≤ later → commands ++ more ≡ all
      → LeavesOnly mid new (Between meaning p mid group forced later commands) → LeavesOnly mid new (Between meaning p old group before start all)
  leaves_more old mid new group forced before start later commands more all quiet fewer either on is leaves =
      weaker mid new (Between meaning p mid group forced later commands) (Between meaning p old group before start all) leaves
      (λ files said between. subst (λ (l : List O). Between meaning p old group before start l files said) is (between_more old mid group forced before start later commands more files said quiet fewer either on between))

  module _ (old mid new : Disk) (before between after : EngineView) (w : World O) (commands front : List O) (lawful_mid : IsDisk mid) (lawful_new : IsDisk new)
      (first : AddsFront meaning p old mid before between w commands front Done) where
    abbrev m : Meaning O
    m = meaning_in meaning p

    -- all of it is added
    abbrev count : first.done ≡ length front
    count = first.all refl

    abbrev taken : take first.done front ≡ front
    taken = ap (λ (n : ℕ). take n front) count ∙ take-length front

    abbrev reached : HasReached meaning p mid between w (used_in before) front (commands ++ take first.done front) Done
    reached = ⊎_elim (λ failed. absurd failed) (λ has. has) first.kept

    abbrev reached_are : commands_of reached.world.history ≡ commands ++ front
    reached_are = reached.commands_are ∙ ap (λ (l : List O). commands ++ l) taken

    -- its course, and what follows it
    abbrev one : Course O
    one = commands_course m p.limit front w (used_in before)

    abbrev all_of : List O → Course O
    all_of rest = commands_course m p.limit (front ++ rest) w (used_in before)

    abbrev next : List O → Course O
    next rest = commands_course m p.limit rest reached.world (used_in between)

    behind_one : (rest : List O) → all_of rest ≡ joined one (next rest)
    behind_one rest = course_behind m p.limit front rest w reached.world (used_in before) (used_in between) reached.ends

    -- some first steps of it are some of a longer one
    longer : (now : Disk) (rest : List O) → TakesSome m p old now w one.steps → TakesSome m p old now w (all_of rest).steps
    longer now rest takes = subst (λ (c : Course O). TakesSome m p old now w c.steps) (sym (behind_one rest)) (moments_longer m p old now w one.steps (next rest).steps takes)

    -- a machine that reads alone
    still_takes : Stays mid new → old.tells_moments → TakesSome m p old new w one.steps
    still_takes stays told = leaves_still old mid new (IsSilent (ShowsSome m p w one.steps) old.said) lawful_mid first.time stays told (first.steps told)

    risen : forced_in before ≤ forced_in between
    risen = ⊎_elim (λ failed. absurd failed) (λ rising. rising) first.rising

    risen_so : (forced_in between ≡ forced_in before) ⊎ ((before.group ≡ None) × (length commands ≤ forced_in between))
    risen_so = ⊎_elim (λ failed. absurd failed) (λ which. which) first.which

    -- nothing was said
    quiet : old.tells_moments → mid.said ≡ old.said
    quiet told =
        let told_mid = first.time.moments_told.0 told in
        ((first.images told).each mid.reads mid.said (lawful_mid.among old.clock mid.clock mid.reads mid.said first.time.later (omega arith) (lawful_mid.as_read told_mid))).quiet

    module _ (ops : List O) (ending : Ending)
        (adds : (v : World O) → ShowsIn meaning p mid between v → commands_of v.history ≡ commands ++ front → AddsFront meaning p mid new between after v (commands ++ front) ops ending) where
      abbrev second : AddsFront meaning p mid new between after reached.world (commands ++ front) ops ending
      second = adds reached.world reached.shows reached_are

      abbrev n : ℕ
      n = length front + second.done

      all_added : (commands ++ front) ++ take second.done ops ≡ commands ++ take n (front ++ ops)
      all_added = append_assoc commands front (take second.done ops) ∙ ap (λ (l : List O). commands ++ l) (sym (take-append-add front ops second.done))

      first_added : (commands ++ take first.done front) ++ take second.done ops ≡ commands ++ take n (front ++ ops)
      first_added = ap (λ (l : List O). (commands ++ l) ++ take second.done ops) taken ∙ all_added

      further : HasReached meaning p new after reached.world (used_in between) ops ((commands ++ front) ++ take second.done ops) ending
          → HasReached meaning p new after w (used_in before) (front ++ ops) (commands ++ take n (front ++ ops)) ending
      further has = record {
        world = has.world;
        shows = has.shows;
        commands_are = has.commands_are ∙ all_added;
        ends = ends_joined m p.limit front ops w reached.world has.world (used_in before) (used_in between) (used_in after) ending reached.ends has.ends;
      }

      -- the group has those of both
      size_there : larger (group_size between) second.done ≡ larger (group_size before) n
      size_there =
          ap (λ (o : Option ℕ). larger o second.done) (first.size ∙ ap (λ (k : ℕ). larger (group_size before) k) count)
          ∙ larger_twice (group_size before) (length front) second.done

      stopped_there : (stop : Stop) → ending ≡ Stopped stop → IsStoppedAt meaning p (group_size before) (front ++ ops) n stop
      stopped_there stop is =
          let at = second.stopped stop is in
          record { op = at.op; rest = at.rest; here = drop-append-add front ops second.done ∙ at.here; need = subst (λ (o : Option ℕ). IsNeed meaning p o at.op stop) size_there at.need }

      -- the forced ones are as many as at first, or at least all of the start
      which_there : (forced_in after ≡ forced_in between) ⊎ ((between.group ≡ None) × (length (commands ++ front) ≤ forced_in after)) → forced_in between ≤ forced_in after
          → (forced_in after ≡ forced_in before) ⊎ ((before.group ≡ None) × (length commands ≤ forced_in after))
      which_there second_so rising =
          ⊎_elim
          (λ same. ⊎_elim (λ also. inl (same ∙ also)) (λ (all : (before.group ≡ None) × (length commands ≤ forced_in between)). inr (all.0, omega (arith, all.1, rising))) risen_so)
          (λ (all : (between.group ≡ None) × (length (commands ++ front) ≤ forced_in after)). inr (sym first.group ∙ all.0, omega (arith, all.1, length-append commands front))) second_so

      pub front_joined : AddsFront meaning p old new before after w commands (front ++ ops) ending
      front_joined = record {
        time = passes_twice old mid new lawful_new first.time second.time;
        done = n;
        front = omega (arith, second.front, length-append front ops);
        all = λ is. omega (arith, second.all is, length-append front ops);
        kept = ⊎_elim (λ failed. inl failed) (λ has. inr (further has)) second.kept;
        rising = ⊎_elim (λ failed. inl failed) (λ rising. inr (omega (arith, rising, risen))) second.rising;
        which = ⊎_elim (λ failed. inl failed) (λ so. ⊎_elim (λ failed. inl failed) (λ rising. inr (which_there so rising)) second.rising) second.which;
        group = second.group ∙ first.group;
        size = second.size ∙ size_there;
        stopped = stopped_there;
        identities = second.identities ∙ first.identities;
        images = λ told.
            runs_on old mid new (Between meaning p old before.group (forced_in before) (length commands) (commands ++ take n (front ++ ops)))
            (leaves_more old old mid before.group (forced_in before) (forced_in before) (length commands) (length commands) (commands ++ take first.done front) (take second.done ops) (commands ++ take n (front ++ ops)) refl (omega arith) (inl refl) (omega arith) first_added (first.images told))
            (leaves_more old mid new before.group (forced_in between) (forced_in before) (length commands) (length (commands ++ front)) ((commands ++ front) ++ take second.done ops) [] (commands ++ take n (front ++ ops)) (quiet told) risen risen_so (omega (arith, length-append commands front)) (append-nil ((commands ++ front) ++ take second.done ops) ∙ all_added)
            (subst (λ (o : Option ℕ). LeavesOnly mid new (Between meaning p mid o (forced_in between) (length (commands ++ front)) ((commands ++ front) ++ take second.done ops))) first.group (second.images (first.time.moments_told.0 told))));
        steps = λ told.
            subst (λ (c : Course O). TakesSome m p old new w c.steps) (sym (behind_one ops))
            (moments_twice m p old mid new w one.steps (next ops).steps (quiet told) (first.steps told)
            (subst (λ (u : World O). TakesSome m p mid new u (next ops).steps) reached.ends.1.world_is (second.steps (first.time.moments_told.0 told))));
      }

    -- a call that leaves log and group leaves the number of the group's commands
    still_size : after.parts.log ≡ between.parts.log → after.group ≡ between.group → group_size after ≡ group_size between
    still_size log same_group = λ i. commands_since (log i).next (same_group i)

    -- a call that reads alone, and after which engine and files show what they showed
    pub front_still : Stays mid new → after.parts.log ≡ between.parts.log → after.group ≡ between.group → after.identities ≡ between.identities → ((v : World O) → ShowsIn meaning p mid between v → ShowsIn meaning p new after v)
        → AddsFront meaning p old new before after w commands front Done
    front_still stays log same_group counted shows = record {
      time = passes_twice old mid new lawful_new first.time stays.time;
      done = first.done;
      front = first.front;
      all = first.all;
      kept = inr (record {
        world = reached.world;
        shows = shows reached.world reached.shows;
        commands_are = reached.commands_are;
        ends = (reached.ends.0, record { world_is = reached.ends.1.world_is; used_is = ap (λ (l : RecordLogView). used_of l.log) log ∙ reached.ends.1.used_is });
      });
      rising = inr (omega (arith, risen, ap (λ (l : RecordLogView). l.forced) log));
      which = inr (⊎_elim (λ same. inl (ap (λ (l : RecordLogView). l.forced) log ∙ same)) (λ (all : (before.group ≡ None) × (length commands ≤ forced_in between)). inr (all.0, omega (arith, all.1, ap (λ (l : RecordLogView). l.forced) log))) risen_so);
      group = same_group ∙ first.group;
      size = still_size log same_group ∙ first.size;
      stopped = first.stopped;
      identities = counted ∙ first.identities;
      images = λ told. leaves_still old mid new (Between meaning p old before.group (forced_in before) (length commands) (commands ++ take first.done front)) lawful_mid first.time stays told (first.images told);
      steps = still_takes stays;
    }

    still_front : (rest : List O) → take first.done (front ++ rest) ≡ take first.done front
    still_front rest = take-append-le first.done front rest first.front

    -- a call that reads alone, in which the disk fails
    pub front_failed : Stays mid new → after.parts.log ≡ between.parts.log → after.group ≡ between.group → after.identities ≡ between.identities → (rest : List O) → AddsFront meaning p old new before after w commands (front ++ rest) Failed
    front_failed stays log same_group counted rest = record {
      time = passes_twice old mid new lawful_new first.time stays.time;
      done = first.done;
      front = omega (arith, first.front, length-append front rest);
      all = λ e. cc;
      kept = inl tt;
      rising = inl tt;
      which = inl tt;
      group = same_group ∙ first.group;
      size = still_size log same_group ∙ first.size;
      stopped = λ stop e. cc;
      identities = counted ∙ first.identities;
      images = λ told.
          subst (λ (l : List O). LeavesOnly old new (Between meaning p old before.group (forced_in before) (length commands) (commands ++ l))) (sym (still_front rest))
          (leaves_still old mid new (Between meaning p old before.group (forced_in before) (length commands) (commands ++ take first.done front)) lawful_mid first.time stays told (first.images told));
      steps = λ told. longer new rest (still_takes stays told);
    }

    -- memory runs out here, whatever would have come
    pub front_short : (rest : List O) → AddsFront meaning p old mid before between w commands (front ++ rest) Short
    front_short rest = record {
      time = first.time;
      done = first.done;
      front = omega (arith, first.front, length-append front rest);
      all = λ e. cc;
      kept = inr (record {
        world = reached.world;
        shows = reached.shows;
        commands_are = reached.commands_are ∙ ap (λ (l : List O). commands ++ l) (sym (still_front rest));
        ends = ends_short m p.limit front rest w reached.world (used_in before) (used_in between) reached.ends;
      });
      rising = inr risen;
      which = inr risen_so;
      group = first.group;
      size = first.size;
      stopped = λ stop e. cc;
      identities = first.identities;
      images = λ told. subst (λ (l : List O). LeavesOnly old mid (Between meaning p old before.group (forced_in before) (length commands) (commands ++ l))) (sym (still_front rest)) (first.images told);
      steps = λ told. longer mid rest (first.steps told);
    }
