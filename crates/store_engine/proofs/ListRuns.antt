-- What one command adds, by what `exec` says of it.
use Rattle.std.proofs.Common.{◌≡◌, ◌∙◌, sym, subst, ap, ℕ, ◌≤◌, false, List, [], ◌∷◌, ◌++◌, length, refl, inl, inr, ◌⊎◌, ⊎_elim, Option, None, Some, arith}
use Rattle.std.specs.Prelude.{◌+◌, Bool, true, Result, Ok, Err, IfSome}
use Rattle.std.specs.Option.{is_some}
use Rattle.std.proofs.lemmas.List.{append-nil}
use Rattle.std.proofs.Math.Path.{fun_ext}
use Rattle.disk_model.specs.Disk.{Disk, LeavesOnly}
use Rattle.oper_core.specs.Meaning.{Meaning, refusal_of}
use Rattle.oper_core.specs.State.{State}
use Rattle.oper_core.specs.declared.bounds.Bounds.{Bounds}
use Rattle.oper_core.specs.declared.refusal.Refusal.{Refusal}
use Rattle.formats.specs.declared.params.Params.{Params}
use Rattle.log_records.specs.RecordLog.{RecordLogView}
use Rattle.explain_core.specs.History.{commands_of}
use Rattle.explain_core.specs.Sound.{IsGroup}
use Rattle.explain_core.specs.Taken.{IsAfterSome, after_longer}
use Rattle.explain_core.specs.World.{World, Step, run}
use Rattle.standing.specs.Moments.{TakesSome, moments_longer}
use Rattle.running_store.specs.Courses.Laws.{behind_both}
use Rattle.running_store.specs.Courses.{Course, Stop, course, is_through}
use Rattle.running_store.specs.Courses.Stop.{Through, Full, At_end}
use Rattle.running_store.specs.Steps.Appended.{next_lsn}
use Rattle.running_store.specs.Taking.{Ending}
use Rattle.running_store.specs.Taking.Ending.{Done, Stopped, Short, Failed}
use Rattle.execution.specs.Counted.{accepted_shown}
use Rattle.execution.specs.Done.{LogWithout}
use Rattle.execution.specs.Courses.{append_course, exec_course, refusal_in, unless_refused}
use Rattle.execution.specs.declared.exec_err.ExecErr.{ExecErr}
use Rattle.execution.specs.declared.exec_err.ExecErr.TheVariants.{Refused, LogFull, LsnEnd, DiskFault, Damaged, Memory}
use Rattle.running_store.specs.Calls.{IsFailed}
use Rattle.store_engine.specs.Engine.{EngineView, Between, FollowsIn, Holds, IsAfterIn, Kept, ShowsIn, accepted_in, commands_since, forced_in, group_size, params_of, used_in}
use Rattle.store_engine.specs.Grouping.{ungrouped}
use Rattle.store_engine.specs.Store.{meaning_in, refusal_after}
use Rattle.store_engine.specs.Lists.{AddsFront, ComesNext, EndsBy, HasReached, IsNeed, IsCutOff, IsStoppedAt, IsUnfinished, commands_course, ending_of, larger}
use Rattle.store_engine.specs.Commands.{HasRun}
use Rattle.store_engine.proofs.ListCourses.{IsSameWhereAsMany, commands_stopped, commands_through, course_of_one, course_stopped, same_commands, same_none}
use Rattle.store_engine.proofs.ListEndings.{EndsWithNoFault, IsUnstopped}
use Rattle.store_engine.proofs.Holding.{IsLiveMap}
use Rattle.store_engine.proofs.ListFronts.{leaves_more}
use Rattle.store_engine.proofs.ListStart.{larger_none}

-- what a call was stopped by
abbrev stop_of : Ending → Stop
stop_of (Stopped stop) = stop
stop_of Done = Through
stop_of Short = Through
stop_of Failed = Through

-- a command that is not done takes no LSN
same_next : (grouped : Bool) (before log : RecordLogView) (e : ExecErr) → LogWithout grouped before log e → log.next ≡ before.next
same_next true before log (LogFull used need limit) is = ap (λ (l : RecordLogView). l.next) is
same_next false before log (LogFull used need limit) is = ap (λ (l : RecordLogView). l.next) is
same_next true before log (LsnEnd lsn) is = ap (λ (l : RecordLogView). l.next) is
same_next false before log (LsnEnd lsn) is = ap (λ (l : RecordLogView). l.next) is
same_next grouped before log (Refused refusal) is = ap (λ (l : RecordLogView). l.next) is
same_next grouped before log DiskFault is = ap (λ (l : RecordLogView). l.next) is
same_next grouped before log (Damaged file place) is = ap (λ (l : RecordLogView). l.next) is
same_next grouped before log Memory is = ap (λ (l : RecordLogView). l.next) is

module _ {O : Type 0} (meaning : Bounds → Meaning O) (p : Params) (old new : Disk) (before after : EngineView) (w : World O) (shows : ShowsIn meaning p old before w) (commands : List O) (are : commands_of w.history ≡ commands) (op : O) where
  abbrev m : Meaning O
  m = meaning_in meaning p

  abbrev used : ℕ
  used = used_in before

  abbrev one : Course O
  one = append_course m (is_some w.group) p.limit op w used

  holds : Holds meaning p old before commands
  holds = record { world = w; shows = shows; commands_are = are }

  params : params_of before ≡ p
  params = shows.shows.store.params

  as_many : accepted_in before ≡ length commands
  as_many = accepted_shown m p old before.parts (ungrouped w) shows.shows ∙ ap (λ (l : List O). length l) are

  -- as many are forced, or all, where no group is open
  which_of : {others : List O} → Kept meaning p before new after others → (forced_in after ≡ forced_in before) ⊎ ((before.group ≡ None) × (length commands ≤ forced_in after))
  which_of kept =
      ⊎_elim (λ (same : forced_in after ≡ forced_in before). inl same) (λ (all : (before.group ≡ None) × (accepted_in before ≤ forced_in after)). inr (all.0, omega (arith, all.1, as_many))) kept.which

  -- the open group has one more command, where one is done, and else as many
  more_size : after.group ≡ before.group → after.parts.log.next ≡ before.parts.log.next + 1 → group_size after ≡ larger (group_size before) 1
  more_size same_group next = (λ i. commands_since (next i) (same_group i)) ∙ by_group before.group refl
    where
      by_group : (group : Option ℕ) → before.group ≡ group → commands_since (before.parts.log.next + 1) before.group ≡ larger (group_size before) 1
      by_group None is = ap (λ (o : Option ℕ). commands_since (before.parts.log.next + 1) o) is ∙ sym (ap (λ (o : Option ℕ). larger (commands_since before.parts.log.next o) 1) is)
      by_group (Some begun) is =
          let in_group = subst (λ (o : Option ℕ). IfSome o (IsGroup w.history w.forced)) (shows.group ∙ is) shows.sound.group in
          ap (λ (o : Option ℕ). commands_since (before.parts.log.next + 1) o) is
          ∙ ap (λ (k : ℕ). Some k) (omega (arith, in_group.stable, shows.sound.forced, next_lsn m p old before.parts (ungrouped w) shows.shows))
          ∙ sym (ap (λ (o : Option ℕ). larger (commands_since before.parts.log.next o) 1) is)

  same_size : after.group ≡ before.group → after.parts.log.next ≡ before.parts.log.next → group_size after ≡ larger (group_size before) 0
  same_size same_group next = (λ i. commands_since (next i) (same_group i)) ∙ larger_none (group_size before)

  -- the course is that of the command where nothing refuses it, and else none
  accepted_course : refusal_in m w op ≡ None → exec_course m (is_some w.group) (params_of before).limit op w used ≡ one
  accepted_course none =
      ap (λ (q : Params). exec_course m (is_some w.group) q.limit op w used) params ∙ ap (λ (o : Option Refusal). unless_refused used one o) none

  refused_course : (r : Refusal) → refusal_in m w op ≡ Some r → exec_course m (is_some w.group) (params_of before).limit op w used ≡ course [] used Through
  refused_course r is =
      ap (λ (q : Params). exec_course m (is_some w.group) q.limit op w used) params ∙ ap (λ (o : Option Refusal). unless_refused used one o) is

  -- the first steps of it are an exec's images
  module _ (r : Result ℕ ExecErr) (ran : HasRun meaning old new before after op r) where
    images_of : (more all : List O) → commands ++ more ≡ all → old.tells_moments → LeavesOnly old new (Between meaning p old before.group (forced_in before) (length commands) all)
    images_of more all is told =
        leaves_more meaning p old old new before.group (forced_in before) (forced_in before) (length commands) (accepted_in before) commands more all refl (omega arith) (inl refl) (omega (arith, as_many)) is
        (ran.images told p commands holds)

    -- and show some first steps of its course
    takes_of : (c : Course O) → exec_course m (is_some w.group) (params_of before).limit op w used ≡ c → old.tells_moments → TakesSome m p old new w c.steps
    takes_of c is told = subst (λ (d : Course O). TakesSome m p old new w d.steps) is (ran.takes.steps told p w shows)

    counted : after.identities ≡ before.identities
    counted = omega (arith, ran.call.identities)

  pub ran_done : (n : ℕ) → HasRun meaning old new before after op (Ok n) → AddsFront meaning p old new before after w commands (op ∷ []) Done
  ran_done n ran =
      let kept : Kept meaning p before new after (commands ++ op ∷ []) = ran.ok p commands holds in
      let f = ran.takes.follows p w shows in
      let is = accepted_course (ran.in_world p w shows).0 in
      let through : one.stop ≡ Through = ap (λ (c : Course O). c.stop) (sym is) ∙ f.0 in
      let there : IsAfterIn meaning p new after w one = subst (λ (c : Course O). IsAfterIn meaning p new after w c) is f.1 in
      let alone = course_of_one m p.limit op w used through in
      let here : EndsBy m w (course (one.steps ++ []) one.used Through) (run m w one.steps) (used_in after) Done =
      (refl, record { world_is = ap (λ (l : List (Step O)). run m w l) (sym (append-nil one.steps)); used_is = there.used }) in
      record {
        time = ran.call.time;
        done = 1;
        front = omega arith;
        all = λ e. refl;
        kept = inr (record {
          world = run m w one.steps;
          shows = there.shows;
          commands_are = commands_through m p.limit op w used through ∙ ap (λ (l : List O). l ++ op ∷ []) are;
          ends = subst (λ (c : Course O). EndsBy m w c (run m w one.steps) (used_in after) Done) (sym alone) here;
        });
        rising = inr kept.rising;
        which = inr (which_of kept);
        group = ran.call.group;
        size = more_size ran.call.group (ap (λ (l : RecordLogView). l.next) ran.outcome.log);
        stopped = λ stop e. absurd (subst IsUnstopped e tt);
        identities = counted (Ok n) ran;
        images = images_of (Ok n) ran (op ∷ []) (commands ++ op ∷ []) refl;
        steps = λ told.
            subst (λ (c : Course O). TakesSome m p old new w c.steps) (sym alone)
            (subst (λ (l : List (Step O)). TakesSome m p old new w l) (sym (append-nil one.steps)) (takes_of (Ok n) ran one is told));
      }

  abbrev failed : ExecErr → Result ℕ ExecErr
  failed e = Err e

  kept_of : (e : ExecErr) → (failed e ≡ failed DiskFault → ⊥) → HasRun meaning old new before after op (Err e) → Kept meaning p before new after commands
  kept_of e other ran = ⊎_elim (λ fault. absurd (other fault)) (λ kept. kept) (ran.err p commands holds)

  none_size : (e : ExecErr) → HasRun meaning old new before after op (Err e) → group_size after ≡ larger (group_size before) 0
  none_size e ran = same_size ran.call.group (same_next (is_some before.group) before.parts.log after.parts.log e ran.outcome.0.log)

  pub ran_refused : (r : Refusal) → HasRun meaning old new before after op (Err (Refused r)) → AddsFront meaning p old new before after w commands [] Done
  unfolding run
  ran_refused r ran =
      let kept = kept_of (Refused r) (λ e. subst EndsWithNoFault e tt) ran in
      let f = ran.takes.follows p w shows in
      let is = refused_course r (ran.in_world p w shows) in
      let there : IsAfterIn meaning p new after w (course [] used Through) = subst (λ (c : Course O). IsAfterIn meaning p new after w c) is f.1 in
      record {
        time = ran.call.time;
        done = 0;
        front = omega arith;
        all = λ e. refl;
        kept = inr (record {
          world = w;
          shows = there.shows;
          commands_are = are ∙ sym (append-nil commands);
          ends = (refl, record { world_is = refl; used_is = there.used });
        });
        rising = inr kept.rising;
        which = inr (which_of kept);
        group = ran.call.group;
        size = none_size (Refused r) ran;
        stopped = λ stop e. absurd (subst IsUnstopped e tt);
        identities = counted (Err (Refused r)) ran;
        images = images_of (Err (Refused r)) ran [] (commands ++ []) refl;
        steps = takes_of (Err (Refused r)) ran (course [] used Through) is;
      }

  -- whatever was to come, none is added
  adds_none : (e : ExecErr) → HasRun meaning old new before after op (Err e) → (ops : List O) (ending : Ending) → IsUnfinished ending → IsFailed ending ⊎ HasReached meaning p new after w used ops commands ending
      → IsFailed ending ⊎ (forced_in before ≤ forced_in after) → IsFailed ending ⊎ ((forced_in after ≡ forced_in before) ⊎ ((before.group ≡ None) × (length commands ≤ forced_in after)))
      → ((stop : Stop) → ending ≡ Stopped stop → IsStoppedAt meaning p (group_size before) ops 0 stop)
      → (old.tells_moments → TakesSome m p old new w (commands_course m p.limit ops w used).steps) → AddsFront meaning p old new before after w commands ops ending
  adds_none e ran ops ending unfinished kept rising which stopped takes = record {
    time = ran.call.time;
    done = 0;
    front = omega arith;
    all = λ is. absurd (subst IsUnfinished is unfinished);
    kept = subst (λ (l : List O). IsFailed ending ⊎ HasReached meaning p new after w used ops l ending) (sym (append-nil commands)) kept;
    rising = rising;
    which = which;
    group = ran.call.group;
    size = none_size e ran;
    stopped = stopped;
    identities = counted (Err e) ran;
    images = images_of (Err e) ran [] (commands ++ []) refl;
    steps = takes;
  }

  -- the log stops the command
  stopped_here : (rest : List O) (stop : Stop) → is_through stop ≡ false → refusal_in m w op ≡ None → FollowsIn meaning p new after w (exec_course m (is_some w.group) (params_of before).limit op w used) (Stopped stop)
      → HasReached meaning p new after w used (op ∷ rest) commands (Stopped stop)
  stopped_here rest stop ended none f =
      let is = accepted_course none in
      let stops : one.stop ≡ stop = ap (λ (c : Course O). c.stop) (sym is) ∙ f.0 in
      let no : is_through one.stop ≡ false = ap is_through stops ∙ ended in
      let there : IsAfterIn meaning p new after w one = subst (λ (c : Course O). IsAfterIn meaning p new after w c) is f.1 in
      let here : EndsBy m w one (run m w one.steps) (used_in after) (Stopped stop) = (stops, record { world_is = refl; used_is = there.used }) in
      record {
        world = run m w one.steps;
        shows = there.shows;
        commands_are = commands_stopped m p.limit op w used shows.shows.running.live no ∙ are;
        ends = subst (λ (c : Course O). EndsBy m w c (run m w one.steps) (used_in after) (Stopped stop)) (sym (course_stopped m p.limit op w used rest no)) here;
      }

  -- whatever would have come after it
  stopped_course : (rest : List O) (stop : Stop) → is_through stop ≡ false → refusal_in m w op ≡ None → FollowsIn meaning p new after w (exec_course m (is_some w.group) (params_of before).limit op w used) (Stopped stop)
      → exec_course m (is_some w.group) (params_of before).limit op w used ≡ commands_course m p.limit (op ∷ rest) w used
  stopped_course rest stop ended none f =
      let is = accepted_course none in
      let no : is_through one.stop ≡ false = ap is_through (ap (λ (c : Course O). c.stop) (sym is) ∙ f.0) ∙ ended in
      is ∙ sym (course_stopped m p.limit op w used rest no)

  pub ran_stopped : (rest : List O) (e : ExecErr) (stop : Stop) → HasRun meaning old new before after op (Err e) → ending_of (Some e) ≡ Stopped stop → AddsFront meaning p old new before after w commands (op ∷ rest) (Stopped stop)
  ran_stopped rest (Refused r) stop ran is = absurd (subst IsUnstopped is tt)
  ran_stopped rest (LogFull held need limit) stop ran is =
      let kept = kept_of (LogFull held need limit) (λ e. subst EndsWithNoFault e tt) ran in
      let cause = ran.in_world p w shows in
      let exact = ran.on_map p commands holds in
      subst (λ (s : Stop). AddsFront meaning p old new before after w commands (op ∷ rest) (Stopped s)) (ap stop_of is)
      (adds_none (LogFull held need limit) ran (op ∷ rest) (Stopped (Full held need limit)) tt (inr (stopped_here rest (Full held need limit) refl cause.0 (ran.takes.follows p w shows))) (inr kept.rising) (inr (which_of kept))
      (λ s at. record { op = op; rest = rest; here = refl; need = subst (λ (t : Stop). IsNeed meaning p (larger (group_size before) 0) op t) (ap stop_of at) (subst (λ (size : Option ℕ). IsNeed meaning p size op (Full held need limit)) (larger_none (group_size before)) (exact.1, exact.2)) })
      (takes_of (Err (LogFull held need limit)) ran (commands_course m p.limit (op ∷ rest) w used) (stopped_course rest (Full held need limit) refl cause.0 (ran.takes.follows p w shows))))
  ran_stopped rest (LsnEnd lsn) stop ran is =
      let kept = kept_of (LsnEnd lsn) (λ e. subst EndsWithNoFault e tt) ran in
      let cause = ran.in_world p w shows in
      subst (λ (s : Stop). AddsFront meaning p old new before after w commands (op ∷ rest) (Stopped s)) (ap stop_of is)
      (adds_none (LsnEnd lsn) ran (op ∷ rest) (Stopped (At_end lsn)) tt (inr (stopped_here rest (At_end lsn) refl cause.0 (ran.takes.follows p w shows))) (inr kept.rising) (inr (which_of kept))
      (λ s at. record { op = op; rest = rest; here = refl; need = subst (λ (t : Stop). IsNeed meaning p (larger (group_size before) 0) op t) (ap stop_of at) tt })
      (takes_of (Err (LsnEnd lsn)) ran (commands_course m p.limit (op ∷ rest) w used) (stopped_course rest (At_end lsn) refl cause.0 (ran.takes.follows p w shows))))
  ran_stopped rest DiskFault stop ran is = absurd (subst IsUnstopped is tt)
  ran_stopped rest (Damaged file place) stop ran is = absurd (subst IsUnstopped is tt)
  ran_stopped rest Memory stop ran is = absurd (subst IsUnstopped is tt)

  -- what holds of the steps of its course, and of each longer list, holds of those of the commands that it comes first of
  module _ (P : List (Step O) → Type 0) (longer : (xs ys : List (Step O)) → P xs → P (xs ++ ys)) (has : P (exec_course m (is_some w.group) (params_of before).limit op w used).steps) where
    by_course : (c : Course O) → exec_course m (is_some w.group) (params_of before).limit op w used ≡ c → P c.steps
    by_course c is = subst (λ (d : Course O). P d.steps) is has

    of_any : (ops : List O) (r : Refusal) → refusal_in m w op ≡ Some r → P (commands_course m p.limit ops w used).steps
    of_any ops r is = longer [] (commands_course m p.limit ops w used).steps (by_course (course [] used Through) (refused_course r is))

    of_first : (more : List O) → P (commands_course m p.limit (op ∷ more) w used).steps
    of_first more = by_refusal (refusal_in m w op) refl
      where
        rest : Course O
        rest = commands_course m p.limit more (run m w one.steps) one.used

        by_refusal : (o : Option Refusal) → refusal_in m w op ≡ o → P (commands_course m p.limit (op ∷ more) w used).steps
        by_refusal None is = behind_both (λ (c : Course O). P c.steps) one rest one.stop (λ yes_through. longer one.steps rest.steps (by_course one (accepted_course is))) (λ not_through. by_course one (accepted_course is))
        by_refusal (Some r) is = of_any (op ∷ more) r is

  module _ (map : IsLiveMap m) where
    -- what the map refuses the world refuses
    refused_there : (r : Refusal) → refusal_after meaning p commands op ≡ Some r → refusal_in m w op ≡ Some r
    refused_there r is =
        ap (λ (s : State). refusal_of m s op) (fun_ext (λ (x : ℕ). map w x shows.sound shows.shows.running.live))
        ∙ ap (λ (l : List O). refusal_after meaning p l op) are ∙ is

    -- so it is where it comes next, or is refused
    of_next : (P : List (Step O) → Type 0) → ((xs ys : List (Step O)) → P xs → P (xs ++ ys)) → P (exec_course m (is_some w.group) (params_of before).limit op w used).steps
        → (ops : List O) → ComesNext meaning p commands op ops → P (commands_course m p.limit ops w used).steps
    of_next P longer has ops (inl refused) = of_any P longer has ops refused.0 (refused_there refused.0 refused.1)
    of_next P longer has ops (inr next) = subst (λ (l : List O). P (commands_course m p.limit l w used).steps) (sym next.1) (of_first P longer has next.0)

    takes_next : (r : Result ℕ ExecErr) → HasRun meaning old new before after op r → (ops : List O) → ComesNext meaning p commands op ops → old.tells_moments → TakesSome m p old new w (commands_course m p.limit ops w used).steps
    takes_next r ran ops next told = of_next (λ (l : List (Step O)). TakesSome m p old new w l) (λ xs ys takes. moments_longer m p old new w xs ys takes) (ran.takes.steps told p w shows) ops next

    -- short of memory, it has taken some first steps, which add no command
    short_here : (ops : List O) → ComesNext meaning p commands op ops → Kept meaning p before new after commands → IsAfterSome m (λ (v : World O). ShowsIn meaning p new after v) w (exec_course m (is_some w.group) (params_of before).limit op w used).steps
        → HasReached meaning p new after w used ops commands Short
    short_here ops next kept f = record {
      world = run m w f.taken;
      shows = f.holds;
      commands_are = by_refusal (refusal_in m w op) refl ∙ are;
      ends = of_next (λ (l : List (Step O)). IsAfterSome m (λ (v : World O). run m w f.taken ≡ v) w l) (λ xs ys is. after_longer m (λ (v : World O). run m w f.taken ≡ v) w xs ys is) (record { taken = f.taken; begins = f.begins; holds = refl }) ops next;
    }
      where
        as_many : length (commands_of (run m w f.taken).history) ≡ length (commands_of w.history)
        as_many =
            let h = kept.holds in
            omega (arith, accepted_shown m p new after.parts (ungrouped (run m w f.taken)) f.holds.shows, accepted_shown m p new after.parts (ungrouped h.world) h.shows.shows, ap (λ (l : List O). length l) h.commands_are, ap (λ (l : List O). length l) are)

        by_refusal : (o : Option Refusal) → refusal_in m w op ≡ o → commands_of (run m w f.taken).history ≡ commands_of w.history
        by_refusal None is = subst (λ (c : Course O). IsSameWhereAsMany m p.limit op w used c.steps) (sym (accepted_course is)) (same_commands m p.limit op w used) f.taken f.begins as_many
        by_refusal (Some r) is = subst (λ (c : Course O). IsSameWhereAsMany m p.limit op w used c.steps) (sym (refused_course r is)) (same_none m p.limit op w used) f.taken f.begins as_many

    pub ran_failed : (ops : List O) (e : ExecErr) → HasRun meaning old new before after op (Err e) → ComesNext meaning p commands op ops → IsCutOff (ending_of (Some e)) → AddsFront meaning p old new before after w commands ops (ending_of (Some e))
    ran_failed ops (Refused r) ran next off = absurd off
    ran_failed ops (LogFull held need limit) ran next off = absurd off
    ran_failed ops (LsnEnd lsn) ran next off = absurd off
    ran_failed ops DiskFault ran next off = adds_none DiskFault ran ops Failed tt (inl tt) (inl tt) (inl tt) (λ stop e. absurd (subst IsUnstopped e tt)) (takes_next (Err DiskFault) ran ops next)
    ran_failed ops (Damaged file place) ran next off = absurd (ran.in_world p w shows)
    ran_failed ops Memory ran next off =
        let kept = kept_of Memory (λ e. subst EndsWithNoFault e tt) ran in
        adds_none Memory ran ops Short tt (inr (short_here ops next kept (ran.takes.follows p w shows))) (inr kept.rising) (inr (which_of kept)) (λ stop e. absurd (subst IsUnstopped e tt)) (takes_next (Err Memory) ran ops next)
