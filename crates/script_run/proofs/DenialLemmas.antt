-- Which answer the lines of a backup get, and a trim beside one.
use Rattle.std.proofs.Common.{◌≡◌, ◌≢◌, ◌⊎◌, inl, inr, ⊎_elim, ◌↔◌, ◌<◌, ◌≤◌, List, ℕ, [], length, Option, None, Some, refl, ap, sym, ◌∙◌, subst, arith}
use Rattle.std.specs.Prelude.{◌+◌, ◌^◌, ◌++◌, min}
use Rattle.formats.specs.declared.params.Params.{Params}
use Rattle.explain_core.specs.History.{commands_of}
use Rattle.running_store.specs.Courses.{Stop, course}
use Rattle.running_store.specs.Courses.Stop.{Through, Full, At_end, Worn}
use Rattle.store_engine.specs.Engine.{needed_in, so_far}
use Rattle.store_engine.specs.Lists.{commands_course}
use Rattle.script_lines.specs.Grammar.{Request, AsksFor}
use Rattle.script_lines.specs.declared.line.Line.TheVariants.{Group, Keep, Save}
use Rattle.script_lines.specs.declared.line.Grouping.TheVariants.{Abort as abort_group}
use Rattle.script_lines.specs.declared.line.Upkeep.TheVariants.{Trim as trim}
use Rattle.script_lines.specs.declared.line.Saving.TheVariants.{Start as bstart, Copy as bcopy, Finish as bfinish}
use Rattle.script_lines.specs.Replies.{Reply, ok, bad, in_group, full, end, copied, saved, backup_denied}
use Rattle.script_lines.specs.declared.backup_denial.BackupDenial.{BackupDenial}
use Rattle.script_lines.specs.declared.backup_denial.BackupDenial.TheVariants.{InBackup, NoBackup, AlreadyStore, NotCopied}
use Rattle.shell_base.specs.First.{Stage}
use Rattle.shell_base.specs.Store.{Command, meaning_in, record_length}
use Rattle.script_run.specs.Groups.{open_in, size_of}
use Rattle.script_run.specs.Made.{Made, AsksMade, AsksBehind}
use Rattle.script_run.specs.Replies.{Replies, IsDenied, IsGranted, IsLogged, IsOver}
use Rattle.script_run.specs.Saving.{FindsStore}
use Rattle.script_run.specs.Stages.{Aborts, Ends, GoesBy, IsBackupFull, IsBesideBackup, IsDeniedAt, IsQuestion, StartsBackup, backup_bytes, forced_stage, upkeep_course, with_copied}
use Rattle.script_run.proofs.CauseLemmas.{class, denied_class, fits, made_clash, not_both, question_class}

some_none : {n : ℕ} (copies : Option ℕ) → copies ≡ Some n → copies ≡ None → ⊥
some_none (Some m) some none = cc none
some_none None some none = cc some

-- what is denied has no course
none_granted : (objects : ℕ) (copies group : Option ℕ) (why : BackupDenial) (request : Request) → IsDenied why request → IsDeniedAt objects copies why → IsGranted group request → IsBesideBackup copies request → ⊥
none_granted objects copies group InBackup (Save bstart) is at may beside = beside
none_granted objects copies group InBackup (Keep trim) is at may beside = not_both copies at beside
none_granted objects copies group NoBackup (Save (bcopy count)) is at may beside = may.0
none_granted objects copies group NoBackup (Save bfinish) is at may beside = may.0
none_granted objects copies group AlreadyStore (Save bstart) is at may beside = beside
none_granted objects copies group NotCopied (Save bfinish) is at may beside = may.0
none_granted objects copies group why request is at may beside = is

-- nor does a backup start, go on or end
not_started : (objects : ℕ) (copies : Option ℕ) (why : BackupDenial) → why ≢ AlreadyStore → IsDenied why (Save bstart) → IsDeniedAt objects copies why → copies ≡ None → ⊥
not_started objects copies InBackup other is at none = not_both copies at none
not_started objects copies AlreadyStore other is at none = other refl
not_started objects copies why other is at none = is

not_copied : (objects count n : ℕ) (copies : Option ℕ) (why : BackupDenial) → IsDenied why (Save (bcopy count)) → IsDeniedAt objects copies why → copies ≡ Some n → ⊥
not_copied objects count n copies NoBackup is at some = some_none copies some at
not_copied objects count n copies why is at some = is

not_finished : (objects : ℕ) (copies : Option ℕ) (why : BackupDenial) → IsDenied why (Save bfinish) → IsDeniedAt objects copies why → copies ≡ Some objects → ⊥
not_finished objects copies NoBackup is at some = some_none copies some at
not_finished objects copies NotCopied is at some = let same : Some at.0 ≡ Some objects = sym at.1 ∙ some in let e : at.0 ≡ objects = cc same in omega (arith, e, at.2)
not_finished objects copies why is at some = is

-- one request is denied by one cause at a time
one_denial : (objects : ℕ) (copies : Option ℕ) (a b : BackupDenial) (request : Request) → IsDenied a request → IsDenied b request → IsDeniedAt objects copies a → IsDeniedAt objects copies b → a ≡ b
one_denial objects copies InBackup InBackup request is also at too = refl
one_denial objects copies NoBackup NoBackup request is also at too = refl
one_denial objects copies AlreadyStore AlreadyStore request is also at too = refl
one_denial objects copies NotCopied NotCopied request is also at too = refl
one_denial objects copies InBackup AlreadyStore request is also at too = absurd (not_both copies at too)
one_denial objects copies AlreadyStore InBackup request is also at too = absurd (not_both copies too at)
one_denial objects copies NoBackup NotCopied request is also at too = absurd (some_none copies too.1 at)
one_denial objects copies NotCopied NoBackup request is also at too = absurd (some_none copies at.1 too)
one_denial objects copies InBackup NoBackup (Save bstart) is also at too = absurd also
one_denial objects copies InBackup NoBackup (Keep trim) is also at too = absurd also
one_denial objects copies InBackup NoBackup request is also at too = absurd is
one_denial objects copies InBackup NotCopied (Save bstart) is also at too = absurd also
one_denial objects copies InBackup NotCopied (Keep trim) is also at too = absurd also
one_denial objects copies InBackup NotCopied request is also at too = absurd is
one_denial objects copies NoBackup InBackup (Save bfinish) is also at too = absurd also
one_denial objects copies NoBackup InBackup (Save (bcopy count)) is also at too = absurd also
one_denial objects copies NoBackup InBackup request is also at too = absurd is
one_denial objects copies NoBackup AlreadyStore (Save bfinish) is also at too = absurd also
one_denial objects copies NoBackup AlreadyStore (Save (bcopy count)) is also at too = absurd also
one_denial objects copies NoBackup AlreadyStore request is also at too = absurd is
one_denial objects copies AlreadyStore NoBackup (Save bstart) is also at too = absurd also
one_denial objects copies AlreadyStore NoBackup request is also at too = absurd is
one_denial objects copies AlreadyStore NotCopied (Save bstart) is also at too = absurd also
one_denial objects copies AlreadyStore NotCopied request is also at too = absurd is
one_denial objects copies NotCopied InBackup (Save bfinish) is also at too = absurd also
one_denial objects copies NotCopied InBackup request is also at too = absurd is
one_denial objects copies NotCopied AlreadyStore (Save bfinish) is also at too = absurd also
one_denial objects copies NotCopied AlreadyStore request is also at too = absurd is

module _ (p : Params) (line : List ℕ) (one : (a b : Request) → AsksFor line a → AsksFor line b → a ≡ b) (before after : Stage) where
  abbrev group : Option ℕ
  group = open_in before.world

  abbrev commands : List Command
  commands = commands_of before.world.history

  -- the line of what may not be done has no course
  no_course : (r : Request) → AsksFor line r → 3 ≤ class r → (IsGranted group r → IsBesideBackup before.copied r → ⊥) → (stop : Stop) → Ends p before line stop after → ⊥
  no_course r asks high none stop (c, has, is, goes) = ⊎_elim
      (λ (mine : (it : Made) × AsksMade p commands line it × (c ≡ commands_course (meaning_in p) p.limit it.ops before.world before.used)). made_clash p group commands line one r asks (λ e. omega (arith, e, high)) mine.1)
      (λ (rest : ((request : Request) × (epoch : ℕ) × IsGranted group request × IsBesideBackup before.copied request × AsksFor line request × (c ≡ upkeep_course epoch (so_far before.copied) request (meaning_in p) before.world before.used))
      ⊎ ((request : Request) × IsQuestion request × AsksFor line request × (c ≡ course [] before.used Through))). ⊎_elim
      (λ (u : (request : Request) × (epoch : ℕ) × IsGranted group request × IsBesideBackup before.copied request × AsksFor line request × (c ≡ upkeep_course epoch (so_far before.copied) request (meaning_in p) before.world before.used)).
      let same : u.0 ≡ r = one u.0 r u.4 asks in
      none (subst (λ (x : Request). IsGranted group x) same u.2) (subst (λ (x : Request). IsBesideBackup before.copied x) same u.3))
      (λ (q : (request : Request) × IsQuestion request × AsksFor line request × (c ≡ course [] before.used Through)). omega (arith, high, question_class q.0 q.1, ap class (one q.0 r q.2 asks)))
      rest)
      has

  -- What its cause denies is answered by that. Where this may be that a store is there already, no backup was started.
  denied_here : (why : BackupDenial) (r : Request) → IsDenied why r → AsksFor line r → group ≡ None → IsDeniedAt p.objects before.copied why
      → (reply : Reply) (added : List Command) → Replies p group commands line reply added → GoesBy p before line reply after
      → (AsksFor line (Save bstart) → before.copied ≡ None → reply ≡ ok → ⊥) → reply ≡ backup_denied why
  denied_here why r is asks none at ok added replies goes unstarted = absurd (⊎_elim
      (λ (ends : Ends p before line Through after). no_course r asks (omega (arith, (denied_class why r is).0)) (none_granted p.objects before.copied group why r is at) Through ends)
      (λ (rest : StartsBackup before line (forced_stage p before) after ⊎ Aborts p before line after). ⊎_elim
      (λ (starts : StartsBackup before line (forced_stage p before) after). unstarted starts.0 starts.1 refl)
      (λ (aborts : Aborts p before line after). omega (arith, (denied_class why r is).0, ap class (one (Group abort_group) r aborts.1.asks asks)))
      rest)
      goes)
  denied_here why r is asks none at (full used need limit) added replies goes unstarted = absurd (⊎_elim
      (λ (ends : Ends p before line (Full used need limit) after). no_course r asks (omega (arith, (denied_class why r is).0)) (none_granted p.objects before.copied group why r is at) (Full used need limit) ends)
      (λ (long : IsBackupFull p before line used need (forced_stage p before) after).
      not_finished p.objects before.copied why (subst (λ (x : Request). IsDenied why x) (one r (Save bfinish) asks long.0) is) at long.1)
      goes)
  denied_here why r is asks none at (end number) added replies goes unstarted = absurd (⊎_elim
      (λ (last : Ends p before line (At_end number) after). no_course r asks (omega (arith, (denied_class why r is).0)) (none_granted p.objects before.copied group why r is at) (At_end number) last)
      (λ (worn : Ends p before line (Worn number) after). no_course r asks (omega (arith, (denied_class why r is).0)) (none_granted p.objects before.copied group why r is at) (Worn number) worn)
      goes)
  denied_here why r is asks none at (copied now) added replies goes unstarted = absurd (not_copied p.objects goes.1 goes.0 before.copied why (subst (λ (x : Request). IsDenied why x) (one r (Save (bcopy goes.1)) asks goes.2) is) at goes.3)
  denied_here why r is asks none at (saved n) added replies goes unstarted = absurd (not_finished p.objects before.copied why (subst (λ (x : Request). IsDenied why x) (one r (Save bfinish) asks replies.0) is) at goes.0)
  denied_here why r is asks none at (backup_denied other) added replies goes unstarted =
      ap (λ (w : BackupDenial). backup_denied w) (one_denial p.objects before.copied other why r (subst (λ (x : Request). IsDenied other x) (one replies.0 r replies.2 asks) replies.1) is goes.0 at)
  denied_here why r is asks none at in_group added replies goes unstarted = absurd (not_both group replies.3 none)
  denied_here why r is asks none at bad added replies goes unstarted = absurd (replies.0 r asks)
  denied_here why r is asks none at reply added replies goes unstarted = absurd (let a = fits p group commands line one r asks reply added replies (λ e. cc) in let c = denied_class why r is in omega (arith, a.0, a.1, c.0, c.1))

  -- so a denial tells its cause
  denied_why : (why : BackupDenial) (reply : Reply) (added : List Command) → Replies p group commands line reply added → GoesBy p before line reply after → reply ≡ backup_denied why
      → (request : Request) × IsDenied why request × AsksFor line request × (group ≡ None) × IsDeniedAt p.objects before.copied why
  denied_why why reply added replies goes is =
      let here = subst (λ (r : Reply). Replies p group commands line r added) is replies in
      let there = subst (λ (r : Reply). GoesBy p before line r after) is goes in
      (here.0, here.1, here.2, here.3, there.0)

  pub denied_exactly : (why : BackupDenial) → why ≢ AlreadyStore → (reply : Reply) (added : List Command) → Replies p group commands line reply added → GoesBy p before line reply after
      → (reply ≡ backup_denied why) ↔ ((request : Request) × IsDenied why request × AsksFor line request × (group ≡ None) × IsDeniedAt p.objects before.copied why)
  denied_exactly why other reply added replies goes = (
    denied_why why reply added replies goes,
    λ here. denied_here why here.0 here.1 here.2 here.3 here.4 reply added replies goes
        (λ asks none e. not_started p.objects before.copied why other (subst (λ (x : Request). IsDenied why x) (one here.0 (Save bstart) here.2 asks) here.1) here.4 none),
  )

  pub found_exactly : (there : Type 0) (reply : Reply) (added : List Command) → Replies p group commands line reply added → GoesBy p before line reply after → FindsStore there line reply
      → (reply ≡ backup_denied AlreadyStore) ↔ (AsksFor line (Save bstart) × (group ≡ None) × (before.copied ≡ None) × there)
  found_exactly there reply added replies goes finds = (
    λ is.
        let why = denied_why AlreadyStore reply added replies goes is in
        (subst (λ (x : Request). AsksFor line x) (store_denied why.0 why.1) why.2, why.3, why.4, subst (λ (r : Reply). FindsStore there line r) is finds),
    λ here. denied_here AlreadyStore (Save bstart) tt here.0 here.1 here.2 reply added replies goes (λ asks none e. subst (λ (r : Reply). FindsStore there line r) e finds asks here.3),
  )
    where
      store_denied : (request : Request) → IsDenied AlreadyStore request → request ≡ Save bstart
      store_denied (Save bstart) is = refl
      store_denied request is = absurd is

  -- where no store is there a backup starts
  pub starts_exactly : (there : Type 0) (reply : Reply) (added : List Command) → Replies p group commands line reply added → GoesBy p before line reply after → FindsStore there line reply
      → AsksFor line (Save bstart) → group ≡ None → before.copied ≡ None → (there → ⊥) → (reply ≡ ok) × (after ≡ with_copied (Some 0) (forced_stage p before))
  starts_exactly there ok added replies goes finds asks alone none empty = ⊎_elim
      (λ (ends : Ends p before line Through after). absurd (no_course (Save bstart) asks (omega arith) (λ may beside. beside) Through ends))
      (λ (rest : StartsBackup before line (forced_stage p before) after ⊎ Aborts p before line after). ⊎_elim
      (λ (starts : StartsBackup before line (forced_stage p before) after). (refl, starts.2))
      (λ (aborts : Aborts p before line after). absurd (omega (arith, ap class (one (Group abort_group) (Save bstart) aborts.1.asks asks))))
      rest)
      goes
  starts_exactly there (backup_denied AlreadyStore) added replies goes finds asks alone none empty = absurd (empty finds)
  starts_exactly there (backup_denied InBackup) added replies goes finds asks alone none empty = absurd (not_both before.copied goes.0 none)
  starts_exactly there (backup_denied NoBackup) added replies goes finds asks alone none empty = absurd (subst (λ (x : Request). IsDenied NoBackup x) (one replies.0 (Save bstart) replies.2 asks) replies.1)
  starts_exactly there (backup_denied NotCopied) added replies goes finds asks alone none empty = absurd (subst (λ (x : Request). IsDenied NotCopied x) (one replies.0 (Save bstart) replies.2 asks) replies.1)
  starts_exactly there in_group added replies goes finds asks alone none empty = absurd (not_both group replies.3 alone)
  starts_exactly there bad added replies goes finds asks alone none empty = absurd (replies.0 (Save bstart) asks)
  starts_exactly there reply added replies goes finds asks alone none empty = absurd (let a = fits p group commands line one (Save bstart) asks reply added replies (λ e. cc) in omega (arith, a.0, a.1))

  -- one that goes on says how far it is
  pub copies_exactly : (reply : Reply) (added : List Command) (count n : ℕ) → Replies p group commands line reply added → GoesBy p before line reply after
      → AsksFor line (Save (bcopy count)) → group ≡ None → before.copied ≡ Some n → (reply ≡ copied (min (n + count) p.objects)) × (after ≡ with_copied (Some (min (n + count) p.objects)) before)
  copies_exactly (copied now) added count n replies goes asks alone some =
      let e : Save (bcopy goes.1) ≡ Save (bcopy count) = one (Save (bcopy goes.1)) (Save (bcopy count)) goes.2 asks in
      let f : Some goes.0 ≡ Some n = sym goes.3 ∙ some in
      let by : goes.1 ≡ count = cc e in
      let from : goes.0 ≡ n = cc f in
      let same : now ≡ min (n + count) p.objects = goes.4 ∙ ap (λ (a : ℕ). min (a + goes.1) p.objects) from ∙ ap (λ (b : ℕ). min (n + b) p.objects) by in
      (ap (λ (k : ℕ). copied k) same, goes.5 ∙ ap (λ (k : ℕ). with_copied (Some k) before) same)
  copies_exactly (backup_denied why) added count n replies goes asks alone some = absurd (not_copied p.objects count n before.copied why (subst (λ (x : Request). IsDenied why x) (one replies.0 (Save (bcopy count)) replies.2 asks) replies.1) goes.0 some)
  copies_exactly in_group added count n replies goes asks alone some = absurd (not_both group replies.3 alone)
  copies_exactly bad added count n replies goes asks alone some = absurd (replies.0 (Save (bcopy count)) asks)
  copies_exactly reply added count n replies goes asks alone some = absurd (let a = fits p group commands line one (Save (bcopy count)) asks reply added replies (λ e. cc) in omega (arith, a.0, a.1))

  -- where all is copied a backup ends, or its log is too long
  pub saves_exactly : (reply : Reply) (added : List Command) → Replies p group commands line reply added → GoesBy p before line reply after
      → AsksFor line (Save bfinish) → group ≡ None → before.copied ≡ Some p.objects
      → ((reply ≡ saved (length commands)) × (backup_bytes p (forced_stage p before) ≤ 2 ^ 48) × (after ≡ with_copied None (forced_stage p before)))
      ⊎ ((reply ≡ full (forced_stage p before).used (backup_bytes p (forced_stage p before)) (2 ^ 48)) × (2 ^ 48 < backup_bytes p (forced_stage p before)) × (after ≡ forced_stage p before))
  saves_exactly ok added replies goes asks alone some = absurd (⊎_elim
      (λ (ends : Ends p before line Through after). no_course (Save bfinish) asks (omega arith) (λ may beside. may.0) Through ends)
      (λ (rest : StartsBackup before line (forced_stage p before) after ⊎ Aborts p before line after). ⊎_elim
      (λ (starts : StartsBackup before line (forced_stage p before) after). let e : (Save bstart) ≡ Save bfinish = one (Save bstart) (Save bfinish) starts.0 asks in cc e)
      (λ (aborts : Aborts p before line after). omega (arith, ap class (one (Group abort_group) (Save bfinish) aborts.1.asks asks)))
      rest)
      goes)
  saves_exactly (saved n) added replies goes asks alone some = inl (ap (λ (k : ℕ). saved k) replies.2, goes.1, goes.2)
  saves_exactly (full used need limit) added replies goes asks alone some = ⊎_elim
      (λ (ends : Ends p before line (Full used need limit) after). absurd (no_course (Save bfinish) asks (omega arith) (λ may beside. may.0) (Full used need limit) ends))
      (λ (long : IsBackupFull p before line used need (forced_stage p before) after). ⊎_elim
      (λ (b : (op : Command) × AsksBehind p commands line added op × (need ≡ needed_in (size_of group (commands ++ added)) (record_length p op)) × (limit ≡ p.limit) × (limit < used + need)).
      absurd (made_clash p group commands line one (Save bfinish) asks (λ e. omega (arith, e)) b.1.asks))
      (λ (u : (request : Request) × IsLogged request × AsksFor line request × (group ≡ None) × (limit ≡ 2 ^ 48) × IsOver request used need limit × (added ≡ [])).
      let over : limit < need = subst (λ (x : Request). IsOver x used need limit) (one u.0 (Save bfinish) u.2 asks) u.5 in
      inr (λ i. full (long.2 i) (long.3 i) (u.4 i), subst (λ (k : ℕ). k < backup_bytes p (forced_stage p before)) u.4 (subst (λ (k : ℕ). limit < k) long.3 over), long.4))
      replies)
      goes
  saves_exactly (end number) added replies goes asks alone some = absurd (⊎_elim
      (λ (last : Ends p before line (At_end number) after). no_course (Save bfinish) asks (omega arith) (λ may beside. may.0) (At_end number) last)
      (λ (worn : Ends p before line (Worn number) after). no_course (Save bfinish) asks (omega arith) (λ may beside. may.0) (Worn number) worn)
      goes)
  saves_exactly (backup_denied why) added replies goes asks alone some = absurd (not_finished p.objects before.copied why (subst (λ (x : Request). IsDenied why x) (one replies.0 (Save bfinish) replies.2 asks) replies.1) goes.0 some)
  saves_exactly in_group added replies goes asks alone some = absurd (not_both group replies.3 alone)
  saves_exactly bad added replies goes asks alone some = absurd (replies.0 (Save bfinish) asks)
  saves_exactly reply added replies goes asks alone some = absurd (let a = fits p group commands line one (Save bfinish) asks reply added replies (λ e. cc) in omega (arith, a.0, a.1))
