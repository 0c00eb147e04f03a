-- The loop of a redo: how it begins, one record of it, and what a crash leaves meanwhile.
use Rattle.std.proofs.Common.{◌≡◌, ◌∙◌, sym, ap, subst, ℕ, ◌+◌, ◌<◌, Bool, false, not, ◌&&◌, ◌||◌, nat_lt, None, Some, List, [], ◌∷◌, ◌++◌, refl, arith}
use Rattle.std.specs.Prelude.{All}
use Rattle.std.proofs.lemmas.Bool.{eq-eqb, le-ltb}
use Rattle.disk_model.specs.Disk.{Files, Disk, IsSettled, Stays, Same}
use Rattle.disk_model.specs.Moments.{first_call, from_reads}
use Rattle.disk_model.specs.Silent.{silent_twice}
use Rattle.disk_model.specs.declared.machine.FileNo.TheVariants.{Objects}
use Rattle.oper_core.specs.Cell.{Cell}
use Rattle.oper_core.specs.Meaning.{Meaning}
use Rattle.formats.specs.Records.{Rise}
use Rattle.formats.specs.declared.params.Params.{Params}
use Rattle.formats.specs.declared.record.Record.{Record}
use Rattle.formats.specs.declared.record.Record.TheVariants.{Command, Identity, Checkpoint}
use Rattle.stable_objects.specs.SlotsView.{SlotsView}
use Rattle.dirty_cache.specs.Contents.{held}
use Rattle.install_order.specs.declared.entry.Entry.{Entry}
use Rattle.write_graph.specs.Graph.{lsns}
use Rattle.dirty_page_table.specs.declared.table.DirtyPageTable.{DirtyPageTable}
use Rattle.explain_core.specs.CountLaws.{count_same, count_none}
use Rattle.explain_core.specs.History.{Member, with_lsn}
use Rattle.explain_core.specs.KeptLog.{run_zero, turns_kept}
use Rattle.explain_core.specs.Taken.{after_longer, after_behind}
use Rattle.explain_core.specs.TurnLaws.{turns_join}
use Rattle.explain_core.specs.Turns.{is_dirty_in, dirty_in, has_thin, must_install, turns, waiting_in}
use Rattle.explain_core.specs.World.{World, Step, step, end_of, plan_of}
use Rattle.explain_core.specs.World.Step.{Replay}
use Rattle.explain_core.specs.declared.marks.Marks.{Marks}
use Rattle.standing.specs.Crashed.{crashed-cache, crashed-graph}
use Rattle.standing.specs.Members.{table_of}
use Rattle.standing.specs.Moments.{ShowsSome, TakesSome, moments_none}
use Rattle.standing.specs.Standing.{FilesShow}
use Rattle.analysis_pass.specs.Analysis.{PlanView}
use Rattle.running_store.specs.Parts.{Volatile, ShowsVolatile}
use Rattle.running_store.specs.StoreView.{StoreView, next_of}
use Rattle.redo_pass.specs.Progress.{HasTurned, SoFar, IsAbove}
use Rattle.redo_pass.specs.Redo.{IsRedoDue}
use Rattle.redo_pass.specs.Replayed.{IsNextRecord, after_record}
use Rattle.redo_pass.specs.Rising.{AreMembers, IsBelow}
use Rattle.redo_pass.proofs.Begins.{empty_shows}
use Rattle.redo_pass.proofs.Ends.{at}
use Rattle.redo_pass.proofs.Fronts.{behind}
use Rattle.redo_pass.proofs.Goes.{with_lsn_within, replay_on, replay_turned}

-- a record's LSN is above all in the graph
pub is_above : {O : Type 0} (low : ℕ) (it : StoreView) (r : Record O) → All (λ n. n < low) (lsns it.parts.volatile.entries) → Rise low (next_of it) (r ∷ []) → IsAbove it r
is_above low it (Command lsn op) all rise = (λ k d within. omega (arith, all k d within, rise.0), rise.1)
is_above low it (Identity lsn x value) all rise = (λ k d within. omega (arith, all k d within, rise.0), rise.1)
is_above low it (Checkpoint t) all rise = tt

-- and those in it are below the next one after it
pub behind_above : {O : Type 0} (low end : ℕ) (before after : List Entry) (r : Record O) → All (λ n. n < low) (lsns before) → Rise low end (r ∷ [])
    → ((k : ℕ) → IsBelow k r → All (λ n. n < k) (lsns before) → All (λ n. n < k) (lsns after)) → All (λ n. n < behind low r) (lsns after)
behind_above low end before after (Command lsn op) all rise goes = goes (lsn + 1) (omega arith) (λ k d within. omega (arith, all k d within, rise.0))
behind_above low end before after (Identity lsn x value) all rise goes = goes (lsn + 1) (omega arith) (λ k d within. omega (arith, all k d within, rise.0))
behind_above low end before after (Checkpoint t) all rise goes = goes low tt all

module _ {O : Type 0} (m : Meaning O) (p : Params) (marks : Marks) (w : World O) where
  -- no record is replayed yet
  pub begun : (files : Files) (slots : SlotsView) (plan : PlanView) (records : List (Record O)) (it : Volatile) → IsRedoDue m p files slots plan records w
      → it.objects.slots ≡ slots → ((x : ℕ) → held it.objects.cache x ≡ None) → it.entries ≡ [] → AreMembers w.history plan.start records → SoFar m p files it marks w records
  begun files slots plan records it due same none empty members =
      let here = run_zero m marks w in
      let clean : (x : ℕ) → is_dirty_in w x ≡ false = λ x. ap not (eq-eqb (w.slots x).lsn (w.cache x).lsn (ap (λ (c : ℕ → Cell). (c x).lsn) (sym (crashed-cache m w due.found.crashed)))) in
      let few : dirty_in m w ≡ 0 = count_same m.objects (is_dirty_in w) (λ x. false) (λ x below. clean x) ∙ count_none m.objects in
      let empty_graph : waiting_in w ≡ 0 = count_same (end_of w) w.graph (λ n. false) (λ n below. ap (λ (f : ℕ → Bool). f n) (crashed-graph m w due.found.crashed)) ∙ count_none (end_of w) in
      let clean_enough : nat_lt marks.dirty (dirty_in m w) ≡ false = ap (nat_lt marks.dirty) few ∙ le-ltb marks.dirty 0 (omega arith) in
      let none_waits : nat_lt marks.waiting (waiting_in w) ≡ false = ap (nat_lt marks.waiting) empty_graph ∙ le-ltb marks.waiting 0 (omega arith) in
      let enough : must_install m marks w ≡ false = λ i. (clean_enough i || none_waits i) && has_thin m w in
      record {
        turned = 0;
        shown = record {
          files_show = subst (λ (v : World O). FilesShow m p files v) here due.found.shows;
          store_shows = subst (λ (v : World O). ShowsVolatile m p (files Objects) it v) here (empty_shows m p files slots plan records w due it same none empty);
        };
        enough = ap (must_install m marks) (sym here) ∙ enough;
        members = subst (λ (k : ℕ). AreMembers w.history k records) (due.start ∙ ap (λ (v : World O). v.next) here) members;
      }

  -- the first of the records that are left is the next to be replayed
  pub next_is : (table : DirtyPageTable) → table_of table ≡ plan_of w.tables w.base → (n : ℕ) (r : Record O) (rest : List (Record O)) → AreMembers w.history (at m marks w n).next (r ∷ rest) → IsNextRecord (at m marks w n) table r
  next_is table plan n (Command lsn op) rest are =
      let kept = turns_kept m marks n w in
      record { here = are.0; member_is = ap (λ (h : List (Member O)). with_lsn h lsn) kept.history ∙ ap (with_lsn w.history) are.0 ∙ are.1; plan = plan ∙ sym (λ i. plan_of (kept.tables i) (kept.base i)) }
  next_is table plan n (Identity lsn x value) rest are =
      let kept = turns_kept m marks n w in
      record { here = are.0; member_is = ap (λ (h : List (Member O)). with_lsn h lsn) kept.history ∙ ap (with_lsn w.history) are.0 ∙ are.1; plan = plan ∙ sym (λ i. plan_of (kept.tables i) (kept.base i)) }
  next_is table plan n (Checkpoint t) rest are = tt

  -- so far, after some turns, and before nodes are installed
  pub record IsOn (files : Files) (it : Volatile) (rest : List (Record O)) : Type 0 where
    pub turned : ℕ
    pub shown : HasTurned m p files it marks w turned
    pub members : AreMembers w.history (at m marks w turned).next rest

  next_lsn : (v : World O) → (step m v Replay).next ≡ v.next + 1
  unfolding step
  next_lsn v = refl

  member_on : (files : Files) (after : Volatile) (n : ℕ) (member : Member O) (rest : List (Record O)) → must_install m marks (at m marks w n) ≡ false → with_lsn w.history (at m marks w n).next ≡ Some member
      → AreMembers w.history ((at m marks w n).next + 1) rest → FilesShow m p files (step m (at m marks w n) Replay) → ShowsVolatile m p (files Objects) after (step m (at m marks w n) Replay) → IsOn files after rest
  member_on files after n member rest enough is left files_show store_shows =
      let v = at m marks w n in
      let within = with_lsn_within w.history v.next member is in
      record {
        turned = n + 1;
        shown = replay_turned m p marks w files after n enough within files_show store_shows;
        members = subst (λ (k : ℕ). AreMembers w.history k rest) (sym (next_lsn v) ∙ ap (λ (u : World O). u.next) (replay_on m p marks w n enough within)) left;
      }

  -- one record more was replayed
  pub on_record : (files : Files) (it after : Volatile) (r : Record O) (rest : List (Record O)) (so : SoFar m p files it marks w (r ∷ rest)) → FilesShow m p files (step m (at m marks w so.turned) Replay)
      → ShowsVolatile m p (files Objects) after (after_record m (at m marks w so.turned) r) → IsOn files after rest
  on_record files it after (Command lsn op) rest so files_show store_shows = member_on files after so.turned _ rest so.enough so.members.1 so.members.2 files_show store_shows
  on_record files it after (Identity lsn x value) rest so files_show store_shows = member_on files after so.turned _ rest so.enough so.members.1 so.members.2 files_show store_shows
  on_record files it after (Checkpoint t) rest so files_show store_shows = record { turned = so.turned; shown = record { files_show = so.shown.files_show; store_shows = store_shows }; members = so.members }

  -- a call that changes nothing
  pub stays_moments : (mid new : Disk) (v : World O) (steps : List (Step O)) → mid.tells_moments → IsSettled mid → Stays mid new → FilesShow m p mid.reads v → TakesSome m p mid new v steps
  stays_moments mid new v steps told settled stays shows =
      moments_none m p mid new v steps (first_call mid new _ told stays.time (λ c s left.
      let is = from_reads mid new Same Same told settled stays.crash c s left in
      record { silent = is.1; holds = subst (λ (f : Files). FilesShow m p f v) (sym is.0) shows }))

  -- two parts of a redo, of some turns each
  pub join_moments : (old mid new : Disk) (a b c : ℕ) → mid.said ≡ old.said → TakesSome m p old mid w (turns m marks a w) → TakesSome m p mid new (at m marks w b) (turns m marks c (at m marks w b))
      → (n : ℕ) × TakesSome m p old new w (turns m marks n w)
  join_moments old mid new a b c quiet first second =
      let n = a + (b + c) in
      let turned : a + (b + c) ≡ (b + c) + a = omega arith in
      let one : turns m marks a w ++ turns m marks (b + c) (at m marks w a) ≡ turns m marks n w = sym (turns_join m marks a (b + c) w) in
      let other : (turns m marks b w ++ turns m marks c (at m marks w b)) ++ turns m marks a (at m marks w (b + c)) ≡ turns m marks n w =
      ap (λ (l : List (Step O)). l ++ turns m marks a (at m marks w (b + c))) (sym (turns_join m marks b c w)) ∙ sym (turns_join m marks (b + c) a w) ∙ ap (λ (k : ℕ). turns m marks k w) (sym turned) in (
        n,
        silent_twice old mid new (ShowsSome m p w (turns m marks a w)) (ShowsSome m p (at m marks w b) (turns m marks c (at m marks w b))) (ShowsSome m p w (turns m marks n w)) quiet
            (λ files is. subst (λ (l : List (Step O)). ShowsSome m p w l files) one (after_longer m (FilesShow m p files) w (turns m marks a w) (turns m marks (b + c) (at m marks w a)) is))
            (λ files is. subst (λ (l : List (Step O)). ShowsSome m p w l files) other
            (after_longer m (FilesShow m p files) w (turns m marks b w ++ turns m marks c (at m marks w b)) (turns m marks a (at m marks w (b + c)))
            (after_behind m (FilesShow m p files) w (turns m marks b w) (turns m marks c (at m marks w b)) is)))
            first second,
      )
