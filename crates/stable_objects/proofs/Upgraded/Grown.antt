-- What is left while a store grows, and after it.
use Rattle.std.proofs.Common.{◌≤◌, inl, inr, ℕ, List, refl, sym, ◌∙◌, ap, subst, arith}
use Rattle.std.proofs.lemmas.Bool.{cases_eq, cases_lt}
use Rattle.disk_model.specs.Disk.{Files, Disk, Rises, Runs, Stays, Same, In, Torn, Any, IsSettled, IsSettledIn, LeavesOnly}
use Rattle.disk_model.specs.Moments.{runs_twice, runs_wider, runs_then_stays, settled_again, from_reads, first_call, goes_on, told_agrees}
use Rattle.disk_model.specs.declared.machine.FileNo.{FileNo}
use Rattle.disk_model.specs.declared.machine.FileNo.TheVariants.{Objects}
use Rattle.formats.specs.Bytes.{byte_at}
use Rattle.formats.specs.Reading.{FailsBy, TellsDamage}
use Rattle.formats.specs.declared.params.Params.{Params}
use Rattle.formats.specs.declared.read_err.ReadErr.{ReadErr}
use Rattle.formats.specs.declared.read_err.ReadErr.TheVariants.{DiskFault, Damaged, Memory}
use Rattle.stable_objects.specs.Upgrades.Filling.{IsFilledTo}
use Rattle.stable_objects.specs.Upgrades.Growing.{IsGrown, IsGrowing, IsReady, IsStillOrGrown, GrowsNot, MovesNot, pair_before}
use Rattle.stable_objects.specs.Upgrades.Larger.{IsFirst, IsStill, HasLastHead, end_of_slots, seconded}
use Rattle.stable_objects.specs.Making.{KeepsFront, IsNewFile}
use Rattle.stable_objects.specs.SlotsView.{SlotsView, AreOf}
use Rattle.stable_objects.proofs.Bytes.{byte_written}
use Rattle.stable_objects.proofs.Upgraded.Filled.{filled_none, no_pair}
use Rattle.stable_objects.proofs.Made.{front_twice, front_none, front_keeps, run_keeps, keeps_any, torn_front}
use Rattle.stable_objects.proofs.Upgraded.Moved.{new_pair}
use Rattle.stable_objects.proofs.Upgraded.Staying.{still_in_front, still_headed, still_first, now_second}

-- calls that write behind a place, one after the other
abbrev pub RunsBehind : ℕ → Disk → Disk → Type 0
RunsBehind place old new = Runs (In Objects (KeepsFront place)) Same old new

pub behind_none : (place : ℕ) (old new : Disk) → Stays old new → RunsBehind place old new
behind_none place old new stays = runs_wider old new Same (In Objects (KeepsFront place)) (λ a b same. subst (λ (f : Files). In Objects (KeepsFront place) a f) (sym same) (front_none place a)) stays

pub behind_write : (place at n : ℕ) (old new : Disk) → place ≤ at → Runs (In Objects (Torn at n)) Same old new → RunsBehind place old new
behind_write place at n old new le run = runs_wider old new (In Objects (Torn at n)) (In Objects (KeepsFront place)) (λ a b is. record { changed = torn_front place at n (a Objects) (b Objects) le is.changed; others = is.others }) run

pub behind_twice : (place : ℕ) {old mid new : Disk} → RunsBehind place old mid → RunsBehind place mid new → RunsBehind place old new
behind_twice place {old} {mid} {new} first second = runs_twice old mid new (In Objects (KeepsFront place))
    (λ a b c x y. record {
      changed = front_twice place (a Objects) (b Objects) (c Objects) x.changed y.changed;
      others = λ other is_other. y.others other is_other ∙ x.others other is_other;
    })
    first second

-- they change the objects file alone
pub behind_any : (place : ℕ) (old new : Disk) → 1 ≤ place → RunsBehind place old new → Runs (In Objects Any) Same old new
behind_any place old new le run = keeps_any old new (front_keeps old new place le run)

-- and so does the write of the version after them
pub version_any : (place : ℕ) (old mid new : Disk) → 1 ≤ place → RunsBehind place old mid → Runs (In Objects (Torn 8 1)) Same mid new → Runs (In Objects Any) Same old new
version_any place old mid new le first second = keeps_any old new (run_keeps old mid new 8 1 (omega arith) (front_keeps old mid place le first) second)

-- a sync after them settles all again
pub behind_settled : (place : ℕ) (old mid new : Disk) → IsSettled old → RunsBehind place old mid → Stays mid new → IsSettledIn Objects new → IsSettled new
behind_settled place old mid new settled first second here =
    let run = runs_then_stays old mid new (In Objects (KeepsFront place)) first second in
    settled_again old new Objects (KeepsFront place) (KeepsFront place) run.ends settled run.time run.crash (λ told. run.reads (run.begins.telling told)) here

pub still_none : (slots : SlotsView) (file : List ℕ) → AreOf slots file → IsStill slots file file
still_none slots file are = record { are = are; cells = λ x below. refl }

pub still_twice : (slots : SlotsView) (a b c : List ℕ) → IsStill slots a b → IsStill slots b c → IsStill slots a c
still_twice slots a b c one two = record { are = two.are; cells = λ x below. two.cells x below ∙ one.cells x below }

-- the larger store, once all pairs are moved
pub now_grown : (p q : Params) (old mid : List ℕ) → IsFilledTo q p.objects (pair_before p old) (seconded mid) → IsGrown p q old (seconded mid)
now_grown p q old mid filled = record {
  version = byte_written 8 50 mid;
  whole = filled.whole;
  cells = λ x below. elim (cases_lt x p.objects) [
    | inl own ↦ filled.held x own below
    | inr past ↦ no_pair x (seconded mid) (λ s two. filled.rest x s past below two) ∙ sym (new_pair p old x past)
  ];
}

-- a value is not read
pub read_fails : (old new : Disk) (slots : SlotsView) (fault : FileNo → ℕ → Type 0) (e : ReadErr) → Stays old new → FailsBy (Rises old.disk_faults new.disk_faults) fault e
    → ((files : Files) → new.agrees files → AreOf slots (files Objects) → TellsDamage e → ⊥) → MovesNot old new slots e
read_fails old new slots fault DiskFault stays fails whole = fails
read_fails old new slots fault (Damaged file place) stays fails whole = λ ready. whole old.reads (told_agrees stays ready.told) ready.are tt
read_fails old new slots fault Memory stays fails whole = tt

module _ (slots : SlotsView) (q : Params) (first : IsFirst slots) where
  -- the same store behind whose slots something was written is ready again
  pub ready_again : (old new : Disk) → RunsBehind (end_of_slots slots) old new → IsReady old slots → IsReady new slots
  ready_again old new run ready =
      let keeps = (run.reads ready.told).changed in
      record {
        told = run.time.files_told.0 ready.told;
        are = (still_in_front slots (old.reads Objects) (new.reads Objects) ready.are first ready.head keeps).are;
        head = still_headed slots (old.reads Objects) (new.reads Objects) ready.are first ready.head keeps;
      }

  -- a later call fails, and so does the whole
  pub fails_later : (old mid new : Disk) (e : ReadErr) → RunsBehind (end_of_slots slots) old mid → MovesNot mid new slots e → MovesNot old new slots e
  fails_later old mid new DiskFault run risen = λ below. let rose = risen below in omega (arith, rose, run.time.disk_faults)
  fails_later old mid new (Damaged file place) run never = λ ready. never (ready_again old mid run ready)
  fails_later old mid new Memory run fails = tt

  -- so a growth whose pairs are not moved reports no damage
  pub grows_not : (old new : Disk) (e : ReadErr) → (old.tells_files → AreOf slots (old.reads Objects) → HasLastHead slots (old.reads Objects)) → MovesNot old new slots e → GrowsNot old new slots e
  grows_not old new DiskFault head risen = risen
  grows_not old new (Damaged file place) head never = λ told are. absurd (never (record { told = told; are = are; head = head told are }))
  grows_not old new Memory head fails = tt

  -- while nothing was written
  pub looking : (old new : Disk) → old.tells_moments → IsSettled old → AreOf slots (old.reads Objects) → Stays old new → LeavesOnly old new (IsGrowing old slots q)
  looking old new told settled are stays = first_call old new (IsGrowing old slots q) told stays.time (λ c s left.
      let from = from_reads old new Same Same told settled stays.crash c s left in
      record {
        objects = inl (subst (λ (f : Files). IsStill slots (old.reads Objects) (f Objects)) (sym from.0) (still_none slots (old.reads Objects) are));
        others = λ other is_other. ap (λ (f : Files). f other) from.0;
        silent = from.1;
      })

  -- while the pairs are moved
  pub moving : (old new : Disk) → old.tells_moments → IsSettled old → AreOf slots (old.reads Objects) → HasLastHead slots (old.reads Objects) → RunsBehind (end_of_slots slots) old new → LeavesOnly old new (IsGrowing old slots q)
  moving old new told settled are head run = first_call old new (IsGrowing old slots q) told run.time (λ c s left.
      let from = from_reads old new (In Objects (KeepsFront (end_of_slots slots))) Same told settled run.crash c s left in
      record { objects = inl (still_in_front slots (old.reads Objects) (c Objects) are first head from.0.changed); others = from.0.others; silent = from.1 })

  -- the write of the version is torn, or done
  pub either : (old mid new : List ℕ) → AreOf slots old → HasLastHead slots old → KeepsFront (end_of_slots slots) old mid → IsFilledTo q slots.params.objects (pair_before slots.params old) (seconded mid) → Torn 8 1 mid new → IsStillOrGrown slots q old new
  either old mid new are head keeps filled torn =
      let still = still_in_front slots old mid are first head keeps in
      elim (cases_eq (byte_at 8 new) 50) [
        | inl second ↦ inr (subst (λ (l : List ℕ). IsGrown slots.params q old l) (sym (now_second slots mid new still.are first torn second)) (now_grown slots.params q old mid filled))
        | inr other ↦ inl (still_twice slots old mid new still (still_first slots mid new still.are first torn other))
      ]

  pub writing : (old mid new : Disk) → old.tells_moments → IsSettled old → IsSettled mid → AreOf slots (old.reads Objects) → HasLastHead slots (old.reads Objects) → RunsBehind (end_of_slots slots) old mid
      → IsFilledTo q slots.params.objects (pair_before slots.params (old.reads Objects)) (seconded (mid.reads Objects)) → Runs (In Objects (Torn 8 1)) Same mid new → LeavesOnly old new (IsGrowing old slots q)
  writing old mid new told settled settled_mid are head run filled second =
      let told_mid = run.time.moments_told.0 told in
      let reads = run.reads (run.begins.telling told) in
      goes_on old mid new (IsGrowing old slots q) told_mid (moving old mid told settled are head run) second.time (λ c s left.
      let from = from_reads mid new (In Objects (Torn 8 1)) Same told_mid settled_mid second.crash c s left in
      record {
        objects = either (old.reads Objects) (mid.reads Objects) (c Objects) are head reads.changed filled from.0.changed;
        others = λ other is_other. from.0.others other is_other ∙ reads.others other is_other;
        silent = from.1 ∙ run.said (run.begins.telling told);
      })

-- a look at the last head, the larger store laid out, the pairs moved, and a sync
module _ {old looked laid : Disk} (slots : SlotsView) (q : Params) (first : IsFirst slots) (look : Stays old looked) (lay : RunsBehind (end_of_slots slots) looked laid) where
  pub run_laid : RunsBehind (end_of_slots slots) old laid
  run_laid = behind_twice (end_of_slots slots) (behind_none (end_of_slots slots) old looked look) lay

  module _ {moved : Disk} (move : RunsBehind (end_of_slots slots) laid moved) where
    pub run_moved : RunsBehind (end_of_slots slots) old moved
    run_moved = behind_twice (end_of_slots slots) run_laid move

    module _ {now : Disk} (sync : Stays moved now) where
      pub run_all : RunsBehind (end_of_slots slots) old now
      run_all = behind_twice (end_of_slots slots) run_moved (behind_none (end_of_slots slots) moved now sync)

      pub all_moved : old.tells_files → AreOf slots (old.reads Objects) → HasLastHead slots (old.reads Objects) → (looked.tells_files → AreOf slots (looked.reads Objects) → IsNewFile q (seconded (laid.reads Objects)))
          → (laid.tells_files → (start : List ℕ) → IsStill slots start (laid.reads Objects) → HasLastHead slots (laid.reads Objects) → IsFilledTo q 0 (pair_before slots.params start) (seconded (laid.reads Objects))
          → IsFilledTo q slots.params.objects (pair_before slots.params start) (seconded (moved.reads Objects)))
          → IsFilledTo q slots.params.objects (pair_before slots.params (old.reads Objects)) (seconded (now.reads Objects))
      all_moved told are head is_laid is_moved =
          let start = old.reads Objects in
          let keeps = (run_laid.reads told).changed in
          let are_there = subst (λ (f : Files). AreOf slots (f Objects)) (sym (look.reads told)) are in
          let new = is_laid (look.time.files_told.0 told) are_there in
          subst (λ (f : Files). IsFilledTo q slots.params.objects (pair_before slots.params start) (seconded (f Objects))) (sym (sync.reads (run_moved.time.files_told.0 told)))
          (is_moved (run_laid.time.files_told.0 told) start (still_in_front slots start (laid.reads Objects) are first head keeps) (still_headed slots start (laid.reads Objects) are first head keeps)
          (filled_none q (pair_before slots.params start) (seconded (laid.reads Objects)) new))
