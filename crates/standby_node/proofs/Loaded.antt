-- The log of a store, as it is read into memory.
use Rattle.std.proofs.Common.{◌≡◌, ◌∙◌, sym, subst, ap, ℕ, ◌+◌, ◌-◌, ◌<◌, ◌≤◌, Bool, true, inl, inr, ⊎_elim, List, [], ◌∷◌, ◌++◌, length, take, drop, map, refl, arith, append_assoc, length-append}
use Rattle.std.specs.Prelude.{◌↔◌, IsErrOf, Result, Ok, Err, nat_eq, if◌then◌else◌}
use Rattle.std.specs.List.{AllByRecursion}
use Rattle.std.proofs.Math.Seq.{take-append_seam}
use Rattle.std.proofs.lemmas.Bool.{cases_lt, eq-eqb}
use Rattle.std.proofs.lemmas.List.{append-nil, take-append-drop, take-append-le}
use Rattle.std.proofs.lemmas.List.Elements.{recursion_from_All}
use Rattle.disk_model.specs.Disk.{Disk, Files}
use Rattle.disk_model.specs.Moments.{stays_then}
use Rattle.disk_model.specs.declared.machine.FileNo.TheVariants.{Objects}
use Rattle.oper_core.specs.Meaning.{Meaning}
use Rattle.oper_core.specs.declared.bounds.Bounds.{Bounds}
use Rattle.formats.specs.Log.{IsPayload}
use Rattle.formats.specs.Records.{AreRecords, payload_of, record_code, records_of}
use Rattle.formats.specs.declared.params.Params.{Params}
use Rattle.formats.specs.declared.record.Record.{Record}
use Rattle.formats.specs.declared.record.Record.TheVariants.{Command as Logged_command, Identity as Logged_identity, Checkpoint as Logged_checkpoint}
use Rattle.frame_stream.specs.Frames.{Splits, frame, frames}
use Rattle.frame_stream.specs.Laws.{frame_cancel}
use Rattle.log_records.specs.BlockReader.{blocks_from, payloads_from}
use Rattle.log_records.specs.Codec.{StartsWithRecord}
use Rattle.explain_core.specs.World.{World}
use Rattle.execution.specs.Following.{HasLsn}
use Rattle.standing.specs.Members.{members_of}
use Rattle.running_store.specs.Kept.Laws.{stays_log}
use Rattle.running_store.specs.Laid.{IsLaidOn}
use Rattle.store_engine.specs.Engine.{EngineView, IsAttached, IsEngineRead, ShowsIn}
use Rattle.store_engine.specs.Shipping.{AreFramesFrom, base_of}
use Rattle.store_engine.specs.Store.{meaning_in}
use Rattle.standby_node.specs.Same.{AreAllSame, AreCodesIn, AreSame, BeginsNoFrame, HasCompared, IsSame, IsUnlikeIn, IsUnlikeWithin, MirrorView, Unlike, ends_at, lsn_in, with_all, with_code}
use Rattle.standby_node.specs.Standby.{AreFramesOf, IsFrameOf, MayBeShipped}
use Rattle.standby_node.proofs.AllOf.{all_append}
use Rattle.standby_node.proofs.Compared.{no_both, same_apart}
use Rattle.standby_node.proofs.Decoded.{whole_from}
use Rattle.standby_node.proofs.Ends.{bytes_more}
use Rattle.standby_node.proofs.Logged.{engine_shipped}
use Rattle.standby_node.proofs.OneWay.{one_grouping}
use Rattle.standby_node.proofs.Recorded.{some_bytes}
use Rattle.standby_node.proofs.Refusals.{IsBehind, behind, group_of, joined, left_in, next_of, records_in_front}

-- the engine is read twice
pub read_twice : {O : Type 0} (meaning : Bounds → Meaning O) (old mid new : Disk) (before here after : EngineView) (first second : Type 0) → (first → ⊥) → IsEngineRead meaning old mid before here first → IsEngineRead meaning mid new here after second → IsEngineRead meaning old new before after second
read_twice {O} meaning old mid new before here after first second fine one two = record {
  kept = stays_then one.kept two.kept;
  engine = two.engine ∙ ap (λ (e : EngineView). record e { broken = after.broken }) one.engine;
  broken = two.broken;
  shows = λ p w shows. ⊎_elim (λ failed. absurd (fine failed)) (λ there. two.shows p w there) (one.shows p w shows);
}

-- and what it answers may be said otherwise
pub read_as : {O : Type 0} (meaning : Bounds → Meaning O) (old new : Disk) (before after : EngineView) (first second : Type 0) → first ↔ second → IsEngineRead meaning old new before after first → IsEngineRead meaning old new before after second
read_as {O} meaning old new before after first second same it = record {
  kept = it.kept;
  engine = it.engine;
  broken = (λ is. same.0 (it.broken.0 is), λ is. it.broken.1 (same.1 is));
  shows = λ p w shows. ⊎_elim (λ failed. inl (same.0 failed)) (λ there. inr there) (it.shows p w shows);
}

-- what is attached stays so
pub read_attached : {O : Type 0} (meaning : Bounds → Meaning O) (old new : Disk) (before after : EngineView) (failed : Type 0) → IsEngineRead meaning old new before after failed → IsAttached meaning old before → IsAttached meaning new after
read_attached {O} meaning old new before after failed it attached = subst (λ (e : EngineView). IsAttached meaning new e) (sym it.engine) (λ told_new.
    let told = it.kept.time.files_told.1 told_new in
    let was = attached told in
    (subst (λ (file : List ℕ). IsLaidOn before.parts.volatile.objects file) (sym (ap (λ (f : Files). f Objects) (it.kept.reads told))) was.0, stays_log (meaning before.parts.log.bounds) old new before.parts.log told it.kept was.1))

-- an answer that is made of another fails so where that does
pub same_ok : {T U E : Type 0} (r : Result T E) (s : Result U E) (x : T) (y : U) (e : E) → r ≡ Ok x → s ≡ Ok y → IsErrOf r e ↔ IsErrOf s e
same_ok r s x y e is other = (λ failed. cc (is, failed), λ failed. cc (other, failed))

abbrev err_or : {T E : Type 0} → E → Result T E → E
err_or e (Ok value) = e
err_or e (Err other) = other

error_again : {T U E : Type 0} (k e : E) → IsErrOf {T = T} (Err k) e → IsErrOf {T = U} (Err k) e
error_again k e is = ap (λ (x : _). Err x) (ap (err_or k) is)

pub same_err : {T U E : Type 0} (r : Result T E) (s : Result U E) (k e : E) → r ≡ Err k → s ≡ Err k → IsErrOf r e ↔ IsErrOf s e
same_err r s k e is other = (λ failed. other ∙ error_again k e (sym is ∙ failed), λ failed. is ∙ error_again k e (sym other ∙ failed))

pub same_other : {T U E : Type 0} (r : Result T E) (s : Result U E) (x : T) (k e : E) → r ≡ Ok x → s ≡ Err k → (IsErrOf {T = U} (Err k) e → ⊥) → IsErrOf r e ↔ IsErrOf s e
same_other r s x k e is other apart = (λ failed. cc (is, failed), λ failed. absurd (apart (sym other ∙ failed)))

-- ---- all frames of a stream were compared

module _ {O : Type 0} (m : Meaning O) (one_record : (bytes : List ℕ) (first second : Record O) → StartsWithRecord m bytes first → StartsWithRecord m bytes second → first ≡ second) where
  -- where no frame of records is left, all frames were passed
  all_passed : (passed payloads : List (List ℕ)) (groups : List (List (Record O))) (kept rest : List ℕ) → AllByRecursion IsPayload passed → AllByRecursion IsPayload payloads → AreFramesOf m payloads groups → BeginsNoFrame m kept → frames passed ++ kept ≡ frames payloads ++ rest
      → IsBehind passed payloads kept rest
  all_passed passed [] groups kept rest whole_p whole are none same = record { more = passed; are = refl; kept = sym same }
  all_passed passed (payload ∷ payloads) [] kept rest whole_p whole are none same = absurd are
  all_passed [] (payload ∷ payloads) (records ∷ groups) kept rest whole_p whole are none same = absurd (none payload (frames payloads ++ rest) records whole.0 are.0 (same ∙ append_assoc (frame payload) (frames payloads) rest))
  all_passed (p ∷ passed) (payload ∷ payloads) (records ∷ groups) kept rest whole_p whole are none same =
      let both = frame_cancel p payload (frames passed ++ kept) (frames payloads ++ rest) whole_p.0 whole.0 (sym (append_assoc (frame p) (frames passed) kept) ∙ same ∙ append_assoc (frame payload) (frames payloads) rest) in
      let it = all_passed passed payloads groups kept rest whole_p.1 whole.1 are.1 none both.1 in
      record { more = it.more; are = λ i. both.0 i ∷ it.are i; kept = it.kept }

  -- what was compared of frames with which the bytes begin, and the records behind theirs
  compared_behind : (first : List (List ℕ)) (bytes : List ℕ) (it : MirrorView) (h : HasCompared m first bytes it) → BeginsNoFrame m it.frames.kept → (payloads : List (List ℕ)) (groups : List (List (Record O))) (rest : List ℕ) → AllByRecursion IsPayload payloads → AreFramesOf m payloads groups
      → bytes ≡ frames payloads ++ rest → IsBehind h.payloads payloads it.frames.kept rest
  compared_behind first bytes it h none payloads groups rest whole are is = all_passed h.payloads payloads groups it.frames.kept rest h.passed.whole whole are none (sym h.passed.is ∙ is)

  pub stream_same : (first : List (List ℕ)) (bytes : List ℕ) (it : MirrorView) (h : HasCompared m first bytes it) → BeginsNoFrame m it.frames.kept → AreAllSame it.base m first bytes
  stream_same first bytes it h none payloads groups rest whole are is =
      let behind = compared_behind first bytes it h none payloads groups rest whole are is in
      let at = records_in_front m one_record payloads behind.more h.groups groups (subst (λ (l : List (List ℕ)). AreFramesOf m l h.groups) behind.are h.frames_are) are in
      (same_apart it.base m first (records_of groups) at.0 (subst (λ (l : List (Record O)). AreSame it.base m first l) at.1 h.same)).0

  -- the codes of a log, which begins with this LSN
  pub loaded_codes : (base : ℕ) (first : List (List ℕ)) (bytes : List ℕ) (it : MirrorView) (h : HasCompared m first bytes it) → BeginsNoFrame m it.frames.kept → it.base ≡ base → (payloads : List (List ℕ)) (groups : List (List (Record O))) → AllByRecursion IsPayload payloads → AreFramesOf m payloads groups → bytes ≡ frames payloads
      → it.codes ≡ with_all base m first (records_of groups)
  loaded_codes base first bytes it h none base_is payloads groups whole are is =
      let behind = compared_behind first bytes it h none payloads groups [] whole are (is ∙ sym (append-nil (frames payloads))) in
      let all = nothing_behind behind.more behind.are behind.kept in
      let same = one_grouping m one_record payloads h.groups groups (subst (λ (l : List (List ℕ)). AreFramesOf m l h.groups) all h.frames_are) are in
      h.codes_are ∙ (λ i. with_all (base_is i) m first (records_of (same i)))
    where
      nothing_behind : (more : List (List ℕ)) → h.payloads ≡ payloads ++ more → [] ≡ frames more ++ it.frames.kept → h.payloads ≡ payloads
      nothing_behind [] all kept = all ∙ append-nil payloads
      nothing_behind (payload ∷ more) all kept = cc kept

  -- a payload whose records are the same has no other one
  none_within : (base : ℕ) (codes : List (List ℕ)) (payload : List ℕ) (records : List (Record O)) (why : Unlike) → IsFrameOf m payload records → AreSame base m codes records → IsUnlikeWithin base m codes payload why → ⊥
  none_within base codes payload records why of same it =
      let rest = record_code m it.next ++ it.rest in
      let some : 0 < length rest = omega (arith, length-append (record_code m it.next) it.rest, some_bytes m it.next) in
      let at = next_of m one_record it.begun records rest some (left_in m one_record it.begun records rest it.shipped of.shipped (sym of.is ∙ it.split)) in
      let next : at.next ≡ it.next = one_record rest at.next it.next at.starts (record { rest = it.rest; split = refl; in_grammar = it.next_shipped.0 }) in
      let now = with_all base m codes it.begun in
      let here = (same_apart base m codes it.begun (at.next ∷ at.later) (subst (λ (l : List (Record O)). AreSame base m codes l) at.are same)).1.0 in
      no_both base now (lsn_in it.next) (record_code m it.next) why (subst (λ (r : Record O). IsSame base now (lsn_in r) (record_code m r)) next here) it.unlike

  -- so another one comes in a frame that ends behind those that were followed
  pub unlike_later : (base : ℕ) (codes : List (List ℕ)) (bytes more : List ℕ) (payloads : List (List ℕ)) (groups : List (List (Record O))) (kept : List ℕ) (why : Unlike) → AreAllSame base m codes bytes → Splits bytes payloads kept → AreFramesOf m payloads groups
      → (it : IsUnlikeIn base m codes (bytes ++ more) why) → length bytes < ends_at base m it
  unlike_later base codes bytes more payloads groups kept why all splits are it = ⊎_elim (λ less. less) (λ within. absurd (not_within within)) (cases_lt (length bytes) (ends_at base m it))
    where
      not_within : ends_at base m it ≤ length bytes → ⊥
      not_within within =
          let front = frames it.payloads ++ frame it.payload in
          let rest = drop (length front) bytes in
          let split : bytes ++ more ≡ front ++ it.more = it.split ∙ sym (append_assoc (frames it.payloads) (frame it.payload) it.more) in
          let begins : bytes ≡ front ++ rest = sym (take-append-drop (length front) bytes) ∙ ap (λ (l : List ℕ). l ++ rest) (sym (take-append-le (length front) bytes more within) ∙ ap (λ (l : List ℕ). take (length front) l) split ∙ take-append_seam front it.more) in
          let others = it.payloads ++ it.payload ∷ [] in
          let later = behind payloads others kept rest splits.whole (all_append IsPayload it.payloads (it.payload ∷ []) it.whole (it.is_payload, tt)) splits.unfinished
          (sym splits.is ∙ begins ∙ ap (λ (l : List ℕ). l ++ rest) (sym (bytes_more it.payloads it.payload))) in
          let placed : payloads ≡ it.payloads ++ it.payload ∷ later.more = later.are ∙ append_assoc it.payloads (it.payload ∷ []) later.more in
          let at = group_of m one_record it.payloads it.payload later.more groups (subst (λ (l : List (List ℕ)). AreFramesOf m l groups) placed are) in
          let before : at.front ≡ it.groups = one_grouping m one_record it.payloads at.front it.groups at.of_front it.frames_are in
          let records : records_of groups ≡ records_of it.groups ++ (at.group ++ records_of at.later)
          = ap (λ (gs : List (List (Record O))). records_of gs) at.are ∙ joined at.front at.group at.later ∙ ap (λ (gs : List (List (Record O))). records_of gs ++ (at.group ++ records_of at.later)) before in
          let same = subst (λ (l : List (Record O)). AreSame base m codes l) records (all payloads groups kept splits.whole are splits.is) in
          let now = with_all base m codes (records_of it.groups) in
          let here = same_apart base m now at.group (records_of at.later) (same_apart base m codes (records_of it.groups) (at.group ++ records_of at.later) same).1 in
          none_within base now it.payload at.group why at.of_group here.0 it.unlike

-- ---- the records of a log

-- the payloads of frames have records that may be shipped
all_shipped : {O : Type 0} (m : Meaning O) (payloads : List (List ℕ)) (groups : List (List (Record O))) → AreFramesOf m payloads groups → AllByRecursion (MayBeShipped m) (records_of groups)
all_shipped m [] [] are = tt
all_shipped m [] (group ∷ groups) are = absurd are
all_shipped m (payload ∷ payloads) [] are = absurd are
all_shipped m (payload ∷ payloads) (group ∷ groups) are = all_append (MayBeShipped m) group (records_of groups) are.0.shipped (all_shipped m payloads groups are.1)

-- so each of them has an LSN
with_lsns : {O : Type 0} (m : Meaning O) (records : List (Record O)) → AllByRecursion (MayBeShipped m) records → AllByRecursion HasLsn records
with_lsns m [] all = tt
with_lsns m (r ∷ records) all = (all.0.1, with_lsns m records all.1)

eq_same : (n : ℕ) → nat_eq n n ≡ true
eq_same n = eq-eqb n n refl

taken_next : (base : ℕ) (codes : List (List ℕ)) (lsn : ℕ) (code : List ℕ) → lsn ≡ base + length codes → with_code base codes lsn code ≡ codes ++ code ∷ []
taken_next base codes lsn code is =
    let test : nat_eq lsn (base + length codes) ≡ true = ap (λ (n : ℕ). nat_eq n (base + length codes)) is ∙ eq_same (base + length codes) in
    ap (λ (b : Bool). if b then codes ++ code ∷ [] else codes) test

module _ {O : Type 0} (m : Meaning O) (base : ℕ) where
  codes_of_log : (low next : ℕ) (codes : List (List ℕ)) (records : List (Record O)) → next ≡ base + length codes → AreRecords m low next records → AllByRecursion (MayBeShipped m) records → with_all base m codes records ≡ codes ++ map (record_code m) records
  codes_of_log low next codes [] at are all = sym (append-nil codes)
  codes_of_log low next codes (Logged_checkpoint table ∷ records) at are all = absurd all.0.1
  codes_of_log low next codes (Logged_command lsn op ∷ records) at are all =
      let code = record_code m (Logged_command lsn op) in
      ap (λ (l : List (List ℕ)). with_all base m l records) (taken_next base codes lsn code (are.1.0 ∙ at)) ∙ codes_of_log low (next + 1) (codes ++ code ∷ []) records (omega (arith, at, length-append codes (code ∷ []))) are.2 all.1
      ∙ append_assoc codes (code ∷ []) (map (record_code m) records)
  codes_of_log low next codes (Logged_identity lsn x value ∷ records) at are all =
      let code = record_code m (Logged_identity lsn x value) in
      ap (λ (l : List (List ℕ)). with_all base m l records) (taken_next base codes lsn code (are.1.0 ∙ at)) ∙ codes_of_log low (next + 1) (codes ++ code ∷ []) records (omega (arith, at, length-append codes (code ∷ []))) are.2 all.1
      ∙ append_assoc codes (code ∷ []) (map (record_code m) records)

-- what is read of a log are frames, and the codes of its records
pub record IsLoadable {O : Type 0} (m : Meaning O) (w : World O) (base : ℕ) (bytes : List ℕ) : Type 0 where
  pub payloads : List (List ℕ)
  pub groups : List (List (Record O))
  pub whole : AllByRecursion IsPayload payloads
  pub frames_are : AreFramesOf m payloads groups
  pub is : bytes ≡ frames payloads
  pub base_is : base ≡ w.base
  pub codes : AreCodesIn m w (with_all base m [] (records_of groups))

pub loadable : {O : Type 0} (meaning : Bounds → Meaning O) (p : Params) (d : Disk) (engine : EngineView) (w : World O) (base : ℕ) (bytes : List ℕ) → ShowsIn meaning p d engine w → base ≡ base_of engine → AreFramesFrom meaning d engine base bytes
    → ((low from : ℕ) (groups : List (List (Record O))) → AreRecords (meaning_in meaning p) low low (records_of groups) → AreFramesOf (meaning_in meaning p) (payloads_from (meaning_in meaning p) from groups) (blocks_from from groups))
    → ((low from : ℕ) (groups : List (List (Record O))) → low ≤ from → AreRecords (meaning_in meaning p) low low (records_of groups) → AreRecords (meaning_in meaning p) from from (records_of (blocks_from from groups)))
    → ((low from : ℕ) (groups : List (List (Record O))) → low ≤ from → AreRecords (meaning_in meaning p) low low (records_of groups) → members_of (records_of (blocks_from from groups)) ≡ drop (from - low) (members_of (records_of groups)))
    → IsLoadable (meaning_in meaning p) w base bytes
loadable {O} meaning p d engine w base bytes shows base_is are framed placed members =
    let m = meaning_in meaning p in
    let it = engine_shipped meaning p d engine w base bytes shows (omega (arith, base_is)) are in
    let here : base ≡ w.base = base_is ∙ shows.shows.log.base in
    let low = it.header.base in
    let late : low ≤ base = omega (arith, here, it.base) in
    let records = records_of (blocks_from base it.groups) in
    let fit = framed low base it.groups it.log.placed in
    let at : AreRecords m base base records = placed low base it.groups late it.log.placed in
    let none : base - low ≡ 0 = omega (arith, here, it.base) in
    let shipped = all_shipped m (payloads_from m base it.groups) (blocks_from base it.groups) fit in
    record {
      payloads = payloads_from m base it.groups;
      groups = blocks_from base it.groups;
      whole = whole_from m base it.groups (recursion_from_All IsPayload (map (payload_of m) it.groups) it.log.log.whole);
      frames_are = fit;
      is = it.frames_are;
      base_is = here;
      codes = record {
        records = records;
        placed = subst (λ (n : ℕ). AreRecords m n n records) here at;
        members = members low base it.groups late it.log.placed ∙ ap (λ (n : ℕ). drop n (members_of (records_of it.groups))) none ∙ it.members;
        with_lsns = with_lsns m records shipped;
        codes_are = codes_of_log m base base base [] records (omega arith) at shipped;
      };
    }
