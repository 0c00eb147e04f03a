-- A standby to which some of what one primary shipped came.
use Rattle.std.proofs.Common.{◌≡◌, ◌∙◌, sym, subst, ap, ℕ, ◌+◌, ◌-◌, ◌≤◌, Bool, true, None, List, [], ◌∷◌, ◌++◌, length, map, take, drop, max, arith, inl, inr, ⊎_elim, append_assoc, length-append, length-drop}
use Rattle.std.specs.Prelude.{IsTrue}
use Rattle.std.specs.List.{AllByRecursion}
use Rattle.std.proofs.Math.Seq.{take-append_seam, take-length}
use Rattle.std.proofs.lemmas.Bool.{both_ways, cases_lt}
use Rattle.std.proofs.lemmas.List.{append-nil, drop-drop}
use Rattle.std.proofs.lemmas.List.Elements.{recursion_from_All}
use Rattle.disk_model.specs.Disk.{Disk, Files}
use Rattle.oper_core.specs.Meaning.{AreWithin, IsSmall, Meaning, Widens}
use Rattle.oper_core.specs.State.{State}
use Rattle.oper_core.specs.declared.bounds.Bounds.{Bounds}
use Rattle.formats.specs.Log.{IsPayload}
use Rattle.formats.specs.Records.{payload_of, records_of}
use Rattle.formats.specs.declared.params.Params.{Params}
use Rattle.formats.specs.declared.record.Record.{Record}
use Rattle.frame_stream.specs.Frames.{HasBadLength, IsUnfinished, Splits, frame, frames}
use Rattle.frame_stream.specs.Laws.{length-frame}
use Rattle.log_records.specs.BlockReader.{blocks_from, payloads_from}
use Rattle.log_records.specs.Codec.{StartsWithRecord}
use Rattle.explain_core.specs.History.{IsHistory, IsMember, Member, commands_of}
use Rattle.explain_core.specs.Stable.{IsStableOf, Stable, stable_of}
use Rattle.explain_core.specs.StableLaws.{commands_of-append}
use Rattle.explain_core.specs.World.{World}
use Rattle.execution.specs.Judged.{first_refused, follows, is_refused, judge_behind, may_follow}
use Rattle.standing.specs.Members.{members_of}
use Rattle.store_engine.specs.Store.{Stands, meaning_in}
use Rattle.standby_node.specs.Feeding.{BeginsNoRecord, ComeNext, HasRefused, IsAtFrameEnd, IsOfStream}
use Rattle.standby_node.specs.OnePrimary.{IsFront, IsGap, IsShipped, stable_in}
use Rattle.standby_node.specs.Standby.{AreFramesOf, IsBetweenPieces, IsFollowing, StandbyView}
use Rattle.standby_node.specs.declared.follow_err.FollowErr.{FollowErr}
use Rattle.standby_node.specs.declared.follow_err.FollowErr.TheVariants.{BadFrame}
use Rattle.standby_node.proofs.AllOf.{all_behind, all_front}
use Rattle.standby_node.proofs.Decoded.{AreOf, whole_from}
use Rattle.standby_node.proofs.Fed.{all_past, begun_none}
use Rattle.standby_node.proofs.OneWay.{one_grouping}
use Rattle.standby_node.proofs.Primary.{IsJudgedOf, IsRecordOf, all_lead, lead_within, record_judged}
use Rattle.standby_node.proofs.Refusals.{ComesNext, HasReason, IsBehind, IsJudgedAt, IsRefusedAt, answer_to, behind, joined, left_in, next_group, next_in, not_answered, reason, records_in_front, regroup, right_here, same_front, same_payload}
use Rattle.standby_node.proofs.Shipped.{blocks_are_from, shipped}
use Rattle.standby_node.proofs.Stays.{take_front}

-- no frame begins where no byte is
pub none_unfinished : IsUnfinished []
none_unfinished payload later is same = omega (arith, ap (λ (l : List ℕ). length l) same, length-append (frame payload) later, length-frame payload)

-- a front of a history is its first members
front_taken : {O : Type 0} (first h : List (Member O)) → IsFront first h → first ≡ take (length first) h
front_taken {O} first h is = sym (ap (λ (l : List (Member O)). take (length first) l) is.1 ∙ take-append_seam first is.0)

front_within : {O : Type 0} (first h : List (Member O)) → IsFront first h → length first ≤ length h
front_within {O} first h is = omega (arith, ap (λ (l : List (Member O)). length l) is.1, length-append first is.0)

-- a history whose members may follow
pub record MayFollow {O : Type 0} (m : Meaning O) (h : List (Member O)) : Type 0 where
  pub is : IsHistory m h
  pub may : (s : State) (member : Member O) → IsMember m s member → IsTrue (may_follow m s member)

-- the stable members of a world may follow under the same bounds and larger ones
pub stable_follow : {O : Type 0} (meaning : Bounds → Meaning O) (b d : Bounds) (w : World O) → IsSmall d → AreWithin b d → IsStableOf (meaning b) (stable_of w) (stable_in w) w.installed
    → ((parts : Stable O) (h : List (Member O)) (installed : ℕ → Bool) → IsSmall b → AreWithin b d → IsStableOf (meaning b) parts h installed → IsStableOf (meaning d) parts h installed)
    → ((s : State) (member : Member O) → IsMember (meaning d) s member → IsTrue (may_follow (meaning d) s member)) → MayFollow (meaning d) (stable_in w)
stable_follow meaning b d w small within is wider may =
    let low : IsSmall b = record { objects = omega (arith, small.objects, within.objects); cap = omega (arith, small.cap, within.cap) } in
    record { is = (wider (stable_of w) (stable_in w) w.installed low within is).members; may = may }

-- records of it lead from a front of it to a front of it
pub leads_within : {O : Type 0} (m : Meaning O) (h : List (Member O)) → MayFollow m h → (first : List (Member O)) → IsFront first h → (records : List (Record O)) → AllByRecursion (IsRecordOf h) records → (k : ℕ) × (k ≤ length h) × (follows m first records ≡ take k h)
leads_within {O} m h it first front records all =
    let lead = lead_within m h it.is it.may (length first) (front_within first h front) records all in
    (lead.end, lead.within, ap (λ (l : List (Member O)). follows m l records) (front_taken first h front) ∙ lead.followed)

-- a record of it is refused for a gap alone
gap_judged : {O : Type 0} (m : Meaning O) (h : List (Member O)) (it : MayFollow m h) (k : ℕ) (r : Record O) (e : FollowErr) → IsJudgedOf m h it.is it.may k r → is_refused (judge_behind m (take k h) r) ≡ true → e ≡ answer_to (judge_behind m (take k h) r) → IsGap e
gap_judged m h it k r e (IsJudgedOf.Behind is) refused answer = absurd (both_ways _ (ap is_refused is) refused)
gap_judged m h it k r e (IsJudgedOf.Due member below is more) refused answer = absurd (both_ways _ (ap is_refused is) refused)
gap_judged m h it k r e (IsJudgedOf.Ahead got is) refused answer = subst IsGap (sym (answer ∙ ap answer_to is)) tt

module _ {O : Type 0} (meaning : Bounds → Meaning O) (q : Params) (h : List (Member O)) (bytes more : List ℕ) (all : AreOf (meaning_in meaning q) h (bytes ++ more))
    (one_record : (bytes : List ℕ) (first second : Record O) → StartsWithRecord (meaning_in meaning q) bytes first → StartsWithRecord (meaning_in meaning q) bytes second → first ≡ second) where
  abbrev m : Meaning O
  m = meaning_in meaning q

  -- whole frames that the bytes begin with
  front_frames : (payloads : List (List ℕ)) (rest : List ℕ) → AllByRecursion IsPayload payloads → bytes ≡ frames payloads ++ rest → IsBehind all.payloads payloads [] (rest ++ more)
  front_frames payloads rest whole split =
      let here : bytes ++ more ≡ frames payloads ++ (rest ++ more) = ap (λ (l : List ℕ). l ++ more) split ∙ append_assoc (frames payloads) rest more in
      behind all.payloads payloads [] (rest ++ more) all.whole whole none_unfinished (append-nil (frames all.payloads) ∙ sym all.is ∙ here)

  -- have records of the history
  pub front_records : (payloads : List (List ℕ)) (groups : List (List (Record O))) (rest : List ℕ) → AllByRecursion IsPayload payloads → AreFramesOf m payloads groups → bytes ≡ frames payloads ++ rest → AllByRecursion (IsRecordOf h) (records_of groups)
  front_records payloads groups rest whole frames_are split =
      let it = front_frames payloads rest whole split in
      let at = records_in_front m one_record payloads it.more all.groups groups (subst (λ (l : List (List ℕ)). AreFramesOf m l all.groups) it.are all.frames_are) frames_are in
      all_front (IsRecordOf h) (records_of groups) at.0 (subst (λ (l : List (Record O)). AllByRecursion (IsRecordOf h) l) at.1 all.records)

  module _ (may : MayFollow m h) (first : List (Member O)) (front : IsFront first h) where
    -- so they lead to a front of it
    pub front_follows : (payloads : List (List ℕ)) (groups : List (List (Record O))) (rest : List ℕ) → AllByRecursion IsPayload payloads → AreFramesOf m payloads groups → bytes ≡ frames payloads ++ rest → IsFront (follows m first (records_of groups)) h
    front_follows payloads groups rest whole frames_are split =
        let it = leads_within m h may first front (records_of groups) (front_records payloads groups rest whole frames_are split) in
        subst (λ (l : List (Member O)). IsFront l h) (sym it.2) (take_front it.0 h)

    -- and a frame's end stands for commands that those of it begin with
    pub end_front : (old : Disk) (least : ℕ) (files : Files) (said : List ℕ) → IsAtFrameEnd meaning q old least first bytes files said → (commands : List O) × Stands meaning q files commands × IsFront commands (commands_of h)
    end_front old least files said at =
        let past = follows m first (records_of at.groups) in
        let is = front_follows at.payloads at.groups at.rest at.whole at.frames_are at.split in
        (commands_of past, at.stands, (commands_of is.0, ap (λ (l : List (Member O)). commands_of l) is.1 ∙ commands_of-append past is.0))

  module _ (first : List (Member O)) (d : Disk) (s : StandbyView) (b : IsFollowing meaning q first bytes d s) where
    abbrev its : List (Record O)
    its = records_of b.groups ++ b.begun

    rest_of : IsBehind all.payloads b.payloads [] (s.frames.kept ++ more)
    rest_of = front_frames b.payloads s.frames.kept b.passed.whole b.passed.is

    -- a payload that is kept is not behind the last one
    none_behind : (payload later : List ℕ) → IsPayload payload → s.frames.kept ≡ frame payload ++ later → s.frames.kept ++ more ≡ [] → ⊥
    none_behind payload later is stands none = none_unfinished payload (later ++ more) is (sym none ∙ ap (λ (l : List ℕ). l ++ more) stands ∙ append_assoc (frame payload) later more)

    -- the records of the frame in hand are of the history too
    in_frame : (rest later : List ℕ) → IsPayload (payload_of m b.begun ++ rest) → s.frames.kept ≡ frame (payload_of m b.begun ++ rest) ++ later → (others : List (List ℕ)) → all.payloads ≡ b.payloads ++ others → s.frames.kept ++ more ≡ frames others ++ []
        → AllByRecursion (IsRecordOf h) its
    in_frame rest later is stands [] are kept = absurd (none_behind (payload_of m b.begun ++ rest) later is stands kept)
    in_frame rest later is stands (p ∷ others) are kept =
        let at = next_group meaning q first all.payloads all.groups [] all.whole all.frames_are bytes more d s b one_record p others are kept in
        let front = same_front meaning q first all.payloads all.groups [] all.whole all.frames_are bytes more d s b one_record p others are kept in
        let same = same_payload meaning q first all.payloads all.groups [] all.whole all.frames_are bytes more d s b one_record p others are kept (payload_of m b.begun ++ rest) later is stands in
        let left = left_in m one_record b.begun at.group rest b.in_hand.shipped at.of_group.shipped (sym at.of_group.is ∙ same) in
        let records : records_of all.groups ≡ its ++ (left.later ++ records_of at.later) =
        ap (λ (gs : List (List (Record O))). records_of gs) at.are ∙ joined at.front at.group at.later ∙ (λ i. records_of (front i) ++ (left.are i ++ records_of at.later)) ∙ regroup (records_of b.groups) b.begun left.later (records_of at.later) in
        all_front (IsRecordOf h) its (left.later ++ records_of at.later) (subst (λ (l : List (Record O)). AllByRecursion (IsRecordOf h) l) records all.records)

    -- so are all that it followed
    its_records : AllByRecursion (IsRecordOf h) its
    its_records = elim (cases_lt 0 s.done) [
      | inl some ↦ let it = b.in_hand.front some in in_frame it.0 it.1 it.2 it.3 rest_of.more rest_of.are rest_of.kept
      | inr few ↦
          let none : b.begun ≡ [] = begun_none meaning q first bytes d s b (omega (arith, few)) in
          subst (λ (l : List (Record O)). AllByRecursion (IsRecordOf h) l) (sym (append-nil (records_of b.groups)) ∙ ap (λ (l : List (Record O)). records_of b.groups ++ l) (sym none))
          (front_records b.payloads b.groups s.frames.kept b.passed.whole b.frames_are b.passed.is)
    ]

    module _ (may : MayFollow m h) (front : IsFront first h) where
      -- it has a front of the history
      leads : (k : ℕ) × (k ≤ length h) × (b.world.history ≡ take k h)
      leads = let it = leads_within m h may first front its its_records in (it.0, it.1, b.members ∙ it.2)

      pub its_front : IsFront b.world.history h
      its_front = subst (λ (l : List (Member O)). IsFront l h) (sym leads.2) (take_front leads.0 h)

      -- and what comes next is refused for a gap alone
      next_gap : (left : List ℕ) → ComesNext m (records_of all.groups) its left → (e : FollowErr) → IsRefusedAt m b.world.history s left e → IsGap e
      next_gap left it e refused =
          ⊎_elim (λ (none : BeginsNoRecord m left × (e ≡ BadFrame (s.frames.passed + (4 + s.done)))). absurd (none.0 it.next it.starts it.shipped.1))
          (λ (is : IsJudgedAt m b.world.history s left e).
          let same : is.logged ≡ it.next = one_record left is.logged it.next is.starts it.starts in
          let judged : judge_behind m b.world.history is.logged ≡ judge_behind m (take leads.0 h) it.next = λ i. judge_behind m (leads.2 i) (same i) in
          let of : IsRecordOf h it.next = (all_behind (IsRecordOf h) its (it.next ∷ it.later) (subst (λ (l : List (Record O)). AllByRecursion (IsRecordOf h) l) it.are all.records)).0 in
          gap_judged m h may leads.0 it.next e (record_judged m h may.is may.may leads.0 leads.1 it.next of) (ap is_refused (sym judged) ∙ is.refused) (is.answer ∙ ap answer_to judged)) refused

      gap_at : (e : FollowErr) → HasReason m b.world.history s e → (others : List (List ℕ)) → all.payloads ≡ b.payloads ++ others → s.frames.kept ++ more ≡ frames others ++ [] → IsGap e
      gap_at e why [] are kept =
          ⊎_elim (λ (bad : HasBadLength s.frames.kept × (e ≡ BadFrame s.frames.passed)). absurd (omega (arith, bad.0.0, ap (λ (l : List ℕ). length l) kept, length-append s.frames.kept more)))
          (λ (at : (left : List ℕ) × ComeNext s left × IsRefusedAt m b.world.history s left e). absurd (none_behind at.1.payload at.1.later at.1.is_payload at.1.stands kept)) why
      gap_at e why (p ∷ others) are kept =
          ⊎_elim (λ (bad : HasBadLength s.frames.kept × (e ≡ BadFrame s.frames.passed)). absurd (right_here meaning q first all.payloads all.groups [] all.whole all.frames_are bytes more d s b one_record p others are kept bad.0))
          (λ (at : (left : List ℕ) × ComeNext s left × IsRefusedAt m b.world.history s left e).
          next_gap at.0 (next_in meaning q first all.payloads all.groups [] all.whole all.frames_are bytes more d s b one_record p others are kept at.0 at.1) e at.2) why

      pub gap_alone : (e : FollowErr) → HasRefused m b.world.history s e → IsOfStream e → IsGap e
      gap_alone e refused stream = gap_at e (reason m b.world.history s e refused stream) rest_of.more rest_of.are rest_of.kept

-- ---- what is shipped up from the next LSN

module _ {O : Type 0} (m wide : Meaning O) (w : World O) (low : 1 ≤ w.base) (may : MayFollow wide (stable_in w)) (first : List (Member O)) (front : IsFront first (stable_in w)) (from : ℕ) (near : from ≤ length first + 1) (bytes : List ℕ) (it : IsShipped m w from bytes) where
  abbrev pub records_on : List (Record O)
  records_on = records_of (blocks_from from it.groups)

  -- leads to all of it
  pub leads_all : (first_refused wide first records_on ≡ None) × (follows wide first records_on ≡ stable_in w)
  leads_all =
      let h = stable_in w in
      let k = length first in
      let within = front_within first h front in
      let taken = front_taken first h front in
      let late : it.header.base ≤ from = omega (arith, it.base, it.reached) in
      let are = blocks_are_from m it.header.base from it.groups late it.log.placed in
      let start : w.base - 1 + (from - it.header.base) ≡ from - 1 = omega (arith, it.base, low, late) in
      let rest : members_of records_on ≡ drop (from - 1) h =
      are.1 ∙ ap (λ (l : List (Member O)). drop (from - it.header.base) l) it.members ∙ drop-drop (from - it.header.base) (w.base - 1) h ∙ ap (λ (n : ℕ). drop n h) start in
      let count : length (members_of records_on) ≡ length h - (from - 1) = ap (λ (l : List (Member O)). length l) rest ∙ length-drop (from - 1) h in
      let members : members_of records_on ≡ take (length (members_of records_on)) (drop (from - 1) h) = sym (take-length (members_of records_on)) ∙ ap (λ (l : List (Member O)). take (length (members_of records_on)) l) rest in
      let lead = all_lead wide h may.is may.may m from k from records_on are.0 within (omega (arith, it.reached, low)) near members in
      let total : max k (from - 1 + length (members_of records_on)) ≡ length h = omega (arith, count, within, near) in (
        ap (λ (l : List (Member O)). first_refused wide l records_on) taken ∙ lead.fine,
        ap (λ (l : List (Member O)). follows wide l records_on) taken ∙ lead.followed ∙ ap (λ (n : ℕ). take n h) total ∙ take-length h,
      )

-- A primary ships on to a standby with larger numbers or the same.
module _ {O : Type 0} (meaning : Bounds → Meaning O) (q : Params) (m : Meaning O) (widens : Widens m (meaning_in meaning q)) (objects : m.objects ≤ (meaning_in meaning q).objects) (cap : m.cap ≤ (meaning_in meaning q).cap)
    (w : World O) (low : 1 ≤ w.base) (may : MayFollow (meaning_in meaning q) (stable_in w)) (first : List (Member O)) (front : IsFront first (stable_in w)) (from : ℕ) (near : from ≤ length first + 1) (all : List ℕ) (it : IsShipped m w from all)
    (one_record : (bytes : List ℕ) (first second : Record O) → StartsWithRecord (meaning_in meaning q) bytes first → StartsWithRecord (meaning_in meaning q) bytes second → first ≡ second) where
  frames_on : AreFramesOf (meaning_in meaning q) (payloads_from m from it.groups) (blocks_from from it.groups)
  frames_on = shipped m (meaning_in meaning q) widens objects cap it.header.base it.header.base from it.groups it.log.placed

  splits_on : Splits all (payloads_from m from it.groups) []
  splits_on = record {
    is = it.frames_are ∙ sym (append-nil (frames (payloads_from m from it.groups)));
    whole = whole_from m from it.groups (recursion_from_All IsPayload (map (payload_of m) it.groups) it.log.log.whole);
    unfinished = none_unfinished;
  }

  abbrev LeadsAll : List (Record O) → Type 0
  LeadsAll records = (first_refused (meaning_in meaning q) first records ≡ None) × (follows (meaning_in meaning q) first records ≡ stable_in w)

  leads_on : LeadsAll (records_of (blocks_from from it.groups))
  leads_on = leads_all m (meaning_in meaning q) w low may first front from near all it

  -- all frames of it lead to all that is stable
  pub frames_lead : ((bytes : List ℕ) (payloads others : List (List ℕ)) (rest last : List ℕ) → Splits bytes payloads rest → Splits bytes others last → payloads ≡ others)
      → (payloads : List (List ℕ)) (groups : List (List (Record O))) (rest : List ℕ) → Splits all payloads rest → AreFramesOf (meaning_in meaning q) payloads groups → LeadsAll (records_of groups)
  frames_lead apart payloads groups rest mine frames_are =
      let same = apart all payloads (payloads_from m from it.groups) rest [] mine splits_on in
      let grouped = one_grouping (meaning_in meaning q) one_record (payloads_from m from it.groups) groups (blocks_from from it.groups) (subst (λ (l : List (List ℕ)). AreFramesOf (meaning_in meaning q) l groups) same frames_are) frames_on in
      subst (λ (gs : List (List (Record O))). LeadsAll (records_of gs)) (sym grouped) leads_on

  module _ (bytes more : List ℕ) (all_is : all ≡ bytes ++ more) (d : Disk) (s : StandbyView) (b : IsFollowing meaning q first bytes d s) where
    -- so it refuses none of it
    pub unrefused_on : (e : FollowErr) → HasRefused (meaning_in meaning q) b.world.history s e → IsOfStream e → ⊥
    unrefused_on e refused stream =
        let splits = subst (λ (l : List ℕ). Splits l (payloads_from m from it.groups) []) all_is splits_on in
        not_answered meaning q first bytes more (payloads_from m from it.groups) (blocks_from from it.groups) [] splits (λ bad. omega (arith, bad.0)) frames_on leads_on.0 d s b one_record e refused stream

    -- and comes to have all of it, once all of it came
    pub all_on : more ≡ [] → IsBetweenPieces s → ((bytes : List ℕ) (payloads others : List (List ℕ)) (rest last : List ℕ) → Splits bytes payloads rest → Splits bytes others last → payloads ≡ others) → b.world.history ≡ stable_in w
    all_on none here apart =
        let same : all ≡ bytes = all_is ∙ ap (λ (l : List ℕ). bytes ++ l) none ∙ append-nil bytes in
        let mine : Splits all b.payloads s.frames.kept = record { is = same ∙ b.passed.is; whole = b.passed.whole; unfinished = here.unfinished } in
        all_past meaning q first bytes d s b here.none_done ∙ (frames_lead apart b.payloads b.groups s.frames.kept mine b.frames_are).1
