-- A stream without fault is not refused, nor is one where a standby has followed more of it.
use Rattle.std.proofs.Common.{◌≡◌, ◌∙◌, sym, subst, ap, ℕ, ◌<◌, ◌+◌, List, [], ◌∷◌, ◌++◌, length, refl, arith, true, inl, inr, ◌⊎◌, ⊎_elim, append_assoc, length-append, length-drop, None, Some}
use Rattle.std.specs.List.{AllByRecursion}
use Rattle.std.proofs.lemmas.Bool.{cond-true}
use Rattle.std.proofs.lemmas.List.{append_cancel_left}
use Rattle.std.proofs.lemmas.List.Concat.{flat_map-append}
use Rattle.byteorder.specs.Endian.{little_number}
use Rattle.disk_model.specs.Disk.{Disk}
use Rattle.oper_core.specs.Meaning.{Meaning}
use Rattle.oper_core.specs.declared.bounds.Bounds.{Bounds}
use Rattle.formats.specs.Log.{IsPayload}
use Rattle.formats.specs.Records.{payload_of, record_code, records_of}
use Rattle.formats.specs.declared.params.Params.{Params}
use Rattle.formats.specs.declared.record.Record.{Record}
use Rattle.frame_stream.specs.Frames.{HasBadLength, IsFrameLength, IsUnfinished, Splits, frame, frames}
use Rattle.frame_stream.specs.Laws.{frame_cancel, length_stands}
use Rattle.log_records.specs.Codec.{StartsWithRecord}
use Rattle.explain_core.specs.History.{Member}
use Rattle.execution.specs.Following.{HasLsn}
use Rattle.execution.specs.Judged.{Judged, first_refused, follows, is_refused, judge_behind, with_judged}
use Rattle.execution.specs.Judged.Judged.{Passed, Taken, Gap as Leaves_gap, Differs as Is_different}
use Rattle.store_engine.specs.Store.{meaning_in}
use Rattle.standby_node.specs.Feeding.{BeginsNoRecord, ComeNext, HasRefused, IsJudgedNext, IsOfStream}
use Rattle.standby_node.specs.Standby.{AreFramesOf, HasBegun, IsFollowing, IsFrameOf, MayBeShipped, StandbyView}
use Rattle.standby_node.specs.declared.follow_err.FollowErr.{FollowErr}
use Rattle.standby_node.specs.declared.follow_err.FollowErr.TheVariants.{BadFrame, Gap, Differs, LogFull, DiskFault, Damaged, Memory, Stopped}
use Rattle.standby_node.proofs.AllOf.{all_behind}
use Rattle.standby_node.proofs.InHand.{no_code, payload_is}
use Rattle.standby_node.proofs.Judging.{refused_append, refused_front}
use Rattle.standby_node.proofs.OneWay.{one_grouping}

-- ---- frames, and first ones of them

-- the frames behind the first ones, and what was kept of them
pub record IsBehind (ps qs : List (List ℕ)) (x y : List ℕ) : Type 0 where
  pub more : List (List ℕ)
  pub are : ps ≡ qs ++ more
  pub kept : y ≡ frames more ++ x

pub behind : (ps qs : List (List ℕ)) (x y : List ℕ) → AllByRecursion IsPayload ps → AllByRecursion IsPayload qs → IsUnfinished x → frames ps ++ x ≡ frames qs ++ y → IsBehind ps qs x y
behind ps [] x y all_p all_q none same = record { more = ps; are = refl; kept = sym same }
behind [] (q ∷ qs) x y all_p all_q none same = absurd (none q (frames qs ++ y) all_q.0 (same ∙ append_assoc (frame q) (frames qs) y))
behind (p ∷ ps) (q ∷ qs) x y all_p all_q none same =
    let first = frame_cancel p q (frames ps ++ x) (frames qs ++ y) all_p.0 all_q.0 (sym (append_assoc (frame p) (frames ps) x) ∙ same ∙ append_assoc (frame q) (frames qs) y) in
    let rest = behind ps qs x y all_p.1 all_q.1 none first.1 in
    record { more = rest.more; are = λ i. first.0 i ∷ rest.are i; kept = rest.kept }

-- frames have no bad length in front
pub right_length : (p rest kept : List ℕ) → IsPayload p → kept ≡ frame p ++ rest → HasBadLength kept → ⊥
right_length p rest kept is stands bad =
    let long : little_number 4 kept ≡ length p = ap (λ (l : List ℕ). little_number 4 l) stands ∙ length_stands p rest is in
    bad.1 (subst IsFrameLength (sym long) (is.some, is.short))

module _ {O : Type 0} (m : Meaning O) (one_record : (bytes : List ℕ) (first second : Record O) → StartsWithRecord m bytes first → StartsWithRecord m bytes second → first ≡ second) where
  -- the groups of the first payloads, and those behind them
  pub record HasFront (qs ps : List (List ℕ)) (gs : List (List (Record O))) : Type 0 where
    pub front : List (List (Record O))
    pub later : List (List (Record O))
    pub are : gs ≡ front ++ later
    pub of_front : AreFramesOf m qs front
    pub of_later : AreFramesOf m ps later

  pub front_of : (qs ps : List (List ℕ)) (gs : List (List (Record O))) → AreFramesOf m (qs ++ ps) gs → HasFront qs ps gs
  front_of [] ps gs are = record { front = []; later = gs; are = refl; of_front = tt; of_later = are }
  front_of (q ∷ qs) ps [] are = absurd are
  front_of (q ∷ qs) ps (g ∷ gs) are =
      let rest = front_of qs ps gs are.1 in
      record { front = g ∷ rest.front; later = rest.later; are = ap (λ (l : List (List (Record O))). g ∷ l) rest.are; of_front = (are.0, rest.of_front); of_later = rest.of_later }

  -- the records of first frames stand in front of those of all
  pub records_in_front : (qs ps : List (List ℕ)) (gs hs : List (List (Record O))) → AreFramesOf m (qs ++ ps) gs → AreFramesOf m qs hs → (later : List (Record O)) × (records_of gs ≡ records_of hs ++ later)
  records_in_front qs ps gs hs are of_front =
      let at = front_of qs ps gs are in
      let same : at.front ≡ hs = one_grouping m one_record qs at.front hs at.of_front of_front in
      (records_of at.later, ap (λ (l : List (List (Record O))). records_of l) at.are ∙ flat_map-append (λ g. g) at.front at.later ∙ ap (λ (l : List (List (Record O))). records_of l ++ records_of at.later) same)

  -- that of the next one
  pub record HasGroup (qs : List (List ℕ)) (p : List ℕ) (gs : List (List (Record O))) : Type 0 where
    pub front : List (List (Record O))
    pub group : List (Record O)
    pub later : List (List (Record O))
    pub are : gs ≡ front ++ group ∷ later
    pub of_front : AreFramesOf m qs front
    pub of_group : IsFrameOf m p group

  pub group_of : (qs : List (List ℕ)) (p : List ℕ) (ps : List (List ℕ)) (gs : List (List (Record O))) → AreFramesOf m (qs ++ p ∷ ps) gs → HasGroup qs p gs
  group_of qs p ps gs are = let it = front_of qs (p ∷ ps) gs are in by_later it.front it.later it.are it.of_front it.of_later
    where
      by_later : (front later : List (List (Record O))) → gs ≡ front ++ later → AreFramesOf m qs front → AreFramesOf m (p ∷ ps) later → HasGroup qs p gs
      by_later front [] is of_front of_later = absurd of_later
      by_later front (g ∷ later) is of_front of_later = record { front = front; group = g; later = later; are = is; of_front = of_front; of_group = of_later.0 }

  -- the records of a group behind its first ones, of which these bytes are left
  pub record IsLeft (begun group : List (Record O)) (rest : List ℕ) : Type 0 where
    pub later : List (Record O)
    pub are : group ≡ begun ++ later
    pub shipped : AllByRecursion (MayBeShipped m) later
    pub codes : payload_of m later ≡ rest

  pub left_in : (begun group : List (Record O)) (rest : List ℕ) → AllByRecursion (MayBeShipped m) begun → AllByRecursion (MayBeShipped m) group → payload_of m group ≡ payload_of m begun ++ rest → IsLeft begun group rest
  left_in [] group rest all_b all_g same = record { later = group; are = refl; shipped = all_g; codes = same }
  left_in (b ∷ begun) [] rest all_b all_g same = absurd (no_code m b begun (no_front (payload_of m (b ∷ begun)) rest (sym same)))
    where
      no_front : (xs ys : List ℕ) → xs ++ ys ≡ [] → xs ≡ []
      no_front [] ys is = refl
      no_front (x ∷ xs) ys is = cc
  left_in (b ∷ begun) (r ∷ group) rest all_b all_g same =
      let split = same ∙ append_assoc (record_code m b) (payload_of m begun) rest in
      let head = one_record (payload_of m (r ∷ group)) r b (record { rest = payload_of m group; split = refl; in_grammar = all_g.0.0 }) (record { rest = payload_of m begun ++ rest; split = split; in_grammar = all_b.0.0 }) in
      let tail = append_cancel_left (record_code m r) (payload_of m group) (payload_of m begun ++ rest) (split ∙ ap (λ (t : Record O). record_code m t ++ (payload_of m begun ++ rest)) (sym head)) in
      let it = left_in begun group rest all_b.1 all_g.1 tail in
      record { later = it.later; are = λ i. head i ∷ it.are i; shipped = it.shipped; codes = it.codes }

  -- the next one, where there are some
  pub record HasNext (begun group : List (Record O)) (rest : List ℕ) : Type 0 where
    pub next : Record O
    pub later : List (Record O)
    pub are : group ≡ begun ++ next ∷ later
    pub shipped : MayBeShipped m next
    pub starts : StartsWithRecord m rest next

  pub next_of : (begun group : List (Record O)) (rest : List ℕ) → 0 < length rest → IsLeft begun group rest → HasNext begun group rest
  next_of begun group rest some it = by_later it.later it.are it.shipped it.codes
    where
      by_later : (later : List (Record O)) → group ≡ begun ++ later → AllByRecursion (MayBeShipped m) later → payload_of m later ≡ rest → HasNext begun group rest
      by_later [] are shipped codes = absurd (omega (arith, some, ap (λ (l : List ℕ). length l) codes))
      by_later (r ∷ later) are shipped codes = record { next = r; later = later; are = are; shipped = shipped.0; starts = record { rest = payload_of m later; split = sym codes; in_grammar = shipped.0.0 } }

  -- a record that is refused is not among records of which none is
  not_refused : (first : List (Member O)) (before : List (Record O)) (r : Record O) (later : List (Record O)) (j : Judged O) → first_refused m first (before ++ r ∷ later) ≡ None → judge_behind m (follows m first before) r ≡ j → is_refused j ≡ true → ⊥
  not_refused first before r later j fine is refused =
      let front = refused_front m first before (r ∷ later) fine in
      let h = follows m first before in
      let told : is_refused (judge_behind m h r) ≡ true = ap is_refused is ∙ refused in
      let some : first_refused m h (r ∷ later) ≡ Some (judge_behind m h r) = cond-true (is_refused (judge_behind m h r)) (Some (judge_behind m h r)) (first_refused m (with_judged h (judge_behind m h r)) later) told in
      none_is_some (judge_behind m h r) (sym some ∙ sym (refused_append m first before (r ∷ later) front) ∙ fine)
    where
      none_is_some : (j : Judged O) → Some j ≡ None → ⊥
      none_is_some j same = cc

-- records of groups, told apart at one of them
pub joined : {O : Type 0} (front : List (List (Record O))) (group : List (Record O)) (later : List (List (Record O))) → records_of (front ++ group ∷ later) ≡ records_of front ++ (group ++ records_of later)
joined [] group later = refl
joined {O} (g ∷ front) group later = ap (λ (l : List (Record O)). g ++ l) (joined front group later) ∙ sym (append_assoc g (records_of front) (group ++ records_of later))

pub regroup : {O : Type 0} (xs begun later last : List (Record O)) → xs ++ ((begun ++ later) ++ last) ≡ (xs ++ begun) ++ (later ++ last)
regroup {O} xs begun later last = ap (λ (l : List (Record O)). xs ++ l) (append_assoc begun later last) ∙ sym (append_assoc xs begun (later ++ last))

-- the payload in hand is the codes of the records that were followed, and the bytes that come next
pub payload_left : {O : Type 0} (m : Meaning O) (s : StandbyView) (begun : List (Record O)) (has : HasBegun m s.frames.kept s.done begun) (left : List ℕ) (come : ComeNext s left) → come.payload ≡ payload_of m begun ++ left
payload_left m s begun has left come =
    payload_is m s begun has (length come.payload) (come.payload, come.later, come.is_payload, refl, come.stands) ∙ ap (λ (l : List ℕ). payload_of m begun ++ l) (sym come.rest_is)

-- a bad length stays one where more comes
pub bad_more : (kept more : List ℕ) → HasBadLength kept → HasBadLength (kept ++ more)
bad_more [] more bad = absurd (omega (arith, bad.0))
bad_more (a ∷ []) more bad = absurd (omega (arith, bad.0))
bad_more (a ∷ b ∷ []) more bad = absurd (omega (arith, bad.0))
bad_more (a ∷ b ∷ c ∷ []) more bad = absurd (omega (arith, bad.0))
bad_more (a ∷ b ∷ c ∷ d ∷ kept) more bad = (omega (arith, length-append kept more), bad.1)

-- ---- why a stream is refused

-- the answer to a record that is refused
abbrev pub answer_to : {O : Type 0} → Judged O → FollowErr
answer_to Passed = Memory
answer_to (Taken member) = Memory
answer_to (Leaves_gap expected got) = Gap expected got
answer_to (Is_different lsn) = Differs lsn

module _ {O : Type 0} (m : Meaning O) (h : List (Member O)) (s : StandbyView) where
  -- the record that begins the bytes is refused behind this history
  pub record IsJudgedAt (left : List ℕ) (e : FollowErr) : Type 0 where
    pub logged : Record O
    pub starts : StartsWithRecord m left logged
    pub with_lsn : HasLsn logged
    pub refused : is_refused (judge_behind m h logged) ≡ true
    pub answer : e ≡ answer_to (judge_behind m h logged)

  -- why the bytes that come next are refused
  abbrev pub IsRefusedAt : List ℕ → FollowErr → Type 0
  IsRefusedAt left e = (BeginsNoRecord m left × (e ≡ BadFrame (s.frames.passed + (4 + s.done)))) ⊎ IsJudgedAt left e

  -- it is for a frame's length, or for bytes that come next in one
  abbrev pub HasReason : FollowErr → Type 0
  HasReason e = (HasBadLength s.frames.kept × (e ≡ BadFrame s.frames.passed)) ⊎ ((left : List ℕ) × ComeNext s left × IsRefusedAt left e)

  judged_reason : (j : Judged O) → is_refused j ≡ true → IsJudgedNext m h s j → HasReason (answer_to j)
  judged_reason j refused is = inr (is.rest, is.next, inr (record { logged = is.logged; starts = is.starts; with_lsn = is.with_lsn; refused = ap is_refused is.judged_so ∙ refused; answer = ap answer_to (sym is.judged_so) }))

  pub reason : (e : FollowErr) → HasRefused m h s e → IsOfStream e → HasReason e
  reason (BadFrame place) refused stream =
      ⊎_elim (λ (bad : HasBadLength s.frames.kept × (place ≡ s.frames.passed)). inl (bad.0, ap (λ (n : ℕ). BadFrame n) bad.1))
      (λ (none : (left : List ℕ) × ComeNext s left × BeginsNoRecord m left × (place ≡ s.frames.passed + (4 + s.done))). inr (none.0, none.1, inl (none.2, ap (λ (n : ℕ). BadFrame n) none.3))) refused
  reason (Gap expected got) refused stream = judged_reason (Leaves_gap expected got) refl refused
  reason (Differs lsn) refused stream = judged_reason (Is_different lsn) refl refused
  reason (LogFull used need limit) refused stream = absurd stream
  reason DiskFault refused stream = absurd stream
  reason (Damaged file place) refused stream = absurd stream
  reason Memory refused stream = absurd stream
  reason (Stopped place) refused stream = absurd stream

module _ {O : Type 0} (m : Meaning O) (one_record : (bytes : List ℕ) (first second : Record O) → StartsWithRecord m bytes first → StartsWithRecord m bytes second → first ≡ second) (first : List (Member O)) (before : List (Record O)) where
  -- of records of which none is refused one begins the bytes behind the first ones
  pub record IsFollowedNext (left : List ℕ) : Type 0 where
    pub next : Record O
    pub later : List (Record O)
    pub shipped : MayBeShipped m next
    pub starts : StartsWithRecord m left next
    pub fine_with : first_refused m first (before ++ next ∷ later) ≡ None

  -- so they are not refused there
  pub next_fine : (s : StandbyView) (h : List (Member O)) → h ≡ follows m first before → (left : List ℕ) → IsFollowedNext left → (e : FollowErr) → IsRefusedAt m h s left e → ⊥
  next_fine s h members left it e refused =
      ⊎_elim (λ (none : BeginsNoRecord m left × (e ≡ BadFrame (s.frames.passed + (4 + s.done)))). none.0 it.next it.starts it.shipped.1)
      (λ (is : IsJudgedAt m h s left e).
      let same : is.logged ≡ it.next = one_record left is.logged it.next is.starts it.starts in
      let judged : judge_behind m (follows m first before) it.next ≡ judge_behind m h is.logged = λ i. judge_behind m (sym members i) (sym same i) in
      not_refused m one_record first before it.next it.later (judge_behind m h is.logged) it.fine_with judged is.refused) refused

-- of all records one begins the bytes that are left behind the first ones
pub record ComesNext {O : Type 0} (m : Meaning O) (all before : List (Record O)) (left : List ℕ) : Type 0 where
  pub next : Record O
  pub later : List (Record O)
  pub are : all ≡ before ++ next ∷ later
  pub shipped : MayBeShipped m next
  pub starts : StartsWithRecord m left next

-- A standby has passed the first of these frames, and not the next one.
module _ {O : Type 0} (meaning : Bounds → Meaning O) (p : Params) (first : List (Member O)) (payloads : List (List ℕ)) (groups : List (List (Record O))) (rest : List ℕ) (whole : AllByRecursion IsPayload payloads)
    (frames_are : AreFramesOf (meaning_in meaning p) payloads groups) (bytes more : List ℕ) (d : Disk) (s : StandbyView) (b : IsFollowing meaning p first bytes d s)
    (one_record : (bytes : List ℕ) (first second : Record O) → StartsWithRecord (meaning_in meaning p) bytes first → StartsWithRecord (meaning_in meaning p) bytes second → first ≡ second)
    (q : List ℕ) (others : List (List ℕ)) (are : payloads ≡ b.payloads ++ q ∷ others) (kept : s.frames.kept ++ more ≡ frames (q ∷ others) ++ rest) where
  abbrev m : Meaning O
  m = meaning_in meaning p

  all : AllByRecursion IsPayload (q ∷ others)
  all = all_behind IsPayload b.payloads (q ∷ others) (subst (λ (l : List (List ℕ)). AllByRecursion IsPayload l) are whole)

  behind_q : frames (q ∷ others) ++ rest ≡ frame q ++ (frames others ++ rest)
  behind_q = append_assoc (frame q) (frames others) rest

  -- what is kept has no bad length
  pub right_here : HasBadLength s.frames.kept → ⊥
  right_here bad = right_length q (frames others ++ rest) (s.frames.kept ++ more) all.0 (kept ∙ behind_q) (bad_more s.frames.kept more bad)

  -- a payload that the kept bytes begin with is the next one
  pub same_payload : (payload later : List ℕ) → IsPayload payload → s.frames.kept ≡ frame payload ++ later → q ≡ payload
  same_payload payload later is stands =
      (frame_cancel q payload (frames others ++ rest) (later ++ more) all.0 is (sym behind_q ∙ sym kept ∙ ap (λ (l : List ℕ). l ++ more) stands ∙ append_assoc (frame payload) later more)).0

  pub next_group : HasGroup m one_record b.payloads q groups
  next_group = group_of m one_record b.payloads q others groups (subst (λ (l : List (List ℕ)). AreFramesOf m l groups) are frames_are)

  pub same_front : next_group.front ≡ b.groups
  same_front = one_grouping m one_record b.payloads next_group.front b.groups next_group.of_front b.frames_are

  -- one of these records comes next
  pub next_in : (left : List ℕ) → ComeNext s left → ComesNext m (records_of groups) (records_of b.groups ++ b.begun) left
  next_in left come =
      let at = next_group in
      let codes : payload_of m at.group ≡ payload_of m b.begun ++ left = sym at.of_group.is ∙ same_payload come.payload come.later come.is_payload come.stands ∙ payload_left m s b.begun b.in_hand left come in
      let some : 0 < length left = omega (arith, come.left, ap (λ (l : List ℕ). length l) come.rest_is, length-drop s.done come.payload) in
      let it = next_of m one_record b.begun at.group left some (left_in m one_record b.begun at.group left b.in_hand.shipped at.of_group.shipped codes) in
      let records : records_of groups ≡ (records_of b.groups ++ b.begun) ++ it.next ∷ (it.later ++ records_of at.later) =
      ap (λ (gs : List (List (Record O))). records_of gs) at.are ∙ joined at.front at.group at.later ∙ (λ i. records_of (same_front i) ++ (it.are i ++ records_of at.later)) ∙ regroup (records_of b.groups) b.begun (it.next ∷ it.later) (records_of at.later) in
      record { next = it.next; later = it.later ++ records_of at.later; are = records; shipped = it.shipped; starts = it.starts }

  -- where none of them is refused it has no reason to refuse the stream
  pub none_here : first_refused m first (records_of groups) ≡ None → (e : FollowErr) → HasReason m b.world.history s e → ⊥
  none_here fine e why =
      ⊎_elim (λ (bad : HasBadLength s.frames.kept × (e ≡ BadFrame s.frames.passed)). right_here bad.0)
      (λ (at : (left : List ℕ) × ComeNext s left × IsRefusedAt m b.world.history s left e).
      let it = next_in at.0 at.1 in
      next_fine m one_record first (records_of b.groups ++ b.begun) s b.world.history b.members at.0
      (record { next = it.next; later = it.later; shipped = it.shipped; starts = it.starts; fine_with = ap (λ (rs : List (Record O)). first_refused m first rs) (sym it.are) ∙ fine }) e at.2) why

module _ {O : Type 0} (meaning : Bounds → Meaning O) (p : Params) (first : List (Member O)) (bytes more : List ℕ) (payloads : List (List ℕ)) (groups : List (List (Record O))) (rest : List ℕ) (splits : Splits (bytes ++ more) payloads rest) (right : HasBadLength rest → ⊥)
    (frames_are : AreFramesOf (meaning_in meaning p) payloads groups) (fine : first_refused (meaning_in meaning p) first (records_of groups) ≡ None) (then : Disk) (other : StandbyView) (b : IsFollowing meaning p first bytes then other)
    (one_record : (bytes : List ℕ) (first second : Record O) → StartsWithRecord (meaning_in meaning p) bytes first → StartsWithRecord (meaning_in meaning p) bytes second → first ≡ second) where
  abbrev all_kept : List ℕ
  all_kept = other.frames.kept ++ more

  rest_of : IsBehind payloads b.payloads rest all_kept
  rest_of =
      let split : bytes ++ more ≡ frames b.payloads ++ all_kept = ap (λ (l : List ℕ). l ++ more) b.passed.is ∙ append_assoc (frames b.payloads) other.frames.kept more in
      behind payloads b.payloads rest all_kept splits.whole b.passed.whole splits.unfinished (sym splits.is ∙ split)

  -- no reason is one that it has
  no_reason : (e : FollowErr) → HasReason (meaning_in meaning p) b.world.history other e → ⊥
  no_reason e why = by_more rest_of.more rest_of.are rest_of.kept
    where
      by_more : (others : List (List ℕ)) → payloads ≡ b.payloads ++ others → all_kept ≡ frames others ++ rest → ⊥
      by_more [] are kept =
          ⊎_elim (λ (bad : HasBadLength other.frames.kept × (e ≡ BadFrame other.frames.passed)). right (subst HasBadLength kept (bad_more other.frames.kept more bad.0)))
          (λ (at : (left : List ℕ) × ComeNext other left × IsRefusedAt (meaning_in meaning p) b.world.history other left e).
          let come = at.1 in
          let stands : all_kept ≡ frame come.payload ++ (come.later ++ more) = ap (λ (l : List ℕ). l ++ more) come.stands ∙ append_assoc (frame come.payload) come.later more in
          splits.unfinished come.payload (come.later ++ more) come.is_payload (sym kept ∙ stands)) why
      by_more (q ∷ others) are kept = none_here meaning p first payloads groups rest splits.whole frames_are bytes more then other b one_record q others are kept fine e why

  -- no answer of a stream is one that it gets
  pub not_answered : (e : FollowErr) → HasRefused (meaning_in meaning p) b.world.history other e → IsOfStream e → ⊥
  not_answered e refused stream = no_reason e (reason (meaning_in meaning p) b.world.history other e refused stream)
