-- The first refusal of a stream, for whichever standby, and however much of it came.
use Rattle.std.proofs.Common.{◌≡◌, ◌∙◌, sym, subst, ap, ℕ, ◌+◌, List, [], ◌∷◌, ◌++◌, length, refl, ◌⊎◌, ⊎_elim, append_assoc}
use Rattle.std.specs.List.{AllByRecursion}
use Rattle.std.proofs.lemmas.List.{append_cancel_left}
use Rattle.disk_model.specs.Disk.{Disk}
use Rattle.oper_core.specs.Meaning.{Meaning}
use Rattle.oper_core.specs.declared.bounds.Bounds.{Bounds}
use Rattle.formats.specs.Log.{IsPayload}
use Rattle.formats.specs.Records.{payload_of, record_code, records_of}
use Rattle.formats.specs.declared.params.Params.{Params}
use Rattle.formats.specs.declared.record.Record.{Record}
use Rattle.frame_stream.specs.Frames.{HasBadLength, frame, frames}
use Rattle.frame_stream.specs.Laws.{frame_cancel}
use Rattle.log_records.specs.Codec.{StartsWithRecord}
use Rattle.explain_core.specs.History.{Member}
use Rattle.execution.specs.Judged.{first_refused, follows, judge_behind}
use Rattle.store_engine.specs.Store.{meaning_in}
use Rattle.standby_node.specs.Feeding.{BeginsNoRecord, ComeNext, HasRefused, IsOfStream}
use Rattle.standby_node.specs.Standby.{AreFramesOf, IsFollowing, MayBeShipped, StandbyView}
use Rattle.standby_node.specs.declared.follow_err.FollowErr.{FollowErr}
use Rattle.standby_node.specs.declared.follow_err.FollowErr.TheVariants.{BadFrame}
use Rattle.standby_node.proofs.Ends.{gone_fine}
use Rattle.standby_node.proofs.OneWay.{one_grouping}
use Rattle.standby_node.proofs.Refusals.{HasReason, IsJudgedAt, IsRefusedAt, answer_to, bad_more, next_fine, none_here, payload_left, reason, right_length}

-- of one stream the one standby has passed fewer frames than the other, or more, or as many
data AreApart (ps qs : List (List ℕ)) (x y : List ℕ) : Type 0 where
  Short : (q : List ℕ) (others : List (List ℕ)) → qs ≡ ps ++ q ∷ others → x ≡ frames (q ∷ others) ++ y → AreApart ps qs x y
  Long : (q : List ℕ) (others : List (List ℕ)) → ps ≡ qs ++ q ∷ others → y ≡ frames (q ∷ others) ++ x → AreApart ps qs x y
  Level : ps ≡ qs → x ≡ y → AreApart ps qs x y

one_more : (p q : List ℕ) (ps qs : List (List ℕ)) (x y : List ℕ) → p ≡ q → AreApart ps qs x y → AreApart (p ∷ ps) (q ∷ qs) x y
one_more p q ps qs x y same (AreApart.Short r others are kept) = AreApart.Short r others (λ i. sym same i ∷ are i) kept
one_more p q ps qs x y same (AreApart.Long r others are kept) = AreApart.Long r others (λ i. same i ∷ are i) kept
one_more p q ps qs x y same (AreApart.Level are kept) = AreApart.Level (λ i. same i ∷ are i) kept

told_apart : (ps qs : List (List ℕ)) (x y : List ℕ) → AllByRecursion IsPayload ps → AllByRecursion IsPayload qs → frames ps ++ x ≡ frames qs ++ y → AreApart ps qs x y
told_apart [] [] x y all_p all_q same = AreApart.Level refl same
told_apart [] (q ∷ qs) x y all_p all_q same = AreApart.Short q qs refl same
told_apart (p ∷ ps) [] x y all_p all_q same = AreApart.Long p ps refl (sym same)
told_apart (p ∷ ps) (q ∷ qs) x y all_p all_q same =
    let first = frame_cancel p q (frames ps ++ x) (frames qs ++ y) all_p.0 all_q.0 (sym (append_assoc (frame p) (frames ps) x) ∙ same ∙ append_assoc (frame q) (frames qs) y) in
    one_more p q ps qs x y first.0 (told_apart ps qs x y all_p.1 all_q.1 first.1)

module _ {O : Type 0} (m : Meaning O) (one_record : (bytes : List ℕ) (first second : Record O) → StartsWithRecord m bytes first → StartsWithRecord m bytes second → first ≡ second) where
  -- of one frame it has followed fewer records, or more, or as many
  data AreApartIn (bs cs : List (Record O)) (x y : List ℕ) : Type 0 where
    Fewer : (r : Record O) (later : List (Record O)) → cs ≡ bs ++ r ∷ later → MayBeShipped m r → StartsWithRecord m x r → AreApartIn bs cs x y
    More : (r : Record O) (later : List (Record O)) → bs ≡ cs ++ r ∷ later → MayBeShipped m r → StartsWithRecord m y r → AreApartIn bs cs x y
    Same : bs ≡ cs → x ≡ y → AreApartIn bs cs x y

  one_record_more : (b c : Record O) (bs cs : List (Record O)) (x y : List ℕ) → b ≡ c → AreApartIn bs cs x y → AreApartIn (b ∷ bs) (c ∷ cs) x y
  one_record_more b c bs cs x y same (AreApartIn.Fewer r later are shipped starts) = AreApartIn.Fewer r later (λ i. sym same i ∷ are i) shipped starts
  one_record_more b c bs cs x y same (AreApartIn.More r later are shipped starts) = AreApartIn.More r later (λ i. same i ∷ are i) shipped starts
  one_record_more b c bs cs x y same (AreApartIn.Same are left) = AreApartIn.Same (λ i. same i ∷ are i) left

  apart_in : (bs cs : List (Record O)) (x y : List ℕ) → AllByRecursion (MayBeShipped m) bs → AllByRecursion (MayBeShipped m) cs → payload_of m bs ++ x ≡ payload_of m cs ++ y → AreApartIn bs cs x y
  apart_in [] [] x y all_b all_c same = AreApartIn.Same refl same
  apart_in [] (c ∷ cs) x y all_b all_c same = AreApartIn.Fewer c cs refl all_c.0 (record { rest = payload_of m cs ++ y; split = same ∙ append_assoc (record_code m c) (payload_of m cs) y; in_grammar = all_c.0.0 })
  apart_in (b ∷ bs) [] x y all_b all_c same = AreApartIn.More b bs refl all_b.0 (record { rest = payload_of m bs ++ x; split = sym same ∙ append_assoc (record_code m b) (payload_of m bs) x; in_grammar = all_b.0.0 })
  apart_in (b ∷ bs) (c ∷ cs) x y all_b all_c same =
      let split : record_code m b ++ (payload_of m bs ++ x) ≡ record_code m c ++ (payload_of m cs ++ y) = sym (append_assoc (record_code m b) (payload_of m bs) x) ∙ same ∙ append_assoc (record_code m c) (payload_of m cs) y in
      let head = one_record (record_code m b ++ (payload_of m bs ++ x)) b c (record { rest = payload_of m bs ++ x; split = refl; in_grammar = all_b.0.0 }) (record { rest = payload_of m cs ++ y; split = split; in_grammar = all_c.0.0 }) in
      let tail = append_cancel_left (record_code m b) (payload_of m bs ++ x) (payload_of m cs ++ y) (split ∙ ap (λ (t : Record O). record_code m t ++ (payload_of m cs ++ y)) (sym head)) in
      one_record_more b c bs cs x y head (apart_in bs cs x y all_b.1 all_c.1 tail)

  -- the same bytes are refused for one reason behind one history
  same_answer : (h k : List (Member O)) (s t : StandbyView) (x y : List ℕ) (e f : FollowErr) → h ≡ k → x ≡ y → s.frames.passed + (4 + s.done) ≡ t.frames.passed + (4 + t.done) → IsRefusedAt m h s x e → IsRefusedAt m k t y f → e ≡ f
  same_answer h k s t x y e f history left place one other =
      ⊎_elim
      (λ (none : BeginsNoRecord m x × (e ≡ BadFrame (s.frames.passed + (4 + s.done)))).
      ⊎_elim (λ (none_too : BeginsNoRecord m y × (f ≡ BadFrame (t.frames.passed + (4 + t.done)))). none.1 ∙ ap (λ (n : ℕ). BadFrame n) place ∙ sym none_too.1)
      (λ (is : IsJudgedAt m k t y f). absurd (none.0 is.logged (subst (λ (l : List ℕ). StartsWithRecord m l is.logged) (sym left) is.starts) is.with_lsn)) other)
      (λ (is : IsJudgedAt m h s x e).
      ⊎_elim (λ (none : BeginsNoRecord m y × (f ≡ BadFrame (t.frames.passed + (4 + t.done)))). absurd (none.0 is.logged (subst (λ (l : List ℕ). StartsWithRecord m l is.logged) left is.starts) is.with_lsn))
      (λ (too : IsJudgedAt m k t y f).
      let same : is.logged ≡ too.logged = one_record y is.logged too.logged (subst (λ (l : List ℕ). StartsWithRecord m l is.logged) left is.starts) too.starts in
      is.answer ∙ (λ i. answer_to (judge_behind m (history i) (same i))) ∙ sym too.answer) other) one

module _ {O : Type 0} (meaning : Bounds → Meaning O) (p : Params) (first : List (Member O)) (bytes more others rest : List ℕ) (same : bytes ++ more ≡ others ++ rest) (now then : Disk) (one other : StandbyView)
    (a : IsFollowing meaning p first bytes now one) (b : IsFollowing meaning p first others then other)
    (one_record : (bytes : List ℕ) (first second : Record O) → StartsWithRecord (meaning_in meaning p) bytes first → StartsWithRecord (meaning_in meaning p) bytes second → first ≡ second) where
  abbrev m : Meaning O
  m = meaning_in meaning p

  abbrev kept_one : List ℕ
  kept_one = one.frames.kept ++ more

  abbrev kept_other : List ℕ
  kept_other = other.frames.kept ++ rest

  apart : AreApart a.payloads b.payloads kept_one kept_other
  apart =
      let split_one : bytes ++ more ≡ frames a.payloads ++ kept_one = ap (λ (l : List ℕ). l ++ more) a.passed.is ∙ append_assoc (frames a.payloads) one.frames.kept more in
      let split_other : others ++ rest ≡ frames b.payloads ++ kept_other = ap (λ (l : List ℕ). l ++ rest) b.passed.is ∙ append_assoc (frames b.payloads) other.frames.kept rest in
      told_apart a.payloads b.payloads kept_one kept_other a.passed.whole b.passed.whole (sym split_one ∙ same ∙ split_other)

  -- both are in one frame
  module _ (payloads : a.payloads ≡ b.payloads) (kept : kept_one ≡ kept_other) where
    groups : a.groups ≡ b.groups
    groups = one_grouping m one_record b.payloads a.groups b.groups (subst (λ (l : List (List ℕ)). AreFramesOf m l a.groups) payloads a.frames_are) b.frames_are

    passed : one.frames.passed ≡ other.frames.passed
    passed = a.passed.passed ∙ ap (λ (l : List (List ℕ)). length (frames l)) payloads ∙ sym b.passed.passed

    stands_one : (left : List ℕ) (come : ComeNext one left) → kept_one ≡ frame come.payload ++ (come.later ++ more)
    stands_one left come = ap (λ (l : List ℕ). l ++ more) come.stands ∙ append_assoc (frame come.payload) come.later more

    stands_other : (left : List ℕ) (come : ComeNext other left) → kept_other ≡ frame come.payload ++ (come.later ++ rest)
    stands_other left come = ap (λ (l : List ℕ). l ++ rest) come.stands ∙ append_assoc (frame come.payload) come.later rest

    in_frame : (e f : FollowErr) (x y : List ℕ) → ComeNext one x → ComeNext other y → IsRefusedAt m a.world.history one x e → IsRefusedAt m b.world.history other y f → e ≡ f
    in_frame e f x y come there at_e at_f = by_records (apart_in m one_record a.begun b.begun x y a.in_hand.shipped b.in_hand.shipped codes)
      where
        codes : payload_of m a.begun ++ x ≡ payload_of m b.begun ++ y
        codes =
            let payload = (frame_cancel come.payload there.payload (come.later ++ more) (there.later ++ rest) come.is_payload there.is_payload (sym (stands_one x come) ∙ kept ∙ stands_other y there)).0 in
            sym (payload_left m one a.begun a.in_hand x come) ∙ payload ∙ payload_left m other b.begun b.in_hand y there

        by_records : AreApartIn m one_record a.begun b.begun x y → e ≡ f
        by_records (AreApartIn.Fewer r later are shipped starts) =
            let records : (records_of a.groups ++ a.begun) ++ r ∷ later ≡ records_of b.groups ++ b.begun = append_assoc (records_of a.groups) a.begun (r ∷ later) ∙ (λ i. records_of (groups i) ++ sym are i) in
            absurd (next_fine m one_record first (records_of a.groups ++ a.begun) one a.world.history a.members x
            (record { next = r; later = later; shipped = shipped; starts = starts; fine_with = ap (λ (rs : List (Record O)). first_refused m first rs) records ∙ b.fine }) e at_e)
        by_records (AreApartIn.More r later are shipped starts) =
            let records : (records_of b.groups ++ b.begun) ++ r ∷ later ≡ records_of a.groups ++ a.begun = append_assoc (records_of b.groups) b.begun (r ∷ later) ∙ (λ i. records_of (sym groups i) ++ sym are i) in
            absurd (next_fine m one_record first (records_of b.groups ++ b.begun) other b.world.history b.members y
            (record { next = r; later = later; shipped = shipped; starts = starts; fine_with = ap (λ (rs : List (Record O)). first_refused m first rs) records ∙ a.fine }) f at_f)
        by_records (AreApartIn.Same are left) =
            let history : a.world.history ≡ b.world.history = a.members ∙ (λ i. follows m first (records_of (groups i) ++ are i)) ∙ sym b.members in
            let done : one.done ≡ other.done = a.in_hand.count ∙ ap (λ (rs : List (Record O)). length (payload_of m rs)) are ∙ sym b.in_hand.count in
            same_answer m one_record a.world.history b.world.history one other x y e f history left (λ i. passed i + (4 + done i)) at_e at_f

    level : (e f : FollowErr) → HasReason m a.world.history one e → HasReason m b.world.history other f → e ≡ f
    level e f why why_too =
        ⊎_elim
        (λ (bad : HasBadLength one.frames.kept × (e ≡ BadFrame one.frames.passed)).
        ⊎_elim (λ (bad_too : HasBadLength other.frames.kept × (f ≡ BadFrame other.frames.passed)). bad.1 ∙ ap (λ (n : ℕ). BadFrame n) passed ∙ sym bad_too.1)
        (λ (at : (left : List ℕ) × ComeNext other left × IsRefusedAt m b.world.history other left f).
        absurd (right_length at.1.payload (at.1.later ++ rest) kept_one at.1.is_payload (kept ∙ stands_other at.0 at.1) (bad_more one.frames.kept more bad.0))) why_too)
        (λ (at : (left : List ℕ) × ComeNext one left × IsRefusedAt m a.world.history one left e).
        ⊎_elim (λ (bad : HasBadLength other.frames.kept × (f ≡ BadFrame other.frames.passed)).
        absurd (right_length at.1.payload (at.1.later ++ more) kept_other at.1.is_payload (sym kept ∙ stands_one at.0 at.1) (bad_more other.frames.kept rest bad.0)))
        (λ (at_too : (left : List ℕ) × ComeNext other left × IsRefusedAt m b.world.history other left f). in_frame e f at.0 at_too.0 at.1 at_too.1 at.2 at_too.2) why_too) why

  -- one stream has one first refusal
  pub one_answer : (e f : FollowErr) → HasRefused m a.world.history one e → HasRefused m b.world.history other f → IsOfStream e → IsOfStream f → e ≡ f
  one_answer e f refused refused_too of_e of_f = by_place apart
    where
      why : HasReason m a.world.history one e
      why = reason m a.world.history one e refused of_e

      why_too : HasReason m b.world.history other f
      why_too = reason m b.world.history other f refused_too of_f

      by_place : AreApart a.payloads b.payloads kept_one kept_other → e ≡ f
      by_place (AreApart.Short q qs are kept) =
          absurd (none_here meaning p first b.payloads b.groups kept_other b.passed.whole b.frames_are bytes more now one a one_record q qs are kept (gone_fine meaning p first others then other b) e why)
      by_place (AreApart.Long q qs are kept) =
          absurd (none_here meaning p first a.payloads a.groups kept_one a.passed.whole a.frames_are others rest then other b one_record q qs are kept (gone_fine meaning p first bytes now one a) f why_too)
      by_place (AreApart.Level payloads kept) = level payloads kept e f why why_too
