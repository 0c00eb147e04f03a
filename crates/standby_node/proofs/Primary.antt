-- The records of a history are followed by whoever has a first part of it.
use Rattle.std.proofs.Common.{◌≡◌, ◌∙◌, sym, subst, ap, ℕ, zero, suc, ◌+◌, ◌-◌, ◌<◌, ◌≤◌, Bool, true, false, Option, Some, None, List, [], ◌∷◌, ◌++◌, length, take, drop, max, refl, arith, inl, inr, length-take}
use Rattle.std.specs.Prelude.{◌==◌, ⊤, nat_lt, slice_get, IfSome, IsTrue}
use Rattle.std.specs.List.{AllByRecursion}
use Rattle.std.proofs.lemmas.Bool.{cases_lt, cond-true, cond-false, eq-eqb, eqb-true, lt-ltb, le-ltb}
use Rattle.oper_core.specs.Meaning.{Meaning}
use Rattle.oper_core.specs.State.{State}
use Rattle.formats.specs.Records.{AreRecords}
use Rattle.formats.specs.declared.record.Record.{Record}
use Rattle.formats.specs.declared.record.Record.TheVariants.{Command as Logged_command, Identity as Logged_identity, Checkpoint as Logged_checkpoint}
use Rattle.explain_core.specs.GraphLaws.{slice_get-take}
use Rattle.explain_core.specs.History.{IsHistory, IsMember, Member, made_by, with_lsn, value_at}
use Rattle.explain_core.specs.History.Member.{Command, Identity}
use Rattle.explain_core.specs.Stable.{IsStableOf, Stable}
use Rattle.execution.specs.Judged.{Judged, first_refused, follows, is_refused, judge_behind, judge_member, may_follow, with_judged}
use Rattle.execution.specs.Judged.Judged.{Passed, Taken, Gap, Differs}
use Rattle.standing.specs.Members.{members_of}
use Rattle.standby_node.proofs.Judging.{follows_first}

-- ---- a history is what is stable of a store that has installed none of it

abbrev first_installed : ℕ → Bool
first_installed n = n == 0

abbrev pub parts_of : {O : Type 0} → List (Member O) → Stable O
parts_of h = record { slots = λ x. record { lsn = 0; value = [] }; tables = []; base = 1; commands_before = 0; records = h }

pub stable_parts : {O : Type 0} (m : Meaning O) (h : List (Member O)) → IsHistory m h → IsStableOf m (parts_of h) h first_installed
stable_parts m h is = record {
  base = omega arith;
  reached = omega arith;
  records = refl;
  counted = refl;
  members = is;
  within = λ n installed. omega (arith, eqb-true n 0 installed);
  below = λ n few. eq-eqb n 0 (omega (arith, few));
  slots = record {
    closed = λ o p x out installed later writes. absurd (omega (arith, eqb-true p 0 installed, later));
    origin = λ x. inl (refl, refl);
    last = λ x exposed n later installed. absurd (omega (arith, eqb-true n 0 installed, later));
    right = λ x exposed. refl;
  };
  tables = tt;
}

-- ---- the members of a history, one after the other

-- a record is the member that its LSN says; a checkpoint is none
abbrev pub IsRecordOf : {O : Type 0} → List (Member O) → Record O → Type 0
IsRecordOf h (Logged_command lsn op) = with_lsn h lsn ≡ Some (Command op)
IsRecordOf h (Logged_identity lsn x value) = with_lsn h lsn ≡ Some (Identity x value)
IsRecordOf h (Logged_checkpoint table) = ⊤

module _ {O : Type 0} where
  -- one member more of a list, where there is one
  pub record IsNext (h : List (Member O)) (k : ℕ) (member : Member O) : Type 0 where
    pub below : k < length h
    pub there : slice_get h k ≡ Some member
    pub more : take (suc k) h ≡ take k h ++ member ∷ []

  pub next_at : (h : List (Member O)) (k : ℕ) (member : Member O) → slice_get h k ≡ Some member → IsNext h k member
  next_at [] k member is = cc
  next_at (x ∷ h) zero member is = let same : x ≡ member = cc in record { below = omega arith; there = is; more = ap (λ (t : Member O). t ∷ []) same }
  next_at (x ∷ h) (suc k) member is = let it = next_at h k member is in record { below = omega (arith, it.below); there = it.there; more = ap (λ (l : List (Member O)). x ∷ l) it.more }

  -- it is the first of those from there on
  pub first_there : (h : List (Member O)) (k : ℕ) (member : Member O) (rest : List (Member O)) → member ∷ rest ≡ drop k h → (slice_get h k ≡ Some member) × (rest ≡ drop (suc k) h)
  first_there [] zero member rest is = cc
  first_there (x ∷ h) zero member rest is = let same : x ≡ member = cc in (ap (λ (t : Member O). Some t) same, cc)
  first_there [] (suc k) member rest is = cc
  first_there (x ∷ h) (suc k) member rest is = first_there h k member rest is

  -- the rest of a list begins with them
  rest_is : (h : List (Member O)) (j n : ℕ) (member : Member O) (rest : List (Member O)) → member ∷ rest ≡ take (suc n) (drop j h) → (member ∷ drop (suc j) h ≡ drop j h) × (rest ≡ take n (drop (suc j) h))
  rest_is [] zero n member rest is = cc
  rest_is (x ∷ h) zero n member rest is = let same : member ≡ x = cc in (ap (λ (t : Member O). t ∷ h) same, cc)
  rest_is [] (suc j) n member rest is = cc
  rest_is (x ∷ h) (suc j) n member rest is = rest_is h j n member rest is

module _ {O : Type 0} (m : Meaning O) (h : List (Member O)) where
  -- the values after first members are those of the whole
  value_of_front : (k n : ℕ) → n ≤ k → (x : ℕ) → value_at m (take k h) n x ≡ value_at m h n x
  value_of_front k zero few x = refl
  value_of_front k (suc n) few x =
      let before : (λ y. value_at m (take k h) n y) ≡ (λ y. value_at m h n y) = λ i y. value_of_front k n (omega (arith, few)) y i in
      (λ i. made_by m (slice_get-take h k n (omega (arith, few)) i) (before i) x)

  module _ (is : IsHistory m h) (may : (s : State) (member : Member O) → IsMember m s member → IsTrue (may_follow m s member)) where
    -- what is made of a member of it behind first members
    taken_next : (k : ℕ) (member : Member O) → IsNext h k member → judge_member m (λ x. value_at m (take k h) (length (take k h)) x) (length (take k h) + 1) (k + 1) member ≡ Taken member
    taken_next k member next =
        let count : length (take k h) ≡ k = omega (arith, length-take k h, next.below) in
        let s : State = λ x. value_at m (take k h) (length (take k h)) x in
        let after : State = λ x. value_at m h k x in
        let values : s ≡ after = λ i x. (ap (λ (n : ℕ). value_at m (take k h) n x) count ∙ value_of_front k k (omega arith) x) i in
        let member_is : IsMember m after member = subst (λ (o : Option (Member O)). IfSome o (λ (t : Member O). IsMember m after t)) next.there (is k) in
        let allowed : may_follow m s member ≡ true = subst (λ (v : State). may_follow m v member ≡ true) (sym values) (may after member member_is) in
        let end = length (take k h) + 1 in
        cond-false (nat_lt (k + 1) end) Passed _ (le-ltb (k + 1) end (omega (arith, count))) ∙ cond-false (nat_lt end (k + 1)) (Gap end (k + 1)) _ (le-ltb end (k + 1) (omega (arith, count)))
        ∙ cond-true (may_follow m s member) (Taken member) (Differs (k + 1)) allowed

    passed_before : (k lsn : ℕ) (member : Member O) → lsn ≤ k → k ≤ length h → judge_member m (λ x. value_at m (take k h) (length (take k h)) x) (length (take k h) + 1) lsn member ≡ Passed
    passed_before k lsn member old within = cond-true (nat_lt lsn (length (take k h) + 1)) Passed _ (lt-ltb lsn (length (take k h) + 1) (omega (arith, old, within, length-take k h)))

    -- ---- all records

    -- what records make of the first k members: they are refused nowhere, and lead to this many
    pub record LeadTo (k n : ℕ) (records : List (Record O)) : Type 0 where
      pub fine : first_refused m (take k h) records ≡ None
      pub followed : follows m (take k h) records ≡ take n h

    -- a record that is judged so in front
    in_front : (k later n : ℕ) (r : Record O) (records : List (Record O)) (j : Judged O) → judge_behind m (take k h) r ≡ j → is_refused j ≡ false → with_judged (take k h) j ≡ take later h → LeadTo later n records → LeadTo k n (r ∷ records)
    in_front k later n r records j is fine leads it =
        let not : is_refused (judge_behind m (take k h) r) ≡ false = ap is_refused is ∙ fine in
        let next : with_judged (take k h) (judge_behind m (take k h) r) ≡ take later h = ap (λ (t : Judged O). with_judged (take k h) t) is ∙ leads in
        record {
          fine = cond-false (is_refused (judge_behind m (take k h) r)) _ _ not ∙ ap (λ (l : List (Member O)). first_refused m l records) next ∙ it.fine;
          followed = cond-false (is_refused (judge_behind m (take k h) r)) _ _ not ∙ ap (λ (l : List (Member O)). follows m l records) next ∙ it.followed;
        }

    -- a member's record, with its LSN
    one_in_front : (k j : ℕ) (member : Member O) (r : Record O) (records : List (Record O)) → judge_behind m (take k h) r ≡ judge_member m (λ x. value_at m (take k h) (length (take k h)) x) (length (take k h) + 1) j member → k ≤ length h → 1 ≤ j → j ≤ k + 1
        → member ∷ members_of records ≡ take (suc (length (members_of records))) (drop (j - 1) h)
        → ((later : ℕ) → later ≤ length h → j ≤ later → LeadTo later (max later (j + length (members_of records))) records) → LeadTo k (max k (j - 1 + suc (length (members_of records)))) (r ∷ records)
    one_in_front k j member r records is within low high members leads =
        let n = length (members_of records) in
        let split = rest_is h (j - 1) n member (members_of records) members in
        elim (cases_lt k j) [
          | inl next ↦
              let at : j ≡ k + 1 = omega (arith, next, high) in
              let before : j - 1 ≡ k = omega (arith, at) in
              let here = next_at h k member (first_there h k member (drop (suc (j - 1)) h) (split.0 ∙ ap (λ (i : ℕ). drop i h) before)).0 in
              let one : suc k ≡ k + 1 = omega arith in
              let judged : judge_behind m (take k h) r ≡ Taken member = is ∙ ap (λ (i : ℕ). judge_member m (λ x. value_at m (take k h) (length (take k h)) x) (length (take k h) + 1) i member) at ∙ taken_next k member here in
              let total : max (k + 1) (j + n) ≡ max k (j - 1 + suc n) = omega (arith, at, low) in
              subst (λ (t : ℕ). LeadTo k t (r ∷ records)) total (in_front k (k + 1) (max (k + 1) (j + n)) r records (Taken member) judged refl (sym here.more ∙ ap (λ (i : ℕ). take i h) one) (leads (k + 1) (omega (arith, here.below)) (omega (arith, at))))
          | inr old ↦
              let judged : judge_behind m (take k h) r ≡ Passed = is ∙ passed_before k j member old within in
              let total : max k (j + n) ≡ max k (j - 1 + suc n) = omega (arith, low) in
              subst (λ (t : ℕ). LeadTo k t (r ∷ records)) total (in_front k k (max k (j + n)) r records Passed judged refl refl (leads k within old))
        ]

    pub all_lead : (narrow : Meaning O) (from k j : ℕ) (records : List (Record O)) → AreRecords narrow from j records → k ≤ length h → 1 ≤ j → j ≤ k + 1 → members_of records ≡ take (length (members_of records)) (drop (j - 1) h) → LeadTo k (max k (j - 1 + length (members_of records))) records
    all_lead narrow from k j [] are within low high members = let total : k ≡ max k (j - 1 + 0) = omega (arith, high) in record { fine = refl; followed = ap (λ (n : ℕ). take n h) total }
    all_lead narrow from k j (Logged_checkpoint table ∷ records) are within low high members = in_front k k (max k (j - 1 + length (members_of records))) (Logged_checkpoint table) records Passed refl refl refl (all_lead narrow from k j records are.2 within low high members)
    all_lead narrow from k j (Logged_command lsn op ∷ records) are within low high members =
        let at : lsn ≡ j = are.1.0 in
        let so = ap (λ (i : ℕ). judge_member m (λ x. value_at m (take k h) (length (take k h)) x) (length (take k h) + 1) i (Command op)) at in
        let split = rest_is h (j - 1) (length (members_of records)) (Command op) (members_of records) members in
        let n = length (members_of records) in
        let after : suc (j - 1) ≡ j + 1 - 1 = omega (arith, low) in
        let behind = split.1 ∙ ap (λ (i : ℕ). take n (drop i h)) after in
        let total : (later : ℕ) → max later (j + 1 - 1 + n) ≡ max later (j + n) = λ later. omega arith in
        one_in_front k j (Command op) (Logged_command lsn op) records so within low high members (λ later few old.
        subst (λ (t : ℕ). LeadTo later t records) (total later) (all_lead narrow from later (j + 1) records are.2 few (omega arith) (omega (arith, old)) behind))
    all_lead narrow from k j (Logged_identity lsn x value ∷ records) are within low high members =
        let at : lsn ≡ j = are.1.0 in
        let so = ap (λ (i : ℕ). judge_member m (λ x. value_at m (take k h) (length (take k h)) x) (length (take k h) + 1) i (Identity x value)) at in
        let split = rest_is h (j - 1) (length (members_of records)) (Identity x value) (members_of records) members in
        let n = length (members_of records) in
        let after : suc (j - 1) ≡ j + 1 - 1 = omega (arith, low) in
        let behind = split.1 ∙ ap (λ (i : ℕ). take n (drop i h)) after in
        let total : (later : ℕ) → max later (j + 1 - 1 + n) ≡ max later (j + n) = λ later. omega arith in
        one_in_front k j (Identity x value) (Logged_identity lsn x value) records so within low high members (λ later few old.
        subst (λ (t : ℕ). LeadTo later t records) (total later) (all_lead narrow from later (j + 1) records are.2 few (omega arith) (omega (arith, old)) behind))

    -- ---- some of its records, in any order

    late_gap : (k lsn : ℕ) (member : Member O) → k ≤ length h → k + 1 < lsn → judge_member m (λ x. value_at m (take k h) (length (take k h)) x) (length (take k h) + 1) lsn member ≡ Gap (k + 1) lsn
    late_gap k lsn member within late =
        let count : length (take k h) ≡ k = omega (arith, length-take k h, within) in
        let end = length (take k h) + 1 in
        cond-false (nat_lt lsn end) Passed _ (le-ltb lsn end (omega (arith, count, late))) ∙ cond-true (nat_lt end lsn) (Gap end lsn) _ (lt-ltb end lsn (omega (arith, count, late))) ∙ ap (λ (n : ℕ). Gap (n + 1) lsn) count

    -- what one of them is behind the first k members: it is there already, it is the next, or it leaves a gap
    pub data IsJudgedOf (k : ℕ) (r : Record O) : Type 0 where
      Behind : judge_behind m (take k h) r ≡ Passed → IsJudgedOf k r
      Due : (member : Member O) → k < length h → judge_behind m (take k h) r ≡ Taken member → take k h ++ member ∷ [] ≡ take (k + 1) h → IsJudgedOf k r
      Ahead : (got : ℕ) → judge_behind m (take k h) r ≡ Gap (k + 1) got → IsJudgedOf k r

    member_judged : (k lsn : ℕ) (member : Member O) (r : Record O) → judge_behind m (take k h) r ≡ judge_member m (λ x. value_at m (take k h) (length (take k h)) x) (length (take k h) + 1) lsn member → k ≤ length h → with_lsn h lsn ≡ Some member → IsJudgedOf k r
    member_judged k zero member r is within there = cc
    member_judged k (suc i) member r is within there = elim (cases_lt i k) [
      | inl old ↦ IsJudgedOf.Behind (is ∙ passed_before k (suc i) member (omega (arith, old)) within)
      | inr high ↦ elim (cases_lt k i) [
        | inl late ↦ IsJudgedOf.Ahead (suc i) (is ∙ late_gap k (suc i) member within (omega (arith, late)))
        | inr low ↦
            let at : k ≡ i = omega (arith, high, low) in
            let next : suc i ≡ k + 1 = omega (arith, at) in
            let one : suc k ≡ k + 1 = omega arith in
            let here = next_at h k member (ap (λ (n : ℕ). slice_get h n) at ∙ there) in
            IsJudgedOf.Due member here.below (is ∙ ap (λ (n : ℕ). judge_member m (λ x. value_at m (take k h) (length (take k h)) x) (length (take k h) + 1) n member) next ∙ taken_next k member here)
            (sym here.more ∙ ap (λ (n : ℕ). take n h) one)
      ]
    ]

    pub record_judged : (k : ℕ) → k ≤ length h → (r : Record O) → IsRecordOf h r → IsJudgedOf k r
    record_judged k within (Logged_command lsn op) is = member_judged k lsn (Command op) (Logged_command lsn op) refl within is
    record_judged k within (Logged_identity lsn x value) is = member_judged k lsn (Identity x value) (Logged_identity lsn x value) refl within is
    record_judged k within (Logged_checkpoint table) is = IsJudgedOf.Behind refl

    -- so they lead to first members of it
    pub record LeadWithin (k : ℕ) (records : List (Record O)) : Type 0 where
      pub end : ℕ
      pub within : end ≤ length h
      pub followed : follows m (take k h) records ≡ take end h

    goes_on : (k later : ℕ) (r : Record O) (records : List (Record O)) (j : Judged O) → judge_behind m (take k h) r ≡ j → is_refused j ≡ false → with_judged (take k h) j ≡ take later h → LeadWithin later records → LeadWithin k (r ∷ records)
    goes_on k later r records j is fine leads it = record {
      end = it.end;
      within = it.within;
      followed = follows_first m (take k h) r records (ap is_refused is ∙ fine) ∙ ap (λ (t : Judged O). follows m (with_judged (take k h) t) records) is ∙ ap (λ (l : List (Member O)). follows m l records) leads ∙ it.followed;
    }

    one_within : (k : ℕ) (r : Record O) (records : List (Record O)) → k ≤ length h → ((later : ℕ) → later ≤ length h → LeadWithin later records) → IsJudgedOf k r → LeadWithin k (r ∷ records)
    one_within k r records within rest (IsJudgedOf.Behind is) = goes_on k k r records Passed is refl refl (rest k within)
    one_within k r records within rest (IsJudgedOf.Due member below is more) = goes_on k (k + 1) r records (Taken member) is refl more (rest (k + 1) (omega (arith, below)))
    one_within k r records within rest (IsJudgedOf.Ahead got is) = record {
      end = k;
      within = within;
      followed = cond-true (is_refused (judge_behind m (take k h) r)) (take k h) (follows m (with_judged (take k h) (judge_behind m (take k h) r)) records) (ap is_refused is);
    }

    pub lead_within : (k : ℕ) → k ≤ length h → (records : List (Record O)) → AllByRecursion (IsRecordOf h) records → LeadWithin k records
    lead_within k within [] all = record { end = k; within = within; followed = refl }
    lead_within k within (r ∷ records) all = one_within k r records within (λ later few. lead_within later few records all.1) (record_judged k within r all.0)
