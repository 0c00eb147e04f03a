-- What records make of a history, in parts: the first ones, and those behind them.
use Rattle.std.proofs.Common.{◌≡◌, ◌∙◌, sym, subst, ap, ℕ, ◌+◌, ◌≤◌, false, List, [], ◌∷◌, ◌++◌, length, refl, arith, inl, inr, append_assoc, length-append, None, Some}
use Rattle.std.specs.Prelude.{nat_lt, if◌then◌else◌}
use Rattle.std.proofs.lemmas.Bool.{cases_Bool, cond-true, cond-false, ltb-false}
use Rattle.std.proofs.lemmas.List.{append-nil}
use Rattle.oper_core.specs.Meaning.{Meaning}
use Rattle.oper_core.specs.State.{State}
use Rattle.formats.specs.Records.{payload_of, record_code}
use Rattle.formats.specs.declared.record.Record.{Record}
use Rattle.formats.specs.declared.record.Record.TheVariants.{Command as Logged_command, Identity as Logged_identity, Checkpoint as Logged_checkpoint}
use Rattle.explain_core.specs.History.{Member, value_at}
use Rattle.explain_core.specs.History.Member.{Command, Identity}
use Rattle.execution.specs.Judged.{Judged, first_refused, follows, is_refused, judge, judge_behind, judge_member, may_follow, with_judged}
use Rattle.execution.specs.Judged.Judged.{Passed, Taken, Gap, Differs}
use Rattle.running_store.specs.Courses.{record_length, records_length}
use Rattle.running_store.specs.Courses.Growth.{code_length}
use Rattle.running_store.specs.Parts.{record_of}

module _ {O : Type 0} (m : Meaning O) where
  -- a history with more members behind it, whose records have at most so many bytes
  pub record IsLonger (h longer : List (Member O)) (bytes : ℕ) : Type 0 where
    pub more : List (Member O)
    pub is : longer ≡ h ++ more
    pub short : records_length m more ≤ bytes

  abbrev judged : List (Member O) → Record O → Judged O
  judged h r = judge_behind m h r

  none_is_some : {j : Judged O} → Some j ≡ None → ⊥
  none_is_some same = cc

  -- where none is refused the first is not
  first_fine : (h : List (Member O)) (r : Record O) (rs : List (Record O)) → first_refused m h (r ∷ rs) ≡ None → is_refused (judged h r) ≡ false
  first_fine h r rs none = elim (cases_Bool (is_refused (judged h r))) [
    | inl refused ↦ absurd (none_is_some (sym (cond-true (is_refused (judged h r)) (Some (judged h r)) (first_refused m (with_judged h (judged h r)) rs) refused) ∙ none))
    | inr fine ↦ fine
  ]

  -- nor is one of the others
  rest_fine : (h : List (Member O)) (r : Record O) (rs : List (Record O)) → first_refused m h (r ∷ rs) ≡ None → first_refused m (with_judged h (judged h r)) rs ≡ None
  rest_fine h r rs none = sym (cond-false (is_refused (judged h r)) (Some (judged h r)) (first_refused m (with_judged h (judged h r)) rs) (first_fine h r rs none)) ∙ none

  -- what they make of the history behind the first
  pub follows_first : (h : List (Member O)) (r : Record O) (rs : List (Record O)) → is_refused (judged h r) ≡ false → follows m h (r ∷ rs) ≡ follows m (with_judged h (judged h r)) rs
  follows_first h r rs fine = cond-false (is_refused (judged h r)) h (follows m (with_judged h (judged h r)) rs) fine

  refused_first : (h : List (Member O)) (r : Record O) (rs : List (Record O)) → is_refused (judged h r) ≡ false → first_refused m h (r ∷ rs) ≡ first_refused m (with_judged h (judged h r)) rs
  refused_first h r rs fine = cond-false (is_refused (judged h r)) (Some (judged h r)) (first_refused m (with_judged h (judged h r)) rs) fine

  -- behind records of which none is refused
  pub follows_append : (h : List (Member O)) (rs ss : List (Record O)) → first_refused m h rs ≡ None → follows m h (rs ++ ss) ≡ follows m (follows m h rs) ss
  follows_append h [] ss none = refl
  follows_append h (r ∷ rs) ss none =
      let fine = first_fine h r rs none in
      follows_first h r (rs ++ ss) fine ∙ follows_append (with_judged h (judged h r)) rs ss (rest_fine h r rs none) ∙ ap (λ (k : List (Member O)). follows m k ss) (sym (follows_first h r rs fine))

  pub refused_append : (h : List (Member O)) (rs ss : List (Record O)) → first_refused m h rs ≡ None → first_refused m h (rs ++ ss) ≡ first_refused m (follows m h rs) ss
  refused_append h [] ss none = refl
  refused_append h (r ∷ rs) ss none =
      let fine = first_fine h r rs none in
      refused_first h r (rs ++ ss) fine ∙ refused_append (with_judged h (judged h r)) rs ss (rest_fine h r rs none) ∙ ap (λ (k : List (Member O)). first_refused m k ss) (sym (follows_first h r rs fine))

  -- of records of which none is refused no first ones are
  pub refused_front : (h : List (Member O)) (rs ss : List (Record O)) → first_refused m h (rs ++ ss) ≡ None → first_refused m h rs ≡ None
  refused_front h [] ss none = refl
  refused_front h (r ∷ rs) ss none =
      let fine = first_fine h r (rs ++ ss) none in
      refused_first h r rs fine ∙ refused_front (with_judged h (judged h r)) rs ss (rest_fine h r (rs ++ ss) none)

  -- one record more
  one_fine : (h : List (Member O)) (r : Record O) (j : Judged O) → judged h r ≡ j → is_refused j ≡ false → (follows m h (r ∷ []) ≡ with_judged h j) × (first_refused m h (r ∷ []) ≡ None)
  one_fine h r j is fine =
      let so : is_refused (judged h r) ≡ false = ap is_refused is ∙ fine in
      (follows_first h r [] so ∙ ap (λ (k : Judged O). with_judged h k) is, refused_first h r [] so)

  pub one_more : (h : List (Member O)) (rs : List (Record O)) (r : Record O) (j : Judged O) → first_refused m h rs ≡ None → judge_behind m (follows m h rs) r ≡ j → is_refused j ≡ false
      → (follows m h (rs ++ r ∷ []) ≡ with_judged (follows m h rs) j) × (first_refused m h (rs ++ r ∷ []) ≡ None)
  one_more h rs r j none is fine =
      let one = one_fine (follows m h rs) r j is fine in
      (follows_append h rs (r ∷ []) none ∙ one.0, refused_append h rs (r ∷ []) none ∙ one.1)

  -- ---- what is taken

  member_taken : (s : State) (next lsn : ℕ) (member taken : Member O) → judge_member m s next lsn member ≡ Taken taken → (lsn ≡ next) × (taken ≡ member)
  member_taken s next lsn member taken is =
      let late : Judged O = if may_follow m s member then Taken member else Differs lsn in
      let there : Judged O = if nat_lt next lsn then Gap next lsn else late in
      elim (cases_Bool (nat_lt lsn next)) [
        | inl below ↦ let j : Passed ≡ Taken taken = sym (cond-true (nat_lt lsn next) Passed there below) ∙ is in absurd cc
        | inr not_below ↦
            let is_there : there ≡ Taken taken = sym (cond-false (nat_lt lsn next) Passed there not_below) ∙ is in
            elim (cases_Bool (nat_lt next lsn)) [
              | inl above ↦ let j : Gap next lsn ≡ Taken taken = sym (cond-true (nat_lt next lsn) (Gap next lsn) late above) ∙ is_there in absurd cc
              | inr not_above ↦
                  let is_late : late ≡ Taken taken = sym (cond-false (nat_lt next lsn) (Gap next lsn) late not_above) ∙ is_there in
                  elim (cases_Bool (may_follow m s member)) [
                    | inl may ↦
                        let j : Taken member ≡ Taken taken = sym (cond-true (may_follow m s member) (Taken member) (Differs lsn) may) ∙ is_late in
                        (omega (arith, ltb-false _ _ not_below, ltb-false _ _ not_above), cc)
                    | inr not ↦ let j : Differs lsn ≡ Taken taken = sym (cond-false (may_follow m s member) (Taken member) (Differs lsn) not) ∙ is_late in absurd cc
                  ]
            ]
      ]

  -- a record that is taken is its member, with the next LSN
  pub record_taken : (s : State) (next : ℕ) (r : Record O) (taken : Member O) → judge m s next r ≡ Taken taken → r ≡ record_of next taken
  record_taken s next (Logged_command lsn op) taken is =
      let so = member_taken s next lsn (Command op) taken is in
      (λ i. Logged_command (so.0 i) op) ∙ ap (λ (t : Member O). record_of next t) (sym so.1)
  record_taken s next (Logged_identity lsn x value) taken is =
      let so = member_taken s next lsn (Identity x value) taken is in
      (λ i. Logged_identity (so.0 i) x value) ∙ ap (λ (t : Member O). record_of next t) (sym so.1)
  record_taken s next (Logged_checkpoint table) taken is = let j : Passed ≡ Taken taken = is in absurd cc

  pub bytes_taken : (s : State) (next : ℕ) (r : Record O) (taken : Member O) → judge m s next r ≡ Taken taken → length (record_code m r) ≡ record_length m taken
  bytes_taken s next r taken is = ap (λ (k : Record O). length (record_code m k)) (record_taken s next r taken is) ∙ code_length m next taken

  -- ---- the history is a first part of what records make of it

  lengths_append : (xs ys : List (Member O)) → records_length m (xs ++ ys) ≡ records_length m xs + records_length m ys
  lengths_append [] ys = omega arith
  lengths_append (x ∷ xs) ys = omega (arith, lengths_append xs ys)

  as_long : (h : List (Member O)) (bytes : ℕ) → IsLonger h h bytes
  as_long h bytes = record { more = []; is = sym (append-nil h); short = omega arith }

  one_longer : (h : List (Member O)) (r : Record O) (j : Judged O) → judged h r ≡ j → IsLonger h (with_judged h j) (length (record_code m r))
  one_longer h r Passed is = as_long h _
  one_longer h r (Taken member) is = record { more = member ∷ []; is = refl; short = omega (arith, bytes_taken (λ x. value_at m h (length h) x) (length h + 1) r member is) }
  one_longer h r (Gap expected got) is = as_long h _
  one_longer h r (Differs lsn) is = as_long h _

  pub follows_longer : (h : List (Member O)) (rs : List (Record O)) → IsLonger h (follows m h rs) (length (payload_of m rs))
  follows_longer h [] = as_long h 0
  follows_longer h (r ∷ rs) = elim (cases_Bool (is_refused (judged h r))) [
    | inl refused ↦ subst (λ (l : List (Member O)). IsLonger h l (length (payload_of m (r ∷ rs)))) (sym (cond-true (is_refused (judged h r)) h (follows m (with_judged h (judged h r)) rs) refused)) (as_long h _)
    | inr fine ↦
        let mid = with_judged h (judged h r) in
        let one = one_longer h r (judged h r) refl in
        let rest = follows_longer mid rs in
        subst (λ (l : List (Member O)). IsLonger h l (length (payload_of m (r ∷ rs)))) (sym (follows_first h r rs fine)) (record {
          more = one.more ++ rest.more;
          is = rest.is ∙ ap (λ (l : List (Member O)). l ++ rest.more) one.is ∙ append_assoc h one.more rest.more;
          short = omega (arith, lengths_append one.more rest.more, one.short, rest.short, length-append (record_code m r) (payload_of m rs));
        })
  ]
