-- The records that a rewrite keeps are the members from the new base on, and those that it leaves out the ones before it.
use Rattle.std.proofs.Common.{◌≡◌, ◌∙◌, sym, subst, ap, ℕ, suc, ◌+◌, ◌-◌, ◌<◌, ◌≤◌, true, false, List, [], ◌∷◌, take, drop, map, refl, arith, inl, inr}
use Rattle.std.specs.Prelude.{nat_le}
use Rattle.std.proofs.Math.Seq.{drop-nil, take-nil}
use Rattle.std.proofs.lemmas.Bool.{cases_Bool, cases_lt, cond-true, cond-false, le-leb, lt-leb, not_from_true, not_from_false}
use Rattle.oper_core.specs.Meaning.{Meaning}
use Rattle.formats.specs.Records.{AreRecords, commands_of as logged_commands}
use Rattle.formats.specs.declared.record.Record.{Record}
use Rattle.formats.specs.declared.record.Record.TheVariants.{Command as Logged_command, Identity as Logged_identity, Checkpoint as Logged_checkpoint}
use Rattle.log_records.specs.Rewriting.{is_from_lsn, from_lsn, left_out, code_lengths}
use Rattle.explain_core.specs.History.{Member, commands_of}
use Rattle.explain_core.specs.History.Member.{Command, Identity}
use Rattle.standing.specs.Members.{members_of, tables_in}
use Rattle.running_store.specs.Courses.{record_length}
use Rattle.running_store.specs.Courses.Growth.{code_length}

module _ {O : Type 0} (m : Meaning O) (from : ℕ) where
  stays : (r : Record O) (records : List (Record O)) → is_from_lsn from r ≡ true → from_lsn from (r ∷ records) ≡ r ∷ from_lsn from records
  stays r records is = cond-true _ _ _ is

  goes : (r : Record O) (records : List (Record O)) → is_from_lsn from r ≡ false → from_lsn from (r ∷ records) ≡ from_lsn from records
  goes r records is = cond-false _ _ _ is

  not_left : (r : Record O) (records : List (Record O)) → is_from_lsn from r ≡ true → left_out from (r ∷ records) ≡ left_out from records
  not_left r records is = cond-false _ _ _ (not_from_true (is_from_lsn from r) is)

  left : (r : Record O) (records : List (Record O)) → is_from_lsn from r ≡ false → left_out from (r ∷ records) ≡ r ∷ left_out from records
  left r records is = cond-true _ _ _ (not_from_false (is_from_lsn from r) is)

  -- what a log has from an LSN on, where all its records have one that is not below
  all_members : (base next : ℕ) (records : List (Record O)) → AreRecords m base next records → from ≤ next → members_of (from_lsn from records) ≡ members_of records
  all_members base next [] are low = refl
  all_members base next (Logged_command lsn op ∷ records) are low =
      let place = are.1 in
      let is : nat_le from lsn ≡ true = le-leb from lsn (omega (arith, low, place.0)) in
      ap members_of (stays (Logged_command lsn op) records is) ∙ ap (λ (l : List (Member O)). Command op ∷ l) (all_members base (next + 1) records are.2 (omega (arith, low)))
  all_members base next (Logged_identity lsn x value ∷ records) are low =
      let place = are.1 in
      let is : nat_le from lsn ≡ true = le-leb from lsn (omega (arith, low, place.0)) in
      ap members_of (stays (Logged_identity lsn x value) records is) ∙ ap (λ (l : List (Member O)). Identity x value ∷ l) (all_members base (next + 1) records are.2 (omega (arith, low)))
  all_members base next (Logged_checkpoint table ∷ records) are low = all_members base next records are.2 low

  no_commands : (base next : ℕ) (records : List (Record O)) → AreRecords m base next records → from ≤ next → logged_commands (left_out from records) ≡ []
  no_commands base next [] are low = refl
  no_commands base next (Logged_command lsn op ∷ records) are low =
      let place = are.1 in
      let is : nat_le from lsn ≡ true = le-leb from lsn (omega (arith, low, place.0)) in
      ap logged_commands (not_left (Logged_command lsn op) records is) ∙ no_commands base (next + 1) records are.2 (omega (arith, low))
  no_commands base next (Logged_identity lsn x value ∷ records) are low =
      let place = are.1 in
      let is : nat_le from lsn ≡ true = le-leb from lsn (omega (arith, low, place.0)) in
      ap logged_commands (not_left (Logged_identity lsn x value) records is) ∙ no_commands base (next + 1) records are.2 (omega (arith, low))
  no_commands base next (Logged_checkpoint table ∷ records) are low = no_commands base next records are.2 low

  one_more : (next : ℕ) → next < from → from - next ≡ suc (from - (next + 1))
  one_more next lt = omega (arith, lt)

  none_more : (next : ℕ) → from ≤ next → 0 ≡ from - next
  none_more next le = omega (arith, le)

  -- the members that are kept
  pub tail_members : (base next : ℕ) (records : List (Record O)) → AreRecords m base next records → members_of (from_lsn from records) ≡ drop (from - next) (members_of records)
  tail_members base next [] are = sym (drop-nil (from - next))
  tail_members base next (Logged_command lsn op ∷ records) are = elim (cases_lt next from) [
    | inl lt ↦
        let place = are.1 in
        let is : nat_le from lsn ≡ false = lt-leb from lsn (omega (arith, lt, place.0)) in
        ap members_of (goes (Logged_command lsn op) records is) ∙ tail_members base (next + 1) records are.2 ∙ ap (λ (n : ℕ). drop n (Command op ∷ members_of records)) (sym (one_more next lt))
    | inr le ↦ all_members base next (Logged_command lsn op ∷ records) are le ∙ ap (λ (n : ℕ). drop n (Command op ∷ members_of records)) (none_more next le)
  ]
  tail_members base next (Logged_identity lsn x value ∷ records) are = elim (cases_lt next from) [
    | inl lt ↦
        let place = are.1 in
        let is : nat_le from lsn ≡ false = lt-leb from lsn (omega (arith, lt, place.0)) in
        ap members_of (goes (Logged_identity lsn x value) records is) ∙ tail_members base (next + 1) records are.2 ∙ ap (λ (n : ℕ). drop n (Identity x value ∷ members_of records)) (sym (one_more next lt))
    | inr le ↦ all_members base next (Logged_identity lsn x value ∷ records) are le ∙ ap (λ (n : ℕ). drop n (Identity x value ∷ members_of records)) (none_more next le)
  ]
  tail_members base next (Logged_checkpoint table ∷ records) are = tail_members base next records are.2

  -- the commands that are left out
  pub left_commands : (base next : ℕ) (records : List (Record O)) → AreRecords m base next records → logged_commands (left_out from records) ≡ commands_of (take (from - next) (members_of records))
  left_commands base next [] are = ap commands_of (sym (take-nil (from - next)))
  left_commands base next (Logged_command lsn op ∷ records) are = elim (cases_lt next from) [
    | inl lt ↦
        let place = are.1 in
        let is : nat_le from lsn ≡ false = lt-leb from lsn (omega (arith, lt, place.0)) in
        ap logged_commands (left (Logged_command lsn op) records is) ∙ ap (λ (l : List O). op ∷ l) (left_commands base (next + 1) records are.2)
        ∙ ap (λ (n : ℕ). commands_of (take n (Command op ∷ members_of records))) (sym (one_more next lt))
    | inr le ↦ no_commands base next (Logged_command lsn op ∷ records) are le ∙ ap (λ (n : ℕ). commands_of (take n (Command op ∷ members_of records))) (none_more next le)
  ]
  left_commands base next (Logged_identity lsn x value ∷ records) are = elim (cases_lt next from) [
    | inl lt ↦
        let place = are.1 in
        let is : nat_le from lsn ≡ false = lt-leb from lsn (omega (arith, lt, place.0)) in
        ap logged_commands (left (Logged_identity lsn x value) records is) ∙ left_commands base (next + 1) records are.2
        ∙ ap (λ (n : ℕ). commands_of (take n (Identity x value ∷ members_of records))) (sym (one_more next lt))
    | inr le ↦ no_commands base next (Logged_identity lsn x value ∷ records) are le ∙ ap (λ (n : ℕ). commands_of (take n (Identity x value ∷ members_of records))) (none_more next le)
  ]
  left_commands base next (Logged_checkpoint table ∷ records) are = left_commands base next records are.2

  -- none of the records that are kept is a checkpoint
  pub tail_tables : (records : List (Record O)) → tables_in (from_lsn from records) ≡ []
  tail_tables [] = refl
  tail_tables (Logged_command lsn op ∷ records) = elim (cases_Bool (nat_le from lsn)) [
    | inl is ↦ ap tables_in (stays (Logged_command lsn op) records is) ∙ tail_tables records
    | inr is ↦ ap tables_in (goes (Logged_command lsn op) records is) ∙ tail_tables records
  ]
  tail_tables (Logged_identity lsn x value ∷ records) = elim (cases_Bool (nat_le from lsn)) [
    | inl is ↦ ap tables_in (stays (Logged_identity lsn x value) records is) ∙ tail_tables records
    | inr is ↦ ap tables_in (goes (Logged_identity lsn x value) records is) ∙ tail_tables records
  ]
  tail_tables (Logged_checkpoint table ∷ records) = tail_tables records

  -- they have the lengths of their members
  pub tail_lengths : (records : List (Record O)) → code_lengths m (from_lsn from records) ≡ map (record_length m) (members_of (from_lsn from records))
  tail_lengths [] = refl
  tail_lengths (Logged_command lsn op ∷ records) = elim (cases_Bool (nat_le from lsn)) [
    | inl is ↦ subst (λ (l : List (Record O)). code_lengths m l ≡ map (record_length m) (members_of l)) (sym (stays (Logged_command lsn op) records is))
        (λ i. code_length m lsn (Command op) i ∷ tail_lengths records i)
    | inr is ↦ subst (λ (l : List (Record O)). code_lengths m l ≡ map (record_length m) (members_of l)) (sym (goes (Logged_command lsn op) records is)) (tail_lengths records)
  ]
  tail_lengths (Logged_identity lsn x value ∷ records) = elim (cases_Bool (nat_le from lsn)) [
    | inl is ↦ subst (λ (l : List (Record O)). code_lengths m l ≡ map (record_length m) (members_of l)) (sym (stays (Logged_identity lsn x value) records is))
        (λ i. code_length m lsn (Identity x value) i ∷ tail_lengths records i)
    | inr is ↦ subst (λ (l : List (Record O)). code_lengths m l ≡ map (record_length m) (members_of l)) (sym (goes (Logged_identity lsn x value) records is)) (tail_lengths records)
  ]
  tail_lengths (Logged_checkpoint table ∷ records) = tail_lengths records
