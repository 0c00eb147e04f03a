-- Records in their places whose members are the rest of a history are its members one by one, and so are those from a
-- LSN on.
use Rattle.std.proofs.Common.{◌≡◌, sym, ap, subst, ℕ, zero, suc, ◌+◌, ◌≤◌, nat_le, inl, inr, List, [], ◌∷◌, length, drop, arith, Some}
use Rattle.std.specs.Prelude.{slice_get}
use Rattle.std.proofs.lemmas.Bool.{cases_Bool, cond-true, cond-false, leb-true, leb-false, le-leb}
use Rattle.std.proofs.lemmas.Option.{slice_get_within}
use Rattle.oper_core.specs.Meaning.{Meaning}
use Rattle.formats.specs.Records.{AreRecords}
use Rattle.formats.specs.declared.record.Record.{Record}
use Rattle.formats.specs.declared.record.Record.TheVariants.{Command, Identity, Checkpoint}
use Rattle.log_records.specs.Rewriting.{from_lsn}
use Rattle.explain_core.specs.History.{Member}
use Rattle.explain_core.specs.History.Member.{Command as a_command, Identity as an_identity}
use Rattle.standing.specs.Members.{members_of}
use Rattle.redo_pass.specs.Rising.{AreMembers}

dropped : {X : Type 0} (i : ℕ) (l : List X) (x : X) (rest : List X) → x ∷ rest ≡ drop i l → (slice_get l i ≡ Some x) × (rest ≡ drop (suc i) l)
dropped zero [] x rest is = cc
dropped {X} zero (y ∷ l) x rest is = (ap Some (head_is is), tail_is is)
  where
    first : List X → X
    first [] = x
    first (z ∷ zs) = z

    others : List X → List X
    others [] = []
    others (z ∷ zs) = zs

    head_is : x ∷ rest ≡ y ∷ l → y ≡ x
    head_is e = sym (ap first e)

    tail_is : x ∷ rest ≡ y ∷ l → rest ≡ l
    tail_is e = ap others e
dropped (suc i) [] x rest is = cc
dropped {X} (suc i) (y ∷ l) x rest is = dropped i l x rest is

none_left : {X : Type 0} (i : ℕ) (l : List X) → [] ≡ drop i l → length l ≤ i
none_left zero [] is = omega arith
none_left zero (y ∷ l) is = cc
none_left (suc i) [] is = omega arith
none_left (suc i) (y ∷ l) is = let r = none_left i l is in omega (arith, r)

one_more : (i : ℕ) → suc (suc i) ≡ suc i + 1
one_more i = omega arith

module _ {O : Type 0} (m : Meaning O) (base : ℕ) (h : List (Member O)) where
  pub members_are : (i : ℕ) (records : List (Record O)) → i ≤ length h → AreRecords m base (suc i) records → members_of records ≡ drop i h → AreMembers h (suc i) records
  members_are i [] low placed are = let r = none_left i h are in omega (arith, r, low)
  members_are i (Command lsn op ∷ records) low placed are =
      let here = dropped i h (a_command op) (members_of records) are in
      let next = subst (λ (k : ℕ). AreRecords m base k records) (sym (one_more i)) placed.2 in
      (placed.1.0, here.0, subst (λ (k : ℕ). AreMembers h k records) (one_more i) (members_are (suc i) records (slice_get_within h i (a_command op) here.0) next here.1))
  members_are i (Identity lsn x value ∷ records) low placed are =
      let here = dropped i h (an_identity x value) (members_of records) are in
      let next = subst (λ (k : ℕ). AreRecords m base k records) (sym (one_more i)) placed.2 in
      (placed.1.0, here.0, subst (λ (k : ℕ). AreMembers h k records) (one_more i) (members_are (suc i) records (slice_get_within h i (an_identity x value) here.0) next here.1))
  members_are i (Checkpoint table ∷ records) low placed are = members_are i records low placed.2 are

module _ {O : Type 0} (start : ℕ) (h : List (Member O)) where
  -- of members from an LSN on, those from an earlier one on are all
  all_from_lsn : (k : ℕ) (records : List (Record O)) → AreMembers h k records → start ≤ k → AreMembers h k (from_lsn start records)
  all_from_lsn k [] are low = are
  all_from_lsn k (Command lsn op ∷ records) are low =
      subst (λ (l : List (Record O)). AreMembers h k l) (sym (cond-true _ _ _ (le-leb start lsn (omega (arith, low, are.0))))) (are.0, are.1, all_from_lsn (k + 1) records are.2 (omega (arith, low)))
  all_from_lsn k (Identity lsn x value ∷ records) are low =
      subst (λ (l : List (Record O)). AreMembers h k l) (sym (cond-true _ _ _ (le-leb start lsn (omega (arith, low, are.0))))) (are.0, are.1, all_from_lsn (k + 1) records are.2 (omega (arith, low)))
  all_from_lsn k (Checkpoint table ∷ records) are low = all_from_lsn k records are low

  -- and those from a later one on are the members from there on
  pub members_from_lsn : (k : ℕ) (records : List (Record O)) → AreMembers h k records → k ≤ start → start ≤ length h + 1 → AreMembers h start (from_lsn start records)
  members_from_lsn k [] are low high = omega (arith, are, low, high)
  members_from_lsn k (Command lsn op ∷ records) are low high = elim (cases_Bool (nat_le start lsn)) [
    | inl from ↦
        let same : k ≡ start = omega (arith, leb-true start lsn from, are.0, low) in
        all_from_lsn start (Command lsn op ∷ records) (subst (λ (n : ℕ). AreMembers h n (Command lsn op ∷ records)) same are) (omega arith)
    | inr before ↦
        let less = leb-false start lsn before in
        subst (λ (l : List (Record O)). AreMembers h start l) (sym (cond-false _ _ _ before)) (members_from_lsn (k + 1) records are.2 (omega (arith, less, are.0)) high)
  ]
  members_from_lsn k (Identity lsn x value ∷ records) are low high = elim (cases_Bool (nat_le start lsn)) [
    | inl from ↦
        let same : k ≡ start = omega (arith, leb-true start lsn from, are.0, low) in
        all_from_lsn start (Identity lsn x value ∷ records) (subst (λ (n : ℕ). AreMembers h n (Identity lsn x value ∷ records)) same are) (omega arith)
    | inr before ↦
        let less = leb-false start lsn before in
        subst (λ (l : List (Record O)). AreMembers h start l) (sym (cond-false _ _ _ before)) (members_from_lsn (k + 1) records are.2 (omega (arith, less, are.0)) high)
  ]
  members_from_lsn k (Checkpoint table ∷ records) are low high = members_from_lsn k records are low high
