-- What a store ships are frames for each store of the same bounds or larger ones, whose records are its own from an LSN on.
use Rattle.std.proofs.Common.{◌≡◌, ◌∙◌, sym, ap, subst, ℕ, zero, suc, ◌+◌, ◌-◌, ◌<◌, ◌≤◌, Bool, true, false, List, [], ◌∷◌, ◌++◌, drop, max, refl, arith}
use Rattle.std.specs.Prelude.{if◌then◌else◌, map, nat_le}
use Rattle.std.specs.List.{AllByRecursion}
use Rattle.std.proofs.lemmas.Bool.{cond_both, leb-true, leb-false}
use Rattle.byteorder.specs.Endian.{little_bytes}
use Rattle.oper_core.specs.Meaning.{Meaning, Widens}
use Rattle.formats.specs.Records.{AreRecords, next_after, payload_of, record_code, records_of}
use Rattle.formats.specs.declared.record.Record.{Record}
use Rattle.formats.specs.declared.record.Record.TheVariants.{Command as Logged_command, Identity as Logged_identity, Checkpoint as Logged_checkpoint}
use Rattle.log_records.specs.BlockReader.{blocks_from, is_some_list, payloads_from}
use Rattle.log_records.specs.RecordLaws.{AreRecords-behind, AreRecords-front}
use Rattle.log_records.specs.Rewriting.{from_lsn}
use Rattle.explain_core.specs.History.{Member}
use Rattle.explain_core.specs.History.Member.{Command, Identity}
use Rattle.standing.specs.Members.{members_of}
use Rattle.standby_node.specs.Standby.{AreFramesOf, MayBeShipped}

drop_none : {A : Type 0} (n : ℕ) → drop {A = A} n [] ≡ []
drop_none zero = refl
drop_none (suc n) = refl

-- a list without items has none
no_items : {A : Type 0} (l : List A) → is_some_list l ≡ false → l ≡ []
no_items [] is = refl
no_items (x ∷ l) is = cc

module _ {O : Type 0} (m wide : Meaning O) (widens : Widens m wide) (objects : m.objects ≤ wide.objects) (cap : m.cap ≤ wide.cap) where
  code_same : (r : Record O) → record_code m r ≡ record_code wide r
  code_same (Logged_command lsn op) = ap (λ (l : List ℕ). 1 ∷ (little_bytes 8 lsn ++ l)) (sym (widens.code op))
  code_same (Logged_identity lsn x value) = refl
  code_same (Logged_checkpoint table) = refl

  payload_same : (records : List (Record O)) → payload_of m records ≡ payload_of wide records
  payload_same [] = refl
  payload_same (r ∷ records) = λ i. code_same r i ++ payload_same records i

  -- the records that are shipped of a block
  group_shipped : (base next from : ℕ) (records : List (Record O)) → AreRecords m base next records → AllByRecursion (MayBeShipped wide) (from_lsn from records)
  group_shipped base next from [] are = tt
  group_shipped base next from (Logged_command lsn op ∷ records) are =
      let rest = group_shipped base (next + 1) from records are.2 in
      cond_both (nat_le from lsn) (Logged_command lsn op ∷ from_lsn from records) (from_lsn from records) (λ (l : List (Record O)). AllByRecursion (MayBeShipped wide) l) (λ is. (((are.0.0, widens.in_grammar op are.0.1), are.1.1), rest)) (λ is. rest)
  group_shipped base next from (Logged_identity lsn x value ∷ records) are =
      let rest = group_shipped base (next + 1) from records are.2 in
      cond_both (nat_le from lsn) (Logged_identity lsn x value ∷ from_lsn from records) (from_lsn from records) (λ (l : List (Record O)). AllByRecursion (MayBeShipped wide) l)
      (λ is. (((are.0.0, omega (arith, are.0.1, objects), omega (arith, are.0.2, cap)), are.1.1), rest)) (λ is. rest)
  group_shipped base next from (Logged_checkpoint table ∷ records) are = group_shipped base next from records are.2

  pub shipped : (base next from : ℕ) (groups : List (List (Record O))) → AreRecords m base next (records_of groups) → AreFramesOf wide (payloads_from m from groups) (blocks_from from groups)
  shipped base next from [] are = tt
  shipped base next from (g ∷ groups) are =
      let here = from_lsn from g in
      let rest = shipped base (next_after next g) from groups (AreRecords-behind m base next g (records_of groups) are) in
      cond_both (is_some_list here) (here ∷ blocks_from from groups) (blocks_from from groups) (λ (l : List (List (Record O))). AreFramesOf wide (map (payload_of m) l) l)
      (λ some. (record { is = payload_same here; shipped = group_shipped base next from g (AreRecords-front m base next g (records_of groups) are) }, rest)) (λ none. rest)

module _ {O : Type 0} where
  one_append : (b : Bool) (r : Record O) (all xs ys : List (Record O)) → all ≡ xs ++ ys → (if b then r ∷ all else all) ≡ (if b then r ∷ xs else xs) ++ ys
  one_append true r all xs ys rest = ap (λ (l : List (Record O)). r ∷ l) rest
  one_append false r all xs ys rest = rest

  from_lsn_append : (from : ℕ) (xs ys : List (Record O)) → from_lsn from (xs ++ ys) ≡ from_lsn from xs ++ from_lsn from ys
  from_lsn_append from [] ys = refl
  from_lsn_append from (Logged_command lsn op ∷ xs) ys = one_append (nat_le from lsn) (Logged_command lsn op) (from_lsn from (xs ++ ys)) (from_lsn from xs) (from_lsn from ys) (from_lsn_append from xs ys)
  from_lsn_append from (Logged_identity lsn x value ∷ xs) ys =
      one_append (nat_le from lsn) (Logged_identity lsn x value) (from_lsn from (xs ++ ys)) (from_lsn from xs) (from_lsn from ys) (from_lsn_append from xs ys)
  from_lsn_append from (Logged_checkpoint table ∷ xs) ys = from_lsn_append from xs ys

  -- the records of the blocks that are shipped are those from the LSN on
  pub blocks_joined : (from : ℕ) (groups : List (List (Record O))) → records_of (blocks_from from groups) ≡ from_lsn from (records_of groups)
  blocks_joined from [] = refl
  blocks_joined from (g ∷ groups) =
      let here = from_lsn from g in
      let rest = blocks_joined from groups in
      let all : from_lsn from (g ++ records_of groups) ≡ here ++ from_lsn from (records_of groups) = from_lsn_append from g (records_of groups) in
      cond_both (is_some_list here) (here ∷ blocks_from from groups) (blocks_from from groups) (λ (l : List (List (Record O))). records_of l ≡ from_lsn from (g ++ records_of groups))
      (λ some. ap (λ (l : List (Record O)). here ++ l) rest ∙ sym all) (λ none. rest ∙ ap (λ (l : List (Record O)). l ++ from_lsn from (records_of groups)) (sym (no_items here none)) ∙ sym all)

-- ---- they are those of the history from there on

module _ {O : Type 0} (m : Meaning O) where
  -- records are placed from this LSN on, where the next is that one, and are the members from there on
  record IsFromSo (from next : ℕ) (kept : List (Record O)) (members : List (Member O)) : Type 0 where
    pub placed : AreRecords m from (max from next) kept
    pub members_are : members_of kept ≡ drop (from - next) members

  -- one that is before it falls out
  old_falls : (from next : ℕ) (kept : List (Record O)) (member : Member O) (members : List (Member O)) → next < from → IsFromSo from (next + 1) kept members → IsFromSo from next kept (member ∷ members)
  old_falls from next kept member members old rest =
      let same : max from (next + 1) ≡ max from next = omega (arith, old) in
      let count : from - next ≡ suc (from - (next + 1)) = omega (arith, old) in
      record {
        placed = subst (λ (n : ℕ). AreRecords m from n kept) same rest.placed;
        members_are = rest.members_are ∙ ap (λ (n : ℕ). drop n (member ∷ members)) (sym count);
      }

  -- one from there on is kept
  new_stays : (from next lsn : ℕ) (r : Record O) (kept : List (Record O)) (member : Member O) (members : List (Member O)) → ((n : ℕ) → lsn ≡ n → AreRecords m from (n + 1) kept → AreRecords m from n (r ∷ kept)) → members_of (r ∷ kept) ≡ member ∷ members_of kept
      → lsn ≡ next → from ≤ next → IsFromSo from (next + 1) kept members → IsFromSo from next (r ∷ kept) (member ∷ members)
  new_stays from next lsn r kept member members placed is at late rest =
      let here : lsn ≡ max from next = omega (arith, late, at) in
      let behind : max from (next + 1) ≡ max from next + 1 = omega (arith, late) in
      let none : from - next ≡ 0 = omega (arith, late) in
      let more : from - (next + 1) ≡ 0 = omega (arith, late) in
      let whole : members_of kept ≡ members = rest.members_are ∙ ap (λ (n : ℕ). drop n members) more in
      record {
        placed = placed (max from next) here (subst (λ (n : ℕ). AreRecords m from n kept) behind rest.placed);
        members_are = is ∙ ap (λ (l : List (Member O)). member ∷ l) whole ∙ ap (λ (n : ℕ). drop n (member ∷ members)) (sym none);
      }

  are_from : (base from next : ℕ) (records : List (Record O)) → AreRecords m base next records → IsFromSo from next (from_lsn from records) (members_of records)
  are_from base from next [] are = record { placed = tt; members_are = sym (drop_none (from - next)) }
  are_from base from next (Logged_checkpoint table ∷ records) are = are_from base from next records are.2
  are_from base from next (Logged_command lsn op ∷ records) are =
      let rest = are_from base from (next + 1) records are.2 in
      let r : Record O = Logged_command lsn op in
      let kept = from_lsn from records in
      cond_both (nat_le from lsn) (r ∷ kept) kept (λ (l : List (Record O)). IsFromSo from next l (Command op ∷ members_of records))
      (λ new. new_stays from next lsn r kept (Command op) (members_of records) (λ n here behind. (are.0, (here, are.1.1), behind)) refl are.1.0 (omega (arith, leb-true _ _ new, are.1.0)) rest)
      (λ old. old_falls from next kept (Command op) (members_of records) (omega (arith, leb-false _ _ old, are.1.0)) rest)
  are_from base from next (Logged_identity lsn x value ∷ records) are =
      let rest = are_from base from (next + 1) records are.2 in
      let r : Record O = Logged_identity lsn x value in
      let kept = from_lsn from records in
      cond_both (nat_le from lsn) (r ∷ kept) kept (λ (l : List (Record O)). IsFromSo from next l (Identity x value ∷ members_of records))
      (λ new. new_stays from next lsn r kept (Identity x value) (members_of records) (λ n here behind. (are.0, (here, are.1.1), behind)) refl are.1.0 (omega (arith, leb-true _ _ new, are.1.0)) rest)
      (λ old. old_falls from next kept (Identity x value) (members_of records) (omega (arith, leb-false _ _ old, are.1.0)) rest)

  pub blocks_are_from : (base from : ℕ) (groups : List (List (Record O))) → base ≤ from → AreRecords m base base (records_of groups)
      → AreRecords m from from (records_of (blocks_from from groups)) × (members_of (records_of (blocks_from from groups)) ≡ drop (from - base) (members_of (records_of groups)))
  blocks_are_from base from groups late are =
      let it = are_from base from base (records_of groups) are in
      let joined = blocks_joined from groups in
      let end : max from base ≡ from = omega (arith, late) in (
        subst (λ (l : List (Record O)). AreRecords m from from l) (sym joined) (subst (λ (n : ℕ). AreRecords m from n (from_lsn from (records_of groups))) end it.placed),
        ap (λ (l : List (Record O)). members_of l) joined ∙ it.members_are,
      )
