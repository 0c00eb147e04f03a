-- What a store shipped are whole frames of records of its stable history.
use Rattle.std.proofs.Common.{◌≡◌, ◌∙◌, sym, subst, ap, ℕ, suc, ◌+◌, ◌-◌, ◌≤◌, ◌<◌, Bool, true, Some, List, [], ◌∷◌, ◌++◌, length, drop, map, refl, arith, length-append}
use Rattle.std.specs.List.{AllByRecursion, concat, filter}
use Rattle.std.proofs.lemmas.Bool.{cond_both}
use Rattle.std.proofs.lemmas.List.Concat.{flat_map-append}
use Rattle.std.proofs.lemmas.List.Elements.{recursion_from_All}
use Rattle.oper_core.specs.Meaning.{Meaning, Widens}
use Rattle.formats.specs.Log.{IsPayload}
use Rattle.formats.specs.Records.{AreRecords, payload_of, record_code, records_of}
use Rattle.formats.specs.declared.record.Record.{Record}
use Rattle.formats.specs.declared.record.Record.TheVariants.{Command as Logged_command, Identity as Logged_identity, Checkpoint as Logged_checkpoint}
use Rattle.frame_stream.specs.Frames.{frame, frames}
use Rattle.log_records.specs.BlockReader.{blocks_from, is_some_list, payloads_from}
use Rattle.log_records.specs.Rewriting.{is_from_lsn, from_lsn}
use Rattle.explain_core.specs.History.{Member, with_lsn}
use Rattle.explain_core.specs.History.Member.{Command, Identity}
use Rattle.explain_core.specs.World.{World}
use Rattle.standing.specs.Members.{members_of}
use Rattle.standby_node.specs.OnePrimary.{IsFront, IsShipped, WasShipped, stable_in}
use Rattle.standby_node.specs.Standby.{AreFramesOf}
use Rattle.standby_node.proofs.AllOf.{all_append, all_kept}
use Rattle.standby_node.proofs.Ends.{frames_join}
use Rattle.standby_node.proofs.Primary.{IsRecordOf, first_there}
use Rattle.standby_node.proofs.Recorded.{some_bytes}
use Rattle.standby_node.proofs.Shipped.{blocks_joined, shipped}
use Rattle.standby_node.proofs.Stays.{front_with_lsn, run_grown}

-- ---- payloads

module _ {O : Type 0} (m : Meaning O) where
  some_code : (records : List (Record O)) → is_some_list records ≡ true → 0 < length (payload_of m records)
  some_code [] is = cc
  some_code (r ∷ records) is = omega (arith, some_bytes m r, length-append (record_code m r) (payload_of m records))

  kept_short : (test : Record O → Bool) (records : List (Record O)) → length (payload_of m (filter test records)) ≤ length (payload_of m records)
  kept_short test [] = omega arith
  kept_short test (r ∷ records) =
      let rest = kept_short test records in
      let kept = filter test records in
      let all = length-append (record_code m r) (payload_of m records) in
      cond_both (test r) (r ∷ kept) kept (λ (l : List (Record O)). length (payload_of m l) ≤ length (payload_of m (r ∷ records))) (λ is. omega (arith, rest, all, length-append (record_code m r) (payload_of m kept))) (λ is. omega (arith, rest, all))

  -- what blocks have from an LSN on may be payloads, as they may
  pub whole_from : (from : ℕ) (groups : List (List (Record O))) → AllByRecursion IsPayload (map (payload_of m) groups) → AllByRecursion IsPayload (payloads_from m from groups)
  whole_from from [] all = tt
  whole_from from (g ∷ groups) all =
      let here = from_lsn from g in
      let rest = whole_from from groups all.1 in
      cond_both (is_some_list here) (here ∷ blocks_from from groups) (blocks_from from groups) (λ (l : List (List (Record O))). AllByRecursion IsPayload (map (payload_of m) l))
      (λ some. (record { some = some_code here some; short = omega (arith, kept_short (is_from_lsn from) g, all.0.short) }, rest)) (λ none. rest)

-- ---- records

module _ {O : Type 0} (m : Meaning O) (stable h : List (Member O)) (front : IsFront stable h) where
  member_there : (lsn next : ℕ) (member : Member O) (rest : List (Member O)) → lsn ≡ next → 1 ≤ next → member ∷ rest ≡ drop (next - 1) stable → with_lsn h lsn ≡ Some member
  member_there lsn next member rest at low is =
      let one : lsn ≡ suc (next - 1) = omega (arith, at, low) in
      front_with_lsn stable h front lsn member (ap (λ (n : ℕ). with_lsn stable n) one ∙ (first_there stable (next - 1) member rest is).0)

  rest_there : (next : ℕ) (member : Member O) (rest : List (Member O)) → 1 ≤ next → member ∷ rest ≡ drop (next - 1) stable → rest ≡ drop (next + 1 - 1) stable
  rest_there next member rest low is =
      let one : suc (next - 1) ≡ next + 1 - 1 = omega (arith, low) in
      (first_there stable (next - 1) member rest is).1 ∙ ap (λ (n : ℕ). drop n stable) one

  log_records : (base next : ℕ) (records : List (Record O)) → AreRecords m base next records → 1 ≤ next → members_of records ≡ drop (next - 1) stable → AllByRecursion (IsRecordOf h) records
  log_records base next [] are low members = tt
  log_records base next (Logged_checkpoint table ∷ records) are low members = (tt, log_records base next records are.2 low members)
  log_records base next (Logged_command lsn op ∷ records) are low members =
      (member_there lsn next (Command op) (members_of records) are.1.0 low members, log_records base (next + 1) records are.2 (omega arith) (rest_there next (Command op) (members_of records) low members))
  log_records base next (Logged_identity lsn x value ∷ records) are low members =
      (member_there lsn next (Identity x value) (members_of records) are.1.0 low members, log_records base (next + 1) records are.2 (omega arith) (rest_there next (Identity x value) (members_of records) low members))

-- ---- frames

-- the bytes are whole frames of records of the history
pub record AreOf {O : Type 0} (m : Meaning O) (h : List (Member O)) (bytes : List ℕ) : Type 0 where
  pub payloads : List (List ℕ)
  pub groups : List (List (Record O))
  pub is : bytes ≡ frames payloads
  pub whole : AllByRecursion IsPayload payloads
  pub frames_are : AreFramesOf m payloads groups
  pub records : AllByRecursion (IsRecordOf h) (records_of groups)

join : {O : Type 0} (m : Meaning O) (h : List (Member O)) (xs ys : List ℕ) → AreOf m h xs → AreOf m h ys → AreOf m h (xs ++ ys)
join {O} m h xs ys a b = record {
  payloads = a.payloads ++ b.payloads;
  groups = a.groups ++ b.groups;
  is = (λ i. a.is i ++ b.is i) ∙ sym (flat_map-append frame a.payloads b.payloads);
  whole = all_append IsPayload a.payloads b.payloads a.whole b.whole;
  frames_are = frames_join m a.payloads b.payloads a.groups b.groups a.frames_are b.frames_are;
  records = subst (λ (l : List (Record O)). AllByRecursion (IsRecordOf h) l) (sym (flat_map-append (λ g. g) a.groups b.groups)) (all_append (IsRecordOf h) (records_of a.groups) (records_of b.groups) a.records b.records);
}

module _ {O : Type 0} (m wide : Meaning O) (widens : Widens m wide) (objects : m.objects ≤ wide.objects) (cap : m.cap ≤ wide.cap) where
  -- what a store ships in a world
  pub shipped_of : (w : World O) (h : List (Member O)) (from : ℕ) (bytes : List ℕ) → 1 ≤ w.base → IsFront (stable_in w) h → IsShipped m w from bytes → AreOf wide h bytes
  shipped_of w h from bytes low front it =
      let base = it.header.base in
      let members = it.members ∙ ap (λ (n : ℕ). drop (n - 1) (stable_in w)) (sym it.base) in
      let all = log_records m (stable_in w) h front base base (records_of it.groups) it.log.placed (omega (arith, low, it.base)) members in
      record {
        payloads = payloads_from m from it.groups;
        groups = blocks_from from it.groups;
        is = it.frames_are;
        whole = whole_from m from it.groups (recursion_from_All IsPayload (map (payload_of m) it.groups) it.log.log.whole);
        frames_are = shipped m wide widens objects cap base base from it.groups it.log.placed;
        records = subst (λ (l : List (Record O)). AllByRecursion (IsRecordOf h) l) (sym (blocks_joined from it.groups)) (all_kept (IsRecordOf h) (is_from_lsn from) (records_of it.groups) all);
      }

  -- and has shipped before
  was_of : (last : World O) (bytes : List ℕ) → WasShipped m last bytes → AreOf wide (stable_in last) bytes
  was_of last bytes it =
      let front = subst (λ (v : World O). IsFront (stable_in it.world) (stable_in v)) it.leads (run_grown m it.world it.steps it.sound.forced).front in
      shipped_of it.world (stable_in last) it.from bytes it.sound.base front it.shipped

  pub pieces_of : (last : World O) (pieces : List (List ℕ)) → AllByRecursion (WasShipped m last) pieces → AreOf wide (stable_in last) (concat pieces)
  pieces_of last [] all = record { payloads = []; groups = []; is = refl; whole = tt; frames_are = tt; records = tt }
  pieces_of last (piece ∷ pieces) all = join wide (stable_in last) piece (concat pieces) (was_of last piece all.0) (pieces_of last pieces all.1)
