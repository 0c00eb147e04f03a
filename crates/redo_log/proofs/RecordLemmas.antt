-- The records that were read are those that were checked.
use Rattle.std.proofs.Common.{◌≡◌, ◌<◌, ℕ, List, [], ◌∷◌, ◌++◌, length, length-append, append_assoc, drop, get_or, map, refl, sym, ap, ◌∙◌, subst, arith}
use Rattle.std.specs.Prelude.{All}
use Rattle.std.specs.List.{flat_map}
use Rattle.std.proofs.lemmas.List.{drop_at}
use Rattle.std.proofs.lemmas.List.Concat.{flat_map-append}
use Rattle.std.proofs.lemmas.List.Elements.{All-cons, All-head, All-nil, All-tail}
use Rattle.disk_model.specs.Disk.{Files}
use Rattle.disk_model.specs.declared.machine.FileNo.{FileNo}
use Rattle.oper_core.specs.Meaning.{Meaning}
use Rattle.formats.specs.InForce.{HoldsLog}
use Rattle.formats.specs.Log.{Header}
use Rattle.formats.specs.Records.{AreRecords, HoldsRecordLog, IsRecord, next_behind, payload_of, record_code, records_of}
use Rattle.formats.specs.declared.record.Record.{Record}
use Rattle.formats.specs.declared.record.Record.TheVariants.{Command, Identity, Checkpoint}
use Rattle.log_blocks.specs.Laws.{one_in_force, with_block-some}
use Rattle.log_records.specs.Codec.{StartsWithRecord}
use Rattle.log_records.specs.CodecLaws.{HasCodes, same_record}
use Rattle.redo_log.specs.Unreadable.{AreReadable, IsUnreadable}

-- what holds of all of two lists together
both_parts : {A : Type 0} (P : A → Type 0) (xs ys : List A) → All P (xs ++ ys) → All P xs × All P ys
both_parts P [] ys all = (All-nil P, all)
both_parts P (x ∷ xs) ys all = let rest = both_parts P xs ys (All-tail P x (xs ++ ys) all) in (All-cons P x xs (All-head P x (xs ++ ys) all) rest.0, rest.1)

module _ {O : Type 0} (m : Meaning O) (codes : HasCodes m) where
  no_code : (r : Record O) (rest : List ℕ) → [] ≡ record_code m r ++ rest → ⊥
  no_code (Command lsn op) rest same = omega (arith, ap length same)
  no_code (Identity lsn x value) rest same = omega (arith, ap length same)
  no_code (Checkpoint table) rest same = omega (arith, ap length same)

  -- bytes are those of one list of records of the grammar
  one_payload : (rs ss : List (Record O)) → All (IsRecord m) rs → All (IsRecord m) ss → payload_of m rs ≡ payload_of m ss → rs ≡ ss
  one_payload [] [] are_r are_s same = refl
  one_payload [] (s ∷ ss) are_r are_s same = absurd (no_code s (payload_of m ss) same)
  one_payload (r ∷ rs) [] are_r are_s same = absurd (no_code r (payload_of m rs) (sym same))
  one_payload (r ∷ rs) (s ∷ ss) are_r are_s same =
      let first : r ≡ s = same_record m codes r s (payload_of m (r ∷ rs)) (record { rest = payload_of m rs; split = refl; in_grammar = All-head (IsRecord m) r rs are_r })
      (record { rest = payload_of m ss; split = same; in_grammar = All-head (IsRecord m) s ss are_s }) in
      let long = ap (λ (t : Record O). length (record_code m t)) first in
      let behind : payload_of m rs ≡ payload_of m ss =
      sym (drop_at (record_code m r) (payload_of m rs) (length (record_code m r)) refl) ∙ ap (drop (length (record_code m r))) same ∙ drop_at (record_code m s) (payload_of m ss) (length (record_code m r)) (sym long) in
      let rest = one_payload rs ss (All-tail (IsRecord m) r rs are_r) (All-tail (IsRecord m) s ss are_s) behind in
      λ i. first i ∷ rest i

  -- the bytes of all groups
  joined : (groups : List (List (Record O))) → payload_of m (records_of groups) ≡ flat_map (λ payload. payload) (map (payload_of m) groups)
  joined [] = refl
  joined (group ∷ groups) = flat_map-append (record_code m) group (records_of groups) ∙ ap (λ (l : List ℕ). payload_of m group ++ l) (joined groups)

  in_grammar_of : (base next : ℕ) (records : List (Record O)) → AreRecords m base next records → All (IsRecord m) records
  in_grammar_of base next [] are = All-nil (IsRecord m)
  in_grammar_of base next (r ∷ records) are = All-cons (IsRecord m) r records are.0 (in_grammar_of base (next_behind next r) records are.2)

  -- the log that was read, and that which was checked
  pub same_log : (active other : FileNo) (header checked : Header) (groups others : List (List (Record O))) (files : Files) → HoldsLog active header (map (payload_of m) groups) files → All (IsRecord m) (records_of groups)
      → HoldsRecordLog m other checked others files → HoldsRecordLog m active header groups files
  same_log active other header checked groups others files holds grammar held =
      let one = one_in_force active other header checked (map (payload_of m) groups) (map (payload_of m) others) files holds (record { in_force = held.in_force; log = held.log.log }) in
      let records : records_of groups ≡ records_of others = one_payload (records_of groups) (records_of others) grammar (in_grammar_of checked.base checked.base (records_of others) held.log.placed)
      (joined groups ∙ ap (λ (l : List (List ℕ)). flat_map (λ (payload : List ℕ). payload) l) one.2 ∙ sym (joined others)) in
      record {
        in_force = holds.in_force;
        log = record {
          log = holds.log;
          placed = subst (λ (h : Header). AreRecords m h.base h.base (records_of groups)) (sym one.1)
              (subst (λ (l : List (Record O)). AreRecords m checked.base checked.base l) (sym records) held.log.placed);
        };
      }

  -- a payload among those of groups is that of one of them
  group_of : (groups : List (List (Record O))) (passed later : List (List ℕ)) (payload : List ℕ) → All (IsRecord m) (records_of groups) → passed ++ payload ∷ later ≡ map (payload_of m) groups
      → (group : List (Record O)) × All (IsRecord m) group × (payload ≡ payload_of m group)
  group_of [] [] later payload grammar same = absurd (omega (arith, ap length same))
  group_of [] (first ∷ passed) later payload grammar same = absurd (omega (arith, ap length same))
  group_of (group ∷ groups) [] later payload grammar same = (group, (both_parts (IsRecord m) group (records_of groups) grammar).0, ap (λ (l : List (List ℕ)). get_or l 0 []) same)
  group_of (group ∷ groups) (first ∷ passed) later payload grammar same = group_of groups passed later payload (both_parts (IsRecord m) group (records_of groups) grammar).1 (ap (drop 1) same)

  -- behind records of a payload the next one begins
  starts_on : (part group : List (Record O)) (rest : List ℕ) → All (IsRecord m) part → All (IsRecord m) group → payload_of m part ++ rest ≡ payload_of m group → 0 < length rest
      → (r : Record O) × StartsWithRecord m rest r
  starts_on [] [] rest are_p are_g same some = absurd (omega (arith, some, ap length same))
  starts_on [] (g ∷ group) rest are_p are_g same some = (g, record { rest = payload_of m group; split = same; in_grammar = All-head (IsRecord m) g group are_g })
  starts_on (r ∷ part) [] rest are_p are_g same some = absurd (no_code r (payload_of m part ++ rest) (sym same ∙ append_assoc (record_code m r) (payload_of m part) rest))
  starts_on (r ∷ part) (g ∷ group) rest are_p are_g same some =
      let bytes : record_code m r ++ (payload_of m part ++ rest) ≡ record_code m g ++ payload_of m group = sym (append_assoc (record_code m r) (payload_of m part) rest) ∙ same in
      let first : r ≡ g = same_record m codes r g (payload_of m (g ∷ group)) (record { rest = payload_of m part ++ rest; split = sym bytes; in_grammar = All-head (IsRecord m) r part are_p })
      (record { rest = payload_of m group; split = refl; in_grammar = All-head (IsRecord m) g group are_g }) in
      let long = ap (λ (t : Record O). length (record_code m t)) first in
      let behind : payload_of m part ++ rest ≡ payload_of m group =
      sym (drop_at (record_code m r) (payload_of m part ++ rest) (length (record_code m r)) refl) ∙ ap (drop (length (record_code m r))) bytes ∙ drop_at (record_code m g) (payload_of m group) (length (record_code m r)) (sym long) in
      starts_on part group rest (All-tail (IsRecord m) r part are_p) (All-tail (IsRecord m) g group are_g) behind some

  -- payloads of groups are lists of records
  readable : (groups : List (List (Record O))) (all passed later : List (List ℕ)) → All (IsRecord m) (records_of groups) → all ≡ map (payload_of m) groups → IsUnreadable m all passed later → ⊥
  readable groups all passed later grammar same is =
      let rest = is.behind.rest in
      let payload = payload_of m is.part ++ rest in
      let some : 0 < length payload = omega (arith, is.behind.some, length-append (payload_of m is.part) rest) in
      let split : all ≡ passed ++ payload ∷ later = is.behind.here ∙ ap (λ (l : List (List ℕ)). l ++ later) (with_block-some passed payload some) ∙ append_assoc passed (payload ∷ []) later in
      let one = group_of groups passed later payload grammar (sym split ∙ same) in
      let next = starts_on is.part one.0 rest is.in_grammar one.1 one.2 is.behind.some in
      is.behind.none next.0 next.1

  -- those of a log that was checked are
  pub all_readable : (other : FileNo) (checked : Header) (others : List (List (Record O))) (files : Files) → HoldsRecordLog m other checked others files → AreReadable m files
  all_readable other checked others files held active header payloads holds broken =
      let one = one_in_force active other header checked payloads (map (payload_of m) others) files holds (record { in_force = held.in_force; log = held.log.log }) in
      readable others payloads broken.0 broken.1 (in_grammar_of checked.base checked.base (records_of others) held.log.placed) one.2 broken.2
