-- A log holds one list of records, of which a reader meets the first, and has then no fault in its records.
use Rattle.std.proofs.Common.{◌≡◌, ℕ, ◌<◌, List, [], ◌∷◌, ◌++◌, length, map, refl, sym, ap, ◌∙◌, subst, arith, append_assoc, length-append}
use Rattle.std.proofs.lemmas.List.{append_cancel_left}
use Rattle.disk_model.specs.Disk.{Files}
use Rattle.disk_model.specs.declared.machine.FileNo.{FileNo}
use Rattle.oper_core.specs.Meaning.{Meaning}
use Rattle.formats.specs.InForce.{IsInForce, HasHeader, HoldsLog}
use Rattle.formats.specs.Log.{Header, IsWholeLog, end_of}
use Rattle.formats.specs.Records.{record_code, payload_of, records_of, next_behind, next_after, IsRecord, AreRecords, IsRecordLog, HoldsRecordLog}
use Rattle.formats.specs.Image.{IsRecordFault}
use Rattle.formats.specs.declared.record.Record.{Record}
use Rattle.formats.specs.declared.record.Record.TheVariants.{Command, Identity, Checkpoint}
use Rattle.log_blocks.specs.Forcing.{with_block}
use Rattle.log_blocks.specs.Laws.{one_log, one_in_force, same_header, has_header}
use Rattle.log_records.specs.CodecLaws.{HasCodes, same_record}
use Rattle.log_records.specs.RecordLaws.{AreRecords-front, AreRecords-behind, placed-append, next-append}

-- a log of records is one of payloads
pub log_of : {O : Type 0} (m : Meaning O) {active : FileNo} {header : Header} {groups : List (List (Record O))} {files : Files} → HoldsRecordLog m active header groups files
    → HoldsLog active header (map (payload_of m) groups) files
log_of m is = record { in_force = is.in_force; log = is.log.log }

module _ {O : Type 0} (m : Meaning O) (codes : HasCodes m) where
  -- bytes that begin with two records begin with one
  same_first : (r s : Record O) (x y : List ℕ) → IsRecord m r → IsRecord m s → record_code m r ++ x ≡ record_code m s ++ y → (r ≡ s) × (x ≡ y)
  same_first r s x y is_r is_s same =
      let first = same_record m codes r s (record_code m r ++ x) (record { rest = x; split = refl; in_grammar = is_r }) (record { rest = y; split = same; in_grammar = is_s }) in
      (first, append_cancel_left (record_code m r) x y (same ∙ ap (λ (t : Record O). record_code m t ++ y) (sym first)))

  no_code : (r : Record O) (x : List ℕ) → [] ≡ record_code m r ++ x → ⊥
  no_code (Command lsn op) x same = cc
  no_code (Identity lsn y value) x same = cc
  no_code (Checkpoint table) x same = cc

  -- what follows the first records of a payload
  pub record IsRest (before all : List (Record O)) (wrong : List ℕ) : Type 0 where
    pub others : List (Record O)
    pub all_are : all ≡ before ++ others
    pub wrong_is : wrong ≡ payload_of m others

  rest_of : (base next base' next' : ℕ) (before all : List (Record O)) (wrong : List ℕ) → AreRecords m base next before → AreRecords m base' next' all
      → payload_of m before ++ wrong ≡ payload_of m all → IsRest before all wrong
  rest_of base next base' next' [] all wrong are_before are_all same = record { others = all; all_are = refl; wrong_is = same }
  rest_of base next base' next' (r ∷ before) [] wrong are_before are_all same = absurd (no_code r (payload_of m before ++ wrong) (sym same ∙ append_assoc (record_code m r) (payload_of m before) wrong))
  rest_of base next base' next' (r ∷ before) (s ∷ all) wrong are_before are_all same =
      let first = same_first r s (payload_of m before ++ wrong) (payload_of m all) are_before.0 are_all.0 (sym (append_assoc (record_code m r) (payload_of m before) wrong) ∙ same) in
      let rest = rest_of base (next_behind next r) base' (next_behind next' s) before all wrong are_before.2 are_all.2 first.1 in
      record { others = rest.others; all_are = ap (λ (t : Record O). t ∷ all) (sym first.0) ∙ ap (λ (l : List (Record O)). r ∷ l) rest.all_are; wrong_is = rest.wrong_is }

  -- one payload is that of one list of records
  pub one_payload : (base next base' next' : ℕ) (rs ss : List (Record O)) → AreRecords m base next rs → AreRecords m base' next' ss → payload_of m rs ≡ payload_of m ss → rs ≡ ss
  one_payload base next base' next' [] [] are_r are_s same = refl
  one_payload base next base' next' [] (s ∷ ss) are_r are_s same = absurd (no_code s (payload_of m ss) same)
  one_payload base next base' next' (r ∷ rs) [] are_r are_s same = absurd (no_code r (payload_of m rs) (sym same))
  one_payload base next base' next' (r ∷ rs) (s ∷ ss) are_r are_s same =
      let first = same_first r s (payload_of m rs) (payload_of m ss) are_r.0 are_s.0 same in
      let rest = one_payload base (next_behind next r) base' (next_behind next' s) rs ss are_r.2 are_s.2 first.1 in
      λ i. first.0 i ∷ rest i

  -- one list of payloads is that of one list of groups
  pub one_grouping : (base next base' next' : ℕ) (gs hs : List (List (Record O))) → AreRecords m base next (records_of gs) → AreRecords m base' next' (records_of hs)
      → map (payload_of m) gs ≡ map (payload_of m) hs → records_of gs ≡ records_of hs
  one_grouping base next base' next' [] [] are_g are_h same = refl
  one_grouping base next base' next' [] (h ∷ hs) are_g are_h same = cc
  one_grouping base next base' next' (g ∷ gs) [] are_g are_h same = cc
  one_grouping base next base' next' (g ∷ gs) (h ∷ hs) are_g are_h same =
      let heads : payload_of m g ≡ payload_of m h = cc in
      let tails : map (payload_of m) gs ≡ map (payload_of m) hs = cc in
      let first = one_payload base next base' next' g h (AreRecords-front m base next g (records_of gs) are_g) (AreRecords-front m base' next' h (records_of hs) are_h) heads in
      let rest = one_grouping base (next_after next g) base' (next_after next' h) gs hs (AreRecords-behind m base next g (records_of gs) are_g) (AreRecords-behind m base' next' h (records_of hs) are_h) tails in
      λ i. first i ++ rest i

  -- and so are the groups
  pub same_groups : (base next base' next' : ℕ) (gs hs : List (List (Record O))) → AreRecords m base next (records_of gs) → AreRecords m base' next' (records_of hs)
      → map (payload_of m) gs ≡ map (payload_of m) hs → gs ≡ hs
  same_groups base next base' next' [] [] are_g are_h same = refl
  same_groups base next base' next' [] (h ∷ hs) are_g are_h same = cc
  same_groups base next base' next' (g ∷ gs) [] are_g are_h same = cc
  same_groups base next base' next' (g ∷ gs) (h ∷ hs) are_g are_h same =
      let heads : payload_of m g ≡ payload_of m h = cc in
      let tails : map (payload_of m) gs ≡ map (payload_of m) hs = cc in
      let first = one_payload base next base' next' g h (AreRecords-front m base next g (records_of gs) are_g) (AreRecords-front m base' next' h (records_of hs) are_h) heads in
      let rest = same_groups base (next_after next g) base' (next_after next' h) gs hs (AreRecords-behind m base next g (records_of gs) are_g) (AreRecords-behind m base' next' h (records_of hs) are_h) tails in
      λ i. first i ∷ rest i

  -- the records of some groups and of a part of the next one are the first of all
  pub record FirstOf (all first : List (Record O)) : Type 0 where
    pub more : List (Record O)
    pub all_are : all ≡ first ++ more

  with_first : (x : List ℕ) (xs : List (List ℕ)) (bytes : List ℕ) → with_block (x ∷ xs) bytes ≡ x ∷ with_block xs bytes
  with_first x xs [] = refl
  with_first x xs (byte ∷ bytes) = refl

  some_code : (r : Record O) (bytes : List ℕ) → with_block [] (record_code m r ++ bytes) ≡ (record_code m r ++ bytes) ∷ []
  some_code (Command lsn op) bytes = refl
  some_code (Identity lsn x value) bytes = refl
  some_code (Checkpoint table) bytes = refl

  one_block : (r : Record O) (part : List (Record O)) (rest : List ℕ) → with_block [] (payload_of m (r ∷ part) ++ rest) ≡ (payload_of m (r ∷ part) ++ rest) ∷ []
  one_block r part rest =
      let split = append_assoc (record_code m r) (payload_of m part) rest in
      ap (λ (l : List ℕ). with_block [] l) split ∙ some_code r (payload_of m part ++ rest) ∙ ap (λ (l : List ℕ). l ∷ []) (sym split)

  pub first_records : (base next base' next' : ℕ) (gs groups : List (List (Record O))) (part : List (Record O)) (rest : List ℕ) (later : List (List ℕ)) → AreRecords m base next (records_of gs)
      → AreRecords m base' next' (records_of groups ++ part) → map (payload_of m) gs ≡ with_block (map (payload_of m) groups) (payload_of m part ++ rest) ++ later → FirstOf (records_of gs) (records_of groups ++ part)
  first_records base next base' next' gs [] [] rest later are_g are same = record { more = records_of gs; all_are = refl }
  first_records base next base' next' [] [] (r ∷ part) rest later are_g are same = absurd (none_first (same ∙ ap (λ (l : List (List ℕ)). l ++ later) (one_block r part rest)))
    where
      none_first : {x : List ℕ} → [] ≡ x ∷ later → ⊥
      none_first e = cc
  first_records base next base' next' (g ∷ gs) [] (r ∷ part) rest later are_g are same =
      let split : payload_of m g ∷ map (payload_of m) gs ≡ (payload_of m (r ∷ part) ++ rest) ∷ later = same ∙ ap (λ (l : List (List ℕ)). l ++ later) (one_block r part rest) in
      let here : payload_of m g ≡ payload_of m (r ∷ part) ++ rest = cc in
      let front = rest_of base' next' base next (r ∷ part) g rest are (AreRecords-front m base next g (records_of gs) are_g) (sym here) in
      record {
        more = front.others ++ records_of gs;
        all_are = ap (λ (l : List (Record O)). l ++ records_of gs) front.all_are ∙ append_assoc (r ∷ part) front.others (records_of gs);
      }
  first_records base next base' next' [] (h ∷ groups) part rest later are_g are same = absurd (none_there (same ∙ ap (λ (l : List (List ℕ)). l ++ later) (with_first (payload_of m h) (map (payload_of m) groups) (payload_of m part ++ rest))))
    where
      none_there : {x : List ℕ} {xs : List (List ℕ)} → [] ≡ x ∷ xs → ⊥
      none_there e = cc
  first_records base next base' next' (g ∷ gs) (h ∷ groups) part rest later are_g are same =
      let split : payload_of m g ∷ map (payload_of m) gs ≡ payload_of m h ∷ (with_block (map (payload_of m) groups) (payload_of m part ++ rest) ++ later) =
      same ∙ ap (λ (l : List (List ℕ)). l ++ later) (with_first (payload_of m h) (map (payload_of m) groups) (payload_of m part ++ rest)) in
      let heads : payload_of m g ≡ payload_of m h = cc in
      let tails : map (payload_of m) gs ≡ with_block (map (payload_of m) groups) (payload_of m part ++ rest) ++ later = cc in
      let are_h = subst (λ (l : List (Record O)). AreRecords m base' next' l) (append_assoc h (records_of groups) part) are in
      let first = one_payload base next base' next' g h (AreRecords-front m base next g (records_of gs) are_g) (AreRecords-front m base' next' h (records_of groups ++ part) are_h) heads in
      let others = first_records base (next_after next g) base' (next_after next' h) gs groups part rest later (AreRecords-behind m base next g (records_of gs) are_g)
      (AreRecords-behind m base' next' h (records_of groups ++ part) are_h) tails in
      record {
        more = others.more;
        all_are = (λ i. first i ++ others.all_are i) ∙ sym (append_assoc h (records_of groups ++ part) others.more) ∙ ap (λ (l : List (Record O)). l ++ others.more) (sym (append_assoc h (records_of groups) part));
      }

  -- files hold one list of records in force
  pub one_records : (a b : FileNo) (h k : Header) (gs hs : List (List (Record O))) (files : Files) → HoldsRecordLog m a h gs files → HoldsRecordLog m b k hs files
      → (a ≡ b) × (h ≡ k) × (records_of gs ≡ records_of hs)
  one_records a b h k gs hs files one two =
      let same = one_in_force a b h k (map (payload_of m) gs) (map (payload_of m) hs) files (log_of m one) (log_of m two) in
      (same.0, same.1, one_grouping h.base h.base k.base k.base gs hs one.log.placed two.log.placed same.2)

  -- no payload of whole groups is broken
  none_broken : (base : ℕ) (front : List (Record O)) (gs groups : List (List (Record O))) (before : List (Record O)) (wrong : List ℕ) (later : List (List ℕ))
      → AreRecords m base (next_after base front) (records_of gs) → AreRecords m base (next_after base front) (records_of groups ++ before) → AreRecords m base base front
      → map (payload_of m) gs ≡ map (payload_of m) groups ++ (payload_of m before ++ wrong) ∷ later → 0 < length wrong
      → ((other : Record O) (rest : List ℕ) → wrong ≡ record_code m other ++ rest → AreRecords m base base ((front ++ (records_of groups ++ before)) ++ other ∷ []) → ⊥) → ⊥
  none_broken base front [] [] before wrong later are_g are_b are_f same some none = cc
  none_broken base front [] (h ∷ groups) before wrong later are_g are_b are_f same some none = cc
  none_broken base front (g ∷ gs) [] before wrong later are_g are_b are_f same some none =
      let here : payload_of m g ≡ payload_of m before ++ wrong = cc in
      let n = next_after base front in
      let are_here = AreRecords-front m base n g (records_of gs) are_g in
      let rest = rest_of base n base n before g wrong are_b are_here (sym here) in
      next_one rest.others rest.all_are rest.wrong_is are_here
    where
      next_one : (others : List (Record O)) → g ≡ before ++ others → wrong ≡ payload_of m others → AreRecords m base (next_after base front) g → ⊥
      next_one [] split is are = absurd (omega (arith, some, ap length is))
      next_one (other ∷ others) split is are =
          let again : g ≡ (before ++ other ∷ []) ++ others = split ∙ sym (append_assoc before (other ∷ []) others) in
          let with_other = AreRecords-front m base (next_after base front) (before ++ other ∷ []) others (subst (λ (l : List (Record O)). AreRecords m base (next_after base front) l) again are) in
          none other (payload_of m others) is
          (subst (λ (l : List (Record O)). AreRecords m base base l) (sym (append_assoc front before (other ∷ []))) (placed-append m base base front (before ++ other ∷ []) are_f with_other))
  none_broken base front (g ∷ gs) (h ∷ groups) before wrong later are_g are_b are_f same some none =
      let heads : payload_of m g ≡ payload_of m h = cc in
      let tails : map (payload_of m) gs ≡ map (payload_of m) groups ++ (payload_of m before ++ wrong) ∷ later = cc in
      let n = next_after base front in
      let are_h = subst (λ (l : List (Record O)). AreRecords m base n l) (append_assoc h (records_of groups) before) are_b in
      let first = one_payload base n base n g h (AreRecords-front m base n g (records_of gs) are_g) (AreRecords-front m base n h (records_of groups ++ before) are_h) heads in
      let reach : next_after n g ≡ next_after base (front ++ g) = sym (next-append m base front g) in
      let reach_h : next_after n h ≡ next_after base (front ++ g) = ap (λ (l : List (Record O)). next_after n l) (sym first) ∙ reach in
      let all : (front ++ g) ++ (records_of groups ++ before) ≡ front ++ ((h ++ records_of groups) ++ before) =
      append_assoc front g (records_of groups ++ before) ∙ ap (λ (l : List (Record O)). front ++ (l ++ (records_of groups ++ before))) first ∙ ap (λ (l : List (Record O)). front ++ l) (sym (append_assoc h (records_of groups) before)) in
      none_broken base (front ++ g) gs groups before wrong later
      (subst (λ (k : ℕ). AreRecords m base k (records_of gs)) reach (AreRecords-behind m base n g (records_of gs) are_g))
      (subst (λ (k : ℕ). AreRecords m base k (records_of groups ++ before)) reach_h (AreRecords-behind m base n h (records_of groups ++ before) are_h))
      (placed-append m base base front g are_f (AreRecords-front m base n g (records_of gs) are_g))
      tails some
      (λ other rest split are. none other rest split (subst (λ (l : List (Record O)). AreRecords m base base (l ++ other ∷ [])) all are))

  -- a whole log of records has no fault in its records
  pub no_record_fault : (h : Header) (gs : List (List (Record O))) (file : List ℕ) (place : ℕ) → IsRecordLog m h gs file → IsRecordFault m file place → ⊥
  no_record_fault h gs file place is fault =
      let same = one_log h fault.header (map (payload_of m) gs) _ file is.log fault.log in
      let base : h.base ≡ fault.header.base = ap (λ (k : Header). k.base) same.0 in
      none_broken fault.header.base [] gs fault.groups fault.before fault.wrong fault.later
      (subst (λ (n : ℕ). AreRecords m n n (records_of gs)) base is.placed) fault.placed tt same.1 fault.some fault.no_record

  -- no record that the bytes begin with is right where this LSN is next
  abbrev NoneNext : ℕ → ℕ → List ℕ → Type 0
  NoneNext base next wrong = (other : Record O) (rest : List ℕ) → wrong ≡ record_code m other ++ rest → AreRecords m base next (other ∷ []) → ⊥

  -- a payload is broken at one offset
  one_break : (base next : ℕ) (before front : List (Record O)) (wrong bad : List ℕ) → AreRecords m base next before → AreRecords m base next front
      → payload_of m before ++ wrong ≡ payload_of m front ++ bad → NoneNext base (next_after next before) wrong → NoneNext base (next_after next front) bad
      → length (payload_of m before) ≡ length (payload_of m front)
  one_break base next [] [] wrong bad are also same none never = refl
  one_break base next [] (s ∷ front) wrong bad are also same none never =
      absurd (none s (payload_of m front ++ bad) (same ∙ append_assoc (record_code m s) (payload_of m front) bad) (also.0, also.1, tt))
  one_break base next (r ∷ before) [] wrong bad are also same none never =
      absurd (never r (payload_of m before ++ wrong) (sym same ∙ append_assoc (record_code m r) (payload_of m before) wrong) (are.0, are.1, tt))
  one_break base next (r ∷ before) (s ∷ front) wrong bad are also same none never =
      let first = same_first r s (payload_of m before ++ wrong) (payload_of m front ++ bad) are.0 also.0
      (sym (append_assoc (record_code m r) (payload_of m before) wrong) ∙ same ∙ append_assoc (record_code m s) (payload_of m front) bad) in
      let rest = one_break base (next_behind next r) before front wrong bad are.2 (subst (λ (t : Record O). AreRecords m base (next_behind next t) front) (sym first.0) also.2) first.1
      none (subst (λ (t : Record O). NoneNext base (next_after (next_behind next t) front) bad) (sym first.0) never) in
      omega (
        arith,
        rest,
        length-append (record_code m r) (payload_of m before),
        length-append (record_code m s) (payload_of m front),
        ap (λ (t : Record O). length (record_code m t)) first.0,
      )

  -- where a payload is broken, there is no payload of whole records
  not_whole : (base next : ℕ) (before all behind : List (Record O)) (wrong : List ℕ) → AreRecords m base next before → AreRecords m base next (all ++ behind)
      → payload_of m before ++ wrong ≡ payload_of m all → 0 < length wrong → NoneNext base (next_after next before) wrong → ⊥
  not_whole base next before all behind wrong are also same some none =
      let are_all = AreRecords-front m base next all behind also in
      let rest = rest_of base next base next before all wrong are are_all same in
      first_of rest.others rest.all_are rest.wrong_is are_all
    where
      first_of : (others : List (Record O)) → all ≡ before ++ others → wrong ≡ payload_of m others → AreRecords m base next all → ⊥
      first_of [] split is are_all = omega (arith, some, ap length is)
      first_of (other ∷ others) split is are_all =
          let here = AreRecords-behind m base next before (other ∷ others) (subst (λ (l : List (Record O)). AreRecords m base next l) split are_all) in
          none other (payload_of m others) is (here.0, here.1, tt)

  -- payloads are broken in one of them, at one offset
  one_broken : (base next : ℕ) (gs hs : List (List (Record O))) (before front : List (Record O)) (wrong bad : List ℕ) (later beyond : List (List ℕ))
      → AreRecords m base next (records_of gs ++ before) → AreRecords m base next (records_of hs ++ front)
      → map (payload_of m) gs ++ (payload_of m before ++ wrong) ∷ later ≡ map (payload_of m) hs ++ (payload_of m front ++ bad) ∷ beyond → 0 < length wrong → 0 < length bad
      → NoneNext base (next_after next (records_of gs ++ before)) wrong → NoneNext base (next_after next (records_of hs ++ front)) bad
      → (map (payload_of m) gs ≡ map (payload_of m) hs) × (length (payload_of m before) ≡ length (payload_of m front))
  one_broken base next [] [] before front wrong bad later beyond are also same some more none never =
      let here : payload_of m before ++ wrong ≡ payload_of m front ++ bad = cc in (refl, one_break base next before front wrong bad are also here none never)
  one_broken base next [] (h ∷ hs) before front wrong bad later beyond are also same some more none never =
      let here : payload_of m before ++ wrong ≡ payload_of m h = cc in
      absurd (not_whole base next before h (records_of hs ++ front) wrong are (subst (λ (l : List (Record O)). AreRecords m base next l) (append_assoc h (records_of hs) front) also) here some none)
  one_broken base next (g ∷ gs) [] before front wrong bad later beyond are also same some more none never =
      let here : payload_of m front ++ bad ≡ payload_of m g = cc in
      absurd (not_whole base next front g (records_of gs ++ before) bad also (subst (λ (l : List (Record O)). AreRecords m base next l) (append_assoc g (records_of gs) before) are) here more never)
  one_broken base next (g ∷ gs) (h ∷ hs) before front wrong bad later beyond are also same some more none never =
      let heads : payload_of m g ≡ payload_of m h = cc in
      let tails : map (payload_of m) gs ++ (payload_of m before ++ wrong) ∷ later ≡ map (payload_of m) hs ++ (payload_of m front ++ bad) ∷ beyond = cc in
      let are_g = subst (λ (l : List (Record O)). AreRecords m base next l) (append_assoc g (records_of gs) before) are in
      let are_h = subst (λ (l : List (Record O)). AreRecords m base next l) (append_assoc h (records_of hs) front) also in
      let first = one_payload base next base next g h (AreRecords-front m base next g (records_of gs ++ before) are_g) (AreRecords-front m base next h (records_of hs ++ front) are_h) heads in
      let reach : next_after next ((g ++ records_of gs) ++ before) ≡ next_after (next_after next g) (records_of gs ++ before) =
      ap (λ (l : List (Record O)). next_after next l) (append_assoc g (records_of gs) before) ∙ next-append m next g (records_of gs ++ before) in
      let same_next : next_after next h ≡ next_after next g = ap (λ (l : List (Record O)). next_after next l) (sym first) in
      let reach_h : next_after next ((h ++ records_of hs) ++ front) ≡ next_after (next_after next g) (records_of hs ++ front) =
      ap (λ (l : List (Record O)). next_after next l) (append_assoc h (records_of hs) front) ∙ next-append m next h (records_of hs ++ front) ∙ ap (λ (n : ℕ). next_after n (records_of hs ++ front)) same_next in
      let rest = one_broken base (next_after next g) gs hs before front wrong bad later beyond
      (AreRecords-behind m base next g (records_of gs ++ before) are_g)
      (subst (λ (n : ℕ). AreRecords m base n (records_of hs ++ front)) same_next (AreRecords-behind m base next h (records_of hs ++ front) are_h))
      tails some more (subst (λ (n : ℕ). NoneNext base n wrong) reach none) (subst (λ (n : ℕ). NoneNext base n bad) reach_h never) in
      (λ i. heads i ∷ rest.0 i, rest.1)

  -- the records of a file break its format at one place
  pub one_record_fault : (file : List ℕ) (p q : ℕ) → IsRecordFault m file p → IsRecordFault m file q → p ≡ q
  one_record_fault file p q a b =
      let same = one_log a.header b.header _ _ file a.log b.log in
      let base : b.header.base ≡ a.header.base = ap (λ (h : Header). h.base) (sym same.0) in
      let n = a.header.base in
      let ours = records_of a.groups ++ a.before in
      let theirs = records_of b.groups ++ b.before in
      let placed = subst (λ (k : ℕ). AreRecords m k k theirs) base b.placed in
      let never : (other : Record O) (rest : List ℕ) → b.wrong ≡ record_code m other ++ rest → AreRecords m n n (theirs ++ other ∷ []) → ⊥ =
      λ other rest split are. b.no_record other rest split (subst (λ (k : ℕ). AreRecords m k k (theirs ++ other ∷ [])) (sym base) are) in
      let broken = one_broken n n a.groups b.groups a.before b.before a.wrong b.wrong a.later b.later a.placed placed same.1 a.some b.some
      (λ other rest split are. a.no_record other rest split (placed-append m n n ours (other ∷ []) a.placed are))
      (λ other rest split are. never other rest split (placed-append m n n theirs (other ∷ []) placed are)) in
      omega (arith, a.here, b.here, ap (λ (l : List (List ℕ)). end_of l) broken.0, broken.1)

-- the blocks of a log with a fault in its records are whole
pub broken_log : {O : Type 0} (m : Meaning O) (active : FileNo) (header : Header) (files : Files) (place : ℕ) → IsInForce active header.epoch files → HasHeader header (files active) → IsRecordFault m (files active) place
    → (payloads : List (List ℕ)) × HoldsLog active header payloads files
broken_log m active header files place in_force has fault =
    let same = same_header fault.header header (files active) (has_header fault.header (map (payload_of m) fault.groups ++ (payload_of m fault.before ++ fault.wrong) ∷ fault.later) (files active) fault.log) has in
    let payloads = map (payload_of m) fault.groups ++ (payload_of m fault.before ++ fault.wrong) ∷ fault.later in
    (payloads, record { in_force = in_force; log = subst (λ (h : Header). IsWholeLog h payloads (files active)) same fault.log })
