-- A log under wider bounds.
use Rattle.std.proofs.Common.{◌≡◌, ◌≤◌, ℕ, List, [], ◌∷◌, refl, sym, ap, subst, arith, map}
use Rattle.std.specs.Prelude.{◌<◌}
use Rattle.std.specs.List.{flat_map}
use Rattle.std.proofs.lemmas.List.Elements.{All-weaker}
use Rattle.oper_core.specs.Meaning.{Meaning, Widens}
use Rattle.formats.specs.Log.{Header, IsWholeLog}
use Rattle.formats.specs.Records.{record_code, payload_of, records_of, IsRecord, IsPlaced, AreRecords, IsRecordLog, next_behind}
use Rattle.formats.specs.declared.record.Record.{Record}
use Rattle.formats.specs.declared.record.Record.TheVariants.{Command, Identity, Checkpoint}

module _ {O : Type 0} (m wide : Meaning O) (widens : Widens m wide) (objects : m.objects ≤ wide.objects) (cap : m.cap ≤ wide.cap) where
  codes_same : m.code ≡ wide.code
  codes_same i op = sym (widens.code op) i

  code_same : (r : Record O) → record_code m r ≡ record_code wide r
  code_same (Command lsn op) = ap (λ (code : O → List ℕ). record_code (record m { code = code }) (Command lsn op)) codes_same
  code_same (Identity lsn x value) = refl
  code_same (Checkpoint table) = refl

  payloads_same : (groups : List (List (Record O))) → map (payload_of m) groups ≡ map (payload_of wide) groups
  payloads_same groups i = map (λ records. flat_map (λ r. code_same r i) records) groups

  record_wider : (r : Record O) → IsRecord m r → IsRecord wide r
  record_wider (Command lsn op) is = (is.0, widens.in_grammar op is.1)
  record_wider (Identity lsn x value) is = (is.0, omega (arith, is.1, objects), omega (arith, is.2, cap))
  record_wider (Checkpoint table) is = is

  placed_wider : (base next : ℕ) (r : Record O) → IsPlaced m base next r → IsPlaced wide base next r
  placed_wider base next (Command lsn op) is = is
  placed_wider base next (Identity lsn x value) is = is
  placed_wider base next (Checkpoint table) is = record {
    next_is = is.next_is;
    rising = is.rising;
    there = All-weaker (λ s. s.0 < m.objects) (λ s. s.0 < wide.objects) (λ s below. omega (arith, below, objects)) table.starts is.there;
    from_base = is.from_base;
    before = is.before;
  }

  records_wider : (base next : ℕ) (records : List (Record O)) → AreRecords m base next records → AreRecords wide base next records
  records_wider base next [] are = tt
  records_wider base next (r ∷ records) are = (record_wider r are.0, placed_wider base next r are.1, records_wider base (next_behind next r) records are.2)

  -- its bytes are the same, and its records are in the wider grammar
  pub log_wider : (header : Header) (groups : List (List (Record O))) (file : List ℕ) → IsRecordLog m header groups file → IsRecordLog wide header groups file
  log_wider header groups file is = record {
    log = subst (λ (payloads : List (List ℕ)). IsWholeLog header payloads file) (payloads_same groups) is.log;
    placed = records_wider header.base header.base (records_of groups) is.placed;
  }
