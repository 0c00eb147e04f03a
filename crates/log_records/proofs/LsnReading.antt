-- How a reader of records with an LSN goes on.
use Rattle.std.proofs.Common.{◌≡◌, ◌≢◌, ◌<◌, ◌≤◌, ℕ, Option, None, Some, true, false, List, [], ◌∷◌, ◌++◌, refl, sym, ap, ◌∙◌, subst, arith, inl, inr, append_assoc}
use Rattle.std.proofs.lemmas.Bool.{cond-true, cond-false}
use Rattle.std.proofs.lemmas.List.{append-nil}
use Rattle.std.proofs.lemmas.List.Elements.{filter-append}
use Rattle.disk_model.specs.Disk.{Disk, Stays}
use Rattle.disk_model.specs.Moments.{same_file, stays_twice}
use Rattle.disk_model.specs.declared.machine.FileNo.TheVariants.{Objects}
use Rattle.oper_core.specs.Meaning.{Meaning}
use Rattle.oper_core.specs.declared.bounds.Bounds.{Bounds}
use Rattle.formats.specs.declared.record.Record.{Record}
use Rattle.log_blocks.specs.LogView.{LogView}
use Rattle.log_blocks.specs.Payloads.{ahead}
use Rattle.formats.specs.Reading.{FailsBy}
use Rattle.formats.specs.declared.read_err.ReadErr.{ReadErr}
use Rattle.log_blocks.specs.Reading.{fails_on}
use Rattle.log_records.specs.Loading.{IsTailFault}
use Rattle.log_records.specs.LsnReader.{LsnReaderView, IsPast, IsReadingFromLsn, HasGiven, HasSearched}
use Rattle.log_records.specs.RecordLog.{RecordLogView}
use Rattle.log_records.specs.RecordReader.{RecordReaderView, IsReading, HasFound}
use Rattle.log_records.specs.Rewriting.{is_between, between_lsns}
use Rattle.log_records.proofs.Passing.{next_found}

-- one record more of those between two numbers, or one that is not
pub between_more : {O : Type 0} (from end : ℕ) (records : List (Record O)) (r : Record O) → is_between from end r ≡ true → between_lsns from end (records ++ r ∷ []) ≡ between_lsns from end records ++ r ∷ []
between_more from end records r is = filter-append (is_between from end) records (r ∷ []) ∙ ap (λ (l : List (Record _)). between_lsns from end records ++ l) (cond-true _ _ _ is)

pub between_same : {O : Type 0} (from end : ℕ) (records : List (Record O)) (r : Record O) → is_between from end r ≡ false → between_lsns from end records ≡ [] → between_lsns from end (records ++ r ∷ []) ≡ []
between_same from end records r is none = filter-append (is_between from end) records (r ∷ []) ∙ (λ i. none i ++ cond-false (is_between from end r) (r ∷ []) [] is i)

-- some more records were read, none of which is between the two numbers
pub record IsPassing {O : Type 0} (m : Meaning O) (from end : ℕ) (first now : Disk) (old it : RecordReaderView) : Type 0 where
  pub kept : Stays first now
  pub bounds : it.bounds ≡ old.bounds
  pub less : ahead it.payloads ≤ ahead old.payloads
  pub more : List (Record O)
  pub none : between_lsns from end more ≡ []
  pub reading : (log : LogView) (all : List (Record O)) → IsReading m first log old all → IsReading m now log it (all ++ more)

pub passing_more : {O : Type 0} (meaning : Bounds → Meaning O) (from end : ℕ) (first mid new : Disk) (old it after : RecordReaderView) (found : Option (Record O)) (r : Record O)
    → IsPassing (meaning old.bounds) from end first mid old it → Stays mid new → after.bounds ≡ it.bounds → ahead after.payloads < ahead it.payloads → found ≡ Some r → is_between from end r ≡ false
    → ((log : LogView) (records : List (Record O)) → IsReading (meaning it.bounds) mid log it records → HasFound (meaning it.bounds) new log after records found)
    → IsPassing (meaning old.bounds) from end first new old after
passing_more meaning from end first mid new old it after found r is kept bounds less one goes finds = record {
  kept = stays_twice first mid new is.kept kept;
  bounds = bounds ∙ is.bounds;
  less = omega (arith, less, is.less);
  more = is.more ++ r ∷ [];
  none = between_same from end is.more r goes is.none;
  reading = λ log all reading. subst (λ (l : List (Record _)). IsReading (meaning old.bounds) new log after l) (append_assoc all is.more (r ∷ []))
      (next_found meaning old.bounds mid new log it after (all ++ is.more) is.bounds (is.reading log all reading) found r one finds);
}

module _ {O : Type 0} (m : Meaning O) where
  -- a log whose epoch no header has: what is said of its file is said of none
  abbrev nowhere : LogView → LogView
  nowhere log = record log { header = record log.header { epoch = 0 } }

  reading_nowhere : (d : Disk) (log : LogView) (it : RecordReaderView) (records : List (Record O)) → IsPast m log it records → IsReading m d (nowhere log) it records
  reading_nowhere d log it records is = record {
    file = is.file;
    base = is.base;
    placed = is.placed;
    next_is = is.next_is;
    short = is.short;
    read = λ files agree payloads whole. absurd (omega (arith, whole.in_range.epoch_low));
  }

  pub past_of : (d : Disk) (log : LogView) (it : RecordReaderView) (records : List (Record O)) → IsReading m d log it records → IsPast m log it records
  past_of d log it records is = record { file = is.file; base = is.base; placed = is.placed; next_is = is.next_is; short = is.short }

  -- by what the search for the next one found
  pub given_more : (old new : Disk) (log : RecordLogView) (before after : LsnReaderView) (given : List (Record O)) (found : Option (Record O)) → after.from ≡ before.from → after.end ≡ before.end
      → HasSearched m old new before.from before.end before.records after.records found → IsReadingFromLsn m old log before given → HasGiven m new log after given found
  given_more old new log before after given None from end search is =
      let ended = (search.reading (nowhere log.log) is.all (reading_nowhere old log.log before.records is.all is.past)).0 in
      record {
        all = is.all ++ search.more;
        given_are = is.given_are ∙ sym (filter-append (is_between before.from before.end) is.all search.more ∙ ap (λ (l : List (Record O)). between_lsns before.from before.end is.all ++ l) search.found_is ∙ append-nil (between_lsns before.from before.end is.all))
            ∙ (λ i. between_lsns (sym from i) (is.end i) (is.all ++ search.more));
        placed = ended.placed;
        short = ended.short;
        read = λ apart. (search.reading log.log is.all (is.reading apart)).0;
      }
  given_more old new log before after given (Some r) from end search is =
      let past = past_of new (nowhere log.log) after.records (is.all ++ search.more) (search.reading (nowhere log.log) is.all (reading_nowhere old log.log before.records is.all is.past)) in
      record {
        end = end ∙ is.end;
        all = is.all ++ search.more;
        given_are = (λ i. is.given_are i ++ sym search.found_is i) ∙ sym (filter-append (is_between before.from before.end) is.all search.more)
            ∙ (λ i. between_lsns (sym from i) (sym end i) (is.all ++ search.more));
        past = record { file = past.file; base = past.base; placed = past.placed; next_is = past.next_is; short = past.short };
        reading = λ apart. search.reading log.log is.all (is.reading apart);
      }

  -- why it fails
  pub search_fails : (old new : Disk) (log : RecordLogView) (before : LsnReaderView) (given : List (Record O)) (cause : ReadErr) (rises : Type 0) → IsReadingFromLsn m old log before given
      → ((other : LogView) (all : List (Record O)) → IsReading m old other before.records all → FailsBy rises (IsTailFault m new other) cause)
      → FailsBy rises (λ f place. log.log.active ≢ Objects → IsTailFault m new log.log f place) cause
  search_fails old new log before given cause rises is fails = elim (same_file log.log.active Objects) [
    | inl same ↦ fails_on _ _ _ _ cause (λ risen. risen) (λ f place there apart. absurd (apart same)) (fails (nowhere log.log) is.all (reading_nowhere old log.log before.records is.all is.past))
    | inr other ↦ fails_on _ _ _ _ cause (λ risen. risen) (λ f place there apart. there) (fails log.log is.all (is.reading other))
  ]

  -- a reader that has given none
  pub given_none : (d : Disk) (log : RecordLogView) (it : LsnReaderView) → it.end ≡ log.next → IsReading m d log.log it.records [] → IsReadingFromLsn m d log it []
  given_none d log it end reading = record { end = end; all = []; given_are = refl; past = past_of d log.log it.records [] reading; reading = λ apart. reading }
