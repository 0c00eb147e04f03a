-- What files hold to which the log of an engine is copied.
use Rattle.std.proofs.Common.{◌≡◌, ◌∙◌, sym, subst, ap, ℕ, ◌+◌, ◌≤◌, List, [], ◌∷◌, ◌++◌, inl, inr, ◌⊎◌, refl, arith}
use Rattle.std.specs.Prelude.{nat_le}
use Rattle.std.proofs.lemmas.Bool.{cond_both, cond-true, le-leb}
use Rattle.disk_model.specs.Disk.{Disk, Files}
use Rattle.oper_core.specs.Meaning.{Meaning}
use Rattle.oper_core.specs.declared.bounds.Bounds.{Bounds}
use Rattle.formats.specs.Records.{AreRecords, records_of}
use Rattle.formats.specs.declared.params.Params.{Params}
use Rattle.formats.specs.declared.record.Record.{Record}
use Rattle.formats.specs.declared.record.Record.TheVariants as of_log
use Rattle.explain_core.specs.History.{Member}
use Rattle.explain_core.specs.History.Member.{Command, Identity}
use Rattle.explain_core.specs.World.{World, plan_of}
use Rattle.log_records.specs.LogCopy.{HoldsCopy, copied_groups, copied_records, or_checkpoint}
use Rattle.log_records.specs.RecordLog.{Keeps}
use Rattle.log_records.specs.RewriteLaws.{blocks_hold}
use Rattle.log_records.specs.Rewriting.{from_lsn}
use Rattle.standing.specs.Members.{members_of, tables_in}
use Rattle.running_store.specs.Parts.{Shows}
use Rattle.store_engine.specs.Engine.{EngineView, ShowsIn}
use Rattle.store_engine.specs.LogOf.{HoldsLogOf}
use Rattle.store_engine.specs.Grouping.{ungrouped}
use Rattle.store_engine.specs.Store.{meaning_in}

module _ {O : Type 0} where
  -- the records with an LSN are the members
  members_from_lsn : (m : Meaning O) (base next : ℕ) (records more : List (Record O)) → base ≤ next → AreRecords m base next (records ++ more) → members_of (from_lsn base records) ≡ members_of records
  members_from_lsn m base next [] more low are = refl
  members_from_lsn m base next (of_log.Command lsn op ∷ records) more low are =
      ap (λ (l : List (Record O)). members_of l) (cond-true (nat_le base lsn) (of_log.Command lsn op ∷ from_lsn base records) (from_lsn base records) (le-leb base lsn (omega (arith, low, are.1.0))))
      ∙ ap (λ (l : List (Member O)). Command op ∷ l) (members_from_lsn m base (next + 1) records more (omega (arith, low)) are.2)
  members_from_lsn m base next (of_log.Identity lsn x value ∷ records) more low are =
      ap (λ (l : List (Record O)). members_of l) (cond-true (nat_le base lsn) (of_log.Identity lsn x value ∷ from_lsn base records) (from_lsn base records) (le-leb base lsn (omega (arith, low, are.1.0))))
      ∙ ap (λ (l : List (Member O)). Identity x value ∷ l) (members_from_lsn m base (next + 1) records more (omega (arith, low)) are.2)
  members_from_lsn m base next (of_log.Checkpoint table ∷ records) more low are = members_from_lsn m base next records more low are.2

  -- and none of them is a checkpoint
  no_table_among : (base : ℕ) (records : List (Record O)) → tables_in (from_lsn base records) ≡ []
  no_table_among base [] = refl
  no_table_among base (of_log.Command lsn op ∷ records) =
      let rest = no_table_among base records in
      cond_both (nat_le base lsn) (of_log.Command lsn op ∷ from_lsn base records) (from_lsn base records) (λ (l : List (Record O)). tables_in l ≡ []) (λ is. rest) (λ is. rest)
  no_table_among base (of_log.Identity lsn x value ∷ records) =
      let rest = no_table_among base records in
      cond_both (nat_le base lsn) (of_log.Identity lsn x value ∷ from_lsn base records) (from_lsn base records) (λ (l : List (Record O)). tables_in l ≡ []) (λ is. rest) (λ is. rest)
  no_table_among base (of_log.Checkpoint table ∷ records) = no_table_among base records

  -- the checkpoint that stands for no record is no member
  members_or_checkpoint : (base : ℕ) (records : List (Record O)) → members_of (or_checkpoint base records) ≡ members_of records
  members_or_checkpoint base [] = refl
  members_or_checkpoint base (r ∷ records) = refl

  tables_or_checkpoint : (base : ℕ) (records : List (Record O)) → tables_in records ≡ [] → (tables_in (or_checkpoint base records) ≡ []) ⊎ (tables_in (or_checkpoint base records) ≡ plan_of [] base ∷ [])
  tables_or_checkpoint base [] none = inr refl
  tables_or_checkpoint base (r ∷ records) none = inl none

  -- the records of a copied log
  copied_hold : (m : Meaning O) (base : ℕ) (records : List (Record O)) → records_of (copied_groups m base records) ≡ copied_records base records
  copied_hold m base records = blocks_hold m [] (copied_records base records)

module _ {O : Type 0} (meaning : Bounds → Meaning O) (p : Params) (d : Disk) (engine : EngineView) (w : World O) (shows : ShowsIn meaning p d engine w) where
  abbrev pub m : Meaning O
  m = meaning_in meaning p

  abbrev pub shown : Shows m p d engine.parts (ungrouped w)
  shown = shows.shows

  pub keeps_shown : Keeps (meaning engine.parts.log.bounds) d engine.parts.log shown.log.stable shown.log.pending
  keeps_shown = subst (λ (b : Bounds). Keeps (meaning b) d engine.parts.log shown.log.stable shown.log.pending) (sym shown.bounds) shown.log.keeps

  pub copy_holds : (files : Files) → HoldsCopy (meaning engine.parts.log.bounds) engine.parts.log.log shown.log.stable files → HoldsLogOf m w files
  copy_holds files copy =
      let log = shown.log in
      let base = engine.parts.log.log.header.base in
      let groups = copied_groups m base log.stable in
      let held : records_of groups ≡ copied_records base log.stable = copied_hold m base log.stable in
      let here = subst (λ (b : Bounds). HoldsCopy (meaning b) engine.parts.log.log log.stable files) shown.bounds copy in
      record {
        active = _;
        header = _;
        groups = groups;
        log = here;
        base = log.base;
        commands_before = log.commands_before;
        members = ap (λ (l : List (Record O)). members_of l) held ∙ members_or_checkpoint base (from_lsn base log.stable)
            ∙ members_from_lsn m base base log.stable log.pending (omega arith) log.keeps.placed ∙ log.forced;
        tables = subst (λ (l : List (Record O)). (tables_in l ≡ []) ⊎ (tables_in l ≡ plan_of [] w.base ∷ [])) (sym held)
            (subst (λ (n : ℕ). (tables_in (copied_records base log.stable) ≡ []) ⊎ (tables_in (copied_records base log.stable) ≡ plan_of [] n ∷ [])) log.base
            (tables_or_checkpoint base (from_lsn base log.stable) (no_table_among base log.stable)));
      }
