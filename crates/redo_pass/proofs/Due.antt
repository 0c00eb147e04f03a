-- The world that a restart finds is due, with the records that its plan wants.
use Rattle.std.proofs.Common.{◌≡◌, ◌∙◌, sym, ap, subst, ℕ, suc, ◌-◌, ◌≤◌, Option, None, Some, List, [], ◌∷◌, ◌++◌, length, take, drop, arith, refl}
use Rattle.std.specs.Option.{option_or}
use Rattle.std.proofs.Math.Seq.{take-length}
use Rattle.disk_model.specs.Disk.{Files}
use Rattle.disk_model.specs.declared.machine.FileNo.TheVariants.{Objects}
use Rattle.oper_core.specs.Meaning.{Meaning}
use Rattle.dirty_page_table.specs.RedoStarts.{redo_from}
use Rattle.dirty_page_table.specs.declared.table.DirtyPageTable.{DirtyPageTable}
use Rattle.formats.specs.Records.{AreRecords, last_checkpoint, records_of}
use Rattle.formats.specs.declared.params.Params.{Params}
use Rattle.formats.specs.declared.record.Record.{Record}
use Rattle.formats.specs.declared.record.Record.TheVariants.{Command, Identity, Checkpoint}
use Rattle.log_records.specs.Rewriting.{from_lsn}
use Rattle.stable_objects.specs.SlotsView.{SlotsView, AreOf}
use Rattle.explain_core.specs.History.{Member}
use Rattle.explain_core.specs.World.{World, Starts, plan_of, start_of}
use Rattle.standing.specs.Crashed.{crashed-stable, crashed-next}
use Rattle.standing.specs.Members.{members_of, table_of, tables_in}
use Rattle.standing.specs.Standing.{IsFound}
use Rattle.analysis_pass.specs.Analysis.{PlanView, plan_table, table_or, least_start}
use Rattle.redo_pass.specs.Redo.{IsRedoDue}
use Rattle.redo_pass.specs.Rising.{AreMembers}
use Rattle.redo_pass.proofs.Members.{members_are, members_from_lsn}

-- the newest of the tables is this one, if there is one
abbrev NewestIs : Option DirtyPageTable → List Starts → Type 0
NewestIs None ts = ts ≡ []
NewestIs (Some t) ts = (us : List Starts) × (ts ≡ table_of t ∷ us)

earlier : (last : Option DirtyPageTable) (ts : List Starts) (t : DirtyPageTable) → NewestIs last ts → NewestIs (option_or last (Some t)) (ts ++ table_of t ∷ [])
earlier None ts t is = ([], ap (λ (us : List Starts). us ++ table_of t ∷ []) is)
earlier (Some s) ts t is = (is.0 ++ table_of t ∷ [], ap (λ (us : List Starts). us ++ table_of t ∷ []) is.1)

newest_is : {O : Type 0} (records : List (Record O)) → NewestIs (last_checkpoint records) (tables_in records)
newest_is [] = refl
newest_is (Command lsn op ∷ records) = newest_is records
newest_is (Identity lsn x value ∷ records) = newest_is records
newest_is (Checkpoint t ∷ records) = earlier (last_checkpoint records) (tables_in records) t (newest_is records)

by_newest : (last : Option DirtyPageTable) (ts : List Starts) (base : ℕ) → NewestIs last ts → table_of (table_or base last) ≡ plan_of ts base
by_newest None ts base is = ap (λ (us : List Starts). plan_of us base) (sym is)
by_newest (Some t) ts base is = ap (λ (us : List Starts). plan_of us base) (sym is.1)

-- the table of the last check among the records is the plan of the world whose checks these are
plan_shown : {O : Type 0} (base : ℕ) (records : List (Record O)) → table_of (plan_table base records) ≡ plan_of (tables_in records) base
plan_shown base records = by_newest (last_checkpoint records) (tables_in records) base (newest_is records)

-- the records of the log in force are the world's members from its base on
pub found_members : {O : Type 0} (m : Meaning O) (p : Params) (files : Files) (commands : List O) (w : World O) → (found : IsFound m p files commands w) → AreMembers w.history w.base (records_of found.shows.groups)
found_members m p files commands w found =
    let records = records_of found.shows.groups in
    let low = found.sound.base in
    let here : suc (w.base - 1) ≡ w.base = omega (arith, low) in
    let reach : w.base - 1 ≤ length w.history = omega (arith, low, found.sound.next.0, found.sound.next.1) in
    let whole : take w.forced w.history ≡ w.history = ap (λ (n : ℕ). take n w.history) (crashed-stable m w found.crashed found.sound).0 ∙ take-length w.history in
    let placed = subst (λ (b : ℕ). AreRecords m b b records) found.shows.base found.shows.log.log.placed in
    let are : members_of records ≡ drop (w.base - 1) w.history = found.shows.members ∙ ap (λ (h : List (Member _)). drop (w.base - 1) h) whole in
    subst (λ (k : ℕ). AreMembers w.history k records) here (members_are m w.base w.history (w.base - 1) records reach (subst (λ (k : ℕ). AreRecords m w.base k records) (sym here) placed) are)

module _ {O : Type 0} (m : Meaning O)
    (starts : (base : ℕ) (records : List (Record O)) → AreRecords m base base records → least_start (plan_table base records).next (plan_table base records).starts ≡ start_of m.objects (record { redo_from = redo_from (plan_table base records); next = (plan_table base records).next })) where
  pub due : (p : Params) (files : Files) (commands : List O) (w : World O) (found : IsFound m p files commands w) (slots : SlotsView) (plan : PlanView) → slots.params ≡ p → AreOf slots (files Objects)
      → plan.table ≡ plan_table found.shows.header.base (records_of found.shows.groups) → plan.start ≡ least_start plan.table.next plan.table.starts
      → IsRedoDue m p files slots plan (from_lsn plan.start (records_of found.shows.groups)) w
  due p files commands w found slots plan params of_file table start =
      let records = records_of found.shows.groups in
      let base = found.shows.header.base in
      let of_world : table_of plan.table ≡ plan_of w.tables w.base = ap table_of table ∙ plan_shown base records ∙ (λ i. plan_of (found.shows.tables i) (found.shows.base i)) in
      let from : plan.start ≡ w.next =
      start ∙ ap (λ (t : DirtyPageTable). least_start t.next t.starts) table ∙ starts base records found.shows.log.log.placed
      ∙ ap (λ (t : DirtyPageTable). start_of m.objects (table_of t)) (sym table) ∙ ap (start_of m.objects) of_world ∙ sym (crashed-next m w found.crashed) in
      record {
        found = record { shows = found.shows; sound = found.sound; crashed = found.crashed; commands_are = refl };
        params = params;
        of_file = of_file;
        from = plan.start;
        low = omega (arith, from);
        members = members_from_lsn plan.start w.history w.base records (found_members m p files commands w found) (omega (arith, from, found.sound.next.0)) (omega (arith, from, found.sound.next.1));
        start = from;
        table = of_world;
      }
