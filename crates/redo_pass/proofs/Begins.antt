-- A store in which nothing is cached shows the world that a restart finds, and what is due in a store that shows a world.
use Rattle.std.proofs.Common.{◌≡◌, ◌∙◌, sym, ap, subst, ℕ, ◌<◌, ◌&&◌, nat_lt, nat_le, Bool, true, Option, None, Some, List, [], refl}
use Rattle.std.specs.Prelude.{is_some, ◌==◌}
use Rattle.std.specs.List.{list_any}
use Rattle.std.specs.Option.{option_or}
use Rattle.std.proofs.lemmas.Bool.{both_ways, cond-true, lt-ltb}
use Rattle.disk_model.specs.Disk.{Files}
use Rattle.disk_model.specs.declared.machine.FileNo.TheVariants.{Objects}
use Rattle.oper_core.specs.Cell.{Cell}
use Rattle.oper_core.specs.Meaning.{Meaning}
use Rattle.oper_core.specs.State.{is_among}
use Rattle.dirty_page_table.specs.declared.table.DirtyPageTable.{DirtyPageTable}
use Rattle.formats.specs.Objects.{cell_of}
use Rattle.formats.specs.declared.params.Params.{Params}
use Rattle.formats.specs.declared.record.Record.{Record}
use Rattle.stable_objects.specs.SlotsView.{SlotsView, AreOf}
use Rattle.dirty_cache.specs.Contents.{held}
use Rattle.dirty_cache.specs.declared.entry.Entry.{Entry as Pair}
use Rattle.install_order.specs.Entries.{accesses}
use Rattle.install_order.specs.Order.{within}
use Rattle.install_order.specs.declared.entry.Entry.{Entry}
use Rattle.write_graph.specs.Graph.{lsns}
use Rattle.explain_core.specs.History.{Member, with_lsn, writes_of, writes_some, accesses_of}
use Rattle.explain_core.specs.World.{World, is_redone}
use Rattle.explain_core.specs.World as core
use Rattle.standing.specs.Crashed.{crashed-cache, crashed-graph}
use Rattle.standing.specs.Standing.{stored}
use Rattle.analysis_pass.specs.Analysis.{PlanView}
use Rattle.running_store.specs.Courses.{is_identity_at}
use Rattle.running_store.specs.Laid.{cell_or, object_lsn}
use Rattle.running_store.specs.Laid.Laws.{lsn_told}
use Rattle.running_store.specs.Parts.{Volatile, ShowsVolatile}
use Rattle.redo_pass.specs.Redo.{IsRedoDue}
use Rattle.redo_pass.specs.Replayed.{IsNext, is_due}

pub some_held : (d o : Option Pair) → is_some d ≡ true → option_or d o ≡ None → ⊥
some_held None o some none = both_ways _ refl some
some_held (Some e) o some none = cc

pub empty_shows : {O : Type 0} (m : Meaning O) (p : Params) (files : Files) (slots : SlotsView) (plan : PlanView) (records : List (Record O)) (w : World O) → IsRedoDue m p files slots plan records w
    → (it : Volatile) → it.objects.slots ≡ slots → ((x : ℕ) → held it.objects.cache x ≡ None) → it.entries ≡ [] → ShowsVolatile m p (files Objects) it w
empty_shows m p files slots plan records w due it same none empty = record {
  params = ap (λ (s : SlotsView). s.params) same ∙ due.params;
  laid = record {
    slots = subst (λ (s : SlotsView). AreOf s (files Objects)) (sym same) due.of_file;
    clean = λ x e clean had. let h : None ≡ Some e = sym (none x) ∙ had in cc;
  };
  below = λ x e had. let h : None ≡ Some e = sym (none x) ∙ had in cc;
  slots = due.found.shows.cells;
  cache = λ x. ap (λ (o : Option Pair). cell_or o (stored p (files Objects) x)) (none x) ∙ due.found.shows.cells x
      ∙ ap (λ (c : ℕ → Cell). c x) (sym (crashed-cache m w due.found.crashed));
  dirty = λ x is. absurd (some_held _ _ is (none x));
  members = λ n. ap (λ (es : List Entry). is_among n (lsns es)) empty ∙ ap (λ (g : ℕ → Bool). g n) (sym (crashed-graph m w due.found.crashed));
  accesses = ap accesses empty ∙ ap (λ (g : ℕ → Bool). within g (accesses_of m w.history)) (sym (crashed-graph m w due.found.crashed));
  identities = λ n. ap (λ (es : List Entry). list_any (λ e. (e.lsn == n) && e.identity) es) empty ∙ ap (λ (g : ℕ → Bool). g n && is_identity_at w.history n) (sym (crashed-graph m w due.found.crashed));
}

module _ {O : Type 0} (m : Meaning O) (p : Params) (file : List ℕ) (it : Volatile) (w : World O) (shows : ShowsVolatile m p file it w) where
  -- the LSN that is reported without the file is the world's
  pub lsn_shown : (x : ℕ) → x < p.objects → object_lsn it.objects x ≡ (w.cache x).lsn
  lsn_shown x below =
      let here : x < it.objects.slots.params.objects = subst (λ (q : Params). x < q.objects) (sym shows.params) below in
      let cell : cell_of x file ≡ stored p file x =
      sym (cond-true (nat_lt x p.objects) (cell_of x file) (record { lsn = 0; value = [] }) (lt-ltb x p.objects below)) in
      lsn_told file it.objects x shows.laid here
      ∙ ap (λ (c : Cell). (cell_or (held it.objects.cache x) c).lsn) cell
      ∙ ap (λ (c : Cell). c.lsn) (shows.cache x)

  -- so what is due in the store is what the world's replay sets
  pub due_shown : (table : DirtyPageTable) (n : ℕ) (member : Member O) (x : ℕ) → IsNext w table n member → x < p.objects → is_due table it.objects n (writes_of m member) x ≡ is_redone m w x
  due_shown table n member x next below =
      let there : with_lsn w.history w.next ≡ Some member = ap (λ (k : ℕ). with_lsn w.history k) (sym next.here) ∙ next.member_is in
      let same = lsn_shown x below in
      (λ i. is_among x (writes_of m member) && (nat_lt (same i) (next.here i) && nat_le ((next.plan i).redo_from x) (next.here i)))
      ∙ ap (λ (o : Option (Member O)). writes_some m o x && (nat_lt (w.cache x).lsn w.next && nat_le ((core.plan_of w.tables w.base).redo_from x) w.next)) (sym there)
