-- The rounds of an install, as calls on parts that show a world take them.
use Rattle.std.proofs.Common.{◌≡◌, ◌∙◌, sym, subst, ap, ℕ, ◌<◌, ◌≤◌, Bool, List, [], ◌++◌, length, take, ◌⊎◌}
use Rattle.std.specs.Prelude.{IsTrue}
use Rattle.std.proofs.lemmas.Bool.{cond-false}
use Rattle.disk_model.specs.Disk.{Disk}
use Rattle.disk_model.specs.declared.machine.FileNo.TheVariants.{Objects}
use Rattle.oper_core.specs.Meaning.{Meaning, IsLawful, IsSmall}
use Rattle.oper_core.specs.declared.bounds.Bounds.{Bounds}
use Rattle.formats.specs.Objects.{bounds_of}
use Rattle.formats.specs.declared.params.Params.{Params}
use Rattle.log_blocks.specs.LogView.{used_of}
use Rattle.install_order.specs.declared.entry.Entry.{Entry}
use Rattle.write_graph.specs.Graph.{IsLeast, IsNodeNamed, NamesMinimal}
use Rattle.explain_core.specs.World.{World, run}
use Rattle.running_store.specs.Courses.Laws.{behind_through}
use Rattle.running_store.specs.Courses.{Course, and_then, cached_length, course, is_through}
use Rattle.cache_manager.specs.InstallCourses.{but_longest, finish_steps, flushed_in, has_members, identities, install_course, rounds, work}
use Rattle.running_store.specs.Courses.Stop.{Through}
use Rattle.running_store.specs.Laid.{Laid}
use Rattle.running_store.specs.Parts.{Parts, Shows, Volatile, meaning_in, volatile}
use Rattle.running_store.specs.Running.{KeepsSound}
use Rattle.cache_manager.specs.Beside.{HasCopied, IsFresh}
use Rattle.cache_manager.specs.Thin.{IsWork}
use Rattle.cache_manager.proofs.NextNode.Besides.{may_shown, must_shown}
use Rattle.cache_manager.proofs.OneInstall.Loops.{install_finishes, install_logs}
use Rattle.cache_manager.proofs.NextNode.Named.{no_members}
use Rattle.cache_manager.proofs.NextNode.Work.{name_held, work_shown}
use Rattle.cache_manager.proofs.Removal.Members.{finish_flushes, flushed-append, none_identities}
use Rattle.cache_manager.proofs.ThinNode.Worlds.{store_small}
use Rattle.cache_manager.proofs.NextNode.WorkOf.{AreAlone}

-- n is the least name of a minimal node, and this is what the node has to flush
pub record IsNext (it : Volatile) (n : ℕ) (items : List ℕ) : Type 0 where
  pub least : IsLeast (NamesMinimal it.entries) n
  pub work : (node : ℕ → Bool) → IsNodeNamed it.entries n node → IsWork it node items

-- it is so of a store whose methods answer its objects and its entries
pub next_here : (it : Volatile) (n : ℕ) (laid : Laid) (first second : List Entry) (xs items : List ℕ) → laid ≡ it.objects → first ≡ it.entries → second ≡ it.entries → xs ≡ items → IsLeast (NamesMinimal first) n
    → ((node : ℕ → Bool) → IsNodeNamed second n node → IsWork (volatile laid second) node items) → IsNext it n xs
next_here it n laid first second xs items objects entries listed same least is = record {
  least = subst (λ (k : List Entry). IsLeast (NamesMinimal k) n) entries least;
  work = λ node named. subst (λ (l : List ℕ). IsWork it node l) (sym same) (subst (λ (k : Volatile). IsNodeNamed k.entries n node → IsWork k node items) (λ i. volatile (objects i) (listed i)) (is node) named);
}

module _ {O : Type 0} (meaning : Bounds → Meaning O) (lawful : (b : Bounds) → IsSmall b → IsLawful (meaning b)) (keep : (b : Bounds) → IsSmall b → KeepsSound (meaning b)) (alone : AreAlone) (copied : ℕ)
    (now : Disk) (here : Parts) (n : ℕ) (items : List ℕ) (next : IsNext here.volatile n items) (p : Params) (v : World O) (shows : Shows (meaning_in meaning p) p now here v) where
  abbrev m : Meaning O
  m = meaning_in meaning p

  abbrev used : ℕ
  used = used_of here.log.log

  -- what a round logs
  abbrev pub logging : Course O
  logging = identities m (but_longest copied (cached_length m v) items) v used

  small : IsSmall (bounds_of p)
  small = store_small m p (now.reads Objects) here.volatile v shows.store

  same : items ≡ work m v
  same = work_shown m (lawful (bounds_of p) small) p now here v shows n next.least items next.work

  held : IsTrue (v.graph n)
  held = name_held m (lawful (bounds_of p) small) p now here v shows n next.least

  -- the node may not be finished yet
  module _ (more : (1 < length items) ⊎ HasCopied here.volatile.entries n copied items) where
    pub logs : install_course m copied v used ≡ and_then m v logging (λ u used. install_course m copied u used)
    logs = install_logs m copied (lawful (bounds_of p) small) (keep (bounds_of p) small) alone v used n shows.running held (must_shown m (lawful (bounds_of p) small) alone p now here v shows n next.least items next.work copied more)
        ∙ ap (λ (l : List ℕ). and_then m v (identities m (but_longest copied (cached_length m v) l) v used) (λ u used. install_course m copied u used)) (sym same)

    -- nothing is flushed by a round
    pub logs_flush : logging.stop ≡ Through → flushed_in (install_course m copied v used).steps ≡ flushed_in (install_course m copied (run m v logging.steps) logging.used).steps
    logs_flush through =
        let rest = install_course m copied (run m v logging.steps) logging.used in
        ap (λ (c : Course O). flushed_in c.steps) (logs ∙ behind_through logging rest logging.stop (ap is_through through))
        ∙ flushed-append logging.steps rest.steps ∙ (λ i. (none_identities m (but_longest copied (cached_length m v) items) v used).flushed i ++ flushed_in rest.steps)

  -- it may
  module _ (few : length items ≤ 1) (fresh : IsFresh here.volatile.entries n copied items) where
    pub finishes : install_course m copied v used ≡ course (finish_steps m v) used Through
    finishes = install_finishes m copied (lawful (bounds_of p) small) (keep (bounds_of p) small) alone v used n shows.running held (may_shown m (lawful (bounds_of p) small) alone p now here v shows n next.least items next.work copied few fresh)

    pub finish_flush : flushed_in (install_course m copied v used).steps ≡ take 1 items
    finish_flush = ap (λ (c : Course O). flushed_in c.steps) finishes ∙ finish_flushes m v ∙ ap (λ (l : List ℕ). take 1 l) (sym same)

-- the graph has no entry
pub none_left : {O : Type 0} (meaning : Bounds → Meaning O) (copied : ℕ) (now : Disk) (here : Parts) → here.volatile.entries ≡ [] → (p : Params) (v : World O) → Shows (meaning_in meaning p) p now here v
    → install_course (meaning_in meaning p) copied v (used_of here.log.log) ≡ course [] (used_of here.log.log) Through
none_left meaning copied now here none p v shows =
    let m = meaning_in meaning p in cond-false (has_members m v) (rounds m copied m.objects v (used_of here.log.log)) (course [] (used_of here.log.log) Through) (no_members m v here.volatile.entries shows.store.members none)
