-- What the minimal node of the least name has to flush is the work of the next node of the world that is shown.
use Rattle.std.proofs.Common.{◌≡◌, ◌∙◌, sym, ap, ℕ, ◌≤◌, Bool, true, List, length, arith}
use Rattle.std.specs.Prelude.{All, IsTrue}
use Rattle.std.proofs.lemmas.Bool.{le-ltb}
use Rattle.disk_model.specs.Disk.{Disk}
use Rattle.disk_model.specs.declared.machine.FileNo.TheVariants.{Objects}
use Rattle.oper_core.specs.Meaning.{Meaning, IsLawful}
use Rattle.formats.specs.declared.params.Params.{Params}
use Rattle.write_graph.specs.Graph.{IsLeast, IsNodeNamed, NamesMinimal}
use Rattle.dirty_cache.specs.Contents.{is_dirty}
use Rattle.explain_core.specs.World.{World, AreAllowed}
use Rattle.cache_manager.specs.InstallCourses.{finish_steps, next_node, work}
use Rattle.running_store.specs.Parts.{Parts, Shows, Volatile}
use Rattle.running_store.specs.Running.{KeepsSound}
use Rattle.cache_manager.specs.Thin.{IsWork}
use Rattle.cache_manager.proofs.NextNode.Finishing.{finish_goes}
use Rattle.cache_manager.proofs.NextNode.Named.{least_named}
use Rattle.cache_manager.proofs.NextNode.Least.{next_is}
use Rattle.cache_manager.proofs.NextNode.Planned.{work_listed}
use Rattle.cache_manager.proofs.ThinNode.Nodes.{among_all}
use Rattle.cache_manager.proofs.ThinNode.Worlds.{due_from, due_gives}

module _ (it : Volatile) (n : ℕ) (least : IsLeast (NamesMinimal it.entries) n) (items : List ℕ) (is : (node : ℕ → Bool) → IsNodeNamed it.entries n node → IsWork it node items) where
  -- its objects are dirty
  pub work_dirty : All (λ x. is_dirty it.objects.cache x ≡ true) items
  work_dirty = let listed = is least.0.0 least.0.1 in among_all (λ x. is_dirty it.objects.cache x ≡ true) items (λ x there. ((listed.exactly x).0 there).1)

module _ {O : Type 0} (m : Meaning O) (lawful : IsLawful m) (p : Params) (d : Disk) (it : Parts) (w : World O) (shows : Shows m p d it w) (n : ℕ) (least : IsLeast (NamesMinimal it.volatile.entries) n) where
  -- the name is that of a member
  pub name_held : IsTrue (w.graph n)
  name_held = sym (shows.store.members n) ∙ least.0.1.held

  pub next_shown : IsNodeNamed it.volatile.entries n (next_node m w)
  next_shown = least_named m w (next_node m w) it.volatile.entries shows.store.members shows.store.accesses (next_is m lawful w shows.running.sound n name_held) n least

  module _ (items : List ℕ) (is : (node : ℕ → Bool) → IsNodeNamed it.volatile.entries n node → IsWork it.volatile node items) where
    pub work_shown : items ≡ work m w
    work_shown =
        let listed = is (next_node m w) next_shown in
        let file = d.reads Objects in
        work_listed m lawful w shows.running.sound items listed.rising
        (λ x there. due_gives m lawful p file it.volatile w shows.store shows.running.sound (next_node m w) x ((listed.exactly x).0 there))
        (λ x due. (listed.exactly x).1 (due_from m lawful p file it.volatile w shows.store shows.running.sound (next_node m w) x due))

    -- where there is at most one, the node may be finished
    pub finish_may : KeepsSound m → (used : ℕ) → length items ≤ 1 → AreAllowed m w (finish_steps m w)
    finish_may keeps used few =
        let same = ap length work_shown in
        (finish_goes m lawful keeps w used n shows.running name_held (le-ltb 1 (length (work m w)) (omega (arith, few, same)))).allowed
