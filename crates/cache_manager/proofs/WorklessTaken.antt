-- Nodes that have no object to flush, as calls on parts that show a world finish them.
use Rattle.std.proofs.Common.{◌≡◌, ◌∙◌, sym, ap, ℕ, suc, ◌+◌, ◌-◌, ◌<◌, Bool, List, [], length, arith}
use Rattle.std.specs.Prelude.{IsTrue, IsFalse, ◌==◌, ◌&&◌}
use Rattle.std.proofs.lemmas.Bool.{and_from, and_parts, eq-eqb, eqb-true, false_from_ne_true}
use Rattle.disk_model.specs.Disk.{Disk}
use Rattle.disk_model.specs.declared.machine.FileNo.TheVariants.{Objects}
use Rattle.oper_core.specs.Meaning.{Meaning, IsLawful, IsSmall}
use Rattle.oper_core.specs.declared.bounds.Bounds.{Bounds}
use Rattle.formats.specs.Objects.{bounds_of}
use Rattle.formats.specs.declared.params.Params.{Params}
use Rattle.install_order.specs.NodeLaws.{some-from}
use Rattle.explain_core.specs.World.{World, end_of, run}
use Rattle.running_store.specs.Courses.{and_then, course}
use Rattle.running_store.specs.Courses.Stop.{Through}
use Rattle.running_store.specs.Parts.{Parts, Shows, meaning_in}
use Rattle.cache_manager.specs.InstallCourses.{finish_steps, has_members, is_next_workless, removals, work, workless_course, workless_nodes}
use Rattle.cache_manager.proofs.NextNode.Named.{no_members}
use Rattle.cache_manager.proofs.NextNode.Least.{below}
use Rattle.cache_manager.proofs.NextNode.Work.{name_held, work_shown}
use Rattle.cache_manager.proofs.OneInstall.Taken.{IsNext}
use Rattle.cache_manager.proofs.ThinNode.Worlds.{store_small}
use Rattle.cache_manager.proofs.NextWorkless.{nodes_next, nodes_remove, workless_is, workless_not, workless_removes}

-- the graph has no entry
pub none_workless : {O : Type 0} (m : Meaning O) (p : Params) (d : Disk) (it : Parts) (w : World O) → Shows m p d it w → it.volatile.entries ≡ [] → IsFalse (is_next_workless m w)
none_workless m p d it w shows none = ap (λ (b : Bool). b && (length (work m w) == 0)) (no_members m w it.volatile.entries shows.store.members none)

module _ {O : Type 0} (meaning : Bounds → Meaning O) (lawful : (b : Bounds) → IsSmall b → IsLawful (meaning b)) (d : Disk) (it : Parts) (n : ℕ) (items : List ℕ) (next : IsNext it.volatile n items)
    (p : Params) (w : World O) (shows : Shows (meaning_in meaning p) p d it w) where
  abbrev m : Meaning O
  m = meaning_in meaning p

  fine : IsLawful m
  fine = lawful (bounds_of p) (store_small m p (d.reads Objects) it.volatile w shows.store)

  some : IsTrue (has_members m w)
  some = let held = name_held m fine p d it w shows n next.least in some-from (end_of w) w.graph n (below m fine w shows.running.sound n held) held

  same : items ≡ work m w
  same = work_shown m fine p d it w shows n next.least items next.work

  -- the next node has no object to flush
  pub is_workless : items ≡ [] → IsTrue (is_next_workless m w)
  is_workless none = and_from (has_members m w) (length (work m w) == 0) some (eq-eqb (length (work m w)) 0 (sym (ap length same) ∙ ap length none))

  pub finishes_workless : items ≡ [] → (used : ℕ) → course (finish_steps m w) used Through ≡ workless_course m w used
  finishes_workless none used = sym (workless_is m w used (is_workless none))

  -- it has one
  pub not_workless : 0 < length items → IsFalse (is_next_workless m w)
  not_workless more = false_from_ne_true _ (λ is. let long = ap length same in let none = eqb-true (length (work m w)) 0 (and_parts (has_members m w) (length (work m w) == 0) is).1 in absurd (omega (arith, more, long, none)))

-- nothing is done then
pub nothing_workless : {O : Type 0} (m : Meaning O) (w : World O) (used : ℕ) → IsFalse (is_next_workless m w) → course [] used Through ≡ workless_course m w used
nothing_workless m w used none = sym (workless_not m w used none)

-- of some that are left one is taken first
pub nodes_first : {O : Type 0} (m : Meaning O) (most count : ℕ) → count < most → (w : World O) (used : ℕ)
    → and_then m w (workless_course m w used) (λ v used. workless_nodes m (most - (count + 1)) v used) ≡ workless_nodes m (most - count) w used
nodes_first m most count more w used =
    let left : suc (most - (count + 1)) ≡ most - count = omega (arith, more) in
    sym (nodes_next m (most - (count + 1)) w used) ∙ ap (λ (k : ℕ). workless_nodes m k w used) left

pub first_removed : {O : Type 0} (m : Meaning O) (most count : ℕ) → count < most → (w : World O) (used : ℕ) → IsTrue (is_next_workless m w)
    → removals (workless_nodes m (most - count) w used).steps ≡ 1 + removals (workless_nodes m (most - (count + 1)) (run m w (workless_course m w used).steps) used).steps
first_removed m most count more w used is =
    let rest = workless_nodes m (most - (count + 1)) (run m w (workless_course m w used).steps) used in
    let left : most - count ≡ suc (most - (count + 1)) = omega (arith, more) in
    ap (λ (k : ℕ). removals (workless_nodes m k w used).steps) left ∙ nodes_remove m (most - (count + 1)) w used ∙ ap (λ (k : ℕ). k + removals rest.steps) (workless_removes m w used is)
