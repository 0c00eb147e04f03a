-- A map that calls keep depends on the objects of its range, and on how long values are.
use Rattle.std.proofs.Common.{◌≡◌, ◌≤◌, ◌<◌, refl, sym, subst, arith, ℕ, zero, suc, ◌==◌, if◌then◌else◌, List, [], ◌∷◌, length}
use Rattle.std.specs.Prelude.{IsTrue, nat_le, nat_lt}
use Rattle.std.proofs.lemmas.Bool.{leb-true, ltb-true}
use Rattle.oper_core.specs.State.{State}
use Rattle.oper_core.specs.declared.bounds.Bounds.{Bounds}
use Rattle.key_entries.specs.EntryLaws.{both_true}
use Rattle.call_plans.specs.Laws.{AreAlike}
use Rattle.page_ops.specs.Effects.{to_fill}
use Rattle.page_map.specs.Map.{Each, Holds, IsHeld, IsMap, Tree, bytes_at, cells_in, content_of, is_child, root_of}
use Rattle.page_map.specs.Sets.{IsKept}

each_too : {Child : Type 0} (P Q : Child → Type 0) → ((child : Child) → P child → Q child) → (children : List (List ℕ × Child)) → Each P children → Each Q children
each_too P Q goes [] all = tt
each_too P Q goes (c ∷ children) all = (goes c.1 all.0, each_too P Q goes children all.1)

module _ (lo hi : ℕ) (s t : State) (alike : AreAlike lo hi s t) where
  held : (level x : ℕ) (p : Tree level) → lo ≤ x → x ≤ hi → IsHeld level (bytes_at lo s x) (cells_in level p) → IsHeld level (bytes_at lo t x) (cells_in level p)
  held level x p low high is = subst (λ (v : List ℕ). IsHeld level (if x == lo then to_fill v else v) (cells_in level p)) (sym (alike x low high)) is

  holds_too : (level : ℕ) (p : Tree level) → lo ≤ root_of level p → root_of level p ≤ hi → Holds lo hi s level p → Holds lo hi t level p
  holds_too zero p low high holds = held 0 p.object p low high holds
  holds_too (suc level) p low high holds = (
    held (suc level) p.object p low high holds.0,
    each_too (λ child. IsTrue (is_child lo hi (root_of level child)) × Holds lo hi s level child) (λ child. IsTrue (is_child lo hi (root_of level child)) × Holds lo hi t level child)
        (λ child is.
        let places = both_true (nat_lt lo (root_of level child)) (nat_le (root_of level child) hi) is.0 in
        let above : lo < root_of level child = ltb-true lo (root_of level child) places.0 in
        (is.0, holds_too level child (omega (arith, above)) (leb-true (root_of level child) hi places.1) is.1)) p.children holds.1,
  )

  map_alike : IsMap lo hi s → IsMap lo hi t
  map_alike is = record {
    order = is.order;
    level = is.level;
    tree = is.tree;
    root = is.root;
    holds = holds_too is.level is.tree (omega (arith, is.root)) (omega (arith, is.root, is.order)) is.holds;
    stand = is.stand;
    once = is.once;
  }

pub kept_alike : (b : Bounds) (lo hi : ℕ) (s t : State) → AreAlike lo hi s t → ((x : ℕ) → length (t x) ≤ b.cap) → (is : IsKept b lo hi s) → (also : IsKept b lo hi t) × (content_of also.map ≡ content_of is.map)
unfolding map_alike
kept_alike b lo hi s t alike fit is = (record { map = map_alike lo hi s t alike is.map; short = is.short; values_fit = fit }, refl)
