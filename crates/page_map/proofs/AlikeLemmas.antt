-- A map, and what it holds, depend on the objects of its range alone; and an empty root is a map.
use Rattle.std.proofs.Common.{◌≡◌, ℕ, zero, suc, ◌+◌, ◌<◌, ◌≤◌, ◌==◌, Bool, true, false, List, [], ◌∷◌, if◌then◌else◌, length, refl, ap, ◌∙◌, arith}
use Rattle.std.specs.Prelude.{IsTrue, nat_lt, nat_le}
use Rattle.std.proofs.lemmas.Bool.{eq-eqb, ltb-true, leb-true}
use Rattle.std.specs.FinMap.{empty}
use Rattle.oper_core.specs.State.{State}
use Rattle.oper_core.specs.declared.bounds.Bounds.{Bounds}
use Rattle.key_entries.specs.EntryLaws.{both_true}
use Rattle.call_plans.specs.Laws.{AreAlike}
use Rattle.page_ops.specs.Effects.{to_fill}
use Rattle.page_map.specs.Map.{Tree, root_of, cells_in, Each, bytes_at, is_child, Holds, IsMap, content_of, one_if}
use Rattle.page_map.specs.Sets.{IsKept}
use Rattle.page_map.proofs.MapLemmas.{held_again}

each_too : {Child : Type 0} (P Q : Child → Type 0) → ((child : Child) → P child → Q child) → (children : List (List ℕ × Child)) → Each P children → Each Q children
each_too P Q goes [] all = tt
each_too P Q goes (c ∷ children) all = (goes c.1 all.0, each_too P Q goes children all.1)

module _ (lo hi : ℕ) (s t : State) (alike : AreAlike lo hi s t) where
  same_bytes : (x : ℕ) → lo ≤ x → x ≤ hi → bytes_at lo t x ≡ bytes_at lo s x
  same_bytes x low high = ap (λ (v : List ℕ). if x == lo then to_fill v else v) (alike x low high)

  holds_too : (level : ℕ) (p : Tree level) → lo ≤ root_of level p → root_of level p ≤ hi → Holds lo hi s level p → Holds lo hi t level p
  holds_too zero p low high holds =
      held_again 0 (bytes_at lo s p.object) (bytes_at lo t p.object) (cells_in 0 p) (cells_in 0 p) holds (same_bytes p.object low high) refl
  holds_too (suc level) p low high holds = (
    held_again (suc level) (bytes_at lo s p.object) (bytes_at lo t p.object) (cells_in (suc level) p) (cells_in (suc level) p) holds.0 (same_bytes p.object low high) refl,
    each_too (λ child. IsTrue (is_child lo hi (root_of level child)) × Holds lo hi s level child) (λ child. IsTrue (is_child lo hi (root_of level child)) × Holds lo hi t level child)
        (λ child held.
        let places = both_true (nat_lt lo (root_of level child)) (nat_le (root_of level child) hi) held.0 in
        let above : lo < root_of level child = ltb-true lo (root_of level child) places.0 in
        (held.0, holds_too level child (omega (arith, above)) (leb-true (root_of level child) hi places.1) held.1)) p.children holds.1,
  )

  pub alike_map : (is : IsMap lo hi s) → (also : IsMap lo hi t) × (content_of also ≡ content_of is)
  alike_map is =
      let also : IsMap lo hi t = record {
        order = is.order;
        level = is.level;
        tree = is.tree;
        root = is.root;
        holds = holds_too is.level is.tree (omega (arith, is.root)) (omega (arith, is.root, is.order)) is.holds;
        stand = is.stand;
        once = is.once;
      } in
      (also, refl)

one_at_most : (t : Bool) → one_if t + 0 ≤ 1
one_at_most true = omega arith
one_at_most false = omega arith

-- an empty root is a map without pairs
pub empty_map : (lo hi : ℕ) (s : State) → lo ≤ hi → s lo ≡ [] → (is : IsMap lo hi s) × (content_of is ≡ empty)
empty_map lo hi s order none =
    let is : IsMap lo hi s = record {
      order = order;
      level = 0;
      tree = record { object = lo; cells = []; past = [] };
      root = refl;
      holds = record { code = ap (λ (t : Bool). if t then to_fill (s lo) else s lo) (eq-eqb lo lo refl) ∙ ap to_fill none; short = omega arith; rise = tt };
      stand = (refl, refl);
      once = λ x. one_at_most (lo == x);
    } in
    (is, refl)

-- and one that calls keep
pub empty_kept : (b : Bounds) (lo hi : ℕ) (s : State) → ((x : ℕ) → length (s x) ≤ b.cap) → lo ≤ hi → s lo ≡ [] → (is : IsKept b lo hi s) × (content_of is.map ≡ empty)
unfolding empty_map
empty_kept b lo hi s low order none = (record { map = (empty_map lo hi s order none).0; short = refl; values_fit = low }, (empty_map lo hi s order none).1)
