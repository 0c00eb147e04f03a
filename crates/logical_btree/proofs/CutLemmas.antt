-- The halves of a node of the range: sound nodes, with the separator in every span that holds the node.
use Rattle.std.proofs.Common.{◌≡◌, ◌≤◌, ◌<◌, ◌⊎◌, inl, inr, ℕ, zero, suc, ◌^◌, Bool, Option, Some, List, [], ◌∷◌, ◌++◌, All, length, map, refl, sym, ap, ◌∙◌, subst, arith, Less}
use Rattle.std.specs.Prelude.{IsTrue}
use Rattle.std.specs.List.{list_all}
use Rattle.std.proofs.lemmas.List.Elements.{All-head, All-tail}
use Rattle.oper_core.specs.State.{State}
use Rattle.key_entries.specs.Short.{is_short}
use Rattle.key_entries.specs.Entries.{byte_order}
use Rattle.key_entries.specs.EntryLaws.{both_true, true_both}
use Rattle.btree_ops.specs.Node.{leaf, inner, IsNode}
use Rattle.btree_ops.specs.Effects.{halves_of}
use Rattle.btree_ops.specs.Laws.{StandApart, StartAt}
use Rattle.btree_ops.specs.declared.halves.Halves.{Halves}
use Rattle.btree_ops.specs.declared.node.Node.{Node}
use Rattle.btree_ops.specs.declared.node.Node.TheVariants.{Leaf, Inner}
use Rattle.btree_ops.specs.MapLaws.{leaf_splits, inner_splits}
use Rattle.logical_btree.specs.Walk.{Pair, Span, is_within, is_child, node_at}
use Rattle.logical_btree.specs.Tree.{Reach, all_within, reach_at, reach_from}
use Rattle.logical_btree.proofs.CommandLemmas.{at_fills}
use Rattle.logical_btree.proofs.NodeFacts.{SoundInner, inner_node}
use Rattle.logical_btree.proofs.ParentLemmas.{Placed}
use Rattle.logical_btree.proofs.ReachLemmas.{none_some, leaf_is, inner_is}
use Rattle.logical_btree.proofs.SpanLemmas.{Below, below_if, not_below_below, within_from, within_to, within_parts}

-- a span that holds the upper pairs holds their first key
pub start_held : (separator : List ℕ) (upper : List Pair) → StartAt separator upper → (span : Span) → IsTrue (all_within span upper) → IsTrue (is_within separator span)
start_held separator upper start span all =
    (both_true (is_within separator span) (all_within span start.others) (subst (λ (l : List Pair). IsTrue (all_within span l)) start.is all)).0

module _ {X : Type 0} where
  middle_of_all : (P : List ℕ × X → Type 0) (lower : List (List ℕ × X)) (e : List ℕ × X) (upper : List (List ℕ × X)) → All P (lower ++ e ∷ upper) → P e
  middle_of_all P [] e upper all = All-head P e upper all
  middle_of_all P (l ∷ lower) e upper all = middle_of_all P lower e upper (All-tail P l (lower ++ e ∷ upper) all)

  -- the first key is not below the span, and below the separator
  pub above_span : (separator : List ℕ) (span : Span) (lower : List (List ℕ × X)) → 1 ≤ length lower → IsTrue (all_within span lower) → All (λ e. byte_order e.0 separator ≡ Less) lower
      → Below span.from separator
  above_span separator span [] some within below = absurd (omega (arith, some))
  above_span separator span (e ∷ lower) some within below =
      let first = within_from e.0 span (both_true (is_within e.0 span) (all_within span lower) within).0 in
      not_below_below span.from e.0 separator first (below_if e.0 separator (All-head (λ e. byte_order e.0 separator ≡ Less) e lower below))

sound_parts : (p : ℕ → Bool) (lower : List (List ℕ × ℕ)) (e : List ℕ × ℕ) (upper : List (List ℕ × ℕ)) → IsTrue (list_all p (map (λ b. b.1) (lower ++ e ∷ upper)))
    → IsTrue (list_all p (map (λ b. b.1) lower)) × IsTrue (list_all p (e.1 ∷ map (λ b. b.1) upper))
sound_parts p [] e upper all = (refl, all)
sound_parts p (l ∷ lower) e upper all =
    let both = both_true (p l.1) (list_all p (map (λ b. b.1) (lower ++ e ∷ upper))) all in
    let rest = sound_parts p lower e upper both.1 in
    (true_both (p l.1) (list_all p (map (λ b. b.1) lower)) both.0 rest.0, rest.1)

module _ (lo hi : ℕ) (small : hi < 2 ^ 32) where
  -- the halves of a leaf, and of an inner node
  pub record LeafParts (s : State) (x : ℕ) (h : Halves) : Type 0 where
    pub lower : List Pair
    pub upper : List Pair
    pub old : node_at lo hi s x ≡ Some (leaf (lower ++ upper))
    pub low : h.left ≡ leaf lower
    pub high : h.right ≡ leaf upper
    pub low_node : IsNode (leaf lower)
    pub high_node : IsNode (leaf upper)
    pub apart : StandApart lower h.separator upper
    pub start : StartAt h.separator upper
    pub some : 1 ≤ length lower

  pub record InnerParts (s : State) (x : ℕ) (h : Halves) : Type 0 where
    pub first : ℕ
    pub lower : List (List ℕ × ℕ)
    pub center : ℕ
    pub upper : List (List ℕ × ℕ)
    pub old : node_at lo hi s x ≡ Some (inner first (lower ++ (h.separator, center) ∷ upper))
    pub low : h.left ≡ inner first lower
    pub high : h.right ≡ inner center upper
    pub low_sound : SoundInner lo hi first lower
    pub high_sound : SoundInner lo hi center upper
    pub apart : StandApart lower h.separator upper
    pub some : 1 ≤ length lower
    pub short : IsTrue (is_short h.separator)

  pub parts : (s : State) (x : ℕ) (node : Node) (h : Halves) → node_at lo hi s x ≡ Some node → halves_of node ≡ Some h → LeafParts s x h ⊎ InnerParts s x h
  parts s x (Leaf pairs) h at is =
      let c = leaf_splits pairs.items h (at_fills lo hi s x pairs.items at).node is in
      inl (record {
        lower = c.lower;
        upper = c.upper;
        old = at ∙ ap (λ (l : List Pair). Some (leaf l)) c.all;
        low = c.left;
        high = c.right;
        low_node = c.left_entries;
        high_node = c.right_entries;
        apart = c.apart;
        start = c.separator;
        some = c.some.0;
      })
  parts s x (Inner first branches) h at is =
      let sound = inner_node lo hi small s x first branches.items at in
      let c = inner_splits first branches.items h sound.node is in
      let children = both_true (is_child lo hi first) (list_all (is_child lo hi) (map (λ b. b.1) branches.items)) sound.sound in
      let two = sound_parts (is_child lo hi) c.lower (h.separator, c.middle) c.upper (subst (λ (l : List (List ℕ × ℕ)). IsTrue (list_all (is_child lo hi) (map (λ b. b.1) l))) c.all children.1) in
      inr (record {
        first = first;
        lower = c.lower;
        center = c.middle;
        upper = c.upper;
        old = at ∙ ap (λ (l : List (List ℕ × ℕ)). Some (inner first l)) c.all;
        low = c.left;
        high = c.right;
        low_sound = record { node = c.left_node; sound = true_both (is_child lo hi first) (list_all (is_child lo hi) (map (λ b. b.1) c.lower)) children.0 two.0 };
        high_sound = record { node = c.right_node; sound = two.1 };
        apart = c.apart;
        some = c.some.0;
        short = middle_of_all (λ e. IsTrue (is_short e.0)) c.lower (h.separator, c.middle) c.upper (subst (λ (l : List (List ℕ × ℕ)). All (λ e. IsTrue (is_short e.0)) l) c.all sound.node.2.short);
      })

  pub separator_short : (s : State) (x : ℕ) (h : Halves) → LeafParts s x h ⊎ InnerParts s x h → IsTrue (is_short h.separator)
  separator_short s x h (inl c) =
      All-head (λ (e : Pair). IsTrue (is_short e.0)) (h.separator, c.start.beside) c.start.others
      (subst (λ (l : List Pair). All (λ e. IsTrue (is_short e.0)) l) c.start.is c.high_node.short)
  separator_short s x h (inr c) = c.short

  -- where the node is reached, the separator stands strictly inside its span
  pub placed : (s : State) (x : ℕ) (h : Halves) → LeafParts s x h ⊎ InnerParts s x h → (n : ℕ) → Placed (λ y span. reach_from lo hi s n span y) x h.separator
  placed s x h cut zero span r is = absurd (none_some r is)
  placed s x h (inl c) (suc n) span r is =
      let on : ℕ → Span → Option Reach = λ y part. reach_from lo hi s n part y in
      let at = leaf_is on span x (c.lower ++ c.upper) r (sym (ap (λ (o : Option Node). reach_at on span x o) c.old) ∙ is) in
      let two = within_parts span c.lower c.upper at.within in
      (above_span h.separator span c.lower c.some two.0 c.apart.below, within_to h.separator span (start_held h.separator c.upper c.start span two.1))
  placed s x h (inr c) (suc n) span r is =
      let on : ℕ → Span → Option Reach = λ y part. reach_from lo hi s n part y in
      let at = inner_is on span x c.first (c.lower ++ (h.separator, c.center) ∷ c.upper) r (sym (ap (λ (o : Option Node). reach_at on span x o) c.old) ∙ is) in
      let two = within_parts span c.lower ((h.separator, c.center) ∷ c.upper) at.within in
      (above_span h.separator span c.lower c.some two.0 c.apart.below, within_to h.separator span (both_true (is_within h.separator span) (all_within span c.upper) two.1).0)
