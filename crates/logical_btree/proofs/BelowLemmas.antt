-- A key's child among branches that are read one by one.
use Rattle.std.proofs.Common.{◌≡◌, ℕ, suc, ◌==◌, Bool, true, false, ◌&&◌, if◌then◌else◌, T, Option, None, Some, List, [], ◌∷◌, length, drop, refl, sym, ap, ◌∙◌, subst, arith, option_map, option_and_then, Less, Equal, Greater, is_lt, true≢false, inl, inr}
use Rattle.std.specs.Prelude.{⊤, map}
use Rattle.std.specs.List.{list_all}
use Rattle.std.proofs.lemmas.Bool.Decides.{eqb_tells}
use Rattle.std.specs.FinMap.Entries.{is_sorted, below_all}
use Rattle.key_entries.specs.Entries.{byte_order, child_field, entry_code, entry_in, entries_in, rising}
use Rattle.key_entries.specs.KeyLaws.{first, less_if, below_less, rise_behind}
use Rattle.key_entries.specs.RisingLaws.{truth, rising_known, empty_below}
use Rattle.btree_ops.specs.Node.{leaf, inner, node_in}
use Rattle.btree_ops.specs.Head.{branches_in, inner_with, is_inner}
use Rattle.btree_ops.specs.declared.node.Node.{Node}
use Rattle.btree_ops.specs.declared.node.Node.TheVariants.{Leaf, Inner}
use Rattle.logical_btree.specs.Walk.{child_for, is_child, if_sound, read_as}
use Rattle.logical_btree.specs.Below.{below_in, child_below}
use Rattle.logical_btree.specs.declared.below.Below.{Below}

abbrev Branches : Type 0
Branches = List (List ℕ × ℕ)

-- a key below all separators keeps the child so far
child_stays : (key : List ℕ) (child : ℕ) (es : Branches) → T (below_all byte_order key es) → child_for key child es ≡ child
child_stays key child [] below = refl
child_stays key child (e ∷ es) below =
    ap (λ (b : Bool). if b then child else child_for key e.1 es) (truth (is_lt (byte_order key e.0)) (first (is_lt (byte_order key e.0)) (below_all byte_order key es) below))

module _ (lo hi : ℕ) (key : List ℕ) where
  -- the child, from the one so far and the branches behind the last separator
  abbrev pub goes_on : List ℕ → ℕ → Option Branches → Option ℕ
  goes_on last child None = None
  goes_on last child (Some es) =
      if (below_all byte_order last es && is_sorted byte_order es) && list_all (is_child lo hi) (map (λ b. b.1) es) then Some (child_for key child es) else None

  -- the branches read so far have changed nothing of that
  pub IsReadTo : ℕ → List ℕ → ℕ → List ℕ → ℕ → ℕ → List ℕ → Type 0
  IsReadTo count bytes start last child left rest =
      goes_on [] start (entries_in child_field count bytes) ≡ goes_on last child (entries_in child_field left rest)

  pub read_start : (count : ℕ) (bytes : List ℕ) (start left : ℕ) → left ≡ count → IsReadTo count bytes start [] start left bytes
  unfolding IsReadTo
  read_start count bytes start left same = ap (λ (n : ℕ). goes_on [] start (entries_in child_field n bytes)) (sym same)

  -- one branch, and those behind it
  abbrev with_branch : List ℕ × ℕ → Option Branches → Option Branches
  with_branch e o = option_map (λ es. e ∷ es) o

  entries_at : (n : ℕ) (rest : List ℕ) (e : List ℕ × ℕ) → entry_in child_field rest ≡ Some e
      → entries_in child_field (suc n) rest ≡ with_branch e (entries_in child_field n (drop (length (entry_code child_field e)) rest))
  entries_at n rest e found =
      ap (λ (o : Option (List ℕ × ℕ)). option_and_then (λ (e : List ℕ × ℕ). option_map (λ (es : Branches). e ∷ es) (entries_in child_field n (drop (length (entry_code child_field e)) rest))) o) found

  step : (last : List ℕ) (child after : ℕ) (e : List ℕ × ℕ) (o : Option Branches) → byte_order last e.0 ≡ Less → is_child lo hi e.1 ≡ true
      → after ≡ (if is_lt (byte_order key e.0) then child else e.1) → goes_on last child (with_branch e o) ≡ goes_on e.0 after o
  step last child after e None less sound is = refl
  step last child after e (Some es) less sound is =
      let below = below_all byte_order e.0 es in
      let sorted = is_sorted byte_order es in
      let children = list_all (is_child lo hi) (map (λ b. b.1) es) in
      let found : T below → child_for key child (e ∷ es) ≡ child_for key after es = λ behind.
      elim (byte_order key e.0) as (λ o. byte_order key e.0 ≡ o → after ≡ (if is_lt o then child else e.1) → (if is_lt o then child else child_for key e.1 es) ≡ child_for key after es) [
        | Less ↦ λ is so. sym (ap (λ (c : ℕ). child_for key c es) so ∙ child_stays key child es (below_less key e.0 es is behind))
        | Equal ↦ λ is so. ap (λ (c : ℕ). child_for key c es) (sym so)
        | Greater ↦ λ is so. ap (λ (c : ℕ). child_for key c es) (sym so)
      ] refl is in
      ap (λ (b : Bool). if b && (is_child lo hi e.1 && children) then Some (child_for key child (e ∷ es)) else None) (rise_behind last e es less)
      ∙ ap (λ (b : Bool). if (below && sorted) && (b && children) then Some (child_for key child (e ∷ es)) else None) sound
      ∙ elim below as (λ b. below ≡ b → (if (b && sorted) && children then Some (child_for key child (e ∷ es)) else None) ≡ (if (b && sorted) && children then Some (child_for key after es) else None)) [
        | true ↦ λ is. ap (λ (c : ℕ). if sorted && children then Some c else None) (found (subst T (sym is) tt))
        | false ↦ λ is. refl
      ] refl

  pub read_step : (count : ℕ) (bytes : List ℕ) (start : ℕ) (last : List ℕ) (child after left next : ℕ) (rest behind : List ℕ) (e : List ℕ × ℕ)
      → IsReadTo count bytes start last child left rest → left ≡ suc next → entry_in child_field rest ≡ Some e → is_lt (byte_order last e.0) ≡ true → is_child lo hi e.1 ≡ true
      → after ≡ (if is_lt (byte_order key e.0) then child else e.1) → behind ≡ drop (length (entry_code child_field e)) rest
      → IsReadTo count bytes start e.0 after next behind
  unfolding IsReadTo
  read_step count bytes start last child after left next rest behind e so_far more found less sound is there =
      so_far
      ∙ ap (λ (n : ℕ). goes_on last child (entries_in child_field n rest)) more
      ∙ ap (λ (o : Option Branches). goes_on last child o) (entries_at next rest e found)
      ∙ step last child after e (entries_in child_field next (drop (length (entry_code child_field e)) rest)) (less_if (byte_order last e.0) (subst T (sym less) tt)) sound is
      ∙ ap (λ (l : List ℕ). goes_on e.0 after (entries_in child_field next l)) (sym there)

  -- no branch, and one that is bad
  pub read_stop : (count : ℕ) (bytes : List ℕ) (start : ℕ) (last : List ℕ) (child left next : ℕ) (rest : List ℕ)
      → IsReadTo count bytes start last child left rest → left ≡ suc next → entry_in child_field rest ≡ None → goes_on [] start (entries_in child_field count bytes) ≡ None
  unfolding IsReadTo
  read_stop count bytes start last child left next rest so_far more none =
      so_far
      ∙ ap (λ (n : ℕ). goes_on last child (entries_in child_field n rest)) more
      ∙ ap (λ (o : Option (List ℕ × ℕ)). goes_on last child (option_and_then (λ (e : List ℕ × ℕ). option_map (λ (es : Branches). e ∷ es) (entries_in child_field next (drop (length (entry_code child_field e)) rest))) o)) none

  bad : (last : List ℕ) (child : ℕ) (e : List ℕ × ℕ) (o : Option Branches) → (is_lt (byte_order last e.0) && is_child lo hi e.1) ≡ false → goes_on last child (with_branch e o) ≡ None
  bad last child e None not = refl
  bad last child e (Some es) not =
      elim (is_lt (byte_order last e.0)) as (λ a. (a && is_child lo hi e.1) ≡ false
      → (if ((a && below_all byte_order last es) && (below_all byte_order e.0 es && is_sorted byte_order es)) && (is_child lo hi e.1 && list_all (is_child lo hi) (map (λ b. b.1) es)) then Some (child_for key child (e ∷ es)) else None) ≡ None) [
        | true ↦ λ not. ap (λ (b : Bool). if (below_all byte_order last es && (below_all byte_order e.0 es && is_sorted byte_order es)) && (b && list_all (is_child lo hi) (map (λ b. b.1) es)) then Some (child_for key child (e ∷ es)) else None) not
            ∙ elim (below_all byte_order last es && (below_all byte_order e.0 es && is_sorted byte_order es)) as (λ b. (if b && false then Some (child_for key child (e ∷ es)) else None) ≡ None) [ true ↦ refl | false ↦ refl ]
        | false ↦ λ not. refl
      ] not

  pub read_bad : (count : ℕ) (bytes : List ℕ) (start : ℕ) (last : List ℕ) (child left next : ℕ) (rest : List ℕ) (e : List ℕ × ℕ)
      → IsReadTo count bytes start last child left rest → left ≡ suc next → entry_in child_field rest ≡ Some e → (is_lt (byte_order last e.0) && is_child lo hi e.1) ≡ false
      → goes_on [] start (entries_in child_field count bytes) ≡ None
  unfolding IsReadTo
  read_bad count bytes start last child left next rest e so_far more found not =
      so_far
      ∙ ap (λ (n : ℕ). goes_on last child (entries_in child_field n rest)) more
      ∙ ap (λ (o : Option Branches). goes_on last child o) (entries_at next rest e found)
      ∙ bad last child e (entries_in child_field next (drop (length (entry_code child_field e)) rest)) not

  pub read_end : (count : ℕ) (bytes : List ℕ) (start : ℕ) (last : List ℕ) (child left : ℕ) (rest : List ℕ)
      → IsReadTo count bytes start last child left rest → left ≡ 0 → true ≡ (length rest == 0) → goes_on [] start (entries_in child_field count bytes) ≡ Some child
  unfolding IsReadTo
  read_end count bytes start last child left [] so_far none empty = so_far ∙ ap (λ (n : ℕ). goes_on last child (entries_in child_field n [])) none
  read_end count bytes start last child left (b ∷ rest) so_far none empty = elim (eqb_tells (length (b ∷ rest)) 0) [ inl same ↦ absurd (omega (arith, same.1)) | inr other ↦ absurd (true≢false (empty ∙ other.0)) ]

  pub read_past : (count : ℕ) (bytes : List ℕ) (start : ℕ) (last : List ℕ) (child left : ℕ) (rest : List ℕ)
      → IsReadTo count bytes start last child left rest → left ≡ 0 → false ≡ (length rest == 0) → goes_on [] start (entries_in child_field count bytes) ≡ None
  unfolding IsReadTo
  read_past count bytes start last child left [] so_far none some = absurd (true≢false (sym some))
  read_past count bytes start last child left (b ∷ rest) so_far none some = so_far ∙ ap (λ (n : ℕ). goes_on last child (entries_in child_field n (b ∷ rest))) none

  -- the whole
  whole : (count : ℕ) (bytes : List ℕ) (start : ℕ) (o : Option Branches) → entries_in child_field count bytes ≡ o
      → child_below lo hi key start (option_and_then rising o) ≡ (if is_child lo hi start then goes_on [] start o else None)
  whole count bytes start None from = elim (is_child lo hi start) as (λ b. ◌≡◌ {A = Option ℕ} None (if b then None else None)) [ true ↦ refl | false ↦ refl ]
  whole count bytes start (Some es) from =
      let children = list_all (is_child lo hi) (map (λ b. b.1) es) in
      let some = Some (child_for key start es) in
      elim (is_sorted byte_order es) as (λ b. is_sorted byte_order es ≡ b → child_below lo hi key start (if b then Some es else None)
      ≡ (if is_child lo hi start then (if (below_all byte_order [] es && b) && children then some else None) else None)) [
        | true ↦ λ is.
            let rise : option_and_then rising (entries_in child_field count bytes) ≡ Some es = ap (option_and_then rising) from ∙ ap (λ (b : Bool). if b then Some es else None) is in
            let known = rising_known child_field (λ x. ⊤) (λ bytes x e. tt) count bytes es rise in
            elim (is_child lo hi start) as (λ a. (if a && children then some else None) ≡ (if a then (if (below_all byte_order [] es && true) && children then some else None) else None)) [
              | true ↦ ap (λ (b : Bool). if (b && true) && children then some else None) (sym (empty_below es known.0.short))
              | false ↦ refl
            ]
        | false ↦ λ is. elim (is_child lo hi start) as (λ a. ◌≡◌ {A = Option ℕ} None (if a then (if (below_all byte_order [] es && false) && children then some else None) else None)) [
          | true ↦ elim (below_all byte_order [] es) as (λ b. ◌≡◌ {A = Option ℕ} None (if (b && false) && children then some else None)) [ true ↦ refl | false ↦ refl ]
          | false ↦ refl
        ]
      ] refl

  pub child_read : (count : ℕ) (bytes : List ℕ) (start : ℕ) (found : Option ℕ) → is_child lo hi start ≡ true → goes_on [] start (entries_in child_field count bytes) ≡ found
      → found ≡ child_below lo hi key start (branches_in count bytes)
  child_read count bytes start found sound is =
      sym (whole count bytes start (entries_in child_field count bytes) refl ∙ ap (λ (b : Bool). if b then goes_on [] start (entries_in child_field count bytes) else None) sound ∙ is)

  pub child_outside : (count : ℕ) (bytes : List ℕ) (start : ℕ) → is_child lo hi start ≡ false → None ≡ child_below lo hi key start (branches_in count bytes)
  child_outside count bytes start not =
      sym (whole count bytes start (entries_in child_field count bytes) refl ∙ ap (λ (b : Bool). if b then goes_on [] start (entries_in child_field count bytes) else None) not)

  -- below an object that is no root, or one, the way goes on alike
  below_value : (x : ℕ) (value : List ℕ) → below_in key (option_and_then (if_sound lo hi) (read_as lo x value)) ≡ below_in key (option_and_then (if_sound lo hi) (node_in value))
  below_value x [] = elim (x == lo) as (λ b. below_in key (option_and_then (if_sound lo hi) (if b then Some (leaf []) else None)) ≡ None) [ true ↦ refl | false ↦ refl ]
  below_value x (b ∷ value) = elim (x == lo) as (λ t. below_in key (option_and_then (if_sound lo hi) (if t then node_in (b ∷ value) else node_in (b ∷ value))) ≡ below_in key (option_and_then (if_sound lo hi) (node_in (b ∷ value)))) [ true ↦ refl | false ↦ refl ]

  -- what is below, where it is an inner node and where it is none
  abbrev pub below_by : ℕ → Option ℕ → Option Below
  below_by count found = option_map (λ child. record { child = child; full = count == 7 }) found

  below_branches : (start count : ℕ) (bytes : List ℕ) (o : Option Branches) → branches_in count bytes ≡ o
      → below_in key (option_and_then (if_sound lo hi) (option_map (inner start) o)) ≡ below_by count (child_below lo hi key start o)
  below_branches start count bytes None from = refl
  below_branches start count bytes (Some es) from =
      let known = rising_known child_field (λ x. ⊤) (λ bytes x e. tt) count bytes es from in
      elim (list_all (is_child lo hi) (start ∷ map (λ b. b.1) es)) as (λ b. below_in key (if b then Some (inner start es) else None)
      ≡ below_by count (if b then Some (child_for key start es) else None)) [
        | true ↦ ap (λ (n : ℕ). Some (record { child = child_for key start es; full = n == 7 })) known.0.count
        | false ↦ refl
      ]

  pub below_inner : (x : ℕ) (value : List ℕ) (start count : ℕ) (bytes : List ℕ) → node_in value ≡ inner_with start count bytes
      → below_by count (child_below lo hi key start (branches_in count bytes)) ≡ below_in key (option_and_then (if_sound lo hi) (read_as lo x value))
  below_inner x value start count bytes is =
      sym (below_value x value ∙ ap (λ (o : Option Node). below_in key (option_and_then (if_sound lo hi) o)) is ∙ below_branches start count bytes (branches_in count bytes) refl)

  none_below : (o : Option Node) → is_inner o ≡ false → None ≡ below_in key (option_and_then (if_sound lo hi) o)
  none_below None not = refl
  none_below (Some (Leaf pairs)) not = refl
  none_below (Some (Inner start branches)) not = absurd (true≢false not)

  pub below_none : (x : ℕ) (value : List ℕ) → is_inner (node_in value) ≡ false → None ≡ below_in key (option_and_then (if_sound lo hi) (read_as lo x value))
  below_none x value not = none_below (node_in value) not ∙ sym (below_value x value)
