-- A minimal node is taken out of the entries, and the other minimal nodes stay what they are.
use Rattle.std.proofs.Common.{◌≡◌, ◌∙◌, sym, subst, ap, ℕ, ◌≤◌, Bool, true, List, [], ◌∷◌, refl, arith, inl, inr}
use Rattle.std.specs.Prelude.{IsTrue, ◌==◌, ◌||◌, ◌&&◌, not}
use Rattle.std.specs.List.{filter, list_any}
use Rattle.std.proofs.lemmas.Bool.{and_from, and_parts, both_ways, cases_Bool, eqb-true, false_from_ne_true, not_from_false}
use Rattle.oper_core.specs.State.{is_among}
use Rattle.install_order.specs.declared.entry.Entry.{Entry}
use Rattle.install_order.specs.Entries.{accesses}
use Rattle.install_order.specs.Order.{Access, IsMinimal, NoEdgeInto, within}
use Rattle.write_graph.specs.Graph.{IsNodeNamed, lsns}
use Rattle.explain_core.specs.RoundGates.{one_node}
use Rattle.explain_core.specs.RoundRemovals.{stays_minimal}
use Rattle.cache_manager.proofs.ToLog.Older.{any_filter, filter_any, found}

bools_same : (b c : Bool) → (IsTrue b → IsTrue c) → (IsTrue c → IsTrue b) → b ≡ c
bools_same b c to from = elim (cases_Bool b) [
  | inl here ↦ here ∙ sym (to here)
  | inr off ↦ off ∙ sym (false_from_ne_true c (λ there. both_ways _ off (from there)))
]

numbers_any : (n : ℕ) (entries : List Entry) → is_among n (lsns entries) ≡ list_any (λ e. n == e.lsn) entries
numbers_any n [] = refl
numbers_any n (e ∷ entries) = ap (λ (b : Bool). (n == e.lsn) || b) (numbers_any n entries)

module _ (entries : List Entry) (node : ℕ → Bool) where
  abbrev stays : Entry → Bool
  stays e = not (node e.lsn)

  abbrev left : List Entry
  left = filter stays entries

  -- of what has one LSN all stays, or nothing
  left_any : (n : ℕ) (w : Entry → Bool) → ((e : Entry) → IsTrue (w e) → e.lsn ≡ n) → list_any w left ≡ (not (node n) && list_any w entries)
  left_any n w with_lsn = bools_same (list_any w left) (not (node n) && list_any w entries)
      (λ there.
      let r = found (λ e. stays e && w e) entries (any_filter stays w entries there) in
      let u = and_parts (stays r.0) (w r.0) r.1 in
      and_from (not (node n)) (list_any w entries) (subst (λ (k : ℕ). IsTrue (not (node k))) (with_lsn r.0 u.1) u.0) (r.2 w u.1))
      (λ both.
      let u = and_parts (not (node n)) (list_any w entries) both in
      let f = found w entries u.1 in
      filter_any stays w entries (f.2 (λ e. stays e && w e) (and_from (stays f.0) (w f.0) (subst (λ (k : ℕ). IsTrue (not (node k))) (sym (with_lsn f.0 f.1)) u.0) f.1)))

  left_at : (f : Entry → Bool) (n : ℕ) → list_any (λ e. (e.lsn == n) && f e) left ≡ (not (node n) && list_any (λ e. (e.lsn == n) && f e) entries)
  left_at f n = left_any n (λ e. (e.lsn == n) && f e) (λ e is. eqb-true e.lsn n (and_parts (e.lsn == n) (f e) is).0)

  left_access : accesses left ≡ within (λ n. not (node n)) (accesses entries)
  left_access = λ i. record { reads = λ n x. left_at (λ e. is_among x e.reads) n i; writes = λ n x. left_at (λ e. is_among x e.writes) n i }

  left_number : (n : ℕ) → is_among n (lsns left) ≡ (not (node n) && is_among n (lsns entries))
  left_number n =
      numbers_any n left ∙ left_any n (λ e. n == e.lsn) (λ e is. sym (eqb-true n e.lsn is)) ∙ ap (λ (b : Bool). not (node n) && b) (sym (numbers_any n entries))

  -- two nodes of different names have no member in common
  pub named_apart : (n k : ℕ) (other : ℕ → Bool) → IsNodeNamed entries n node → IsNodeNamed entries k other → (k ≡ n → ⊥) → (z : ℕ) → IsTrue (node z) → IsTrue (other z) → ⊥
  named_apart n k other named is apart z on there =
      let a = accesses entries in
      let low : n ≤ k = named.is_name.1 k (one_node a other node z is.is_node named.is_node there on k is.is_name.0) in
      let high : k ≤ n = is.is_name.1 n (one_node a node other z named.is_node is.is_node on there n named.is_name.0) in
      apart (omega (arith, low, high))

  -- another node that is minimal is one of what is left
  pub still_named : (n k : ℕ) (other : ℕ → Bool) → IsNodeNamed entries n node → NoEdgeInto (accesses entries) node → IsNodeNamed entries k other → NoEdgeInto (accesses entries) other → (k ≡ n → ⊥)
      → IsNodeNamed left k other × NoEdgeInto (accesses left) other
  still_named n k other named none is no_edge apart =
      let a = accesses entries in
      let out : (z : ℕ) → IsTrue (other z) → IsTrue (not (node z)) = λ z there. not_from_false _ (false_from_ne_true _ (λ on. named_apart n k other named is apart z on there)) in
      let minimal : IsMinimal (within (λ z. not (node z)) a) other = stays_minimal a (λ z. true) node none other (is.is_node, no_edge) out in
      let here : IsMinimal (accesses left) other = subst (λ (b : Access). IsMinimal b other) (sym left_access) minimal in (
        record { held = left_number k ∙ and_from (not (node k)) (is_among k (lsns entries)) (out k is.is_name.0) is.held; is_node = here.0; is_name = is.is_name },
        here.1,
      )
