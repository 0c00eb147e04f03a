-- The thin node of the least name, as it is looked for.
use Rattle.std.proofs.Common.{◌≡◌, ◌∙◌, sym, subst, ℕ, ◌+◌, ◌≤◌, Bool, false, List, [], ◌∷◌, length, refl, arith, inl, inr}
use Rattle.std.specs.Prelude.{All, IsTrue, ◌==◌, ◌||◌}
use Rattle.std.specs.List.{filter}
use Rattle.std.proofs.lemmas.Bool.{both_ways, or_cases, or_left, or_right, eqb-true, eq-eqb}
use Rattle.std.proofs.lemmas.List.Elements.{All-nil, All-cons}
use Rattle.std.proofs.lemmas.List.Kept.{IsStrictlyIncreasing-filter}
use Rattle.oper_core.specs.State.{is_among}
use Rattle.install_order.specs.declared.entry.Entry.{Entry}
use Rattle.install_order.specs.Order.{flush_set_of}
use Rattle.install_order.specs.Entries.{accesses}
use Rattle.write_graph.specs.Graph.{IsNodeNamed, NamesMinimal, IsLeast, Lists}
use Rattle.dirty_cache.specs.Contents.{is_dirty}
use Rattle.running_store.specs.Parts.{Volatile, volatile}
use Rattle.cache_manager.specs.Thin.{HasToFlush, IsWork, IsThin, NamesThin, IsLeastThin}
use Rattle.cache_manager.proofs.Lists.{among_filter, filter_among}

-- the dirty ones of a flush set are the work
pub work_listed : (it : Volatile) (node : ℕ → Bool) (all work : List ℕ) → Lists (flush_set_of (accesses it.entries) node) all → work ≡ filter (is_dirty it.objects.cache) all → IsWork it node work
work_listed it node all work listed is =
    let dirty : ℕ → Bool = is_dirty it.objects.cache in
    subst (λ (xs : List ℕ). IsWork it node xs) (sym is) (record {
      rising = IsStrictlyIncreasing-filter dirty all listed.rising;
      exactly = λ x. (
        (λ there. let r = among_filter dirty all x there in ((listed.exactly x).0 r.0, r.1)),
        (λ due. filter_among dirty all x ((listed.exactly x).1 due.0) due.1),
      );
    })

-- a list of at most one LSN has no two
pub one_among : (xs : List ℕ) (x y : ℕ) → length xs ≤ 1 → IsTrue (is_among x xs) → IsTrue (is_among y xs) → x ≡ y
one_among [] x y few first second = absurd (both_ways _ refl first)
one_among (z ∷ []) x y few first second = here x first ∙ sym (here y second)
  where
    here : (k : ℕ) → IsTrue ((k == z) || false) → k ≡ z
    here k is = elim (or_cases (k == z) false is) [ inl e ↦ eqb-true k z e | inr none ↦ absurd (both_ways _ refl none) ]
one_among (z ∷ u ∷ xs) x y few first second = absurd (omega (arith, few))

-- a rising list of LSNs of which there is at most one
pub few_listed : (P : ℕ → Type 0) (xs : List ℕ) → Lists P xs → ((x y : ℕ) → P x → P y → x ≡ y) → length xs ≤ 1
few_listed P [] listed few = omega arith
few_listed P (x ∷ []) listed few = omega arith
few_listed P (x ∷ y ∷ xs) listed few =
    let first : P x = (listed.exactly x).0 (or_left (x == x) (is_among x (y ∷ xs)) (eq-eqb x x refl)) in
    let second : P y = (listed.exactly y).0 (or_right (y == x) (is_among y (y ∷ xs)) (or_left (y == y) (is_among y xs) (eq-eqb y y refl))) in
    absurd (omega (arith, listed.rising 0 (omega arith), few x y first second))

module _ (it : Volatile) (entries : List Entry) (from n : ℕ) (work : List ℕ) (same : entries ≡ it.entries) (passed : (k : ℕ) → NamesThin it k → from ≤ k)
    (least : IsLeast (λ k. (from ≤ k) × NamesMinimal entries k) n) (is_work : (node : ℕ → Bool) → IsNodeNamed entries n node → IsWork (volatile it.objects entries) node work) where
  least_here : IsLeast (λ k. (from ≤ k) × NamesMinimal it.entries k) n
  least_here = subst (λ (es : List Entry). IsLeast (λ k. (from ≤ k) × NamesMinimal es k) n) same least

  work_here : (node : ℕ → Bool) → IsNodeNamed it.entries n node → IsWork it node work
  work_here = subst (λ (es : List Entry). (node : ℕ → Bool) → IsNodeNamed es n node → IsWork (volatile it.objects es) node work) same is_work

  -- no thin node has a lesser name
  no_less : (k : ℕ) → NamesThin it k → n ≤ k
  no_less k thin = least_here.1 k (passed k thin, (thin.0, thin.1.named, thin.1.no_edge))

  -- the node is thin
  pub thin_found : length work ≤ 1 → IsLeastThin it n work
  thin_found few =
      let minimal = least_here.0.1 in
      let listed = work_here minimal.0 minimal.1 in
      let thin : IsThin it n minimal.0 = record {
        named = minimal.1;
        no_edge = minimal.2;
        few = λ x y first second. one_among work x y few ((listed.exactly x).1 first) ((listed.exactly y).1 second);
      } in
      record { least = ((minimal.0, thin), no_less); is_work = work_here; few = few }

  -- it is not, so a thin one has a greater name
  pub thin_behind : (length work ≤ 1 → ⊥) → (k : ℕ) → NamesThin it k → n + 1 ≤ k
  thin_behind many k thin =
      let not_here : n ≡ k → ⊥ = λ e.
      let named : IsNodeNamed it.entries n thin.0 = subst (λ (j : ℕ). IsNodeNamed it.entries j thin.0) (sym e) thin.1.named in
      many (few_listed (HasToFlush it thin.0) work (work_here thin.0 named) thin.1.few) in
      omega (arith, no_less k thin, not_here)

pub thin_none : (it : Volatile) (entries : List Entry) (from : ℕ) → entries ≡ it.entries → ((k : ℕ) → NamesThin it k → from ≤ k) → ((k : ℕ) → from ≤ k → NamesMinimal entries k → ⊥)
    → (n : ℕ) → NamesThin it n → ⊥
thin_none it entries from same passed none n thin =
    none n (passed n thin) (subst (λ (es : List Entry). NamesMinimal es n) (sym same) (thin.0, thin.1.named, thin.1.no_edge))

-- what holds of each LSN among them holds of all
pub among_all : (P : ℕ → Type 0) (xs : List ℕ) → ((x : ℕ) → IsTrue (is_among x xs) → P x) → All P xs
among_all P [] each = All-nil P
among_all P (x ∷ xs) each =
    All-cons P x xs (each x (or_left (x == x) (is_among x xs) (eq-eqb x x refl))) (among_all P xs (λ y there. each y (or_right (y == x) (is_among y xs) there)))
