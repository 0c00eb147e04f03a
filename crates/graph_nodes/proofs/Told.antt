-- Which names have marks, and which nodes are said to be minimal.
use Rattle.std.proofs.Common.{◌≡◌, ◌≢◌, ◌∙◌, ap, sym, subst, ℕ, ◌+◌, ◌<◌, ◌≤◌, Bool, false, List, [], length, refl, arith, inl, inr}
use Rattle.std.specs.Prelude.{IsTrue, IsFalse, ◌↔◌, ◌⊎◌, Option, None, Some, IfSome, IfNone, slice_index, slice_set}
use Rattle.std.proofs.lemmas.Bool.{cases_eq, cases_lt, cases_Bool, both_ways, cond-true, cond-false}
use Rattle.std.proofs.lemmas.List.{get_or-set_other, length-set}
use Rattle.std.proofs.Math.ListN.{get_or-eq_default}
use Rattle.oper_core.specs.State.{is_among}
use Rattle.number_lists.specs.Lists.{Lists, list_at}
use Rattle.number_lists.specs.MarkLaws.{mark-gone, mark-was}
use Rattle.number_lists.specs.Marks.{mark_at, IsCount, IsNext}
use Rattle.graph_nodes.specs.Arcs.{node_at, name_at, held_at}
use Rattle.graph_nodes.specs.Into.{AreLed}
use Rattle.graph_nodes.specs.Merge.{gathered, AreMoved}
use Rattle.graph_nodes.specs.Named.{Graph, Naming, AreNamed, IsName, NamesMinimal, IsLeast, IsForgotten, AreForgotten, AreNamesMerged, IsTold, AreTold, AreNamesSame, IsNameAdded}
use Rattle.graph_nodes.specs.Removed.{AreReleased, AreAlone}
use Rattle.graph_nodes.specs.Kept.{AreOwn, IsKept, IsMarked, AreOnWay, AreJoined}
use Rattle.graph_nodes.proofs.Found.{among-place, place-among}
use Rattle.graph_nodes.proofs.Ordered.{way-slot, way-end, list-was, names-all}
use Rattle.graph_nodes.proofs.Scattered.{nothing-in}
use Rattle.graph_nodes.proofs.Asked.{least-iff, minimal-iff}

-- the names of the first so many nodes are forgotten
pub record IsForgetting (ns name : List ℕ) (least i : ℕ) (old now : List Bool) : Type 0 where
  pub done : (j : ℕ) → j < i → (name_at name (slice_index ns j) ≡ least → ⊥) → IsFalse (mark_at now (name_at name (slice_index ns j)))
  pub rest : (k : ℕ) → (mark_at now k ≡ mark_at old k) ⊎ IsForgotten ns name least k
  pub size : length now ≡ length old

pub forget-keep : (ns name : List ℕ) (least i m : ℕ) (old now : List Bool) → IsForgetting ns name least i old now → m ≡ slice_index ns i → name_at name m ≡ least → IsForgetting ns name least (i + 1) old now
forget-keep ns name least i m old now is e at = record {
  done = λ j lt ne. elim (cases_eq j i) [
    | inl q ↦ absurd (ne (ap (λ (k : ℕ). name_at name (slice_index ns k)) q ∙ ap (λ (k : ℕ). name_at name k) (sym e) ∙ at))
    | inr other ↦ is.done j (omega (arith, lt, other)) ne
  ];
  rest = is.rest;
  size = is.size;
}

pub forget-drop : (ns name : List ℕ) (least i m here : ℕ) (old now : List Bool) → IsForgetting ns name least i old now → i < length ns → m ≡ slice_index ns i → here ≡ name_at name m → (here ≡ least → ⊥) → IsForgetting ns name least (i + 1) old (slice_set now here false)
forget-drop ns name least i m here old now is lt e at off = record {
  done = λ j low ne. elim (cases_eq (name_at name (slice_index ns j)) here) [
    | inl q ↦ ap (λ (k : ℕ). mark_at (slice_set now here false) k) q ∙ mark-gone now here
    | inr other ↦ elim (cases_eq j i) [
      | inl q ↦ absurd (other (ap (λ (k : ℕ). name_at name (slice_index ns k)) q ∙ ap (λ (k : ℕ). name_at name k) (sym e) ∙ sym at))
      | inr less ↦ get_or-set_other now here (name_at name (slice_index ns j)) false false other ∙ is.done j (omega (arith, low, less)) ne
    ]
  ];
  rest = λ k. elim (cases_eq k here) [
    | inl q ↦ inr (m, subst (λ (j : ℕ). IsTrue (is_among j ns)) (sym e) (place-among ns i lt), sym (q ∙ at), (λ l. off (sym q ∙ l)))
    | inr other ↦ elim (is.rest k) [ inl same ↦ inl (get_or-set_other now here k false false other ∙ same) | inr f ↦ inr f ]
  ];
  size = length-set now here false ∙ is.size;
}

pub forget-end : (ns name : List ℕ) (least i : ℕ) (old now : List Bool) → i ≡ length ns → IsForgetting ns name least i old now → AreForgotten ns name least old now
forget-end ns name least i old now e is = record {
  done = λ k f.
      let p = among-place f.0 ns f.1 in
      let at : name_at name (slice_index ns p.0) ≡ k = ap (λ (m : ℕ). name_at name m) p.2 ∙ f.2 in
      ap (λ (j : ℕ). mark_at now j) (sym at) ∙ is.done p.0 (omega (arith, p.1, e)) (λ l. f.3 (sym at ∙ l));
  rest = is.rest;
  size = is.size;
}

-- what is said of one node: of the others nothing has changed
pub tell-one : (node : List ℕ) (into : Lists) (t : ℕ) (is_free : Bool) (n told : Naming) → node_at node (name_at n.name t) ≡ t → ((k : ℕ) → IsTrue (mark_at n.names k) → name_at n.name (node_at node k) ≡ k) →
    ((k : ℕ) → (node_at node k ≡ t → ⊥) → IsTrue (mark_at n.minimal k) ↔ (IsTrue (mark_at n.names k) × (list_at into.lists (node_at node k) ≡ []))) →
    ((k : ℕ) → node_at node k ≡ t → IsTrue (mark_at n.minimal k) → k ≡ name_at n.name t) → (IsTrue is_free ↔ (list_at into.lists t ≡ [])) → IsTold t is_free n told →
    (k : ℕ) → IsTrue (mark_at told.minimal k) ↔ (IsTrue (mark_at told.names k) × (list_at into.lists (node_at node k) ≡ []))
tell-one node into t is_free n told member named rest inner free is k =
    let names : mark_at told.names k ≡ mark_at n.names k = ap (λ (xs : List Bool). mark_at xs k) is.names in
    elim (cases_eq k (name_at n.name t)) [
      | inl q ↦
          let at : node_at node k ≡ t = ap (λ (j : ℕ). node_at node j) q ∙ member in
          let list : list_at into.lists (node_at node k) ≡ list_at into.lists t = ap (λ (j : ℕ). list_at into.lists j) at in (
            (λ m. let both = is.here.0 (subst (λ (j : ℕ). IsTrue (mark_at told.minimal j)) q m) in (names ∙ ap (λ (j : ℕ). mark_at n.names j) q ∙ both.1, list ∙ free.0 both.0)),
            (λ both. ap (λ (j : ℕ). mark_at told.minimal j) q ∙ is.here.1 (free.1 (sym list ∙ both.1), ap (λ (j : ℕ). mark_at n.names j) (sym q) ∙ sym names ∙ both.0)),
          )
      | inr ne ↦
          let same : mark_at told.minimal k ≡ mark_at n.minimal k = is.others k ne in
          elim (cases_eq (node_at node k) t) [
            | inl at ↦ (
              (λ m. absurd (ne (inner k at (sym same ∙ m)))),
              (λ both. absurd (ne (sym (named k (sym names ∙ both.0)) ∙ ap (λ (j : ℕ). name_at n.name j) at))),
            )
            | inr off ↦ (
              (λ m. let both = (rest k off).0 (sym same ∙ m) in (names ∙ both.0, both.1)),
              (λ both. same ∙ (rest k off).1 (sym names ∙ both.0, both.1)),
            )
          ]
    ]

pub same-start : (n : Naming) → AreNamesSame n n
same-start n = record { name = refl; names = refl; room = refl }

pub same-on : (a b c : Naming) → AreNamesSame a b → AreNamesSame b c → AreNamesSame a c
same-on a b c f g = record { name = g.name ∙ f.name; names = g.names ∙ f.names; room = g.room ∙ f.room }

-- after a list was settled, and its node reported of
pub told-settled : (node : List ℕ) (old new : Lists) (t : ℕ) (is_free : Bool) (n told : Naming) → AreTold node old n → node_at node (name_at n.name t) ≡ t → ((m : ℕ) → (m ≡ t → ⊥) → list_at new.lists m ≡ list_at old.lists m) → (IsTrue is_free ↔ (list_at new.lists t ≡ [])) → IsTold t is_free n told → AreTold node new told
told-settled node old new t is_free n told are member others free is = record {
  named = λ k m. ap (λ (xs : List ℕ). name_at xs (node_at node k)) is.name ∙ are.named k (sym (ap (λ (xs : List Bool). mark_at xs k) is.names) ∙ m);
  told = tell-one node new t is_free n told member are.named
      (λ k off. ((λ m. let both = (are.told k).0 m in (both.0, others (node_at node k) off ∙ both.1)), (λ both. (are.told k).1 (both.0, sym (others (node_at node k) off) ∙ both.1))))
      (λ k at m. sym (are.named k ((are.told k).0 m).0) ∙ ap (λ (j : ℕ). name_at n.name j) at)
      free is;
}

pub told-of : (node : List ℕ) (held : List Bool) (into : Lists) (n : Naming) → IsMarked node held into n → AreTold node into n
told-of node held into n is = record { named = λ k t. ((is.names k).0 t).1; told = is.told }

module _ (arcs : List (Option ℕ)) (old new : List ℕ) (held : List Bool) (n merged : Naming) (members ia ib : Lists) (v to one : ℕ) (ns : List ℕ) (kept : IsKept arcs old held n.name members ia) (marked : IsMarked old held ia n) (low : to < length old)
    (way : AreOnWay arcs old (node_at old v) (node_at old to) ns) (is : (ns ≡ []) ⊎ IsTrue (is_among one ns)) (are : AreNamesMerged ns one n merged) (at : (i : ℕ) → node_at new i ≡ gathered ns one (node_at old i)) (moved : AreMoved (gathered ns one) ia ib) where
  one-in-ns : (m : ℕ) → IsTrue (is_among m ns) → IsTrue (is_among one ns)
  one-in-ns m t = elim is [ inl e ↦ absurd (both_ways _ refl (subst (λ (xs : List ℕ). IsTrue (is_among m xs)) e t)) | inr u ↦ u ]

  end-in : (ns ≡ []) ⊎ IsTrue (is_among (node_at old to) ns)
  end-in = way-end arcs old (node_at old v) (node_at old to) ns way

  -- the slot with the name of a merged node is in it
  name-in : (m : ℕ) → IsTrue (is_among m ns) → node_at old (name_at n.name m) ≡ m
  name-in m t =
      let s = way-slot arcs old (node_at old v) (node_at old to) m ns way t in
      ap (λ (k : ℕ). node_at old (name_at n.name k)) (sym s.2) ∙ kept.named.member s.0 ∙ s.2

  to-one : (k : ℕ) → IsTrue (is_among (node_at old k) ns) → node_at new k ≡ one
  to-one k t = at k ∙ cond-true (is_among (node_at old k) ns) one (node_at old k) t

  stays : (k : ℕ) → IsFalse (is_among (node_at old k) ns) → node_at new k ≡ node_at old k
  stays k f = at k ∙ cond-false (is_among (node_at old k) ns) one (node_at old k) f

  -- a name outside is not forgotten
  not-forgotten : (k : ℕ) → IsFalse (is_among (node_at old k) ns) → IsForgotten ns n.name (name_at merged.name one) k → ⊥
  not-forgotten k f g = both_ways _ f (subst (λ (m : ℕ). IsTrue (is_among m ns)) (sym (ap (λ (j : ℕ). node_at old j) (sym g.2) ∙ name-in g.0 g.1)) g.1)

  outside-same : (marks after : List Bool) → AreForgotten ns n.name (name_at merged.name one) marks after → (k : ℕ) → IsFalse (is_among (node_at old k) ns) → mark_at after k ≡ mark_at marks k
  outside-same marks after g k f = elim (g.rest k) [ inl same ↦ same | inr gone ↦ absurd (not-forgotten k f gone) ]

  -- a name within that still has its mark is the least
  inside-least : (marks after : List Bool) → AreForgotten ns n.name (name_at merged.name one) marks after → (k : ℕ) → IsTrue (is_among (node_at old k) ns) → name_at n.name (node_at old k) ≡ k → IsTrue (mark_at after k) → k ≡ name_at merged.name one
  inside-least marks after g k t name m = elim (cases_eq k (name_at merged.name one)) [
    | inl q ↦ q
    | inr ne ↦ absurd (both_ways _ (g.done k (node_at old k, t, name, ne)) m)
  ]

  was-marked : (marks after : List Bool) → AreForgotten ns n.name (name_at merged.name one) marks after → (k : ℕ) → IsTrue (mark_at after k) → IsTrue (mark_at marks k)
  was-marked marks after g k m = elim (g.rest k) [ inl same ↦ sym same ∙ m | inr f ↦ absurd (both_ways _ (g.done k f) m) ]

  pub names-joined : (k : ℕ) → IsTrue (mark_at merged.names k) ↔ (IsTrue (held_at held k) × (name_at merged.name (node_at new k) ≡ k))
  names-joined k = elim (cases_Bool (is_among (node_at old k) ns)) [
    | inl t ↦
        let from = are.from (one-in-ns (node_at old k) t) in
        let name_one : name_at merged.name (node_at new k) ≡ name_at merged.name one = ap (λ (j : ℕ). name_at merged.name j) (to-one k t) in (
          (λ m.
              let both = (marked.names k).0 (was-marked n.names merged.names are.names k m) in
              (both.0, name_one ∙ sym (inside-least n.names merged.names are.names k t both.1 m))),
          (λ both.
              let least : k ≡ name_at merged.name one = sym both.1 ∙ name_one in
              let name_k : k ≡ name_at n.name from.0 = least ∙ from.2 in
              let node_k : node_at old k ≡ from.0 = ap (λ (j : ℕ). node_at old j) name_k ∙ name-in from.0 from.1 in
              let m : IsTrue (mark_at n.names k) = (marked.names k).1 (both.0, ap (λ (j : ℕ). name_at n.name j) node_k ∙ sym name_k) in
              elim (are.names.rest k) [ inl same ↦ same ∙ m | inr f ↦ absurd (f.3 least) ]),
        )
    | inr f ↦
        let same = outside-same n.names merged.names are.names k f in
        let name_k : name_at merged.name (node_at new k) ≡ name_at n.name (node_at old k) = ap (λ (j : ℕ). name_at merged.name j) (stays k f) ∙ are.rest (node_at old k) (λ t. both_ways _ f t) in (
          (λ m. let both = (marked.names k).0 (sym same ∙ m) in (both.0, name_k ∙ both.1)),
          (λ both. same ∙ (marked.names k).1 (both.0, sym name_k ∙ both.1)),
        )
  ]

  -- a list outside has something exactly if it had
  list-joined : (m : ℕ) → IsFalse (is_among m ns) → (m ≡ node_at new to → ⊥) → (list_at ib.lists m ≡ []) ↔ (list_at ia.lists m ≡ [])
  list-joined m f off =
      let off_w : m ≡ gathered ns one (node_at old to) → ⊥ = λ e. off (e ∙ sym (at to)) in
      let none : (xs : List ℕ) (c : ℕ) → xs ≡ [] → IsTrue (is_among c xs) → ⊥ = λ xs c e t. both_ways _ refl (subst (λ (ys : List ℕ). IsTrue (is_among c ys)) e t) in (
        (λ e. nothing-in (list_at ia.lists m) (λ c t. none (list_at ib.lists m) c e (subst (λ (j : ℕ). IsTrue (is_among c (list_at ib.lists j))) (cond-false (is_among m ns) one m f) (moved.there m c t)))),
        (λ e. nothing-in (list_at ib.lists m) (λ c t.
            let b = moved.only m c t in
            none (list_at ia.lists m) c e (subst (λ (j : ℕ). IsTrue (is_among c (list_at ia.lists j))) (list-was ns one (node_at old to) m b.0 end-in off_w b.2) b.1))),
      )

  pub told-joined : (k : ℕ) → (node_at new k ≡ node_at new to → ⊥) → IsTrue (mark_at merged.minimal k) ↔ (IsTrue (mark_at merged.names k) × (list_at ib.lists (node_at new k) ≡ []))
  told-joined k off = elim (cases_Bool (is_among (node_at old k) ns)) [
    | inl t ↦ elim end-in [
      | inl e ↦ absurd (both_ways _ refl (subst (λ (xs : List ℕ). IsTrue (is_among (node_at old k) xs)) e t))
      | inr w ↦ absurd (off (to-one k t ∙ sym (to-one to w)))
    ]
    | inr f ↦
        let m = node_at old k in
        let names = outside-same n.names merged.names are.names k f in
        let minimal = outside-same n.minimal merged.minimal are.minimal k f in
        let lists = list-joined m f (λ e. off (stays k f ∙ e)) in
        let here : list_at ib.lists (node_at new k) ≡ list_at ib.lists m = ap (λ (j : ℕ). list_at ib.lists j) (stays k f) in (
          (λ t. let both = (marked.told k).0 (sym minimal ∙ t) in (names ∙ both.0, here ∙ lists.1 both.1)),
          (λ both. minimal ∙ (marked.told k).1 (sym names ∙ both.0, lists.0 (sym here ∙ both.1))),
        )
  ]

  pub inner-joined : (k : ℕ) → node_at new k ≡ node_at new to → IsTrue (mark_at merged.minimal k) → k ≡ name_at merged.name (node_at new to)
  inner-joined k same m =
      let name = ((marked.names k).0 ((marked.told k).0 (was-marked n.minimal merged.minimal are.minimal k m)).0).1 in
      elim (cases_Bool (is_among (node_at old k) ns)) [
        | inl t ↦ inside-least n.minimal merged.minimal are.minimal k t name m ∙ ap (λ (j : ℕ). name_at merged.name j) (sym (to-one k t) ∙ same)
        | inr f ↦ sym name ∙ sym (are.rest (node_at old k) (λ t. both_ways _ f t)) ∙ ap (λ (j : ℕ). name_at merged.name j) (sym (stays k f) ∙ same)
      ]

-- the marks after an arc
pub marked-inserted : (arcs : List (Option ℕ)) (old new : List ℕ) (held : List Bool) (n merged told : Naming) (ma mb ia ib id : Lists) (v to : ℕ) (is_free : Bool) → IsKept arcs old held n.name ma ia → IsMarked old held ia n → to < length old → AreJoined arcs (node_at old v) (node_at old to) old new n merged ma mb ia ib →
    AreNamed new merged.name → ((m : ℕ) → (m ≡ node_at new to → ⊥) → list_at id.lists m ≡ list_at ib.lists m) → (IsTrue is_free ↔ (list_at id.lists (node_at new to) ≡ [])) → IsTold (node_at new to) is_free merged told → IsMarked new held id told
marked-inserted arcs old new held n merged told ma mb ia ib id v to is_free kept marked low join named others free is =
    let ns = join.0 in
    let one = join.2.0 in
    let are = join.2.3 in
    let at = names-all arcs old new held n.name ma ia (node_at old v) to one ns kept low join.1 are.size are.node in
    let names = names-joined arcs old new held n merged ma ia ib v to one ns kept marked low join.1 join.2.1 join.2.2 at are.into in
    let outer = told-joined arcs old new held n merged ma ia ib v to one ns kept marked low join.1 join.2.1 join.2.2 at are.into in
    let inner = inner-joined arcs old new held n merged ma ia ib v to one ns kept marked low join.1 join.2.1 join.2.2 at are.into in
    let same_names : (k : ℕ) → mark_at told.names k ≡ mark_at merged.names k = λ k. ap (λ (xs : List Bool). mark_at xs k) is.names in
    let same_name : (k : ℕ) → name_at told.name k ≡ name_at merged.name k = λ k. ap (λ (xs : List ℕ). name_at xs k) is.name in
    record {
      names = λ k. (
        (λ t. let both = (names k).0 (sym (same_names k) ∙ t) in (both.0, same_name (node_at new k) ∙ both.1)),
        (λ both. same_names k ∙ (names k).1 (both.0, sym (same_name (node_at new k)) ∙ both.1)),
      );
      told = tell-one new id (node_at new to) is_free merged told (named.member to) (λ k t. ((names k).0 t).1)
          (λ k off. ((λ t. let both = (outer k off).0 t in (both.0, others (node_at new k) off ∙ both.1)), (λ both. (outer k off).1 (both.0, sym (others (node_at new k) off) ∙ both.1))))
          inner free is;
    }

-- the marks after a removal
pub marked-gone : (old new : List ℕ) (held holds : List Bool) (into : Lists) (n after last : Naming) (m s : ℕ) (slots : List ℕ) → m ≡ node_at old s → ((i : ℕ) → node_at old i ≡ m → IsTrue (is_among i slots)) → ((i : ℕ) → IsTrue (is_among i slots) → node_at old i ≡ m) → AreNamed old n.name → AreOwn old →
    ((k : ℕ) → IsTrue (mark_at n.names k) ↔ (IsTrue (held_at held k) × (name_at n.name (node_at old k) ≡ k))) → AreReleased slots held holds → AreAlone slots old new → AreNamesSame n after → AreTold old into after →
    AreAlone slots after.name last.name → last.names ≡ slice_set after.names (name_at after.name m) false → last.minimal ≡ slice_set after.minimal (name_at after.name m) false → IsMarked new holds into last
marked-gone old new held holds into n after last m s slots is_node there only named own names rel alone same told alone_name cut_names cut_minimal =
    let d = name_at after.name m in
    let name_after : (k : ℕ) → name_at after.name k ≡ name_at n.name k = λ k. ap (λ (xs : List ℕ). name_at xs k) same.name in
    let names_after : (k : ℕ) → mark_at after.names k ≡ mark_at n.names k = λ k. ap (λ (xs : List Bool). mark_at xs k) same.names in
    let d_in : node_at old d ≡ m = ap (λ (k : ℕ). node_at old k) (name_after m ∙ ap (λ (k : ℕ). name_at n.name k) is_node) ∙ named.member s ∙ sym is_node in
    -- a marked name of the node is the one that is taken away
    let its : (k : ℕ) → IsTrue (is_among k slots) → IsTrue (mark_at after.names k) → k ≡ d = λ k t mark. sym (told.named k mark) ∙ ap (λ (j : ℕ). name_at after.name j) (only k t) in
    let no_name : (k : ℕ) → IsTrue (is_among k slots) → IsTrue (mark_at last.names k) → ⊥ = λ k t mark.
    let w = mark-was after.names d k (subst (λ (xs : List Bool). IsTrue (mark_at xs k)) cut_names mark) in
    w.0 (its k t w.1) in
    let off : (k : ℕ) → IsFalse (is_among k slots) → k ≢ d = λ k f e. both_ways _ f (there k (ap (λ (j : ℕ). node_at old j) e ∙ d_in)) in
    let names_left : (k : ℕ) → IsFalse (is_among k slots) → mark_at last.names k ≡ mark_at after.names k = λ k f. ap (λ (xs : List Bool). mark_at xs k) cut_names ∙ get_or-set_other after.names d k false false (off k f) in
    let minimal_left : (k : ℕ) → IsFalse (is_among k slots) → mark_at last.minimal k ≡ mark_at after.minimal k = λ k f. ap (λ (xs : List Bool). mark_at xs k) cut_minimal ∙ get_or-set_other after.minimal d k false false (off k f) in
    let stays : (k : ℕ) → IsFalse (is_among k slots) → node_at new k ≡ node_at old k = λ k f. alone.rest k (λ t. both_ways _ f t) in
    record {
      names = λ k. elim (cases_Bool (is_among k slots)) [
        | inl t ↦ ((λ mark. absurd (no_name k t mark)), (λ both. absurd (both_ways _ (rel.done k t) both.0)))
        | inr f ↦
            let held_same : held_at holds k ≡ held_at held k = rel.rest k (λ t. both_ways _ f t) in
            let out : IsTrue (is_among (node_at old k) slots) → ⊥ = λ t. both_ways _ f (there k (sym (own k) ∙ only (node_at old k) t)) in
            let name_same : name_at last.name (node_at new k) ≡ name_at n.name (node_at old k) = ap (λ (j : ℕ). name_at last.name j) (stays k f) ∙ alone_name.rest (node_at old k) out ∙ name_after (node_at old k) in (
              (λ mark. let both = (names k).0 (sym (names_after k) ∙ sym (names_left k f) ∙ mark) in (held_same ∙ both.0, name_same ∙ both.1)),
              (λ both. names_left k f ∙ names_after k ∙ (names k).1 (sym held_same ∙ both.0, sym name_same ∙ both.1)),
            )
      ];
      told = λ k. elim (cases_Bool (is_among k slots)) [
        | inl t ↦ (
          (λ mark.
              let w = mark-was after.minimal d k (subst (λ (xs : List Bool). IsTrue (mark_at xs k)) cut_minimal mark) in
              absurd (w.0 (its k t ((told.told k).0 w.1).0))),
          (λ both. absurd (no_name k t both.0)),
        )
        | inr f ↦
            let list : list_at into.lists (node_at new k) ≡ list_at into.lists (node_at old k) = ap (λ (j : ℕ). list_at into.lists j) (stays k f) in (
              (λ mark. let both = (told.told k).0 (sym (minimal_left k f) ∙ mark) in (names_left k f ∙ both.0, list ∙ both.1)),
              (λ both. minimal_left k f ∙ (told.told k).1 (sym (names_left k f) ∙ both.0, sym list ∙ both.1)),
            )
      ];
    }

-- the marks with one slot more
pub marked-slot : (node new : List ℕ) (held holds : List Bool) (into wide : Lists) (n more : Naming) → IsMarked node held into n → length held ≡ length node → length n.name ≡ length node → IsNameAdded n more → ((k : ℕ) → node_at new k ≡ node_at node k) → ((k : ℕ) → name_at more.name k ≡ name_at n.name k) →
    ((k : ℕ) → (k ≡ length node → ⊥) → held_at holds k ≡ held_at held k) → IsTrue (held_at holds (length node)) → ((j : ℕ) → list_at wide.lists j ≡ list_at into.lists j) → list_at into.lists (length node) ≡ [] → IsMarked new holds wide more
marked-slot node new held holds into wide n more marked size sizes added nodes name helds here lists empty =
    let s = length node in
    let past_node : node_at node s ≡ s = get_or-eq_default node s (omega arith) in
    let past_name : name_at n.name s ≡ s = get_or-eq_default n.name s (omega (arith, sizes)) in
    let off : (k : ℕ) → (k ≡ s → ⊥) → k ≡ length n.name → ⊥ = λ k ne e. ne (e ∙ sizes) in
    let list : (k : ℕ) → list_at wide.lists (node_at new k) ≡ list_at into.lists (node_at node k) = λ k. lists (node_at new k) ∙ ap (λ (j : ℕ). list_at into.lists j) (nodes k) in
    let name_same : (k : ℕ) → name_at more.name (node_at new k) ≡ name_at n.name (node_at node k) = λ k. name (node_at new k) ∙ ap (λ (j : ℕ). name_at n.name j) (nodes k) in
    let names_new : (k : ℕ) → k ≡ s → IsTrue (mark_at more.names k) = λ k q. subst (λ (j : ℕ). IsTrue (mark_at more.names j)) (sym (q ∙ sym sizes)) added.names_here in
    record {
      names = λ k. elim (cases_eq k s) [
        | inl q ↦ (
          (λ t. (subst (λ (j : ℕ). IsTrue (held_at holds j)) (sym q) here, name_same k ∙ ap (λ (j : ℕ). name_at n.name (node_at node j)) q ∙ ap (λ (j : ℕ). name_at n.name j) past_node ∙ past_name ∙ sym q)),
          (λ both. names_new k q),
        )
        | inr ne ↦ (
          (λ t. let both = (marked.names k).0 (sym (added.names_others k (off k ne)) ∙ t) in (helds k ne ∙ both.0, name_same k ∙ both.1)),
          (λ both. added.names_others k (off k ne) ∙ (marked.names k).1 (sym (helds k ne) ∙ both.0, sym (name_same k) ∙ both.1)),
        )
      ];
      told = λ k. elim (cases_eq k s) [
        | inl q ↦ (
          (λ t. (names_new k q, list k ∙ ap (λ (j : ℕ). list_at into.lists (node_at node j)) q ∙ ap (λ (j : ℕ). list_at into.lists j) past_node ∙ empty)),
          (λ both. subst (λ (j : ℕ). IsTrue (mark_at more.minimal j)) (sym (q ∙ sym sizes)) added.minimal_here),
        )
        | inr ne ↦ (
          (λ t. let both = (marked.told k).0 (sym (added.minimal_others k (off k ne)) ∙ t) in (added.names_others k (off k ne) ∙ both.0, list k ∙ both.1)),
          (λ both. added.minimal_others k (off k ne) ∙ (marked.told k).1 (sym (added.names_others k (off k ne)) ∙ both.0, sym (list k) ∙ both.1)),
        )
      ];
    }

pub marked-none : (into : Lists) (n : Naming) → n.names ≡ [] → n.minimal ≡ [] → IsMarked [] [] into n
marked-none into n e f =
    let none : (marks : List Bool) (k : ℕ) → marks ≡ [] → IsTrue (mark_at marks k) → ⊥ = λ marks k q t. both_ways false refl (subst (λ (xs : List Bool). IsTrue (mark_at xs k)) q t) in
    record {
      names = λ k. ((λ t. absurd (none n.names k e t)), (λ both. absurd (both_ways false refl both.0)));
      told = λ k. ((λ t. absurd (none n.minimal k f t)), (λ both. absurd (none n.names k e both.0)));
    }

-- more room changes nothing
pub marked-as : (node b : List ℕ) (held h : List Bool) (ia ib : Lists) (n more : Naming) → b ≡ node → h ≡ held → ib.lists ≡ ia.lists → more.name ≡ n.name → more.names ≡ n.names → more.minimal ≡ n.minimal → IsMarked node held ia n → IsMarked b h ib more
marked-as node b held h ia ib n more eb eh el en em ei is =
    let names : (k : ℕ) → mark_at more.names k ≡ mark_at n.names k = λ k. ap (λ (xs : List Bool). mark_at xs k) em in
    let minimal : (k : ℕ) → mark_at more.minimal k ≡ mark_at n.minimal k = λ k. ap (λ (xs : List Bool). mark_at xs k) ei in
    let name : (k : ℕ) → name_at more.name (node_at b k) ≡ name_at n.name (node_at node k) = λ k. ap (λ (xs : List ℕ). name_at xs (node_at b k)) en ∙ ap (λ (xs : List ℕ). name_at n.name (node_at xs k)) eb in
    let holds : (k : ℕ) → held_at h k ≡ held_at held k = λ k. ap (λ (xs : List Bool). held_at xs k) eh in
    let list : (k : ℕ) → list_at ib.lists (node_at b k) ≡ list_at ia.lists (node_at node k) = λ k. ap (λ (ls : List (List ℕ)). list_at ls (node_at b k)) el ∙ ap (λ (xs : List ℕ). list_at ia.lists (node_at xs k)) eb in
    record {
      names = λ k. (
        (λ t. let both = (is.names k).0 (sym (names k) ∙ t) in (holds k ∙ both.0, name k ∙ both.1)),
        (λ both. names k ∙ (is.names k).1 (sym (holds k) ∙ both.0, sym (name k) ∙ both.1)),
      );
      told = λ k. (
        (λ t. let both = (is.told k).0 (sym (minimal k) ∙ t) in (names k ∙ both.0, list k ∙ both.1)),
        (λ both. minimal k ∙ (is.told k).1 (sym (names k) ∙ both.0, sym (list k) ∙ both.1)),
      );
    }

-- the marks report names and minimal nodes
pub names-iff : (g : Graph) (into : Lists) (n : Naming) (k : ℕ) → AreNamed g.node n.name → IsMarked g.node g.held into n → IsTrue (mark_at n.names k) ↔ IsName g k
names-iff g into n k named is =
    let least = least-iff g.node n.name k named in (
      (λ t. let both = (is.names k).0 t in (both.0, least.0 both.1)),
      (λ both. (is.names k).1 (both.0, least.1 both.1)),
    )

pub told-iff : (g : Graph) (into : Lists) (n : Naming) (k : ℕ) → AreNamed g.node n.name → AreLed g.arcs g.node into → IsMarked g.node g.held into n → IsTrue (mark_at n.minimal k) ↔ NamesMinimal g k
told-iff g into n k named led is =
    let names = names-iff g into n k named is in
    let minimal = minimal-iff g.arcs g.node into (node_at g.node k) led in (
      (λ t. let both = (is.told k).0 t in (names.0 both.0, minimal.0 both.1)),
      (λ both. (is.told k).1 (names.1 both.0, minimal.1 both.1)),
    )

pub next-least : (marks : List Bool) (P : ℕ → Type 0) (from : ℕ) (r : Option ℕ) → ((k : ℕ) → IsTrue (mark_at marks k) ↔ P k) → IsNext marks from r → IfSome r (IsLeast (λ k. (from ≤ k) × P k))
next-least marks P from None iff none = tt
next-least marks P from (Some i) iff is = (
  (is.above, (iff i).0 is.here),
  (λ k both. elim (cases_lt k i) [ inl lt ↦ absurd (both_ways _ (is.least k both.0 lt) ((iff k).1 both.1)) | inr ge ↦ ge ]),
)

pub next-none : (marks : List Bool) (P : ℕ → Type 0) (from : ℕ) (r : Option ℕ) → ((k : ℕ) → IsTrue (mark_at marks k) ↔ P k) → IsNext marks from r → IfNone r ((k : ℕ) → from ≤ k → P k → ⊥)
next-none marks P from None iff none = λ k le p. both_ways _ (none k le) ((iff k).1 p)
next-none marks P from (Some i) iff is = tt

pub count-as : (P Q : ℕ → Type 0) (count : ℕ) → ((k : ℕ) → P k ↔ Q k) → IsCount P count → IsCount Q count
count-as P Q count iff is = (is.0, record { rising = is.1.rising; exactly = λ k. ((λ t. (iff k).0 ((is.1.exactly k).0 t)), (λ q. (is.1.exactly k).1 ((iff k).1 q))) }, is.2)
