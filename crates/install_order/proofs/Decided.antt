-- The tests say what the definitions say.
use Rattle.std.proofs.Common.{◌≡◌, sym, subst, ℕ, ◌<◌, ◌≤◌, Bool, not, List, refl, arith, inl, inr}
use Rattle.std.specs.Prelude.{IsTrue, IsFalse, ◌||◌, ◌&&◌, ◌==◌, nat_lt, nat_le, ◌↔◌}
use Rattle.std.specs.List.{list_any, list_all}
use Rattle.std.proofs.lemmas.Bool.{cases_lt, cases_Bool, both_ways, or_left, or_right, or_cases, or_from, false_from_ne_true, and_parts, and_from, eqb-true, eq-eqb, lt-ltb, ltb-true, le-leb, leb-true, not-true, not_from_false}
use Rattle.install_order.specs.ListLaws.{any-gives, all-from, in-from}
use Rattle.install_order.specs.declared.entry.Entry.{Entry}
use Rattle.install_order.specs.Order.{Edge, IsExposed, IsClosed}
use Rattle.install_order.specs.Order.Edge.{Read_write, Write_write, Lost_version}
use Rattle.oper_core.specs.State.{is_among}
use Rattle.install_order.specs.Entries.{reads_at, writes_at, accesses, set_of}
use Rattle.install_order.specs.Tests.{is_edge_at, is_edge, is_read_by, is_untouched, is_exposed, is_closed}

-- an entry of the LSN n that writes x
writes-from : (entries : List Entry) (n x : ℕ) (e : Entry) → ((u : Entry → Bool) → IsTrue (u e) → IsTrue (list_any u entries)) → e.lsn ≡ n → IsTrue (is_among x e.writes) → IsTrue (writes_at entries n x)
writes-from entries n x e there q w = there (λ e. (e.lsn == n) && is_among x e.writes) (and_from _ _ (eq-eqb e.lsn n q) w)

reads-from : (entries : List Entry) (n x : ℕ) (e : Entry) → ((u : Entry → Bool) → IsTrue (u e) → IsTrue (list_any u entries)) → e.lsn ≡ n → IsTrue (is_among x e.reads) → IsTrue (reads_at entries n x)
reads-from entries n x e there q w = there (λ e. (e.lsn == n) && is_among x e.reads) (and_from _ _ (eq-eqb e.lsn n q) w)

edge_at-gives : (entries : List Entry) (a b x : ℕ) → IsTrue (writes_at entries b x) → IsTrue (is_edge_at entries a b x) → Edge (accesses entries) a b
edge_at-gives entries a b x w e = elim (or_cases _ _ e) [
  | inl before ↦
      let p = and_parts _ _ before in
      elim (or_cases _ _ p.1) [ inl r ↦ Read_write x (ltb-true a b p.0) r w | inr r ↦ Write_write x (ltb-true a b p.0) r w ]
  | inr after ↦
      let p = and_parts _ _ after in
      let q = and_parts _ _ p.1 in
      let r = and_parts _ _ q.1 in
      let later = any-gives (λ e. nat_le a e.lsn && is_among x e.writes) entries r.1 in
      let u = and_parts _ _ later.1 in
      Lost_version x later.0.lsn (ltb-true b a p.0) w
      (λ n low high. false_from_ne_true _ (λ wn.
      let m = any-gives (λ e. (e.lsn == n) && is_among x e.writes) entries wn in
      let v = and_parts _ _ m.1 in
      let same : m.0.lsn ≡ n = eqb-true m.0.lsn n v.0 in
      both_ways _ (not-true _ r.0) (m.2 (λ e. nat_lt b e.lsn && (nat_lt e.lsn a && is_among x e.writes)) (and_from _ _ (lt-ltb b m.0.lsn (omega arith)) (and_from _ _ (lt-ltb m.0.lsn a (omega arith)) v.1)))))
      q.0 (leb-true a later.0.lsn u.0) (writes-from entries later.0.lsn x later.0 later.2 refl u.1)
]

pub edge-gives : (entries : List Entry) (a b : ℕ) → IsTrue (is_edge entries a b) → Edge (accesses entries) a b
edge-gives entries a b e =
    let m = any-gives (λ e. (e.lsn == b) && list_any (λ x. is_edge_at entries a b x) e.writes) entries e in
    let p = and_parts _ _ m.1 in
    let o = any-gives (λ x. is_edge_at entries a b x) m.0.writes p.1 in
    edge_at-gives entries a b o.0 (writes-from entries b o.0 m.0 m.2 (eqb-true m.0.lsn b p.0) (in-from o.0 m.0.writes o.2)) o.1

-- the test passes where b writes x and the edge goes over x
over : (entries : List Entry) (a b x : ℕ) → IsTrue (writes_at entries b x) → IsTrue (is_edge_at entries a b x) → IsTrue (is_edge entries a b)
over entries a b x w e =
    let m = any-gives (λ e. (e.lsn == b) && is_among x e.writes) entries w in
    let p = and_parts _ _ m.1 in
    let o = any-gives (λ y. x == y) m.0.writes p.1 in
    let same : x ≡ o.0 = eqb-true x o.0 o.1 in
    m.2 (λ e. (e.lsn == b) && list_any (λ x. is_edge_at entries a b x) e.writes) (and_from _ _ p.0 (o.2 (λ x. is_edge_at entries a b x) (subst (λ (y : ℕ). IsTrue (is_edge_at entries a b y)) same e)))

pub edge-from : (entries : List Entry) (a b : ℕ) → Edge (accesses entries) a b → IsTrue (is_edge entries a b)
edge-from entries a b (Read_write x lt r w) = over entries a b x w (or_left _ _ (and_from _ _ (lt-ltb a b lt) (or_left _ _ r)))
edge-from entries a b (Write_write x lt r w) = over entries a b x w (or_left _ _ (and_from _ _ (lt-ltb a b lt) (or_right _ _ r)))
edge-from entries a b (Lost_version x later lt w none r le wl) =
    let m = any-gives (λ e. (e.lsn == later) && is_among x e.writes) entries wl in
    let p = and_parts _ _ m.1 in
    let same : m.0.lsn ≡ later = eqb-true m.0.lsn later p.0 in
    over entries a b x w (or_right _ _ (and_from _ _ (lt-ltb b a lt) (and_from _ _ r (and_from _ _
    (not_from_false _ (false_from_ne_true _ (λ e.
    let q = any-gives (λ e. nat_lt b e.lsn && (nat_lt e.lsn a && is_among x e.writes)) entries e in
    let u = and_parts _ _ q.1 in
    let v = and_parts _ _ u.1 in
    both_ways _ (none q.0.lsn (ltb-true _ _ u.0) (ltb-true _ _ v.0)) (writes-from entries q.0.lsn x q.0 q.2 refl v.1))))
    (m.2 (λ e. nat_le a e.lsn && is_among x e.writes) (and_from _ _ (le-leb a m.0.lsn (omega arith)) p.1))))))

pub edge_iff : (entries : List Entry) (a b : ℕ) → IsTrue (is_edge entries a b) ↔ Edge (accesses entries) a b
edge_iff entries a b = (edge-gives entries a b, edge-from entries a b)

pub exposed_iff : (entries : List Entry) (installed : List ℕ) (x : ℕ) → IsTrue (is_exposed x installed entries) ↔ IsExposed (accesses entries) (set_of installed) x
exposed_iff entries installed x = (
  (λ e p out w.
      let m = any-gives (λ e. (e.lsn == p) && is_among x e.writes) entries w in
      let v = and_parts _ _ m.1 in
      let same : m.0.lsn ≡ p = eqb-true m.0.lsn p v.0 in
      elim (or_cases _ _ (m.3 (λ p. is_among p.lsn installed || (not (is_among x p.writes) || list_any (λ o. nat_le o.lsn p.lsn && (not (is_among o.lsn installed) && is_among x o.reads)) entries)) e)) [
        | inl there ↦ absurd (both_ways _ out (subst (λ (n : ℕ). IsTrue (is_among n installed)) same there))
        | inr rest ↦ elim (or_cases _ _ rest) [
          | inl none ↦ absurd (both_ways _ (not-true _ none) v.1)
          | inr some ↦
              let o = any-gives (λ o. nat_le o.lsn m.0.lsn && (not (is_among o.lsn installed) && is_among x o.reads)) entries some in
              let u = and_parts _ _ o.1 in
              let t = and_parts _ _ u.1 in
              let le : o.0.lsn ≤ m.0.lsn = leb-true o.0.lsn m.0.lsn u.0 in
              (o.0.lsn, omega arith, not-true _ t.0, reads-from entries o.0.lsn x o.0 o.2 refl t.1)
        ]
      ]),
  (λ shown. all-from (λ p. is_among p.lsn installed || (not (is_among x p.writes) || list_any (λ o. nat_le o.lsn p.lsn && (not (is_among o.lsn installed) && is_among x o.reads)) entries)) entries (λ p there.
      elim (cases_Bool (is_among p.lsn installed)) [
        | inl yet ↦ or_left (is_among p.lsn installed) _ yet
        | inr out ↦ or_right (is_among p.lsn installed) (not (is_among x p.writes) || is_read_by entries installed p.lsn x) (elim (cases_Bool (is_among x p.writes)) [
          | inr none ↦ or_left (not (is_among x p.writes)) (is_read_by entries installed p.lsn x) (not_from_false _ none)
          | inl w ↦ or_right (not (is_among x p.writes)) (is_read_by entries installed p.lsn x) (
              let r = shown p.lsn out (writes-from entries p.lsn x p there refl w) in
              let m = any-gives (λ e. (e.lsn == r.0) && is_among x e.reads) entries r.3 in
              let v = and_parts _ _ m.1 in
              let same : m.0.lsn ≡ r.0 = eqb-true m.0.lsn r.0 v.0 in
              m.2 (λ o. nat_le o.lsn p.lsn && (not (is_among o.lsn installed) && is_among x o.reads))
              (and_from _ _ (le-leb m.0.lsn p.lsn (omega (arith, r.1))) (and_from _ _ (not_from_false _ (subst (λ (n : ℕ). IsFalse (is_among n installed)) (sym same) r.2)) v.1)))
        ])
      ])),
)

pub closed_iff : (entries : List Entry) (installed : List ℕ) → IsTrue (is_closed installed entries) ↔ IsClosed (accesses entries) (set_of installed)
closed_iff entries installed =
    let test : Entry → Entry → Bool = λ o p. not (is_among p.lsn installed) || (nat_le p.lsn o.lsn || list_all (λ x. not (is_among x o.reads || is_among x o.writes)) p.writes) in
    let row : Entry → Bool = λ o. is_among o.lsn installed || list_all (λ p. test o p) entries in
    -- an entry that reads or writes x is not before an installed one that writes it
    let never : IsTrue (list_all row entries) → (o p x : ℕ) → IsFalse (is_among o installed) → IsTrue (is_among p installed) → o < p → IsTrue (writes_at entries p x) → (f : Entry) → f.lsn ≡ o → ((u : Entry → Bool) → IsTrue (list_all u entries) → IsTrue (u f)) → IsTrue (is_among x f.reads || is_among x f.writes) → ⊥ =
    λ e o p x out in_p lt w f same_o all_f touch.
    let m = any-gives (λ e. (e.lsn == p) && is_among x e.writes) entries w in
    let v = and_parts _ _ m.1 in
    let same : m.0.lsn ≡ p = eqb-true m.0.lsn p v.0 in
    let n = any-gives (λ y. x == y) m.0.writes v.1 in
    elim (or_cases _ _ (all_f row e)) [
      | inl there ↦ both_ways _ out (subst (λ (n : ℕ). IsTrue (is_among n installed)) same_o there)
      | inr each ↦ elim (or_cases _ _ (m.3 (λ p. test f p) each)) [
        | inl off ↦ both_ways _ (not-true _ off) (subst (λ (n : ℕ). IsTrue (is_among n installed)) (sym same) in_p)
        | inr rest ↦ elim (or_cases _ _ rest) [
          | inl le ↦ let q : m.0.lsn ≤ f.lsn = leb-true m.0.lsn f.lsn le in absurd (omega arith)
          | inr none ↦ both_ways _ (not-true _ (n.3 (λ x. not (is_among x f.reads || is_among x f.writes)) none))
              (subst (λ (y : ℕ). IsTrue (is_among y f.reads || is_among y f.writes)) (eqb-true x n.0 n.1) touch)
        ]
      ]
    ] in (
      (λ e o p x out in_p lt w. (
        false_from_ne_true _ (λ r.
            let f = any-gives (λ e. (e.lsn == o) && is_among x e.reads) entries r in
            let v = and_parts _ _ f.1 in
            never e o p x out in_p lt w f.0 (eqb-true f.0.lsn o v.0) f.3 (or_left _ _ v.1)),
        false_from_ne_true _ (λ r.
            let f = any-gives (λ e. (e.lsn == o) && is_among x e.writes) entries r in
            let v = and_parts _ _ f.1 in
            never e o p x out in_p lt w f.0 (eqb-true f.0.lsn o v.0) f.3 (or_right _ _ v.1)),
      )),
      (λ closed. all-from row entries (λ o there_o. elim (cases_Bool (is_among o.lsn installed)) [
        | inl yet ↦ or_left (is_among o.lsn installed) _ yet
        | inr out ↦ or_right (is_among o.lsn installed) (list_all (λ p. test o p) entries) (all-from (λ p. test o p) entries (λ p there_p. elim (cases_Bool (is_among p.lsn installed)) [
          | inr off ↦ or_left (not (is_among p.lsn installed)) (nat_le p.lsn o.lsn || is_untouched o p.writes) (not_from_false _ off)
          | inl in_p ↦ or_right (not (is_among p.lsn installed)) (nat_le p.lsn o.lsn || is_untouched o p.writes) (elim (cases_lt o.lsn p.lsn) [
            | inr le ↦ or_left (nat_le p.lsn o.lsn) (is_untouched o p.writes) (le-leb p.lsn o.lsn le)
            | inl lt ↦ or_right (nat_le p.lsn o.lsn) (is_untouched o p.writes) (all-from (λ x. not (is_among x o.reads || is_among x o.writes)) p.writes (λ x there_x.
                let c = closed o.lsn p.lsn x out in_p lt (writes-from entries p.lsn x p there_p refl (in-from x p.writes there_x)) in
                not_from_false _ (or_from _ _
                (false_from_ne_true _ (λ r. both_ways _ c.0 (reads-from entries o.lsn x o there_o refl r)))
                (false_from_ne_true _ (λ r. both_ways _ c.1 (writes-from entries o.lsn x o there_o refl r))))))
          ])
        ]))
      ])),
    )
