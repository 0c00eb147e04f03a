-- One operation more, after all others: where the cells of the few edges lead.
use Rattle.std.proofs.Common.{◌≡◌, ◌∙◌, sym, subst, ℕ, ◌<◌, ◌≤◌, ◌⊎◌, arith, inl, inr}
use Rattle.std.specs.Prelude.{IsTrue, IsFalse}
use Rattle.std.proofs.lemmas.Bool.{cases_eq, cases_lt, both_ways}
use Rattle.install_order.specs.Order.{Access, IsLastWriter}
use Rattle.install_order.specs.Arcs.{NoneBetween, IsWriterBefore, IsWriterAfter}
use Rattle.install_order.specs.More.{IsAdded, NoWriter, NoWriterFrom}
use Rattle.write_graph.specs.Cells.{ReadLeads, WriteLeads}

module _ (a b : Access) (n : ℕ) (is : IsAdded a b n) where
  pub writes-kept : (k x : ℕ) → IsTrue (a.writes k x) → (k < n) × IsTrue (b.writes k x)
  writes-kept k x w = elim (cases_lt k n) [
    | inl lt ↦ (lt, is.same_writes k x lt ∙ w)
    | inr ge ↦ absurd (both_ways _ (is.no_writes k x ge) w)
  ]

  pub reads-kept : (k x : ℕ) → IsTrue (a.reads k x) → (k < n) × IsTrue (b.reads k x)
  reads-kept k x w = elim (cases_lt k n) [
    | inl lt ↦ (lt, is.same_reads k x lt ∙ w)
    | inr ge ↦ absurd (both_ways _ (is.no_reads k x ge) w)
  ]

  -- who reads in b is one of a, or n
  pub reads-of : (k x : ℕ) → IsTrue (b.reads k x) → ((k < n) × IsTrue (a.reads k x)) ⊎ (k ≡ n)
  reads-of k x r = elim (cases_lt k n) [
    | inl lt ↦ inl (lt, sym (is.same_reads k x lt) ∙ r)
    | inr ge ↦ elim (cases_eq k n) [ inl e ↦ inr e | inr ne ↦ absurd (both_ways _ (is.last_reads k x (omega (arith, ge))) r) ]
  ]

  none-up : (x low high : ℕ) → high ≤ n → NoneBetween a x low high → NoneBetween b x low high
  none-up x low high le none q l h = is.same_writes q x (omega (arith, l, h, le)) ∙ none q l h

  after-kept : (x o p : ℕ) → IsWriterAfter a x o p → IsWriterAfter b x o p
  after-kept x o p next = let w = writes-kept p x next.1 in (next.0, w.1, none-up x o p (omega (arith, w.0)) next.2)

  -- what led somewhere leads there
  pub read-kept : (x o p : ℕ) → ReadLeads a x o p → ReadLeads b x o p
  read-kept x o p r =
      let s = reads-kept o x r.0 in (
        s.1,
        elim r.1 [
          | inl v ↦ inl ((v.0.0, (writes-kept p x v.0.1).1, none-up x p o (omega (arith, s.0)) v.0.2), (v.1.0, v.1.1, (writes-kept v.1.0 x v.1.2).1))
          | inr f ↦ inr ((λ q lt. is.same_writes q x (omega (arith, lt, s.0)) ∙ f.0 q lt), after-kept x o p f.1)
        ],
      )

  pub write-kept : (x o p : ℕ) → WriteLeads a x o p → WriteLeads b x o p
  write-kept x o p w = ((writes-kept o x w.0).1, after-kept x o p w.1)

  -- the last writer leads to n, which writes x
  pub write-new : (x w : ℕ) → IsLastWriter a x w → IsTrue (b.writes n x) → WriteLeads b x w n
  write-new x w last is_n =
      let s = writes-kept w x last.0 in
      (s.1, (s.0, is_n, (λ q l h. is.same_writes q x h ∙ last.1 q l)))

  -- who reads the last version leads to its writer
  pub read-version : (x o w : ℕ) → IsTrue (b.reads o x) → o ≤ n → NoWriterFrom a x o → IsLastWriter a x w → IsTrue (b.writes n x) → ReadLeads b x o w
  read-version x o w r le none last is_n =
      let s = writes-kept w x last.0 in
      let low : w < o = elim (cases_lt w o) [ inl lt ↦ lt | inr ge ↦ absurd (both_ways _ (none w ge) last.0) ] in
      (r, inl ((low, s.1, (λ q l h. is.same_writes q x (omega (arith, h, le)) ∙ last.1 q l)), (n, le, is_n)))

  -- who reads what nobody wrote leads to n
  pub read-first : (x o : ℕ) → IsTrue (b.reads o x) → o < n → NoWriter a x → IsTrue (b.writes n x) → ReadLeads b x o n
  read-first x o r lt none is_n = (r, inr ((λ q l. is.same_writes q x (omega (arith, l, lt)) ∙ none q), (lt, is_n, (λ q l h. is.same_writes q x h ∙ none q))))

  -- where n doesn't write x
  pub last-kept : (x w : ℕ) → IsLastWriter a x w → IsFalse (b.writes n x) → IsLastWriter b x w
  last-kept x w last off = (
    (writes-kept w x last.0).1,
    λ q l. elim (cases_lt q n) [
      | inl lt ↦ is.same_writes q x lt ∙ last.1 q l
      | inr ge ↦ elim (cases_eq q n) [ inl e ↦ subst (λ (k : ℕ). IsFalse (b.writes k x)) (sym e) off | inr ne ↦ is.last_writes q x (omega (arith, ge)) ]
    ],
  )

  pub none-kept : (x o : ℕ) → NoWriterFrom a x o → IsFalse (b.writes n x) → NoWriterFrom b x o
  none-kept x o none off q l = elim (cases_lt q n) [
    | inl lt ↦ is.same_writes q x lt ∙ none q l
    | inr ge ↦ elim (cases_eq q n) [ inl e ↦ subst (λ (k : ℕ). IsFalse (b.writes k x)) (sym e) off | inr ne ↦ is.last_writes q x (omega (arith, ge)) ]
  ]

  pub none-was : (x o : ℕ) → NoWriterFrom b x o → NoWriterFrom a x o
  none-was x o none q l = elim (cases_lt q n) [
    | inl lt ↦ sym (is.same_writes q x lt) ∙ none q l
    | inr ge ↦ is.no_writes q x ge
  ]

  pub last-new : (x : ℕ) → IsTrue (b.writes n x) → IsLastWriter b x n
  last-new x w = (w, λ q l. is.last_writes q x l)

-- a cell leads to one slot at most
after-one : (a : Access) (x o p q : ℕ) → IsWriterAfter a x o p → IsWriterAfter a x o q → p ≡ q
after-one a x o p q f g = elim (cases_lt p q) [
  | inl lt ↦ absurd (both_ways _ (g.2 p f.0 lt) f.1)
  | inr ge ↦ elim (cases_eq p q) [ inl e ↦ e | inr ne ↦ absurd (both_ways _ (f.2 q g.0 (omega (arith, ge))) g.1) ]
]

before-one : (a : Access) (x o p q : ℕ) → IsWriterBefore a x p o → IsWriterBefore a x q o → p ≡ q
before-one a x o p q f g = elim (cases_lt p q) [
  | inl lt ↦ absurd (both_ways _ (f.2 q lt g.0) g.1)
  | inr ge ↦ elim (cases_eq p q) [ inl e ↦ e | inr ne ↦ absurd (both_ways _ (g.2 p (omega (arith, ge)) f.0) f.1) ]
]

pub write-one : (a : Access) (x o p q : ℕ) → WriteLeads a x o p → WriteLeads a x o q → p ≡ q
write-one a x o p q f g = after-one a x o p q f.1 g.1

pub read-one : (a : Access) (x o p q : ℕ) → ReadLeads a x o p → ReadLeads a x o q → p ≡ q
read-one a x o p q f g = elim f.1 [
  | inl u ↦ elim g.1 [ inl v ↦ before-one a x o p q u.0 v.0 | inr w ↦ absurd (both_ways _ (w.0 p u.0.0) u.0.1) ]
  | inr s ↦ elim g.1 [ inl v ↦ absurd (both_ways _ (s.0 q v.0.0) v.0.1) | inr w ↦ after-one a x o p q s.1 w.1 ]
]

pub last-one : (a : Access) (x v w : ℕ) → IsLastWriter a x v → IsLastWriter a x w → v ≡ w
last-one a x v w f g = elim (cases_lt v w) [
  | inl lt ↦ absurd (both_ways _ (f.1 w lt) g.0)
  | inr ge ↦ elim (cases_eq v w) [ inl e ↦ e | inr ne ↦ absurd (both_ways _ (g.1 v (omega (arith, ge))) f.0) ]
]
