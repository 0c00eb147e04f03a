-- The arcs after an operation more are those before and the new ones.
use Rattle.std.proofs.Common.{◌≡◌, ◌∙◌, sym, subst, ℕ, ◌<◌, ◌≤◌, arith, inl, inr}
use Rattle.std.specs.Prelude.{IsTrue, IsFalse, ◌↔◌, ◌⊎◌}
use Rattle.std.proofs.lemmas.Bool.{cases_lt, cases_eq, cases_Bool, both_ways}
use Rattle.install_order.specs.Order.{Access, IsLastWriter}
use Rattle.install_order.specs.Arcs.{NoneBetween, IsWriterBefore, Arc}
use Rattle.install_order.specs.Arcs.Arc.{Next_write, Version_read, First_write}
use Rattle.install_order.specs.More.{IsAdded, NoWriterFrom, NewArc}
use Rattle.install_order.specs.More.NewArc.{From_writer, To_version, From_reader}
use Rattle.install_order.proofs.Same.{writer-before}

-- who writes or reads in a is below n, and does so in b
below-writes : (a b : Access) (n k x : ℕ) → IsAdded a b n → IsTrue (a.writes k x) → (k < n) × IsTrue (b.writes k x)
below-writes a b n k x is w = elim (cases_lt k n) [
  | inl lt ↦ (lt, is.same_writes k x lt ∙ w)
  | inr ge ↦ absurd (both_ways _ (is.no_writes k x ge) w)
]

below-reads : (a b : Access) (n k x : ℕ) → IsAdded a b n → IsTrue (a.reads k x) → (k < n) × IsTrue (b.reads k x)
below-reads a b n k x is r = elim (cases_lt k n) [
  | inl lt ↦ (lt, is.same_reads k x lt ∙ r)
  | inr ge ↦ absurd (both_ways _ (is.no_reads k x ge) r)
]

-- a writer in b is one of a, or n
writes-or-new : (a b : Access) (n k x : ℕ) → IsAdded a b n → IsTrue (b.writes k x) → ((k < n) × IsTrue (a.writes k x)) ⊎ (k ≡ n)
writes-or-new a b n k x is w = elim (cases_lt k n) [
  | inl lt ↦ inl (lt, sym (is.same_writes k x lt) ∙ w)
  | inr ge ↦ elim (cases_eq k n) [ inl e ↦ inr e | inr ne ↦ absurd (both_ways _ (is.last_writes k x (omega arith)) w) ]
]

reads-or-new : (a b : Access) (n k x : ℕ) → IsAdded a b n → IsTrue (b.reads k x) → ((k < n) × IsTrue (a.reads k x)) ⊎ (k ≡ n)
reads-or-new a b n k x is w = elim (cases_lt k n) [
  | inl lt ↦ inl (lt, sym (is.same_reads k x lt) ∙ w)
  | inr ge ↦ elim (cases_eq k n) [ inl e ↦ inr e | inr ne ↦ absurd (both_ways _ (is.last_reads k x (omega arith)) w) ]
]

-- nobody between, up to n, in the one and the other
none-up : (a b : Access) (n x low high : ℕ) → IsAdded a b n → high ≤ n → NoneBetween a x low high → NoneBetween b x low high
none-up a b n x low high is le none q l h = is.same_writes q x (omega arith) ∙ none q l h

none-down : (a b : Access) (n x low high : ℕ) → IsAdded a b n → high ≤ n → NoneBetween b x low high → NoneBetween a x low high
none-down a b n x low high is le none q l h = sym (is.same_writes q x (omega arith)) ∙ none q l h

pub arc-kept : (a b : Access) (n o p : ℕ) → IsAdded a b n → Arc a o p → Arc b o p
arc-kept a b n o p is (Next_write x w next) =
    let v = below-writes a b n o x is w in
    let u = below-writes a b n p x is next.1 in
    Next_write x v.1 (next.0, u.1, none-up a b n x o p is (omega (arith, u.0)) next.2)
arc-kept a b n o p is (Version_read x later r before le wl) =
    let s = below-reads a b n o x is r in
    let v = below-writes a b n later x is wl in
    let u = below-writes a b n p x is before.1 in
    Version_read x later s.1 (before.0, u.1, none-up a b n x p o is (omega (arith, s.0)) before.2) le v.1
arc-kept a b n o p is (First_write x r none next) =
    let s = below-reads a b n o x is r in
    let u = below-writes a b n p x is next.1 in
    First_write x s.1 (λ q lt. is.same_writes q x (omega (arith, s.0)) ∙ none q lt) (next.0, u.1, none-up a b n x o p is (omega (arith, u.0)) next.2)

-- the last writer of all is the last before n, and before each that reads its version
last-before : (a b : Access) (n x w r : ℕ) → IsAdded a b n → IsLastWriter a x w → NoWriterFrom a x r → r ≤ n → IsWriterBefore b x w r
last-before a b n x w r is last none le =
    let v = below-writes a b n w x is last.0 in
    let low : w < r = elim (cases_lt w r) [ inl lt ↦ lt | inr ge ↦ absurd (both_ways _ (none w ge) last.0) ] in
    (low, v.1, (λ q l h. is.same_writes q x (omega arith) ∙ last.1 q l))

pub arc-new : (a b : Access) (n o p : ℕ) → IsAdded a b n → NewArc a b n o p → Arc b o p
arc-new a b n o p is (From_writer x w last e) =
    let v = below-writes a b n o x is last.0 in
    subst (λ (k : ℕ). Arc b o k) (sym e) (Next_write x v.1 (v.0, w, (λ q l h. is.same_writes q x h ∙ last.1 q l)))
arc-new a b n o p is (To_version x w r none last) =
    let le : o ≤ n = elim (reads-or-new a b n o x is r) [ inl s ↦ omega (arith, s.0) | inr e ↦ omega (arith, e) ] in
    Version_read x n r (last-before a b n x p o is last none le) le w
arc-new a b n o p is (From_reader x w r none e) =
    let s = below-reads a b n o x is r in
    subst (λ (k : ℕ). Arc b o k) (sym e) (First_write x s.1 (λ q lt. is.same_writes q x (omega (arith, s.0)) ∙ none q) (s.0, w, (λ q l h. is.same_writes q x h ∙ none q)))

pub arc-split : (a b : Access) (n o p : ℕ) → IsAdded a b n → Arc b o p → Arc a o p ⊎ NewArc a b n o p
arc-split a b n o p is (Next_write x w next) = elim (writes-or-new a b n p x is next.1) [
  | inl old ↦
      let v : IsTrue (a.writes o x) = sym (is.same_writes o x (omega (arith, next.0, old.0))) ∙ w in
      inl (Next_write x v (next.0, old.1, none-down a b n x o p is (omega (arith, old.0)) next.2))
  | inr e ↦
      let v : IsTrue (a.writes o x) = sym (is.same_writes o x (omega (arith, next.0, e))) ∙ w in
      let wn : IsTrue (b.writes n x) = subst (λ (k : ℕ). IsTrue (b.writes k x)) e next.1 in
      inr (From_writer x wn (
        v,
        (λ q low. elim (cases_lt q n) [
          | inl lt ↦ sym (is.same_writes q x lt) ∙ next.2 q low (omega (arith, e))
          | inr ge ↦ is.no_writes q x ge
        ]),
      ) e)
]
arc-split a b n o p is (Version_read x later r before le wl) =
    let on : o ≤ n = elim (reads-or-new a b n o x is r) [ inl s ↦ omega (arith, s.0) | inr e ↦ omega (arith, e) ] in
    let pw : IsTrue (a.writes p x) = sym (is.same_writes p x (omega (arith, before.0))) ∙ before.1 in
    let between : NoneBetween a x p o = none-down a b n x p o is on before.2 in
    elim (writer-before a x (n)) [
      | inr nobody ↦ absurd (both_ways _ (nobody p (omega (arith, before.0))) pw)
      | inl last ↦ elim (cases_lt last.0 o) [
        | inl early ↦
            -- the last writer in a is p: nobody in a overwrites what o reads, so later is n
            let same : last.0 ≡ p = elim (cases_lt last.0 p) [
              | inl lt ↦ absurd (both_ways _ (last.1.2 p lt (omega (arith, before.0))) pw)
              | inr ge ↦ elim (cases_eq last.0 p) [ inl e ↦ e | inr ne ↦ absurd (both_ways _ (between last.0 (omega arith) early) last.1.1) ]
            ] in
            let none : NoWriterFrom a x o = λ q low. elim (cases_lt q n) [ inl lt ↦ last.1.2 q (omega arith) lt | inr ge ↦ is.no_writes q x ge ] in
            let lastp : IsLastWriter a x p = (pw, (λ q low. elim (cases_lt q n) [ inl lt ↦ last.1.2 q (omega (arith, same, low)) lt | inr ge ↦ is.no_writes q x ge ])) in
            let wn : IsTrue (b.writes n x) = elim (writes-or-new a b n later x is wl) [
              | inl old ↦ absurd (both_ways _ (none later le) old.1)
              | inr e ↦ subst (λ (k : ℕ). IsTrue (b.writes k x)) e wl
            ] in
            inr (To_version x wn r none lastp)
        | inr late ↦
            let rd : IsTrue (a.reads o x) = sym (is.same_reads o x (omega (arith, last.1.0))) ∙ r in
            inl (Version_read x last.0 rd (before.0, pw, between) late last.1.1)
      ]
    ]
arc-split a b n o p is (First_write x r none next) = elim (writes-or-new a b n p x is next.1) [
  | inl old ↦
      let rd : IsTrue (a.reads o x) = sym (is.same_reads o x (omega (arith, next.0, old.0))) ∙ r in
      inl (First_write x rd (λ q lt. sym (is.same_writes q x (omega (arith, next.0, old.0))) ∙ none q lt) (next.0, old.1, none-down a b n x o p is (omega (arith, old.0)) next.2))
  | inr e ↦
      let on : o < n = omega (arith, next.0, e) in
      let rd : IsTrue (a.reads o x) = sym (is.same_reads o x on) ∙ r in
      let wn : IsTrue (b.writes n x) = subst (λ (k : ℕ). IsTrue (b.writes k x)) e next.1 in
      let after : (q : ℕ) → o < q → IsFalse (a.writes q x) = λ q low. elim (cases_lt q n) [
        | inl lt ↦ sym (is.same_writes q x lt) ∙ next.2 q low (omega (arith, e))
        | inr ge ↦ is.no_writes q x ge
      ] in
      let early : (q : ℕ) → q < o → IsFalse (a.writes q x) = λ q lt. sym (is.same_writes q x (omega (arith, on))) ∙ none q lt in
      elim (cases_Bool (a.writes o x)) [
        | inl own ↦ inr (From_writer x wn (own, after) e)
        | inr off ↦ inr (From_reader x wn rd (λ q. elim (cases_lt q o) [
          | inl lt ↦ early q lt
          | inr ge ↦ elim (cases_eq q o) [ inl s ↦ subst (λ (k : ℕ). IsFalse (a.writes k x)) (sym s) off | inr ne ↦ after q (omega arith) ]
        ]) e)
      ]
]

pub arcs-added : (a b : Access) (n o p : ℕ) → IsAdded a b n → Arc b o p ↔ (Arc a o p ⊎ NewArc a b n o p)
arcs-added a b n o p is = (arc-split a b n o p is, (λ s. elim s [ inl old ↦ arc-kept a b n o p is old | inr new ↦ arc-new a b n o p is new ]))
