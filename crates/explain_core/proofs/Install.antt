-- What explains the slots when a set of the graph's members with no edge into it is installed.
use Rattle.std.proofs.Common.{◌≡◌, sym, subst, ℕ, zero, suc, ◌<◌, ◌≤◌, Bool, List, [], arith, inl, inr}
use Rattle.std.specs.Prelude.{IsTrue, IsFalse, ◌⊎◌, ◌||◌, ◌&&◌, ◌≢◌}
use Rattle.std.proofs.lemmas.Bool.{cases_eq, cases_Bool, cases_order, both_ways, or_left, or_right, or_cases, or_parts, or_from, false_from_ne_true, and_parts, and_from}
use Rattle.install_order.specs.Order.{Access, within, IsExposed, NoEdgeInto, flush_set_of}
use Rattle.install_order.specs.Order.Edge.{Read_write, Write_write, Lost_version}
use Rattle.oper_core.specs.Cell.{Cell}
use Rattle.explain_core.specs.Explains.{Explains}

-- a set j of the members g may be installed, where s are the slots and c is the cache
pub record MayInstall (a : Access) (v : ℕ → ℕ → List ℕ) (i j g : ℕ → Bool) (s c : ℕ → Cell) (end : ℕ) : Type 0 where
  pub explained : Explains a v i s
  pub first : IsTrue (i 0)
  pub inside : (n : ℕ) → IsTrue (j n) → IsTrue (g n)
  pub no_edge : NoEdgeInto (within g a) j
  pub bound : (n : ℕ) → IsTrue (g n) → n < end
  pub cover : (n : ℕ) → n < end → IsFalse (i n) → IsTrue (g n)
  pub late : (n x : ℕ) → IsTrue (g n) → IsFalse (i n) → IsTrue (a.writes n x) → n ≤ (c x).lsn
  pub made : (x : ℕ) → (s x).lsn ≢ (c x).lsn → IsTrue (a.writes (c x).lsn x)
  pub dirty : (x : ℕ) → (s x).lsn ≢ (c x).lsn → ((s x).lsn < (c x).lsn) × IsTrue (g (c x).lsn) × ((n : ℕ) → IsTrue (g n) → IsTrue (a.writes n x) → n ≤ (c x).lsn)
  pub right : (x : ℕ) → IsFalse (i (c x).lsn) → (c x).value ≡ v (c x).lsn x

-- the last LSN below n that passes, at or after one that does
last-below : (p : ℕ → Bool) (n from : ℕ) → from < n → IsTrue (p from) → (k : ℕ) × (from ≤ k) × (k < n) × IsTrue (p k) × ((q : ℕ) → k < q → q < n → IsFalse (p q))
last-below p zero from lt e = absurd (omega arith)
last-below p (suc n) from lt e = elim (cases_Bool (p n)) [
  | inl here ↦ (n, omega arith, omega arith, here, λ q after before. absurd (omega arith))
  | inr none ↦ elim (cases_eq from n) [
    | inl q ↦ absurd (both_ways _ none (subst (λ (k : ℕ). IsTrue (p k)) q e))
    | inr ne ↦
        let r = last-below p n from (omega arith) e in (
          r.0,
          r.1,
          omega (arith, r.2),
          r.3,
          λ q after before. elim (cases_eq q n) [
            | inl same ↦ subst (λ (k : ℕ). IsFalse (p k)) (sym same) none
            | inr other ↦ r.4 q after (omega arith)
          ],
        )
  ]
]

out-of : (i j : ℕ → Bool) (n : ℕ) → IsFalse (j n || i n) → IsFalse (j n) × IsFalse (i n)
out-of i j n e = or_parts (j n) (i n) e

-- after a member p of j that writes y, and is not installed yet, no member of g outside j writes y, where y is exposed once j is installed
no_later : (a : Access) (v : ℕ → ℕ → List ℕ) (i j g : ℕ → Bool) (s c : ℕ → Cell) (end : ℕ) → MayInstall a v i j g s c end →
    (y p : ℕ) → IsExposed a (λ n. j n || i n) y → IsTrue (j p) → IsFalse (i p) → IsTrue (a.writes p y) →
    (fuel l : ℕ) → l < fuel → p < l → IsTrue (g l) → IsFalse (j l) → IsTrue (a.writes l y) → ⊥
no_later a v i j g s c end m y p shown jp ip wp zero l small lt gl jl wl = absurd (omega arith)
no_later a v i j g s c end m y p shown jp ip wp (suc fuel) l small lt gl jl wl =
    let il : IsFalse (i l) = false_from_ne_true (i l) (λ e. both_ways _ (m.explained.closed p l y ip e lt wl).1 wp) in
    let r = shown l (or_from (j l) (i l) jl il) wl in
    let o = r.0 in
    let le : o ≤ l = r.1 in
    let off = out-of i j o r.2 in
    let go : IsTrue (g o) = m.cover o (omega (arith, m.bound l gl)) off.1 in
    let gp : IsTrue (g p) = m.inside p jp in
    let reads : IsTrue (g o && a.reads o y) = and_from (g o) (a.reads o y) go r.3 in
    let writes : IsTrue (g p && a.writes p y) = and_from (g p) (a.writes p y) gp wp in
    elim (cases_order o p) [
      | inl same ↦ both_ways _ off.0 (subst (λ (n : ℕ). IsTrue (j n)) (sym same) jp)
      | inr other ↦ elim other [
        | inl before ↦ m.no_edge o p off.0 jp (Read_write y before reads writes)
        | inr after ↦
            let t = last-below (λ n. g n && a.writes n y) o p after writes in
            elim (cases_Bool (j t.0)) [
              | inl jt ↦ m.no_edge o t.0 off.0 jt (Lost_version y l t.2 t.3 t.4 reads le (and_from (g l) (a.writes l y) gl wl))
              | inr jt ↦
                  let gt = and_parts (g t.0) (a.writes t.0 y) t.3 in
                  elim (cases_eq p t.0) [
                    | inl same ↦ both_ways _ jt (subst (λ (n : ℕ). IsTrue (j n)) same jp)
                    | inr ne ↦ no_later a v i j g s c end m y p shown jp ip wp fuel t.0 (omega (arith, t.2)) (omega (arith, t.1)) gt.0 jt gt.1
                  ]
            ]
      ]
    ]

-- an exposed object that is no work is written by no member that becomes installed
none_new : (a : Access) (v : ℕ → ℕ → List ℕ) (i j g : ℕ → Bool) (s c : ℕ → Cell) (end : ℕ) → MayInstall a v i j g s c end →
    (y : ℕ) → (flush_set_of (within g a) j y → (s y).lsn ≢ (c y).lsn → ⊥) → IsExposed a (λ n. j n || i n) y → (p : ℕ) → IsTrue (j p) → IsFalse (i p) → IsTrue (a.writes p y) → ⊥
none_new a v i j g s c end m y idle shown p jp ip wp =
    let gp : IsTrue (g p) = m.inside p jp in
    let early : (s y).lsn < p = elim (m.explained.origin y) [
      | inl z ↦ elim (cases_eq p 0) [ inl e ↦ absurd (both_ways _ ip (subst (λ (n : ℕ). IsTrue (i n)) (sym e) m.first)) | inr ne ↦ omega (arith, z.0) ]
      | inr h ↦ elim (cases_order (s y).lsn p) [
        | inl e ↦ absurd (both_ways _ ip (subst (λ (n : ℕ). IsTrue (i n)) e h.0))
        | inr other ↦ elim other [ inl lt ↦ lt | inr gt ↦ absurd (both_ways _ (m.explained.closed p (s y).lsn y ip h.0 gt h.1).1 wp) ]
      ]
    ] in
    let t = last-below (λ n. g n && a.writes n y) end p (m.bound p gp) (and_from (g p) (a.writes p y) gp wp) in
    let gt = and_parts (g t.0) (a.writes t.0 y) t.3 in
    let jt : IsTrue (j t.0) = elim (cases_Bool (j t.0)) [
      | inl e ↦ e
      | inr off ↦ elim (cases_eq p t.0) [
        | inl same ↦ absurd (both_ways _ off (subst (λ (n : ℕ). IsTrue (j n)) same jp))
        | inr ne ↦ absurd (no_later a v i j g s c end m y p shown jp ip wp (suc t.0) t.0 (omega arith) (omega (arith, t.1)) gt.0 off gt.1)
      ]
    ] in
    let flushed : flush_set_of (within g a) j y = (t.0, jt, (t.3, λ n lt. false_from_ne_true _ (λ e. both_ways _ (t.4 n lt (m.bound n (and_parts (g n) (a.writes n y) e).0)) e))) in
    elim (cases_eq (s y).lsn (c y).lsn) [
      | inl same ↦ absurd (omega (arith, m.late p y gp ip wp))
      | inr ne ↦ idle flushed ne
    ]

-- the cache's writer of a flushed dirty object is in the set
writer_in : (a : Access) (v : ℕ → ℕ → List ℕ) (i j g : ℕ → Bool) (s c : ℕ → Cell) (end : ℕ) → MayInstall a v i j g s c end →
    (y : ℕ) → flush_set_of (within g a) j y → (s y).lsn ≢ (c y).lsn → IsTrue (j (c y).lsn)
writer_in a v i j g s c end m y f ne =
    let d = m.dirty y ne in
    let w = and_parts (g f.0) (a.writes f.0 y) f.2.0 in
    elim (cases_order f.0 (c y).lsn) [
      | inl same ↦ subst (λ (n : ℕ). IsTrue (j n)) same f.1
      | inr other ↦ elim other [
        | inl lt ↦ absurd (both_ways _ (f.2.1 (c y).lsn lt) (and_from _ _ d.1 (m.made y ne)))
        | inr gt ↦ absurd (omega (arith, d.2 f.0 w.0 w.1))
      ]
    ]

pub Explains-install : (a : Access) (v : ℕ → ℕ → List ℕ) (i j g : ℕ → Bool) (s c : ℕ → Cell) (end : ℕ) → MayInstall a v i j g s c end → (new : ℕ → Cell) →
    ((y : ℕ) → ((new y ≡ s y) × (flush_set_of (within g a) j y → (s y).lsn ≢ (c y).lsn → ⊥)) ⊎ ((new y ≡ c y) × flush_set_of (within g a) j y × ((s y).lsn ≢ (c y).lsn))) →
    Explains a v (λ n. j n || i n) new
Explains-install a v i j g s c end m new change =
    let e = m.explained in
    let both : ℕ → Bool = λ n. j n || i n in
    -- exposed before, where no member of j that is not installed stands in the way
    let back : (y : ℕ) → IsExposed a both y → ((p : ℕ) → IsTrue (j p) → IsFalse (i p) → IsTrue (a.writes p y) → ⊥) → IsExposed a i y = λ y shown none p ip wp.
    elim (cases_Bool (j p)) [
      | inl jp ↦ absurd (none p jp ip wp)
      | inr jp ↦ let r = shown p (or_from (j p) (i p) jp ip) wp in (r.0, r.1, (out-of i j r.0 r.2).1, r.3)
    ] in
    record {
      closed = λ o p x out there lt w.
          let off = out-of i j o out in
          elim (or_cases (j p) (i p) there) [
            | inl jp ↦
                let gp : IsTrue (g p) = m.inside p jp in
                let go : IsTrue (g o) = m.cover o (omega (arith, m.bound p gp)) off.1 in
                let wp : IsTrue (g p && a.writes p x) = and_from (g p) (a.writes p x) gp w in (
                  false_from_ne_true _ (λ r. m.no_edge o p off.0 jp (Read_write x lt (and_from (g o) (a.reads o x) go r) wp)),
                  false_from_ne_true _ (λ r. m.no_edge o p off.0 jp (Write_write x lt (and_from (g o) (a.writes o x) go r) wp)),
                )
            | inr ip ↦ e.closed o p x off.1 ip lt w
          ];
      origin = λ y. elim (change y) [
        | inl k ↦ subst (λ (cell : Cell). ((cell.lsn ≡ 0) × (cell.value ≡ [])) ⊎ (IsTrue (both cell.lsn) × IsTrue (a.writes cell.lsn y))) (sym k.0)
            (elim (e.origin y) [ inl z ↦ inl z | inr h ↦ inr (or_right (j (s y).lsn) (i (s y).lsn) h.0, h.1) ])
        | inr k ↦ subst (λ (cell : Cell). ((cell.lsn ≡ 0) × (cell.value ≡ [])) ⊎ (IsTrue (both cell.lsn) × IsTrue (a.writes cell.lsn y))) (sym k.0)
            (inr (or_left (j (c y).lsn) (i (c y).lsn) (writer_in a v i j g s c end m y k.1 k.2), m.made y k.2))
      ];
      last = λ y shown n lt there. elim (change y) [
        | inl k ↦
            let none = none_new a v i j g s c end m y k.1 shown in
            let after : (s y).lsn < n = subst (λ (cell : Cell). cell.lsn < n) k.0 lt in
            elim (cases_Bool (i n)) [
              | inl ip ↦ e.last y (back y shown none) n after ip
              | inr off ↦ elim (or_cases (j n) (i n) there) [ inl jn ↦ false_from_ne_true _ (λ w. none n jn off w) | inr ip ↦ absurd (both_ways _ off ip) ]
            ]
        | inr k ↦
            let d = m.dirty y k.2 in
            let after : (c y).lsn < n = subst (λ (cell : Cell). cell.lsn < n) k.0 lt in
            false_from_ne_true _ (λ w. elim (or_cases (j n) (i n) there) [
              | inl jn ↦ absurd (omega (arith, d.2 n (m.inside n jn) w))
              | inr ip ↦ both_ways _ (e.last y (back y shown (λ p jp off wp. both_ways _ (e.closed p n y off ip (omega (arith, d.2 p (m.inside p jp) wp)) w).1 wp)) n (omega (arith, d.0)) ip) w
            ])
      ];
      right = λ y shown. elim (change y) [
        | inl k ↦ subst (λ (cell : Cell). cell.value ≡ v cell.lsn y) (sym k.0) (e.right y (back y shown (none_new a v i j g s c end m y k.1 shown)))
        | inr k ↦
            let d = m.dirty y k.2 in
            let w : IsTrue (a.writes (c y).lsn y) = m.made y k.2 in
            subst (λ (cell : Cell). cell.value ≡ v cell.lsn y) (sym k.0) (m.right y (false_from_ne_true _ (λ ip.
            both_ways _ (e.last y (back y shown (λ p jp off wp. elim (cases_eq p (c y).lsn) [
              | inl same ↦ both_ways _ off (subst (λ (n : ℕ). IsTrue (i n)) (sym same) ip)
              | inr ne ↦ both_ways _ (e.closed p (c y).lsn y off ip (omega (arith, d.2 p (m.inside p jp) wp)) w).1 wp
            ])) (c y).lsn d.0 ip) w)))
      ];
    }
