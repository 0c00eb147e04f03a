-- What explains the cache when the next LSN's writes are set.
use Rattle.std.proofs.Common.{◌≡◌, ◌∙◌, sym, subst, ℕ, zero, suc, ◌<◌, ◌≤◌, Bool, List, [], ◌∷◌, refl, ap, arith, inl, inr, Option, None, Some}
use Rattle.std.specs.Prelude.{IsTrue, IsFalse, ◌⊎◌, nat_lt, ◌==◌, slice_get}
use Rattle.std.specs.Prelude.{map}
use Rattle.std.proofs.lemmas.Bool.{cases_lt, cases_eq, cases_Bool, both_ways, lt-ltb, le-ltb, or_left, or_right, or_cases, or_parts, or_from, ltb-true, ltb-false, eq-eqb, false_from_ne_true}
use Rattle.install_order.specs.Order.{Access, IsClosed, IsExposed}
use Rattle.oper_core.specs.State.{is_among, value_for}
use Rattle.oper_core.specs.Meaning.{Meaning}
use Rattle.explain_core.specs.History.{Member, accesses_of, value_at, reads_of, writes_of, effect_of, made_by, reads_some, writes_some}
use Rattle.oper_core.specs.Cell.{Cell}
use Rattle.explain_core.specs.Explains.{Explains}
use Rattle.explain_core.specs.Sound.{and_below}
use Rattle.explain_core.proofs.Core.{Explains-same}

map-same : (s t : ℕ → List ℕ) (xs : List ℕ) → ((y : ℕ) → IsTrue (is_among y xs) → s y ≡ t y) → map s xs ≡ map t xs
map-same s t [] same = refl
map-same s t (x ∷ xs) same =
    let here : s x ≡ t x = same x (or_left _ (is_among x xs) (eq-eqb x x refl)) in
    let rest : map s xs ≡ map t xs = map-same s t xs (λ y e. same y (or_right (y == x) _ e)) in
    cc

-- what a member makes follows from what it reads
pub made_by-same : {O : Type 0} (m : Meaning O) (o : Option (Member O)) (s t : ℕ → List ℕ) (x : ℕ) → ((y : ℕ) → IsTrue (reads_some m o y) → s y ≡ t y) → IsTrue (writes_some m o x) → made_by m o s x ≡ made_by m o t x
made_by-same m None s t x same w = absurd (both_ways _ refl w)
made_by-same m (Some member) s t x same w =
    let e : map s (reads_of m member) ≡ map t (reads_of m member) = map-same s t (reads_of m member) same in
    rw w (ap (λ (vs : List (List ℕ)). value_for x (writes_of m member) (effect_of m member vs)) e)

pub made_by-still : {O : Type 0} (m : Meaning O) (o : Option (Member O)) (s : ℕ → List ℕ) (x : ℕ) → IsFalse (writes_some m o x) → made_by m o s x ≡ s x
made_by-still m None s x e = refl
made_by-still m (Some member) s x e = rw e refl

-- a value stays while nobody writes the object
pub value_at-still : {O : Type 0} (m : Meaning O) (h : List (Member O)) (x k n : ℕ) → k ≤ n → ((i : ℕ) → k < i → i ≤ n → IsFalse ((accesses_of m h).writes i x)) → value_at m h n x ≡ value_at m h k x
value_at-still m h x k zero le none = let e : k ≡ 0 = omega arith in rw e refl
value_at-still m h x k (suc n) le none = elim (cases_lt n k) [
  | inl lt ↦ let e : k ≡ suc n = omega arith in rw e refl
  | inr before ↦ made_by-still m (slice_get h n) (λ y. value_at m h n y) x (none (suc n) (omega arith) (omega arith)) ∙ value_at-still m h x k n before (λ i lt le. none i lt (omega arith))
]

-- out of a set and of the LSNs below k
pub out-parts : (k : ℕ) (i : ℕ → Bool) (n : ℕ) → IsFalse (and_below k i n) → (k ≤ n) × IsFalse (i n)
out-parts k i n e = let p = or_parts (nat_lt n k) (i n) e in (ltb-false n k p.0, p.1)

pub out-from : (k : ℕ) (i : ℕ → Bool) (n : ℕ) → k ≤ n → IsFalse (i n) → IsFalse (and_below k i n)
out-from k i n le out = or_from (nat_lt n k) (i n) (le-ltb n k le) out

pub in-below : (k : ℕ) (i : ℕ → Bool) (n : ℕ) → n < k → IsTrue (and_below k i n)
in-below k i n lt = or_left (nat_lt n k) (i n) (lt-ltb n k lt)

pub in-set : (k : ℕ) (i : ℕ → Bool) (n : ℕ) → IsTrue (i n) → IsTrue (and_below k i n)
in-set k i n e = or_right (nat_lt n k) (i n) e

pub in-cases : (k : ℕ) (i : ℕ → Bool) (n : ℕ) → IsTrue (and_below k i n) → (n < k) ⊎ IsTrue (i n)
in-cases k i n e = elim (or_cases (nat_lt n k) (i n) e) [ inl lt ↦ inl (ltb-true n k lt) | inr there ↦ inr there ]

-- what the next LSN reads is exposed
reads-exposed : (a : Access) (i : ℕ → Bool) (k y : ℕ) → IsFalse (i k) → IsTrue (a.reads k y) → IsExposed a (and_below k i) y
reads-exposed a i k y out r p outside w = (k, (out-parts k i p outside).0, out-from k i k (omega arith) out, r)

-- no member of the set at or past k writes what the uninstalled LSN k reads or writes
pub late-none : (a : Access) (i : ℕ → Bool) (k p y : ℕ) → IsClosed a i → IsFalse (i k) → (IsTrue (a.reads k y) ⊎ IsTrue (a.writes k y)) → IsTrue (and_below k i p) → IsTrue (a.writes p y) → p < k
late-none a i k p y closed out touch within w = elim (in-cases k i p within) [
  | inl lt ↦ lt
  | inr there ↦ elim (cases_lt k p) [
    | inl lt ↦ let c = closed k p y out there lt w in absurd (elim touch [ inl r ↦ both_ways _ c.0 r | inr r ↦ both_ways _ c.1 r ])
    | inr le ↦ elim (cases_eq p k) [ inl e ↦ absurd (both_ways _ out (subst (λ (n : ℕ). IsTrue (i n)) e there)) | inr ne ↦ omega arith ]
  ]
]

-- the next LSN reads what it read in the history
pub read-right : {O : Type 0} (m : Meaning O) (h : List (Member O)) (i : ℕ → Bool) (k : ℕ) (c : ℕ → Cell) → IsClosed (accesses_of m h) i → IsFalse (i (suc k)) → Explains (accesses_of m h) (value_at m h) (and_below (suc k) i) c → (y : ℕ) → IsTrue ((accesses_of m h).reads (suc k) y) → (c y).value ≡ value_at m h k y
read-right m h i k c closed out e y r =
    let a = accesses_of m h in
    let shown : IsExposed a (and_below (suc k) i) y = reads-exposed a i (suc k) y out r in
    let early : (c y).lsn ≤ k = elim (e.origin y) [ inl z ↦ omega (arith, z.0) | inr g ↦ omega (arith, late-none a i (suc k) (c y).lsn y closed out (inl r) g.0 g.1) ] in
    e.right y shown ∙ sym (value_at-still m h y (c y).lsn k early (λ n lt le. e.last y shown n lt (in-below (suc k) i n (omega arith))))

-- c is d with the writes of the member k set as the history has them
abbrev pub IsSetAt : (a : Access) (v : ℕ → ℕ → List ℕ) (k : ℕ) (d c : ℕ → Cell) → Type 0
IsSetAt a v k d c = (x : ℕ) → (IsTrue (a.writes k x) × (c x ≡ record { lsn = k; value = v k x })) ⊎ (IsFalse (a.writes k x) × (c x ≡ d x))

closed-below : (a : Access) (i : ℕ → Bool) (k : ℕ) → IsClosed a i → IsClosed a (and_below k i)
closed-below a i k closed o p x out within lt w =
    let q = out-parts k i o out in
    elim (in-cases k i p within) [ inl below ↦ absurd (omega (arith, q.0)) | inr there ↦ closed o p x q.1 there lt w ]

-- an object that k does not write is exposed at k where it is exposed after it
exposed-back : (a : Access) (i : ℕ → Bool) (k x : ℕ) → IsFalse (a.writes k x) → IsExposed a (and_below (suc k) i) x → IsExposed a (and_below k i) x
exposed-back a i k x still shown p out w =
    let q = out-parts k i p out in
    elim (cases_eq p k) [
      | inl e ↦ absurd (both_ways _ still (subst (λ (n : ℕ). IsTrue (a.writes n x)) e w))
      | inr ne ↦
          let r = shown p (out-from (suc k) i p (omega (arith, q.0)) q.1) w in
          let u = out-parts (suc k) i r.0 r.2 in
          (r.0, r.1, out-from k i r.0 (omega (arith, u.0)) u.1, r.3)
    ]

in-next : (k : ℕ) (i : ℕ → Bool) (n : ℕ) → IsTrue (and_below k i n) → IsTrue (and_below (suc k) i n)
in-next k i n e = elim (in-cases k i n e) [ inl lt ↦ in-below (suc k) i n (omega arith) | inr there ↦ in-set (suc k) i n there ]

-- the LSN k is not installed: its writes are right, and the set grows by it
pub Explains-fresh : (a : Access) (v : ℕ → ℕ → List ℕ) (i : ℕ → Bool) (k : ℕ) (d c : ℕ → Cell) → IsClosed a i → IsFalse (i k) → Explains a v (and_below k i) d → IsSetAt a v k d c → Explains a v (and_below (suc k) i) c
Explains-fresh a v i k d c closed out e set = record {
  closed = closed-below a i (suc k) closed;
  origin = λ x. elim (set x) [
    | inl t ↦ rw t.1 (inr (in-below (suc k) i k (omega arith), t.0))
    | inr f ↦ rw f.1 (elim (e.origin x) [ inl z ↦ inl z | inr g ↦ inr (in-next k i (d x).lsn g.0, g.1) ])
  ];
  last = λ x shown n lt within. elim (set x) [
    | inl t ↦
        let after : k < n = rw t.1 at lt in
        elim (in-cases (suc k) i n within) [
          | inl below ↦ absurd (omega arith)
          | inr there ↦ false_from_ne_true (a.writes n x) (λ w. both_ways _ (closed k n x out there after w).1 t.0)
        ]
    | inr f ↦
        let after : (d x).lsn < n = rw f.1 at lt in
        let back : IsExposed a (and_below k i) x = exposed-back a i k x f.0 shown in
        elim (in-cases (suc k) i n within) [
          | inl below ↦ elim (cases_eq n k) [
            | inl q ↦ rw q f.0
            | inr ne ↦ e.last x back n after (in-below k i n (omega arith))
          ]
          | inr there ↦ e.last x back n after (in-set k i n there)
        ]
  ];
  right = λ x shown. elim (set x) [
    | inl t ↦ rw t.1 refl
    | inr f ↦ rw f.1 (e.right x (exposed-back a i k x f.0 shown))
  ];
}

next-same : (k : ℕ) (i : ℕ → Bool) → IsTrue (i k) → (n : ℕ) → and_below k i n ≡ and_below (suc k) i n
next-same k i there n = elim (cases_Bool (and_below k i n)) [
  | inl e ↦ e ∙ sym (in-next k i n e)
  | inr e ↦
      let q = out-parts k i n e in
      elim (cases_eq n k) [
        | inl same ↦ absurd (both_ways _ q.1 (rw same there))
        | inr ne ↦ e ∙ sym (out-from (suc k) i n (omega (arith, q.0)) q.1)
      ]
]

-- the LSN k is installed: whatever values are set, they are of objects that are not exposed
pub Explains-old : (a : Access) (v : ℕ → ℕ → List ℕ) (i : ℕ → Bool) (k : ℕ) (d c : ℕ → Cell) → IsTrue (i k) → Explains a v (and_below k i) d →
    ((x : ℕ) → (IsTrue (a.writes k x) × ((d x).lsn < k) × ((c x).lsn ≡ k)) ⊎ (c x ≡ d x)) → Explains a v (and_below (suc k) i) c
Explains-old a v i k d c there e set =
    let same : (n : ℕ) → and_below k i n ≡ and_below (suc k) i n = next-same k i there in
    let g : Explains a v (and_below (suc k) i) d = Explains-same a v (and_below k i) (and_below (suc k) i) d same e in
    let kept : (x : ℕ) → IsExposed a (and_below (suc k) i) x → c x ≡ d x = λ x shown. elim (set x) [
      | inl t ↦ absurd (both_ways _ (g.last x shown k t.1 (in-set (suc k) i k there)) t.0)
      | inr q ↦ q
    ] in
    record {
      closed = g.closed;
      origin = λ x. elim (set x) [
        | inl t ↦ inr (rw t.2 (in-set (suc k) i k there), rw t.2 t.0)
        | inr q ↦ rw q (g.origin x)
      ];
      last = λ x shown n lt within. g.last x shown n (rw (kept x shown) at lt) within;
      right = λ x shown. rw (kept x shown) (g.right x shown);
    }
