-- Exactly the parts with no edge into them can be installed.
use Rattle.std.proofs.Common.{◌≡◌, ◌∙◌, sym, subst, ℕ, zero, suc, ◌<◌, ◌≤◌, Bool, not, List, length, refl, ap, arith, inl, inr}
use Rattle.std.specs.Prelude.{IsTrue, IsFalse, ◌⊎◌, ◌||◌, ◌≢◌, nat_le, if◌then◌else◌}
use Rattle.std.proofs.lemmas.Bool.{cases_lt, cases_eq, cases_Bool, cases_order, both_ways, or_left, or_parts, or_from, false_from_ne_true, and_parts, and_from, not-true, not_from_false, le-leb, leb-true, cond-true, cond-false}
use Rattle.install_order.specs.Order.{Access, within, IsExposed, NoEdgeInto, IsNode}
use Rattle.install_order.specs.Order.Edge.{Read_write, Write_write, Lost_version}
use Rattle.install_order.specs.NodeLaws.{walk-on, walk-in}
use Rattle.oper_core.specs.Meaning.{Meaning}
use Rattle.explain_core.specs.History.{Member, accesses_of, value_at}
use Rattle.oper_core.specs.Cell.{Cell}
use Rattle.explain_core.specs.Explains.{Explains}
use Rattle.explain_core.specs.Exact.{last_writer, current, rest_of, CanInstall, IsPartOf}
use Rattle.explain_core.proofs.Install.{MayInstall, Explains-install}
use Rattle.explain_core.specs.GraphLaws.{no-writes}

last_writer-is : (a : Access) (n x : ℕ) → ((IsTrue (a.writes (last_writer a n x) x) × (last_writer a n x < n)) ⊎ ((last_writer a n x ≡ 0) × ((k : ℕ) → k < n → IsFalse (a.writes k x)))) × ((k : ℕ) → last_writer a n x < k → k < n → IsFalse (a.writes k x))
last_writer-is a zero x = (inr (refl, λ k lt. absurd (omega arith)), λ k low lt. absurd (omega arith))
last_writer-is a (suc n) x =
    let r = last_writer-is a n x in
    let P : ℕ → Type 0 = λ l. ((IsTrue (a.writes l x) × (l < suc n)) ⊎ ((l ≡ 0) × ((k : ℕ) → k < suc n → IsFalse (a.writes k x)))) × ((k : ℕ) → l < k → k < suc n → IsFalse (a.writes k x)) in
    elim (cases_Bool (a.writes n x)) [
      | inl w ↦ subst P (sym (cond-true (a.writes n x) n (last_writer a n x) w)) (inl (w, omega arith), λ k low lt. absurd (omega arith))
      | inr none ↦
          let here : (k : ℕ) → k < suc n → (k < n → IsFalse (a.writes k x)) → IsFalse (a.writes k x) = λ k lt below. elim (cases_eq k n) [ inl q ↦ subst (λ (k : ℕ). IsFalse (a.writes k x)) (sym q) none | inr ne ↦ below (omega arith) ] in
          subst P (sym (cond-false (a.writes n x) n (last_writer a n x) none)) (
            elim r.0 [ inl w ↦ inl (w.0, omega (arith, w.1)) | inr z ↦ inr (z.0, λ k lt. here k lt (λ below. z.1 k below)) ],
            λ k low lt. here k lt (λ below. r.1 k low below),
          )
    ]

-- a writer's LSN is at most the length
writer-within : {O : Type 0} (m : Meaning O) (h : List (Member O)) (n x : ℕ) → IsTrue ((accesses_of m h).writes n x) → n < suc (length h)
writer-within m h n x w = elim (cases_lt (length h) n) [ inl lt ↦ absurd (both_ways _ (no-writes m h n x lt) w) | inr le ↦ omega arith ]

rest-out : {O : Type 0} (h : List (Member O)) (i : ℕ → Bool) (n : ℕ) → IsTrue (rest_of h i n) → (n ≤ length h) × IsFalse (i n)
rest-out h i n e = let p = and_parts (nat_le n (length h)) (not (i n)) e in (leb-true n (length h) p.0, not-true (i n) p.1)

rest-from : {O : Type 0} (h : List (Member O)) (i : ℕ → Bool) (n : ℕ) → n ≤ length h → IsFalse (i n) → IsTrue (rest_of h i n)
rest-from h i n le out = and_from (nat_le n (length h)) (not (i n)) (le-leb n (length h) le) (not_from_false (i n) out)

pub can-from : {O : Type 0} (m : Meaning O) (h : List (Member O)) (i j : ℕ → Bool) (s : ℕ → Cell) → IsTrue (i 0) → Explains (accesses_of m h) (value_at m h) i s → IsPartOf j (rest_of h i) → NoEdgeInto (within (rest_of h i) (accesses_of m h)) j → CanInstall m h i j s
can-from {O} m h i j s first e part none =
    let a = accesses_of m h in
    let v = value_at m h in
    let g = rest_of h i in
    let c = current m h in
    let end = suc (length h) in
    let last : ℕ → ℕ = λ x. last_writer a end x in
    let upto : (n x : ℕ) → IsTrue (a.writes n x) → n ≤ last x = λ n x w. elim (cases_lt (last x) n) [
      | inl lt ↦ absurd (both_ways _ ((last_writer-is a end x).1 n lt (writer-within m h n x w)) w)
      | inr le ↦ le
    ] in
    let made : (x : ℕ) → (s x).lsn ≢ last x → IsTrue (a.writes (last x) x) = λ x ne. elim (last_writer-is a end x).0 [
      | inl w ↦ w.0
      | inr z ↦ elim (e.origin x) [
        | inl y ↦ absurd (ne (y.0 ∙ sym z.0))
        | inr k ↦ absurd (both_ways _ (z.1 (s x).lsn (writer-within m h (s x).lsn x k.1)) k.1)
      ]
    ] in
    let later : (x : ℕ) → (s x).lsn ≢ last x → (s x).lsn < last x = λ x ne. elim (e.origin x) [
      | inl y ↦ elim (cases_eq (last x) 0) [ inl q ↦ absurd (ne (y.0 ∙ sym q)) | inr other ↦ omega (arith, y.0) ]
      | inr k ↦ omega (arith, upto (s x).lsn x k.1)
    ] in
    -- the last writer of an object that is not current is not installed
    let out : (x : ℕ) → (s x).lsn ≢ last x → IsFalse (i (last x)) = λ x ne. false_from_ne_true _ (λ there.
    both_ways _ (e.last x (λ p off w. absurd (elim (cases_eq p (last x)) [
      | inl q ↦ both_ways _ off (subst (λ (n : ℕ). IsTrue (i n)) (sym q) there)
      | inr other ↦ both_ways _ (e.closed p (last x) x off there (omega (arith, upto p x w)) (made x ne)).1 w
    ])) (last x) (later x ne) there) (made x ne)) in
    let may : MayInstall a v i j g s c end = record {
      explained = e;
      first = first;
      inside = part;
      no_edge = none;
      bound = λ n r. omega (arith, (rest-out h i n r).0);
      cover = λ n lt off. rest-from h i n (omega arith) off;
      late = λ n x r off w. upto n x w;
      made = made;
      dirty = λ x ne. (later x ne, rest-from h i (last x) (omega (arith, writer-within m h (last x) x (made x ne))) (out x ne), λ n r w. upto n x w);
      right = λ x off. refl;
    } in
    let written : ℕ → Bool = λ x. j (last x) in (
      written,
      Explains-install a v i j g s c end may (λ x. if written x then c x else s x) (λ y. elim (cases_Bool (written y)) [
        | inl there ↦
            let r = rest-out h i (last y) (part (last y) there) in
            let ne : (s y).lsn ≢ last y = λ q. elim (e.origin y) [
              | inl z ↦ both_ways _ r.1 (subst (λ (n : ℕ). IsTrue (i n)) (sym z.0 ∙ q) first)
              | inr k ↦ both_ways _ r.1 (subst (λ (n : ℕ). IsTrue (i n)) q k.0)
            ] in
            inr (
              cond-true (written y) (c y) (s y) there,
              (last y, there, (and_from (g (last y)) (a.writes (last y) y) (part (last y) there) (made y ne), λ n lt. false_from_ne_true _ (λ w. absurd (omega (arith, upto n y (and_parts (g n) (a.writes n y) w).1))))),
              ne,
            )
        | inr off ↦ inl (
          cond-false (written y) (c y) (s y) off,
          λ f ne.
              let w = and_parts (g f.0) (a.writes f.0 y) f.2.0 in
              elim (cases_eq f.0 (last y)) [
                | inl q ↦ both_ways _ off (subst (λ (n : ℕ). IsTrue (j n)) q f.1)
                | inr other ↦ both_ways _ (f.2.1 (last y) (omega (arith, upto f.0 y w.1))) (and_from (g (last y)) (a.writes (last y) y) (rest-from h i (last y) (omega (arith, writer-within m h (last y) y (made y ne))) (out y ne)) (made y ne))
              ],
        )
      ]),
    )

pub can-gives : {O : Type 0} (m : Meaning O) (h : List (Member O)) (i j : ℕ → Bool) (s : ℕ → Cell) → IsTrue (i 0) → Explains (accesses_of m h) (value_at m h) i s → IsPartOf j (rest_of h i) → CanInstall m h i j s → NoEdgeInto (within (rest_of h i) (accesses_of m h)) j
can-gives {O} m h i j s first e part can o p off jp edge =
    let a = accesses_of m h in
    let g = rest_of h i in
    let both : ℕ → Bool = λ n. j n || i n in
    let new = can.1 in
    let in_p : IsTrue (both p) = or_left (j p) (i p) jp in
    let out_p = (rest-out h i p (part p jp)).1 in
    elim edge [
      | Read_write x lt r w ↦
          let u = and_parts (g o) (a.reads o x) r in
          both_ways _ (new.closed o p x (or_from (j o) (i o) off (rest-out h i o u.0).1) in_p lt (and_parts (g p) (a.writes p x) w).1).0 u.1
      | Write_write x lt r w ↦
          let u = and_parts (g o) (a.writes o x) r in
          both_ways _ (new.closed o p x (or_from (j o) (i o) off (rest-out h i o u.0).1) in_p lt (and_parts (g p) (a.writes p x) w).1).1 u.1
      | Lost_version x later lt w none r le wl ↦
          let u = and_parts (g o) (a.reads o x) r in
          let wp = (and_parts (g p) (a.writes p x) w).1 in
          let wlater = (and_parts (g later) (a.writes later x) wl).1 in
          let out_o : IsFalse (both o) = or_from (j o) (i o) off (rest-out h i o u.0).1 in
          let shown : IsExposed a both x = λ q out wq.
          let parts = or_parts (j q) (i q) out in
          let after : o ≤ q = elim (cases_lt q o) [
            | inr ge ↦ ge
            | inl before ↦ absurd (elim (cases_order q p) [
              | inl same ↦ both_ways _ parts.0 (subst (λ (n : ℕ). IsTrue (j n)) (sym same) jp)
              | inr other ↦ elim other [
                | inl low ↦ both_ways _ (new.closed q p x out in_p low wp).1 wq
                | inr high ↦ both_ways _ (none q high before) (and_from (g q) (a.writes q x) (rest-from h i q (omega (arith, writer-within m h q x wq)) parts.1) wq)
              ]
            ])
          ] in
          (o, after, out_o, u.1) in
          let cell : Cell = if can.0 x then current m h x else s x in
          let high : p ≤ cell.lsn = elim (cases_lt cell.lsn p) [
            | inl low ↦ absurd (both_ways _ (new.last x shown p low in_p) wp)
            | inr ge ↦ ge
          ] in
          elim (cases_Bool (can.0 x)) [
            | inl there ↦
                let q : cell.lsn ≡ last_writer a (suc (length h)) x = ap (λ (c : Cell). c.lsn) (cond-true (can.0 x) (current m h x) (s x) there) in
                let top : later ≤ last_writer a (suc (length h)) x = elim (cases_lt (last_writer a (suc (length h)) x) later) [
                  | inl low ↦ absurd (both_ways _ ((last_writer-is a (suc (length h)) x).1 later low (writer-within m h later x wlater)) wlater)
                  | inr ge ↦ ge
                ] in
                elim (new.origin x) [
                  | inl z ↦ absurd (omega (arith, z.0))
                  | inr k ↦ elim (cases_eq o cell.lsn) [
                    | inl same ↦ both_ways _ out_o (subst (λ (n : ℕ). IsTrue (both n)) (sym same) k.0)
                    | inr ne ↦ both_ways _ (new.closed o cell.lsn x out_o k.0 (omega arith) k.1).0 u.1
                  ]
                ]
            | inr kept ↦
                let q : cell.lsn ≡ (s x).lsn = ap (λ (c : Cell). c.lsn) (cond-false (can.0 x) (current m h x) (s x) kept) in
                elim (e.origin x) [
                  | inl z ↦ let zero_p : 0 ≡ p = omega (arith, z.0) in both_ways _ out_p (subst (λ (n : ℕ). IsTrue (i n)) zero_p first)
                  | inr k ↦ elim (cases_eq p (s x).lsn) [
                    | inl same ↦ both_ways _ out_p (subst (λ (n : ℕ). IsTrue (i n)) (sym same) k.0)
                    | inr ne ↦ both_ways _ (e.closed p (s x).lsn x out_p k.0 (omega arith) k.1).1 wp
                  ]
                ]
          ]
    ]

-- no proper part of a node, but the empty one, is without an edge into it
pub node-whole : (a : Access) (node part : ℕ → Bool) → IsNode a node → IsPartOf part node → NoEdgeInto a part → (o n : ℕ) → IsTrue (node o) → IsFalse (part o) → IsTrue (part n) → ⊥
node-whole a node part is inside none o n there off in_n =
    let from = is.2 o there in
    let to = is.2 n (inside n in_n) in
    both_ways _ (walk-in a part o n none off (walk-on a o is.0 n from.1 to.0)) in_n
