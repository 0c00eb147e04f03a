-- What one arc more does to nodes and levels.
use Rattle.std.proofs.Common.{◌≡◌, ◌∙◌, sym, subst, ℕ, ◌≤◌, Bool, refl, arith, inl, inr}
use Rattle.std.specs.Prelude.{IsTrue, IsFalse, ◌↔◌, ◌⊎◌, ◌==◌}
use Rattle.std.proofs.lemmas.Bool.{cases_Bool, both_ways, eqb-true, cond-true, cond-false}
use Rattle.install_order.specs.Digraph.{Walk, Joined, AreNodes, AreLevels, with_arc, IsOnWay, IsReached, AreWhole, merged}
use Rattle.install_order.specs.Digraph.Walk.{Here, Then}

pub walk-on : (E : ℕ → ℕ → Type 0) (o m p : ℕ) → Walk E o m → Walk E m p → Walk E o p
walk-on E o m p walk Here = walk
walk-on E o m p walk (Then k q more arc) = Then k q (walk-on E o m k walk more) arc

pub walk-more : (E : ℕ → ℕ → Type 0) (v w o p : ℕ) → Walk E o p → Walk (with_arc E v w) o p
walk-more E v w o p Here = Here
walk-more E v w o p (Then m q walk arc) = Then m q (walk-more E v w o m walk) (inl arc)

-- a walk uses the new arc or not
pub walk-split : (E : ℕ → ℕ → Type 0) (v w o p : ℕ) → Walk (with_arc E v w) o p → Walk E o p ⊎ (Walk E o v × Walk E w p)
walk-split E v w o p Here = inl Here
walk-split E v w o p (Then m q walk arc) = elim arc [
  | inl old ↦ elim (walk-split E v w o m walk) [ inl s ↦ inl (Then m q s old) | inr s ↦ inr (s.0, Then m q s.1 old) ]
  | inr new ↦
      let to_w : Walk E w q = subst (λ (k : ℕ). Walk E w k) (sym new.1) Here in
      elim (walk-split E v w o m walk) [
        | inl s ↦ inr (subst (λ (k : ℕ). Walk E o k) new.0 s, to_w)
        | inr s ↦ inr (s.0, to_w)
      ]
]

-- with the new arc those are joined that were, and those on a walk from its end to its start
pub joined-more : (E : ℕ → ℕ → Type 0) (v w i j : ℕ) → Joined (with_arc E v w) i j ↔ (Joined E i j ⊎ (IsOnWay E v w i × IsOnWay E v w j))
joined-more E v w i j = (
  (λ both. elim (walk-split E v w i j both.0) [
    | inl ij ↦ elim (walk-split E v w j i both.1) [
      | inl ji ↦ inl (ij, ji)
      | inr r ↦ inr ((r.1, walk-on E i j v ij r.0), (walk-on E w i j r.1 ij, r.0))
    ]
    | inr s ↦ elim (walk-split E v w j i both.1) [
      | inl ji ↦ inr ((walk-on E w j i s.1 ji, s.0), (s.1, walk-on E j i v ji s.0))
      | inr r ↦ inr ((r.1, s.0), (s.1, r.0))
    ]
  ]),
  (λ s. elim s [
    | inl old ↦ (walk-more E v w i j old.0, walk-more E v w j i old.1)
    | inr on ↦
        let through : (k l : ℕ) → Walk E k v → Walk E w l → Walk (with_arc E v w) k l = λ k l f g. walk-on (with_arc E v w) k w l (Then v w (walk-more E v w k v f) (inr (refl, refl))) (walk-more E v w w l g) in
        (through i j on.0.1 on.1.0, through j i on.1.1 on.0.0)
  ]),
)

-- where the arc's end does not reach its start, the nodes stay
pub nodes-stay : (E : ℕ → ℕ → Type 0) (node : ℕ → ℕ) (v w : ℕ) → AreNodes E node → (Walk E w v → ⊥) → AreNodes (with_arc E v w) node
nodes-stay E node v w are none i j = (
  (λ e. (joined-more E v w i j).1 (inl ((are i j).0 e))),
  (λ joined. elim ((joined-more E v w i j).0 joined) [ inl old ↦ (are i j).1 old | inr on ↦ absurd (none (walk-on E w i v on.0.0 on.0.1)) ]),
)

-- no walk leads to a lower level
pub walk-levels : (E : ℕ → ℕ → Type 0) (level : ℕ → ℕ) (o p : ℕ) → AreLevels E level → Walk E o p → level o ≤ level p
walk-levels E level o p are Here = omega arith
walk-levels E level o p are (Then m q walk arc) = omega (arith, walk-levels E level o m are walk, are m q arc)

-- what reaches a found LSN from no lower level is found, or reaches a stop that is found
pub found-or-stop : (E : ℕ → ℕ → Type 0) (level : ℕ → ℕ) (stop found : ℕ → Bool) (v i p : ℕ) → AreLevels E level → IsReached E level stop found v → IsTrue (found p) → level v ≤ level i → Walk E i p →
    IsTrue (found i) ⊎ ((s : ℕ) × IsTrue (stop s) × IsTrue (found s) × Walk E i s)
found-or-stop E level stop found v i p are is held le Here = inl held
found-or-stop E level stop found v i p are is held le (Then m q walk arc) = elim (cases_Bool (stop q)) [
  | inl stops ↦ inr (q, stops, held, Then m q walk arc)
  | inr goes ↦
      let at : level m ≡ level v = omega (arith, are m q arc, walk-levels E level i m are walk, (is.sound q held).1, le) in
      found-or-stop E level stop found v i m are is (is.closed m q arc held goes at) le walk
]

-- after a complete search those on a walk from w to v are what was found of what w reaches
pub found-way : (E : ℕ → ℕ → Type 0) (node level : ℕ → ℕ) (found : ℕ → Bool) (v w i : ℕ) → AreLevels E level → IsReached E level (λ s. node s == node w) found v → AreNodes E node → AreWhole node found → level v ≤ level w →
    IsOnWay E v w i ↔ (Walk E w i × IsTrue (found i))
found-way E node level found v w i are is nodes whole le = (
  (λ way. (
    way.0,
    elim (found-or-stop E level (λ s. node s == node w) found v i v are is is.start (omega (arith, le, walk-levels E level w i are way.0)) way.1) [
      | inl held ↦ held
      | inr s ↦
          -- a stop is of w's node, so i is too, and the node is found
          let same : node s.0 ≡ node w = eqb-true (node s.0) (node w) s.1 in
          let back : Walk E s.0 i = walk-on E s.0 w i ((nodes s.0 w).0 same).0 way.0 in
          whole s.0 i ((nodes s.0 i).1 (back, s.3)) s.2
    ],
  )),
  (λ both. (both.0, (is.sound i both.1).0)),
)

-- a set that has w and follows the arcs among what was found has all that is on a walk from w to v
pub closure-way : (E : ℕ → ℕ → Type 0) (node level : ℕ → ℕ) (found taken : ℕ → Bool) (v w i : ℕ) → AreLevels E level → IsReached E level (λ s. node s == node w) found v → AreNodes E node → AreWhole node found → level v ≤ level w →
    IsTrue (taken w) → ((o p : ℕ) → E o p → IsTrue (taken o) → IsTrue (found p) → IsTrue (taken p)) → Walk E w i → IsTrue (found i) → IsTrue (taken i)
closure-way E node level found taken v w i are is nodes whole le first closed Here held = first
closure-way E node level found taken v w i are is nodes whole le first closed (Then m q walk arc) held =
    let on = (found-way E node level found v w m are is nodes whole le).0 (walk, walk-on E m q v (Then m q Here arc) (is.sound q held).0) in
    closed m q arc (closure-way E node level found taken v w m are is nodes whole le first closed walk on.1) held

-- where those on a walk from the arc's end to its start are merged, the nodes are those with the arc
pub nodes-merged : (E : ℕ → ℕ → Type 0) (node : ℕ → ℕ) (taken : ℕ → Bool) (v w one : ℕ) → AreNodes E node → ((i : ℕ) → IsTrue (taken i) ↔ IsOnWay E v w i) → IsTrue (taken one) → AreNodes (with_arc E v w) (merged taken node one)
nodes-merged E node taken v w one are way held i j =
    let on : (k : ℕ) → IsTrue (taken k) → merged taken node one k ≡ node one = λ k t. cond-true (taken k) (node one) (node k) t in
    let off : (k : ℕ) → IsFalse (taken k) → merged taken node one k ≡ node k = λ k t. cond-false (taken k) (node one) (node k) t in
    -- who is in a node with one that is taken is taken
    let with : (k l : ℕ) → Joined E k l → IsTrue (taken k) → IsTrue (taken l) = λ k l both t.
    let u = (way k).0 t in
    (way l).1 (walk-on E w k l u.0 both.0, walk-on E l k v both.1 u.1) in
    let apart : (k l : ℕ) → IsTrue (taken k) → IsFalse (taken l) → node one ≡ node l → ⊥ = λ k l t f e. both_ways _ f (with one l ((are one l).0 e) held) in (
      (λ same. (joined-more E v w i j).1 (elim (cases_Bool (taken i)) [
        | inl ti ↦ elim (cases_Bool (taken j)) [
          | inl tj ↦ inr ((way i).0 ti, (way j).0 tj)
          | inr fj ↦ absurd (apart i j ti fj (sym (on i ti) ∙ same ∙ off j fj))
        ]
        | inr fi ↦ elim (cases_Bool (taken j)) [
          | inl tj ↦ absurd (apart j i tj fi (sym (on j tj) ∙ sym same ∙ off i fi))
          | inr fj ↦ inl ((are i j).0 (sym (off i fi) ∙ same ∙ off j fj))
        ]
      ])),
      (λ joined. elim ((joined-more E v w i j).0 joined) [
        | inl old ↦ elim (cases_Bool (taken i)) [
          | inl ti ↦ on i ti ∙ sym (on j (with i j old ti))
          | inr fi ↦ elim (cases_Bool (taken j)) [
            | inl tj ↦ absurd (both_ways _ fi (with j i (old.1, old.0) tj))
            | inr fj ↦ off i fi ∙ (are i j).1 old ∙ sym (off j fj)
          ]
        ]
        | inr both ↦ on i ((way i).1 both.0) ∙ sym (on j ((way j).1 both.1))
      ]),
    )
