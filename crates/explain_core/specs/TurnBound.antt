-- How many turns a redo takes: at most twice as many as members are left, where the graph is empty.
use Rattle.std.proofs.Common.{◌≡◌, ◌∙◌, sym, subst, ap, ℕ, zero, suc, ◌+◌, ◌-◌, ◌<◌, ◌≤◌, Bool, true, false, List, [], ◌∷◌, ◌++◌, length, refl, arith, inl, inr, ◌⊎◌}
use Rattle.std.specs.Prelude.{IsTrue, max, ◌||◌, ◌&&◌, ◌==◌, ◌*◌, not, nat_le, if◌then◌else◌}
use Rattle.std.proofs.lemmas.Bool.{cases_eq, cases_Bool, both_ways, ne_eqb, eq-eqb, eqb-true, cond-true, cond-false, and_from, and_parts, ltb-true, leb-true}
use Rattle.oper_core.specs.Meaning.{Meaning}
use Rattle.install_order.specs.Computed.{some_below, least_below}
use Rattle.install_order.specs.NodeLaws.{least-is, some-gives}
use Rattle.explain_core.specs.World.{World, Step, step, run, end_of, node_named, is_redone}
use Rattle.explain_core.specs.World.Step.{Removal, Replay}
use Rattle.explain_core.specs.declared.marks.Marks.{Marks}
use Rattle.explain_core.specs.CountLaws.{count_same, count_none}
use Rattle.explain_core.specs.RunLaws.{run-append}
use Rattle.explain_core.specs.RoundGates.{Gate, gate_step, gates_of, removals_of}
use Rattle.explain_core.specs.ThinLaws.{count_some}
use Rattle.explain_core.specs.TurnLaws.{by_thin_turn}
use Rattle.explain_core.specs.Turns.{count_below, due_from, free_gates, gate_at, has_thin, has_work, is_due, is_entered, is_thin, must_install, thin_has_work, thin_name, thin_node, thin_turn, turn, turns, is_over}

abbrev bit : Bool → ℕ
bit b = if b then 1 else 0

one_le : (b c : Bool) → (c ≡ true → b ≡ true) → (if c then 1 else 0) ≤ (if b then 1 else 0)
one_le true true f = omega arith
one_le true false f = omega arith
one_le false false f = omega arith
one_le false true f = absurd (both_ways _ refl (f refl))

one_most : (b : Bool) → (if b then 1 else 0) ≤ 1
one_most true = omega arith
one_most false = omega arith

count_le : (n : ℕ) (p q : ℕ → Bool) → ((x : ℕ) → x < n → q x ≡ true → p x ≡ true) → count_below n q ≤ count_below n p
count_le zero p q f = omega arith
count_le (suc n) p q f =
    let here = one_le (p n) (q n) (f n (omega arith)) in
    let rest = count_le n p q (λ x lt. f x (omega (arith, lt))) in
    omega (arith, here, rest)

-- fewer pass where one is left out
count_drop : (n : ℕ) (p q : ℕ → Bool) (x : ℕ) → ((y : ℕ) → q y ≡ true → p y ≡ true) → x < n → p x ≡ true → q x ≡ false → count_below n q < count_below n p
count_drop zero p q x f lt here gone = absurd (omega (arith, lt))
count_drop (suc n) p q x f lt here gone = elim (cases_eq x n) [
  | inl e ↦
      let is : bit (p n) ≡ 1 = ap bit (ap p (sym e) ∙ here) in
      let no_more : bit (q n) ≡ 0 = ap bit (ap q (sym e) ∙ gone) in
      let rest = count_le n p q (λ y below. f y) in
      omega (arith, is, no_more, rest)
  | inr ne ↦
      let top = one_le (p n) (q n) (f n) in
      let rest = count_drop n p q x f (omega (arith, lt, ne)) here gone in
      omega (arith, top, rest)
]

unjoined : (a s b : Bool) → a ≡ false → ((a && s) || b) ≡ true → b ≡ true
unjoined true s b none some = absurd (both_ways _ none refl)
unjoined false s b none some = some

-- at most one more passes where one is added
count_joined : (n : ℕ) (p : ℕ → Bool) (x : ℕ) (s : Bool) → count_below n (λ k. ((k == x) && s) || p k) ≤ count_below n p + 1
count_joined zero p x s = omega arith
count_joined (suc n) p x s = elim (cases_eq n x) [
  | inl e ↦
      let rest = count_le n p (λ k. ((k == x) && s) || p k) (λ k lt. unjoined (k == x) s (p k) (ne_eqb k x (λ q. absurd (omega (arith, q, e, lt))))) in
      omega (arith, one_most (((n == x) && s) || p n), rest)
  | inr ne ↦
      let here = one_le (p n) (((n == x) && s) || p n) (unjoined (n == x) s (p n) (ne_eqb n x ne)) in
      let rest = count_joined n p x s in
      omega (arith, here, rest)
]

kept_of : (b c : Bool) → (b && c) ≡ true → b ≡ true
kept_of true c is = refl
kept_of false c is = is

left_of : (a b : Bool) → b ≡ true → (a && not b) ≡ false
left_of true true is = refl
left_of false true is = refl
left_of a false is = absurd (both_ways _ refl is)

module _ {O : Type 0} (m : Meaning O) (marks : Marks) where
  abbrev pub measure : World O → ℕ
  measure w = 2 * (end_of w - w.next) + count_below (end_of w) w.graph

  -- gates change nothing of it
  gates_keep : (w : World O) (gates : List Gate) → (measure (run m w (gates_of gates)) ≡ measure w) × (end_of (run m w (gates_of gates)) ≡ end_of w) × ((run m w (gates_of gates)).graph ≡ w.graph)
  unfolding run step
  gates_keep w [] = (refl, refl, refl)
  gates_keep w (g ∷ gates) = gates_keep (step m w (gate_step g)) gates

  -- and removals make it no greater
  removals_most : (w : World O) (gates : List Gate) → measure (run m w (removals_of gates)) ≤ measure w
  unfolding run step
  removals_most w [] = omega arith
  removals_most w (g ∷ gates) =
      let one = count_le (end_of w) w.graph (λ n. w.graph n && not (g.node n)) (λ n lt is. kept_of (w.graph n) (not (g.node n)) is) in
      let rest = removals_most (step m w (Removal g.node)) gates in
      omega (arith, one, rest)

  -- a node that has a member takes it out
  removal_drops : (w : World O) (node : ℕ → Bool) (n : ℕ) → n < end_of w → IsTrue (w.graph n) → IsTrue (node n) → measure (step m w (Removal node)) < measure w
  unfolding step
  removal_drops w node n lt held on =
      let fewer = count_drop (end_of w) w.graph (λ k. w.graph k && not (node k)) n (λ k is. kept_of (w.graph k) (not (node k)) is) lt held (left_of (w.graph n) (node n) on) in
      omega (arith, fewer)

  -- so does the first node of a round
  round_drops : (w : World O) (g : Gate) (gates : List Gate) (n : ℕ) → n < end_of w → IsTrue (w.graph n) → IsTrue (g.node n) → measure (run m w (gates_of (g ∷ gates) ++ removals_of (g ∷ gates))) < measure w
  unfolding run
  round_drops w g gates n lt held on =
      let v = run m w (gates_of (g ∷ gates)) in
      let kept = gates_keep w (g ∷ gates) in
      let first = removal_drops v g.node n (omega (arith, lt, kept.1)) (ap (λ (f : ℕ → Bool). f n) kept.2 ∙ held) on in
      let rest = removals_most (step m v (Removal g.node)) gates in
      let after = ap measure (run-append m w (gates_of (g ∷ gates)) (removals_of (g ∷ gates))) in
      omega (arith, first, rest, after, kept.0)

  -- a name that passes stands in its node
  in_node : (w : World O) (n : ℕ) → n < end_of w → IsTrue (least_below (end_of w) (node_named m w n) == n) → IsTrue (node_named m w n n)
  in_node w n lt is =
      let named = eqb-true (least_below (end_of w) (node_named m w n)) n is in
      subst (λ (k : ℕ). IsTrue (node_named m w n k)) named ((least-is (node_named m w n) (end_of w)).1 (omega (arith, named, lt)))

  abbrev any : World O → ℕ → Bool
  any w x = true

  -- where a node is due a round has a first gate
  record HasFirst (w : World O) (gates : List Gate) : Type 0 where
    pub name : ℕ
    pub rest : List Gate
    pub gates_are : gates ≡ gate_at m w name ∷ rest
    pub low : name < end_of w
    pub due : IsTrue (is_due m any w name)

  first_due : (w : World O) (t : ℕ) → IsTrue (is_due m any w t) → (most fuel k : ℕ) → 0 < most → k ≤ t → t < k + fuel → k + fuel ≡ end_of w → HasFirst w (due_from m any most fuel k w)
  first_due w t due zero fuel k some from lt e = absurd (omega (arith, some))
  first_due w t due (suc most) zero k some from lt e = absurd (omega (arith, from, lt))
  first_due w t due (suc most) (suc fuel) k some from lt e = elim (cases_Bool (is_due m any w k)) [
    | inl here ↦ record { name = k; rest = due_from m any most fuel (suc k) w; gates_are = cond-true (is_due m any w k) _ _ here; low = omega (arith, e); due = here }
    | inr off ↦
        let other : k ≡ t → ⊥ = λ same. both_ways _ off (ap (is_due m any w) same ∙ due) in
        let later = first_due w t due (suc most) fuel (suc k) some (omega (arith, from, other)) (omega (arith, lt)) (omega (arith, e)) in
        record { name = later.name; rest = later.rest; gates_are = cond-false (is_due m any w k) _ _ off ∙ later.gates_are; low = later.low; due = later.due }
  ]

  -- a thin node that has an object to flush is due
  thin_due : (w : World O) → IsTrue (has_thin m w) → IsTrue (thin_has_work m w) → IsTrue (is_due m any w (thin_name m w))
  thin_due w has some =
      let t = thin_name m w in
      let node = node_named m w t in
      let parts = and_parts (w.graph t) _ ((least-is (is_thin m w) (end_of w)).1 (ltb-true t (end_of w) has)) in
      let named = and_parts (least_below (end_of w) node == t) _ parts.1 in
      let shape = and_parts (not (is_entered m w node)) _ named.1 in
      let work = some-gives m.objects (has_work m w node) some in
      let least = count_some m.objects (has_work m w node) work.0 work.1 work.2 in
      let few = leb-true (count_below m.objects (has_work m w node)) 1 shape.1 in
      and_from (w.graph t) _ parts.0 (and_from (least_below (end_of w) node == t) _ named.0 (and_from (not (is_entered m w node)) _ shape.0
      (and_from (count_below m.objects (has_work m w node) == 1) _ (eq-eqb (count_below m.objects (has_work m w node)) 1 (omega (arith, least, few))) refl)))

  gated_drops : (w : World O) (gates : List Gate) → HasFirst w gates → measure (run m w (gates_of gates ++ removals_of gates)) < measure w
  gated_drops w gates first =
      let n = first.name in
      let parts = and_parts (w.graph n) _ first.due in
      let named = (and_parts (least_below (end_of w) (node_named m w n) == n) _ parts.1).0 in
      subst (λ (gs : List Gate). measure (run m w (gates_of gs ++ removals_of gs)) < measure w) (sym first.gates_are) (round_drops w (gate_at m w n) first.rest n first.low parts.0 (in_node w n first.low named))

  one_most_of : (most : ℕ) → 0 < max 1 most
  one_most_of most = omega arith

  pub thin_drops : (most : ℕ) (w : World O) → has_thin m w ≡ true → measure (run m w (thin_turn m most w)) < measure w
  unfolding run
  thin_drops most w has =
      let t = thin_name m w in
      let low : t < end_of w = ltb-true t (end_of w) has in
      by_thin_turn m (λ (l : List (Step O)). measure (run m w l) < measure w) most w
      (λ thin some. gated_drops w (free_gates m (max 1 most) w) (first_due w t (thin_due w thin some) (max 1 most) (end_of w) 0 (one_most_of most) (omega arith) (omega (arith, low)) (omega arith)))
      (λ thin none.
      let parts = and_parts (w.graph t) _ ((least-is (is_thin m w) (end_of w)).1 low) in
      removal_drops w (thin_node m w) t low parts.0 (in_node w t low (and_parts (least_below (end_of w) (node_named m w t) == t) _ parts.1).0))
      (λ none. absurd (both_ways _ none has))

  -- so it takes some step
  pub thin_some : (most : ℕ) (w : World O) → has_thin m w ≡ true → thin_turn m most w ≡ [] → ⊥
  unfolding run
  thin_some most w has none = let less = subst (λ (l : List (Step O)). measure (run m w l) < measure w) none (thin_drops most w has) in absurd (omega (arith, less))

  replay_drops : (w : World O) → w.next ≤ length w.history → measure (run m w (Replay ∷ [])) < measure w
  unfolding run step
  replay_drops w left = let more = count_joined (end_of w) w.graph w.next (some_below m.objects (is_redone m w)) in omega (arith, left, more)

  -- a turn ends the redo, or makes less of what is left
  turn_drops : (w : World O) → (turn m marks w ≡ []) ⊎ (measure (run m w (turn m marks w)) < measure w)
  turn_drops w =
      let replay : List (Step O) = if nat_le w.next (length w.history) then Replay ∷ [] else [] in
      elim (cases_Bool (must_install m marks w)) [
        | inl must ↦ inr (subst (λ (steps : List (Step O)). measure (run m w steps) < measure w) (sym (cond-true (must_install m marks w) (thin_turn m marks.most w) replay must)) (thin_drops marks.most w (and_parts (is_over m marks w) (has_thin m w) must).1))
        | inr enough ↦ elim (cases_Bool (nat_le w.next (length w.history))) [
          | inl left ↦ inr (subst (λ (steps : List (Step O)). measure (run m w steps) < measure w)
              (sym (cond-false (must_install m marks w) (thin_turn m marks.most w) replay enough ∙ cond-true (nat_le w.next (length w.history)) (Replay ∷ []) [] left)) (replay_drops w (leb-true w.next (length w.history) left)))
          | inr done ↦ inl (cond-false (must_install m marks w) (thin_turn m marks.most w) replay enough ∙ cond-false (nat_le w.next (length w.history)) (Replay ∷ []) [] done)
        ]
      ]

  -- after the last turn nothing is done
  pub turns_stay : (n : ℕ) (w : World O) → turn m marks w ≡ [] → turns m marks n w ≡ []
  unfolding turns run
  turns_stay zero w over = refl
  turns_stay (suc n) w over = ap (λ (steps : List (Step O)). steps ++ turns m marks n (run m w steps)) over ∙ turns_stay n w over

  -- after so many turns nothing is left
  pub turns_over : (n : ℕ) (w : World O) → measure w ≤ n → turn m marks (run m w (turns m marks n w)) ≡ []
  unfolding turns run
  turns_over zero w low = elim (turn_drops w) [
    | inl over ↦ over
    | inr less ↦ absurd (omega (arith, less, low))
  ]
  turns_over (suc n) w low = elim (turn_drops w) [
    | inl over ↦ ap (λ (steps : List (Step O)). turn m marks (run m w steps)) (turns_stay (suc n) w over) ∙ over
    | inr less ↦ ap (λ (v : World O). turn m marks v) (run-append m w (turn m marks w) (turns m marks n (run m w (turn m marks w)))) ∙ turns_over n (run m w (turn m marks w)) (omega (arith, less, low))
  ]

  -- with an empty graph there are at most twice as many turns as members are left
  pub redo_over : (w : World O) → ((n : ℕ) → w.graph n ≡ false) → turn m marks (run m w (turns m marks (2 * (end_of w - w.next)) w)) ≡ []
  redo_over w none =
      let empty : count_below (end_of w) w.graph ≡ 0 = count_same (end_of w) w.graph (λ n. false) (λ n below. none n) ∙ count_none (end_of w) in
      turns_over (2 * (end_of w - w.next)) w (omega (arith, empty))
