-- Slot gates one directly after the other: no sync stands between them, so a crash may leave any of them. What may be done in
-- their order may be done of any of them alone.
use Rattle.std.proofs.Common.{◌≡◌, ◌∙◌, sym, ap, subst, ℕ, ◌<◌, Bool, true, false, List, [], ◌∷◌, refl, inl, inr}
use Rattle.std.specs.Prelude.{◌≢◌, ◌⊎◌, ⊤, ◌||◌, ◌==◌, IsTrue, if◌then◌else◌}
use Rattle.std.proofs.lemmas.Bool.{both_ways, cases_eq, cases_order, cond-false, cond-true, eq-eqb, ne_eqb}
use Rattle.std.proofs.Math.Path.{fun_ext}
use Rattle.oper_core.specs.Cell.{Cell}
use Rattle.oper_core.specs.Meaning.{Meaning}
use Rattle.install_order.specs.NodeLaws.{walk-on}
use Rattle.install_order.specs.Order.{Access, IsLastWriter, IsNode, flush_set_of}
use Rattle.explain_core.specs.World.{AreAllowed, IsAllowed, Step, World, graph_access, step, work_of}
use Rattle.explain_core.specs.World.Step.{Slot_gate, Removal}

-- the gate of an object's slot, whose node is installed by it
pub record Gate : Type 0 where
  pub node : ℕ → Bool
  pub object : ℕ

abbrev pub gate_step : {O : Type 0} → Gate → Step O
gate_step g = Slot_gate g.node g.object

abbrev pub gates_of : {O : Type 0} → List Gate → List (Step O)
gates_of [] = []
gates_of (g ∷ gates) = gate_step g ∷ gates_of gates

-- the nodes that the gates install leave the graph
abbrev pub removals_of : {O : Type 0} → List Gate → List (Step O)
removals_of [] = []
removals_of (g ∷ gates) = Removal g.node ∷ removals_of gates

-- one of the gates
abbrev pub IsGateAmong : Gate → List Gate → Type 0
IsGateAmong h [] = ⊥
IsGateAmong h (g ∷ gates) = (h ≡ g) ⊎ IsGateAmong h gates

-- of the gates those that are chosen, in their order; past the end of the choice none
abbrev pub picked : List Bool → List Gate → List Gate
picked which [] = []
picked [] (g ∷ gates) = []
picked (true ∷ which) (g ∷ gates) = g ∷ picked which gates
picked (false ∷ which) (g ∷ gates) = picked which gates

module _ (a : Access) where
  -- two nodes with one member in common are one
  pub one_node : (f g : ℕ → Bool) (n : ℕ) → IsNode a f → IsNode a g → IsTrue (f n) → IsTrue (g n) → (k : ℕ) → IsTrue (f k) → IsTrue (g k)
  one_node f g n is_f is_g at_f at_g k in_f =
      let to = is_f.2 n at_f in
      let on = is_f.2 k in_f in
      let other = is_g.2 n at_g in
      is_g.3 k
      (walk-on a is_g.0 n k other.0 (walk-on a n is_f.0 k to.1 on.0))
      (walk-on a k n is_g.0 (walk-on a k is_f.0 n on.1 to.0) other.1)

  one_writer : (x n k : ℕ) → IsLastWriter a x n → IsLastWriter a x k → n ≡ k
  one_writer x n k last later = elim (cases_order n k) [
    | inl same ↦ same
    | inr other ↦ elim other [ inl before ↦ absurd (both_ways _ (last.1 k before) later.0) | inr after ↦ absurd (both_ways _ (later.1 n after) last.0) ]
  ]

  -- nodes that have one object to flush in common flush the same
  pub one_flush : (f g : ℕ → Bool) (x : ℕ) → IsNode a f → IsNode a g → flush_set_of a f x → flush_set_of a g x → (y : ℕ) → flush_set_of a f y → flush_set_of a g y
  one_flush f g x is_f is_g in_f in_g y more =
      let there : IsTrue (g in_f.0) = subst (λ (n : ℕ). IsTrue (g n)) (one_writer x in_g.0 in_f.0 in_g.2 in_f.2) in_g.1 in
      (more.0, one_node f g in_f.0 is_f is_g in_f.1 there more.0 more.1, more.2)

either_order : (b c d : Bool) → (b || (c || d)) ≡ (c || (b || d))
either_order true true d = refl
either_order true false d = refl
either_order false true d = refl
either_order false false d = refl

module _ {O : Type 0} (m : Meaning O) (w : World O) (g h : Gate) (first : IsAllowed m w (gate_step g)) (second : IsAllowed m (step m w (gate_step g)) (gate_step h)) where
  -- the slots after a gate
  abbrev after : Gate → ℕ → Cell
  after e y = if y == e.object then w.cache e.object else w.slots y

  there : (e : Gate) (y : ℕ) → y ≡ e.object → after e y ≡ w.cache y
  there e y same = cond-true (y == e.object) (w.cache e.object) (w.slots y) (eq-eqb y e.object same) ∙ ap w.cache (sym same)

  elsewhere : (e : Gate) (y : ℕ) → y ≢ e.object → after e y ≡ w.slots y
  elsewhere e y other = cond-false (y == e.object) (w.cache e.object) (w.slots y) (ne_eqb y e.object other)

  -- the objects are two, since the first is not dirty any more
  apart : h.object ≢ g.object
  unfolding step
  apart same = second.1.1 (ap (λ (c : Cell). c.lsn) (there g h.object same))

  -- the second may be opened first
  pub gate_first : IsAllowed m w (gate_step h)
  unfolding step
  gate_first = (
    second.0,
    (second.1.0, λ same. second.1.1 (ap (λ (c : Cell). c.lsn) (elsewhere g h.object apart) ∙ same)),
    λ y due. elim (cases_eq y g.object) [
      | inl here ↦
          let shared : flush_set_of (graph_access m w) h.node g.object = subst (λ (z : ℕ). flush_set_of (graph_access m w) h.node z) here due.0 in
          let both = one_flush (graph_access m w) h.node g.node g.object second.0.1.0 first.0.1.0 shared first.1.0 h.object second.1.0 in
          absurd (apart (first.2 h.object (both, λ same. second.1.1 (ap (λ (c : Cell). c.lsn) (elsewhere g h.object apart) ∙ same))))
      | inr other ↦ second.2 y (due.0, λ same. due.1 (sym (ap (λ (c : Cell). c.lsn) (elsewhere g y other)) ∙ same))
    ],
  )

  -- and the first after it
  pub gate_then : IsAllowed m (step m w (gate_step h)) (gate_step g)
  unfolding step
  gate_then = (
    first.0,
    (first.1.0, λ same. first.1.1 (sym (ap (λ (c : Cell). c.lsn) (elsewhere h g.object (λ e. apart (sym e)))) ∙ same)),
    λ y due. elim (cases_eq y h.object) [
      | inl here ↦ absurd (due.1 (ap (λ (c : Cell). c.lsn) (there h y here)))
      | inr other ↦ first.2 y (due.0, λ same. due.1 (ap (λ (c : Cell). c.lsn) (elsewhere h y other) ∙ same))
    ],
  )

  -- and both ways lead to one world
  pub gates_commute : step m (step m w (gate_step g)) (gate_step h) ≡ step m (step m w (gate_step h)) (gate_step g)
  unfolding step
  gates_commute =
      let slots : (λ (y : ℕ). if y == h.object then w.cache h.object else after g y) ≡ (λ (y : ℕ). if y == g.object then w.cache g.object else after h y) = fun_ext (λ (y : ℕ). elim (cases_eq y h.object) [
        | inl here ↦
            let off : y ≢ g.object = λ e. apart (sym here ∙ e) in
            cond-true (y == h.object) (w.cache h.object) (after g y) (eq-eqb y h.object here) ∙ ap w.cache (sym here)
            ∙ sym (cond-false (y == g.object) (w.cache g.object) (after h y) (ne_eqb y g.object off) ∙ there h y here)
        | inr off ↦ elim (cases_eq y g.object) [
          | inl here ↦
              cond-false (y == h.object) (w.cache h.object) (after g y) (ne_eqb y h.object off) ∙ there g y here
              ∙ sym (cond-true (y == g.object) (w.cache g.object) (after h y) (eq-eqb y g.object here) ∙ ap w.cache (sym here))
          | inr other ↦
              cond-false (y == h.object) (w.cache h.object) (after g y) (ne_eqb y h.object off) ∙ elsewhere g y other
              ∙ sym (cond-false (y == g.object) (w.cache g.object) (after h y) (ne_eqb y g.object other) ∙ elsewhere h y off)
        ]
      ]) in
      let installed : (λ (n : ℕ). h.node n || (g.node n || w.installed n)) ≡ (λ (n : ℕ). g.node n || (h.node n || w.installed n)) = fun_ext (λ (n : ℕ). either_order (h.node n) (g.node n) (w.installed n)) in
      λ i. record w { slots = slots i; installed = installed i }

module _ {O : Type 0} (m : Meaning O) where
  -- gates that may be opened after another one may be opened without it
  pub gates_without : (w : World O) (g : Gate) (gates : List Gate) → IsAllowed m w (gate_step g) → AreAllowed m (step m w (gate_step g)) (gates_of gates) → AreAllowed m w (gates_of gates)
  gates_without w g [] first may = tt
  gates_without w g (h ∷ gates) first may = (
    gate_first m w g h first may.0,
    gates_without (step m w (gate_step h)) g gates (gate_then m w g h first may.0) (subst (λ (v : World O). AreAllowed m v (gates_of gates)) (gates_commute m w g h first may.0) may.1),
  )

  -- so any of them may be opened
  pub picked_allowed : (which : List Bool) (w : World O) (gates : List Gate) → AreAllowed m w (gates_of gates) → AreAllowed m w (gates_of (picked which gates))
  picked_allowed which w [] may = tt
  picked_allowed [] w (g ∷ gates) may = tt
  picked_allowed (true ∷ which) w (g ∷ gates) may = (may.0, picked_allowed which (step m w (gate_step g)) gates may.1)
  picked_allowed (false ∷ which) w (g ∷ gates) may = picked_allowed which w gates (gates_without w g gates may.0 may.1)

-- Nodes that are minimal together: the gate of each may be opened in the world, and they flush different objects.
abbrev pub AreApart : List Gate → Type 0
AreApart [] = ⊤
AreApart (g ∷ gates) = ((h : Gate) → IsGateAmong h gates → h.object ≢ g.object) × AreApart gates

module _ {O : Type 0} (m : Meaning O) where
  -- a gate may be opened after that of another object
  still_allowed : (w : World O) (g h : Gate) → h.object ≢ g.object → IsAllowed m w (gate_step h) → IsAllowed m (step m w (gate_step g)) (gate_step h)
  unfolding step
  still_allowed w g h apart may = (
    may.0,
    (may.1.0, λ same. may.1.1 (sym (ap (λ (c : Cell). c.lsn) (cond-false (h.object == g.object) (w.cache g.object) (w.slots h.object) (ne_eqb h.object g.object apart))) ∙ same)),
    λ y due. elim (cases_eq y g.object) [
      | inl here ↦ absurd (due.1 (ap (λ (c : Cell). c.lsn) (cond-true (y == g.object) (w.cache g.object) (w.slots y) (eq-eqb y g.object here) ∙ ap w.cache (sym here))))
      | inr other ↦ may.2 y (due.0, λ same. due.1 (ap (λ (c : Cell). c.lsn) (cond-false (y == g.object) (w.cache g.object) (w.slots y) (ne_eqb y g.object other)) ∙ same))
    ],
  )

  -- so all of them may be opened, in their order
  pub round_allowed : (w : World O) (gates : List Gate) → AreApart gates → ((g : Gate) → IsGateAmong g gates → IsAllowed m w (gate_step g)) → AreAllowed m w (gates_of gates)
  round_allowed w [] differ each = tt
  round_allowed w (g ∷ gates) differ each = (
    each g (inl refl),
    round_allowed (step m w (gate_step g)) gates differ.1 (λ h there. still_allowed w g h (differ.0 h there) (each h (inr there))),
  )
