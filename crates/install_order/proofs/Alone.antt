-- A last blind write of one object is a node of its own.
use Rattle.std.proofs.Common.{◌≡◌, subst, ℕ, Bool, refl}
use Rattle.std.specs.Prelude.{IsTrue}
use Rattle.std.proofs.lemmas.Bool.{both_ways}
use Rattle.install_order.specs.Order.{Access, Edge, Reaches, IsNode, IsLastBlindWrite}
use Rattle.install_order.specs.Order.Edge.{Read_write, Write_write, Lost_version}
use Rattle.install_order.specs.Order.Reaches.{Here, Then}

no-edge-from : (a : Access) (x n p : ℕ) → IsLastBlindWrite a x n → Edge a n p → ⊥
no-edge-from a x n p b (Read_write y lt r w) = both_ways _ (b.reads y) r
no-edge-from a x n p b (Write_write y lt r w) = both_ways _ (b.last p lt) (subst (λ (z : ℕ). IsTrue (a.writes p z)) (b.only y r) w)
no-edge-from a x n p b (Lost_version y later lt w none r le wl) = both_ways _ (b.reads y) r

walk-from : (a : Access) (x n p : ℕ) → IsLastBlindWrite a x n → Reaches a n p → p ≡ n
walk-from a x n p b Here = refl
walk-from a x n p b (Then m q walk edge) = absurd (no-edge-from a x n q b (subst (λ (z : ℕ). Edge a z q) (walk-from a x n m b walk) edge))

pub last-blind-alone : (a : Access) (x n p : ℕ) (node : ℕ → Bool) → IsLastBlindWrite a x n → IsNode a node → IsTrue (node n) → IsTrue (node p) → p ≡ n
last-blind-alone a x n p node b is here there =
    let name : is.0 ≡ n = walk-from a x n is.0 b (is.2 n here).1 in
    walk-from a x n p b (subst (λ (z : ℕ). Reaches a z p) name (is.2 p there).0)
