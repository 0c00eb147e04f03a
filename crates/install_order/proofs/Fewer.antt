-- The arcs that stay where a set without an edge into it is taken out.
use Rattle.std.proofs.Common.{subst, ℕ, ◌<◌, Bool, not, arith, inl, inr}
use Rattle.std.specs.Prelude.{IsTrue, IsFalse, ◌↔◌, ◌&&◌}
use Rattle.std.proofs.lemmas.Bool.{cases_eq, both_ways, and_parts, and_from, not-true, not_from_false, false_from_ne_true}
use Rattle.install_order.specs.Order.{Access, Edge, within, NoEdgeInto}
use Rattle.install_order.specs.Order.Edge.{Read_write, Write_write, Lost_version}
use Rattle.install_order.specs.Arcs.{NoneBetween, Arc}
use Rattle.install_order.specs.Arcs.Arc.{Next_write, Version_read, First_write}
use Rattle.install_order.proofs.Same.{writer-before}

abbrev pub outside : (ℕ → Bool) → ℕ → Bool
outside gone n = not (gone n)

fewer-writes : (a : Access) (gone : ℕ → Bool) (n x : ℕ) → IsFalse (a.writes n x) → IsFalse (outside gone n && a.writes n x)
fewer-writes a gone n x off = false_from_ne_true _ (λ w. both_ways _ off (and_parts (outside gone n) _ w).1)

-- where no edge leads from n into the set, and n would have an edge to q, q is outside
stays-out : (a : Access) (gone : ℕ → Bool) (o q : ℕ) → NoEdgeInto a gone → IsFalse (gone o) → Edge a o q → IsFalse (gone q)
stays-out a gone o q none out edge = false_from_ne_true _ (λ there. none o q out there edge)

still-writes : (a : Access) (gone : ℕ → Bool) (n x : ℕ) → IsFalse (gone n) → IsTrue (a.writes n x) → IsTrue (outside gone n && a.writes n x)
still-writes a gone n x out w = and_from _ _ (not_from_false _ out) w

-- an arc from outside stays
pub arc-stays : (a : Access) (gone : ℕ → Bool) (o p : ℕ) → NoEdgeInto a gone → IsFalse (gone o) → Arc a o p → Arc (within (outside gone) a) o p
arc-stays a gone o p none out (Next_write x w next) =
    let out_p = stays-out a gone o p none out (Write_write x next.0 w next.1) in
    Next_write x (still-writes a gone o x out w) (next.0, still-writes a gone p x out_p next.1, (λ q low high. fewer-writes a gone q x (next.2 q low high)))
arc-stays a gone o p none out (Version_read x later r before le wl) =
    let out_p = stays-out a gone o p none out (Lost_version x later before.0 before.1 before.2 r le wl) in
    let out_later : IsFalse (gone later) = elim (cases_eq o later) [
      | inl e ↦ subst (λ (k : ℕ). IsFalse (gone k)) e out
      | inr ne ↦ stays-out a gone o later none out (Read_write x (omega arith) r wl)
    ] in
    Version_read x later (and_from _ _ (not_from_false _ out) r) (before.0, still-writes a gone p x out_p before.1, (λ q low high. fewer-writes a gone q x (before.2 q low high))) le (still-writes a gone later x out_later wl)
arc-stays a gone o p none out (First_write x r early next) =
    let out_p = stays-out a gone o p none out (Read_write x next.0 r next.1) in
    First_write x (and_from _ _ (not_from_false _ out) r) (λ q lt. fewer-writes a gone q x (early q lt)) (next.0, still-writes a gone p x out_p next.1, (λ q low high. fewer-writes a gone q x (next.2 q low high)))

-- where o is outside, and writes x, the later writers of x are outside too
after-out : (a : Access) (gone : ℕ → Bool) (x o p : ℕ) → NoEdgeInto a gone → IsFalse (gone o) → ((q : ℕ) → o < q → IsTrue (a.writes q x) → Edge a o q) → NoneBetween (within (outside gone) a) x o p → NoneBetween a x o p
after-out a gone x o p none out edge between q low high = false_from_ne_true _ (λ w.
    both_ways _ (between q low high) (still-writes a gone q x (stays-out a gone o q none out (edge q low w)) w))

-- where o is outside and reads a version of x that is overwritten, who wrote it is outside
pub arc-was : (a : Access) (gone : ℕ → Bool) (o p : ℕ) → NoEdgeInto a gone → Arc (within (outside gone) a) o p → IsFalse (gone o) × Arc a o p
arc-was a gone o p none (Next_write x w next) =
    let s = and_parts (outside gone o) _ w in
    let t = and_parts (outside gone p) _ next.1 in
    let out = not-true _ s.0 in
    (out, Next_write x s.1 (next.0, t.1, after-out a gone x o p none out (λ q low v. Write_write x low s.1 v) next.2))
arc-was a gone o p none (Version_read x later r before le wl) =
    let s = and_parts (outside gone o) _ r in
    let t = and_parts (outside gone p) _ before.1 in
    let u = and_parts (outside gone later) _ wl in
    let out_p = not-true _ t.0 in (
      not-true _ s.0,
      Version_read x later s.1 (
        before.0,
        t.1,
        (λ q low high. false_from_ne_true _ (λ w.
            both_ways _ (before.2 q low high) (still-writes a gone q x (stays-out a gone p q none out_p (Write_write x low t.1 w)) w))),
      ) le u.1,
    )
arc-was a gone o p none (First_write x r early next) =
    let s = and_parts (outside gone o) _ r in
    let t = and_parts (outside gone p) _ next.1 in
    let out = not-true _ s.0 in
    let between = after-out a gone x o p none out (λ q low v. Read_write x low s.1 v) next.2 in (
      out,
      First_write x s.1 (elim (writer-before a x o) [
        | inl v ↦
            let out_v = stays-out a gone o v.0 none out (Lost_version x p v.1.0 v.1.1 v.1.2 s.1 (omega (arith, next.0)) t.1) in
            absurd (both_ways _ (early v.0 v.1.0) (still-writes a gone v.0 x out_v v.1.1))
        | inr nobody ↦ nobody
      ]) (next.0, t.1, between),
    )

pub arcs-left : (a : Access) (gone : ℕ → Bool) (o p : ℕ) → NoEdgeInto a gone → Arc (within (outside gone) a) o p ↔ (IsFalse (gone o) × Arc a o p)
arcs-left a gone o p none = (arc-was a gone o p none, (λ both. arc-stays a gone o p none both.0 both.1))
