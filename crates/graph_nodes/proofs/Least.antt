-- The least of several names.
use Rattle.std.proofs.Common.{◌≡◌, ◌∙◌, ap, sym, subst, ℕ, ◌+◌, ◌<◌, ◌≤◌, List, length, arith, inl, inr}
use Rattle.std.specs.Prelude.{IsTrue, ◌⊎◌, slice_index}
use Rattle.std.proofs.lemmas.Bool.{cases_eq}
use Rattle.oper_core.specs.State.{is_among}
use Rattle.graph_nodes.specs.Arcs.{name_at}
use Rattle.graph_nodes.proofs.Found.{among-place, place-among}

-- the least of the first so many, or of all that may come
pub record IsLeastSoFar (taken name : List ℕ) (i least : ℕ) : Type 0 where
  pub below : (k : ℕ) → k < i → least ≤ name_at name (slice_index taken k)
  pub from : (m : ℕ) × IsTrue (is_among m taken) × (least ≡ name_at name m)

pub least-start : (taken name : List ℕ) (m least : ℕ) → 0 < length taken → m ≡ slice_index taken 0 → least ≡ name_at name m → IsLeastSoFar taken name 0 least
least-start taken name m least some e is = record {
  below = λ k lt. absurd (omega arith);
  from = (m, subst (λ (k : ℕ). IsTrue (is_among k taken)) (sym e) (place-among taken 0 some), is);
}

pub least-on : (taken name : List ℕ) (i m old here new : ℕ) → IsLeastSoFar taken name i old → i < length taken → m ≡ slice_index taken i → here ≡ name_at name m → new ≤ old → new ≤ here → (new ≡ old) ⊎ (new ≡ here) → IsLeastSoFar taken name (i + 1) new
least-on taken name i m old here new was lt e is left right one = record {
  below = λ k low. elim (cases_eq k i) [
    | inl q ↦ let at : name_at name (slice_index taken k) ≡ here = ap (λ (j : ℕ). name_at name (slice_index taken j)) q ∙ ap (λ (j : ℕ). name_at name j) (sym e) ∙ sym is in omega (arith, at, right)
    | inr ne ↦ omega (arith, left, was.below k (omega (arith, low, ne)))
  ];
  from = elim one [
    | inl q ↦ (was.from.0, was.from.1, q ∙ was.from.2)
    | inr q ↦ (m, subst (λ (k : ℕ). IsTrue (is_among k taken)) (sym e) (place-among taken i lt), q ∙ is)
  ];
}

pub least-all : (taken name : List ℕ) (i least : ℕ) → i ≡ length taken → IsLeastSoFar taken name i least → (m : ℕ) → IsTrue (is_among m taken) → least ≤ name_at name m
least-all taken name i least e is m t = let p = among-place m taken t in omega (arith, is.below p.0 (omega (arith, p.1, e)), ap (λ (k : ℕ). name_at name k) p.2)
