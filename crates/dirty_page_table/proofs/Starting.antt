-- What stands beside an object in a list of starts.
use Rattle.std.proofs.Common.{◌≡◌, ℕ, ◌≤◌, Bool, List, [], ◌∷◌, subst, refl, sym, inl, inr, arith}
use Rattle.std.specs.Prelude.{All, IsTrue, map}
use Rattle.std.proofs.lemmas.Bool.Decides.{eqb_tells}
use Rattle.std.proofs.lemmas.List.Elements.{All-tail}
use Rattle.oper_core.specs.State.{is_among}
use Rattle.dirty_page_table.specs.RedoStarts.{start_or}

-- it is no later than any number that writes the object, if each start is the least of its object
pub start_or-least : (writes : ℕ → ℕ → Bool) (other : ℕ) (starts : List (ℕ × ℕ)) (n x : ℕ) → IsTrue (is_among x (map (λ s. s.0) starts))
    → All (λ s. (n : ℕ) → IsTrue (writes n s.0) → s.1 ≤ n) starts → IsTrue (writes n x) → start_or other starts x ≤ n
start_or-least writes other [] n x among least wrote = cc
start_or-least writes other (s ∷ starts) n x among least wrote =
    let rest = start_or-least writes other starts n x in
    let rest_least = All-tail (λ (s : ℕ × ℕ). (n : ℕ) → IsTrue (writes n s.0) → s.1 ≤ n) s starts least in
    elim (eqb_tells x s.0) [
      | inl same ↦ rw same.0 (least 0 s (omega arith) n (subst (λ (y : ℕ). IsTrue (writes n y)) same.1 wrote))
      | inr apart ↦ rw apart.0 (rest (rw apart.0 at among) rest_least wrote)
    ]

-- it writes the object, if each start writes its own
pub start_or-writes : (writes : ℕ → ℕ → Bool) (other : ℕ) (starts : List (ℕ × ℕ)) (x : ℕ) → IsTrue (is_among x (map (λ s. s.0) starts))
    → All (λ s. IsTrue (writes s.1 s.0)) starts → IsTrue (writes (start_or other starts x) x)
start_or-writes writes other [] x among all = cc
start_or-writes writes other (s ∷ starts) x among all =
    let rest = start_or-writes writes other starts x in
    let rest_all = All-tail (λ (s : ℕ × ℕ). IsTrue (writes s.1 s.0)) s starts all in
    elim (eqb_tells x s.0) [
      | inl same ↦ rw same.0 (subst (λ (y : ℕ). IsTrue (writes s.1 y)) (sym same.1) (all 0 s (omega arith)))
      | inr apart ↦ rw apart.0 (rest (rw apart.0 at among) rest_all)
    ]

-- it is the other number where nothing writes the object
pub start_or-unwritten : (writes : ℕ → ℕ → Bool) (other : ℕ) (starts : List (ℕ × ℕ)) (x : ℕ) → ((n : ℕ) → IsTrue (writes n x) → ⊥)
    → All (λ s. IsTrue (writes s.1 s.0)) starts → start_or other starts x ≡ other
start_or-unwritten writes other [] x none all = refl
start_or-unwritten writes other (s ∷ starts) x none all =
    let rest_all = All-tail (λ (s : ℕ × ℕ). IsTrue (writes s.1 s.0)) s starts all in
    elim (eqb_tells x s.0) [
      | inl same ↦ absurd (none s.1 (subst (λ (y : ℕ). IsTrue (writes s.1 y)) (sym same.1) (all 0 s (omega arith))))
      | inr apart ↦ rw apart.0 (start_or-unwritten writes other starts x none rest_all)
    ]
