-- A graph is made anew, slot by slot.
use Rattle.std.proofs.Common.{◌≡◌, ◌∙◌, ap, sym, subst, ℕ, zero, suc, ◌<◌, Bool, List, [], ◌∷◌, ◌++◌, length, take, get_or, All, arith, inl, inr}
use Rattle.std.specs.Prelude.{IsTrue, IsFalse, slice_index}
use Rattle.std.proofs.lemmas.Bool.{cases_Bool}
use Rattle.std.proofs.lemmas.List.Elements.{All-nil, All-cons}
use Rattle.install_order.specs.declared.entry.Entry.{Entry}
use Rattle.write_graph.specs.Graph.{lsns}
use Rattle.write_graph.specs.Cells.{chosen_entries}
use Rattle.write_graph.proofs.Numbers.{chosen-here, chosen-off}

-- the next slot passes: its entry is one more
pub chosen-next : (t : ℕ → Bool) (entries : List Entry) (i : ℕ) (d : Entry) → i < length entries → IsTrue (t i) → chosen_entries t (take (suc i) entries) ≡ chosen_entries t (take i entries) ++ get_or entries i d ∷ []
chosen-next t [] i d lt there = absurd (omega (arith, lt))
chosen-next t (e ∷ entries) zero d lt there = chosen-here t e [] there
chosen-next t (e ∷ entries) (suc i) d lt there =
    let rest = chosen-next (λ k. t (suc k)) entries i d (omega (arith, lt)) there in
    elim (cases_Bool (t zero)) [
      | inl here ↦ chosen-here t e (take (suc i) entries) here ∙ ap (λ (es : List Entry). e ∷ es) rest ∙ ap (λ (es : List Entry). es ++ get_or entries i d ∷ []) (sym (chosen-here t e (take i entries) here))
      | inr off ↦ chosen-off t e (take (suc i) entries) off ∙ rest ∙ ap (λ (es : List Entry). es ++ get_or entries i d ∷ []) (sym (chosen-off t e (take i entries) off))
    ]

-- the next slot does not pass
pub chosen-past : (t : ℕ → Bool) (entries : List Entry) (i : ℕ) → i < length entries → IsFalse (t i) → chosen_entries t (take (suc i) entries) ≡ chosen_entries t (take i entries)
chosen-past t [] i lt out = absurd (omega (arith, lt))
chosen-past t (e ∷ entries) zero lt out = chosen-off t e [] out
chosen-past t (e ∷ entries) (suc i) lt out =
    let rest = chosen-past (λ k. t (suc k)) entries i (omega (arith, lt)) out in
    elim (cases_Bool (t zero)) [
      | inl here ↦ chosen-here t e (take (suc i) entries) here ∙ ap (λ (es : List Entry). e ∷ es) rest ∙ sym (chosen-here t e (take i entries) here)
      | inr off ↦ chosen-off t e (take (suc i) entries) off ∙ rest ∙ sym (chosen-off t e (take i entries) off)
    ]

-- what was chosen before a slot has LSNs below m, if the slots that pass have
pub chosen-below : (t : ℕ → Bool) (entries : List Entry) (i m : ℕ) → ((j : ℕ) → IsTrue (t j) → j < i → j < length entries → slice_index (lsns entries) j < m) → All (λ n. n < m) (lsns (chosen_entries t (take i entries)))
chosen-below t [] zero m low = All-nil (λ n. n < m)
chosen-below t [] (suc i) m low = All-nil (λ n. n < m)
chosen-below t (e ∷ entries) zero m low = All-nil (λ n. n < m)
chosen-below t (e ∷ entries) (suc i) m low =
    let rest = chosen-below (λ k. t (suc k)) entries i m (λ j there lt below. low (suc j) there (omega (arith, lt)) (omega (arith, below))) in
    elim (cases_Bool (t zero)) [
      | inl here ↦ subst (λ (es : List Entry). All (λ n. n < m) (lsns es)) (sym (chosen-here t e (take i entries) here)) (All-cons (λ n. n < m) e.lsn (lsns (chosen_entries (λ k. t (suc k)) (take i entries))) (low zero here (omega arith) (omega arith)) rest)
      | inr off ↦ subst (λ (es : List Entry). All (λ n. n < m) (lsns es)) (sym (chosen-off t e (take i entries) off)) rest
    ]
