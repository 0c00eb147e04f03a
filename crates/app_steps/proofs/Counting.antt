-- How many steps are accepted, as they are counted one after the other.
use Rattle.std.proofs.Common.{◌≡◌, ◌∙◌, sym, ap, ℕ, zero, suc, ◌+◌, ◌-◌, ◌<◌, List, [], ◌∷◌, ◌++◌, replicate, refl, Option, None, Some, arith, append_assoc}
use Rattle.std.specs.Prelude.{is_some}
use Rattle.std.proofs.lemmas.Bool.{cond-true, cond-false}
use Rattle.std.proofs.lemmas.List.{append-nil, replicate-append-replicate}
use Rattle.oper_core.specs.declared.refusal.Refusal.{Refusal}
use Rattle.formats.specs.declared.params.Params.{Params}
use Rattle.op_codec.specs.AllOps.{AllOps, all_meaning}
use Rattle.store_engine.specs.Store.{refusal_after}
use Rattle.app_steps.specs.Steps.{steps, steps_accepted}

-- one step after others
pub one_behind : (k : ℕ) (op : AllOps) → replicate k op ++ op ∷ [] ≡ replicate (k + 1) op
one_behind k op = replicate-append-replicate k 1 op

module _ (p : Params) (commands : List AllOps) (op : AllOps) where
  -- a step that nothing refuses is one more, and then come those after it
  pub step_counts : (n : ℕ) → refusal_after all_meaning p commands op ≡ None → steps_accepted p commands op (suc n) ≡ suc (steps_accepted p (commands ++ op ∷ []) op n)
  step_counts n none =
      cond-false (is_some (refusal_after all_meaning p commands op)) 0 (suc (steps_accepted p (commands ++ op ∷ []) op n)) (ap (λ (o : Option Refusal). is_some o) none)

  -- after one that is refused there are none
  pub none_count : (refusal : Refusal) → refusal_after all_meaning p commands op ≡ Some refusal → (n : ℕ) → steps_accepted p commands op n ≡ 0
  none_count refusal is zero = refl
  none_count refusal is (suc n) =
      cond-true (is_some (refusal_after all_meaning p commands op)) 0 (suc (steps_accepted p (commands ++ op ∷ []) op n)) (ap (λ (o : Option Refusal). is_some o) is)

-- so many steps of a run are done, and so many are accepted as there are after these
pub record IsUnderWay (p : Params) (commands : List AllOps) (op : AllOps) (n done : ℕ) : Type 0 where
  pub left : steps_accepted p commands op n ≡ done + steps_accepted p (commands ++ replicate done op) op (n - done)

module _ (p : Params) (commands : List AllOps) (op : AllOps) (n : ℕ) where
  -- the commands after so many steps
  abbrev pub after : ℕ → List AllOps
  after done = commands ++ replicate done op

  pub begins : IsUnderWay p commands op n 0
  begins =
      let whole : n ≡ n - 0 = omega arith in
      let same = ap (λ (l : List AllOps). steps_accepted p l op n) (sym (append-nil commands)) in
      let less = ap (λ (k : ℕ). steps_accepted p (commands ++ []) op k) whole in
      record { left = omega (arith, same, less) }

  -- one more is done
  pub goes_on : (done : ℕ) → done < n → IsUnderWay p commands op n done → refusal_after all_meaning p (after done) op ≡ None → IsUnderWay p commands op n (done + 1)
  goes_on done more is none =
      let k = n - (done + 1) in
      let count : n - done ≡ suc k = omega (arith, more) in
      let next : (after done) ++ op ∷ [] ≡ after (done + 1) = append_assoc commands (replicate done op) (op ∷ []) ∙ ap (λ (l : List AllOps). commands ++ l) (one_behind done op) in
      let one : steps_accepted p (after done) op (n - done) ≡ suc (steps_accepted p (after (done + 1)) op k) =
      ap (λ (i : ℕ). steps_accepted p (after done) op i) count ∙ step_counts p (after done) op k none ∙ ap (λ (l : List AllOps). suc (steps_accepted p l op k)) next in
      record { left = omega (arith, is.left, one) }

  -- all that were asked for are done
  pub all_done : IsUnderWay p commands op n n → steps_accepted p commands op n ≡ n
  all_done is = omega (arith, is.left, ap (λ (i : ℕ). steps_accepted p (after n) op i) (nothing n))
    where
      nothing : (i : ℕ) → i - i ≡ 0
      nothing i = omega arith

  -- the next is refused
  pub all_refused : (done : ℕ) (refusal : Refusal) → IsUnderWay p commands op n done → refusal_after all_meaning p (after done) op ≡ Some refusal → steps_accepted p commands op n ≡ done
  all_refused done refusal is refused = omega (arith, is.left, none_count p (after done) op refusal refused (n - done))

  -- these steps are those that are done, and others
  behind_done : (done : ℕ) → IsUnderWay p commands op n done → steps p commands op n ≡ replicate done op ++ replicate (steps_accepted p (after done) op (n - done)) op
  behind_done done is = ap (λ (k : ℕ). replicate k op) is.left ∙ sym (replicate-append-replicate done (steps_accepted p (after done) op (n - done)) op)

  -- where nothing refuses the next, it is the first of those that are left
  left_next : (done : ℕ) → done < n → refusal_after all_meaning p (after done) op ≡ None
      → replicate (steps_accepted p (after done) op (n - done)) op ≡ op ∷ replicate (steps_accepted p (after done ++ op ∷ []) op (n - (done + 1))) op
  left_next done more none =
      let k = n - (done + 1) in
      let count : n - done ≡ suc k = omega (arith, more) in
      ap (λ (i : ℕ). replicate i op) (ap (λ (i : ℕ). steps_accepted p (after done) op i) count ∙ step_counts p (after done) op k none)

  -- or, where nothing refuses the next, this one and others
  pub behind_next : (done : ℕ) → done < n → IsUnderWay p commands op n done → refusal_after all_meaning p (after done) op ≡ None
      → steps p commands op n ≡ replicate done op ++ op ∷ replicate (steps_accepted p (after done ++ op ∷ []) op (n - (done + 1))) op
  behind_next done more is none = behind_done done is ∙ ap (λ (l : List AllOps). replicate done op ++ l) (left_next done more none)
