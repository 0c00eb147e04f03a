-- The names of nodes that may not be finished yet, as they are looked for, and what is logged of them.
use Rattle.std.proofs.Common.{◌≡◌, ◌∙◌, sym, subst, ap, ℕ, zero, suc, ◌+◌, ◌-◌, ◌<◌, ◌≤◌, Bool, List, [], ◌∷◌, ◌++◌, length, refl, arith, inl, inr, length-append, append_assoc}
use Rattle.std.specs.Prelude.{slice_get}
use Rattle.std.proofs.lemmas.Bool.{cases_eq, cases_lt}
use Rattle.std.proofs.lemmas.List.{append-nil}
use Rattle.write_graph.specs.Graph.{IsLeast, IsNodeNamed, NamesMinimal}
use Rattle.running_store.specs.Parts.{Volatile}
use Rattle.cache_manager.specs.Beside.{IsFresh}
use Rattle.cache_manager.specs.ReadyNodes.{IsReadied, IsReadyFrom, IsUnready}
use Rattle.cache_manager.specs.Thin.{IsWork}
use Rattle.cache_manager.proofs.NextNode.Planned.{rises_from_increasing, rises_same}

-- a node that may be finished is none of them
pub not_unready : (it : Volatile) (copied n : ℕ) (work : List ℕ) → ((node : ℕ → Bool) → IsNodeNamed it.entries n node → IsWork it node work) → length work ≤ 1 → IsFresh it.entries n copied work → IsUnready it copied n → ⊥
not_unready it copied n work is few fresh unready =
    let minimal = unready.1.minimal in
    let here = is minimal.0 minimal.1 in
    let other = unready.1.is_work minimal.0 minimal.1 in
    let same : work ≡ unready.0 = rises_same work unready.0 (rises_from_increasing work here.rising) (rises_from_increasing unready.0 other.rising)
    (λ y there. (other.exactly y).1 ((here.exactly y).0 there)) (λ y there. (here.exactly y).1 ((other.exactly y).0 there)) in
    elim unready.1.must [
      | inl many ↦ let long = ap length same in absurd (omega (arith, many, few, long))
      | inr has ↦ has.3 minimal.0 minimal.1 (fresh has.0 (ap (λ (l : List ℕ). slice_get l 0) same ∙ has.1) has.2 minimal.0 minimal.1)
    ]

module _ (it : Volatile) (copied : ℕ) where
  -- those from a greater LSN on are those from a lesser one, where none is between
  ready_behind : (most from next : ℕ) (names logs : List ℕ) → from ≤ next → ((k : ℕ) → from ≤ k → k < next → IsUnready it copied k → ⊥) → IsReadyFrom it copied most next names logs → IsReadyFrom it copied most from names logs
  ready_behind most from next [] logs low none is = (
    is.0,
    elim is.1 [
      | inl full ↦ inl full
      | inr over ↦ inr (λ k late unready. elim (cases_lt k next) [ inl before ↦ none k late before unready | inr after ↦ over k after unready ])
    ],
  )
  ready_behind zero from next (n ∷ names) logs low none is = absurd is
  ready_behind (suc most) from next (n ∷ names) logs low none is =
      (is.0, is.1, is.2, is.3, omega (arith, low, is.4), is.5, is.6, (λ k late before unready. elim (cases_lt k next) [ inl less ↦ none k late less unready | inr after ↦ is.7 k after before unready ]), is.8)

  -- what is left to choose after these names is chosen, so the whole is
  abbrev pub IsChosen : (most from : ℕ) (names logs : List ℕ) → Type 0
  IsChosen most from names logs = (more more_logs : List ℕ) → IsReadyFrom it copied (most - length names) from more more_logs → IsReadyFrom it copied most 0 (names ++ more) (logs ++ more_logs)

  -- before the first
  pub chosen_start : (most : ℕ) (names logs : List ℕ) → names ≡ [] → logs ≡ [] → IsChosen most 0 names logs
  chosen_start most names logs none also more more_logs is =
      let all : most - length names ≡ most = ap (λ (l : List ℕ). most - length l) none ∙ omega arith in
      subst (λ (l : List ℕ). IsReadyFrom it copied most 0 (l ++ more) (logs ++ more_logs)) (sym none) (subst (λ (l : List ℕ). IsReadyFrom it copied most 0 more (l ++ more_logs)) (sym also)
      (subst (λ (k : ℕ). IsReadyFrom it copied k 0 more more_logs) all is))

  module _ (most from : ℕ) (names logs : List ℕ) (so_far : IsChosen most from names logs) where
    module _ (n : ℕ) (least : IsLeast (λ k. (from ≤ k) × NamesMinimal it.entries k) n) where
      none_between : (k : ℕ) → from ≤ k → k < n → IsUnready it copied k → ⊥
      none_between k late before unready = let low = least.1 k (late, unready.1.minimal) in absurd (omega (arith, low, before))

      -- the next node is considered
      pub chosen_next : (later later_logs : List ℕ) → length names < most → IsReadied it copied n names logs later later_logs → IsChosen most (n + 1) later later_logs × (length later ≤ most)
      chosen_next later later_logs room is = elim is [
        | inl added ↦
            let long : length later ≡ length names + 1 = ap length added.4 ∙ length-append names (n ∷ []) in (
              λ more more_logs rest.
                  let left : most - length names ≡ suc (most - length later) = omega (arith, room, long) in
                  let next : n + 1 ≡ suc n = omega arith in
                  let here : IsReadyFrom it copied (suc (most - length later)) from (n ∷ more) (added.1 ++ more_logs) =
                  (added.0, added.1, more_logs, refl, least.0.0, added.2, added.3, none_between, subst (λ (k : ℕ). IsReadyFrom it copied (most - length later) k more more_logs) next rest) in
                  let whole = so_far (n ∷ more) (added.1 ++ more_logs) (subst (λ (k : ℕ). IsReadyFrom it copied k from (n ∷ more) (added.1 ++ more_logs)) (sym left) here) in
                  let a : names ++ n ∷ more ≡ later ++ more = sym (append_assoc names (n ∷ []) more) ∙ ap (λ (l : List ℕ). l ++ more) (sym added.4) in
                  let b : logs ++ (added.1 ++ more_logs) ≡ later_logs ++ more_logs = sym (append_assoc logs added.1 more_logs) ∙ ap (λ (l : List ℕ). l ++ more_logs) (sym added.5) in
                  subst (λ (l : List ℕ). IsReadyFrom it copied most 0 l (later_logs ++ more_logs)) a (subst (λ (l : List ℕ). IsReadyFrom it copied most 0 (names ++ n ∷ more) l) b whole),
              omega (arith, long, room),
            )
        | inr left ↦
            let long : length later ≡ length names = ap length left.1 in (
              λ more more_logs rest.
                  let same : most - length later ≡ most - length names = ap (λ (k : ℕ). most - k) long in
                  let here = subst (λ (k : ℕ). IsReadyFrom it copied k (n + 1) more more_logs) same rest in
                  let whole = so_far more more_logs (ready_behind (most - length names) from (n + 1) more more_logs (omega (arith, least.0.0))
                  (λ k late before unready. elim (cases_eq k n) [ inl here ↦ left.0 (subst (λ (j : ℕ). IsUnready it copied j) here unready) | inr other ↦ none_between k late (omega (arith, before, other)) unready ]) here) in
                  subst (λ (l : List ℕ). IsReadyFrom it copied most 0 l (later_logs ++ more_logs)) (ap (λ (l : List ℕ). l ++ more) (sym left.1))
                  (subst (λ (l : List ℕ). IsReadyFrom it copied most 0 (names ++ more) l) (ap (λ (l : List ℕ). l ++ more_logs) (sym left.2)) whole),
              omega (arith, long, room),
            )
      ]

    ended : IsReadyFrom it copied (most - length names) from [] [] → IsReadyFrom it copied most 0 names logs
    ended rest = subst (λ (l : List ℕ). IsReadyFrom it copied most 0 l logs) (append-nil names) (subst (λ (l : List ℕ). IsReadyFrom it copied most 0 (names ++ []) l) (append-nil logs) (so_far [] [] rest))

    -- there are as many as may be
    pub chosen_full : most ≤ length names → IsReadyFrom it copied most 0 names logs
    chosen_full full = ended (refl, inl (omega (arith, full)))

    -- there is no more
    pub chosen_over : ((k : ℕ) → from ≤ k → NamesMinimal it.entries k → ⊥) → IsReadyFrom it copied most 0 names logs
    chosen_over none = ended (refl, inr (λ k late unready. none k late unready.1.minimal))
