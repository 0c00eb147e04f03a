-- The names of nodes that are due, as they are looked for.
use Rattle.std.proofs.Common.{◌≡◌, ◌∙◌, sym, subst, ap, ℕ, zero, suc, ◌+◌, ◌-◌, ◌<◌, ◌≤◌, ◌⊎◌, Bool, List, [], ◌∷◌, ◌++◌, length, take, refl, arith, inl, inr, Option, None, Some, length-append, append_assoc}
use Rattle.std.specs.Prelude.{IfNone, IfSome, slice_get}
use Rattle.std.proofs.lemmas.Bool.{cases_eq, cases_lt}
use Rattle.std.proofs.lemmas.List.{append-nil}
use Rattle.write_graph.specs.Graph.{IsLeast, IsNodeNamed, NamesMinimal}
use Rattle.running_store.specs.Parts.{Volatile}
use Rattle.cache_manager.specs.Beside.{HasCopied, IsFresh}
use Rattle.cache_manager.specs.DueNodes.{IsConsidered, IsDueFor, IsRoundFrom, NamesDue}
use Rattle.cache_manager.specs.Thin.{IsWork}
use Rattle.cache_manager.specs.Told.{listed}
use Rattle.cache_manager.proofs.NextNode.Planned.{rises_from_increasing, rises_same}

-- a list of at most one is its first
one_first : (work : List ℕ) → length work ≤ 1 → take 1 work ≡ work
one_first [] few = refl
one_first (x ∷ []) few = refl
one_first (x ∷ y ∷ work) few = absurd (omega (arith, few))

module _ (it : Volatile) (copied n : ℕ) (minimal : NamesMinimal it.entries n) (work : List ℕ) (is : (node : ℕ → Bool) → IsNodeNamed it.entries n node → IsWork it node work) where
  -- the node is due for what its work is alone
  work_due : (x : ℕ) → IsDueFor it copied n x → work ≡ x ∷ []
  work_due x due =
      let here = is minimal.0 minimal.1 in
      let other = due.work minimal.0 minimal.1 in
      rises_same work (x ∷ []) (rises_from_increasing work here.rising) (rises_from_increasing (x ∷ []) other.rising)
      (λ y there. (other.exactly y).1 ((here.exactly y).0 there)) (λ y there. (here.exactly y).1 ((other.exactly y).0 there))

  -- it may not be finished
  pub not_due : (1 < length work) ⊎ HasCopied it.entries n copied work → NamesDue it copied n → ⊥
  not_due must due =
      let same = work_due due.0 due.1 in
      elim must [
        | inl many ↦ let one = ap length same in absurd (omega (arith, many, one))
        | inr has ↦ has.3 minimal.0 minimal.1 (due.1.fresh has.0 (ap (λ (l : List ℕ). slice_get l 0) (sym same) ∙ has.1) has.2 minimal.0 minimal.1)
      ]

  -- it may
  module _ (few : length work ≤ 1) (fresh : IsFresh it.entries n copied work) where
    due_for : (o : Option ℕ) → listed o ≡ work → IfSome o (λ x. IsDueFor it copied n x)
    due_for None same = tt
    due_for (Some x) same = record {
      minimal = minimal;
      work = λ node named. subst (λ (l : List ℕ). IsWork it node l) (sym same) (is node named);
      fresh = subst (λ (l : List ℕ). IsFresh it.entries n copied l) (sym same) fresh;
    }

    due_none : (o : Option ℕ) → listed o ≡ work → IfNone o (NamesDue it copied n → ⊥)
    due_none None same = λ due. let one = ap length (same ∙ work_due due.0 due.1) in absurd (omega (arith, one))
    due_none (Some x) same = tt

    pub first_due : (o : Option ℕ) → listed o ≡ take 1 work → IfSome o (λ x. IsDueFor it copied n x) × IfNone o (NamesDue it copied n → ⊥)
    first_due o first = let same = first ∙ one_first work few in (due_for o same, due_none o same)

module _ (it : Volatile) (copied : ℕ) where
  -- those from a greater LSN on are those from a lesser one, where none is between
  pub round_behind : (most from next : ℕ) (names objects : List ℕ) → from ≤ next → ((k : ℕ) → from ≤ k → k < next → NamesDue it copied k → ⊥) → IsRoundFrom it copied most next names objects → IsRoundFrom it copied most from names objects
  round_behind most from next [] [] low none is = elim is [
    | inl full ↦ inl full
    | inr over ↦ inr (λ k late due. elim (cases_lt k next) [ inl before ↦ none k late before due | inr after ↦ over k after due ])
  ]
  round_behind most from next [] (x ∷ objects) low none is = absurd is
  round_behind most from next (n ∷ names) [] low none is = absurd is
  round_behind zero from next (n ∷ names) (x ∷ objects) low none is = absurd is
  round_behind (suc most) from next (n ∷ names) (x ∷ objects) low none is =
      (omega (arith, low, is.0), is.1, λ k late before due. elim (cases_lt k next) [ inl less ↦ none k late less due | inr after ↦ is.2 k after before due ], is.3)

  -- what is left to choose after these names is chosen, so the whole is
  abbrev pub IsChosen : (most from : ℕ) (names objects : List ℕ) → Type 0
  IsChosen most from names objects = (more more_objects : List ℕ) → IsRoundFrom it copied (most - length names) from more more_objects → IsRoundFrom it copied most 0 (names ++ more) (objects ++ more_objects)

  -- before the first
  pub chosen_start : (most : ℕ) (names objects : List ℕ) → names ≡ [] → objects ≡ [] → IsChosen most 0 names objects
  chosen_start most names objects none also more more_objects is =
      let all : most - length names ≡ most = ap (λ (l : List ℕ). most - length l) none ∙ omega arith in
      subst (λ (l : List ℕ). IsRoundFrom it copied most 0 (l ++ more) (objects ++ more_objects)) (sym none) (subst (λ (l : List ℕ). IsRoundFrom it copied most 0 more (l ++ more_objects)) (sym also)
      (subst (λ (k : ℕ). IsRoundFrom it copied k 0 more more_objects) all is))

  module _ (most from : ℕ) (names objects : List ℕ) (so_far : IsChosen most from names objects) where
    module _ (n : ℕ) (least : IsLeast (λ k. (from ≤ k) × NamesMinimal it.entries k) n) where
      none_between : (k : ℕ) → from ≤ k → k < n → NamesDue it copied k → ⊥
      none_between k late before due = let low = least.1 k (late, due.1.minimal) in absurd (omega (arith, low, before))

      -- the next node is considered
      pub chosen_next : (later later_objects : List ℕ) → length names < most → IsConsidered it copied n names objects later later_objects → IsChosen most (n + 1) later later_objects × (length later ≤ most)
      chosen_next later later_objects room is = elim is [
        | inl added ↦
            let long : length later ≡ length names + 1 = ap length added.2 ∙ length-append names (n ∷ []) in (
              λ more more_objects rest.
                  let left : most - length names ≡ suc (most - length later) = omega (arith, room, long) in
                  let next : n + 1 ≡ suc n = omega arith in
                  let here : IsRoundFrom it copied (suc (most - length later)) from (n ∷ more) (added.0 ∷ more_objects) =
                  (least.0.0, added.1, none_between, subst (λ (k : ℕ). IsRoundFrom it copied (most - length later) k more more_objects) next rest) in
                  let whole = so_far (n ∷ more) (added.0 ∷ more_objects) (subst (λ (k : ℕ). IsRoundFrom it copied k from (n ∷ more) (added.0 ∷ more_objects)) (sym left) here) in
                  let a : names ++ n ∷ more ≡ later ++ more = sym (append_assoc names (n ∷ []) more) ∙ ap (λ (l : List ℕ). l ++ more) (sym added.2) in
                  let b : objects ++ added.0 ∷ more_objects ≡ later_objects ++ more_objects = sym (append_assoc objects (added.0 ∷ []) more_objects) ∙ ap (λ (l : List ℕ). l ++ more_objects) (sym added.3) in
                  subst (λ (l : List ℕ). IsRoundFrom it copied most 0 l (later_objects ++ more_objects)) a (subst (λ (l : List ℕ). IsRoundFrom it copied most 0 (names ++ n ∷ more) l) b whole),
              omega (arith, long, room),
            )
        | inr left ↦
            let long : length later ≡ length names = ap length left.1 in (
              λ more more_objects rest.
                  let same : most - length later ≡ most - length names = ap (λ (k : ℕ). most - k) long in
                  let here = subst (λ (k : ℕ). IsRoundFrom it copied k (n + 1) more more_objects) same rest in
                  let whole = so_far more more_objects (round_behind (most - length names) from (n + 1) more more_objects (omega (arith, least.0.0))
                  (λ k late before due. elim (cases_eq k n) [ inl same ↦ left.0 (subst (λ (j : ℕ). NamesDue it copied j) same due) | inr other ↦ none_between k late (omega (arith, before, other)) due ]) here) in
                  subst (λ (l : List ℕ). IsRoundFrom it copied most 0 l (later_objects ++ more_objects)) (ap (λ (l : List ℕ). l ++ more) (sym left.1))
                  (subst (λ (l : List ℕ). IsRoundFrom it copied most 0 (names ++ more) l) (ap (λ (l : List ℕ). l ++ more_objects) (sym left.2)) whole),
              omega (arith, long, room),
            )
      ]

    ended : IsRoundFrom it copied (most - length names) from [] [] → IsRoundFrom it copied most 0 names objects
    ended rest = subst (λ (l : List ℕ). IsRoundFrom it copied most 0 l objects) (append-nil names) (subst (λ (l : List ℕ). IsRoundFrom it copied most 0 (names ++ []) l) (append-nil objects) (so_far [] [] rest))

    -- there are as many as may be
    pub chosen_full : most ≤ length names → IsRoundFrom it copied most 0 names objects
    chosen_full full = ended (inl (omega (arith, full)))

    -- there is no more
    pub chosen_over : ((k : ℕ) → from ≤ k → NamesMinimal it.entries k → ⊥) → IsRoundFrom it copied most 0 names objects
    chosen_over none = ended (inr (λ k late due. none k late due.1.minimal))
