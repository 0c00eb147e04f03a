-- A call by rounds under way.
use Rattle.std.proofs.Common.{◌≡◌, refl, sym, ap, ◌∙◌, ℕ, zero, suc, Bool, true, false, if◌then◌else◌, None, Result, Ok, Err, List, [], ◌∷◌, length, arith}
use Rattle.std.specs.Prelude.{◌==◌, ◌||◌}
use Rattle.std.proofs.lemmas.Bool.{eqb-true}
use Rattle.disk_model.specs.Disk.{Disk}
use Rattle.oper_core.specs.State.{State}
use Rattle.oper_core.specs.declared.bounds.Bounds.{Bounds}
use Rattle.formats.specs.Objects.{bounds_of}
use Rattle.formats.specs.declared.params.Params.{Params}
use Rattle.running_store.specs.Taking.Ending.{Done}
use Rattle.store_engine.specs.Lists.{ending_of}
use Rattle.store_calls.specs.Laws.{GoOn}
use Rattle.store_calls.specs.Making.{Reads}
use Rattle.store_calls.specs.View.{View}
use Rattle.call_plans.specs.Laws.{after_all}
use Rattle.call_plans.specs.Plan.{Plan, refused_by}
use Rattle.range_calls.specs.Answers.{cause_in, cause_of, told}
use Rattle.range_calls.specs.ComesLaws.{Plans, comes_as, comes_ended, comes_ok, comes_on, comes_passed, comes_read, comes_refused, failed, ran, state_behind, then_nothing}
use Rattle.range_calls.specs.RoundLaws.{and_then, begins_behind, tried_append}
use Rattle.range_calls.specs.Rounds.{Comes, behind, by_round, in_rounds, is_last_round, no_plan, rounds_from, tried, tried_all, tried_round}
use Rattle.range_calls.specs.Store.{Command, meaning_in, state_of}
use Rattle.range_calls.specs.declared.call_err.CallErr.{CallErr}
use Rattle.range_calls.specs.declared.call_err.CallErr.TheVariants.{Refused}
use Rattle.range_calls.specs.declared.round.Round.{Round}

module _ {R : Type 0} where
  -- a round that is refused is found so, and one that is found is told
  pub round_refused : (p : Params) (s : State) (x : Result Round R) (e : CallErr R) → Err e ≡ told x → tried_round p s x ≡ refused_by e
  round_refused p s (Ok round) e is = cc
  round_refused p s (Err refusal) e is = let same : e ≡ Refused refusal = cc is in ap (λ (f : CallErr R). (let q : Plan Command (CallErr R) = refused_by f in q)) (sym same)

  pub round_found : (x : Result Round R) (round : Round) → Ok round ≡ told x → x ≡ Ok round
  round_found (Ok other) round is = let same : round ≡ other = cc is in ap (λ (q : Round). (let r : Result Round R = Ok q in r)) (sym same)
  round_found (Err refusal) round is = cc

  module _ (p : Params) (next : State → Result Round R) where
    abbrev from : ℕ → State → Plan Command (CallErr R)
    from n s = tried p s (rounds_from (meaning_in p) next n s)

    -- what comes behind a round
    abbrev pub rest_of : ℕ → State → Result Round R → Plan Command (CallErr R)
    rest_of n s (Ok round) = tried p (after_all (meaning_in p) s round.ops) (if round.last then no_plan else rounds_from (meaning_in p) next n (after_all (meaning_in p) s round.ops))
    rest_of n s (Err refusal) = no_plan

    pub first_round : (n : ℕ) (s : State) → and_then (tried_round p s (next s)) (rest_of n s (next s)) ≡ from (suc n) s
    first_round n s = by_next (next s)
      where
        by_next : (x : Result Round R) → and_then (tried_round p s x) (rest_of n s x) ≡ tried p s (by_round (λ ops. rounds_from (meaning_in p) next n (after_all (meaning_in p) s ops)) x)
        by_next (Ok round) =
            let tail : Plan Command R = if round.last then no_plan else rounds_from (meaning_in p) next n (after_all (meaning_in p) s round.ops) in
            tried_append p s round.ops tail.commands _
        by_next (Err refusal) = refl

    -- a round behind which the call goes on
    pub round_goes_on : (n : ℕ) (s : State) → is_last_round (next s) ≡ false
        → and_then (tried_round p s (next s)) (from n (after_all (meaning_in p) s (tried_round p s (next s)).commands)) ≡ from (suc n) s
    round_goes_on n s last = by_next (next s) last ∙ first_round n s
      where
        not_last : (a b : Bool) → (a || b) ≡ false → a ≡ false
        not_last false b is = refl
        not_last true b is = cc

        by_next : (x : Result Round R) → is_last_round x ≡ false → and_then (tried_round p s x) (from n (after_all (meaning_in p) s (tried_round p s x).commands)) ≡ and_then (tried_round p s x) (rest_of n s x)
        by_next (Ok round) last =
            begins_behind p s round.ops (from n)
            ∙ ap (λ (t : Bool). and_then (tried_all p s round.ops None) (tried p (after_all (meaning_in p) s round.ops) (if t then no_plan else rounds_from (meaning_in p) next n (after_all (meaning_in p) s round.ops))))
            (sym (not_last round.last (length round.ops == 0) last))
        by_next (Err refusal) last = refl

    -- a round that ends the call: behind one without commands all are without
    idle : (n : ℕ) (s : State) (round : Round) → next s ≡ Ok round → round.ops ≡ [] → rounds_from (meaning_in p) next n s ≡ no_plan
    idle zero s round is none = refl
    idle (suc n) s round is none =
        ap (by_round (λ ops. rounds_from (meaning_in p) next n (after_all (meaning_in p) s ops))) is
        ∙ ap (λ (l : List Command). behind l (if round.last then no_plan else rounds_from (meaning_in p) next n (after_all (meaning_in p) s l))) none
        ∙ by_last round.last (idle n s round is none)
      where
        by_last : (t : Bool) → rounds_from (meaning_in p) next n s ≡ no_plan → behind [] (if t then no_plan else rounds_from (meaning_in p) next n s) ≡ no_plan
        by_last true rest = refl
        by_last false rest = ap (behind []) rest

    pub round_ends : (n : ℕ) (s : State) → is_last_round (next s) ≡ true → tried_round p s (next s) ≡ from (suc n) s
    round_ends n s last = sym (then_nothing (tried_round p s (next s))) ∙ by_next (next s) refl last ∙ first_round n s
      where
        is_empty : (l : List Command) → (length l == 0) ≡ true → l ≡ []
        is_empty [] is = refl
        is_empty (op ∷ l) is = absurd (omega (arith, eqb-true (length (op ∷ l)) 0 is))

        nothing_behind : (round : Round) → next s ≡ Ok round → (t : Bool) → (t || (length round.ops == 0)) ≡ true
            → no_plan ≡ tried p (after_all (meaning_in p) s round.ops) (if t then no_plan else rounds_from (meaning_in p) next n (after_all (meaning_in p) s round.ops))
        nothing_behind round is true last = refl
        nothing_behind round is false last =
            let none = is_empty round.ops last in
            ap (tried p s) (sym (idle n s round is none)) ∙ ap (λ (l : List Command). from n (after_all (meaning_in p) s l)) (sym none)

        by_next : (x : Result Round R) → next s ≡ x → is_last_round x ≡ true → and_then (tried_round p s x) no_plan ≡ and_then (tried_round p s x) (rest_of n s x)
        by_next (Ok round) is last = ap (and_then (tried_all p s round.ops None)) (nothing_behind round is round.last last)
        by_next (Err refusal) is last = refl

  abbrev pub step : (Bounds → State → Result Round R) → Plans R
  step next p commands = tried_round p (state_of p commands) (next (bounds_of p) (state_of p commands))

  -- of a call by rounds
  module _ {S T : Type 0} (view : View Command S) (disk : T → Disk) (next : Bounds → State → Result Round R) where
    abbrev pub IsLast : T → S → Bool → Type 0
    IsLast old before last = (p : Params) (commands : List Command) → view.holds p (disk old) before commands → last ≡ is_last_round (next (bounds_of p) (state_of p commands))

    abbrev pub IsTold : T → S → Result Round (CallErr R) → Type 0
    IsTold old before r = (p : Params) (commands : List Command) → view.holds p (disk old) before commands → ending_of (cause_in r) ≡ Done → r ≡ told (next (bounds_of p) (state_of p commands))

    module _ (old mid : T) (before between : S) where
      -- no round is found
      pub none_found : {V : Type 0} (r : Result V (CallErr R)) (e : CallErr R) → r ≡ Err e → Reads view (disk old) (disk mid) before between (cause_of e) → IsTold old before (Err e)
          → Comes view (disk old) (disk mid) before between (step next) r
      none_found r e is reads answer =
          comes_refused view (step next) r e is reads
          (λ p commands holds done.
          let s = state_of p commands in
          round_refused p s (next (bounds_of p) s) e (answer p commands holds done))

      -- the commands of the round that is found
      pub found_ran : {V : Type 0} → GoOn view disk → (new : T) (after : S) (round : Round) (r : Result V (CallErr R)) → Reads view (disk old) (disk mid) before between None → IsTold old before (Ok round)
          → Comes view (disk mid) (disk new) between after (ran round.ops) r → Comes view (disk old) (disk new) before after (step next) r
      found_ran laws new after round r reads answer =
          comes_read view disk laws old mid new before between after (ran round.ops) (step next) r reads
          (λ p commands holds.
          let s = state_of p commands in
          sym (ap (tried_round p s) (round_found (next (bounds_of p) s) round (answer p commands holds refl))))

      pub found_last : (round : Round) → IsTold old before (Ok round) → IsLast old before (round.last || (length round.ops == 0))
      found_last round answer p commands holds = sym (ap is_last_round (round_found (next (bounds_of p) (state_of p commands)) round (answer p commands holds refl)))

    module _ (old mid : T) (before between : S) (n : ℕ) where
      pub rounds_go_on : {V : Type 0} → GoOn view disk → (new : T) (after : S) (r : Result V (CallErr R)) → IsLast old before false
          → (flag : Bool) → Comes view (disk old) (disk mid) before between (step next) (Ok flag) → Comes view (disk mid) (disk new) between after (in_rounds next n) r
          → Comes view (disk old) (disk new) before after (in_rounds next (suc n)) r
      rounds_go_on laws new after r last flag done more =
          comes_on view disk laws old mid new before between after (step next) (in_rounds next n) (in_rounds next (suc n)) flag r
          (λ p commands holds.
          let q = step next p commands in
          ap (λ (s : State). and_then q (tried p s (rounds_from (meaning_in p) (next (bounds_of p)) n s))) (state_behind p commands q.commands)
          ∙ round_goes_on p (next (bounds_of p)) n (state_of p commands) (sym (last p commands holds))) done more

      pub rounds_end : {V : Type 0} (value : V) → IsLast old before true → (flag : Bool) → Comes view (disk old) (disk mid) before between (step next) (Ok flag)
          → Comes view (disk old) (disk mid) before between (in_rounds next (suc n)) (Ok value)
      rounds_end value last flag done =
          comes_ok view value (comes_as view (step next) (in_rounds next (suc n)) (Ok flag) (λ p commands holds. round_ends p (next (bounds_of p)) n (state_of p commands) (sym (last p commands holds))) done)

      pub rounds_fail : {U V : Type 0} (r : Result V (CallErr R)) (e : CallErr R) → r ≡ Err e → Comes view (disk old) (disk mid) before between (step next) (failed U e)
          → Comes view (disk old) (disk mid) before between (in_rounds next (suc n)) r
      rounds_fail {U} {V} r e is failed =
          comes_passed view {V = U} r e is (comes_ended view {U = U} {V = U} (step next) (in_rounds next (suc n)) e (λ p commands. rest_of p (next (bounds_of p)) n (state_of p commands) (next (bounds_of p) (state_of p commands)))
          (λ p commands holds. first_round p (next (bounds_of p)) n (state_of p commands)) failed)

    -- what comes of the rounds that are left is what comes of the call
    abbrev pub LeadsOn : (V : Type 0) → T → T → S → S → ℕ → ℕ → Type 0
    LeadsOn V old mid before between most left = (new : T) (after : S) (r : Result V (CallErr R)) → Comes view (disk mid) (disk new) between after (in_rounds next left) r → Comes view (disk old) (disk new) before after (in_rounds next most) r
