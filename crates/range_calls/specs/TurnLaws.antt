-- The commands of a call, one after the other.
use Rattle.std.proofs.Common.{◌≡◌, ◌≤◌, ◌<◌, refl, sym, ap, ◌∙◌, ◌⊎◌, inl, inr, ℕ, suc, true, false, Option, None, Some, Ok, Err, List, [], ◌∷◌, ◌++◌, map, option_map, append-nil, append_assoc, arith}
use Rattle.std.proofs.lemmas.Bool.{cases_lt}
use Rattle.std.proofs.lemmas.List.{map-append}
use Rattle.std.proofs.lemmas.List.Sums.{fold-append}
use Rattle.oper_core.specs.State.{State, start}
use Rattle.oper_core.specs.Meaning.{Meaning, after}
use Rattle.oper_core.specs.declared.refusal.Refusal.TheVariants.{TooLarge}
use Rattle.formats.specs.Objects.{bounds_of}
use Rattle.formats.specs.declared.params.Params.{Params}
use Rattle.op_codec.specs.AllOps.{all_meaning}
use Rattle.execution.specs.declared.exec_err.ExecErr.TheVariants as exec
use Rattle.call_plans.specs.Plan.{Next, goes_on, ends, refuses, Plan, plan_next, plan_from, one_command}
use Rattle.range_calls.specs.Answers.{made_of, refused_in, refused_of}
use Rattle.range_calls.specs.MakeLaws.{made_wide, made_narrow, made_none, refused_wide, refused_narrow}
use Rattle.range_calls.specs.Store.{Command, state_of}
use Rattle.range_calls.specs.Turns.{is_last, turn_answer, turn_plan}
use Rattle.range_calls.specs.declared.call_err.CallErr.{CallErr}
use Rattle.range_calls.specs.declared.call_err.CallErr.TheVariants.{Refused, Exec}
use Rattle.range_calls.specs.declared.turn.Turn.{Turn}

-- where a front was made, values are wide
abbrev pub IsWide : {O : Type 0} → ℕ → List O → Type 0
IsWide {O} room front = (front ≡ []) ⊎ (1024 ≤ room)

made_front : {O : Type 0} (kind : O → Command) (room : ℕ) (front : List O) → IsWide room front → made_of room (map kind front) ≡ map kind front
made_front {O} kind room front (inl none) = ap (λ (l : List O). made_of room (map kind l)) none ∙ made_none room ∙ sym (ap (map kind) none)
made_front {O} kind room front (inr wide) = made_wide room (map kind front) wide

refused_front : {O R : Type 0} (room : ℕ) (front : List O) (planned : Option (CallErr R)) → IsWide room front → refused_of room front planned ≡ planned
refused_front room [] planned wide = refl
refused_front room (x ∷ front) planned (inl none) = cc
refused_front room (x ∷ front) planned (inr wide) = refused_wide room x front planned wide

module _ {O R : Type 0} (kind : O → Command) where
  -- a turn that is refused
  pub record IsRefusedTurn (next : Next O R) (e : CallErr R) : Type 0 where
    pub refusal : R
    pub is : next ≡ refuses refusal
    pub error : e ≡ Refused refusal

  pub refused_turn : (next : Next O R) (e : CallErr R) → Err e ≡ turn_answer kind next → IsRefusedTurn next e
  refused_turn (goes_on op) e is = cc
  refused_turn (ends op) e is = cc
  refused_turn (refuses refusal) e is = record { refusal = refusal; is = refl; error = cc is }

  -- a turn that is found
  pub record IsFoundTurn (next : Next O R) (turn : Turn) : Type 0 where
    pub plan : map kind (turn_plan next).commands ≡ turn.op ∷ []
    pub alone : (cap : ℕ) → refused_in cap (turn_plan next) ≡ refused_of cap (turn.op ∷ []) None
    pub last : turn.last ≡ is_last next

  pub found_turn : (next : Next O R) (turn : Turn) → Ok turn ≡ turn_answer kind next → IsFoundTurn next turn
  found_turn (goes_on op) turn is =
      let same : turn ≡ record { op = kind op; last = false } = cc is in
      record { plan = ap (λ (t : Turn). t.op ∷ []) (sym same); alone = λ cap. refl; last = ap (λ (t : Turn). t.last) same }
  found_turn (ends op) turn is =
      let same : turn ≡ record { op = kind op; last = true } = cc is in
      record { plan = ap (λ (t : Turn). t.op ∷ []) (sym same); alone = λ cap. refl; last = ap (λ (t : Turn). t.last) same }
  found_turn (refuses refusal) turn is = cc

  -- what a turn makes that is refused: nothing
  pub refused_made : (cap : ℕ) (next : Next O R) (e : CallErr R) → IsRefusedTurn next e → (rest : List Command) → rest ≡ [] → made_of cap (map kind (turn_plan next).commands) ++ rest ≡ []
  refused_made cap next e is rest none =
      ap (λ (x : Next O R). made_of cap (map kind (turn_plan x).commands) ++ rest) is.is ∙ ap (λ (l : List Command). l ++ rest) (made_none cap) ∙ none

  pub refused_answer : (cap : ℕ) (next : Next O R) (e : CallErr R) → IsRefusedTurn next e → Some e ≡ refused_in cap (turn_plan next)
  refused_answer cap next e is = ap (λ (x : CallErr R). Some x) is.error ∙ sym (ap (λ (x : Next O R). refused_in cap (turn_plan x)) is.is)

  -- these commands in front of a plan
  abbrev pub with_front : List O → Plan O R → Plan O R
  with_front front plan = record { commands = front ++ plan.commands; refusal = plan.refusal }

module _ {O R : Type 0} (kind : O → Command) (p : Params) (m : Meaning O) (means : (s : State) (op : O) → after (all_meaning (bounds_of p)) s (kind op) ≡ after m s op)
    (next : State → Next O R) (most : ℕ) (commands : List Command) where
  -- the state after one command more
  state_after_one : (l : List Command) (op : O) → state_of p (l ++ kind op ∷ []) ≡ after m (state_of p l) op
  state_after_one l op = fold-append (after (all_meaning (bounds_of p))) start l (kind op ∷ []) ∙ means (state_of p l) op

  abbrev pub whole_plan : Plan O R
  whole_plan = plan_from m next most (state_of p commands)

  -- A front of the plan's commands is made, and so many turns are left.
  pub record IsGoing (front : List O) (left : ℕ) : Type 0 where
    pub plan : whole_plan ≡ with_front kind front (plan_from m next left (state_of p (commands ++ map kind front)))
    pub wide : IsWide p.cap front

  pub going_begins : IsGoing [] most
  going_begins = record { plan = ap (λ (l : List Command). with_front kind [] (plan_from m next most (state_of p l))) (sym (append-nil commands)); wide = inl refl }

  module _ (front : List O) (n : ℕ) (going : IsGoing front (suc n)) where
    abbrev pub here : List Command
    here = commands ++ map kind front

    abbrev pub comes : Next O R
    comes = next (state_of p here)

    abbrev on : O → Plan O R
    on op = plan_from m next n (after m (state_of p here) op)

    more_here : (op : O) → state_of p (commands ++ map kind (front ++ op ∷ [])) ≡ after m (state_of p here) op
    more_here op =
        ap (λ (l : List Command). state_of p (commands ++ l)) (map-append kind front (op ∷ []))
        ∙ ap (λ (l : List Command). state_of p l) (sym (append_assoc commands (map kind front) (kind op ∷ [])))
        ∙ state_after_one here op

    -- a command is made, and the turns go on
    pub goes_further : (op : O) → comes ≡ goes_on op → 1024 ≤ p.cap → IsGoing (front ++ op ∷ []) n
    goes_further op is wide = record {
      plan =
          going.plan ∙ ap (λ (x : Next O R). with_front kind front (plan_next on x)) is
          ∙ (λ i. record { commands = sym (append_assoc front (op ∷ []) (on op).commands) i; refusal = (on op).refusal })
          ∙ ap (λ (t : State). with_front kind (front ++ op ∷ []) (plan_from m next n t)) (sym (more_here op));
      wide = inr wide;
    }

    -- the last is made, and that is all
    pub all_made : (op : O) → comes ≡ ends op → whole_plan ≡ record { commands = front ++ op ∷ []; refusal = None }
    all_made op is = going.plan ∙ ap (λ (x : Next O R). with_front kind front (plan_next on x)) is

    -- nothing comes after the front
    pub none_made : (r : R) → comes ≡ refuses r → whole_plan ≡ record { commands = front; refusal = Some r }
    none_made r is = going.plan ∙ ap (λ (x : Next O R). with_front kind front (plan_next on x)) is ∙ (λ i. record { commands = append-nil front i; refusal = Some r })

    -- the commands of the plan are those of the front, those of the turn, and others
    pub record IsRest (rest : List Command) : Type 0 where
      pub whole : map kind front ++ (made_of p.cap (map kind (turn_plan comes).commands) ++ rest) ≡ made_of p.cap (map kind whole_plan.commands)

    rest_on : Next O R → List O
    rest_on (goes_on op) = (on op).commands
    rest_on (ends op) = []
    rest_on (refuses r) = []

    split_next : (x : Next O R) → (plan_next on x).commands ≡ (turn_plan x).commands ++ rest_on x
    unfolding rest_on
    split_next (goes_on op) = refl
    split_next (ends op) = refl
    split_next (refuses r) = refl

    -- in narrow values nothing was made, and nothing will be
    narrow_whole : p.cap < 1024 → map kind front ++ (made_of p.cap (map kind (turn_plan comes).commands) ++ []) ≡ made_of p.cap (map kind whole_plan.commands)
    narrow_whole narrow =
        let none : front ≡ [] = elim going.wide [ inl is_none ↦ is_none | inr wide ↦ absurd (omega (arith, narrow, wide)) ] in
        ap (λ (l : List O). map kind l ++ (made_of p.cap (map kind (turn_plan comes).commands) ++ [])) none
        ∙ append-nil (made_of p.cap (map kind (turn_plan comes).commands)) ∙ made_narrow p.cap (map kind (turn_plan comes).commands) narrow ∙ sym (made_narrow p.cap (map kind whole_plan.commands) narrow)

    pub rest_is : (rest : List Command) × IsRest rest
    rest_is = elim (cases_lt p.cap 1024) [
      | inl narrow ↦ ([], record { whole = narrow_whole narrow })
      | inr wide ↦ (
        map kind (rest_on comes),
        record {
          whole =
              ap (λ (l : List Command). map kind front ++ (l ++ map kind (rest_on comes))) (made_wide p.cap (map kind (turn_plan comes).commands) wide)
              ∙ ap (λ (l : List Command). map kind front ++ l) (sym (map-append kind (turn_plan comes).commands (rest_on comes)))
              ∙ ap (λ (l : List O). map kind front ++ map kind l) (sym (split_next comes))
              ∙ sym (map-append kind front (plan_next on comes).commands)
              ∙ sym (made_wide p.cap (map kind (front ++ (plan_next on comes).commands)) wide)
              ∙ ap (λ (q : Plan O R). made_of p.cap (map kind q.commands)) (sym going.plan);
        },
      )
    ]

    abbrev Refuses : CallErr R → Type 0
    Refuses e = (Some e ≡ refused_in p.cap whole_plan) × (map kind front ++ (made_of p.cap (map kind (turn_plan comes).commands) ++ []) ≡ made_of p.cap (map kind whole_plan.commands))

    -- where the turn is refused, so is the whole, and nothing more is made
    pub turn_refuses : (e : CallErr R) → Some e ≡ refused_in p.cap (turn_plan comes) → Refuses e
    turn_refuses e is = by_next comes refl
      where
        at_command : (op : O) → turn_plan comes ≡ one_command op → (more : List O) → (plan_next on comes).commands ≡ op ∷ more → Refuses e
        at_command op turn more plan = elim (cases_lt p.cap 1024) [
          | inl narrow ↦
              let none : front ≡ [] = elim going.wide [ inl is_none ↦ is_none | inr wide ↦ absurd (omega (arith, narrow, wide)) ] in
              let first : whole_plan.commands ≡ op ∷ more = ap (λ (q : Plan O R). q.commands) going.plan ∙ ap (λ (l : List O). l ++ (plan_next on comes).commands) none ∙ plan in
              let large : Some e ≡ Some (Exec (exec.Refused TooLarge)) = is ∙ ap (refused_in p.cap) turn ∙ refused_narrow p.cap op [] None narrow in (
                large ∙ sym (ap (λ (l : List O). refused_of p.cap l (option_map Refused whole_plan.refusal)) first ∙ refused_narrow p.cap op more (option_map Refused whole_plan.refusal) narrow),
                narrow_whole narrow,
              )
          | inr wide ↦ absurd (cc (is ∙ ap (refused_in p.cap) turn ∙ refused_wide p.cap op [] None wide))
        ]

        by_next : (x : Next O R) → comes ≡ x → Refuses e
        by_next (goes_on op) same = at_command op (ap turn_plan same) (on op).commands (ap (λ (x : Next O R). (plan_next on x).commands) same)
        by_next (ends op) same = at_command op (ap turn_plan same) [] (ap (λ (x : Next O R). (plan_next on x).commands) same)
        by_next (refuses r) same =
            let all = none_made r same in (
              is ∙ ap (λ (x : Next O R). refused_in p.cap (turn_plan x)) same ∙ sym (ap (refused_in p.cap) all ∙ refused_front p.cap front (Some (Refused r)) going.wide),
              ap (λ (x : Next O R). map kind front ++ (made_of p.cap (map kind (turn_plan x).commands) ++ [])) same
                  ∙ ap (λ (l : List Command). map kind front ++ (l ++ [])) (made_none p.cap)
                  ∙ append-nil (map kind front) ∙ sym (ap (λ (q : Plan O R). made_of p.cap (map kind q.commands)) all ∙ made_front kind p.cap front going.wide),
            )

    -- a turn that is done made a command, and values are wide
    pub record IsTurned (op : O) : Type 0 where
      pub wide : 1024 ≤ p.cap
      pub made : map kind front ++ (made_of p.cap (map kind (turn_plan comes).commands) ++ []) ≡ map kind (front ++ op ∷ [])

    turned_by : (op : O) → turn_plan comes ≡ one_command op → None ≡ refused_in p.cap (turn_plan comes) → IsTurned op
    turned_by op turn is = elim (cases_lt p.cap 1024) [
      | inl narrow ↦ absurd (cc (is ∙ ap (refused_in p.cap) turn ∙ refused_narrow p.cap op [] None narrow))
      | inr wide ↦ record {
        wide = wide;
        made =
            ap (λ (q : Plan O R). map kind front ++ (made_of p.cap (map kind q.commands) ++ [])) turn
            ∙ ap (λ (l : List Command). map kind front ++ (l ++ [])) (made_wide p.cap (kind op ∷ []) wide)
            ∙ sym (map-append kind front (op ∷ []));
      }
    ]

    pub turn_goes_on : None ≡ refused_in p.cap (turn_plan comes) → is_last comes ≡ false → (op : O) × (comes ≡ goes_on op) × IsTurned op
    turn_goes_on is last = by_next comes refl
      where
        by_next : (x : Next O R) → comes ≡ x → (op : O) × (comes ≡ goes_on op) × IsTurned op
        by_next (goes_on op) same = (op, same, turned_by op (ap turn_plan same) is)
        by_next (ends op) same = absurd (cc (last, ap is_last same))
        by_next (refuses r) same = absurd (cc (is ∙ ap (λ (x : Next O R). refused_in p.cap (turn_plan x)) same))

    pub turn_ends : None ≡ refused_in p.cap (turn_plan comes) → is_last comes ≡ true → (op : O) × (comes ≡ ends op) × IsTurned op
    turn_ends is last = by_next comes refl
      where
        by_next : (x : Next O R) → comes ≡ x → (op : O) × (comes ≡ ends op) × IsTurned op
        by_next (goes_on op) same = absurd (cc (last, ap is_last same))
        by_next (ends op) same = (op, same, turned_by op (ap turn_plan same) is)
        by_next (refuses r) same = absurd (cc (is ∙ ap (λ (x : Next O R). refused_in p.cap (turn_plan x)) same))

  -- with the last command, the plan is made
  pub last_made : (front : List O) (op : O) → whole_plan ≡ record { commands = front ++ op ∷ []; refusal = None } → 1024 ≤ p.cap
      → (map kind (front ++ op ∷ []) ≡ made_of p.cap (map kind whole_plan.commands)) × (None ≡ refused_in p.cap whole_plan)
  last_made front op all wide = (
    sym (ap (λ (q : Plan O R). made_of p.cap (map kind q.commands)) all ∙ made_front kind p.cap (front ++ op ∷ []) (inr wide)),
    sym (ap (refused_in p.cap) all ∙ refused_front p.cap (front ++ op ∷ []) None (inr wide)),
  )

  -- without turns left, too
  pub out_of_turns : (front : List O) → IsGoing front 0 → (map kind front ≡ made_of p.cap (map kind whole_plan.commands)) × (None ≡ refused_in p.cap whole_plan)
  out_of_turns front going =
      let all : whole_plan ≡ record { commands = front; refusal = None } = going.plan ∙ (λ i. record { commands = append-nil front i; refusal = None }) in (
        sym (ap (λ (q : Plan O R). made_of p.cap (map kind q.commands)) all ∙ made_front kind p.cap front going.wide),
        sym (ap (refused_in p.cap) all ∙ refused_front p.cap front None going.wide),
      )
