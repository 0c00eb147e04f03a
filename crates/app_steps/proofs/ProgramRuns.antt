-- An interpreted application does on all that it is fed what its program does.
use Rattle.std.proofs.Common.{◌≡◌, true≢false, ◌∙◌, sym, ap, subst, ℕ, zero, suc, ◌+◌, Bool, true, false, inl, inr, List, [], ◌∷◌, ◌++◌, replicate, refl, Option, None, Some, arith, append_assoc}
use Rattle.std.specs.Prelude.{◌&&◌, ◌||◌, ◌==◌, nat_le, nat_lt, not, is_none, if◌then◌else◌, option_and_then, Result, Ok, Err, IfOk}
use Rattle.std.specs.List.{list_all}
use Rattle.std.proofs.lemmas.Bool.{and_parts, cases_Bool, eq-eqb, eqb-true}
use Rattle.std.proofs.lemmas.List.{append-nil}
use Rattle.std.proofs.lemmas.List.Sums.{fold-append}
use Rattle.oper_core.specs.State.{State, is_among, start, value_for, with_values}
use Rattle.oper_core.specs.Meaning.{IsSmall, after, or_else, read_values, unless}
use Rattle.oper_core.specs.MeaningLaws.{or_else-none, unless-none}
use Rattle.oper_core.specs.declared.refusal.Refusal.{Refusal}
use Rattle.oper_core.specs.declared.refusal.Refusal.TheVariants.{NoObject, Same, TooLarge}
use Rattle.formats.specs.Objects.{IsInRange, bounds_of}
use Rattle.formats.specs.declared.params.Params.{Params}
use Rattle.op_rows.specs.Rows.{are_apart, if_applicable, named}
use Rattle.op_codec.specs.AllOps.{AllOps, all_meaning, program}
use Rattle.op_codec.specs.declared.sum.Sum.TheVariants.{First, Second}
use Rattle.app_program.specs.declared.program_op.ProgramOp.TheVariants.{Step, Feed}
use Rattle.app_program.specs.History.{Event, FeedsBytes, value_after, value_after_all}
use Rattle.app_program.specs.History.Event.{Feeding, Stepping}
use Rattle.app_program.specs.Machine.{Machine, machine}
use Rattle.app_program.specs.MachineLaws.{machine_next}
use Rattle.app_program.specs.Program.{program_of}
use Rattle.app_program.specs.State.{HasDone, fed, machine_of, state_code}
use Rattle.app_program.specs.Table.{feed_check, step_check, stepped}
use Rattle.app_program.specs.ValueLaws.{IsOf, after_step, runs_on_fed}
use Rattle.execution.specs.declared.exec_err.ExecErr.{ExecErr}
use Rattle.store_engine.specs.Store.{meaning_in, refusal_after, state_of}
use Rattle.app_steps.specs.Programs.{AreOfProgram, IsOfProgram, IsValue, RunsOn, events, events_of, fed_to, steps_done}
use Rattle.app_steps.specs.Steps.{HasAnswer, program_step, steps, steps_accepted}
use Rattle.app_steps.proofs.Counting.{none_count, step_counts}

-- ---- values that are written

-- what is not written stays
unwritten : (s : State) (x : ℕ) (objects : List ℕ) (values : List (List ℕ)) → is_among x objects ≡ false → with_values s objects values x ≡ s x
unwritten s x objects values e = ap (λ (b : Bool). if b then value_for x objects values else s x) e

-- one object gets the value that is made where nothing is refused
written : (s : State) (x a : ℕ) (o : Option Refusal) (v : List ℕ) → (x == a) ≡ true → o ≡ None → with_values s (a ∷ []) (if_applicable o (v ∷ [])) x ≡ v
written s x a o v same none =
    ap (λ (made : Option Refusal). with_values s (a ∷ []) (if_applicable made (v ∷ [])) x) none
    ∙ ap (λ (b : Bool). if (b || false) then (if b then v else []) else s x) same

or_false : (b : Bool) → (b || false) ≡ b
or_false true = refl
or_false false = refl

-- ---- several events after others
module _ (p : Params) (code : List ℕ) where
  abbrev all_after : List ℕ → List Event → Option (List ℕ)
  all_after v es = value_after_all (bounds_of p) code v es

  joined : (es fs : List Event) (v : List ℕ) → all_after v (es ++ fs) ≡ option_and_then (λ w. all_after w fs) (all_after v es)
  joined [] fs v = refl
  joined (e ∷ es) fs v = behind (λ w. joined es fs w) (value_after (bounds_of p) code v e)
    where
      behind : ((w : List ℕ) → all_after w (es ++ fs) ≡ option_and_then (λ u. all_after u fs) (all_after w es)) → (o : Option (List ℕ))
          → option_and_then (λ w. all_after w (es ++ fs)) o ≡ option_and_then (λ w. all_after w fs) (option_and_then (λ w. all_after w es) o)
      behind rest None = refl
      behind rest (Some w) = rest w

  -- one event that nothing refuses
  fed_value : (a x : List ℕ) → feed_check (bounds_of p) a x ≡ None → value_after (bounds_of p) code a (Feeding x) ≡ Some (state_code (fed (machine_of a) x))
  fed_value a x none = ap (λ (o : Option Refusal). if is_none o then Some (state_code (fed (machine_of a) x)) else None) none

  stepped_value : (a : List ℕ) → step_check (bounds_of p) a code ≡ None → value_after (bounds_of p) code a Stepping ≡ Some (state_code (stepped a code))
  stepped_value a none = ap (λ (o : Option Refusal). if is_none o then Some (state_code (stepped a code)) else None) none

  feeds_joined : (es fs : List Event) → FeedsBytes es → FeedsBytes fs → FeedsBytes (es ++ fs)
  feeds_joined [] fs one two = two
  feeds_joined (Feeding x ∷ es) fs one two = (one.0, feeds_joined es fs one.1 two)
  feeds_joined (Stepping ∷ es) fs one two = feeds_joined es fs one two

-- ---- the commands of a store

-- the two objects of a step in the grammar are two
apart_of : (p : Params) (app q : ℕ) → (meaning_in all_meaning p).shape (program_step app q) ≡ None → (q == app) ≡ false
apart_of p app q e = elim (cases_Bool (q == app)) [
  | inl same ↦
      let numbers = or_else-none (named (bounds_of p) (app ∷ q ∷ []) []) (unless (nat_le 0 p.cap) TooLarge) e in
      let apart = or_else-none (unless (list_all (λ x. nat_lt x p.objects) (app ∷ q ∷ [])) NoObject) (or_else (unless (are_apart (app ∷ q ∷ [])) Same) None) numbers.0 in
      let told : are_apart (app ∷ q ∷ []) ≡ true = unless-none (are_apart (app ∷ q ∷ [])) Same (or_else-none (unless (are_apart (app ∷ q ∷ [])) Same) None apart.1).0 in
      let other : not ((app == q) || false) ≡ true = (and_parts (not ((app == q) || false)) (not false && true) told).0 in
      let here : (app == q) ≡ true = eq-eqb app q (sym (eqb-true q app same)) in
      absurd (true≢false (sym other ∙ ap (λ (b : Bool). not (b || false)) here))
  | inr not_same ↦ not_same
]

module _ (p : Params) (app : ℕ) (code : List ℕ) where
  abbrev value : List AllOps → List ℕ
  value commands = state_of all_meaning p commands app

  abbrev writes : AllOps → Bool
  writes op = is_among app ((meaning_in all_meaning p).writes op)

  -- the state after one command more
  pub after_one : (commands : List AllOps) (op : AllOps) → state_of all_meaning p (commands ++ op ∷ []) ≡ after (meaning_in all_meaning p) (state_of all_meaning p commands) op
  after_one commands op = fold-append (after (meaning_in all_meaning p)) start commands (op ∷ [])

  -- a command that does not write the object does nothing to the machine
  no_event : (before : List AllOps) (op : AllOps) → writes op ≡ false → events_of p app before op ≡ []
  no_event before (Second (Second (First (Feed a x)))) e =
      ap (λ (b : Bool). if b then Feeding (state_of all_meaning p before x) ∷ [] else []) (sym (or_false (app == a)) ∙ e)
  no_event before (Second (Second (First (Step a q)))) e = ap (λ (b : Bool). if b then Stepping ∷ [] else []) (sym (or_false (app == a)) ∙ e)
  no_event before op e = refl

  itself : (app == app) ≡ true
  itself = eq-eqb app app refl

  -- what its value is after a feed of it, and after a step of it
  own_feed : (before : List AllOps) (x : ℕ) → refusal_after all_meaning p before (program (Feed app x)) ≡ None
      → value_after (bounds_of p) code (value before) (Feeding (state_of all_meaning p before x)) ≡ Some (value (before ++ program (Feed app x) ∷ []))
  own_feed before x none =
      let s = state_of all_meaning p before in
      let b = bounds_of p in
      let made : List ℕ = state_code (fed (machine_of (s app)) (s x)) in
      let check : feed_check b (s app) (s x) ≡ None = (or_else-none ((meaning_in all_meaning p).shape (program (Feed app x))) (feed_check b (s app) (s x)) none).1 in
      fed_value p code (s app) (s x) check
      ∙ ap (λ (v : List ℕ). Some v) (sym (written s app app (feed_check b (s app) (s x)) made itself check) ∙ sym (ap (λ (t : State). t app) (after_one before (program (Feed app x)))))

  own_step : (before : List AllOps) (q : ℕ) → refusal_after all_meaning p before (program_step app q) ≡ None → state_of all_meaning p before q ≡ code
      → value_after (bounds_of p) code (value before) Stepping ≡ Some (value (before ++ program_step app q ∷ []))
  own_step before q none is =
      let s = state_of all_meaning p before in
      let b = bounds_of p in
      let made : List ℕ = state_code (stepped (s app) (s q)) in
      let check : step_check b (s app) (s q) ≡ None = (or_else-none ((meaning_in all_meaning p).shape (program_step app q)) (step_check b (s app) (s q)) none).1 in
      stepped_value p code (s app) (subst (λ (c : List ℕ). step_check b (s app) c ≡ None) is check)
      ∙ ap (λ (c : List ℕ). Some (state_code (stepped (s app) c))) (sym is)
      ∙ ap (λ (v : List ℕ). Some v) (sym (written s app app (step_check b (s app) (s q)) made itself check) ∙ sym (ap (λ (t : State). t app) (after_one before (program_step app q))))

  -- so it is where it bears the object's number
  after_feed : (before : List AllOps) (a x : ℕ) → (app == a) ≡ true → refusal_after all_meaning p before (program (Feed a x)) ≡ None
      → all_after p code (value before) (events_of p app before (program (Feed a x))) ≡ Some (value (before ++ program (Feed a x) ∷ []))
  after_feed before a x same none =
      let here : app ≡ a = eqb-true app a same in
      let mine = subst (λ (y : ℕ). refusal_after all_meaning p before (program (Feed y x)) ≡ None) (sym here) none in
      subst (λ (y : ℕ). all_after p code (value before) (events_of p app before (program (Feed y x))) ≡ Some (value (before ++ program (Feed y x) ∷ []))) here
      (ap (λ (t : Bool). all_after p code (value before) (if t then Feeding (state_of all_meaning p before x) ∷ [] else [])) itself
      ∙ ap (option_and_then (λ w. all_after p code w [])) (own_feed before x mine))

  after_own_step : (before : List AllOps) (a q : ℕ) → (app == a) ≡ true → refusal_after all_meaning p before (program (Step a q)) ≡ None
      → state_of all_meaning p before q ≡ code → all_after p code (value before) (events_of p app before (program (Step a q))) ≡ Some (value (before ++ program (Step a q) ∷ []))
  after_own_step before a q same none is =
      let here : app ≡ a = eqb-true app a same in
      let mine = subst (λ (y : ℕ). refusal_after all_meaning p before (program (Step y q)) ≡ None) (sym here) none in
      subst (λ (y : ℕ). all_after p code (value before) (events_of p app before (program (Step y q))) ≡ Some (value (before ++ program (Step y q) ∷ []))) here
      (ap (λ (t : Bool). all_after p code (value before) (if t then Stepping ∷ [] else [])) itself
      ∙ ap (option_and_then (λ w. all_after p code w [])) (own_step before q mine is))

  -- what is done to the machine is what the commands do to its value
  writing : (before : List AllOps) (op : AllOps) → writes op ≡ true → refusal_after all_meaning p before op ≡ None → IsOfProgram p app code before op
      → all_after p code (value before) (events_of p app before op) ≡ Some (value (before ++ op ∷ []))
  writing before (Second (Second (First (Feed a x)))) written none is = after_feed before a x (sym (or_false (app == a)) ∙ written) none
  writing before (Second (Second (First (Step a q)))) written none is = after_own_step before a q (sym (or_false (app == a)) ∙ written) none is
  writing before op written none is = absurd is

  one_command : (before : List AllOps) (op : AllOps) → (writes op ≡ true → (refusal_after all_meaning p before op ≡ None) × IsOfProgram p app code before op)
      → all_after p code (value before) (events_of p app before op) ≡ Some (value (before ++ op ∷ []))
  one_command before op given = elim (cases_Bool (writes op)) [
    | inl is ↦ writing before op is (given is).0 (given is).1
    | inr not ↦
        let m = meaning_in all_meaning p in
        let s = state_of all_meaning p before in
        ap (λ (es : List Event). all_after p code (value before) es) (no_event before op not)
        ∙ ap (λ (v : List ℕ). Some v)
        (sym (unwritten s app (m.writes op) (m.effect op (read_values m s op)) not) ∙ sym (ap (λ (t : State). t app) (after_one before op)))
  ]

  all_commands : (ops before : List AllOps) → AreOfProgram p app code before ops → all_after p code (value before) (events p app before ops) ≡ Some (value (before ++ ops))
  all_commands [] before is = ap (λ (l : List AllOps). Some (value l)) (sym (append-nil before))
  all_commands (op ∷ ops) before is =
      joined p code (events_of p app before op) (events p app (before ++ op ∷ []) ops) (value before)
      ∙ ap (option_and_then (λ w. all_after p code w (events p app (before ++ op ∷ []) ops))) (one_command before op is.0)
      ∙ all_commands ops (before ++ op ∷ []) is.1
      ∙ ap (λ (l : List AllOps). Some (value l)) (append_assoc before (op ∷ []) ops)

  -- and what is fed consists of bytes
  one_feeds : (before : List AllOps) (op : AllOps) → (writes op ≡ true → (refusal_after all_meaning p before op ≡ None) × IsOfProgram p app code before op) → FeedsBytes (events_of p app before op)
  one_feeds before (Second (Second (First (Feed a x)))) given = elim (cases_Bool (app == a)) [
    | inl same ↦
        subst (λ (b : Bool). FeedsBytes (if b then Feeding (state_of all_meaning p before x) ∷ [] else [])) (sym same) ((given (or_false (app == a) ∙ same)).1, tt)
    | inr other ↦ subst (λ (b : Bool). FeedsBytes (if b then Feeding (state_of all_meaning p before x) ∷ [] else [])) (sym other) tt
  ]
  one_feeds before (Second (Second (First (Step a q)))) given = elim (cases_Bool (app == a)) [
    | inl same ↦ subst (λ (b : Bool). FeedsBytes (if b then Stepping ∷ [] else [])) (sym same) tt
    | inr other ↦ subst (λ (b : Bool). FeedsBytes (if b then Stepping ∷ [] else [])) (sym other) tt
  ]
  one_feeds before op given = tt

  all_feed : (ops before : List AllOps) → AreOfProgram p app code before ops → FeedsBytes (events p app before ops)
  all_feed [] before is = tt
  all_feed (op ∷ ops) before is =
      feeds_joined p code (events_of p app before op) (events p app (before ++ op ∷ []) ops) (one_feeds before op is.0) (all_feed ops (before ++ op ∷ []) is.1)

  module _ (range : IsInRange p) (holds : IsValue p code) where
    small : IsSmall (bounds_of p)
    small = record { objects = omega (arith, range.objects); cap = omega (arith, range.cap) }

    -- so its value is that of the machine that did so many steps on all that was fed
    runs : (before ops : List AllOps) → value before ≡ [] → AreOfProgram p app code before ops
        → (m : Machine) × IsOf (value (before ++ ops)) m × (machine (program_of code) (fed_to p app before ops) (steps_done p app before ops) ≡ Some m)
    runs before ops empty is =
        runs_on_fed (bounds_of p) code small holds.bytes holds.short (events p app before ops) (value (before ++ ops)) (all_feed ops before is)
        (subst (λ (v : List ℕ). all_after p code v (events p app before ops) ≡ Some (value (before ++ ops))) empty (all_commands ops before is))

    pub program_runs : (before ops : List AllOps) → value before ≡ [] → AreOfProgram p app code before ops
        → HasDone code (fed_to p app before ops) (steps_done p app before ops) (value (before ++ ops))
    program_runs before ops empty is = let end = runs before ops empty is in (end.0, end.1.state, end.2)

    -- ---- a run of steps

    -- an accepted step leaves its program as it is
    program_stays : (commands : List AllOps) (q : ℕ) → refusal_after all_meaning p commands (program_step app q) ≡ None
        → state_of all_meaning p (commands ++ program_step app q ∷ []) q ≡ state_of all_meaning p commands q
    program_stays commands q none =
        let m = meaning_in all_meaning p in
        let s = state_of all_meaning p commands in
        let shape = (or_else-none (m.shape (program_step app q)) (step_check (bounds_of p) (s app) (s q)) none).0 in
        ap (λ (t : State). t q) (after_one commands (program_step app q))
        ∙ unwritten s q (app ∷ []) (m.effect (program_step app q) (read_values m s (program_step app q))) (or_false (q == app) ∙ apart_of p app q shape)

    -- it has done so many steps of the program on this input, after the commands
    record HasCome (commands : List AllOps) (q : ℕ) (input : List ℕ) (k : ℕ) : Type 0 where
      m : Machine
      is : IsOf (value commands) m
      done : machine (program_of code) input k ≡ Some m
      holds_code : state_of all_meaning p commands q ≡ code

    come_is_done : (commands : List AllOps) (q : ℕ) (input : List ℕ) (k : ℕ) → HasCome commands q input k → HasDone code input (k + 0) (value (commands ++ []))
    come_is_done commands q input k come =
        let whole : k ≡ k + 0 = omega arith in
        subst (λ (l : List AllOps). HasDone code input (k + 0) (value l)) (sym (append-nil commands))
        (subst (λ (j : ℕ). HasDone code input j (value commands)) whole (come.m, come.is.state, come.done))

    -- an accepted step is one more
    one_more : (commands : List AllOps) (q : ℕ) (input : List ℕ) (k : ℕ) → HasCome commands q input k → refusal_after all_meaning p commands (program_step app q) ≡ None
        → HasCome (commands ++ program_step app q ∷ []) q input (suc k)
    one_more commands q input k come none =
        let one = after_step (bounds_of p) code small holds.bytes holds.short (value commands) come.m (value (commands ++ program_step app q ∷ [])) come.is (own_step commands q none come.holds_code) in
        record {
          m = one.0;
          is = one.2;
          done = machine_next (program_of code) input k come.m one.0 come.done one.1;
          holds_code = program_stays commands q none ∙ come.holds_code;
        }

    -- it does so many steps more as are accepted
    more_steps : (n : ℕ) (commands : List AllOps) (q : ℕ) (input : List ℕ) (k : ℕ) → HasCome commands q input k
        → HasDone code input (k + steps_accepted p commands (program_step app q) n) (value (commands ++ steps p commands (program_step app q) n))
    more_steps zero commands q input k come = come_is_done commands q input k come
    more_steps (suc n) commands q input k come =
        by_refusal (λ next. more_steps n (commands ++ program_step app q ∷ []) q input (suc k) next) (refusal_after all_meaning p commands (program_step app q)) refl
      where
        op : AllOps
        op = program_step app q

        given : (j : ℕ) → steps_accepted p commands op (suc n) ≡ j → HasDone code input (k + j) (value (commands ++ replicate j op))
            → HasDone code input (k + steps_accepted p commands op (suc n)) (value (commands ++ steps p commands op (suc n)))
        given j count has = subst (λ (i : ℕ). HasDone code input (k + i) (value (commands ++ replicate i op))) (sym count) has

        by_refusal : (HasCome (commands ++ op ∷ []) q input (suc k)
            → HasDone code input (suc k + steps_accepted p (commands ++ op ∷ []) op n) (value ((commands ++ op ∷ []) ++ steps p (commands ++ op ∷ []) op n)))
            → (o : Option Refusal) → refusal_after all_meaning p commands op ≡ o → HasDone code input (k + steps_accepted p commands op (suc n)) (value (commands ++ steps p commands op (suc n)))
        by_refusal rest (Some refusal) refused = given 0 (none_count p commands op refusal refused (suc n)) (come_is_done commands q input k come)
        by_refusal rest None none =
            let j : ℕ = steps_accepted p (commands ++ op ∷ []) op n in
            let count : suc k + j ≡ k + suc j = omega arith in
            given (suc j) (step_counts p commands op n none)
            (subst (λ (i : ℕ). HasDone code input i (value (commands ++ replicate (suc j) op))) count
            (subst (λ (l : List AllOps). HasDone code input (suc k + j) (value l)) (append_assoc commands (op ∷ []) (replicate j op)) (rest (one_more commands q input k come none))))

    pub run_runs : (before since : List AllOps) (q n : ℕ) → value before ≡ [] → AreOfProgram p app code before since → state_of all_meaning p (before ++ since) q ≡ code
        → HasDone code (fed_to p app before since) (steps_done p app before since + steps_accepted p (before ++ since) (program_step app q) n)
        (value ((before ++ since) ++ steps p (before ++ since) (program_step app q) n))
    run_runs before since q n empty is holds_code =
        let end = runs before since empty is in
        more_steps n (before ++ since) q (fed_to p app before since) (steps_done p app before since)
        (record { m = end.0; is = end.1; done = end.2; holds_code = holds_code })

-- a run that answers how many steps it did has done as many of its program
pub ran_on : (p : Params) (commands : List AllOps) (app q n : ℕ) (r : Result ℕ ExecErr) → HasAnswer p commands (program_step app q) n r → IfOk r (λ k. RunsOn p app q commands k)
ran_on p commands app q n (Err e) answer = tt
ran_on p commands app q n (Ok k) answer = λ before since same range holds empty is.
    let code = state_of all_meaning p commands q in
    let op = program_step app q in
    let input = fed_to p app before since in
    let done = steps_done p app before since in
    let all = run_runs p app code range holds before since q n empty is (ap (λ (l : List AllOps). state_of all_meaning p l q) (sym same)) in
    subst (λ (j : ℕ). HasDone code input (done + j) (state_of all_meaning p (commands ++ replicate j op) app)) (sym answer.0)
    (subst (λ (l : List AllOps). HasDone code input (done + steps_accepted p l op n) (state_of all_meaning p (l ++ steps p l op n) app)) (sym same) all)
