-- A call under way.
use Rattle.std.proofs.Common.{◌≡◌, ◌<◌, refl, sym, ◌∙◌, subst, ◌⊎◌, inl, inr, ℕ, suc, ◌+◌, ◌-◌, true, false, Option, None, Some, List, [], ◌∷◌, ◌++◌, map, arith}
use Rattle.disk_model.specs.Disk.{Disk}
use Rattle.oper_core.specs.State.{State}
use Rattle.oper_core.specs.Meaning.{Meaning, after}
use Rattle.formats.specs.Objects.{bounds_of}
use Rattle.formats.specs.declared.params.Params.{Params}
use Rattle.op_codec.specs.AllOps.{all_meaning}
use Rattle.running_store.specs.Taking.{Ending}
use Rattle.running_store.specs.Taking.Ending.{Done, Stopped, Short, Failed}
use Rattle.execution.specs.declared.exec_err.ExecErr.{ExecErr}
use Rattle.store_engine.specs.Lists.{IsUnfinished, ending_of}
use Rattle.store_calls.specs.Laws.{GoOn}
use Rattle.store_calls.specs.Making.{Makes}
use Rattle.store_calls.specs.View.{View}
use Rattle.call_plans.specs.Plan.{Next, Plan, plan_from}
use Rattle.range_calls.specs.Answers.{cause_of, made_of, refused_in}
use Rattle.range_calls.specs.JoinLaws.{adds_on}
use Rattle.range_calls.specs.Store.{Command, state_of}
use Rattle.range_calls.specs.TurnLaws.{IsGoing, going_begins, goes_further, all_made, out_of_turns, last_made, rest_is, turn_ends, turn_goes_on, turn_refuses}
use Rattle.range_calls.specs.Turns.{is_last, turn_plan}
use Rattle.range_calls.specs.declared.call_err.CallErr.{CallErr}

-- an ending is the last, or comes early
done_or_not : (ending : Ending) → (ending ≡ Done) ⊎ IsUnfinished ending
done_or_not Done = inl refl
done_or_not (Stopped stop) = inr tt
done_or_not Short = inr tt
done_or_not Failed = inr tt

early_is_not : (ending : Ending) → IsUnfinished ending → ending ≡ Done → ⊥
early_is_not Done early done = early
early_is_not (Stopped stop) early done = cc done
early_is_not Short early done = cc done
early_is_not Failed early done = cc done

module _ {O R : Type 0} (kind : O → Command) (p : Params) (m : Meaning O) (means : (s : State) (op : O) → after (all_meaning (bounds_of p)) s (kind op) ≡ after m s op)
    (next : State → Next O R) (most : ℕ) {S : Type 0} (view : View Command S) where
  -- what the call makes on a store with these commands
  abbrev pub planned : List Command → Plan O R
  planned commands = plan_from m next most (state_of p commands)

  abbrev pub all_of : List Command → List Command
  all_of commands = made_of p.cap (map kind (planned commands).commands)

  -- A front of the plan's commands is made: the store stands for these too, and so many turns are left.
  pub record IsUnderWay (old mid : Disk) (before between : S) (commands : List Command) (left : ℕ) : Type 0 where
    pub front : List O
    pub adds : view.adds p old mid before between commands (map kind front) Done
    pub going : IsGoing kind p m means next most commands front left

  pub begins_under_way : {old : Disk} {before : S} (commands : List Command) (left : ℕ) → left ≡ most
      → view.adds p old old before before commands [] Done → IsUnderWay old old before before commands left
  begins_under_way commands left is adds = record {
    front = [];
    adds = adds;
    going = subst (λ (n : ℕ). IsGoing kind p m means next most commands [] n) (sym is) (going_begins kind p m means next most commands);
  }

  module _ {T : Type 0} (disk : T → Disk) (laws : GoOn view disk) (old mid new : T) (before between after : S) (commands : List Command) (n : ℕ)
      (way : IsUnderWay (disk old) (disk mid) before between commands (suc n)) (holds : view.holds p (disk old) before commands) where
    abbrev c : List Command
    c = commands

    abbrev pub now : List Command
    now = c ++ map kind way.front

    pub holds_now : view.holds p (disk mid) between now
    holds_now = laws.holds old mid before between p commands (map kind way.front) holds way.adds

    abbrev Front : List Command → Ending → Type 0
    Front made ending = view.adds p (disk old) (disk new) before after c made ending

    module _ (ops : Params → List Command → List Command) (same : (commands : List Command) → ops p commands ≡ made_of p.cap (map kind (turn_plan (next (state_of p commands))).commands)) where
      -- the turn's commands after the front
      behind : (error : Option ExecErr) (rest : List Command) → Makes view (disk mid) (disk new) between after ops error → (ending_of error ≡ Done → rest ≡ [])
          → Front (map kind way.front ++ (made_of p.cap (map kind (turn_plan (next (state_of p now))).commands) ++ rest)) (ending_of error)
      behind error rest makes ended =
          subst (λ (l : List Command). Front (map kind way.front ++ (l ++ rest)) (ending_of error)) (same now)
          (adds_on view disk laws old mid new before between after error p commands (map kind way.front) (ops p now) rest way.adds (makes.adds p now holds_now) ended)

      -- a command is made, and the turns go on
      pub goes_on : Makes view (disk mid) (disk new) between after ops None → None ≡ refused_in p.cap (turn_plan (next (state_of p now))) → is_last (next (state_of p now)) ≡ false
          → IsUnderWay (disk old) (disk new) before after commands n
      goes_on makes answer last =
          let turned = turn_goes_on kind p m means next most c way.front n way.going answer last in
          let op = turned.0 in record {
            front = way.front ++ op ∷ [];
            adds = subst (λ (l : List Command). Front l Done) turned.2.made (behind None [] makes (λ done. refl));
            going = goes_further kind p m means next most c way.front n way.going op turned.1 turned.2.wide;
          }

      -- the last is made, and that is all
      pub ends : Makes view (disk mid) (disk new) between after ops None → None ≡ refused_in p.cap (turn_plan (next (state_of p now))) → is_last (next (state_of p now)) ≡ true
          → view.adds p (disk old) (disk new) before after commands (all_of commands) Done × (None ≡ refused_in p.cap (planned commands))
      ends makes answer last =
          let turned = turn_ends kind p m means next most c way.front n way.going answer last in
          let op = turned.0 in
          let all = last_made kind p m means next most c way.front op (all_made kind p m means next most c way.front n way.going op turned.1) turned.2.wide in (
            subst (λ (l : List Command). Front l Done) (turned.2.made ∙ all.0) (behind None [] makes (λ done. refl)),
            all.1,
          )

      -- the turn is refused, or ends early
      pub refused_on : (error : Option ExecErr) (e : CallErr R) → error ≡ cause_of e → Makes view (disk mid) (disk new) between after ops error
          → (ending_of error ≡ Done → Some e ≡ refused_in p.cap (turn_plan (next (state_of p now))))
          → view.adds p (disk old) (disk new) before after commands (all_of commands) (ending_of error)
          × (ending_of error ≡ Done → Some e ≡ refused_in p.cap (planned commands))
      refused_on error e is makes answer = (
        elim (done_or_not (ending_of error)) [
          | inl done ↦ subst (λ (l : List Command). Front l (ending_of error)) (turn_refuses kind p m means next most c way.front n way.going e (answer done)).1 (behind error [] makes (λ d. refl))
          | inr early ↦
              let rest = rest_is kind p m means next most c way.front n way.going in
              subst (λ (l : List Command). Front l (ending_of error)) rest.1.whole (behind error rest.0 makes (λ done. absurd (early_is_not (ending_of error) early done)))
        ],
        λ done. (turn_refuses kind p m means next most c way.front n way.going e (answer done)).0,
      )

  -- no turn is left
  pub none_left : {old mid : Disk} {before between : S} {commands : List Command} → IsUnderWay old mid before between commands 0
      → view.adds p old mid before between commands (all_of commands) Done × (None ≡ refused_in p.cap (planned commands))
  none_left {old} {mid} {before} {between} {commands} way =
      let all = out_of_turns kind p m means next most commands way.front way.going in (
        subst (λ (l : List Command). view.adds p old mid before between commands l Done) all.0 way.adds,
        all.1,
      )

-- one turn less is left
pub turn_less : (most turn : ℕ) → turn < most → most - turn ≡ suc (most - (turn + 1))
turn_less most turn below = omega (arith, below)
