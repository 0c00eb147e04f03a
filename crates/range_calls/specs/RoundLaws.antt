-- What comes of commands, one after the other.
use Rattle.std.proofs.Common.{◌≡◌, refl, sym, ap, ◌∙◌, Option, None, Some, List, [], ◌∷◌, ◌++◌}
use Rattle.oper_core.specs.State.{State}
use Rattle.oper_core.specs.Meaning.{after, refusal_of}
use Rattle.oper_core.specs.declared.refusal.Refusal.{Refusal}
use Rattle.formats.specs.declared.params.Params.{Params}
use Rattle.call_plans.specs.Laws.{AllAccepted, after_all}
use Rattle.call_plans.specs.Plan.{Plan, with_command}
use Rattle.range_calls.specs.Rounds.{behind, if_accepted, tried_all}
use Rattle.range_calls.specs.Store.{Command, meaning_in}
use Rattle.range_calls.specs.declared.call_err.CallErr.{CallErr}

module _ {O R : Type 0} where
  abbrev pub unless_ended : List O → Plan O R → Option R → Plan O R
  unless_ended front rest None = behind front rest
  unless_ended front rest (Some refusal) = record { commands = front; refusal = Some refusal }

  -- a plan, and behind it another, where it is not refused
  abbrev pub and_then : Plan O R → Plan O R → Plan O R
  and_then first rest = unless_ended first.commands rest first.refusal

  pub then_more : (op : O) (first rest : Plan O R) → and_then (with_command op first) rest ≡ with_command op (and_then first rest)
  then_more op first rest = by_refusal first.refusal
    where
      by_refusal : (o : Option R) → unless_ended (op ∷ first.commands) rest o ≡ with_command op (unless_ended first.commands rest o)
      by_refusal None = refl
      by_refusal (Some refusal) = refl

abbrev Made : Type 0 → Type 0
Made R = Plan Command (CallErr R)

module _ {R : Type 0} (p : Params) where
  -- where all are accepted, all are made
  pub accepted_are_made : (s : State) (ops : List Command) (planned : Option (CallErr R)) → AllAccepted (meaning_in p) s ops → tried_all p s ops planned ≡ record { commands = ops; refusal = planned }
  accepted_are_made s [] planned accepted = refl
  accepted_are_made s (op ∷ ops) planned accepted =
      let s' : State = after (meaning_in p) s op in
      ap (if_accepted p op (tried_all p s' ops planned)) accepted.0 ∙ ap (with_command op) (accepted_are_made s' ops planned accepted.1)

  -- commands, and others behind them
  pub tried_append : (s : State) (ops more : List Command) (planned : Option (CallErr R))
      → and_then (tried_all p s ops None) (tried_all p (after_all (meaning_in p) s ops) more planned) ≡ tried_all p s (ops ++ more) planned
  tried_append s [] more planned = refl
  tried_append s (op ∷ ops) more planned =
      let s' : State = after (meaning_in p) s op in
      let rest : Made R = tried_all p (after_all (meaning_in p) s' ops) more planned in
      elim (refusal_of (meaning_in p) s op) as (λ (o : Option Refusal). and_then (if_accepted p op (tried_all p s' ops None) o) rest ≡ if_accepted p op (tried_all p s' (ops ++ more) planned) o) [
        | None ↦ then_more op (tried_all p s' ops None) rest ∙ ap (with_command op) (tried_append s' ops more planned)
        | Some refusal ↦ refl
      ]

  -- what is behind them begins on the state that those leave which are made
  pub begins_behind : (s : State) (ops : List Command) (rest : State → Made R)
      → and_then (tried_all p s ops None) (rest (after_all (meaning_in p) s (tried_all {R = R} p s ops None).commands)) ≡ and_then (tried_all p s ops None) (rest (after_all (meaning_in p) s ops))
  begins_behind s [] rest = refl
  begins_behind s (op ∷ ops) rest =
      let s' : State = after (meaning_in p) s op in
      let first : Made R = tried_all p s' ops None in
      elim (refusal_of (meaning_in p) s op) as (λ (o : Option Refusal).
      and_then (if_accepted p op first o) (rest (after_all (meaning_in p) s (if_accepted p op first o).commands)) ≡ and_then (if_accepted p op first o) (rest (after_all (meaning_in p) s (op ∷ ops)))) [
        | None ↦
            then_more op first (rest (after_all (meaning_in p) s' first.commands)) ∙ ap (with_command op) (begins_behind s' ops rest) ∙ sym (then_more op first (rest (after_all (meaning_in p) s' ops)))
        | Some refusal ↦ refl
      ]
