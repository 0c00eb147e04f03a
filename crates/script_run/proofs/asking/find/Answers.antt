use Rattle.std.proofs.Common.{◌∙◌, refl, ap, List, ℕ, Option, Some, Ok}
use Rattle.formats.specs.Objects.{bounds_of}
use Rattle.logical_btree.specs.Plan.{get_answer}
use Rattle.script_lines.specs.declared.line.Line.TheVariants.{Ask}
use Rattle.script_lines.specs.declared.line.Question.TheVariants.{TreeGet as tget}
use Rattle.shell_base.specs.Store.{state_of}
use Rattle.script_run.specs.Made.{found_reply}
use Rattle.script_run.specs.declared.asking.Found.TheVariants.{Value, Absent}
use Rattle.script_run.proofs.MakingLemmas.{asked_badly, asked_nowhere, asked_well, found_so, no_range, nowhere, tree_is}
use Rattle.script_run.proofs.asking.find.Goals as goal

pub returns-in_default : goal.returns-in_default
returns-in_default g c =
    asked_nowhere (Ask (tget c.args.low c.args.high c.args.key))
    (λ p commands. ap (λ a. Some (found_reply a)) (nowhere (bounds_of p) c.args.low c.args.high _ _ (no_range c.args.low c.args.high c.in_default.ensures))) (c.nothing_is_made.ensures.calls c.requires) c.nothing_is_made.ensures.front

pub returns-in-Ok-Some : goal.returns-in-Ok-Some
returns-in-Ok-Some g c =
    asked_well _ _ _ _ found_reply (λ why. refl) (Ask (tget c.args.low c.args.high c.args.key)) (λ p commands t. get_answer (bounds_of p) t.lo t.hi (state_of p commands) c.args.key) c.args.low c.args.high (λ p commands. refl)
    c.in-Some.tree (Value c.in-Ok-Some.value) (tree_is c.args.low c.args.high c.in-Some.tree c.in-Some.ensures) c.in-Ok-Some.ensures.calls c.in-Ok-Some.ensures.adds
    (λ p commands holds. found_so _ _ (c.in-Ok-Some.ensures.answer p commands holds refl) ∙ ap (λ (f : Option (List ℕ)). found_reply (Ok f)) c.in-Ok-Some.field-0-is)

pub returns-in-Ok-None : goal.returns-in-Ok-None
returns-in-Ok-None g c =
    asked_well _ _ _ _ found_reply (λ why. refl) (Ask (tget c.args.low c.args.high c.args.key)) (λ p commands t. get_answer (bounds_of p) t.lo t.hi (state_of p commands) c.args.key) c.args.low c.args.high (λ p commands. refl)
    c.in-Some.tree Absent (tree_is c.args.low c.args.high c.in-Some.tree c.in-Some.ensures) c.in-Ok-None.ensures.calls c.in-Ok-None.ensures.adds
    (λ p commands holds. found_so _ _ (c.in-Ok-None.ensures.answer p commands holds refl) ∙ ap (λ (f : Option (List ℕ)). found_reply (Ok f)) c.in-Ok-None.field-0-is)

pub returns-in-Err : goal.returns-in-Err
returns-in-Err g c =
    asked_badly _ _ _ _ found_reply (λ why. refl) (Ask (tget c.args.low c.args.high c.args.key)) (λ p commands t. get_answer (bounds_of p) t.lo t.hi (state_of p commands) c.args.key) c.args.low c.args.high (λ p commands. refl)
    c.in-Some.tree c.in-Err.error (tree_is c.args.low c.args.high c.in-Some.tree c.in-Some.ensures) c.in-Err.ensures.calls c.in-Err.ensures.adds c.in-Err.ensures.answer c.refused.ensures
