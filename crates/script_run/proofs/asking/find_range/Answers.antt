use Rattle.std.proofs.Common.{refl, ap, sym, Some}
use Rattle.formats.specs.Objects.{bounds_of}
use Rattle.logical_btree.specs.Plan.{range_answer}
use Rattle.script_lines.specs.declared.line.Line.TheVariants.{Ask}
use Rattle.script_lines.specs.declared.line.Question.TheVariants.{TreeRange as trange}
use Rattle.shell_base.specs.Store.{state_of}
use Rattle.script_run.specs.Made.{range_reply}
use Rattle.script_run.specs.declared.asking.Found.TheVariants.{Pairs}
use Rattle.script_run.proofs.MakingLemmas.{asked_badly, asked_nowhere, asked_well, no_range, nowhere, tree_is}
use Rattle.script_run.proofs.asking.find_range.Goals as goal

pub returns-in_default : goal.returns-in_default
returns-in_default g c =
    asked_nowhere (Ask (trange c.args.low c.args.high c.args.from c.args.to))
    (λ p commands. ap (λ a. Some (range_reply a)) (nowhere (bounds_of p) c.args.low c.args.high _ _ (no_range c.args.low c.args.high c.in_default.ensures))) (c.nothing_is_made.ensures.calls c.requires) c.nothing_is_made.ensures.front

pub returns-in-Ok : goal.returns-in-Ok
returns-in-Ok g c =
    asked_well _ _ _ _ range_reply (λ why. refl) (Ask (trange c.args.low c.args.high c.args.from c.args.to)) (λ p commands t. range_answer (bounds_of p) t.lo t.hi (state_of p commands) c.args.from c.args.to) c.args.low c.args.high (λ p commands. refl)
    c.in-Some.tree (Pairs c.in-Ok.pairs) (tree_is c.args.low c.args.high c.in-Some.tree c.in-Some.ensures) c.in-Ok.ensures.calls c.in-Ok.ensures.adds
    (λ p commands holds. ap range_reply (c.in-Ok.ensures.pairs p commands holds))

pub returns-in-Err : goal.returns-in-Err
returns-in-Err g c =
    asked_badly _ _ _ _ range_reply (λ why. refl) (Ask (trange c.args.low c.args.high c.args.from c.args.to)) (λ p commands t. range_answer (bounds_of p) t.lo t.hi (state_of p commands) c.args.from c.args.to) c.args.low c.args.high (λ p commands. refl)
    c.in-Some.tree c.in-Err.error (tree_is c.args.low c.args.high c.in-Some.tree c.in-Some.ensures) c.in-Err.ensures.calls c.in-Err.ensures.adds
    (λ p commands holds done. sym (c.in-Err.ensures.refused p commands holds done)) c.refused.ensures
