use Rattle.std.proofs.Common.{refl}
use Rattle.formats.specs.Objects.{bounds_of}
use Rattle.logical_btree.specs.Plan.{delete_plan}
use Rattle.script_lines.specs.declared.line.Line.TheVariants.{Make}
use Rattle.script_lines.specs.declared.line.Making.TheVariants.{TreeDelete as tdelete}
use Rattle.shell_base.specs.Store.{state_of}
use Rattle.script_run.proofs.MakingLemmas.{made_badly, made_nowhere, made_well, no_range, nowhere, tree_is}
use Rattle.script_run.proofs.making.delete.Goals as goal

pub returns-in_default : goal.returns-in_default
returns-in_default g c =
    made_nowhere (Make (tdelete c.args.low c.args.high c.args.key)) (λ p commands. delete_plan (bounds_of p) c.args.low c.args.high (state_of p commands) c.args.key) (λ p commands. refl)
    (λ p commands. nowhere (bounds_of p) c.args.low c.args.high _ _ (no_range c.args.low c.args.high c.in_default.ensures)) (c.nothing_is_made.ensures.calls c.requires) c.nothing_is_made.ensures.front

pub returns-in-Ok : goal.returns-in-Ok
returns-in-Ok g c =
    made_well _ _ _ _ (Make (tdelete c.args.low c.args.high c.args.key)) (λ p commands t. delete_plan (bounds_of p) t.lo t.hi (state_of p commands) c.args.key) c.args.low c.args.high (λ p commands. refl)
    c.in-Some.tree (tree_is c.args.low c.args.high c.in-Some.tree c.in-Some.ensures) c.in-Ok.ensures.calls c.in-Ok.ensures.adds c.in-Ok.ensures.answer

pub returns-in-Err : goal.returns-in-Err
returns-in-Err g c =
    made_badly _ _ _ _ (Make (tdelete c.args.low c.args.high c.args.key)) (λ p commands t. delete_plan (bounds_of p) t.lo t.hi (state_of p commands) c.args.key) c.args.low c.args.high (λ p commands. refl)
    c.in-Some.tree c.in-Err.error (tree_is c.args.low c.args.high c.in-Some.tree c.in-Some.ensures) c.in-Err.ensures.calls c.in-Err.ensures.adds c.in-Err.ensures.answer c.tree_answer.ensures
