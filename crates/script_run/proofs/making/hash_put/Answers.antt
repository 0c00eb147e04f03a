use Rattle.std.proofs.Common.{refl}
use Rattle.formats.specs.Objects.{bounds_of}
use Rattle.hash_file.specs.Plan.{put_plan}
use Rattle.hash_file.specs.declared.refusal.HashRefusal.TheVariants.{NoObject}
use Rattle.op_codec.specs.AllOps.{hash}
use Rattle.script_lines.specs.declared.line.Line.TheVariants.{Make}
use Rattle.script_lines.specs.declared.line.Making.TheVariants.{HashPut as hset}
use Rattle.shell_base.specs.Store.{state_of}
use Rattle.script_run.specs.Found.{hash_answer}
use Rattle.script_run.specs.Made.{hash_reply}
use Rattle.script_run.proofs.HashLemmas.{file_is, hash_agree, no_file, nowhere}
use Rattle.script_run.proofs.RangeLemmas.{call_made_badly, call_made_nowhere, call_made_well}
use Rattle.script_run.proofs.making.hash_put.Goals as goal

pub returns-in_default : goal.returns-in_default
returns-in_default g c =
    call_made_nowhere hash_answer hash_reply hash_agree hash (Make (hset c.args.low c.args.high c.args.key c.args.value)) (λ p commands. put_plan (bounds_of p) c.args.low c.args.high (state_of p commands) c.args.key c.args.value) NoObject (λ p commands. refl)
    (λ p commands. nowhere (bounds_of p) c.args.low c.args.high _ _ (no_file c.args.low c.args.high c.in_default.ensures)) (c.nothing_is_made.ensures.calls c.requires) c.nothing_is_made.ensures.front

pub returns-in-Ok : goal.returns-in-Ok
returns-in-Ok g c =
    call_made_well hash_answer hash_reply hash_agree hash _ _ _ _ (Make (hset c.args.low c.args.high c.args.key c.args.value)) (λ p commands t. put_plan (bounds_of p) t.lo t.hi (state_of p commands) c.args.key c.args.value) (record { lo = c.args.low; hi = c.args.high }) (λ p commands. refl)
    c.in-Some.file (file_is c.args.low c.args.high c.in-Some.file c.in-Some.ensures) c.in-Ok.ensures.calls c.in-Ok.ensures.adds c.in-Ok.ensures.answer

pub returns-in-Err : goal.returns-in-Err
returns-in-Err g c =
    call_made_badly hash_answer hash_reply hash_agree hash _ _ _ _ (Make (hset c.args.low c.args.high c.args.key c.args.value)) (λ p commands t. put_plan (bounds_of p) t.lo t.hi (state_of p commands) c.args.key c.args.value) (record { lo = c.args.low; hi = c.args.high }) (λ p commands. refl)
    c.in-Some.file c.in-Err.error (file_is c.args.low c.args.high c.in-Some.file c.in-Some.ensures) c.in-Err.ensures.calls c.in-Err.ensures.adds c.in-Err.ensures.answer c.hash_error_answer.ensures
