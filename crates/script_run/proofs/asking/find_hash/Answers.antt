use Rattle.std.proofs.Common.{◌∙◌, refl, ap, List, ℕ, Option, Some, Ok}
use Rattle.formats.specs.Objects.{bounds_of}
use Rattle.hash_file.specs.Plan.{get_answer}
use Rattle.script_lines.specs.declared.line.Line.TheVariants.{Ask}
use Rattle.script_lines.specs.declared.line.Question.TheVariants.{HashGet as hget}
use Rattle.shell_base.specs.Store.{state_of}
use Rattle.script_run.specs.Found.{hash_answer}
use Rattle.script_run.specs.Made.{hash_found, hash_reply}
use Rattle.script_run.specs.declared.asking.Found.TheVariants.{Value, Absent}
use Rattle.script_run.proofs.HashLemmas.{file_is, found_so, hash_agree, no_file, nowhere}
use Rattle.script_run.proofs.MakingLemmas.{asked_nowhere}
use Rattle.script_run.proofs.RangeLemmas.{call_asked_badly, call_asked_well}
use Rattle.script_run.proofs.asking.find_hash.Goals as goal

pub returns-in_default : goal.returns-in_default
returns-in_default g c =
    asked_nowhere (Ask (hget c.args.low c.args.high c.args.key))
    (λ p commands. ap (λ a. Some (hash_found a)) (nowhere (bounds_of p) c.args.low c.args.high _ _ (no_file c.args.low c.args.high c.in_default.ensures))) (c.nothing_is_made.ensures.calls c.requires) c.nothing_is_made.ensures.front

pub returns-in-Ok-Some : goal.returns-in-Ok-Some
returns-in-Ok-Some g c =
    call_asked_well hash_answer hash_reply hash_agree hash_found (λ why. refl) _ _ _ _ (Ask (hget c.args.low c.args.high c.args.key)) (λ p commands t. get_answer (bounds_of p) t.lo t.hi (state_of p commands) c.args.key) (record { lo = c.args.low; hi = c.args.high })
    (λ p commands. refl) c.in-Some.file (Value c.in-Ok-Some.value) (file_is c.args.low c.args.high c.in-Some.file c.in-Some.ensures) c.in-Ok-Some.ensures.calls c.in-Ok-Some.ensures.adds
    (λ p commands holds. found_so _ _ (c.in-Ok-Some.ensures.answer p commands holds refl) ∙ ap (λ (f : Option (List ℕ)). hash_found (Ok f)) c.in-Ok-Some.field-0-is)

pub returns-in-Ok-None : goal.returns-in-Ok-None
returns-in-Ok-None g c =
    call_asked_well hash_answer hash_reply hash_agree hash_found (λ why. refl) _ _ _ _ (Ask (hget c.args.low c.args.high c.args.key)) (λ p commands t. get_answer (bounds_of p) t.lo t.hi (state_of p commands) c.args.key) (record { lo = c.args.low; hi = c.args.high })
    (λ p commands. refl) c.in-Some.file Absent (file_is c.args.low c.args.high c.in-Some.file c.in-Some.ensures) c.in-Ok-None.ensures.calls c.in-Ok-None.ensures.adds
    (λ p commands holds. found_so _ _ (c.in-Ok-None.ensures.answer p commands holds refl) ∙ ap (λ (f : Option (List ℕ)). hash_found (Ok f)) c.in-Ok-None.field-0-is)

pub returns-in-Err : goal.returns-in-Err
returns-in-Err g c =
    call_asked_badly hash_answer hash_reply hash_agree hash_found (λ why. refl) _ _ _ _ (Ask (hget c.args.low c.args.high c.args.key)) (λ p commands t. get_answer (bounds_of p) t.lo t.hi (state_of p commands) c.args.key) (record { lo = c.args.low; hi = c.args.high })
    (λ p commands. refl) c.in-Some.file c.in-Err.error (file_is c.args.low c.args.high c.in-Some.file c.in-Some.ensures) c.in-Err.ensures.calls c.in-Err.ensures.adds c.in-Err.ensures.answer c.hash_refused.ensures
