use Rattle.std.proofs.Common.{List, ap, option_map, refl, ℕ}
use Rattle.page_map.specs.Walk.{get_answer}
use Rattle.script_lines.specs.declared.line.MapQuestion.TheVariants.{Get}
use Rattle.script_run.specs.Made.{value_reply}
use Rattle.script_run.specs.declared.asking.Found.TheVariants.{Bytes, Missing}
use Rattle.script_run.proofs.MapLemmas.{asked, not_asked, nothing_asked}
use Rattle.script_run.proofs.map_asking.map_get.Goals as goal

pub returns-in_default : goal.returns-in_default
returns-in_default g c = nothing_asked c.args.low c.args.high (Get c.args.key.now) c.in_default.ensures (c.nothing_is_made.ensures.calls c.requires) c.nothing_is_made.ensures.front

pub returns-in-Ok-Some : goal.returns-in-Ok-Some
returns-in-Ok-Some g c =
    asked value_reply (λ (k : List ℕ) lo hi s. get_answer lo hi s k) _ _ _ _ c.args.low c.args.high (Get c.args.key.now) c.args.key.now c.as_slice.result.now
    c.as_slice.ensures.value (λ p commands. refl) c.in-Some.map (Bytes c.in-Ok-Some.value) (option_map (λ v. v.items) c.in-Ok-Some.field-0) c.in-Some.ensures c.in-Ok-Some.ensures.calls c.in-Ok-Some.ensures.adds c.in-Ok-Some.ensures.found
    (ap (λ f. value_reply (option_map (λ v. v.items) f)) c.in-Ok-Some.field-0-is)

pub returns-in-Ok-None : goal.returns-in-Ok-None
returns-in-Ok-None g c =
    asked value_reply (λ (k : List ℕ) lo hi s. get_answer lo hi s k) _ _ _ _ c.args.low c.args.high (Get c.args.key.now) c.args.key.now c.as_slice.result.now
    c.as_slice.ensures.value (λ p commands. refl) c.in-Some.map Missing (option_map (λ v. v.items) c.in-Ok-None.field-0) c.in-Some.ensures c.in-Ok-None.ensures.calls c.in-Ok-None.ensures.adds c.in-Ok-None.ensures.found
    (ap (λ f. value_reply (option_map (λ v. v.items) f)) c.in-Ok-None.field-0-is)

pub returns-in-Err : goal.returns-in-Err
returns-in-Err g c =
    not_asked value_reply (λ (k : List ℕ) lo hi s. get_answer lo hi s k) _ _ _ _ c.args.low c.args.high (Get c.args.key.now) c.args.key.now c.as_slice.result.now
    c.as_slice.ensures.value (λ p commands. refl) c.in-Some.map c.in-Err.error c.in-Some.ensures c.in-Err.ensures.calls c.in-Err.ensures.adds c.in-Err.ensures.refused c.map_refused.ensures
