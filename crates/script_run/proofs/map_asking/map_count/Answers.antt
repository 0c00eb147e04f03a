use Rattle.std.proofs.Common.{option_map, refl}
use Rattle.page_map.specs.Map.{Span}
use Rattle.page_map.specs.Ranges.{count_answer}
use Rattle.script_lines.specs.Replies.{counted}
use Rattle.script_lines.specs.declared.line.MapQuestion.TheVariants.{Count}
use Rattle.script_run.specs.Made.{keys_from}
use Rattle.script_run.specs.declared.asking.Found.TheVariants.{Counted}
use Rattle.script_run.proofs.MapLemmas.{asked, keys_so, not_asked, nothing_asked}
use Rattle.script_run.proofs.map_asking.map_count.Goals as goal

pub returns-in_default : goal.returns-in_default
returns-in_default g c = nothing_asked c.args.low c.args.high (Count c.args.from.now c.args.to.now) c.in_default.ensures (c.nothing_is_made.ensures.calls c.requires) c.nothing_is_made.ensures.front

pub returns-in-Ok : goal.returns-in-Ok
returns-in-Ok g c =
    asked counted (λ (k : Span) lo hi s. count_answer lo hi s k) _ _ _ _ c.args.low c.args.high (Count c.args.from.now c.args.to.now) (keys_from c.args.from.now c.args.to.now) (record { from = c.as_slice.result.now; to = option_map (λ end. end.now) c.end_of.result })
    (keys_so c.args.from.now c.args.to.now _ _ c.as_slice.ensures.value c.end_of.ensures) (λ p commands. refl) c.in-Some.map (Counted c.in-Ok.found) c.in-Ok.found c.in-Some.ensures c.in-Ok.ensures.calls c.in-Ok.ensures.adds c.in-Ok.ensures.found
    refl

pub returns-in-Err : goal.returns-in-Err
returns-in-Err g c =
    not_asked counted (λ (k : Span) lo hi s. count_answer lo hi s k) _ _ _ _ c.args.low c.args.high (Count c.args.from.now c.args.to.now) (keys_from c.args.from.now c.args.to.now) (record { from = c.as_slice.result.now; to = option_map (λ end. end.now) c.end_of.result })
    (keys_so c.args.from.now c.args.to.now _ _ c.as_slice.ensures.value c.end_of.ensures) (λ p commands. refl) c.in-Some.map c.in-Err.error c.in-Some.ensures c.in-Err.ensures.calls c.in-Err.ensures.adds c.in-Err.ensures.refused c.map_refused.ensures
