use Rattle.std.proofs.Common.{option_map, refl}
use Rattle.page_map.specs.Map.{Span}
use Rattle.page_map.specs.Ranges.{back_answer}
use Rattle.script_lines.specs.Replies.{pairs_reply}
use Rattle.script_lines.specs.declared.line.MapQuestion.TheVariants.{Back}
use Rattle.script_run.specs.Made.{keys_from}
use Rattle.script_run.specs.declared.asking.Found.TheVariants.{Entries}
use Rattle.script_run.proofs.MapLemmas.{asked, keys_so, not_asked, nothing_asked}
use Rattle.script_run.proofs.map_asking.map_back.Goals as goal

pub returns-in_default : goal.returns-in_default
returns-in_default g c = nothing_asked c.args.low c.args.high (Back c.args.from.now c.args.to.now c.args.limit) c.in_default.ensures (c.nothing_is_made.ensures.calls c.requires) c.nothing_is_made.ensures.front

pub returns-in-Ok : goal.returns-in-Ok
returns-in-Ok g c =
    asked pairs_reply (λ (k : Span) lo hi s. back_answer lo hi s k c.args.limit) _ _ _ _ c.args.low c.args.high (Back c.args.from.now c.args.to.now c.args.limit) (keys_from c.args.from.now c.args.to.now) (record { from = c.as_slice.result.now; to = option_map (λ end. end.now) c.end_of.result })
    (keys_so c.args.from.now c.args.to.now _ _ c.as_slice.ensures.value c.end_of.ensures) (λ p commands. refl) c.in-Some.map (Entries c.in-Ok.found) c.in-Ok.found.items c.in-Some.ensures c.in-Ok.ensures.calls c.in-Ok.ensures.adds c.in-Ok.ensures.found
    refl

pub returns-in-Err : goal.returns-in-Err
returns-in-Err g c =
    not_asked pairs_reply (λ (k : Span) lo hi s. back_answer lo hi s k c.args.limit) _ _ _ _ c.args.low c.args.high (Back c.args.from.now c.args.to.now c.args.limit) (keys_from c.args.from.now c.args.to.now) (record { from = c.as_slice.result.now; to = option_map (λ end. end.now) c.end_of.result })
    (keys_so c.args.from.now c.args.to.now _ _ c.as_slice.ensures.value c.end_of.ensures) (λ p commands. refl) c.in-Some.map c.in-Err.error c.in-Some.ensures c.in-Err.ensures.calls c.in-Err.ensures.adds c.in-Err.ensures.refused c.map_refused.ensures
