use Rattle.std.proofs.Common.{List, refl, ℕ}
use Rattle.page_map.specs.Ranges.{range_answer}
use Rattle.page_map.specs.Reads.{above}
use Rattle.script_lines.specs.Replies.{pairs_reply}
use Rattle.script_lines.specs.declared.line.MapQuestion.TheVariants.{Next}
use Rattle.script_run.specs.declared.asking.Found.TheVariants.{Entries}
use Rattle.script_run.proofs.MapLemmas.{asked, not_asked, nothing_asked}
use Rattle.script_run.proofs.map_asking.map_next.Goals as goal

pub returns-in_default : goal.returns-in_default
returns-in_default g c = nothing_asked c.args.low c.args.high (Next c.args.key.now) c.in_default.ensures (c.nothing_is_made.ensures.calls c.requires) c.nothing_is_made.ensures.front

pub returns-in-Ok : goal.returns-in-Ok
returns-in-Ok g c =
    asked pairs_reply (λ (k : List ℕ) lo hi s. range_answer lo hi s (above k) 1) _ _ _ _ c.args.low c.args.high (Next c.args.key.now) c.args.key.now c.as_slice.result.now
    c.as_slice.ensures.value (λ p commands. refl) c.in-Some.map (Entries c.in-Ok.found) c.in-Ok.found.items c.in-Some.ensures c.in-Ok.ensures.calls c.in-Ok.ensures.adds c.in-Ok.ensures.found
    refl

pub returns-in-Err : goal.returns-in-Err
returns-in-Err g c =
    not_asked pairs_reply (λ (k : List ℕ) lo hi s. range_answer lo hi s (above k) 1) _ _ _ _ c.args.low c.args.high (Next c.args.key.now) c.args.key.now c.as_slice.result.now
    c.as_slice.ensures.value (λ p commands. refl) c.in-Some.map c.in-Err.error c.in-Some.ensures c.in-Err.ensures.calls c.in-Err.ensures.adds c.in-Err.ensures.refused c.map_refused.ensures
