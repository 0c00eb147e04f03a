use Rattle.std.proofs.Common.{◌≡◌, ◌<◌, ◌≤◌, ◌^◌, ◌∙◌, ◌+◌, ℕ, List, length, drop, subst, ap, arith, length-drop}
use Rattle.formats.specs.Log.{Header}
use Rattle.log_blocks.specs.LogView.{LogView}
use Rattle.log_blocks.specs.Forcing.{IsAtRest, IsLogAt, with_block}
use Rattle.log_blocks.proofs.Steps.{force_moments}
use Rattle.log_blocks.proofs.log_file.LogFile.force.Goals as goal

pub returns-in_err-written-clause-any_moment : goal.returns-in_err-written-clause-any_moment
returns-in_err-written-clause-any_moment g c told =
    let long = length-drop 4 c.self.inside.buffer.items in
    force_moments _ _ _ _ c.deref.result.now c.self.view_is (c.deref.ensures.value ∙ c.seal.ensures.sealed) (omega (arith, long)) (omega (arith, long)) (c.write_block-written.ensures.any_moment told)

pub returns-clause-any_moment : goal.returns-clause-any_moment
returns-clause-any_moment g c told =
    let long = length-drop 4 c.self.inside.buffer.items in
    force_moments _ _ _ _ c.deref.result.now c.self.view_is (c.deref.ensures.value ∙ c.seal.ensures.sealed) (omega (arith, long)) (omega (arith, long)) (c.write_block-written.ensures.any_moment told)

pub returns-clause-acknowledged : goal.returns-clause-acknowledged
returns-clause-acknowledged g c told =
    let old = g.M.Machine.disk c.args.machine.now in
    let new = g.M.Machine.disk c.write_block-written.new.machine in
    let a = c.self.inside in
    let header : Header = record { epoch = a.header.epoch; base = a.header.base; commands = a.header.commands } in
    let waits = drop 4 a.buffer.items in
    let some : 0 < length waits = omega (arith, length-drop 4 a.buffer.items) in
    let short : length waits ≤ 2 ^ 30 = omega (arith, length-drop 4 a.buffer.items) in
    let bytes = c.deref.ensures.value ∙ c.seal.ensures.sealed in
    let sealed : a.end + length c.deref.result.now ≡ a.end + c.len-sealed.result = omega (arith, c.len-sealed.ensures, ap length c.deref.ensures.value) in
    subst (λ (log : LogView). (payloads : List (List ℕ)) → IsAtRest old log payloads → IsLogAt new a.active (a.end + c.len-sealed.result) header (with_block payloads log.pending)) c.self.view_is
    (λ payloads rests. subst (λ (gate : ℕ). IsLogAt new a.active gate header (with_block payloads waits)) sealed (c.in_ok-written.ensures.acknowledged told header payloads waits some short bytes rests))
