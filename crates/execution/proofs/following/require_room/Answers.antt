use Rattle.std.proofs.Common.{rules, ◌≡◌, ◌+◌, ◌<◌, ◌≤◌, ap, arith, length, refl, ℕ}
use Rattle.std.specs.Prelude.{◌^◌, if◌then◌else◌, nat_lt}
use Rattle.formats.specs.Limits.{block_limit, log_limit}
use Rattle.log_blocks.specs.LogView.{used_of, growth_of}
use Rattle.log_records.specs.RecordLog.{RecordLogView}
use Rattle.running_store.specs.Parts.{Parts}
use Rattle.running_store.specs.Taking.{Takes}
use Rattle.running_store.specs.Taking.Ending.{Done, Failed}
use Rattle.execution.specs.Following.{ending_of_follow, room_course}
use Rattle.execution.specs.declared.record_err.RecordErr.TheVariants.{DiskFault}
use Rattle.cache_manager.specs.Endings.{at_err}
use Rattle.execution.proofs.Rooms.{forced_room, full_room, none_room, place_forced, place_here, some_growth}
use Rattle.execution.proofs.following.require_room.Given.{Over}
use Rattle.execution.proofs.following.require_room.Goals.{After-growth-need}
use Rattle.execution.proofs.following.require_room.Goals as goal

module _ (g : Over) (c : After-growth-need g) where
  abbrev it : Parts
  it = c.args.store.now.parts

  abbrev n : ℕ
  n = c.args.n

  need_is : c.growth-need.result ≡ (if nat_lt block_limit (length it.log.log.pending + n) then n + 5 else growth_of it.log.log.pending n)
  need_is = search rules

  used_is : c.used-used.result ≡ used_of it.log.log
  used_is = search rules

pub returns-then-saturating_sub-need-clause-takes : goal.returns-then-saturating_sub-need-clause-takes
returns-then-saturating_sub-need-clause-takes g c =
    let at = (goal.at.returns-then-saturating_sub-need-clause-takes g c).After-growth-need in
    let over : log_limit < used_of (it g at).log.log + c.growth-need.result = omega (arith, used_is g at, c.if-saturating_sub-need.true, c.saturating_sub.ensures) in
    full_room g.O.Oper.meaning (g.M.Machine.disk c.args.machine.now) (it g at) c.args.n c.growth-need.result (need_is g at) (g.met.M.Machine.lawful c.args.machine.now) over c.used-used.result log_limit (used_is g at) refl

pub returns-then-buffered-room-clause-takes : goal.returns-then-buffered-room-clause-takes
returns-then-buffered-room-clause-takes g c =
    let at = (goal.at.returns-then-buffered-room-clause-takes g c).After-growth-need in
    let fits : used_of (it g at).log.log + c.growth-need.result ≤ log_limit = omega (arith, used_is g at, c.if-saturating_sub-need.false, c.saturating_sub.ensures, some_growth (it g at).log c.args.n c.growth-need.result c.requires.some (need_is g at)) in
    let short : length (it g at).log.log.pending + c.args.n ≤ 2 ^ 30 = omega (arith, c.if-buffered-room.true, c.buffered.ensures, ap (λ (l : RecordLogView). length l.log.pending) c.log-3.ensures, c.requires.short) in
    none_room g.O.Oper.meaning (g.M.Machine.disk c.args.machine.now) (it g at) c.args.n c.growth-need.result (need_is g at) fits (g.met.M.Machine.lawful c.args.machine.now) short

pub returns-then-buffered-room-clause-place : goal.returns-then-buffered-room-clause-place
returns-then-buffered-room-clause-place g c =
    let at = (goal.at.returns-then-buffered-room-clause-place g c).After-growth-need in
    let fits : used_of (it g at).log.log + c.growth-need.result ≤ log_limit = omega (arith, used_is g at, c.if-saturating_sub-need.false, c.saturating_sub.ensures, some_growth (it g at).log c.args.n c.growth-need.result c.requires.some (need_is g at)) in
    let short : length (it g at).log.log.pending + c.args.n ≤ 2 ^ 30 = omega (arith, c.if-buffered-room.true, c.buffered.ensures, ap (λ (l : RecordLogView). length l.log.pending) c.log-3.ensures, c.requires.short) in
    place_here (it g at).log c.args.n c.growth-need.result (need_is g at) fits short

pub returns-in_err-force-clause-takes : goal.returns-in_err-force-clause-takes
returns-in_err-force-clause-takes g c =
    let at = (goal.at.returns-in_err-force-clause-takes g c).After-growth-need in
    let fits : used_of (it g at).log.log + c.growth-need.result ≤ log_limit = omega (arith, used_is g at, c.if-saturating_sub-need.false, c.saturating_sub.ensures, some_growth (it g at).log c.args.n c.growth-need.result c.requires.some (need_is g at)) in
    let over : 2 ^ 30 < length (it g at).log.log.pending + c.args.n = omega (arith, c.if-buffered-room.false, c.buffered.ensures, ap (λ (l : RecordLogView). length l.log.pending) c.log-3.ensures, c.requires.short) in
    at_err (λ r. Takes g.O.Oper.meaning (g.M.Machine.disk c.args.machine.now) (g.M.Machine.disk c.force.new.machine) (it g at) c.force.new.self.parts (λ m w used. room_course m c.args.n w used) (ending_of_follow r)) c.from_residual.result DiskFault c.from_residual.ensures.1
    (forced_room g.O.Oper.meaning (g.M.Machine.disk c.args.machine.now) (it g at) c.args.n c.growth-need.result (need_is g at) fits (g.M.Machine.disk c.force.new.machine) c.force.new.self.parts Failed over c.in_err-force.ensures.takes)

pub returns-clause-takes : goal.returns-clause-takes
returns-clause-takes g c =
    let at = (goal.at.returns-clause-takes g c).After-growth-need in
    let fits : used_of (it g at).log.log + c.growth-need.result ≤ log_limit = omega (arith, used_is g at, c.if-saturating_sub-need.false, c.saturating_sub.ensures, some_growth (it g at).log c.args.n c.growth-need.result c.requires.some (need_is g at)) in
    let over : 2 ^ 30 < length (it g at).log.log.pending + c.args.n = omega (arith, c.if-buffered-room.false, c.buffered.ensures, ap (λ (l : RecordLogView). length l.log.pending) c.log-3.ensures, c.requires.short) in
    forced_room g.O.Oper.meaning (g.M.Machine.disk c.args.machine.now) (it g at) c.args.n c.growth-need.result (need_is g at) fits (g.M.Machine.disk c.force.new.machine) c.force.new.self.parts Done over c.in_ok-force.ensures.takes

pub returns-clause-place : goal.returns-clause-place
returns-clause-place g c =
    let at = (goal.at.returns-clause-place g c).After-growth-need in
    let fits : used_of (it g at).log.log + c.growth-need.result ≤ log_limit = omega (arith, used_is g at, c.if-saturating_sub-need.false, c.saturating_sub.ensures, some_growth (it g at).log c.args.n c.growth-need.result c.requires.some (need_is g at)) in
    let over : 2 ^ 30 < length (it g at).log.log.pending + c.args.n = omega (arith, c.if-buffered-room.false, c.buffered.ensures, ap (λ (l : RecordLogView). length l.log.pending) c.log-3.ensures, c.requires.short) in
    place_forced (it g at).log c.args.n c.growth-need.result (need_is g at) fits c.force.new.self.parts.log c.requires.short over c.in_ok-force.ensures.forced.0
