use Rattle.std.proofs.Common.{length, None, ap, sym, subst, ◌∙◌}
use Rattle.disk_model.specs.Disk.{Disk, LeavesOnly}
use Rattle.disk_model.specs.Moments.{passes_twice}
use Rattle.disk_model.specs.declared.machine.FileNo.TheVariants.{Objects}
use Rattle.formats.specs.Objects.{bounds_of}
use Rattle.explain_core.specs.declared.marks.Marks.{Marks}
use Rattle.restart.specs.Starts.{OrAtStart}
use Rattle.standing.specs.OneStable.{small_store}
use Rattle.restart.specs.Courses.{restart_course}
use Rattle.restart.specs.Opening.{OpensThrough}
use Rattle.running_store.specs.Taking.{IsAfter}
use Rattle.shell_base.specs.First.{OpeningMoment, marks_of}
use Rattle.shell_base.specs.Store.{Between, Opens, meaning_in}
use Rattle.shell_base.specs.RestartLaws.{first_of, no_damage, shows_first, unopened_so}
use Rattle.shell_base.proofs.store_opening.open_store.Goals as goal

pub returns-in-Ok-clause-time : goal.returns-in-Ok-clause-time
returns-in-Ok-clause-time g c = c.restart.ensures.opening.time

pub returns-in-Err-clause-time : goal.returns-in-Err-clause-time
returns-in-Err-clause-time g c = passes_twice (g.M.Machine.disk c.args.machine.now) (g.M.Machine.disk c.restart.new.machine) (g.M.Machine.disk c.end_unopened.new.machine) (g.met.M.Machine.lawful c.end_unopened.new.machine) c.restart.ensures.opening.time c.end_unopened.ensures.time

pub returns-in-Ok-clause-opens : goal.returns-in-Ok-clause-opens
returns-in-Ok-clause-opens g c = λ p commands opens. record {
  quiet = c.restart.ensures.opening.quiet opens.told;
  images = λ telling. c.restart.ensures.images telling p commands opens;
  again = λ telling. c.restart.ensures.again telling p commands opens;
  first = first_of opens (c.opens_on_a_world.ensures.world p (g.M.Machine.disk c.args.machine.now).reads commands opens.stands);
  steps = λ telling first is. subst (λ (n : Marks). OpensThrough (meaning_in p) p (g.M.Machine.disk c.args.machine.now) (g.M.Machine.disk c.restart.new.machine) is.world (restart_course (meaning_in p) n is.world is.used).steps) (c.tuning.ensures.marks p) (c.restart.ensures.steps telling p is.used is.world is.found);
}

pub returns-in-Err-clause-opens : goal.returns-in-Err-clause-opens
returns-in-Err-clause-opens g c = λ p commands opens.
    let whole = (c.in-Err.ensures.judged opens.told).whole (c.standing_files_meet_their_format.ensures.format p _ commands opens.stands) in
    let same = ap g.M.Machine.disk (c.end_unopened.ensures.quiet (no_damage c.in-Err.cause whole) whole).0 in
    record {
      quiet = ap (λ (d : Disk). d.said) same ∙ c.restart.ensures.opening.quiet opens.told;
      images = λ telling. subst (λ (d : Disk). LeavesOnly (g.M.Machine.disk c.args.machine.now) d (OrAtStart (g.M.Machine.disk c.args.machine.now) (Between p (g.M.Machine.disk c.args.machine.now) None (length commands) (length commands) commands))) (sym same) (c.restart.ensures.images telling p commands opens);
      again = λ telling. subst (λ (d : Disk). Opens p d commands) (sym same) (c.restart.ensures.again telling p commands opens);
      first = first_of opens (c.opens_on_a_world.ensures.world p (g.M.Machine.disk c.args.machine.now).reads commands opens.stands);
      steps = λ telling first is.
          subst (λ (d : Disk). LeavesOnly (g.M.Machine.disk c.args.machine.now) d (OrAtStart (g.M.Machine.disk c.args.machine.now) (OpeningMoment c.args.budget p commands (g.M.Machine.disk c.args.machine.now) first is))) (sym same)
          (subst (λ (n : Marks). OpensThrough (meaning_in p) p (g.M.Machine.disk c.args.machine.now) (g.M.Machine.disk c.restart.new.machine) is.world (restart_course (meaning_in p) n is.world is.used).steps) (c.tuning.ensures.marks p) (c.restart.ensures.steps telling p is.used is.world is.found));
    }

pub returns-in-Ok-clause-ok : goal.returns-in-Ok-clause-ok
returns-in-Ok-clause-ok g c = λ p commands opens.
    let stands = c.in-Ok.ensures.holds p commands opens in
    record {
      all = stands.1;
      alone = c.in-Ok.ensures.ready.1;
      uncopied = c.in-Ok.ensures.ready.2;
      shows = λ first is. shows_first first is c.in-Ok.ensures.ready.0 c.in-Ok.ensures.ready.1 c.in-Ok.ensures.ready.2 c.in-Ok.ensures.ready.3 (subst (λ (n : Marks). IsAfter (meaning_in p) p (g.M.Machine.disk c.restart.new.machine) c.in-Ok.engine.parts is.world (restart_course (meaning_in p) n is.world is.used)) (c.tuning.ensures.marks p) (c.in-Ok.ensures.follows p is.used is.world is.found))
          (c.a_restart_may_be_made.ensures.reopened (bounds_of p) is.world (marks_of c.args.budget p) is.used (small_store p ((g.M.Machine.disk c.args.machine.now).reads Objects) is.found.shows.objects) is.found.sound) stands.0 (c.engine_stands.ensures p);
    }

pub returns-in-Ok-clause-ready : goal.returns-in-Ok-clause-ready
returns-in-Ok-clause-ready g c = (c.in-Ok.ensures.ready.0, c.in-Ok.ensures.ready.4)

pub returns-in-Ok-clause-layout : goal.returns-in-Ok-clause-layout
returns-in-Ok-clause-layout g c = λ told. (c.in-Ok.ensures.judged told).layout

pub returns-in-Ok-clause-settled : goal.returns-in-Ok-clause-settled
returns-in-Ok-clause-settled g c = c.in-Ok.ensures.opening.settled

pub returns-in-Ok-clause-quiet : goal.returns-in-Ok-clause-quiet
returns-in-Ok-clause-quiet g c = λ told. c.restart.ensures.opening.quiet told

pub returns-in-Ok-clause-read : goal.returns-in-Ok-clause-read
returns-in-Ok-clause-read g c = λ told. (c.in-Ok.ensures.judged told).read

pub returns-in-Err-clause-unopened : goal.returns-in-Err-clause-unopened
returns-in-Err-clause-unopened g c = unopened_so c.in-Err.ensures.opening c.in-Err.ensures.judged c.in-Err.ensures.reported (record {
  time = c.end_unopened.ensures.time;
  keeps = c.end_unopened.ensures.keeps;
  no_store = c.end_unopened.ensures.no_store;
  damaged = c.end_unopened.ensures.damaged;
  read = c.end_unopened.ensures.read;
  quiet = λ none no. let quiet = c.end_unopened.ensures.quiet none no in (ap (λ (d : Disk). d.said) (ap g.M.Machine.disk quiet.0), quiet.1, quiet.2, quiet.3, quiet.4);
  silent = λ is. ap (λ (d : Disk). d.said) (ap g.M.Machine.disk (c.end_unopened.ensures.silent is));
  ends = c.end_unopened.ensures.status;
  faults = c.end_unopened.ensures.faults;
  memory = c.end_unopened.ensures.memory;
})
