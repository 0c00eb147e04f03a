use Rattle.std.proofs.Common.{◌∙◌, [], length, None, ap, sym, subst}
use Rattle.disk_model.specs.Disk.{Disk, LeavesOnly}
use Rattle.disk_model.specs.Moments.{passes_twice}
use Rattle.restart.specs.Starts.{OrAtStart}
use Rattle.disk_model.specs.declared.machine.FileNo.TheVariants.{Objects}
use Rattle.formats.specs.Objects.{bounds_of}
use Rattle.standing.specs.OneStable.{small_store}
use Rattle.explain_core.specs.World.{World, run}
use Rattle.op_codec.specs.AllOps.{all_meaning}
use Rattle.restart.specs.Courses.{restart_course}
use Rattle.explain_core.specs.declared.marks.Marks.{Marks}
use Rattle.restart.specs.Opening.{OpensThrough}
use Rattle.standby_node.specs.Standby.{IsFollowing}
use Rattle.shell_base.specs.First.{OpeningMoment, marks_of}
use Rattle.shell_base.specs.Store.{Between, Command, Opens, ShowsIn, meaning_in}
use Rattle.shell_base.specs.RestartLaws.{first_commands, first_of, no_damage, unopened_so}
use Rattle.standby_words.proofs.FollowingLemmas.{first_begins}
use Rattle.standby_words.proofs.following.attach_store.Goals as goal

pub returns-in-Ok-clause-time : goal.returns-in-Ok-clause-time
returns-in-Ok-clause-time g c = c.attach.ensures.opening.time

pub returns-in-Err-clause-time : goal.returns-in-Err-clause-time
returns-in-Err-clause-time g c = passes_twice (g.M.Machine.disk c.args.machine.now) (g.M.Machine.disk c.attach.new.machine) (g.M.Machine.disk c.end_unopened.new.machine) (g.met.M.Machine.lawful c.end_unopened.new.machine) c.attach.ensures.opening.time c.end_unopened.ensures.time

pub returns-in-Ok-clause-opens : goal.returns-in-Ok-clause-opens
returns-in-Ok-clause-opens g c = λ p commands opens. record {
  quiet = c.attach.ensures.opening.quiet opens.told;
  images = λ telling. c.attach.ensures.images telling p commands opens;
  again = λ telling. c.attach.ensures.again telling p commands opens;
  first = first_of opens (c.opens_on_a_world.ensures.world p (g.M.Machine.disk c.args.machine.now).reads commands opens.stands);
  steps = λ telling first is. subst (λ (n : Marks). OpensThrough (meaning_in p) p (g.M.Machine.disk c.args.machine.now) (g.M.Machine.disk c.attach.new.machine) is.world (restart_course (meaning_in p) n is.world is.used).steps) (c.tuning.ensures.marks p) (c.attach.ensures.steps telling p is.used is.world is.found);
}

pub returns-in-Err-clause-opens : goal.returns-in-Err-clause-opens
returns-in-Err-clause-opens g c = λ p commands opens.
    let whole = (c.in-Err.ensures.judged opens.told).whole (c.standing_files_meet_their_format.ensures.format p _ commands opens.stands) in
    let same = ap g.M.Machine.disk (c.end_unopened.ensures.quiet (no_damage c.in-Err.cause whole) whole).0 in
    record {
      quiet = ap (λ (d : Disk). d.said) same ∙ c.attach.ensures.opening.quiet opens.told;
      images = λ telling. subst (λ (d : Disk). LeavesOnly (g.M.Machine.disk c.args.machine.now) d (OrAtStart (g.M.Machine.disk c.args.machine.now) (Between p (g.M.Machine.disk c.args.machine.now) None (length commands) (length commands) commands))) (sym same) (c.attach.ensures.images telling p commands opens);
      again = λ telling. subst (λ (d : Disk). Opens p d commands) (sym same) (c.attach.ensures.again telling p commands opens);
      first = first_of opens (c.opens_on_a_world.ensures.world p (g.M.Machine.disk c.args.machine.now).reads commands opens.stands);
      steps = λ telling first is.
          subst (λ (d : Disk). LeavesOnly (g.M.Machine.disk c.args.machine.now) d (OrAtStart (g.M.Machine.disk c.args.machine.now) (OpeningMoment c.args.budget p commands (g.M.Machine.disk c.args.machine.now) first is))) (sym same)
          (subst (λ (n : Marks). OpensThrough (meaning_in p) p (g.M.Machine.disk c.args.machine.now) (g.M.Machine.disk c.attach.new.machine) is.world (restart_course (meaning_in p) n is.world is.used).steps) (c.tuning.ensures.marks p) (c.attach.ensures.steps telling p is.used is.world is.found));
    }

pub returns-in-Ok-clause-attached : goal.returns-in-Ok-clause-attached
returns-in-Ok-clause-attached g c = c.in-Ok.ensures.opening.attached

pub returns-in-Ok-clause-quiet : goal.returns-in-Ok-clause-quiet
returns-in-Ok-clause-quiet g c = λ told. c.attach.ensures.opening.quiet told

pub returns-in-Ok-clause-read : goal.returns-in-Ok-clause-read
returns-in-Ok-clause-read g c = λ told. (c.in-Ok.ensures.judged told).read

pub returns-in-Err-clause-unopened : goal.returns-in-Err-clause-unopened
returns-in-Err-clause-unopened g c = unopened_so c.in-Err.ensures.opening c.in-Err.ensures.judged c.in-Err.ensures.reported (record {
  time = c.end_unopened.ensures.time;
  keeps = c.end_unopened.ensures.keeps;
  no_store = c.end_unopened.ensures.no_store;
  damaged = c.end_unopened.ensures.damaged;
  read = c.end_unopened.ensures.read;
  quiet = λ none no. let quiet = c.end_unopened.ensures.quiet none no in (ap (λ (d : Disk). d.said) (ap g.M.Machine.disk quiet.0), quiet.1, quiet.2, quiet.3, quiet.4);
  silent = λ is. ap (λ (d : Disk). d.said) (ap g.M.Machine.disk (c.end_unopened.ensures.silent is));
  ends = c.end_unopened.ensures.status;
  faults = c.end_unopened.ensures.faults;
  memory = c.end_unopened.ensures.memory;
})

pub returns-in-Ok-clause-first : goal.returns-in-Ok-clause-first
returns-in-Ok-clause-first g c = λ p commands opens.
    let old = g.M.Machine.disk c.args.machine.now in
    let starts = c.opens_on_a_world.ensures.world p old.reads commands opens.stands in
    first_commands opens starts (c.a_restart_may_be_made.ensures.reopened (bounds_of p) starts.1 (marks_of c.args.budget p) starts.0 (small_store p (old.reads Objects) starts.2.shows.objects) starts.2.sound)

pub returns-in-Err-clause-first : goal.returns-in-Err-clause-first
returns-in-Err-clause-first g c = λ p commands opens.
    let old = g.M.Machine.disk c.args.machine.now in
    let starts = c.opens_on_a_world.ensures.world p old.reads commands opens.stands in
    first_commands opens starts (c.a_restart_may_be_made.ensures.reopened (bounds_of p) starts.1 (marks_of c.args.budget p) starts.0 (small_store p (old.reads Objects) starts.2.shows.objects) starts.2.sound)

pub returns-in-Ok-clause-begins : goal.returns-in-Ok-clause-begins
returns-in-Ok-clause-begins g c = λ p commands opens first is. (
  first_begins first is (subst (λ (n : Marks). IsFollowing all_meaning p (run (meaning_in p) is.world (restart_course (meaning_in p) n is.world is.used).steps).history [] (g.M.Machine.disk c.attach.new.machine) c.in-Ok.standby) (c.tuning.ensures.marks p) (c.in-Ok.ensures.follows p is.used is.world is.found)) (c.in-Ok.ensures.begins p commands opens) (c.standby_stands.ensures p),
  subst (λ (w : World Command). ShowsIn p (g.M.Machine.disk c.attach.new.machine) c.in-Ok.standby.engine w) (sym is.world_is)
      (subst (λ (n : Marks). ShowsIn p (g.M.Machine.disk c.attach.new.machine) c.in-Ok.standby.engine (run (meaning_in p) is.world (restart_course (meaning_in p) n is.world is.used).steps)) (c.tuning.ensures.marks p) (c.in-Ok.ensures.shows p is.used is.world is.found)),
)
