use Rattle.std.proofs.Common.{◌≡◌, ◌∙◌, sym, ap, refl, inl, arith, [], length, take, List}
use Rattle.std.proofs.lemmas.List.{append-nil, length-take-le}
use Rattle.running_store.specs.Steps.Forced.{files_shown}
use Rattle.explain_core.specs.History.{commands_of}
use Rattle.store_engine.specs.Engine.{forced_in}
use Rattle.store_engine.specs.Grouping.{ungrouped}
use Rattle.shell_base.specs.Store.{Command, meaning_in}
use Rattle.script_run.proofs.upkeep.counts_answer.Goals as goal

pub returns : goal.returns
returns g c = λ p commands line holds asks.
    let d = g.M.Machine.disk c.args.machine.now in
    let engine = c.args.engine.now in
    let w = holds.world in
    let shows = holds.shows.shows in
    let stat = c.stat-stat.ensures.shown p _ (ungrouped w) shows.running.sound shows.store in
    let counts = c.stat-stat.ensures.counts in
    let stable = commands_of (take w.forced w.history) in
    let stands = c.image_stands.ensures p d.reads (ungrouped w) shows.running.sound (files_shown (meaning_in p) p d engine.parts (ungrouped w) shows) in
    let same : length (take (forced_in engine) commands) ≡ length stable = c.files_stand_for_one_state.ensures.count p p d.reads (take (forced_in engine) commands) stable holds.says.images.0 stands in
    record {
      added = [];
      replies = (asks, counts.1 ∙ holds.says.accepted, omega (arith, counts.2, holds.says.forced), refl);
      quiet = refl;
      world = w;
      shows = holds.shows;
      becomes = holds.commands_are ∙ sym (append-nil commands);
      regroups = refl;
      rising = omega arith;
      which = inl refl;
      goes = (
        record {
          nodes = stat.nodes;
          dirty = stat.dirty;
          uninstalled = stat.uninstalled;
          forced = omega (arith, counts.2, same, length-take-le (forced_in engine) commands holds.says.forced);
          accepted = counts.1 ∙ holds.says.accepted ∙ ap (λ (l : List Command). length l) (sym holds.commands_are);
          used = counts.0;
          identities = counts.3;
        },
        refl,
      );
      is_of = counts.2;
    }
