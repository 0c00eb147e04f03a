use Rattle.op_codec.specs.AllOps.{all_meaning}
use Rattle.embed.proofs.store.Store.stat.Goals as goal

pub returns : goal.returns
returns g c =
    let said = c.stat.ensures in
    record {
      used = said.counts.0;
      accepted = said.counts.1;
      forced = said.counts.2;
      identities = said.counts.3;
      uninstalled = said.own.0;
      nodes = said.own.1;
      dirty = said.dirty;
      shown = λ p w shows.
          let store = shows.shows.store in
          said.shown p ((g.M.Machine.disk c.args.self.now.machine).reads _) w shows.sound (record {
            params = store.params;
            laid = store.laid;
            below = store.below;
            slots = store.slots;
            cache = store.cache;
            dirty = store.dirty;
            members = store.members;
            accesses = store.accesses;
            identities = store.identities;
          });
    }
