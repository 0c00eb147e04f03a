use Rattle.std.proofs.Common.{◌≡◌, ℕ, refl, sym}
use Rattle.write_queue.specs.Memory.{disk_of}
use Rattle.embed.specs.Embedded.{Reports}
use Rattle.embed_c.specs.declared.session.Session.{Session}
use Rattle.embed_c.proofs.OnHandles.{was_open}
use Rattle.embed_c.proofs.redo_core_stat.Goals as goal

pub returns-in-Some : goal.returns-in-Some
returns-in-Some c =
    let stat = c.stat-stat.result in
    let said = c.stat-stat.ensures in
    was_open (λ (old : Session) (new : Session) (answer : ℕ). (answer ≡ 0) × (new ≡ old) × Reports old.store.engine (disk_of old.store.machine) (record {
      nodes = stat.nodes;
      dirty = stat.dirty;
      uninstalled = stat.uninstalled;
      forced = stat.forced;
      accepted = stat.accepted;
      used = stat.used;
      identities = stat.identities;
    })) c.in-Some.ensures.some c.deref.ensures c.put_back.ensures (
      refl,
      sym c.deref.ensures,
      record {
        used = said.used;
        accepted = said.accepted;
        forced = said.forced;
        identities = said.identities;
        uninstalled = said.uninstalled;
        nodes = said.nodes;
        dirty = said.dirty;
        shown = λ p w shows. let world = said.shown p w shows in record { nodes = world.nodes; dirty = world.dirty; uninstalled = world.uninstalled };
      },
    )
