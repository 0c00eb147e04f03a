-- What is known of a store and its files does not depend on what the machine exchanges with its user.
use Rattle.std.proofs.Common.{◌≡◌, List}
use Rattle.disk_model.specs.Disk.{Disk, Exchange}
use Rattle.disk_model.specs.Exchanged.{with_exchange}
use Rattle.oper_core.specs.Meaning.{Meaning}
use Rattle.oper_core.specs.declared.bounds.Bounds.{Bounds}
use Rattle.formats.specs.declared.params.Params.{Params}
use Rattle.formats.specs.declared.record.Record.{Record}
use Rattle.log_records.specs.RecordLog.{Keeps, RecordLogView}
use Rattle.explain_core.specs.World.{World}
use Rattle.running_store.specs.Kept.{HasLog}
use Rattle.running_store.specs.Parts.{Parts, Shows, ShowsLog}
use Rattle.store_engine.specs.Engine.{EngineView, Holds, IsAttached, ShowsIn}
use Rattle.backup_copy.specs.Copies.{Copies}
use Rattle.write_queue.specs.Before.{disk_by, exchanged}
use Rattle.write_queue.specs.Memory.{LooksTheSame, disk_of}
use Rattle.write_queue.specs.declared.queue_mem.QueueMem.{QueueMem}

-- machines that look the same differ in that alone
pub looks_so : (old new : QueueMem) → LooksTheSame old new → disk_of new ≡ with_exchange (exchanged new.past) (disk_of old)
looks_so old new same = λ i. with_exchange (exchanged new.past) (disk_by (same.first i) (same.calls i) (same.files i) (same.disk_faults i) (same.say_faults i))

module _ {O : Type 0} (exchange : Exchange) (d : Disk) where
  keeps : (m : Meaning O) (log : RecordLogView) (stable pending : List (Record O)) → Keeps m d log stable pending → Keeps m (with_exchange exchange d) log stable pending
  keeps m log stable pending was = record {
    settled = was.settled;
    in_force = was.in_force;
    groups = was.groups;
    file = was.file;
    stable_are = was.stable_are;
    place = was.place;
    pending_are = was.pending_are;
    placed = was.placed;
    next_is = was.next_is;
    accepted_are = was.accepted_are;
    forced_are = was.forced_are;
  }

  shows_log : (m : Meaning O) (log : RecordLogView) (w : World O) → ShowsLog m d log w → ShowsLog m (with_exchange exchange d) log w
  shows_log m log w was = record {
    stable = was.stable;
    pending = was.pending;
    keeps = keeps m log was.stable was.pending was.keeps;
    base = was.base;
    commands_before = was.commands_before;
    forced = was.forced;
    waiting = was.waiting;
    tables = was.tables;
    pending_tables = was.pending_tables;
  }

  shows : (m : Meaning O) (p : Params) (it : Parts) (w : World O) → Shows m p d it w → Shows m p (with_exchange exchange d) it w
  shows m p it w was = record { told = was.told; running = was.running; bounds = was.bounds; store = was.store; log = shows_log m it.log w was.log }

  module _ (meaning : Bounds → Meaning O) (engine : EngineView) where
    pub shows_in : (p : Params) (w : World O) → ShowsIn meaning p d engine w → ShowsIn meaning p (with_exchange exchange d) engine w
    shows_in p w was = record {
      unbroken = was.unbroken;
      sound = was.sound;
      group = was.group;
      shows = shows _ p engine.parts _ was.shows;
      no_checkpoint = was.no_checkpoint;
    }

    pub holds_so : (p : Params) (commands : List O) → Holds meaning p d engine commands → Holds meaning p (with_exchange exchange d) engine commands
    holds_so p commands was = record { world = was.world; shows = shows_in p was.world was.shows; commands_are = was.commands_are }

    pub attached_so : IsAttached meaning d engine → IsAttached meaning (with_exchange exchange d) engine
    attached_so was = λ told.
        let log = (was told).1 in
        ((was told).0, record { stable = log.stable; pending = log.pending; keeps = keeps _ engine.parts.log log.stable log.pending log.keeps })

    pub copies_so : (p : Params) (w : World O) (target : Disk) → Copies meaning p d engine w target → Copies meaning p (with_exchange exchange d) engine w target
    copies_so p w target was = record {
      shows = shows_in p w was.shows;
      done = was.done;
      so_far = was.so_far;
      within = was.within;
      cells = was.cells;
      copied = was.copied;
      target = was.target;
    }

    -- nor does the copy of it on this one
    pub copied_so : (p : Params) (w : World O) (source : Disk) → Copies meaning p source engine w d → Copies meaning p source engine w (with_exchange exchange d)
    copied_so p w source was = record {
      shows = was.shows;
      done = was.done;
      so_far = was.so_far;
      within = was.within;
      cells = was.cells;
      copied = was.copied;
      target = λ told. let copy = was.target told in record { objects = copy.objects; shut = copy.shut; log = copy.log; settled = copy.settled };
    }
