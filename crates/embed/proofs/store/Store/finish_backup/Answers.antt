use Rattle.std.proofs.Common.{length}
use Rattle.op_codec.specs.AllOps.{all_meaning}
use Rattle.explain_core.specs.History.{commands_of}
use Rattle.store_engine.specs.Store.{Stands, meaning_in}
use Rattle.backup_copy.specs.Target.{IsBackup}
use Rattle.embed.proofs.Saving.{saved_so}
use Rattle.embed.proofs.store.Store.finish_backup.Goals as goal

pub returns-clause-saved : goal.returns-clause-saved
returns-clause-saved g c works p w copies =
    saved_so (g.T.Machine.disk c.finish.new.target) (length (commands_of w.history)) (g.T.Machine.disk c.args.target.now).tells_files (λ files. Stands all_meaning p files (commands_of w.history)) (IsBackup (meaning_in all_meaning p) p w.history) c.finish.result
    (c.finish.ensures.saved p w copies) (λ told. c.finish.ensures.shows told p w copies)
