-- What a fetch leaves of what calls have added.
use Rattle.std.proofs.Common.{ℕ, List, ◌++◌, ⊎_elim, Option, None, Some, subst}
use Rattle.std.specs.Prelude.{⊤}
use Rattle.disk_model.specs.Disk.{Disk, IsDisk}
use Rattle.oper_core.specs.Meaning.{Meaning}
use Rattle.oper_core.specs.declared.bounds.Bounds.{Bounds}
use Rattle.formats.specs.declared.params.Params.{Params}
use Rattle.formats.specs.declared.read_err.ReadErr.{ReadErr}
use Rattle.formats.specs.declared.read_err.ReadErr.TheVariants.{DiskFault, Damaged, Memory}
use Rattle.explain_core.specs.World.{World}
use Rattle.running_store.specs.Taking.Ending.{Done}
use Rattle.execution.specs.Failures.{exec_from_read}
use Rattle.store_engine.specs.Engine.{EngineView}
use Rattle.store_engine.specs.Lists.{AddsFront, ending_of}
use Rattle.store_engine.specs.Commands.{HasFetched}
use Rattle.store_engine.proofs.ListFronts.{front_failed, front_short, front_still}

-- the disk did not fail
abbrev HasNoFault : Option ReadErr → Type 0
HasNoFault None = ⊤
HasNoFault (Some DiskFault) = ⊥
HasNoFault (Some (Damaged file place)) = ⊤
HasNoFault (Some Memory) = ⊤

module _ {O : Type 0} (meaning : Bounds → Meaning O) (p : Params) (old mid new : Disk) (before between after : EngineView) (w : World O) (commands front : List O) (lawful_mid : IsDisk mid) (lawful_new : IsDisk new)
    (first : AddsFront meaning p old mid before between w commands front Done) (object : ℕ) where
  -- unless the disk fails, nothing is added
  read : (error : Option ReadErr) → HasFetched meaning mid new between after object error → HasNoFault error → AddsFront meaning p old new before after w commands front Done
  read error fetched fine =
      front_still meaning p old mid new before between after w commands front lawful_mid lawful_new first fetched.call.kept fetched.call.log fetched.call.group fetched.call.identities
      (λ v shows. ⊎_elim (λ failed. absurd (subst HasNoFault failed fine)) (λ there. there) (fetched.shows p v shows))

  pub fetch_done : HasFetched meaning mid new between after object None → AddsFront meaning p old new before after w commands front Done
  fetch_done fetched = read None fetched tt

  pub fetch_failed : (e : ReadErr) → HasFetched meaning mid new between after object (Some e) → (rest : List O) → AddsFront meaning p old new before after w commands (front ++ rest) (ending_of (Some (exec_from_read e)))
  fetch_failed DiskFault fetched rest =
      front_failed meaning p old mid new before between after w commands front lawful_mid lawful_new first fetched.call.kept fetched.call.log fetched.call.group fetched.call.identities rest
  fetch_failed (Damaged file place) fetched rest = front_short meaning p old new new before after after w commands front lawful_new lawful_new (read (Some (Damaged file place)) fetched tt) rest
  fetch_failed Memory fetched rest = front_short meaning p old new new before after after w commands front lawful_new lawful_new (read (Some Memory) fetched tt) rest
