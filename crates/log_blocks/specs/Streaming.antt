-- What the steps of a rewrite leave whose blocks are put one by one.
use Rattle.std.specs.Prelude.{◌≡◌, ℕ, List, All}
use Rattle.disk_model.specs.Disk.{Files, Disk, In, IsSettled, Any, Runs, Same}
use Rattle.formats.specs.InForce.{other_of, IsInForce, HoldsLog}
use Rattle.formats.specs.Log.{IsHeader, IsPayload}
use Rattle.log_blocks.specs.Forcing.{IsAtRest}
use Rattle.log_blocks.specs.LogView.{LogView}
use Rattle.log_blocks.specs.Rewriting.{next_header}

-- The log is in force, with these payloads, all on the disk: a rewrite may begin.
pub record MayBegin (old : Disk) (log : LogView) (held : List (List ℕ)) : Type 0 where
  pub told : old.tells_moments
  pub rests : IsAtRest old log held
  pub in_force : IsInForce log.active log.header.epoch old.reads

-- The log in force is the old one. The objects and the old log are as they were, and nothing was said.
pub record IsStill (old : Disk) (log : LogView) (held : List (List ℕ)) (files : Files) (said : List ℕ) : Type 0 where
  pub others : In (other_of log.active) Any old.reads files
  pub in_force : HoldsLog log.active log.header held files
  pub nothing_said : said ≡ old.said

-- a new log may have this base, so many commands before it, and these payloads
pub record IsNext (log : LogView) (base commands : ℕ) (payloads : List (List ℕ)) : Type 0 where
  pub in_range : IsHeader (next_header log base commands)
  pub whole : All IsPayload payloads

-- so far the calls changed the other file alone, and all that they did is on the disk
pub record HasCome (old now : Disk) (log : LogView) : Type 0 where
  pub runs : Runs (In (other_of log.active) Any) Same old now
  pub settled : IsSettled now
