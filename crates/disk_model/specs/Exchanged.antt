-- A machine that exchanges something with its user.
use Rattle.std.proofs.Common.{ℕ, List, refl}
use Rattle.disk_model.specs.Disk.{Files, Disk, Exchange, IsDisk, Runs}

-- the same machine, with this exchanged
abbrev pub with_exchange : Exchange → Disk → Disk
with_exchange exchange d = record d { exchange = exchange }

pub lawful_exchange : (exchange : Exchange) (d : Disk) → IsDisk d → IsDisk (with_exchange exchange d)
lawful_exchange exchange d is = record { telling = is.telling; agreeing = is.agreeing; as_read = is.as_read; said_now = is.said_now; among = is.among }

-- a run stays one where something was exchanged before it
pub runs_with_exchange : (exchange : Exchange) (old new : Disk) (step : Files → Files → Type 0) (says : List ℕ → List ℕ → Type 0) → Runs step says old new
    → Runs step says (with_exchange exchange old) (with_exchange exchange new)
runs_with_exchange exchange old new step says run = record {
  begins = lawful_exchange exchange old run.begins;
  ends = lawful_exchange exchange new run.ends;
  time = record {
    files_told = run.time.files_told;
    moments_told = run.time.moments_told;
    later = run.time.later;
    disk_faults = run.time.disk_faults;
    say_faults = run.time.say_faults;
    exchange = refl;
    nothing_else = run.time.nothing_else;
    keeps = run.time.keeps;
  };
  crash = run.crash;
  reads = run.reads;
  agreed = run.agreed;
  said = run.said;
}
