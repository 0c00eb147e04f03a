-- A machine that reports nothing, and claims what its reads agree with.
use Rattle.std.proofs.Common.{◌≡◌, ◌≤◌, ℕ, List, arith, refl, sym, subst}
use Rattle.disk_model.specs.Disk.{Files, Disk, IsDisk, Runs}
use Rattle.disk_model.specs.Untold.{untold}

-- where this holds, its files are these, by all that its reads gave
abbrev pub mirrored : Type 0 → Files → ℕ → ℕ → Disk
mirrored same copy disk_faults say_faults = record (untold disk_faults say_faults) { agrees = λ files. same × (files ≡ copy) }

pub lawful_mirrored : (same : Type 0) (copy : Files) (disk_faults say_faults : ℕ) → IsDisk (mirrored same copy disk_faults say_faults)
lawful_mirrored same copy disk_faults say_faults = record {
  telling = λ told. absurd told;
  agreeing = λ told. absurd told;
  as_read = λ told. absurd told;
  said_now = λ told. absurd told;
  among = λ t u c s le here left. left;
}

-- a run of it takes the copy along: what is claimed after it was claimed before
pub runs_mirrored : (step : Files → Files → Type 0) (says : List ℕ → List ℕ → Type 0) (same same' : Type 0) (copy copy' : Files) (df df' sf sf' : ℕ) → df ≤ df' → sf ≤ sf' → (same' → same) → (same' → step copy copy')
    → Runs step says (mirrored same copy df sf) (mirrored same' copy' df' sf')
runs_mirrored step says same same' copy copy' df df' sf sf' d s claimed goes = record {
  begins = lawful_mirrored same copy df sf;
  ends = lawful_mirrored same' copy' df' sf';
  time = record {
    files_told = ((λ told. told), (λ told. told));
    moments_told = ((λ told. told), (λ told. told));
    later = omega arith;
    disk_faults = d;
    say_faults = s;
    exchange = refl;
    nothing_else = λ told. absurd told;
    keeps = λ told. absurd told;
  };
  crash = λ told. absurd told;
  reads = λ told. absurd told;
  agreed = λ now agrees. (copy, (claimed agrees.0, refl), subst (λ (f : Files). step copy f) (sym agrees.1) (goes agrees.0));
  said = λ told. absurd told;
}
