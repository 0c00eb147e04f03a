-- A machine that reports its files and what was said, and none of its moments.
use Rattle.std.proofs.Common.{◌≡◌, ◌≤◌, ℕ, List, arith, refl, sym, subst}
use Rattle.disk_model.specs.Disk.{Files, Disk, IsDisk, Runs, no_exchange}

abbrev pub files_told : Files → List ℕ → ℕ → ℕ → Disk
files_told reads said disk_faults say_faults = record {
  tells_files = Unit {0};
  tells_moments = ⊥;
  reads = reads;
  agrees = λ files. files ≡ reads;
  said = said;
  clock = 0;
  left_since = λ t c s. ⊥;
  disk_faults = disk_faults;
  say_faults = say_faults;
  exchange = no_exchange;
}

pub lawful_files_told : (reads : Files) (said : List ℕ) (disk_faults say_faults : ℕ) → IsDisk (files_told reads said disk_faults say_faults)
lawful_files_told reads said disk_faults say_faults = record {
  telling = λ told. absurd told;
  agreeing = λ told. refl;
  as_read = λ told. absurd told;
  said_now = λ told. absurd told;
  among = λ t u c s le here left. left;
}

-- a run is what it makes of the files and of the bytes said
pub runs_told : (step : Files → Files → Type 0) (says : List ℕ → List ℕ → Type 0) (reads reads' : Files) (said said' : List ℕ) (df df' sf sf' : ℕ) → df ≤ df' → sf ≤ sf' → step reads reads' → says said said'
    → Runs step says (files_told reads said df sf) (files_told reads' said' df' sf')
runs_told step says reads reads' said said' df df' sf sf' d s goes speaks = record {
  begins = lawful_files_told reads said df sf;
  ends = lawful_files_told reads' said' df' sf';
  time = record {
    files_told = ((λ told. told), (λ told. told));
    moments_told = ((λ told. told), (λ told. told));
    later = omega arith;
    disk_faults = d;
    say_faults = s;
    exchange = refl;
    nothing_else = λ told. absurd told;
    keeps = λ told. absurd told;
  };
  crash = λ told. absurd told;
  reads = λ told. goes;
  agreed = λ now agrees. (reads, refl, subst (λ (f : Files). step reads f) (sym agrees) goes);
  said = λ told. speaks;
}
