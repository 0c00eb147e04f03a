-- What calls leave that write no file.
use Rattle.std.proofs.Common.{◌≡◌, ◌∙◌, ⊎_elim, ℕ, List, [], ◌++◌, sym, ap, subst, append_assoc, take, arith}
use Rattle.std.proofs.lemmas.List.{append-nil}
use Rattle.disk_model.specs.Disk.{Disk, Runs, Stays, Same, SaysFront}
use Rattle.disk_model.specs.Moments.{passes_twice}

-- something more was said, or nothing
abbrev pub SaysMore : List ℕ → List ℕ → Type 0
SaysMore old new = (text : List ℕ) × (new ≡ old ++ text)

-- no file changes, at no moment, whatever is said meanwhile
abbrev pub OnlySays : Disk → Disk → Type 0
OnlySays old new = Runs Same SaysMore old new

-- whatever a call says that leaves the files
pub only_says : {old new : Disk} (says : List ℕ → List ℕ → Type 0) → ((a b : List ℕ) → says a b → SaysMore a b) → Runs Same says old new → OnlySays old new
only_says says more run = record {
  begins = run.begins;
  ends = run.ends;
  time = run.time;
  crash = λ told c s left. let from = run.crash told c s left in (from.0, more _ s from.1);
  reads = run.reads;
  agreed = run.agreed;
  said = λ told. more _ _ (run.said told);
}

pub says_nothing : {old new : Disk} → Stays old new → OnlySays old new
says_nothing stays = only_says Same (λ a b same. ([], same ∙ sym (append-nil a))) stays

pub says_front : {old new : Disk} (bytes : List ℕ) → Runs Same (SaysFront bytes) old new → OnlySays old new
says_front bytes run = only_says (SaysFront bytes) (λ a b front. (take front.0 bytes, front.2)) run

pub more_twice : (a b c : List ℕ) → SaysMore a b → SaysMore b c → SaysMore a c
more_twice a b c first second = (first.0 ++ second.0, second.1 ∙ ap (λ (l : List ℕ). l ++ second.0) first.1 ∙ append_assoc a first.0 second.0)

-- two such calls in a row
pub says_then : {old mid new : Disk} → OnlySays old mid → OnlySays mid new → OnlySays old new
says_then {old = old} {mid = mid} {new = new} first second = record {
  begins = first.begins;
  ends = second.ends;
  time = passes_twice old mid new second.ends first.time second.time;
  crash = λ told c s left. ⊎_elim
      (λ then. first.crash told c s then)
      (λ since.
      let from = second.crash (first.time.moments_told.0 told) c s since in
      let was = first.crash told from.0.0 mid.said (first.ends.among old.clock mid.clock from.0.0 mid.said first.time.later (omega arith) from.0.1) in
      ((was.0.0, was.0.1, from.0.2 ∙ was.0.2), more_twice old.said mid.said s was.1 from.1))
      (second.time.nothing_else (first.time.moments_told.0 told) old.clock c s first.time.later left);
  reads = λ told. second.reads (first.time.files_told.0 told) ∙ first.reads told;
  agreed = λ now agrees.
      let then = second.agreed now agrees in
      let was = first.agreed then.0 then.1 in
      (was.0, was.1, then.2 ∙ was.2);
  said = λ told. more_twice old.said mid.said new.said (first.said told) (second.said (first.time.files_told.0 told));
}

-- the files that a machine reports agree with what it read
pub still_agrees : {old new : Disk} → OnlySays old new → old.tells_files → new.agrees old.reads
still_agrees {new = new} run told = subst new.agrees (run.reads told) (run.ends.agreeing (run.time.files_told.0 told))
