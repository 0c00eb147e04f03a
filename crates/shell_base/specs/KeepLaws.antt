-- Calls that leave the files as they are, one after the other.
use Rattle.std.proofs.Common.{◌≡◌, ◌+◌, ◌++◌, ⊎_elim, List, [], ℕ, ap, append_assoc, length, sym, subst, take, ◌∙◌, arith}
use Rattle.std.proofs.Math.Seq.{take-append-add}
use Rattle.std.proofs.lemmas.Grind.{common_steps}
use Rattle.std.proofs.lemmas.List.{append-nil, length-append}
use Rattle.disk_model.specs.Disk.{Files, Disk, IsDisk, Passes, Runs, Same, SaysFront, Stays, IsSettled}
use Rattle.disk_model.specs.Moments.{first_call, passes_twice, runs_on, weaker, stays_here}
use Rattle.store_engine.specs.Engine.{InEachImage}
use Rattle.shell_base.specs.Keeps.{KeepsFiles, SaysOnly}

-- one call, or many as one
pub keeps_once : {says : List ℕ → List ℕ → Type 0} (old new : Disk) → Runs Same says old new → KeepsFiles old new
keeps_once old new run = record {
  reads = run.reads;
  images = λ told. first_call old new (λ files said. old.left_since old.clock files old.said) told run.time (λ files said left.
      let from = (run.crash told files said left).0 in
      subst (λ (f : Files). old.left_since old.clock f old.said) (sym from.2) from.1);
}

-- no call
pub keeps_none : (d : Disk) → IsDisk d → KeepsFiles d d
keeps_none d lawful = keeps_once d d (stays_here d lawful)

-- calls after others
pub keeps_twice : (old mid new : Disk) → IsDisk mid → Passes old mid → KeepsFiles old mid → KeepsFiles mid new → KeepsFiles old new
keeps_twice old mid new lawful time first second = record {
  reads = λ told. second.reads (time.files_told.0 told) ∙ first.reads told;
  images = λ told. runs_on old mid new (λ files said. old.left_since old.clock files old.said) (first.images told)
      (weaker mid new (λ files said. mid.left_since mid.clock files mid.said) (λ files said. old.left_since old.clock files old.said) (second.images (time.moments_told.0 told))
      (λ files said left. (first.images told).each files mid.said (lawful.among old.clock mid.clock files mid.said time.later (omega arith) left)));
}

-- after some that change nothing but what was said
pub keeps_behind : {says : List ℕ → List ℕ → Type 0} (old mid new : Disk) → Runs Same says old mid → KeepsFiles mid new → KeepsFiles old new
keeps_behind old mid new first second = keeps_twice old mid new first.ends first.time (keeps_once old mid first) second

-- a call that changes nothing but what was said, and two of them
pub says_once : {says : List ℕ → List ℕ → Type 0} (old new : Disk) → Runs Same says old new → SaysOnly old new
says_once old new run = record {
  begins = run.begins;
  ends = run.ends;
  time = run.time;
  crash = λ told c s left. ((run.crash told c s left).0, tt);
  reads = run.reads;
  agreed = run.agreed;
  said = λ told. tt;
}

pub says_twice : {one two : List ℕ → List ℕ → Type 0} (old mid new : Disk) → Runs Same one old mid → Runs Same two mid new → SaysOnly old new
says_twice old mid new first second = record {
  begins = first.begins;
  ends = second.ends;
  time = passes_twice old mid new second.ends first.time second.time;
  crash = λ told c s left. ⊎_elim
      (λ then. ((first.crash told c s then).0, tt))
      (λ since.
      let from = (second.crash (first.time.moments_told.0 told) c s since).0 in
      let was = (first.crash told from.0 mid.said (first.ends.among old.clock mid.clock from.0 mid.said first.time.later (omega arith) from.1)).0 in
      ((was.0, was.1, from.2 ∙ was.2), tt))
      (second.time.nothing_else (first.time.moments_told.0 told) old.clock c s first.time.later left);
  reads = λ told. second.reads (first.time.files_told.0 told) ∙ first.reads told;
  agreed = λ now agrees.
      let then = second.agreed now agrees in
      let was = first.agreed then.0 then.1 in
      (was.0, was.1, then.2 ∙ was.2);
  said = λ told. tt;
}

-- files that agree with the reads then agreed with those before
pub agreed_said : {says : List ℕ → List ℕ → Type 0} {old new : Disk} → Runs Same says old new → (files : Files) → new.agrees files → old.agrees files
agreed_said {old = old} run files agrees = let was = run.agreed files agrees in subst old.agrees (sym was.2) was.1

-- calls that keep the files leave a settled machine so
pub keeps_settled : (old new : Disk) → IsDisk old → IsDisk new → Passes old new → KeepsFiles old new → IsSettled old → IsSettled new
keeps_settled old new lawful_old lawful time keeps settled file told_new c s left =
    let told = time.moments_told.1 told_new in
    let was = (keeps.images told).each c s (lawful.among old.clock new.clock c s time.later (omega arith) left) in
    settled file told c old.said was ∙ sym (ap (λ (f : Files). f file) (keeps.reads (lawful_old.telling told)))

-- what is true of the files that a settled machine reads is true of each image
pub settled_each : (d : Disk) (P : Files → Type 0) → IsSettled d → P d.reads → InEachImage d P
settled_each d P settled here = (
  here,
  λ told files said left.
      let same : files ≡ d.reads = λ i file. settled file told files said left i in
      subst P (sym same) here,
)

-- a part of some bytes is a part of more, and behind some bytes one of both
front_more : (a b old said : List ℕ) → SaysFront a old said → SaysFront (a ++ b) old said
front_more a b old said (n, few, is) = (
  n,
  let long = length-append a b in omega (arith, few, long),
  is ∙ ap (λ (l : List ℕ). old ++ l) (let same : take n (a ++ b) ≡ take n a = grind (arith, common_steps) in sym same),
)

front_behind : (a b old mid said : List ℕ) → mid ≡ old ++ a → SaysFront b mid said → SaysFront (a ++ b) old said
front_behind a b old mid said all (n, few, is) = (
  length a + n,
  let long = length-append a b in omega (arith, few, long),
  is ∙ ap (λ (l : List ℕ). l ++ take n b) all ∙ append_assoc old a (take n b) ∙ ap (λ (l : List ℕ). old ++ l) (sym (take-append-add a b n)),
)

-- what says a part of some bytes says one of more
pub says_more : {a : List ℕ} (b : List ℕ) {old new : Disk} → Runs Same (SaysFront a) old new → Runs Same (SaysFront (a ++ b)) old new
says_more {a} b {old} {new} run = record {
  begins = run.begins;
  ends = run.ends;
  time = run.time;
  crash = λ told c s left. let from = run.crash told c s left in (from.0, front_more a b old.said s from.1);
  reads = run.reads;
  agreed = run.agreed;
  said = λ told. front_more a b old.said new.said (run.said told);
}

-- and a call behind one that has said all of some bytes says a part of them and its own
pub says_behind : {a b : List ℕ} {old mid new : Disk} → Runs Same (SaysFront a) old mid → (old.tells_files → mid.said ≡ old.said ++ a) → Runs Same (SaysFront b) mid new → Runs Same (SaysFront (a ++ b)) old new
says_behind {a} {b} {old} {mid} {new} first all second = record {
  begins = first.begins;
  ends = second.ends;
  time = passes_twice old mid new second.ends first.time second.time;
  crash = λ told c s left. ⊎_elim
      (λ then. let was = first.crash told c s then in (was.0, front_more a b old.said s was.1))
      (λ since.
      let from = second.crash (first.time.moments_told.0 told) c s since in
      let was = (first.crash told from.0.0 mid.said (first.ends.among old.clock mid.clock from.0.0 mid.said first.time.later (omega arith) from.0.1)).0 in
      ((was.0, was.1, from.0.2 ∙ was.2), front_behind a b old.said mid.said s (all (first.begins.telling told)) from.1))
      (second.time.nothing_else (first.time.moments_told.0 told) old.clock c s first.time.later left);
  reads = λ told. second.reads (first.time.files_told.0 told) ∙ first.reads told;
  agreed = λ now agrees.
      let then = second.agreed now agrees in
      let was = first.agreed then.0 then.1 in
      (was.0, was.1, then.2 ∙ was.2);
  said = λ told. front_behind a b old.said mid.said new.said (all told) (second.said (first.time.files_told.0 told));
}

-- calls that change nothing have said no byte
pub stays_silent : {d new : Disk} → Stays d new → Runs Same (SaysFront []) d new
stays_silent {d} run = record {
  begins = run.begins;
  ends = run.ends;
  time = run.time;
  crash = λ told c s left. let from = run.crash told c s left in (from.0, (0, omega arith, from.1 ∙ sym (append-nil d.said)));
  reads = run.reads;
  agreed = run.agreed;
  said = λ told. (0, omega arith, run.said told ∙ sym (append-nil d.said));
}

pub says_then_stays : {a : List ℕ} {old mid new : Disk} → Runs Same (SaysFront a) old mid → (old.tells_files → mid.said ≡ old.said ++ a) → Stays mid new → Runs Same (SaysFront a) old new
says_then_stays {a} {old} {mid} {new} first all stays = subst (λ (l : List ℕ). Runs Same (SaysFront l) old new) (append-nil a) (says_behind first all (stays_silent stays))

pub stays_then_says : {a : List ℕ} {old mid new : Disk} → Stays old mid → Runs Same (SaysFront a) mid new → Runs Same (SaysFront a) old new
stays_then_says {a} {old} {mid} {new} stays second = says_behind (stays_silent stays) (λ told. stays.said told ∙ sym (append-nil old.said)) second
