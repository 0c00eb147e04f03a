-- Calls that come one after the other.
use Rattle.std.proofs.Common.{◌≡◌, ◌<◌, refl, sym, ap, ◌∙◌, subst, ℕ, false, None, Some, List, [], ◌++◌, append-nil, arith, true≢false}
use Rattle.std.proofs.lemmas.Bool.{lt-ltb}
use Rattle.std.specs.Prelude.{Result, Ok, Err, IfErr, OnErr, nat_lt}
use Rattle.disk_model.specs.Disk.{Disk}
use Rattle.formats.specs.declared.params.Params.{Params}
use Rattle.formats.specs.declared.read_err.ReadErr.{ReadErr}
use Rattle.formats.specs.declared.read_err.ReadErr.TheVariants as of_read
use Rattle.running_store.specs.Taking.Ending.{Done, Short}
use Rattle.execution.specs.Failures.{exec_from_read}
use Rattle.store_engine.specs.Lists.{ending_of}
use Rattle.store_calls.specs.Laws.{GoOn}
use Rattle.store_calls.specs.Making.{Calls, Reads}
use Rattle.store_calls.specs.View.{View}
use Rattle.range_calls.specs.Answers.{cause_in, cause_of}
use Rattle.range_calls.specs.Joining.{AddsOn, HoldsBehind, ReadsBehind, ReadsShort}
use Rattle.range_calls.specs.Store.{Command}
use Rattle.range_calls.specs.declared.call_err.CallErr.{CallErr}
use Rattle.range_calls.specs.declared.call_err.CallErr.TheVariants.{Exec, Memory as OutOfMemory}

module _ {S T : Type 0} (view : View Command S) (disk : T → Disk) (laws : GoOn view disk) where
  pub adds_on : AddsOn view disk
  adds_on old mid new before between after error p commands front ops rest fronted adds ended =
      laws.adds old mid new before between after p commands front (ops ++ rest) (ending_of error) fronted (adds rest ended)

  -- the store stands for the same commands after calls that only read
  pub holds_behind : HoldsBehind view disk
  holds_behind p old mid before between commands reads holds =
      subst (λ (l : List Command). view.holds p (disk mid) between l) (append-nil commands)
      (laws.holds old mid before between p commands [] holds (reads.adds p commands holds [] (λ done. refl)))

  pub reads_behind : ReadsBehind view disk
  reads_behind old mid new before between after ops error first second = record {
    calls = laws.calls old mid new before between after error first.calls second.calls;
    adds = λ p commands holds rest ended.
        laws.adds old mid new before between after p commands [] (ops p commands ++ rest) (ending_of error) (first.adds p commands holds [] (λ done. refl))
        (subst (λ (l : List Command). view.adds p (disk mid) (disk new) between after l (ops p commands ++ rest) (ending_of error)) (sym (append-nil commands))
        (second.adds p commands (holds_behind p old mid before between commands first holds) rest ended));
  }

  -- calls that only read, and then run out of memory
  pub reads_short : ReadsShort view disk
  reads_short old now before after reads = record {
    calls = laws.short old now before after reads.calls;
    adds = λ p commands holds rest ended. laws.cut old now before after p commands [] rest (reads.adds p commands holds [] (λ done. refl));
  }

-- an object that there is is found
pub object_is_there : (mine p : Params) (object : ℕ) → mine ≡ p → object < p.objects → false ≡ nat_lt object mine.objects → ⊥
object_is_there mine p object are below past =
    let same : mine.objects ≡ p.objects = ap (λ (q : Params). q.objects) are in
    true≢false (sym (lt-ltb object mine.objects (omega (arith, same, below))) ∙ sym past)

-- before the first call
pub nothing_reads : {S : Type 0} (view : View Command S) (d : Disk) (s : S) → ((p : Params) (commands : List Command) → view.holds p d s commands → view.adds p d d s s commands [] Done) → Calls view d d s s None → Reads view d d s s None
nothing_reads view d s front calls = record {
  calls = calls;
  adds = λ p commands holds rest ended. subst (λ (l : List Command). view.adds p d d s s commands l Done) (sym (ended refl)) (front p commands holds);
}

-- a read that fails is no refusal
read_fails : (e : ReadErr) → ending_of (Some (exec_from_read e)) ≡ Done → ⊥
read_fails of_read.DiskFault done = cc
read_fails (of_read.Damaged file place) done = cc
read_fails of_read.Memory done = cc

pub fetch_fails : {R U : Type 0} (r : Result U (CallErr R)) (e : ReadErr) → r ≡ Err (Exec (exec_from_read e)) → OnErr r (ending_of (cause_in r) ≡ Done → ⊥)
fetch_fails {R} {U} r e is = subst (λ (q : Result U (CallErr R)). OnErr q (ending_of (cause_in q) ≡ Done → ⊥)) (sym is) (read_fails e)

-- what is done after calls that only read, and may run out of memory alone
pub reads_then : {R S T U : Type 0} (view : View Command S) (disk : T → Disk) → ReadsShort view disk → (old now : T) (before after : S) (r : Result U (CallErr R)) → Reads view (disk old) (disk now) before after None
    → IfErr r (λ e. e ≡ OutOfMemory) → Reads view (disk old) (disk now) before after (cause_in r)
reads_then {R} view disk short old now before after (Ok value) reads memory = reads
reads_then {R} view disk short old now before after (Err e) reads memory =
    subst (λ (x : CallErr R). Reads view (disk old) (disk now) before after (cause_of x)) (sym memory) (short old now before after reads)

-- lack of memory is no refusal
pub memory_is_short : {R : Type 0} (e : CallErr R) → e ≡ OutOfMemory → ending_of (cause_of e) ≡ Done → ⊥
memory_is_short {R} e memory done = short_is_not (subst (λ (x : CallErr R). ending_of (cause_of x) ≡ Done) memory done)
  where
    short_is_not : Short ≡ Done → ⊥
    short_is_not is = cc is

pub not_refused : {R U : Type 0} (r : Result U (CallErr R)) (P : CallErr R → Type 0) → IfErr r (λ e. e ≡ OutOfMemory) → IfErr r (λ e. ending_of (cause_of e) ≡ Done → P e)
not_refused (Ok value) P memory = tt
not_refused (Err e) P memory = λ done. absurd (memory_is_short e memory done)
