-- What an opening on files that were handed in says of the real files.
use Rattle.std.proofs.Common.{None, arith, ◌≡◌, ◌∙◌, ◌⊎◌, ◌↔◌, ◌≤◌, ℕ, List, [], ◌++◌, length, Result, Ok, Err, IfErr, IfOk, ap, subst, sym, inl, inr, ⊎_elim}
use Rattle.std.proofs.lemmas.List.{length-append, take_all}
use Rattle.disk_model.specs.Call.{Call}
use Rattle.disk_model.specs.Disk.{Files, LeavesOnly}
use Rattle.disk_model.specs.declared.machine.FileNo.TheVariants.{Objects}
use Rattle.formats.specs.Objects.{BeginsStore}
use Rattle.formats.specs.declared.params.Params.{Params}
use Rattle.op_codec.specs.AllOps.{AllOps, all_meaning}
use Rattle.restart.specs.Starts.{OrAtStart}
use Rattle.store_engine.specs.Engine.{Between, Holds, InEachImage, IsNew, IsNewStore, Opens, forced_in}
use Rattle.store_engine.specs.Store.{Stands}
use Rattle.write_queue.specs.Memory.{IsLeftByFront, disk_of, first_files, lawful, taken_from, waiting_in}
use Rattle.write_queue.specs.declared.queue_mem.QueueMem.{QueueMem}
use Rattle.embed_c.specs.Calls.{IsUntaken}
use Rattle.embed_c.specs.Opening.{IsCreated, IsHanded, IsOpened, IsReady, IsUnopened}
use Rattle.embed_c.specs.declared.answer.Answer.{Answer}
use Rattle.embed_c.specs.declared.session.Session.{Session}

-- what fronts of a machine's queue leave of the real files, the machine has left since it was there
abbrev pub AreLeft : QueueMem → Type 0
AreLeft m = (files : Files) (said : List ℕ) → (disk_of m).left_since (length (taken_from m)) files said ↔ IsLeftByFront m files said

since_there : (m : QueueMem) → AreLeft m → (left : Files) (said : List ℕ) → IsLeftByFront m left said → (disk_of m).left_since 0 left said
since_there m fronts left said front =
    let within : length (taken_from m) ≤ length (taken_from m ++ waiting_in m) = omega (arith, length-append (taken_from m) (waiting_in m)) in
    (lawful m).among 0 (length (taken_from m)) left said (omega arith) within ((fronts left said).1 front)

-- what an opening of a machine says of the real files
abbrev pub KeptBy : QueueMem → Params → List AllOps → Session → Type 0
KeptBy m p commands s = (left : Files) (said : List ℕ) → IsLeftByFront s.store.machine left said → (disk_of m).left_since 0 left said ⊎ Stands all_meaning p left commands

pub kept_by : (m new : QueueMem) (p : Params) (commands : List AllOps) → AreLeft new
    → LeavesOnly (disk_of m) (disk_of new) (OrAtStart (disk_of m) (Between all_meaning p (disk_of m) None (length commands) (length commands) commands))
    → (left : Files) (said : List ℕ) → IsLeftByFront new left said → (disk_of m).left_since 0 left said ⊎ Stands all_meaning p left commands
kept_by m new p commands fronts leaves left said front = ⊎_elim
    (λ was. inl was)
    (λ here. ⊎_elim
    (λ start. inl ((lawful m).among 0 (disk_of m).clock left said (omega arith) (omega arith) start))
    (λ between. inr (subst (λ (l : List AllOps). Stands all_meaning p left l) (take_all between.kept commands between.enough) between.stands))
    here)
    (leaves.before 0 left said (omega arith) (since_there new fronts left said front))

module _ {files : Files} {m : QueueMem} (handed : IsHanded files m) where
  -- a machine to which files were handed has left nothing else
  as_handed : (left : Files) (said : List ℕ) → (disk_of m).left_since (disk_of m).clock left said → left ≡ files
  as_handed left said was = (λ i file. handed.settled file tt left said was i) ∙ handed.reads

  -- and its time has not begun
  begins : (disk_of m).clock ≡ 0
  begins = ap (λ (l : List Call). length l) (λ i. handed.taken i ++ handed.waiting i)

  pub opened : (result : Result Session Answer) → IfOk result (IsReady (first_files m))
      → ((p : Params) (commands : List AllOps) → Opens all_meaning p (disk_of m) commands → IfOk result (λ s. Holds all_meaning p (disk_of s.store.machine) s.store.engine commands × (forced_in s.store.engine ≡ length commands)))
      → ((p : Params) (commands : List AllOps) → Opens all_meaning p (disk_of m) commands → IfOk result (KeptBy m p commands))
      → IfOk result (IsOpened files)
  opened (Err answer) ready holds kept = tt
  opened (Ok s) ready holds kept =
      let opens : (p : Params) (commands : List AllOps) → Stands all_meaning p files commands → Opens all_meaning p (disk_of m) commands =
      λ p commands stands. record { told = tt; stands = subst (λ (f : Files). Stands all_meaning p f commands) (sym handed.reads) stands } in
      record {
        ready = subst (λ (f : Files). IsReady f s) handed.first ready;
        holds = λ p commands stands. holds p commands (opens p commands stands);
        kept = λ p commands stands left said front. ⊎_elim
            (λ was. subst (λ (f : Files). Stands all_meaning p f commands) (sym (as_handed left said (subst (λ (t : ℕ). (disk_of m).left_since t left said) (sym begins) was))) stands)
            (λ now. now)
            (kept p commands (opens p commands stands) left said front);
      }

  -- what an opening of the machine says of its reads it says of the files
  pub unopened : (result : Result Session Answer) → IfErr result (IsUnopened (disk_of m).reads) → IfErr result (IsUnopened files)
  unopened result why = subst (λ (f : Files). IfErr result (IsUnopened f)) handed.reads why

  pub created : (p : Params) (laid : QueueMem) → IsUntaken m laid → InEachImage (disk_of laid) (IsNewStore all_meaning p) → (BeginsStore ((disk_of m).reads Objects) → ⊥)
      → LeavesOnly (disk_of m) (disk_of laid) (OrAtStart (disk_of m) (λ left said. IsNew all_meaning p left × (said ≡ (disk_of m).said)))
      → (result : Result Session Answer) → (taken_from laid ≡ [] → IfOk result (IsReady (first_files laid)))
      → ((q : Params) (commands : List AllOps) → Opens all_meaning q (disk_of laid) commands → IfOk result (λ s. Holds all_meaning q (disk_of s.store.machine) s.store.engine commands × (forced_in s.store.engine ≡ length commands)))
      → ((q : Params) (commands : List AllOps) → Opens all_meaning q (disk_of laid) commands → IfOk result (KeptBy laid q commands))
      → IfOk result (IsCreated p files)
  created p laid untaken each fresh leaves (Err answer) ready holds kept = tt
  created p laid untaken each fresh leaves (Ok s) ready holds kept =
      let opens : Opens all_meaning p (disk_of laid) [] = record { told = tt; stands = each.0.stands } in
      let none : BeginsStore (files Objects) → ⊥ = subst (λ (f : Files). BeginsStore (f Objects) → ⊥) handed.reads fresh in
      record {
        ready = subst (λ (f : Files). IsReady f s) (untaken.first ∙ handed.first) (ready (untaken.calls ∙ handed.taken));
        fresh = none;
        holds = (holds p [] opens).0;
        kept = λ left said front. ⊎_elim
            (λ was. ⊎_elim
            (λ start. inl (subst (λ (f : Files). BeginsStore (f Objects) → ⊥) (sym (as_handed left said start)) none))
            (λ new. new.0)
            (leaves.each left said (subst (λ (t : ℕ). (disk_of laid).left_since t left said) (sym begins) was)))
            (λ now. inr now)
            (kept p [] opens left said front);
      }
