-- Statuses from their causes, both ways.
use Rattle.std.proofs.Common.{List, ℕ, length-append, ap, arith, ◌<◌, ◌≤◌, length, ◌≡◌, ◌≢◌, ◌⊎◌, inl, inr, ⊎_elim, ◌↔◌, refl, sym, subst}
use Rattle.script_lines.specs.Reading.{ReadsOn}
use Rattle.std.specs.Prelude.{⊤, ◌^◌, List}
use Rattle.disk_model.specs.Disk.{Disk, Rises}
use Rattle.formats.specs.declared.params.Params.{Params}
use Rattle.op_codec.specs.AllOps.{all_meaning}
use Rattle.restart.specs.WellFormed.{opens_gate}
use Rattle.shell_base.specs.Judging.{CountsFaults, JudgesFiles}
use Rattle.shell_base.specs.Store.{Command, IsWellFormed, Opens}
use Rattle.shell_base.specs.declared.budget.Budget.{Budget}
use Rattle.shell_base.specs.declared.status.Status.{Status}
use Rattle.shell_base.specs.declared.status.Status.TheVariants.{Done, DoneWithRefusals, Usage, NotAStore, AlreadyStore, Damaged, DiskFault, ReadFault, SayFault, Memory, RestartMemory, TooLong, BackupFault, Gone, BadStream, StandbyFull}
use Rattle.shell_base.specs.Status.{IsOfRun, IsOfInit, IsOfDump, IsOfShip, IsOfFollow, IsOfStore, LacksMemory}
use Rattle.store_words.specs.Making.{IsMaking}
use Rattle.standby_words.specs.Following.{IsFollowEnd}
use Rattle.standby_words.specs.Shipping.{IsShipEnd}
use Rattle.script_run.specs.RunCalls.{IsRunCall}
use Rattle.script_run.specs.declared.tending.Tending.{Tending}
use Rattle.redo_shell.specs.Exactly.{IsFaultless, OpensExactly, MakesExactly, RunsExactly}
use Rattle.redo_shell.proofs.DamageLemmas.{HasOneDamage, first_said}

-- where so many bytes were taken off, there were so many
pub enough_taken : {old new : List ℕ} {n : ℕ} → ReadsOn old new 0 n → n ≤ length old
enough_taken {old} {new} {n} takes = omega (arith, takes.count, ap (λ (l : List ℕ). length l) takes.front, length-append takes.bytes new)

pub not_so_few : {n most : ℕ} → n < most → most ≤ n → ⊥
not_so_few few enough = omega (arith, few, enough)

-- a call that opens the store, in which no count of faults rises, ends with one of these
abbrev IsCalm : Status → Type 0
IsCalm Done = ⊤
IsCalm DoneWithRefusals = ⊤
IsCalm NotAStore = ⊤
IsCalm Damaged = ⊤
IsCalm Memory = ⊤
IsCalm RestartMemory = ⊤
IsCalm TooLong = ⊤
IsCalm Gone = ⊤
IsCalm BadStream = ⊤
IsCalm StandbyFull = ⊤
IsCalm status = ⊥

pub calm_run : {old new : Disk} {before now : ℕ} {backup backed : Disk} (status : Status) → IsFaultless old new before now backup backed → IsOfRun status → CountsFaults old new status → (status ≡ ReadFault → Rises before now) → (status ≡ BackupFault → Rises backup.disk_faults backed.disk_faults) → IsCalm status
calm_run Done calm of faults input beside = tt
calm_run DoneWithRefusals calm of faults input beside = tt
calm_run NotAStore calm of faults input beside = tt
calm_run Damaged calm of faults input beside = tt
calm_run DiskFault calm of faults input beside = absurd (calm.disk (faults.disk refl))
calm_run ReadFault calm of faults input beside = absurd (calm.input (input refl))
calm_run SayFault calm of faults input beside = absurd (calm.output (faults.output refl))
calm_run Memory calm of faults input beside = tt
calm_run RestartMemory calm of faults input beside = tt
calm_run TooLong calm of faults input beside = tt
calm_run BackupFault calm of faults input beside = absurd (calm.backup (beside refl))
calm_run status calm of faults input beside = absurd of

pub no_store_exactly : {gate image : Type 0} (status : Status) → IsCalm status → (status ≡ NotAStore → gate → ⊥) → (status ≡ Damaged → gate) → (LacksMemory status → gate) → (IsOfStore status → image) → (image → gate)
    → (status ≡ NotAStore) ↔ (gate → ⊥)
no_store_exactly Done calm closed broken refused opened open_gate = (λ e. cc, λ closed. absurd (closed (open_gate (opened tt))))
no_store_exactly DoneWithRefusals calm closed broken refused opened open_gate = (λ e. cc, λ closed. absurd (closed (open_gate (opened tt))))
no_store_exactly NotAStore calm closed broken refused opened open_gate = (λ e. closed refl, λ closed. refl)
no_store_exactly Damaged calm closed broken refused opened open_gate = (λ e. cc, λ closed. absurd (closed (broken refl)))
no_store_exactly TooLong calm closed broken refused opened open_gate = (λ e. cc, λ closed. absurd (closed (open_gate (opened tt))))
no_store_exactly Gone calm closed broken refused opened open_gate = (λ e. cc, λ closed. absurd (closed (open_gate (opened tt))))
no_store_exactly BadStream calm closed broken refused opened open_gate = (λ e. cc, λ closed. absurd (closed (open_gate (opened tt))))
no_store_exactly StandbyFull calm closed broken refused opened open_gate = (λ e. cc, λ closed. absurd (closed (open_gate (opened tt))))
no_store_exactly Memory calm closed broken refused opened open_gate = (λ e. cc, λ closed. absurd (closed (refused tt)))
no_store_exactly RestartMemory calm closed broken refused opened open_gate = (λ e. cc, λ closed. absurd (closed (refused tt)))
no_store_exactly status calm closed broken refused opened open_gate = absurd calm

pub damaged_exactly : {gate image : Type 0} (status : Status) → IsCalm status → (LacksMemory status → ⊥) → (status ≡ NotAStore → gate → ⊥) → (status ≡ Damaged → gate) → (IsOfStore status → image) → (image → status ≢ Damaged)
    → (status ≡ Damaged) ↔ (gate × (image → ⊥))
damaged_exactly Done calm memory closed broken opened whole = (λ e. cc, λ is. absurd (is.1 (opened tt)))
damaged_exactly DoneWithRefusals calm memory closed broken opened whole = (λ e. cc, λ is. absurd (is.1 (opened tt)))
damaged_exactly NotAStore calm memory closed broken opened whole = (λ e. cc, λ is. absurd (closed refl is.0))
damaged_exactly Damaged calm memory closed broken opened whole = (λ e. (broken refl, λ image. whole image refl), λ is. refl)
damaged_exactly TooLong calm memory closed broken opened whole = (λ e. cc, λ is. absurd (is.1 (opened tt)))
damaged_exactly Gone calm memory closed broken opened whole = (λ e. cc, λ is. absurd (is.1 (opened tt)))
damaged_exactly BadStream calm memory closed broken opened whole = (λ e. cc, λ is. absurd (is.1 (opened tt)))
damaged_exactly StandbyFull calm memory closed broken opened whole = (λ e. cc, λ is. absurd (is.1 (opened tt)))
damaged_exactly Memory calm memory closed broken opened whole = absurd (memory tt)
damaged_exactly RestartMemory calm memory closed broken opened whole = absurd (memory tt)
damaged_exactly status calm memory closed broken opened whole = absurd calm

-- on a store that is whole
pub whole_run : (status : Status) → IsCalm status → IsOfRun status → (LacksMemory status → ⊥) → (status ≢ NotAStore) × (status ≢ Damaged) → (status ≡ TooLong) ⊎ ((status ≡ Done) ⊎ (status ≡ DoneWithRefusals))
whole_run Done calm of memory store = inr (inl refl)
whole_run DoneWithRefusals calm of memory store = inr (inr refl)
whole_run NotAStore calm of memory store = absurd (store.0 refl)
whole_run Damaged calm of memory store = absurd (store.1 refl)
whole_run TooLong calm of memory store = inl refl
whole_run Memory calm of memory store = absurd (memory tt)
whole_run RestartMemory calm of memory store = absurd (memory tt)
whole_run Gone calm of memory store = absurd of
whole_run BadStream calm of memory store = absurd of
whole_run StandbyFull calm of memory store = absurd of
whole_run status calm of memory store = absurd calm

-- so does a dump
pub calm_told : {old new : Disk} {before now : ℕ} {backup backed : Disk} (status : Status) → IsFaultless old new before now backup backed → IsOfDump status → CountsFaults old new status → IsCalm status
calm_told Done calm of faults = tt
calm_told NotAStore calm of faults = tt
calm_told Damaged calm of faults = tt
calm_told DiskFault calm of faults = absurd (calm.disk (faults.disk refl))
calm_told SayFault calm of faults = absurd (calm.output (faults.output refl))
calm_told Memory calm of faults = tt
calm_told RestartMemory calm of faults = tt
calm_told status calm of faults = absurd of

-- a dump of a store that is whole, which nothing disturbs
pub calm_dump : {old new : Disk} {before now : ℕ} {backup backed : Disk} (status : Status) → IsFaultless old new before now backup backed → (LacksMemory status → ⊥) → IsOfDump status → CountsFaults old new status → (status ≢ NotAStore) × (status ≢ Damaged) → status ≡ Done
calm_dump Done calm memory of faults store = refl
calm_dump NotAStore calm memory of faults store = absurd (store.0 refl)
calm_dump Damaged calm memory of faults store = absurd (store.1 refl)
calm_dump DiskFault calm memory of faults store = absurd (calm.disk (faults.disk refl))
calm_dump SayFault calm memory of faults store = absurd (calm.output (faults.output refl))
calm_dump Memory calm memory of faults store = absurd (memory tt)
calm_dump RestartMemory calm memory of faults store = absurd (memory tt)
calm_dump status calm memory of faults store = absurd of

-- so does a shipment, and the following of a stream
pub calm_shipped : {old new : Disk} {before now : ℕ} {backup backed : Disk} (status : Status) → IsFaultless old new before now backup backed → IsOfShip status → CountsFaults old new status → IsCalm status
calm_shipped Done calm of faults = tt
calm_shipped NotAStore calm of faults = tt
calm_shipped Damaged calm of faults = tt
calm_shipped DiskFault calm of faults = absurd (calm.disk (faults.disk refl))
calm_shipped SayFault calm of faults = absurd (calm.output (faults.output refl))
calm_shipped Memory calm of faults = tt
calm_shipped RestartMemory calm of faults = tt
calm_shipped Gone calm of faults = tt
calm_shipped status calm of faults = absurd of

pub calm_followed : {old new : Disk} {before now : ℕ} {backup backed : Disk} (status : Status) → IsFaultless old new before now backup backed → IsOfFollow status → CountsFaults old new status → (status ≡ ReadFault → Rises before now) → IsCalm status
calm_followed Done calm of faults input = tt
calm_followed NotAStore calm of faults input = tt
calm_followed Damaged calm of faults input = tt
calm_followed DiskFault calm of faults input = absurd (calm.disk (faults.disk refl))
calm_followed ReadFault calm of faults input = absurd (calm.input (input refl))
calm_followed SayFault calm of faults input = absurd (calm.output (faults.output refl))
calm_followed Memory calm of faults input = tt
calm_followed RestartMemory calm of faults input = tt
calm_followed TooLong calm of faults input = tt
calm_followed BadStream calm of faults input = tt
calm_followed StandbyFull calm of faults input = tt
calm_followed status calm of faults input = absurd of

-- either of a store that is whole, with memory
pub whole_ship : (status : Status) → IsCalm status → IsOfShip status → (LacksMemory status → ⊥) → (status ≢ NotAStore) × (status ≢ Damaged) → IsShipEnd status
whole_ship Done calm of memory store = inl refl
whole_ship NotAStore calm of memory store = absurd (store.0 refl)
whole_ship Damaged calm of memory store = absurd (store.1 refl)
whole_ship Memory calm of memory store = absurd (memory tt)
whole_ship RestartMemory calm of memory store = absurd (memory tt)
whole_ship Gone calm of memory store = inr refl
whole_ship DiskFault calm of memory store = absurd calm
whole_ship SayFault calm of memory store = absurd calm
whole_ship status calm of memory store = absurd of

pub whole_follow : (status : Status) → IsCalm status → IsOfFollow status → (LacksMemory status → ⊥) → (status ≢ NotAStore) × (status ≢ Damaged) → IsFollowEnd status
whole_follow Done calm of memory store = inl refl
whole_follow NotAStore calm of memory store = absurd (store.0 refl)
whole_follow Damaged calm of memory store = absurd (store.1 refl)
whole_follow Memory calm of memory store = absurd (memory tt)
whole_follow RestartMemory calm of memory store = absurd (memory tt)
whole_follow TooLong calm of memory store = inr (inl refl)
whole_follow BadStream calm of memory store = inr (inr (inl refl))
whole_follow StandbyFull calm of memory store = inr (inr (inr refl))
whole_follow DiskFault calm of memory store = absurd calm
whole_follow ReadFault calm of memory store = absurd calm
whole_follow SayFault calm of memory store = absurd calm
whole_follow status calm of memory store = absurd of

-- the making of a store in which no count of faults rises
pub calm_init : {old new : Disk} {before now : ℕ} {backup backed : Disk} (status : Status) → IsFaultless old new before now backup backed → IsOfInit status → CountsFaults old new status → (status ≡ Done) ⊎ (status ≡ AlreadyStore)
calm_init Done calm of faults = inl refl
calm_init AlreadyStore calm of faults = inr refl
calm_init DiskFault calm of faults = absurd (calm.disk (faults.disk refl))
calm_init SayFault calm of faults = absurd (calm.output (faults.output refl))
calm_init status calm of faults = absurd of

-- what a call that opens the store says of the files, both ways
pub opens_exactly : {old new : Disk} (status : Status) → IsCalm status → HasOneDamage old.reads → JudgesFiles old new status → OpensExactly old new status
opens_exactly {old} {new} status calm one judged =
    let broken = λ (memory : LacksMemory status → ⊥). damaged_exactly status calm memory (λ is. (judged.no_store is).0) (λ is. (judged.damaged is).2.gate) judged.opened (λ image. (judged.store image).1) in
    record {
      no_store = no_store_exactly status calm (λ is. (judged.no_store is).0) (λ is. (judged.damaged is).2.gate) judged.memory judged.opened (opens_gate all_meaning);
      damaged = broken;
      said = λ memory. first_said old new status one (broken memory) judged.damaged;
    }

pub runs_exactly : {tending : Tending} {budget : Budget} {told : Type 0} {left rest : List ℕ} {old new : Disk} (status : Status) → IsCalm status → (LacksMemory status → ⊥) → IsRunCall tending budget told left rest old new status → (told → status ≡ TooLong → ReadsOn left rest 0 (2 ^ 40))
    → ((p : Params) (commands : List Command) → Opens p old commands → IsWellFormed old.reads) → RunsExactly told left old status
runs_exactly status calm memory call taken image = record {
  succeeds = λ p commands opens told few. ⊎_elim (λ e. absurd (not_so_few few (enough_taken (taken told e)))) (λ e. e) (whole_run status calm call.ends memory ((call.judged opens.told).store (image p commands opens)));
  too_long = λ files whole told. (
    λ is. enough_taken (taken told is),
    λ enough. ⊎_elim (λ e. e) (λ e. absurd (not_so_few (call.input told e).1 enough)) (whole_run status calm call.ends memory ((call.judged files).store whole)),
  );
}

pub makes_exactly : {p : Params} {old new : Disk} {before now : ℕ} {backup backed : Disk} (status : Status) → IsFaultless old new before now backup backed → IsMaking p old new status → CountsFaults old new status → old.tells_files → MakesExactly old status
makes_exactly status calm making faults told =
    let ends = calm_init status calm making.ends faults in
    record {
      already = (λ is. (making.already told is).begins, λ begins. ⊎_elim (λ e. absurd (making.fresh told e begins)) (λ e. e) ends);
      made = λ none. ⊎_elim (λ e. e) (λ e. absurd (none (making.already told e).begins)) ends;
    }

-- where the words ask nothing the call ends with one of these
abbrev pub IsOfUsage : Status → Type 0
IsOfUsage Usage = ⊤
IsOfUsage SayFault = ⊤
IsOfUsage status = ⊥

pub usage_ends : (status : Status) → (status ≡ Usage) ⊎ (status ≡ SayFault) → IsOfUsage status
usage_ends status ends = ⊎_elim (λ (is : status ≡ Usage). subst IsOfUsage (sym is) tt) (λ (is : status ≡ SayFault). subst IsOfUsage (sym is) tt) ends
