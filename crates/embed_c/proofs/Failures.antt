-- Why a store is not there, and what is told of it, which is never 0.
use Rattle.std.proofs.Common.{◌≡◌, Err, Ok, Result, IfErr, arith, inl, inr, refl}
use Rattle.std.specs.Prelude.{IsErrOf}
use Rattle.disk_model.specs.Disk.{Disk, Files}
use Rattle.disk_model.specs.declared.machine.FileNo.TheVariants.{Objects}
use Rattle.formats.specs.Objects.{BeginsStore}
use Rattle.formats.specs.declared.params.Params.{Params}
use Rattle.op_codec.specs.AllOps.{all_meaning}
use Rattle.restart.specs.Opening.{IsJudged}
use Rattle.restart.specs.WellFormed.{IsWellFormed}
use Rattle.stable_objects.specs.Reading.{IsNoDamage}
use Rattle.stable_objects.specs.declared.open_err.OpenErr.{OpenErr}
use Rattle.stable_objects.specs.declared.open_err.OpenErr.TheVariants as opening
use Rattle.store_engine.specs.declared.init_err.InitErr.{InitErr}
use Rattle.store_engine.specs.declared.init_err.InitErr.TheVariants as laying_out
use Rattle.embed_c.specs.Answers.{alone, of_init, of_open}
use Rattle.embed_c.specs.Opening.{HasOpenCause, IsFailure, IsUncreated, IsUnopened}
use Rattle.embed_c.specs.declared.answer.Answer.{Answer}
use Rattle.embed_c.specs.declared.session.Session.{Session}

pub open_fails : (cause : OpenErr) → IsFailure (of_open cause)
open_fails opening.NotAStore = λ done. omega (arith, done)
open_fails opening.DiskFault = λ done. omega (arith, done)
open_fails (opening.Damaged file place) = λ done. omega (arith, done)
open_fails opening.Memory = λ done. omega (arith, done)

pub init_fails : (cause : InitErr) → IsFailure (of_init cause)
init_fails laying_out.AlreadyStore = λ done. omega (arith, done)
init_fails laying_out.DiskFault = λ done. omega (arith, done)

-- the cause is that of the restart
pub open_cause : {old new : Disk} (cause : OpenErr) → IsJudged all_meaning old new (Err cause) → HasOpenCause old.reads cause
open_cause opening.NotAStore judged = judged.no_store refl
open_cause opening.DiskFault judged = tt
open_cause (opening.Damaged file place) judged = judged.damaged file place refl
open_cause opening.Memory judged = tt

-- memory was refused beside the machine
pub no_memory : (files : Files) (told : Answer) → told ≡ alone 8 → IsUnopened files told
no_memory files told is = record { cause = opening.Memory; told_is = is; why = tt; whole = λ formed. tt }

-- a layout fails where a store is, or with the machine
pub init_cause : (p : Params) (files : Files) (cause : InitErr) → (IsErrOf {T = Unit {0}} {E = InitErr} (Err cause) laying_out.AlreadyStore → BeginsStore (files Objects)) → IsUncreated p files (of_init cause)
init_cause p files laying_out.AlreadyStore begins = inr (inl (refl, begins refl))
init_cause p files laying_out.DiskFault begins = inr (inr (inl refl))

-- a new store is opened, unless the machine fails or memory is refused
by_cause : (p : Params) (files : Files) (told : Answer) (cause : OpenErr) → told ≡ of_open cause → IsNoDamage cause → IsUncreated p files told
by_cause p files told opening.NotAStore is none = absurd none
by_cause p files told opening.DiskFault is none = inr (inr (inl is))
by_cause p files told (opening.Damaged file place) is none = absurd none
by_cause p files told opening.Memory is none = inr (inr (inr is))

pub new_unopened : (p : Params) (files laid : Files) (result : Result Session Answer) → IsWellFormed all_meaning laid → IfErr result (IsUnopened laid) → IfErr result (IsUncreated p files)
new_unopened p files laid (Ok s) formed why = tt
new_unopened p files laid (Err told) formed why = by_cause p files told why.cause why.told_is (why.whole formed)
