-- How the logic stores a call.
use Rattle.std.specs.Prelude.{◌≡◌, ◌⊎◌, ℕ, zero, suc, List, refl}
use Rattle.std.proofs.Common.{inl, inr}
use Rattle.std.specs.Coded.{Coded, code_by, coded×, coded⊎, coded_ℕ, coded_list}
use Rattle.disk_model.specs.Call.{Call, Write, Sync, Say}
use Rattle.disk_model.specs.declared.machine.FileNo.{FileNo}
use Rattle.disk_model.specs.declared.machine.FileNo.TheVariants.{Objects, LogA, LogB}

abbrev pub file_number : FileNo → ℕ
file_number Objects = 0
file_number LogA = 1
file_number LogB = 2

abbrev pub file_at : ℕ → FileNo
file_at zero = Objects
file_at (suc zero) = LogA
file_at (suc (suc n)) = LogB

abbrev pub Parts : Type 0
Parts = (ℕ × (ℕ × List ℕ)) ⊎ (ℕ ⊎ List ℕ)

abbrev pub parts_of : Call → Parts
parts_of (Write file at bytes) = inl (file_number file, (at, bytes))
parts_of (Sync file) = inr (inl (file_number file))
parts_of (Say bytes) = inr (inr bytes)

abbrev pub call_at : Parts → Call
call_at (inl parts) = Write (file_at parts.0) parts.1.0 parts.1.1
call_at (inr (inl file)) = Sync (file_at file)
call_at (inr (inr bytes)) = Say bytes

pub call_back : (call : Call) → call_at (parts_of call) ≡ call
call_back (Write Objects at bytes) = refl
call_back (Write LogA at bytes) = refl
call_back (Write LogB at bytes) = refl
call_back (Sync Objects) = refl
call_back (Sync LogA) = refl
call_back (Sync LogB) = refl
call_back (Say bytes) = refl

abbrev pub call_code : Coded Call
call_code = code_by Parts (coded⊎ (coded× coded_ℕ (coded× coded_ℕ (coded_list coded_ℕ))) (coded⊎ coded_ℕ (coded_list coded_ℕ))) parts_of call_at call_back
