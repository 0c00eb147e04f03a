-- Runs that leave the objects alone.
use Rattle.std.proofs.Common.{◌≡◌, ◌≢◌, List, ℕ, [], ◌∷◌, ◌++◌, refl, ◌∙◌, sym, subst, arith}
use Rattle.std.proofs.lemmas.List.Elements.{All-nil}
use Rattle.disk_model.specs.Disk.{Files, Disk, Runs, Stays, Same, In, HoldsAt, IsSettled}
use Rattle.disk_model.specs.Moments.{runs_twice, runs_wider, stays_settled}
use Rattle.disk_model.specs.declared.machine.FileNo.{FileNo}
use Rattle.disk_model.specs.declared.machine.FileNo.TheVariants.{Objects, LogA, LogB}
use Rattle.formats.specs.Log.{header_fields, new_header, IsPayload, IsWholeLog, IsClosedLog}
use Rattle.log_blocks.specs.Creating.{LogsAlone}
use Rattle.log_blocks.proofs.Bytes.{held_behind, held_gate}

pub alone_twice : (old mid new : Disk) → Runs LogsAlone Same old mid → Runs LogsAlone Same mid new → Runs LogsAlone Same old new
alone_twice old mid new first second = runs_twice old mid new LogsAlone (λ a b c x y. y ∙ x) first second

pub alone_write : (old new : Disk) (file : FileNo) (change : List ℕ → List ℕ → Type 0) → file ≢ Objects → Runs (In file change) Same old new → Runs LogsAlone Same old new
alone_write old new file change is_log run = runs_wider old new (In file change) LogsAlone (λ a b is. is.others Objects (λ e. is_log (sym e))) run

-- a settled machine stays so over calls that change nothing
pub all_stay_settled : (old new : Disk) → Stays old new → IsSettled old → IsSettled new
all_stay_settled old new stays settled file = stays_settled old new file stays (settled file)

-- the two writes that make a log
new_log : (a b c : List ℕ) → IsClosedLog a → HoldsAt 1 (header_fields new_header ++ 0 ∷ []) a b → HoldsAt 0 (1 ∷ []) b c → IsWholeLog new_header [] c
new_log [] b c closed first second = absurd closed
new_log (g ∷ rest) b c closed first second =
    let front = header_fields new_header ++ 0 ∷ [] in
    let behind = held_behind [] g 0 rest refl front b first in
    let whole = held_gate [] g 0 (front ++ behind.0) refl 1 c (subst (λ (l : List ℕ). HoldsAt 0 (1 ∷ []) l c) behind.1 second) in
    record {
      in_range = record { epoch_low = omega arith; epoch_high = omega arith; base_low = omega arith; base_high = omega arith; commands = omega arith };
      log = record { gate = 0; rest = behind.0; split = whole; closed = omega arith };
      whole = All-nil IsPayload;
    }

pub new_files : (one two three four : Files) → IsClosedLog (one LogA) → ((other : FileNo) → other ≢ LogB → two other ≡ one other) → IsClosedLog (two LogB)
    → In LogA (HoldsAt 1 (header_fields new_header ++ 0 ∷ [])) two three → In LogA (HoldsAt 0 (1 ∷ [])) three four
    → IsWholeLog new_header [] (four LogA) × IsClosedLog (four LogB)
new_files one two three four a kept b first second = (
  new_log (two LogA) (three LogA) (four LogA) (subst IsClosedLog (sym (kept LogA (λ e. cc))) a) first.changed second.changed,
  subst IsClosedLog (sym (second.others LogB (λ e. cc) ∙ first.others LogB (λ e. cc))) b,
)
