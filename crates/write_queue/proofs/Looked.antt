-- One call more is looked through.
use Rattle.std.proofs.Common.{◌≡◌, ◌<◌, ◌+◌, ℕ, List, [], ◌∷◌, length, get_or, take, sym, ◌∙◌, ap}
use Rattle.std.proofs.lemmas.List.{map-append, take_more}
use Rattle.disk_model.specs.Call.{Call}
use Rattle.disk_model.specs.declared.machine.FileNo.{FileNo}
use Rattle.write_queue.specs.Looking.{file_step, file_after}
use Rattle.write_queue.specs.LookingLaws.{after_both}
use Rattle.write_queue.specs.Waiting.{call_of, calls_in}
use Rattle.write_queue.specs.declared.queued.Queued.{Queued}

step_more : (file : FileNo) (bytes : List ℕ) (calls : List Queued) (i : ℕ) (d : Queued) → i < length calls
    → file_step file (call_of (get_or calls i d)) (file_after file bytes (calls_in (take i calls))) ≡ file_after file bytes (calls_in (take (i + 1) calls))
step_more file bytes calls i d within =
    let call = get_or calls i d in
    sym (ap (λ (l : List Queued). file_after file bytes (calls_in l)) (take_more calls i d within)
    ∙ ap (λ (l : List Call). file_after file bytes l) (map-append call_of (take i calls) (call ∷ []))
    ∙ after_both file bytes (calls_in (take i calls)) (call_of call ∷ []))

pub item_more : (file : FileNo) (bytes : List ℕ) (calls : List Queued) (i : ℕ) (call : Queued) → i < length calls → call ≡ get_or calls i call
    → file_step file (call_of call) (file_after file bytes (calls_in (take i calls))) ≡ file_after file bytes (calls_in (take (i + 1) calls))
item_more file bytes calls i call within is =
    ap (λ (q : Queued). file_step file (call_of q) (file_after file bytes (calls_in (take i calls)))) is ∙ step_more file bytes calls i call within
