-- One entry more in a record.
use Rattle.std.proofs.Common.{◌≡◌, ℕ, ◌+◌, ◌≤◌, List, [], ◌∷◌, ◌++◌, length, take, drop, sym, ◌∙◌, ap, arith, length-drop, length-append}
use Rattle.std.proofs.lemmas.List.{take_all, take-append-le, drop-append-le, nil_from_length}
use Rattle.disk_model.specs.Call.{Call, Write, Sync, Say}
use Rattle.disk_model.specs.Entries.{calls_in, taken}
use Rattle.disk_model.specs.declared.machine.FileNo.{FileNo}
use Rattle.disk_model.specs.declared.entry.Entry.{Entry}
use Rattle.disk_model.specs.declared.entry.Entry.TheVariants.{Written, Synced, Said}

taken-append : (entries more : List Entry) → taken (entries ++ more) ≡ taken entries + taken more
taken-append [] more = omega arith
taken-append (Written file at n ∷ entries) more = omega (arith, taken-append entries more)
taken-append (Synced file ∷ entries) more = taken-append entries more
taken-append (Said n ∷ entries) more = omega (arith, taken-append entries more)

calls_in-append : (entries more : List Entry) (pool bytes : List ℕ) → taken entries ≡ length pool → calls_in (entries ++ more) (pool ++ bytes) ≡ calls_in entries pool ++ calls_in more bytes
calls_in-append [] more pool bytes whole = ap (λ (l : List ℕ). calls_in more (l ++ bytes)) (nil_from_length pool (sym whole))
calls_in-append (Written file at n ∷ entries) more pool bytes whole =
    let here : n ≤ length pool = omega (arith, whole) in
    let rest : taken entries ≡ length (drop n pool) = omega (arith, whole, length-drop n pool) in
    ap (λ (l : List ℕ). Write file at l ∷ calls_in (entries ++ more) (drop n (pool ++ bytes))) (take-append-le n pool bytes here)
    ∙ ap (λ (l : List ℕ). Write file at (take n pool) ∷ calls_in (entries ++ more) l) (drop-append-le n pool bytes here)
    ∙ ap (λ (l : List Call). Write file at (take n pool) ∷ l) (calls_in-append entries more (drop n pool) bytes rest)
calls_in-append (Synced file ∷ entries) more pool bytes whole = ap (λ (l : List Call). Sync file ∷ l) (calls_in-append entries more pool bytes whole)
calls_in-append (Said n ∷ entries) more pool bytes whole =
    let here : n ≤ length pool = omega (arith, whole) in
    let rest : taken entries ≡ length (drop n pool) = omega (arith, whole, length-drop n pool) in
    ap (λ (l : List ℕ). Say l ∷ calls_in (entries ++ more) (drop n (pool ++ bytes))) (take-append-le n pool bytes here)
    ∙ ap (λ (l : List ℕ). Say (take n pool) ∷ calls_in (entries ++ more) l) (drop-append-le n pool bytes here)
    ∙ ap (λ (l : List Call). Say (take n pool) ∷ l) (calls_in-append entries more (drop n pool) bytes rest)

module _ (entries entries' : List Entry) (pool pool' bytes : List ℕ) (whole : taken entries ≡ length pool) (entry : Entry) (more : entries' ≡ entries ++ entry ∷ []) (poured : pool' ≡ pool ++ bytes) where
  pub still_whole : taken (entry ∷ []) ≡ length bytes → taken entries' ≡ length pool'
  still_whole here = omega (arith, ap taken more, taken-append entries (entry ∷ []), ap length poured, length-append pool bytes, whole, here)

  pub one_more : (call : Call) → calls_in (entry ∷ []) bytes ≡ call ∷ [] → calls_in entries' pool' ≡ calls_in entries pool ++ call ∷ []
  one_more call here =
      ap (λ (l : List Entry). calls_in l pool') more ∙ ap (λ (l : List ℕ). calls_in (entries ++ entry ∷ []) l) poured
      ∙ calls_in-append entries (entry ∷ []) pool bytes whole ∙ ap (λ (l : List Call). calls_in entries pool ++ l) here

-- all bytes of a call go to it
pub all_written : (file : FileNo) (at : ℕ) (bytes : List ℕ) → calls_in (Written file at (length bytes) ∷ []) bytes ≡ Write file at bytes ∷ []
all_written file at bytes = ap (λ (l : List ℕ). Write file at l ∷ []) (take_all (length bytes) bytes (omega arith))

pub all_said : (bytes : List ℕ) → calls_in (Said (length bytes) ∷ []) bytes ≡ Say bytes ∷ []
all_said bytes = ap (λ (l : List ℕ). Say l ∷ []) (take_all (length bytes) bytes (omega arith))
