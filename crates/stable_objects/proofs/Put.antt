-- What the writes that fill a slot and open it leave.
use Rattle.std.proofs.Common.{◌≡◌, ◌<◌, ◌+◌, ◌^◌, inl, inr, ℕ, List, [], ◌∷◌, ◌++◌, length, sym, ◌∙◌, ap, subst, arith, length-append, refl}
use Rattle.byteorder.specs.Endian.{little_bytes}
use Rattle.oper_core.specs.LittleEndian.{length-little_bytes}
use Rattle.disk_model.specs.Disk.{Files, Disk, Runs, Stays, Same, In, Torn, HoldsAt, Any, IsSettled, LeavesOnly}
use Rattle.disk_model.specs.Moments.{runs_join, runs_wider, from_reads, first_call, goes_on}
use Rattle.disk_model.specs.Ranges.{torn_wider, run_apart}
use Rattle.disk_model.specs.declared.machine.FileNo.TheVariants.{Objects}
use Rattle.formats.specs.Bytes.{byte_at, IsClosedAt}
use Rattle.stable_objects.specs.Replacing.{AgreesOutside, IsFilled, IsPut, IsHalfPut}
use Rattle.stable_objects.proofs.Bytes.{byte_written, written_long}
use Rattle.stable_objects.proofs.Outside.{torn_agrees, held_agrees, filled_by, agrees_wider, agrees_twice, filled_stays}

-- the head alone was written
pub head_run : (old mid : Disk) (place : ℕ) (head value : List ℕ) → length head ≡ 12 → Runs (In Objects (Torn (place + 1) (length head))) Same old mid → Runs (In Objects (Torn (place + 1) (12 + length value))) Same old mid
head_run old mid place head value long run = runs_wider old mid (In Objects (Torn (place + 1) (length head))) (In Objects (Torn (place + 1) (12 + length value)))
    (λ a b is. record { changed = torn_wider (place + 1) (length head) (12 + length value) (a Objects) (b Objects) (omega (arith, long)) is.changed; others = is.others })
    run

-- the head, and then the value
pub fill_run : (old mid new : Disk) (place : ℕ) (head value : List ℕ) → length head ≡ 12 → Runs (In Objects (Torn (place + 1) (length head))) Same old mid
    → Runs (In Objects (Torn (place + 13) (length value))) Same mid new → Runs (In Objects (Torn (place + 1) (12 + length value))) Same old new
fill_run old mid new place head value long first second =
    let same : place + 13 ≡ place + 1 + 12 = omega arith in
    run_apart old mid new Objects (place + 1) (length head) 12 (length value) (12 + length value) (omega (arith, long)) (omega arith) first
    (subst (λ (at : ℕ). Runs (In Objects (Torn at (length value))) Same mid new) same second)

-- a look, which changes nothing
pub look_only : (change : List ℕ → List ℕ → Type 0) → ((l : List ℕ) → change l l) → (old new : Disk) → Stays old new → Runs (In Objects change) Same old new
look_only change stays old new look = runs_wider old new Same (In Objects change)
    (λ a b same. subst (λ (f : Files). In Objects change a f) (sym same) (record { changed = stays (a Objects); others = λ other is_other. refl })) look

-- and a change after it
pub look_first : (change : List ℕ → List ℕ → Type 0) → ((l : List ℕ) → change l l) → (old mid new : Disk) → Stays old mid → Runs (In Objects change) Same mid new → Runs (In Objects change) Same old new
look_first change stays old mid new first second = runs_join old mid new Same (In Objects change) (In Objects change)
    (λ a b same. subst (λ (f : Files). In Objects change a f) (sym same) (record { changed = stays (a Objects); others = λ other is_other. refl }))
    (λ a b c same step. subst (λ (f : Files). In Objects change f c) same step)
    first second

-- any change of the file
pub any_run : (old new : Disk) (change : List ℕ → List ℕ → Type 0) → Runs (In Objects change) Same old new → Runs (In Objects Any) Same old new
any_run old new change run = runs_wider old new (In Objects change) (In Objects Any) (λ a b is. record { changed = tt; others = is.others }) run

-- and another one after it
pub any_join : (old mid new : Disk) (one two : List ℕ → List ℕ → Type 0) → Runs (In Objects one) Same old mid → Runs (In Objects two) Same mid new → Runs (In Objects Any) Same old new
any_join old mid new one two first second = runs_join old mid new (In Objects one) (In Objects two) (In Objects Any)
    (λ a b is. record { changed = tt; others = is.others })
    (λ a b c x y. record { changed = tt; others = λ other is_other. y.others other is_other ∙ x.others other is_other })
    first second

module _ (old mid : Disk) (place lsn : ℕ) (value : List ℕ) (first : Runs (In Objects (Torn (place + 1) (12 + length value))) Same old mid) where
  -- what is torn after a gate is torn in its slot
  behind : (a b : List ℕ) → AgreesOutside (place + 1) (12 + length value) a b → AgreesOutside place (13 + length value) a b
  behind a b agrees = agrees_wider (place + 1) (12 + length value) place (13 + length value) a b (omega arith) (omega arith) agrees

  -- and so is what is torn of its gate
  here : (a b : List ℕ) → AgreesOutside place 1 a b → AgreesOutside place (13 + length value) a b
  here a b agrees = agrees_wider place 1 place (13 + length value) a b (omega arith) (omega arith) agrees

  -- while a slot is filled after its closed gate
  pub leaves_filling : old.tells_moments → IsSettled old → place < length (old.reads Objects) → IsClosedAt place (old.reads Objects) → LeavesOnly old mid (IsHalfPut old place lsn value)
  leaves_filling told settled within closed = first_call old mid (IsHalfPut old place lsn value) told first.time (λ c s left.
      let from = from_reads old mid (In Objects (Torn (place + 1) (12 + length value))) Same told settled first.crash c s left in
      let agrees = torn_agrees (place + 1) (12 + length value) (old.reads Objects) (c Objects) from.0.changed in
      record {
        agrees = behind (old.reads Objects) (c Objects) agrees;
        slot = inl (λ is_open. closed (sym (agrees.before place within (omega arith)) ∙ is_open));
        other_files = from.0.others;
        silent = from.1;
      })

  -- while its gate is opened
  pub leaves_opening : (new : Disk) → old.tells_moments → IsSettled old → place < length (old.reads Objects) → IsClosedAt place (old.reads Objects) → IsSettled mid → IsFilled place lsn value (mid.reads Objects)
      → Runs (In Objects (Torn place 1)) Same mid new → LeavesOnly old new (IsHalfPut old place lsn value)
  leaves_opening new told settled within closed settled_mid filled second =
      let told_mid = first.time.moments_told.0 told in
      let files_told = first.begins.telling told in
      goes_on old mid new (IsHalfPut old place lsn value) told_mid (leaves_filling told settled within closed) second.time (λ c s left.
      let from = from_reads mid new (In Objects (Torn place 1)) Same told_mid settled_mid second.crash c s left in
      let agrees = torn_agrees place 1 (mid.reads Objects) (c Objects) from.0.changed in
      record {
        agrees = agrees_twice place (13 + length value) (old.reads Objects) (mid.reads Objects) (c Objects)
            (behind (old.reads Objects) (mid.reads Objects) (torn_agrees (place + 1) (12 + length value) (old.reads Objects) (mid.reads Objects) (first.reads files_told).changed))
            (here (mid.reads Objects) (c Objects) agrees);
        slot = inr (filled_stays place lsn value (mid.reads Objects) (c Objects) agrees filled);
        other_files = λ other is_other. from.0.others other is_other ∙ (first.reads files_told).others other is_other;
        silent = from.1 ∙ first.said files_told;
      })

  -- once it is open
  pub put_done : (new : Disk) → old.tells_files → IsFilled place lsn value (mid.reads Objects) → Runs (In Objects (Torn place 1)) Same mid new → HoldsAt place (1 ∷ []) (mid.reads Objects) (new.reads Objects)
      → IsPut place lsn value (old.reads Objects) (new.reads Objects)
  put_done new told filled second holds =
      let agrees = torn_agrees place 1 (mid.reads Objects) (new.reads Objects) (second.reads (first.time.files_told.0 told)).changed in
      record {
        agrees = agrees_twice place (13 + length value) (old.reads Objects) (mid.reads Objects) (new.reads Objects)
            (behind (old.reads Objects) (mid.reads Objects) (torn_agrees (place + 1) (12 + length value) (old.reads Objects) (mid.reads Objects) (first.reads told).changed))
            (here (mid.reads Objects) (new.reads Objects) agrees);
        opened = ap (λ (l : List ℕ). byte_at place l) holds ∙ byte_written place 1 (mid.reads Objects);
        filled = filled_stays place lsn value (mid.reads Objects) (new.reads Objects) agrees filled;
      }

-- the gate alone was written, or the head after it, or all of a first pair
module _ (old first mid : Disk) (place : ℕ) (head value : List ℕ) (long : length head ≡ 12) (one : Runs (In Objects (Torn place 1)) Same old first) where
  pub gate_run : Runs (In Objects (Torn place (13 + length value))) Same old first
  gate_run = runs_wider old first (In Objects (Torn place 1)) (In Objects (Torn place (13 + length value)))
      (λ a b is. record { changed = torn_wider place 1 (13 + length value) (a Objects) (b Objects) (omega arith) is.changed; others = is.others }) one

  joined : (new : Disk) → Runs (In Objects (Torn (place + 1) (12 + length value))) Same first new → Runs (In Objects (Torn place (13 + length value))) Same old new
  joined new two = run_apart old first new Objects place 1 1 (12 + length value) (13 + length value) (omega arith) (omega arith) one two

  pub front_run : Runs (In Objects (Torn (place + 1) (length head))) Same first mid → Runs (In Objects (Torn place (13 + length value))) Same old mid
  front_run two = joined mid (head_run first mid place head value long two)

  pub pair_run : (new : Disk) → Runs (In Objects (Torn (place + 1) (length head))) Same first mid → Runs (In Objects (Torn (place + 13) (length value))) Same mid new → Runs (In Objects (Torn place (13 + length value))) Same old new
  pair_run new two three = joined new (fill_run first mid new place head value long two three)

-- a pair is put where its gate, its head and its value were written
pub first_put : (place lsn : ℕ) (value file first mid new : List ℕ) → lsn < 2 ^ 64 → length value < 2 ^ 32 → HoldsAt place (1 ∷ []) file first → HoldsAt (place + 1) (little_bytes 8 lsn ++ little_bytes 4 (length value)) first mid
    → HoldsAt (place + 13) value mid new → IsPut place lsn value file new
first_put place lsn value file first mid new small short one two three =
    let head = little_bytes 8 lsn ++ little_bytes 4 (length value) in
    let head_long : length head ≡ 12 = omega (arith, length-append (little_bytes 8 lsn) (little_bytes 4 (length value)), length-little_bytes 8 lsn, length-little_bytes 4 (length value)) in
    let gate = held_agrees place (1 ∷ []) file first one in
    let front = held_agrees (place + 1) head first mid two in
    let rest = held_agrees (place + 13) value mid new three in
    let reach : place < length first = omega (arith, ap length one, written_long place (1 ∷ []) file) in
    record {
      agrees = agrees_twice place (13 + length value) file mid new
          (agrees_twice place (13 + length value) file first mid
          (agrees_wider place 1 place (13 + length value) file first (omega arith) (omega arith) gate)
          (agrees_wider (place + 1) (length head) place (13 + length value) first mid (omega arith) (omega (arith, head_long)) front))
          (agrees_wider (place + 13) (length value) place (13 + length value) mid new (omega arith) (omega arith) rest);
      opened = rest.before place (omega (arith, reach, front.no_shorter)) (omega arith) ∙ front.before place reach (omega arith) ∙ ap (λ (l : List ℕ). byte_at place l) one ∙ byte_written place 1 file;
      filled = filled_by place lsn value first mid new small short two three;
    }
