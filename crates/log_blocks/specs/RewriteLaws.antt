-- What a file that is written anew is, as its header gate is opened, and which log is in force then.
use Rattle.std.proofs.Common.{◌≡◌, ◌≢◌, ◌⊎◌, ◌<◌, ◌+◌, ◌-◌, inl, inr, ℕ, List, [], ◌∷◌, ◌++◌, length, get_or, take, drop, replicate, refl, sym, ◌∙◌, ap, subst, arith}
use Rattle.std.specs.Prelude.{All}
use Rattle.std.proofs.lemmas.Bool.{cases_eq}
use Rattle.disk_model.specs.Disk.{Files, Disk, In, Torn, HoldsAt, Any, Runs, Same, Stays}
use Rattle.disk_model.specs.Moments.{runs_twice, runs_wider}
use Rattle.disk_model.specs.declared.machine.FileNo.{FileNo}
use Rattle.disk_model.specs.declared.machine.FileNo.TheVariants.{Objects, LogA, LogB}
use Rattle.formats.specs.Log.{Header, IsHeader, IsPayload, IsWholeLog, IsClosedLog}
use Rattle.formats.specs.InForce.{other_of, HasHeader, IsPassive, IsInForce}
use Rattle.log_blocks.specs.LogView.{LogView}
use Rattle.log_blocks.specs.Laws.{has_header}
use Rattle.log_blocks.specs.Rewriting.{KeepsClosed, IsPrepared, IsPassiveOrNew, next_header, rewritten, IsOldOrNew}

-- a run that changes one file alone, and keeps its header gate closed
pub keeps_none : (file : FileNo) (a : Files) → In file KeepsClosed a a
keeps_none file a = record { changed = λ closed. closed; others = λ other is_other. refl }

pub keeps_twice : (old mid new : Disk) (file : FileNo) → Runs (In file KeepsClosed) Same old mid → Runs (In file KeepsClosed) Same mid new → Runs (In file KeepsClosed) Same old new
keeps_twice old mid new file first second = runs_twice old mid new (In file KeepsClosed)
    (λ a b c x y. record { changed = λ closed. y.changed (x.changed closed); others = λ other is_other. y.others other is_other ∙ x.others other is_other })
    first second

-- one that changes nothing
pub keeps_still : (old new : Disk) (file : FileNo) → Stays old new → Runs (In file KeepsClosed) Same old new
keeps_still old new file stays = runs_wider old new Same (In file KeepsClosed) (λ a b same. subst (λ (f : Files). In file KeepsClosed a f) (sym same) (keeps_none file a)) stays

-- a byte written over the first
pub held_first : (b : ℕ) (old new : List ℕ) → HoldsAt 0 (b ∷ []) old new → new ≡ b ∷ drop 1 old
held_first b old new holds =
    let none : 0 - length old ≡ 0 = omega arith in
    holds ∙ ap (λ (k : ℕ). ((take 0 old ++ replicate {A = ℕ} k 0) ++ b ∷ []) ++ drop 1 old) none

torn_first : (old new : List ℕ) → 0 < length old → Torn 0 1 old new → new ≡ get_or new 0 0 ∷ drop 1 old
torn_first old [] some torn = absurd (omega (arith, torn.no_shorter))
torn_first old (b ∷ new) some torn = ap (λ (l : List ℕ). b ∷ l) torn.after

is_closed_log : (b : ℕ) (tail new : List ℕ) → new ≡ b ∷ tail → b ≢ 1 → IsClosedLog new
is_closed_log b tail new is closed = subst IsClosedLog (sym is) closed

whole_by : (h : Header) (ps : List (List ℕ)) (old new : List ℕ) → IsHeader h → All IsPayload ps → IsPrepared h ps old → new ≡ 1 ∷ drop 1 old → IsWholeLog h ps new
whole_by h ps old new in_range whole prepared is = record {
  in_range = in_range;
  log = record { gate = 0; rest = prepared.rest; split = is ∙ ap (λ (l : List ℕ). 1 ∷ drop 1 l) prepared.split; closed = omega arith };
  whole = whole;
}

-- with the header gate open, the whole log
pub opened_whole : (h : Header) (ps : List (List ℕ)) (old new : List ℕ) → IsHeader h → All IsPayload ps → IsPrepared h ps old → HoldsAt 0 (1 ∷ []) old new → IsWholeLog h ps new
opened_whole h ps old new in_range whole prepared holds = whole_by h ps old new in_range whole prepared (held_first 1 old new holds)

-- whatever the gate is
pub passive_or_whole : (epoch : ℕ) (h : Header) (ps : List (List ℕ)) (old new : List ℕ) → IsHeader h → All IsPayload ps → IsPrepared h ps old → Torn 0 1 old new → IsPassive epoch new ⊎ IsWholeLog h ps new
passive_or_whole epoch h ps old new in_range whole prepared torn =
    let is = torn_first old new (omega (arith, ap length prepared.split)) torn in
    elim (cases_eq (get_or new 0 0) 1) [
      | inl open_gate ↦ inr (whole_by h ps old new in_range whole prepared (is ∙ ap (λ (b : ℕ). b ∷ drop 1 old) open_gate))
      | inr closed ↦ inl (inl (is_closed_log (get_or new 0 0) (drop 1 old) new is closed))
    ]

-- an open log with a smaller epoch stays passive while its gate is closed
pub closing_passive : (epoch : ℕ) (h : Header) (old new : List ℕ) → HasHeader h old → h.epoch < epoch → Torn 0 1 old new → IsPassive epoch new
closing_passive epoch h old new has less torn =
    let is = torn_first old new (omega (arith, ap length has.split)) torn in
    elim (cases_eq (get_or new 0 0) 1) [
      | inl open_gate ↦ inr (h, record { in_range = has.in_range; gate = has.gate; rest = has.rest; split = is ∙ ap (λ (b : ℕ). b ∷ drop 1 old) open_gate ∙ ap (λ (l : List ℕ). 1 ∷ drop 1 l) has.split }, less)
      | inr closed ↦ inl (is_closed_log (get_or new 0 0) (drop 1 old) new is closed)
    ]

-- the other of two logs
pub other_apart : (active : FileNo) → active ≢ Objects → active ≢ other_of active
other_apart Objects is same = is same
other_apart LogA is same = cc
other_apart LogB is same = cc

pub other_is_log : (active : FileNo) → active ≢ Objects → other_of active ≢ Objects
other_is_log Objects is same = is same
other_is_log LogA is same = cc
other_is_log LogB is same = cc

pub other_back : (active : FileNo) → other_of (other_of active) ≡ active
other_back Objects = refl
other_back LogA = refl
other_back LogB = refl

module _ (old : Disk) (log : LogView) (held : List (List ℕ)) (base commands : ℕ) (ps : List (List ℕ)) (whole : IsWholeLog log.header held (old.reads log.active)) (is_log : log.active ≢ Objects) where
  abbrev new_log : LogView
  new_log = rewritten log base commands ps

  active_stays : (files : Files) → In (other_of log.active) Any old.reads files → files log.active ≡ old.reads log.active
  active_stays files others = others.others log.active (other_apart log.active is_log)

  -- with the new log whole, it is in force
  pub new_in_force : (files : Files) → In (other_of log.active) Any old.reads files → IsInForce new_log.active new_log.header.epoch files
  new_in_force files others = record {
    a_log = other_is_log log.active is_log;
    other = subst (λ (f : FileNo). IsPassive (log.header.epoch + 1) (files f)) (sym (other_back log.active))
        (inr (log.header, subst (HasHeader log.header) (sym (active_stays files others)) (has_header log.header held (old.reads log.active) whole), omega arith));
  }

  pub old_or_new : (files : Files) (said : List ℕ) → IsPassiveOrNew old (other_of log.active) log.header.epoch (next_header log base commands) ps files said → IsOldOrNew old log held new_log ps files said
  old_or_new files said is =
      let others : In (other_of log.active) Any old.reads files = record { changed = tt; others = is.each_file.others } in
      record {
        others = others;
        in_force = elim is.each_file.changed [
          | inl passive ↦ inl (record {
            in_force = record { a_log = is_log; other = passive };
            log = subst (IsWholeLog log.header held) (sym (active_stays files others)) whole;
          })
          | inr made ↦ inr (record { in_force = new_in_force files others; log = made })
        ];
        nothing_said = is.nothing_said;
      }
