-- Files of which the objects file alone changed stand for what they stood for.
use Rattle.std.proofs.Common.{◌≡◌, ◌≢◌, ◌<◌, ◌≤◌, inl, inr, ℕ, List, [], refl, sym, ◌∙◌, subst, arith}
use Rattle.std.specs.Prelude.{nat_lt}
use Rattle.std.proofs.lemmas.Bool.{cases_lt, cond-true, cond-false, lt-ltb, le-ltb}
use Rattle.disk_model.specs.Disk.{Files, OthersStay}
use Rattle.disk_model.specs.declared.machine.FileNo.{FileNo}
use Rattle.disk_model.specs.declared.machine.FileNo.TheVariants.{Objects, LogA, LogB}
use Rattle.oper_core.specs.Cell.{Cell}
use Rattle.oper_core.specs.Meaning.{Meaning, AreWithin, HasBounds, Widens}
use Rattle.oper_core.specs.declared.bounds.Bounds.{Bounds}
use Rattle.formats.specs.InForce.{IsPassive, other_of}
use Rattle.formats.specs.Log.{Header}
use Rattle.formats.specs.Objects.{IsObjectsFile, bounds_of, cell_of}
use Rattle.formats.specs.Records.{HoldsRecordLog, IsRecordLog}
use Rattle.formats.specs.declared.params.Params.{Params}
use Rattle.formats.specs.declared.record.Record.{Record}
use Rattle.explain_core.specs.Stable.{Stable}
use Rattle.stable_objects.specs.Upgrades.Growing.{IsGrown}
use Rattle.stable_objects.specs.Upgrades.Larger.{IsLarger}
use Rattle.standing.specs.Standing.{HoldsStable, StandsFor, stored}
use Rattle.standing.proofs.WiderLog.{log_wider}

-- no pair
abbrev none : Cell
none = record { lsn = 0; value = [] }

-- the other log is no objects file
other_log : (active : FileNo) → active ≢ Objects → other_of active ≢ Objects
other_log LogA is_log = λ same. cc
other_log LogB is_log = λ same. cc
other_log Objects is_log = absurd (is_log refl)

-- the logs of files that differ in the objects file alone
module _ {O : Type 0} (m : Meaning O) (old new : Files) (others : OthersStay Objects old new) (active : FileNo) (header : Header) (groups : List (List (Record O))) (log : HoldsRecordLog m active header groups old) where
  log_stays : HoldsRecordLog m active header groups new
  log_stays =
      let a_log = log.in_force.a_log in
      record {
        in_force = record { a_log = a_log; other = subst (λ (l : List ℕ). IsPassive header.epoch l) (sym (others (other_of active) (other_log active a_log))) log.in_force.other };
        log = subst (λ (l : List ℕ). IsRecordLog m header groups l) (sym (others active a_log)) log.log;
      }

  log_stays_wider : (wide : Meaning O) → Widens m wide → m.objects ≤ wide.objects → m.cap ≤ wide.cap → HoldsRecordLog wide active header groups new
  log_stays_wider wide widens objects cap = record { in_force = log_stays.in_force; log = log_wider m wide widens objects cap header groups (new active) log_stays.log }

-- the laws of an operation type, and of standing files
abbrev AreWidened : {O : Type 0} → (Bounds → Meaning O) → Type 0
AreWidened meaning = (b c : Bounds) → AreWithin b c → Widens (meaning b) (meaning c)

abbrev AreBounded : {O : Type 0} → (Bounds → Meaning O) → Type 0
AreBounded meaning = (b : Bounds) → HasBounds b (meaning b)

abbrev StandAlike : {O : Type 0} → (Bounds → Meaning O) → Type 0
StandAlike {O} meaning = (p q : Params) (files others : Files) (parts : Stable O) (commands : List O) → AreWithin (bounds_of p) (bounds_of q) → HoldsStable (meaning (bounds_of p)) p files parts → HoldsStable (meaning (bounds_of q)) q others parts
    → StandsFor meaning p files commands → StandsFor meaning q others commands

module _ {O : Type 0} (meaning : Bounds → Meaning O) (alike : StandAlike meaning) (p : Params) (commands : List O) (old new : Files) (others : OthersStay Objects old new) (stands : StandsFor meaning p old commands) where
  -- the store as it was
  pub stands_still : IsObjectsFile p (new Objects) → ((x : ℕ) → x < p.objects → cell_of x (new Objects) ≡ cell_of x (old Objects)) → StandsFor meaning p new commands
  stands_still objects cells =
      let was = stands.holds in
      let stored_same : (x : ℕ) → stored p (new Objects) x ≡ stored p (old Objects) x = λ x. elim (cases_lt x p.objects) [
        | inl below ↦
            cond-true (nat_lt x p.objects) (cell_of x (new Objects)) none (lt-ltb x p.objects below) ∙ cells x below ∙ sym (cond-true (nat_lt x p.objects) (cell_of x (old Objects)) none (lt-ltb x p.objects below))
        | inr past ↦
            cond-false (nat_lt x p.objects) (cell_of x (new Objects)) none (le-ltb x p.objects past) ∙ sym (cond-false (nat_lt x p.objects) (cell_of x (old Objects)) none (le-ltb x p.objects past))
      ] in
      alike p p old new stands.parts commands (record { objects = omega arith; cap = omega arith; more = λ set. set }) was (record {
        objects = objects;
        cells = λ x. stored_same x ∙ was.cells x;
        active = was.active;
        header = was.header;
        groups = was.groups;
        log = log_stays (meaning (bounds_of p)) old new others was.active was.header was.groups was.log;
        base = was.base;
        commands_before = was.commands_before;
        members = was.members;
        tables = was.tables;
      }) stands

  -- the larger one
  pub stands_grown : AreWidened meaning → AreBounded meaning → (q : Params) → IsLarger p q → IsGrown p q (old Objects) (new Objects) → StandsFor meaning q new commands
  stands_grown widened bounded q larger grown =
      let within : AreWithin (bounds_of p) (bounds_of q) = record { objects = larger.objects; cap = larger.cap; more = larger.more } in
      let was = stands.holds in
      let m = meaning (bounds_of p) in
      let wide = meaning (bounds_of q) in
      let low = bounded (bounds_of p) in
      let high = bounded (bounds_of q) in
      let stored_same : (x : ℕ) → stored q (new Objects) x ≡ stored p (old Objects) x = λ x. elim (cases_lt x q.objects) [
        | inl below ↦ cond-true (nat_lt x q.objects) (cell_of x (new Objects)) none (lt-ltb x q.objects below) ∙ grown.cells x below
        | inr past ↦
            cond-false (nat_lt x q.objects) (cell_of x (new Objects)) none (le-ltb x q.objects past)
            ∙ sym (cond-false (nat_lt x p.objects) (cell_of x (old Objects)) none (le-ltb x p.objects (omega (arith, past, larger.objects))))
      ] in
      alike p q old new stands.parts commands within was (record {
        objects = grown.whole;
        cells = λ x. stored_same x ∙ was.cells x;
        active = was.active;
        header = was.header;
        groups = was.groups;
        log = log_stays_wider m old new others was.active was.header was.groups was.log wide (widened (bounds_of p) (bounds_of q) within) (omega (arith, low.objects, high.objects, larger.objects)) (omega (arith, low.cap, high.cap, larger.cap));
        base = was.base;
        commands_before = was.commands_before;
        members = was.members;
        tables = was.tables;
      }) stands
