-- Spare slots are closed and filled one after the other.
use Rattle.std.proofs.Common.{◌≡◌, inl, inr, ◌<◌, ℕ, List, length, refl, sym, ◌∙◌, ap, subst, arith}
use Rattle.disk_model.specs.Disk.{Disk, In, IsSettled, IsSettledIn, LeavesOnly, Runs, Same, Stays}
use Rattle.disk_model.specs.Moments.{first_call, from_reads, runs_on, runs_then_stays, runs_twice, runs_wider, settled_again, weaker}
use Rattle.disk_model.specs.declared.machine.FileNo.TheVariants.{Objects}
use Rattle.formats.specs.Objects.{last_slot, slot_place}
use Rattle.formats.specs.declared.layout.Layout.{Layout}
use Rattle.formats.specs.declared.params.Params.{Params}
use Rattle.stable_objects.specs.Replacing.{spare_in}
use Rattle.stable_objects.specs.Spares.{IsClosing, IsSpareByte, IsSpareGate, IsUnseen, IsUnseenSince, KeepsBut, KeepsButGates, KeepsButSpares, spare_place}
use Rattle.stable_objects.specs.SlotsView.{SlotsView, layout_of, place_of}

-- nothing is written
pub keeps_none : (layout : Layout) (free : ℕ → Type 0) (file : List ℕ) → KeepsBut layout free file file
keeps_none layout free file = record { no_shorter = omega arith; same = λ reach j none. refl }

-- one write, and another
pub keeps_twice : (layout : Layout) (free : ℕ → Type 0) (a b c : List ℕ) → KeepsBut layout free a b → KeepsBut layout free b c → KeepsBut layout free a c
keeps_twice layout free a b c first second = record {
  no_shorter = omega (arith, first.no_shorter, second.no_shorter);
  same = λ reach j none. second.same (omega (arith, reach, first.no_shorter)) j none ∙ first.same reach j none;
}

-- no slot is closed
pub closing_none : (slots : SlotsView) → IsClosing slots slots
closing_none slots = record { layout = refl; lsns_kept = λ x. refl; lengths = refl; spares = λ x. refl; spare_lsns = λ x. inl refl }

-- some are, and then others
pub closing_twice : (a b c : SlotsView) → IsClosing a b → IsClosing b c → IsClosing a c
closing_twice a b c first second = record {
  layout = second.layout ∙ first.layout;
  lsns_kept = λ x. second.lsns_kept x ∙ first.lsns_kept x;
  lengths = second.lengths ∙ first.lengths;
  spares = λ x. second.spares x ∙ first.spares x;
  spare_lsns = λ x. elim (second.spare_lsns x) [
    | inr none ↦ inr none
    | inl same ↦ elim (first.spare_lsns x) [ inl was ↦ inl (same ∙ was) | inr none ↦ inr (same ∙ none) ]
  ];
}

-- a gate that is open after some slots were closed was open before
pub gates_before : (before after : SlotsView) (old new : List ℕ) → IsClosing before after → KeepsButGates after old new → KeepsButGates before old new
gates_before before after old new closing keeps =
    let was : (j : ℕ) → IsSpareGate after j → IsSpareGate before j = λ j gate.
    let x = gate.object in
    let here : spare_place after x ≡ spare_place before x = ap (λ (s : ℕ). place_of after x s) (closing.spares x) ∙ ap (λ (l : Layout). slot_place l x (spare_in before x)) closing.layout in
    record {
      object = x;
      below = omega (arith, gate.below, ap (λ (l : Layout). l.params.objects) closing.layout);
      is_open = λ none. elim (closing.spare_lsns x) [ inl same ↦ gate.is_open (same ∙ none) | inr closed ↦ gate.is_open closed ];
      here = gate.here ∙ here;
    } in
    record {
      no_shorter = keeps.no_shorter;
      same = λ reach j none. keeps.same (subst (λ (l : Layout). last_slot l < length old) (sym closing.layout) reach) j (λ gate. none (was j gate));
    }

-- a sync after writes of one file settles all again
pub sync_settles : (old mid new : Disk) (change : List ℕ → List ℕ → Type 0) → IsSettled old → Runs (In Objects change) Same old mid → Stays mid new → IsSettledIn Objects new → IsSettled new
sync_settles old mid new change settled first second here =
    let run = runs_then_stays old mid new (In Objects change) first second in
    settled_again old new Objects change change run.ends settled run.time run.crash (λ told. run.reads (run.begins.telling told)) here

-- calls of one kind, one after the other
keeps_runs : (layout : Layout) (free : ℕ → Type 0) (old mid new : Disk) → Runs (In Objects (KeepsBut layout free)) Same old mid → Runs (In Objects (KeepsBut layout free)) Same mid new → Runs (In Objects (KeepsBut layout free)) Same old new
keeps_runs layout free old mid new first second = runs_twice old mid new (In Objects (KeepsBut layout free))
    (λ a b c x y. record { changed = keeps_twice layout free (a Objects) (b Objects) (c Objects) x.changed y.changed; others = λ other is_other. y.others other is_other ∙ x.others other is_other })
    first second

-- spare slots are closed, and then others
pub gates_run : (before here : SlotsView) (old mid new : Disk) → IsClosing before here → Runs (In Objects (KeepsButGates before)) Same old mid → Runs (In Objects (KeepsButGates here)) Same mid new → Runs (In Objects (KeepsButGates before)) Same old new
gates_run before here old mid new closing first second = keeps_runs (layout_of before) (IsSpareGate before) old mid new first
    (runs_wider mid new (In Objects (KeepsButGates here)) (In Objects (KeepsButGates before)) (λ a b is. record { changed = gates_before before here (a Objects) (b Objects) closing is.changed; others = is.others }) second)

-- one is filled, and another
pub spares_run : (slots : SlotsView) (old mid new : Disk) → Runs (In Objects (KeepsButSpares slots)) Same old mid → Runs (In Objects (KeepsButSpares slots)) Same mid new → Runs (In Objects (KeepsButSpares slots)) Same old new
spares_run slots old mid new first second = keeps_runs (layout_of slots) (IsSpareByte slots) old mid new first second

pub unseen_twice : (p : Params) (a b c : List ℕ) → IsUnseen p a b → IsUnseen p b c → IsUnseen p a c
unseen_twice p a b c first second = record { whole = second.whole; cells = λ x below. second.cells x below ∙ first.cells x below }

-- changes that are not seen, from a settled machine
pub unseen_moments : (p : Params) (change : List ℕ → List ℕ → Type 0) (old new : Disk) → ((file : List ℕ) → change (old.reads Objects) file → IsUnseen p (old.reads Objects) file) → old.tells_moments → IsSettled old
    → Runs (In Objects change) Same old new → LeavesOnly old new (IsUnseenSince old p)
unseen_moments p change old new unseen told settled run = first_call old new (IsUnseenSince old p) told run.time (λ files said left.
    let from = from_reads old new (In Objects change) Same told settled run.crash files said left in
    record { unseen = unseen (files Objects) from.0.changed; other_files = from.0.others; silent = from.1 })

-- and others after them
pub unseen_on : (p : Params) (old mid new : Disk) → IsUnseenSince old p mid.reads mid.said → LeavesOnly old mid (IsUnseenSince old p) → LeavesOnly mid new (IsUnseenSince mid p) → LeavesOnly old new (IsUnseenSince old p)
unseen_on p old mid new here first second = runs_on old mid new (IsUnseenSince old p) first (weaker mid new (IsUnseenSince mid p) (IsUnseenSince old p) second (λ files said is. record {
  unseen = unseen_twice p (old.reads Objects) (mid.reads Objects) (files Objects) here.unseen is.unseen;
  other_files = λ other is_other. is.other_files other is_other ∙ here.other_files other is_other;
  silent = is.silent ∙ here.silent;
}))
