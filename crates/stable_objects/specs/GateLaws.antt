-- Laws of the objects gate: what leaves it as it is, and where no store begins.
use Rattle.std.proofs.Common.{◌≡◌, inl, inr, ◌≤◌, ℕ, List, [], ◌∷◌, length, length-take, get_or, take, drop, min, sym, ◌∙◌, ap, subst, arith}
use Rattle.std.specs.Prelude.{codes}
use Rattle.std.proofs.lemmas.Bool.{cases_eq}
use Rattle.std.proofs.lemmas.List.{get_or-take}
use Rattle.disk_model.specs.Disk.{Disk, Runs, Same, In, Torn}
use Rattle.disk_model.specs.Moments.{runs_twice, runs_wider}
use Rattle.disk_model.specs.declared.machine.FileNo.TheVariants.{Objects}
use Rattle.formats.specs.Bytes.{IsClosedAt}
use Rattle.formats.specs.Objects.{BeginsStore}
use Rattle.stable_objects.specs.Making.{KeepsGate, IsClosedFile}

-- a write after the gate keeps it
pub torn_keeps : (at n : ℕ) (old new : List ℕ) → 1 ≤ at → Torn at n old new → KeepsGate old new
torn_keeps at n old new le torn some = (
  omega (arith, torn.no_shorter, some),
  sym (get_or-take (min at (length old)) new 0 0 (omega (arith, some))) ∙ ap (λ (l : List ℕ). get_or l 0 0) torn.before ∙ get_or-take at old 0 0 le,
)

pub keeps_twice : (a b c : List ℕ) → KeepsGate a b → KeepsGate b c → KeepsGate a c
keeps_twice a b c first second some = let then = first some in let after = second then.0 in (after.0, after.1 ∙ then.1)

-- one write after the gate
pub torn_run : (old new : Disk) (at n : ℕ) → 1 ≤ at → Runs (In Objects (Torn at n)) Same old new → Runs (In Objects KeepsGate) Same old new
torn_run old new at n le run = runs_wider old new (In Objects (Torn at n)) (In Objects KeepsGate) (λ a b is. record { changed = torn_keeps at n (a Objects) (b Objects) le is.changed; others = is.others }) run

-- both together
pub keeps_join : (old mid new : Disk) → Runs (In Objects KeepsGate) Same old mid → Runs (In Objects KeepsGate) Same mid new → Runs (In Objects KeepsGate) Same old new
keeps_join old mid new one two = runs_twice old mid new (In Objects KeepsGate)
    (λ a b c x y. record {
      changed = keeps_twice (a Objects) (b Objects) (c Objects) x.changed y.changed;
      others = λ other is_other. y.others other is_other ∙ x.others other is_other;
    })
    one two

-- a closed gate stays closed
pub kept_closed : (old new : List ℕ) → KeepsGate old new → IsClosedFile old → IsClosedFile new
kept_closed old new keeps closed =
    let kept = keeps closed.some in
    record { some = kept.0; closed = λ is_open. closed.closed (sym kept.1 ∙ is_open) }

-- no store begins after a closed gate
pub closed_begins : (file : List ℕ) → IsClosedAt 0 file → BeginsStore file → ⊥
closed_begins file closed begins = closed (sym (get_or-take 8 file 0 0 (omega arith)) ∙ ap (λ (l : List ℕ). get_or l 0 0) begins)

-- nor does one while the gate is closed
pub torn_begins : (file new : List ℕ) → (BeginsStore file → ⊥) → (IsClosedFile file → new ≡ file) → Torn 0 1 file new → BeginsStore new → ⊥
torn_begins [] new none idle torn begins =
    let long = torn.no_longer in
    let eight : length (take 8 new) ≡ 8 = ap (λ (l : List ℕ). length l) begins in
    absurd (omega (arith, long, eight, length-take 8 new))
torn_begins (gate ∷ rest) [] none idle torn begins = cc
torn_begins (gate ∷ rest) (gate' ∷ rest') none idle torn begins =
    elim (cases_eq gate 1) [
      | inl is_open ↦
          let behind : take 7 rest' ≡ codes "RDOOBJ0" = ap (λ (l : List ℕ). drop 1 l) begins in
          let same : rest' ≡ rest = torn.after in
          none (ap (λ (g : ℕ). g ∷ take 7 rest) is_open ∙ ap (λ (l : List ℕ). 1 ∷ l) (ap (λ (l : List ℕ). take 7 l) (sym same) ∙ behind))
      | inr closed ↦ none (subst (λ (l : List ℕ). BeginsStore l) (idle (record { some = omega arith; closed = closed })) begins)
    ]
