-- Where no slot is late, all of them are below the next LSN.
use Rattle.std.proofs.Common.{ℕ, ◌<◌, Bool, true, false, arith, inl, inr}
use Rattle.std.specs.Prelude.{if◌then◌else◌, nat_lt}
use Rattle.std.proofs.lemmas.Bool.{cases_lt}
use Rattle.stable_objects.specs.SlotsView.{IsLate, head, holder_in}
use Rattle.running_store.specs.Laid.Flushed.{AreEarly}
use Rattle.running_store.specs.Laid.{Laid}

first_or_second : (b : Bool) → (if b then 1 else 0) < 2
first_or_second true = omega arith
first_or_second false = omega arith

-- what `first_late` finds out where it answers none
pub none_late : (next : ℕ) (objects : Laid) → 0 < next → ((x s : ℕ) → IsLate objects.slots next x s → ⊥) → AreEarly next objects
none_late next objects some none x below =
    let s = holder_in objects.slots x in
    elim (cases_lt (head objects.slots x s) next) [
      | inl low ↦ low
      | inr high ↦ absurd (none x s (omega (arith, some, high), below, first_or_second (nat_lt (head objects.slots x 0) (head objects.slots x 1)), high))
    ]
