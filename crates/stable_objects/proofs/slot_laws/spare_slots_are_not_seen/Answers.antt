use Rattle.std.proofs.Common.{inl, inr}
use Rattle.stable_objects.specs.Spares.{IsSpareByte, IsSpareGate}
use Rattle.stable_objects.proofs.Spares.{still_are, unseen}
use Rattle.stable_objects.proofs.slot_laws.spare_slots_are_not_seen.Goals as goal

pub returns-clause-gates : goal.returns-clause-gates
returns-clause-gates c slots old new are keeps = unseen slots (IsSpareGate slots) (λ j gate. inl gate) old new are keeps

pub returns-clause-spares : goal.returns-clause-spares
returns-clause-spares c slots old new are keeps =
    (still_are slots (IsSpareByte slots) (λ j byte. inr byte) old new are keeps (λ j byte. byte), unseen slots (IsSpareByte slots) (λ j byte. inr byte) old new are keeps)
