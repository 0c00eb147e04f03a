use Rattle.std.proofs.Common.{◌≡◌, ◌⊎◌, inl, inr, ℕ, List, [], ◌∷◌, length, get_or, take, sym, ap, ◌∙◌, arith}
use Rattle.std.proofs.lemmas.List.{get_or-take}
use Rattle.disk_model.specs.CallLaws.{torn_none}
use Rattle.disk_model.specs.Disk.{Torn, read_of}
use Rattle.disk_model.specs.Moments.{told_agrees}
use Rattle.disk_model.specs.declared.machine.FileNo.TheVariants.{Objects}
use Rattle.stable_objects.specs.Making.{IsClosedFile}
use Rattle.stable_objects.proofs.Made.{all_stay_settled, closed_after}
use Rattle.stable_objects.proofs.Put.{look_first}
use Rattle.stable_objects.proofs.slots.Slots.close.Goals as goal
use Rattle.stable_objects.proofs.slots.Slots.close.Goals.{then-read-eq0-via-then-read-eq0, then-read-eq0-via-else-read-eq0+then-gate-eq-OPEN}

-- what is read of a file whose gate is closed is not empty, and no open gate
look_at_closed : (file into : List ℕ) (n : ℕ) → n ≡ length (read_of file 0 1) → take n into ≡ read_of file 0 1 → IsClosedFile file → (n ≡ 0) ⊎ (get_or into 0 0 ≡ 1) → ⊥
look_at_closed [] into n count bytes is either = omega (arith, is.some)
look_at_closed (g ∷ rest) into n count bytes is (inl none) = omega (arith, count, none)
look_at_closed (g ∷ rest) into n count bytes is (inr is_open) =
    let same : get_or into 0 0 ≡ g = sym (get_or-take n into 0 0 (omega (arith, count))) ∙ ap (λ (l : List ℕ). get_or l 0 0) bytes in
    is.closed (sym same ∙ is_open)

pub returns-in_err-write_through-clause-runs : goal.returns-in_err-write_through-clause-runs
returns-in_err-write_through-clause-runs g c = look_first (Torn 0 1) (torn_none 0 1) _ _ _ c.read.ensures.kept c.write_through.ensures.runs

pub returns-in_ok-write_through-clause-runs : goal.returns-in_ok-write_through-clause-runs
returns-in_ok-write_through-clause-runs g c = look_first (Torn 0 1) (torn_none 0 1) _ _ _ c.read.ensures.kept c.write_through.ensures.runs

pub returns-in_ok-write_through-clause-closed : goal.returns-in_ok-write_through-clause-closed
returns-in_ok-write_through-clause-closed g c told = closed_after _ _ (c.in_ok-write_through.ensures.written (c.read.ensures.kept.time.files_told.0 told)).changed

pub returns-in_ok-write_through-clause-settled : goal.returns-in_ok-write_through-clause-settled
returns-in_ok-write_through-clause-settled g c settled = c.in_ok-write_through.ensures.settled (all_stay_settled _ _ c.read.ensures.kept settled)

pub returns-in_ok-write_through-clause-idle : goal.returns-in_ok-write_through-clause-idle
returns-in_ok-write_through-clause-idle g c told closed =
    let agree = told_agrees c.read.ensures.kept told in
    absurd (look_at_closed ((g.M.Machine.disk c.args.machine.now).reads Objects) c.read.new.into c.in_ok-read.read (c.in_ok-read.ensures.count _ agree) (c.in_ok-read.ensures.bytes _ agree) closed
    (elim c.then-read-eq0.branch [ then-read-eq0-via-then-read-eq0 w ↦ inl w.if-read-eq0.true | then-read-eq0-via-else-read-eq0+then-gate-eq-OPEN w ↦ inr w.if-gate-eq-OPEN.true ]))
