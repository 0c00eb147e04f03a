-- A look at a header gate, and a write of it where it is open.
use Rattle.std.proofs.Common.{◌≡◌, ◌⊎◌, inl, inr, get_or, ◌∙◌, ℕ, List, [], ◌∷◌, length, take, refl, sym, ap, subst, arith}
use Rattle.std.proofs.lemmas.List.{take_min, get_or-take}
use Rattle.disk_model.specs.Disk.{Files, Disk, Runs, Stays, Same, In, Torn, HoldsAt, read_of}
use Rattle.disk_model.specs.Moments.{runs_join}
use Rattle.disk_model.specs.declared.machine.FileNo.{FileNo}
use Rattle.formats.specs.Log.{IsClosedLog}
use Rattle.log_blocks.specs.RewriteLaws.{held_first}

torn_none : (at n : ℕ) (a : List ℕ) → Torn at n a a
torn_none at n a = record { before = take_min at a; after = refl; no_shorter = omega arith; no_longer = omega arith }

pub look_then_write : (old mid new : Disk) (file : FileNo) → Stays old mid → Runs (In file (Torn 0 1)) Same mid new → Runs (In file (Torn 0 1)) Same old new
look_then_write old mid new file first second = runs_join old mid new Same (In file (Torn 0 1)) (In file (Torn 0 1))
    (λ a b same. subst (λ (f : Files). In file (Torn 0 1) a f) (sym same) (record { changed = torn_none 0 1 (a file); others = λ other is_other. refl }))
    (λ a b c same step. subst (λ (f : Files). In file (Torn 0 1) f c) same step)
    first second

-- a closed gate is read as closed
pub look_at_closed : (file into : List ℕ) (n : ℕ) → n ≡ length (read_of file 0 1) → take n into ≡ read_of file 0 1 → IsClosedLog file → (n ≡ 0) ⊎ (get_or into 0 0 ≡ 1) → ⊥
look_at_closed [] into n count bytes closed (inl none) = closed
look_at_closed [] into n count bytes closed (inr is_open) = closed
look_at_closed (g ∷ rest) into n count bytes closed (inl none) = omega (arith, count, none)
look_at_closed (g ∷ rest) into n count bytes closed (inr is_open) =
    let same : get_or into 0 0 ≡ g = sym (get_or-take n into 0 0 (omega (arith, count))) ∙ ap (λ (l : List ℕ). get_or l 0 0) bytes in
    closed (sym same ∙ is_open)

-- a closed gate was written
pub closed_after : (old new : List ℕ) → HoldsAt 0 (0 ∷ []) old new → IsClosedLog new
closed_after old new holds = subst IsClosedLog (sym (held_first 0 old new holds)) (λ is. cc)
