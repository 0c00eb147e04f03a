use Rattle.std.proofs.Common.{◌≡◌, ◌≢◌, ℕ, List, Result, Ok, Err, length, refl, sym, subst, arith}
use Rattle.std.specs.Prelude.{OnOk, OnErr}
use Rattle.disk_model.specs.ByFile.{part_of, with_part}
use Rattle.disk_model.specs.CallLaws.{torn_none, torn_whole}
use Rattle.disk_model.specs.Disk.{Same, In, Torn, written_over}
use Rattle.disk_model.specs.FilesTold.{runs_told}
use Rattle.disk_model.specs.declared.by_file.ByFile.{ByFile}
use Rattle.disk_model.specs.declared.machine.FileNo.{FileNo}
use Rattle.disk_model.specs.declared.machine.FileNo.TheVariants.{Objects, LogA, LogB}
use Rattle.disk_model.proofs.grow_mem.GrowMemMachine.write_at.Goals as goal

-- bytes that are written, or nothing
torn_by : {T E : Type 0} (r : Result T E) (at : ℕ) (bytes old new : List ℕ) → OnOk r (new ≡ written_over at bytes old) → OnErr r (new ≡ old) → Torn at (length bytes) old new
torn_by (Ok x) at bytes old new ok err = subst (λ (l : List ℕ). Torn at (length bytes) old l) (sym ok) (torn_whole at bytes old)
torn_by (Err e) at bytes old new ok err = subst (λ (l : List ℕ). Torn at (length bytes) old l) (sym err) (torn_none at (length bytes) old)

module _ {T : Type 0} (items : T → List ℕ) (this : T) (all : ByFile T) (change : List ℕ → List ℕ → Type 0) where
  others : (file other : FileNo) → other ≢ file → items (part_of (with_part file this all) other) ≡ items (part_of all other)
  others Objects Objects apart = absurd (apart refl)
  others Objects LogA apart = refl
  others Objects LogB apart = refl
  others LogA Objects apart = refl
  others LogA LogA apart = absurd (apart refl)
  others LogA LogB apart = refl
  others LogB Objects apart = refl
  others LogB LogA apart = refl
  others LogB LogB apart = absurd (apart refl)

  here : (file : FileNo) → items (part_of (with_part file this all) file) ≡ items this
  here Objects = refl
  here LogA = refl
  here LogB = refl

  in_part : (file : FileNo) → change (items (part_of all file)) (items this) → In file change (λ f. items (part_of all f)) (λ f. items (part_of (with_part file this all) f))
  in_part file is = record { changed = subst (λ (l : List ℕ). change (items (part_of all file)) l) (sym (here file)) is; others = others file }

pub returns-clause-runs : goal.returns-clause-runs
returns-clause-runs c =
    let n = length c.args.bytes.now in
    let torn = torn_by c.overwrite-answer.result c.args.at c.args.bytes.now c.get_mut.result.now.items c.overwrite-answer.new.into.items c.overwrite-answer.ensures.ok c.overwrite-answer.ensures.err in
    runs_told (In c.args.file (Torn c.args.at n)) Same _ _ _ _ _ _ _ _ c.counted.ensures.later (omega arith)
    (in_part (λ v. v.items) c.overwrite-answer.new.into c.args.self.now.files (Torn c.args.at n) c.args.file
    (subst (λ v. Torn c.args.at n v.items c.overwrite-answer.new.into.items) c.get_mut.ensures.value torn)) refl
