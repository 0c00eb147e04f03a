use Rattle.std.proofs.Common.{◌≡◌, ◌∙◌, ◌++◌, ℕ, List, Result, Ok, Err, length, refl, sym, ap, arith}
use Rattle.std.specs.Prelude.{is_ok, if◌then◌else◌}
use Rattle.std.proofs.lemmas.List.{append-nil, take_all}
use Rattle.disk_model.specs.Disk.{Same, SaysFront}
use Rattle.disk_model.specs.FilesTold.{runs_told}
use Rattle.disk_model.specs.Growing.{files_of}
use Rattle.disk_model.proofs.grow_mem.GrowMemMachine.say.Goals as goal

-- all of the bytes, or none of them
says_front : {T E : Type 0} (r : Result T E) (bytes old new : List ℕ) → new ≡ (if is_ok r then old ++ bytes else old) → SaysFront bytes old new
says_front (Ok x) bytes old new is = (length bytes, omega arith, is ∙ ap (λ (l : List ℕ). old ++ l) (sym (take_all (length bytes) bytes (omega arith))))
says_front (Err e) bytes old new is = (0, omega arith, is ∙ sym (append-nil old))

pub returns-clause-runs : goal.returns-clause-runs
returns-clause-runs c =
    let m = c.args.self.now in
    runs_told Same (SaysFront c.args.bytes.now) (files_of m) (files_of m) m.said.items c.extend_from_slice-answer.new.self.items _ _ _ _ (omega arith) c.counted.ensures.later refl
    (says_front c.extend_from_slice-answer.result c.args.bytes.now m.said.items c.extend_from_slice-answer.new.self.items c.extend_from_slice-answer.ensures.items)
