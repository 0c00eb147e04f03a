use Rattle.std.proofs.Common.{◌≡◌, ◌∙◌, ◌++◌, ◌+◌, ℕ, List, min, length, take, drop, sym, ap, length-take}
use Rattle.std.proofs.lemmas.List.{take-append-drop, drop-drop, drop_min}
use Rattle.disk_model.proofs.mem_source.MemSourceSource.read.Goals as goal

pub returns-clause-bytes : goal.returns-clause-bytes
returns-clause-bytes c =
    let bytes = c.deref.result.now in
    let left : List ℕ = drop c.args.self.now.taken bytes in
    let room = length c.args.into.now in
    let count = c.copy_from-count.result in
    let count_is : count ≡ min room (length left) = c.copy_from-count.ensures.count ∙ length-take room left in
    ap (λ (l : List ℕ). drop c.args.self.now.taken l) (sym c.deref.ensures.value) ∙ sym (take-append-drop room left)
    ∙ ap (λ (l : List ℕ). l ++ drop room left) (sym c.copy_from-count.ensures.bytes)
    ∙ ap (λ (l : List ℕ). take count c.copy_from-count.new.into ++ l) (sym (drop_min room left) ∙ ap (λ (k : ℕ). drop k left) (sym count_is) ∙ drop-drop count c.args.self.now.taken bytes
    ∙ ap (λ (l : List ℕ). drop (c.args.self.now.taken + count) l) c.deref.ensures.value)
