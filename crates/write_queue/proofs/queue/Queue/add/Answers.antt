use Rattle.std.proofs.Common.{◌≡◌, ◌++◌, [], ◌∷◌, ◌∙◌, Result, Ok, Err, IsOk, map, refl, ap}
use Rattle.std.specs.Prelude.{is_ok, if◌then◌else◌}
use Rattle.std.proofs.lemmas.List.{map-append}
use Rattle.write_queue.specs.Waiting.{call_of}
use Rattle.write_queue.proofs.queue.Queue.add.Goals as goal

where_ok : {T E A : Type 0} (r : Result T E) (x y : A) → IsOk r → (if is_ok r then x else y) ≡ x
where_ok (Ok v) x y ok = refl
where_ok (Err e) x y ok = cc

pub returns : goal.returns
returns c =
    let old = c.args.self.now.calls.items in
    let added = c.args.call ∷ [] in
    ap (λ l. map call_of l) (c.push.ensures.items ∙ where_ok c.push.result (old ++ added) old (c.push.ensures.succeeds c.requires))
    ∙ map-append call_of old added
