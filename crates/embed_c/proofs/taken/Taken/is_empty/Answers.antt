use Rattle.std.proofs.Common.{arith, ◌∙◌, List, length, ap, sym}
use Rattle.std.proofs.lemmas.Bool.{le-leb, leb-true}
use Rattle.std.proofs.lemmas.List.{drop_all, length-drop, length-map}
use Rattle.disk_model.specs.Call as disk
use Rattle.write_queue.specs.Waiting.{call_of, calls_in}
use Rattle.embed_c.proofs.taken.Taken.is_empty.Goals as goal

pub returns : goal.returns
returns c =
    let items = c.args.self.now.calls.items in
    let given = c.args.self.now.given in
    let long = length-map items call_of in (
      (λ all. drop_all given (calls_in items) (omega (arith, long, c.len.ensures, leb-true c.len.result given all))),
      (λ none. le-leb c.len.result given (omega (arith, long, c.len.ensures, sym (length-drop given (calls_in items)) ∙ ap (λ (l : List disk.Call). length l) none))),
    )
