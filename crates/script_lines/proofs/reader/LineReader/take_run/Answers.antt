use Rattle.std.proofs.Common.{◌+◌, ◌∙◌, List, ℕ, sym, ap}
use Rattle.script_lines.specs.Reader.{unread}
use Rattle.script_lines.proofs.LineLemmas.{run_to_newline, run_of_all, none_unread}
use Rattle.script_lines.proofs.reader.LineReader.take_run.Goals as goal

pub returns-in_ok-push_run-in-Some-clause-run : goal.returns-in_ok-push_run-in-Some-clause-run
returns-in_ok-push_run-in-Some-clause-run c =
    let piece = sym c.deref.ensures.value in
    let ahead = ap (λ (r : _). r.ahead) (sym c.self.view_is) ∙ ap (λ (p : List ℕ). unread p c.self.inside.start c.self.inside.stop) piece in
    let behind = ap (λ (p : List ℕ). unread p (c.self.inside.start + (c.in-Some.place + 1)) c.self.inside.stop) piece in
    run_to_newline _ _ c.deref.result.now c.self.inside.stored.items c.self.inside.start c.self.inside.stop c.in-Some.place
    ahead (ap (λ (r : _). r.line) (sym c.self.view_is)) (sym c.in-Some.ensures) behind c.in_ok-push_run-in-Some.ensures.line

pub returns-in_ok-push_run-in-None-clause-run : goal.returns-in_ok-push_run-in-None-clause-run
returns-in_ok-push_run-in-None-clause-run c =
    let piece = sym c.deref.ensures.value in
    let ahead = ap (λ (r : _). r.ahead) (sym c.self.view_is) ∙ ap (λ (p : List ℕ). unread p c.self.inside.start c.self.inside.stop) piece in
    run_of_all _ _ (unread c.deref.result.now c.self.inside.start c.self.inside.stop) c.self.inside.stored.items
    ahead (ap (λ (r : _). r.line) (sym c.self.view_is)) (sym c.in-None.ensures) (none_unread c.self.inside.piece.items c.self.inside.stop) c.in_ok-push_run-in-None.ensures.line
