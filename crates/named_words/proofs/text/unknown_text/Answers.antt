use Rattle.std.proofs.Common.{◌∙◌, ◌++◌, ap, codes, take, List, ℕ}
use Rattle.named_words.specs.Forms.{texts}
use Rattle.named_words.specs.Refusals.{first_of, others_of, shown_behind}
use Rattle.named_words.proofs.Showing.{appended}
use Rattle.named_words.proofs.text.unknown_text.Goals as goal

pub returns : goal.returns
returns c =
    appended
    (codes "ERR unknown command '")
    (take 128 (first_of (texts c.args.words.now)))
    (codes "', with args beginning with: ")
    (shown_behind 0 (others_of (texts c.args.words.now)))
    c.in_ok-text.text.items
    c.extend_from_slice.new.self.items
    c.extend_from_slice-2.new.self.items
    c.push_shown.new.text.items
    c.in_ok-text.ensures.items
    (c.in_ok-extend_from_slice.ensures.items ∙ ap (λ (w : List ℕ). c.in_ok-text.text.items ++ w) (c.front.ensures ∙ ap (λ (w : List ℕ). take 128 w) c.first.ensures))
    c.in_ok-extend_from_slice-2.ensures.items
    (c.in_ok-push_shown.ensures ∙ ap (λ (w : List (List ℕ)). c.extend_from_slice-2.new.self.items ++ shown_behind 0 w) c.others.ensures)
