use Rattle.std.proofs.Common.{◌≡◌, ◌++◌, ◌∙◌, List, ℕ, ap, sym, append_assoc}
use Rattle.std.specs.Prelude.{codes}
use Rattle.page_ops.specs.declared.page_op.PageOp.{PageOp}
use Rattle.script_lines.specs.Replies.{spaced}
use Rattle.redo_log.specs.Words.{page_words, spaced_hex}
use Rattle.redo_log.proofs.words.push_page.Goals as goal

-- words one behind the other, behind a text
three : (old a b d : List ℕ) → old ++ a ++ b ++ d ≡ old ++ (a ++ b ++ d)
three old a b d = ap (λ (l : List ℕ). l ++ d) (append_assoc old a b) ∙ append_assoc old (a ++ b) d

four : (old a b d e : List ℕ) → old ++ a ++ b ++ d ++ e ≡ old ++ (a ++ b ++ d ++ e)
four old a b d e = ap (λ (l : List ℕ). l ++ e) (three old a b d) ∙ append_assoc old (a ++ b ++ d) e

five : (old a b d e f : List ℕ) → old ++ a ++ b ++ d ++ e ++ f ≡ old ++ (a ++ b ++ d ++ e ++ f)
five old a b d e f = ap (λ (l : List ℕ). l ++ f) (four old a b d e) ∙ append_assoc old (a ++ b ++ d ++ e) f

pub returns-in_ok-push_hex-in-Put : goal.returns-in_ok-push_hex-in-Put
returns-in_ok-push_hex-in-Put c =
    let old = c.args.text.now.items in
    let op = c.in-Put in
    c.in_ok-push_hex-in-Put.ensures ∙ (λ i. c.in_ok-push_cell-in-Put.ensures i ++ spaced_hex (c.as_slice-in-Put.ensures.value i))
    ∙ (λ i. (old ++ codes "page_put" ++ spaced op.page ++ spaced op.place ++ spaced_hex (c.as_slice.ensures.value i)) ++ spaced_hex op.value)
    ∙ five old (codes "page_put") (spaced op.page) (spaced op.place) (spaced_hex op.key) (spaced_hex op.value) ∙ ap (λ (op : PageOp). old ++ page_words op) (sym op.is)

pub returns-in_ok-push_cell-in-Set : goal.returns-in_ok-push_cell-in-Set
returns-in_ok-push_cell-in-Set c =
    let old = c.args.text.now.items in
    let op = c.in-Set in
    c.in_ok-push_cell-in-Set.ensures ∙ (λ i. old ++ codes "page_set" ++ spaced op.page ++ spaced op.place ++ spaced_hex (c.as_slice-in-Set.ensures.value i))
    ∙ four old (codes "page_set") (spaced op.page) (spaced op.place) (spaced_hex op.value) ∙ ap (λ (op : PageOp). old ++ page_words op) (sym op.is)

pub returns-in_ok-push_at-in-Delete : goal.returns-in_ok-push_at-in-Delete
returns-in_ok-push_at-in-Delete c =
    let old = c.args.text.now.items in
    let op = c.in-Delete in
    c.in_ok-push_at-in-Delete.ensures ∙ three old (codes "page_delete") (spaced op.page) (spaced op.place) ∙ ap (λ (op : PageOp). old ++ page_words op) (sym op.is)

pub returns-in_ok-push_cells-in-Part : goal.returns-in_ok-push_cells-in-Part
returns-in_ok-push_cells-in-Part c =
    let old = c.args.text.now.items in
    let op = c.in-Part in
    c.in_ok-push_cells-in-Part.ensures ∙ four old (codes "page_part") _ (spaced op.from) (spaced op.to) ∙ ap (λ (op : PageOp). old ++ page_words op) (sym op.is)

pub returns-in_ok-push_absorb-in-Absorb : goal.returns-in_ok-push_absorb-in-Absorb
returns-in_ok-push_absorb-in-Absorb c =
    let old = c.args.text.now.items in
    let op = c.in-Absorb in
    c.in_ok-push_absorb-in-Absorb.ensures ∙ four old (codes "page_absorb") (spaced op.page) (spaced op.other) (spaced op.count) ∙ ap (λ (op : PageOp). old ++ page_words op) (sym op.is)

pub returns-in_ok-push_cells-in-Join : goal.returns-in_ok-push_cells-in-Join
returns-in_ok-push_cells-in-Join c =
    let old = c.args.text.now.items in
    let op = c.in-Join in
    c.in_ok-push_cells-in-Join.ensures ∙ four old (codes "page_join") _ (spaced op.from) (spaced op.to) ∙ ap (λ (op : PageOp). old ++ page_words op) (sym op.is)

pub returns-in_ok-push_at-in-Keep : goal.returns-in_ok-push_at-in-Keep
returns-in_ok-push_at-in-Keep c =
    let old = c.args.text.now.items in
    let op = c.in-Keep in
    c.in_ok-push_at-in-Keep.ensures ∙ three old (codes "page_keep") (spaced op.page) (spaced op.count) ∙ ap (λ (op : PageOp). old ++ page_words op) (sym op.is)

pub returns-in_ok-push_turn-in-Turn : goal.returns-in_ok-push_turn-in-Turn
returns-in_ok-push_turn-in-Turn c =
    let old = c.args.text.now.items in
    let op = c.in-Turn in
    c.in_ok-push_turn-in-Turn.ensures ∙ five old (codes "page_turn") (spaced op.page) (spaced op.place) (spaced op.count) (spaced op.child) ∙ ap (λ (op : PageOp). old ++ page_words op) (sym op.is)
