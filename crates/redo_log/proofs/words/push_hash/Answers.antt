use Rattle.std.proofs.Common.{◌≡◌, ◌++◌, ◌∙◌, List, ℕ, ap, sym, append_assoc}
use Rattle.std.specs.Prelude.{codes}
use Rattle.hash_ops.specs.declared.hash_op.HashOp.{HashOp}
use Rattle.script_lines.specs.Replies.{spaced}
use Rattle.redo_log.specs.Words.{hash_words, spaced_hex}
use Rattle.redo_log.proofs.words.push_hash.Goals as goal

parts : (old a b d e : List ℕ) → (((old ++ a) ++ b) ++ d) ++ e ≡ old ++ (((a ++ b) ++ d) ++ e)
parts old a b d e =
    ap (λ (l : List ℕ). (l ++ d) ++ e) (append_assoc old a b) ∙ ap (λ (l : List ℕ). l ++ e) (append_assoc old (a ++ b) d) ∙ append_assoc old ((a ++ b) ++ d) e

pub returns-in_ok-push_hex-in-Put : goal.returns-in_ok-push_hex-in-Put
returns-in_ok-push_hex-in-Put c =
    let old = c.args.text.now.items in
    c.in_ok-push_hex-in-Put.ensures ∙ (λ i. c.in_ok-push_value-in-Put.ensures i ++ spaced_hex (c.as_slice-in-Put.ensures.value i))
    ∙ (λ i. (old ++ codes "bucket_put" ++ spaced c.in-Put.bucket ++ spaced_hex (c.as_slice.ensures.value i)) ++ spaced_hex c.in-Put.value)
    ∙ parts old (codes "bucket_put") (spaced c.in-Put.bucket) (spaced_hex c.in-Put.key) (spaced_hex c.in-Put.value) ∙ ap (λ (op : HashOp). old ++ hash_words op) (sym c.in-Put.is)

pub returns-in_ok-push_names-in-Split : goal.returns-in_ok-push_names-in-Split
returns-in_ok-push_names-in-Split c =
    c.in_ok-push_names-in-Split.ensures ∙ append_assoc c.args.text.now.items (codes "bucket_split") _ ∙ ap (λ (op : HashOp). c.args.text.now.items ++ hash_words op) (sym c.in-Split.is)
