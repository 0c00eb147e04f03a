use Rattle.std.proofs.Common.{◌≡◌, ℕ, List, ◌&&◌, length, is_eq, ap, ◌∙◌}
use Rattle.std.specs.Prelude.{nat_lt}
use Rattle.key_entries.specs.Entries.{byte_order}
use Rattle.page_ops.specs.OnCells.{key_at}
use Rattle.page_ops.specs.Page.{Cell}
use Rattle.page_ops.specs.Search.{place_for}
use Rattle.page_map.proofs.row.Row.with.Goals as goal

pub invariant_of-result : goal.invariant_of-result
invariant_of-result c =
    let cells : List Cell = c.args.cells.now in
    let place : c.place_for-place.result ≡ place_for c.args.key.now cells = c.place_for-place.ensures ∙ ap (λ (k : List ℕ). place_for k cells) c.as_slice.ensures.value in
    (place, c.stands_at-there.ensures ∙ (λ k. nat_lt (place k) (length cells) && is_eq (byte_order (c.as_slice-2.ensures.value k) (key_at cells (place k)))))
