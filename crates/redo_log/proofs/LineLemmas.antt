-- Lines go on with what comes behind.
use Rattle.std.proofs.Common.{◌≡◌, ◌∙◌, ℕ, ◌+◌, List, [], ◌∷◌, ◌++◌, length, map, sym, ap, append_assoc, length-append, arith}
use Rattle.std.proofs.lemmas.List.{append-nil}
use Rattle.disk_model.specs.declared.machine.FileNo.{FileNo}
use Rattle.oper_core.specs.Meaning.{Meaning}
use Rattle.op_codec.specs.AllOps.{AllOps}
use Rattle.formats.specs.Log.{block, blocks}
use Rattle.formats.specs.Records.{payload_of, record_code}
use Rattle.formats.specs.declared.record.Record.{Record}
use Rattle.log_blocks.specs.Laws.{length-block}
use Rattle.redo_log.specs.Lines.{block_lines, blocks_lines, record_line, record_lines}
use Rattle.redo_log.specs.declared.choice.Choice.{Choice}

module _ (w : Choice) (m : Meaning AllOps) (file : FileNo) where
  -- more records
  pub records_append : (place : ℕ) (part more : List (Record AllOps)) → record_lines w m file place (part ++ more) ≡ record_lines w m file place part ++ record_lines w m file (place + length (payload_of m part)) more
  records_append place [] more =
      let here : place ≡ place + 0 = omega arith in
      ap (λ (k : ℕ). record_lines w m file k more) here
  records_append place (s ∷ part) more =
      let code = length (record_code m s) in
      let first = record_line w m file place code s in
      let here : place + code + length (payload_of m part) ≡ place + length (payload_of m (s ∷ part)) = omega (arith, length-append (record_code m s) (payload_of m part)) in
      ap (λ (l : List ℕ). first ++ l) (records_append (place + code) part more)
      ∙ sym (append_assoc first (record_lines w m file (place + code) part) (record_lines w m file (place + code + length (payload_of m part)) more))
      ∙ ap (λ (k : ℕ). (first ++ record_lines w m file (place + code) part) ++ record_lines w m file k more) here

  -- one record more
  pub records_more : (place : ℕ) (part : List (Record AllOps)) (r : Record AllOps)
      → record_lines w m file place (part ++ r ∷ []) ≡ record_lines w m file place part ++ record_line w m file (place + length (payload_of m part)) (length (record_code m r)) r
  records_more place part r =
      records_append place part (r ∷ []) ∙ ap (λ (l : List ℕ). record_lines w m file place part ++ l) (append-nil (record_line w m file (place + length (payload_of m part)) (length (record_code m r)) r))

  -- one block more
  pub blocks_more : (place : ℕ) (groups : List (List (Record AllOps))) (group : List (Record AllOps))
      → blocks_lines w m file place (groups ++ group ∷ []) ≡ blocks_lines w m file place groups ++ block_lines w m file (place + length (blocks (map (payload_of m) groups))) group
  blocks_more place [] group =
      let here : place ≡ place + 0 = omega arith in
      append-nil (block_lines w m file place group) ∙ ap (λ (k : ℕ). block_lines w m file k group) here
  blocks_more place (g ∷ groups) group =
      let payload = payload_of m g in
      let behind = place + (5 + length payload) in
      let first = block_lines w m file place g in
      let here : behind + length (blocks (map (payload_of m) groups)) ≡ place + length (blocks (map (payload_of m) (g ∷ groups))) =
      omega (arith, length-append (block payload) (blocks (map (payload_of m) groups)), length-block payload) in
      ap (λ (l : List ℕ). first ++ l) (blocks_more behind groups group)
      ∙ sym (append_assoc first (blocks_lines w m file behind groups) (block_lines w m file (behind + length (blocks (map (payload_of m) groups))) group))
      ∙ ap (λ (k : ℕ). (first ++ blocks_lines w m file behind groups) ++ block_lines w m file k group) here
