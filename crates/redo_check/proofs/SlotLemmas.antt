-- The lines of slots go on.
use Rattle.std.proofs.Common.{◌≡◌, ◌∙◌, ◌+◌, ℕ, suc, List, ◌++◌, length, sym, ap, append_assoc, arith}
use Rattle.std.proofs.lemmas.List.{append-nil}
use Rattle.std.specs.Prelude.{Bool, codes, nat_lt}
use Rattle.disk_model.specs.Padded.{padded}
use Rattle.disk_model.specs.declared.machine.FileNo.TheVariants.{Objects}
use Rattle.formats.specs.Objects.{last_slot, slot_place}
use Rattle.formats.specs.declared.layout.Layout.{Layout}
use Rattle.redo_check.specs.Lines.{number_line}
use Rattle.redo_check.specs.Slots.{pair_lines, pairs_lines, slot_of, slots_lines}

-- one object more
pub pairs_more : (layout : Layout) (file : List ℕ) (size n : ℕ) (old front text new : List ℕ) → size ≡ length file → text ≡ old ++ (front ++ pairs_lines layout file n)
    → new ≡ text ++ pair_lines layout size n (slot_of (padded file (slot_place layout n 0) 13)) (slot_of (padded file (slot_place layout n 1) 13))
    → new ≡ old ++ (front ++ pairs_lines layout file (n + 1))
pairs_more layout file size n old front text new long before added =
    let lines = pairs_lines layout file n in
    let more = pair_lines layout (length file) n (slot_of (padded file (slot_place layout n 0) 13)) (slot_of (padded file (slot_place layout n 1) 13)) in
    let next : suc n ≡ n + 1 = omega arith in
    added ∙ (λ i. before i ++ pair_lines layout (long i) n (slot_of (padded file (slot_place layout n 0) 13)) (slot_of (padded file (slot_place layout n 1) 13)))
    ∙ append_assoc old (front ++ lines) more ∙ ap (λ (l : List ℕ). old ++ l) (append_assoc front lines more) ∙ ap (λ (k : ℕ). old ++ (front ++ pairs_lines layout file k)) next

-- before the first object
pub pairs_begun : (layout : Layout) (file : List ℕ) (size : ℕ) (good : Bool) (old text : List ℕ) → good ≡ nat_lt (last_slot layout) size → text ≡ old ++ number_line Objects 0 (codes "length") size good
    → text ≡ old ++ (number_line Objects 0 (codes "length") size (nat_lt (last_slot layout) size) ++ pairs_lines layout file 0)
pairs_begun layout file size good old text is said =
    said ∙ ap (λ (b : Bool). old ++ number_line Objects 0 (codes "length") size b) is
    ∙ ap (λ (l : List ℕ). old ++ l) (sym (append-nil (number_line Objects 0 (codes "length") size (nat_lt (last_slot layout) size))))

-- behind the last one
pub pairs_done : (layout : Layout) (file : List ℕ) (size n : ℕ) (old text : List ℕ) → size ≡ length file → n ≡ layout.params.objects
    → text ≡ old ++ (number_line Objects 0 (codes "length") size (nat_lt (last_slot layout) size) ++ pairs_lines layout file n) → text ≡ old ++ slots_lines layout file
pairs_done layout file size n old text long all said =
    said ∙ λ i. old ++ (number_line Objects 0 (codes "length") (long i) (nat_lt (last_slot layout) (long i)) ++ pairs_lines layout file (all i))
