-- A tally of records, and its lines.
use Rattle.std.proofs.Common.{◌≡◌, ◌≢◌, ◌<◌, ◌≤◌, ◌+◌, ◌++◌, ◌∙◌, ◌&&◌, ℕ, suc, Bool, true, false, List, [], ◌∷◌, ap, arith, cond, drop, get_or, length, length-append, refl, replicate, subst, sym, inl, inr}
use Rattle.std.specs.Prelude.{◌==◌, slice_set}
use Rattle.std.specs.List.{filter}
use Rattle.std.proofs.lemmas.Bool.{cases_eq, cases_lt, cond-false, cond-true, eq-eqb, ne_eqb}
use Rattle.std.proofs.lemmas.List.{append-nil, drop_all, drop_more, get_or-replicate, get_or-set_other, get_or-set_same, length-replicate, length-set}
use Rattle.std.proofs.lemmas.List.Concat.{flat_map-append}
use Rattle.std.proofs.lemmas.List.Elements.{filter-append}
use Rattle.oper_core.specs.Meaning.{Meaning}
use Rattle.op_codec.specs.AllOps.{AllOps}
use Rattle.formats.specs.Records.{payload_of, record_code}
use Rattle.formats.specs.declared.record.Record.{Record}
use Rattle.redo_log.specs.Choosing.{admits}
use Rattle.redo_log.specs.Kinds.{kind_of, kind_words}
use Rattle.redo_log.specs.Tallying.{IsTally, Tallies, capped, is_counted, kind_line, lines_from, numbers_of, table}
use Rattle.redo_log.specs.declared.choice.Choice.{Choice}

-- one more, and some bytes more
abbrev pub raised : ℕ × ℕ → ℕ → ℕ × ℕ
raised numbers n = (capped (numbers.0 + 1), capped (numbers.1 + n))

-- what was capped before is capped after
capped_more : (a b : ℕ) → capped (capped a + b) ≡ capped (a + b)
capped_more a b = omega arith

module _ (w : Choice) (m : Meaning AllOps) where
  counted_more : (k : ℕ) (records : List (Record AllOps)) (r : Record AllOps) → filter (is_counted w m k) (records ++ r ∷ []) ≡ filter (is_counted w m k) records ++ cond (is_counted w m k r) (r ∷ []) []
  counted_more k records r = filter-append (is_counted w m k) records (r ∷ [])

  -- a record more that is counted
  pub one_more : (k : ℕ) (records : List (Record AllOps)) (r : Record AllOps) → is_counted w m k r ≡ true → numbers_of w m k (records ++ r ∷ []) ≡ raised (numbers_of w m k records) (length (record_code m r))
  one_more k records r is =
      let those = filter (is_counted w m k) records in
      let code = record_code m r in
      let all : filter (is_counted w m k) (records ++ r ∷ []) ≡ those ++ r ∷ [] = counted_more k records r ∙ ap (λ (l : List (Record AllOps)). those ++ l) (cond-true _ (r ∷ []) [] is) in
      let count : capped (length (filter (is_counted w m k) (records ++ r ∷ []))) ≡ capped (capped (length those) + 1) =
      ap (λ (l : List (Record AllOps)). capped (length l)) all ∙ ap capped (length-append those (r ∷ [])) ∙ sym (capped_more (length those) 1) in
      let payload : payload_of m (those ++ r ∷ []) ≡ payload_of m those ++ code = flat_map-append (record_code m) those (r ∷ []) ∙ ap (λ (l : List ℕ). payload_of m those ++ l) (append-nil code) in
      let bytes : capped (length (payload_of m (filter (is_counted w m k) (records ++ r ∷ [])))) ≡ capped (capped (length (payload_of m those)) + length code) =
      ap (λ (l : List (Record AllOps)). capped (length (payload_of m l))) all ∙ ap (λ (l : List ℕ). capped (length l)) payload ∙ ap capped (length-append (payload_of m those) code) ∙ sym (capped_more (length (payload_of m those)) (length code)) in
      λ i. (count i, bytes i)

  -- one that is not
  pub none_more : (k : ℕ) (records : List (Record AllOps)) (r : Record AllOps) → is_counted w m k r ≡ false → numbers_of w m k (records ++ r ∷ []) ≡ numbers_of w m k records
  none_more k records r not =
      let those = filter (is_counted w m k) records in
      let all : filter (is_counted w m k) (records ++ r ∷ []) ≡ those = counted_more k records r ∙ ap (λ (l : List (Record AllOps)). those ++ l) (cond-false _ (r ∷ []) [] not) ∙ append-nil those in
      λ i. (capped (length (all i)), capped (length (payload_of m (all i))))

  -- a record that is not all that is asked
  pub tallies_none : (r : Record AllOps) (old new : List (ℕ × ℕ)) → admits w m r ≡ false → new ≡ old → Tallies w m (r ∷ []) old new
  tallies_none r old new not same records is = record {
    kinds = ap length same ∙ is.kinds;
    each = λ k below. ap (λ (l : List (ℕ × ℕ)). get_or l k (0, 0)) same ∙ is.each k below ∙ sym (none_more k records r (ap (λ (b : Bool). b && kind_of r == k) not));
  }

  -- of its kind there is one more, and of no other
  with_kind : (r : Record AllOps) → admits w m r ≡ true → (k : ℕ) → kind_of r ≡ k → is_counted w m k r ≡ true
  with_kind r is k same = ap (λ (b : Bool). b && kind_of r == k) is ∙ eq-eqb (kind_of r) k same

  no_kind : (r : Record AllOps) → admits w m r ≡ true → (k : ℕ) → kind_of r ≢ k → is_counted w m k r ≡ false
  no_kind r is k other = ap (λ (b : Bool). b && kind_of r == k) is ∙ ne_eqb (kind_of r) k other

  -- one that is
  tallies_one : (r : Record AllOps) (old new : List (ℕ × ℕ)) (n : ℕ) → admits w m r ≡ true → n ≡ length (record_code m r)
      → (kind_of r < length old → new ≡ slice_set old (kind_of r) (raised (get_or old (kind_of r) (0, 0)) n)) → (length old ≤ kind_of r → new ≡ old) → Tallies w m (r ∷ []) old new
  tallies_one r old new n asked long within beyond records is = elim (cases_lt (kind_of r) (length old)) [
    | inl below ↦
        let at = within below in
        let more = raised (get_or old (kind_of r) (0, 0)) n in
        record {
          kinds = ap length at ∙ length-set old (kind_of r) more ∙ is.kinds;
          each = λ k inside. elim (cases_eq k (kind_of r)) [
            | inl same ↦
                ap (λ (l : List (ℕ × ℕ)). get_or l k (0, 0)) at ∙ ap (λ (j : ℕ). get_or (slice_set old (kind_of r) more) j (0, 0)) same ∙ get_or-set_same old (kind_of r) more (0, 0) below
                ∙ (λ i. raised (get_or old (sym same i) (0, 0)) (long i)) ∙ ap (λ (p : ℕ × ℕ). raised p (length (record_code m r))) (is.each k inside) ∙ sym (one_more k records r (with_kind r asked k (sym same)))
            | inr other ↦
                ap (λ (l : List (ℕ × ℕ)). get_or l k (0, 0)) at ∙ get_or-set_other old (kind_of r) k more (0, 0) other ∙ is.each k inside ∙ sym (none_more k records r (no_kind r asked k (λ same. other (sym same))))
          ];
        }
    | inr above ↦
        let same = beyond above in
        record {
          kinds = ap length same ∙ is.kinds;
          each = λ k inside. ap (λ (l : List (ℕ × ℕ)). get_or l k (0, 0)) same ∙ is.each k inside ∙ sym (none_more k records r (no_kind r asked k (λ here. absurd (omega (arith, here, inside, above, is.kinds)))));
        }
  ]

  pub tallies_kind : (r : Record AllOps) (old new : List (ℕ × ℕ)) (n k : ℕ) → admits w m r ≡ true → n ≡ length (record_code m r) → k ≡ kind_of r
      → (k < length old → new ≡ slice_set old k (raised (get_or old k (0, 0)) n)) → (length old ≤ k → new ≡ old) → Tallies w m (r ∷ []) old new
  tallies_kind r old new n k asked long same within beyond =
      tallies_one r old new n asked long (subst (λ (j : ℕ). j < length old → new ≡ slice_set old j (raised (get_or old j (0, 0)) n)) same within) (subst (λ (j : ℕ). length old ≤ j → new ≡ old) same beyond)

  -- nothing was counted
  pub no_tally : (tally : List (ℕ × ℕ)) → tally ≡ replicate {A = ℕ × ℕ} 33 (0, 0) → IsTally w m [] tally
  no_tally tally are = record {
    kinds = ap length are ∙ length-replicate {A = ℕ × ℕ} 33 (0, 0);
    each = λ k below. ap (λ (l : List (ℕ × ℕ)). get_or l k (0, 0)) are ∙ get_or-replicate 33 k (0, 0) (0, 0) below;
  }

-- the lines of kinds with these numbers, from this one on
abbrev pub lines_of : ℕ → List (ℕ × ℕ) → List ℕ
lines_of k [] = []
lines_of k (numbers ∷ tally) = kind_line (get_or kind_words k []) numbers ++ lines_of (k + 1) tally

-- one line more
pub lines_more : (tally : List (ℕ × ℕ)) (k : ℕ) → k < length tally → lines_of k (drop k tally) ≡ kind_line (get_or kind_words k []) (get_or tally k (0, 0)) ++ lines_of (k + 1) (drop (k + 1) tally)
lines_more tally k below = ap (lines_of k) (drop_more tally k (0, 0) below)

-- they are those of the tally's records
same_lines : (w : Choice) (m : Meaning AllOps) (records : List (Record AllOps)) (k : ℕ) (words : List (List ℕ)) (tally : List (ℕ × ℕ)) → length tally ≡ length words
    → ((i : ℕ) → i < length words → get_or kind_words (k + i) [] ≡ get_or words i []) → ((i : ℕ) → i < length words → get_or tally i (0, 0) ≡ numbers_of w m (k + i) records) → lines_of k tally ≡ lines_from w m records k words
same_lines w m records k [] [] long named each = refl
same_lines w m records k [] (n ∷ tally) long named each = absurd (omega (arith, long))
same_lines w m records k (word ∷ words) [] long named each = absurd (omega (arith, long))
same_lines w m records k (word ∷ words) (n ∷ tally) long named each =
    let at : k + 0 ≡ k = omega arith in
    let name : get_or kind_words k [] ≡ word = ap (λ (j : ℕ). get_or kind_words j []) (sym at) ∙ named 0 (omega arith) in
    let numbers : n ≡ numbers_of w m k records = each 0 (omega arith) ∙ ap (λ (j : ℕ). numbers_of w m j records) at in
    let on : (i : ℕ) → k + suc i ≡ k + 1 + i = λ i. omega arith in
    let rest = same_lines w m records (k + 1) words tally (omega (arith, long))
    (λ i below. ap (λ (j : ℕ). get_or kind_words j []) (sym (on i)) ∙ named (suc i) (omega (arith, below)))
    (λ i below. each (suc i) (omega (arith, below)) ∙ ap (λ (j : ℕ). numbers_of w m j records) (on i)) in
    λ i. kind_line (name i) (numbers i) ++ rest i

pub table_is : (w : Choice) (m : Meaning AllOps) (records : List (Record AllOps)) (tally : List (ℕ × ℕ)) → IsTally w m records tally → lines_of 0 tally ≡ table w m records
table_is w m records tally is =
    let on : (i : ℕ) → 0 + i ≡ i = λ i. omega arith in
    same_lines w m records 0 kind_words tally is.kinds (λ i below. ap (λ (j : ℕ). get_or kind_words j []) (on i)) (λ i below. is.each i below ∙ ap (λ (j : ℕ). numbers_of w m j records) (sym (on i)))

-- behind the last kind all lines were told
pub all_told : (text : List ℕ) (k : ℕ) (tally : List (ℕ × ℕ)) → length tally ≤ k → text ++ lines_of k (drop k tally) ≡ lines_of 0 tally → text ≡ lines_of 0 tally
all_told text k tally past told = sym (append-nil text) ∙ ap (λ (l : List (ℕ × ℕ)). text ++ lines_of k l) (sym (drop_all k tally past)) ∙ told
