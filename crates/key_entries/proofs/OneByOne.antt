-- Entries that are read one by one.
use Rattle.std.proofs.Common.{◌≡◌, ◌≤◌, ◌<◌, ℕ, zero, suc, ◌-◌, Bool, true, false, ◌&&◌, T, Option, None, Some, List, [], ◌∷◌, ◌++◌, length, drop, get_or, refl, sym, ap, ◌∙◌, subst, arith, append_assoc, append-nil, option_map, option_and_then, Ordering, Less, Equal, Greater, is_lt, is_ge, true≢false, ◌==◌, inl, inr}
use Rattle.std.proofs.lemmas.Bool.Decides.{eqb_tells}
use Rattle.std.specs.FinMap.Entries.{is_sorted, below_all}
use Rattle.key_entries.specs.RisingLaws.{truth}
use Rattle.key_entries.specs.Short.{short_code, short_in}
use Rattle.key_entries.specs.Entries.{Field, byte_order, beside, entry_code, entry_in, entries_in}
use Rattle.key_entries.specs.KeyLaws.{both, first, if_less, below_less}

module _ {X : Type 0} (field : Field X) where
  -- a key and a field give an entry
  pub entry_read : (bytes rest key : List ℕ) (x : X) → short_in bytes ≡ Some key → rest ≡ drop (length (short_code key)) bytes → field.read rest ≡ Some x → entry_in field bytes ≡ Some (key, x)
  entry_read bytes rest key x found behind field_found =
      ap (λ (o : Option (List ℕ)). option_and_then (beside field bytes) o) found
      ∙ ap (λ (l : List ℕ). option_map (λ (x : X). (key, x)) (field.read l)) (sym behind)
      ∙ ap (λ (o : Option X). option_map (λ (x : X). (key, x)) o) field_found

  pub entry_cut : (bytes rest key : List ℕ) → short_in bytes ≡ Some key → rest ≡ drop (length (short_code key)) bytes → field.read rest ≡ None → entry_in field bytes ≡ None
  entry_cut bytes rest key found behind none =
      ap (λ (o : Option (List ℕ)). option_and_then (beside field bytes) o) found
      ∙ ap (λ (l : List ℕ). option_map (λ (x : X). (key, x)) (field.read l)) (sym behind)
      ∙ ap (λ (o : Option X). option_map (λ (x : X). (key, x)) o) none

  -- what was read so far, and then what the rest says
  pub IsReadTo : ℕ → List ℕ → List (List ℕ × X) → ℕ → List ℕ → Type 0
  IsReadTo count bytes front left rest = entries_in field count bytes ≡ option_map (λ es. front ++ es) (entries_in field left rest)

  with_none : (o : Option (List (List ℕ × X))) → o ≡ option_map (λ es. [] ++ es) o
  with_none None = refl
  with_none (Some es) = refl

  pub read_start : (count : ℕ) (bytes : List ℕ) (front : List (List ℕ × X)) (left : ℕ) → front ≡ [] → left ≡ count → IsReadTo count bytes front left bytes
  unfolding IsReadTo
  read_start count bytes front left none same =
      with_none (entries_in field count bytes) ∙ ap (λ (n : ℕ). option_map (λ (es : List (List ℕ × X)). [] ++ es) (entries_in field n bytes)) (sym same)
      ∙ ap (λ (front : List (List ℕ × X)). option_map (λ (es : List (List ℕ × X)). front ++ es) (entries_in field left bytes)) (sym none)

  with_front : (front : List (List ℕ × X)) (e : List ℕ × X) (o : Option (List (List ℕ × X)))
      → option_map (λ es. front ++ es) (option_map (λ es. e ∷ es) o) ≡ option_map (λ es. (front ++ e ∷ []) ++ es) o
  with_front front e None = refl
  with_front front e (Some es) = ap (λ (l : List (List ℕ × X)). Some l) (sym (append_assoc front (e ∷ []) es))

  pub read_step : (count : ℕ) (bytes : List ℕ) (front after : List (List ℕ × X)) (left next : ℕ) (rest behind : List ℕ) (e : List ℕ × X)
      → IsReadTo count bytes front left rest → left ≡ suc next → entry_in field rest ≡ Some e → after ≡ front ++ e ∷ [] → behind ≡ drop (length (entry_code field e)) rest
      → IsReadTo count bytes after next behind
  unfolding IsReadTo
  read_step count bytes front after left next rest behind e so_far more found pushed there =
      so_far
      ∙ ap (λ (n : ℕ). option_map (λ (es : List (List ℕ × X)). front ++ es) (entries_in field n rest)) more
      ∙ ap (λ (o : Option (List ℕ × X)). option_map (λ (es : List (List ℕ × X)). front ++ es) (option_and_then (λ (e : List ℕ × X). option_map (λ (es : List (List ℕ × X)). e ∷ es) (entries_in field next (drop (length (entry_code field e)) rest))) o)) found
      ∙ ap (λ (l : List ℕ). option_map (λ (es : List (List ℕ × X)). front ++ es) (option_map (λ (es : List (List ℕ × X)). e ∷ es) (entries_in field next l))) (sym there)
      ∙ with_front front e (entries_in field next behind)
      ∙ ap (λ (front : List (List ℕ × X)). option_map (λ (es : List (List ℕ × X)). front ++ es) (entries_in field next behind)) (sym pushed)

  pub read_stop : (count : ℕ) (bytes : List ℕ) (front : List (List ℕ × X)) (left next : ℕ) (rest : List ℕ)
      → IsReadTo count bytes front left rest → left ≡ suc next → entry_in field rest ≡ None → entries_in field count bytes ≡ None
  unfolding IsReadTo
  read_stop count bytes front left next rest so_far more none =
      so_far
      ∙ ap (λ (n : ℕ). option_map (λ (es : List (List ℕ × X)). front ++ es) (entries_in field n rest)) more
      ∙ ap (λ (o : Option (List ℕ × X)). option_map (λ (es : List (List ℕ × X)). front ++ es) (option_and_then (λ (e : List ℕ × X). option_map (λ (es : List (List ℕ × X)). e ∷ es) (entries_in field next (drop (length (entry_code field e)) rest))) o)) none

  pub read_end : (count : ℕ) (bytes : List ℕ) (front : List (List ℕ × X)) (left : ℕ) (rest : List ℕ)
      → IsReadTo count bytes front left rest → left ≡ 0 → true ≡ (length rest == 0) → entries_in field count bytes ≡ Some front
  unfolding IsReadTo
  read_end count bytes front left [] so_far last none =
      so_far ∙ ap (λ (n : ℕ). option_map (λ (es : List (List ℕ × X)). front ++ es) (entries_in field n [])) last
      ∙ ap (λ (l : List (List ℕ × X)). Some l) (append-nil front)
  read_end count bytes front left (b ∷ rest) so_far last none = elim (eqb_tells (length (b ∷ rest)) 0) [ inl same ↦ absurd (omega (arith, same.1)) | inr other ↦ absurd (true≢false (none ∙ other.0)) ]

  pub read_past : (count : ℕ) (bytes : List ℕ) (front : List (List ℕ × X)) (left : ℕ) (rest : List ℕ)
      → IsReadTo count bytes front left rest → left ≡ 0 → false ≡ (length rest == 0) → entries_in field count bytes ≡ None
  unfolding IsReadTo
  read_past count bytes front left [] so_far last some = absurd (true≢false (sym some))
  read_past count bytes front left (b ∷ rest) so_far last some =
      so_far ∙ ap (λ (n : ℕ). option_map (λ (es : List (List ℕ × X)). front ++ es) (entries_in field n (b ∷ rest))) last

false_second : (a : Bool) → (a && false) ≡ false
false_second true = refl
false_second false = refl

not_below : (o : Ordering) → true ≡ is_ge o → is_lt o ≡ false
not_below Less e = absurd (true≢false e)
not_below Equal e = refl
not_below Greater e = refl

module _ {X : Type 0} where
  rise_all : (es : List (List ℕ × X)) → ((k : ℕ) (d : List ℕ × X) → suc k < length es → byte_order (get_or es k d).0 (get_or es (suc k) d).0 ≡ Less) → T (is_sorted byte_order es)
  rise_all [] next = tt
  rise_all (e ∷ []) next = tt
  rise_all (e ∷ f ∷ es) next =
      let less : byte_order e.0 f.0 ≡ Less = next 0 e (omega arith) in
      let rest : T (is_sorted byte_order (f ∷ es)) = rise_all (f ∷ es) (λ k d within. next (suc k) d (omega arith)) in
      both (below_all byte_order e.0 (f ∷ es)) (is_sorted byte_order (f ∷ es))
      (both (is_lt (byte_order e.0 f.0)) (below_all byte_order e.0 es) (if_less (byte_order e.0 f.0) less)
      (below_less e.0 f.0 es less (first (below_all byte_order f.0 es) (is_sorted byte_order es) rest)))
      rest

  -- then they rise
  pub keys_rise : (es : List (List ℕ × X)) → ((k : ℕ) (d : List ℕ × X) → suc k < length es → byte_order (get_or es k d).0 (get_or es (suc k) d).0 ≡ Less)
      → is_sorted byte_order es ≡ true
  keys_rise es next = truth (is_sorted byte_order es) (rise_all es next)

  fall : (es : List (List ℕ × X)) (k : ℕ) (d d' : List ℕ × X) → suc k < length es → is_lt (byte_order (get_or es k d).0 (get_or es (suc k) d').0) ≡ false
      → is_sorted byte_order es ≡ false
  fall [] k d d' within not_less = absurd (omega arith)
  fall (e ∷ []) k d d' within not_less = absurd (omega arith)
  fall (e ∷ f ∷ es) zero d d' within not_less =
      ap (λ (b : Bool). (b && below_all byte_order e.0 es) && is_sorted byte_order (f ∷ es)) not_less
  fall (e ∷ f ∷ es) (suc k) d d' within not_less =
      ap (λ (b : Bool). below_all byte_order e.0 (f ∷ es) && b) (fall (f ∷ es) k d d' (omega arith) not_less) ∙ false_second (below_all byte_order e.0 (f ∷ es))

  -- and where one isn't below the next they don't
  pub keys_fall : (es : List (List ℕ × X)) (i : ℕ) (d d' : List ℕ × X) → 1 ≤ i → i < length es → true ≡ is_ge (byte_order (get_or es (i - 1) d).0 (get_or es i d').0)
      → is_sorted byte_order es ≡ false
  keys_fall es i d d' some within ge =
      let next : i ≡ suc (i - 1) = omega arith in
      fall es (i - 1) d d' (omega arith)
      (subst (λ (n : ℕ). is_lt (byte_order (get_or es (i - 1) d).0 (get_or es n d').0) ≡ false) next (not_below (byte_order (get_or es (i - 1) d).0 (get_or es i d').0) ge))
