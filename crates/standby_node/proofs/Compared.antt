-- Records of a stream that are compared with those of a store, one after the other.
use Rattle.std.proofs.Common.{◌≡◌, ◌∙◌, sym, subst, ap, ℕ, ◌+◌, ◌-◌, ◌<◌, ◌≤◌, Option, None, Some, List, [], ◌∷◌, ◌++◌, length, take, drop, refl, arith, append_assoc, length-append, length-drop}
use Rattle.std.specs.Prelude.{Ok, Err, IfNone, IfSome, nat_eq, true, false}
use Rattle.std.specs.List.{AllByRecursion}
use Rattle.std.proofs.Math.Seq.{drop-append_seam, take-append_seam, take-length}
use Rattle.std.proofs.lemmas.Bool.{cond_both}
use Rattle.std.proofs.lemmas.List.{append-nil, append_cancel_left, drop-drop}
use Rattle.oper_core.specs.Meaning.{Meaning}
use Rattle.formats.specs.Records.{payload_of, record_code}
use Rattle.formats.specs.declared.record.Record.{Record}
use Rattle.log_records.specs.Codec.{StartsWithRecord}
use Rattle.log_records.specs.RecordLaws.{payload_push}
use Rattle.execution.specs.Following.{HasLsn}
use Rattle.standby_node.specs.Feeding.{BeginsNoRecord}
use Rattle.standby_node.specs.Same.{AreSame, IsCompared, IsPayloadCompared, IsSame, IsUnlike, IsUnlikeWithin, Unlike, lsn_in, with_all, with_code}
use Rattle.standby_node.specs.Same.Unlike.{other, gone}
use Rattle.standby_node.specs.Standby.{MayBeShipped}
use Rattle.standby_node.specs.declared.compare_err.CompareErr.{CompareErr}
use Rattle.standby_node.specs.declared.compare_err.CompareErr.TheVariants.{Differs, Unknown, Memory}
use Rattle.standby_node.proofs.AllOf.{all_append}
use Rattle.standby_node.proofs.InHand.{no_code}
use Rattle.standby_node.proofs.Recorded.{some_bytes}

-- a record is not both the same and another one
pub no_both : (base : ℕ) (codes : List (List ℕ)) (lsn : ℕ) (code : List ℕ) (why : Unlike) → IsSame base codes lsn code → IsUnlike base codes lsn code why → ⊥
no_both base codes lsn code (other n) same unlike = unlike.3 (same.there unlike.2)
no_both base codes lsn code (gone n) same unlike = omega (arith, same.reached, unlike.1)

module _ {O : Type 0} (base : ℕ) (m : Meaning O) where
  pub all_joined : (codes : List (List ℕ)) (xs ys : List (Record O)) → with_all base m codes (xs ++ ys) ≡ with_all base m (with_all base m codes xs) ys
  all_joined codes [] ys = refl
  all_joined codes (r ∷ xs) ys = all_joined (with_code base codes (lsn_in r) (record_code m r)) xs ys

  pub same_joined : (codes : List (List ℕ)) (xs ys : List (Record O)) → AreSame base m codes xs → AreSame base m (with_all base m codes xs) ys → AreSame base m codes (xs ++ ys)
  same_joined codes [] ys first then = then
  same_joined codes (r ∷ xs) ys first then = (first.0, same_joined (with_code base codes (lsn_in r) (record_code m r)) xs ys first.1 then)

  pub same_apart : (codes : List (List ℕ)) (xs ys : List (Record O)) → AreSame base m codes (xs ++ ys) → AreSame base m codes xs × AreSame base m (with_all base m codes xs) ys
  same_apart codes [] ys same = (tt, same)
  same_apart codes (r ∷ xs) ys same = let rest = same_apart (with_code base codes (lsn_in r) (record_code m r)) xs ys same.1 in ((same.0, rest.0), rest.1)

  -- codes are only added
  pub all_longer : (codes : List (List ℕ)) (records : List (Record O)) → (more : List (List ℕ)) × (with_all base m codes records ≡ codes ++ more)
  all_longer codes [] = ([], sym (append-nil codes))
  all_longer codes (r ∷ records) =
      let code = record_code m r in
      let rest = all_longer (with_code base codes (lsn_in r) code) records in
      let here : (more : List (List ℕ)) × (with_code base codes (lsn_in r) code ≡ codes ++ more) =
      cond_both (nat_eq (lsn_in r) (base + length codes)) (codes ++ code ∷ []) codes (λ (l : List (List ℕ)). (more : List (List ℕ)) × (l ≡ codes ++ more)) (λ is. (code ∷ [], refl)) (λ is. ([], sym (append-nil codes))) in
      (here.0 ++ rest.0, rest.1 ∙ ap (λ (l : List (List ℕ)). l ++ rest.0) here.1 ∙ append_assoc codes here.0 rest.0)

  pub cut_back : (codes : List (List ℕ)) (records : List (Record O)) (now : List (List ℕ)) → now ≡ with_all base m codes records → take (length codes) now ≡ codes
  cut_back codes records now is =
      let longer = all_longer codes records in
      ap (λ (l : List (List ℕ)). take (length codes) l) (is ∙ longer.1) ∙ take-append_seam codes longer.0

  -- of a payload some first records were compared, up to this place
  pub record IsPart (first now : List (List ℕ)) (payload : List ℕ) (at : ℕ) : Type 0 where
    pub begun : List (Record O)
    pub count : at ≡ length (payload_of m begun)
    pub split : payload ≡ payload_of m begun ++ drop at payload
    pub shipped : AllByRecursion (MayBeShipped m) begun
    pub same : AreSame base m first begun
    pub codes_are : now ≡ with_all base m first begun

  pub no_part : (first : List (List ℕ)) (payload : List ℕ) → IsPart first first payload 0
  no_part first payload = record { begun = []; count = refl; split = refl; shipped = tt; same = tt; codes_are = refl }

  module _ (first now : List (List ℕ)) (payload : List ℕ) (at : ℕ) (part : IsPart first now payload at) where
    -- all of it
    pub whole_part : length payload ≤ at → IsPayloadCompared base m first now payload (Ok true)
    whole_part all = (part.begun, record { is = part.split ∙ ap (λ (l : List ℕ). payload_of m part.begun ++ l) (nothing (drop at payload) (omega (arith, length-drop at payload, all))) ∙ append-nil (payload_of m part.begun); shipped = part.shipped }, part.same, part.codes_are)
      where
        nothing : (l : List ℕ) → length l ≡ 0 → l ≡ []
        nothing [] is = refl
        nothing (b ∷ l) is = absurd (omega (arith, is))

    module _ (r : Record O) (starts : StartsWithRecord m (drop at payload) r) (with_lsn : HasLsn r) where
      pub code_there : (n : ℕ) → n ≡ length (record_code m r) → take n (drop at payload) ≡ record_code m r
      code_there n long = (λ i. take (long i) (starts.split i)) ∙ take-append_seam (record_code m r) starts.rest

      pub split_more : payload ≡ payload_of m part.begun ++ (record_code m r ++ starts.rest)
      split_more = part.split ∙ ap (λ (l : List ℕ). payload_of m part.begun ++ l) starts.split

      -- the next one is the same
      pub part_more : (new : List (List ℕ)) (lsn n : ℕ) (code : List ℕ) → lsn ≡ lsn_in r → n ≡ length (record_code m r) → code ≡ record_code m r → IsCompared base now new lsn code (Ok tt) → IsPart first new payload (at + n)
      part_more new lsn n code lsn_is long code_is compared =
          let here : IsSame base now (lsn_in r) (record_code m r) × (new ≡ with_code base now (lsn_in r) (record_code m r)) = subst (λ (k : ℕ). IsSame base now k (record_code m r) × (new ≡ with_code base now k (record_code m r))) lsn_is
          (subst (λ (l : List ℕ). IsSame base now lsn l × (new ≡ with_code base now lsn l)) code_is compared) in
          let begun = part.begun ++ r ∷ [] in
          let bytes = payload_push m part.begun r in
          let behind : drop (at + n) payload ≡ starts.rest = sym (drop-drop n at payload) ∙ (λ i. drop (long i) (starts.split i)) ∙ drop-append_seam (record_code m r) starts.rest in
          record {
            begun = begun;
            count = omega (arith, part.count, long, ap (λ (l : List ℕ). length l) bytes, length-append (payload_of m part.begun) (record_code m r));
            split = split_more ∙ sym (append_assoc (payload_of m part.begun) (record_code m r) starts.rest) ∙ (λ i. sym bytes i ++ sym behind i);
            shipped = all_append (MayBeShipped m) part.begun (r ∷ []) part.shipped ((starts.in_grammar, with_lsn), tt);
            same = same_joined first part.begun (r ∷ []) part.same (subst (λ (l : List (List ℕ)). IsSame base l (lsn_in r) (record_code m r)) part.codes_are here.0, tt);
            codes_are = here.1 ∙ ap (λ (l : List (List ℕ)). with_code base l (lsn_in r) (record_code m r)) part.codes_are ∙ sym (all_joined first part.begun (r ∷ []));
          }

      -- or it is not
      unlike_here : (why : Unlike) → IsUnlike base now (lsn_in r) (record_code m r) why → IsUnlikeWithin base m first payload why
      unlike_here why unlike = record {
        begun = part.begun;
        next = r;
        rest = starts.rest;
        shipped = part.shipped;
        next_shipped = (starts.in_grammar, with_lsn);
        split = split_more;
        same = part.same;
        unlike = subst (λ (l : List (List ℕ)). IsUnlike base l (lsn_in r) (record_code m r) why) part.codes_are unlike;
      }

      pub part_unlike : (new last : List (List ℕ)) (lsn : ℕ) (code : List ℕ) (e : CompareErr) → lsn ≡ lsn_in r → code ≡ record_code m r → IsCompared base now new lsn code (Err e) → IsPayloadCompared base m first last payload (Err e)
      part_unlike new last lsn code (Differs k) lsn_is code_is compared =
          unlike_here (other k) (subst (λ (l : List ℕ). IsUnlike base now (lsn_in r) l (other k)) code_is (subst (λ (j : ℕ). IsUnlike base now j code (other k)) lsn_is compared))
      part_unlike new last lsn code (Unknown k) lsn_is code_is compared =
          unlike_here (gone k) (subst (λ (l : List ℕ). IsUnlike base now (lsn_in r) l (gone k)) code_is (subst (λ (j : ℕ). IsUnlike base now j code (gone k)) lsn_is compared))
      part_unlike new last lsn code Memory lsn_is code_is compared = tt

  -- what was found where a record may begin
  abbrev pub IsNext : List ℕ → ℕ × ℕ → Type 0
  IsNext rest pair = (r : Record O) × StartsWithRecord m rest r × HasLsn r × (pair.0 ≡ lsn_in r) × (pair.1 ≡ length (record_code m r))

  -- what is left of a payload
  pub left_bytes : (payload : List ℕ) (at : ℕ) → take (length payload - at) (drop at payload) ≡ drop at payload
  left_bytes payload at = ap (λ (n : ℕ). take n (drop at payload)) (sym (length-drop at payload)) ∙ take-length (drop at payload)

  module _ (first now : List (List ℕ)) (payload : List ℕ) (at : ℕ) (part : IsPart first now payload at) (rest : List ℕ) (rest_is : rest ≡ drop at payload) (found : Option (ℕ × ℕ)) (lsn n : ℕ) (is : found ≡ Some (lsn, n)) (some : IfSome found (IsNext rest)) where
    it : IsNext (drop at payload) (lsn, n)
    it = subst (λ (l : List ℕ). IsNext l (lsn, n)) rest_is (subst (λ (o : Option (ℕ × ℕ)). IfSome o (IsNext rest)) is some)

    code_is : take n rest ≡ record_code m it.0
    code_is = ap (λ (l : List ℕ). take n l) rest_is ∙ code_there first now payload at part it.0 it.1 it.2 n it.4

    pub next_within : (0 < n) × (at + n ≤ length payload)
    next_within =
        let long = ap (λ (l : List ℕ). length l) (split_more first now payload at part it.0 it.1 it.2) in (
          omega (arith, it.4, some_bytes m it.0),
          omega (arith, long, part.count, it.4, length-append (payload_of m part.begun) (record_code m it.0 ++ it.1.rest), length-append (record_code m it.0) it.1.rest),
        )

    pub next_more : (new : List (List ℕ)) → IsCompared base now new lsn (take n rest) (Ok tt) → IsPart first new payload (at + n)
    next_more new compared = part_more first now payload at part it.0 it.1 it.2 new lsn n (take n rest) it.3 it.4 code_is compared

    pub next_unlike : (new last : List (List ℕ)) (e : CompareErr) → IsCompared base now new lsn (take n rest) (Err e) → IsPayloadCompared base m first last payload (Err e)
    next_unlike new last e compared = part_unlike first now payload at part it.0 it.1 it.2 new last lsn (take n rest) e it.3 code_is compared

  -- bytes that begin no record end no payload of records
  pub no_records : ((bytes : List ℕ) (first second : Record O) → StartsWithRecord m bytes first → StartsWithRecord m bytes second → first ≡ second) → (begun records : List (Record O)) (rest : List ℕ)
      → AllByRecursion (MayBeShipped m) begun → AllByRecursion (MayBeShipped m) records → 0 < length rest → BeginsNoRecord m rest → payload_of m begun ++ rest ≡ payload_of m records → ⊥
  no_records one_record [] [] rest all_b all_r some none same = omega (arith, some, ap (λ (l : List ℕ). length l) same)
  no_records one_record [] (r ∷ records) rest all_b all_r some none same = none r (record { rest = payload_of m records; split = same; in_grammar = all_r.0.0 }) all_r.0.1
  no_records one_record (b ∷ begun) [] rest all_b all_r some none same = no_code m b begun (nothing (payload_of m (b ∷ begun)) (omega (arith, length-append (payload_of m (b ∷ begun)) rest, ap (λ (l : List ℕ). length l) same)))
    where
      nothing : (l : List ℕ) → length l ≡ 0 → l ≡ []
      nothing [] is = refl
      nothing (b ∷ l) is = absurd (omega (arith, is))
  no_records one_record (b ∷ begun) (r ∷ records) rest all_b all_r some none same =
      let split : payload_of m (b ∷ begun) ++ rest ≡ record_code m b ++ (payload_of m begun ++ rest) = append_assoc (record_code m b) (payload_of m begun) rest in
      let head = one_record (payload_of m (r ∷ records)) b r (record { rest = payload_of m begun ++ rest; split = sym same ∙ split; in_grammar = all_b.0.0 }) (record { rest = payload_of m records; split = refl; in_grammar = all_r.0.0 }) in
      no_records one_record begun records rest all_b.1 all_r.1 some none
      (append_cancel_left (record_code m b) (payload_of m begun ++ rest) (payload_of m records) (sym split ∙ same ∙ ap (λ (s : Record O). record_code m s ++ payload_of m records) (sym head)))

  pub part_broken : ((bytes : List ℕ) (first second : Record O) → StartsWithRecord m bytes first → StartsWithRecord m bytes second → first ≡ second) → (first now new : List (List ℕ)) (payload : List ℕ) (at : ℕ)
      → IsPart first now payload at → at < length payload → (rest : List ℕ) → rest ≡ drop at payload → (found : Option (ℕ × ℕ)) → found ≡ None → IfNone found (BeginsNoRecord m rest) → new ≡ take (length first) now → IsPayloadCompared base m first new payload (Ok false)
  part_broken one_record first now new payload at part left rest rest_is found is none cut =
      let begins : BeginsNoRecord m (drop at payload) = subst (λ (l : List ℕ). BeginsNoRecord m l) rest_is (subst (λ (o : Option (ℕ × ℕ)). IfNone o (BeginsNoRecord m rest)) is none) in (
        cut ∙ cut_back first part.begun now part.codes_are,
        λ records is. no_records one_record part.begun records (drop at payload) part.shipped is.shipped (omega (arith, length-drop at payload, left)) begins (sym part.split ∙ is.is),
      )
