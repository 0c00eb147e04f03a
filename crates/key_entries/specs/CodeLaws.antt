-- A code is read back as what it was made of, and nothing else is read.
use Rattle.std.proofs.Common.{◌≡◌, ℕ, ◌+◌, ◌^◌, ◌==◌, Bool, true, if◌then◌else◌, Option, Some, List, [], ◌∷◌, ◌++◌, length, drop, inl, inr, refl, sym, ap, ◌∙◌, subst, option_map, option_and_then, drop-drop}
use Rattle.std.specs.Prelude.{IsTrue, nat_lt}
use Rattle.std.specs.List.{list_all}
use Rattle.std.proofs.lemmas.Bool.Decides.{eqb_tells}
use Rattle.byteorder.specs.Endian.{little_bytes}
use Rattle.key_entries.specs.Short.{is_short, short_code, short_in}
use Rattle.key_entries.specs.Entries.{short_field, child_in, entry_code, entry_in}
use Rattle.key_entries.specs.EntryLaws.{AreBytes, bytes_behind, both_true, and_then_some, map_some, short_found, short_begins, short_exact, child_found, child_begins, entry_found, entry_begins, split_off}
use Rattle.key_entries.specs.Codes.{put_code, delete_code, two_code, three_code, put_fields, delete_fields, two_fields, three_fields, put_in, delete_in, two_in, three_in}

-- an object that is read at a place is there, and the rest after it
child_at : (n m x : ℕ) (body : List ℕ) → AreBytes body → n + 4 ≡ m → child_in (drop n body) ≡ Some x → drop n body ≡ little_bytes 4 x ++ drop m body
child_at n m x body are next is =
    let behind : drop 4 (drop n body) ≡ drop m body = drop-drop 4 n body ∙ ap (λ (k : ℕ). drop k body) next in
    (child_begins (drop n body) x (bytes_behind n body are) is).0 ∙ ap (λ (l : List ℕ). little_bytes 4 x ++ l) behind

joined : (a b c : ℕ) (body at_b at_c rest : List ℕ) → body ≡ little_bytes 4 a ++ at_b → at_b ≡ little_bytes 4 b ++ at_c → at_c ≡ little_bytes 4 c ++ rest
    → body ≡ little_bytes 4 a ++ (little_bytes 4 b ++ (little_bytes 4 c ++ rest))
joined a b c body at_b at_c rest one two three =
    one ∙ ap (λ (l : List ℕ). little_bytes 4 a ++ l) (two ∙ ap (λ (l : List ℕ). little_bytes 4 b ++ l) three)

module _ {O : Type 0} where
  -- what is read of the code of a put, and what a put that is read says of the bytes
  module _ (make : ℕ → List ℕ → List ℕ → O) where
    pub put_found : (object : ℕ) (key value rest : List ℕ) → IsTrue (nat_lt object (2 ^ 32)) → IsTrue (is_short key) → IsTrue (is_short value)
        → put_in make (little_bytes 4 object ++ ((short_code key ++ short_code value) ++ rest)) ≡ Some (make object key value)
    put_found object key value rest small short fits =
        let behind : List ℕ = (short_code key ++ short_code value) ++ rest in
        ap (λ (o : Option ℕ). option_map (λ (t : ℕ × List ℕ × List ℕ). make t.0 t.1 t.2) (option_and_then (λ (object : ℕ). option_map (λ (pair : List ℕ × List ℕ). (object, pair.0, pair.1)) (entry_in short_field behind)) o)) (child_found object behind small)
        ∙ ap (λ (o : Option (List ℕ × List ℕ)). option_map (λ (t : ℕ × List ℕ × List ℕ). make t.0 t.1 t.2) (option_map (λ (pair : List ℕ × List ℕ). (object, pair.0, pair.1)) o)) (entry_found short_field short_exact (key, value) rest short fits)

    pub record IsPutAt (tag : ℕ) (body : List ℕ) (op : O) : Type 0 where
      pub object : ℕ
      pub key : List ℕ
      pub value : List ℕ
      pub is : make object key value ≡ op
      pub split : tag ∷ body ≡ put_code tag object key value ++ drop (length (put_code tag object key value)) (tag ∷ body)
      pub short : IsTrue (is_short key)
      pub fits : IsTrue (is_short value)

    pub put_begins : (tag : ℕ) (body : List ℕ) (op : O) → AreBytes body → put_in make body ≡ Some op → IsPutAt tag body op
    put_begins tag body op are is =
        let fields = map_some (λ (t : ℕ × List ℕ × List ℕ). make t.0 t.1 t.2) (put_fields body) op is in
        let object = and_then_some (λ (object : ℕ). option_map (λ (pair : List ℕ × List ℕ). (object, pair.0, pair.1)) (entry_in short_field (drop 4 body))) (child_in body) fields.0 fields.1 in
        let pair = map_some (λ (pair : List ℕ × List ℕ). (object.0, pair.0, pair.1)) (entry_in short_field (drop 4 body)) fields.0 object.2 in
        let front = (child_begins body object.0 are object.1).0 in
        let next = entry_begins short_field short_exact (drop 4 body) pair.0 (bytes_behind 4 body are) pair.1 in
        record {
          object = object.0;
          key = pair.0.0;
          value = pair.0.1;
          is = ap (λ (t : ℕ × List ℕ × List ℕ). make t.0 t.1 t.2) pair.2 ∙ fields.2;
          split = split_off (put_code tag object.0 pair.0.0 pair.0.1) (drop (length (entry_code short_field pair.0)) (drop 4 body)) (tag ∷ body)
              (ap (λ (l : List ℕ). tag ∷ l) (front ∙ ap (λ (l : List ℕ). little_bytes 4 object.0 ++ l) next.begins));
          short = next.short;
          fits = next.fits;
        }

  -- the same of a delete
  module _ (make : ℕ → List ℕ → O) where
    pub delete_found : (object : ℕ) (key rest : List ℕ) → IsTrue (nat_lt object (2 ^ 32)) → IsTrue (is_short key)
        → delete_in make (little_bytes 4 object ++ (short_code key ++ rest)) ≡ Some (make object key)
    delete_found object key rest small short =
        let behind : List ℕ = short_code key ++ rest in
        ap (λ (o : Option ℕ). option_map (λ (t : ℕ × List ℕ). make t.0 t.1) (option_and_then (λ (object : ℕ). option_map (λ (key : List ℕ). (object, key)) (short_in behind)) o)) (child_found object behind small)
        ∙ ap (λ (o : Option (List ℕ)). option_map (λ (t : ℕ × List ℕ). make t.0 t.1) (option_map (λ (key : List ℕ). (object, key)) o)) (short_found key rest short)

    pub record IsDeleteAt (tag : ℕ) (body : List ℕ) (op : O) : Type 0 where
      pub object : ℕ
      pub key : List ℕ
      pub is : make object key ≡ op
      pub split : tag ∷ body ≡ delete_code tag object key ++ drop (length (delete_code tag object key)) (tag ∷ body)
      pub short : IsTrue (is_short key)

    pub delete_begins : (tag : ℕ) (body : List ℕ) (op : O) → AreBytes body → delete_in make body ≡ Some op → IsDeleteAt tag body op
    delete_begins tag body op are is =
        let fields = map_some (λ (t : ℕ × List ℕ). make t.0 t.1) (delete_fields body) op is in
        let object = and_then_some (λ (object : ℕ). option_map (λ (key : List ℕ). (object, key)) (short_in (drop 4 body))) (child_in body) fields.0 fields.1 in
        let key = map_some (λ (key : List ℕ). (object.0, key)) (short_in (drop 4 body)) fields.0 object.2 in
        let front = (child_begins body object.0 are object.1).0 in
        let next = short_begins (drop 4 body) key.0 key.1 in
        record {
          object = object.0;
          key = key.0;
          is = ap (λ (t : ℕ × List ℕ). make t.0 t.1) key.2 ∙ fields.2;
          split = split_off (delete_code tag object.0 key.0) (drop (length (short_code key.0)) (drop 4 body)) (tag ∷ body)
              (ap (λ (l : List ℕ). tag ∷ l) (front ∙ ap (λ (l : List ℕ). little_bytes 4 object.0 ++ l) next.0));
          short = next.1;
        }

  -- the same of two objects
  module _ (make : ℕ → ℕ → O) where
    pub two_found : (a b : ℕ) (rest : List ℕ) → IsTrue (list_all (λ x. nat_lt x (2 ^ 32)) (a ∷ b ∷ [])) → two_in make (little_bytes 4 a ++ (little_bytes 4 b ++ rest)) ≡ Some (make a b)
    two_found a b rest small =
        let first = both_true (nat_lt a (2 ^ 32)) (list_all (λ x. nat_lt x (2 ^ 32)) (b ∷ [])) small in
        let second = both_true (nat_lt b (2 ^ 32)) true first.1 in
        let at_b : List ℕ = little_bytes 4 b ++ rest in
        ap (λ (o : Option ℕ). option_map (λ (t : ℕ × ℕ). make t.0 t.1) (option_and_then (λ (a : ℕ). option_map (λ (b : ℕ). (a, b)) (child_in at_b)) o)) (child_found a at_b first.0)
        ∙ ap (λ (o : Option ℕ). option_map (λ (t : ℕ × ℕ). make t.0 t.1) (option_map (λ (b : ℕ). (a, b)) o)) (child_found b rest second.0)

    pub record AreTwoAt (tag : ℕ) (body : List ℕ) (op : O) : Type 0 where
      pub a : ℕ
      pub b : ℕ
      pub is : make a b ≡ op
      pub split : tag ∷ body ≡ two_code tag a b ++ drop (length (two_code tag a b)) (tag ∷ body)

    pub two_begin : (tag : ℕ) (body : List ℕ) (op : O) → AreBytes body → two_in make body ≡ Some op → AreTwoAt tag body op
    two_begin tag body op are is =
        let fields = map_some (λ (t : ℕ × ℕ). make t.0 t.1) (two_fields body) op is in
        let a = and_then_some (λ (a : ℕ). option_map (λ (b : ℕ). (a, b)) (child_in (drop 4 body))) (child_in body) fields.0 fields.1 in
        let b = map_some (λ (b : ℕ). (a.0, b)) (child_in (drop 4 body)) fields.0 a.2 in
        record {
          a = a.0;
          b = b.0;
          is = ap (λ (t : ℕ × ℕ). make t.0 t.1) b.2 ∙ fields.2;
          split = split_off (two_code tag a.0 b.0) (drop 8 body) (tag ∷ body)
              (ap (λ (l : List ℕ). tag ∷ l) (child_at 0 4 a.0 body are refl a.1 ∙ ap (λ (l : List ℕ). little_bytes 4 a.0 ++ l) (child_at 4 8 b.0 body are refl b.1)));
        }

  -- the same of three
  module _ (make : ℕ → ℕ → ℕ → O) where
    pub three_found : (a b c : ℕ) (rest : List ℕ) → IsTrue (list_all (λ x. nat_lt x (2 ^ 32)) (a ∷ b ∷ c ∷ []))
        → three_in make (little_bytes 4 a ++ (little_bytes 4 b ++ (little_bytes 4 c ++ rest))) ≡ Some (make a b c)
    three_found a b c rest small =
        let first = both_true (nat_lt a (2 ^ 32)) (list_all (λ x. nat_lt x (2 ^ 32)) (b ∷ c ∷ [])) small in
        let second = both_true (nat_lt b (2 ^ 32)) (list_all (λ x. nat_lt x (2 ^ 32)) (c ∷ [])) first.1 in
        let third = both_true (nat_lt c (2 ^ 32)) true second.1 in
        let at_c : List ℕ = little_bytes 4 c ++ rest in
        let at_b : List ℕ = little_bytes 4 b ++ at_c in
        ap (λ (o : Option ℕ). option_map (λ (t : ℕ × ℕ × ℕ). make t.0 t.1 t.2) (option_and_then (λ (a : ℕ). option_and_then (λ (b : ℕ). option_map (λ (c : ℕ). (a, b, c)) (child_in at_c)) (child_in at_b)) o)) (child_found a at_b first.0)
        ∙ ap (λ (o : Option ℕ). option_map (λ (t : ℕ × ℕ × ℕ). make t.0 t.1 t.2) (option_and_then (λ (b : ℕ). option_map (λ (c : ℕ). (a, b, c)) (child_in at_c)) o)) (child_found b at_c second.0)
        ∙ ap (λ (o : Option ℕ). option_map (λ (t : ℕ × ℕ × ℕ). make t.0 t.1 t.2) (option_map (λ (c : ℕ). (a, b, c)) o)) (child_found c rest third.0)

    pub record AreThreeAt (tag : ℕ) (body : List ℕ) (op : O) : Type 0 where
      pub a : ℕ
      pub b : ℕ
      pub c : ℕ
      pub is : make a b c ≡ op
      pub split : tag ∷ body ≡ three_code tag a b c ++ drop (length (three_code tag a b c)) (tag ∷ body)

    pub three_begin : (tag : ℕ) (body : List ℕ) (op : O) → AreBytes body → three_in make body ≡ Some op → AreThreeAt tag body op
    three_begin tag body op are is =
        let fields = map_some (λ (t : ℕ × ℕ × ℕ). make t.0 t.1 t.2) (three_fields body) op is in
        let a = and_then_some (λ (a : ℕ). option_and_then (λ (b : ℕ). option_map (λ (c : ℕ). (a, b, c)) (child_in (drop 8 body))) (child_in (drop 4 body))) (child_in body) fields.0 fields.1 in
        let b = and_then_some (λ (b : ℕ). option_map (λ (c : ℕ). (a.0, b, c)) (child_in (drop 8 body))) (child_in (drop 4 body)) fields.0 a.2 in
        let c = map_some (λ (c : ℕ). (a.0, b.0, c)) (child_in (drop 8 body)) fields.0 b.2 in
        record {
          a = a.0;
          b = b.0;
          c = c.0;
          is = ap (λ (t : ℕ × ℕ × ℕ). make t.0 t.1 t.2) c.2 ∙ fields.2;
          split = split_off (three_code tag a.0 b.0 c.0) (drop 12 body) (tag ∷ body)
              (ap (λ (l : List ℕ). tag ∷ l) (joined a.0 b.0 c.0 body (drop 4 body) (drop 8 body) (drop 12 body)
              (child_at 0 4 a.0 body are refl a.1) (child_at 4 8 b.0 body are refl b.1) (child_at 8 12 c.0 body are refl c.1)));
        }

-- what is there by the branch of a tag, and by the others
pub chosen : {O : Type 0} (IsAt : List ℕ → O → Type 0) (tag t : ℕ) (body : List ℕ) (here others : Option O) (op : O) → (if tag == t then here else others) ≡ Some op
    → (here ≡ Some op → IsAt (t ∷ body) op) → (others ≡ Some op → IsAt (tag ∷ body) op) → IsAt (tag ∷ body) op
chosen IsAt tag t body here others op is one rest =
    elim (eqb_tells tag t) [
      | inl same ↦ subst (λ (t : ℕ). IsAt (t ∷ body) op) (sym same.1) (one (sym (ap (λ (b : Bool). if b then here else others) same.0) ∙ is))
      | inr other ↦ rest (sym (ap (λ (b : Bool). if b then here else others) other.0) ∙ is)
    ]
