-- What directories have for names, where one is given an object or is taken away.
use Rattle.std.proofs.Common.{◌≡◌, ◌≢◌, ◌<◌, ◌^◌, ◌⊎◌, inl, inr, refl, sym, ap, ◌∙◌, subst, true≢false, ℕ, true, false, cond, None, Some, List, [], length, option_map}
use Rattle.std.proofs.lemmas.Bool.{cases_Bool, false_from_ne_true}
use Rattle.std.proofs.lemmas.Slice.Eq.{bytes_eq-Decides}
use Rattle.std.specs.Cmp.Lexicographic.{nat_list_cmp_total, texts_ties}
use Rattle.std.specs.FinMap.{FinMap, get, get-insert, get-remove, insert, remove}
use Rattle.std.specs.Ordering.{eq_by_cmp}
use Rattle.std.specs.Str.{bytes_eq}
use Rattle.oper_core.specs.LittleEndian.{little_number-little_bytes}
use Rattle.key_entries.specs.Entries.{byte_order}
use Rattle.key_entries.specs.EntryLaws.{same_some}
use Rattle.name_ranges.specs.Directory.{Directory, IsDirectory, IsSpare, key_of, name_in, number_bytes, number_in, object_of}

-- two texts are one, or two
pub tells : (a c : List ℕ) → (a ≡ c) ⊎ (a ≢ c)
tells a c = elim (cases_Bool (bytes_eq a c)) [
  | inl same ↦ inl ((bytes_eq-Decides a c).0 same)
  | inr apart ↦ inr (λ same. true≢false (sym ((bytes_eq-Decides a c).1 same) ∙ apart))
]

pub tied : (k : List ℕ) → eq_by_cmp byte_order k k ≡ true
tied k = sym (texts_ties k k) ∙ (bytes_eq-Decides k k).1 refl

pub untied : (q k : List ℕ) → q ≢ k → eq_by_cmp byte_order q k ≡ false
untied q k apart = sym (texts_ties q k) ∙ false_from_ne_true (bytes_eq q k) (λ e. apart ((bytes_eq-Decides q k).0 e))

module _ {X : Type 0} (m : FinMap byte_order X) where
  pub given_here : (k : List ℕ) (v : X) → get (insert m k v) k ≡ Some v
  given_here k v = get-insert nat_list_cmp_total m k v k ∙ ap (λ t. cond t (Some v) (get m k)) (tied k)

  pub given_other : (k q : List ℕ) (v : X) → q ≢ k → get (insert m k v) q ≡ get m q
  given_other k q v apart = get-insert nat_list_cmp_total m k v q ∙ ap (λ t. cond t (Some v) (get m q)) (untied q k apart)

  pub taken_here : (k : List ℕ) → get (remove m k) k ≡ None
  taken_here k = get-remove nat_list_cmp_total m k k ∙ ap (λ t. cond t None (get m k)) (tied k)

  pub taken_other : (k q : List ℕ) → q ≢ k → get (remove m k) q ≡ get m q
  taken_other k q apart = get-remove nat_list_cmp_total m k q ∙ ap (λ t. cond t None (get m q)) (untied q k apart)

-- names have keys of their own
pub one_key : (a c : List ℕ) → key_of a ≡ key_of c → a ≡ c
one_key a c same = ap name_in same

none_is : {A : Type 0} (x : A) → None ≢ Some x
none_is x e = cc

module _ (d : Directory) (name : List ℕ) where
  pub object_taken : object_of (remove d (key_of name)) name ≡ None
  object_taken = ap (option_map number_in) (taken_here d (key_of name))

  pub object_taken_other : (other : List ℕ) → other ≢ name → object_of (remove d (key_of name)) other ≡ object_of d other
  object_taken_other other apart = ap (option_map number_in) (taken_other d (key_of name) (key_of other) (λ same. apart (one_key other name same)))

  -- an object that a name has after another was taken away
  pub stays : (other : List ℕ) (x : ℕ) → object_of (remove d (key_of name)) other ≡ Some x → (other ≢ name) × (object_of d other ≡ Some x)
  stays other x has = elim (tells other name) [
    | inl same ↦ absurd (none_is x (sym (ap (object_of (remove d (key_of name))) same ∙ object_taken) ∙ has))
    | inr apart ↦ (apart, sym (object_taken_other other apart) ∙ has)
  ]

  module _ (hi objects : ℕ) (is : IsDirectory hi objects d) where
    pub directory_taken : IsDirectory hi objects (remove d (key_of name))
    directory_taken = record {
      whole = λ key number found. elim (tells key (key_of name)) [
        | inl same ↦ absurd (none_is number (sym (ap (get (remove d (key_of name))) same ∙ taken_here d (key_of name)) ∙ found))
        | inr apart ↦ is.whole key number (sym (taken_other d (key_of name) key apart) ∙ found)
      ];
      apart = λ a c x has also. is.apart a c x (stays a x has).1 (stays c x also).1;
      within = λ a x has. is.within a x (stays a x has).1;
    }

    -- its object is of no name then
    pub freed : (x : ℕ) → object_of d name ≡ Some x → IsSpare hi objects (remove d (key_of name)) x
    freed x has = record {
      behind = (is.within name x has).0;
      before = (is.within name x has).1;
      nameless = λ other also. let there = stays other x also in there.0 (is.apart other name x there.1 has);
    }

  module _ (x : ℕ) where
    abbrev given : Directory
    given = insert d (key_of name) (number_bytes x)

    pub object_given_other : (other : List ℕ) → other ≢ name → object_of given other ≡ object_of d other
    object_given_other other apart = ap (option_map number_in) (given_other d (key_of name) (key_of other) (number_bytes x) (λ same. apart (one_key other name same)))

    module _ (small : x < 2 ^ 32) where
      pub object_given : object_of given name ≡ Some x
      object_given = ap (option_map number_in) (given_here d (key_of name) (number_bytes x)) ∙ ap Some (little_number-little_bytes 4 x [] small)

      -- an object that a name has now is the given one, or it had it before
      comes : (other : List ℕ) (y : ℕ) → object_of given other ≡ Some y → ((other ≡ name) × (y ≡ x)) ⊎ ((other ≢ name) × (object_of d other ≡ Some y))
      comes other y has = elim (tells other name) [
        | inl same ↦ inl (same, same_some y x (sym has ∙ ap (object_of given) same ∙ object_given))
        | inr apart ↦ inr (apart, sym (object_given_other other apart) ∙ has)
      ]

      module _ (hi objects : ℕ) (is : IsDirectory hi objects d) (spare : IsSpare hi objects d x) where
        has_no_spare : (other : List ℕ) (y : ℕ) → object_of d other ≡ Some y → y ≡ x → ⊥
        has_no_spare other y has same = spare.nameless other (has ∙ ap Some same)

        one_name : (a c : List ℕ) (y : ℕ) → object_of given a ≡ Some y → object_of given c ≡ Some y → a ≡ c
        one_name a c y has also = elim (comes a y has) [
          | inl here ↦ elim (comes c y also) [
            | inl there ↦ here.0 ∙ sym there.0
            | inr there ↦ absurd (has_no_spare c y there.1 here.1)
          ]
          | inr here ↦ elim (comes c y also) [
            | inl there ↦ absurd (has_no_spare a y here.1 there.1)
            | inr there ↦ is.apart a c y here.1 there.1
          ]
        ]

        pub directory_given : IsDirectory hi objects given
        directory_given = record {
          whole = λ key number found. elim (tells key (key_of name)) [
            | inl same ↦
                let number_is : number_bytes x ≡ number = same_some (number_bytes x) number (sym (given_here d (key_of name) (number_bytes x)) ∙ ap (get given) (sym same) ∙ found) in
                (same ∙ ap (λ k. key_of (name_in k)) (sym same), ap length (sym number_is))
            | inr apart ↦ is.whole key number (sym (given_other d (key_of name) key (number_bytes x) apart) ∙ found)
          ];
          apart = one_name;
          within = λ a y has. elim (comes a y has) [
            | inl here ↦ (subst (λ z. hi < z) (sym here.1) spare.behind, subst (λ z. z < objects) (sym here.1) spare.before)
            | inr there ↦ is.within a y there.1
          ];
        }

        -- the object that the name had is of no name then
        pub replaced : (y : ℕ) → object_of d name ≡ Some y → IsSpare hi objects given y
        replaced y had = record {
          behind = (is.within name y had).0;
          before = (is.within name y had).1;
          nameless = λ other has. elim (comes other y has) [
            | inl here ↦ has_no_spare name y had here.1
            | inr there ↦ there.0 (is.apart other name y there.1 had)
          ];
        }
