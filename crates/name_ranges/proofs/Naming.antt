-- What operations do to names and their values.
use Rattle.std.proofs.Common.{◌≡◌, ◌≢◌, ◌<◌, ◌≤◌, inl, inr, refl, sym, ap, ◌∙◌, subst, arith, ℕ, Option, None, Some, List, [], ◌∷◌, length, option_map}
use Rattle.std.proofs.lemmas.Bool.Decides.{eqb_tells}
use Rattle.std.specs.FinMap.{get, insert}
use Rattle.oper_core.specs.State.{State}
use Rattle.oper_core.specs.Meaning.{after}
use Rattle.oper_core.specs.declared.bounds.Bounds.{Bounds}
use Rattle.op_codec.specs.AllOps.{AllOps, all_meaning}
use Rattle.page_map.specs.Map.{content_of}
use Rattle.page_map.specs.Sets.{IsKept}
use Rattle.named_words.specs.Effects.{Names}
use Rattle.name_ranges.specs.Changes.{Leaves, Writes}
use Rattle.name_ranges.specs.Directory.{Directory, IsDirectory, IsSpare, object_of}
use Rattle.name_ranges.specs.Named.{IsNamed, directory_of}
use Rattle.name_ranges.proofs.Alike.{kept_alike}
use Rattle.name_ranges.proofs.Directories.{given_here, given_other, tells}

-- states that have the same in an object, where there is one
pub values_alike : (s t : State) (o : Option ℕ) → ((z : ℕ) → o ≡ Some z → t z ≡ s z) → option_map t o ≡ option_map s o
values_alike s t None alike = refl
values_alike s t (Some z) alike = ap Some (alike z refl)

-- names in a range that is a map with this directory
pub record AreNamed (b : Bounds) (lo hi : ℕ) (t : State) (names : Names) (d : Directory) : Type 0 where
  pub named : IsNamed b lo hi t names
  pub content : directory_of named ≡ d

pub are_named : (b : Bounds) (lo hi : ℕ) (t : State) (names : Names) (d : Directory) (kept : IsKept b lo hi t) → content_of kept.map ≡ d → IsDirectory hi b.objects d
    → ((name : List ℕ) → get names name ≡ option_map t (object_of d name)) → AreNamed b lo hi t names d
are_named b lo hi t names d kept same is value = record {
  named = record {
    kept = kept;
    directory = subst (IsDirectory hi b.objects) (sym same) is;
    value = λ name. value name ∙ ap (λ (e : Directory). option_map t (object_of e name)) (sym same);
  };
  content = same;
}

module _ (b : Bounds) (lo hi : ℕ) (s : State) (names : Names) (is : IsNamed b lo hi s names) where
  -- a name is given the value of an object that no other name has
  pub given_value : (t : State) (name : List ℕ) (x : ℕ) (d : Directory) → object_of d name ≡ Some x → ((other : List ℕ) → other ≢ name → object_of d other ≡ object_of (directory_of is) other)
      → ((other : List ℕ) (z : ℕ) → other ≢ name → object_of (directory_of is) other ≡ Some z → t z ≡ s z) → (other : List ℕ) → get (insert names name (t x)) other ≡ option_map t (object_of d other)
  given_value t name x d has same alike other = elim (tells other name) [
    | inl here ↦ ap (get (insert names name (t x))) here ∙ given_here names name (t x) ∙ sym (ap (λ n. option_map t (object_of d n)) here ∙ ap (option_map t) has)
    | inr apart ↦
        given_other names name other (t x) apart ∙ is.value other ∙ sym (values_alike s t (object_of (directory_of is) other) (λ z. alike other z apart))
        ∙ ap (option_map t) (sym (same other apart))
  ]

  -- an operation that writes one object behind the range
  module _ (op : AllOps) (x : ℕ) (bytes : List ℕ) (writes : Writes b s op x bytes) (fits : length bytes ≤ b.cap) where
    abbrev t : State
    t = after (all_meaning b) s op

    short : (z : ℕ) → length (t z) ≤ b.cap
    short z = elim (eqb_tells z x) [
      | inl here ↦ subst (λ (v : List ℕ). length v ≤ b.cap) (sym (ap t here.1 ∙ writes.made)) fits
      | inr apart ↦ subst (λ (v : List ℕ). length v ≤ b.cap) (sym (writes.others z apart.1)) (is.kept.values_fit z)
    ]

    kept : hi < x → (also : IsKept b lo hi t) × (content_of also.map ≡ directory_of is)
    kept behind = kept_alike b lo hi s t (λ z low high. writes.others z (λ same. absurd (omega (arith, behind, high, same)))) short is.kept

    leaves : (others : Names) → AreNamed b lo hi t others (directory_of is) → Leaves b s lo hi (op ∷ []) others (directory_of is)
    leaves others are = record { accepted = (writes.accepted, tt); named = are.named; content = are.content }

    pub value_given : (name : List ℕ) → object_of (directory_of is) name ≡ Some x → Leaves b s lo hi (op ∷ []) (insert names name bytes) (directory_of is)
    value_given name has =
        let also = kept (is.directory.within name x has).0 in
        let value : (other : List ℕ) → get (insert names name (t x)) other ≡ option_map t (object_of (directory_of is) other) =
        given_value t name x (directory_of is) has (λ other apart. refl) (λ other z apart there. writes.others z (λ same. apart (is.directory.apart other name x (there ∙ ap Some same) has))) in
        leaves (insert names name bytes)
        (are_named b lo hi t (insert names name bytes) (directory_of is) also.0 also.1 is.directory (λ other. ap (λ (v : List ℕ). get (insert names name v) other) (sym writes.made) ∙ value other))

    pub value_spare : IsSpare hi b.objects (directory_of is) x → Leaves b s lo hi (op ∷ []) names (directory_of is)
    value_spare spare =
        let also = kept spare.behind in
        leaves names
        (are_named b lo hi t names (directory_of is) also.0 also.1 is.directory
        (λ other. is.value other ∙ sym (values_alike s t (object_of (directory_of is) other) (λ z has. writes.others z (λ same. spare.nameless other (has ∙ ap Some same))))))
