-- A split leaves a hash file with the same content.
use Rattle.std.proofs.Common.{◌≡◌, ◌≢◌, ◌≤◌, ◌<◌, ℕ, suc, ◌%◌, ◌^◌, ◌==◌, Bool, true, false, ◌&&◌, if◌then◌else◌, Option, None, Some, List, [], All, slice_index_or, refl, sym, ap, ◌∙◌, subst, arith, inl, inr}
use Rattle.std.specs.Cmp.Lexicographic.{nat_list_cmp_total}
use Rattle.std.specs.FinMap.{same_map, slice_cmp-IsAntisymmetric, nat_cmp-IsAntisymmetric}
use Rattle.std.specs.FinMap.Entries.{find}
use Rattle.std.proofs.Math.Nat.{mod-lt}
use Rattle.std.proofs.lemmas.List.Elements.{All-filter, filter_passes}
use Rattle.std.proofs.lemmas.Bool.Decides.{eqb_tells}
use Rattle.oper_core.specs.State.{State}
use Rattle.key_entries.specs.Entries.{byte_order}
use Rattle.key_entries.specs.EntryLaws.{both_true, same_some}
use Rattle.key_entries.specs.ObjectLaws.{not_true}
use Rattle.key_entries.specs.ValueLaws.{same_test, other_test}
use Rattle.hash_ops.specs.Hash.{hash, has_bit}
use Rattle.hash_ops.specs.Blocks.{bucket, bucket_in, directory_in}
use Rattle.hash_ops.specs.BlockLaws.{is_same, same_is, splits_pairs}
use Rattle.hash_ops.specs.RenameLaws.{IsRenamed}
use Rattle.hash_ops.specs.Effects.{half, is_in_half, renamed_at}
use Rattle.hash_ops.specs.declared.bucket.Bucket.{Bucket}
use Rattle.hash_ops.specs.declared.directory.Directory.{Directory}
use Rattle.hash_file.specs.Find.{named_at, object_for}
use Rattle.hash_file.specs.File.{SameTruth, IsEntry, HasDirectory, pairs_in, content_of}
use Rattle.hash_file.proofs.BitLemmas.{power_some, low_of_low, bits_tell, bits_make, bit_tells, bit_of_low}
use Rattle.hash_file.proofs.ContentLemmas.{bucket_apart, content_get, entry_of}

-- what an entry names after a split
module _ (place old new : ℕ) (apart : old ≢ new) where
  -- the object of a half
  abbrev pub target : Bool → ℕ
  target upper = if upper then new else old

  pub stays : (i y : ℕ) → y ≢ old → renamed_at place old new i y ≡ y
  stays i y other = ap (λ (t : Bool). if t && has_bit place i then new else y) (other_test y old other)

  pub moves : (i : ℕ) (upper : Bool) → has_bit place i ≡ upper → renamed_at place old new i old ≡ target upper
  moves i upper bit = ap (λ (t : Bool). if t && has_bit place i then new else old) (same_test old) ∙ ap (λ (t : Bool). if t then new else old) bit

  pub stayed : (i y z : ℕ) → z ≢ new → renamed_at place old new i y ≡ z → (y ≡ z) × ((y ≡ old) → has_bit place i ≡ false)
  stayed i y z other is =
      elim (y == old && has_bit place i) as (λ t. (y == old && has_bit place i) ≡ t → (if t then new else y) ≡ z → (y ≡ z) × ((y ≡ old) → has_bit place i ≡ false)) [
        | true ↦ λ test e. absurd (other (sym e))
        | false ↦ λ test e. (e, λ same. sym (ap (λ (t : Bool). t && has_bit place i) (is_same y old same)) ∙ test)
      ] refl is

  moved_up : (i y : ℕ) → y ≢ new → renamed_at place old new i y ≡ new → (y ≡ old) × (has_bit place i ≡ true)
  moved_up i y other is =
      elim (y == old && has_bit place i) as (λ t. (y == old && has_bit place i) ≡ t → (if t then new else y) ≡ new → (y ≡ old) × (has_bit place i ≡ true)) [
        | true ↦ λ test e. let parts = both_true (y == old) (has_bit place i) test in (same_is y old parts.0, parts.1)
        | false ↦ λ test e. absurd (other e)
      ] refl is

  pub moved : (upper : Bool) (i y : ℕ) → y ≢ new → renamed_at place old new i y ≡ target upper → (y ≡ old) × (has_bit place i ≡ upper)
  moved true i y other is = moved_up i y other is
  moved false i y other is = let told = stayed i y old apart is in (told.0, told.1 told.0)

in_half_tells : (upper : Bool) (place : ℕ) (key : List ℕ) → is_in_half upper place key ≡ true → has_bit place (hash key) ≡ upper
in_half_tells true place key e = e
in_half_tells false place key e = not_true (has_bit place (hash key)) e

-- the pairs of the half of a key have what all pairs have
own_half : (place : ℕ) (pairs : List (List ℕ × List ℕ)) (key : List ℕ) (upper : Bool) → has_bit place (hash key) ≡ upper → find byte_order key (half upper place pairs) ≡ find byte_order key pairs
own_half place pairs key true bit = (splits_pairs place pairs).upper key ∙ ap (λ (t : Bool). if t then find byte_order key pairs else None) bit
own_half place pairs key false bit = (splits_pairs place pairs).lower key ∙ ap (λ (t : Bool). if t then None else find byte_order key pairs) bit

module _ (lo hi : ℕ) (s t : State) (old new : ℕ) (c : Bucket) (h : HasDirectory lo hi s) where
  -- what a split of the bucket makes of the state
  pub record IsSplit : Type 0 where
    pub few : c.depth < 6
    pub was : bucket_in (s old) ≡ Some c
    pub inside : (lo < new) × (new ≤ hi)
    pub empty : s new ≡ []
    pub after : Directory
    pub renamed : IsRenamed c.depth old new h.directory after
    pub is : directory_in (t lo) ≡ Some after
    pub low : bucket_in (t old) ≡ Some (bucket (suc c.depth) (half false c.depth c.pairs.items))
    pub high : bucket_in (t new) ≡ Some (bucket (suc c.depth) (half true c.depth c.pairs.items))
    pub others : (y : ℕ) → y ≢ lo → y ≢ old → y ≢ new → t y ≡ s y

  module _ (w : IsSplit) where
    abbrev d : Directory
    d = h.directory

    abbrev place : ℕ
    place = c.depth

    apart : old ≢ new
    apart = bucket_apart s old new c w.empty w.was

    abbrev low_index : ℕ → ℕ
    low_index i = i % 2 ^ d.depth

    low_small : (i : ℕ) → low_index i < 2 ^ d.depth
    low_small i = mod-lt i (power_some d.depth)

    abbrev before : (i : ℕ) → IsEntry lo hi s d (low_index i)
    before i = h.entries (low_index i) (low_small i)

    -- what the entry of the low bits named
    abbrev named : ℕ → ℕ
    named i = named_at d (low_index i)

    not_new : (i : ℕ) → named i ≢ new
    not_new i = bucket_apart s (named i) new (before i).bucket w.empty (before i).is

    not_lo : (i : ℕ) → named i ≢ lo
    not_lo i same = omega (arith, (before i).inside.0, same)

    shallow : d.depth ≤ 6
    shallow = omega (arith, w.renamed.grows, w.renamed.shape.shallow)

    low_both : (n i : ℕ) → n ≤ d.depth → low_index i % 2 ^ n ≡ i % 2 ^ n
    low_both n i below = low_of_low n d.depth i below shallow

    object_after : (key : List ℕ) → object_for w.after key ≡ renamed_at place old new (hash key) (object_for d key)
    object_after key =
        let number : ℕ = hash key % 2 ^ w.after.depth in
        let bit : has_bit place number ≡ has_bit place (hash key) = bit_of_low place w.after.depth (hash key) w.renamed.deep w.renamed.shape.shallow in
        let low : low_index number ≡ hash key % 2 ^ d.depth = low_of_low d.depth w.after.depth (hash key) w.renamed.grows w.renamed.shape.shallow in
        w.renamed.entries number (mod-lt (hash key) (power_some w.after.depth)) ∙ ap (λ (k : ℕ). renamed_at place old new number (named_at d k)) low
        ∙ ap (λ (b : Bool). if object_for d key == old && b then new else object_for d key) bit

    -- an entry of another bucket
    other_entry : (i : ℕ) → i < 2 ^ w.after.depth → named i ≢ old → IsEntry lo hi t w.after i
    other_entry i within other =
        let e = before i in
        let now : named_at w.after i ≡ named i = w.renamed.entries i within ∙ stays place old new apart i (named i) other in
        let n : ℕ = e.bucket.depth in
        record {
          inside = subst (λ (z : ℕ). (lo < z) × (z ≤ hi)) (sym now) e.inside;
          bucket = e.bucket;
          is = ap (λ (z : ℕ). bucket_in (t z)) now ∙ ap bucket_in (w.others (named i) (not_lo i) other (not_new i)) ∙ e.is;
          shallow = omega (arith, e.shallow, w.renamed.grows);
          alike = λ j below. (
            λ same.
                let told = stayed place old new apart j (named j) (named i) (not_new i) (sym (w.renamed.entries j below) ∙ same ∙ now) in
                sym (low_both n j e.shallow) ∙ (e.alike (low_index j) (low_small j)).0 told.0 ∙ low_both n i e.shallow,
            λ low.
                let same : named j ≡ named i = (e.alike (low_index j) (low_small j)).1 (low_both n j e.shallow ∙ low ∙ sym (low_both n i e.shallow)) in
                w.renamed.entries j below ∙ ap (λ (z : ℕ). renamed_at place old new j z) same ∙ stays place old new apart j (named i) other ∙ sym now,
          );
          keys = λ k default less.
              let key : List ℕ = (slice_index_or e.bucket.pairs.items k default).0 in
              object_after key ∙ ap (λ (z : ℕ). renamed_at place old new (hash key) z) (e.keys k default less) ∙ stays place old new apart (hash key) (named i) other ∙ sym now;
        }

    -- the bucket of a half
    half_is : (upper : Bool) → bucket_in (t (target place old new apart upper)) ≡ Some (bucket (suc place) (half upper place c.pairs.items))
    half_is true = w.high
    half_is false = w.low

    half_inside : (upper : Bool) → (lo < old) × (old ≤ hi) → (lo < target place old new apart upper) × (target place old new apart upper ≤ hi)
    half_inside true inside = w.inside
    half_inside false inside = inside

    -- an entry of the bucket that is split
    half_entry : (i : ℕ) → i < 2 ^ w.after.depth → named i ≡ old → (upper : Bool) → has_bit place i ≡ upper → IsEntry lo hi t w.after i
    half_entry i within same upper bit =
        let e = before i in
        let to : ℕ = target place old new apart upper in
        let now : named_at w.after i ≡ to = w.renamed.entries i within ∙ ap (λ (z : ℕ). renamed_at place old new i z) same ∙ moves place old new apart i upper bit in
        let whole : e.bucket ≡ c = same_some e.bucket c (sym e.is ∙ ap (λ (z : ℕ). bucket_in (s z)) same ∙ w.was) in
        let below : place ≤ d.depth = subst (λ (b : Bucket). b.depth ≤ d.depth) whole e.shallow in
        let alike : (j : ℕ) → SameTruth (named j ≡ named i) (low_index j % 2 ^ place ≡ low_index i % 2 ^ place) =
        λ j. subst (λ (b : Bucket). SameTruth (named j ≡ named i) (low_index j % 2 ^ b.depth ≡ low_index i % 2 ^ b.depth)) whole (e.alike (low_index j) (low_small j)) in
        let homes : All (λ p. object_for d p.0 ≡ named i) c.pairs.items = subst (λ (b : Bucket). All (λ p. object_for d p.0 ≡ named i) b.pairs.items) whole e.keys in
        record {
          inside = subst (λ (z : ℕ). (lo < z) × (z ≤ hi)) (sym now) (half_inside upper (subst (λ (z : ℕ). (lo < z) × (z ≤ hi)) same e.inside));
          bucket = bucket (suc place) (half upper place c.pairs.items);
          is = ap (λ (z : ℕ). bucket_in (t z)) now ∙ half_is upper;
          shallow = omega (arith, w.renamed.deep);
          alike = λ j less. (
            λ equal.
                let told = moved place old new apart upper j (named j) (not_new j) (sym (w.renamed.entries j less) ∙ equal ∙ now) in
                bits_make place i j w.few (sym (low_both place j below) ∙ (alike j).0 (told.0 ∙ sym same) ∙ low_both place i below) (bit_tells place i j (told.1 ∙ sym bit)),
            λ low.
                let bits = bits_tell place i j w.few low in
                let also : named j ≡ named i = (alike j).1 (low_both place j below ∙ bits.0 ∙ sym (low_both place i below)) in
                w.renamed.entries j less ∙ ap (λ (z : ℕ). renamed_at place old new j z) (also ∙ same) ∙ moves place old new apart j upper (ap (λ (k : ℕ). k == 1) bits.1 ∙ bit) ∙ sym now,
          );
          keys = λ k default less.
              let pairs : List (List ℕ × List ℕ) = half upper place c.pairs.items in
              let key : List ℕ = (slice_index_or pairs k default).0 in
              let home : object_for d key ≡ named i = All-filter (λ e. is_in_half upper place e.0) (λ p. object_for d p.0 ≡ named i) c.pairs.items homes k default less in
              let here : has_bit place (hash key) ≡ upper = in_half_tells upper place key (filter_passes (λ e. is_in_half upper place e.0) c.pairs.items k default less) in
              object_after key ∙ ap (λ (z : ℕ). renamed_at place old new (hash key) z) (home ∙ same) ∙ moves place old new apart (hash key) upper here ∙ sym now;
        }

    pub split_file : HasDirectory lo hi t
    split_file = record {
      directory = w.after;
      is = w.is;
      entries = λ i within. elim (eqb_tells (named i) old) [
        | inl same ↦ half_entry i within same.1 (has_bit place i) refl
        | inr other ↦ other_entry i within other.1
      ];
    }

    key_keeps : (key : List ℕ) → find byte_order key (pairs_in (bucket_in (t (object_for w.after key)))) ≡ find byte_order key (pairs_in (bucket_in (s (object_for d key))))
    key_keeps key =
        let y : ℕ = object_for d key in
        let e = entry_of lo hi s h key in
        let bit : Bool = has_bit place (hash key) in
        elim (eqb_tells y old) [
          | inl same ↦
              let now : object_for w.after key ≡ target place old new apart bit = object_after key ∙ ap (λ (z : ℕ). renamed_at place old new (hash key) z) same.1 ∙ moves place old new apart (hash key) bit refl in
              ap (λ (z : ℕ). find byte_order key (pairs_in (bucket_in (t z)))) now ∙ ap (λ (o : Option Bucket). find byte_order key (pairs_in o)) (half_is bit)
              ∙ own_half place c.pairs.items key bit refl ∙ sym (ap (λ (z : ℕ). find byte_order key (pairs_in (bucket_in (s z)))) same.1 ∙ ap (λ (o : Option Bucket). find byte_order key (pairs_in o)) w.was)
          | inr other ↦
              let now : object_for w.after key ≡ y = object_after key ∙ stays place old new apart (hash key) y other.1 in
              let above : y ≢ lo = λ at. omega (arith, e.inside.0, at) in
              ap (λ (z : ℕ). find byte_order key (pairs_in (bucket_in (t z)))) now
              ∙ ap (λ (v : List ℕ). find byte_order key (pairs_in (bucket_in v))) (w.others y above other.1 (bucket_apart s y new e.bucket w.empty e.is))
        ]

    pub split_content : content_of lo t ≡ content_of lo s
    unfolding split_file
    split_content =
        same_map nat_list_cmp_total (slice_cmp-IsAntisymmetric nat_cmp-IsAntisymmetric) (content_of lo t) (content_of lo s)
        (λ key. content_get lo hi t split_file key ∙ key_keeps key ∙ sym (content_get lo hi s h key))
