-- A put and a delete write one bucket: they leave a hash file, and change its content as a map.
use Rattle.std.proofs.Common.{◌≡◌, ◌≢◌, ◌≤◌, ◌<◌, ◌⊎◌, ℕ, ◌%◌, ◌^◌, Bool, true, false, not, ◌||◌, if◌then◌else◌, Option, None, Some, List, All, length, refl, sym, ap, ◌∙◌, subst, arith, inl, inr}
use Rattle.std.specs.Prelude.{IsTrue, nat_lt}
use Rattle.std.specs.Ordering.{eq_by_cmp}
use Rattle.std.specs.Cmp.Lexicographic.{nat_list_cmp_total}
use Rattle.std.specs.FinMap.{get, insert, remove, get-insert, get-remove, same_map, slice_cmp-IsAntisymmetric, nat_cmp-IsAntisymmetric}
use Rattle.std.specs.FinMap.Entries.{find, put}
use Rattle.std.proofs.lemmas.Bool.{ltb-true}
use Rattle.std.proofs.lemmas.Bool.Decides.{eqb_tells}
use Rattle.std.proofs.lemmas.List.Elements.{All-filter}
use Rattle.oper_core.specs.State.{State}
use Rattle.oper_core.specs.Meaning.{after}
use Rattle.oper_core.specs.declared.bounds.Bounds.{Bounds}
use Rattle.key_entries.specs.Short.{is_short}
use Rattle.key_entries.specs.Entries.{AreEntries, byte_order, short_field}
use Rattle.key_entries.specs.EntryLaws.{same_some}
use Rattle.key_entries.specs.KeyLaws.{same_key}
use Rattle.key_entries.specs.Pairs.{has, without, IsUpdate}
use Rattle.key_entries.specs.PairLaws.{all_put, put_updates, put_keeps, delete_updates, delete_keeps}
use Rattle.key_entries.specs.ValueLaws.{one_at, one_beside}
use Rattle.hash_ops.specs.Blocks.{bucket, bucket_code, bucket_in, directory_in}
use Rattle.hash_ops.specs.BlockLaws.{bucket_found, bucket_known}
use Rattle.hash_ops.specs.Operation.{hash_meaning}
use Rattle.hash_ops.specs.declared.bucket.Bucket.{Bucket}
use Rattle.hash_ops.specs.declared.made.Made.TheVariants.{One}
use Rattle.hash_ops.specs.declared.hash_op.HashOp.TheVariants.{Put, Delete}
use Rattle.hash_file.specs.Find.{named_at, object_for}
use Rattle.hash_file.specs.File.{SameTruth, IsEntry, HasDirectory, pairs_in, content_of}
use Rattle.hash_file.specs.Plan.{has_room}
use Rattle.hash_file.proofs.DueLemmas.{IsFound, put_makes, delete_makes}
use Rattle.hash_file.proofs.ContentLemmas.{content_get, equal_if, entry_of}
use Rattle.hash_file.proofs.StateLemmas.{written}

-- one bucket has other pairs, all of which belong there
module _ (lo hi : ℕ) (s t : State) (h : HasDirectory lo hi s) (x : ℕ) (c : Bucket) (pairs : List (List ℕ × List ℕ)) where
  pub record IsRefilled : Type 0 where
    pub above : x ≢ lo
    pub was : bucket_in (s x) ≡ Some c
    pub becomes : bucket_in (t x) ≡ Some (bucket c.depth pairs)
    pub others : (y : ℕ) → y ≢ x → t y ≡ s y
    pub homes : All (λ p. object_for h.directory p.0 ≡ x) pairs

  module _ (w : IsRefilled) where
    other_entry : (i : ℕ) → i < 2 ^ h.directory.depth → named_at h.directory i ≢ x → IsEntry lo hi t h.directory i
    other_entry i within other =
        let e = h.entries i within in
        record {
          inside = e.inside;
          bucket = e.bucket;
          is = ap bucket_in (w.others (named_at h.directory i) other) ∙ e.is;
          shallow = e.shallow;
          alike = e.alike;
          keys = e.keys;
        }

    refilled_entry : (i : ℕ) → i < 2 ^ h.directory.depth → named_at h.directory i ≡ x → IsEntry lo hi t h.directory i
    refilled_entry i within same =
        let e = h.entries i within in
        let whole : e.bucket ≡ c = same_some e.bucket c (sym e.is ∙ ap (λ (z : ℕ). bucket_in (s z)) same ∙ w.was) in
        record {
          inside = e.inside;
          bucket = bucket c.depth pairs;
          is = ap (λ (z : ℕ). bucket_in (t z)) same ∙ w.becomes;
          shallow = subst (λ (b : Bucket). b.depth ≤ h.directory.depth) whole e.shallow;
          alike = λ j below. subst (λ (b : Bucket). SameTruth (named_at h.directory j ≡ named_at h.directory i) (j % 2 ^ b.depth ≡ i % 2 ^ b.depth)) whole (e.alike j below);
          keys = subst (λ (z : ℕ). All (λ p. object_for h.directory p.0 ≡ z) pairs) (sym same) w.homes;
        }

    pub refilled_file : HasDirectory lo hi t
    refilled_file = record {
      directory = h.directory;
      is = ap directory_in (w.others lo (λ same. w.above (sym same))) ∙ h.is;
      entries = λ i within. elim (eqb_tells (named_at h.directory i) x) [
        | inl same ↦ refilled_entry i within same.1
        | inr other ↦ other_entry i within other.1
      ];
    }

    -- the content is updated as the pairs are
    pub refilled_get : (key : List ℕ) (value : Option (List ℕ)) → object_for h.directory key ≡ x → IsUpdate key value c.pairs.items pairs
        → (q : List ℕ) → get (content_of lo t) q ≡ (if eq_by_cmp byte_order q key then value else get (content_of lo s) q)
    unfolding refilled_file
    refilled_get key value at update q =
        let y : ℕ = object_for h.directory q in
        let old = content_get lo hi s h q in
        let new = content_get lo hi t refilled_file q in
        elim (eqb_tells y x) [
          | inl same ↦
              let before : find byte_order q (pairs_in (bucket_in (s y))) ≡ find byte_order q c.pairs.items =
              ap (λ (z : ℕ). find byte_order q (pairs_in (bucket_in (s z)))) same.1 ∙ ap (λ (o : Option Bucket). find byte_order q (pairs_in o)) w.was in
              let now : find byte_order q (pairs_in (bucket_in (t y))) ≡ find byte_order q pairs =
              ap (λ (z : ℕ). find byte_order q (pairs_in (bucket_in (t z)))) same.1 ∙ ap (λ (o : Option Bucket). find byte_order q (pairs_in o)) w.becomes in
              new ∙ now ∙ update q ∙ ap (λ (o : Option (List ℕ)). if eq_by_cmp byte_order q key then value else o) (sym (old ∙ before))
          | inr other ↦
              let apart : eq_by_cmp byte_order q key ≡ false = not_key at other.1 (eq_by_cmp byte_order q key) refl in
              new ∙ ap (λ (v : List ℕ). find byte_order q (pairs_in (bucket_in v))) (w.others y other.1) ∙ sym old
              ∙ ap (λ (b : Bool). if b then value else get (content_of lo s) q) (sym apart)
        ]
      where
        not_key : object_for h.directory key ≡ x → object_for h.directory q ≢ x → (b : Bool) → eq_by_cmp byte_order q key ≡ b → eq_by_cmp byte_order q key ≡ false
        not_key at other true e = absurd (other (ap (λ (k : List ℕ). object_for h.directory k) (same_key q key (equal_if (byte_order q key) e)) ∙ at))
        not_key at other false e = e

-- a bucket with room has room for the pair
room_tells : (t : Bool) (n : ℕ) → IsTrue (t || nat_lt n 7) → IsTrue t ⊎ (n ≢ 7)
room_tells true n e = inl refl
room_tells false n e = inr (λ same. omega (arith, ltb-true n 7 e, same))

module _ (b : Bounds) (lo hi : ℕ) (s : State) (key : List ℕ) (wide : 1024 ≤ b.cap) (h : HasDirectory lo hi s) (x : ℕ) (c : Bucket) (at : IsFound lo hi s key x c) (own : at.directory ≡ h.directory) where
  home : object_for h.directory key ≡ x
  home = subst (λ d. object_for d key ≡ x) own at.entry

  -- the pairs that are there belong there
  old_homes : All (λ p. object_for h.directory p.0 ≡ x) c.pairs.items
  old_homes =
      let e = entry_of lo hi s h key in
      let whole : e.bucket ≡ c = same_some e.bucket c (sym e.is ∙ ap (λ (z : ℕ). bucket_in (s z)) home ∙ at.bucket) in
      subst (λ (b : Bucket). All (λ p. object_for h.directory p.0 ≡ x) b.pairs.items) whole (subst (λ (z : ℕ). All (λ p. object_for h.directory p.0 ≡ z) e.bucket.pairs.items) home e.keys)

  refilled : (pairs : List (List ℕ × List ℕ)) (t : State) → t x ≡ bucket_code (bucket c.depth pairs) → ((y : ℕ) → y ≢ x → t y ≡ s y)
      → AreEntries short_field pairs → All (λ p. object_for h.directory p.0 ≡ x) pairs → IsRefilled lo hi s t h x c pairs
  refilled pairs t has others are homes = record {
    above = λ same. omega (arith, at.inside.0, same);
    was = at.bucket;
    becomes = ap bucket_in has ∙ bucket_found (bucket c.depth pairs) (record { shallow = (bucket_known (s x) c at.bucket).shallow; pairs = are });
    others = others;
    homes = homes;
  }

  module _ (value : List ℕ) (short : IsTrue (is_short key)) (fits : IsTrue (is_short value)) (room : IsTrue (has_room key c)) where
    abbrev put_pairs : List (List ℕ × List ℕ)
    put_pairs = put byte_order key value c.pairs.items

    abbrev put_state : State
    put_state = after (hash_meaning b) s (Put x key value)

    put_writes : IsRefilled lo hi s put_state h x c put_pairs
    put_writes =
        let is = written b s (Put x key value) (One (bucket c.depth put_pairs)) wide (put_makes b lo hi s key value x c at room) in
        let code : List ℕ = bucket_code (bucket c.depth put_pairs) in
        let known = bucket_known (s x) c at.bucket in
        refilled put_pairs put_state (ap (λ (t : State). t x) is ∙ one_at s x code) (λ y other. ap (λ (t : State). t y) is ∙ one_beside s x code y other)
        (put_keeps key value c.pairs.items known.pairs short fits (room_tells (has key c.pairs.items) (length c.pairs.items) room))
        (all_put (λ p. object_for h.directory p.0 ≡ x) key value home (λ e here. here) c.pairs.items old_homes)

    pub put_file : HasDirectory lo hi put_state
    put_file = refilled_file lo hi s put_state h x c put_pairs put_writes

    pub put_content : content_of lo put_state ≡ insert (content_of lo s) key value
    put_content =
        same_map nat_list_cmp_total (slice_cmp-IsAntisymmetric nat_cmp-IsAntisymmetric) (content_of lo put_state) (insert (content_of lo s) key value)
        (λ q. refilled_get lo hi s put_state h x c put_pairs put_writes key (Some value) home (put_updates key value c.pairs.items) q ∙ sym (get-insert nat_list_cmp_total (content_of lo s) key value q))

  module _ (there : IsTrue (has key c.pairs.items)) where
    abbrev left_pairs : List (List ℕ × List ℕ)
    left_pairs = without key c.pairs.items

    abbrev delete_state : State
    delete_state = after (hash_meaning b) s (Delete x key)

    delete_writes : IsRefilled lo hi s delete_state h x c left_pairs
    delete_writes =
        let is = written b s (Delete x key) (One (bucket c.depth left_pairs)) wide (delete_makes b lo hi s key x c at there) in
        let code : List ℕ = bucket_code (bucket c.depth left_pairs) in
        let known = bucket_known (s x) c at.bucket in
        refilled left_pairs delete_state (ap (λ (t : State). t x) is ∙ one_at s x code) (λ y other. ap (λ (t : State). t y) is ∙ one_beside s x code y other)
        (delete_keeps key c.pairs.items known.pairs) (All-filter (λ e. not (eq_by_cmp byte_order key e.0)) (λ p. object_for h.directory p.0 ≡ x) c.pairs.items old_homes)

    pub delete_file : HasDirectory lo hi delete_state
    delete_file = refilled_file lo hi s delete_state h x c left_pairs delete_writes

    pub delete_content : content_of lo delete_state ≡ remove (content_of lo s) key
    delete_content =
        same_map nat_list_cmp_total (slice_cmp-IsAntisymmetric nat_cmp-IsAntisymmetric) (content_of lo delete_state) (remove (content_of lo s) key)
        (λ q. refilled_get lo hi s delete_state h x c left_pairs delete_writes key None home (delete_updates key c.pairs.items) q ∙ sym (get-remove nat_list_cmp_total (content_of lo s) key q))
