-- The beginning of a file and each split leave a hash file with the same content, come closer to the put, and take a free object.
use Rattle.std.proofs.Common.{◌≡◌, ◌≤◌, ◌<◌, ℕ, zero, suc, ◌-◌, ◌^◌, ◌==◌, Bool, true, false, Option, Some, List, [], ◌∷◌, ◌++◌, All, refl, sym, ap, ◌∙◌, subst, arith, inl, inr, true≢false}
use Rattle.std.specs.FinMap.{from_entries}
use Rattle.std.proofs.lemmas.List.Elements.{All-nil, All-from_get_or}
use Rattle.oper_core.specs.State.{State}
use Rattle.oper_core.specs.Meaning.{after}
use Rattle.oper_core.specs.declared.bounds.Bounds.{Bounds}
use Rattle.call_plans.specs.Free.{is_empty, objects_from, free_from}
use Rattle.call_plans.specs.FreeLaws.{none_freed, one_taken}
use Rattle.call_plans.specs.Plan.{goes_on}
use Rattle.hash_ops.specs.Blocks.{IsDirectory, bucket, bucket_in, directory, directory_in}
use Rattle.hash_ops.specs.BlockLaws.{directory_count, directory_found}
use Rattle.hash_ops.specs.RenameLaws.{IsRenamed}
use Rattle.hash_ops.specs.Operation.{hash_meaning}
use Rattle.hash_ops.specs.declared.bucket.Bucket.{Bucket}
use Rattle.hash_ops.specs.declared.directory.Directory.{Directory}
use Rattle.hash_ops.specs.declared.hash_op.HashOp.{HashOp}
use Rattle.hash_ops.specs.declared.hash_op.HashOp.TheVariants.{Init, Split}
use Rattle.hash_file.specs.Find.{Met, unused, bad, found, met_with, find_bucket, named_at, object_for}
use Rattle.hash_file.specs.File.{IsEntry, HasDirectory, IsHash, pairs_in, map_of}
use Rattle.hash_file.specs.Plan.{put_next}
use Rattle.hash_file.specs.Laws.{IsRange, GrowthKeeps}
use Rattle.hash_file.proofs.DueLemmas.{IsFound, found_tells, object_in, bucket_or}
use Rattle.hash_file.proofs.AcceptedLemmas.{there_tells}
use Rattle.hash_file.proofs.ContentLemmas.{content_empty, entry_of}
use Rattle.hash_file.proofs.SplitLemmas.{IsSplit, split_file, split_content}
use Rattle.hash_file.proofs.StepLemmas.{left_of, goes_tells}
use Rattle.hash_file.proofs.StateLemmas.{finds, free_inside, begun_has, begun_directory, begun_bucket, begun_closer, split, split_few, after_split, new_empty, split_has, split_renames, split_half, split_closer}

-- where a key is found on a hash file

abbrev is_found : Met → Bool
is_found unused = false
is_found (bad x) = false
is_found (found x b) = true

module _ (lo hi : ℕ) (s : State) (key : List ℕ) where
  pub empty_finds : s lo ≡ [] → find_bucket lo hi s key ≡ unused
  empty_finds e = ap (λ (v : List ℕ). met_with lo hi s key v) e

  module _ (h : HasDirectory lo hi s) where
    pub file_finds : find_bucket lo hi s key ≡ found (object_for h.directory key) (entry_of lo hi s h key).bucket
    file_finds =
        let e = entry_of lo hi s h key in
        finds lo hi s key h.directory (object_for h.directory key) e.bucket h.is refl e.is e.inside e.shallow

    -- the bucket that is found is that of the file's own directory
    abbrev pub found_in : (x : ℕ) (c : Bucket) → find_bucket lo hi s key ≡ found x c → IsFound lo hi s key x c
    found_in x c is =
        let e = entry_of lo hi s h key in
        let at : object_for h.directory key ≡ x = ap object_in (sym file_finds ∙ is) in
        let same : e.bucket ≡ c = ap (bucket_or e.bucket) (sym file_finds ∙ is) in
        record {
          directory = h.directory;
          is = h.is;
          entry = at;
          inside = subst (λ (z : ℕ). (lo < z) × (z ≤ hi)) at e.inside;
          bucket = ap (λ (z : ℕ). bucket_in (s z)) (sym at) ∙ e.is ∙ ap (λ (b : Bucket). Some b) same;
          shallow = subst (λ (b : Bucket). b.depth ≤ h.directory.depth) same e.shallow;
        }

    never_unused : find_bucket lo hi s key ≡ unused → ⊥
    never_unused e = true≢false (sym (ap is_found file_finds) ∙ ap is_found e)

  pub unused_is : IsHash lo hi s → find_bucket lo hi s key ≡ unused → s lo ≡ []
  unused_is (inl empty) e = empty
  unused_is (inr h) e = absurd (never_unused h e)

  pub found_is : (x : ℕ) (c : Bucket) → IsHash lo hi s → find_bucket lo hi s key ≡ found x c → HasDirectory lo hi s
  found_is x c (inl empty) e = absurd (true≢false (sym (ap is_found e) ∙ ap is_found (empty_finds empty)))
  found_is x c (inr h) e = h

-- the numbers of a hash file's directory have four bytes
known_directory : (lo hi : ℕ) (s : State) (h : HasDirectory lo hi s) → hi < 2 ^ 32 → All (λ x. x < 2 ^ 32) h.directory.entries.items
known_directory lo hi s h small =
    All-from_get_or (λ x. x < 2 ^ 32) h.directory.entries.items 0
    (λ i within. omega (arith, (h.entries i (omega (arith, within, directory_count (s lo) h.directory h.is))).inside.1, small))

module _ (b : Bounds) (lo hi : ℕ) (key value : List ℕ) (range : IsRange b lo hi) where
  order : lo < hi
  order = (there_tells b lo hi range.there).0

  within : hi < b.objects
  within = (there_tells b lo hi range.there).1

  module _ (t : State) (x : ℕ) (inside : (lo < x) × (x ≤ hi)) (first : bucket_in (t x) ≡ Some (bucket 0 [])) where
    one_named : (j : ℕ) → j < 1 → named_at (directory 0 (x ∷ [])) j ≡ x
    one_named zero less = refl
    one_named (suc j) less = absurd (omega (arith, less))

    one_entry : (i : ℕ) → i < 1 → IsEntry lo hi t (directory 0 (x ∷ [])) i
    one_entry zero less = record {
      inside = inside;
      bucket = bucket 0 [];
      is = first;
      shallow = omega arith;
      alike = λ j below. (λ same. omega arith, λ same. one_named j below);
      keys = All-nil (λ p. object_for (directory 0 (x ∷ [])) p.0 ≡ x);
    }
    one_entry (suc i) less = absurd (omega (arith, less))

  module _ (s : State) where
    begun_keeps : (x : ℕ) (rest : List ℕ) → free_from s (suc lo) (hi - lo) ≡ x ∷ rest → s lo ≡ [] → GrowthKeeps b lo hi s (Init lo x)
    begun_keeps x rest is empty =
        let has = begun_has b lo hi key order within range.small.objects range.wide s x rest is in
        let read = begun_directory b lo hi key order within range.small.objects range.wide s x rest is in
        let first = begun_bucket b lo hi key order within range.small.objects range.wide s x rest is in
        let t : State = after (hash_meaning b) s (Init lo x) in
        record {
          file = inr (record {
            directory = directory 0 (x ∷ []);
            is = read;
            entries = λ i less. one_entry t x (free_inside b lo hi key order within range.small.objects range.wide s x rest is) first i less;
          });
          content = ap (λ (o : Option Directory). map_of t o) read ∙ ap (λ (o : Option Bucket). from_entries (pairs_in o ++ [])) first ∙ sym (content_empty lo s empty);
          taken = one_taken s t (λ z. none_freed s t z (lo ∷ x ∷ []) (ap is_empty has.first, (ap is_empty has.second, tt)) (λ apart. has.others z apart.0 apart.1.0)) (objects_from (suc lo) (hi - lo)) x rest is (ap is_empty has.second);
        }

    split_keeps : (h : HasDirectory lo hi s) (x : ℕ) (c : Bucket) (at : IsFound lo hi s key x c) → at.directory ≡ h.directory → (c.depth == 6) ≡ false
        → (new : ℕ) (rest : List ℕ) → free_from s (suc lo) (hi - lo) ≡ new ∷ rest → GrowthKeeps b lo hi s (Split lo x new)
    split_keeps h x c at own deep new rest is =
        let t : State = split b lo hi key order within range.small.objects range.wide s x c at deep new rest is in
        let has = split_has b lo hi key order within range.small.objects range.wide s x c at deep new rest is in
        let renamed = split_renames b lo hi key order within range.small.objects range.wide s x c at deep new rest is in
        let now : Directory = after_split b lo hi key order within range.small.objects range.wide s x c at deep new rest is in
        let inside = free_inside b lo hi key order within range.small.objects range.wide s new rest is in
        let half = split_half b lo hi key order within range.small.objects range.wide s x c at deep new rest is in
        let small : hi < 2 ^ 32 = omega (arith, within, range.small.objects) in
        let fits : All (λ y. y < 2 ^ 32) at.directory.entries.items = subst (λ (d : Directory). All (λ y. y < 2 ^ 32) d.entries.items) (sym own) (known_directory lo hi s h small) in
        let good : IsDirectory now = record { shallow = renamed.shape.shallow; count = renamed.shape.count; fit = renamed.fit (omega (arith, inside.1, small)) fits } in
        let w : IsSplit lo hi s t x new c h = record {
          few = split_few b lo hi key order within range.small.objects range.wide s x c at deep new rest is;
          was = at.bucket;
          inside = inside;
          empty = new_empty b lo hi key order within range.small.objects range.wide s x c at deep new rest is;
          after = now;
          renamed = subst (λ (d : Directory). IsRenamed c.depth x new d now) own renamed;
          is = ap directory_in has.first ∙ directory_found now good;
          low = half false;
          high = half true;
          others = has.others;
        } in
        record {
          file = inr (split_file lo hi s t x new c h w);
          content = split_content lo hi s t x new c h w;
          taken = one_taken s t
              (λ z. none_freed s t z (lo ∷ x ∷ new ∷ []) (ap is_empty has.first, (ap is_empty has.second, (ap is_empty has.third, tt))) (λ apart. has.others z apart.0 apart.1.0 apart.1.1.0)) (objects_from (suc lo) (hi - lo)) new rest is (ap is_empty has.third);
        }

    pub growth : (op : HashOp) → IsHash lo hi s → put_next b lo hi key value s ≡ goes_on op → GrowthKeeps b lo hi s op
    growth op file comes =
        elim (goes_tells lo key value (free_from s (suc lo) (hi - lo)) (find_bucket lo hi s key) op comes) [
          | inl g ↦ subst (λ (op : HashOp). GrowthKeeps b lo hi s op) g.is (begun_keeps g.object g.rest g.free_is (unused_is lo hi s key file g.met))
          | inr g ↦
              let h = found_is lo hi s key g.object g.bucket file g.met in
              subst (λ (op : HashOp). GrowthKeeps b lo hi s op) g.is (split_keeps h g.object g.bucket (found_in lo hi s key h g.object g.bucket g.met) refl g.deep g.new g.rest g.free_is)
        ]

    -- on every state
    pub closer : (op : HashOp) → put_next b lo hi key value s ≡ goes_on op → left_of key (find_bucket lo hi (after (hash_meaning b) s op) key) < left_of key (find_bucket lo hi s key)
    closer op comes =
        elim (goes_tells lo key value (free_from s (suc lo) (hi - lo)) (find_bucket lo hi s key) op comes) [
          | inl g ↦
              subst (λ (op : HashOp). left_of key (find_bucket lo hi (after (hash_meaning b) s op) key) < left_of key (find_bucket lo hi s key)) g.is
              (subst (λ (m : Met). left_of key (find_bucket lo hi (after (hash_meaning b) s (Init lo g.object)) key) < left_of key m) (sym g.met)
              (begun_closer b lo hi key order within range.small.objects range.wide s g.object g.rest g.free_is))
          | inr g ↦
              subst (λ (op : HashOp). left_of key (find_bucket lo hi (after (hash_meaning b) s op) key) < left_of key (find_bucket lo hi s key)) g.is
              (subst (λ (m : Met). left_of key (find_bucket lo hi (after (hash_meaning b) s (Split lo g.object g.new)) key) < left_of key m) (sym g.met)
              (split_closer b lo hi key order within range.small.objects range.wide s g.object g.bucket (found_tells lo hi s key g.object g.bucket g.met) g.deep g.new g.rest g.free_is g.full))
        ]
