-- A name is given a value.
use Rattle.std.proofs.Common.{◌≡◌, ◌≢◌, ◌<◌, ◌≤◌, refl, sym, ap, ◌∙◌, subst, ℕ, if◌then◌else◌, Option, None, Some, Ok, List, [], ◌∷◌, length, map, option_map}
use Rattle.std.specs.Prelude.{is_some}
use Rattle.std.specs.FinMap.{get, insert}
use Rattle.oper_core.specs.State.{State}
use Rattle.oper_core.specs.Meaning.{after}
use Rattle.oper_core.specs.declared.bounds.Bounds.{Bounds}
use Rattle.call_plans.specs.Laws.{after_all}
use Rattle.op_codec.specs.AllOps.{AllOps, all_meaning, page}
use Rattle.page_map.specs.Walk.{get_answer}
use Rattle.page_map.specs.declared.refusal.MapRefusal.{MapRefusal}
use Rattle.page_map.specs.declared.refusal.MapRefusal.TheVariants.{MapFull}
use Rattle.named_words.specs.Effects.{Names}
use Rattle.name_ranges.specs.Changes.{Gives, Leaves, Writes, giving}
use Rattle.name_ranges.specs.Directory.{Directory, IsSpare, key_of, number_bytes, number_in, object_of, sizes_of}
use Rattle.name_ranges.specs.Named.{IsNamed, directory_of}
use Rattle.name_ranges.specs.Putting.{IsWriting, Puts, directory_with, found_in, object_at, put_at, written_in}
use Rattle.name_ranges.proofs.Naming.{value_given, value_spare}

module _ (b : Bounds) (lo hi : ℕ) (s : State) (names : Names) (is : IsNamed b lo hi s names) (name bytes : List ℕ) (spare : ℕ) (writing : ℕ → AllOps) (writes : IsWriting b lo hi s names is name bytes spare writing) where
  abbrev d : Directory
  d = directory_of is

  -- what is so of a name that is there, and of one that is not
  pub record PutsAt (o : Option ℕ) : Type 0 where
    pub done : (put_at b lo hi name spare writing s o).refusal ≡ None → Leaves b s lo hi (put_at b lo hi name spare writing s o).commands (insert names name bytes) (if is_some o then d else insert d (key_of name) (number_bytes spare))
    pub refused : (r : MapRefusal) → (put_at b lo hi name spare writing s o).refusal ≡ Some r → Leaves b s lo hi (put_at b lo hi name spare writing s o).commands names d
    pub full : (r : MapRefusal) → (put_at b lo hi name spare writing s o).refusal ≡ Some r → length name ≤ (sizes_of b).name → r ≡ MapFull
    pub others : (z : ℕ) → hi < z → z ≢ written_in spare o → after_all (all_meaning b) s (put_at b lo hi name spare writing s o).commands z ≡ s z

  -- the object that is written has the bytes then
  pub written_as : (o : Option ℕ) → object_of d name ≡ o → Writes b s (writing (written_in spare o)) (written_in spare o) bytes
  written_as o found = subst (λ (q : Option ℕ). Writes b s (writing (written_in spare q)) (written_in spare q) bytes) found writes.writes

  puts_old : (x : ℕ) → object_of d name ≡ Some x → PutsAt (Some x)
  puts_old x has = record {
    done = λ none. value_given b lo hi s names is (writing x) x bytes (written_as (Some x) has) writes.short name has;
    refused = λ r e. cc;
    full = λ r e fits. cc;
    others = λ z behind apart. (written_as (Some x) has).others z apart;
  }

  module _ (none : object_of d name ≡ None) where
    abbrev pub before : Leaves b s lo hi (writing spare ∷ []) names d
    before = value_spare b lo hi s names is (writing spare) spare bytes (written_as None none) writes.short (writes.spare_is none)

    abbrev t : State
    t = after (all_meaning b) s (writing spare)

    pub still_spare : IsSpare hi b.objects (directory_of before.named) spare
    still_spare = subst (λ (e : Directory). IsSpare hi b.objects e spare) (sym before.content) (writes.spare_is none)

    behind : (ops : List AllOps) (others : Names) (e : Directory) → Leaves b t lo hi ops others e → Leaves b s lo hi (writing spare ∷ ops) others e
    behind ops others e leaves = record { accepted = (before.accepted.0, leaves.accepted); named = leaves.named; content = leaves.content }

    puts_new : Gives b lo hi t names before.named name spare → PutsAt None
    puts_new gives =
        let ops : List AllOps = map page (giving b lo hi t names before.named name spare).commands in
        record {
          done = λ done.
              let bytes_are : t spare ≡ bytes = (written_as None none).made in
              let leaves : Leaves b t lo hi ops (insert names name bytes) (insert d (key_of name) (number_bytes spare)) =
              subst (λ (e : Directory). Leaves b t lo hi ops (insert names name bytes) (insert e (key_of name) (number_bytes spare))) before.content
              (subst (λ (v : List ℕ). Leaves b t lo hi ops (insert names name v) (insert (directory_of before.named) (key_of name) (number_bytes spare))) bytes_are (gives.done done)) in
              behind ops (insert names name bytes) (insert d (key_of name) (number_bytes spare)) leaves;
          refused = λ r e. behind ops names d (subst (λ (c : Directory). Leaves b t lo hi ops names c) before.content (gives.refused r e));
          full = λ r e fits. gives.full r e fits;
          others = λ z beyond apart. gives.others z beyond ∙ (written_as None none).others z apart;
        }

  abbrev GivenNew : Type 0
  GivenNew = (none : object_of d name ≡ None) → Gives b lo hi (after (all_meaning b) s (writing spare)) names (before none).named name spare

  puts_at : GivenNew → (o : Option ℕ) → object_of d name ≡ o → PutsAt o
  puts_at gives None none = puts_new none (gives none)
  puts_at gives (Some x) has = puts_old x has

  found_is : get_answer lo hi s (key_of name) ≡ Ok (get d (key_of name)) → object_at lo hi s name ≡ object_of d name
  found_is answer = ap found_in answer ∙ by_found (get d (key_of name))
    where
      by_found : (o : Option (List ℕ)) → found_in (Ok o) ≡ option_map number_in o
      by_found None = refl
      by_found (Some number) = refl

  pub puts : GivenNew → get_answer lo hi s (key_of name) ≡ Ok (get d (key_of name)) → Puts b lo hi s names is name bytes spare writing
  puts gives answer =
      let all = subst PutsAt (sym (found_is answer)) (puts_at gives (object_of d name) refl) in
      let with_is : (if is_some (object_at lo hi s name) then d else insert d (key_of name) (number_bytes spare)) ≡ directory_with d name spare =
      ap (λ (o : Option ℕ). if is_some o then d else insert d (key_of name) (number_bytes spare)) (found_is answer) in
      record {
        done = λ none. subst (λ (e : Directory). Leaves b s lo hi (put_at b lo hi name spare writing s (object_at lo hi s name)).commands (insert names name bytes) e) with_is (all.done none);
        refused = all.refused;
        full = all.full;
        others = λ z beyond apart. all.others z beyond (λ same. apart (same ∙ ap (written_in spare) (found_is answer)));
      }
