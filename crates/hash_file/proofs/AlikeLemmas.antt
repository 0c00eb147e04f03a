-- Whether a range is a hash file, and what it holds, depends on its own objects alone.
use Rattle.std.proofs.Common.{◌≡◌, ◌≤◌, ◌<◌, ℕ, List, [], ◌∷◌, ◌++◌, All, flat_map, refl, sym, ap, ◌∙◌, arith, inl, inr}
use Rattle.std.specs.FinMap.{from_entries}
use Rattle.std.proofs.lemmas.List.Elements.{All-head, All-tail, All-from_get_or}
use Rattle.oper_core.specs.State.{State}
use Rattle.call_plans.specs.Laws.{AreAlike}
use Rattle.hash_ops.specs.Blocks.{bucket_in, directory_in}
use Rattle.hash_ops.specs.declared.directory.Directory.{Directory}
use Rattle.hash_file.specs.Find.{named_at}
use Rattle.hash_file.specs.File.{IsEntry, IsHash, pairs_in, map_of, content_of}
use Rattle.hash_file.proofs.ContentLemmas.{content_empty, count}

module _ (lo hi : ℕ) (s t : State) (same : AreAlike lo hi s t) where
  entry_stays : (d : Directory) (i : ℕ) → IsEntry lo hi s d i → IsEntry lo hi t d i
  entry_stays d i e = record {
    inside = e.inside;
    bucket = e.bucket;
    is = ap bucket_in (same (named_at d i) (omega (arith, e.inside.0)) e.inside.1) ∙ e.is;
    shallow = e.shallow;
    alike = e.alike;
    keys = e.keys;
  }

  abbrev IsInside : ℕ → Type 0
  IsInside x = (lo < x) × (x ≤ hi)

  pairs_stay : (xs : List ℕ) → All IsInside xs → flat_map (λ x. pairs_in (bucket_in (t x))) xs ≡ flat_map (λ x. pairs_in (bucket_in (s x))) xs
  pairs_stay [] all = refl
  pairs_stay (x ∷ xs) all =
      let inside = All-head IsInside x xs all in
      let here = same x (omega (arith, inside.0)) inside.1 in
      let rest = pairs_stay xs (All-tail IsInside x xs all) in
      λ i. pairs_in (bucket_in (here i)) ++ rest i

  pub file_stays : lo ≤ hi → IsHash lo hi s → IsHash lo hi t × (content_of lo t ≡ content_of lo s)
  file_stays order (inl empty) =
      let still : t lo ≡ [] = same lo (omega arith) order ∙ empty in
      (inl still, content_empty lo t still ∙ sym (content_empty lo s empty))
  file_stays order (inr h) =
      let read = ap directory_in (same lo (omega arith) order) ∙ h.is in
      let all : All IsInside h.directory.entries.items = All-from_get_or IsInside h.directory.entries.items 0 (λ i within. (h.entries i (omega (arith, within, count lo hi s h))).inside) in (
        inr (record { directory = h.directory; is = read; entries = λ i less. entry_stays h.directory i (h.entries i less) }),
        ap (map_of t) read ∙ ap from_entries (pairs_stay h.directory.entries.items all) ∙ sym (ap (map_of s) h.is),
      )
