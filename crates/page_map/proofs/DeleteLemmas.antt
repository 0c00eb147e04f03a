-- The commands of a delete take the key out, and keep the map.
use Rattle.std.proofs.Common.{◌≡◌, ℕ, zero, suc, ◌+◌, ◌^◌, ◌<◌, ◌≤◌, true, false, cond, not, if◌then◌else◌, Option, None, Some, Result, Ok, List, [], ◌∷◌, length, take, is_some, refl, sym, ap, ◌∙◌, subst, arith}
use Rattle.std.specs.Ordering.{eq_by_cmp}
use Rattle.std.specs.FinMap.{get, remove}
use Rattle.oper_core.specs.State.{State}
use Rattle.oper_core.specs.Meaning.{Accepts, after}
use Rattle.oper_core.specs.declared.bounds.Bounds.{Bounds}
use Rattle.key_entries.specs.Entries.{byte_order}
use Rattle.key_entries.specs.EntryLaws.{same_some}
use Rattle.key_entries.specs.Pairs.{has, without}
use Rattle.call_plans.specs.Laws.{after_all}
use Rattle.call_plans.specs.Plan.{refused_by, with_command}
use Rattle.page_ops.specs.Page.{Cell, page_of}
use Rattle.page_ops.specs.Reading.{level_in}
use Rattle.page_ops.specs.Operation.{page_meaning}
use Rattle.page_ops.specs.declared.page_op.PageOp.{PageOp}
use Rattle.page_ops.specs.declared.page_op.PageOp.TheVariants.{Delete}
use Rattle.page_map.specs.Map.{bytes_at, content_of}
use Rattle.page_map.specs.Plan.{Admits, delete_command}
use Rattle.page_map.specs.Splits.{size_of}
use Rattle.page_map.specs.Sets.{IsKept, Keeps, room_of}
use Rattle.page_map.specs.Deletes.{Deletes, IsFull, NoneIsEmpty, delete_by, delete_plan, tidy_plan, tidy_turn}
use Rattle.page_map.specs.declared.refusal.MapRefusal.{MapRefusal}
use Rattle.page_map.specs.declared.refusal.MapRefusal.TheVariants.{NoKey}
use Rattle.page_map.proofs.MapLemmas.{Searches}
use Rattle.page_map.proofs.CutLemmas.{ReadsCells, page_size}
use Rattle.page_map.proofs.ChangeLemmas.{Changes, IsDone, delete_command_is, delete_content, delete_done, delete_fits, has_too, here, object, place, read_there, whole}
use Rattle.page_map.proofs.TreeLemmas.{root_held}
use Rattle.page_map.proofs.OpLemmas.{fits_room}
use Rattle.page_map.proofs.TurnLemmas.{page_fits, tree_of}
use Rattle.page_map.proofs.SetLemmas.{fits_too}
use Rattle.page_map.proofs.TidyLemmas.{few_tidied, tidied_ends, tidy_is_kept}

size_out : (key : List ℕ) (cells : List Cell) → size_of (without key cells) ≤ size_of cells
size_out key [] = omega arith
size_out key (c ∷ cells) =
    elim (not (eq_by_cmp byte_order key c.0)) as (λ t. size_of (cond t (c ∷ without key cells) (without key cells)) ≤ size_of (c ∷ cells)) [
      | true ↦ omega (arith, size_out key cells)
      | false ↦ omega (arith, size_out key cells)
    ]

module _ (searches : Searches) (changes : Changes) (reads : ReadsCells) (b : Bounds) (lo hi : ℕ) (small : hi < 2 ^ 32) (admits : Admits b hi) (key : List ℕ) (s : State) (is : IsKept b lo hi s) where
  abbrev cells : List Cell
  cells = whole searches changes lo hi small b s key is.map

  abbrev x : ℕ
  x = object searches changes lo hi small b s key is.map

  abbrev out : PageOp
  out = Delete x (place searches changes lo hi small b s key is.map)

  abbrev next : State
  next = after (page_meaning b) s out

  module _ (there : has key cells ≡ true) where
    accepted : Accepts (page_meaning b) s out
    accepted =
        let read : s x ≡ page_of 0 cells = read_there searches changes lo hi small b s key is.map there in
        let held = here searches changes lo hi small b s key is.map in
        delete_fits searches changes lo hi small b s key is.map admits there
        (fits_room (length (page_of 0 (without key cells))) b.cap
        (omega (arith, page_fits b lo hi s is.values_fit x 0 cells read held.held.short, page_size 0 cells, page_size 0 (without key cells), size_out key cells)))

    done : IsDone searches changes lo hi small b s key is.map None out
    done = delete_done searches changes lo hi small b s key is.map there accepted

    abbrev kept : IsKept b lo hi next
    kept = record { map = done.0; short = done.2 (room_of b.cap) refl is.short; values_fit = fits_too b s out is.values_fit }

    content : content_of kept.map ≡ remove (content_of is.map) key
    content = delete_content searches changes lo hi small b s key is.map done

    deletes_there : Deletes b lo hi s is key (with_command out (tidy_plan b lo hi key next))
    deletes_there =
        let tidy = tidy_is_kept searches changes reads b lo hi small admits key next kept in
        let keeps = tidy.1 in
        let top : level_in (bytes_at lo next lo) ≡ is.map.level =
        ap (λ (y : ℕ). level_in (bytes_at lo next y)) (sym kept.map.root) ∙ ap level_in (root_held lo hi next kept.map.level kept.map.tree kept.map.holds).code ∙ done.3 in
        record {
          accepted = (accepted, keeps.accepted);
          kept = both_kept keeps;
          same = refl;
          done = λ e. (omega arith, λ k. keeps.content k ∙ content);
          refused = λ r e. absurd (not_refused r (sym tidy.0 ∙ e));
          few = omega (arith, top, few_tidied b lo hi key (level_in (bytes_at lo next lo) + 2) next);
        }
      where
        not_refused : (r : MapRefusal) → None ≡ Some r → ⊥
        not_refused r e = cc

        both_kept : Keeps b lo hi next kept (tidy_plan b lo hi key next).commands → (k : ℕ) → IsKept b lo hi (after_all (page_meaning b) s (take k (out ∷ (tidy_plan b lo hi key next).commands)))
        both_kept keeps zero = is
        both_kept keeps (suc k) = keeps.kept k

  abbrev none_kept : (k : ℕ) → IsKept b lo hi (after_all (page_meaning b) s (take k []))
  none_kept zero = is
  none_kept (suc k) = is

  deletes_none : get (content_of is.map) key ≡ None → Deletes b lo hi s is key (refused_by NoKey)
  deletes_none none = record {
    accepted = tt;
    kept = none_kept;
    same = refl;
    done = λ e. cc;
    refused = λ r e. (sym (same_some NoKey r e), none, refl);
    few = omega arith;
  }

  not_found : (o : Option (List ℕ)) → is_some o ≡ false → o ≡ None
  not_found None e = refl
  not_found (Some v) e = cc

  pub delete_is_planned : Deletes b lo hi s is key (delete_plan b lo hi key s)
  delete_is_planned =
      elim (is_some (get (content_of is.map) key)) as (λ t. is_some (get (content_of is.map) key) ≡ t → delete_command lo hi s key ≡ Ok (if t then Some out else None) → Deletes b lo hi s is key (delete_plan b lo hi key s)) [
        | true ↦ λ e command.
            subst (λ (r : Result (Option PageOp) ℕ). Deletes b lo hi s is key (delete_by b lo hi key s r)) (sym command) (deletes_there (sym (has_too searches changes lo hi small b s key is.map) ∙ e))
        | false ↦ λ e command.
            subst (λ (r : Result (Option PageOp) ℕ). Deletes b lo hi s is key (delete_by b lo hi key s r)) (sym command) (deletes_none (not_found (get (content_of is.map) key) e))
      ] refl (delete_command_is searches changes lo hi small b s key is.map)

  -- behind a delete that is done nothing is left to tidy
  not_done : (r : MapRefusal) → Some r ≡ None → ⊥
  not_done r e = cc

  abbrev Rests : Result (Option PageOp) ℕ → Type 0
  Rests r =
      (delete_by b lo hi key s r).refusal ≡ None
      → (tidy_turn lo hi (after_all (page_meaning b) s (delete_by b lo hi key s r).commands) key ≡ Ok []) × IsFull b lo hi (after_all (page_meaning b) s (delete_by b lo hi key s r).commands)

  pub delete_is_tidy : NoneIsEmpty is.map.level is.map.tree → Rests (delete_command lo hi s key)
  delete_is_tidy none =
      elim (is_some (get (content_of is.map) key)) as (λ t. is_some (get (content_of is.map) key) ≡ t → delete_command lo hi s key ≡ Ok (if t then Some out else None) → Rests (delete_command lo hi s key)) [
        | true ↦ λ e command. subst Rests (sym command) (λ refusal. tidy_behind (sym (has_too searches changes lo hi small b s key is.map) ∙ e))
        | false ↦ λ e command. subst Rests (sym command) (λ refusal. absurd (not_done NoKey refusal))
      ] refl (delete_command_is searches changes lo hi small b s key is.map)
    where
      tidy_behind : (there : has key cells ≡ true)
          → (tidy_turn lo hi (after_all (page_meaning b) next (tidy_plan b lo hi key next).commands) key ≡ Ok []) × IsFull b lo hi (after_all (page_meaning b) next (tidy_plan b lo hi key next).commands)
      tidy_behind there =
          let made : IsKept b lo hi next = kept there in
          let top : level_in (bytes_at lo next lo) ≡ made.map.level =
          ap (λ (y : ℕ). level_in (bytes_at lo next y)) (sym made.map.root) ∙ ap level_in (root_held lo hi next made.map.level made.map.tree made.map.holds).code in
          tidied_ends searches changes reads b lo hi small admits key (level_in (bytes_at lo next lo) + 2) next made.map.level made.map.tree (tree_of b lo hi next made) 2 ((done there).4 none) (omega (arith, top))
