-- The commands of a set and of a delete leave the objects behind the range: each is accepted in a store that has no objects there.
use Rattle.std.proofs.Common.{◌≡◌, ◌<◌, ◌^◌, refl, ◌∙◌, arith, ℕ, zero, suc, ◌+◌, Option, None, Some, Result, Ok, Err, List, [], ◌∷◌, map}
use Rattle.std.proofs.lemmas.List.Elements.{All-pop}
use Rattle.oper_core.specs.State.{State}
use Rattle.oper_core.specs.Meaning.{IsSmall, after}
use Rattle.oper_core.specs.MeaningLaws.{or_else-none}
use Rattle.oper_core.specs.declared.bounds.Bounds.{Bounds}
use Rattle.call_plans.specs.Laws.{AllAccepted, after_all}
use Rattle.op_codec.specs.AllOps.{all_meaning, page}
use Rattle.page_ops.specs.Operation.{page_meaning, written_by}
use Rattle.page_ops.specs.OperationLaws.{page_lawful}
use Rattle.page_ops.specs.Reading.{level_in}
use Rattle.page_ops.specs.declared.page_op.PageOp.{PageOp}
use Rattle.page_map.specs.Deletes.{by_tidying, delete_by, delete_plan, tidied, tidy_turn}
use Rattle.page_map.specs.Map.{bytes_at}
use Rattle.page_map.specs.Plan.{Admits, delete_command}
use Rattle.page_map.specs.Sets.{Turn, by_turn, does, ends, refuses, set_from, set_plan, set_turn}
use Rattle.name_ranges.specs.Named.{HasMaps}
use Rattle.name_ranges.proofs.Writing.{not_written}

-- operations on pages do as operations of the store what they do alone
pub after_pages : (b : Bounds) (s : State) (ops : List PageOp) → after_all (all_meaning b) s (map page ops) ≡ after_all (page_meaning b) s ops
after_pages b s [] = refl
after_pages b s (op ∷ ops) = after_pages b (after (page_meaning b) s op) ops

pub accepted_pages : (b : Bounds) (s : State) (ops : List PageOp) → AllAccepted (page_meaning b) s ops → AllAccepted (all_meaning b) s (map page ops)
accepted_pages b s [] accepted = tt
accepted_pages b s (op ∷ ops) accepted = (accepted.0, accepted_pages b (after (page_meaning b) s op) ops accepted.1)

-- a store that ends with the range
abbrev pub narrow : Bounds → ℕ → Bounds
narrow b hi = record { objects = suc hi; cap = b.cap; more = b.more }

module _ (b : Bounds) (hi : ℕ) (has : HasMaps b hi) where
  narrow_small : IsSmall (narrow b hi)
  narrow_small = let below = has.admits.objects in let small = has.small.objects in record { objects = omega (arith, below, small); cap = has.small.cap }

  pub below_all : hi < 2 ^ 32
  below_all = let below = has.admits.objects in let small = has.small.objects in omega (arith, below, small)

  pub narrow_admits : Admits (narrow b hi) hi
  narrow_admits = record { more = has.admits.more; objects = omega arith }

  pub untouched : (s : State) (ops : List PageOp) → AllAccepted (page_meaning (narrow b hi)) s ops → (z : ℕ) → hi < z → after_all (page_meaning b) s ops z ≡ s z
  untouched s [] accepted z behind = refl
  untouched s (op ∷ ops) accepted z behind =
      let shape = (or_else-none _ _ accepted.0).0 in
      let below : written_by op < suc hi = (All-pop (λ x. x < suc hi) (written_by op ∷ []) [] (Some (written_by op)) refl ((page_lawful (narrow b hi) narrow_small).writes_below op shape)).1 in
      untouched (after (page_meaning b) s op) ops accepted.1 z behind
      ∙ not_written s (written_by op) z _ (λ same. absurd (omega (arith, below, behind, same)))

  module _ (lo : ℕ) (key value : List ℕ) where
    turns_alike : (n : ℕ) (s : State) (turn : Turn) → ((t : State) → set_from (narrow b hi) lo hi key value n t ≡ set_from b lo hi key value n t)
        → by_turn (narrow b hi) lo hi (λ ops. set_from (narrow b hi) lo hi key value n (after_all (page_meaning b) s ops)) turn ≡ by_turn b lo hi (λ ops. set_from b lo hi key value n (after_all (page_meaning b) s ops)) turn
    turns_alike n s (does ops) alike = λ i. by_turn b lo hi (λ ops. alike (after_all (page_meaning b) s ops) i) (does ops)
    turns_alike n s (ends op) alike = refl
    turns_alike n s (refuses r) alike = refl

    sets_alike : (n : ℕ) (s : State) → set_from (narrow b hi) lo hi key value n s ≡ set_from b lo hi key value n s
    sets_alike zero s = refl
    sets_alike (suc n) s = turns_alike n s (set_turn b lo hi key value s) (sets_alike n)

    pub set_alike : (s : State) → set_plan (narrow b hi) lo hi key value s ≡ set_plan b lo hi key value s
    set_alike s = sets_alike _ s

  module _ (lo : ℕ) (key : List ℕ) where
    rounds_alike : (n : ℕ) (s : State) (turn : Result (List PageOp) ℕ) → ((t : State) → tidied (narrow b hi) lo hi key n t ≡ tidied b lo hi key n t)
        → by_tidying (λ ops. tidied (narrow b hi) lo hi key n (after_all (page_meaning b) s ops)) turn ≡ by_tidying (λ ops. tidied b lo hi key n (after_all (page_meaning b) s ops)) turn
    rounds_alike n s turn alike i = by_tidying (λ ops. alike (after_all (page_meaning b) s ops) i) turn

    tidied_alike : (n : ℕ) (s : State) → tidied (narrow b hi) lo hi key n s ≡ tidied b lo hi key n s
    tidied_alike zero s = refl
    tidied_alike (suc n) s = rounds_alike n s (tidy_turn lo hi s key) (tidied_alike n)

    deletes_alike : (s : State) (found : Result (Option PageOp) ℕ) → delete_by (narrow b hi) lo hi key s found ≡ delete_by b lo hi key s found
    deletes_alike s (Err bad) = refl
    deletes_alike s (Ok None) = refl
    deletes_alike s (Ok (Some op)) =
        let t : State = after (page_meaning b) s op in
        let same = tidied_alike (level_in (bytes_at lo t lo) + 2) t in
        λ i. record { commands = op ∷ (same i).commands; refusal = (same i).refusal }

    pub delete_alike : (s : State) → delete_plan (narrow b hi) lo hi key s ≡ delete_plan b lo hi key s
    delete_alike s = deletes_alike s (delete_command lo hi s key)
