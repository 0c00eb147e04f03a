-- The command of a call, from what it has found on its way.
use Rattle.std.proofs.Common.{◌≡◌, refl, ap, ◌∙◌, ℕ, true, false, if◌then◌else◌, Option, None, Some, Result, Ok, Err, List}
use Rattle.oper_core.specs.State.{State}
use Rattle.key_entries.specs.EntryLaws.{if_some, same_some}
use Rattle.page_ops.specs.Reading.{seek, stands_at}
use Rattle.page_ops.specs.declared.page_op.PageOp.{PageOp}
use Rattle.page_ops.specs.declared.page_op.PageOp.TheVariants.{Delete}
use Rattle.page_map.specs.Map.{bytes_at}
use Rattle.page_map.specs.Plan.{at_leaf, at_place, delete_at, delete_command, delete_in}
use Rattle.page_map.specs.Walk.{is_on, walk, walk_from}
use Rattle.range_calls.specs.Store.{Command}
use Rattle.map_client.specs.Answers.{MapErr, bad_map, told}
use Rattle.map_client.specs.Changing.{delete_of, found}
use Rattle.map_client.specs.Reading.{delete_on}

module _ (lo hi : ℕ) (s : State) (key : List ℕ) where
  abbrev at : ℕ → List ℕ
  at x = bytes_at lo s x

  -- what is done in the leaf at the end of the way
  at_end : {A : Type 0} (act : ℕ → Result A ℕ) (x : ℕ) → walk lo hi s key ≡ walk_from lo hi s key 0 x → at_leaf act (walk lo hi s key) ≡ (if is_on 0 (at x) then act x else Err x)
  at_end {A} act x way =
      ap (at_leaf act) way ∙ elim (is_on 0 (at x)) as (λ t. at_leaf act (if t then Ok x else Err x) ≡ (if t then act x else Err x)) [ true ↦ refl | false ↦ refl ]

  pub delete_is : (x : ℕ) → walk lo hi s key ≡ walk_from lo hi s key 0 x → delete_command lo hi s key ≡ delete_on x (at x) key
  delete_is x way = at_end (λ y. delete_in y (at y) key) x way

  -- the way meets a bad object
  pub delete_bad : (e : MapErr) → told (walk lo hi s key) ≡ Err e → Err e ≡ found (delete_of (delete_command lo hi s key))
  delete_bad e is = by_way (walk lo hi s key) is
    where
      by_way : (w : Result ℕ ℕ) → told w ≡ Err e → Err e ≡ found (delete_of (at_leaf (λ y. delete_in y (at y) key) w))
      by_way (Ok x) same = cc
      by_way (Err bad) same = let error : e ≡ bad_map bad = cc same in ap (λ (o : MapErr). (let r : Result Command MapErr = Err o in r)) error

module _ (bytes key : List ℕ) (x : ℕ) (op : PageOp) where
  -- the delete of a cell of the key
  pub record IsCell : Type 0 where
    pub place : ℕ
    pub is : Delete x place ≡ op
    pub stands : stands_at bytes place key ≡ true

  pub cell_is : delete_in x bytes key ≡ Ok (Some op) → IsCell
  cell_is is = by_place (seek bytes key) is
    where
      by_place : (o : Option ℕ) → at_place (delete_at x bytes key) x o ≡ Ok (Some op) → IsCell
      by_place None e = cc
      by_place (Some i) e =
          let made : (if stands_at bytes i key then Some (Delete x i) else None) ≡ Some op = cc e in
          let stands = if_some (stands_at bytes i key) (Some (Delete x i)) op made in
          record { place = i; is = same_some (Delete x i) op stands.1; stands = stands.0 }
