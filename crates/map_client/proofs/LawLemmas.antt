-- What the calls do to a map, from what its commands make.
use Rattle.std.proofs.Common.{◌≡◌, ◌≤◌, ◌<◌, ◌^◌, refl, ap, ◌∙◌, subst, ℕ, zero, suc, ◌+◌, ◌*◌, Bool, true, false, if◌then◌else◌, Option, None, Some, Result, Ok, Err, List, ◌++◌, length, map, take, arith}
use Rattle.std.specs.Prelude.{nat_lt, is_some}
use Rattle.std.specs.FinMap.{get}
use Rattle.std.proofs.lemmas.Bool.{cond-true, lt-ltb}
use Rattle.std.proofs.lemmas.List.{take-map}
use Rattle.oper_core.specs.State.{State}
use Rattle.oper_core.specs.Meaning.{Accepts}
use Rattle.oper_core.specs.declared.bounds.Bounds.{Bounds}
use Rattle.formats.specs.Objects.{bounds_of}
use Rattle.formats.specs.declared.params.Params.{Params}
use Rattle.call_plans.specs.Laws.{after_all}
use Rattle.call_plans.specs.Plan.{Plan}
use Rattle.op_codec.specs.AllOps.{page}
use Rattle.page_ops.specs.Operation.{page_meaning}
use Rattle.page_ops.specs.Reading.{level_in, under}
use Rattle.page_ops.specs.declared.page_op.PageOp.{PageOp}
use Rattle.page_map.specs.Deletes.{Deletes}
use Rattle.page_map.specs.Map.{bytes_at, content_of, IsMap}
use Rattle.page_map.specs.Plan.{Admits, DeleteMakes, at_leaf, delete_command, delete_in}
use Rattle.page_map.specs.Sets.{IsKept, Sets}
use Rattle.page_map.specs.Walk.{child_for, get_answer, is_on, on_from, walk, walk_from}
use Rattle.range_calls.specs.declared.call_err.CallErr.TheVariants.{Refused}
use Rattle.page_map.specs.declared.refusal.MapRefusal.TheVariants.{NoKey}
use Rattle.range_calls.specs.ComesLaws.{state_behind}
use Rattle.range_calls.specs.RoundLaws.{accepted_are_made}
use Rattle.range_calls.specs.Store.{Command, meaning_in, state_of}
use Rattle.map_client.specs.Answers.{MapErr, get_told, told}
use Rattle.map_client.specs.Changing.{delete_of}
use Rattle.map_client.specs.Laws.{DeleteActs, SetActs, TakesOut, deletion, plan}
use Rattle.map_client.specs.declared.call_refusal.CallRefusal.TheVariants.{Map, NoObject}
use Rattle.map_client.proofs.OpenLemmas.{due_in, is_open}
use Rattle.map_client.proofs.CommandLemmas.{IsCell, cell_is}
use Rattle.map_client.proofs.DueLemmas.{delete_accepted}
use Rattle.map_client.proofs.SetLemmas.{accepted_pages, after_pages, open_comes}
use Rattle.map_client.proofs.TidyLemmas as TidyLemmas
use Rattle.map_client.proofs.WalkLemmas.{child_within}

pub get_is : (b : Bounds) (lo hi : ℕ) (s : State) (key : List ℕ) → hi < b.objects → {found : Option (List ℕ)} → get_answer lo hi s key ≡ Ok found → get_told b lo hi s key ≡ Ok found
get_is b lo hi s key within is = cond-true (nat_lt hi b.objects) (told (get_answer lo hi s key)) (Err (Refused NoObject)) (lt-ltb hi b.objects within) ∙ ap told is

-- a way that goes on to an end goes on from a child
record GoesOn (on : ℕ → Result ℕ ℕ) (o : Option ℕ) (x : ℕ) : Type 0 where
  pub child : ℕ
  pub is : o ≡ Some child
  pub end : on child ≡ Ok x

goes_on : (on : ℕ → Result ℕ ℕ) (y x : ℕ) (o : Option ℕ) → on_from on y o ≡ Ok x → GoesOn on o x
goes_on on y x None e = cc
goes_on on y x (Some child) e = record { child = child; is = refl; end = e }

module _ (lo hi : ℕ) (s : State) (key : List ℕ) where
  abbrev at : ℕ → List ℕ
  at x = bytes_at lo s x

  -- a way that ends, ends at a leaf of the range
  record IsLeaf (x : ℕ) : Type 0 where
    pub leaf : is_on 0 (at x) ≡ true
    pub within : x ≤ hi

  ends_at : (level y x : ℕ) → y ≤ hi → walk_from lo hi s key level y ≡ Ok x → IsLeaf x
  ends_at zero y x within is =
      elim (is_on 0 (at y)) as (λ t. is_on 0 (at y) ≡ t → (if t then Ok y else Err y) ≡ Ok x → IsLeaf x) [
        | true ↦ λ on e. let same : y ≡ x = cc e in subst IsLeaf same (record { leaf = on; within = within })
        | false ↦ λ on e. cc
      ] refl is
  ends_at (suc level) y x within is =
      elim (is_on (suc level) (at y)) as (λ t. (if t then on_from (walk_from lo hi s key level) y (child_for lo hi (at y) (under (at y) key)) else Err y) ≡ Ok x → IsLeaf x) [
        | true ↦ λ e.
            let next = goes_on (walk_from lo hi s key level) y x (child_for lo hi (at y) (under (at y) key)) e in
            ends_at level next.child x (child_within lo hi (at y) (under (at y) key) next.child next.is) next.end
        | false ↦ λ e. cc
      ] is

  -- the command of a delete is that of a key which stands in a leaf
  record IsDelete (op : PageOp) : Type 0 where
    pub object : ℕ
    pub leaf : IsLeaf object
    pub cell : IsCell (at object) key object op

  command_is : (op : PageOp) → lo ≤ hi → delete_command lo hi s key ≡ Ok (Some op) → IsDelete op
  command_is op order is = by_way (walk lo hi s key) refl is
    where
      by_way : (w : Result ℕ ℕ) → walk lo hi s key ≡ w → at_leaf (λ x. delete_in x (at x) key) w ≡ Ok (Some op) → IsDelete op
      by_way (Err bad) way e = cc
      by_way (Ok x) way e = record { object = x; leaf = ends_at (level_in (at lo)) lo x order way; cell = cell_is (at x) key x op e }

-- it is accepted, whatever the other bytes are
pub first_accepted : (b : Bounds) (lo hi : ℕ) (s : State) (key : List ℕ) (op : PageOp) → lo ≤ hi → hi < 2 ^ 32 → Admits b hi → ((x : ℕ) → length (s x) ≤ b.cap) → delete_command lo hi s key ≡ Ok (Some op)
    → Accepts (page_meaning b) s op
first_accepted b lo hi s key op order small admits fit command =
    let found = command_is lo hi s key op order command in
    let within = found.leaf.within in
    let objects = admits.objects in
    subst (λ (o : PageOp). Accepts (page_meaning b) s o) found.cell.is
    (delete_accepted b lo s found.object found.cell.place key admits.more (omega (arith, within, objects)) (omega (arith, within, small)) (fit found.object) found.leaf.leaf found.cell.stands)

module _ (b : Bounds) (lo hi : ℕ) (s : State) (is : IsMap lo hi s) (key : List ℕ) where
  abbrev has : Bool
  has = is_some (get (content_of is) key)

  module _ (small : hi < 2 ^ 32) (admits : Admits b hi) (wide : 1024 ≤ b.cap) (fit : (x : ℕ) → length (s x) ≤ b.cap) (makes : DeleteMakes b lo hi s is key) where
    by_has : (t : Bool) → delete_of (Ok (if t then Some makes.op else None)) ≡ (if t then Ok makes.op else Err (Map NoKey))
    by_has true = refl
    by_has false = refl

    accepted : has ≡ true → Accepts (page_meaning b) s makes.op
    accepted there =
        let command : delete_command lo hi s key ≡ Ok (Some makes.op) = makes.command ∙ ap (λ (t : Bool). (let r : Result (Option PageOp) ℕ = Ok (if t then Some makes.op else None) in r)) there in
        first_accepted b lo hi s key makes.op is.order small admits fit command

    pub takes_out : TakesOut b lo hi s is key
    takes_out = record {
      op = makes.op;
      due = due_in b hi (delete_of (delete_command lo hi s key)) (is_open b hi admits.objects admits.more wide) ∙ ap delete_of makes.command ∙ by_has has;
      accepted = accepted;
      made = λ there. makes.makes there (accepted there);
    }

module _ (p : Params) (commands : List Command) (lo hi : ℕ) (is : IsKept (bounds_of p) lo hi (state_of p commands)) (key value : List ℕ) where
  pub set_acts : Admits (bounds_of p) hi → 1024 ≤ p.cap → Sets (bounds_of p) lo hi (state_of p commands) is key value (plan p commands lo hi is key value) (6 * is.map.level + 7)
      → SetActs p commands lo hi is key value
  set_acts admits wide acts =
      let s : State = state_of p commands in
      let ops : List PageOp = (plan p commands lo hi is key value).commands in
      let all = open_comes lo hi key value p commands (is_open (bounds_of p) hi admits.objects admits.more wide)
      ∙ accepted_are_made p s (map page ops) _ (accepted_pages (bounds_of p) s ops acts.accepted) in
      record {
        acts = acts;
        comes = all;
        moments = λ k.
            ap (λ (q : Plan Command MapErr). state_of p (commands ++ take k q.commands)) all
            ∙ state_behind p commands (take k (map page ops)) ∙ ap (after_all (meaning_in p) s) (take-map page k ops) ∙ after_pages (bounds_of p) s (take k ops);
      }

module _ (p : Params) (commands : List Command) (lo hi : ℕ) (is : IsKept (bounds_of p) lo hi (state_of p commands)) (key : List ℕ) where
  pub delete_acts : Admits (bounds_of p) hi → 1024 ≤ p.cap → Deletes (bounds_of p) lo hi (state_of p commands) is key (deletion p commands lo hi is key) → DeleteActs p commands lo hi is key
  delete_acts admits wide acts =
      let s : State = state_of p commands in
      let ops : List PageOp = (deletion p commands lo hi is key).commands in
      let all = TidyLemmas.open_comes lo hi key p commands (is_open (bounds_of p) hi admits.objects admits.more wide)
      ∙ accepted_are_made p s (map page ops) _ (accepted_pages (bounds_of p) s ops acts.accepted) in
      record {
        acts = acts;
        comes = all;
        moments = λ k.
            ap (λ (q : Plan Command MapErr). state_of p (commands ++ take k q.commands)) all
            ∙ state_behind p commands (take k (map page ops)) ∙ ap (after_all (meaning_in p) s) (take-map page k ops) ∙ after_pages (bounds_of p) s (take k ops);
      }
