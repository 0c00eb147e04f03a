-- The rounds of a set are the turns of its plan.
use Rattle.std.proofs.Common.{◌≡◌, ◌<◌, refl, sym, ap, ◌∙◌, subst, ℕ, zero, suc, ◌+◌, ◌*◌, ◌-◌, Bool, true, false, if◌then◌else◌, Option, None, Some, Result, Ok, Err, List, [], ◌∷◌, map, option_map, arith}
use Rattle.std.specs.Prelude.{◌&&◌, ◌==◌, nat_le}
use Rattle.std.proofs.lemmas.Bool.{cond-true, cond-false}
use Rattle.std.proofs.lemmas.List.{map-append}
use Rattle.oper_core.specs.State.{State}
use Rattle.oper_core.specs.Meaning.{after}
use Rattle.oper_core.specs.declared.bounds.Bounds.{Bounds}
use Rattle.formats.specs.Objects.{bounds_of}
use Rattle.formats.specs.declared.params.Params.{Params}
use Rattle.key_entries.specs.EntryLaws.{if_some, same_some}
use Rattle.call_plans.specs.Free.{free_from}
use Rattle.call_plans.specs.Laws.{AllAccepted, after_all}
use Rattle.call_plans.specs.Plan.{Plan, refused_by}
use Rattle.op_codec.specs.AllOps.{all_meaning, page}
use Rattle.page_ops.specs.Operation.{page_meaning}
use Rattle.page_ops.specs.Reading.{level_in, opens, seek}
use Rattle.page_ops.specs.Search.{last_under}
use Rattle.page_ops.specs.declared.page_op.PageOp.{PageOp}
use Rattle.page_map.specs.Map.{bytes_at}
use Rattle.page_map.specs.Plan.{at_place, set_at}
use Rattle.page_map.specs.Sets.{Turn, does, ends, refuses, by_turn, cut_turn, due_in, is_pair, length_with, put_turn, room_in, room_of, set_by, set_from, set_plan, set_turn, unless_bad}
use Rattle.page_map.specs.Splits.{all_there, bad_behind, bad_from, cells_read, due_from, reads_on}
use Rattle.page_map.specs.Walk.{child_for, is_on, walk, walk_from}
use Rattle.page_map.specs.declared.refusal.MapRefusal.{MapRefusal}
use Rattle.page_map.specs.declared.refusal.MapRefusal.TheVariants.{BadMap, TooLong}
use Rattle.range_calls.specs.Answers as answers
use Rattle.range_calls.specs.Rounds.{behind, by_round, in_rounds, rounds_from, tried}
use Rattle.range_calls.specs.Store.{Command, state_of}
use Rattle.range_calls.specs.declared.call_err.CallErr.TheVariants.{Refused}
use Rattle.range_calls.specs.declared.round.Round.{Round}
use Rattle.map_client.specs.Answers.{MapErr, bad_map, told}
use Rattle.map_client.specs.Changing.{closed_by, in_store, made_unless, set_comes, set_made}
use Rattle.map_client.specs.Reading.{level_of, put_on, where_room}
use Rattle.map_client.specs.Turning.{IsReady, by_leaf, round_of}
use Rattle.map_client.specs.declared.call_refusal.CallRefusal.{CallRefusal}
use Rattle.map_client.specs.declared.call_refusal.CallRefusal.TheVariants.{Map}

module _ (b : Bounds) where
  -- operations on pages do as commands of the store what they do alone
  pub after_pages : (s : State) (ops : List PageOp) → after_all (all_meaning b) s (map page ops) ≡ after_all (page_meaning b) s ops
  after_pages s [] = refl
  after_pages s (op ∷ ops) = after_pages (after (page_meaning b) s op) ops

  pub accepted_pages : (s : State) (ops : List PageOp) → AllAccepted (page_meaning b) s ops → AllAccepted (all_meaning b) s (map page ops)
  accepted_pages s [] accepted = tt
  accepted_pages s (op ∷ ops) accepted = (accepted.0, accepted_pages (after (page_meaning b) s op) ops accepted.1)

  module _ (lo hi : ℕ) (key value : List ℕ) where
    abbrev next : State → Result Round CallRefusal
    next s = round_of (set_turn b lo hi key value s)

    pub rounds_are_turns : (n : ℕ) (s : State) → rounds_from (all_meaning b) next n s ≡ in_store (set_from b lo hi key value n s)
    rounds_are_turns zero s = refl
    rounds_are_turns (suc n) s = by_next (set_turn b lo hi key value s) (rounds_are_turns n)
      where
        by_next : (x : Turn) → ((t : State) → rounds_from (all_meaning b) next n t ≡ in_store (set_from b lo hi key value n t)) → by_round (λ ops. rounds_from (all_meaning b) next n (after_all (all_meaning b) s ops)) (round_of x)
            ≡ in_store (by_turn b lo hi (λ ops. set_from b lo hi key value n (after_all (page_meaning b) s ops)) x)
        by_next (does ops) on =
            let rest : Plan PageOp MapRefusal = set_from b lo hi key value n (after_all (page_meaning b) s ops) in
            ap (λ (t : State). behind (map page ops) (rounds_from (all_meaning b) next n t)) (after_pages s ops)
            ∙ ap (behind (map page ops)) (on (after_all (page_meaning b) s ops))
            ∙ (λ i. record { commands = sym (map-append page ops rest.commands) i; refusal = option_map Map rest.refusal })
        by_next (ends op) on = refl
        by_next (refuses r) on = refl

    -- a set of a pair that is too long, or one whose way begins with a bad root
    pub refuses_first : (n : ℕ) (s : State) (r : MapRefusal) → set_turn b lo hi key value s ≡ refuses r → set_from b lo hi key value (suc n) s ≡ refused_by r
    refuses_first n s r is = ap (by_turn b lo hi (λ ops. set_from b lo hi key value n (after_all (page_meaning b) s ops))) is

    pub plan_refuses : (s : State) (r : MapRefusal) → set_turn b lo hi key value s ≡ refuses r → set_plan b lo hi key value s ≡ refused_by r
    plan_refuses s r is =
        let level : ℕ = level_in (bytes_at lo s lo) in
        let some : 2 * level + 3 ≡ suc (2 * level + 2) = omega arith in
        ap (λ (n : ℕ). set_from b lo hi key value n s) some ∙ refuses_first (2 * level + 2) s r is

    pub long_turn : (s : State) → is_pair (room_of b.cap) (key, value) ≡ false → set_turn b lo hi key value s ≡ refuses TooLong
    long_turn s long = cond-false (is_pair (room_of b.cap) (key, value)) (set_by b lo hi key value s (walk lo hi s key)) (refuses TooLong) long

    module _ (s : State) (short : is_pair (room_of b.cap) (key, value) ≡ true) where
      abbrev cut : Turn
      cut = cut_turn lo (free_from s (suc lo) (hi - lo)) (due_in b lo hi key value s)

      pair_turn : set_turn b lo hi key value s ≡ set_by b lo hi key value s (walk lo hi s key)
      pair_turn = cond-true (is_pair (room_of b.cap) (key, value)) (set_by b lo hi key value s (walk lo hi s key)) (refuses TooLong) short

      -- the way meets a bad object
      pub bad_turn : (e : MapErr) → told (walk lo hi s key) ≡ Err e → (bad : ℕ) × (set_turn b lo hi key value s ≡ refuses (BadMap bad)) × (e ≡ bad_map bad)
      bad_turn e is = by_way (walk lo hi s key) refl is
        where
          by_way : (w : Result ℕ ℕ) → walk lo hi s key ≡ w → told w ≡ Err e → (bad : ℕ) × (set_turn b lo hi key value s ≡ refuses (BadMap bad)) × (e ≡ bad_map bad)
          by_way (Ok x) way same = cc
          by_way (Err bad) way same = (bad, pair_turn ∙ ap (set_by b lo hi key value s) way, cc same)

      pub bad_told : (e : MapErr) → told (walk lo hi s key) ≡ Err e → Err e ≡ answers.told (next s)
      bad_told e is =
          let bad = bad_turn e is in
          ap (λ (o : MapErr). (let r : Result Round MapErr = Err o in r)) bad.2 ∙ sym (ap (λ (t : Turn). answers.told (round_of t)) bad.1)

      -- the turn, by what is found in the leaf at the end of the way
      pub leaf_turn : (x : ℕ) → walk lo hi s key ≡ walk_from lo hi s key 0 x → set_turn b lo hi key value s ≡ by_leaf cut (put_on (room_of b.cap) x (bytes_at lo s x) key value)
      leaf_turn x way = pair_turn ∙ ap (set_by b lo hi key value s) way ∙ on_leaf
        where
          at_place_of : (i : ℕ) (t : Bool) → (if t then ends (set_at x (bytes_at lo s x) key value i) else cut) ≡ by_leaf cut (where_room x (Ok (set_at x (bytes_at lo s x) key value i)) (Some t))
          at_place_of i true = refl
          at_place_of i false = refl

          at_seek : (o : Option ℕ) → put_turn b lo hi key value s x o
              ≡ by_leaf cut (where_room x (at_place (set_at x (bytes_at lo s x) key value) x o) (option_map (λ i. nat_le (length_with (bytes_at lo s x) key value i) (room_of b.cap)) o))
          at_seek None = refl
          at_seek (Some i) = at_place_of i (nat_le (length_with (bytes_at lo s x) key value i) (room_of b.cap))

          on_leaf : set_by b lo hi key value s (if is_on 0 (bytes_at lo s x) then Ok x else Err x) ≡ by_leaf cut (put_on (room_of b.cap) x (bytes_at lo s x) key value)
          on_leaf = elim (is_on 0 (bytes_at lo s x)) as (λ t. set_by b lo hi key value s (if t then Ok x else Err x)
              ≡ by_leaf cut (where_room x (if t then at_place (set_at x (bytes_at lo s x) key value) x (seek (bytes_at lo s x) key) else Err x) (if t then room_in (room_of b.cap) (bytes_at lo s x) key value else None))) [
                | true ↦ at_seek (seek (bytes_at lo s x) key)
                | false ↦ refl
              ]

      -- what a round answers, by what a call finds in the leaf
      abbrev pub leaf_told : Result (Option PageOp) MapErr → Result Round MapErr
      leaf_told (Err e) = Err e
      leaf_told (Ok (Some op)) = Ok (record { ops = page op ∷ []; last = true })
      leaf_told (Ok None) = answers.told (round_of cut)

      pub found_turn : (x room : ℕ) → room ≡ room_of b.cap → walk lo hi s key ≡ walk_from lo hi s key 0 x → (r : Result (Option PageOp) MapErr) → r ≡ told (put_on room x (bytes_at lo s x) key value)
          → leaf_told r ≡ answers.told (next s)
      found_turn x room same way r is =
          ap leaf_told is ∙ by_put (put_on room x (bytes_at lo s x) key value)
          ∙ ap (λ (n : ℕ). answers.told (round_of (by_leaf cut (put_on n x (bytes_at lo s x) key value)))) same
          ∙ sym (ap (λ (t : Turn). answers.told (round_of t)) (leaf_turn x way))
        where
          by_put : (q : Result (Option PageOp) ℕ) → leaf_told (told q) ≡ answers.told (round_of (by_leaf cut q))
          by_put (Ok (Some op)) = refl
          by_put (Ok None) = refl
          by_put (Err bad) = refl

-- the store is ready for the pair
pub record Ready (hi room : ℕ) (key value : List ℕ) (b : Bounds) : Type 0 where
  pub there : hi < b.objects
  pub room_is : room ≡ room_of b.cap
  pub short : is_pair (room_of b.cap) (key, value) ≡ true

pub ready_in : {mine p : Params} {hi room : ℕ} {key value : List ℕ} → mine ≡ p → IsReady hi room key value mine → Ready hi room key value (bounds_of p)
ready_in {p = p} {hi = hi} {room = room} {key = key} {value = value} are ready =
    let here = subst (λ (q : Params). IsReady hi room key value q) are ready in
    record { there = here.there; room_is = here.room_is; short = ap (λ (n : ℕ). is_pair n (key, value)) (sym here.room_is) ∙ here.pair }

-- what comes of a set that is refused at once
pub refused_made : (lo hi : ℕ) (key value : List ℕ) (p : Params) (commands : List Command) (r : MapRefusal) → set_turn (bounds_of p) lo hi key value (state_of p commands) ≡ refuses r
    → set_made lo hi key value p commands ≡ refused_by (Refused (Map r))
refused_made lo hi key value p commands r is = ap (λ (q : Plan PageOp MapRefusal). tried p (state_of p commands) (in_store q)) (plan_refuses (bounds_of p) lo hi key value (state_of p commands) r is)

-- the level that the root tells
pub level_is : (bytes : List ℕ) (level : ℕ) → level_of bytes ≡ Some level → level ≡ level_in bytes
level_is bytes level is = sym (same_some (level_in bytes) level (if_some (opens bytes) (Some (level_in bytes)) level is).1)

-- in so many rounds
pub rounds_made : (lo hi : ℕ) (key value : List ℕ) (p : Params) (commands : List Command) (level : ℕ) → level_of (bytes_at lo (state_of p commands) lo) ≡ Some level
    → in_rounds (λ b s. round_of (set_turn b lo hi key value s)) (2 * level + 3) p commands ≡ set_made lo hi key value p commands
rounds_made lo hi key value p commands level is =
    let s : State = state_of p commands in
    ap (tried p s) (rounds_are_turns (bounds_of p) lo hi key value (2 * level + 3) s)
    ∙ ap (λ (n : ℕ). tried p s (in_store (set_from (bounds_of p) lo hi key value (2 * n + 3) s))) (level_is (bytes_at lo s lo) level is)

module _ (lo hi : ℕ) (key value : List ℕ) (p : Params) (commands : List Command) where
  -- what comes of a set where the store is closed, and where it is open
  pub closed_comes : (refusal : CallRefusal) → closed_by (bounds_of p) hi ≡ Some refusal → set_comes lo hi key value p commands ≡ refused_by (Refused refusal)
  closed_comes refusal is = ap (λ (o : Option CallRefusal). made_unless o (set_made lo hi key value p commands)) is

  pub open_comes : closed_by (bounds_of p) hi ≡ None → set_comes lo hi key value p commands ≡ set_made lo hi key value p commands
  open_comes is = ap (λ (o : Option CallRefusal). made_unless o (set_made lo hi key value p commands)) is

  pub long_comes : closed_by (bounds_of p) hi ≡ None → is_pair (room_of p.cap) (key, value) ≡ false → set_comes lo hi key value p commands ≡ refused_by (Refused (Map TooLong))
  long_comes is long = open_comes is ∙ refused_made lo hi key value p commands TooLong (long_turn (bounds_of p) lo hi key value (state_of p commands) long)

-- the search for the page that is cut meets a bad root
pub root_is_bad : (b : Bounds) (lo hi : ℕ) (key value : List ℕ) (s : State) → opens (bytes_at lo s lo) ≡ false → due_in b lo hi key value s ≡ Err lo
root_is_bad b lo hi key value s shut =
    let level : ℕ = level_in (bytes_at lo s lo) in
    ap (λ (o : Option ℕ). unless_bad lo o (due_from (room_of b.cap) lo s key value level lo None)) (bad level)
  where
    shut_on : (level : ℕ) → reads_on level (bytes_at lo s lo) ≡ false
    shut_on level = ap (λ (t : Bool). (t && (level_in (bytes_at lo s lo) == level)) && all_there (bytes_at lo s lo)) shut

    bad : (level : ℕ) → bad_from lo hi s key level lo ≡ Some lo
    bad zero = cond-false (reads_on 0 (bytes_at lo s lo)) None (Some lo) (shut_on 0)
    bad (suc level) =
        cond-false (reads_on (suc level) (bytes_at lo s lo)) (bad_behind (bad_from lo hi s key level) lo (child_for lo hi (bytes_at lo s lo) (last_under key (cells_read (bytes_at lo s lo))))) (Some lo)
        (shut_on (suc level))
