-- What calls that change names do.
use Rattle.std.proofs.Common.{◌≡◌, ◌≢◌, ◌<◌, ◌≤◌, refl, sym, ap, ◌∙◌, subst, arith, true≢false, inl, inr, ℕ, ◌+◌, ◌*◌, ◌-◌, ◌/◌, ◌==◌, Bool, true, false, if◌then◌else◌, Option, None, Some, Ok, Err, List, [], ◌∷◌, ◌++◌, append_assoc, length, map, option_map}
use Rattle.std.specs.Prelude.{is_some, nat_le, nat_lt}
use Rattle.std.specs.FinMap.{get, insert, remove}
use Rattle.std.proofs.lemmas.Bool.{cases_Bool, cond-true, le-leb, lt-ltb}
use Rattle.oper_core.specs.State.{State}
use Rattle.formats.specs.Objects.{bounds_of}
use Rattle.formats.specs.declared.params.Params.{Params}
use Rattle.call_plans.specs.Plan.{Plan}
use Rattle.op_codec.specs.AllOps.{all_meaning, page}
use Rattle.page_ops.specs.Effects.{to_fill}
use Rattle.page_ops.specs.Reading.{level_in}
use Rattle.page_ops.specs.declared.page_op.PageOp.{PageOp}
use Rattle.page_map.specs.Sets.{room_of}
use Rattle.page_map.specs.declared.refusal.MapRefusal.{MapRefusal}
use Rattle.page_map.specs.declared.refusal.MapRefusal.TheVariants.{MapFull, TooLong}
use Rattle.range_calls.specs.ComesLaws.{ran, state_behind}
use Rattle.range_calls.specs.RoundLaws.{accepted_are_made, and_then}
use Rattle.range_calls.specs.Rounds.{behind as plan_behind}
use Rattle.range_calls.specs.Store.{Command, state_of}
use Rattle.range_calls.specs.declared.call_err.CallErr.TheVariants.{Refused}
use Rattle.store_engine.specs.Store.{record_length}
use Rattle.map_client.specs.Answers.{MapErr}
use Rattle.map_client.specs.Changing.{set_comes}
use Rattle.map_client.specs.Laws.{DeleteActs, SetActs}
use Rattle.map_client.specs.declared.call_refusal.CallRefusal.TheVariants.{Map}
use Rattle.named_words.specs.Effects.{Names}
use Rattle.name_ranges.specs.Changes.{Gives, Leaves, LeavesOthers, Takes, Writes, giving, taking}
use Rattle.name_ranges.specs.Directory.{Directory, IsSpare, key_of, name_most, number_bytes, object_of, sizes_of}
use Rattle.name_ranges.specs.Named.{IsNamed, directory_of}
use Rattle.name_ranges.specs.Putting.{directory_with, written_in}
use Rattle.named_objects.specs.Acting.{AreNamed, PutActs, TakeActs}
use Rattle.named_objects.specs.Answers.{as_key, find_told}
use Rattle.named_objects.specs.Giving.{changed, fresh, given_comes, given_value, new_comes, put_comes, put_found, take_comes}
use Rattle.named_objects.specs.Records.{given_bytes, levels_of, page_most, put_most, record_bytes, take_most}
use Rattle.named_objects.specs.declared.given.Given.{Given}
use Rattle.named_objects.proofs.RecordLemmas.{fresh_fits, levels_are, pages_fit}

-- a plan on pages, as a call answers it
abbrev pub as_call : Plan PageOp MapRefusal → Plan Command MapErr
as_call plan = record { commands = map page plan.commands; refusal = option_map Refused (option_map Map plan.refusal) }

none_refused : (o : Option MapRefusal) → option_map Refused (option_map Map o) ≡ None → o ≡ None
none_refused None e = refl
none_refused (Some r) e = cc

-- why it is refused, as a call answers it
pub record IsRefusal (o : Option MapRefusal) (e : MapErr) : Type 0 where
  pub why : MapRefusal
  pub is : o ≡ Some why
  pub told : e ≡ Refused (Map why)

was_refused : (o : Option MapRefusal) (e : MapErr) → option_map Refused (option_map Map o) ≡ Some e → IsRefusal o e
was_refused None e is = cc
was_refused (Some r) e is = record { why = r; is = refl; told = cc is }

-- a name that is not too long has a key that is a text
short_key : (room : ℕ) (name : List ℕ) → length name ≤ name_most room → nat_lt (length (key_of name)) 65536 ≡ true
short_key room name fits = elim (cases_Bool (nat_le 1015 (room / 8 - 16))) [
  | inl low ↦
      let most : length name ≤ 1015 = subst (λ (t : Bool). length name ≤ (if t then 1015 else room / 8 - 16)) low fits in
      lt-ltb (length (key_of name)) 65536 (omega (arith, most))
  | inr high ↦
      let most : length name ≤ room / 8 - 16 = subst (λ (t : Bool). length name ≤ (if t then 1015 else room / 8 - 16)) high fits in
      let below : ¬ (1015 ≤ room / 8 - 16) = λ le. true≢false (sym (le-leb 1015 (room / 8 - 16) le) ∙ high) in
      lt-ltb (length (key_of name)) 65536 (omega (arith, most, below))
]

with_more : (a b c : ℕ) → a ≤ b → a ≤ b + c
with_more a b c less = omega (arith, less)

in_sum : (a b c d : ℕ) → a + 0 ≤ c → b ≤ d → a + b ≤ c + d
in_sum a b c d first rest = omega (arith, first, rest)

-- what operations leave, as what commands leave that are added
pub left : (p : Params) (commands : List Command) (lo hi : ℕ) (ops : List Command) (names : Names) (d : Directory) → Leaves (bounds_of p) (state_of p commands) lo hi ops names d → AreNamed p lo hi (commands ++ ops) names d
left p commands lo hi ops names d leaves =
    let both = subst (λ (s : State). (named : IsNamed (bounds_of p) lo hi s names) × (directory_of named ≡ d)) (sym (state_behind p commands ops)) (leaves.named, leaves.content) in
    record { named = both.0; content = both.1 }

module _ (p : Params) (commands : List Command) (lo hi : ℕ) where
  stay : (ops : List Command) → LeavesOthers (bounds_of p) (state_of p commands) lo hi ops → (z : ℕ) → hi < z → state_of p (commands ++ ops) z ≡ state_of p commands z
  stay ops others z beyond = ap (λ (s : State). s z) (state_behind p commands ops) ∙ others z beyond

  module _ (names : Names) (is : IsNamed (bounds_of p) lo hi (state_of p commands) names) (name : List ℕ) where
    abbrev d : Directory
    d = directory_of is

    pub take_acts : Takes (bounds_of p) lo hi (state_of p commands) names is name → DeleteActs p commands lo hi is.kept (key_of name) → TakeActs p commands lo hi names is name
    take_acts takes acts =
        let comes : Plan Command MapErr = take_comes lo hi name p commands in
        let plan : Plan PageOp MapRefusal = taking (bounds_of p) lo hi (state_of p commands) names is name in
        let same : comes ≡ as_call plan = acts.comes in
        record {
          done = λ none.
              let left_all = left p commands lo hi (map page plan.commands) (remove names name) (remove d (key_of name)) (takes.done (none_refused plan.refusal (sym (ap (λ (q : Plan Command MapErr). q.refusal) same) ∙ none))) in
              subst (λ (q : Plan Command MapErr). AreNamed p lo hi (commands ++ q.commands) (remove names name) (remove d (key_of name))) (sym same) left_all;
          refused = λ e some.
              let why = was_refused plan.refusal e (sym (ap (λ (q : Plan Command MapErr). q.refusal) same) ∙ some) in
              let all = takes.refused why.why why.is in
              (why.told ∙ ap (λ (r : MapRefusal). Refused (Map r)) all.0, all.1, ap (λ (q : Plan Command MapErr). q.commands) same ∙ ap (map page) all.2);
          others = λ z beyond but.
              ap (λ (q : Plan Command MapErr). state_of p (commands ++ q.commands) z) same ∙ stay (map page plan.commands) takes.others z beyond;
          few =
              let level = levels_are lo hi (state_of p commands) is.kept.map in
              let most = acts.acts.few in
              subst (λ (q : Plan Command MapErr). record_bytes p q.commands ≤ take_most p.cap (levels_of lo (state_of p commands))) (sym same)
              (pages_fit p (state_of p commands) plan.commands (2 * levels_of lo (state_of p commands) + 5) acts.acts.accepted (omega (arith, level, most)));
        }

    -- ---- a put
    module _ (given : Given) (spare : ℕ) where
      abbrev bytes : List ℕ
      bytes = given_value (state_of p commands) (get names name) given

      abbrev levels : ℕ
      levels = levels_of lo (state_of p commands)

      abbrev sets_most : ℕ
      sets_most = (6 * levels + 7) * page_most p.cap

      -- what a plan does that writes this object
      pub record Acts (q : Plan Command MapErr) (with : Directory) (written : ℕ) : Type 0 where
        pub done : q.refusal ≡ None → AreNamed p lo hi (commands ++ q.commands) (insert names name bytes) with
        pub refused : (e : MapErr) → q.refusal ≡ Some e → (e ≡ Refused (Map MapFull)) × AreNamed p lo hi (commands ++ q.commands) names d
        pub others : (z : ℕ) → hi < z → z ≢ written → state_of p (commands ++ q.commands) z ≡ state_of p commands z
        pub few : record_bytes p q.commands ≤ put_most p.cap levels given

      -- one operation
      module _ (x : ℕ) (op : Command) (writes : Writes (bounds_of p) (state_of p commands) op x bytes) where
        abbrev pub one : List Command
        one = op ∷ []

        ran_is : (let q : Plan Command MapErr = ran one p commands in q ≡ record { commands = one; refusal = None })
        ran_is = accepted_are_made p (state_of p commands) one None (writes.accepted, tt)

        one_stays : (z : ℕ) → z ≢ x → state_of p (commands ++ one) z ≡ state_of p commands z
        one_stays z apart = ap (λ (s : State). s z) (state_behind p commands one) ∙ writes.others z apart

        -- on the object of the name
        pub put_old : Leaves (bounds_of p) (state_of p commands) lo hi one (insert names name bytes) d → record_bytes p one ≤ given_bytes given → Acts (ran one p commands) d x
        put_old leaves short =
            subst (λ (q : Plan Command MapErr). Acts q d x) (sym ran_is)
            (record {
              done = λ none. left p commands lo hi one (insert names name bytes) d leaves;
              refused = λ e some. cc;
              others = λ z beyond apart. one_stays z apart;
              few = with_more (record_bytes p one) (given_bytes given) sets_most short;
            })

        -- on a spare object, and a set behind it
        module _ (leaves : Leaves (bounds_of p) (state_of p commands) lo hi one names d) where
          abbrev pub behind : List Command
          behind = commands ++ one

          abbrev pub there : AreNamed p lo hi behind names d
          there = left p commands lo hi one names d leaves

          value_is : state_of p behind x ≡ bytes
          value_is = ap (λ (s : State). s x) (state_behind p commands one) ∙ writes.made

          pub still_spare : IsSpare hi p.objects d x → IsSpare hi p.objects (directory_of there.named) x
          still_spare is_spare = subst (λ (e : Directory). IsSpare hi p.objects e x) (sym there.content) is_spare

          abbrev pub set : Plan PageOp MapRefusal
          set = giving (bounds_of p) lo hi (state_of p behind) names there.named name x

          abbrev pub whole : Plan Command MapErr
          whole = record { commands = op ∷ map page set.commands; refusal = option_map Refused (option_map Map set.refusal) }

          abbrev pub with_it : Directory
          with_it = insert d (key_of name) (number_bytes x)

          -- in one list of commands
          in_one : (others : Names) (e : Directory) → AreNamed p lo hi (behind ++ map page set.commands) others e → AreNamed p lo hi (commands ++ whole.commands) others e
          in_one others e are = subst (λ (l : List Command). AreNamed p lo hi l others e) (append_assoc commands one (map page set.commands)) are

          -- the root is not written
          levels_stay : lo ≢ x → levels_of lo (state_of p behind) ≡ levels
          levels_stay apart = ap (λ (v : List ℕ). level_in (if lo == lo then to_fill v else v)) (one_stays lo apart)

          whole_acts : length name ≤ (sizes_of (bounds_of p)).name → Gives (bounds_of p) lo hi (state_of p behind) names there.named name x → record_bytes p one ≤ given_bytes given
              → record_bytes p (map page set.commands) ≤ sets_most → Acts whole with_it x
          whole_acts fits gives short set_short = record {
            done = λ none.
                let done = left p behind lo hi (map page set.commands) (insert names name (state_of p behind x)) (insert (directory_of there.named) (key_of name) (number_bytes x)) (gives.done (none_refused set.refusal none)) in
                in_one (insert names name bytes) with_it
                (subst (λ (e : Directory). AreNamed p lo hi (behind ++ map page set.commands) (insert names name bytes) (insert e (key_of name) (number_bytes x))) there.content
                (subst (λ (v : List ℕ). AreNamed p lo hi (behind ++ map page set.commands) (insert names name v) (insert (directory_of there.named) (key_of name) (number_bytes x))) value_is done));
            refused = λ e some.
                let why = was_refused set.refusal e some in (
                  why.told ∙ ap (λ (r : MapRefusal). Refused (Map r)) (gives.full why.why why.is fits),
                  in_one names d
                      (subst (λ (c : Directory). AreNamed p lo hi (behind ++ map page set.commands) names c) there.content (left p behind lo hi (map page set.commands) names (directory_of there.named) (gives.refused why.why why.is))),
                );
            others = λ z beyond apart.
                ap (λ (l : List Command). state_of p l z) (sym (append_assoc commands one (map page set.commands)))
                ∙ ap (λ (s : State). s z) (state_behind p behind (map page set.commands)) ∙ gives.others z beyond ∙ one_stays z apart;
            few = in_sum (record_length all_meaning p op) (record_bytes p (map page set.commands)) (given_bytes given) sets_most short set_short;
          }

          set_fits : lo ≢ x → SetActs p behind lo hi there.named.kept (key_of name) (number_bytes x) → record_bytes p (map page set.commands) ≤ sets_most
          set_fits apart acts =
              let level = levels_are lo hi (state_of p behind) there.named.kept.map in
              let same = levels_stay apart in
              let most = acts.acts.few in
              pages_fit p (state_of p behind) set.commands (6 * levels + 7) acts.acts.accepted (omega (arith, level, same, most))

      -- what a new name is given
      module _ (writes : Writes (bounds_of p) (state_of p commands) (fresh given spare) spare bytes) (leaves : Leaves (bounds_of p) (state_of p commands) lo hi (fresh given spare ∷ []) names d) where
        new_is : length name ≤ (sizes_of (bounds_of p)).name → set_comes lo hi (key_of name) (number_bytes spare) p (behind spare (fresh given spare) writes leaves) ≡ as_call (set spare (fresh given spare) writes leaves)
            → new_comes lo hi (key_of name) given spare p commands ≡ whole spare (fresh given spare) writes leaves
        new_is fits comes =
            let key_is : as_key (key_of name) ≡ Ok (key_of name) = cond-true (nat_lt (length (key_of name)) 65536) (Ok (key_of name)) (Err (Refused (Map TooLong))) (short_key (room_of p.cap) name fits) in
            ap (given_comes lo hi given spare p commands) key_is
            ∙ ap (λ (q : Plan Command MapErr). and_then q (set_comes lo hi (key_of name) (number_bytes spare) p (commands ++ q.commands))) (ran_is spare (fresh given spare) writes)
            ∙ ap (plan_behind (fresh given spare ∷ [])) comes

        pub put_new : IsSpare hi p.objects d spare → length name ≤ (sizes_of (bounds_of p)).name → Gives (bounds_of p) lo hi (state_of p (behind spare (fresh given spare) writes leaves)) names (there spare (fresh given spare) writes leaves).named name spare
            → SetActs p (behind spare (fresh given spare) writes leaves) lo hi (there spare (fresh given spare) writes leaves).named.kept (key_of name) (number_bytes spare)
            → Acts (new_comes lo hi (key_of name) given spare p commands) (insert d (key_of name) (number_bytes spare)) spare
        put_new is_spare fits gives acts =
            let order = is.kept.map.order in
            let behind_it = is_spare.behind in
            let apart : lo ≢ spare = λ e. absurd (omega (arith, order, behind_it, e)) in
            subst (λ (q : Plan Command MapErr). Acts q (insert d (key_of name) (number_bytes spare)) spare) (sym (new_is fits acts.comes))
            (whole_acts spare (fresh given spare) writes leaves fits gives (fresh_fits p given spare) (set_fits spare (fresh given spare) writes leaves apart acts))

      -- whether the name is there or not
      pub put_acts : find_told (bounds_of p) lo hi (state_of p commands) name ≡ Ok (object_of d name)
          → ((x : ℕ) → object_of d name ≡ Some x → Acts (ran (changed given x ∷ []) p commands) d x)
          → (object_of d name ≡ None → Acts (new_comes lo hi (key_of name) given spare p commands) (insert d (key_of name) (number_bytes spare)) spare) → PutActs p commands lo hi names is name given spare
      put_acts told old new =
          let found : put_comes lo hi name given spare p commands ≡ put_found lo hi (key_of name) given spare p commands (Ok (object_of d name)) = ap (put_found lo hi (key_of name) given spare p commands) told in
          let acts = subst (λ (q : Plan Command MapErr). Acts q (directory_with d name spare) (written_in spare (object_of d name))) (sym found) (by_object (object_of d name) refl) in
          record { done = acts.done; refused = acts.refused; others = acts.others; few = acts.few }
        where
          by_object : (o : Option ℕ) → object_of d name ≡ o
              → Acts (put_found lo hi (key_of name) given spare p commands (Ok o)) (if is_some o then d else insert d (key_of name) (number_bytes spare)) (written_in spare o)
          by_object None none = new none
          by_object (Some x) has = old x has
