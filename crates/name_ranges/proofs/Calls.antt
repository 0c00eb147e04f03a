-- What calls on the map do to names.
use Rattle.std.proofs.Common.{◌≡◌, ◌<◌, ◌≤◌, ◌^◌, inl, inr, refl, sym, ap, ◌∙◌, subst, arith, true≢false, ℕ, suc, ◌+◌, ◌*◌, ◌-◌, ◌/◌, Bool, true, false, ◌&&◌, if◌then◌else◌, Option, None, Some, Result, Ok, List, length, map, take, option_map}
use Rattle.std.specs.Prelude.{is_some, nat_le, nat_lt}
use Rattle.std.proofs.lemmas.Bool.{cases_Bool, le-leb, leb-true, lt-ltb}
use Rattle.std.proofs.lemmas.List.{take_all}
use Rattle.std.specs.Cmp.Lexicographic.{nat_list_cmp_total}
use Rattle.std.specs.FinMap.{empty, get, get-empty, insert, nat_cmp-IsAntisymmetric, remove, same_map, slice_cmp-IsAntisymmetric}
use Rattle.oper_core.specs.State.{State}
use Rattle.oper_core.specs.declared.bounds.Bounds.{Bounds}
use Rattle.key_entries.specs.Entries.{byte_order}
use Rattle.call_plans.specs.Laws.{AllAccepted, after_all}
use Rattle.call_plans.specs.Plan.{Plan}
use Rattle.op_codec.specs.AllOps.{all_meaning, page}
use Rattle.page_ops.specs.Operation.{page_meaning}
use Rattle.page_ops.specs.declared.page_op.PageOp.{PageOp}
use Rattle.page_map.specs.Deletes.{Deletes, delete_by, delete_plan}
use Rattle.page_map.specs.Map.{IsMap, content_of}
use Rattle.page_map.specs.Plan.{DeleteMakes, delete_command}
use Rattle.page_map.specs.Sets.{IsCause, IsKept, Sets, is_pair, room_of, set_plan}
use Rattle.page_map.specs.Walk.{get_answer}
use Rattle.page_map.specs.declared.refusal.MapRefusal.{MapRefusal}
use Rattle.page_map.specs.declared.refusal.MapRefusal.TheVariants.{BadMap, MapFull, NoKey, TooLong}
use Rattle.named_words.specs.Effects.{Names}
use Rattle.name_ranges.specs.Changes.{Gives, IsFound, Leaves, LeavesOthers, Takes, giving, taking}
use Rattle.name_ranges.specs.Directory.{Directory, IsSpare, key_of, name_most, number_bytes, number_in, object_of, sizes_of}
use Rattle.name_ranges.specs.Named.{HasMaps, IsNamed, directory_of}
use Rattle.name_ranges.proofs.Directories.{directory_given, directory_taken, object_given, object_given_other, object_taken, object_taken_other, taken_here, taken_other, tells}
use Rattle.name_ranges.proofs.Naming.{AreNamed, are_named, given_value, values_alike}
use Rattle.name_ranges.proofs.Untouched.{accepted_pages, after_pages, delete_alike, narrow, set_alike, untouched}

-- ---- how long names may be

one_eighth : (room n : ℕ) → 128 ≤ room → n ≤ room / 8 - 16 → 8 * (8 + n + 8) ≤ room
one_eighth room n wide fits = omega (arith, wide, fits)

within_most : (room n : ℕ) → n ≤ name_most room → (n ≤ 1015) × (n ≤ room / 8 - 16)
within_most room n =
    elim (cases_Bool (nat_le 1015 (room / 8 - 16))) [
      | inl low ↦ λ fits.
          let most : n ≤ 1015 = subst (λ (t : Bool). n ≤ (if t then 1015 else room / 8 - 16)) low fits in
          (most, let wide = leb-true 1015 (room / 8 - 16) low in omega (arith, most, wide))
      | inr high ↦ λ fits.
          let most : n ≤ room / 8 - 16 = subst (λ (t : Bool). n ≤ (if t then 1015 else room / 8 - 16)) high fits in
          (let below : ¬ (1015 ≤ room / 8 - 16) = λ le. true≢false (sym (le-leb 1015 (room / 8 - 16) le) ∙ high) in omega (arith, most, below), most)
    ]

wide_room : (cap : ℕ) → 1024 ≤ cap → 1024 ≤ room_of cap
wide_room cap wide = elim (nat_le cap 65535) as (λ t. 1024 ≤ (if t then cap else 65535)) [ true ↦ wide | false ↦ omega arith ]

pub short_is_pair : (b : Bounds) (name : List ℕ) (x : ℕ) → 1024 ≤ b.cap → length name ≤ (sizes_of b).name → is_pair (room_of b.cap) (key_of name, number_bytes x) ≡ true
short_is_pair b name x wide fits =
    let room = room_of b.cap in
    let roomy : 1024 ≤ room = wide_room b.cap wide in
    let most = within_most room (length name) fits in
    let low = most.0 in
    let n : ℕ = length (key_of name) in
    let long : n ≡ 8 + length name = omega arith in
    let key : nat_le (8 * (n + 8)) room ≡ true = le-leb (8 * (n + 8)) room (omega (arith, long, one_eighth room (length name) (omega (arith, roomy)) most.1)) in
    let value : nat_le 16 room ≡ true = le-leb 16 room (omega (arith, roomy)) in
    let some : nat_lt 0 n ≡ true = lt-ltb 0 n (omega (arith, long)) in
    let few : nat_le n 1023 ≡ true = le-leb n 1023 (omega (arith, long, low)) in
    λ i. (key i && value i) && (some i && few i)

module _ (b : Bounds) (lo hi : ℕ) (s : State) (names : Names) (is : IsNamed b lo hi s names) where
  -- behind commands that are accepted also in the narrow store
  module _ (has : HasMaps b hi) (ops : List PageOp) (accepted : AllAccepted (page_meaning b) s ops) (narrowly : AllAccepted (page_meaning (narrow b hi)) s ops) where
    abbrev t : State
    t = after_all (all_meaning b) s (map page ops)

    leaves_others : LeavesOthers b s lo hi (map page ops)
    leaves_others z behind = ap (λ (u : State). u z) (after_pages b s ops) ∙ untouched b hi has s ops narrowly z behind

    -- what the range is behind all of them
    behind_all : (d : Directory) (n : ℕ) → length ops ≤ n → (kept : IsKept b lo hi (after_all (page_meaning b) s (take n ops))) → content_of kept.map ≡ d
        → (also : IsKept b lo hi t) × (content_of also.map ≡ d)
    behind_all d n all kept same =
        subst (λ (u : State). (also : IsKept b lo hi u) × (content_of also.map ≡ d)) (ap (after_all (page_meaning b) s) (take_all n ops all) ∙ sym (after_pages b s ops)) (kept, same)

    leave : (others : Names) (d : Directory) → AreNamed b lo hi t others d → Leaves b s lo hi (map page ops) others d
    leave others d are = record { accepted = accepted_pages b s ops accepted; named = are.named; content = are.content }

    alike : (name : List ℕ) (z : ℕ) → object_of (directory_of is) name ≡ Some z → t z ≡ s z
    alike name z found = leaves_others z (is.directory.within name z found).0

    -- the range keeps its directory
    same_names : (kept : IsKept b lo hi t) → content_of kept.map ≡ directory_of is → Leaves b s lo hi (map page ops) names (directory_of is)
    same_names kept same =
        leave names (directory_of is)
        (are_named b lo hi t names (directory_of is) kept same is.directory (λ other. is.value other ∙ sym (values_alike s t (object_of (directory_of is) other) (alike other))))

    module _ (name : List ℕ) where
      taken_names : (kept : IsKept b lo hi t) → content_of kept.map ≡ remove (directory_of is) (key_of name)
          → Leaves b s lo hi (map page ops) (remove names name) (remove (directory_of is) (key_of name))
      taken_names kept same =
          let d : Directory = remove (directory_of is) (key_of name) in
          leave (remove names name) d
          (are_named b lo hi t (remove names name) d kept same (directory_taken (directory_of is) name hi b.objects is.directory)
          (λ other. elim (tells other name) [
            | inl here ↦
                ap (get (remove names name)) here ∙ taken_here names name ∙ sym (ap (λ n. option_map t (object_of d n)) here ∙ ap (option_map t) (object_taken (directory_of is) name))
            | inr apart ↦
                taken_other names name other apart ∙ is.value other ∙ sym (values_alike s t (object_of (directory_of is) other) (alike other))
                ∙ ap (option_map t) (sym (object_taken_other (directory_of is) name other apart))
          ]))

      given_names : (x : ℕ) → IsSpare hi b.objects (directory_of is) x → (kept : IsKept b lo hi t) → content_of kept.map ≡ insert (directory_of is) (key_of name) (number_bytes x)
          → Leaves b s lo hi (map page ops) (insert names name (s x)) (insert (directory_of is) (key_of name) (number_bytes x))
      given_names x spare kept same =
          let d : Directory = insert (directory_of is) (key_of name) (number_bytes x) in
          let before = spare.before in
          let most = has.small.objects in
          let small : x < 2 ^ 32 = omega (arith, before, most) in
          let value : (other : List ℕ) → get (insert names name (t x)) other ≡ option_map t (object_of d other) =
          given_value b lo hi s names is t name x d (object_given (directory_of is) name x small) (λ other apart. object_given_other (directory_of is) name x other apart) (λ other z apart found. alike other z found) in
          leave (insert names name (s x)) d
          (are_named b lo hi t (insert names name (s x)) d kept same (directory_given (directory_of is) name x small hi b.objects is.directory spare)
          (λ other. ap (λ (v : List ℕ). get (insert names name v) other) (sym (leaves_others x spare.behind)) ∙ value other))

  -- ---- a set

  module _ (has : HasMaps b hi) (name : List ℕ) (x : ℕ) (spare : IsSpare hi b.objects (directory_of is) x) where
    abbrev set : Plan PageOp MapRefusal
    set = giving b lo hi s names is name x

    short_cause : (u : State) (kept : IsKept b lo hi u) (r : MapRefusal) → is_pair (room_of b.cap) (key_of name, number_bytes x) ≡ true → IsCause b lo hi u kept (key_of name) (number_bytes x) r → r ≡ MapFull
    short_cause u kept MapFull short cause = refl
    short_cause u kept TooLong short cause = absurd (true≢false (sym short ∙ cause))
    short_cause u kept NoKey short cause = absurd cause
    short_cause u kept (BadMap bad) short cause = absurd cause

    pub gives : {most also : ℕ} → Sets b lo hi s is.kept (key_of name) (number_bytes x) set most
        → (narrowly : IsKept (narrow b hi) lo hi s) → Sets (narrow b hi) lo hi s narrowly (key_of name) (number_bytes x) (set_plan (narrow b hi) lo hi (key_of name) (number_bytes x) s) also
        → Gives b lo hi s names is name x
    gives acts narrowly narrow_acts =
        let ops : List PageOp = set.commands in
        let accepted : AllAccepted (page_meaning (narrow b hi)) s ops =
        subst (λ (plan : Plan PageOp MapRefusal). AllAccepted (page_meaning (narrow b hi)) s plan.commands) (set_alike b hi has lo (key_of name) (number_bytes x) s) narrow_acts.accepted in
        let n : ℕ = length ops in
        record {
          done = λ none.
              let kept = behind_all has ops acts.accepted accepted (insert (directory_of is) (key_of name) (number_bytes x)) n (omega arith) (acts.kept n) (acts.done none) in
              given_names has ops acts.accepted accepted name x spare kept.0 kept.1;
          refused = λ r some.
              let kept = behind_all has ops acts.accepted accepted (directory_of is) n (omega arith) (acts.kept n) (acts.refused r some).0 in
              same_names has ops acts.accepted accepted kept.0 kept.1;
          full = λ r some fits. short_cause _ (acts.kept n) r (short_is_pair b name x has.wide fits) (acts.refused r some).1;
          others = leaves_others has ops acts.accepted accepted;
        }

  -- ---- a delete

  module _ (has : HasMaps b hi) (name : List ℕ) where
    abbrev delete : Plan PageOp MapRefusal
    delete = taking b lo hi s names is name

    -- a name that is not there has no key
    no_key : get names name ≡ None → get (directory_of is) (key_of name) ≡ None
    no_key none = by_found (get (directory_of is) (key_of name)) (sym (is.value name) ∙ none)
      where
        by_found : (o : Option (List ℕ)) → option_map s (option_map number_in o) ≡ None → o ≡ None
        by_found None e = refl
        by_found (Some number) e = cc

    no_name : get (directory_of is) (key_of name) ≡ None → get names name ≡ None
    no_name none = is.value name ∙ ap (λ o. option_map s (option_map number_in o)) none

    pub takes : Deletes b lo hi s is.kept (key_of name) delete → (narrowly : IsKept (narrow b hi) lo hi s)
        → Deletes (narrow b hi) lo hi s narrowly (key_of name) (delete_plan (narrow b hi) lo hi (key_of name) s) → DeleteMakes b lo hi s is.kept.map (key_of name) → Takes b lo hi s names is name
    takes acts narrowly narrow_acts makes =
        let ops : List PageOp = delete.commands in
        let accepted : AllAccepted (page_meaning (narrow b hi)) s ops =
        subst (λ (plan : Plan PageOp MapRefusal). AllAccepted (page_meaning (narrow b hi)) s plan.commands) (delete_alike b hi has lo (key_of name) s) narrow_acts.accepted in
        let n : ℕ = length ops in
        record {
          done = λ none.
              let kept = behind_all has ops acts.accepted accepted (remove (directory_of is) (key_of name)) (suc n) (omega arith) (acts.kept (suc n)) ((acts.done none).1 n) in
              taken_names has ops acts.accepted accepted name kept.0 kept.1;
          refused = λ r some. let why = acts.refused r some in (why.0, no_name why.1, why.2);
          there = λ none is_none.
              let nothing : delete_command lo hi s (key_of name) ≡ Ok None =
              makes.command ∙ ap (λ (o : Option (List ℕ)). (let found : Result (Option PageOp) ℕ = Ok (if is_some o then Some makes.op else None) in found)) (no_key none) in
              let refused : delete.refusal ≡ Some NoKey = ap (λ found. (delete_by b lo hi (key_of name) s found).refusal) nothing in
              cc (sym is_none ∙ refused);
          others = leaves_others has ops acts.accepted accepted;
        }

  -- ---- a get

  module _ (name : List ℕ) (found : Option (List ℕ)) (is_there : get (directory_of is) (key_of name) ≡ found) where
    two_maps : (o : Option (List ℕ)) → option_map s (option_map number_in o) ≡ option_map (λ number. s (number_in number)) o
    two_maps None = refl
    two_maps (Some number) = refl

    pub is_found : IsFound b lo hi s names is name found
    is_found = record {
      value = is.value name ∙ two_maps (get (directory_of is) (key_of name)) ∙ ap (option_map (λ number. s (number_in number))) is_there;
      whole = λ number some. (is.directory.whole (key_of name) number (is_there ∙ some)).1;
      within = λ number some. is.directory.within name (number_in number) (ap (option_map number_in) (is_there ∙ some));
    }

-- ---- which names

pub same_ok : {A E : Type 0} {x y : A} → ◌≡◌ {A = Result A E} (Ok x) (Ok y) → x ≡ y
same_ok e = cc e

-- the map of a state is one
pub one_content : (lo hi : ℕ) (s : State) → ((key : List ℕ) (is : IsMap lo hi s) → get_answer lo hi s key ≡ Ok (get (content_of is) key)) → (is also : IsMap lo hi s) (key : List ℕ)
    → get (content_of is) key ≡ get (content_of also) key
one_content lo hi s finds is also key = same_ok (sym (finds key is) ∙ finds key also)

pub one_names : (b : Bounds) (lo hi : ℕ) (s : State) (names others : Names) → ((key : List ℕ) (is : IsMap lo hi s) → get_answer lo hi s key ≡ Ok (get (content_of is) key))
    → IsNamed b lo hi s names → IsNamed b lo hi s others → names ≡ others
one_names b lo hi s names others finds is also =
    same_map nat_list_cmp_total (slice_cmp-IsAntisymmetric nat_cmp-IsAntisymmetric) names others
    (λ name. is.value name ∙ ap (λ o. option_map s (option_map number_in o)) (one_content lo hi s finds is.kept.map also.kept.map (key_of name)) ∙ sym (also.value name))

pub no_names : (b : Bounds) (lo hi : ℕ) (s : State) (kept : IsKept b lo hi s) → content_of kept.map ≡ empty → IsNamed b lo hi s empty
no_names b lo hi s kept none =
    (are_named b lo hi s empty empty kept none
    (record {
      whole = λ key number found. cc (sym (get-empty byte_order key) ∙ found);
      apart = λ name other x found. cc (sym (ap (option_map number_in) (get-empty byte_order (key_of name))) ∙ found);
      within = λ name x found. cc (sym (ap (option_map number_in) (get-empty byte_order (key_of name))) ∙ found);
    })
    (λ name. get-empty byte_order name ∙ sym (ap (λ o. option_map s (option_map number_in o)) (get-empty byte_order (key_of name))))).named
