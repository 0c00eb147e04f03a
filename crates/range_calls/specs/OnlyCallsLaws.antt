-- Commands of which only those of its own calls write a range leave it what it is.
use Rattle.std.proofs.Common.{◌≡◌, ◌<◌, ℕ, zero, suc, ◌+◌, ◌-◌, Option, None, Some, List, [], ◌∷◌, ◌++◌, length, map, take, refl, sym, ap, ◌∙◌, subst, arith, inl, inr}
use Rattle.std.proofs.Math.Seq.{take-length, take-append-add}
use Rattle.std.proofs.lemmas.List.{map-append, take_all, take-append-le, take-map}
use Rattle.std.proofs.lemmas.List.Sums.{fold-append}
use Rattle.std.proofs.lemmas.List.Elements.{All-head, All-tail}
use Rattle.std.proofs.lemmas.Bool.{cases_lt, cond-false}
use Rattle.disk_model.specs.Disk.{Files}
use Rattle.oper_core.specs.State.{State, start, is_among, value_for}
use Rattle.oper_core.specs.Meaning.{Meaning, after, read_values}
use Rattle.formats.specs.declared.params.Params.{Params}
use Rattle.op_codec.specs.AllOps.{all_meaning}
use Rattle.store_engine.specs.Store.{Stands}
use Rattle.store_engine.specs.Uniqueness.{HaveOneState}
use Rattle.call_plans.specs.Laws.{Acts, DependOn, after_all}
use Rattle.call_plans.specs.Plan.{Plan}
use Rattle.range_calls.specs.OnlyCalls.{AreOnlyCalls, FilesKeep, HasMap, IsBeside, IsPart, IsShortCall, Map, MapCall, OnlyCallsKeep, Part, Step, beside, called, change_of, commands_in, ending_with, map_after, map_after_one, part_steps, steps, steps_in, steps_of, unless_refused, with_first}
use Rattle.range_calls.specs.Store.{Command, meaning_in, state_of}

-- a first part of a first part is one of the whole
cut_twice : {A : Type 0} (n k : ℕ) (xs : List A) → (m : ℕ) × (take n (take k xs) ≡ take m xs)
cut_twice zero k xs = (0, refl)
cut_twice (suc n) zero xs = (0, refl)
cut_twice (suc n) (suc k) [] = (0, refl)
cut_twice (suc n) (suc k) (x ∷ xs) = let rest = cut_twice n k xs in (suc rest.0, ap (λ l. x ∷ l) rest.1)

module _ {O : Type 0} (kind : O → Command) (done : Option MapCall) where
  ending_commands : (ops : List O) → commands_in (ending_with kind done ops) ≡ map kind ops
  ending_commands [] = refl
  ending_commands (op ∷ []) = refl
  ending_commands (op ∷ next ∷ ops) = ap (λ (l : List Command). kind op ∷ l) (ending_commands (next ∷ ops))

  ending_length : (ops : List O) → length (ending_with kind done ops) ≡ length ops
  ending_length [] = refl
  ending_length (op ∷ []) = refl
  ending_length (op ∷ next ∷ ops) = ap suc (ending_length (next ∷ ops))

  -- the last command alone changes the map
  front_keeps : (ops : List O) (n : ℕ) (m : Map) → n < length ops → map_after m (take n (ending_with kind done ops)) ≡ m
  front_keeps [] n m less = absurd (omega (arith, less))
  front_keeps (op ∷ []) zero m less = refl
  front_keeps (op ∷ []) (suc n) m less = absurd (omega (arith, less))
  front_keeps (op ∷ next ∷ ops) zero m less = refl
  front_keeps (op ∷ next ∷ ops) (suc n) m less = front_keeps (next ∷ ops) n m (omega (arith, less))

  whole_changes : (op : O) (ops : List O) (m : Map) → map_after m (ending_with kind done (op ∷ ops)) ≡ map_after_one m done
  whole_changes op [] m = refl
  whole_changes op (next ∷ ops) m = whole_changes next ops m

  -- a first part of the steps has the first commands
  cut_commands : (ops : List O) (n : ℕ) → commands_in (take n (ending_with kind done ops)) ≡ map kind (take n ops)
  cut_commands ops n =
      sym (take-map (λ step. step.command) n (ending_with kind done ops)) ∙ ap (λ (l : List Command). take n l) (ending_commands ops) ∙ take-map kind n ops

-- the commands of a part that is a call are the first of its plan
pub part_commands : (p : Params) (lo hi : ℕ) {O R : Type 0} (kind : O → Command) (plan : State → MapCall → Plan O R) (s : State) (call : MapCall) (n : ℕ)
    → commands_in (part_steps p lo hi kind plan s (called call n)) ≡ take n (map kind (plan s call).commands)
part_commands p lo hi kind plan s call n = cut_commands kind (unless_refused call (plan s call).refusal) (plan s call).commands n ∙ sym (take-map kind n (plan s call).commands)

module _ (p : Params) (lo hi : ℕ) {O R : Type 0} (kind : O → Command) (plan : State → MapCall → Plan O R) (Is : State → Type 0) (content : State → Map) where
  abbrev m : Meaning Command
  m = meaning_in p

  -- the range is one after the steps from a state on, with the map that they make
  abbrev Has : State → List Step → Type 0
  Has s xs = HasMap p lo hi kind plan Is content (content s) xs (after_all m s (commands_in xs))

  -- of steps one after the other
  both_have : (s : State) (xs ys : List Step) → Has s xs → Has (after_all m s (commands_in xs)) ys → Has s (xs ++ ys)
  both_have s xs ys first second =
      let same : after_all m s (commands_in (xs ++ ys)) ≡ after_all m (after_all m s (commands_in xs)) (commands_in ys) =
      ap (after_all m s) (map-append (λ step. step.command) xs ys) ∙ fold-append (after m) s (commands_in xs) (commands_in ys) in
      record {
        kept = subst Is (sym same) second.kept;
        holds =
            ap content same ∙ second.holds ∙ ap (λ (n : Map). map_after n ys) first.holds
            ∙ sym (fold-append (λ n step. map_after_one n step.done) (content s) xs ys);
      }

  cut_has : (s : State) (xs ys : List Step) → ((n : ℕ) → Has s (take n xs)) → (Is (after_all m s (commands_in xs)) → (n : ℕ) → Has (after_all m s (commands_in xs)) (take n ys))
      → (n : ℕ) → Has s (take n (xs ++ ys))
  cut_has s xs ys front behind n = elim (cases_lt n (length xs)) [
    | inl less ↦ subst (Has s) (sym (take-append-le n xs ys (omega (arith, less)))) (front n)
    | inr more ↦
        let all : Has s xs = subst (Has s) (take-length xs) (front (length xs)) in
        let k : ℕ = n - length xs in
        let same : n ≡ length xs + k = omega (arith, more) in
        subst (Has s) (sym (ap (λ (i : ℕ). take i (xs ++ ys)) same ∙ take-append-add xs ys k)) (both_have s xs (take k ys) all (behind all.kept k))
  ]

  module _ (own : Meaning O) (means : (s : State) (op : O) → after m s (kind op) ≡ after own s op) (range : DependOn lo hi Is content)
      (acts : (s : State) (call : MapCall) → IsShortCall call → Is s → Acts own Is content s (change_of call) (plan s call)) where
    same_state : (s : State) (ops : List O) → after_all m s (map kind ops) ≡ after_all own s ops
    same_state s [] = refl
    same_state s (op ∷ ops) = same_state (after m s (kind op)) ops ∙ ap (λ (t : State). after_all own t ops) (means s op)

    all_made : (s : State) (call : MapCall) (ops : List O) (refusal : Option R) → Acts own Is content s (change_of call) (record { commands = ops; refusal = refusal })
        → content (after_all own s ops) ≡ map_after (content s) (ending_with kind (unless_refused call refusal) ops)
    all_made s call [] refusal a = refl
    all_made s call (op ∷ ops) None a = a.done refl ∙ sym (whole_changes kind (Some call) op ops (content s))
    all_made s call (op ∷ ops) (Some r) a = a.refused r refl ∙ sym (whole_changes kind None op ops (content s))

    -- the first commands of a call
    call_has : (s : State) (call : MapCall) → IsShortCall call → Is s → (n : ℕ) → Has s (take n (steps_of kind call (plan s call)))
    call_has s call short is n =
        let a = acts s call short is in
        let ops : List O = (plan s call).commands in
        let done : Option MapCall = unless_refused call (plan s call).refusal in
        let same : after_all m s (commands_in (take n (ending_with kind done ops))) ≡ after_all own s (take n ops) = ap (after_all m s) (cut_commands kind done ops n) ∙ same_state s (take n ops) in
        record {
          kept = subst Is (sym same) (a.kept n);
          holds = ap content same ∙ elim (cases_lt n (length ops)) [
            | inl less ↦ a.before n less ∙ sym (front_keeps kind done ops n (content s) less)
            | inr more ↦
                ap (λ (l : List O). content (after_all own s l)) (take_all n ops more) ∙ all_made s call ops (plan s call).refusal a
                ∙ ap (map_after (content s)) (sym (take_all n (ending_with kind done ops) (omega (arith, more, ending_length kind done ops))))
          ];
        }

    -- a command beside the range
    beside_has : (s : State) (op : Command) → IsBeside p lo hi op → Is s → (n : ℕ) → Has s (take n (record { command = op; done = None } ∷ []))
    beside_has s op none is n = by_length n
      where
        done : Has s (record { command = op; done = None } ∷ [])
        done =
            let stays = range s (after m s op)
            (λ x from to. cond-false (is_among x (m.writes op)) (value_for x (m.writes op) (m.effect op (read_values m s op))) (s x) (none x from to)) is in
            record { kept = stays.0; holds = stays.1 }

        by_length : (n : ℕ) → Has s (take n (record { command = op; done = None } ∷ []))
        by_length zero = record { kept = is; holds = refl }
        by_length (suc zero) = done
        by_length (suc (suc n)) = done

    part_has : (s : State) (part : Part) → IsPart p lo hi part → Is s → (n : ℕ) → Has s (take n (part_steps p lo hi kind plan s part))
    part_has s (beside op) good is n = beside_has s op good is n
    part_has s (called call k) good is n =
        let whole : List Step = steps_of kind call (plan s call) in
        let cut = cut_twice n k whole in
        subst (Has s) (sym cut.1) (call_has s call good is cut.0)

    parts_have : (s : State) (parts : List Part) → AreOnlyCalls p lo hi parts → Is s → (n : ℕ) → Has s (take n (steps_in p lo hi kind plan s parts))
    parts_have s [] good is zero = record { kept = is; holds = refl }
    parts_have s [] good is (suc n) = record { kept = is; holds = refl }
    parts_have s (part ∷ parts) good is n =
        let first : List Step = part_steps p lo hi kind plan s part in
        let t : State = after_all m s (commands_in first) in
        cut_has s first (steps_in p lo hi kind plan t parts) (part_has s part (All-head (IsPart p lo hi) part parts good) is)
        (λ kept k. parts_have t parts (All-tail (IsPart p lo hi) part parts good) kept k) n

    pub only_calls_keep : OnlyCallsKeep p lo hi kind plan Is content
    only_calls_keep commands parts is good n =
        let all : List Step = steps p lo hi kind plan Is content commands parts in
        let same : state_of p (commands ++ take n (commands_in all)) ≡ after_all m (state_of p commands) (commands_in (take n all)) =
        fold-append (after m) start commands (take n (commands_in all)) ∙ ap (after_all m (state_of p commands)) (take-map (λ step. step.command) n all) in
        subst (HasMap p lo hi kind plan Is content (content (state_of p commands)) (take n all)) (sym same) (parts_have (state_of p commands) parts good is n)

    pub files_keep : ((q r : Params) (files : Files) (commands others : List Command) → Stands all_meaning q files commands → Stands all_meaning r files others → q ≡ r)
        → ((q r : Params) (files : Files) (commands others : List Command) → Stands all_meaning q files commands → Stands all_meaning r files others → HaveOneState (meaning_in q) commands others)
        → FilesKeep p lo hi kind plan Is content
    files_keep one_store one_state commands parts is good n files stands q found stands_too =
        let whole : List Command = with_first p lo hi kind plan Is content commands parts n in
        let all : List Step = steps p lo hi kind plan Is content commands parts in
        let states = one_state p q files whole found stands stands_too in
        let same : state_of p whole ≡ state_of q found =
        (λ i x. states.state x i) ∙ ap (λ (r : Params). state_of r found) (one_store p q files whole found stands stands_too) in
        subst (HasMap p lo hi kind plan Is content (content (state_of p commands)) (take n all)) same (only_calls_keep commands parts is good n)
