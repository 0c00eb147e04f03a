-- What installs and drains log: different objects that could be logged, and fewer than those.
use Rattle.std.proofs.Common.{◌≡◌, ◌∙◌, sym, subst, ap, ℕ, ◌+◌, ◌<◌, ◌≤◌, Bool, true, false, List, [], ◌∷◌, ◌++◌, length, refl, arith, inl, inr}
use Rattle.std.specs.Prelude.{IsTrue, IsFalse, ◌^◌, ◌==◌, ◌&&◌, nat_lt, nat_le, if◌then◌else◌}
use Rattle.std.specs.List.{AllByRecursion}
use Rattle.std.proofs.lemmas.Bool.{cases_eq, both_ways, or_cases, or_left, or_right, eq-eqb, eqb-true, cond_both, false_from_ne_true}
use Rattle.oper_core.specs.State.{is_among}
use Rattle.oper_core.specs.Meaning.{Meaning}
use Rattle.explain_core.specs.History.Member.{Identity}
use Rattle.explain_core.specs.RoundGates.{Gate, gate_step, gates_of, removals_of}
use Rattle.explain_core.specs.Turns.{round_gates}
use Rattle.explain_core.specs.Sound.{IsSound}
use Rattle.explain_core.specs.World.{World, Step, step, run, end_of}
use Rattle.explain_core.specs.World.Step.{Append, Block_gate, Slot_gate, Removal}
use Rattle.running_store.specs.Courses.{Course, course, waits, buffered, grown, force_steps, room_steps, placed, cached_length, identity_length, identity_steps, removal_steps}
use Rattle.cache_manager.specs.EachStep.{each_identities}
use Rattle.cache_manager.specs.InstallCourses.{logged_by, identity_course, identities, may_flush, next_node, round_steps, work, but_longest, finish_steps, logged_in}
use Rattle.running_store.specs.Courses.Stop.{Through, Full, At_end}
use Rattle.running_store.specs.Running.{IsRunning, KeepsSound}
use Rattle.cache_manager.proofs.Goes.{room_goes}
use Rattle.cache_manager.proofs.Lists.{AreApart, one_kept, but_longest_among, but_longest_apart}
use Rattle.cache_manager.proofs.IdentityWrite.Logging.{IsLogged, identity_goes}
use Rattle.cache_manager.proofs.Plain.{is_plain, others_plain, not_plain, slot_plain}
use Rattle.cache_manager.proofs.ToLog.Tally.{Tally, IsFewer, among_append, logged-append, counted_apart, tally_none, tally_append, tally_if, tally_then}

module _ {O : Type 0} (m : Meaning O) where
  pub tally_none_here : (w : World O) → Tally m w []
  unfolding run
  tally_none_here w = tally_none m w [] refl (λ y is. is)

  tally_force : (w : World O) → Tally m w (force_steps m w)
  unfolding run step
  tally_force w = either (waits m w)
    where
      either : (b : Bool) → Tally m w (if b then Block_gate ∷ [] else [])
      either true = tally_none m w (Block_gate ∷ []) refl (λ y is. is)
      either false = tally_none m w [] refl (λ y is. is)

  tally_room : (w : World O) (n : ℕ) → Tally m w (room_steps m w n)
  unfolding run
  tally_room w n = either (nat_lt (2 ^ 30) (buffered m w + n))
    where
      either : (b : Bool) → Tally m w (if b then force_steps m w else [])
      either true = tally_force w
      either false = tally_none m w [] refl (λ y is. is)

  tally_placed : (w : World O) (used limit n : ℕ) (with_lsn : Bool) (steps : List (Step O)) → Tally m w steps → Tally m w (placed m w used limit n with_lsn steps).steps
  tally_placed w used limit n with_lsn steps tally =
      tally_if m w (nat_lt limit (grown m w used n)) (course (force_steps m w) used (Full used (n + 5) limit)) (if with_lsn && nat_le (2 ^ 62) (end_of w) then course (force_steps m w) used (At_end (end_of w)) else course steps (grown m w used n) Through) (λ full. tally_force w)
      (λ fits. tally_if m w (with_lsn && nat_le (2 ^ 62) (end_of w)) (course (force_steps m w) used (At_end (end_of w))) (course steps (grown m w used n) Through) (λ at_end. tally_force w) (λ free. tally))

  -- an identity write of an object that may be logged
  tally_append_one : (w : World O) (x : ℕ) → IsSound m w → x < m.objects → IsTrue (is_plain w x) → Tally m w (identity_steps m x w)
  unfolding run
  tally_append_one w x sound lt plain = record {
    plain = λ y is. elim (cases_eq y x) [
      | inl here ↦ ap (is_plain w) here ∙ plain
      | inr other ↦ sym (others_plain m w sound x y other) ∙ is
    ];
    logged = λ y there. elim (or_cases (y == x) false there) [
      | inl here ↦ subst (λ (z : ℕ). (z < m.objects) × IsFalse (is_plain (step m w (Append (Identity x (w.cache x).value))) z) × IsTrue (is_plain w z)) (sym (eqb-true y x here)) (lt, not_plain m w sound x, plain)
      | inr none ↦ absurd (both_ways _ refl none)
    ];
    apart = (refl, tt);
  }

  tally_removal : (w : World O) (node : ℕ → Bool) (objects : List ℕ) → Tally m w (removal_steps m node objects)
  unfolding run step
  tally_removal w node [] = tally_none m w (Removal node ∷ []) refl (λ y is. is)
  tally_removal w node (x ∷ objects) = tally_none m w (Slot_gate node x ∷ Removal node ∷ []) refl (λ y is. slot_plain m w node x y is)

  pub tally_finish : (w : World O) → Tally m w (finish_steps m w)
  tally_finish w = tally_append m w (force_steps m w) (removal_steps m (next_node m w) (work m w)) (tally_force w) (tally_removal (run m w (force_steps m w)) (next_node m w) (work m w))

  -- these log nothing
  none_force : (w : World O) → logged_in (force_steps m w) ≡ []
  none_force w = cond_both (waits m w) (Block_gate ∷ []) [] (λ (l : List (Step O)). logged_in l ≡ []) (λ is. refl) (λ is. refl)

  none_removal : (node : ℕ → Bool) (objects : List ℕ) → logged_in (removal_steps m node objects) ≡ []
  none_removal node [] = refl
  none_removal node (x ∷ objects) = refl

  pub none_finish : (w : World O) → logged_in (finish_steps m w) ≡ []
  none_finish w = logged-append (force_steps m w) (removal_steps m (next_node m w) (work m w)) ∙ (λ i. none_force w i ++ none_removal (next_node m w) (work m w) i)

  -- a round logs nothing
  none_gates : (gates : List Gate) → logged_in {O = O} (gates_of gates ++ removals_of gates) ≡ []
  none_gates gates = logged-append {O = O} (gates_of gates) (removals_of gates) ∙ (λ i. first gates i ++ second gates i)
    where
      first : (gates : List Gate) → logged_in {O = O} (gates_of gates) ≡ []
      first [] = refl
      first (g ∷ gates) = first gates

      second : (gates : List Gate) → logged_in {O = O} (removals_of gates) ≡ []
      second [] = refl
      second (g ∷ gates) = second gates

  pub none_round : (copied most : ℕ) (w : World O) → logged_in (round_steps m copied most w) ≡ []
  none_round copied most w =
      let gates = round_gates m (may_flush m copied) most w in
      logged-append (force_steps m w) (gates_of gates ++ removals_of gates) ∙ (λ i. none_force w i ++ none_gates gates i)

  tally_gates : (w : World O) (gates : List Gate) → Tally m w (gates_of gates)
  unfolding run
  tally_gates w [] = tally_none_here w
  tally_gates w (g ∷ gates) =
      tally_append m w (gate_step g ∷ []) (gates_of gates) (tally_none m w (gate_step g ∷ []) refl (λ y is. slot_plain m w g.node g.object y is)) (tally_gates (step m w (gate_step g)) gates)

  tally_removals : (w : World O) (gates : List Gate) → Tally m w (removals_of gates)
  unfolding run step
  tally_removals w [] = tally_none_here w
  tally_removals w (g ∷ gates) = tally_append m w (Removal g.node ∷ []) (removals_of gates) (tally_none m w (Removal g.node ∷ []) refl (λ y is. is)) (tally_removals (step m w (Removal g.node)) gates)

  pub tally_round : (copied most : ℕ) (w : World O) → Tally m w (round_steps m copied most w)
  tally_round copied most w =
      let gates = round_gates m (may_flush m copied) most w in
      let v = run m w (force_steps m w) in
      tally_append m w (force_steps m w) (gates_of gates ++ removals_of gates) (tally_force w) (tally_append m v (gates_of gates) (removals_of gates) (tally_gates v gates) (tally_removals (run m v (gates_of gates)) gates))

  -- identity writes log the objects that are asked for, and no others
  abbrev AllLogged : (ℕ → Type 0) → List (Step O) → Type 0
  AllLogged P steps = (x : ℕ) → IsTrue (is_among x (logged_in steps)) → P x

  all_logged : (P : ℕ → Type 0) (steps : List (Step O)) → AllByRecursion (λ s. (x : ℕ) → IsTrue (is_among x (logged_by s)) → P x) steps → AllLogged P steps
  all_logged P [] are x there = absurd (both_ways _ refl there)
  all_logged P (s ∷ steps) are x there = elim (among_append x (logged_by s) (logged_in steps) there) [
    | inl here ↦ are.0 x here
    | inr later ↦ all_logged P steps are.1 x later
  ]

  of_identities : (P : ℕ → Type 0) (objects : List ℕ) (w : World O) (used : ℕ) → ((x : ℕ) → IsTrue (is_among x objects) → P x) → AllLogged P (identities m objects w used).steps
  of_identities P objects w used each = all_logged P (identities m objects w used).steps
      (each_identities m (λ s. (x : ℕ) → IsTrue (is_among x (logged_by s)) → P x) (λ x there. absurd (both_ways _ refl there)) objects
      (λ x among value y there. elim (or_cases (y == x) false there) [ inl same ↦ subst P (sym (eqb-true y x same)) (each x among) | inr none ↦ absurd (both_ways _ refl none) ]) w used)

  module _ (keeps : KeepsSound m) where
    tally_identity : (x : ℕ) (w : World O) (used : ℕ) → IsRunning m w → x < m.objects → IsTrue (is_plain w x) → Tally m w (identity_course m x w used).steps
    tally_identity x w used is lt plain =
        let n = identity_length (cached_length m w x) in
        let next : World O → ℕ → Course O = λ v used. placed m v used (2 ^ 48) n true (identity_steps m x v) in
        tally_then m w (course (room_steps m w n) used Through) next (λ v. Tally m v (next v used).steps)
        (room_goes m keeps w n used (λ v. Tally m v (next v used).steps) is (λ forced tables pending running.
        let v : World O = record w { forced = forced; tables = tables; pending = pending } in
        tally_placed v used (2 ^ 48) n true (identity_steps m x v) (tally_append_one v x running.sound lt plain)))
        (tally_room w n) (λ v tally. tally)

    pub tally_identities : (objects : List ℕ) (w : World O) (used : ℕ) → IsRunning m w → AreApart objects → ((y : ℕ) → IsTrue (is_among y objects) → (y < m.objects) × IsTrue (is_plain w y)) → Tally m w (identities m objects w used).steps
    unfolding run
    tally_identities [] w used is apart each = tally_none m w [] refl (λ y held. held)
    tally_identities (x ∷ objects) w used is apart each =
        let here = each x (or_left (x == x) (is_among x objects) (eq-eqb x x refl)) in
        tally_then m w (identity_course m x w used) (λ v used. identities m objects v used) (IsLogged m w x)
        (identity_goes m keeps x w used is here.0) (tally_identity x w used is here.0 here.1)
        (λ v logged. tally_identities objects v (identity_course m x w used).used logged.running apart.1 (λ y there.
        let old = each y (or_right (y == x) (is_among y objects) there) in
        (old.0, logged.others y (λ same. both_ways _ apart.0 (subst (λ (z : ℕ). IsTrue (is_among z objects)) same there)) ∙ old.1)))

    -- objects that are not all that may be logged are fewer
    pub fewer_kept : (w : World O) (used : ℕ) (objects : List ℕ) (kept : ℕ) → IsRunning m w → AreApart objects → ((y : ℕ) → IsTrue (is_among y objects) → (y < m.objects) × IsTrue (is_plain w y))
        → (kept < m.objects) × IsTrue (is_plain w kept) → IsFalse (is_among kept objects) → IsFewer m w (identities m objects w used).steps
    fewer_kept w used objects kept is apart each may out =
        let logging = identities m objects w used in
        let within : (y : ℕ) → IsTrue (is_among y (logged_in logging.steps)) → IsTrue (is_among y objects) = of_identities (λ y. IsTrue (is_among y objects)) objects w used (λ y there. there) in
        let tally = tally_identities objects w used is apart each in
        let count = counted_apart m.objects (kept ∷ logged_in logging.steps) (λ z. false) (is_plain w)
        (false_from_ne_true _ (λ there. both_ways _ out (within kept there)), tally.apart)
        (λ z no. absurd (both_ways _ refl no))
        (λ y there. elim (or_cases (y == kept) (is_among y (logged_in logging.steps)) there) [
          | inl here ↦ subst (λ (z : ℕ). (z < m.objects) × IsFalse false × IsTrue (is_plain w z)) (sym (eqb-true y kept here)) (may.0, refl, may.1)
          | inr later ↦ let old = tally.logged y later in (old.0, refl, old.2)
        ]) in
        inr (omega (arith, count))

    -- where nothing is copied, all but the longest are fewer than may be logged
    pub fewer_others : (copied : ℕ) (w : World O) (used : ℕ) (due : List ℕ) → copied ≡ 0 → IsRunning m w → AreApart due → 1 ≤ length due → ((y : ℕ) → IsTrue (is_among y due) → (y < m.objects) × IsTrue (is_plain w y))
        → IsFewer m w (identities m (but_longest copied (cached_length m w) due) w used).steps
    fewer_others copied w used due none is apart some each =
        let kept = one_kept copied (cached_length m w) due none some in
        fewer_kept w used (but_longest copied (cached_length m w) due) kept.0 is (but_longest_apart copied (cached_length m w) due apart)
        (λ y there. each y (but_longest_among copied (cached_length m w) due y there)) (each kept.0 kept.1) kept.2
