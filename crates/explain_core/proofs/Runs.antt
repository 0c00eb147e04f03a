-- Every step, and so every run of steps, keeps a world sound.
use Rattle.std.proofs.Common.{◌≡◌, ◌∙◌, sym, subst, ℕ, zero, suc, ◌+◌, ◌-◌, ◌<◌, ◌≤◌, Bool, List, [], ◌∷◌, length, refl, arith, inl}
use Rattle.std.specs.Prelude.{IsFalse, ◌==◌}
use Rattle.std.proofs.lemmas.Bool.{both_ways, eqb-true, eq-eqb, ne_eqb}
use Rattle.oper_core.specs.Meaning.{Meaning, IsLawful, state_after}
use Rattle.explain_core.specs.History.{Member, accesses_of, value_at, commands_of}
use Rattle.explain_core.specs.Explains.{Explains}
use Rattle.explain_core.specs.World.{World, Step, step, run, IsAllowed, AreAllowed, IsLive, end_of, new_world, replays, redo_of}
use Rattle.explain_core.specs.World.Step.{Begin, End, Append, Block_gate, Checkpoint, Slot_gate, Removal, Header_gate, Replay, Crash}
use Rattle.explain_core.specs.Sound.{IsSound, and_below}
use Rattle.explain_core.proofs.Crash.{crash_sound}
use Rattle.explain_core.proofs.Groups.{begin_sound, end_sound}
use Rattle.explain_core.proofs.Gate.{gate_sound}
use Rattle.explain_core.proofs.Append.{append_sound, live-map}
use Rattle.explain_core.proofs.Set.{out-from}
use Rattle.explain_core.proofs.Fold.{state_after-commands_of}
use Rattle.explain_core.proofs.Replay.{replay_sound}
use Rattle.explain_core.proofs.Nodes.{slot_sound, removal_sound}
use Rattle.explain_core.proofs.Tables.{checkpoint_sound, header_sound}

pub step_sound : {O : Type 0} (m : Meaning O) → IsLawful m → (w : World O) (t : Step O) → IsAllowed m w t → IsSound m w → IsSound m (step m w t)
step_sound m law w (Append member) may s = append_sound m w member may.0 may.1 s
step_sound m law w Begin may s = begin_sound m w may.1.0 s
step_sound m law w End may s = end_sound m w s
step_sound m law w Block_gate may s = gate_sound m w may.0 may.1 s
step_sound m law w Checkpoint may s = checkpoint_sound m w may.0 s
step_sound m law w (Slot_gate node x) may s = slot_sound m w node x may.0.0 may.0.1.1 may.0.2.0 may.1 may.2 s
step_sound m law w (Removal node) may s = removal_sound m w node may.0.0 may.0.1.1 may.0.2.0 may.1 s
step_sound m law w (Header_gate base) may s = header_sound m w base may.0 may.1.0 may.2 may.3 may.4 s
step_sound m law w Replay may s = replay_sound m law w (w.next - 1) (omega (arith, s.base, s.next.0)) may s
step_sound m law w Crash may s = crash_sound m law w s

pub run_sound : {O : Type 0} (m : Meaning O) → IsLawful m → (w : World O) (steps : List (Step O)) → AreAllowed m w steps → IsSound m w → IsSound m (run m w steps)
unfolding run
run_sound m law w [] may s = s
run_sound m law w (t ∷ steps) may s = run_sound m law (step m w t) steps may.1 (step_sound m law w t may.0 s)

-- in a live world the cache is the state after the commands
pub sound-map : {O : Type 0} (m : Meaning O) (w : World O) → IsLive w → IsSound m w → (x : ℕ) → (w.cache x).value ≡ state_after m (commands_of w.history) x
sound-map m w live s x =
    live-map m w.history w.installed w.cache (λ k e. omega (arith, s.installed k e, s.forced))
    (subst (λ (k : ℕ). Explains (accesses_of m w.history) (value_at m w.history) (and_below k w.installed) w.cache) (omega (arith, s.next.1)) s.cache) x
    ∙ sym (state_after-commands_of m w.history s.history x)

nothing-written : {O : Type 0} (m : Meaning O) (n x : ℕ) → IsFalse ((accesses_of m []).writes n x)
nothing-written m zero x = refl
nothing-written m (suc n) x = refl

-- a new store's world is sound
pub new_sound : {O : Type 0} (m : Meaning O) → IsSound m (new_world O)
new_sound m =
    let nothing : (n x : ℕ) → IsFalse ((accesses_of m []).writes n x) = λ n x. nothing-written m n x in
    let start : (i : ℕ → Bool) → ((n : ℕ) → 0 < n → IsFalse (i n)) → Explains (accesses_of m []) (value_at m []) i (λ x. record { lsn = 0; value = [] }) = λ i none. record {
      closed = λ o p x out there lt w. absurd (both_ways _ (nothing p x) w);
      origin = λ x. inl (refl, refl);
      last = λ x shown n lt there. nothing n x;
      right = λ x shown. refl;
    } in
    record {
      history = λ n. tt;
      forced = omega arith;
      installed = λ n e. let q : n ≡ 0 = eqb-true n 0 e in omega arith;
      slots = start (λ n. n == 0) (λ n lt. ne_eqb n 0 (λ q. absurd (omega arith)));
      tables = tt;
      pending = tt;
      base = omega arith;
      below_base = λ n lt. eq-eqb n 0 (omega arith);
      counted = refl;
      all_stable = λ old. refl;
      graph = λ n e. absurd (both_ways _ refl e);
      next = (omega arith, omega arith);
      passed = λ n lt out. absurd (both_ways _ out (eq-eqb n 0 (omega arith)));
      cache = start (and_below 1 (λ n. n == 0)) (λ n lt. out-from 1 (λ n. n == 0) n (omega arith) (ne_eqb n 0 (λ q. absurd (omega arith))));
      cache_right = λ x out. refl;
      cache_late = λ n x e out w. absurd (both_ways _ refl e);
      dirty = λ x ne. absurd (ne refl);
      group = tt;
    }

-- so many replays of a sound world leave the history, and bring it that far
pub replayed : {O : Type 0} (m : Meaning O) → IsLawful m → (w : World O) (n : ℕ) → n + w.next ≤ end_of w → IsSound m w →
    IsSound m (run m w (replays n)) × ((run m w (replays n)).history ≡ w.history) × ((run m w (replays n)).next ≡ n + w.next) × AreAllowed m w (replays n)
unfolding step run
replayed m law w zero le s = (s, refl, omega arith, tt)
replayed m law w (suc n) le s =
    let old : w.next ≤ length w.history = omega arith in
    let r = replayed m law (step m w Replay) n (omega arith) (step_sound m law w Replay old s) in
    (r.0, r.1, omega (arith, r.2), (old, r.3))

-- a sound world replayed to its end is live, and its cache is the map
pub replayed_map : {O : Type 0} (m : Meaning O) → IsLawful m → (w : World O) → IsSound m w →
    AreAllowed m w (redo_of w) × IsLive (run m w (redo_of w)) × ((x : ℕ) → ((run m w (redo_of w)).cache x).value ≡ state_after m (commands_of w.history) x)
replayed_map {O} m law w s =
    let n = end_of w - w.next in
    let r = replayed m law w n (omega (arith, s.next.1)) s in
    let z : World O = run m w (replays n) in
    let same : z.history ≡ w.history = r.1 in
    let live : length z.history < z.next = subst (λ (h : List (Member O)). length h < z.next) (sym same) (omega (arith, r.2, s.next.1)) in
    (r.3, live, λ x. subst (λ (h : List (Member O)). (z.cache x).value ≡ state_after m (commands_of h) x) same (sound-map m z live r.0 x))
