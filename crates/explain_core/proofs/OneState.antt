-- Stable parts stand for one state.
use Rattle.std.proofs.Common.{◌≡◌, ◌∙◌, sym, subst, ℕ, zero, suc, ◌+◌, ◌-◌, ◌<◌, ◌≤◌, Bool, List, [], ◌∷◌, length, take, drop, refl, ap, arith, inl, inr, Option, length-take-le}
use Rattle.std.specs.Prelude.{IsTrue, ◌&&◌, nat_lt, nat_le, slice_get}
use Rattle.std.specs.List.{AllByRecursion}
use Rattle.std.proofs.lemmas.List.{take_all, take-take}
use Rattle.std.proofs.lemmas.Bool.{both_ways}
use Rattle.oper_core.specs.Meaning.{Meaning, IsLawful, state_after}
use Rattle.explain_core.specs.History.{Member, accesses_of, value_at, with_lsn, writes_some, commands_of}
use Rattle.oper_core.specs.Cell.{Cell}
use Rattle.explain_core.specs.Explains.{Explains}
use Rattle.explain_core.specs.World.{World, Starts, step, run, replays, plan_of, start_of, end_of, set_by}
use Rattle.explain_core.specs.World.Step.{Replay, Crash}
use Rattle.explain_core.specs.Sound.{IsSound, SkipsNothing, and_below}
use Rattle.explain_core.specs.Stable.{Stable, IsStableOf, world_of, stable_of}
use Rattle.explain_core.specs.StableLaws.{stand-length}
use Rattle.explain_core.proofs.Basics.{front-take}
use Rattle.explain_core.proofs.Crash.{history-take, all_fit-front, base-within, plan_fits, least_of-le, least_of-from, start-installed, same-below}
use Rattle.explain_core.proofs.Core.{Explains-same}
use Rattle.explain_core.proofs.Runs.{replayed_map}

-- what is stable in a sound world stands for its stable members
pub sound-stands : {O : Type 0} (m : Meaning O) (w : World O) → IsSound m w → IsStableOf m (stable_of w) (take w.forced w.history) w.installed
sound-stands {O} m w s =
    let long : length (take w.forced w.history) ≡ w.forced = length-take-le w.forced w.history s.forced in
    record {
      base = s.base;
      reached = omega (arith, base-within w.installed w.base w.forced s.below_base s.installed);
      records = refl;
      counted = s.counted ∙ sym (ap (λ (l : List (Member O)). length (commands_of l)) (take-take (w.base - 1) w.forced w.history (omega (arith, base-within w.installed w.base w.forced s.below_base s.installed))));
      members = history-take m w.history w.forced s.history;
      within = λ n e. omega (arith, s.installed n e);
      below = s.below_base;
      slots = s.slots;
      tables = subst (λ (n : ℕ). AllByRecursion (SkipsNothing (accesses_of m (take w.forced w.history)) w.installed w.base (n + 1)) w.tables) (sym long)
          (all_fit-front (accesses_of m (take w.forced w.history)) (accesses_of m w.history) w.forced w.installed w.base (w.forced + 1) w.tables (front-take m w.history w.forced s.forced) s.tables);
    }

-- a crash leaves the world that the stable parts make
pub crash-world : {O : Type 0} (m : Meaning O) (w : World O) → IsSound m w → step m w Crash ≡ world_of m (stable_of w) (take w.forced w.history) w.installed
unfolding step
crash-world {O} m w s = ap (λ (n : ℕ). record (step m w Crash) { forced = n }) (sym (length-take-le w.forced w.history s.forced))

pub slice_get-drop : {X : Type 0} (n : ℕ) (xs : List X) (i : ℕ) → slice_get (drop n xs) i ≡ slice_get xs (n + i)
slice_get-drop zero xs i = let e : 0 + i ≡ i = omega arith in rw e refl
slice_get-drop (suc n) [] i = refl
slice_get-drop (suc n) (x ∷ xs) i = let e : suc n + i ≡ suc (n + i) = omega arith in rw e (slice_get-drop n xs i)

-- the cache after one replay, and after so many
abbrev redo_cache : {O : Type 0} → Meaning O → Option (Member O) → Starts → ℕ → (ℕ → Cell) → ℕ → Cell
redo_cache m o plan k c = set_by m o (λ x. writes_some m o x && (nat_lt (c x).lsn k && nat_le (plan.redo_from x) k)) k c

abbrev redo_caches : {O : Type 0} → Meaning O → (ℕ → Option (Member O)) → Starts → ℕ → ℕ → (ℕ → Cell) → ℕ → Cell
redo_caches m members plan k zero c = c
redo_caches m members plan k (suc n) c = redo_caches m members plan (k + 1) n (redo_cache m (members k) plan k c)

run-caches : {O : Type 0} (m : Meaning O) (w : World O) (n : ℕ) → (run m w (replays n)).cache ≡ redo_caches m (λ k. with_lsn w.history k) (plan_of w.tables w.base) w.next n w.cache
unfolding step run
run-caches m w zero = refl
run-caches m w (suc n) = run-caches m (step m w Replay) n

same-caches : {O : Type 0} (m : Meaning O) (f g : ℕ → Option (Member O)) (plan : Starts) (k n : ℕ) (c : ℕ → Cell) → ((i : ℕ) → k ≤ i → f i ≡ g i) → redo_caches m f plan k n c ≡ redo_caches m g plan k n c
same-caches m f g plan k zero c same = refl
same-caches {O} m f g plan k (suc n) c same =
    ap (λ (o : Option (Member O)). redo_caches m f plan (k + 1) n (redo_cache m o plan k c)) (same k (omega arith))
    ∙ same-caches m f g plan (k + 1) n (redo_cache m (g k) plan k c) (λ i le. same i (omega arith))

-- the stable slots over all of a history
all-stable : {O : Type 0} (m : Meaning O) (h : List (Member O)) (i : ℕ → Bool) (s : ℕ → Cell) → Explains (accesses_of m h) (value_at m h) i s → Explains (accesses_of m (take (length h) h)) (value_at m (take (length h) h)) i s
all-stable {O} m h i s e = subst (λ (k : List (Member O)). Explains (accesses_of m k) (value_at m k) i s) (sym (take_all (length h) h (omega arith))) e

-- the world just after a crash that stable parts make is sound
pub standing_sound : {O : Type 0} (m : Meaning O) → IsLawful m → (parts : Stable O) (h : List (Member O)) (i : ℕ → Bool) → IsStableOf m parts h i → IsSound m (world_of m parts h i)
standing_sound m law parts h i s =
    let plan = plan_of parts.tables parts.base in
    let start = start_of m.objects plan in
    let fits : SkipsNothing (accesses_of m h) i parts.base (length h + 1) plan = plan_fits (accesses_of m h) i parts.base (length h + 1) parts.tables s.reached s.below s.tables in
    let low : start ≤ plan.next = least_of-le plan.redo_from m.objects plan.next in
    let inside : (n : ℕ) → n < start → IsTrue (i n) = start-installed m law h i parts.base (length h + 1) plan s.members (omega arith) fits (s.below 0 (omega (arith, s.base))) in
    record {
      history = s.members;
      forced = omega arith;
      installed = s.within;
      slots = all-stable m h i parts.slots s.slots;
      tables = s.tables;
      pending = tt;
      base = s.base;
      below_base = s.below;
      counted = s.counted;
      all_stable = λ old. refl;
      graph = λ n e. absurd (both_ways _ refl e);
      next = (least_of-from plan.redo_from m.objects plan.next parts.base fits.next_from_base fits.from_base, omega (arith, fits.next_within));
      passed = λ n lt out. absurd (both_ways _ out (inside n lt));
      cache = Explains-same (accesses_of m h) (value_at m h) i (and_below start i) parts.slots (same-below i start inside) s.slots;
      cache_right = λ x out. elim (s.slots.origin x) [
        | inl z ↦ z.1 ∙ sym (ap (λ n. value_at m h n x) z.0)
        | inr g ↦ absurd (both_ways _ out g.0)
      ];
      cache_late = λ n x e out wr. absurd (both_ways _ refl e);
      dirty = λ x ne. absurd (ne refl);
      group = tt;
    }

stand-member : {O : Type 0} (m : Meaning O) (parts : Stable O) (h : List (Member O)) (i : ℕ → Bool) → IsStableOf m parts h i → (n : ℕ) → parts.base ≤ suc n → slice_get h n ≡ slice_get parts.records (n - (parts.base - 1))
stand-member {O} m parts h i s n le =
    let d = parts.base - 1 in
    let e : d + (n - d) ≡ n = omega (arith, s.base) in
    sym (ap (λ k. slice_get h k) e) ∙ sym (slice_get-drop d h (n - d)) ∙ ap (λ (r : List (Member O)). slice_get r (n - d)) s.records

member-same : {O : Type 0} (m : Meaning O) (parts : Stable O) (h k : List (Member O)) (i j : ℕ → Bool) → IsStableOf m parts h i → IsStableOf m parts k j → (n : ℕ) → parts.base ≤ n → with_lsn h n ≡ with_lsn k n
member-same m parts h k i j s t zero le = refl
member-same m parts h k i j s t (suc n) le = stand-member m parts h i s n le ∙ sym (stand-member m parts k j t n le)

-- stable parts are those of one state
pub one-state : {O : Type 0} (m : Meaning O) → IsLawful m → (parts : Stable O) (h k : List (Member O)) (i j : ℕ → Bool) → IsStableOf m parts h i → IsStableOf m parts k j → (x : ℕ) → state_after m (commands_of h) x ≡ state_after m (commands_of k) x
one-state {O} m law parts h k i j s t x =
    let w = world_of m parts h i in
    let z = world_of m parts k j in
    let plan = plan_of parts.tables parts.base in
    let long : length h ≡ length k = stand-length m parts h i s ∙ sym (stand-length m parts k j t) in
    let sound = standing_sound m law parts h i s in
    let n = end_of w - w.next in
    let same : n ≡ end_of z - z.next = ap (λ l. (l + 1) - w.next) long in
    let members : (a : ℕ) → w.next ≤ a → with_lsn h a ≡ with_lsn k a = λ a le.
    member-same m parts h k i j s t a (omega (arith, sound.next.0)) in
    let caches : (run m w (replays n)).cache ≡ (run m z (replays n)).cache = run-caches m w n ∙ same-caches m (λ a. with_lsn h a) (λ a. with_lsn k a) plan w.next n w.cache members ∙ sym (run-caches m z n) in
    let left = (replayed_map m law w sound).2 in
    let right = (replayed_map m law z (standing_sound m law parts k j t)).2 in
    sym (left x) ∙ ap (λ (c : ℕ → Cell). (c x).value) caches ∙ ap (λ (q : ℕ). ((run m z (replays q)).cache x).value) same ∙ right x
