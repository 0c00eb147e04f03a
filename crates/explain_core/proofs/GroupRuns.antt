-- What is forced splits no group of a run.
use Rattle.std.proofs.Common.{◌≡◌, sym, subst, ℕ, ◌+◌, ◌<◌, ◌≤◌, Option, None, Some, List, [], ◌∷◌, ◌++◌, length, arith, inl, inr, nat_le, take, length-append}
use Rattle.std.proofs.lemmas.List.{length-take-le}
use Rattle.std.specs.Prelude.{IfSome, filter}
use Rattle.std.specs.List.{AllByRecursion}
use Rattle.std.proofs.lemmas.Bool.{cases_Bool, leb-true}
use Rattle.oper_core.specs.Meaning.{Meaning, IsLawful}
use Rattle.explain_core.specs.World.{World, Step, step, run, end_of, AreAllowed}
use Rattle.explain_core.specs.World.Step.{Begin, End, Append, Block_gate, Checkpoint, Slot_gate, Removal, Header_gate, Replay, Crash}
use Rattle.explain_core.specs.Sound.{IsSound, IsGroup}
use Rattle.explain_core.specs.Group.{Group, IsUnsplit, with_closed, groups_after, groups_of}
use Rattle.explain_core.proofs.Groups.{if_some-to}
use Rattle.explain_core.proofs.Runs.{step_sound, run_sound}

-- the group is whole in the history, and what is forced does not split it
pub record IsKept (forced end : ℕ) (g : Group) : Type 0 where
  pub whole : g.ended ≤ end
  pub unsplit : IsUnsplit forced g

abbrev pub AreKept : {O : Type 0} → World O → List Group → Type 0
AreKept w groups = AllByRecursion (IsKept w.forced (end_of w)) groups

each-to : (P Q : Group → Type 0) → ((g : Group) → P g → Q g) → (groups : List Group) → AllByRecursion P groups → AllByRecursion Q groups
each-to P Q to [] each = tt
each-to P Q to (g ∷ groups) each = (to g each.0, each-to P Q to groups each.1)

-- more members, of which no more are forced, or all
kept-more : (forced end last : ℕ) → end ≤ last → (groups : List Group) → AllByRecursion (IsKept forced end) groups → AllByRecursion (IsKept forced last) groups
kept-more forced end last le = each-to (IsKept forced end) (IsKept forced last) (λ g is. record { whole = omega (arith, is.whole); unsplit = is.unsplit })

kept-all : (forced n : ℕ) (groups : List Group) → AllByRecursion (IsKept forced (n + 1)) groups → AllByRecursion (IsKept n (n + 1)) groups
kept-all forced n = each-to (IsKept forced (n + 1)) (IsKept n (n + 1)) (λ g is. record { whole = is.whole; unsplit = inl is.whole })

-- the open group begins after what is forced
kept-closed : (forced end : ℕ) (open_group : Option ℕ) (groups : List Group) → IfSome open_group (λ begun. begun ≡ forced + 1) → AllByRecursion (IsKept forced end) groups → AllByRecursion (IsKept forced end) (with_closed open_group end groups)
kept-closed forced end None groups none each = each
kept-closed forced end (Some begun) groups behind each = (record { whole = omega arith; unsplit = inr (omega arith) }, each)

-- a group of which something is forced is whole after a crash
kept-left : (forced end : ℕ) (g : Group) → g.begun ≤ forced → IsKept forced end g → IsKept forced (forced + 1) g
kept-left forced end g le is = elim is.unsplit [
  | inl whole ↦ record { whole = whole; unsplit = inl whole }
  | inr behind ↦ absurd (omega arith)
]

-- a crash leaves the groups of which something is forced
kept-crash : (forced end : ℕ) (groups : List Group) → AllByRecursion (IsKept forced end) groups → AllByRecursion (IsKept forced (forced + 1)) (filter (λ g. nat_le g.begun forced) groups)
kept-crash forced end [] each = tt
kept-crash forced end (g ∷ groups) each =
    let rest = kept-crash forced end groups each.1 in
    elim (cases_Bool (nat_le g.begun forced)) [
      | inl some ↦ rw some (kept-left forced end g (leb-true g.begun forced some) each.0, rest)
      | inr none ↦ rw none rest
    ]

kept-step : {O : Type 0} (m : Meaning O) (w : World O) (s : Step O) (groups : List Group) → IsSound m w → AreKept w groups → AreKept (step m w s) (groups_after w s groups)
unfolding step
kept-step m w Begin groups sound each = each
kept-step m w End groups sound each = kept-closed w.forced (end_of w) w.group groups (if_some-to w.group (IsGroup w.history w.forced) (λ begun. begun ≡ w.forced + 1) (λ begun g. g.stable) sound.group) each
kept-step m w (Append member) groups sound each = kept-more w.forced (end_of w) (length (w.history ++ member ∷ []) + 1) (omega (arith, length-append w.history (member ∷ []))) groups each
kept-step m w Block_gate groups sound each = kept-all w.forced (length w.history) groups each
kept-step m w Checkpoint groups sound each = each
kept-step m w (Slot_gate node x) groups sound each = each
kept-step m w (Removal node) groups sound each = each
kept-step m w (Header_gate base) groups sound each = each
kept-step m w Replay groups sound each = each
kept-step m w Crash groups sound each =
    let left : length (take w.forced w.history) ≡ w.forced = length-take-le w.forced w.history sound.forced in
    subst (λ (n : ℕ). AllByRecursion (IsKept w.forced (n + 1)) (filter (λ g. nat_le g.begun w.forced) groups)) (sym left) (kept-crash w.forced (end_of w) groups each)

kept-run : {O : Type 0} (m : Meaning O) → IsLawful m → (w : World O) (steps : List (Step O)) (groups : List Group) → AreAllowed m w steps → IsSound m w → AreKept w groups → AreKept (run m w steps) (groups_of m w groups steps)
unfolding run
kept-run m law w [] groups may sound each = each
kept-run m law w (s ∷ steps) groups may sound each = kept-run m law (step m w s) steps (groups_after w s groups) may.1 (step_sound m law w s may.0 sound) (kept-step m w s groups sound each)

module _ {O : Type 0} (m : Meaning O) (law : IsLawful m) (w : World O) (sound : IsSound m w) (steps : List (Step O)) (may : AreAllowed m w steps) where
  abbrev now : World O
  now = run m w steps

  abbrev groups : List Group
  groups = groups_of m w [] steps

  kept : AreKept now groups
  kept = kept-run m law w steps [] may sound tt

  pub unsplit-open : IfSome now.group (λ begun. now.forced < begun)
  unsplit-open = if_some-to now.group (IsGroup now.history now.forced) (λ begun. now.forced < begun) (λ begun g. omega (arith, g.stable)) (run_sound m law w steps may sound).group

  pub unsplit-closed : AllByRecursion (IsUnsplit now.forced) groups
  unsplit-closed = each-to (IsKept now.forced (end_of now)) (IsUnsplit now.forced) (λ g is. is.unsplit) groups kept

  pub closed-whole : AllByRecursion (λ g. g.ended ≤ end_of now) groups
  closed-whole = each-to (IsKept now.forced (end_of now)) (λ g. g.ended ≤ end_of now) (λ g is. is.whole) groups kept
