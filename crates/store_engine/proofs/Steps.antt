-- What steps do to the commands of a world: those that append none keep them, and no step but a crash makes fewer stable.
use Rattle.std.proofs.Common.{◌≡◌, ◌∙◌, sym, subst, ap, ℕ, ◌≤◌, List, [], ◌∷◌, ◌++◌, length, take, refl, arith, length-append, append_assoc, inl, inr, ◌⊎◌, ⊎_elim, Some}
use Rattle.std.proofs.Math.Seq.{take-length}
use Rattle.std.specs.Prelude.{⊤}
use Rattle.std.proofs.lemmas.List.{append-nil, take-append-le, take-take}
use Rattle.oper_core.specs.Meaning.{Meaning}
use Rattle.explain_core.specs.History.{Member, commands_of}
use Rattle.explain_core.specs.History.Member.{Command, Identity}
use Rattle.explain_core.specs.RunLaws.{Begins, begins-each}
use Rattle.explain_core.specs.StableLaws.{commands_of-append}
use Rattle.explain_core.specs.World.{World, Step, step, run}
use Rattle.explain_core.specs.World.Step.{Begin, End, Append, Block_gate, Checkpoint, Slot_gate, Removal, Header_gate, Replay, Crash}
use Rattle.running_store.specs.Running.{IsUpkeep, AreUpkeep}
use Rattle.store_engine.specs.Grouping.{IsInside, AreInside}
use Rattle.store_engine.specs.Counts.{take-commands, commands-fewer}

-- a step that appends no command, and is no crash
abbrev pub IsPlain : {O : Type 0} → Step O → Type 0
IsPlain Begin = ⊥
IsPlain End = ⊥
IsPlain (Append (Command op)) = ⊥
IsPlain (Append (Identity x value)) = ⊤
IsPlain Block_gate = ⊤
IsPlain Checkpoint = ⊤
IsPlain (Slot_gate node x) = ⊤
IsPlain (Removal node) = ⊤
IsPlain (Header_gate base) = ⊤
IsPlain Replay = ⊤
IsPlain Crash = ⊥

abbrev pub ArePlain : {O : Type 0} → List (Step O) → Type 0
ArePlain [] = ⊤
ArePlain (s ∷ steps) = IsPlain s × ArePlain steps

-- the later world has the earlier one's members, and after them others; no fewer are forced
pub record Extends {O : Type 0} (w later : World O) : Type 0 where
  pub more : List (Member O)
  pub history : later.history ≡ w.history ++ more
  pub rising : w.forced ≤ later.forced
  pub within : later.forced ≤ length later.history
  -- as many members are stable, or those of all commands
  pub which : (later.forced ≡ w.forced) ⊎ (length (commands_of (take later.forced later.history)) ≡ length (commands_of later.history))

-- the others are identity writes
pub record ExtendsPlainly {O : Type 0} (w later : World O) : Type 0 where
  pub extends : Extends w later
  pub silent : commands_of extends.more ≡ []

-- of the commands of a world the stable members of a later one have so many first ones, no fewer than the world's own
pub record HasFront {O : Type 0} (w later : World O) : Type 0 where
  pub enough : length (commands_of (take w.forced w.history)) ≤ length (commands_of (take later.forced later.history))
  pub within : length (commands_of (take later.forced later.history)) ≤ length (commands_of w.history)
  pub front : take (length (commands_of (take later.forced later.history))) (commands_of w.history) ≡ commands_of (take later.forced later.history)
  -- just these, or all
  pub which : (length (commands_of (take later.forced later.history)) ≡ length (commands_of (take w.forced w.history)))
      ⊎ (length (commands_of (take later.forced later.history)) ≡ length (commands_of w.history))

module _ {O : Type 0} where
  upkeep_plain : (s : Step O) → IsUpkeep s → IsPlain s
  upkeep_plain Begin is = is
  upkeep_plain End is = is
  upkeep_plain (Append (Command op)) is = is
  upkeep_plain (Append (Identity x value)) is = is
  upkeep_plain Block_gate is = is
  upkeep_plain Checkpoint is = is
  upkeep_plain (Slot_gate node x) is = is
  upkeep_plain (Removal node) is = is
  upkeep_plain (Header_gate base) is = is
  upkeep_plain Replay is = absurd is
  upkeep_plain Crash is = is

  pub are_plain : (steps : List (Step O)) → AreUpkeep steps → ArePlain steps
  are_plain [] are = tt
  are_plain (s ∷ steps) are = (upkeep_plain s are.0, are_plain steps are.1)

  pub plain_append : (xs ys : List (Step O)) → ArePlain xs → ArePlain ys → ArePlain (xs ++ ys)
  plain_append [] ys first second = second
  plain_append (x ∷ xs) ys first second = (first.0, plain_append xs ys first.1 second)

  -- of plain steps some are plain
  pub plain_front : (steps taken : List (Step O)) → Begins steps taken → ArePlain steps → ArePlain taken
  plain_front steps taken begins are = begins-each IsPlain ArePlain tt (λ s more one rest. (one, rest)) (λ s more both. both) steps taken begins are

  pub extends_same : (w later : World O) → later.history ≡ w.history → w.forced ≤ later.forced → later.forced ≤ length later.history
      → (later.forced ≡ w.forced) ⊎ (length (commands_of (take later.forced later.history)) ≡ length (commands_of later.history)) → ExtendsPlainly w later
  extends_same w later same rising within which = record { extends = record { more = []; history = same ∙ sym (append-nil w.history); rising = rising; within = within; which = which }; silent = refl }

  -- where all commands are stable they are still, if as many members are
  all_still : (b c : World O) → ExtendsPlainly b c → b.forced ≤ length b.history → c.forced ≡ b.forced → length (commands_of (take b.forced b.history)) ≡ length (commands_of b.history)
      → length (commands_of (take c.forced c.history)) ≡ length (commands_of c.history)
  all_still b c two within same all =
      let more = two.extends.more in
      let front : take c.forced c.history ≡ take b.forced b.history = (λ i. take (same i) (two.extends.history i)) ∙ take-append-le b.forced b.history more within in
      let whole : commands_of c.history ≡ commands_of b.history =
      ap (λ (h : List (Member O)). commands_of h) two.extends.history ∙ commands_of-append b.history more ∙ ap (λ (l : List O). commands_of b.history ++ l) two.silent ∙ append-nil (commands_of b.history) in
      ap (λ (h : List (Member O)). length (commands_of h)) front ∙ all ∙ ap (λ (l : List O). length l) (sym whole)

  pub extends_on : (a b c : World O) → ExtendsPlainly a b → ExtendsPlainly b c → ExtendsPlainly a c
  extends_on a b c one two =
      let first = one.extends in
      let second = two.extends in
      record {
        extends = record {
          more = first.more ++ second.more;
          history = second.history ∙ ap (λ (h : List (Member O)). h ++ second.more) first.history ∙ append_assoc a.history first.more second.more;
          rising = omega (arith, first.rising, second.rising);
          within = second.within;
          which = ⊎_elim (λ same. ⊎_elim (λ before. inl (same ∙ before)) (λ all. inr (all_still b c two first.within same all)) first.which) (λ all. inr all) second.which;
        };
        silent = commands_of-append first.more second.more ∙ (λ i. one.silent i ++ two.silent i);
      }

  one_step : (m : Meaning O) (w : World O) (s : Step O) → IsPlain s → w.forced ≤ length w.history → ExtendsPlainly w (step m w s)
  unfolding step
  one_step m w Begin plain within = absurd plain
  one_step m w End plain within = absurd plain
  one_step m w (Append (Command op)) plain within = absurd plain
  one_step m w (Append (Identity x value)) plain within = record {
    extends = record { more = Identity x value ∷ []; history = refl; rising = omega arith; within = omega (arith, within, length-append w.history (Identity x value ∷ [])); which = inl refl };
    silent = refl;
  }
  one_step m w Block_gate plain within = extends_same w _ refl within (omega arith) (inr (ap (λ (h : List (Member O)). length (commands_of h)) (take-length w.history)))
  one_step m w Checkpoint plain within = extends_same w _ refl (omega arith) within (inl refl)
  one_step m w (Slot_gate node x) plain within = extends_same w _ refl (omega arith) within (inl refl)
  one_step m w (Removal node) plain within = extends_same w _ refl (omega arith) within (inl refl)
  one_step m w (Header_gate base) plain within = extends_same w _ refl (omega arith) within (inl refl)
  one_step m w Replay plain within = extends_same w _ refl (omega arith) within (inl refl)
  one_step m w Crash plain within = absurd plain

  pub steps_extend : (m : Meaning O) (w : World O) (steps : List (Step O)) → ArePlain steps → w.forced ≤ length w.history → ExtendsPlainly w (run m w steps)
  unfolding run
  steps_extend m w [] plain within = extends_same w w refl (omega arith) within (inl refl)
  steps_extend m w (s ∷ steps) plain within =
      let first = one_step m w s plain.0 within in
      extends_on w (step m w s) (run m (step m w s) steps) first (steps_extend m (step m w s) steps plain.1 first.extends.within)

  -- the commands are the same
  pub same_commands : (w later : World O) → ExtendsPlainly w later → commands_of later.history ≡ commands_of w.history
  same_commands w later e =
      ap (λ (h : List (Member O)). commands_of h) e.extends.history ∙ commands_of-append w.history e.extends.more
      ∙ ap (λ (l : List O). commands_of w.history ++ l) e.silent ∙ append-nil (commands_of w.history)

  -- and no fewer of them are forced
  pub more_forced : (w later : World O) → w.forced ≤ length w.history → Extends w later → length (commands_of (take w.forced w.history)) ≤ length (commands_of (take later.forced later.history))
  more_forced w later within e =
      let front : take w.forced later.history ≡ take w.forced w.history = ap (λ (h : List (Member O)). take w.forced h) e.history ∙ take-append-le w.forced w.history e.more within in
      let again : take w.forced (take later.forced later.history) ≡ take w.forced later.history = take-take w.forced later.forced later.history e.rising in
      omega (
        arith,
        commands-fewer w.forced (take later.forced later.history),
        ap (λ (h : List (Member O)). length (commands_of h)) again,
        ap (λ (h : List (Member O)). length (commands_of h)) front,
      )

  pub front_extended : (w later : World O) → w.forced ≤ length w.history → ExtendsPlainly w later → HasFront w later
  front_extended w later within e =
      let n = length (commands_of (take later.forced later.history)) in
      let same = same_commands w later e in
      record {
        enough = more_forced w later within e.extends;
        within = omega (arith, commands-fewer later.forced later.history, ap (λ (l : List O). length l) same);
        front = ap (λ (l : List O). take n l) (sym same) ∙ take-commands later.forced later.history;
        which = ⊎_elim (λ forced. inl (ap (λ (h : List (Member O)). length (commands_of h)) ((λ i. take (forced i) (e.extends.history i)) ∙ take-append-le w.forced w.history e.extends.more within)))
            (λ all. inr (all ∙ ap (λ (l : List O). length l) same)) e.extends.which;
      }

  -- a command that is appended is not stable yet
  pub front_appended : (m : Meaning O) (w : World O) (member : Member O) → w.forced ≤ length w.history → HasFront w (step m w (Append member))
  unfolding step
  front_appended m w member within =
      let same : take w.forced (w.history ++ member ∷ []) ≡ take w.forced w.history = take-append-le w.forced w.history (member ∷ []) within in
      let n : length (commands_of (take w.forced (w.history ++ member ∷ []))) ≡ length (commands_of (take w.forced w.history)) = ap (λ (h : List (Member O)). length (commands_of h)) same in
      record {
        enough = omega (arith, n);
        within = omega (arith, n, commands-fewer w.forced w.history);
        front = (λ i. take (n i) (commands_of w.history)) ∙ take-commands w.forced w.history ∙ ap (λ (h : List (Member O)). commands_of h) (sym same);
        which = inl n;
      }

  -- within a group nothing becomes stable
  step_inside : (m : Meaning O) (begun : ℕ) (w : World O) (s : Step O) → IsInside (Some begun) s → w.forced ≤ length w.history
      → (take (step m w s).forced (step m w s).history ≡ take w.forced w.history) × ((step m w s).forced ≤ length (step m w s).history)
  unfolding step
  step_inside m begun w Begin is within = absurd is
  step_inside m begun w End is within = absurd is
  step_inside m begun w (Append member) is within = (take-append-le w.forced w.history (member ∷ []) within, omega (arith, within, length-append w.history (member ∷ [])))
  step_inside m begun w Block_gate is within = cc is
  step_inside m begun w Checkpoint is within = cc is
  step_inside m begun w (Slot_gate node x) is within = cc is
  step_inside m begun w (Removal node) is within = cc is
  step_inside m begun w (Header_gate base) is within = cc is
  step_inside m begun w Replay is within = cc is
  step_inside m begun w Crash is within = absurd is

  pub stable_inside : (m : Meaning O) (begun : ℕ) (w : World O) (steps : List (Step O)) → AreInside (Some begun) steps → w.forced ≤ length w.history
      → take (run m w steps).forced (run m w steps).history ≡ take w.forced w.history
  unfolding run
  stable_inside m begun w [] are within = refl
  stable_inside m begun w (s ∷ steps) are within =
      let one = step_inside m begun w s are.0 within in
      stable_inside m begun (step m w s) steps are.1 one.1 ∙ one.0
