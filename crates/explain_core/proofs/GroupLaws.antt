-- A crash takes an open group away whole.
use Rattle.std.proofs.Common.{◌≡◌, ◌∙◌, sym, subst, ℕ, suc, ◌+◌, ◌-◌, Option, Some, List, [], ◌∷◌, ◌++◌, length, take, drop, refl, ap, arith, length-append, length-drop}
use Rattle.std.specs.Prelude.{IfSome, slice_get}
use Rattle.std.proofs.Math.ListN.{take-append-drop}
use Rattle.oper_core.specs.Meaning.{Meaning}
use Rattle.explain_core.specs.History.{Member, IsCommand, commands_of}
use Rattle.explain_core.specs.History.Member.{Command, Identity}
use Rattle.explain_core.specs.World.{World, step, end_of}
use Rattle.explain_core.specs.World.Step.{Crash}
use Rattle.explain_core.specs.Sound.{IsSound, IsGroup}
use Rattle.explain_core.specs.StableLaws.{commands_of-append}
use Rattle.explain_core.proofs.OneState.{slice_get-drop}

pub the-group : {O : Type 0} (m : Meaning O) (w : World O) (begun : ℕ) → IsSound m w → w.group ≡ Some begun → IsGroup w.history w.forced begun
the-group m w begun s e = subst (λ (o : Option ℕ). IfSome o (IsGroup w.history w.forced)) e s.group

pub group-lost : {O : Type 0} (m : Meaning O) (w : World O) (begun : ℕ) → IsSound m w → w.group ≡ Some begun → (step m w Crash).history ≡ take (begun - 1) w.history
unfolding step
group-lost m w begun s e = ap (λ (n : ℕ). take n w.history) (omega (arith, (the-group m w begun s e).stable))

-- as many commands as members, where each is a command
all-commands : {O : Type 0} (xs : List (Member O)) → ((i : ℕ) → IfSome (slice_get xs i) IsCommand) → length (commands_of xs) ≡ length xs
all-commands [] each = refl
all-commands (Command op ∷ xs) each = ap suc (all-commands xs (λ i. each (suc i)))
all-commands (Identity x v ∷ xs) each = absurd (each 0)

pub group-counted : {O : Type 0} (m : Meaning O) (w : World O) (begun : ℕ) → IsSound m w → w.group ≡ Some begun → length (commands_of w.history) ≡ length (commands_of (take (begun - 1) w.history)) + (end_of w - begun)
group-counted {O} m w begun s e =
    let g = the-group m w begun s e in
    let d = begun - 1 in
    let h = w.history in
    let split : length (commands_of (take d h ++ drop d h)) ≡ length (commands_of (take d h)) + length (commands_of (drop d h)) = ap length (commands_of-append (take d h) (drop d h)) ∙ length-append (commands_of (take d h)) (commands_of (drop d h)) in
    let each : (i : ℕ) → IfSome (slice_get (drop d h) i) IsCommand = λ i. subst (λ (o : Option (Member O)). IfSome o IsCommand) (sym (slice_get-drop d h i)) (g.commands (suc (d + i)) (omega arith)) in
    ap (λ (l : List (Member O)). length (commands_of l)) (sym (take-append-drop d h)) ∙ split
    ∙ ap (λ n. length (commands_of (take d h)) + n) (all-commands (drop d h) each ∙ omega (arith, length-drop d h, g.stable))
