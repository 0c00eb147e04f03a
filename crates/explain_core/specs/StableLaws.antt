-- How many members and commands stable parts are of.
use Rattle.std.proofs.Common.{◌≡◌, ◌∙◌, sym, ap, ℕ, ◌+◌, ◌-◌, Bool, List, [], ◌∷◌, ◌++◌, length, take, drop, refl, arith, length-drop, length-append}
use Rattle.std.proofs.Math.ListN.{take-append-drop}
use Rattle.oper_core.specs.Meaning.{Meaning}
use Rattle.explain_core.specs.History.{Member, commands_of}
use Rattle.explain_core.specs.History.Member.{Command, Identity}
use Rattle.explain_core.specs.Stable.{Stable, IsStableOf}

pub commands_of-append : {O : Type 0} (xs ys : List (Member O)) → commands_of (xs ++ ys) ≡ commands_of xs ++ commands_of ys
commands_of-append [] ys = refl
commands_of-append (Command op ∷ xs) ys = ap (λ l. op ∷ l) (commands_of-append xs ys)
commands_of-append (Identity x v ∷ xs) ys = commands_of-append xs ys

-- the members before the base and the records are all
pub stand-length : {O : Type 0} (m : Meaning O) (parts : Stable O) (h : List (Member O)) (i : ℕ → Bool) → IsStableOf m parts h i → length h ≡ (parts.base - 1) + length parts.records
stand-length m parts h i s = omega (arith, s.base, s.reached, length-drop (parts.base - 1) h, ap length s.records)

-- and so are the commands before it and those among the records
pub stand-commands : {O : Type 0} (m : Meaning O) (parts : Stable O) (h : List (Member O)) (i : ℕ → Bool) → IsStableOf m parts h i → length (commands_of h) ≡ parts.commands_before + length (commands_of parts.records)
stand-commands {O} m parts h i s =
    let d = parts.base - 1 in
    let e : length (commands_of (take d h ++ drop d h)) ≡ length (commands_of (take d h)) + length (commands_of (drop d h)) = ap length (commands_of-append (take d h) (drop d h)) ∙ length-append (commands_of (take d h)) (commands_of (drop d h)) in
    ap (λ (l : List (Member O)). length (commands_of l)) (sym (take-append-drop d h)) ∙ e ∙ ap (λ n. n + length (commands_of (drop d h))) (sym s.counted) ∙ ap (λ (l : List (Member O)). parts.commands_before + length (commands_of l)) s.records
