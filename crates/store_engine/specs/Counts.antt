-- The commands of a history and of its first members, and what the log of an engine counts of them.
use Rattle.std.proofs.Common.{◌≡◌, ◌∙◌, sym, ap, ℕ, ◌+◌, ◌-◌, ◌≤◌, List, [], ◌∷◌, ◌++◌, length, take, drop, arith, length-append}
use Rattle.std.proofs.Math.Seq.{take-append_seam}
use Rattle.std.proofs.lemmas.List.{take-append-drop, take-take}
use Rattle.disk_model.specs.Disk.{Disk}
use Rattle.oper_core.specs.Meaning.{Meaning}
use Rattle.formats.specs.Records.{commands_of as logged_commands}
use Rattle.formats.specs.declared.params.Params.{Params}
use Rattle.explain_core.specs.History.{Member, commands_of}
use Rattle.explain_core.specs.History.Member.{Command, Identity}
use Rattle.explain_core.specs.StableLaws.{commands_of-append}
use Rattle.explain_core.specs.World.{World}
use Rattle.standing.specs.Members.{commands-members}
use Rattle.running_store.specs.Steps.Appended.{base_below}
use Rattle.running_store.specs.Parts.{Parts, Shows}

module _ {O : Type 0} where
  pub commands-split : (f : ℕ) (h : List (Member O)) → commands_of h ≡ commands_of (take f h) ++ commands_of (drop f h)
  commands-split f h = ap (λ (l : List (Member O)). commands_of l) (sym (take-append-drop f h)) ∙ commands_of-append (take f h) (drop f h)

  -- the commands of the first members are the first commands
  pub take-commands : (f : ℕ) (h : List (Member O)) → take (length (commands_of (take f h))) (commands_of h) ≡ commands_of (take f h)
  take-commands f h = ap (λ (l : List O). take (length (commands_of (take f h))) l) (commands-split f h) ∙ take-append_seam (commands_of (take f h)) (commands_of (drop f h))

  -- fewer members have fewer commands
  pub commands-fewer : (f : ℕ) (h : List (Member O)) → length (commands_of (take f h)) ≤ length (commands_of h)
  commands-fewer f h = omega (arith, ap (λ (l : List O). length l) (commands-split f h), length-append (commands_of (take f h)) (commands_of (drop f h)))

  -- there are at most as many commands as members
  pub commands-members_of : (h : List (Member O)) → length (commands_of h) ≤ length h
  commands-members_of [] = omega arith
  commands-members_of (Command op ∷ h) = omega (arith, commands-members_of h)
  commands-members_of (Identity x value ∷ h) = omega (arith, commands-members_of h)

-- as many commands are forced as the stable members have
pub forced_shown : {O : Type 0} (m : Meaning O) (p : Params) (d : Disk) (it : Parts) (w : World O) → Shows m p d it w → it.log.forced ≡ length (commands_of (take w.forced w.history))
forced_shown {O} m p d it w shows =
    let l = shows.log in
    let b = w.base - 1 in
    let sound = shows.running.sound in
    let front : List (Member O) = take w.forced w.history in
    let below = base_below m w sound in
    let stable : length (logged_commands l.stable) ≡ length (commands_of (drop b front)) =
    ap (λ (k : List O). length k) (sym (commands-members l.stable)) ∙ ap (λ (h : List (Member O)). length (commands_of h)) l.forced in
    let first : length (commands_of (take b front)) ≡ length (commands_of (take b w.history)) = ap (λ (h : List (Member O)). length (commands_of h)) (take-take b w.forced w.history below) in
    let split : length (commands_of front) ≡ length (commands_of (take b front)) + length (commands_of (drop b front)) =
    ap (λ (k : List O). length k) (commands-split b front) ∙ length-append (commands_of (take b front)) (commands_of (drop b front)) in
    omega (arith, l.keeps.forced_are, l.commands_before, sound.counted, stable, first, split)
