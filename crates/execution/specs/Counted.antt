-- The commands that the log counts are those of the world that is shown.
use Rattle.std.proofs.Common.{◌≡◌, ◌∙◌, sym, ap, ◌+◌, ◌-◌, List, ◌++◌, length, take, drop, arith, length-append}
use Rattle.std.proofs.Math.Seq.{take-length}
use Rattle.std.proofs.lemmas.List.{take-append-drop}
use Rattle.disk_model.specs.Disk.{Disk}
use Rattle.oper_core.specs.Meaning.{Meaning}
use Rattle.formats.specs.declared.params.Params.{Params}
use Rattle.explain_core.specs.History.{Member, commands_of}
use Rattle.explain_core.specs.StableLaws.{commands_of-append}
use Rattle.explain_core.specs.World.{World}
use Rattle.standing.specs.Members.{commands-members}
use Rattle.running_store.specs.Steps.Forced.{all_members}
use Rattle.running_store.specs.Parts.{Parts, Shows}

-- so many commands were accepted since the store was made
pub accepted_shown : {O : Type 0} (m : Meaning O) (p : Params) (d : Disk) (it : Parts) (w : World O) → Shows m p d it w → it.log.accepted ≡ length (commands_of w.history)
accepted_shown {O} m p d it w shows =
    let k = w.base - 1 in
    let logged = shows.log.stable ++ shows.log.pending in
    let kept : List (Member O) = drop k w.history in
    let held : length (commands_of kept) ≡ length (commands_of (drop k (take (length w.history) w.history))) = ap (λ (h : List (Member O)). length (commands_of (drop k h))) (sym (take-length w.history)) in
    let members = ap (λ (h : List (Member O)). length (commands_of h)) (all_members m p d it w shows) in
    let same = ap (λ (l : List O). length l) (commands-members logged) in
    let before = commands_of (take k w.history) in
    let split : length (commands_of w.history) ≡ length before + length (commands_of kept) =
    ap (λ (h : List (Member O)). length (commands_of h)) (sym (take-append-drop k w.history)) ∙ ap (λ (l : List O). length l) (commands_of-append (take k w.history) kept) ∙ length-append before (commands_of kept) in
    omega (arith, shows.log.keeps.accepted_are, shows.log.commands_before, shows.running.sound.counted, held, members, same, split)
