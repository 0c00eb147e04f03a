use Rattle.std.proofs.Common.{◌≡◌, ◌∙◌, sym, subst, Bool, true, false, refl, rules}
use Rattle.std.specs.Prelude.{Option, IfSome}
use Rattle.std.specs.Bool.{then_some}
use Rattle.disk_model.specs.Growing.{files_of}
use Rattle.shell_tests.proofs.mirror.damage_of_copy.Goals as goal

-- what holds of a value where it is there
told : {T : Type 0} (Q : T → Type 0) (r : Option T) (b : Bool) (v : T) → r ≡ then_some b v → (b ≡ true → Q v) → IfSome r Q
told Q r true v is holds = subst (λ o. IfSome o Q) (sym is) (holds refl)
told Q r false v is holds = subst (λ o. IfSome o Q) (sym is) tt

pub returns-in-Err-Damaged : goal.returns-in-Err-Damaged
returns-in-Err-Damaged g c =
    let file = c.in-Err-Damaged.file in
    let place = c.in-Err-Damaged.place in
    told _ c.then_some.result c.is_same.result (file, place) c.then_some.ensures
    (λ same. c.in-Err-Damaged.ensures.reported.damaged file place (search rules) (files_of c.restart.new.machine.copy) (sym c.is_same.ensures ∙ same, refl))
