-- A group that is open is closed.
use Rattle.std.proofs.Common.{◌≡◌, ◌∙◌, ap, sym, subst, ℕ, Option, None, Some, Result, Ok, List}
use Rattle.std.specs.Prelude.{IsTrue, is_some, IfSome}
use Rattle.disk_model.specs.Disk.{Disk}
use Rattle.oper_core.specs.Meaning.{Meaning}
use Rattle.oper_core.specs.declared.bounds.Bounds.{Bounds}
use Rattle.formats.specs.declared.params.Params.{Params}
use Rattle.explain_core.specs.History.{commands_of}
use Rattle.explain_core.specs.World.{World, step}
use Rattle.explain_core.specs.World.Step.{End}
use Rattle.store_engine.specs.Engine.{EngineView, Holds, ShowsIn, commands_since, group_size}
use Rattle.store_engine.specs.Store.{meaning_in}

module _ {O : Type 0} (meaning : Bounds → Meaning O) (p : Params) (d : Disk) (before after : EngineView) (commands : List O)
    (closes : (w : World O) → ShowsIn meaning p d before w → IsTrue (is_some w.group) → ShowsIn meaning p d (record before { group = None }) (step (meaning_in meaning p) w End))
    (holds : Holds meaning p d before commands) where
  ended : commands_of (step (meaning_in meaning p) holds.world End).history ≡ commands
  unfolding step
  ended = holds.commands_are

  holds_closed : IsTrue (is_some before.group) → after ≡ record before { group = None } → Holds meaning p d after commands
  holds_closed inside is =
      subst (λ (e : EngineView). Holds meaning p d e commands) (sym is) (record {
        world = step (meaning_in meaning p) holds.world End;
        shows = closes holds.world holds.shows (ap (λ (o : Option ℕ). is_some o) holds.shows.group ∙ inside);
        commands_are = ended;
      })

  pub holds_where_open : {E : Type 0} (answer : Result ℕ E) → IfSome (group_size before) (λ size. (answer ≡ Ok size) × (after ≡ record before { group = None }))
      → (group : Option ℕ) → before.group ≡ group → IfSome group (λ begun. Holds meaning p d after commands)
  holds_where_open answer some None is = tt
  holds_where_open answer some (Some k) is =
      let told = subst (λ (o : Option ℕ). IfSome (commands_since before.parts.log.next o) (λ size. (answer ≡ Ok size) × (after ≡ record before { group = None }))) is some in
      holds_closed (ap (λ (o : Option ℕ). is_some o) is) told.1
