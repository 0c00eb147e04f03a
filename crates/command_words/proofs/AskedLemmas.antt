-- What the subcommand asks that the words name.
use Rattle.std.proofs.Common.{◌≡◌, ◌∙◌, ◌<◌, ◌≤◌, ◌^◌, ℕ, List, Option, Some, None, option_map, arith, sym, ap, subst, codes}
use Rattle.clap.specs.Words.{Row, Text}
use Rattle.formats.specs.declared.params.Params.{Params}
use Rattle.command_words.specs.declared.asked.Asked.{Asked}
use Rattle.command_words.specs.declared.asked.Asked.TheVariants.{Init, Demo, Upgrade, Ship}
use Rattle.formats.specs.Objects.{IsInRange}
use Rattle.command_words.specs.Words.{Gives, GivesDemo, GivesParams, NamesForm, IsFor}
use Rattle.command_words.proofs.NameLemmas.{mark, name_for, named_for, one_name, one_rows}

-- the name and the values of what was named
module _ {B : Type 0} (f : B → Text) (g : B → List Row) where
  abbrev named_by : Option B → Option (Text × List Row)
  named_by = option_map (λ b. (f b, g b))

  pub named_is : (o : Option B) (name : Text) (rows : List Row) → Some name ≡ option_map f o → Some rows ≡ option_map (λ (p : Text × List Row). p.1) (named_by o)
      → named_by o ≡ Some (name, rows)
  named_is None name rows e h = cc e
  named_is (Some b) name rows e h =
      let x : name ≡ f b = cc e in
      let y : rows ≡ g b = cc h in
      ap (λ n. Some (n, g b)) (sym x) ∙ ap (λ r. Some (name, r)) (sym y)

module _ (named : Option (Text × List Row)) (name : Text) (rows : List Row) (is : named ≡ Some (name, rows)) where
  asked_for : (asked : Asked) → NamesForm named asked → IsFor asked name rows
  asked_for asked it = subst (λ (t : Text). IsFor asked t rows) (one_name it.is is) (subst (λ (rs : List Row). IsFor asked it.name rs) (one_rows it.is is) it.for)

  its_name : (asked : Asked) → NamesForm named asked → name ≡ name_for asked
  its_name asked it = named_for asked name rows (asked_for asked it)

  pub no_init : name ≡ codes "init" → ((p : Params) → IsInRange p → GivesParams rows p → ⊥) → (asked : Asked) → NamesForm named asked → ⊥
  no_init e none (Init p) it = none p it.allowed (asked_for (Init p) it).1
  no_init e none asked it = omega (arith, ap mark (sym e ∙ its_name asked it))

  pub no_upgrade : name ≡ codes "upgrade" → ((p : Params) → IsInRange p → GivesParams rows p → ⊥) → (asked : Asked) → NamesForm named asked → ⊥
  no_upgrade e none (Upgrade p) it = none p it.allowed (asked_for (Upgrade p) it).1
  no_upgrade e none asked it = omega (arith, ap mark (sym e ∙ its_name asked it))

  pub no_demo : name ≡ codes "demo" → ((seed steps : ℕ) → seed < 2 ^ 64 → steps ≤ 1000000 → GivesDemo rows seed steps → ⊥) → (asked : Asked) → NamesForm named asked → ⊥
  no_demo e none (Demo seed steps) it = none seed steps it.allowed.0 it.allowed.1 (asked_for (Demo seed steps) it).1
  no_demo e none asked it = omega (arith, ap mark (sym e ∙ its_name asked it))

  pub no_ship : name ≡ codes "ship" → ((from : ℕ) → 1 ≤ from → from < 2 ^ 62 → Gives rows (codes "FROM") from → ⊥) → (asked : Asked) → NamesForm named asked → ⊥
  no_ship e none (Ship from) it = none from it.allowed.0 it.allowed.1 (asked_for (Ship from) it).1
  no_ship e none asked it = omega (arith, ap mark (sym e ∙ its_name asked it))
