-- What a cache ends as, once what `view` answered is let go.
use Rattle.std.specs.Prelude.{◌≡◌, ℕ, ⊤}
use Rattle.std.specs.Borrow.{Fml, MutBor, follows_so}
use mathlib.Core.Option.{none}
use Rattle.dirty_cache.specs.Contents.{Contents, used, IsUnchanged, KeepsRooms}
use Rattle.dirty_cache.specs.contracts.cache.Cache.{the_row}

-- all is as before, the rooms too, but for the order of the clean entries
abbrev pub EndsUsed : MutBor Contents → ℕ → Fml
EndsUsed c x =
    follows_so the_row the_row c.ghost_name none (λ _ _. ⊤) (λ n. IsUnchanged c.now n × KeepsRooms c.now n × (n.clean ≡ used c.now x))
