-- What an install tells of the steps that it took, and of the parts.
use Rattle.std.specs.Prelude.{◌≡◌, ◌↔◌, ◌+◌, ◌<◌, ◌≤◌, ℕ, false, List, [], ◌∷◌, length, Option, None, Some}
use Rattle.oper_core.specs.Meaning.{Meaning}
use Rattle.explain_core.specs.World.{World, Step}
use Rattle.cache_manager.specs.InstallCourses.{flushed_in, logged_in, members_removed}
use Rattle.running_store.specs.Parts.{Parts}
use Rattle.cache_manager.specs.declared.install.Install.{Install}
use Rattle.cache_manager.specs.declared.install.Install.TheVariants.{Installed, Clean}

-- the object, as a list of one or none
abbrev pub listed : Option ℕ → List ℕ
listed None = []
listed (Some x) = x ∷ []

-- so many members left the graph, this object was flushed, and so many identity writes were logged; or there was no member
abbrev pub IsInstall : {O : Type 0} → Meaning O → World O → List (Step O) → Install → Type 0
IsInstall m w steps Clean = (n : ℕ) → w.graph n ≡ false
IsInstall m w steps (Installed ops flushed identities) = (ops ≡ members_removed m w steps) × (flushed_in steps ≡ listed flushed) × (identities ≡ length (logged_in steps))

abbrev pub ops_of : Install → ℕ
ops_of Clean = 0
ops_of (Installed ops flushed identities) = ops

abbrev pub identities_of : Install → ℕ
identities_of Clean = 0
identities_of (Installed ops flushed identities) = identities

-- What it tells on every machine: the graph had no entry, or some entries left it; so many records have LSNs.
pub record TellsParts (before after : Parts) (install : Install) : Type 0 where
  pub clean : (install ≡ Clean) ↔ (before.volatile.entries ≡ [])
  pub some : (install ≡ Clean → ⊥) → 0 < ops_of install
  pub with_lsn : after.log.next ≡ before.log.next + identities_of install
  pub entries : length after.volatile.entries + ops_of install ≡ length before.volatile.entries + identities_of install

-- What a turn tells on every machine: so many nodes were installed, unless the graph had no entry. Each of them had an entry at
-- least, and each identity write puts one in.
abbrev pub installed : Option ℕ → ℕ
installed None = 0
installed (Some n) = n

abbrev pub TellsTurn : Parts → Parts → Option ℕ → Type 0
TellsTurn before after None = (before.volatile.entries ≡ []) × (after ≡ before)
TellsTurn before after (Some n) =
    (0 < n) × (before.log.next ≤ after.log.next) × (length after.volatile.entries + n + before.log.next ≤ length before.volatile.entries + after.log.next) × (before.volatile.entries ≡ [] → ⊥)

-- What a turn of at most so many nodes tells by their number n: it is 0 exactly where the graph had no entry, and then all is as it was.
pub record TellsTend (most : ℕ) (before after : Parts) (n : ℕ) : Type 0 where
  pub none : (n ≡ 0) ↔ (before.volatile.entries ≡ [])
  pub still : n ≡ 0 → after ≡ before
  pub few : n ≤ most
  pub rising : before.log.next ≤ after.log.next
  pub left : length after.volatile.entries + n + before.log.next ≤ length before.volatile.entries + after.log.next
