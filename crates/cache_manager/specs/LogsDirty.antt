-- How much installs log, as the parts of a store tell it on every machine: different objects, each of which was dirty.
use Rattle.std.specs.Prelude.{◌≡◌, ◌+◌, ◌≤◌, ◌==◌, ◌&&◌, not, nat_le, ℕ, suc, Bool, true, IsTrue, IsFalse, List, [], ◌∷◌, ◌++◌, length}
use Rattle.std.specs.List.{filter, list_any}
use Rattle.std.specs.List.Sorted.{IsStrictlyIncreasing}
use Rattle.oper_core.specs.State.{is_among}
use Rattle.install_order.specs.declared.entry.Entry.{Entry}
use Rattle.install_order.specs.Entries.{reads_at, writes_at}
use Rattle.dirty_cache.specs.Contents.{is_dirty}
use Rattle.running_store.specs.Laid.Flushed.{DirtiesNone}
use Rattle.running_store.specs.Parts.{Parts}

-- the entries of identity writes of these objects, numbered from n on
abbrev pub identity_entries : ℕ → List ℕ → List Entry
identity_entries n [] = []
identity_entries n (x ∷ objects) = record { lsn = n; reads = []; writes = x ∷ []; identity = true } ∷ identity_entries (suc n) objects

-- Identity writes were logged of different objects, which are among these.
pub record HasLogged (work : List ℕ) (before after : Parts) : Type 0 where
  pub objects : List ℕ
  pub rising : IsStrictlyIncreasing objects
  pub among : (x : ℕ) → IsTrue (is_among x objects) → IsTrue (is_among x work)
  pub entries : after.volatile.entries ≡ before.volatile.entries ++ identity_entries before.log.next objects
  pub next : after.log.next ≡ before.log.next + length objects

-- what has this LSN reads nothing, writes one object at most, and is an identity write if it writes one
pub record IsIdentityAt (entries : List Entry) (n : ℕ) : Type 0 where
  pub blind : (x : ℕ) → IsFalse (reads_at entries n x)
  pub one : (x y : ℕ) → IsTrue (writes_at entries n x) → IsTrue (writes_at entries n y) → y ≡ x
  pub flag : (x : ℕ) → IsTrue (writes_at entries n x) → IsTrue (list_any (λ e. (e.lsn == n) && e.identity) entries)

abbrev pub AreIdentitiesFrom : ℕ → List Entry → Type 0
AreIdentitiesFrom first entries = (n : ℕ) → first ≤ n → IsIdentityAt entries n

-- some entry writes x, and none with an LSN from `first` on does
abbrev pub is_older : ℕ → List Entry → ℕ → Bool
is_older first entries x = list_any (λ e. is_among x e.writes) entries && not (list_any (λ e. nat_le first e.lsn && is_among x e.writes) entries)

-- of so many objects is that so
abbrev pub count_older : ℕ → List Entry → List ℕ → ℕ
count_older first entries objects = length (filter (is_older first entries) objects)

-- LSNs were given to identity writes alone, and no object became dirty. Where the entries from `first` on were of identity
-- writes they are still; and of the objects that were dirty, each that was logged was written by older entries before, and is
-- not any more.
pub record LogsDirty (before after : Parts) : Type 0 where
  pub rising : before.log.next ≤ after.log.next
  pub dirty : DirtiesNone before.volatile.objects after.volatile.objects
  pub identities : (first : ℕ) → first ≤ before.log.next → AreIdentitiesFrom first before.volatile.entries → AreIdentitiesFrom first after.volatile.entries
  pub older : (first : ℕ) (objects : List ℕ) → first ≤ before.log.next → AreIdentitiesFrom first before.volatile.entries
      → ((x : ℕ) → is_dirty before.volatile.objects.cache x ≡ true → IsTrue (is_among x objects))
      → after.log.next + count_older first after.volatile.entries objects ≤ before.log.next + count_older first before.volatile.entries objects
