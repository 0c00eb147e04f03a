-- When an object's entry is the same in two caches.
use Rattle.std.proofs.Common.{◌≡◌, ℕ, List, Option, is_some, nat_eq, refl, ap, ◌∙◌}
use Rattle.std.specs.Map.{lookup}
use Rattle.std.specs.Option.{option_or}
use Rattle.lru.specs.LruCache.{LruCache, lru_cache, promoted}
use Rattle.dirty_cache.specs.Contents.{Contents, contents, held, IsSame, IsUnchanged}
use Rattle.dirty_cache.specs.declared.entry.Entry.{Entry}
use Rattle.dirty_cache.specs.Places.{entry_at}
use Rattle.dirty_cache.proofs.Lookups.{lookup-promoted, length-promoted}

-- the places and the clean entries have the same of it
pub same : (old new : Contents) (y : ℕ) → entry_at new.places y ≡ entry_at old.places y → lookup (nat_eq y) new.clean ≡ lookup (nat_eq y) old.clean → IsSame old new y
same old new y dirty clean = record { entry = λ i. option_or (dirty i) (clean i); dirty = ap is_some dirty }

-- a clean entry is moved to the front
pub unchanged-promoted : (c : Contents) (x : ℕ) → IsUnchanged c (contents c.places (promoted (nat_eq x) c.clean) c.limit)
unchanged-promoted c x =
    record {
      each = λ y. same c (contents c.places (promoted (nat_eq x) c.clean) c.limit) y refl (lookup-promoted x c.clean y);
      dirty = refl;
      clean = length-promoted x c.clean;
      limit = refl;
    }

pub held-promoted : (places : List (ℕ × Option Entry)) (old new : LruCache ℕ Entry) (x : ℕ) → new ≡ lru_cache (promoted (nat_eq x) old.entries) old.cap → held (contents places new.entries new.cap) x ≡ held (contents places old.entries old.cap) x
held-promoted places old new x e =
    let was = contents places old.entries old.cap in ap (λ l. held (contents places l.entries l.cap) x) e ∙ ((unchanged-promoted was x).each x).entry
