-- What a call of `put` leaves of a cache: the entry put, or all as it was, where the object had no entry.
use Rattle.std.proofs.Common.{◌≡◌, ◌<◌, ◌≤◌, ℕ, false, ◌⊎◌, inl, inr, ◌∷◌, length, take, Option, None, Some, IsSome, Result, Ok, Err, OnOk, OnErr, IsOk, nat_eq, refl, sym, ap, subst, ◌∙◌, true≢false}
use Rattle.std.specs.Cmp.{nat_eq_equiv}
use Rattle.std.specs.Map.{lookup, remove_entry}
use Rattle.lru.proofs.CallerLemmas.{lookup-put_entries}
use Rattle.lru.specs.LruCache.{LruCache, lru_cache, put_entries}
use Rattle.dirty_cache.proofs.Lookups.{lookup-put, lookup-put-roomy, put-order}

outcome : {A E P Q S : Type 0} (r : Result A E) → OnOk r P → OnErr r Q → (S → IsOk r) → P ⊎ (Q × (S → ⊥))
outcome (Ok a) p q s = inl p
outcome (Err e) p q s = inr (q, λ h. true≢false (sym (s h)))

no_entry : {X : Type 0} (o : Option X) → (IsSome o → ⊥) → o ≡ None
no_entry None h = refl
no_entry (Some x) h = absurd (h refl)

module _ {X : Type 0} (old new : LruCache ℕ X) (x : ℕ) (v : X) where
  abbrev pub Puts : Type 0
  Puts = (new ≡ lru_cache (put_entries nat_eq old x v) old.cap) ⊎ ((new ≡ old) × (IsSome (lookup (nat_eq x) old.entries) → ⊥))

  pub puts : {A E : Type 0} (r : Result A E) → OnOk r (new ≡ lru_cache (put_entries nat_eq old x v) old.cap) → OnErr r (new ≡ old) → (IsSome (lookup (nat_eq x) old.entries) → IsOk r) → Puts
  puts r = outcome r

  found : (y : ℕ) (c : LruCache ℕ X) → new ≡ c → lookup (nat_eq y) new.entries ≡ lookup (nat_eq y) c.entries
  found y c e = ap (λ d. lookup (nat_eq y) d.entries) e

  own : new ≡ lru_cache (put_entries nat_eq old x v) old.cap → lookup (nat_eq x) new.entries ≡ Some v
  own e = found x (lru_cache (put_entries nat_eq old x v) old.cap) e ∙ lookup-put_entries nat_eq old x v nat_eq_equiv

  pub put-own : Puts → (lookup (nat_eq x) new.entries ≡ Some v) ⊎ (lookup (nat_eq x) new.entries ≡ None)
  put-own (inl e) = inl (own e)
  put-own (inr n) = inr (found x old n.0 ∙ no_entry (lookup (nat_eq x) old.entries) n.1)

  pub put-known : Puts → IsSome (lookup (nat_eq x) old.entries) → lookup (nat_eq x) new.entries ≡ Some v
  put-known (inl e) h = own e
  put-known (inr n) h = absurd (n.1 h)

  pub put-others : Puts → (y : ℕ) → nat_eq x y ≡ false → (lookup (nat_eq y) new.entries ≡ lookup (nat_eq y) old.entries) ⊎ (lookup (nat_eq y) new.entries ≡ None)
  put-others (inl e) y apart = elim (lookup-put x y apart old v) [
    | inl kept ↦ inl (found y (lru_cache (put_entries nat_eq old x v) old.cap) e ∙ kept)
    | inr gone ↦ inr (found y (lru_cache (put_entries nat_eq old x v) old.cap) e ∙ gone)
  ]
  put-others (inr n) y apart = inl (found y old n.0)

  pub put-roomy : Puts → (length old.entries < old.cap) ⊎ IsSome (lookup (nat_eq x) old.entries) → (y : ℕ) → nat_eq x y ≡ false → lookup (nat_eq y) new.entries ≡ lookup (nat_eq y) old.entries
  put-roomy (inl e) room y apart = found y (lru_cache (put_entries nat_eq old x v) old.cap) e ∙ lookup-put-roomy x y apart old v room
  put-roomy (inr n) room y apart = found y old n.0

  pub put-ordered : Puts → 0 < new.cap → length new.entries ≤ new.cap → (new.entries ≡ take old.cap ((x, v) ∷ remove_entry (nat_eq x) old.entries)) ⊎ (new.entries ≡ old.entries)
  put-ordered (inl e) some within =
      let cap : new.cap ≡ old.cap = ap (λ c. c.cap) e in
      let entries : new.entries ≡ put_entries nat_eq old x v = ap (λ c. c.entries) e in
      inl (entries ∙ put-order old x v (subst (λ n. 0 < n) cap some) (subst (λ l. length l ≤ old.cap) entries (subst (λ n. length new.entries ≤ n) cap within)))
  put-ordered (inr n) some within = inr (ap (λ c. c.entries) n.0)
