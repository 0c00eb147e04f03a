-- A store in use is in use still after a flush and after a removal.
use Rattle.std.proofs.Common.{◌≡◌, ◌∙◌, ap, sym, subst, ℕ, ◌<◌, Bool, true, false, List, [], ◌∷◌, arith, inl, inr, ⊎_elim, Option, Some, None, is_some, refl}
use Rattle.std.specs.Prelude.{All, IsSome, not, nat_eq}
use Rattle.std.specs.List.{filter}
use Rattle.std.specs.Map.{lookup}
use Rattle.std.specs.Option.{option_or}
use Rattle.std.proofs.lemmas.Bool.{cases_eq, cases_Bool, both_ways, ne_eqb}
use Rattle.std.proofs.lemmas.List.Elements.{All-cons, All-head, All-tail}
use Rattle.dirty_cache.specs.Contents.{Contents, held, is_dirty}
use Rattle.dirty_cache.specs.Places.{entry_at}
use Rattle.dirty_cache.specs.declared.entry.Entry.{Entry as Pair}
use Rattle.stable_objects.specs.SlotsView.{lsn_in}
use Rattle.install_order.specs.declared.entry.Entry.{Entry}
use Rattle.write_graph.specs.Graph.{lsns}
use Rattle.formats.specs.declared.layout.Layout.{Layout}
use Rattle.formats.specs.declared.params.Params.{Params}
use Rattle.running_store.specs.Laid.{Laid}
use Rattle.running_store.specs.Laid.Flushed.{AreEarly, IsFlushed}
use Rattle.running_store.specs.Parts.{AreInUse, Volatile, volatile}

-- what is dirty is cached
pub dirty_held : (c : Contents) (x : ℕ) → is_dirty c x ≡ true → (pair : Pair) × (held c x ≡ Some pair)
dirty_held c x = elim (entry_at c.places x) as (λ d. is_some d ≡ true → (pair : Pair) × (option_or d (lookup (nat_eq x) c.clean) ≡ Some pair)) [
  | None ↦ λ h. cc
  | Some e ↦ λ h. (e, refl)
]

pub dirty_cached : (c : Contents) (x : ℕ) → is_dirty c x ≡ true → IsSome (held c x)
dirty_cached c x dirty = let found = dirty_held c x dirty in subst (λ (o : Option Pair). IsSome o) (sym found.1) refl

-- and what is cached is a pair
pub cached_pair : (o : Option Pair) → IsSome o → (pair : Pair) × (o ≡ Some pair)
cached_pair None none = absurd (both_ways _ refl none)
cached_pair (Some pair) some = (pair, refl)

-- an option is not both
pub none_some : {B : Type 0} (o : Option Pair) (pair : Pair) → o ≡ None → o ≡ Some pair → B
none_some o pair none some = let h : None ≡ Some pair = sym none ∙ some in cc

pub flushed_in_use : (p : Params) (next : ℕ) (it : Volatile) (after : Laid) (x : ℕ) → AreInUse p next it → IsFlushed it.objects after x → AreInUse p next (volatile after it.entries)
flushed_in_use p next it after x used is = record {
  params = ap (λ (l : Layout). l.params) is.layout ∙ used.params;
  low = used.low;
  above = used.above;
  dirty = λ y pair dirty had. elim (cases_eq x y) [
    | inl e ↦ absurd (both_ways _ (subst (λ (z : ℕ). is_dirty after.cache z ≡ false) e is.clean) dirty)
    | inr ne ↦
        let was = is.others y (ne_eqb x y ne) in
        let lsn : lsn_in after.slots y ≡ lsn_in it.objects.slots y = is.other_lsns y (λ q. ne (sym q)) in
        let before : held it.objects.cache y ≡ Some pair = ⊎_elim (λ same. sym same ∙ had) (λ gone. none_some (held after.cache y) pair gone.1 had) was.entry in
        let found = used.dirty y pair (sym was.dirty ∙ dirty) before in
        (omega (arith, found.0, lsn), found.1)
  ];
  clean = λ y pair clean had. elim (cases_eq x y) [
    | inl e ↦ subst (λ (z : ℕ). held after.cache z ≡ Some pair → pair.lsn ≡ lsn_in after.slots z) e
        (λ here. ⊎_elim (λ same. sym (is.lsn pair (sym same ∙ here))) (λ gone. none_some (held after.cache x) pair gone here) is.entry) had
    | inr ne ↦
        let was = is.others y (ne_eqb x y ne) in
        let lsn : lsn_in after.slots y ≡ lsn_in it.objects.slots y = is.other_lsns y (λ q. ne (sym q)) in
        let before : held it.objects.cache y ≡ Some pair = ⊎_elim (λ same. sym same ∙ had) (λ gone. none_some (held after.cache y) pair gone.1 had) was.entry in
        used.clean y pair (sym was.dirty ∙ clean) before ∙ sym lsn
  ];
}

-- the new LSN is below the next LSN too
pub flushed_early : (p : Params) (next : ℕ) (it : Volatile) (after : Laid) (x : ℕ) → AreInUse p next it → is_dirty it.objects.cache x ≡ true → IsFlushed it.objects after x → AreEarly next it.objects → AreEarly next after
flushed_early p next it after x used dirty is early y below = elim (cases_eq y x) [
  | inl e ↦
      let had = dirty_held it.objects.cache x dirty in
      let low = (used.dirty x had.0 dirty had.1).1 in
      subst (λ (z : ℕ). lsn_in after.slots z < next) (sym e) (omega (arith, low, is.lsn had.0 had.1))
  | inr ne ↦
      let was = early y (subst (λ (l : Layout). y < l.params.objects) is.layout below) in
      omega (arith, was, is.other_lsns y ne)
]

-- entries that are kept have lower LSNs if all had
pub lsns_within : (next : ℕ) (test : Entry → Bool) (entries : List Entry) → All (λ n. n < next) (lsns entries) → All (λ n. n < next) (lsns (filter test entries))
lsns_within next test [] all = all
lsns_within next test (e ∷ entries) all =
    let more = lsns_within next test entries (All-tail (λ n. n < next) e.lsn (lsns entries) all) in
    elim (cases_Bool (test e)) [
      | inl kept ↦ rw kept (All-cons (λ n. n < next) e.lsn (lsns (filter test entries)) (All-head (λ n. n < next) e.lsn (lsns entries) all) more)
      | inr left ↦ rw left more
    ]

pub removed_in_use : (p : Params) (next : ℕ) (it : Volatile) (entries : List Entry) (node : ℕ → Bool) → AreInUse p next it → entries ≡ filter (λ e. not (node e.lsn)) it.entries
    → AreInUse p next (volatile it.objects entries)
removed_in_use p next it entries node used same = record {
  params = used.params;
  low = used.low;
  above = subst (λ (l : List Entry). All (λ n. n < next) (lsns l)) (sym same) (lsns_within next (λ e. not (node e.lsn)) it.entries used.above);
  dirty = used.dirty;
  clean = used.clean;
}
