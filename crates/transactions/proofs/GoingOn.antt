-- A snapshot while commands are added, and where they are taken back.
use Rattle.std.proofs.Common.{◌≡◌, ◌∙◌, refl, sym, subst, ap, ℕ, ◌+◌, ◌-◌, ◌≤◌, ◌<◌, Bool, true, false, true≢false, List, [], ◌∷◌, ◌++◌, take, get_or, length, append_assoc, arith, Option, None, Some, Result, Ok, Err}
use Rattle.std.specs.Prelude.{IfSome, IsSome, OnErr, OnOk}
use Rattle.std.proofs.lemmas.List.{length-take, take_more}
use lib.Seq.{take-append-add}
use Rattle.oper_core.specs.Meaning.{Meaning}
use Rattle.oper_core.specs.declared.bounds.Bounds.{Bounds}
use Rattle.formats.specs.declared.params.Params.{Params}
use Rattle.dirty_cache.specs.Contents.{Contents}
use Rattle.store_engine.specs.Store.{meaning_in}
use Rattle.transactions.specs.Keeping.{KeepsOld}
use Rattle.transactions.specs.Snapshots.{AreKept, Covers, IsSnapshot, Keeps, KeepsOn, WriteKept}
use Rattle.transactions.specs.declared.snapshot.Snapshot.{Snapshot}
use Rattle.transactions.proofs.Kept.{old_twice, still_some, write_at, write_both, write_first, write_on}

-- what holds in any case holds of an answer
pub on_ok : {T E : Type 0} (r : Result T E) (P : Type 0) → P → OnOk r P
on_ok (Ok value) P is = is
on_ok (Err e) P is = tt

pub on_err : {T E : Type 0} (r : Result T E) (P : Type 0) → P → OnErr r P
on_err (Ok value) P is = tt
on_err (Err e) P is = is

-- what is kept once is kept
pub on_none : (snapshot : Snapshot) → KeepsOn snapshot snapshot
on_none snapshot = by_kept snapshot.kept
  where
    by_kept : (o : Option Contents) → IfSome o (λ after. (before : Contents) × (o ≡ Some before) × KeepsOld before after)
    by_kept None = tt
    by_kept (Some kept) = (kept, refl, λ x some. refl)

pub on_twice : (old mid new : Snapshot) → KeepsOn old mid → KeepsOn mid new → KeepsOn old new
on_twice old mid new first second = by_kept new.kept second
  where
    by_kept : (o : Option Contents) → IfSome o (λ after. (before : Contents) × (mid.kept ≡ Some before) × KeepsOld before after) → IfSome o (λ after. (before : Contents) × (old.kept ≡ Some before) × KeepsOld before after)
    by_kept None second = tt
    by_kept (Some after) second =
        let was = subst (λ (o : Option Contents). IfSome o (λ after. (before : Contents) × (old.kept ≡ Some before) × KeepsOld before after)) second.1 first in
        (was.0, was.1, old_twice was.0 second.0 after was.2 second.2)

module _ {O : Type 0} (meaning : Bounds → Meaning O) (p : Params) where
  -- what a snapshot keeps that was not given up
  pub keeps_in : (snapshot : Snapshot) (kept : Contents) (base commands : List O) → snapshot.kept ≡ Some kept → IsSnapshot meaning p snapshot base commands → Keeps meaning p kept base commands
  keeps_in snapshot kept base commands is it = subst (λ (o : Option Contents). IfSome o (λ kept. Keeps meaning p kept base commands)) is it.keeps

  -- of other commands, where what is kept serves them too
  of_others : (snapshot : Snapshot) (base commands others : List O) → ((kept : Contents) → snapshot.kept ≡ Some kept → Keeps meaning p kept base commands → Keeps meaning p kept base others)
      → IsSnapshot meaning p snapshot base commands → IsSnapshot meaning p snapshot base others
  of_others snapshot base commands others serves it = record { begun = it.begun; keeps = by_kept snapshot.kept (λ kept is. is) it.keeps }
    where
      by_kept : (o : Option Contents) → ((kept : Contents) → o ≡ Some kept → snapshot.kept ≡ Some kept) → IfSome o (λ kept. Keeps meaning p kept base commands) → IfSome o (λ kept. Keeps meaning p kept base others)
      by_kept None are keeps = tt
      by_kept (Some kept) are keeps = serves kept (are kept refl) keeps

  -- one that is given up
  pub given_up : (before after : Snapshot) (base commands : List O) → IsSnapshot meaning p before base commands → after.at ≡ before.at → after.kept ≡ None → IsSnapshot meaning p after base commands
  given_up before after base commands it same none = record { begun = same ∙ it.begun; keeps = subst (λ (o : Option Contents). IfSome o (λ kept. Keeps meaning p kept base commands)) (sym none) tt }

  -- commands are added that write kept objects alone, or any first ones of them
  pub goes_on : (snapshot : Snapshot) (base commands ops : List O) (n : ℕ) → IsSnapshot meaning p snapshot base commands → Covers meaning p snapshot ops → IsSnapshot meaning p snapshot base (commands ++ take n ops)
  goes_on snapshot base commands ops n it covers = of_others snapshot base commands (commands ++ take n ops)
      (λ kept is keeps. record {
        since = keeps.since ++ take n ops;
        behind = ap (λ (l : List O). l ++ take n ops) keeps.behind ∙ append_assoc base keeps.since (take n ops);
        writes = write_both meaning p kept keeps.since (take n ops) keeps.writes (write_first meaning p kept n ops (subst (λ (o : Option Contents). IfSome o (λ kept. WriteKept meaning p kept ops)) is covers));
        values = keeps.values;
      })
      it

  -- the first commands of some, which are no fewer than those at the front
  front_of : (base since commands : List O) (n : ℕ) → commands ≡ base ++ since → length base ≤ length (take n commands) → take n commands ≡ base ++ take (n - length base) since
  front_of base since commands n split enough =
      let more : length base + (n - length base) ≡ n = omega (arith, enough, length-take n commands) in
      ap (λ (l : List O). take n l) split ∙ ap (λ (k : ℕ). take k (base ++ since)) (sym more) ∙ take-append-add base since (n - length base)

  -- the store went back, to no fewer commands than there were at the beginning
  pub goes_back : (snapshot : Snapshot) (base commands : List O) (n : ℕ) → IsSnapshot meaning p snapshot base commands → length base ≤ length (take n commands) → IsSnapshot meaning p snapshot base (take n commands)
  goes_back snapshot base commands n it enough = of_others snapshot base commands (take n commands)
      (λ kept is keeps. record {
        since = take (n - length base) keeps.since;
        behind = front_of base keeps.since commands n keeps.behind enough;
        writes = write_first meaning p kept (n - length base) keeps.since keeps.writes;
        values = keeps.values;
      })
      it

  -- all that one command writes is kept
  pub one_covered : (q : Params) → q ≡ p → (snapshot : Snapshot) (op : O) (objects : List ℕ) → objects ≡ (meaning_in meaning p).writes op → IfSome snapshot.kept (λ kept. AreKept q.objects kept objects) → Covers meaning p snapshot (op ∷ [])
  one_covered q same snapshot op objects are kept = by_kept snapshot.kept kept
    where
      by_kept : (o : Option Contents) → IfSome o (λ kept. AreKept q.objects kept objects) → IfSome o (λ kept. WriteKept meaning p kept (op ∷ []))
      by_kept None kept = tt
      by_kept (Some all) kept = (subst (λ (l : List ℕ). AreKept p.objects all l) are (subst (λ (r : Params). AreKept r.objects all objects) same kept), tt)

  -- what one of some commands writes is kept, where all that they write is
  pub covered_at : (q : Params) → q ≡ p → (snapshot : Snapshot) (ops : List O) (i : ℕ) (op : O) (objects : List ℕ) → objects ≡ (meaning_in meaning p).writes op → i < length ops → op ≡ get_or ops i op → Covers meaning p snapshot ops
      → IfSome snapshot.kept (λ kept. AreKept q.objects kept objects)
  covered_at q same snapshot ops i op objects are within here covers = by_kept snapshot.kept covers
    where
      by_kept : (o : Option Contents) → IfSome o (λ kept. WriteKept meaning p kept ops) → IfSome o (λ kept. AreKept q.objects kept objects)
      by_kept None covers = tt
      by_kept (Some kept) covers =
          subst (λ (r : Params). AreKept r.objects kept objects) (sym same)
          (subst (λ (l : List ℕ). AreKept p.objects kept l) (sym (ap (λ (o : O). (meaning_in meaning p).writes o) here) ∙ sym are) (write_at meaning p kept ops i op covers within))

  pub covers_none : (snapshot : Snapshot) → Covers meaning p snapshot []
  covers_none snapshot = by_kept snapshot.kept
    where
      by_kept : (o : Option Contents) → IfSome o (λ kept. WriteKept meaning p kept [])
      by_kept None = tt
      by_kept (Some kept) = tt

  -- it covers one command more of some
  pub covers_next : (old new : Snapshot) (ops : List O) (i : ℕ) (op : O) → KeepsOn old new → Covers meaning p old (take i ops) → i < length ops → op ≡ get_or ops i op → Covers meaning p new (op ∷ []) → Covers meaning p new (take (i + 1) ops)
  covers_next old new ops i op on covers within here one = by_kept new.kept on one
    where
      more : take (i + 1) ops ≡ take i ops ++ op ∷ []
      more = take_more ops i op within ∙ ap (λ (o : O). take i ops ++ o ∷ []) (sym here)

      by_kept : (o : Option Contents) → IfSome o (λ after. (before : Contents) × (old.kept ≡ Some before) × KeepsOld before after) → IfSome o (λ kept. WriteKept meaning p kept (op ∷ []))
          → IfSome o (λ kept. WriteKept meaning p kept (take (i + 1) ops))
      by_kept None on one = tt
      by_kept (Some after) on one =
          subst (λ (l : List O). WriteKept meaning p after l) (sym more)
          (write_both meaning p after (take i ops) (op ∷ []) (write_on meaning p on.0 after (still_some on.0 after on.2) (take i ops) (subst (λ (o : Option Contents). IfSome o (λ kept. WriteKept meaning p kept (take i ops))) on.1 covers)) one)

  -- it covers nothing where it is given up
  pub covers_broken : (snapshot : Snapshot) (broken : Bool) (ops : List O) → (IsSome snapshot.kept → broken ≡ false) → broken ≡ true → Covers meaning p snapshot ops
  covers_broken snapshot broken ops whole is = by_kept snapshot.kept whole
    where
      by_kept : (o : Option Contents) → (IsSome o → broken ≡ false) → IfSome o (λ kept. WriteKept meaning p kept ops)
      by_kept None whole = tt
      by_kept (Some kept) whole = absurd (true≢false (sym is ∙ whole refl))
