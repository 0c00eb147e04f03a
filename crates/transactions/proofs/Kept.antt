-- Values that are kept, and what a snapshot has of them.
use Rattle.std.proofs.Common.{◌≡◌, ◌∙◌, ◌==◌, sym, subst, ap, ℕ, ◌<◌, Bool, true, false, List, [], ◌∷◌, ◌++◌, fold, take, zero, suc, ◌+◌, length, slice_index, get_or, true≢false, refl, inl, inr, ◌⊎◌, ⊎_elim, arith, Option, None, Some, nat_eq}
use Rattle.std.specs.Prelude.{IfSome, IsSome, IsTrue, is_some}
use Rattle.std.specs.Option.{option_map_or}
use Rattle.std.proofs.lemmas.Bool.{cases_Bool, cond-true, cond-false, eqb-true, false_from_ne_true}
use Rattle.std.proofs.lemmas.List.{append-nil, take_more}
use Rattle.std.proofs.lemmas.List.Elements.{All-push}
use Rattle.std.proofs.lemmas.List.Folds.{list_any_none}
use Rattle.std.proofs.lemmas.List.Sums.{fold-append}
use Rattle.oper_core.specs.State.{State, is_among, start, value_for}
use Rattle.oper_core.specs.Meaning.{Meaning, after, read_values}
use Rattle.oper_core.specs.declared.bounds.Bounds.{Bounds}
use Rattle.formats.specs.declared.params.Params.{Params}
use Rattle.dirty_cache.specs.Contents.{Contents, empty, held}
use Rattle.dirty_cache.specs.declared.entry.Entry.{Entry}
use Rattle.disk_model.specs.Disk.{Disk}
use Rattle.store_engine.specs.Commands.{HasFetched}
use Rattle.store_engine.specs.Engine.{EngineView}
use Rattle.store_engine.specs.Store.{meaning_in, state_of}
use Rattle.formats.specs.declared.read_err.ReadErr.{ReadErr}
use Rattle.formats.specs.declared.read_err.ReadErr.TheVariants as of_read
use Rattle.transactions.specs.Keeping.{AddsValues, KeepsOld}
use Rattle.transactions.specs.Snapshots.{AreKept, Keeps, WriteKept}
use Rattle.transactions.specs.Staged.{OnlyReads, overlaid}
use Rattle.transactions.proofs.OverlayLemmas.{as_tested}
use Rattle.transactions.proofs.Reading.{fetched_reads, reads_so}

-- a fetch reads alone, or the engine is broken
pub fetched_or_broken : {O : Type 0} (meaning : Bounds → Meaning O) (old new : Disk) (before after : EngineView) (object : ℕ) (error : Option ReadErr) → HasFetched meaning old new before after object error
    → OnlyReads meaning old new before after (after.broken ≡ true)
fetched_or_broken meaning old new before after object error fetched =
    reads_so meaning old new before after (error ≡ Some of_read.DiskFault) (after.broken ≡ true) (λ failed. fetched.call.broken.1 failed) (λ broken. fetched.call.broken.0 broken) (fetched_reads meaning old new before after object error fetched)

is_some_so : {T : Type 0} (o : Option T) (v : T) → o ≡ Some v → IsSome o
is_some_so {T} o v is = ap (λ (q : Option T). is_some q) is

-- an entry with a value, told by another name of it
with_value : (o : Option Entry) (v w : List ℕ) → v ≡ w → IfSome o (λ e. e.bytes ≡ v) → IfSome o (λ e. e.bytes ≡ w)
with_value None v w same is = tt
with_value (Some e) v w same is = is ∙ same

pub still_some : (old new : Contents) → KeepsOld old new → (x : ℕ) → IsSome (held old x) → IsSome (held new x)
still_some old new on x some = subst (λ (o : Option Entry). IsSome o) (sym (on x some)) some

pub old_twice : (old mid new : Contents) → KeepsOld old mid → KeepsOld mid new → KeepsOld old new
old_twice old mid new first second x some = second x (still_some old mid first x some) ∙ first x some

pub some_of_none : {T : Type 0} (o : Option T) → o ≡ None → IsSome o → ⊥
some_of_none {T} o none some = true≢false (sym some ∙ ap (λ (q : Option T). is_some q) none)

pub not_done : (done : Bool) → done ≡ false → IsTrue done → ⊥
not_done done undone is = true≢false (sym is ∙ undone)

-- where an object that the store has would be kept, none that is not kept is there
pub none_there : (kept : Contents) (object count : ℕ) → held kept object ≡ None → (object < count → IsSome (held kept object)) → object < count → ⊥
none_there kept object count none are there = some_of_none (held kept object) none (are there)

-- the value of one object, of which none was kept, is kept, or it is not
pub record OneKept (old new : Contents) (o : ℕ) (v : List ℕ) : Type 0 where
  pub none : held old o ≡ None
  pub here : (held new o ≡ Some (record { lsn = 0; bytes = v })) ⊎ (held new o ≡ held old o)
  pub others : (y : ℕ) → nat_eq o y ≡ false → held new y ≡ held old y

all_same : (old new : Contents) (o : ℕ) → held new o ≡ held old o → ((y : ℕ) → nat_eq o y ≡ false → held new y ≡ held old y) → (x : ℕ) → held new x ≡ held old x
all_same old new o here others x = elim (cases_Bool (nat_eq o x)) [
  | inl same ↦ subst (λ (y : ℕ). held new y ≡ held old y) (eqb-true o x same) here
  | inr other ↦ others x other
]

pub one_old : (old new : Contents) (o : ℕ) (v : List ℕ) → OneKept old new o v → KeepsOld old new
one_old old new o v one x some = elim (cases_Bool (nat_eq o x)) [
  | inl same ↦ absurd (some_of_none (held old x) (ap (λ (y : ℕ). held old y) (sym (eqb-true o x same)) ∙ one.none) some)
  | inr other ↦ one.others x other
]

-- more is kept than before
pub kept_on : (count : ℕ) (old new : Contents) → ((x : ℕ) → IsSome (held old x) → IsSome (held new x)) → (objects : List ℕ) → AreKept count old objects → AreKept count new objects
kept_on count old new on objects are = λ k d below there. on (get_or objects k d) (are k d below there)

pub kept_next : (count : ℕ) (old new : Contents) → KeepsOld old new → (objects : List ℕ) (i : ℕ) → AreKept count old (take i objects) → i < length objects
    → (slice_index objects i < count → IsSome (held new (slice_index objects i))) → AreKept count new (take (i + 1) objects)
kept_next count old new on objects i so_far within next =
    subst (λ (l : List ℕ). AreKept count new l) (sym (take_more objects i 0 within))
    (All-push (λ x. x < count → IsSome (held new x)) (take i objects) (slice_index objects i) (kept_on count old new (still_some old new on) (take i objects) so_far) next)

-- an object that is not kept is none of those that are
unwritten : (count : ℕ) (kept : Contents) (objects : List ℕ) (x : ℕ) → x < count → held kept x ≡ None → AreKept count kept objects → is_among x objects ≡ false
unwritten count kept objects x there none are = list_any_none (λ y. x == y) objects (λ k d below. apart (get_or objects k d) (are k d below))
  where
    apart : (y : ℕ) → (y < count → IsSome (held kept y)) → (x == y) ≡ false
    apart y is = false_from_ne_true (x == y) (λ same.
        let one : x ≡ y = eqb-true x y same in
        absurd (some_of_none (held kept y) (ap (λ (z : ℕ). held kept z) (sym one) ∙ none) (is (subst (λ (z : ℕ). z < count) one there))))

module _ {O : Type 0} (meaning : Bounds → Meaning O) (p : Params) where
  abbrev m : Meaning O
  m = meaning_in meaning p

  pub write_on : (old new : Contents) → ((x : ℕ) → IsSome (held old x) → IsSome (held new x)) → (ops : List O) → WriteKept meaning p old ops → WriteKept meaning p new ops
  write_on old new on [] writes = tt
  write_on old new on (op ∷ ops) writes = (kept_on p.objects old new on (m.writes op) writes.0, write_on old new on ops writes.1)

  pub write_both : (kept : Contents) (ops more : List O) → WriteKept meaning p kept ops → WriteKept meaning p kept more → WriteKept meaning p kept (ops ++ more)
  write_both kept [] more first second = second
  write_both kept (op ∷ ops) more first second = (first.0, write_both kept ops more first.1 second)

  pub write_first : (kept : Contents) (n : ℕ) (ops : List O) → WriteKept meaning p kept ops → WriteKept meaning p kept (take n ops)
  write_first kept zero ops writes = tt
  write_first kept (suc n) [] writes = tt
  write_first kept (suc n) (op ∷ ops) writes = (writes.0, write_first kept n ops writes.1)

  pub write_at : (kept : Contents) (ops : List O) (i : ℕ) (d : O) → WriteKept meaning p kept ops → i < length ops → AreKept p.objects kept (m.writes (get_or ops i d))
  write_at kept [] i d writes within = absurd (omega (arith, within))
  write_at kept (op ∷ ops) zero d writes within = writes.0
  write_at kept (op ∷ ops) (suc i) d writes within = write_at kept ops i d writes.1 (omega (arith, within))

  -- commands that write kept objects alone leave the others
  stays : (kept : Contents) (ops : List O) (s : State) → WriteKept meaning p kept ops → (x : ℕ) → x < p.objects → held kept x ≡ None → fold (after m) s ops x ≡ s x
  stays kept [] s writes x there none = refl
  stays kept (op ∷ ops) s writes x there none =
      stays kept ops (after m s op) writes.1 x there none
      ∙ cond-false (is_among x (m.writes op)) (value_for x (m.writes op) (m.effect op (read_values m s op))) (s x) (unwritten p.objects kept (m.writes op) x there none writes.0)

  -- the kept values, laid over those after all commands, are the state that is kept
  pub state_kept : (kept : Contents) (base commands : List O) → Keeps meaning p kept base commands → (x : ℕ) → x < p.objects → overlaid kept (state_of meaning p commands) x ≡ state_of meaning p base x
  state_kept kept base commands keeps x there = by_entry (held kept x) refl
    where
      over : (o : Option Entry) → held kept x ≡ o → overlaid kept (state_of meaning p commands) x ≡ option_map_or (λ e. e.bytes) o (state_of meaning p commands x)
      over o is = ap (λ (q : Option Entry). option_map_or (λ e. e.bytes) q (state_of meaning p commands x)) is

      by_entry : (o : Option Entry) → held kept x ≡ o → overlaid kept (state_of meaning p commands) x ≡ state_of meaning p base x
      by_entry None none =
          over None none ∙ ap (λ (l : List O). state_of meaning p l x) keeps.behind
          ∙ ap (λ (s : State). s x) (fold-append (after m) start base keeps.since)
          ∙ stays kept keeps.since (state_of meaning p base) keeps.writes x there none
      by_entry (Some e) some = over (Some e) some ∙ subst (λ (o : Option Entry). IfSome o (λ e. e.bytes ≡ state_of meaning p base x)) some (keeps.values x there)

  -- a snapshot that begins keeps nothing
  pub keeps_none : (kept : Contents) (commands : List O) → kept ≡ empty 1 → Keeps meaning p kept commands commands
  keeps_none kept commands is = record {
    since = [];
    behind = sym (append-nil commands);
    writes = tt;
    values = λ x there. subst (λ (c : Contents). IfSome (held c x) (λ e. e.bytes ≡ state_of meaning p commands x)) (sym is) tt;
  }

  module _ (commands : List O) where
    abbrev Told : ℕ → Option Entry → Type 0
    Told x o = IfSome o (λ e. e.bytes ≡ state_of meaning p commands x)

    pub values_same : (old new : Contents) → ((x : ℕ) → held new x ≡ held old x) → AddsValues meaning p commands old new
    values_same old new same x none = subst (λ (o : Option Entry). Told x o) (sym (same x ∙ none)) tt

    pub values_twice : (old mid new : Contents) → AddsValues meaning p commands old mid → KeepsOld mid new → AddsValues meaning p commands mid new → AddsValues meaning p commands old new
    values_twice old mid new first on second x none = by_mid (held mid x) refl (first x none)
      where
        by_mid : (o : Option Entry) → held mid x ≡ o → Told x (held mid x) → Told x (held new x)
        by_mid None nothing told = second x nothing
        by_mid (Some e) some told = subst (λ (o : Option Entry). Told x o) (sym (on x (is_some_so (held mid x) e some))) told

    pub one_value : (old new : Contents) (o : ℕ) (v : List ℕ) → OneKept old new o v → v ≡ state_of meaning p commands o → AddsValues meaning p commands old new
    one_value old new o v one is x nothing = ⊎_elim
        (λ here.
        let tested = as_tested old new o v here one.others in
        elim (cases_Bool (x == o)) [
          | inl same ↦ subst (λ (q : Option Entry). Told x q) (sym (tested x ∙ cond-true (x == o) (Some (record { lsn = 0; bytes = v })) (held old x) same)) (is ∙ ap (λ (y : ℕ). state_of meaning p commands y) (sym (eqb-true x o same)))
          | inr other ↦ subst (λ (q : Option Entry). Told x q) (sym (tested x ∙ cond-false (x == o) (Some (record { lsn = 0; bytes = v })) (held old x) other ∙ nothing)) tt
        ])
        (λ here. values_same old new (all_same old new o here one.others) x nothing)
        one.here

    -- a snapshot goes on where more is kept
    pub keeps_more : (old new : Contents) (base : List O) → KeepsOld old new → AddsValues meaning p commands old new → Keeps meaning p old base commands → Keeps meaning p new base commands
    keeps_more old new base on adds keeps = record {
      since = keeps.since;
      behind = keeps.behind;
      writes = write_on old new (still_some old new on) keeps.since keeps.writes;
      values = λ x there. by_old x there (held old x) refl;
    }
      where
        by_old : (x : ℕ) → x < p.objects → (o : Option Entry) → held old x ≡ o → IfSome (held new x) (λ e. e.bytes ≡ state_of meaning p base x)
        by_old x there None none =
            with_value (held new x) (state_of meaning p commands x) (state_of meaning p base x)
            (ap (λ (o : Option Entry). option_map_or (λ e. e.bytes) o (state_of meaning p commands x)) (sym none) ∙ state_kept old base commands keeps x there)
            (adds x none)
        by_old x there (Some e) some =
            subst (λ (o : Option Entry). IfSome o (λ e. e.bytes ≡ state_of meaning p base x)) (sym (on x (is_some_so (held old x) e some))) (keeps.values x there)
