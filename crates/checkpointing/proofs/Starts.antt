-- Of the redo starts of a graph those are kept that a checkpoint may have; where the store shows a world, these are all.
use Rattle.std.proofs.Common.{◌≡◌, ◌∙◌, subst, ap, ℕ, zero, suc, ◌+◌, ◌*◌, ◌<◌, ◌≤◌, Bool, true, List, [], ◌∷◌, ◌++◌, length, map, get_or, refl, arith, inl, inr, length-append}
use Rattle.std.specs.Prelude.{All, IsTrue, ◌^◌, ◌&&◌, ◌==◌, nat_lt, nat_le}
use Rattle.std.specs.List.{filter, AllPairs, flat_map}
use Rattle.std.specs.List.Sorted.{IsStrictlyIncreasing}
use Rattle.std.proofs.lemmas.Bool.{both_ways, and_parts, and_from, or_cases, or_left, eq-eqb, cond_both, cond-true, ltb-true, leb-true, lt-ltb, le-leb, eqb-true}
use Rattle.std.proofs.lemmas.List.{length-map}
use Rattle.std.proofs.lemmas.List.Elements.{All-nil, All-cons, All-head, All-tail, All-filter, All-weaker, filter_passes}
use Rattle.std.proofs.lemmas.List.Kept.{AllPairs-cons, AllPairs-from_increasing}
use Rattle.byteorder.specs.Endian.{little_bytes}
use Rattle.oper_core.specs.LittleEndian.{length-little_bytes}
use Rattle.oper_core.specs.Meaning.{Meaning, IsLawful}
use Rattle.oper_core.specs.State.{is_among}
use Rattle.dirty_page_table.specs.Codec.{start_code}
use Rattle.dirty_page_table.specs.declared.table.DirtyPageTable.{DirtyPageTable}
use Rattle.formats.specs.Records.{record_code}
use Rattle.formats.specs.declared.record.Record.TheVariants.{Checkpoint as Logged_checkpoint}
use Rattle.install_order.specs.Entries.{accesses, writes_at}
use Rattle.install_order.specs.Order.{Access}
use Rattle.install_order.specs.declared.entry.Entry.{Entry}
use Rattle.write_graph.specs.Graph.{Lists, IsLeast, lsns}
use Rattle.write_graph.specs.Objects.{IsWriter, IsWritten}
use Rattle.explain_core.specs.GraphLaws.{graph-within}
use Rattle.explain_core.specs.Sound.{IsSound}
use Rattle.explain_core.specs.World.{World, graph_access}
use Rattle.running_store.specs.Courses.Buffered.{start_bytes}
use Rattle.running_store.specs.Calls.Checkpoints.{IsCheckpointHere}
use Rattle.log_records.specs.RecordLog.{RecordLogView}
use Rattle.checkpointing.specs.Checkpoints.{is_in_log}

-- the objects of starts
abbrev pub firsts : List (ℕ × ℕ) → List ℕ
firsts starts = map (λ s. s.0) starts

-- of a graph without entries nothing is redone
pub no_starts : (starts : List (ℕ × ℕ)) → Lists (IsWritten (accesses [])) (firsts starts) → starts ≡ []
no_starts [] lists = refl
no_starts (s ∷ starts) lists = let written = (lists.exactly s.0).0 (or_left (s.0 == s.0) (is_among s.0 (firsts starts)) (eq-eqb s.0 s.0 refl)) in absurd (both_ways _ refl written.1)

firsts_kept : (P : ℕ → Type 0) (f : ℕ × ℕ → Bool) (starts : List (ℕ × ℕ)) → All P (firsts starts) → All P (firsts (filter f starts))
firsts_kept P f [] all = all
firsts_kept P f (s ∷ starts) all =
    let rest = firsts_kept P f starts (All-tail P s.0 (firsts starts) all) in
    cond_both (f s) (s ∷ filter f starts) (filter f starts) (λ (l : List (ℕ × ℕ)). All P (firsts l))
    (λ kept. All-cons P s.0 (firsts (filter f starts)) (All-head P s.0 (firsts starts) all) rest) (λ out. rest)

pairs_kept : (f : ℕ × ℕ → Bool) (starts : List (ℕ × ℕ)) → AllPairs (λ x y. x < y) (firsts starts) → AllPairs (λ x y. x < y) (firsts (filter f starts))
pairs_kept f [] rising = rising
pairs_kept f (s ∷ starts) rising =
    let rest = pairs_kept f starts (λ i j d lt within. rising (suc i) (suc j) d (omega (arith, lt)) (omega (arith, within))) in
    let above : All (λ y. s.0 < y) (firsts starts) = λ k d within. rising zero (suc k) d (omega arith) (omega (arith, within)) in
    cond_both (f s) (s ∷ filter f starts) (filter f starts) (λ (l : List (ℕ × ℕ)). AllPairs (λ x y. x < y) (firsts l))
    (λ kept. AllPairs-cons (λ x y. x < y) s.0 (firsts (filter f starts)) (firsts_kept (λ y. s.0 < y) f starts above) rest) (λ out. rest)

-- the starts that are kept rise
pub rising_kept : (f : ℕ × ℕ → Bool) (starts : List (ℕ × ℕ)) → IsStrictlyIncreasing (firsts starts) → IsStrictlyIncreasing (firsts (filter f starts))
rising_kept f starts is k within = pairs_kept f starts (AllPairs-from_increasing (firsts starts) is) k (k + 1) 0 (omega arith) (omega (arith, within))

-- where each passes, all are kept
pub all_kept : (f : ℕ × ℕ → Bool) (starts : List (ℕ × ℕ)) → All (λ s. f s ≡ true) starts → filter f starts ≡ starts
all_kept f [] all = refl
all_kept f (s ∷ starts) all =
    cond-true (f s) (s ∷ filter f starts) (filter f starts) (All-head (λ (s : ℕ × ℕ). f s ≡ true) s starts all)
    ∙ ap (λ (l : List (ℕ × ℕ)). s ∷ l) (all_kept f starts (All-tail (λ (s : ℕ × ℕ). f s ≡ true) s starts all))

-- rising LSNs are at least their places
place_low : (xs : List ℕ) → IsStrictlyIncreasing xs → (k : ℕ) → k < length xs → k ≤ get_or xs k 0
place_low xs rising zero lt = omega arith
place_low xs rising (suc k) lt =
    let low = place_low xs rising k (omega (arith, lt)) in
    let e : k + 1 ≡ suc k = omega arith in
    let step = subst (λ (n : ℕ). get_or xs k 0 < get_or xs n 0) e (rising k (omega (arith, lt))) in
    omega (arith, low, step)

-- so there are no more than LSNs below their bound
few_below : (n : ℕ) (xs : List ℕ) → IsStrictlyIncreasing xs → All (λ x. x < n) xs → length xs ≤ n
few_below n [] rising below = omega arith
few_below n (x ∷ xs) rising below =
    let k = length xs in
    let low = place_low (x ∷ xs) rising k (omega arith) in
    omega (arith, low, below k 0 (omega arith))

firsts_below : (n : ℕ) (starts : List (ℕ × ℕ)) → All (λ s. s.0 < n) starts → All (λ x. x < n) (firsts starts)
firsts_below n [] all = All-nil (λ x. x < n)
firsts_below n (s ∷ starts) all =
    All-cons (λ x. x < n) s.0 (firsts starts) (All-head (λ (s : ℕ × ℕ). s.0 < n) s starts all) (firsts_below n starts (All-tail (λ (s : ℕ × ℕ). s.0 < n) s starts all))

-- a writer is an entry
writer_below : (next : ℕ) (entries : List Entry) (n x : ℕ) → IsTrue (writes_at entries n x) → All (λ k. k < next) (lsns entries) → n < next
writer_below next [] n x writes all = absurd (both_ways _ refl writes)
writer_below next (e ∷ entries) n x writes all = elim (or_cases ((e.lsn == n) && is_among x e.writes) (writes_at entries n x) writes) [
  | inl here ↦
      let same = eqb-true e.lsn n (and_parts (e.lsn == n) (is_among x e.writes) here).0 in
      omega (arith, same, All-head (λ k. k < next) e.lsn (lsns entries) all)
  | inr more ↦ writer_below next entries n x more (All-tail (λ k. k < next) e.lsn (lsns entries) all)
]

in_log : (objects base : ℕ) (s : ℕ × ℕ) → is_in_log objects base s ≡ true → (s.0 < objects) × (base ≤ s.1)
in_log objects base s is = let parts = and_parts (nat_lt s.0 objects) (nat_le base s.1) is in (ltb-true s.0 objects parts.0, leb-true base s.1 parts.1)

-- a checkpoint of the starts that are kept is right in its place
module _ {O : Type 0} (m : Meaning O) (log : RecordLogView) (entries : List Entry) (objects : ℕ) (starts : List (ℕ × ℕ)) (there : m.objects ≡ objects) (short : objects ≤ 65535) (low : log.next ≤ 2 ^ 62) (ahead : log.log.header.base ≤ log.next)
    (above : All (λ n. n < log.next) (lsns entries)) (lists : Lists (IsWritten (accesses entries)) (firsts starts)) (least : All (λ s. IsLeast (IsWriter (accesses entries) s.0) s.1) starts) where
  abbrev base : ℕ
  base = log.log.header.base

  abbrev kept : List (ℕ × ℕ)
  kept = filter (is_in_log objects base) starts

  abbrev table : DirtyPageTable
  table = record { next = log.next; starts = kept }

  rises : IsStrictlyIncreasing (firsts kept)
  rises = rising_kept (is_in_log objects base) starts lists.rising

  each : All (λ s. is_in_log objects base s ≡ true) kept
  each = filter_passes (is_in_log objects base) starts

  below : All (λ s. s.0 < m.objects) kept
  below = All-weaker (λ (s : ℕ × ℕ). is_in_log objects base s ≡ true) (λ (s : ℕ × ℕ). s.0 < m.objects) (λ s is. omega (arith, (in_log objects base s is).0, there)) kept each

  from : All (λ s. base ≤ s.1) kept
  from = All-weaker (λ (s : ℕ × ℕ). is_in_log objects base s ≡ true) (λ (s : ℕ × ℕ). base ≤ s.1) (λ s is. (in_log objects base s is).1) kept each

  before : All (λ s. s.1 < log.next) kept
  before = All-filter (is_in_log objects base) (λ (s : ℕ × ℕ). s.1 < log.next) starts
      (All-weaker (λ (s : ℕ × ℕ). IsLeast (IsWriter (accesses entries) s.0) s.1) (λ (s : ℕ × ℕ). s.1 < log.next) (λ s is. writer_below log.next entries s.1 s.0 is.0 above) starts least)

  count : length kept ≤ 65535
  count = omega (arith, few_below m.objects (firsts kept) rises (firsts_below m.objects kept below), length-map kept (λ (s : ℕ × ℕ). s.0), there, short)

  bytes : length (record_code m (Logged_checkpoint table)) ≡ 13 + 12 * length kept
  bytes = omega (
    arith,
    start_bytes kept,
    length-append (little_bytes 8 log.next) (little_bytes 4 (length kept) ++ flat_map start_code kept),
    length-little_bytes 8 log.next,
    length-append (little_bytes 4 (length kept)) (flat_map start_code kept),
    length-little_bytes 4 (length kept),
  )

  pub checkpoint_here : IsCheckpointHere m log table
  checkpoint_here = record {
    placed = record { next_is = refl; rising = rises; there = below; from_base = from; before = before };
    grammar = record {
      next = omega (arith, low);
      few = omega (arith, count);
      starts = λ k d within. (omega (arith, below k d within, there, short), omega (arith, before k d within, low));
    };
    few = count;
    ahead = ahead;
    bytes = bytes;
  }

-- where the store shows a world, all starts are kept
pub starts_in_log : {O : Type 0} (m : Meaning O) (law : IsLawful m) (w : World O) (objects : ℕ) (entries : List Entry) (starts : List (ℕ × ℕ)) → IsSound m w → m.objects ≡ objects → accesses entries ≡ graph_access m w
    → All (λ s. IsLeast (IsWriter (accesses entries) s.0) s.1) starts → filter (is_in_log objects w.base) starts ≡ starts
starts_in_log m law w objects entries starts sound there same least =
    let within = graph-within m law w sound in
    all_kept (is_in_log objects w.base) starts
    (All-weaker (λ (s : ℕ × ℕ). IsLeast (IsWriter (accesses entries) s.0) s.1) (λ (s : ℕ × ℕ). is_in_log objects w.base s ≡ true) (λ s is.
    let writes : IsTrue ((graph_access m w).writes s.1 s.0) = subst (λ (a : Access). IsTrue (a.writes s.1 s.0)) same is.0 in
    let below = within.writes_object s.1 s.0 writes in
    let member = (and_parts (w.graph s.1) _ writes).0 in
    and_from (nat_lt s.0 objects) (nat_le w.base s.1) (lt-ltb s.0 objects (omega (arith, below, there))) (le-leb w.base s.1 (sound.graph s.1 member).0)) starts least)
