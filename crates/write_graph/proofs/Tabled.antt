-- Entries that are kept in three tables.
use Rattle.std.proofs.Common.{◌≡◌, ◌∙◌, ap, sym, subst, ℕ, zero, suc, ◌+◌, ◌-◌, ◌<◌, ◌≤◌, min, List, [], ◌∷◌, ◌++◌, take, drop, length, map, get_or, slice_range, refl, arith, inl, inr}
use Rattle.std.specs.Prelude.{slice_index, slice_index_or}
use Rattle.std.proofs.lemmas.Bool.{cases_lt}
use Rattle.std.proofs.lemmas.List.{append_assoc, length-append, length-drop, length_push, take_all, take-append-le, drop_at, drop-append-le, length-take, get_or_append_left, get_or_push}
use Rattle.install_order.specs.declared.entry.Entry.{Entry}
use Rattle.write_graph.specs.declared.head.Head.{Head}
use Rattle.write_graph.specs.Graph.{lsns}
use Rattle.write_graph.specs.Cells.{reads_of, writes_of, identity_of}
use Rattle.write_graph.specs.Heads.{head_of, heads_of, entry_of, entries_of, IsHead, AreHeads}
use Rattle.write_graph.specs.Lowered.{lowered}

pub length-heads : (starts codes : List ℕ) → length codes ≡ length starts → length (heads_of starts codes) ≡ length starts
length-heads [] codes e = refl
length-heads (s ∷ starts) [] e = absurd (omega (arith, e))
length-heads (s ∷ starts) (k ∷ codes) e = ap suc (length-heads starts codes (omega (arith, e)))

pub head-at : (starts codes : List ℕ) (i : ℕ) (d : Head) → length codes ≡ length starts → i < length starts → get_or (heads_of starts codes) i d ≡ head_of (slice_index starts i) (slice_index codes i)
head-at [] codes i d e lt = absurd (omega (arith, lt))
head-at (s ∷ starts) [] i d e lt = absurd (omega (arith, e))
head-at (s ∷ starts) (k ∷ codes) zero d e lt = refl
head-at (s ∷ starts) (k ∷ codes) (suc i) d e lt = head-at starts codes i d (omega (arith, e)) (omega (arith, lt))

pub heads-push : (starts codes : List ℕ) (s k : ℕ) → length codes ≡ length starts → heads_of (starts ++ s ∷ []) (codes ++ k ∷ []) ≡ heads_of starts codes ++ head_of s k ∷ []
heads-push [] [] s k e = refl
heads-push [] (j ∷ codes) s k e = absurd (omega (arith, e))
heads-push (r ∷ starts) [] s k e = absurd (omega (arith, e))
heads-push (r ∷ starts) (j ∷ codes) s k e = ap (λ (hs : List Head). head_of r j ∷ hs) (heads-push starts codes s k (omega (arith, e)))

pub length-kept : (ns : List ℕ) (hs : List Head) (os : List ℕ) → length hs ≡ length ns → length (entries_of ns hs os) ≡ length ns
length-kept [] hs os e = refl
length-kept (n ∷ ns) [] os e = absurd (omega (arith, e))
length-kept (n ∷ ns) (h ∷ hs) os e = ap suc (length-kept ns hs os (omega (arith, e)))

pub lsns-kept : (ns : List ℕ) (hs : List Head) (os : List ℕ) → length hs ≡ length ns → lsns (entries_of ns hs os) ≡ ns
lsns-kept [] hs os e = refl
lsns-kept (n ∷ ns) [] os e = absurd (omega (arith, e))
lsns-kept (n ∷ ns) (h ∷ hs) os e = ap (λ (xs : List ℕ). n ∷ xs) (lsns-kept ns hs os (omega (arith, e)))

pub lsns-seen : (ns : List ℕ) (hs : List Head) (os : List ℕ) (es : List Entry) (xs : List ℕ) → length hs ≡ length ns → entries_of ns hs os ≡ es → xs ≡ ns → xs ≡ lsns es
lsns-seen ns hs os es xs e is same = same ∙ sym (lsns-kept ns hs os e) ∙ ap lsns is

-- the entry at a place is that of the LSN and the head there
pub kept-at : (ns : List ℕ) (hs : List Head) (os : List ℕ) (i : ℕ) (d : Entry) (h : Head) → length hs ≡ length ns → i < length ns → get_or (entries_of ns hs os) i d ≡ entry_of os (slice_index ns i) (get_or hs i h)
kept-at [] hs os i d h e lt = absurd (omega (arith, lt))
kept-at (n ∷ ns) [] os i d h e lt = absurd (omega (arith, e))
kept-at (n ∷ ns) (f ∷ hs) os zero d h e lt = refl
kept-at (n ∷ ns) (f ∷ hs) os (suc i) d h e lt = kept-at ns hs os i d h (omega (arith, e)) (omega (arith, lt))

reads-in : (ns : List ℕ) (hs : List Head) (os : List ℕ) (i : ℕ) (h : Head) → length hs ≡ length ns → i < length ns → (entry_of os zero (get_or hs i h)).reads ≡ reads_of (entries_of ns hs os) i
reads-in [] hs os i h e lt = absurd (omega (arith, lt))
reads-in (n ∷ ns) [] os i h e lt = absurd (omega (arith, e))
reads-in (n ∷ ns) (f ∷ hs) os zero h e lt = refl
reads-in (n ∷ ns) (f ∷ hs) os (suc i) h e lt = reads-in ns hs os i h (omega (arith, e)) (omega (arith, lt))

writes-in : (ns : List ℕ) (hs : List Head) (os : List ℕ) (i : ℕ) (h : Head) → length hs ≡ length ns → i < length ns → (entry_of os zero (get_or hs i h)).writes ≡ writes_of (entries_of ns hs os) i
writes-in [] hs os i h e lt = absurd (omega (arith, lt))
writes-in (n ∷ ns) [] os i h e lt = absurd (omega (arith, e))
writes-in (n ∷ ns) (f ∷ hs) os zero h e lt = refl
writes-in (n ∷ ns) (f ∷ hs) os (suc i) h e lt = writes-in ns hs os i h (omega (arith, e)) (omega (arith, lt))

identity-in : (ns : List ℕ) (hs : List Head) (os : List ℕ) (i : ℕ) (h : Head) → length hs ≡ length ns → i < length ns → (get_or hs i h).identity ≡ identity_of (entries_of ns hs os) i
identity-in [] hs os i h e lt = absurd (omega (arith, lt))
identity-in (n ∷ ns) [] os i h e lt = absurd (omega (arith, e))
identity-in (n ∷ ns) (f ∷ hs) os zero h e lt = refl
identity-in (n ∷ ns) (f ∷ hs) os (suc i) h e lt = identity-in ns hs os i h (omega (arith, e)) (omega (arith, lt))

-- what stands behind the head's start is what its entry reads
pub reads-kept : (ns : List ℕ) (hs : List Head) (os : List ℕ) (i : ℕ) (h : Head) → AreHeads ns hs os → i < length (entries_of ns hs os) → h ≡ slice_index_or hs i h → slice_range os h.start (h.start + h.reads) ≡ reads_of (entries_of ns hs os) i
reads-kept ns hs os i h are lt at = ap (λ (k : Head). (entry_of os zero k).reads) at ∙ reads-in ns hs os i h are.count (omega (arith, lt, length-kept ns hs os are.count))

-- and behind that what it writes
pub writes-kept : (ns : List ℕ) (hs : List Head) (os : List ℕ) (i : ℕ) (h : Head) → AreHeads ns hs os → i < length (entries_of ns hs os) → h ≡ slice_index_or hs i h → slice_range os (h.start + h.reads) (h.start + h.reads + h.writes) ≡ writes_of (entries_of ns hs os) i
writes-kept ns hs os i h are lt at = ap (λ (k : Head). (entry_of os zero k).writes) at ∙ writes-in ns hs os i h are.count (omega (arith, lt, length-kept ns hs os are.count))

pub identity-kept : (ns : List ℕ) (hs : List Head) (os : List ℕ) (i : ℕ) (h : Head) → AreHeads ns hs os → i < length (entries_of ns hs os) → h ≡ slice_index_or hs i h → h.identity ≡ identity_of (entries_of ns hs os) i
identity-kept ns hs os i h are lt at = ap (λ (k : Head). k.identity) at ∙ identity-in ns hs os i h are.count (omega (arith, lt, length-kept ns hs os are.count))

-- a head at a place has its objects
pub head-kept : (ns : List ℕ) (hs : List Head) (os : List ℕ) (i : ℕ) (h : Head) → AreHeads ns hs os → i < length (entries_of ns hs os) → h ≡ slice_index_or hs i h → IsHead os h
head-kept ns hs os i h are lt at = subst (λ (k : Head). IsHead os k) (sym at) (are.each i h (omega (arith, lt, are.count, length-kept ns hs os are.count)))

-- what stands before the end is as it was when more comes
range-stays : (xs ys : List ℕ) (a b : ℕ) → a ≤ b → b ≤ length xs → slice_range (xs ++ ys) a b ≡ slice_range xs a b
range-stays xs ys a b le lt = ap (take (b - a)) (drop-append-le a xs ys (omega (arith, le, lt))) ∙ take-append-le (b - a) (drop a xs) ys (omega (arith, le, lt, length-drop a xs))

entry-stays : (os more : List ℕ) (n : ℕ) (h : Head) → IsHead os h → entry_of (os ++ more) n h ≡ entry_of os n h
entry-stays os more n h is =
    let r = range-stays os more h.start (h.start + h.reads) (omega arith) (omega (arith, is.there)) in
    let w = range-stays os more (h.start + h.reads) (h.start + h.reads + h.writes) (omega arith) (omega (arith, is.there)) in
    λ i. record { lsn = n; reads = r i; writes = w i; identity = h.identity }

kept-stays : (ns : List ℕ) (hs : List Head) (os more : List ℕ) → ((i : ℕ) (d : Head) → i < length hs → IsHead os (slice_index_or hs i d)) → entries_of ns hs (os ++ more) ≡ entries_of ns hs os
kept-stays [] hs os more each = refl
kept-stays (n ∷ ns) [] os more each = refl
kept-stays (n ∷ ns) (h ∷ hs) os more each = ap (λ (e : Entry). e ∷ entries_of ns hs (os ++ more)) (entry-stays os more n h (each zero h (omega arith))) ∙ ap (λ (es : List Entry). entry_of os n h ∷ es) (kept-stays ns hs os more (λ i d lt. each (suc i) d (omega (arith, lt))))

kept-push : (ns : List ℕ) (hs : List Head) (os : List ℕ) (n : ℕ) (h : Head) → length hs ≡ length ns → entries_of (ns ++ n ∷ []) (hs ++ h ∷ []) os ≡ entries_of ns hs os ++ entry_of os n h ∷ []
kept-push [] [] os n h e = refl
kept-push [] (f ∷ hs) os n h e = absurd (omega (arith, e))
kept-push (m ∷ ns) [] os n h e = absurd (omega (arith, e))
kept-push (m ∷ ns) (f ∷ hs) os n h e = ap (λ (es : List Entry). entry_of os m f ∷ es) (kept-push ns hs os n h (omega (arith, e)))

range-mid : (xs ys zs : List ℕ) (a b : ℕ) → a ≡ length xs → b ≡ a + length ys → slice_range ((xs ++ ys) ++ zs) a b ≡ ys
range-mid xs ys zs a b start end =
    range-stays (xs ++ ys) zs a b (omega (arith, end)) (omega (arith, start, end, length-append xs ys)) ∙ ap (take (b - a)) (drop_at xs ys a (sym start)) ∙ take_all (b - a) ys (omega (arith, end))

range-end : (xs zs : List ℕ) (a b : ℕ) → a ≡ length xs → b ≡ a + length zs → slice_range (xs ++ zs) a b ≡ zs
range-end xs zs a b start end = ap (take (b - a)) (drop_at xs zs a (sym start)) ∙ take_all (b - a) zs (omega (arith, end))

module _ (ns : List ℕ) (hs : List Head) (os rs ws : List ℕ) (h : Head) (start : h.start ≡ length os) (reads : h.reads ≡ length rs) (writes : h.writes ≡ length ws) (are : AreHeads ns hs os) where
  -- one entry more, whose objects come last
  pub one-more : (n : ℕ) → entries_of (ns ++ n ∷ []) (hs ++ h ∷ []) ((os ++ rs) ++ ws) ≡ entries_of ns hs os ++ record { lsn = n; reads = rs; writes = ws; identity = h.identity } ∷ []
  one-more n =
      let r = range-mid os rs ws h.start (h.start + h.reads) start (ap (λ (k : ℕ). h.start + k) reads) in
      let w = range-end (os ++ rs) ws (h.start + h.reads) (h.start + h.reads + h.writes) (omega (arith, start, reads, length-append os rs)) (ap (λ (k : ℕ). h.start + h.reads + k) writes) in
      let e : entry_of ((os ++ rs) ++ ws) n h ≡ record { lsn = n; reads = rs; writes = ws; identity = h.identity } = λ i. record { lsn = n; reads = r i; writes = w i; identity = h.identity } in
      let old : entries_of ns hs ((os ++ rs) ++ ws) ≡ entries_of ns hs os = ap (entries_of ns hs) (append_assoc os rs ws) ∙ kept-stays ns hs os (rs ++ ws) are.each in
      kept-push ns hs ((os ++ rs) ++ ws) n h are.count ∙ ap (λ (f : Entry). entries_of ns hs ((os ++ rs) ++ ws) ++ f ∷ []) e ∙ ap (λ (es : List Entry). es ++ record { lsn = n; reads = rs; writes = ws; identity = h.identity } ∷ []) old

  pub heads-more : (n : ℕ) → length rs ≤ 4 → length ws ≤ 4 → AreHeads (ns ++ n ∷ []) (hs ++ h ∷ []) ((os ++ rs) ++ ws)
  heads-more n few_r few_w =
      let size : length ((os ++ rs) ++ ws) ≡ length os + length rs + length ws = length-append (os ++ rs) ws ∙ ap (λ (k : ℕ). k + length ws) (length-append os rs) in
      record {
        count = omega (arith, length_push ns n, length_push hs h, are.count);
        each = λ i d lt. elim (cases_lt i (length hs)) [
          | inl low ↦
              let was = are.each i d low in
              let same : slice_index_or (hs ++ h ∷ []) i d ≡ slice_index_or hs i d = get_or_append_left hs (h ∷ []) d i low in
              subst (λ (k : Head). IsHead ((os ++ rs) ++ ws) k) (sym same) record { there = omega (arith, was.there, size); few_reads = was.few_reads; few_writes = was.few_writes }
          | inr high ↦ subst (λ (k : Head). IsHead ((os ++ rs) ++ ws) k) (sym (get_or_push hs h d i (omega (arith, high, lt, length_push hs h)))) record { there = omega (arith, size, start, reads, writes); few_reads = omega (arith, reads, few_r); few_writes = omega (arith, writes, few_w) }
        ];
        few = omega (arith, size, are.few, few_r, few_w, length_push ns n);
      }

pub kept-lowered : (n : ℕ) (ns : List ℕ) (hs : List Head) (os : List ℕ) → entries_of (map (λ k. min k n) ns) hs os ≡ map (lowered n) (entries_of ns hs os)
kept-lowered n [] hs os = refl
kept-lowered n (m ∷ ns) [] os = refl
kept-lowered n (m ∷ ns) (h ∷ hs) os = ap (λ (es : List Entry). lowered n (entry_of os m h) ∷ es) (kept-lowered n ns hs os)

pub heads-lowered : (ns low : List ℕ) (hs : List Head) (os : List ℕ) → length low ≡ length ns → AreHeads ns hs os → AreHeads low hs os
heads-lowered ns low hs os same are = record { count = omega (arith, are.count, same); each = are.each; few = omega (arith, are.few, same) }

-- an entry whose parts are those at a place is the one there
pub same-entry : (es : List Entry) (i : ℕ) (e : Entry) → i < length es → e.lsn ≡ slice_index (lsns es) i → e.reads ≡ reads_of es i → e.writes ≡ writes_of es i → e.identity ≡ identity_of es i → e ≡ slice_index_or es i e
same-entry [] i e lt l r w d = absurd (omega (arith, lt))
same-entry (f ∷ es) zero e lt l r w d = λ k. record { lsn = l k; reads = r k; writes = w k; identity = d k }
same-entry (f ∷ es) (suc i) e lt l r w d = same-entry es i e (omega (arith, lt)) l r w d

pub length-range : (os : List ℕ) (a n : ℕ) → length (slice_range os a (a + n)) ≤ n
length-range os a n = omega (arith, length-take (a + n - a) (drop a os))
