-- The entries that are held under the LSNs of their slots.
use Rattle.std.proofs.Common.{◌≡◌, ◌∙◌, ap, sym, subst, ℕ, zero, suc, ◌<◌, ◌≤◌, Bool, true, false, cond, not, List, [], ◌∷◌, ◌++◌, length, get_or, refl, arith, inl, inr}
use Rattle.std.specs.Prelude.{IsTrue, IsFalse, ◌==◌, ◌&&◌, ◌||◌, slice_index}
use Rattle.std.specs.List.{list_any, filter}
use Rattle.std.proofs.lemmas.Bool.{cases_Bool, cases_eq, cases_lt, both_ways, or_left, or_right, or_cases, and_parts, eqb-true, eq-eqb, cond-true, cond-false, false_from_ne_true}
use Rattle.oper_core.specs.State.{is_among}
use Rattle.install_order.specs.declared.entry.Entry.{Entry}
use Rattle.install_order.specs.Entries.{accesses}
use Rattle.install_order.specs.Renamed.{IsRenamed}
use Rattle.graph_nodes.specs.Arcs.{held_at}
use Rattle.write_graph.specs.Graph.{lsns}
use Rattle.write_graph.specs.Cells.{identity_of, reads_of, writes_of, slot_access, chosen_entries, held_entries}
use Rattle.write_graph.proofs.Held.{held-read, held-write, length-lsns}
use Rattle.write_graph.proofs.Place.{read-left, read-past}

-- LSNs after a slot that passes are greater than its own
abbrev pub Rises : (ℕ → Bool) → List ℕ → Type 0
Rises t xs = (i j : ℕ) → IsTrue (t i) → i < j → j < length xs → slice_index xs i < slice_index xs j

pub tail-rises : (t : ℕ → Bool) (x : ℕ) (xs : List ℕ) → Rises t (x ∷ xs) → Rises (λ i. t (suc i)) xs
tail-rises t x xs rises i j there lt below = rises (suc i) (suc j) there (omega (arith, lt)) (omega (arith, below))

pub chosen-here : (t : ℕ → Bool) (e : Entry) (entries : List Entry) → IsTrue (t zero) → chosen_entries t (e ∷ entries) ≡ e ∷ chosen_entries (λ i. t (suc i)) entries
chosen-here t e entries yes_0 = cond-true (t zero) (e ∷ chosen_entries (λ i. t (suc i)) entries) (chosen_entries (λ i. t (suc i)) entries) yes_0

pub chosen-off : (t : ℕ → Bool) (e : Entry) (entries : List Entry) → IsFalse (t zero) → chosen_entries t (e ∷ entries) ≡ chosen_entries (λ i. t (suc i)) entries
chosen-off t e entries off = cond-false (t zero) (e ∷ chosen_entries (λ i. t (suc i)) entries) (chosen_entries (λ i. t (suc i)) entries) off

-- the LSN of a chosen entry is that of its slot
pub chosen-slot : (t : ℕ → Bool) (entries : List Entry) (n : ℕ) → IsTrue (is_among n (lsns (chosen_entries t entries))) → (i : ℕ) × (i < length entries) × IsTrue (t i) × (slice_index (lsns entries) i ≡ n)
chosen-slot t [] n there = absurd (both_ways _ refl there)
chosen-slot t (e ∷ entries) n there = elim (cases_Bool (t zero)) [
  | inl yes_0 ↦ elim (or_cases (n == e.lsn) (is_among n (lsns (chosen_entries (λ i. t (suc i)) entries))) (subst (λ (es : List Entry). IsTrue (is_among n (lsns es))) (chosen-here t e entries yes_0) there)) [
    | inl q ↦ (zero, omega arith, yes_0, sym (eqb-true n e.lsn q))
    | inr more ↦ let r = chosen-slot (λ i. t (suc i)) entries n more in (suc r.0, omega (arith, r.1), r.2, r.3)
  ]
  | inr off ↦
      let r = chosen-slot (λ i. t (suc i)) entries n (subst (λ (es : List Entry). IsTrue (is_among n (lsns es))) (chosen-off t e entries off) there) in
      (suc r.0, omega (arith, r.1), r.2, r.3)
]

pub slot-chosen : (t : ℕ → Bool) (entries : List Entry) (i : ℕ) → i < length entries → IsTrue (t i) → IsTrue (is_among (slice_index (lsns entries) i) (lsns (chosen_entries t entries)))
slot-chosen t [] i lt yes_i = absurd (omega (arith, lt))
slot-chosen t (e ∷ entries) zero lt yes_i = subst (λ (es : List Entry). IsTrue (is_among e.lsn (lsns es))) (sym (chosen-here t e entries yes_i)) (or_left (e.lsn == e.lsn) _ (eq-eqb e.lsn e.lsn refl))
slot-chosen t (e ∷ entries) (suc i) lt yes_i =
    let n = slice_index (lsns entries) i in
    let r = slot-chosen (λ i. t (suc i)) entries i (omega (arith, lt)) yes_i in
    elim (cases_Bool (t zero)) [
      | inl yes_0 ↦ subst (λ (es : List Entry). IsTrue (is_among n (lsns es))) (sym (chosen-here t e entries yes_0)) (or_right (n == e.lsn) _ r)
      | inr off ↦ subst (λ (es : List Entry). IsTrue (is_among n (lsns es))) (sym (chosen-off t e entries off)) r
    ]

-- a test on the entry of an LSN, by its slot
abbrev any_at : (Entry → Bool) → List Entry → ℕ → Bool
any_at p entries n = list_any (λ e. (e.lsn == n) && p e) entries

abbrev pub test_of : (Entry → Bool) → List Entry → ℕ → Bool
test_of p [] i = false
test_of p (e ∷ entries) zero = p e
test_of p (e ∷ entries) (suc i) = test_of p entries i

pub test-at : (p : Entry → Bool) (entries : List Entry) (i : ℕ) (d : Entry) → i < length entries → test_of p entries i ≡ p (get_or entries i d)
test-at p [] i d lt = absurd (omega (arith, lt))
test-at p (e ∷ entries) zero d lt = refl
test-at p (e ∷ entries) (suc i) d lt = test-at p entries i d (omega (arith, lt))

any-none : (p : Entry → Bool) (t : ℕ → Bool) (entries : List Entry) (n : ℕ) → ((j : ℕ) → j < length entries → n < slice_index (lsns entries) j) → IsFalse (any_at p (chosen_entries t entries) n)
any-none p t [] n above = refl
any-none p t (e ∷ entries) n above =
    let rest = any-none p (λ i. t (suc i)) entries n (λ j lt. above (suc j) (omega (arith, lt))) in
    let off : IsFalse (e.lsn == n) = false_from_ne_true _ (λ q. omega (arith, above zero (omega arith), eqb-true e.lsn n q)) in
    elim (cases_Bool (t zero)) [
      | inl yes_0 ↦ ap (λ (es : List Entry). any_at p es n) (chosen-here t e entries yes_0) ∙ ap (λ (b : Bool). (b && p e) || any_at p (chosen_entries (λ i. t (suc i)) entries) n) off ∙ rest
      | inr none ↦ ap (λ (es : List Entry). any_at p es n) (chosen-off t e entries none) ∙ rest
    ]

or-false : (b : Bool) → (b || false) ≡ b
or-false true = refl
or-false false = refl

pub any-slot : (p : Entry → Bool) (t : ℕ → Bool) (entries : List Entry) (i : ℕ) → Rises t (lsns entries) → i < length entries → IsTrue (t i) → any_at p (chosen_entries t entries) (slice_index (lsns entries) i) ≡ (t i && test_of p entries i)
any-slot p t [] i rises lt there = absurd (omega (arith, lt))
any-slot p t (e ∷ entries) zero rises lt there =
    let n = e.lsn in
    let rest = any-none p (λ i. t (suc i)) entries n (λ j below. rises zero (suc j) there (omega arith) (omega (arith, below, length-lsns entries))) in
    ap (λ (es : List Entry). any_at p es n) (chosen-here t e entries there)
    ∙ ap (λ (b : Bool). (b && p e) || any_at p (chosen_entries (λ i. t (suc i)) entries) n) (eq-eqb n n refl)
    ∙ ap (λ (b : Bool). p e || b) rest ∙ or-false (p e) ∙ sym (ap (λ (b : Bool). b && p e) there)
any-slot p t (e ∷ entries) (suc i) rises lt there =
    let n = slice_index (lsns entries) i in
    let r = any-slot p (λ i. t (suc i)) entries i (tail-rises t e.lsn (lsns entries) rises) (omega (arith, lt)) there in
    elim (cases_Bool (t zero)) [
      | inl yes_0 ↦
          let low : e.lsn < n = rises zero (suc i) yes_0 (omega arith) (omega (arith, lt, length-lsns entries)) in
          let off : IsFalse (e.lsn == n) = false_from_ne_true _ (λ q. omega (arith, low, eqb-true e.lsn n q)) in
          ap (λ (es : List Entry). any_at p es n) (chosen-here t e entries yes_0) ∙ ap (λ (b : Bool). (b && p e) || any_at p (chosen_entries (λ i. t (suc i)) entries) n) off ∙ r
      | inr none ↦ ap (λ (es : List Entry). any_at p es n) (chosen-off t e entries none) ∙ r
    ]

pub identity-test : (entries : List Entry) (i : ℕ) → identity_of entries i ≡ test_of (λ e. e.identity) entries i
identity-test [] i = refl
identity-test (e ∷ entries) zero = refl
identity-test (e ∷ entries) (suc i) = identity-test entries i

reads-test : (entries : List Entry) (x i : ℕ) → test_of (λ e. is_among x e.reads) entries i ≡ is_among x (reads_of entries i)
reads-test [] x i = refl
reads-test (e ∷ entries) x zero = refl
reads-test (e ∷ entries) x (suc i) = reads-test entries x i

writes-test : (entries : List Entry) (x i : ℕ) → test_of (λ e. is_among x e.writes) entries i ≡ is_among x (writes_of entries i)
writes-test [] x i = refl
writes-test (e ∷ entries) x zero = refl
writes-test (e ∷ entries) x (suc i) = writes-test entries x i

pub held-below : (entries : List Entry) (held : List Bool) (i : ℕ) → length held ≡ length entries → IsTrue (held_at held i) → i < length entries
held-below entries held i size t = elim (cases_lt i (length entries)) [
  | inl lt ↦ lt
  | inr ge ↦ absurd (both_ways _ (read-past held i false (omega (arith, ge, size))) t)
]

-- the slots that are held stand for the LSNs of their entries
pub renamed : (entries : List Entry) (held : List Bool) → length held ≡ length entries → Rises (held_at held) (lsns entries) → IsRenamed (slot_access entries held) (accesses (held_entries held entries)) (held_at held) (length entries) (slice_index (lsns entries))
renamed entries held size rises = record {
  below = λ i t. held-below entries held i size t;
  rising = λ i j t lt u. rises i j t lt (omega (arith, held-below entries held j size u, length-lsns entries));
  reads = λ i x t. any-slot (λ e. is_among x e.reads) (held_at held) entries i rises (held-below entries held i size t) t ∙ ap (λ (b : Bool). held_at held i && b) (reads-test entries x i);
  writes = λ i x t. any-slot (λ e. is_among x e.writes) (held_at held) entries i rises (held-below entries held i size t) t ∙ ap (λ (b : Bool). held_at held i && b) (writes-test entries x i);
  reads_in = λ i x r. (and_parts (held_at held i) (is_among x (reads_of entries i)) r).0;
  writes_in = λ i x w. (and_parts (held_at held i) (is_among x (writes_of entries i)) w).0;
  reads_from = λ n x r. let s = chosen-slot (held_at held) entries n (held-read (held_entries held entries) n x r) in (s.0, s.2, s.3);
  writes_from = λ n x w. let s = chosen-slot (held_at held) entries n (held-write (held_entries held entries) n x w) in (s.0, s.2, s.3);
}

-- two slots that pass with one LSN are one
pub lsn-same : (t : ℕ → Bool) (entries : List Entry) → Rises t (lsns entries) → (i j : ℕ) → IsTrue (t i) → IsTrue (t j) → i < length entries → j < length entries → slice_index (lsns entries) i ≡ slice_index (lsns entries) j → i ≡ j
lsn-same t entries rises i j there_i there_j low_i low_j e = elim (cases_lt i j) [
  | inl lt ↦ absurd (omega (arith, rises i j there_i lt (omega (arith, low_j, length-lsns entries)), e))
  | inr ge ↦ elim (cases_eq i j) [
    | inl q ↦ q
    | inr ne ↦ absurd (omega (arith, rises j i there_j (omega (arith, ge, ne)) (omega (arith, low_i, length-lsns entries)), e))
  ]
]

-- an entry more, whose slot passes
pub chosen-push : (t : ℕ → Bool) (entries : List Entry) (e : Entry) → IsTrue (t (length entries)) → chosen_entries t (entries ++ e ∷ []) ≡ chosen_entries t entries ++ e ∷ []
chosen-push t [] e last = chosen-here t e [] last
chosen-push t (f ∷ entries) e last =
    let r = chosen-push (λ i. t (suc i)) entries e last in
    elim (cases_Bool (t zero)) [
      | inl yes_0 ↦ chosen-here t f (entries ++ e ∷ []) yes_0 ∙ ap (λ (es : List Entry). f ∷ es) r ∙ sym (ap (λ (es : List Entry). es ++ e ∷ []) (chosen-here t f entries yes_0))
      | inr off ↦ chosen-off t f (entries ++ e ∷ []) off ∙ r ∙ sym (ap (λ (es : List Entry). es ++ e ∷ []) (chosen-off t f entries off))
    ]

-- tests that agree on the slots choose the same
pub chosen-same : (s t : ℕ → Bool) (entries : List Entry) → ((i : ℕ) → i < length entries → s i ≡ t i) → chosen_entries s entries ≡ chosen_entries t entries
chosen-same s t [] agree = refl
chosen-same s t (e ∷ entries) agree =
    let r = chosen-same (λ i. s (suc i)) (λ i. t (suc i)) entries (λ i lt. agree (suc i) (omega (arith, lt))) in
    ap (λ (b : Bool). cond b (e ∷ chosen_entries (λ i. s (suc i)) entries) (chosen_entries (λ i. s (suc i)) entries)) (agree zero (omega arith))
    ∙ ap (λ (es : List Entry). cond (t zero) (e ∷ es) es) r

-- those of the chosen that pass a test on their LSNs
pub chosen-filter : (s t : ℕ → Bool) (node : ℕ → Bool) (entries : List Entry) → ((i : ℕ) → i < length entries → s i ≡ (t i && not (node (slice_index (lsns entries) i)))) →
    chosen_entries s entries ≡ filter (λ e. not (node e.lsn)) (chosen_entries t entries)
chosen-filter s t node [] agree = refl
chosen-filter s t node (e ∷ entries) agree =
    let p : Entry → Bool = λ f. not (node f.lsn) in
    let r = chosen-filter (λ i. s (suc i)) (λ i. t (suc i)) node entries (λ i lt. agree (suc i) (omega (arith, lt))) in
    let here = agree zero (omega arith) in
    elim (cases_Bool (t zero)) [
      | inr off ↦ chosen-off s e entries (here ∙ ap (λ (b : Bool). b && p e) off) ∙ r ∙ sym (ap (filter p) (chosen-off t e entries off))
      | inl yes_0 ↦
          let same : s zero ≡ p e = here ∙ ap (λ (b : Bool). b && p e) yes_0 in
          ap (λ (b : Bool). cond b (e ∷ chosen_entries (λ i. s (suc i)) entries) (chosen_entries (λ i. s (suc i)) entries)) same
          ∙ ap (λ (es : List Entry). cond (p e) (e ∷ es) es) r ∙ sym (ap (filter p) (chosen-here t e entries yes_0))
    ]

pub chosen-few : (t : ℕ → Bool) (entries : List Entry) → length (chosen_entries t entries) ≤ length entries
chosen-few t [] = omega arith
chosen-few t (e ∷ entries) =
    let r = chosen-few (λ i. t (suc i)) entries in
    elim (cases_Bool (t zero)) [
      | inl yes_0 ↦ omega (arith, ap length (chosen-here t e entries yes_0), r)
      | inr off ↦ omega (arith, ap length (chosen-off t e entries off), r)
    ]

read-last : (held : List Bool) → held_at (held ++ true ∷ []) (length held) ≡ true
read-last [] = refl
read-last (h ∷ held) = read-last held

-- one more slot, which is held
pub held-push : (held more : List Bool) (entries : List Entry) (e : Entry) → length held ≡ length entries → more ≡ held ++ true ∷ [] → held_entries more (entries ++ e ∷ []) ≡ held_entries held entries ++ e ∷ []
held-push held more entries e size is =
    let last : held_at more (length entries) ≡ true = ap (λ (hs : List Bool). held_at hs (length entries)) is ∙ ap (held_at (held ++ true ∷ [])) (sym size) ∙ read-last held in
    chosen-push (held_at more) entries e last ∙ ap (λ (es : List Entry). es ++ e ∷ []) (chosen-same (held_at more) (held_at held) entries (λ i lt.
    ap (λ (hs : List Bool). held_at hs i) is ∙ read-left held (true ∷ []) i false (omega (arith, lt, size))))
