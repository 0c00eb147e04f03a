-- What the entries of slots read and write, where one entry more comes last.
use Rattle.std.proofs.Common.{◌≡◌, ℕ, zero, suc, ◌<◌, ◌≤◌, List, [], ◌∷◌, ◌++◌, length, get_or, refl, arith}
use Rattle.install_order.specs.declared.entry.Entry.{Entry}
use Rattle.write_graph.specs.Cells.{reads_of, writes_of}

pub writes-at : (entries : List Entry) (i : ℕ) (d : Entry) → i < length entries → (get_or entries i d).writes ≡ writes_of entries i
writes-at [] i d lt = absurd (omega (arith, lt))
writes-at (f ∷ entries) zero d lt = refl
writes-at (f ∷ entries) (suc i) d lt = writes-at entries i d (omega (arith, lt))

pub writes-left : (entries : List Entry) (e : Entry) (i : ℕ) → i < length entries → writes_of (entries ++ e ∷ []) i ≡ writes_of entries i
writes-left [] e i lt = absurd (omega (arith, lt))
writes-left (f ∷ entries) e zero lt = refl
writes-left (f ∷ entries) e (suc i) lt = writes-left entries e i (omega (arith, lt))

pub writes-last : (entries : List Entry) (e : Entry) → writes_of (entries ++ e ∷ []) (length entries) ≡ e.writes
writes-last [] e = refl
writes-last (f ∷ entries) e = writes-last entries e

pub writes-past : (entries : List Entry) (i : ℕ) → length entries ≤ i → writes_of entries i ≡ []
writes-past [] i le = refl
writes-past (f ∷ entries) zero le = absurd (omega (arith, le))
writes-past (f ∷ entries) (suc i) le = writes-past entries i (omega (arith, le))

pub reads-left : (entries : List Entry) (e : Entry) (i : ℕ) → i < length entries → reads_of (entries ++ e ∷ []) i ≡ reads_of entries i
reads-left [] e i lt = absurd (omega (arith, lt))
reads-left (f ∷ entries) e zero lt = refl
reads-left (f ∷ entries) e (suc i) lt = reads-left entries e i (omega (arith, lt))

pub reads-last : (entries : List Entry) (e : Entry) → reads_of (entries ++ e ∷ []) (length entries) ≡ e.reads
reads-last [] e = refl
reads-last (f ∷ entries) e = reads-last entries e

pub reads-past : (entries : List Entry) (i : ℕ) → length entries ≤ i → reads_of entries i ≡ []
reads-past [] i le = refl
reads-past (f ∷ entries) zero le = absurd (omega (arith, le))
reads-past (f ∷ entries) (suc i) le = reads-past entries i (omega (arith, le))
