-- The LSNs of a list, and those of the entries.
use Rattle.std.proofs.Common.{◌≡◌, ◌∙◌, ap, sym, ℕ, zero, suc, ◌<◌, Bool, List, [], ◌∷◌, ◌++◌, length, get_or, refl, arith, inl, inr}
use Rattle.std.specs.Prelude.{IsTrue, ◌&&◌, ◌==◌, ◌↔◌, slice_index}
use Rattle.std.specs.List.{list_any, filter}
use Rattle.std.proofs.lemmas.Bool.{cases_Bool, both_ways, or_left, or_right, or_cases, and_parts, and_from, eqb-true, eq-eqb}
use Rattle.std.proofs.lemmas.List.{map-append}
use Rattle.std.proofs.lemmas.Cmp.{nat_eq_equiv}
use Rattle.std.proofs.lemmas.Map.Made.{is_member-filter}
use Rattle.oper_core.specs.State.{is_among}
use Rattle.install_order.specs.declared.entry.Entry.{Entry}
use Rattle.install_order.specs.Order.{Edge, Reaches}
use Rattle.install_order.specs.Order.Edge.{Read_write, Write_write, Lost_version}
use Rattle.install_order.specs.Order.Reaches.{Here, Then}
use Rattle.install_order.specs.Entries.{accesses}
use Rattle.write_graph.specs.Graph.{lsns}

-- a number of a list stands at some place
pub among-at : (x : ℕ) (xs : List ℕ) → IsTrue (is_among x xs) → (k : ℕ) × (k < length xs) × (slice_index xs k ≡ x)
among-at x [] e = absurd (both_ways _ refl e)
among-at x (y ∷ ys) e = elim (or_cases (x == y) (is_among x ys) e) [
  | inl q ↦ (zero, omega arith, sym (eqb-true x y q))
  | inr r ↦ let s = among-at x ys r in (suc s.0, omega (arith, s.1), s.2)
]

-- what stands at a place is in the list
pub at-among : (xs : List ℕ) (k : ℕ) → k < length xs → IsTrue (is_among (slice_index xs k) xs)
at-among [] k lt = absurd (omega arith)
at-among (y ∷ ys) zero lt = or_left (y == y) (is_among y ys) (eq-eqb y y refl)
at-among (y ∷ ys) (suc k) lt = or_right (slice_index ys k == y) (is_among (slice_index ys k) ys) (at-among ys k (omega arith))

-- the LSN at a place is that of the entry there
pub lsn-at : (entries : List Entry) (i : ℕ) (d : Entry) → i < length entries → slice_index (lsns entries) i ≡ (get_or entries i d).lsn
lsn-at [] i d lt = absurd (omega arith)
lsn-at (e ∷ entries) zero d lt = refl
lsn-at (e ∷ entries) (suc i) d lt = lsn-at entries i d (omega arith)

pub length-lsns : (entries : List Entry) → length (lsns entries) ≡ length entries
length-lsns [] = refl
length-lsns (e ∷ entries) = ap suc (length-lsns entries)

-- the LSN of an entry that passes a test is a number of the entries
pub held-any : (t : Entry → Bool) (entries : List Entry) (n : ℕ) → IsTrue (list_any (λ e. (e.lsn == n) && t e) entries) → IsTrue (is_among n (lsns entries))
held-any t [] n e = absurd (both_ways _ refl e)
held-any t (f ∷ entries) n e = elim (or_cases ((f.lsn == n) && t f) _ e) [
  | inl here ↦ or_left (n == f.lsn) _ (eq-eqb n f.lsn (sym (eqb-true f.lsn n (and_parts (f.lsn == n) (t f) here).0)))
  | inr more ↦ or_right (n == f.lsn) _ (held-any t entries n more)
]

pub held-write : (entries : List Entry) (n x : ℕ) → IsTrue ((accesses entries).writes n x) → IsTrue (is_among n (lsns entries))
held-write entries n x w = held-any (λ e. is_among x e.writes) entries n w

pub held-read : (entries : List Entry) (n x : ℕ) → IsTrue ((accesses entries).reads n x) → IsTrue (is_among n (lsns entries))
held-read entries n x r = held-any (λ e. is_among x e.reads) entries n r

-- both ends of an edge are LSNs of entries
pub edge-held : (entries : List Entry) (o p : ℕ) → Edge (accesses entries) o p → IsTrue (is_among o (lsns entries)) × IsTrue (is_among p (lsns entries))
edge-held entries o p (Read_write x lt r w) = (held-read entries o x r, held-write entries p x w)
edge-held entries o p (Write_write x lt v w) = (held-write entries o x v, held-write entries p x w)
edge-held entries o p (Lost_version x later lt w none r le wl) = (held-read entries o x r, held-write entries p x w)

-- what a walk comes to is the LSN of an entry, where it begins at one
pub reached-held : (entries : List Entry) (o p : ℕ) → Reaches (accesses entries) o p → IsTrue (is_among o (lsns entries)) → IsTrue (is_among p (lsns entries))
reached-held entries o p Here held = held
reached-held entries o p (Then m q walk edge) held = (edge-held entries m q edge).1

-- what a filter keeps
pub among-filter : (t : ℕ → Bool) (xs : List ℕ) (k : ℕ) → IsTrue (is_among k (filter t xs)) ↔ (IsTrue (is_among k xs) × IsTrue (t k))
among-filter t xs k =
    let e : is_among k (filter t xs) ≡ (is_among k xs && t k) = is_member-filter nat_eq_equiv t k (λ j same. ap t (eqb-true k j same)) xs in (
      (λ there. let u = and_parts (is_among k xs) (t k) (sym e ∙ there) in (u.0, u.1)),
      (λ u. e ∙ and_from (is_among k xs) (t k) u.0 u.1),
    )

-- the LSNs, with one entry more
pub lsns-push : (entries : List Entry) (e : Entry) → lsns (entries ++ e ∷ []) ≡ lsns entries ++ e.lsn ∷ []
lsns-push entries e = map-append (λ (f : Entry). f.lsn) entries (e ∷ [])

-- the LSNs of the entries that a test on LSNs keeps
pub lsns-filter : (t : ℕ → Bool) (entries : List Entry) → lsns (filter (λ e. t e.lsn) entries) ≡ filter t (lsns entries)
lsns-filter t [] = refl
lsns-filter t (e ∷ entries) = elim (cases_Bool (t e.lsn)) [
  | inl out ↦ rw out (ap (λ (ns : List ℕ). e.lsn ∷ ns) (lsns-filter t entries))
  | inr off ↦ rw off (lsns-filter t entries)
]
