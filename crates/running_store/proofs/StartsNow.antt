-- A table of the redo starts of the graph, and of the next LSN, is the checkpoint that the world would take now.
use Rattle.std.proofs.Common.{◌≡◌, ◌∙◌, sym, subst, ap, ℕ, ◌<◌, ◌≤◌, Bool, true, List, [], ◌∷◌, map, refl, arith, inl, inr}
use Rattle.std.specs.Prelude.{All, ◌==◌, ◌||◌, IsTrue}
use Rattle.std.proofs.Math.Path.{fun_ext}
use Rattle.std.proofs.lemmas.Bool.{cases_Bool, cases_lt, cond-true, cond-false, eqb-true, and_parts, both_ways}
use Rattle.std.proofs.lemmas.List.Elements.{All-head, All-tail, All-nil, All-cons}
use Rattle.oper_core.specs.Meaning.{Meaning}
use Rattle.oper_core.specs.State.{is_among}
use Rattle.dirty_page_table.specs.RedoStarts.{start_or, redo_from}
use Rattle.dirty_page_table.specs.declared.table.DirtyPageTable.{DirtyPageTable}
use Rattle.install_order.specs.Computed.{least_below}
use Rattle.install_order.specs.Entries.{accesses}
use Rattle.install_order.specs.NodeLaws.{least-is}
use Rattle.install_order.specs.Order.{Access}
use Rattle.install_order.specs.declared.entry.Entry.{Entry}
use Rattle.write_graph.specs.Graph.{Lists, IsLeast}
use Rattle.write_graph.specs.Objects.{IsWriter, IsWritten}
use Rattle.explain_core.specs.Sound.{IsSound}
use Rattle.explain_core.specs.World.{World, table_now, end_of, graph_access}
use Rattle.standing.specs.Members.{table_of}
use Rattle.running_store.specs.Courses.Buffered.{start_absent}

module _ (other : ℕ) where
  -- x has a pair, and its number is what all numbers beside x are
  start_some : (W : ℕ → ℕ → Bool) (starts : List (ℕ × ℕ)) (x : ℕ) → is_among x (map (λ s. s.0) starts) ≡ true → All (λ s. IsTrue (W s.1 s.0)) starts → IsTrue (W (start_or other starts x) x)
  start_some W [] x here all = absurd (both_ways _ refl here)
  start_some W (s ∷ starts) x here all = elim (cases_Bool (x == s.0)) [
    | inl is ↦ subst (λ (k : ℕ). IsTrue (W k x)) (sym (cond-true (x == s.0) s.1 (start_or other starts x) is)) (subst (λ (y : ℕ). IsTrue (W s.1 y)) (sym (eqb-true x s.0 is)) (All-head (λ (s : ℕ × ℕ). IsTrue (W s.1 s.0)) s starts all))
    | inr past ↦ subst (λ (k : ℕ). IsTrue (W k x)) (sym (cond-false (x == s.0) s.1 (start_or other starts x) past))
        (start_some W starts x (sym (ap (λ (b : Bool). b || is_among x (map (λ s. s.0) starts)) past) ∙ here) (All-tail (λ (s : ℕ × ℕ). IsTrue (W s.1 s.0)) s starts all))
  ]

  start_low : (W : ℕ → ℕ → Bool) (starts : List (ℕ × ℕ)) (x : ℕ) → is_among x (map (λ s. s.0) starts) ≡ true → All (λ s. (n : ℕ) → IsTrue (W n s.0) → s.1 ≤ n) starts → (n : ℕ) → IsTrue (W n x) → start_or other starts x ≤ n
  start_low W [] x here all = absurd (both_ways _ refl here)
  start_low W (s ∷ starts) x here all = elim (cases_Bool (x == s.0)) [
    | inl is ↦ λ n writer.
        let low = All-head (λ (s : ℕ × ℕ). (n : ℕ) → IsTrue (W n s.0) → s.1 ≤ n) s starts all n (subst (λ (y : ℕ). IsTrue (W n y)) (eqb-true x s.0 is) writer) in
        omega (arith, low, cond-true (x == s.0) s.1 (start_or other starts x) is)
    | inr past ↦ λ n writer.
        let low = start_low W starts x (sym (ap (λ (b : Bool). b || is_among x (map (λ s. s.0) starts)) past) ∙ here) (All-tail (λ (s : ℕ × ℕ). (n : ℕ) → IsTrue (W n s.0) → s.1 ≤ n) s starts all) n writer in
        omega (arith, low, cond-false (x == s.0) s.1 (start_or other starts x) past)
  ]

all_to : (W : ℕ → ℕ → Bool) (a : Access) → ((n x : ℕ) → a.writes n x ≡ W n x) → (starts : List (ℕ × ℕ)) → All (λ s. IsLeast (IsWriter a s.0) s.1) starts → All (λ s. IsTrue (W s.1 s.0)) starts × All (λ s. (n : ℕ) → IsTrue (W n s.0) → s.1 ≤ n) starts
all_to W a same [] all = (All-nil (λ (s : ℕ × ℕ). IsTrue (W s.1 s.0)), All-nil (λ (s : ℕ × ℕ). (n : ℕ) → IsTrue (W n s.0) → s.1 ≤ n))
all_to W a same (s ∷ starts) all =
    let h = All-head (λ (s : ℕ × ℕ). IsLeast (IsWriter a s.0) s.1) s starts all in
    let t = all_to W a same starts (All-tail (λ (s : ℕ × ℕ). IsLeast (IsWriter a s.0) s.1) s starts all) in (
      All-cons (λ (s : ℕ × ℕ). IsTrue (W s.1 s.0)) s starts (sym (same s.1 s.0) ∙ h.0) t.0,
      All-cons (λ (s : ℕ × ℕ). (n : ℕ) → IsTrue (W n s.0) → s.1 ≤ n) s starts (λ n writer. h.1 n (same n s.0 ∙ writer)) t.1,
    )

-- A table of the graph's redo starts and the next LSN is the one that the world would take now.
pub starts_now : {O : Type 0} (m : Meaning O) (w : World O) (entries : List Entry) (table : DirtyPageTable) → IsSound m w → accesses entries ≡ graph_access m w
    → Lists (IsWritten (accesses entries)) (map (λ s. s.0) table.starts) → All (λ s. IsLeast (IsWriter (accesses entries) s.0) s.1) table.starts → table.next ≡ end_of w → table_of table ≡ table_now m w
starts_now {O} m w entries table sound same lists least next = λ i. record { redo_from = fun_ext each i; next = next i }
  where
    each : (x : ℕ) → redo_from table x ≡ (table_now m w).redo_from x
    each x =
        let both = all_to (λ n y. (graph_access m w).writes n y) (accesses entries) (λ n y. ap (λ (a : Access). a.writes n y) same) table.starts least in
        let low = least-is (λ n. (graph_access m w).writes n x) (end_of w) in
        let at = least_below (end_of w) (λ n. (graph_access m w).writes n x) in
        elim (cases_Bool (is_among x (map (λ s. s.0) table.starts))) [
          | inl here ↦
              let start = start_or table.next table.starts x in
              let writer = start_some table.next (λ n y. (graph_access m w).writes n y) table.starts x here both.0 in
              let member = (and_parts (w.graph start) _ writer).0 in
              let before : start < end_of w = omega (arith, (sound.graph start member).1, sound.next.1) in
              let under : at ≤ start = low.2 start before writer in
              let over : start ≤ at = start_low table.next (λ n y. (graph_access m w).writes n y) table.starts x here both.1 at (low.1 (omega (arith, under, before))) in
              omega (arith, under, over)
          | inr none ↦
              let past : end_of w ≤ at = elim (cases_lt at (end_of w)) [
                | inl below ↦ absurd (both_ways _ none ((lists.exactly x).1 (at, ap (λ (a : Access). a.writes at x) same ∙ low.1 below)))
                | inr ge ↦ ge
              ] in
              omega (arith, start_absent table.next table.starts x none, next, past, low.0)
        ]
