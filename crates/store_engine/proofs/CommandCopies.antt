-- Commands and forces leave what was copied of the slots.
use Rattle.std.proofs.Common.{◌≡◌, ◌∙◌, ap, sym, subst, refl, inl, inr, ℕ, List, [], ◌∷◌, ◌++◌, length, arith, Option, Some, None}
use Rattle.std.specs.Prelude.{⊤, IsTrue}
use Rattle.std.specs.List.{AllByRecursion}
use Rattle.std.proofs.lemmas.Bool.{cases_lt}
use Rattle.std.proofs.lemmas.List.{take-append-le, take_all}
use Rattle.oper_core.specs.Cell.{Cell}
use Rattle.oper_core.specs.Meaning.{Meaning}
use Rattle.explain_core.specs.Backup.{IsCopied}
use Rattle.explain_core.specs.GraphLaws.{with_lsn-past, with_lsn-take}
use Rattle.explain_core.specs.History.{Member, accesses_of, with_lsn, writes_some}
use Rattle.explain_core.specs.History.Member.{Identity}
use Rattle.explain_core.specs.World.{World, Step, step, run}
use Rattle.explain_core.specs.World.Step.{Append, Block_gate}
use Rattle.store_engine.specs.Grouping.{ungrouped}

-- a member is appended, or the log is forced
abbrev pub IsOfCommands : {O : Type 0} → Step O → Type 0
IsOfCommands (Append member) = ⊤
IsOfCommands Block_gate = ⊤
IsOfCommands s = ⊥

-- a member keeps its LSN in a longer history, and writes what it wrote
with_lsn_behind : {O : Type 0} (h more : List (Member O)) (n : ℕ) (member : Member O) → with_lsn h n ≡ Some member → with_lsn (h ++ more) n ≡ Some member
with_lsn_behind {O} h more n member is = elim (cases_lt (length h) n) [
  | inl past ↦ let none = with_lsn-past h n past in cc
  | inr low ↦ sym (with_lsn-take (h ++ more) (length h) n low)
      ∙ ap (λ (l : List (Member O)). with_lsn l n) (take-append-le (length h) h more (omega arith) ∙ take_all (length h) h (omega arith)) ∙ is
]

writes_behind : {O : Type 0} (m : Meaning O) (h more : List (Member O)) (n x : ℕ) → IsTrue ((accesses_of m h).writes n x) → IsTrue ((accesses_of m (h ++ more)).writes n x)
writes_behind {O} m h more n x writes = by_member (with_lsn h n) refl writes
  where
    by_member : (o : Option (Member O)) → with_lsn h n ≡ o → IsTrue (writes_some m o x) → IsTrue (writes_some m (with_lsn (h ++ more) n) x)
    by_member None same some = cc some
    by_member (Some member) same some = subst (λ (o : Option (Member O)). IsTrue (writes_some m o x)) (sym (with_lsn_behind h more n member same)) some

module _ {O : Type 0} (m : Meaning O) (copied : ℕ) (cells : ℕ → Cell) where
  copied_step : (w : World O) (s : Step O) → IsOfCommands s → IsCopied m (ungrouped w) copied cells → IsCopied m (ungrouped (step m w s)) copied cells
  unfolding step
  copied_step w (Append member) is c =
      let h = w.history in
      let more = member ∷ [] in
      record {
        origin = λ x low. elim (c.origin x low) [
          | inl none ↦ inl none
          | inr some ↦ inr (some.0, writes_behind m h more (cells x).lsn x some.1)
        ];
        since = λ x low. elim (c.since x low) [
          | inl same ↦ inl same
          | inr set ↦ inr (set.0, set.1, (set.2.0, with_lsn_behind h more (w.slots x).lsn (Identity x set.2.0) set.2.1))
        ];
      }
  copied_step w Block_gate is c = record { origin = c.origin; since = c.since }
  copied_step w s is c = absurd is

  pub copied_run : (w : World O) (steps : List (Step O)) → AllByRecursion IsOfCommands steps → IsCopied m (ungrouped w) copied cells → IsCopied m (ungrouped (run m w steps)) copied cells
  unfolding run
  copied_run w [] are c = c
  copied_run w (s ∷ steps) are c = copied_run (step m w s) steps are.1 (copied_step w s are.0 c)
