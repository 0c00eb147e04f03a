-- One command more is staged.
use Rattle.std.proofs.Common.{◌≡◌, ◌∙◌, sym, subst, ap, ℕ, ◌+◌, true, false, if◌then◌else◌, List, [], ◌∷◌, ◌++◌, fold, length, All, ◌≤◌, refl, Option, None, Some, Err, arith}
use Rattle.std.specs.Option.{option_map_or}
use Rattle.std.proofs.lemmas.List.{append-nil}
use Rattle.std.proofs.lemmas.List.Sums.{fold-append}
use Rattle.oper_core.specs.State.{State, is_among, start, value_for, with_values}
use Rattle.oper_core.specs.Meaning.{Accepts, FitsReads, HasBounds, Meaning, after, or_else, read_values, refusal_of}
use Rattle.oper_core.specs.declared.bounds.Bounds.{Bounds}
use Rattle.oper_core.specs.declared.refusal.Refusal.{Refusal}
use Rattle.formats.specs.declared.params.Params.{Params}
use Rattle.dirty_cache.specs.Contents.{Contents, empty, held}
use Rattle.dirty_cache.specs.declared.entry.Entry.{Entry}
use Rattle.running_store.specs.Laid.{with_entries}
use Rattle.disk_model.specs.Disk.{Disk}
use Rattle.store_engine.specs.Engine.{EngineView, Holds, params_of, records_of}
use Rattle.store_engine.specs.Lists.{IsCutOff}
use Rattle.store_engine.specs.Store.{meaning_in, record_length, refusal_after, state_of}
use Rattle.execution.specs.Answers.{ending_of_error}
use Rattle.execution.specs.declared.exec_err.ExecErr.{ExecErr}
use Rattle.execution.specs.declared.exec_err.ExecErr.TheVariants.{Refused, LogFull, LsnEnd, DiskFault, Damaged, Memory}
use Rattle.transactions.specs.Accepted.{AreAccepted}
use Rattle.transactions.specs.Admitted.{HasStaged, IsAdmitted}
use Rattle.transactions.specs.Staged.{IsStaged, overlaid}
use Rattle.transactions.proofs.Making.{state_behind}

-- a refusal from what a command says of itself and of the values
pub refused_by_shape : {O : Type 0} (m : Meaning O) (s : State) (op : O) (refusal : Refusal) → m.shape op ≡ Some refusal → refusal_of m s op ≡ Some refusal
refused_by_shape m s op refusal is = ap (λ (o : Option Refusal). or_else o (m.check op (read_values m s op))) is

pub judged : {O : Type 0} (m : Meaning O) (s : State) (op : O) (values : List (List ℕ)) (answer : Option Refusal) → m.shape op ≡ None → values ≡ read_values m s op → m.check op values ≡ answer → refusal_of m s op ≡ answer
judged m s op values answer shape are check =
    ap (λ (o : Option Refusal). or_else o (m.check op (read_values m s op))) shape ∙ ap (λ (l : List (List ℕ)). m.check op l) (sym are) ∙ check

-- the commands with one more
accepted_more : {O : Type 0} (m : Meaning O) (ops : List O) (op : O) (s : State) → AreAccepted m s ops → Accepts m (fold (after m) s ops) op → AreAccepted m s (ops ++ op ∷ [])
accepted_more m [] op s are last = (last, tt)
accepted_more m (o ∷ ops) op s are last = (are.0, accepted_more m ops op (after m s o) are.1 last)

module _ {O : Type 0} (meaning : Bounds → Meaning O) (p : Params) where
  records_more : (ops : List O) (op : O) → records_of meaning p (ops ++ op ∷ []) ≡ records_of meaning p ops + record_length meaning p op
  records_more [] op = omega arith
  records_more (o ∷ ops) op = omega (arith, records_more ops op)

-- values that are set, laid over a state
over_set : (before after : Contents) (objects : List ℕ) (values : List (List ℕ)) (s : State) → ((x : ℕ) → held after x ≡ with_entries (held before) 0 objects values x)
    → (x : ℕ) → overlaid after s x ≡ with_values (overlaid before s) objects values x
over_set before after objects values s set x =
    ap (λ (o : Option Entry). option_map_or (λ e. e.bytes) o (s x)) (set x)
    ∙ elim (is_among x objects) as (λ b. option_map_or (λ (e : Entry). e.bytes) (if b then Some (record { lsn = 0; bytes = value_for x objects values }) else held before x) (s x) ≡ (if b then value_for x objects values else overlaid before s x))
    [ true ↦ refl | false ↦ refl ]

module _ {O : Type 0} (meaning : Bounds → Meaning O) (p : Params) (commands ops : List O) (bytes : ℕ) (made : Contents) (staged : IsStaged meaning p commands ops bytes made) (op : O) where
  abbrev m : Meaning O
  m = meaning_in meaning p

  abbrev base : State
  base = state_of meaning p commands

  -- the state that is seen
  seen : overlaid made base ≡ state_of meaning p (commands ++ ops)
  seen = λ i x. staged.values x i

  pub refusal_seen : (answer : Option Refusal) → refusal_of m (overlaid made base) op ≡ answer → refusal_after meaning p (commands ++ ops) op ≡ answer
  refusal_seen answer is = ap (λ (s : State). refusal_of m s op) (sym seen) ∙ is

  state_there : state_of meaning p (commands ++ ops) ≡ fold (after m) base ops
  state_there = fold-append (after m) start commands ops

  pub staged_more : (values : List (List ℕ)) → refusal_of m (overlaid made base) op ≡ None → values ≡ m.effect op (read_values m (overlaid made base) op)
      → (now : Contents) → ((x : ℕ) → held now x ≡ with_entries (held made) 0 (m.writes op) values x) → (long : ℕ) → long ≡ bytes + record_length meaning p op
      → IsStaged meaning p commands (ops ++ op ∷ []) long now
  staged_more values none are now set long is = record {
    accepted = accepted_more m ops op base staged.accepted (ap (λ (s : State). refusal_of m s op) (sym state_there) ∙ refusal_seen None none);
    values = λ x.
        over_set made now (m.writes op) values base set x
        ∙ ap (λ (l : List (List ℕ)). with_values (overlaid made base) (m.writes op) l x) are
        ∙ ap (λ (s : State). after m s op x) seen
        ∙ ap (λ (s : State). s x) (sym (state_behind meaning p commands ops op));
    bytes_are = is ∙ ap (λ (n : ℕ). n + record_length meaning p op) staged.bytes_are ∙ sym (records_more meaning p ops op);
  }

  -- what is not staged leaves what was
  pub unstaged : (now : Contents) → ((x : ℕ) → held now x ≡ held made x) → IsStaged meaning p commands ops bytes now
  unstaged now same = record {
    accepted = staged.accepted;
    values = λ x. ap (λ (o : Option Entry). option_map_or (λ e. e.bytes) o (base x)) (same x) ∙ staged.values x;
    bytes_are = staged.bytes_are;
  }

  pub not_staged : (e : ExecErr) → IsAdmitted m (overlaid made base) op (Err e) → HasStaged meaning p commands ops ops bytes made op (Err e)
  not_staged (Refused refusal) is = (refusal_seen (Some refusal) is, refl, staged)
  not_staged (LogFull used need limit) is = absurd is
  not_staged (LsnEnd lsn) is = absurd is
  not_staged DiskFault is = (refl, staged)
  not_staged (Damaged file place) is = (refl, staged)
  not_staged Memory is = (refl, staged)

-- the values that were read fit what the command reads
pub fits_reads : {O : Type 0} (meaning : Bounds → Meaning O) (b : Bounds) → HasBounds b (meaning b) → (op : O) (objects : List ℕ) (values : List (List ℕ)) (cap : ℕ) → objects ≡ (meaning b).reads op → length values ≡ length objects
    → All (λ v. length v ≤ cap) values → cap ≡ b.cap → FitsReads (meaning b) op values
fits_reads meaning b has op objects values cap are count short same = record {
  count = count ∙ ap (λ (l : List ℕ). length l) are;
  short = subst (λ (n : ℕ). All (λ v. length v ≤ n) values) (same ∙ sym has.cap) short;
}

pub cut_off_admitted : {O : Type 0} (m : Meaning O) (s : State) (op : O) (e : ExecErr) → IsCutOff (ending_of_error e) → IsAdmitted m s op (Err e)
cut_off_admitted m s op (Refused refusal) off = absurd off
cut_off_admitted m s op (LogFull used need limit) off = absurd off
cut_off_admitted m s op (LsnEnd lsn) off = absurd off
cut_off_admitted m s op DiskFault off = tt
cut_off_admitted m s op (Damaged file place) off = tt
cut_off_admitted m s op Memory off = tt

-- the numbers are those of the engine itself
pub own : {O : Type 0} (meaning : Bounds → Meaning O) (d : Disk) (engine : EngineView) (commands : List O) (P : Params → Type 0) → (Holds meaning (params_of engine) d engine commands → P (params_of engine)) → (p : Params)
    → Holds meaning p d engine commands → P p
own meaning d engine commands P at p holds =
    let same : params_of engine ≡ p = holds.shows.shows.store.params in subst P same (at (subst (λ (q : Params). Holds meaning q d engine commands) (sym same) holds))

-- none is staged
pub none_staged : {O : Type 0} (meaning : Bounds → Meaning O) (p : Params) (commands ops : List O) (made : Contents) → ops ≡ [] → made ≡ empty 1 → IsStaged meaning p commands ops 0 made
none_staged {O} meaning p commands ops made none is =
    subst (λ (l : List O). IsStaged meaning p commands l 0 made) (sym none)
    (subst (λ (c : Contents). IsStaged meaning p commands [] 0 c) (sym is)
    (record { accepted = tt; values = λ x. ap (λ (l : List O). state_of meaning p l x) (sym (append-nil commands)); bytes_are = refl }))
