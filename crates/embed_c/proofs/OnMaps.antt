-- Calls on maps of wide pages.
use Rattle.std.proofs.Common.{arith, ◌≡◌, ◌≤◌, ◌⊎◌, ◌∙◌, ◌==◌, ℕ, true, false, true≢false, List, [], ◌∷◌, Option, None, Some, Result, Ok, Err, IfErr, IsErrAnd, Vec, ap, length, nat_lt, sym, subst, refl, inl, inr}
use Rattle.std.proofs.lemmas.Bool.{ltb-false, ne_eqb}
use Rattle.std.specs.Global.{Global}
use Rattle.op_codec.specs.AllOps.{AllOps}
use Rattle.page_ops.specs.Page.{Cell}
use Rattle.map_client.specs.Answers.{MapErr}
use Rattle.map_client.specs.declared.call_refusal.CallRefusal.{CallRefusal}
use Rattle.transactions.specs.declared.transaction.Transaction.{Transaction}
use Rattle.write_queue.specs.declared.queue_mem.QueueMem.{QueueMem}
use Rattle.embed.specs.declared.store.Store.{Store}
use Rattle.embed_c.specs.Answers.{alone}
use Rattle.embed_c.specs.Calls.{DoesNothing, IsUntaken}
use Rattle.embed_c.specs.PageMaps.{IsFound, KeepsPairs, Sets, end_of, pairs_of, seen_as}
use Rattle.embed_c.specs.Ranges.{Does, RangeCall, Stages, pairs_after}
use Rattle.embed_c.specs.Within.{IsMade, OnStaging}
use Rattle.embed_c.specs.declared.session.Session.{Session}

-- the pairs that were found are kept, by what they are known as
pub kept_as : {many : ℕ} {old new : Session} {answer : ℕ} (r made : Result (Vec Cell Global) MapErr) → r ≡ made → KeepsPairs (seen_as pairs_of made) many old new answer → KeepsPairs (seen_as pairs_of r) many old new answer
kept_as {many} {old} {new} {answer} r made is done = subst (λ (s : Result (Vec Cell Global) MapErr). KeepsPairs (seen_as pairs_of s) many old new answer) (sym is) done

-- pairs were looked for, and then kept
module _ (call : RangeCall (List Cell) CallRefusal) (old mid new : Session) (made : Result (List Cell) MapErr) (many answer : ℕ) where
  pub found_so : IsMade (Does call) (Stages call) old mid made → KeepsPairs made many mid new answer → IsFound call many old new answer
  found_so is kept = record {
    made = made;
    store = subst (λ (s : Store QueueMem × Option (Transaction AllOps)). OnStaging (Does call) (Stages call) old.store s.0 old.staging s.1 made) (λ i. (sym kept.store i, sym kept.staging i)) is.store;
    count = kept.count;
    pairs = kept.pairs ∙ ap (λ pairs. pairs_after made pairs.of_map.items) is.pairs;
    others = kept.others ∙ ap (λ pairs. pairs.of_tree) is.pairs;
    number = kept.number;
    detail = kept.detail;
    untaken = subst (λ (s : Store QueueMem). IsUntaken old.store.machine s.machine) (sym kept.store) is.untaken;
    taken = kept.taken ∙ is.taken;
    snapshot = kept.snapshot ∙ is.snapshot;
  }

-- what is said of a range and a key, or an end, that were read is said of those that C gave
pub at_both : {R K : Type 0} (P : R → K → Type 0) (r s : R) (k l : K) → r ≡ s → k ≡ l → P r k → P s l
at_both {R} {K} P r s k l same keys = subst (λ (t : R × K). P t.0 t.1) (λ i. (same i, keys i))

-- no bytes are the end, and others are a key
pub ends_map : (key : List ℕ) → true ≡ (length key == 0) → None ≡ end_of key
ends_map [] none = refl
ends_map (byte ∷ key) none = absurd (true≢false (none ∙ ne_eqb (length (byte ∷ key)) 0 (λ e. omega (arith, e))))

pub ends_below : (key : List ℕ) → false ≡ (length key == 0) → Some key ≡ end_of key
ends_below [] some = absurd (true≢false (sym some))
ends_below (byte ∷ key) some = refl

-- bytes whose copy is no text are too many
pub too_long : (bytes copy : List ℕ) → copy ≡ bytes → nat_lt (length copy) 65536 ≡ false → 65536 ≤ length bytes
too_long bytes copy same many = omega (arith, ltb-false (length copy) 65536 many, ap (λ (l : List ℕ). length l) same)

-- why one of a key and a value is not copied
abbrev pub IsUncopied : List ℕ → List ℕ → ℕ → Type 0
IsUncopied key value number = ((65536 ≤ length key ⊎ 65536 ≤ length value) × (number ≡ 52)) ⊎ (number ≡ 8)

module _ (key value : List ℕ) (number : ℕ) where
  pub long_key : ((65536 ≤ length key) × (number ≡ 52)) ⊎ (number ≡ 8) → IsUncopied key value number
  long_key (inl long) = inl (inl long.0, long.1)
  long_key (inr eight) = inr eight

  pub long_value : ((65536 ≤ length value) × (number ≡ 52)) ⊎ (number ≡ 8) → IsUncopied key value number
  long_value (inl long) = inl (inr long.0, long.1)
  long_value (inr eight) = inr eight

-- the number of an error that is handed on
pub handed_on : {A : Type 0} (r : Result A ℕ) (e : ℕ) (P : ℕ → Type 0) → IsErrAnd r (λ n. n ≡ e) → P e → IfErr r P
handed_on (Ok found) e P is holds = tt
handed_on (Err number) e P is holds = subst P (sym is) holds

-- a key or a value that is not copied: C is told why, and nothing is done
module _ (low high : ℕ) (key value : List ℕ) (old new : Session) (answer number : ℕ) where
  pub not_copied : IsUncopied key value number → DoesNothing (alone number) old new answer → Sets low high key value old new answer
  not_copied (inl long) nothing = inr (inl (long.0, subst (λ (n : ℕ). DoesNothing (alone n) old new answer) long.1 nothing))
  not_copied (inr eight) nothing = inr (inr (subst (λ (n : ℕ). DoesNothing (alone n) old new answer) eight nothing))
