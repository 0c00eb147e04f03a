-- Objects are emptied one after the other.
use Rattle.std.proofs.Common.{◌≡◌, ◌<◌, ◌∙◌, sym, ap, subst, ℕ, suc, ◌+◌, Result, Ok, List, [], ◌∷◌, drop, drop-cons, length, map, slice_index, arith}
use Rattle.std.specs.Prelude.{⊤}
use Rattle.disk_model.specs.Disk.{Disk}
use Rattle.store_calls.specs.View.{View}
use Rattle.op_codec.specs.AllOps.{page}
use Rattle.page_ops.specs.declared.page_op.PageOp.TheVariants.{Free}
use Rattle.range_calls.specs.ComesLaws.{ran}
use Rattle.range_calls.specs.Rounds.{Comes}
use Rattle.range_calls.specs.Store.{Command}
use Rattle.map_client.specs.Answers.{MapErr}

abbrev pub frees : List ℕ → List Command
frees xs = map (λ x. page (Free x)) xs

-- the next of them, and the others
pub next_freed : (xs : List ℕ) (i : ℕ) → i < length xs → frees (drop i xs) ≡ page (Free (slice_index xs i)) ∷ frees (drop (i + 1) xs)
next_freed xs i there = let next : i + 1 ≡ suc i = omega arith in ap frees (drop-cons xs i 0 there) ∙ ap (λ (k : ℕ). page (Free (slice_index xs i)) ∷ frees (drop k xs)) (sym next)

module _ {S T : Type 0} (view : View Command S) (disk : T → Disk) where
  -- what is made of the rest leads to what is made of all
  abbrev pub LeadsOn : T → T → S → S → List ℕ → List ℕ → Type 0
  LeadsOn old mid before between all rest = (new : T) (after : S) (r : Result ⊤ MapErr) → Comes view (disk mid) (disk new) between after (ran (frees rest)) r → Comes view (disk old) (disk new) before after (ran (frees all)) r

-- it ends well
abbrev pub finished : Result ⊤ MapErr
finished = Ok tt

-- a command that empties an object
pub freed_so : {S : Type 0} (view : View Command S) {old new : Disk} {before after : S} (x : ℕ) (op : Command) (r : Result ⊤ MapErr) → op ≡ page (Free x)
    → Comes view old new before after (ran (op ∷ [])) r → Comes view old new before after (ran (page (Free x) ∷ [])) r
freed_so view {old} {new} {before} {after} x op r is = subst (λ (o : Command). Comes view old new before after (ran (o ∷ [])) r) is
