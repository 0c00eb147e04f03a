-- Calls on the store of a session, or within the transaction that is open on it.
use Rattle.std.specs.Prelude.{◌≡◌, ℕ, Option, None, Some}
use Rattle.op_codec.specs.AllOps.{AllOps}
use Rattle.transactions.specs.declared.transaction.Transaction.{Transaction}
use Rattle.write_queue.specs.declared.queue_mem.QueueMem.{QueueMem}
use Rattle.embed.specs.declared.store.Store.{Store}
use Rattle.embed_c.specs.Calls.{IsUntaken}
use Rattle.embed_c.specs.declared.answer.Answer.{Answer}
use Rattle.embed_c.specs.declared.session.Session.{Session}

-- what is said of a call on a store, and of one within a transaction, that came to this
abbrev pub OnStore : Type 0 → Type 1
OnStore R = Store QueueMem → Store QueueMem → R → Type 0

abbrev pub InTransaction : Type 0 → Type 1
InTransaction R = Store QueueMem → Store QueueMem → Transaction AllOps → Transaction AllOps → R → Type 0

-- A call came to this; where a transaction is open, within it, and that is open still.
abbrev pub OnStaging : {R : Type 0} → OnStore R → InTransaction R → Store QueueMem → Store QueueMem → Option (Transaction AllOps) → Option (Transaction AllOps) → R → Type 0
OnStaging does within old new None staging made = does old new made × (staging ≡ None)
OnStaging does within old new (Some t) staging made = (u : Transaction AllOps) × (staging ≡ Some u) × within old new t u made

module _ {R : Type 0} (does : OnStore R) (within : InTransaction R) (old new : Session) where
  -- A session made such a call. No call is taken from the machine, and all else that is kept for C is as it was.
  pub record IsMade (made : R) : Type 0 where
    pub store : OnStaging does within old.store new.store old.staging new.staging made
    pub untaken : IsUntaken old.store.machine new.store.machine
    pub taken : new.taken ≡ old.taken
    pub pairs : new.pairs ≡ old.pairs
    pub snapshot : new.snapshot ≡ old.snapshot

  -- And what it came to is what C is told, and is given.
  pub record IsTold (told : R → Answer) (gives : R → Type 0) (answer : ℕ) : Type 0 where
    pub made : R
    pub is : IsMade made
    pub given : gives made
    pub number : answer ≡ (told made).number
    pub detail : new.detail ≡ (told made).detail

-- the same of two sessions and an answer, as a clause says it
abbrev pub Tells : {R : Type 0} → OnStore R → InTransaction R → (R → Answer) → (R → Type 0) → Session → Session → ℕ → Type 0
Tells does within told gives old new answer = IsTold does within old new told gives answer
