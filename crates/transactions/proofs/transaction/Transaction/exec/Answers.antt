use Rattle.std.proofs.Common.{◌≡◌, ◌∙◌, ap, subst, sym, refl, None, List, ℕ, All, length, Ok, Err}
use Rattle.formats.specs.Objects.{bounds_of}
use Rattle.dirty_cache.specs.Contents.{HasRoom, held}
use Rattle.running_store.specs.Laid.{with_entries}
use Rattle.store_engine.specs.Engine.{params_of}
use Rattle.store_engine.specs.Store.{meaning_in}
use Rattle.transactions.specs.Admitted.{HasStaged}
use Rattle.transactions.specs.Staged.{IsStaged}
use Rattle.transactions.proofs.Reading.{reads_none, reads_so}
use Rattle.transactions.proofs.Staging.{not_staged, own, refusal_seen, staged_more, unstaged}
use Rattle.transactions.proofs.transaction.Transaction.exec.Goals as goal

pub returns-in_default-clause-reads : goal.returns-in_default-clause-reads
returns-in_default-clause-reads g c = reads_none g.O.Oper.meaning (g.M.Machine.disk c.args.machine.now) c.args.engine.now _ (g.met.M.Machine.lawful c.args.machine.now) c.requires.unbroken (λ none. absurd none)

pub returns-in_default-clause-staged : goal.returns-in_default-clause-staged
returns-in_default-clause-staged g c = λ p commands holds staged. (refl, staged)

pub returns-in-Err-make_rooms-clause-reads : goal.returns-in-Err-make_rooms-clause-reads
returns-in-Err-make_rooms-clause-reads g c = let disk = g.M.Machine.disk in reads_so g.O.Oper.meaning (disk c.args.machine.now) (disk c.admit.new.machine) c.args.engine.now c.admit.new.engine _ _ (λ failed. absurd failed) (λ none. absurd none) c.in-Ok.ensures.reads

pub returns-in-Err-make_rooms-clause-staged : goal.returns-in-Err-make_rooms-clause-staged
returns-in-Err-make_rooms-clause-staged g c = λ p commands holds staged.
    (refl, unstaged g.O.Oper.meaning p commands c.args.self.now.ops.items c.args.self.now.bytes c.args.self.now.made staged c.args.op c.make_rooms.new.made c.in-Err-make_rooms.ensures.held)

pub set_all-requires-clause-room : goal.set_all-requires-clause-room
set_all-requires-clause-room g c = subst (λ (l : List ℕ). All (HasRoom c.make_rooms.new.made) l) (c.as_slice.ensures.value ∙ sym c.as_slice-in-Ok-push_back.ensures.value) c.in_default-make_rooms.ensures.room

pub set_all-requires-clause-count : goal.set_all-requires-clause-count
set_all-requires-clause-count g c =
    c.in-Ok.ensures.count ∙ ap (λ (l : List ℕ). length l) (sym (c.writes-writes.ensures (bounds_of (params_of c.args.engine.now))) ∙ sym c.as_slice-in-Ok-push_back.ensures.value)

pub returns-in-Ok-push_back-clause-reads : goal.returns-in-Ok-push_back-clause-reads
returns-in-Ok-push_back-clause-reads g c = let disk = g.M.Machine.disk in reads_so g.O.Oper.meaning (disk c.args.machine.now) (disk c.admit.new.machine) c.args.engine.now c.admit.new.engine _ _ (λ failed. absurd failed) (λ none. absurd none) c.in-Ok.ensures.reads

pub returns-in-Ok-push_back-clause-staged : goal.returns-in-Ok-push_back-clause-staged
returns-in-Ok-push_back-clause-staged g c = λ p commands holds staged.
    own g.O.Oper.meaning (g.M.Machine.disk c.args.machine.now) c.args.engine.now commands
    (λ q. IsStaged g.O.Oper.meaning q commands c.args.self.now.ops.items c.args.self.now.bytes c.args.self.now.made → HasStaged g.O.Oper.meaning q commands c.args.self.now.ops.items c.push_back.new.self.items c.in-Some.bytes c.set_all.new.made c.args.op (Ok tt))
    (λ there was.
    let q = params_of c.args.engine.now in
    let m = meaning_in g.O.Oper.meaning q in
    let admitted = c.in-Ok.ensures.admitted commands there in
    let objects : c.as_slice-in-Ok-push_back.result.now ≡ m.writes c.args.op = c.as_slice-in-Ok-push_back.ensures.value ∙ c.writes-writes.ensures (bounds_of q) in
    let set : (x : ℕ) → held c.set_all.new.made x ≡ with_entries (held c.args.self.now.made) 0 (m.writes c.args.op) c.in-Ok.values x =
    λ x. c.set_all.ensures x ∙ (λ i. with_entries (λ y. c.in_default-make_rooms.ensures.held y i) 0 (objects i) c.in-Ok.values x) in (
      refusal_seen g.O.Oper.meaning q commands c.args.self.now.ops.items c.args.self.now.bytes c.args.self.now.made was c.args.op None admitted.0,
      c.in-Ok-push_back.ensures.items,
      subst (λ (l : List _). IsStaged g.O.Oper.meaning q commands l c.in-Some.bytes c.set_all.new.made) (sym c.in-Ok-push_back.ensures.items)
          (staged_more g.O.Oper.meaning q commands c.args.self.now.ops.items c.args.self.now.bytes c.args.self.now.made was c.args.op c.in-Ok.values admitted.0 admitted.1 c.set_all.new.made set c.in-Some.bytes (c.in-Some.ensures q)),
    ))
    p holds staged

pub returns-in-Err-push_back-clause-reads : goal.returns-in-Err-push_back-clause-reads
returns-in-Err-push_back-clause-reads g c = let disk = g.M.Machine.disk in reads_so g.O.Oper.meaning (disk c.args.machine.now) (disk c.admit.new.machine) c.args.engine.now c.admit.new.engine _ _ (λ failed. absurd failed) (λ none. absurd none) c.in-Ok.ensures.reads

pub returns-in-Err-push_back-clause-staged : goal.returns-in-Err-push_back-clause-staged
returns-in-Err-push_back-clause-staged g c = λ p commands holds staged. (
  c.in-Err-push_back.ensures.items,
  subst (λ (l : List _). IsStaged g.O.Oper.meaning p commands l c.args.self.now.bytes c.make_rooms.new.made) (sym c.in-Err-push_back.ensures.items)
      (unstaged g.O.Oper.meaning p commands c.args.self.now.ops.items c.args.self.now.bytes c.args.self.now.made staged c.args.op c.make_rooms.new.made c.in_default-make_rooms.ensures.held),
)

pub returns-in-Err-clause-reads : goal.returns-in-Err-clause-reads
returns-in-Err-clause-reads g c =
    let disk = g.M.Machine.disk in reads_so g.O.Oper.meaning (disk c.args.machine.now) (disk c.admit.new.machine) c.args.engine.now c.admit.new.engine _ _ (λ failed. failed) (λ failed. failed) c.in-Err.ensures.reads

pub returns-in-Err-clause-staged : goal.returns-in-Err-clause-staged
returns-in-Err-clause-staged g c = λ p commands holds staged.
    own g.O.Oper.meaning (g.M.Machine.disk c.args.machine.now) c.args.engine.now commands
    (λ q. IsStaged g.O.Oper.meaning q commands c.args.self.now.ops.items c.args.self.now.bytes c.args.self.now.made → HasStaged g.O.Oper.meaning q commands c.args.self.now.ops.items c.args.self.now.ops.items c.args.self.now.bytes c.args.self.now.made c.args.op (Err c.in-Err.e))
    (λ there was. not_staged g.O.Oper.meaning (params_of c.args.engine.now) commands c.args.self.now.ops.items c.args.self.now.bytes c.args.self.now.made was c.args.op c.in-Err.e (c.in-Err.ensures.admitted commands there))
    p holds staged
