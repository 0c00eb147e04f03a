use Rattle.std.proofs.Common.{◌≡◌, ◌∙◌, ◌<◌, ◌++◌, ap, sym, subst, length, List, [], ◌∷◌, ℕ, true, refl}
use Rattle.std.proofs.lemmas.List.Elements.{All-cons, All-nil}
use Rattle.oper_core.specs.State.{is_among}
use Rattle.formats.specs.Objects.{bounds_of}
use Rattle.formats.specs.declared.params.Params.{Params}
use Rattle.install_order.specs.declared.entry.Entry.{Entry}
use Rattle.explain_core.specs.History.Member.{Identity}
use Rattle.running_store.specs.Laid.Fetched.{fetched-same}
use Rattle.running_store.specs.Parts.{entry_of}
use Rattle.redo_pass.specs.Replayed.{is_due}
use Rattle.redo_pass.proofs.Leaves.{memory_entered, memory_none}
use Rattle.redo_pass.proofs.Replaying.{none_entered, some_entered, nil_if, some_if}
use Rattle.redo_pass.proofs.replay.replay_identity.Goals as goal

pub returns-then-is_empty-clause-same : goal.returns-then-is_empty-clause-same
returns-then-is_empty-clause-same g c = memory_none c.args.store.now

pub returns-then-is_empty-clause-shown : goal.returns-then-is_empty-clause-shown
returns-then-is_empty-clause-shown g c = λ p file w sound shows next.
    let m = g.O.Oper.meaning (bounds_of p) in
    let it = c.args.store.now.parts.volatile in
    let x = c.args.object in
    let below = subst (λ (q : Params). x < q.objects) shows.params c.requires.below in
    let writes = All-cons (λ y. y < p.objects) x [] below (All-nil (λ y. y < p.objects)) in
    let none = sym c.as_slice-2.ensures.value ∙ nil_if c.as_slice-2.result.now (sym c.is_empty.ensures ∙ c.if-is_empty.true) in
    none_entered m p file it w c.args.plan.now.table c.args.lsn (Identity x c.args.value.now) c.due_among-chosen.result sound shows next (g.met.O.Oper.bounded (bounds_of p)).objects writes
    (λ y. c.due_among-chosen.ensures y ∙ (λ i. is_due c.args.plan.now.table (c.objects.ensures i) c.args.lsn ((c.as_slice.ensures.value ∙ c.one-writes.ensures) i) y)) none

pub returns-clause-same : goal.returns-clause-same
returns-clause-same g c = memory_entered (λ k low. low) c.in_ok-enter.ensures

pub returns-clause-shown : goal.returns-clause-shown
returns-clause-shown g c = λ p file w sound shows next.
    let m = g.O.Oper.meaning (bounds_of p) in
    let it = c.args.store.now.parts.volatile in
    let x = c.args.object in
    let v = c.args.value.now in
    let below = subst (λ (q : Params). x < q.objects) shows.params c.requires.below in
    let writes = All-cons (λ y. y < p.objects) x [] below (All-nil (λ y. y < p.objects)) in
    let e : Entry = record { lsn = c.args.lsn; reads = c.new.result; writes = c.one-writes.result; identity = true } in
    let e_is : e ≡ entry_of m c.args.lsn (Identity x v) = λ i. record { lsn = c.args.lsn; reads = c.new.ensures i; writes = c.one-writes.ensures i; identity = true } in
    let made : c.push.new.self ≡ v ∷ [] = c.in_ok-push.ensures.ok ∙ ap (λ (l : List (List ℕ)). l ++ v ∷ []) c.new-made.ensures in
    let same : c.as_slice-2.result.now ≡ c.as_slice-3.result.now = c.as_slice-2.ensures.value ∙ sym c.as_slice-3.ensures.value in
    let some : 0 < length c.as_slice-3.result.now = subst (λ (l : List ℕ). 0 < length l) same (some_if c.as_slice-2.result.now (sym c.is_empty.ensures ∙ c.if-is_empty.false)) in
    some_entered m p file it w c.args.plan.now.table c.args.lsn (Identity x v) c.as_slice-3.result.now sound shows next (g.met.O.Oper.bounded (bounds_of p)).objects writes
    (λ y. ap (is_among y) c.as_slice-3.ensures.value ∙ c.due_among-chosen.ensures y ∙ (λ i. is_due c.args.plan.now.table (c.objects.ensures i) c.args.lsn ((c.as_slice.ensures.value ∙ c.one-writes.ensures) i) y))
    it.objects c.enter.new.self.parts.volatile c.push.new.self (fetched-same it.objects it.objects refl (λ y. refl) (λ y. refl)) (λ y there. refl) shows.laid
    (All-nil (λ y. y < p.objects)) e e_is c.in_ok-enter.ensures.entered made some
