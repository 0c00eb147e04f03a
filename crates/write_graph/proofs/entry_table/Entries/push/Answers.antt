use Rattle.std.proofs.Common.{◌≡◌, ◌∙◌, ap, sym, subst, ℕ, List, [], ◌∷◌, ◌++◌, ◌<◌, ◌≤◌, ◌^◌, length, length-append, arith}
use Rattle.std.proofs.lemmas.List.{length_push}
use Rattle.std.proofs.Math.Facts.{Fits-of_lt}
use Rattle.write_graph.specs.declared.head.Head.{Head}
use Rattle.write_graph.specs.Heads.{Entries, entries_of, AreHeads}
use Rattle.write_graph.proofs.Tabled.{length-kept, one-more, heads-more}
use Rattle.write_graph.proofs.entry_table.Entries.push.Goals as goal

pub overflow_cast-head : goal.overflow_cast-head
overflow_cast-head c =
    let small = subst (λ (v : Entries). length v.items < 2 ^ 28) (sym c.self.view_is) c.requires.small in
    let fits : c.len.result < 2 ^ 32 = omega (arith, small, c.len.ensures, c.self.inside.objects.ok.0, c.self.invariant.few, length-kept c.self.inside.lsns.items c.self.inside.heads.items c.self.inside.objects.items c.self.invariant.count) in
    Fits-of_lt fits

pub invariant_of-self : goal.invariant_of-self
invariant_of-self c =
    let h : Head = record { start = c.len.result; reads = length c.as_slice-reads.result.now; writes = length c.as_slice-writes.result.now; identity = c.args.entry.now.identity } in
    subst (λ (os : List ℕ). AreHeads c.push_in_room.new.items.items c.push.new.self.items os) (sym (c.push_all-2.ensures.items ∙ ap (λ (os : List ℕ). os ++ c.as_slice-writes.result.now) c.push_all.ensures.items)) (
    subst (λ (hs : List Head). AreHeads c.push_in_room.new.items.items hs ((c.self.inside.objects.items ++ c.as_slice-reads.result.now) ++ c.as_slice-writes.result.now)) (sym c.push.ensures.items) (
    subst (λ (ns : List ℕ). AreHeads ns (c.self.inside.heads.items ++ h ∷ []) ((c.self.inside.objects.items ++ c.as_slice-reads.result.now) ++ c.as_slice-writes.result.now)) (sym c.push_in_room.ensures.items) (
    heads-more c.self.inside.lsns.items c.self.inside.heads.items c.self.inside.objects.items c.as_slice-reads.result.now c.as_slice-writes.result.now h (omega (arith, c.len.ensures, c.self.inside.objects.ok.0)) (omega arith) (omega arith) c.self.invariant c.args.entry.now.lsn (omega (arith, c.as_slice-reads.ensures.few, ap length c.as_slice-reads.ensures.value)) (omega (arith, c.as_slice-writes.ensures.few, ap length c.as_slice-writes.ensures.value)))))

pub returns-clause-items : goal.returns-clause-items
returns-clause-items c =
    let h : Head = record { start = c.len.result; reads = length c.as_slice-reads.result.now; writes = length c.as_slice-writes.result.now; identity = c.args.entry.now.identity } in
    let ns = c.self.inside.lsns.items in
    let hs = c.self.inside.heads.items in
    let reads = c.as_slice-reads.result.now in
    let writes = c.as_slice-writes.result.now in
    let os : c.push_all-2.new.numbers.items ≡ (c.self.inside.objects.items ++ reads) ++ writes = c.push_all-2.ensures.items ∙ ap (λ (xs : List ℕ). xs ++ writes) c.push_all.ensures.items in
    let more = one-more ns hs c.self.inside.objects.items reads writes h (omega (arith, c.len.ensures, c.self.inside.objects.ok.0)) (omega arith) (omega arith) c.self.invariant c.args.entry.now.lsn in
    rw (c.push_in_room.ensures.items, c.push.ensures.items, os) (more
    ∙ ap (λ (xs : List ℕ). entries_of ns hs c.self.inside.objects.items ++ record { lsn = c.args.entry.now.lsn; reads = xs; writes = writes; identity = c.args.entry.now.identity } ∷ []) c.as_slice-reads.ensures.value
    ∙ ap (λ (xs : List ℕ). entries_of ns hs c.self.inside.objects.items ++ record { lsn = c.args.entry.now.lsn; reads = c.args.entry.now.reads; writes = xs; identity = c.args.entry.now.identity } ∷ []) c.as_slice-writes.ensures.value
    ∙ ap (λ (v : Entries). v.items ++ c.args.entry.now ∷ []) c.self.view_is)

pub returns-clause-room : goal.returns-clause-room
returns-clause-room c =
    let objects = c.self.inside.objects.items in
    let reads = c.as_slice-reads.result.now in
    let writes = c.as_slice-writes.result.now in
    let os : c.push_all-2.new.numbers.items ≡ (objects ++ reads) ++ writes = c.push_all-2.ensures.items ∙ ap (λ (xs : List ℕ). xs ++ writes) c.push_all.ensures.items in
    let few_reads : length reads ≤ 4 = omega (arith, ap length c.as_slice-reads.ensures.value, c.as_slice-reads.ensures.few) in
    let few_writes : length writes ≤ 4 = omega (arith, ap length c.as_slice-writes.ensures.value, c.as_slice-writes.ensures.few) in
    omega (
      arith,
      ap (λ (v : Entries). v.room) c.self.view_is,
      c.push_in_room.ensures.capacity,
      ap length c.push_in_room.ensures.items,
      length_push c.self.inside.lsns.items c.args.entry.now.lsn,
      c.push.ensures.room,
      c.push_all.ensures.capacity,
      c.push_all-2.ensures.capacity,
      ap length os,
      length-append (objects ++ reads) writes,
      length-append objects reads,
      few_reads,
      few_writes,
    )
