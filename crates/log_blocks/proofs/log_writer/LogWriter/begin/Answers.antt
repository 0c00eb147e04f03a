use Rattle.std.proofs.Common.{◌∙◌, ℕ, List, [], ◌∷◌, get_or, sym, ap, subst, arith}
use Rattle.std.proofs.lemmas.List.{append-nil}
use Rattle.formats.specs.Log.{header_fields}
use Rattle.log_blocks.specs.Reading.{header_of}
use Rattle.log_blocks.specs.Writing.{LogWriterView, HasPut, put_of}
use Rattle.log_blocks.proofs.Written.{gate_closed, put_gate}
use Rattle.log_blocks.proofs.log_writer.LogWriter.begin.Goals as goal

pub put-requires : goal.put-requires
put-requires g c = omega (arith, ap put_of c.requires)

pub returns-clause-begun : goal.returns-clause-begun
returns-clause-begun g c told closed =
    let old = g.M.Machine.disk c.args.machine.now in
    let new = g.M.Machine.disk c.put.new.machine in
    let file = c.args.self.now.file in
    let gate = get_or (old.reads file) 0 0 in
    let has = subst (λ (v : LogWriterView). HasPut old v (gate ∷ [])) (sym c.requires) (put_gate old file closed) in
    record {
      gate = gate;
      closed = gate_closed (old.reads file) closed;
      has = subst (λ (l : List ℕ). HasPut new c.put.new.self (gate ∷ l)) (c.fields_of.ensures ∙ sym (append-nil (header_fields (header_of c.args.header)))) (c.in_ok-put.ensures.put told (gate ∷ []) has);
    }

pub returns-clause-end : goal.returns-clause-end
returns-clause-end g c = omega (arith, ap put_of c.requires, c.in_ok-put.ensures.end)
