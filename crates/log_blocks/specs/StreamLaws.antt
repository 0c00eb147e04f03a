-- What a crash leaves in the course of a rewrite whose blocks are put one by one.
use Rattle.std.proofs.Common.{◌≡◌, ◌∙◌, inl, inr, ℕ, List, sym, ap, subst}
use Rattle.disk_model.specs.Disk.{Files, Disk, In, LeavesOnly, Runs, Same, Stays, Torn}
use Rattle.disk_model.specs.Moments.{first_call, from_reads, goes_on, weaker}
use Rattle.disk_model.specs.declared.machine.FileNo.{FileNo}
use Rattle.formats.specs.InForce.{other_of, IsPassive}
use Rattle.formats.specs.Log.{IsClosedLog, IsWholeLog}
use Rattle.log_blocks.specs.LogView.{LogView}
use Rattle.log_blocks.specs.RewriteLaws.{closing_passive, old_or_new, other_apart, passive_or_whole}
use Rattle.log_blocks.specs.Rewriting.{next_header, rewritten, IsOldOrNew, IsPrepared, KeepsClosed}
use Rattle.log_blocks.specs.Streaming.{HasCome, IsNext, IsStill, MayBegin}

module _ (old : Disk) (log : LogView) (held : List (List ℕ)) (may : MayBegin old log held) where
  abbrev file : FileNo
  file = other_of log.active

  abbrev epoch : ℕ
  epoch = log.header.epoch

  -- the old log is in force where the other file is passive
  still_so : (files : Files) (said : List ℕ) → In file (λ a b. IsPassive epoch b) old.reads files → said ≡ old.said → IsStill old log held files said
  still_so files said each silent = record {
    others = record { changed = tt; others = each.others };
    in_force = record {
      in_force = record { a_log = may.in_force.a_log; other = each.changed };
      log = subst (IsWholeLog log.header held) (sym (each.others log.active (other_apart log.active may.in_force.a_log))) may.rests.stands;
    };
    nothing_said = silent;
  }

  -- the first step, which closes the header gate of the other file, leaves the old log in force
  pub closing_still : (one : Disk) → Runs (In file (Torn 0 1)) Same old one → (old.tells_files → IsClosedLog (old.reads file) → Stays old one) → LeavesOnly old one (IsStill old log held)
  closing_still one run idle = first_call old one (IsStill old log held) may.told run.time (λ c s left. elim may.in_force.other [
    | inl closed ↦
        let stays = idle (run.begins.telling may.told) closed in
        let from = from_reads old one Same Same may.told may.rests.settled stays.crash c s left in
        still_so c s (record { changed = subst (λ (f : Files). IsPassive epoch (f file)) (sym from.0) may.in_force.other; others = λ other apart. ap (λ (f : Files). f other) from.0 }) from.1
    | inr open_one ↦
        let from = from_reads old one (In file (Torn 0 1)) Same may.told may.rests.settled run.crash c s left in
        still_so c s (record { changed = closing_passive epoch open_one.0 (old.reads file) (c file) open_one.1 open_one.2 from.0.changed; others = from.0.others }) from.1
  ])

  -- and so does all that keeps that gate closed
  pub writing_still : (one two : Disk) → LeavesOnly old one (IsStill old log held) → HasCome old one log → IsClosedLog (one.reads file) → Runs (In file KeepsClosed) Same one two → LeavesOnly old two (IsStill old log held)
  writing_still one two leaves come closed run =
      let told_one = come.runs.time.moments_told.0 may.told in
      let files_told = come.runs.begins.telling may.told in
      goes_on old one two (IsStill old log held) told_one leaves run.time (λ c s left.
      let from = from_reads one two (In file KeepsClosed) Same told_one come.settled run.crash c s left in
      still_so c s (record { changed = inl (from.0.changed closed); others = λ other apart. from.0.others other apart ∙ (come.runs.reads files_told).others other apart }) (from.1 ∙ come.runs.said files_told))

  module _ (payloads : List (List ℕ)) (base commands : ℕ) (next : IsNext log base commands payloads) where
    -- the last step, which opens it over a prepared file, leaves the old log or the new one
    pub ending_leaves : (two new : Disk) → LeavesOnly old two (IsStill old log held) → HasCome old two log → IsPrepared (next_header log base commands) payloads (two.reads file) → Runs (In file (Torn 0 1)) Same two new
        → LeavesOnly old new (IsOldOrNew old log held (rewritten log base commands payloads) payloads)
    ending_leaves two new leaves come prepared run =
        let header = next_header log base commands in
        let told_two = come.runs.time.moments_told.0 may.told in
        let files_told = come.runs.begins.telling may.told in
        goes_on old two new (IsOldOrNew old log held (rewritten log base commands payloads) payloads) told_two
        (weaker old two (IsStill old log held) (IsOldOrNew old log held (rewritten log base commands payloads) payloads) leaves (λ c s is. record { others = is.others; in_force = inl is.in_force; nothing_said = is.nothing_said }))
        run.time (λ c s left.
        let from = from_reads two new (In file (Torn 0 1)) Same told_two come.settled run.crash c s left in
        old_or_new old log held base commands payloads may.rests.stands may.in_force.a_log c s (record {
          each_file = record {
            changed = passive_or_whole epoch header payloads (two.reads file) (c file) next.in_range next.whole prepared from.0.changed;
            others = λ other apart. from.0.others other apart ∙ (come.runs.reads files_told).others other apart;
          };
          nothing_said = from.1 ∙ come.runs.said files_told;
        }))
