-- The stop that a call reports is what each image of the moment says.
use Rattle.std.proofs.Common.{◌≡◌, ◌∙◌, sym, subst, ap, ℕ, zero, suc, ◌+◌, ◌-◌, ◌≤◌, List, [], ◌∷◌, ◌++◌, length, take, drop, refl, arith, length-drop, length-take, Option, None, Some}
use Rattle.std.specs.Prelude.{⊤, IfSome, IsTrue, map, slice_get}
use Rattle.std.specs.Option.{is_some}
use Rattle.std.proofs.lemmas.Bool.{both_ways}
use Rattle.std.proofs.lemmas.List.{append-nil}
use Rattle.disk_model.specs.Disk.{Disk}
use Rattle.oper_core.specs.Meaning.{Meaning}
use Rattle.oper_core.specs.declared.bounds.Bounds.{Bounds}
use Rattle.formats.specs.Records.{next_after, payload_of}
use Rattle.formats.specs.declared.params.Params.{Params}
use Rattle.formats.specs.declared.record.Record.{Record}
use Rattle.log_blocks.specs.LogView.{end_with}
use Rattle.log_blocks.specs.Laws.{has_header}
use Rattle.explain_core.specs.History.{IsCommand, Member, commands_of}
use Rattle.explain_core.specs.History.Member.{Command, Identity}
use Rattle.explain_core.specs.Sound.{IsGroup}
use Rattle.explain_core.specs.World.{World}
use Rattle.standing.specs.Members.{next-members}
use Rattle.running_store.specs.Steps.Appended.{base_below, next_lsn}
use Rattle.running_store.specs.Courses.Buffered.{buffered_shown}
use Rattle.running_store.specs.Courses.{Stop, records_length, tables_length}
use Rattle.running_store.specs.Courses.Stop.{Through, Full, At_end, Worn}
use Rattle.running_store.specs.Kept.{StopsAt}
use Rattle.execution.specs.Stops.{StopsWithin}
use Rattle.store_engine.specs.Engine.{EngineView, ShowsIn, SaysStop, SaysStopWithin, InEachImage, group_bytes, records_of as bytes_of}
use Rattle.store_engine.specs.Grouping.{ungrouped}
use Rattle.store_engine.specs.Store.{meaning_in}
use Rattle.store_engine.proofs.Holding.{in_each, no_records}

-- members that are all commands
abbrev AreCommands : {O : Type 0} → List (Member O) → Type 0
AreCommands [] = ⊤
AreCommands (member ∷ members) = IsCommand member × AreCommands members

each_command : {O : Type 0} (h : List (Member O)) → ((i : ℕ) → IfSome (slice_get h i) IsCommand) → AreCommands h
each_command [] each = tt
each_command (member ∷ h) each = (each 0, each_command h (λ i. each (suc i)))

-- those from an LSN on
later_commands : {O : Type 0} (h : List (Member O)) (f : ℕ) → ((i : ℕ) → f ≤ i → IfSome (slice_get h i) IsCommand) → AreCommands (drop f h)
later_commands h zero each = each_command h (λ i. each i (omega arith))
later_commands [] (suc f) each = tt
later_commands (member ∷ h) (suc f) each = later_commands h f (λ i le. each (suc i) (omega (arith, le)))

module _ {O : Type 0} (meaning : Bounds → Meaning O) (p : Params) where
  -- so many are their commands, with so many bytes
  commands_counted : (h : List (Member O)) → AreCommands h → length (commands_of h) ≡ length h
  commands_counted [] are = refl
  commands_counted (Command op ∷ h) are = omega (arith, commands_counted h are.1)
  commands_counted (Identity x value ∷ h) are = absurd are.0

  commands_bytes : (h : List (Member O)) → AreCommands h → records_length (meaning_in meaning p) h ≡ bytes_of meaning p (commands_of h)
  commands_bytes [] are = refl
  commands_bytes (Command op ∷ h) are = omega (arith, commands_bytes h are.1)
  commands_bytes (Identity x value ∷ h) are = absurd are.0

  -- they are one block, where there are some
  block_bytes : (place : ℕ) (pending : List ℕ) (ops : List O) → length pending ≡ bytes_of meaning p ops → end_with place pending ≡ place + group_bytes meaning p ops
  block_bytes place [] [] are = omega arith
  block_bytes place [] (op ∷ ops) are = absurd (omega (arith, are))
  block_bytes place (byte ∷ bytes) [] are = absurd (omega (arith, are))
  block_bytes place (byte ∷ bytes) (op ∷ ops) are = omega (arith, are)

module _ {O : Type 0} (meaning : Bounds → Meaning O) (p : Params) (d : Disk) (engine : EngineView) (w : World O) (shows : ShowsIn meaning p d engine w) (most : ℕ) where
  now : (stop : Stop) → StopsAt most engine.parts.log stop → SaysStop meaning p d.reads stop
  now Through at = absurd at
  now (Full used need limit) at =
      let k = shows.shows.log.keeps in
      record {
        active = engine.parts.log.log.active;
        header = engine.parts.log.log.header;
        payloads = map (payload_of (meaning_in meaning p)) k.groups;
        log = record { in_force = k.in_force; log = k.file.log };
        here = at.0 ∙ ap (λ (l : List ℕ). end_with engine.parts.log.log.end l) at.1 ∙ k.place;
      }
  now (At_end lsn) at =
      let l = shows.shows.log in
      let k = l.keeps in
      let base = engine.parts.log.log.header.base in
      let none : l.pending ≡ [] = no_records (meaning_in meaning p) l.pending (sym at.1 ∙ k.pending_are) in
      let all : l.stable ++ l.pending ≡ l.stable = ap (λ (rs : List (Record O)). l.stable ++ rs) none ∙ append-nil l.stable in
      record {
        active = engine.parts.log.log.active;
        header = engine.parts.log.log.header;
        groups = k.groups;
        log = record { in_force = k.in_force; log = k.file };
        here = at.0 ∙ k.next_is ∙ ap (λ (rs : List (Record O)). next_after base rs) (all ∙ sym k.stable_are);
      }
  now (Worn epoch) at =
      let k = shows.shows.log.keeps in
      record {
        active = engine.parts.log.log.active;
        header = engine.parts.log.log.header;
        in_force = k.in_force;
        has = has_header engine.parts.log.log.header _ _ k.file.log;
        here = at.0;
      }

  pub stop_said : (stop : Stop) → StopsAt most engine.parts.log stop → InEachImage d (λ files. SaysStop meaning p files stop)
  stop_said stop at = in_each d (λ files. SaysStop meaning p files stop) shows.shows.log.keeps.settled (now stop at)

  -- within a group the files have none of its commands
  module _ (begun : ℕ) (in_one : w.group ≡ Some begun) where
    in_group : IsGroup w.history w.forced begun
    in_group = subst (λ (o : Option ℕ). IfSome o (IsGroup w.history w.forced)) in_one shows.sound.group

    none_waits : w.pending ≡ []
    none_waits = subst (λ (o : Option ℕ). IfSome o (λ begun. w.pending ≡ [])) (sym shows.group ∙ in_one) shows.no_checkpoint

    are_commands : AreCommands (drop w.forced w.history)
    are_commands = later_commands w.history w.forced (λ i le. in_group.commands (suc i) (omega (arith, le, in_group.stable)))

    waiting_bytes : length engine.parts.log.log.pending ≡ bytes_of meaning p (commands_of (drop w.forced w.history))
    waiting_bytes =
        buffered_shown (meaning_in meaning p) d engine.parts.log (ungrouped w) shows.shows.log
        ∙ (λ i. commands_bytes meaning p (drop w.forced w.history) are_commands i + tables_length (meaning_in meaning p) (none_waits i))
        ∙ omega arith

    within : (stop : Stop) → StopsWithin most engine.parts.log stop → SaysStopWithin meaning p (commands_of (drop w.forced w.history)) d.reads stop
    within Through at = absurd at
    within (Full used need limit) at =
        let k = shows.shows.log.keeps in (
          engine.parts.log.log.end,
          record {
            active = engine.parts.log.log.active;
            header = engine.parts.log.log.header;
            payloads = map (payload_of (meaning_in meaning p)) k.groups;
            log = record { in_force = k.in_force; log = k.file.log };
            here = k.place;
          },
          at.0 ∙ block_bytes meaning p engine.parts.log.log.end engine.parts.log.log.pending (commands_of (drop w.forced w.history)) waiting_bytes,
        )
    within (At_end lsn) at =
        let l = shows.shows.log in
        let k = l.keeps in
        let base = engine.parts.log.log.header.base in
        let m = meaning_in meaning p in (
          next_after base l.stable,
          record {
            active = engine.parts.log.log.active;
            header = engine.parts.log.log.header;
            groups = k.groups;
            log = record { in_force = k.in_force; log = k.file };
            here = ap (λ (rs : List (Record O)). next_after base rs) (sym k.stable_are);
          },
          omega (
            arith,
            at.0,
            next_lsn m p d engine.parts (ungrouped w) shows.shows,
            next-members base l.stable,
            ap (λ (h : List (Member O)). length h) l.forced,
            length-drop (w.base - 1) (take w.forced w.history),
            length-take w.forced w.history,
            shows.sound.forced,
            shows.sound.base,
            base_below m (ungrouped w) shows.shows.running.sound,
            l.base,
            commands_counted meaning p (drop w.forced w.history) are_commands,
            length-drop w.forced w.history,
          ),
        )
    within (Worn epoch) at = absurd at

  pub stop_within : IsTrue (is_some w.group) → (stop : Stop) → StopsWithin most engine.parts.log stop → InEachImage d (λ files. SaysStopWithin meaning p (commands_of (drop w.forced w.history)) files stop)
  stop_within in_one stop at = by_group w.group refl in_one
    where
      by_group : (group : Option ℕ) → w.group ≡ group → IsTrue (is_some group) → InEachImage d (λ files. SaysStopWithin meaning p (commands_of (drop w.forced w.history)) files stop)
      by_group None is some = absurd (both_ways _ refl some)
      by_group (Some begun) is some = in_each d (λ files. SaysStopWithin meaning p (commands_of (drop w.forced w.history)) files stop) shows.shows.log.keeps.settled (within begun is stop at)
