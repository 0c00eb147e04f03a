-- What an engine that shows a world says of commands.
use Rattle.std.proofs.Common.{◌≡◌, ◌∙◌, sym, subst, ap, ℕ, ◌+◌, ◌-◌, ◌<◌, ◌≤◌, List, [], ◌∷◌, length, take, drop, refl, arith, length-append, Option, None, Some}
use Rattle.std.proofs.Math.Path.{fun_ext}
use Rattle.std.specs.Prelude.{IfSome, map}
use Rattle.disk_model.specs.Disk.{Files, Disk, IsSettled}
use Rattle.disk_model.specs.declared.machine.FileNo.{FileNo}
use Rattle.disk_model.specs.declared.machine.FileNo.TheVariants.{Objects}
use Rattle.oper_core.specs.Cell.{Cell}
use Rattle.oper_core.specs.Meaning.{Meaning, state_after}
use Rattle.oper_core.specs.declared.bounds.Bounds.{Bounds}
use Rattle.formats.specs.Image.{EndsAt}
use Rattle.formats.specs.Records.{payload_of}
use Rattle.formats.specs.declared.params.Params.{Params}
use Rattle.formats.specs.declared.record.Record.{Record}
use Rattle.formats.specs.declared.record.Record.TheVariants.{Command as Logged_command, Identity as Logged_identity, Checkpoint as Logged_checkpoint}
use Rattle.log_blocks.specs.LogView.{end_with}
use Rattle.explain_core.specs.History.{Member, commands_of}
use Rattle.explain_core.specs.Sound.{IsGroup, IsSound}
use Rattle.explain_core.specs.World.{World, IsLive, end_of}
use Rattle.standing.specs.Members.{members_of}
use Rattle.standing.specs.Standing.{FilesShow, StandsFor}
use Rattle.running_store.specs.Steps.Appended.{next_lsn}
use Rattle.running_store.specs.Steps.Forced.{files_shown}
use Rattle.running_store.specs.Parts.Joins.{cell_shown}
use Rattle.running_store.specs.Laid.{values_in}
use Rattle.running_store.specs.Parts.{Shows}
use Rattle.execution.specs.Counted.{accepted_shown}
use Rattle.store_engine.specs.Grouping.{ungrouped}
use Rattle.store_engine.specs.Engine.{EngineView, Holds, InEachImage, Says, accepted_in, commands_since, forced_in, group_size, used_in}
use Rattle.store_engine.specs.Store.{meaning_in, state_of}
use Rattle.store_engine.specs.Counts.{forced_shown, take-commands, commands-fewer, commands-split}

-- what reads give a settled machine's images have
pub in_each : (d : Disk) (P : Files → Type 0) → IsSettled d → P d.reads → InEachImage d P
in_each d P settled here = (here, λ told files said left. subst P (fun_ext (λ (n : FileNo). sym (settled n told files said left))) here)

-- no record has no bytes
pub no_records : {O : Type 0} (m : Meaning O) (records : List (Record O)) → [] ≡ payload_of m records → records ≡ []
no_records m [] is = refl
no_records m (Logged_command lsn op ∷ records) is = cc
no_records m (Logged_identity lsn x value ∷ records) is = cc
no_records m (Logged_checkpoint table ∷ records) is = cc

-- the laws of worlds and images: an image of a sound world stands for its stable commands, and a live cache is the map
abbrev pub Stand : {O : Type 0} → (Bounds → Meaning O) → Params → Type 0
Stand {O} meaning p = (files : Files) (w : World O) → IsSound (meaning_in meaning p) w → FilesShow (meaning_in meaning p) p files w → StandsFor meaning p files (commands_of (take w.forced w.history))

abbrev pub IsLiveMap : {O : Type 0} → Meaning O → Type 0
IsLiveMap {O} m = (w : World O) (x : ℕ) → IsSound m w → IsLive w → (w.cache x).value ≡ state_after m (commands_of w.history) x

-- an open group has as many commands as members
abbrev pub IsGroupCounted : {O : Type 0} → Meaning O → Type 0
IsGroupCounted {O} m = (w : World O) (begun : ℕ) → IsSound m w → w.group ≡ Some begun → length (commands_of w.history) ≡ length (commands_of (take (begun - 1) w.history)) + (end_of w - begun)

module _ {O : Type 0} (meaning : Bounds → Meaning O) (p : Params) (d : Disk) (engine : EngineView) (commands : List O) (holds : Holds meaning p d engine commands) where
  abbrev m : Meaning O
  m = meaning_in meaning p

  shown : Shows m p d engine.parts (ungrouped holds.world)
  shown = holds.shows.shows

  pub holds_forced : forced_in engine ≡ length (commands_of (take holds.world.forced holds.world.history))
  holds_forced = forced_shown m p d engine.parts (ungrouped holds.world) shown

  pub holds_accepted : accepted_in engine ≡ length commands
  holds_accepted = accepted_shown m p d engine.parts (ungrouped holds.world) shown ∙ ap (λ (l : List O). length l) holds.commands_are

  holds_taken : take (forced_in engine) commands ≡ commands_of (take holds.world.forced holds.world.history)
  holds_taken = (λ i. take (holds_forced i) (sym holds.commands_are i)) ∙ take-commands holds.world.forced holds.world.history

  holds_fewer : forced_in engine ≤ length commands
  holds_fewer = omega (arith, holds_forced, commands-fewer holds.world.forced holds.world.history, ap (λ (l : List O). length l) holds.commands_are)

  -- each image of the moment stands for the forced commands
  holds_images : Stand meaning p → InEachImage d (λ files. StandsFor meaning p files (take (forced_in engine) commands))
  holds_images stand =
      in_each d (λ files. StandsFor meaning p files (take (forced_in engine) commands)) shown.log.keeps.settled
      (subst (λ (l : List O). StandsFor meaning p d.reads l) (sym holds_taken) (stand d.reads holds.world holds.shows.sound (files_shown m p d engine.parts (ungrouped holds.world) shown)))

  -- the cache laid over the slots is the state after the commands
  pub holds_map : IsLiveMap m → (x : ℕ) → x < p.objects → values_in engine.parts.volatile.objects (d.reads Objects) x ≡ state_of meaning p commands x
  holds_map map x below =
      ap (λ (c : Cell). c.value) (cell_shown m p (d.reads Objects) engine.parts.volatile (ungrouped holds.world) shown.store x below)
      ∙ map holds.world x holds.shows.sound shown.running.live ∙ ap (λ (l : List O). state_after m l x) holds.commands_are

  -- where nothing waits all are forced
  holds_all : engine.parts.log.log.pending ≡ [] → forced_in engine ≡ length commands
  holds_all none =
      let l = shown.log in
      let w = ungrouped holds.world in
      let no_more : l.pending ≡ [] = no_records m l.pending (sym none ∙ l.keeps.pending_are) in
      let behind : drop w.forced w.history ≡ [] = sym l.waiting ∙ ap (λ (rs : List (Record O)). members_of rs) no_more in
      let split = ap (λ (l : List O). length l) (commands-split w.forced w.history) ∙ length-append (commands_of (take w.forced w.history)) (commands_of (drop w.forced w.history)) in
      let rest : length (commands_of (drop w.forced w.history)) ≡ 0 = ap (λ (h : List (Member O)). length (commands_of h)) behind in
      omega (arith, holds_forced, split, rest, ap (λ (l : List O). length l) holds.commands_are)

  -- and the log in the files ends where the engine says
  holds_end : engine.parts.log.log.pending ≡ [] → InEachImage d (λ files. EndsAt files (used_in engine))
  holds_end none =
      let k = shown.log.keeps in
      in_each d (λ files. EndsAt files (used_in engine)) k.settled (record {
        active = engine.parts.log.log.active;
        header = engine.parts.log.log.header;
        payloads = map (payload_of m) k.groups;
        log = record { in_force = k.in_force; log = k.file.log };
        here = ap (λ (l : List ℕ). end_with engine.parts.log.log.end l) none ∙ k.place;
      })

  -- the commands of the open group are those that are not forced
  holds_group : IsGroupCounted m → IfSome (group_size engine) (λ n. forced_in engine + n ≡ length commands)
  holds_group counted = by_group engine.group refl
    where
      by_group : (group : Option ℕ) → engine.group ≡ group → IfSome (commands_since engine.parts.log.next group) (λ n. forced_in engine + n ≡ length commands)
      by_group None is = tt
      by_group (Some begun) is =
          let w = holds.world in
          let in_one : w.group ≡ Some begun = holds.shows.group ∙ is in
          let in_group = subst (λ (o : Option ℕ). IfSome o (IsGroup w.history w.forced)) in_one holds.shows.sound.group in
          let front : length (commands_of (take (begun - 1) w.history)) ≡ length (commands_of (take w.forced w.history)) =
          ap (λ (k : ℕ). length (commands_of (take k w.history))) (omega (arith, in_group.stable)) in
          omega (
            arith,
            in_group.stable,
            holds_forced,
            front,
            counted w begun holds.shows.sound in_one,
            next_lsn m p d engine.parts (ungrouped w) shown,
            ap (λ (l : List O). length l) holds.commands_are,
            holds.shows.sound.forced,
          )

  pub holds_says : Stand meaning p → IsLiveMap m → IsGroupCounted m → Says meaning p d engine commands
  holds_says stand map counted = record {
    accepted = holds_accepted;
    forced = holds_fewer;
    images = holds_images stand;
    map_is = holds_map map;
    none_waits = λ none. (holds_all none, holds_end none);
    group_waits = holds_group counted;
  }
