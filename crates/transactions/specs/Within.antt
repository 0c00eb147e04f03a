-- An engine under the commands that are staged on it, as a store.
use Rattle.std.specs.Prelude.{◌≡◌, ◌⊎◌, ◌≤◌, ◌++◌, ℕ, false, Option, List, [], length, take, MatchOption}
use Rattle.std.specs.Option.{option_map_or}
use Rattle.disk_model.specs.Disk.{Disk}
use Rattle.oper_core.specs.Meaning.{Meaning}
use Rattle.oper_core.specs.declared.bounds.Bounds.{Bounds}
use Rattle.formats.specs.declared.params.Params.{Params}
use Rattle.dirty_cache.specs.Contents.{held}
use Rattle.running_store.specs.Calls.{IsFailed}
use Rattle.running_store.specs.Courses.{Stop}
use Rattle.running_store.specs.Laid.{values_in}
use Rattle.running_store.specs.Laid.Lengths.{length_at}
use Rattle.running_store.specs.Taking.{Ending}
use Rattle.running_store.specs.Taking.Ending.{Done, Stopped}
use Rattle.execution.specs.declared.exec_err.ExecErr.{ExecErr}
use Rattle.store_engine.specs.Engine.{Holds, IsCached, params_of}
use Rattle.store_engine.specs.Lists.{ending_of}
use Rattle.store_calls.specs.View.{View}
use Rattle.transactions.specs.Staged.{IsStaged, OnlyReads, overlaid}
use Rattle.transactions.specs.declared.within.Within.{Within}

-- the length of an object's value, for which no file is read
abbrev pub length_in : {O : Type 0} → Within O → ℕ → ℕ
length_in within x = option_map_or (λ e. length e.bytes) (held within.transaction.now.made x) (length_at within.engine.now.parts.volatile.objects x)

module _ {O : Type 0} (meaning : Bounds → Meaning O) where
  -- Engine and files stand for some commands, on which others are staged: these are all of them.
  pub record HoldsWithin (p : Params) (d : Disk) (within : Within O) (commands : List O) : Type 0 where
    pub base : List O
    pub holds : Holds meaning p d within.engine.now base
    pub staged : IsStaged meaning p base within.transaction.now.ops.items within.transaction.now.bytes within.transaction.now.made
    pub are : base ++ within.transaction.now.ops.items ≡ commands

  -- Of these the first `done` are staged: all of them where the call is done. Unless the disk failed, engine and files stand for
  -- what they stood for, and these are staged on it beside the others. The log stops none, since nothing is logged. (The call reads
  -- files and log alone: `OnlyReads`.)
  pub record StagesFront (p : Params) (new : Disk) (before after : Within O) (commands ops : List O) (ending : Ending) : Type 0 where
    pub done : ℕ
    pub front : done ≤ length ops
    pub all : ending ≡ Done → done ≡ length ops
    pub kept : IsFailed ending ⊎ HoldsWithin p new after (commands ++ take done ops)
    pub staged : after.transaction.now.ops.items ≡ before.transaction.now.ops.items ++ take done ops
    pub unstopped : (stop : Stop) → ending ≡ Stopped stop → ⊥

  -- On every machine the engine is only read, and it and the transaction are still those that were lent.
  pub record OnlyStages (old new : Disk) (before after : Within O) (error : Option ExecErr) : Type 0 where
    pub reads : OnlyReads meaning old new before.engine.now after.engine.now (IsFailed (ending_of error))
    pub engine : after.engine.ghost_name ≡ before.engine.ghost_name
    pub transaction : after.transaction.ghost_name ≡ before.transaction.ghost_name

  abbrev pub within_view : View O (Within O)
  within_view = record {
    params = λ within. params_of within.engine.now;
    unbroken = λ within. within.engine.now.broken ≡ false;
    holds = HoldsWithin;
    numbers = λ p d within commands all. all.holds.shows.shows.store.params;
    calls = OnlyStages;
    adds = λ p old new before after commands ops ending. HoldsWithin p old before commands → StagesFront p new before after commands ops ending;
    keeps = λ old new before after ending. (p : Params) (commands : List O) → HoldsWithin p old before commands → StagesFront p new before after commands [] ending;
    cached = λ within x. MatchOption (held within.transaction.now.made x) (IsCached within.engine.now x) (λ e. length e.bytes ≤ (params_of within.engine.now).cap);
    value = λ within x. overlaid within.transaction.now.made (values_in within.engine.now.parts.volatile.objects []) x;
  }
