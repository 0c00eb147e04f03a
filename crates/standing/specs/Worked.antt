-- A worked store of two objects, byte by byte: a command that is installed, an identity write that is not, and a checkpoint.
use Rattle.std.specs.Prelude.{ℕ, Bool, List, [], ◌∷◌, ◌++◌, length, replicate, codes, false}
use Rattle.disk_model.specs.Disk.{Files}
use Rattle.disk_model.specs.declared.machine.FileNo.TheVariants.{Objects, LogA, LogB}
use Rattle.oper_core.specs.Meaning.{Meaning}
use Rattle.formats.specs.Objects.{bounds_of}
use Rattle.formats.specs.declared.params.Params.{Params}
use Rattle.install_order.specs.Entries.{set_of}
use Rattle.explain_core.specs.ByteOps.{byte_meaning}
use Rattle.explain_core.specs.declared.byte_op.ByteOp.{ByteOp}
use Rattle.explain_core.specs.declared.byte_op.ByteOp.TheVariants.{Put}
use Rattle.explain_core.specs.History.Member.{Command, Identity}
use Rattle.explain_core.specs.World.{World, Step, run, new_world}
use Rattle.explain_core.specs.World.Step.{Append, Block_gate, Checkpoint, Slot_gate, Removal}

-- two objects of at most 16 bytes
abbrev pub small : Params
small = record { objects = 2; cap = 16; limit = 4128; more = false }

abbrev pub small_meaning : Meaning ByteOp
small_meaning = byte_meaning (bounds_of small)

-- the node of the command alone
abbrev pub put_node : ℕ → Bool
put_node = set_of (1 ∷ [])

-- aa is put into 0, and 1, which is empty, is logged as an identity write; both are forced, and the command is installed
abbrev pub put_installed : List (Step ByteOp)
put_installed = Append (Command (Put 0 170)) ∷ Append (Identity 1 []) ∷ Block_gate ∷ Slot_gate put_node 0 ∷ Removal put_node ∷ []

-- and a checkpoint is taken and forced
abbrev pub small_steps : List (Step ByteOp)
small_steps = put_installed ++ Checkpoint ∷ Block_gate ∷ []

-- the world after these steps of a new store
abbrev pub after_steps : List (Step ByteOp) → World ByteOp
after_steps steps = run small_meaning (new_world ByteOp) steps

-- a number below 256 in four bytes, and in eight
abbrev pub four : ℕ → List ℕ
four n = n ∷ replicate 3 0

abbrev pub eight : ℕ → List ℕ
eight n = n ∷ replicate 7 0

-- the header of an objects file with these numbers, up to the first slot at the place 32
abbrev pub objects_header : List ℕ
objects_header = 1 ∷ codes "RDOOBJ01" ++ four 2 ++ four 16 ++ 32 ∷ 16 ∷ 0 ∷ 0 ∷ [] ++ replicate 11 0

-- an open slot with the LSN 1 and the one byte aa, and three closed ones
abbrev pub small_objects : List ℕ
small_objects =
    objects_header
    ++ 1 ∷ eight 1 ++ four 1 ++ 170 ∷ [] ++ replicate 15 0
    ++ replicate 87 0

-- four closed ones
abbrev pub new_objects : List ℕ
new_objects = objects_header ++ replicate 116 0

-- the record 1 of the command, and the record 2 of the identity write
abbrev pub two_records : List ℕ
two_records = 1 ∷ eight 1 ++ 0 ∷ 0 ∷ 170 ∷ [] ++ 2 ∷ eight 2 ++ four 1 ++ four 0

-- a checkpoint whose next LSN is 3: the redo of 1 starts with the record 2
abbrev pub right_checkpoint : List ℕ
right_checkpoint = 3 ∷ eight 3 ++ four 1 ++ four 1 ++ eight 2

-- one that asks for no record
abbrev pub skipping_checkpoint : List ℕ
skipping_checkpoint = 3 ∷ eight 3 ++ four 0

-- a log's header: an open gate, the magic, the epoch, the base 1, no command before it
abbrev pub log_header : ℕ → List ℕ
log_header epoch = 1 ∷ codes "RDOLOG01" ++ eight epoch ++ eight 1 ++ eight 0

-- a log with this epoch and this checkpoint: a block of the two records, and one of the checkpoint; a closed gate
abbrev pub log_with : ℕ → List ℕ → List ℕ
log_with epoch checkpoint =
    log_header epoch
    ++ 1 ∷ four 29 ++ two_records
    ++ 1 ∷ four (length checkpoint) ++ checkpoint
    ++ 0 ∷ []

-- the files with this checkpoint; the other log has a closed gate
abbrev pub files_with : List ℕ → Files
files_with checkpoint Objects = small_objects
files_with checkpoint LogA = log_with 1 checkpoint
files_with checkpoint LogB = 0 ∷ []

-- the log with the right checkpoint stands in the other file, with the epoch 2; the first one, which has now a smaller epoch,
-- has the other checkpoint
abbrev pub rewritten_files : Files
rewritten_files Objects = small_objects
rewritten_files LogA = log_with 1 skipping_checkpoint
rewritten_files LogB = log_with 2 right_checkpoint

-- the files of a new store
abbrev pub new_files : Files
new_files Objects = new_objects
new_files LogA = log_header 1 ++ 0 ∷ []
new_files LogB = 0 ∷ []
