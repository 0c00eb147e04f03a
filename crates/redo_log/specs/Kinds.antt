-- The kinds of records, each with a number.
use Rattle.std.specs.Prelude.{ℕ, List, [], ◌∷◌, codes}
use Rattle.op_meaning.specs.declared.plain_op.PlainOp.{PlainOp}
use Rattle.op_meaning.specs.declared.plain_op.PlainOp.TheVariants.{Put, Copy, Append, Cut, Sort, Swap, Exec, AppRead, AppWrite}
use Rattle.btree_ops.specs.declared.node_op.NodeOp.{NodeOp}
use Rattle.btree_ops.specs.declared.node_op.NodeOp.TheVariants as nodes
use Rattle.app_program.specs.declared.program_op.ProgramOp.{ProgramOp}
use Rattle.app_program.specs.declared.program_op.ProgramOp.TheVariants.{Step, Feed, Drain}
use Rattle.hash_ops.specs.declared.hash_op.HashOp.{HashOp}
use Rattle.hash_ops.specs.declared.hash_op.HashOp.TheVariants as hashes
use Rattle.page_ops.specs.declared.page_op.PageOp.{PageOp}
use Rattle.page_ops.specs.declared.page_op.PageOp.TheVariants as pages
use Rattle.op_codec.specs.AllOps.{AllOps}
use Rattle.op_codec.specs.Sum.{by_family}
use Rattle.formats.specs.declared.record.Record.{Record}
use Rattle.formats.specs.declared.record.Record.TheVariants.{Command, Identity, Checkpoint}

-- the word of each kind, from number 0 on
abbrev pub kind_words : List (List ℕ)
kind_words =
    codes "put" ∷ codes "copy" ∷ codes "append" ∷ codes "cut" ∷ codes "sort" ∷ codes "swap" ∷ codes "exec" ∷ codes "aread" ∷ codes "awrite"
    ∷ codes "leaf_put" ∷ codes "leaf_delete" ∷ codes "split_child" ∷ codes "split_root"
    ∷ codes "pexec" ∷ codes "pread" ∷ codes "pwrite"
    ∷ codes "hash_begin" ∷ codes "bucket_put" ∷ codes "bucket_delete" ∷ codes "bucket_split"
    ∷ codes "page_put" ∷ codes "page_set" ∷ codes "page_delete" ∷ codes "page_part" ∷ codes "page_absorb" ∷ codes "page_join"
    ∷ codes "page_keep" ∷ codes "page_turn" ∷ codes "page_turn_two" ∷ codes "page_root" ∷ codes "page_free"
    ∷ codes "identity" ∷ codes "check" ∷ []

abbrev pub plain_kind : PlainOp → ℕ
plain_kind (Put x value) = 0
plain_kind (Copy from to) = 1
plain_kind (Append from to) = 2
plain_kind (Cut from to place) = 3
plain_kind (Sort from to width) = 4
plain_kind (Swap first second) = 5
plain_kind (Exec app) = 6
plain_kind (AppRead app from) = 7
plain_kind (AppWrite app to) = 8

abbrev pub node_kind : NodeOp → ℕ
node_kind (nodes.Put x key value) = 9
node_kind (nodes.Delete x key) = 10
node_kind (nodes.SplitChild parent child new) = 11
node_kind (nodes.SplitRoot root left right) = 12

abbrev pub program_kind : ProgramOp → ℕ
program_kind (Step app program) = 13
program_kind (Feed app from) = 14
program_kind (Drain app to) = 15

abbrev pub hash_kind : HashOp → ℕ
hash_kind (hashes.Init directory bucket) = 16
hash_kind (hashes.Put bucket key value) = 17
hash_kind (hashes.Delete bucket key) = 18
hash_kind (hashes.Split directory bucket new) = 19

abbrev pub page_kind : PageOp → ℕ
page_kind (pages.Put x i key value) = 20
page_kind (pages.Set x i value) = 21
page_kind (pages.Delete x i) = 22
page_kind (pages.Part new x i j) = 23
page_kind (pages.Absorb x other t) = 24
page_kind (pages.Join new x other i j) = 25
page_kind (pages.Keep x n) = 26
page_kind (pages.Turn x i r child) = 27
page_kind (pages.TurnTwo x i r child key second) = 28
page_kind (pages.Root x level left key right) = 29
page_kind (pages.Free x) = 30

abbrev pub op_kind : AllOps → ℕ
op_kind op = by_family plain_kind (by_family node_kind (by_family program_kind (by_family hash_kind page_kind))) op

-- the kind of a record: that of its command's operation; an identity write; a check
abbrev pub kind_of : Record AllOps → ℕ
kind_of (Command lsn op) = op_kind op
kind_of (Identity lsn x value) = 31
kind_of (Checkpoint table) = 32
