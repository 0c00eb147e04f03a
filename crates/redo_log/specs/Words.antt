-- An operation in words: those of the script line that asks for it, or, where no line asks for it alone, its name and what it
-- names.
use Rattle.std.specs.Prelude.{ℕ, ◌++◌, List, [], ◌∷◌, codes}
use Rattle.std.specs.List.{flat_map}
use Rattle.op_meaning.specs.declared.plain_op.PlainOp.{PlainOp}
use Rattle.op_meaning.specs.declared.plain_op.PlainOp.TheVariants.{Put, Copy, Append, Cut, Sort, Swap, Exec, AppRead, AppWrite}
use Rattle.btree_ops.specs.declared.node_op.NodeOp.{NodeOp}
use Rattle.btree_ops.specs.declared.node_op.NodeOp.TheVariants as nodes
use Rattle.app_program.specs.declared.program_op.ProgramOp.{ProgramOp}
use Rattle.app_program.specs.declared.program_op.ProgramOp.TheVariants.{Step, Feed, Drain}
use Rattle.hash_ops.specs.declared.hash_op.HashOp.{HashOp}
use Rattle.hash_ops.specs.declared.hash_op.HashOp.TheVariants as hashes
use Rattle.page_ops.specs.declared.page_op.PageOp.{PageOp}
use Rattle.page_ops.specs.declared.page_op.PageOp.TheVariants as pages
use Rattle.op_codec.specs.AllOps.{AllOps}
use Rattle.op_codec.specs.Sum.{by_family}
use Rattle.script_lines.specs.Replies.{hex_text, spaced}

-- each number in digits, after a space
abbrev pub numbers : List ℕ → List ℕ
numbers ns = flat_map spaced ns

-- bytes in hexadecimal, after a space
abbrev pub spaced_hex : List ℕ → List ℕ
spaced_hex bytes = 32 ∷ hex_text bytes

abbrev pub plain_words : PlainOp → List ℕ
plain_words (Put x value) = codes "put" ++ spaced x ++ spaced_hex value
plain_words (Copy from to) = codes "copy" ++ numbers (from ∷ to ∷ [])
plain_words (Append from to) = codes "append" ++ numbers (from ∷ to ∷ [])
plain_words (Cut from to place) = codes "cut" ++ numbers (from ∷ to ∷ place ∷ [])
plain_words (Sort from to width) = codes "sort" ++ numbers (from ∷ to ∷ width ∷ [])
plain_words (Swap first second) = codes "swap" ++ numbers (first ∷ second ∷ [])
plain_words (Exec app) = codes "exec" ++ numbers (app ∷ [])
plain_words (AppRead app from) = codes "aread" ++ numbers (app ∷ from ∷ [])
plain_words (AppWrite app to) = codes "awrite" ++ numbers (app ∷ to ∷ [])

abbrev pub program_words : ProgramOp → List ℕ
program_words (Step app program) = codes "pexec" ++ numbers (app ∷ program ∷ [])
program_words (Feed app from) = codes "pread" ++ numbers (app ∷ from ∷ [])
program_words (Drain app to) = codes "pwrite" ++ numbers (app ∷ to ∷ [])

abbrev pub node_words : NodeOp → List ℕ
node_words (nodes.Put x key value) = codes "leaf_put" ++ spaced x ++ spaced_hex key ++ spaced_hex value
node_words (nodes.Delete x key) = codes "leaf_delete" ++ spaced x ++ spaced_hex key
node_words (nodes.SplitChild parent child new) = codes "split_child" ++ numbers (parent ∷ child ∷ new ∷ [])
node_words (nodes.SplitRoot root left right) = codes "split_root" ++ numbers (root ∷ left ∷ right ∷ [])

abbrev pub hash_words : HashOp → List ℕ
hash_words (hashes.Init directory bucket) = codes "hash_begin" ++ numbers (directory ∷ bucket ∷ [])
hash_words (hashes.Put bucket key value) = codes "bucket_put" ++ spaced bucket ++ spaced_hex key ++ spaced_hex value
hash_words (hashes.Delete bucket key) = codes "bucket_delete" ++ spaced bucket ++ spaced_hex key
hash_words (hashes.Split directory bucket new) = codes "bucket_split" ++ numbers (directory ∷ bucket ∷ new ∷ [])

abbrev pub page_words : PageOp → List ℕ
page_words (pages.Put x i key value) = codes "page_put" ++ spaced x ++ spaced i ++ spaced_hex key ++ spaced_hex value
page_words (pages.Set x i value) = codes "page_set" ++ spaced x ++ spaced i ++ spaced_hex value
page_words (pages.Delete x i) = codes "page_delete" ++ spaced x ++ spaced i
page_words (pages.Part new x i j) = codes "page_part" ++ numbers (new ∷ x ∷ []) ++ spaced i ++ spaced j
page_words (pages.Absorb x other t) = codes "page_absorb" ++ spaced x ++ spaced other ++ spaced t
page_words (pages.Join new x other i j) = codes "page_join" ++ numbers (new ∷ x ∷ other ∷ []) ++ spaced i ++ spaced j
page_words (pages.Keep x n) = codes "page_keep" ++ spaced x ++ spaced n
page_words (pages.Turn x i r child) = codes "page_turn" ++ spaced x ++ spaced i ++ spaced r ++ spaced child
page_words (pages.TurnTwo x i r child key second) =
    codes "page_turn_two" ++ spaced x ++ spaced i ++ spaced r ++ spaced child ++ spaced_hex key ++ spaced second
page_words (pages.Root x level left key right) = codes "page_root" ++ spaced x ++ spaced level ++ spaced left ++ spaced_hex key ++ spaced right
page_words (pages.Free x) = codes "page_free" ++ numbers (x ∷ [])

abbrev pub op_words : AllOps → List ℕ
op_words op = by_family plain_words (by_family node_words (by_family program_words (by_family hash_words page_words))) op
