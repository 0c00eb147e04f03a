-- A small store with one name.
use Rattle.std.specs.Prelude.{◌==◌, true, codes, [], ◌∷◌, if◌then◌else◌}
use Rattle.std.specs.FinMap.{empty, insert}
use Rattle.oper_core.specs.State.{State}
use Rattle.oper_core.specs.declared.bounds.Bounds.{Bounds}
use Rattle.page_ops.specs.Page.{page_of}
use Rattle.named_words.specs.Effects.{Names}
use Rattle.name_ranges.specs.Directory.{Directory, key_of, number_bytes}

abbrev pub bounds : Bounds
bounds = record { objects = 100; cap = 1024; more = true }

-- objects 0 to 3 are the range, and the name a has object 5, with the value 10
abbrev pub sample : State
sample x = if x == 0 then page_of 0 ((key_of (codes "a"), number_bytes 5) ∷ []) else if x == 5 then codes "10" else []

abbrev pub of_a : Directory
of_a = insert empty (key_of (codes "a")) (number_bytes 5)

abbrev pub only_a : Names
only_a = insert empty (codes "a") (codes "10")
