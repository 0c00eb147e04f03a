-- A file that is filled object by object, before it is in use.
use Rattle.std.specs.Prelude.{◌≡◌, ◌<◌, ◌≤◌, ℕ, List}
use Rattle.oper_core.specs.Cell.{Cell}
use Rattle.formats.specs.Bytes.{IsClosedAt}
use Rattle.formats.specs.Objects.{IsObjectsFile, place_in, cell_of}
use Rattle.formats.specs.declared.params.Params.{Params}

-- the file is that of a store with these numbers, the objects below n have these cells, and the slots of the others are closed
pub record IsFilledTo (p : Params) (n : ℕ) (cells : ℕ → Cell) (file : List ℕ) : Type 0 where
  pub whole : IsObjectsFile p file
  pub held : (x : ℕ) → x < n → x < p.objects → cell_of x file ≡ cells x
  pub rest : (x s : ℕ) → n ≤ x → x < p.objects → s < 2 → IsClosedAt (place_in file x s) file
