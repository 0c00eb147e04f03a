-- What a reader of lines holds.
use Rattle.std.specs.Prelude.{◌≡◌, ℕ, ◌-◌, ◌≤◌, ◌^◌, List, length, take, drop}

-- a reader of lines, as its callers see it
pub record Reader : Type 0 where
  -- the bytes that were taken off the source and not yet given as lines
  pub ahead : List ℕ
  -- the line that was found last
  pub line : List ℕ
  -- so many bytes were taken off the source
  pub taken : ℕ

-- the bytes of a piece from one place up to another
abbrev pub unread : List ℕ → ℕ → ℕ → List ℕ
unread piece start stop = take (stop - start) (drop start piece)

-- the places are those of a piece, and no more is stored or taken than may be
pub record IsReader (piece : List ℕ) (start stop : ℕ) (line : List ℕ) (taken : ℕ) : Type 0 where
  pub ordered : start ≤ stop
  pub within : stop ≤ length piece
  pub size : length piece ≡ 65536
  pub short : length line ≤ 40001
  pub bound : taken ≤ 2 ^ 40
