-- Where a key's pair stands in the bytes of pairs.
use Rattle.std.specs.Prelude.{◌≡◌, ◌≤◌, ℕ, Option, List, ◌++◌, length, take, drop, nat_lt, option_and_then}
use Rattle.std.specs.FinMap.Entries.{put}
use Rattle.key_entries.specs.Entries.{byte_order, short_field, entry_code, entries_code, entries_in, rising}
use Rattle.key_entries.specs.Pairs.{has, without}
use Rattle.key_entries.specs.declared.spot.Spot.{Spot}

-- the pairs that the bytes are: so many, with nothing behind them, whose keys rise
abbrev pub pairs_in : ℕ → List ℕ → Option (List (List ℕ × List ℕ))
pairs_in count bytes = option_and_then rising (entries_in short_field count bytes)

-- The bytes of these pairs with others in the spot are those after a put, and without it those after a delete. It is empty where the key is not there.
pub record IsSpot (key : List ℕ) (pairs : List (List ℕ × List ℕ)) (bytes : List ℕ) (spot : Spot) : Type 0 where
  pub order : spot.start ≤ spot.end
  pub within : spot.end ≤ length bytes
  pub there : has key pairs ≡ nat_lt spot.start spot.end
  pub after_put : (value : List ℕ) → entries_code short_field (put byte_order key value pairs) ≡ take spot.start bytes ++ (entry_code short_field (key, value) ++ drop spot.end bytes)
  pub after_delete : entries_code short_field (without key pairs) ≡ take spot.start bytes ++ drop spot.end bytes
