-- What calls that change names do, in a store of some commands.
use Rattle.std.specs.Prelude.{◌≡◌, ◌≢◌, ◌<◌, ◌≤◌, ℕ, true, None, Some, List, [], ◌++◌}
use Rattle.std.specs.FinMap.{get, insert, remove}
use Rattle.formats.specs.Objects.{bounds_of}
use Rattle.formats.specs.declared.params.Params.{Params}
use Rattle.page_map.specs.declared.refusal.MapRefusal.TheVariants.{MapFull, NoKey}
use Rattle.range_calls.specs.Store.{Command, state_of}
use Rattle.range_calls.specs.declared.call_err.CallErr.TheVariants.{Refused}
use Rattle.map_client.specs.Answers.{MapErr}
use Rattle.map_client.specs.declared.call_refusal.CallRefusal.TheVariants.{Map}
use Rattle.named_words.specs.Effects.{Names, is_short}
use Rattle.name_ranges.specs.Directory.{Directory, IsSpare, key_of, object_of, sizes_of}
use Rattle.name_ranges.specs.Named.{IsNamed, directory_of}
use Rattle.name_ranges.specs.Putting.{directory_with, written_in}
use Rattle.named_objects.specs.Giving.{given_value, put_comes, source_of, take_comes}
use Rattle.named_objects.specs.Records.{levels_of, put_most, record_bytes, take_most}
use Rattle.named_objects.specs.declared.given.Given.{Given}

-- behind more commands the range has these names in this directory
pub record AreNamed (p : Params) (lo hi : ℕ) (commands : List Command) (names : Names) (directory : Directory) : Type 0 where
  pub named : IsNamed (bounds_of p) lo hi (state_of p commands) names
  pub content : directory_of named ≡ directory

module _ (p : Params) (commands : List Command) (lo hi : ℕ) (names : Names) (is : IsNamed (bounds_of p) lo hi (state_of p commands) names) (name : List ℕ) where
  -- objects behind the range, but for some, have what they had
  abbrev pub Stay : List Command → (ℕ → Type 0) → Type 0
  Stay ops But = (z : ℕ) → hi < z → (But z → ⊥) → state_of p (commands ++ ops) z ≡ state_of p commands z

  -- The name is taken away; or it is not there, and nothing is done. The log gets no more than so many bytes.
  pub record TakeActs : Type 0 where
    pub done : (take_comes lo hi name p commands).refusal ≡ None
        → AreNamed p lo hi (commands ++ (take_comes lo hi name p commands).commands) (remove names name) (remove (directory_of is) (key_of name))
    pub refused : (e : MapErr) → (take_comes lo hi name p commands).refusal ≡ Some e
        → (e ≡ Refused (Map NoKey)) × (get names name ≡ None) × ((take_comes lo hi name p commands).commands ≡ [])
    pub others : Stay (take_comes lo hi name p commands).commands (λ z. ⊥)
    pub few : record_bytes p (take_comes lo hi name p commands).commands ≤ take_most p.cap (levels_of lo (state_of p commands))

  module _ (given : Given) (spare : ℕ) where
    abbrev pub bytes : List ℕ
    bytes = given_value (state_of p commands) (get names name) given

    -- the object that is written: the one of the name, or a spare one where the name is new
    abbrev pub written : ℕ
    written = written_in spare (object_of (directory_of is) name)

    -- name and value are short; the object that is written is spare where the name is new; and a value of an object is that of another one
    pub record IsGiving : Type 0 where
      pub short : is_short (sizes_of (bounds_of p)) name bytes ≡ true
      pub spare_is : object_of (directory_of is) name ≡ None → IsSpare hi p.objects (directory_of is) spare
      pub source : (y : ℕ) → source_of given ≡ Some y → (y < p.objects) × (y ≢ written)

    -- The name is given the value; or the range is full, and no name is changed. All other objects behind the range have what they
    -- had, and the log gets no more than so many bytes.
    pub record PutActs : Type 0 where
      pub done : (put_comes lo hi name given spare p commands).refusal ≡ None
          → AreNamed p lo hi (commands ++ (put_comes lo hi name given spare p commands).commands) (insert names name bytes) (directory_with (directory_of is) name spare)
      pub refused : (e : MapErr) → (put_comes lo hi name given spare p commands).refusal ≡ Some e
          → (e ≡ Refused (Map MapFull)) × AreNamed p lo hi (commands ++ (put_comes lo hi name given spare p commands).commands) names (directory_of is)
      pub others : Stay (put_comes lo hi name given spare p commands).commands (λ z. z ≡ written)
      pub few : record_bytes p (put_comes lo hi name given spare p commands).commands ≤ put_most p.cap (levels_of lo (state_of p commands)) given
