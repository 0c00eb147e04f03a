-- What a call finds on its way.
use Rattle.std.specs.Prelude.{ℕ, Option, None, Some, Result, Ok, Err, List, [], ◌∷◌, nat_le, if◌then◌else◌}
use Rattle.hash_ops.specs.declared.bucket.Bucket.{Bucket}
use Rattle.hash_ops.specs.declared.directory.Directory.{Directory}
use Rattle.hash_ops.specs.Blocks.{directory_in, bucket_in}
use Rattle.hash_file.specs.Find.{Met, unused, bad, found, is_inside}
use Rattle.hash_file.specs.declared.refusal.HashRefusal.{HashRefusal}
use Rattle.hash_file.specs.declared.refusal.HashRefusal.TheVariants.{BadHash, NoRoom}
use Rattle.range_calls.specs.declared.call_err.CallErr.{CallErr}
use Rattle.range_calls.specs.declared.call_err.CallErr.TheVariants.{Refused}
use Rattle.hash_client.specs.declared.finding.Found.{Found}

-- an object that is not what it should be
abbrev pub bad_hash : ℕ → CallErr HashRefusal
bad_hash object = Refused (BadHash object)

abbrev pub directory_or_bad : ℕ → Option Directory → Result (Option Directory) (CallErr HashRefusal)
directory_or_bad object None = Err (bad_hash object)
directory_or_bad object (Some directory) = Ok (Some directory)

-- the directory that the object's value is, or none of the empty value
abbrev pub directory_answer : ℕ → List ℕ → Result (Option Directory) (CallErr HashRefusal)
directory_answer object [] = Ok None
directory_answer object (b ∷ bytes) = directory_or_bad object (directory_in (b ∷ bytes))

-- the bucket, unless it is none, or too deep for a directory of this depth
abbrev pub bucket_or_bad : ℕ → ℕ → Option Bucket → Result Bucket (CallErr HashRefusal)
bucket_or_bad object depth None = Err (bad_hash object)
bucket_or_bad object depth (Some bucket) = if nat_le bucket.depth depth then Ok bucket else Err (bad_hash object)

-- the bucket that the object's value is, where a directory of this depth may name it
abbrev pub bucket_answer : ℕ → ℕ → ℕ → ℕ → List ℕ → Result Bucket (CallErr HashRefusal)
bucket_answer lo hi depth object value = if is_inside lo hi object then bucket_or_bad object depth (bucket_in value) else Err (bad_hash object)

-- what is met where a key is looked for, as an answer
abbrev pub met_answer : Met → Result (Option Found) (CallErr HashRefusal)
met_answer unused = Ok None
met_answer (bad object) = Err (bad_hash object)
met_answer (found object bucket) = Ok (Some (record { object = object; bucket = bucket }))

-- the least of the free objects
abbrev pub free_answer : List ℕ → Result ℕ (CallErr HashRefusal)
free_answer [] = Err (Refused (NoRoom 0))
free_answer (x ∷ free) = Ok x
