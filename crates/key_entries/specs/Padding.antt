-- A short list of bytes in an array of 32: after it stand zeros.
use Rattle.std.proofs.Common.{◌≡◌, ℕ, ◌-◌, ◌≤◌, List, ◌++◌, length, take, drop, replicate, sym, ap, ◌∙◌, arith, take-append-drop, length-take}
use Rattle.key_entries.specs.declared.short.Short.TheInside.{Inside}

-- the array is whole, and holds so many bytes and then zeros
pub record IsPadded (s : Inside) : Type 0 where
  pub whole : length s.bytes ≡ 32
  pub some : 1 ≤ s.len
  pub few : s.len ≤ 32
  pub zeros : drop s.len s.bytes ≡ replicate (32 - s.len) 0

-- the bytes
abbrev pub bytes_of : Inside → List ℕ
bytes_of s = take s.len s.bytes

-- the array with these bytes in front
abbrev pub padded : List ℕ → Inside
padded bytes = record { bytes = bytes ++ replicate (32 - length bytes) 0; len = length bytes }

pub padded-bytes_of : (s : Inside) → IsPadded s → padded (bytes_of s) ≡ s
padded-bytes_of s pad =
    let size : length (bytes_of s) ≡ s.len = length-take s.len s.bytes ∙ omega (arith, pad.whole, pad.few) in
    let same : bytes_of s ++ replicate (32 - length (bytes_of s)) 0 ≡ s.bytes =
    ap (λ (n : ℕ). bytes_of s ++ replicate (32 - n) 0) size ∙ ap (λ (l : List ℕ). bytes_of s ++ l) (sym pad.zeros) ∙ take-append-drop s.len s.bytes in
    λ i. record { bytes = same i; len = size i }
