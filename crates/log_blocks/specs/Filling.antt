-- What a file keeps that is filled ahead.
use Rattle.std.specs.Prelude.{◌≡◌, ◌<◌, ◌+◌, ℕ, List, length, take}

-- a file that reaches to this gate has the same bytes up to it, the gate too
abbrev pub KeepsUpTo : ℕ → List ℕ → List ℕ → Type 0
KeepsUpTo gate old new = gate < length old → (gate < length new) × (take (gate + 1) new ≡ take (gate + 1) old)
