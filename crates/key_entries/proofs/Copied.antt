-- Bytes that were copied into an array of zeros.
use Rattle.std.proofs.Common.{◌≡◌, ℕ, ◌-◌, ◌≤◌, List, ◌++◌, length, drop, replicate, subst, ap, ◌∙◌, arith, length-append}
use Rattle.std.proofs.Math.Seq.{drop-append_seam}
use Rattle.std.proofs.lemmas.List.{drop-replicate, length-replicate}
use Rattle.key_entries.specs.Padding.{IsPadded}

pub copied : (bytes copy : List ℕ) → copy ≡ bytes → 1 ≤ length bytes → length bytes ≤ 32
    → IsPadded (record { bytes = copy ++ drop (length bytes) (replicate 32 0); len = length bytes })
copied bytes copy same some few =
    let behind : drop (length bytes) (replicate 32 0) ≡ replicate (32 - length bytes) 0 = drop-replicate (length bytes) 32 0 in
    let size : length copy ≡ length bytes = ap length same in
    let rest : length (drop (length bytes) (replicate 32 0)) ≡ 32 - length bytes = ap length behind ∙ length-replicate {A = ℕ} (32 - length bytes) 0 in
    record {
      whole = length-append copy (drop (length bytes) (replicate 32 0)) ∙ omega (arith, rest, size);
      some = some;
      few = few;
      zeros = subst (λ (n : ℕ). drop n (copy ++ drop (length bytes) (replicate 32 0)) ≡ replicate (32 - length bytes) 0) size (drop-append_seam copy (drop (length bytes) (replicate 32 0)) ∙ behind);
    }
