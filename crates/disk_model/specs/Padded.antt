-- Reads that go past a file's end.
use Rattle.std.proofs.Common.{inl, inr, ◌≡◌, ◌<◌, ◌≤◌, ◌+◌, ◌-◌, ℕ, List, ◌++◌, length, get_or, drop, replicate, sym, ◌∙◌, ap, arith, length-take, length-drop, length-append}
use Rattle.std.proofs.lemmas.List.{get_or-drop, get_or-take, get_or_past, get_or-replicate, append-nil, length-replicate}
use Rattle.std.proofs.Math.ListN.{get_or-append}
use Rattle.std.proofs.Math.Seq.{drop-append_seam}
use Rattle.std.proofs.lemmas.Bool.{cases_lt}
use Rattle.disk_model.specs.Disk.{read_of}

-- n bytes of which these are the first, the others 0
abbrev pub filled_up : ℕ → List ℕ → List ℕ
filled_up n bytes = bytes ++ replicate (n - length bytes) 0

-- the n bytes of a file at an offset, where a byte past its end counts as 0
abbrev pub padded : List ℕ → ℕ → ℕ → List ℕ
padded file at n = filled_up n (read_of file at n)

module _ (file : List ℕ) (at n : ℕ) where
  pub length-padded : length (padded file at n) ≡ n
  length-padded = omega (arith, length-append (read_of file at n) (replicate {A = ℕ} (n - length (read_of file at n)) 0), length-replicate {A = ℕ} (n - length (read_of file at n)) 0, length-take n (drop at file), length-drop at file)

  pub length-read_of : at + n ≤ length file → length (read_of file at n) ≡ n
  length-read_of within = omega (arith, length-take n (drop at file), length-drop at file)

  -- nothing is added to a read within the file
  pub padded-within : at + n ≤ length file → padded file at n ≡ read_of file at n
  padded-within within =
      let none : n - length (read_of file at n) ≡ 0 = omega (arith, length-read_of within) in
      ap (λ (k : ℕ). read_of file at n ++ replicate {A = ℕ} k 0) none ∙ append-nil (read_of file at n)

  -- each byte is the file's, or 0 past its end
  pub get_or-padded : (i : ℕ) → i < n → get_or (padded file at n) i 0 ≡ get_or file (at + i) 0
  get_or-padded i less =
      let front = read_of file at n in
      let zeros = replicate {A = ℕ} (n - length front) 0 in
      elim (cases_lt i (length front)) [
        | inl inside ↦ get_or-append front zeros 0 i inside ∙ get_or-take n (drop at file) i 0 less ∙ get_or-drop at file i 0
        | inr past ↦
            let long = length-take n (drop at file) in
            let rest = length-drop at file in
            let after : length file ≤ at + i = omega (arith, long, rest) in
            let j = i - length front in
            let split : length front + j ≡ i = omega arith in
            ap (λ (k : ℕ). get_or (front ++ zeros) k 0) (sym split) ∙ sym (get_or-drop (length front) (front ++ zeros) j 0) ∙ ap (λ (l : List ℕ). get_or l j 0) (drop-append_seam front zeros)
            ∙ get_or-replicate (n - length front) j 0 0 (omega arith) ∙ sym (get_or_past file (at + i) 0 after)
      ]
