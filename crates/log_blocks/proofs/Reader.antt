-- What a reader of payloads finds in a whole log.
use Rattle.std.proofs.Common.{◌≡◌, ◌≢◌, ◌<◌, ◌≤◌, ◌+◌, ◌-◌, ℕ, List, [], ◌∷◌, ◌++◌, true, length, get_or, take, drop, refl, sym, ◌∙◌, ap, subst, arith, append_assoc, length-append, take-append-drop}
use Rattle.std.specs.Prelude.{All}
use Rattle.std.proofs.lemmas.List.{append-nil, nil_from_length, take_at, drop_at, drop-drop, get_or-take, get_or-drop}
use Rattle.std.proofs.lemmas.List.Concat.{flat_map-append}
use Rattle.std.proofs.lemmas.List.Elements.{All-nil, All-cons, All-head, All-tail}
use Rattle.std.proofs.Math.Seq.{take-add}
use Rattle.byteorder.specs.Endian.{little_bytes, little_number}
use Rattle.byteorder.specs.Numbers.{length-bytes_low_first, little_number-reads_back}
use Rattle.disk_model.specs.Disk.{read_of}
use Rattle.disk_model.specs.Padded.{length-read_of}
use Rattle.formats.specs.Bytes.{IsClosedAt}
use Rattle.formats.specs.Log.{Header, header_bytes, block, blocks, end_of, IsPayload, IsWholeLog}
use Rattle.log_blocks.specs.Forcing.{with_block}
use Rattle.log_blocks.specs.Laws.{blocks-push, with_block-some, length-block, length-header_bytes, no_block_fault}
use Rattle.log_blocks.specs.Payloads.{PayloadReaderView, IsInLog, HasNext, remaining, untaken}
use Rattle.log_blocks.specs.Reading.{IsBlockHead, IsBroken, IsReadTo}
use Rattle.log_blocks.proofs.ReadTo.{block_fault}

-- what stands at the gate after the first payloads of a whole log
record Behind (file : List ℕ) (gate : ℕ) (later : List (List ℕ)) : Type 0 where
  byte : ℕ
  rest : List ℕ
  split : drop gate file ≡ blocks later ++ byte ∷ rest
  closed : byte ≢ 1

split_behind : (h : Header) (passed later : List (List ℕ)) (file : List ℕ) → (is : IsWholeLog h (passed ++ later) file) → file ≡ (header_bytes h ++ blocks passed) ++ (blocks later ++ is.log.gate ∷ is.log.rest)
split_behind h passed later file is =
    is.log.split ∙ ap (λ (l : List ℕ). (header_bytes h ++ l) ++ is.log.gate ∷ is.log.rest) (flat_map-append block passed later)
    ∙ ap (λ (l : List ℕ). l ++ is.log.gate ∷ is.log.rest) (sym (append_assoc (header_bytes h) (blocks passed) (blocks later)))
    ∙ append_assoc (header_bytes h ++ blocks passed) (blocks later) (is.log.gate ∷ is.log.rest)

behind : (h : Header) (passed later : List (List ℕ)) (file : List ℕ) (gate : ℕ) → IsWholeLog h (passed ++ later) file → gate ≡ end_of passed → Behind file gate later
behind h passed later file gate is here =
    let front : length (header_bytes h ++ blocks passed) ≡ gate = omega (arith, here, length-append (header_bytes h) (blocks passed), length-header_bytes h) in
    record { byte = is.log.gate; rest = is.log.rest; split = ap (drop gate) (split_behind h passed later file is) ∙ drop_at (header_bytes h ++ blocks passed) (blocks later ++ is.log.gate ∷ is.log.rest) gate front; closed = is.log.closed }

-- payloads before and after a place are payloads
whole_front : (ps qs : List (List ℕ)) → All IsPayload (ps ++ qs) → All IsPayload ps
whole_front [] qs all = All-nil IsPayload
whole_front (p ∷ ps) qs all = All-cons IsPayload p ps (All-head IsPayload p (ps ++ qs) all) (whole_front ps qs (All-tail IsPayload p (ps ++ qs) all))

whole_behind : (ps qs : List (List ℕ)) → All IsPayload (ps ++ qs) → All IsPayload qs
whole_behind [] qs all = all
whole_behind (p ∷ ps) qs all = whole_behind ps qs (All-tail IsPayload p (ps ++ qs) all)

-- the file as far as the first payloads of a whole log
read_to : (h : Header) (passed later : List (List ℕ)) (file : List ℕ) (gate : ℕ) → IsWholeLog h (passed ++ later) file → gate ≡ end_of passed → gate < length file → IsReadTo file gate passed
read_to h passed later file gate is here within =
    let front : length (header_bytes h ++ blocks passed) ≡ gate = omega (arith, here, length-append (header_bytes h) (blocks passed), length-header_bytes h) in
    let rest = blocks later ++ is.log.gate ∷ is.log.rest in
    let all = split_behind h passed later file is in
    record {
      whole = whole_front passed later is.whole;
      here = here;
      front = ap (take gate) all ∙ take_at (header_bytes h ++ blocks passed) rest gate front
          ∙ ap (λ (l : List ℕ). l ++ blocks passed) (sym (ap (take 33) (all ∙ append_assoc (header_bytes h) (blocks passed) rest) ∙ take_at (header_bytes h) (blocks passed ++ rest) 33 (length-header_bytes h)));
      within = λ first. within;
    }

-- the byte at a gate is the first one after it
first_at : (file : List ℕ) (gate byte : ℕ) (rest : List ℕ) → drop gate file ≡ byte ∷ rest → get_or file gate 0 ≡ byte
first_at file gate byte rest split = ap (λ (n : ℕ). get_or file n 0) (omega arith) ∙ sym (get_or-drop gate file 0 0) ∙ ap (λ (l : List ℕ). get_or l 0 0) split

-- at a closed gate no payload is left
none_left : (file : List ℕ) (gate : ℕ) (later : List (List ℕ)) → Behind file gate later → IsClosedAt gate file → later ≡ []
none_left file gate [] b closed = refl
none_left file gate (p ∷ later) b closed =
    absurd (closed (first_at file gate 1 _ (b.split ∙ append_assoc (block p) (blocks later) (b.byte ∷ b.rest))))

-- at the head of a block stands the next payload
next_is : (file : List ℕ) (gate len : ℕ) (later : List (List ℕ)) → Behind file gate later → All IsPayload later → IsBlockHead gate len file → (rest : List (List ℕ)) × (later ≡ read_of file (gate + 5) len ∷ rest)
next_is file gate len [] b whole head =
    let opens : get_or file gate 0 ≡ 1 = ap (λ (n : ℕ). get_or file n 0) (omega arith) ∙ sym (get_or-drop gate file 0 0) ∙ sym (get_or-take 5 (drop gate file) 0 0 (omega arith)) ∙ ap (λ (l : List ℕ). get_or l 0 0) head.head in
    absurd (b.closed (sym (first_at file gate b.byte b.rest b.split) ∙ opens))
next_is file gate len (p ∷ later) b whole head =
    let is = All-head IsPayload p later whole in
    let rest = blocks later ++ b.byte ∷ b.rest in
    let here : drop gate file ≡ block p ++ rest = b.split ∙ append_assoc (block p) (blocks later) (b.byte ∷ b.rest) in
    let size = little_bytes 4 (length p) in
    let long = length-bytes_low_first 0 4 (length p) in
    let sizes : size ≡ little_bytes 4 len =
    sym (ap (take 4) (append_assoc size p rest) ∙ take_at size (p ++ rest) 4 long) ∙ ap (drop 1) (sym (ap (take 5) here) ∙ head.head) in
    let number : length p ≡ len =
    sym (little_number-reads_back 4 (length p) [] (omega (arith, is.short))) ∙ ap (λ (l : List ℕ). little_number 4 (l ++ [])) sizes
    ∙ little_number-reads_back 4 len [] (omega (arith, head.short)) in
    let bytes : drop (gate + 5) file ≡ p ++ rest =
    sym (drop-drop 5 gate file) ∙ ap (drop 5) here ∙ ap (drop 4) (append_assoc size p rest) ∙ drop_at size (p ++ rest) 4 long in
    (later, λ i. sym (ap (take len) bytes ∙ take_at p rest len number) i ∷ later)

module _ (file : List ℕ) (it : PayloadReaderView) where
  -- the reader with further bytes in memory
  abbrev pub with_more : List ℕ → ℕ → PayloadReaderView
  with_more bytes n = record { file = it.file; size = it.size; bytes = bytes; place = it.place + n; left = it.left - n }

  same_untaken : (bytes : List ℕ) (n : ℕ) → n ≤ it.left → bytes ≡ it.bytes ++ read_of file it.place n → untaken file (with_more bytes n) ≡ untaken file it
  same_untaken bytes n within is =
      let ahead = drop it.place file in
      let all : n + (it.left - n) ≡ it.left = omega (arith, within) in
      ap (λ (l : List ℕ). l ++ take (it.left - n) (drop (it.place + n) file)) is ∙ append_assoc it.bytes (take n ahead) (take (it.left - n) (drop (it.place + n) file))
      ∙ ap (λ (l : List ℕ). it.bytes ++ (take n ahead ++ take (it.left - n) l)) (sym (drop-drop n it.place file))
      ∙ ap (λ (l : List ℕ). it.bytes ++ l) (sym (take-add n (it.left - n) ahead))
      ∙ ap (λ (k : ℕ). it.bytes ++ take k ahead) all

  -- it stands where it stood
  pub in_log_more : (payloads passed : List (List ℕ)) (taken : List ℕ) (later : List (List ℕ)) (bytes : List ℕ) (n : ℕ) → n ≤ it.left → bytes ≡ it.bytes ++ read_of file it.place n
      → IsInLog file it payloads passed taken later → IsInLog file (with_more bytes n) payloads passed taken later
  in_log_more payloads passed taken later bytes n within is stands =
      let same = same_untaken bytes n within is in
      let passed_same = ap (λ (l : List ℕ). with_block passed (taken ++ l)) same in
      record {
        header = stands.header;
        whole = stands.whole;
        payloads_are = stands.payloads_are ∙ ap (λ (l : List (List ℕ)). l ++ later) (sym passed_same);
        gate = omega (arith, within, stands.gate, ap end_of passed_same);
        within = omega (arith, within, stands.within);
        size = stands.size;
      }

  -- and after bytes that it takes, with these taken
  pub in_log_taken : (payloads passed : List (List ℕ)) (taken : List ℕ) (later : List (List ℕ)) (n : ℕ) → n ≤ length it.bytes → IsInLog file it payloads passed taken later
      → IsInLog file (record it { bytes = drop n it.bytes }) payloads passed (taken ++ take n it.bytes) later
  in_log_taken payloads passed taken later n within stands =
      let ahead = read_of file it.place it.left in
      let same : (taken ++ take n it.bytes) ++ (drop n it.bytes ++ ahead) ≡ taken ++ untaken file it =
      append_assoc taken (take n it.bytes) (drop n it.bytes ++ ahead) ∙ ap (λ (l : List ℕ). taken ++ l) (sym (append_assoc (take n it.bytes) (drop n it.bytes) ahead))
      ∙ ap (λ (l : List ℕ). taken ++ (l ++ ahead)) (take-append-drop n it.bytes) in
      let passed_same = ap (λ (l : List ℕ). with_block passed l) same in
      record {
        header = stands.header;
        whole = stands.whole;
        payloads_are = stands.payloads_are ∙ ap (λ (l : List (List ℕ)). l ++ later) (sym passed_same);
        gate = stands.gate ∙ ap end_of (sym passed_same);
        within = stands.within;
        size = stands.size;
      }

  module _ (payloads passed : List (List ℕ)) (taken : List ℕ) (later : List (List ℕ)) (through : remaining it ≡ 0) (stands : IsInLog file it payloads passed taken later) where
    abbrev gate : ℕ
    gate = it.place + it.left

    no_bytes : it.bytes ≡ []
    no_bytes = nil_from_length it.bytes (omega (arith, through))

    none_behind : it.left ≡ 0
    none_behind = omega (arith, through)

    -- all that it has in hand is passed
    nothing_untaken : taken ++ untaken file it ≡ taken
    nothing_untaken =
        ap (λ (l : List ℕ). taken ++ (l ++ read_of file it.place it.left)) no_bytes
        ∙ ap (λ (n : ℕ). taken ++ take n (drop it.place file)) none_behind ∙ append-nil taken

    all_passed : payloads ≡ with_block passed taken ++ later
    all_passed = stands.payloads_are ∙ ap (λ (l : List ℕ). with_block passed l ++ later) nothing_untaken

    at_gate : gate ≡ end_of (with_block passed taken)
    at_gate = stands.gate ∙ ap (λ (l : List ℕ). end_of (with_block passed l)) nothing_untaken

    log : IsWholeLog stands.header (with_block passed taken ++ later) file
    log = subst (λ (l : List (List ℕ)). IsWholeLog stands.header l file) all_passed stands.whole

    stands_behind : Behind file gate later
    stands_behind = behind stands.header (with_block passed taken) later file gate log at_gate

    pub in_log_end : IsClosedAt gate file → payloads ≡ with_block passed taken
    in_log_end closed = all_passed ∙ ap (λ (l : List (List ℕ)). with_block passed taken ++ l) (none_left file gate later stands_behind closed) ∙ append-nil (with_block passed taken)

    -- the reader with a payload of so many bytes in hand, of which these are in memory
    abbrev with_next : ℕ → List ℕ → PayloadReaderView
    with_next len bytes = record { file = it.file; size = it.size; bytes = bytes; place = gate + 5; left = len }

    pub in_log_next : (len : ℕ) → IsBlockHead gate len file → HasNext file (with_next len it.bytes) payloads (with_block passed taken) later true
    in_log_next len head =
        let before = with_block passed taken in
        let payload = read_of file (gate + 5) len in
        let next = next_is file gate len later stands_behind (whole_behind before later log.whole) head in
        let long = length-read_of file (gate + 5) len (omega (arith, head.within)) in
        let more = with_block-some before payload (omega (arith, head.some, long)) in (
          payload,
          next.0,
          next.1,
          subst (λ (bytes : List ℕ). IsInLog file (with_next len bytes) payloads before [] next.0) (sym no_bytes) (record {
            header = stands.header;
            whole = stands.whole;
            payloads_are = all_passed ∙ ap (λ (l : List (List ℕ)). before ++ l) next.1 ∙ sym (append_assoc before (payload ∷ []) next.0) ∙ ap (λ (l : List (List ℕ)). l ++ next.0) (sym more);
            gate = omega (arith, at_gate, ap end_of more, ap length (blocks-push before payload), length-append (blocks before) (block payload), length-block payload, long);
            within = head.within;
            size = stands.size;
          }),
        )

    pub in_log_whole : IsBroken gate file → ⊥
    in_log_whole broken =
        let read = read_to stands.header (with_block passed taken) later file gate log at_gate stands.within in
        no_block_fault stands.header payloads file (gate + 1) stands.whole (block_fault file gate (with_block passed taken) read broken)
