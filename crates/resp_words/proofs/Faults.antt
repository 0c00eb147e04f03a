-- Why bytes are bad.
use Rattle.std.proofs.Common.{length, ◌<◌, ◌≡◌, ◌≢◌, ◌∙◌, refl, sym, ap, subst, ◌≤◌, ℕ, List, [], ◌∷◌, ◌++◌, get_or}
use Rattle.std.specs.Fmt.{decimal}
use Rattle.std.specs.List.{flat_map}
use Rattle.resp_words.specs.Commands.{BeginsOtherwise, HasCause, IsBulk, IsInArray, IsNumberLine, bulk, ended}
use Rattle.resp_words.specs.Faults.{IsBulkFault, IsBulksFault, IsLineFault}
use Rattle.resp_words.specs.Reading.{IsBad}
use Rattle.resp_words.specs.Runs.{IsCut, StopsAt, is_plain}
use Rattle.resp_words.specs.declared.limits.Limits.{Limits}
use Rattle.resp_words.specs.declared.protocol_error.ProtocolError.{ProtocolError}
use Rattle.resp_words.specs.declared.protocol_error.ProtocolError.TheVariants.{BadCount, NoDollar, BadLength, LongLine, BadByte}

pub length_fault : (bytes rest : List ℕ) (error : ProtocolError) → bytes ≡ 36 ∷ rest → error ≡ BadLength → IsBulkFault bytes error
length_fault bytes rest error is fault = subst (λ (e : ProtocolError). IsBulkFault bytes e) (sym fault) (rest, is)

pub dollar_fault : (bytes rest : List ℕ) (first got : ℕ) → bytes ≡ first ∷ rest → (first ≡ 36 → ⊥) → got ≡ first → IsBulkFault bytes (NoDollar got)
dollar_fault bytes rest first got is other same = (rest, is ∙ ap (λ (b : ℕ). b ∷ rest) (sym same), λ dollar. other (sym same ∙ dollar))

pub count_fault : (limits : Limits) (bytes : List ℕ) (error : ProtocolError) → IsBad (IsNumberLine limits.words) bytes → error ≡ BadCount → HasCause limits (42 ∷ bytes) error
count_fault limits bytes error bad fault = subst (λ (e : ProtocolError). HasCause limits (42 ∷ bytes) e) (sym fault) (bytes, refl, bad)

-- the words before the one that is bad
before_fault : (limits : Limits) (n : ℕ) (bytes rest behind : List ℕ) (error : ProtocolError) → n ≤ limits.words → bytes ≡ (42 ∷ ended (decimal n)) ++ rest → (it : IsBulksFault n limits.bytes rest error) → it.rest ≡ behind → IsInArray limits bytes behind
before_fault limits n bytes rest behind error small is it at = record {
  count = n;
  words = it.words;
  is = is ∙ ap (λ (l : List ℕ). 42 ∷ (ended (decimal n) ++ l)) (it.is ∙ ap (λ (l : List ℕ). flat_map bulk it.words ++ l) at);
  fewer = it.fewer;
  small = small;
  short = it.short;
}

pub words_fault : (limits : Limits) (n : ℕ) (bytes rest : List ℕ) (error : ProtocolError) → n ≤ limits.words → bytes ≡ (42 ∷ ended (decimal n)) ++ rest → IsBulksFault n limits.bytes rest error → HasCause limits bytes error
words_fault limits n bytes rest (NoDollar got) small is it = (it.fault.0, before_fault limits n bytes rest (got ∷ it.fault.0) (NoDollar got) small is it it.fault.1, it.fault.2)
words_fault limits n bytes rest BadLength small is it =
    (it.fault.0, before_fault limits n bytes rest (36 ∷ it.fault.0) BadLength small is it it.fault.1, subst (λ (l : List ℕ). IsBad (IsBulk limits.bytes) l) it.fault.1 it.bad)
words_fault limits n bytes rest BadCount small is it = absurd it.fault
words_fault limits n bytes rest LongLine small is it = absurd it.fault
words_fault limits n bytes rest BadByte small is it = absurd it.fault

pub byte_fault : (most end : ℕ) (bytes line rest behind : List ℕ) → IsCut is_plain bytes line rest → rest ≡ end ∷ behind → end ≢ 10 → length line < most → IsLineFault most bytes BadByte
byte_fault most end bytes line rest behind cut stands other short =
    (line, end, behind, cut.is ∙ ap (λ (l : List ℕ). line ++ l) stands, cut.passes, other, subst (λ (l : List ℕ). StopsAt is_plain l) stands cut.stops, short)

otherwise : (bytes : List ℕ) → (get_or bytes 0 0 ≡ 42 → ⊥) → BeginsOtherwise bytes
otherwise [] other = tt
otherwise (b ∷ bytes) other = other

pub line_fault : (limits : Limits) (bytes : List ℕ) (error : ProtocolError) → (get_or bytes 0 0 ≡ 42 → ⊥) → IsLineFault limits.line bytes error → HasCause limits bytes error
line_fault limits bytes LongLine other it = (it.0, it.1, record { is = it.2; other = otherwise bytes other; plain = it.3 }, it.4)
line_fault limits bytes BadByte other it = (it.0, it.1, it.2, record { is = it.3; other = otherwise bytes other; plain = it.4 }, it.5, it.6, it.7)
line_fault limits bytes BadCount other it = absurd it
line_fault limits bytes (NoDollar got) other it = absurd it
line_fault limits bytes BadLength other it = absurd it
