-- Lines are read one after the other.
use Rattle.std.proofs.Common.{◌≡◌, ◌∙◌, ap, sym, subst, ℕ, ◌+◌, ◌≤◌, ◌<◌, ◌^◌, List, [], ◌∷◌, ◌++◌, length, length-append, append_assoc, refl, arith, None, Some, Ok, Err}
use Rattle.std.specs.Prelude.{Option, Result, IfErr, IfSome}
use Rattle.std.specs.Result.{IsErrAnd, IsErrOf}
use Rattle.std.proofs.lemmas.List.{append-nil}
use Rattle.disk_model.specs.Disk.{Rises}
use Rattle.install_order.specs.declared.entry.Entry.{Entry}
use Rattle.script_lines.specs.Grammar.{lines_of}
use Rattle.script_lines.specs.Reader.{Reader}
use Rattle.script_lines.specs.Reading.{ReadsOn, still_to_give}
use Rattle.script_lines.specs.declared.read_error.ReadError.{ReadError}
use Rattle.script_lines.specs.declared.read_error.ReadError.TheVariants.{ReadFault, TooLong, Memory}
use Rattle.graph_view.specs.declared.asked.Asked.{Asked}
use Rattle.graph_view.specs.declared.asked.Asked.TheVariants.{Command, Nothing, Several, Bad}
use Rattle.graph_view.specs.declared.draw_error.DrawError.{DrawError}
use Rattle.graph_view.specs.declared.draw_error.DrawError.TheVariants as errors
use Rattle.graph_view.specs.Lines.{AreEntries, CountsFault, CountsRead, IsAsked, IsFirstRefused, IsAdded, IsRefused, IsNextAsked, IsCause, entry_of}
use Rattle.graph_view.specs.Lines.AreEntries.{no_line, command, nothing}

-- of all lines these are left, the next one having the number n; their entries go after those of the lines before them
pub record AreRead (all rest : List (List ℕ)) (n : ℕ) (now : List Entry) : Type 0 where
  pub done : List (List ℕ)
  pub whole : all ≡ done ++ rest
  pub count : n ≡ length done + 1
  pub goes_on : (more : List (List ℕ)) (entries : List Entry) → AreEntries (length now + 1) more entries → AreEntries 1 (done ++ more) (now ++ entries)

pub none_read : (all : List (List ℕ)) → AreRead all all 1 []
none_read all = record { done = []; whole = refl; count = refl; goes_on = λ more entries are. are }

-- the entries of more lines go after those of a line more
goes_on_behind : (done : List (List ℕ)) (line : List ℕ) (now after : List Entry) (asked : Asked)
    → ((more : List (List ℕ)) (entries : List Entry) → AreEntries (length now + 1) more entries → AreEntries 1 (done ++ more) (now ++ entries))
    → IsAsked line asked → IsAdded now asked after → (more : List (List ℕ)) (entries : List Entry) → AreEntries (length after + 1) more entries → AreEntries 1 (done ++ line ∷ [] ++ more) (after ++ entries)
goes_on_behind done line now after (Command accesses) before is added more entries are =
    let this = entry_of (length now + 1) accesses in
    let number : length after + 1 ≡ length now + 1 + 1 = omega (arith, ap length added, length-append now (this ∷ [])) in
    subst (λ (lines : List (List ℕ)). AreEntries 1 lines (after ++ entries)) (sym (append_assoc done (line ∷ []) more))
    (subst (λ (es : List Entry). AreEntries 1 (done ++ line ∷ more) es) (sym (append_assoc now (this ∷ []) entries) ∙ ap (λ es. es ++ entries) (sym added))
    (before (line ∷ more) (this ∷ entries) (command accesses is (subst (λ (n : ℕ). AreEntries n more entries) number are))))
goes_on_behind done line now after Nothing before is added more entries are =
    subst (λ (lines : List (List ℕ)). AreEntries 1 lines (after ++ entries)) (sym (append_assoc done (line ∷ []) more))
    (subst (λ (es : List Entry). AreEntries 1 (done ++ line ∷ more) (es ++ entries)) (sym added)
    (before (line ∷ more) entries (nothing is (subst (λ (es : List Entry). AreEntries (length es + 1) more entries) added are))))
goes_on_behind done line now after Several before is added more entries are = absurd added
goes_on_behind done line now after Bad before is added more entries are = absurd added

pub one_read : (all : List (List ℕ)) (old new : List ℕ) (n : ℕ) (now after : List Entry) (found : Option Asked) (asked : Asked) → AreRead all (lines_of old) n now → IsNextAsked found old new → found ≡ Some asked → IsAdded now asked after → AreRead all (lines_of new) (n + 1) after
one_read all old new n now after found asked read taken same added =
    let (line, is, next) = subst (λ (o : Option Asked). IsNextAsked o old new) same taken in
    record {
      done = read.done ++ line ∷ [];
      whole = read.whole ∙ ap (λ lines. read.done ++ lines) next ∙ sym (append_assoc read.done (line ∷ []) (lines_of new));
      count = omega (arith, read.count, length-append read.done (line ∷ []));
      goes_on = goes_on_behind read.done line now after asked read.goes_on is added;
    }

-- the lines that were read ask for these commands, and for nothing that is refused
so_far_read : (all rest : List (List ℕ)) (n : ℕ) (now : List Entry) → (read : AreRead all rest n now) → AreEntries 1 read.done now
so_far_read all rest n now read =
    subst (λ (lines : List (List ℕ)). AreEntries 1 lines now) (append-nil read.done)
    (subst (λ (entries : List Entry). AreEntries 1 (read.done ++ []) entries) (append-nil now) (read.goes_on [] [] no_line))

-- a line that is not added is the first one that is refused
refused_at : (all : List (List ℕ)) (old new : List ℕ) (n k : ℕ) (now : List Entry) (asked why : Asked) → AreRead all (lines_of old) n now → IsNextAsked (Some asked) old new → k ≡ n → asked ≡ why → IsFirstRefused all k why
refused_at all old new n k now asked why read (line, is, next) number same = record {
  before = read.done;
  line = line;
  after = lines_of new;
  split = read.whole ∙ ap (λ lines. read.done ++ lines) next;
  number = number ∙ read.count;
  is = subst (λ (a : Asked). IsAsked line a) same is;
  entries = now;
  accepted = so_far_read all (lines_of old) n now read;
}

pub is_cause : (input old new : List ℕ) (n : ℕ) (now : List Entry) (found : Option Asked) (asked : Asked) (error : DrawError)
    → AreRead (lines_of input) (lines_of old) n now → IsNextAsked found old new → found ≡ Some asked → IsRefused asked n error → IsCause input error
is_cause input old new n now found asked (errors.Bad k) read taken same refused =
    refused_at (lines_of input) old new n k now asked Bad read (subst (λ (o : Option Asked). IsNextAsked o old new) same taken) refused.0 refused.1
is_cause input old new n now found asked (errors.Several k) read taken same refused =
    refused_at (lines_of input) old new n k now asked Several read (subst (λ (o : Option Asked). IsNextAsked o old new) same taken) refused.0 refused.1
is_cause input old new n now found asked (errors.Read error) read taken same refused = subst (λ (e : ReadError). IsCause input (errors.Read e)) (sym refused) tt

-- a line that is not added is no fault of the input
pub not_counted : (before after n : ℕ) (asked : Asked) (error : DrawError) → IsRefused asked n error → CountsFault before after error
not_counted before after n asked (errors.Bad k) refused = tt
not_counted before after n asked (errors.Several k) refused = tt
not_counted before after n asked (errors.Read error) refused = subst (CountsRead before after) (sym refused) tt

-- where no line is left all are read
pub all_read : (all : List (List ℕ)) (old new : List ℕ) (n : ℕ) (now : List Entry) (found : Option Asked) → AreRead all (lines_of old) n now → IsNextAsked found old new → found ≡ None → AreEntries 1 all now
all_read all old new n now found read taken same =
    let end : lines_of old ≡ [] = subst (λ (o : Option Asked). IsNextAsked o old new) same taken in
    let done : read.done ≡ all = sym (read.whole ∙ ap (λ lines. read.done ++ lines) end ∙ append-nil read.done) in
    subst (λ (lines : List (List ℕ)). AreEntries 1 lines now) done (so_far_read all (lines_of old) n now read)

-- an error that is handed on
pub handed_on : {T E : Type 0} (result : Result T E) (error : E) (P : E → Type 0) → IsErrAnd result (λ e. e ≡ error) → P error → IfErr result P
handed_on (Ok value) error P is holds = tt
handed_on (Err e) error P is holds = subst P (sym is) holds

-- the reader told of a fault
pub counts_read : {T : Type 0} (before after : ℕ) (error : ReadError) → (IsErrOf {T = T} (Err error) ReadFault → Rises before after) → CountsRead before after error
counts_read before after ReadFault rises = rises refl
counts_read before after TooLong rises = tt
counts_read before after Memory rises = tt

-- a count that rose since a later moment rose since an earlier one
pub counted_since : (first before after : ℕ) (error : ReadError) → first ≤ before → CountsRead before after error → CountsRead first after error
counted_since first before after ReadFault later rises = λ below. let risen = rises below in omega (arith, risen, later)
counted_since first before after TooLong later rises = tt
counted_since first before after Memory later rises = tt

-- where a line was found less is to be given
pub line_less : (less more : ℕ) (found : Option Asked) (asked : Asked) → IfSome found (λ _. less < more) → found ≡ Some asked → less < more
line_less less more found asked few is = subst (λ (o : Option Asked). IfSome o (λ _. less < more)) is few

-- two takings in a row are one
pub takes_on : (a b c : List ℕ) (x y z : ℕ) → ReadsOn a b x y → ReadsOn b c y z → ReadsOn a c x z
takes_on a b c x y z first second = record {
  bytes = first.bytes ++ second.bytes;
  front = first.front ∙ ap (λ (l : List ℕ). first.bytes ++ l) second.front ∙ sym (append_assoc first.bytes second.bytes c);
  count = omega (arith, first.count, second.count, length-append first.bytes second.bytes);
}

-- where the reader finds the input too long it has 2^40 bytes
pub read_cause : {T : Type 0} (input rest : List ℕ) (taken : ℕ) (error : ReadError) → ReadsOn input rest 0 taken → (IsErrOf {T = T} (Err error) TooLong → taken ≡ 2 ^ 40) → IsCause input (errors.Read error)
read_cause input rest taken ReadFault takes long = tt
read_cause input rest taken TooLong takes long = omega (arith, long refl, takes.count, ap length takes.front, length-append takes.bytes rest)
read_cause input rest taken Memory takes long = tt

-- a reader that has taken nothing has 2^40 bytes to give
pub few_begin : (reader : Reader) → reader.ahead ≡ [] → reader.taken ≡ 0 → 1 + still_to_give reader ≤ 2 ^ 40 + 1
few_begin reader ahead taken = omega (arith, ap length ahead, taken)
