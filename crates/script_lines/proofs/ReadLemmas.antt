-- The fields of a line are read one after the other, by the form that stands in the row of its word.
use Rattle.std.proofs.Common.{◌≡◌, ◌≢◌, ◌∙◌, ◌^◌, ◌<◌, List, ℕ, [], ◌∷◌, Option, Some, None, is_some, false, true, length, nat_lt, IsTrue, refl, sym, ap, subst, arith}
use Rattle.std.specs.Option.{IfNone, IfSome, option_map}
use Rattle.std.specs.Fmt.{decimal}
use Rattle.std.proofs.lemmas.Fmt.{decimal_injective}
use Rattle.script_lines.specs.Grammar.{Form, Request, Row, IsHex, IsRead, Makes, ReadsAs, SaysLong, SaysNumber, SaysShort, asks, form_in, hex, long, number, short}
use Rattle.script_lines.proofs.HexLemmas.{hex_one}

pub number_one : (text : List ℕ) (m n : ℕ) → SaysNumber m text → SaysNumber n text → m ≡ n
number_one text m n p q = decimal_injective m n (omega (arith, p.1)) (omega (arith, q.1)) (sym p.0 ∙ q.0)

pub short_one : (text x y : List ℕ) → SaysShort x text → SaysShort y text → x ≡ y
short_one text x y p q = hex_one text x y p.0 q.0

pub long_one : (text x y : List ℕ) → SaysLong x text → SaysLong y text → x ≡ y
long_one text x y p q = hex_one text x y p.0 q.0

-- the first text is no number
pub no_number : (form : ℕ → Form) (texts : List (List ℕ)) → ((n : ℕ) (others : List (List ℕ)) → n < 2 ^ 32 → texts ≢ decimal n ∷ others) → IsRead (Some (number form)) texts None
no_number form [] none = λ request made. made
no_number form (text ∷ texts) none = λ request made. none made.0 texts made.1.1 (ap (λ (t : List ℕ). t ∷ texts) made.1.0)

at_number : (form : ℕ → Form) (text : List ℕ) (others : List (List ℕ)) (n : ℕ) (given : Option Request) → SaysNumber n text → IsRead (Some (form n)) others given → IsRead (Some (number form)) (text ∷ others) given
at_number form text others n None says read = λ request made. read request (subst (λ (m : ℕ). Makes (form m) others request) (number_one text made.0 n made.1 says) made.2)
at_number form text others n (Some request) says read = (n, says, read)

-- it is one, and others follow
pub number_read : (form : ℕ → Form) (texts others : List (List ℕ)) (n : ℕ) (given : Option Request) → texts ≡ decimal n ∷ others → n < 2 ^ 32 → IsRead (Some (form n)) others given → IsRead (Some (number form)) texts given
number_read form texts others n given is small read =
    subst (λ (t : List (List ℕ)). IsRead (Some (number form)) t given) (sym is) (at_number form (decimal n) others n given (refl, small) read)

-- the first text is no key
pub no_short : (form : List ℕ → Form) (texts others : List (List ℕ)) (text : List ℕ) → texts ≡ text ∷ others → ((bytes : List ℕ) → SaysShort bytes text → ⊥) → IsRead (Some (short form)) texts None
no_short form texts others text is never = λ request made.
    let here = subst (λ (t : List (List ℕ)). Makes (short form) t request) is made in
    never here.0 here.1

at_short : (form : List ℕ → Form) (text : List ℕ) (others : List (List ℕ)) (bytes : List ℕ) (given : Option Request) → SaysShort bytes text → IsRead (Some (form bytes)) others given
    → IsRead (Some (short form)) (text ∷ others) given
at_short form text others bytes None says read = λ request made. read request (subst (λ (m : List ℕ). Makes (form m) others request) (short_one text made.0 bytes made.1 says) made.2)
at_short form text others bytes (Some request) says read = (bytes, says, read)

-- it is one, and others follow
pub short_read : (form : List ℕ → Form) (texts others : List (List ℕ)) (text bytes : List ℕ) (given : Option Request) → texts ≡ text ∷ others → SaysShort bytes text → IsRead (Some (form bytes)) others given
    → IsRead (Some (short form)) texts given
short_read form texts others text bytes given is says read =
    subst (λ (t : List (List ℕ)). IsRead (Some (short form)) t given) (sym is) (at_short form text others bytes given says read)

-- there is no text, or the first is no key of a map
pub none_long : (form : List ℕ → Form) (texts : List (List ℕ)) → texts ≡ [] → IsRead (Some (long form)) texts None
none_long form texts is = subst (λ (t : List (List ℕ)). IsRead (Some (long form)) t None) (sym is) (λ request made. made)

pub no_long : (form : List ℕ → Form) (texts others : List (List ℕ)) (text : List ℕ) → texts ≡ text ∷ others → ((bytes : List ℕ) → SaysLong bytes text → ⊥) → IsRead (Some (long form)) texts None
no_long form texts others text is never = λ request made.
    let here = subst (λ (t : List (List ℕ)). Makes (long form) t request) is made in
    never here.0 here.1

at_long : (form : List ℕ → Form) (text : List ℕ) (others : List (List ℕ)) (bytes : List ℕ) (given : Option Request) → SaysLong bytes text → IsRead (Some (form bytes)) others given
    → IsRead (Some (long form)) (text ∷ others) given
at_long form text others bytes None says read = λ request made. read request (subst (λ (m : List ℕ). Makes (form m) others request) (long_one text made.0 bytes made.1 says) made.2)
at_long form text others bytes (Some request) says read = (bytes, says, read)

-- it is one, and others follow
pub long_read : (form : List ℕ → Form) (texts others : List (List ℕ)) (text bytes : List ℕ) (given : Option Request) → texts ≡ text ∷ others → SaysLong bytes text → IsRead (Some (form bytes)) others given
    → IsRead (Some (long form)) texts given
long_read form texts others text bytes given is says read =
    subst (λ (t : List (List ℕ)). IsRead (Some (long form)) t given) (sym is) (at_long form text others bytes given says read)

-- the bytes that it stands for are too many
pub too_many : (text bytes : List ℕ) → IsHex text bytes → nat_lt (length bytes) 65536 ≡ false → (other : List ℕ) → SaysLong other text → ⊥
too_many text bytes is many other says =
    let same : other ≡ bytes = hex_one text other bytes says.0 is in
    let fits : nat_lt (length bytes) 65536 ≡ true = subst (λ (b : List ℕ). IsTrue (nat_lt (length b) 65536)) same says.1 in
    cc

-- the first text is no hexadecimal
pub no_hex_read : (form : List ℕ → Form) (texts others : List (List ℕ)) (text : List ℕ) → texts ≡ text ∷ others → ((bytes : List ℕ) → IsHex text bytes → ⊥) → IsRead (Some (hex form)) texts None
no_hex_read form texts others text is none = λ request made.
    let here = subst (λ (t : List (List ℕ)). Makes (hex form) t request) is made in
    none here.0 here.1

at_hex : (form : List ℕ → Form) (text : List ℕ) (others : List (List ℕ)) (bytes : List ℕ) (given : Option Request) → IsHex text bytes → IsRead (Some (form bytes)) others given
    → IsRead (Some (hex form)) (text ∷ others) given
at_hex form text others bytes None says read = λ request made. read request (subst (λ (m : List ℕ). Makes (form m) others request) (hex_one text made.0 bytes made.1 says) made.2)
at_hex form text others bytes (Some request) says read = (bytes, says, read)

-- it is hexadecimal, and others follow
pub hex_read : (form : List ℕ → Form) (texts others : List (List ℕ)) (text bytes : List ℕ) (given : Option Request) → texts ≡ text ∷ others → IsHex text bytes → IsRead (Some (form bytes)) others given
    → IsRead (Some (hex form)) texts given
hex_read form texts others text bytes given is says read =
    subst (λ (t : List (List ℕ)). IsRead (Some (hex form)) t given) (sym is) (at_hex form text others bytes given says read)

-- whatever it is, nothing is made of the others
pub nothing_behind : (form : List ℕ → Form) (texts others : List (List ℕ)) (text : List ℕ) → texts ≡ text ∷ others → ((bytes : List ℕ) → IsRead (Some (form bytes)) others None)
    → IsRead (Some (hex form)) texts None
nothing_behind form texts others text is never = λ request made.
    let here = subst (λ (t : List (List ℕ)). Makes (hex form) t request) is made in
    never here.0 request here.2

-- the word is that of a row, and this was read by its form
pub by_row : (rows : List Row) (word literal : List ℕ) {form : Form} (texts : List (List ℕ)) {read : Option Request} (given : Option Request) → IsRead (Some form) texts read
    → word ≡ literal → form_in rows literal ≡ Some form → given ≡ read → IsRead (form_in rows word) texts given
by_row rows word literal {form} texts {read} given reads is here same =
    subst (λ (g : Option Request). IsRead (form_in rows word) texts g) (sym same) (subst (λ (f : Option Form). IsRead f texts read) (sym (ap (form_in rows) is ∙ here)) reads)

-- where nothing was found nothing was made of it
pub nothing_read : {A : Type 0} (form : Option Form) (texts : List (List ℕ)) (make : A → Request) (found : Option A) → is_some found ≡ false → IsRead form texts (option_map make found) → IsRead form texts None
nothing_read form texts make None other read = read
nothing_read form texts make (Some x) other read = absurd cc

-- and where something was found, this
pub something_read : {A : Type 0} (form : Option Form) (texts : List (List ℕ)) (request : Request) (found : Option A) → is_some found ≡ true → IsRead form texts (option_map (λ _. request) found)
    → IsRead form texts (Some request)
something_read form texts request (Some x) some read = read
something_read form texts request None some read = absurd cc

-- the only text may be a key
pub short_found : (make : List ℕ → Request) (texts others : List (List ℕ)) (text : List ℕ) (found : Option (List ℕ)) → texts ≡ text ∷ others → IfSome found (λ bytes. SaysShort bytes text)
    → IfNone found ((bytes : List ℕ) → SaysShort bytes text → ⊥) → ((request : Request) → IsRead (Some (asks request)) others (Some request))
    → IsRead (Some (short (λ key. asks (make key)))) texts (option_map make found)
short_found make texts others text None is some none read = no_short (λ key. asks (make key)) texts others text is none
short_found make texts others text (Some bytes) is some none read = short_read (λ key. asks (make key)) texts others text bytes (Some (make bytes)) is some (read (make bytes))

pub when_none : {A : Type 0} {P : Type 0} (found : Option A) → found ≡ None → IfNone found P → P
when_none None is here = here
when_none (Some x) is here = absurd cc

pub when_some : {A : Type 0} {x : A} (P : A → Type 0) (found : Option A) → found ≡ Some x → IfSome found P → P x
when_some P found is here = subst (λ o. IfSome o P) is here

-- what is behind the last field is none, or it is one too many
pub read_behind : {A : Type 0} (form : Form) (texts others : List (List ℕ)) (request : Request) (found : Option A) → is_some found ≡ true → ReadsAs (asks request) others form texts
    → IsRead (Some (asks request)) others (option_map (λ _. request) found) → IsRead (Some form) texts (Some request)
read_behind form texts others request found is reads read = reads (Some request) (something_read (Some (asks request)) others request found is read)

pub not_read_behind : {A : Type 0} (form : Form) (texts others : List (List ℕ)) (request : Request) (found : Option A) → is_some found ≡ false → ReadsAs (asks request) others form texts
    → IsRead (Some (asks request)) others (option_map (λ _. request) found) → IsRead (Some form) texts None
not_read_behind form texts others request found is reads read = reads None (nothing_read (Some (asks request)) others (λ _. request) found is read)
