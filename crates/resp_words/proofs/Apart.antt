-- Commands one after the other.
use Rattle.std.proofs.Common.{◌≡◌, ◌∙◌, refl, sym, ap, subst, ◌^◌, ◌<◌, inl, inr, ℕ, List, [], ◌∷◌, ◌++◌, length, drop, arith, append_assoc, length-append}
use Rattle.std.proofs.lemmas.List.{append-nil}
use Rattle.std.specs.Fmt.{decimal}
use Rattle.std.specs.List.{AllByRecursion, flat_map}
use Rattle.resp_words.specs.Commands.{Agree, AreCommands, Finds, IsArray, IsCommand, IsFound, IsLine, IsShort, IsThis, IsWithin, bulk, command_bytes, ended, words_of}
use Rattle.resp_words.specs.Reading.{Begins, IsBad, IsFront, IsRead}
use Rattle.resp_words.specs.Runs.{is_plain}
use Rattle.resp_words.specs.declared.found.Command.{Command}
use Rattle.resp_words.specs.declared.found.Found.{Found}
use Rattle.resp_words.specs.declared.found.Found.TheVariants.{Whole, More, Bad}
use Rattle.resp_words.specs.declared.limits.Limits.{Limits}
use Rattle.resp_words.proofs.Arrays.{no_star}
use Rattle.resp_words.proofs.Bulks.{bulk_cancel}
use Rattle.resp_words.proofs.Causes.{one_cause}
use Rattle.resp_words.proofs.Numbers.{number_cancel}
use Rattle.resp_words.proofs.Plain.{words_same}
use Rattle.resp_words.proofs.Runs.{runs_same}

bulks_cancel : (most : ℕ) (vs ws : List (List ℕ)) (x y : List ℕ) → most < 2 ^ 32 → AllByRecursion (IsShort most) vs → AllByRecursion (IsShort most) ws → length vs ≡ length ws
    → flat_map bulk vs ++ x ≡ flat_map bulk ws ++ y → (vs ≡ ws) × (x ≡ y)
bulks_cancel most [] [] x y low p q all same = (refl, same)
bulks_cancel most [] (w ∷ ws) x y low p q all same = absurd (omega (arith, all))
bulks_cancel most (v ∷ vs) [] x y low p q all same = absurd (omega (arith, all))
bulks_cancel most (v ∷ vs) (w ∷ ws) x y low p q all same =
    let first = bulk_cancel most v w (flat_map bulk vs ++ x) (flat_map bulk ws ++ y) low p.0 q.0 (sym (append_assoc (bulk v) (flat_map bulk vs) x) ∙ same ∙ append_assoc (bulk w) (flat_map bulk ws) y) in
    let rest = bulks_cancel most vs ws x y low p.1 q.1 (omega (arith, all)) first.1 in
    ((λ i. first.0 i ∷ rest.0 i), rest.1)

arrays_cancel : (limits : Limits) (t u x y : List ℕ) (vs ws : List (List ℕ)) → IsArray limits t vs → IsArray limits u ws → t ++ x ≡ u ++ y → (vs ≡ ws) × (x ≡ y)
arrays_cancel limits t u x y vs ws p q same =
    let whole : command_bytes vs ++ x ≡ command_bytes ws ++ y = sym (ap (λ (l : List ℕ). l ++ x) p.is) ∙ same ∙ ap (λ (l : List ℕ). l ++ y) q.is in
    let count = number_cancel (length vs) (length ws) (flat_map bulk vs ++ x) (flat_map bulk ws ++ y) (omega (arith, p.within.count, limits.small_words)) (omega (arith, q.within.count, limits.small_words))
    (sym (append_assoc (ended (decimal (length vs))) (flat_map bulk vs) x) ∙ ap (λ (l : List ℕ). drop 1 l) whole ∙ append_assoc (ended (decimal (length ws))) (flat_map bulk ws) y) in
    bulks_cancel limits.bytes vs ws x y limits.small_bytes p.within.short q.within.short count.0 count.1

lines_cancel : (limits : Limits) (t u x y : List ℕ) (vs ws : List (List ℕ)) → IsLine limits t vs → IsLine limits u ws → t ++ x ≡ u ++ y → (vs ≡ ws) × (x ≡ y)
lines_cancel limits t u x y vs ws p q same =
    let whole : p.line ++ 10 ∷ x ≡ q.line ++ 10 ∷ y =
    sym (ap (λ (l : List ℕ). l ++ x) p.is.is ∙ append_assoc p.line (10 ∷ []) x) ∙ same ∙ ap (λ (l : List ℕ). l ++ y) q.is.is ∙ append_assoc q.line (10 ∷ []) y in
    let both = runs_same is_plain p.line q.line (10 ∷ x) (10 ∷ y) p.is.plain q.is.plain refl refl whole in
    (words_same p.line q.line vs ws both.0 p.parts q.parts, ap (λ (l : List ℕ). drop 1 l) both.1)

array_or_line : (limits : Limits) (t u x y : List ℕ) (vs ws : List (List ℕ)) → IsArray limits t vs → IsLine limits u ws → t ++ x ≡ u ++ y → ⊥
array_or_line limits t u x y vs ws p q same =
    no_star q.line y ((ended (decimal (length vs)) ++ flat_map bulk vs) ++ x) q.other (sym (ap (λ (l : List ℕ). l ++ x) p.is) ∙ same ∙ ap (λ (l : List ℕ). l ++ y) q.is.is)

-- bytes begin with one command
pub command_cancel : (limits : Limits) (t u x y : List ℕ) (vs ws : List (List ℕ)) → IsCommand limits t vs → IsCommand limits u ws → t ++ x ≡ u ++ y → (vs ≡ ws) × (x ≡ y)
command_cancel limits t u x y vs ws (inl p) (inl q) same = arrays_cancel limits t u x y vs ws p q same
command_cancel limits t u x y vs ws (inl p) (inr q) same = absurd (array_or_line limits t u x y vs ws p q same)
command_cancel limits t u x y vs ws (inr p) (inl q) same = absurd (array_or_line limits u t y x ws vs q p (sym same))
command_cancel limits t u x y vs ws (inr p) (inr q) same = lines_cancel limits t u x y vs ws p q same

-- what two texts in front of the same bytes are
found_same : (limits : Limits) (bytes : List ℕ) (vs ws : List (List ℕ)) (m n : ℕ) → IsFound limits bytes vs m → IsFound limits bytes ws n → (ws ≡ vs) × (n ≡ m)
found_same limits bytes vs ws m n p q =
    let same : p.text ++ p.later ≡ q.text ++ q.later = sym p.is ∙ q.is in
    let both = command_cancel limits p.text q.text p.later q.later vs ws p.means q.means same in
    (sym both.0, omega (arith, p.long, q.long, ap length both.1, ap length same, length-append p.text p.later, length-append q.text q.later))

found_begins : (limits : Limits) (bytes : List ℕ) (words : List (List ℕ)) (used : ℕ) → IsFound limits bytes words used → Begins (IsCommand limits) bytes
found_begins limits bytes words used it = record { text = it.text; meaning = words; later = it.later; means = it.means; is = it.is }

not_bad : (limits : Limits) (bytes : List ℕ) → Begins (IsCommand limits) bytes → IsBad (IsCommand limits) bytes → ⊥
not_bad limits bytes it bad = bad [] (subst (λ (l : List ℕ). Begins (IsCommand limits) l) (sym (append-nil bytes)) it)

front_not_bad : (limits : Limits) (bytes : List ℕ) → IsFront (IsCommand limits) bytes → IsBad (IsCommand limits) bytes → ⊥
front_not_bad limits bytes it bad = bad it.later (record { text = bytes ++ it.later; meaning = it.meaning; later = []; means = it.means; is = sym (append-nil (bytes ++ it.later)) })

pub one_answer : (limits : Limits) (bytes : List ℕ) (found other : Found Command) → Finds limits bytes found → Finds limits bytes other → Agree found other
one_answer limits bytes (Whole c) (Whole d) p q = found_same limits bytes (words_of c) (words_of d) c.used d.used p q
one_answer limits bytes (Whole c) More p q = q.none (found_begins limits bytes (words_of c) c.used p)
one_answer limits bytes (Whole c) (Bad f) p q = not_bad limits bytes (found_begins limits bytes (words_of c) c.used p) q.0
one_answer limits bytes More (Whole d) p q = absurd (p.none (found_begins limits bytes (words_of d) d.used q))
one_answer limits bytes More More p q = refl
one_answer limits bytes More (Bad f) p q = absurd (front_not_bad limits bytes p q.0)
one_answer limits bytes (Bad e) (Whole d) p q = not_bad limits bytes (found_begins limits bytes (words_of d) d.used q) p.0
one_answer limits bytes (Bad e) More p q = front_not_bad limits bytes q p.0
one_answer limits bytes (Bad e) (Bad f) p q = one_cause limits bytes e f p.1 q.1

array_found : (limits : Limits) (words : List (List ℕ)) (later : List ℕ) → IsWithin limits words → IsFound limits (command_bytes words ++ later) words (length (command_bytes words))
array_found limits words later within = record { text = command_bytes words; later = later; means = inl (record { is = refl; within = within }); is = refl; long = refl }

pub whole_found : (limits : Limits) (words : List (List ℕ)) (later : List ℕ) (found : Found Command) → IsWithin limits words → Finds limits (command_bytes words ++ later) found → IsThis words (length (command_bytes words)) found
whole_found limits words later (Whole c) within p =
    found_same limits (command_bytes words ++ later) words (words_of c) (length (command_bytes words)) c.used (array_found limits words later within) p
whole_found limits words later More within p = p.none (found_begins limits (command_bytes words ++ later) words (length (command_bytes words)) (array_found limits words later within))
whole_found limits words later (Bad e) within p =
    not_bad limits (command_bytes words ++ later) (found_begins limits (command_bytes words ++ later) words (length (command_bytes words)) (array_found limits words later within)) p.0

pub part_found : (limits : Limits) (words : List (List ℕ)) (front rest : List ℕ) (found : Found Command) → IsWithin limits words → command_bytes words ≡ front ++ rest → 0 < length rest → Finds limits front found → found ≡ More
part_found limits words front rest (Whole c) within is some p =
    let same : command_bytes words ++ [] ≡ p.text ++ (p.later ++ rest) = append-nil (command_bytes words) ∙ is ∙ ap (λ (l : List ℕ). l ++ rest) p.is ∙ append_assoc p.text p.later rest in
    let both = command_cancel limits (command_bytes words) p.text [] (p.later ++ rest) words (words_of c) (inl (record { is = refl; within = within })) p.means same in
    absurd (omega (arith, some, ap length both.1, length-append p.later rest))
part_found limits words front rest More within is some p = refl
part_found limits words front rest (Bad e) within is some p =
    absurd (p.0 rest (record { text = command_bytes words; meaning = words; later = []; means = inl (record { is = refl; within = within }); is = sym is ∙ sym (append-nil (command_bytes words)) }))

read_begins : (limits : Limits) (bytes later : List ℕ) (words : List (List ℕ)) → IsRead (IsCommand limits) bytes words later → Begins (IsCommand limits) bytes
read_begins limits bytes later words it = record { text = it.text; meaning = words; later = later; means = it.means; is = it.is }

-- a stream is commands and a rest in one way
pub one_way : (limits : Limits) (x y rest other : List ℕ) (cs ds : List (List (List ℕ))) → x ≡ y → AreCommands limits x cs rest → AreCommands limits y ds other → (cs ≡ ds) × (rest ≡ other)
one_way limits x y rest other [] [] same p q = (refl, sym p.0 ∙ same ∙ q.0)
one_way limits x y rest other [] (d ∷ ds) same p q = absurd (p.1 (subst (λ (l : List ℕ). Begins (IsCommand limits) l) (sym same ∙ p.0) (read_begins limits y q.0 d q.1)))
one_way limits x y rest other (c ∷ cs) [] same p q = absurd (q.1 (subst (λ (l : List ℕ). Begins (IsCommand limits) l) (same ∙ q.0) (read_begins limits x p.0 c p.1)))
one_way limits x y rest other (c ∷ cs) (d ∷ ds) same p q =
    let first = command_cancel limits p.1.text q.1.text p.0 q.0 c d p.1.means q.1.means (sym p.1.is ∙ same ∙ q.1.is) in
    let more = one_way limits p.0 q.0 rest other cs ds first.1 p.2 q.2 in
    ((λ i. first.0 i ∷ more.0 i), more.1)

pub in_pieces : (limits : Limits) (bytes piece rest last : List ℕ) (commands more : List (List (List ℕ))) → AreCommands limits bytes commands rest → AreCommands limits (rest ++ piece) more last
    → AreCommands limits (bytes ++ piece) (commands ++ more) last
in_pieces limits bytes piece rest last [] more p q = subst (λ (l : List ℕ). AreCommands limits (l ++ piece) more last) (sym p.0) q
in_pieces limits bytes piece rest last (c ∷ cs) more p q = (
  p.0 ++ piece,
  record { text = p.1.text; means = p.1.means; is = ap (λ (l : List ℕ). l ++ piece) p.1.is ∙ append_assoc p.1.text p.0 piece },
  in_pieces limits p.0 piece rest last cs more p.2 q,
)
