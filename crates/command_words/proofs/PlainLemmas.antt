-- The plain forms are taken.
use Rattle.std.proofs.Common.{◌≡◌, ◌∙◌, ◌<◌, ◌≤◌, ◌^◌, ℕ, true, false, List, [], ◌∷◌, Some, None, refl, sym, ap, subst, arith, codes, is_some, if◌then◌else◌}
use Rattle.std.specs.Fmt.{decimal}
use Rattle.std.specs.Str.Parse.{IsNumeral, digits_value}
use Rattle.clap.specs.Kinds.{Kinds, or_else}
use Rattle.clap.specs.Walk.{Held, Row, Rule, Text, Walk, finished, idle, nothing_held, one_of, option, rows_after, settled, walk, walk_from, walked}
use Rattle.clap.specs.declared.parser.matches.ValueSource.{ValueSource}
use Rattle.clap.specs.declared.parser.matches.ValueSource.TheVariants.{CommandLine, DefaultValue}
use Rattle.clap.specs.declared.builder.value_parser.Reading.TheVariants.{AsWritten, WithoutMinus}
use Rattle.clap.specs.Simple.{Shape, built, built_leaf, entered, inherited, marked_built, names_of, subcommand_of, with_leaf_noted}
use Rattle.clap.specs.Faults.{check_fault, defaults_fault, entered_fault, fault_of, level_fault, settle_fault, turn_fault, walk_fault}
use Rattle.clap.specs.ValueTests.{accepts}
use Rattle.clap.proofs.OnLiterals.{clap_on_literals}
use Rattle.command_words.specs.Commands.{any, between, sized, demo, ship, numbers_from_one, redo}
use Rattle.formats.specs.Objects.{IsInRange}
use Rattle.command_words.specs.Words.{Asks, Gives, GivesParams, IsAllowed, IsFor, IsGiven, words_of}
use Rattle.formats.specs.declared.params.Params.{Params}
use Rattle.command_words.specs.declared.asked.Asked.{Asked}
use Rattle.command_words.specs.declared.asked.Asked.TheVariants.{Init, Run, Dump, Demo, Upgrade, Ship, Follow}
use Rattle.command_words.proofs.WordLemmas.{IsNumeralOf, decimal_word, in_numbers, in_range, option_turn, option_walked, read_signed, value_turn, value_walked, walk_at}

-- ---- the first level

abbrev top : Shape
top = (built redo).top

-- where the walk stands after the name of a subcommand, and the words after it
abbrev stopped_at : Text → List Text → Walk
stopped_at name words = record { held = nothing_held; waiting = idle; position = 1; is_trailing = false; stopped = Some (name, words) }

-- the faults of the level, by where its walk ends and by the faults of the walk
abbrev first_fault : Walk → Kinds → Kinds
first_fault w faults = or_else faults (or_else (entered_fault (built redo) w.stopped) (or_else (settle_fault top.rules top.args_override_self w.held)
    (or_else (defaults_fault (settled top.rules w.held).rows top.rules) (check_fault top (finished top.rules w.held) (is_some (entered (built redo) w.stopped))))))

-- what is left of them after the name of a subcommand
left_fault : (below : Kinds) → below ≡ [] → or_else [] (or_else below []) ≡ []
left_fault below none = rw none refl

module _ (program name : Text) (words : List Text) (s : Shape) where
  abbrev stop : Walk
  stop = stopped_at name words

  -- the words are taken where the subcommand takes those after its name
  pub taken : walk top.rules (names_of (built redo)) nothing_held (name ∷ words) ≡ stop → walk_fault top (names_of (built redo)) (walk_from nothing_held) (name ∷ words) ≡ []
      → entered_fault (built redo) (Some (name, words)) ≡ level_fault s [] nothing_held words false []
      → is_some (entered (built redo) (Some (name, words))) ≡ true
      → level_fault s [] nothing_held words false [] ≡ [] → fault_of redo (program ∷ name ∷ words) ≡ []
  unfolding defaults_fault
  taken there faultless enters is none =
      ap (λ w. first_fault w (walk_fault top (names_of (built redo)) (walk_from nothing_held) (name ∷ words))) there
      ∙ ap (first_fault stop) faultless
      ∙ rw (enters, is, none) refl

  pub taken_as : walk top.rules (names_of (built redo)) nothing_held (name ∷ words) ≡ stop
      → subcommand_of redo (program ∷ name ∷ words) ≡ entered (built redo) (Some (name, words))
  taken_as there = ap (λ (w : Walk). entered (built redo) w.stopped) there

-- ---- a subcommand, as it is built

abbrev sub : Shape → Shape
sub s = built_leaf (inherited (with_leaf_noted (marked_built redo.top)) s)

-- the faults of its level, by where the walk ends and by the faults of the walk
abbrev level_end : Shape → Walk → Kinds → Kinds
level_end s w faults = or_else faults (or_else [] (or_else (settle_fault s.rules s.args_override_self w.held)
    (or_else (defaults_fault (settled s.rules w.held).rows s.rules) (check_fault s (finished s.rules w.held) false))))

-- ---- run, dump and follow

pub run_asks : (program : Text) → Asks (program ∷ codes "run" ∷ []) (Run false)
unfolding clap_on_literals
run_asks program = record { faultless = refl; named = record { name = codes "run"; rows = _; is = refl; for = (refl, λ given. cc given); allowed = tt } }

pub tend_asks : (program : Text) → Asks (program ∷ codes "run" ∷ codes "--tend" ∷ []) (Run true)
unfolding clap_on_literals
tend_asks program = record { faultless = refl; named = record { name = codes "run"; rows = _; is = refl; for = (refl, refl); allowed = tt } }

pub dump_asks : (program : Text) → Asks (program ∷ codes "dump" ∷ []) Dump
unfolding clap_on_literals
dump_asks program = record { faultless = refl; named = record { name = codes "dump"; rows = []; is = refl; for = refl; allowed = tt } }

pub follow_asks : (program : Text) → Asks (program ∷ codes "follow" ∷ []) (Follow false)
unfolding clap_on_literals
follow_asks program = record { faultless = refl; named = record { name = codes "follow"; rows = _; is = refl; for = (refl, λ given. cc given); allowed = tt } }

pub same_asks : (program : Text) → Asks (program ∷ codes "follow" ∷ codes "--same" ∷ []) (Follow true)
unfolding clap_on_literals
same_asks program = record { faultless = refl; named = record { name = codes "follow"; rows = _; is = refl; for = (refl, refl); allowed = tt } }

-- ---- init and upgrade

-- what is held after one word, after two, and after three
abbrev row : Text → Text → Row
row id word = record { id = id; values = word ∷ []; count = None; source = Some CommandLine; reading = WithoutMinus }

abbrev pending : List Row → Text → List Text → Held
pending rows id values = record { rows = rows; pending = Some (id, values); skip = 0 }

-- the flag, by its default or by the word
abbrev flag_row : Text → ValueSource → Row
flag_row text source = record { id = codes "pages"; values = text ∷ []; count = None; source = Some source; reading = AsWritten }

module _ (a b c : Text) where
  abbrev one : Walk
  one = walk_at (pending [] (codes "N") (a ∷ [])) idle 2

  abbrev two : Walk
  two = walk_at (pending (row (codes "N") a ∷ []) (codes "CAP") (b ∷ [])) idle 3

  abbrev three : Walk
  three = walk_at (pending (row (codes "N") a ∷ row (codes "CAP") b ∷ []) (codes "LIMIT") (c ∷ [])) idle 4

  abbrev sized_rows : Row → List Row
  sized_rows flag = row (codes "N") a ∷ row (codes "CAP") b ∷ row (codes "LIMIT") c ∷ flag ∷ []

  abbrev plain_rows : List Row
  plain_rows = sized_rows (flag_row (codes "false") DefaultValue)

  abbrev pages_rows : List Row
  pages_rows = sized_rows (flag_row (codes "true") CommandLine)

  abbrev four : Walk
  four = walk_at (record { rows = pages_rows; pending = None; skip = 0 }) idle 4

  abbrev pages_words : List Text
  pages_words = a ∷ b ∷ c ∷ codes "--pages" ∷ []

-- a subcommand of this name with the numbers of a store
module _ (name : Text) where
  abbrev sized_shape : Shape
  sized_shape = sub (sized name)

  abbrev sized_rules : List Rule
  sized_rules = sized_shape.rules

  module _ (a b c : Text) {k m n : ℕ} (is_a : IsNumeralOf k a) (is_b : IsNumeralOf m b) (is_c : IsNumeralOf n c) where
    first : walked sized_rules [] (walk_from nothing_held) a ≡ one a b c
    first = value_walked a is_a sized_rules 1 nothing_held

    second : walked sized_rules [] (one a b c) b ≡ two a b c
    second = value_walked b is_b sized_rules 2 (pending [] (codes "N") (a ∷ []))

    third : walked sized_rules [] (two a b c) c ≡ three a b c
    third = value_walked c is_c sized_rules 3 (pending (row (codes "N") a ∷ []) (codes "CAP") (b ∷ []))

    sized_walk : walk sized_rules [] nothing_held (a ∷ b ∷ c ∷ []) ≡ three a b c
    sized_walk = ap (λ w. walked sized_rules [] (walked sized_rules [] w b) c) first ∙ ap (λ w. walked sized_rules [] w c) second ∙ third

    sized_rows_are : rows_after sized_rules [] (a ∷ b ∷ c ∷ []) ≡ plain_rows a b c
    sized_rows_are = ap (λ (w : Walk). finished sized_rules w.held) sized_walk

    fourth : walked sized_rules [] (three a b c) (codes "--pages") ≡ four a b c
    unfolding clap_on_literals
    fourth = refl

    pages_walk : walk sized_rules [] nothing_held (pages_words a b c) ≡ four a b c
    pages_walk = ap (λ w. walked sized_rules [] w (codes "--pages")) sized_walk ∙ fourth

    pages_rows_are : rows_after sized_rules [] (pages_words a b c) ≡ pages_rows a b c
    pages_rows_are = ap (λ (w : Walk). finished sized_rules w.held) pages_walk

    module _ (in_a : accepts false (between 1 65535) a ≡ true) (in_b : accepts false (between 16 1048576) b ≡ true) (in_c : accepts false (between 4128 536870912) c ≡ true) where
      one_turn : turn_fault sized_shape [] (walk_from nothing_held) a ≡ []
      one_turn = value_turn a is_a sized_shape 1 nothing_held

      two_turn : turn_fault sized_shape [] (one a b c) b ≡ []
      two_turn = value_turn b is_b sized_shape 2 (pending [] (codes "N") (a ∷ [])) ∙ rw in_a refl

      three_turn : turn_fault sized_shape [] (two a b c) c ≡ []
      three_turn = value_turn c is_c sized_shape 3 (pending (row (codes "N") a ∷ []) (codes "CAP") (b ∷ [])) ∙ rw in_b refl

      four_turn : turn_fault sized_shape [] (three a b c) (codes "--pages") ≡ []
      unfolding clap_on_literals
      four_turn = rw in_c refl

      -- the three numbers are taken, and what comes behind them
      turns_then : (rest : List Text) → walk_fault sized_shape [] (three a b c) rest ≡ [] → walk_fault sized_shape [] (walk_from nothing_held) (a ∷ b ∷ c ∷ rest) ≡ []
      unfolding walk_fault
      turns_then rest none =
          ap (λ k. or_else k (walk_fault sized_shape [] (walked sized_rules [] (walk_from nothing_held) a) (b ∷ c ∷ rest))) one_turn
          ∙ ap (λ w. walk_fault sized_shape [] w (b ∷ c ∷ rest)) first
          ∙ ap (λ k. or_else k (walk_fault sized_shape [] (walked sized_rules [] (one a b c) b) (c ∷ rest))) two_turn
          ∙ ap (λ w. walk_fault sized_shape [] w (c ∷ rest)) second
          ∙ ap (λ k. or_else k (walk_fault sized_shape [] (walked sized_rules [] (two a b c) c) rest)) three_turn
          ∙ ap (λ w. walk_fault sized_shape [] w rest) third ∙ none

      sized_turns : walk_fault sized_shape [] (walk_from nothing_held) (a ∷ b ∷ c ∷ []) ≡ []
      unfolding walk_fault
      sized_turns = turns_then [] refl

      pages_turns : walk_fault sized_shape [] (walk_from nothing_held) (pages_words a b c) ≡ []
      unfolding walk_fault
      pages_turns = turns_then (codes "--pages" ∷ []) (ap (λ k. or_else k []) four_turn)

      -- the faults of the level, by where its walk ends and by the faults of the walk
      sized_faultless : level_fault sized_shape [] nothing_held (a ∷ b ∷ c ∷ []) false [] ≡ []
      unfolding defaults_fault
      sized_faultless =
          ap (λ w. level_end sized_shape w (walk_fault sized_shape [] (walk_from nothing_held) (a ∷ b ∷ c ∷ []))) sized_walk
          ∙ ap (level_end sized_shape (three a b c)) sized_turns ∙ rw in_c refl

      pages_faultless : level_fault sized_shape [] nothing_held (pages_words a b c) false [] ≡ []
      unfolding defaults_fault
      pages_faultless =
          ap (λ w. level_end sized_shape w (walk_fault sized_shape [] (walk_from nothing_held) (pages_words a b c))) pages_walk
          ∙ ap (level_end sized_shape (four a b c)) pages_turns

-- ---- the numbers of the words

gives : (id : Text) (n : ℕ) (word : Text) (rows : List Row) → IsNumeralOf n word → one_of id rows ≡ Some word → Gives rows id n
gives id n word rows is value = record { text = word; value = value; numeral = subst (IsNumeral 10) (sym is.no_plus) is.numeral; number = ap (digits_value 10) is.no_plus ∙ is.number }

-- a name and words behind it stop the walk of the first level, which has no fault
record Stops (name : Text) (words : List Text) : Type 0 where
  pub stops : walk top.rules (names_of (built redo)) nothing_held (name ∷ words) ≡ stopped_at name words
  pub named : walk_fault top (names_of (built redo)) (walk_from nothing_held) (name ∷ words) ≡ []

-- The command set has a subcommand of this name, with the numbers of a store.
record IsSized (name : Text) : Type 0 where
  pub plain : (a b c : Text) → Stops name (a ∷ b ∷ c ∷ [])
  pub pages : (a b c : Text) → Stops name (pages_words a b c)
  pub enters : (words : List Text) → entered_fault (built redo) (Some (name, words)) ≡ level_fault (sized_shape name) [] nothing_held words false []
  pub rows : (words : List Text) → entered (built redo) (Some (name, words)) ≡ Some (name, rows_after (sized_rules name) [] words)

init_sized : IsSized (codes "init")
unfolding clap_on_literals
init_sized = record {
  plain = λ a b c. record { stops = refl; named = refl };
  pages = λ a b c. record { stops = refl; named = refl };
  enters = λ words. refl;
  rows = λ words. refl;
}

upgrade_sized : IsSized (codes "upgrade")
unfolding clap_on_literals
upgrade_sized = record {
  plain = λ a b c. record { stops = refl; named = refl };
  pages = λ a b c. record { stops = refl; named = refl };
  enters = λ words. refl;
  rows = λ words. refl;
}

-- the words of one ask what the subcommand is for
module _ (program name : Text) (sized : IsSized name) (p : Params) (range : IsInRange p) (asked : Asked) (for : (rows : List Row) → GivesParams rows p → IsFor asked name rows) (allowed : IsAllowed asked) where
  abbrev a : Text
  a = decimal p.objects

  abbrev b : Text
  b = decimal p.cap

  abbrev c : Text
  c = decimal p.limit

  is_a : IsNumeralOf p.objects a
  is_a = decimal_word p.objects (omega (arith, range.objects))

  is_b : IsNumeralOf p.cap b
  is_b = decimal_word p.cap (omega (arith, range.cap))

  is_c : IsNumeralOf p.limit c
  is_c = decimal_word p.limit (omega (arith, range.limit))

  in_a : accepts false (between 1 65535) a ≡ true
  in_a = in_range 1 65535 p.objects a is_a (omega (arith, range.objects)) range.some range.objects

  in_b : accepts false (between 16 1048576) b ≡ true
  in_b = in_range 16 1048576 p.cap b is_b (omega (arith, range.cap)) range.low range.cap

  in_c : accepts false (between 4128 536870912) c ≡ true
  in_c = in_range 4128 536870912 p.limit c is_c (omega (arith, range.limit)) (omega (arith, range.low, range.least)) range.limit

  -- words that stop the first level, and that the subcommand takes with these rows, ask it
  asks_with : (words : List Text) (rows : List Row) → Stops name words → rows_after (sized_rules name) [] words ≡ rows
      → level_fault (sized_shape name) [] nothing_held words false [] ≡ [] → GivesParams rows p → Asks (program ∷ name ∷ words) asked
  asks_with words rows stopped are none given =
      let entered_as = sized.rows words ∙ ap (λ (rs : List Row). Some (name, rs)) are in
      record {
        faultless = taken program name words (sized_shape name) stopped.stops stopped.named (sized.enters words) (ap is_some entered_as) none;
        named = record {
          name = name;
          rows = rows;
          is = taken_as program name words (sized_shape name) stopped.stops ∙ entered_as;
          for = for rows given;
          allowed = allowed;
        };
      }

  given_with : (flag : Row) → IsGiven (sized_rows a b c flag) (codes "pages") p.more → GivesParams (sized_rows a b c flag) p
  given_with flag is = (
    gives (codes "N") p.objects a (sized_rows a b c flag) is_a (read_signed a is_a),
    gives (codes "CAP") p.cap b (sized_rows a b c flag) is_b (read_signed b is_b),
    gives (codes "LIMIT") p.limit c (sized_rows a b c flag) is_c (read_signed c is_c),
    is,
  )

  sized_asks : Asks (program ∷ name ∷ words_of p) asked
  sized_asks =
      elim p.more as (λ t. p.more ≡ t → Asks (program ∷ name ∷ a ∷ b ∷ c ∷ (if t then codes "--pages" ∷ [] else [])) asked) [
        | true ↦ λ more.
            asks_with (pages_words a b c) (pages_rows a b c) (sized.pages a b c) (pages_rows_are name a b c is_a is_b is_c) (pages_faultless name a b c is_a is_b is_c in_a in_b in_c)
            (given_with (flag_row (codes "true") CommandLine) (subst (IsGiven (pages_rows a b c) (codes "pages")) (sym more) refl))
        | false ↦ λ plain.
            asks_with (a ∷ b ∷ c ∷ []) (plain_rows a b c) (sized.plain a b c) (sized_rows_are name a b c is_a is_b is_c) (sized_faultless name a b c is_a is_b is_c in_a in_b in_c)
            (given_with (flag_row (codes "false") DefaultValue) (subst (IsGiven (plain_rows a b c) (codes "pages")) (sym plain) (λ given. cc given)))
      ] refl

pub init_asks : (program : Text) (p : Params) → IsInRange p → Asks (program ∷ codes "init" ∷ words_of p) (Init p)
init_asks program p range = sized_asks program (codes "init") init_sized p range (Init p) (λ rows all. (refl, all)) range

pub upgrade_asks : (program : Text) (p : Params) → IsInRange p → Asks (program ∷ codes "upgrade" ∷ words_of p) (Upgrade p)
upgrade_asks program p range = sized_asks program (codes "upgrade") upgrade_sized p range (Upgrade p) (λ rows all. (refl, all)) range

-- ---- demo, with its options in either order

abbrev demo_shape : Shape
demo_shape = sub demo

abbrev demo_rules : List Rule
demo_rules = demo_shape.rules

abbrev long_row : Text → Row
long_row word = record { id = codes "seed"; values = word ∷ []; count = None; source = Some CommandLine; reading = AsWritten }

abbrev steps_row : Text → Row
steps_row word = row (codes "steps") word

module _ (a b : Text) where
  abbrev s_d1 : Walk
  s_d1 = walk_at (pending [] (codes "seed") []) (option (codes "seed")) 1

  abbrev s_d2 : Walk
  s_d2 = walk_at (pending [] (codes "seed") (a ∷ [])) idle 1

  abbrev s_d3 : Walk
  s_d3 = walk_at (pending (long_row a ∷ []) (codes "steps") []) (option (codes "steps")) 1

  abbrev s_d4 : Walk
  s_d4 = walk_at (pending (long_row a ∷ []) (codes "steps") (b ∷ [])) idle 1

  abbrev s_demo_words : List Text
  s_demo_words = codes "--seed" ∷ a ∷ codes "--steps" ∷ b ∷ []

  abbrev s_rows : List Row
  s_rows = long_row a ∷ steps_row b ∷ []

  s_to1 : walked demo_rules [] (walk_from nothing_held) (codes "--seed") ≡ s_d1
  unfolding clap_on_literals
  s_to1 = refl

  s_to3 : walked demo_rules [] s_d2 (codes "--steps") ≡ s_d3
  unfolding clap_on_literals
  s_to3 = refl

  s_stops : walk top.rules (names_of (built redo)) nothing_held (codes "demo" ∷ s_demo_words) ≡ stopped_at (codes "demo") s_demo_words
  unfolding clap_on_literals
  s_stops = refl

  s_named : walk_fault top (names_of (built redo)) (walk_from nothing_held) (codes "demo" ∷ s_demo_words) ≡ []
  unfolding clap_on_literals
  s_named = refl

  s_turn1 : turn_fault demo_shape [] (walk_from nothing_held) (codes "--seed") ≡ []
  unfolding clap_on_literals
  s_turn1 = refl

  module _ {m n : ℕ} (is_a : IsNumeralOf m a) (is_b : IsNumeralOf n b) (in_a : accepts false any a ≡ true) (in_b : accepts false (between 0 1000000) b ≡ true) where
    s_to2 : walked demo_rules [] s_d1 a ≡ s_d2
    s_to2 = option_walked a is_a demo_rules (codes "seed") 1 (pending [] (codes "seed") [])

    s_to4 : walked demo_rules [] s_d3 b ≡ s_d4
    s_to4 = option_walked b is_b demo_rules (codes "steps") 1 (pending (long_row a ∷ []) (codes "steps") [])

    s_demo_walk : walk demo_rules [] nothing_held s_demo_words ≡ s_d4
    s_demo_walk = ap (λ w. walked demo_rules [] (walked demo_rules [] (walked demo_rules [] w a) (codes "--steps")) b) s_to1
        ∙ ap (λ w. walked demo_rules [] (walked demo_rules [] w (codes "--steps")) b) s_to2 ∙ ap (λ w. walked demo_rules [] w b) s_to3 ∙ s_to4

    s_rows_are : rows_after demo_rules [] s_demo_words ≡ s_rows
    s_rows_are = ap (λ (w : Walk). finished demo_rules w.held) s_demo_walk

    s_turn3 : turn_fault demo_shape [] s_d2 (codes "--steps") ≡ []
    unfolding clap_on_literals
    s_turn3 = rw in_a refl

    s_turns : walk_fault demo_shape [] (walk_from nothing_held) s_demo_words ≡ []
    unfolding walk_fault
    s_turns =
        let after1 : walk_fault demo_shape [] s_d3 (b ∷ []) ≡ [] = ap (λ k. or_else k []) (option_turn b is_b demo_shape (codes "steps") 1 (pending (long_row a ∷ []) (codes "steps") [])) in
        let after2 : walk_fault demo_shape [] s_d2 (codes "--steps" ∷ b ∷ []) ≡ [] = ap (λ k. or_else k (walk_fault demo_shape [] (walked demo_rules [] s_d2 (codes "--steps")) (b ∷ []))) s_turn3 ∙ ap (λ w. walk_fault demo_shape [] w (b ∷ [])) s_to3 ∙ after1 in
        let after3 : walk_fault demo_shape [] s_d1 (a ∷ codes "--steps" ∷ b ∷ []) ≡ [] = ap (λ k. or_else k (walk_fault demo_shape [] (walked demo_rules [] s_d1 a) (codes "--steps" ∷ b ∷ []))) (option_turn a is_a demo_shape (codes "seed") 1 (pending [] (codes "seed") [])) ∙ ap (λ w. walk_fault demo_shape [] w (codes "--steps" ∷ b ∷ [])) s_to2 ∙ after2 in
        ap (λ k. or_else k (walk_fault demo_shape [] (walked demo_rules [] (walk_from nothing_held) (codes "--seed")) (a ∷ codes "--steps" ∷ b ∷ []))) s_turn1 ∙ ap (λ w. walk_fault demo_shape [] w (a ∷ codes "--steps" ∷ b ∷ [])) s_to1 ∙ after3

    s_faultless : level_fault demo_shape [] nothing_held s_demo_words false [] ≡ []
    unfolding defaults_fault
    s_faultless = ap (λ w. level_end demo_shape w (walk_fault demo_shape [] (walk_from nothing_held) s_demo_words)) s_demo_walk ∙ ap (level_end demo_shape s_d4) s_turns ∙ rw in_b refl

module _ (a b : Text) where
  abbrev t_d1 : Walk
  t_d1 = walk_at (pending [] (codes "steps") []) (option (codes "steps")) 1

  abbrev t_d2 : Walk
  t_d2 = walk_at (pending [] (codes "steps") (a ∷ [])) idle 1

  abbrev t_d3 : Walk
  t_d3 = walk_at (pending (steps_row a ∷ []) (codes "seed") []) (option (codes "seed")) 1

  abbrev t_d4 : Walk
  t_d4 = walk_at (pending (steps_row a ∷ []) (codes "seed") (b ∷ [])) idle 1

  abbrev t_demo_words : List Text
  t_demo_words = codes "--steps" ∷ a ∷ codes "--seed" ∷ b ∷ []

  abbrev t_rows : List Row
  t_rows = steps_row a ∷ long_row b ∷ []

  t_to1 : walked demo_rules [] (walk_from nothing_held) (codes "--steps") ≡ t_d1
  unfolding clap_on_literals
  t_to1 = refl

  t_to3 : walked demo_rules [] t_d2 (codes "--seed") ≡ t_d3
  unfolding clap_on_literals
  t_to3 = refl

  t_stops : walk top.rules (names_of (built redo)) nothing_held (codes "demo" ∷ t_demo_words) ≡ stopped_at (codes "demo") t_demo_words
  unfolding clap_on_literals
  t_stops = refl

  t_named : walk_fault top (names_of (built redo)) (walk_from nothing_held) (codes "demo" ∷ t_demo_words) ≡ []
  unfolding clap_on_literals
  t_named = refl

  t_turn1 : turn_fault demo_shape [] (walk_from nothing_held) (codes "--steps") ≡ []
  unfolding clap_on_literals
  t_turn1 = refl

  module _ {m n : ℕ} (is_a : IsNumeralOf m a) (is_b : IsNumeralOf n b) (in_a : accepts false (between 0 1000000) a ≡ true) (in_b : accepts false any b ≡ true) where
    t_to2 : walked demo_rules [] t_d1 a ≡ t_d2
    t_to2 = option_walked a is_a demo_rules (codes "steps") 1 (pending [] (codes "steps") [])

    t_to4 : walked demo_rules [] t_d3 b ≡ t_d4
    t_to4 = option_walked b is_b demo_rules (codes "seed") 1 (pending (steps_row a ∷ []) (codes "seed") [])

    t_demo_walk : walk demo_rules [] nothing_held t_demo_words ≡ t_d4
    t_demo_walk = ap (λ w. walked demo_rules [] (walked demo_rules [] (walked demo_rules [] w a) (codes "--seed")) b) t_to1
        ∙ ap (λ w. walked demo_rules [] (walked demo_rules [] w (codes "--seed")) b) t_to2 ∙ ap (λ w. walked demo_rules [] w b) t_to3 ∙ t_to4

    t_rows_are : rows_after demo_rules [] t_demo_words ≡ t_rows
    t_rows_are = ap (λ (w : Walk). finished demo_rules w.held) t_demo_walk

    t_turn3 : turn_fault demo_shape [] t_d2 (codes "--seed") ≡ []
    unfolding clap_on_literals
    t_turn3 = rw in_a refl

    t_turns : walk_fault demo_shape [] (walk_from nothing_held) t_demo_words ≡ []
    unfolding walk_fault
    t_turns =
        let after1 : walk_fault demo_shape [] t_d3 (b ∷ []) ≡ [] = ap (λ k. or_else k []) (option_turn b is_b demo_shape (codes "seed") 1 (pending (steps_row a ∷ []) (codes "seed") [])) in
        let after2 : walk_fault demo_shape [] t_d2 (codes "--seed" ∷ b ∷ []) ≡ [] = ap (λ k. or_else k (walk_fault demo_shape [] (walked demo_rules [] t_d2 (codes "--seed")) (b ∷ []))) t_turn3 ∙ ap (λ w. walk_fault demo_shape [] w (b ∷ [])) t_to3 ∙ after1 in
        let after3 : walk_fault demo_shape [] t_d1 (a ∷ codes "--seed" ∷ b ∷ []) ≡ [] = ap (λ k. or_else k (walk_fault demo_shape [] (walked demo_rules [] t_d1 a) (codes "--seed" ∷ b ∷ []))) (option_turn a is_a demo_shape (codes "steps") 1 (pending [] (codes "steps") [])) ∙ ap (λ w. walk_fault demo_shape [] w (codes "--seed" ∷ b ∷ [])) t_to2 ∙ after2 in
        ap (λ k. or_else k (walk_fault demo_shape [] (walked demo_rules [] (walk_from nothing_held) (codes "--steps")) (a ∷ codes "--seed" ∷ b ∷ []))) t_turn1 ∙ ap (λ w. walk_fault demo_shape [] w (a ∷ codes "--seed" ∷ b ∷ [])) t_to1 ∙ after3

    t_faultless : level_fault demo_shape [] nothing_held t_demo_words false [] ≡ []
    unfolding defaults_fault
    t_faultless = ap (λ w. level_end demo_shape w (walk_fault demo_shape [] (walk_from nothing_held) t_demo_words)) t_demo_walk ∙ ap (level_end demo_shape t_d4) t_turns ∙ rw in_b refl

pub demo_asks : (program : Text) (seed steps : ℕ) → seed < 2 ^ 64 → steps ≤ 1000000 → Asks (program ∷ codes "demo" ∷ codes "--seed" ∷ decimal seed ∷ codes "--steps" ∷ decimal steps ∷ []) (Demo seed steps)
demo_asks program seed steps small few =
    let s = decimal seed in
    let t = decimal steps in
    let is_s = decimal_word seed small in
    let is_t = decimal_word steps (omega (arith, few)) in
    let in_s = in_numbers 0 18446744073709551615 seed s is_s small (omega arith) (omega (arith, small)) in
    let in_t = in_range 0 1000000 steps t is_t (omega (arith, few)) (omega arith) few in
    let rows = s_rows s t in
    record {
      faultless = taken program (codes "demo") (s_demo_words s t) demo_shape (s_stops s t) (s_named s t) refl refl (s_faultless s t is_s is_t in_s in_t);
      named = record {
        name = codes "demo";
        rows = rows;
        is = taken_as program (codes "demo") (s_demo_words s t) demo_shape (s_stops s t) ∙ ap (λ rs. Some (codes "demo", rs)) (s_rows_are s t is_s is_t in_s in_t);
        for = (refl, (gives (codes "seed") seed s rows is_s refl, gives (codes "steps") steps t rows is_t (read_signed t is_t)));
        allowed = (small, few);
      };
    }

pub demo_asks_steps_first : (program : Text) (seed steps : ℕ) → seed < 2 ^ 64 → steps ≤ 1000000 → Asks (program ∷ codes "demo" ∷ codes "--steps" ∷ decimal steps ∷ codes "--seed" ∷ decimal seed ∷ []) (Demo seed steps)
demo_asks_steps_first program seed steps small few =
    let s = decimal seed in
    let t = decimal steps in
    let is_s = decimal_word seed small in
    let is_t = decimal_word steps (omega (arith, few)) in
    let in_s = in_numbers 0 18446744073709551615 seed s is_s small (omega arith) (omega (arith, small)) in
    let in_t = in_range 0 1000000 steps t is_t (omega (arith, few)) (omega arith) few in
    let rows = t_rows t s in
    record {
      faultless = taken program (codes "demo") (t_demo_words t s) demo_shape (t_stops t s) (t_named t s) refl refl (t_faultless t s is_t is_s in_t in_s);
      named = record {
        name = codes "demo";
        rows = rows;
        is = taken_as program (codes "demo") (t_demo_words t s) demo_shape (t_stops t s) ∙ ap (λ rs. Some (codes "demo", rs)) (t_rows_are t s is_t is_s in_t in_s);
        for = (refl, (gives (codes "seed") seed s rows is_s refl, gives (codes "steps") steps t rows is_t (read_signed t is_t)));
        allowed = (small, few);
      };
    }

-- ---- ship

abbrev ship_shape : Shape
ship_shape = sub ship

abbrev ship_rules : List Rule
ship_rules = ship_shape.rules

abbrev from_row : Text → Row
from_row word = record { id = codes "FROM"; values = word ∷ []; count = None; source = Some CommandLine; reading = AsWritten }

module _ (a : Text) where
  abbrev from_held : Walk
  from_held = walk_at (pending [] (codes "FROM") (a ∷ [])) idle 2

  ship_stops : walk top.rules (names_of (built redo)) nothing_held (codes "ship" ∷ a ∷ []) ≡ stopped_at (codes "ship") (a ∷ [])
  unfolding clap_on_literals
  ship_stops = refl

  ship_named : walk_fault top (names_of (built redo)) (walk_from nothing_held) (codes "ship" ∷ a ∷ []) ≡ []
  unfolding clap_on_literals
  ship_named = refl

  module _ {n : ℕ} (is_a : IsNumeralOf n a) (in_a : accepts false numbers_from_one a ≡ true) where
    ship_walk : walk ship_rules [] nothing_held (a ∷ []) ≡ from_held
    ship_walk = value_walked a is_a ship_rules 1 nothing_held

    ship_rows : rows_after ship_rules [] (a ∷ []) ≡ from_row a ∷ []
    ship_rows = ap (λ (w : Walk). finished ship_rules w.held) ship_walk

    ship_turns : walk_fault ship_shape [] (walk_from nothing_held) (a ∷ []) ≡ []
    unfolding walk_fault
    ship_turns = ap (λ k. or_else k []) (value_turn a is_a ship_shape 1 nothing_held)

    ship_faultless : level_fault ship_shape [] nothing_held (a ∷ []) false [] ≡ []
    unfolding defaults_fault
    ship_faultless = ap (λ w. level_end ship_shape w (walk_fault ship_shape [] (walk_from nothing_held) (a ∷ []))) ship_walk ∙ ap (level_end ship_shape from_held) ship_turns ∙ rw in_a refl

pub ship_asks : (program : Text) (from : ℕ) → 1 ≤ from → from < 2 ^ 62 → Asks (program ∷ codes "ship" ∷ decimal from ∷ []) (Ship from)
ship_asks program from positive small =
    let a = decimal from in
    let is_a = decimal_word from (omega (arith, small)) in
    let in_a = in_numbers 1 4611686018427387903 from a is_a (omega (arith, small)) positive (omega (arith, small)) in
    record {
      faultless = taken program (codes "ship") (a ∷ []) ship_shape (ship_stops a) (ship_named a) refl refl (ship_faultless a is_a in_a);
      named = record {
        name = codes "ship";
        rows = from_row a ∷ [];
        is = taken_as program (codes "ship") (a ∷ []) ship_shape (ship_stops a) ∙ ap (λ rs. Some (codes "ship", rs)) (ship_rows a is_a in_a);
        for = (refl, gives (codes "FROM") from a (from_row a ∷ []) is_a refl);
        allowed = (positive, small);
      };
    }
