use Rattle.std.proofs.Common.{List, [], ◌∷◌, ℕ, drop, sym, ap, ◌∙◌}
use Rattle.std.proofs.lemmas.List.{drop-drop}
use Rattle.byteorder.specs.Endian.{little_number}
use Rattle.oper_core.specs.LittleEndian.{slice_from}
use Rattle.app_program.proofs.machine_state.eight_numbers.Goals as goal

pub returns : goal.returns
returns c =
    let bytes : List ℕ = c.args.bytes.now in
    let third = drop-drop 8 8 bytes in
    let fourth = ap (drop 8) third ∙ drop-drop 8 16 bytes in
    let fifth = ap (drop 8) fourth ∙ drop-drop 8 24 bytes in
    let sixth = ap (drop 8) fifth ∙ drop-drop 8 32 bytes in
    let seventh = ap (drop 8) sixth ∙ drop-drop 8 40 bytes in
    let last = ap (drop 8) seventh ∙ drop-drop 8 48 bytes in
    let one = c.read_u64.ensures in
    let two = c.read_u64-2.ensures ∙ ap (little_number 8) (slice_from 8 bytes) in
    let three = c.read_u64-3.ensures ∙ ap (little_number 8) (slice_from 16 bytes ∙ sym third) in
    let four = c.read_u64-4.ensures ∙ ap (little_number 8) (slice_from 24 bytes ∙ sym fourth) in
    let five = c.read_u64-5.ensures ∙ ap (little_number 8) (slice_from 32 bytes ∙ sym fifth) in
    let six = c.read_u64-6.ensures ∙ ap (little_number 8) (slice_from 40 bytes ∙ sym sixth) in
    let seven = c.read_u64-7.ensures ∙ ap (little_number 8) (slice_from 48 bytes ∙ sym seventh) in
    let eight = c.read_u64-8.ensures ∙ ap (little_number 8) (slice_from 56 bytes ∙ sym last) in
    λ i. one i ∷ two i ∷ three i ∷ four i ∷ five i ∷ six i ∷ seven i ∷ eight i ∷ []
