-- A stream is compared with the store before it is followed.
use Rattle.std.proofs.Common.{◌≡◌, ◌∙◌, ◌+◌, ◌≤◌, ◌<◌, ◌^◌, ◌++◌, List, ℕ, [], Bool, true, false, inl, inr, ⊎_elim, refl, ap, sym, subst, arith, length, length-append, Option, Some, Result, Ok, Err}
use Rattle.std.specs.Prelude.{◌↔◌, IfSome, IsErrOf}
use Rattle.disk_model.specs.Disk.{Disk}
use Rattle.disk_model.specs.declared.machine.FileNo.{FileNo}
use Rattle.disk_model.specs.declared.machine.FileNo.TheVariants.{Objects}
use Rattle.formats.specs.Objects.{IsObjectsFile, bounds_of}
use Rattle.formats.specs.declared.params.Params.{Params}
use Rattle.frame_stream.specs.Frames.{frame}
use Rattle.frame_stream.specs.FrameBuffer.{FrameBufferView, HasPassed, taken_by}
use Rattle.oper_core.specs.Meaning.{IsSmall}
use Rattle.oper_core.specs.declared.bounds.Bounds.{Bounds}
use Rattle.explain_core.specs.World.{World}
use Rattle.op_codec.specs.AllOps.{all_meaning}
use Rattle.standing.specs.OneStable.{small_store}
use Rattle.standby_node.specs.Same.{AreAllSame, BeginsNoFrame, ComparesPiece, HasCompared, IsMirrorOf, IsUnlikeIn, MirrorView, Unlike}
use Rattle.standby_node.specs.Same.Unlike.{other, gone}
use Rattle.standby_node.specs.declared.compare_err.CompareErr.{CompareErr}
use Rattle.standby_node.specs.declared.compare_err.CompareErr.TheVariants as of_compare
use Rattle.standby_node.specs.declared.follow_err.FollowErr.TheVariants.{DiskFault}
use Rattle.store_engine.specs.Engine.{EngineView, IsEngineRead}
use Rattle.store_engine.specs.declared.ship_err.ShipErr.{ShipErr}
use Rattle.store_engine.specs.declared.ship_err.ShipErr.TheVariants as of_ship
use Rattle.shell_base.specs.Store.{Command, ShowsIn, meaning_in}
use Rattle.standby_words.specs.Comparing.{ComparesNext, HasMirror, IsPieceCompared, MirrorsSo, cut_of_compare, refusal_of_ship}
use Rattle.standby_words.specs.Following.{ComparesInput, HasOwn, IsNotItsOwn, IsOfMachine}

-- ---- the log is mirrored

-- a reading may be answered otherwise
pub read_as : (old new : Disk) (before after : EngineView) (first second : Type 0) → first ↔ second → IsEngineRead all_meaning old new before after first → IsEngineRead all_meaning old new before after second
read_as old new before after first second same it = record {
  kept = it.kept;
  engine = it.engine;
  broken = (λ is. same.0 (it.broken.0 is), λ is. it.broken.1 (same.1 is));
  shows = λ p w shows. ⊎_elim (λ failed. inl (same.0 failed)) (λ there. inr there) (it.shows p w shows);
}

-- the disk failed exactly where that is answered
pub ship_fails : {T U : Type 0} (cause : ShipErr) → IsErrOf {T = T} (Err cause) of_ship.DiskFault ↔ IsErrOf {T = U} (Err (refusal_of_ship cause)) DiskFault
ship_fails (of_ship.Gone base) = (λ is. cc, λ is. cc)
ship_fails of_ship.DiskFault = (λ is. refl, λ is. refl)
ship_fails (of_ship.Damaged file place) = (λ is. cc, λ is. cc)
ship_fails of_ship.Memory = (λ is. cc, λ is. cc)

-- where the log is not damaged, the machine failed
pub machine_failed : {T : Type 0} (cause : ShipErr) → ((file : FileNo) (place : ℕ) → IsErrOf {T = T} (Err cause) (of_ship.Damaged file place) → ⊥) → IsOfMachine (refusal_of_ship cause)
machine_failed (of_ship.Gone base) undamaged = tt
machine_failed of_ship.DiskFault undamaged = tt
machine_failed (of_ship.Damaged file place) undamaged = absurd (undamaged file place refl)
machine_failed of_ship.Memory undamaged = tt

no_frame : (payload later : List ℕ) → [] ≡ frame payload ++ later → ⊥
no_frame payload later is = cc

-- nothing of a stream came yet
pub mirror_begins : (d : Disk) (engine : EngineView) (it : MirrorView) → it.frames ≡ record { passed = 0; kept = [] } → ((p : Params) (w : World Command) → ShowsIn p d engine w → IsMirrorOf (meaning_in p) p w it) → HasMirror true d engine [] (Some it)
mirror_begins d engine it fresh mirrors = (
  it,
  refl,
  ap taken_by fresh,
  λ p w shows.
      let is = mirrors p w shows in
      let kept : it.frames.kept ≡ [] = ap (λ (f : FrameBufferView). f.kept) fresh in
      record {
        bounds = is.bounds_are;
        base = is.base_is;
        codes = it.codes;
        codes_are = is.codes_are;
        compared = record { payloads = []; groups = []; passed = subst (λ (f : FrameBufferView). HasPassed [] [] f) (sym fresh) (record { is = refl; passed = refl; whole = tt }); frames_are = tt; same = tt; codes_are = refl };
        through = λ payload later records is_payload of stands. no_frame payload later (sym kept ∙ stands);
      },
)

-- ---- a piece is compared

-- there is room for it
pub piece_room : (same : Bool) (d : Disk) (engine : EngineView) (bytes : List ℕ) (mirror : Option MirrorView) (n : ℕ) → HasMirror same d engine bytes mirror → length bytes ≤ 2 ^ 40 → n ≤ 65536 → IfSome mirror (λ it. taken_by it.frames + n < 2 ^ 64)
piece_room false d engine bytes mirror n has few short = subst (λ (o : Option MirrorView). IfSome o (λ it. taken_by it.frames + n < 2 ^ 64)) (sym has) tt
piece_room true d engine bytes mirror n has few short = subst (λ (o : Option MirrorView). IfSome o (λ it. taken_by it.frames + n < 2 ^ 64)) (sym has.1) (let taken = has.2 in omega (arith, taken, few, short))

-- by the numbers of the store
piece_answer : (p : Params) (w : World Command) (bytes piece : List ℕ) (it then : MirrorView) (result : Result (Unit {0}) CompareErr) (is : MirrorsSo p w bytes it) → IsPieceCompared it then piece result → ComparesPiece (meaning_in p) is.codes (bytes ++ piece) then result
piece_answer p w bytes piece it then result is compared =
    subst (λ (b : Bounds). ComparesPiece (all_meaning b) is.codes (bytes ++ piece) then result) is.bounds (compared.compared is.codes bytes (subst (λ (b : Bounds). HasCompared (all_meaning b) is.codes bytes it) (sym is.bounds) is.compared))

-- all of it is the same
pub mirror_more : (same : Bool) (d : Disk) (engine : EngineView) (bytes piece : List ℕ) (before after : Option MirrorView) → HasMirror same d engine bytes before → ComparesNext before after piece (Ok tt) → HasMirror same d engine (bytes ++ piece) after
mirror_more false d engine bytes piece before after has next = (subst (λ (o : Option MirrorView). ComparesNext o after piece (Ok tt)) has next).1
mirror_more true d engine bytes piece before after has next =
    let it = has.0 in
    let on : ComparesNext (Some it) after piece (Ok tt) = subst (λ (o : Option MirrorView). ComparesNext o after piece (Ok tt)) has.1 next in
    let then = on.0 in (
      then,
      on.1,
      (let taken = on.2.taken in let count = has.2 in omega (arith, taken, count, length-append bytes piece)),
      λ p w shows.
          let is = has.3 p w shows in
          let answer = piece_answer p w bytes piece it then (Ok tt) is on.2 in
          record { bounds = on.2.numbers.0 ∙ is.bounds; base = on.2.numbers.1 ∙ is.base; codes = is.codes; codes_are = is.codes_are; compared = answer.0; through = answer.1 },
    )

-- all of what came is the same
abbrev pub IsCompared : Type 0
IsCompared = (b : Bounds) (first : List (List ℕ)) (bytes : List ℕ) (it : MirrorView) → IsSmall b → HasCompared (all_meaning b) first bytes it → BeginsNoFrame (all_meaning b) it.frames.kept → AreAllSame it.base (all_meaning b) first bytes

-- the store's numbers are small
pub small_shown : (d : Disk) (engine : EngineView) (p : Params) (w : World Command) → ShowsIn p d engine w → IsSmall (bounds_of p)
small_shown d engine p w shows = small_store p (d.reads Objects) (subst (λ (q : Params). IsObjectsFile q (d.reads Objects)) shows.shows.store.params shows.shows.store.laid.slots.whole)

all_same : IsCompared → (d : Disk) (engine : EngineView) (bytes : List ℕ) (p : Params) (w : World Command) → ShowsIn p d engine w → (it : MirrorView) (so : MirrorsSo p w bytes it) → AreAllSame w.base (meaning_in p) so.codes bytes
all_same law d engine bytes p w shows it so = subst (λ (b : ℕ). AreAllSame b (meaning_in p) so.codes bytes) so.base (law (bounds_of p) so.codes bytes it (small_shown d engine p w shows) so.compared so.through)

-- a record of it is not
pub unlike_input : IsCompared → (same : Bool) (d : Disk) (engine : EngineView) (bytes piece : List ℕ) (before after : Option MirrorView) (e : CompareErr) → HasMirror same d engine bytes before → ComparesNext before after piece (Err e) → (p : Params) (w : World Command) → ShowsIn p d engine w
    → ComparesInput same p w bytes (bytes ++ piece) (Err (cut_of_compare e))
unlike_input law false d engine bytes piece before after e has next p w shows = cc ((subst (λ (o : Option MirrorView). ComparesNext o after piece (Err e)) has next).0)
unlike_input law true d engine bytes piece before after e has next p w shows =
    let it = has.0 in
    let on : ComparesNext (Some it) after piece (Err e) = subst (λ (o : Option MirrorView). ComparesNext o after piece (Err e)) has.1 next in
    let is = has.3 p w shows in
    by_cause e on.0 is (on.2.numbers.1 ∙ is.base) (piece_answer p w bytes piece it on.0 (Err e) is on.2)
  where
    with_record : (why : Unlike) (is : MirrorsSo p w bytes has.0) (base : ℕ) → base ≡ w.base → IsUnlikeIn base (meaning_in p) is.codes (bytes ++ piece) why → IsNotItsOwn p w bytes (bytes ++ piece) why
    with_record why is base same unlike = record {
      codes = is.codes;
      codes_are = is.codes_are;
      same = all_same law d engine bytes p w shows has.0 is;
      unlike = subst (λ (b : ℕ). IsUnlikeIn b (meaning_in p) is.codes (bytes ++ piece) why) same unlike;
    }

    by_cause : (e : CompareErr) (then : MirrorView) (is : MirrorsSo p w bytes has.0) → then.base ≡ w.base → ComparesPiece (meaning_in p) is.codes (bytes ++ piece) then (Err e) → ComparesInput true p w bytes (bytes ++ piece) (Err (cut_of_compare e))
    by_cause (of_compare.Differs n) then is base answer = (refl, with_record (other n) is then.base base answer)
    by_cause (of_compare.Unknown n) then is base answer = (refl, with_record (gone n) is then.base base answer)
    by_cause of_compare.Memory then is base answer = inr refl

-- what came of the input was compared
pub its_own : IsCompared → (same : Bool) (d : Disk) (engine : EngineView) (bytes : List ℕ) (mirror : Option MirrorView) → HasMirror same d engine bytes mirror → (p : Params) (w : World Command) → ShowsIn p d engine w → HasOwn same p w bytes
its_own law false d engine bytes mirror has p w shows is = cc is
its_own law true d engine bytes mirror has p w shows is = let so = has.3 p w shows in (so.codes, so.codes_are, all_same law d engine bytes p w shows has.0 so)
