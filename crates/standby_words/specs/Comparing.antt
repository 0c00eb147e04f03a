-- A stream is compared with the store before it is followed.
use Rattle.std.specs.Prelude.{◌≡◌, ℕ, Bool, true, false, List, ◌++◌, ◌+◌, Option, None, Some, IfOk, length, Result, Ok}
use Rattle.disk_model.specs.Disk.{Disk}
use Rattle.formats.specs.Objects.{bounds_of}
use Rattle.formats.specs.declared.params.Params.{Params}
use Rattle.frame_stream.specs.FrameBuffer.{taken_by}
use Rattle.explain_core.specs.World.{World}
use Rattle.op_codec.specs.AllOps.{all_meaning}
use Rattle.script_lines.specs.declared.read_error.ReadError.TheVariants.{Memory as NoMemory}
use Rattle.standby_node.specs.Same.{AreCodesIn, BeginsNoFrame, ComparesPiece, HasCompared, MirrorView}
use Rattle.standby_node.specs.declared.compare_err.CompareErr.{CompareErr}
use Rattle.standby_node.specs.declared.compare_err.CompareErr.TheVariants as of_compare
use Rattle.standby_node.specs.declared.follow_err.FollowErr.{FollowErr}
use Rattle.standby_node.specs.declared.follow_err.FollowErr.TheVariants.{DiskFault, Damaged, Memory}
use Rattle.store_engine.specs.Engine.{EngineView}
use Rattle.store_engine.specs.declared.ship_err.ShipErr.{ShipErr}
use Rattle.store_engine.specs.declared.ship_err.ShipErr.TheVariants as of_ship
use Rattle.shell_base.specs.Store.{Command, ShowsIn, meaning_in}
use Rattle.standby_words.specs.declared.cut.Cut.{Cut}
use Rattle.standby_words.specs.declared.cut.Cut.TheVariants as cuts

-- why a stream is followed no further where a record of it is not passed over
abbrev pub cut_of_compare : CompareErr → Cut
cut_of_compare (of_compare.Differs number) = cuts.Unlike number
cut_of_compare (of_compare.Unknown number) = cuts.Unknown number
cut_of_compare of_compare.Memory = cuts.Unread NoMemory

-- what a log that could not be read is for a stream; it is read from its first record on, so it begins no later
abbrev pub refusal_of_ship : ShipErr → FollowErr
refusal_of_ship (of_ship.Gone base) = Memory
refusal_of_ship of_ship.DiskFault = DiskFault
refusal_of_ship (of_ship.Damaged file place) = Damaged file place
refusal_of_ship of_ship.Memory = Memory

-- of a store in this world, with its codes, these bytes of a stream were compared
pub record MirrorsSo (p : Params) (w : World Command) (bytes : List ℕ) (it : MirrorView) : Type 0 where
  pub bounds : it.bounds ≡ bounds_of p
  pub base : it.base ≡ w.base
  pub codes : List (List ℕ)
  pub codes_are : AreCodesIn (meaning_in p) w codes
  pub compared : HasCompared (meaning_in p) codes bytes it
  pub through : BeginsNoFrame (meaning_in p) it.frames.kept

-- Where a stream is compared (`same`), these bytes of it were, with what the store has in each world that it showed then.
abbrev pub HasMirror : Bool → Disk → EngineView → List ℕ → Option MirrorView → Type 0
HasMirror false d engine bytes mirror = mirror ≡ None
HasMirror true d engine bytes mirror = (it : MirrorView) × (mirror ≡ Some it) × (taken_by it.frames ≡ length bytes) × ((p : Params) (w : World Command) → ShowsIn p d engine w → MirrorsSo p w bytes it)

-- what a piece more makes of what was compared
pub record IsPieceCompared (before after : MirrorView) (piece : List ℕ) (result : Result (Unit {0}) CompareErr) : Type 0 where
  pub numbers : (after.bounds ≡ before.bounds) × (after.base ≡ before.base)
  pub taken : IfOk result (λ done. taken_by after.frames ≡ taken_by before.frames + length piece)
  pub compared : (first : List (List ℕ)) (bytes : List ℕ) → HasCompared (all_meaning before.bounds) first bytes before → ComparesPiece (all_meaning before.bounds) first (bytes ++ piece) after result

-- where nothing is compared, nothing is done
abbrev pub ComparesNext : Option MirrorView → Option MirrorView → List ℕ → Result (Unit {0}) CompareErr → Type 0
ComparesNext None after piece result = (result ≡ Ok tt) × (after ≡ None)
ComparesNext (Some it) after piece result = (then : MirrorView) × (after ≡ Some then) × IsPieceCompared it then piece result
