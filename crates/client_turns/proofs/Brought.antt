-- Frames tell events, one behind the other.
use Rattle.std.proofs.Common.{◌≡◌, ◌∙◌, ◌<◌, ◌≤◌, ℕ, List, [], ◌∷◌, ◌++◌, drop, length, refl, sym, ap, subst, arith, append_assoc, length-append, inl, inr}
use Rattle.std.specs.Prelude.{◌==◌, false, slice_set, true}
use Rattle.std.proofs.lemmas.Bool.Decides.{nat_tests}
use Rattle.std.proofs.Math.Seq.{drop-append_seam}
use Rattle.std.specs.List.{AllByRecursion}
use Rattle.std.proofs.lemmas.List.{append-nil}
use Rattle.client_frames.specs.Frames.{Frame, IsFrame, frame_bytes, frames_bytes}
use Rattle.byteorder.specs.Endian.{little_bytes}
use Rattle.oper_core.specs.LittleEndian.{length-little_bytes}
use Rattle.client_frames.specs.Reading.{IsUnfinished}
use Rattle.client_sessions.specs.Events.{Begins, BringAll, Brings, Ends, Event, Rests, Tells, bad, command, gone, rest_at}
use Rattle.client_sessions.specs.Taking.{TellsNext}
use Rattle.client_sessions.specs.declared.heard.Heard.{Heard}
use Rattle.client_sessions.specs.declared.heard.Heard.TheVariants as next
use Rattle.client_sessions.specs.declared.session_limits.SessionLimits.{SessionLimits}
use Rattle.client_turns.specs.Serves.{BringFirst, HasHeard, Service, no_rests}
use Rattle.client_turns.specs.Within.{HasRead, TellsFirst}
use Rattle.client_turns.proofs.Histories.{bytes_more}

module _ (limits : SessionLimits) where
  module _ (at : ℕ) where
    pub begins_more : (bytes later last : List ℕ) (es ms : List Event) → Begins limits at bytes es later → Begins limits at later ms last → Begins limits at bytes (es ++ ms) last
    begins_more bytes later last [] ms one two = subst (λ (l : List ℕ). Begins limits at l ms last) one two
    begins_more bytes later last (command by words ∷ es) ms one two = (one.0, one.1, one.2, one.3, one.4, one.5, begins_more one.2 later last es ms one.6 two)
    begins_more bytes later last (bad by told ∷ es) ms one two = absurd one
    begins_more bytes later last (gone by ∷ es) ms one two = absurd one

    tells_more : (bytes later rest : List ℕ) (es ms : List Event) → Begins limits at bytes es later → Tells limits at later ms rest → Tells limits at bytes (es ++ ms) rest
    tells_more bytes later rest es ms one two = record {
      commands = es ++ two.commands;
      last = two.last;
      later = two.later;
      begins = begins_more bytes later two.later es two.commands one two.begins;
      ends = two.ends;
      are = ap (λ (l : List Event). es ++ l) two.are ∙ sym (append_assoc es two.commands two.last);
    }

    tells_end : (bytes rest : List ℕ) (es : List Event) → Ends limits at bytes es rest → Tells limits at bytes es rest
    tells_end bytes rest es ends = record { commands = []; last = es; later = bytes; begins = refl; ends = ends; are = refl }

    -- commands, and then an end
    pub tells_all : (bytes later rest : List ℕ) (es ms : List Event) → Begins limits at bytes es later → Ends limits at later ms rest → Tells limits at bytes (es ++ ms) rest
    tells_all bytes later rest es ms one ends = tells_more bytes later rest es ms one (tells_end later rest ms ends)

    -- what comes first of what follows
    pub first_behind : (bytes later : List ℕ) (es ms : List Event) → Begins limits at bytes es later → TellsFirst limits at later ms → TellsFirst limits at bytes (es ++ ms)
    first_behind bytes later es ms one (rest, inl begins) = (rest, inl (begins_more bytes later rest es ms one begins))
    first_behind bytes later es ms one (rest, inr tells) = (rest, inr (tells_more bytes later rest es ms one tells))

    pub next_first : (bytes : List ℕ) (heard : Heard) (es : List Event) → TellsNext limits at bytes heard es → TellsFirst limits at bytes es
    next_first bytes (next.Command later) es tells = (later.now, inl tells.0)
    next_first bytes next.Rest es tells = (bytes, inr (tells_end bytes bytes es tells))
    next_first bytes next.Refused es tells = ([], inr (tells_end bytes [] es tells))

  bring_more : (fs gs : List Frame) (a b c : Rests) (es ms : List Event) → BringAll limits a fs es b → BringAll limits b gs ms c → BringAll limits a (fs ++ gs) (es ++ ms) c
  bring_more [] gs a b c es ms one two =
      subst (λ (r : Rests). BringAll limits r gs (es ++ ms) c) one.1 (subst (λ (l : List Event). BringAll limits b gs (l ++ ms) c) (sym one.0) two)
  bring_more (f ∷ fs) gs a b c es ms one two =
      (one.0, one.1, one.2 ++ ms, one.3, one.4, ap (λ (l : List Event). l ++ ms) one.5 ∙ append_assoc one.1 one.2 ms, bring_more fs gs _ b c one.2 ms one.6 two)

  first_more : (fs gs : List Frame) (a b : Rests) (es ms : List Event) → BringAll limits a fs es b → BringFirst limits b gs ms → BringFirst limits a (fs ++ gs) (es ++ ms)
  first_more [] gs a b es ms one two =
      subst (λ (r : Rests). BringFirst limits r gs (es ++ ms)) one.1 (subst (λ (l : List Event). BringFirst limits b gs (l ++ ms)) (sym one.0) two)
  first_more (f ∷ fs) gs a b es ms one two =
      (one.0, inr (one.1, one.2 ++ ms, one.3, one.4, ap (λ (l : List Event). l ++ ms) one.5 ∙ append_assoc one.1 one.2 ms, first_more fs gs _ b one.2 ms one.6 two))

  first_of_all : (fs : List Frame) (a b : Rests) (es : List Event) → BringAll limits a fs es b → BringFirst limits a fs es
  first_of_all [] a b es is = is.0
  first_of_all (f ∷ fs) a b es is = (is.0, inr (is.1, is.2, is.3, is.4, is.5, first_of_all fs _ b is.2 is.6))

  -- a frame with bytes
  pub brings_some : (at : ℕ) (rest bytes after : List ℕ) (events : List Event) → 0 < length bytes → Tells limits at (rest ++ bytes) events after → Brings limits at rest bytes events after
  brings_some at rest [] after events some tells = absurd (omega (arith, some))
  brings_some at rest (byte ∷ bytes) after events some tells = tells

  -- and one without
  pub brings_gone : (at : ℕ) (rest bytes : List ℕ) → bytes ≡ [] → Brings limits at rest bytes (gone at ∷ []) []
  brings_gone at rest bytes none = subst (λ (l : List ℕ). Brings limits at rest l (gone at ∷ []) []) (sym none) (refl, refl)

  first_one : (rests : Rests) (frame : Frame) (es : List Event) → frame.client < length rests → 0 < length frame.bytes → TellsFirst limits frame.client (rest_at rests frame.client ++ frame.bytes) es
      → BringFirst limits rests (frame ∷ []) es
  first_one rests frame es within some (later, inl begins) = (within, inl (later, begins))
  first_one rests frame es within some (later, inr tells) =
      (within, inr (es, [], later, brings_some frame.client (rest_at rests frame.client) frame.bytes later es some tells, sym (append-nil es), refl))

all_last : (frames : List Frame) (frame : Frame) → AllByRecursion IsFrame frames → IsFrame frame → AllByRecursion IsFrame (frames ++ frame ∷ [])
all_last [] frame all is = (is, tt)
all_last (f ∷ frames) frame all is = (all.0, all_last frames frame all.1 is)

frames_last : (heard later : List ℕ) (frames : List Frame) (frame : Frame) → heard ≡ frames_bytes frames ++ (frame_bytes frame ++ later) → heard ≡ frames_bytes (frames ++ frame ∷ []) ++ later
frames_last heard later frames frame is = is ∙ sym (append_assoc (frames_bytes frames) (frame_bytes frame) later)
    ∙ ap (λ (l : List ℕ). l ++ later) (ap (λ (l : List ℕ). frames_bytes frames ++ l) (sym (append-nil (frame_bytes frame))) ∙ sym (bytes_more frames (frame ∷ [])))

module _ (service : Service) where
  -- all that frames told had been heard
  pub heard_read : (heard ahead : List ℕ) (rests : Rests) (es : List Event) → HasRead service heard ahead rests es → HasHeard service heard es
  heard_read heard ahead rests es it =
      record { frames = it.frames; later = ahead; begins = it.is; whole = it.whole; told = first_of_all service.limits it.frames (no_rests service.count) rests es it.bring }

  -- and what one more tells first
  pub heard_part : (heard ahead : List ℕ) (rests : Rests) (es ms : List Event) (frame : Frame) → HasRead service heard (frame_bytes frame ++ ahead) rests es → IsFrame frame → frame.client < length rests
      → 0 < length frame.bytes → TellsFirst service.limits frame.client (rest_at rests frame.client ++ frame.bytes) ms → HasHeard service heard (es ++ ms)
  heard_part heard ahead rests es ms frame it is within some tells = record {
    frames = it.frames ++ frame ∷ [];
    later = ahead;
    begins = frames_last heard ahead it.frames frame it.is;
    whole = all_last it.frames frame it.whole is;
    told = first_more service.limits it.frames (frame ∷ []) (no_rests service.count) rests es ms it.bring (first_one service.limits rests frame ms within some tells);
  }

  -- a frame more was read
  pub read_frame : (heard ahead : List ℕ) (rests : Rests) (es ms : List Event) (rest : List ℕ) (frame : Frame) → HasRead service heard (frame_bytes frame ++ ahead) rests es → IsFrame frame → frame.client < length rests
      → Brings service.limits frame.client (rest_at rests frame.client) frame.bytes ms rest → HasRead service heard ahead (slice_set rests frame.client rest) (es ++ ms)
  read_frame heard ahead rests es ms rest frame it is within brings = record {
    frames = it.frames ++ frame ∷ [];
    is = frames_last heard ahead it.frames frame it.is;
    whole = all_last it.frames frame it.whole is;
    bring = bring_more service.limits it.frames (frame ∷ []) (no_rests service.count) rests (slice_set rests frame.client rest) es ms it.bring (within, ms, [], rest, brings, sym (append-nil ms), (refl, refl));
  }

pub nil_if : (l : List ℕ) → (length l == 0) ≡ true → l ≡ []
nil_if [] is = refl
nil_if (x ∷ xs) is = absurd (grind (arith, nat_tests, is))

pub some_if : (l : List ℕ) → (length l == 0) ≡ false → 0 < length l
some_if l is = grind (arith, nat_tests, is)

-- what follows a frame
pub behind_frame : (bytes later behind : List ℕ) (frame : Frame) (size : ℕ) → bytes ≡ frame_bytes frame ++ later → size ≡ length (frame_bytes frame) → behind ≡ drop size bytes → behind ≡ later
behind_frame bytes later behind frame size is long back = back ∙ (λ i. drop (long i) (is i)) ∙ drop-append_seam (frame_bytes frame) later

length_frame : (frame : Frame) → 4 ≤ length (frame_bytes frame)
length_frame frame =
    omega (arith, length-append (little_bytes 4 frame.client) (little_bytes 4 (length frame.bytes) ++ frame.bytes), length-little_bytes 4 frame.client)

pub behind_fewer : (bytes later behind : List ℕ) (frame : Frame) (size : ℕ) → bytes ≡ frame_bytes frame ++ later → size ≡ length (frame_bytes frame) → behind ≡ drop size bytes → length behind < length bytes
behind_fewer bytes later behind frame size is long back =
    omega (arith, length_frame frame, ap length is, length-append (frame_bytes frame) later, ap length (behind_frame bytes later behind frame size is long back))

pub unfinished_nothing : (rest : List ℕ) → rest ≡ [] → IsUnfinished rest
unfinished_nothing rest none frame later is stands = omega (arith, ap length none, ap length stands, length-append (frame_bytes frame) later, length_frame frame)
