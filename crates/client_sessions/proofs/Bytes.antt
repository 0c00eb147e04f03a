-- Commands take bytes, one behind the other.
use Rattle.std.proofs.Common.{◌≡◌, ◌∙◌, ◌<◌, ◌≤◌, ℕ, List, [], ◌∷◌, ◌++◌, length, drop, refl, sym, ap, arith, length-append, inl, inr}
use Rattle.std.proofs.Math.Seq.{drop-append_seam}
use Rattle.resp_words.specs.Commands.{HasCause, IsCommand}
use Rattle.resp_words.specs.Reading.{IsBad}
use Rattle.resp_words.specs.declared.protocol_error.ProtocolError.{ProtocolError}
use Rattle.client_sessions.specs.Events.{Begins, IsLong, command}
use Rattle.client_sessions.specs.Sessions.{Words}
use Rattle.client_sessions.specs.Taking.{Takes, TellsError, TellsLength}
use Rattle.client_sessions.specs.declared.taken.Taken.{Taken}
use Rattle.client_sessions.specs.declared.taken.Taken.TheVariants.{Command, Rest, Refused}
use Rattle.client_sessions.specs.declared.session_limits.SessionLimits.{SessionLimits}

-- a command has bytes
pub command_some : (limits : SessionLimits) (text : List ℕ) (words : Words) → IsCommand limits.commands text words → 0 < length text
command_some limits text words (inl it) = omega (arith, ap length it.is)
command_some limits text words (inr it) = omega (arith, ap length it.is.is, length-append it.line (10 ∷ []))

-- what follows a command is shorter
pub command_next : (limits : SessionLimits) (at : ℕ) (bytes text later : List ℕ) (words : Words) → IsCommand limits.commands text words → bytes ≡ text ++ later → length text ≤ limits.command
    → Begins limits at bytes (command at words ∷ []) later × (length later < length bytes)
command_next limits at bytes text later words means is short =
    ((refl, text, later, means, is, short, refl), omega (arith, command_some limits text words means, ap length is, length-append text later))

-- what follows a command that was found
pub behind_command : (bytes text later behind : List ℕ) (used : ℕ) → bytes ≡ text ++ later → used ≡ length text → behind ≡ drop used bytes → bytes ≡ text ++ behind
behind_command bytes text later behind used is long back =
    is ∙ ap (λ (l : List ℕ). text ++ l) (sym (back ∙ (λ i. drop (long i) (is i)) ∙ drop-append_seam text later))

pub refused_long : (limits : SessionLimits) (bytes : List ℕ) (it : Taken) → IsLong limits bytes → TellsLength it → Takes limits bytes it
refused_long limits bytes (Refused told) long is = inr (long, is)
refused_long limits bytes (Command words rest) long is = absurd is
refused_long limits bytes Rest long is = absurd is

pub refused_cause : (limits : SessionLimits) (bytes : List ℕ) (cause : ProtocolError) (it : Taken) → IsBad (IsCommand limits.commands) bytes → HasCause limits.commands bytes cause → TellsError cause it → Takes limits bytes it
refused_cause limits bytes cause (Refused told) bad has is = inl (cause, bad, has, is)
refused_cause limits bytes cause (Command words rest) bad has is = absurd is
refused_cause limits bytes cause Rest bad has is = absurd is
