-- What a command does to its client's session as it comes, and what is still to be done then.
use Rattle.std.specs.Prelude.{ℕ, ◌+◌, true, nat_le, None, List, [], ◌∷◌, ◌++◌, codes, length, if◌then◌else◌}
use Rattle.resp_words.specs.Replies.{Said, array, error, status}
use Rattle.client_sessions.specs.Sessions.{Client, Words, cost, ended}
use Rattle.client_sessions.specs.Sorted.{Bracket, Sorted, bracket, does, drops, guards, is_early, leaves, opens, refused}
use Rattle.client_sessions.specs.declared.session_limits.SessionLimits.{SessionLimits}

pub data Step : Type 0 where
  -- nothing more: this is said
  says : Said → Step
  -- it is done at once
  now : Step
  -- all that is queued is done at once
  all : Step

abbrev pub done : Said
done = status (codes "OK")

-- EXEC: refused where a queued command was; nothing where a watched name was changed; else all that is queued, at once
abbrev pub exec_of : Client → Client × Step
exec_of client =
    if client.spoilt then (ended client, says (error (codes "EXECABORT Transaction discarded because of previous errors.")))
    else if client.stale then (ended client, says (array None))
    else (client, all)

-- behind MULTI
abbrev pub inside : Client → Bracket → Client × Step
inside client opens = (client, says (error (codes "ERR MULTI calls can not be nested")))
inside client does = exec_of client
inside client drops = (ended client, says done)
inside client (guards names) = (client, says (error (codes "ERR WATCH inside MULTI is not allowed")))
inside client leaves = (record client { leaving = true }, says done)

module _ (limits : SessionLimits) where
  -- names more are watched, up to a limit
  abbrev pub guarded : Client → List (List ℕ) → Client × Step
  guarded client names =
      if nat_le (length client.watched + length names) limits.watched then (record client { watched = client.watched ++ names }, says done)
      else (client, says (error (codes "ERR too many watched names")))

  -- where nothing is queued
  abbrev pub outside : Client → Bracket → Client × Step
  outside client opens = (record client { multi = true }, says done)
  outside client does = (client, says (error (codes "ERR EXEC without MULTI")))
  outside client drops = (client, says (error (codes "ERR DISCARD without MULTI")))
  outside client (guards names) = guarded client names
  outside client leaves = (record client { leaving = true }, says done)

  abbrev pub queued : Client → Words → Client × Step
  queued client words =
      if nat_le (client.held + cost words) limits.queue
      then (record client { queue = client.queue ++ words ∷ []; held = client.held + cost words }, says (status (codes "QUEUED")))
      else (record client { spoilt = true }, says (error (codes "ERR too many commands are queued")))

  -- a command that is no bracket is queued behind MULTI, or spoils all where it is refused as it comes
  abbrev pub kept : Client → Words → Sorted → Client × Step
  kept client words (refused refusal) = if is_early refusal then (record client { spoilt = true }, now) else queued client words
  kept client words other = queued client words

  abbrev pub step_of : Client → Words → Sorted → Client × Step
  step_of client words (bracket word) = if client.multi then inside client word else outside client word
  step_of client words other = if client.multi then kept client words other else (client, now)
