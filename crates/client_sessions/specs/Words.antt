-- What words of a command are, wherever they lie.
use Rattle.named_words.specs.Forms.{texts}
use Rattle.named_words.specs.Requests.{asked_of_names, asked_of_session}
use Rattle.resp_words.specs.Replies.{said}
use Rattle.client_sessions.specs.Sorted.{Bracket, Own, Sorted, all_clients, bracket, call_it, does, drops, granted, guards, its_number, its_title, leaves, of_server, on_names, opens, own, pong, refused, text, unguards}
use Rattle.client_sessions.specs.Steps.{Step, all, now, says}
use Rattle.client_sessions.specs.declared.sorted_word.BracketWord.{BracketWord}
use Rattle.client_sessions.specs.declared.sorted_word.BracketWord.TheVariants as brackets
use Rattle.client_sessions.specs.declared.sorted_word.OwnWord.{OwnWord}
use Rattle.client_sessions.specs.declared.sorted_word.OwnWord.TheVariants as owns
use Rattle.client_sessions.specs.declared.sorted_word.SortedWord.{SortedWord}
use Rattle.client_sessions.specs.declared.sorted_word.SortedWord.TheVariants as sorts
use Rattle.client_sessions.specs.declared.sorted_word.NextStep.{NextStep}
use Rattle.client_sessions.specs.declared.sorted_word.NextStep.TheVariants as steps

abbrev pub bracket_seen : BracketWord → Bracket
bracket_seen brackets.Opens = opens
bracket_seen brackets.Does = does
bracket_seen brackets.Drops = drops
bracket_seen (brackets.Guards names) = guards (texts names.now)
bracket_seen brackets.Leaves = leaves

abbrev pub own_seen : OwnWord → Own
own_seen owns.Pong = pong
own_seen (owns.Text said) = text said.now
own_seen owns.Granted = granted
own_seen owns.Unguards = unguards
own_seen (owns.CallIt title) = call_it title.now
own_seen owns.ItsTitle = its_title
own_seen owns.ItsNumber = its_number
own_seen owns.AllClients = all_clients

abbrev pub sorted_seen : SortedWord → Sorted
sorted_seen (sorts.Bracket word) = bracket (bracket_seen word)
sorted_seen (sorts.Own word) = own (own_seen word)
sorted_seen (sorts.OfServer request) = of_server (asked_of_session request)
sorted_seen (sorts.OnNames request) = on_names (asked_of_names request)
sorted_seen (sorts.Refused refusal) = refused refusal

abbrev pub step_seen : NextStep → Step
step_seen (steps.Says reply) = says (said reply)
step_seen steps.Now = now
step_seen steps.All = all
