-- What is kept of clients, wherever it lies.
use Rattle.std.specs.Prelude.{ℕ, length, map}
use Rattle.named_words.specs.Effects.{Names}
use Rattle.client_sessions.specs.Sessions.{Client, Server}
use Rattle.client_sessions.specs.declared.session.Session.{Session}
use Rattle.client_sessions.specs.declared.sessions.Sessions.{Sessions}

abbrev pub client_of : Session → Client
client_of it =
    record {
      here = it.here;
      leaving = it.leaving;
      number = it.number;
      title = it.title.items;
      multi = it.multi;
      queue = map (λ words. map (λ word. word.items) words.items) it.queue.items;
      held = it.held;
      spoilt = it.spoilt;
      watched = map (λ name. name.items) it.watched.items;
      stale = it.stale;
    }

abbrev pub server_of : Names → Sessions → Server
server_of names it = record { names = names; clients = map client_of it.sessions.items; came = it.came }

-- how many clients there may be at once
abbrev pub count_of : Sessions → ℕ
count_of it = length it.sessions.items
