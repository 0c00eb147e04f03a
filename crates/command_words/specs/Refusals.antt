-- Why words are not read.
use Rattle.std.specs.Prelude.{⊤}
use Rattle.command_words.specs.declared.unread.Unread.{Unread}
use Rattle.command_words.specs.declared.unread.Unread.TheVariants.{Refused, Memory}

-- the words are refused, and it is not that memory ran out
abbrev pub IsRefusal : Unread → Type 0
IsRefusal (Refused error) = ⊤
IsRefusal Memory = ⊥
