-- The page that is cut, as it is found from the root downwards, one page at a time; and the commands of a turn.
use Rattle.std.specs.Prelude.{◌≡◌, ℕ, suc, ◌≤◌, Option, None, Some, Result, Ok, Err, List, [], ◌∷◌, ◌++◌, if◌then◌else◌, option_map}
use Rattle.oper_core.specs.State.{State}
use Rattle.page_ops.specs.declared.page_op.PageOp.{PageOp}
use Rattle.page_map.specs.Splits.{Due, fits, asks, granted, bad_from, due_from, has_room}
use Rattle.page_map.specs.Sets.{Turn, does, refuses, unless_bad}
use Rattle.page_map.specs.declared.above.Above.{Above}
use Rattle.page_map.specs.declared.descent.Descent.{Descent}
use Rattle.page_map.specs.declared.due.Due.{Due as DueOfCode}
use Rattle.page_map.specs.declared.due.Due.TheVariants.{Fits, Asks, Granted}
use Rattle.page_map.specs.declared.few.Few.{Few}
use Rattle.page_map.specs.declared.further.Further.{Further}
use Rattle.page_map.specs.declared.further.Further.TheVariants.{Bad, On, Found}
use Rattle.page_map.specs.declared.refusal.MapRefusal.{MapRefusal}

abbrev pub due_seen : DueOfCode → Due
due_seen Fits = fits
due_seen (Asks cut) = asks cut
due_seen (Granted cut page place) = granted cut page place

-- What a page on the way asks for comes to, by the page above it: that names the new page where it has room; else it is what was
-- due without the page.
abbrev pub answered : ℕ → Option Above → Due → Due
answered room None due = due
answered room (Some above) fits = fits
answered room (Some above) (asks w) = if has_room room above.size w.key then granted w above.page above.place else due_seen above.due
answered room (Some above) (granted w q i) = granted w q i

module _ (room lo hi : ℕ) (s : State) (key value : List ℕ) where
  -- what is due, where the search has come to a page
  abbrev pub due_on : Descent → Result Due ℕ
  due_on d = unless_bad lo (bad_from lo hi s key d.level d.object) (option_map (answered room d.above) (due_from room lo s key value d.level d.object d.end))

  -- one page further: it is bad, or the same is due from the child on, or it is found
  abbrev pub GoesOn : Descent → Further → Type 0
  GoesOn d Bad = due_on d ≡ Err d.object
  GoesOn d (On next) = (due_on d ≡ due_on next) × (d.level ≡ suc next.level) × (next.object ≤ hi)
  GoesOn d (Found due) = due_on d ≡ Ok (due_seen due)

-- one command, two or three
abbrev pub if_there : Option PageOp → List PageOp
if_there None = []
if_there (Some op) = op ∷ []

abbrev pub commands_in : Few → List PageOp
commands_in few = few.first ∷ (if_there few.second ++ if_there few.third)

abbrev pub turn_told : Result Few MapRefusal → Turn
turn_told (Ok few) = does (commands_in few)
turn_told (Err refusal) = refuses refusal

-- the first two free objects, where they are there
abbrev pub two_of : Option ℕ → Option ℕ → List ℕ
two_of None second = []
two_of (Some x) None = x ∷ []
two_of (Some x) (Some y) = x ∷ y ∷ []
