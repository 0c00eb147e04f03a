-- What a crash may leave of calls that take steps and say nothing.
use Rattle.std.proofs.Common.{◌≡◌, ◌⊎◌, ⊎_elim, sym, subst, ℕ, ◌+◌, List, [], ◌∷◌, ◌++◌}
use Rattle.std.specs.Prelude.{IsTrue}
use Rattle.disk_model.specs.Disk.{Files, Disk, LeavesOnly}
use Rattle.disk_model.specs.Silent.{IsSilent, silent_weaker, silent_twice}
use Rattle.oper_core.specs.Meaning.{Meaning}
use Rattle.formats.specs.declared.params.Params.{Params}
use Rattle.explain_core.specs.Taken.{IsAfterSome, after_none, after_all, after_longer, after_behind, after_install}
use Rattle.explain_core.specs.TurnLaws.{turns_join}
use Rattle.explain_core.specs.Turns.{must_install, thin_turn, turns}
use Rattle.explain_core.specs.World.{World, Step, step, run}
use Rattle.explain_core.specs.declared.marks.Marks.{Marks}
use Rattle.standing.specs.Standing.{FilesShow}

-- the image shows the world after some first steps of the list, none or all among them
abbrev pub ShowsSome : {O : Type 0} → Meaning O → Params → World O → List (Step O) → Files → Type 0
ShowsSome m p w steps files = IsAfterSome m (FilesShow m p files) w steps

-- each image that a crash since `old` leaves shows the world after some first steps, and nothing was said
abbrev pub TakesSome : {O : Type 0} → Meaning O → Params → Disk → Disk → World O → List (Step O) → Type 0
TakesSome m p old new w steps = LeavesOnly old new (IsSilent (ShowsSome m p w steps) old.said)

module _ {O : Type 0} (m : Meaning O) (p : Params) where
  -- a call that leaves the world as it is takes none of the steps that are to come
  pub moments_none : (old new : Disk) (w : World O) (steps : List (Step O)) → LeavesOnly old new (IsSilent (λ files. FilesShow m p files w) old.said) → TakesSome m p old new w steps
  moments_none old new w steps stays = silent_weaker old new (λ files. FilesShow m p files w) (ShowsSome m p w steps) (λ files is. after_none m (FilesShow m p files) w steps is) stays

  -- the world before a step or the one after it
  abbrev pub ShowsEither : World O → Step O → Files → Type 0
  ShowsEither w s files = FilesShow m p files w ⊎ FilesShow m p files (step m w s)

  -- a call that takes one step, or leaves the world as it is
  pub moments_one : (old new : Disk) (w : World O) (s : Step O) → LeavesOnly old new (IsSilent (ShowsEither w s) old.said) → TakesSome m p old new w (s ∷ [])
  unfolding run
  moments_one old new w s either =
      silent_weaker old new (ShowsEither w s) (ShowsSome m p w (s ∷ []))
      (λ files is. ⊎_elim (λ before. after_none m (FilesShow m p files) w (s ∷ []) before) (λ after. after_all m (FilesShow m p files) w (s ∷ []) after) is) either

  -- a call that takes some first steps of a list takes some of a longer one
  pub moments_longer : (old new : Disk) (w : World O) (xs ys : List (Step O)) → TakesSome m p old new w xs → TakesSome m p old new w (xs ++ ys)
  moments_longer old new w xs ys first =
      silent_weaker old new (ShowsSome m p w xs) (ShowsSome m p w (xs ++ ys)) (λ files is. after_longer m (FilesShow m p files) w xs ys is) first

  -- two calls: within either a crash leaves the world after some first steps of both
  pub moments_twice : (old mid new : Disk) (w : World O) (xs ys : List (Step O)) → mid.said ≡ old.said
      → TakesSome m p old mid w xs → TakesSome m p mid new (run m w xs) ys → TakesSome m p old new w (xs ++ ys)
  moments_twice old mid new w xs ys quiet first second =
      silent_twice old mid new (ShowsSome m p w xs) (ShowsSome m p (run m w xs) ys) (ShowsSome m p w (xs ++ ys)) quiet
      (λ files is. after_longer m (FilesShow m p files) w xs ys is) (λ files is. after_behind m (FilesShow m p files) w xs ys is) first second

  -- a turn that logs nothing, where a redo takes one, takes some steps of its own
  pub moments_install : (old new : Disk) (w : World O) (marks : Marks) → IsTrue (must_install m marks w) → TakesSome m p old new w (thin_turn m marks.most w) → TakesSome m p old new w (turns m marks 1 w)
  moments_install old new w marks must install =
      silent_weaker old new (ShowsSome m p w (thin_turn m marks.most w)) (ShowsSome m p w (turns m marks 1 w)) (λ files is. after_install m (FilesShow m p files) w marks must is) install

  -- two parts of a redo, each of some turns
  pub moments_turns : (old mid new : Disk) (w : World O) (marks : Marks) (a b : ℕ) → mid.said ≡ old.said → TakesSome m p old mid w (turns m marks a w)
      → TakesSome m p mid new (run m w (turns m marks a w)) (turns m marks b (run m w (turns m marks a w))) → TakesSome m p old new w (turns m marks (a + b) w)
  moments_turns old mid new w marks a b quiet first second =
      let xs = turns m marks a w in
      subst (λ (l : List (Step O)). TakesSome m p old new w l) (sym (turns_join m marks a b w)) (moments_twice old mid new w xs (turns m marks b (run m w xs)) quiet first second)
