-- One object more is copied.
use Rattle.std.proofs.Common.{◌≡◌, ◌∙◌, ◌<◌, ◌+◌, ℕ, List, [], Some, refl, sym, ap, subst, arith}
use Rattle.std.specs.Prelude.{nat_eq}
use Rattle.std.proofs.lemmas.Bool.{cond-true, cond-false, eq-eqb, ne_eqb}
use Rattle.disk_model.specs.Disk.{Disk, Runs, Same, In}
use Rattle.disk_model.specs.declared.machine.FileNo.TheVariants.{Objects, LogA}
use Rattle.oper_core.specs.Cell.{Cell}
use Rattle.oper_core.specs.Meaning.{Meaning}
use Rattle.oper_core.specs.declared.bounds.Bounds.{Bounds}
use Rattle.formats.specs.Log.{new_header}
use Rattle.formats.specs.Objects.{bounds_of}
use Rattle.formats.specs.declared.params.Params.{Params}
use Rattle.log_blocks.specs.Laws.{log_stays}
use Rattle.stable_objects.specs.GateLaws.{kept_closed}
use Rattle.stable_objects.specs.Making.{KeepsGate}
use Rattle.explain_core.specs.Backup.{IsCopied, with_next}
use Rattle.explain_core.specs.Sound.{IsSound}
use Rattle.explain_core.specs.World.{World}
use Rattle.store_engine.specs.Engine.{EngineView, ShowsIn, so_far}
use Rattle.store_engine.specs.Grouping.{ungrouped}
use Rattle.store_engine.specs.Store.{meaning_in}
use Rattle.backup_copy.specs.Copies.{Copies}
use Rattle.backup_copy.specs.Target.{IsPartCopy, IsTarget, MayPut}
use Rattle.backup_copy.proofs.Filled.{target_still}
use Rattle.backup_copy.proofs.Pairs.{shown_may}
use Rattle.backup_copy.proofs.Shown.{shows_copied}

-- a call that leaves the gate as it is leaves the part copy that its objects file is
pub part_after : (p : Params) (n more : ℕ) (cells now : ℕ → Cell) (old new : Disk) → old.tells_files → Runs (In Objects KeepsGate) Same old new → IsPartCopy p n cells old → IsTarget p more now (new.reads Objects) → IsPartCopy p more now new
part_after p n more cells now old new tells run part target =
    let told = λ (moments : new.tells_moments). run.time.moments_told.1 moments in
    let step = run.reads tells in
    record {
      objects = target;
      shut = λ moments files said left.
          let from = (run.crash (told moments) files said (run.ends.among old.clock new.clock files said run.time.later (omega arith) left)).0 in
          kept_closed (from.0 Objects) (files Objects) from.2.changed (part.shut (told moments) from.0 old.said from.1);
      log = log_stays LogA new_header [] KeepsGate old.reads new.reads step part.log;
      settled = λ moments files said left.
          let from = (run.crash (told moments) files said (run.ends.among old.clock new.clock files said run.time.later (omega arith) left)).0 in
          from.2.others LogA (λ e. cc) ∙ part.settled (told moments) from.0 old.said from.1 ∙ sym (step.others LogA (λ e. cc));
    }

-- the pair of the next object was put
abbrev pub PutsNext : Params → Disk → Disk → ℕ → ℕ → List ℕ → Type 0
PutsNext p t t' object lsn value = (cells : ℕ → Cell) → cells object ≡ record { lsn = lsn; value = value } → MayPut lsn value → IsTarget p object cells (t.reads Objects) → IsTarget p (object + 1) cells (t'.reads Objects)

module _ {O : Type 0} (meaning : Bounds → Meaning O) (p : Params) where
  -- the copy of the slots has one more
  abbrev pub CopiesMore : Type 0
  CopiesMore = (b : Bounds) (w : World O) (copied : ℕ) (cells : ℕ → Cell) → IsSound (meaning b) w → IsCopied (meaning b) w copied cells → IsCopied (meaning b) w (copied + 1) (with_next w copied cells)

  module _ (w : World O) (cells : ℕ → Cell) (object : ℕ) where
    abbrev pub next_cells : ℕ → Cell
    next_cells = with_next (ungrouped w) object cells

    next_at : next_cells object ≡ w.slots object
    next_at = cond-true (nat_eq object object) (w.slots object) (cells object) (eq-eqb object object refl)

    next_below : (x : ℕ) → x < object → cells x ≡ next_cells x
    next_below x less = sym (cond-false (nat_eq x object) (w.slots x) (cells x) (ne_eqb x object (λ same. omega (arith, less, same))))

  module _ (old mid : Disk) (before between after : EngineView) (w : World O) (t t' : Disk) (object lsn : ℕ) (value : List ℕ) where
    -- its pair was read and put, and it is counted
    pub copied_next : CopiesMore → object < p.objects → before.copied ≡ Some object → w.slots object ≡ record { lsn = lsn; value = value } → ShowsIn meaning p mid between w → after ≡ record between { copied = Some (object + 1) }
        → Runs (In Objects KeepsGate) Same t t'
        → (t.tells_files → PutsNext p t t' object lsn value)
        → Copies meaning p old before w t → Copies meaning p mid after w t'
    copied_next more below next pair shows after_is run put is =
        let here : is.done ≡ object = ap so_far (sym is.so_far ∙ next) in
        let copied : IsCopied (meaning_in meaning p) (ungrouped w) object is.cells = subst (λ (n : ℕ). IsCopied (meaning_in meaning p) (ungrouped w) n is.cells) here is.copied in
        record {
          shows = subst (λ (e : EngineView). ShowsIn meaning p mid e w) (sym after_is) (shows_copied meaning p mid between w shows (Some (object + 1)));
          done = object + 1;
          so_far = ap (λ (e : EngineView). e.copied) after_is;
          within = omega (arith, below);
          cells = next_cells w is.cells object;
          copied = more (bounds_of p) (ungrouped w) object is.cells shows.shows.running.sound copied;
          target = λ tells'.
              let tells = run.time.files_told.1 tells' in
              let part = subst (λ (n : ℕ). IsPartCopy p n is.cells t) here (is.target tells) in
              let before_it = target_still p object is.cells (next_cells w is.cells object) (t.reads Objects) (next_below w is.cells object) part.objects in
              part_after p object (object + 1) is.cells (next_cells w is.cells object) t t' tells run part
              (put tells (next_cells w is.cells object) (next_at w is.cells object ∙ pair) (shown_may meaning p mid between w shows object lsn value below pair) before_it);
        }

  -- where no object more was copied
  pub copied_beside : (old mid : Disk) (before between : EngineView) (w : World O) (t t' : Disk) → between.copied ≡ before.copied → ShowsIn meaning p mid between w → (is : Copies meaning p old before w t)
      → (t'.tells_files → IsPartCopy p is.done is.cells t') → Copies meaning p mid between w t'
  copied_beside old mid before between w t t' same shows is target = record { shows = shows; done = is.done; so_far = same ∙ is.so_far; within = is.within; cells = is.cells; copied = is.copied; target = target }

  pub copied_still : (old mid : Disk) (before between : EngineView) (w : World O) (t : Disk) → between.copied ≡ before.copied → ShowsIn meaning p mid between w → Copies meaning p old before w t → Copies meaning p mid between w t
  copied_still old mid before between w t same shows is = copied_beside old mid before between w t t same shows is is.target
