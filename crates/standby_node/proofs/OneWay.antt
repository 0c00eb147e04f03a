-- A stream's whole frames have one list of records.
use Rattle.std.proofs.Common.{◌≡◌, ◌∙◌, sym, subst, ap, ℕ, List, [], ◌∷◌, ◌++◌, refl}
use Rattle.std.specs.List.{AllByRecursion}
use Rattle.std.proofs.lemmas.List.{append_cancel_left}
use Rattle.disk_model.specs.Disk.{Disk}
use Rattle.disk_model.specs.declared.machine.FileNo.TheVariants.{Objects}
use Rattle.oper_core.specs.Meaning.{IsSmall, Meaning}
use Rattle.oper_core.specs.declared.bounds.Bounds.{Bounds}
use Rattle.formats.specs.Objects.{IsObjectsFile, bounds_of}
use Rattle.formats.specs.Records.{payload_of, record_code, records_of}
use Rattle.formats.specs.declared.params.Params.{Params}
use Rattle.formats.specs.declared.record.Record.{Record}
use Rattle.frame_stream.specs.Frames.{Splits}
use Rattle.log_records.specs.Codec.{StartsWithRecord}
use Rattle.explain_core.specs.History.{Member}
use Rattle.execution.specs.Judged.{follows}
use Rattle.standing.specs.OneStable.{small_store}
use Rattle.store_engine.specs.Store.{meaning_in}
use Rattle.standby_node.specs.Standby.{AreFramesOf, IsBetweenPieces, IsFollowing, MayBeShipped, StandbyView}
use Rattle.standby_node.proofs.Fed.{all_past}
use Rattle.standby_node.proofs.InHand.{no_code}

module _ {O : Type 0} (m : Meaning O) (one_record : (bytes : List ℕ) (first second : Record O) → StartsWithRecord m bytes first → StartsWithRecord m bytes second → first ≡ second) where
  -- a payload has one list of records
  one_list : (rs ss : List (Record O)) → AllByRecursion (MayBeShipped m) rs → AllByRecursion (MayBeShipped m) ss → payload_of m rs ≡ payload_of m ss → rs ≡ ss
  one_list [] [] all_r all_s same = refl
  one_list [] (s ∷ ss) all_r all_s same = absurd (no_code m s ss (sym same))
  one_list (r ∷ rs) [] all_r all_s same = absurd (no_code m r rs same)
  one_list (r ∷ rs) (s ∷ ss) all_r all_s same =
      let head = one_record (payload_of m (r ∷ rs)) r s (record { rest = payload_of m rs; split = refl; in_grammar = all_r.0.0 }) (record { rest = payload_of m ss; split = same; in_grammar = all_s.0.0 }) in
      let tail = one_list rs ss all_r.1 all_s.1 (append_cancel_left (record_code m r) (payload_of m rs) (payload_of m ss) (same ∙ ap (λ (t : Record O). record_code m t ++ payload_of m ss) (sym head))) in
      λ i. head i ∷ tail i

  -- and payloads have one list of groups
  pub one_grouping : (payloads : List (List ℕ)) (gs hs : List (List (Record O))) → AreFramesOf m payloads gs → AreFramesOf m payloads hs → gs ≡ hs
  one_grouping [] [] [] are_g are_h = refl
  one_grouping [] [] (h ∷ hs) are_g are_h = absurd are_h
  one_grouping [] (g ∷ gs) hs are_g are_h = absurd are_g
  one_grouping (payload ∷ payloads) [] hs are_g are_h = absurd are_g
  one_grouping (payload ∷ payloads) (g ∷ gs) [] are_g are_h = absurd are_h
  one_grouping (payload ∷ payloads) (g ∷ gs) (h ∷ hs) are_g are_h =
      let head = one_list g h are_g.0.shipped are_h.0.shipped (sym are_g.0.is ∙ are_h.0.is) in
      let tail = one_grouping payloads gs hs are_g.1 are_h.1 in
      λ i. head i ∷ tail i

-- the store of a standby that follows has small numbers
pub small_followed : {O : Type 0} (meaning : Bounds → Meaning O) (p : Params) (first : List (Member O)) (bytes : List ℕ) (d : Disk) (s : StandbyView) → IsFollowing meaning p first bytes d s → IsSmall (bounds_of p)
small_followed meaning p first bytes d s f = small_store p (d.reads Objects) (subst (λ (q : Params). IsObjectsFile q (d.reads Objects)) f.shows.shows.store.params f.shows.shows.store.laid.slots.whole)

pub one_history : {O : Type 0} (meaning : Bounds → Meaning O) (p : Params) (first : List (Member O)) (bytes : List ℕ) (now then : Disk) (one other : StandbyView) (a : IsFollowing meaning p first bytes now one) (b : IsFollowing meaning p first bytes then other)
    → IsBetweenPieces one → IsBetweenPieces other
    → ((bytes : List ℕ) (payloads others : List (List ℕ)) (rest last : List ℕ) → Splits bytes payloads rest → Splits bytes others last → payloads ≡ others)
    → (IsSmall (bounds_of p) → (bytes : List ℕ) (first second : Record O) → StartsWithRecord (meaning_in meaning p) bytes first → StartsWithRecord (meaning_in meaning p) bytes second → first ≡ second)
    → a.world.history ≡ b.world.history
one_history {O} meaning p first bytes now then one other a b here there apart one_record =
    let m = meaning_in meaning p in
    let small = small_followed meaning p first bytes now one a in
    let payloads = apart bytes a.payloads b.payloads one.frames.kept other.frames.kept (record { is = a.passed.is; whole = a.passed.whole; unfinished = here.unfinished }) (record { is = b.passed.is; whole = b.passed.whole; unfinished = there.unfinished }) in
    let groups = one_grouping m (one_record small) b.payloads a.groups b.groups (subst (λ (l : List (List ℕ)). AreFramesOf m l a.groups) payloads a.frames_are) b.frames_are in
    all_past meaning p first bytes now one a here.none_done ∙ ap (λ (gs : List (List (Record O))). follows m first (records_of gs)) groups ∙ sym (all_past meaning p first bytes then other b there.none_done)
