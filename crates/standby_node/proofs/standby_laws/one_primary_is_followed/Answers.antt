use Rattle.std.proofs.Common.{◌++◌, List, ℕ, arith, subst}
use Rattle.disk_model.specs.declared.machine.FileNo.TheVariants.{Objects}
use Rattle.oper_core.specs.Meaning.{IsSmall}
use Rattle.formats.specs.Objects.{bounds_of}
use Rattle.formats.specs.declared.params.Params.{Params}
use Rattle.explain_core.specs.History.{Member}
use Rattle.explain_core.specs.World.{World}
use Rattle.standing.specs.OneStable.{small_store}
use Rattle.store_engine.specs.Store.{meaning_in}
use Rattle.standby_node.specs.OnePrimary.{IsFedBy, stable_in}
use Rattle.standby_node.proofs.Decoded.{AreOf, pieces_of}
use Rattle.standby_node.proofs.OnePrimary.{MayFollow, end_front, front_follows, gap_alone, its_front, stable_follow}
use Rattle.standby_node.proofs.OneWay.{small_followed}
use Rattle.standby_node.proofs.standby_laws.one_primary_is_followed.Given.{Over}
use Rattle.standby_node.proofs.standby_laws.one_primary_is_followed.Goals.{After-records_are_judged}
use Rattle.standby_node.proofs.standby_laws.one_primary_is_followed.Goals as goal

module _ (g : Over) (c : After-records_are_judged g) (p q : Params) (w : World g.row.O.Denot) (first : List (Member g.row.O.Denot)) (bytes : List ℕ) (fed : IsFedBy g.O.Oper.meaning p q w first bytes) where
  follow : IsSmall (bounds_of q) → MayFollow (meaning_in g.O.Oper.meaning q) (stable_in w)
  follow small =
      stable_follow g.O.Oper.meaning (bounds_of p) (bounds_of q) w small fed.within (c.stable_parts_stand.ensures.stands (bounds_of p) w fed.sound)
      (λ parts h installed low within is. c.wider_bounds_keep_stable_parts.ensures (bounds_of p) (bounds_of q) parts h installed low within is) (λ s member. (c.records_are_judged.ensures.member (bounds_of q) s member).1)

  all : AreOf (meaning_in g.O.Oper.meaning q) (stable_in w) (bytes ++ fed.came.0)
  all =
      let low = g.met.O.Oper.bounded (bounds_of p) in
      let high = g.met.O.Oper.bounded (bounds_of q) in
      let pieces = pieces_of (meaning_in g.O.Oper.meaning p) (meaning_in g.O.Oper.meaning q) (g.met.O.Oper.widens (bounds_of p) (bounds_of q) fed.within) (omega (arith, low.objects, high.objects, fed.within.objects)) (omega (arith, low.cap, high.cap, fed.within.cap))
      w fed.pieces fed.shipped in
      subst (λ (l : List ℕ). AreOf (meaning_in g.O.Oper.meaning q) (stable_in w) l) fed.came.1 pieces

pub returns-clause-followed : goal.returns-clause-followed
returns-clause-followed g c = λ p q w first bytes fed now standby is.
    let at = (goal.at.returns-clause-followed g c).After-records_are_judged in
    let d = g.M.Machine.disk now in
    let small = small_followed g.O.Oper.meaning q first bytes d standby is in
    its_front g.O.Oper.meaning q (stable_in w) bytes fed.came.0 (all g at p q w first bytes fed) (λ code r s. c.one_record.ensures (bounds_of q) code r s small) first d standby is (follow g at p q w first bytes fed small) fed.begins

pub returns-clause-refused : goal.returns-clause-refused
returns-clause-refused g c = λ p q w first bytes fed now standby e refused stream.
    let at = (goal.at.returns-clause-refused g c).After-records_are_judged in
    let d = g.M.Machine.disk now in
    let is = refused.following in
    let small = small_followed g.O.Oper.meaning q first bytes d standby is in
    gap_alone g.O.Oper.meaning q (stable_in w) bytes fed.came.0 (all g at p q w first bytes fed) (λ code r s. c.one_record.ensures (bounds_of q) code r s small) first d standby is (follow g at p q w first bytes fed small) fed.begins e refused.refused stream

pub returns-clause-images : goal.returns-clause-images
returns-clause-images g c = λ p q w first bytes fed old least files said end.
    let at = (goal.at.returns-clause-images g c).After-records_are_judged in
    let small = small_store q (files Objects) end.stands.holds.objects in
    end_front g.O.Oper.meaning q (stable_in w) bytes fed.came.0 (all g at p q w first bytes fed) (λ code r s. c.one_record.ensures (bounds_of q) code r s small) (follow g at p q w first bytes fed small) first fed.begins (g.M.Machine.disk old) least files said end

pub returns-clause-frames : goal.returns-clause-frames
returns-clause-frames g c = λ p q w first bytes fed small payloads groups rest whole are split.
    let at = (goal.at.returns-clause-frames g c).After-records_are_judged in
    front_follows g.O.Oper.meaning q (stable_in w) bytes fed.came.0 (all g at p q w first bytes fed) (λ code r s. c.one_record.ensures (bounds_of q) code r s small) (follow g at p q w first bytes fed small) first fed.begins payloads groups rest whole are split
