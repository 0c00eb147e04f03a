use Rattle.std.proofs.Common.{◌++◌, ◌∙◌, List, [], ℕ, arith, refl, sym}
use Rattle.std.proofs.lemmas.List.{append-nil}
use Rattle.oper_core.specs.Meaning.{IsSmall}
use Rattle.formats.specs.Objects.{bounds_of}
use Rattle.formats.specs.declared.params.Params.{Params}
use Rattle.frame_stream.specs.Frames.{Splits, frames}
use Rattle.explain_core.specs.History.{Member}
use Rattle.explain_core.specs.World.{World}
use Rattle.store_engine.specs.Store.{meaning_in}
use Rattle.standby_node.specs.OnePrimary.{ShipsOnTo, stable_in}
use Rattle.standby_node.proofs.OnePrimary.{MayFollow, all_on, frames_lead, none_unfinished, stable_follow, unrefused_on}
use Rattle.standby_node.proofs.OneWay.{small_followed}
use Rattle.standby_node.proofs.standby_laws.a_standby_catches_up.Given.{Over}
use Rattle.standby_node.proofs.standby_laws.a_standby_catches_up.Goals.{After-records_are_judged}
use Rattle.standby_node.proofs.standby_laws.a_standby_catches_up.Goals as goal

module _ (g : Over) (c : After-records_are_judged g) (p q : Params) (w : World g.row.O.Denot) (first : List (Member g.row.O.Denot)) (bytes : List ℕ) (ships : ShipsOnTo g.O.Oper.meaning p q w first bytes) where
  follow : IsSmall (bounds_of q) → MayFollow (meaning_in g.O.Oper.meaning q) (stable_in w)
  follow small =
      stable_follow g.O.Oper.meaning (bounds_of p) (bounds_of q) w small ships.within (c.stable_parts_stand.ensures.stands (bounds_of p) w ships.sound)
      (λ parts h installed low within is. c.wider_bounds_keep_stable_parts.ensures (bounds_of p) (bounds_of q) parts h installed low within is) (λ s member. (c.records_are_judged.ensures.member (bounds_of q) s member).1)

pub returns-clause-unrefused : goal.returns-clause-unrefused
returns-clause-unrefused g c = λ p q w first bytes more ships now standby e refused stream.
    let at = (goal.at.returns-clause-unrefused g c).After-records_are_judged in
    let low = g.met.O.Oper.bounded (bounds_of p) in
    let high = g.met.O.Oper.bounded (bounds_of q) in
    let d = g.M.Machine.disk now in
    let small = small_followed g.O.Oper.meaning q first bytes d standby refused.following in
    unrefused_on g.O.Oper.meaning q (meaning_in g.O.Oper.meaning p) (g.met.O.Oper.widens (bounds_of p) (bounds_of q) ships.within) (omega (arith, low.objects, high.objects, ships.within.objects)) (omega (arith, low.cap, high.cap, ships.within.cap))
    w ships.sound.base (follow g at p q w first (bytes ++ more) ships small) first ships.begins ships.from ships.near (bytes ++ more) ships.shipped (λ code r s. c.one_record.ensures (bounds_of q) code r s small) bytes more refl d standby refused.following e refused.refused stream

pub returns-clause-all : goal.returns-clause-all
returns-clause-all g c = λ p q w first bytes ships now standby is here.
    let at = (goal.at.returns-clause-all g c).After-records_are_judged in
    let low = g.met.O.Oper.bounded (bounds_of p) in
    let high = g.met.O.Oper.bounded (bounds_of q) in
    let d = g.M.Machine.disk now in
    let small = small_followed g.O.Oper.meaning q first bytes d standby is in
    all_on g.O.Oper.meaning q (meaning_in g.O.Oper.meaning p) (g.met.O.Oper.widens (bounds_of p) (bounds_of q) ships.within) (omega (arith, low.objects, high.objects, ships.within.objects)) (omega (arith, low.cap, high.cap, ships.within.cap))
    w ships.sound.base (follow g at p q w first bytes ships small) first ships.begins ships.from ships.near bytes ships.shipped (λ code r s. c.one_record.ensures (bounds_of q) code r s small) bytes [] (sym (append-nil bytes)) d standby is refl here c.frames_are_told_apart.ensures.payloads

pub returns-clause-frames : goal.returns-clause-frames
returns-clause-frames g c = λ p q w first bytes ships small payloads groups whole are split.
    let at = (goal.at.returns-clause-frames g c).After-records_are_judged in
    let low = g.met.O.Oper.bounded (bounds_of p) in
    let high = g.met.O.Oper.bounded (bounds_of q) in
    let splits : Splits bytes payloads [] = record { is = split ∙ sym (append-nil (frames payloads)); whole = whole; unfinished = none_unfinished } in
    frames_lead g.O.Oper.meaning q (meaning_in g.O.Oper.meaning p) (g.met.O.Oper.widens (bounds_of p) (bounds_of q) ships.within) (omega (arith, low.objects, high.objects, ships.within.objects)) (omega (arith, low.cap, high.cap, ships.within.cap))
    w ships.sound.base (follow g at p q w first bytes ships small) first ships.begins ships.from ships.near bytes ships.shipped (λ code r s. c.one_record.ensures (bounds_of q) code r s small) c.frames_are_told_apart.ensures.payloads payloads groups [] splits are
