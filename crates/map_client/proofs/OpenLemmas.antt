-- Whether maps of a store can be changed, from what a call has found; and what is then due.
use Rattle.std.proofs.Common.{◌≡◌, ◌≤◌, ◌<◌, refl, sym, ap, ◌∙◌, subst, ℕ, Bool, true, false, if◌then◌else◌, Option, None, Some, Ok, Err, List, []}
use Rattle.std.specs.Prelude.{nat_le, nat_lt, option_map}
use Rattle.std.proofs.lemmas.Bool.{cond-true, leb-true, ltb-true, le-leb, lt-ltb}
use Rattle.disk_model.specs.Disk.{Disk}
use Rattle.formats.specs.Objects.{bounds_of}
use Rattle.formats.specs.declared.params.Params.{Params}
use Rattle.running_store.specs.Taking.Ending.{Done}
use Rattle.store_engine.specs.Lists.{ending_of}
use Rattle.oper_core.specs.declared.bounds.Bounds.{Bounds}
use Rattle.key_entries.specs.EntryLaws.{both_true, map_some, true_both}
use Rattle.op_codec.specs.AllOps.{page}
use Rattle.page_ops.specs.declared.page_op.PageOp.{PageOp}
use Rattle.store_calls.specs.Making.{Calls, Reads}
use Rattle.store_calls.specs.View.{View}
use Rattle.range_calls.specs.Store.{Command}
use Rattle.range_calls.specs.declared.call_err.CallErr.TheVariants.{Refused}
use Rattle.map_client.specs.Answers.{MapErr, cause_of}
use Rattle.map_client.specs.Changing.{Due, admits, closed_by, found, unless_closed}
use Rattle.map_client.specs.declared.call_refusal.CallRefusal.{CallRefusal}
use Rattle.map_client.specs.declared.call_refusal.CallRefusal.TheVariants.{NoObject, NoPages}

module _ (b : Bounds) (hi : ℕ) where
  pub record IsOpen : Type 0 where
    pub open_for_all : closed_by b hi ≡ None
    pub there : hi < b.objects
    pub more : b.more ≡ true
    pub wide : 1024 ≤ b.cap

  pub is_open : hi < b.objects → b.more ≡ true → 1024 ≤ b.cap → closed_by b hi ≡ None
  is_open there more wide =
      cond-true (nat_lt hi b.objects) (if admits b then None else Some NoPages) (Some NoObject) (lt-ltb hi b.objects there)
      ∙ cond-true (admits b) None (Some NoPages) (true_both b.more (nat_le 1024 b.cap) more (le-leb 1024 b.cap wide))

  pub open_is : None ≡ option_map Refused (closed_by b hi) → IsOpen
  open_is is = by_range (nat_lt hi b.objects) refl is
    where
      by_store : nat_lt hi b.objects ≡ true → (t : Bool) → admits b ≡ t → None ≡ option_map Refused (if t then None else Some NoPages) → IsOpen
      by_store there true all e =
          let both = both_true b.more (nat_le 1024 b.cap) all in
          let below = ltb-true hi b.objects there in
          let wide = leb-true 1024 b.cap both.1 in
          record { open_for_all = is_open below both.0 wide; there = below; more = both.0; wide = wide }
      by_store there false all e = cc

      by_range : (t : Bool) → nat_lt hi b.objects ≡ t → None ≡ option_map Refused (if t then (if admits b then None else Some NoPages) else Some NoObject) → IsOpen
      by_range true there e = by_store there (admits b) refl e
      by_range false there e = cc

  pub record IsClosed (e : MapErr) : Type 0 where
    pub refusal : CallRefusal
    pub is : closed_by b hi ≡ Some refusal
    pub error : Refused refusal ≡ e

  pub closed_is : (e : MapErr) → Some e ≡ option_map Refused (closed_by b hi) → IsClosed e
  closed_is e is = let found = map_some Refused (closed_by b hi) e (sym is) in record { refusal = found.0; is = found.1; error = found.2 }

-- a command that was not found: a refusal
pub record IsRefused (due : Due) (e : MapErr) : Type 0 where
  pub refusal : CallRefusal
  pub is : due ≡ Err refusal
  pub error : e ≡ Refused refusal

pub refused_is : (due : Due) (e : MapErr) → Err e ≡ found due → IsRefused due e
refused_is (Ok op) e is = cc
refused_is (Err refusal) e is = record { refusal = refusal; is = refl; error = cc is }

-- a command that was found
pub record IsFound (due : Due) (command : Command) : Type 0 where
  pub op : PageOp
  pub is : due ≡ Ok op
  pub command_is : page op ≡ command

pub found_is : (due : Due) (command : Command) → Ok command ≡ found due → IsFound due command
found_is (Ok op) command is = record { op = op; is = refl; command_is = cc is }
found_is (Err refusal) command is = cc

-- what is due where nothing else stands against it
pub due_in : (b : Bounds) (hi : ℕ) (due : Due) → closed_by b hi ≡ None → unless_closed (closed_by b hi) due ≡ due
due_in b hi due is = ap (λ (o : Option CallRefusal). unless_closed o due) is

module _ {mine p : Params} (are : mine ≡ p) (hi : ℕ) where
  -- a store with these numbers is open, or closed
  pub open_in : None ≡ option_map Refused (closed_by (bounds_of mine) hi) → IsOpen (bounds_of p) hi
  open_in is = subst (λ (q : Params). IsOpen (bounds_of q) hi) are (open_is (bounds_of mine) hi is)

  pub closed_in : (e : MapErr) → Some e ≡ option_map Refused (closed_by (bounds_of mine) hi) → IsClosed (bounds_of p) hi e
  closed_in e is = subst (λ (q : Params). IsClosed (bounds_of q) hi e) are (closed_is (bounds_of mine) hi e is)

-- nothing is made where it is closed
module _ {S : Type 0} (view : View Command S) (d : Disk) (store : S) where
  pub closed_calls : {b : Bounds} {hi : ℕ} {e : MapErr} → IsClosed b hi e → Calls view d d store store None → Calls view d d store store (cause_of e)
  closed_calls closed calls = subst (λ (x : MapErr). Calls view d d store store (cause_of x)) closed.error calls

  pub closed_reads : {b : Bounds} {hi : ℕ} {e : MapErr} → IsClosed b hi e → Reads view d d store store None → Reads view d d store store (cause_of e)
  closed_reads closed reads = subst (λ (x : MapErr). Reads view d d store store (cause_of x)) closed.error reads

  pub closed_adds : {b : Bounds} {hi : ℕ} {e : MapErr} (p : Params) (commands : List Command) → IsClosed b hi e → (ops : List Command) → ops ≡ [] → view.adds p d d store store commands [] Done
      → view.adds p d d store store commands ops (ending_of (cause_of e))
  closed_adds p commands closed ops none adds =
      subst (λ (x : MapErr). view.adds p d d store store commands ops (ending_of (cause_of x))) closed.error
      (subst (λ (l : List Command). view.adds p d d store store commands l Done) (sym none) adds)
