-- The turns of a set as rounds of commands of the store.
use Rattle.std.specs.Prelude.{◌≡◌, ◌<◌, ◌≤◌, ⊤, ℕ, suc, true, false, Option, None, Some, Result, Ok, Err, List, [], ◌∷◌, map}
use Rattle.formats.specs.declared.params.Params.{Params}
use Rattle.op_codec.specs.AllOps.{page}
use Rattle.page_ops.specs.declared.page_op.PageOp.{PageOp}
use Rattle.page_map.specs.Sets.{Turn, does, ends, refuses, is_pair, room_of}
use Rattle.page_map.specs.declared.descent.Descent.{Descent}
use Rattle.page_map.specs.declared.further.Further.{Further}
use Rattle.page_map.specs.declared.further.Further.TheVariants.{Bad, On, Found}
use Rattle.page_map.specs.declared.refusal.MapRefusal.TheVariants.{BadMap}
use Rattle.range_calls.specs.declared.round.Round.{Round}
use Rattle.map_client.specs.declared.call_refusal.CallRefusal.{CallRefusal}
use Rattle.map_client.specs.declared.call_refusal.CallRefusal.TheVariants.{Map}

-- a turn of a set
abbrev pub round_of : Turn → Result Round CallRefusal
round_of (does ops) = Ok (record { ops = map page ops; last = false })
round_of (ends op) = Ok (record { ops = page op ∷ []; last = true })
round_of (refuses refusal) = Err (Map refusal)

-- a turn of a set, by what was found in the leaf of the key: the command, where it has room; else a page is cut
abbrev pub by_leaf : Turn → Result (Option PageOp) ℕ → Turn
by_leaf cut (Ok (Some op)) = ends op
by_leaf cut (Ok None) = cut
by_leaf cut (Err bad) = refuses (BadMap bad)

-- the store has the range, and its pages have so much room, which is enough for a pair
pub record IsReady (hi room : ℕ) (key value : List ℕ) (p : Params) : Type 0 where
  pub there : hi < p.objects
  pub room_is : room ≡ room_of p.cap
  pub pair : is_pair room (key, value) ≡ true

-- one page further: the search goes on one level below, in the range
abbrev pub GoesDown : ℕ → Descent → Further → Type 0
GoesDown hi d Bad = ⊤
GoesDown hi d (On next) = (d.level ≡ suc next.level) × (next.object ≤ hi)
GoesDown hi d (Found due) = ⊤

-- what tidies, as a round: behind one without commands nothing is left to tidy
abbrev pub tidy_round : Result (List PageOp) ℕ → Result Round CallRefusal
tidy_round (Ok ops) = Ok (record { ops = map page ops; last = false })
tidy_round (Err bad) = Err (Map (BadMap bad))
