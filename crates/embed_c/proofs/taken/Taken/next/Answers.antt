use Rattle.std.proofs.Common.{◌≡◌, ◌<◌, List, length, slice_index_or, subst}
use Rattle.write_queue.specs.declared.queued.Queued.{Queued}
use Rattle.embed_c.proofs.Left.{begins, given_now, told_again}
use Rattle.embed_c.proofs.taken.Taken.next.Goals as goal

pub returns-then-not-put_front : goal.returns-then-not-put_front
returns-then-not-put_front c =
    let i = c.args.self.now.given in
    let first = c.in-Some.queued.now in
    let inside = subst (λ (l : List Queued). i < length l) c.deref.ensures.value c.in-Some.ensures.lookup.3.0 in
    let here = subst (λ (l : List Queued). first ≡ slice_index_or l i first) c.deref.ensures.value c.in-Some.ensures.lookup.1 in
    told_again c.tell-bytes.new.call c.args.into.now c.put_front.new.into (begins c.args.self.now.calls.items i first inside here)
    c.tell-bytes.ensures.call c.tell-bytes.ensures.bytes c.if-not-put_front.true c.put_front.ensures.fits.1

pub returns : goal.returns
returns c =
    let i = c.args.self.now.given in
    let first = c.in-Some.queued.now in
    let inside = subst (λ (l : List Queued). i < length l) c.deref.ensures.value c.in-Some.ensures.lookup.3.0 in
    let here = subst (λ (l : List Queued). first ≡ slice_index_or l i first) c.deref.ensures.value c.in-Some.ensures.lookup.1 in
    given_now c.tell-bytes.new.call c.args.into.now c.put_front.new.into (begins c.args.self.now.calls.items i first inside here)
    c.tell-bytes.ensures.call c.tell-bytes.ensures.bytes c.if-not-put_front.false c.put_front.ensures.fits.0 c.put_front.ensures.front
