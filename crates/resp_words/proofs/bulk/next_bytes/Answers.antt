use Rattle.std.proofs.Common.{arith}
use Rattle.resp_words.specs.Commands.{IsEnded, IsLineEnd}
use Rattle.resp_words.proofs.Bulks.{few_front, text_leads, text_read}
use Rattle.resp_words.proofs.Leading.{bad_leads, front_leads}
use Rattle.resp_words.proofs.Runs.{split_stands}
use Rattle.resp_words.proofs.bulk.next_bytes.Goals as goal

pub returns-then-bytes-length : goal.returns-then-bytes-length
returns-then-bytes-length c = few_front c.args.length c.args.bytes.now (omega (arith, c.if-bytes-length.true))

pub returns-in-More : goal.returns-in-More
returns-in-More c =
    let word = c.split_at.result.0.now in
    let behind = c.split_at.result.1.now in
    front_leads (IsEnded c.args.length) IsLineEnd word behind c.args.bytes.now (text_leads c.args.length word c.split_at.ensures.front_len)
    (split_stands c.args.bytes.now word behind c.args.length c.split_at.ensures.front c.split_at.ensures.back) c.in-More.ensures

pub returns-in-Bad : goal.returns-in-Bad
returns-in-Bad c =
    let word = c.split_at.result.0.now in
    let behind = c.split_at.result.1.now in (
      bad_leads (IsEnded c.args.length) IsLineEnd word behind c.args.bytes.now (text_leads c.args.length word c.split_at.ensures.front_len)
          (split_stands c.args.bytes.now word behind c.args.length c.split_at.ensures.front c.split_at.ensures.back) c.in-Bad.ensures.0,
      c.in-Bad.ensures.1,
    )

pub returns-in-Whole : goal.returns-in-Whole
returns-in-Whole c =
    let word = c.split_at.result.0.now in
    let behind = c.split_at.result.1.now in
    text_read c.args.length word c.args.bytes.now behind c.in-Whole.rest.now c.split_at.ensures.front_len
    (split_stands c.args.bytes.now word behind c.args.length c.split_at.ensures.front c.split_at.ensures.back) c.in-Whole.ensures
