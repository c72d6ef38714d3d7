use Rattle.std.proofs.Common.{◌≡◌, ◌<◌, ◌^◌, IsAscii, sym, ap, ◌∙◌, subst, arith, rules, codes}
use Rattle.inv_listing.specs.Listing.{slot_text}
use Rattle.inv_listing.proofs.AsciiLemmas.{slot_text-ascii}
use Rattle.json_text.specs.Making.{text_member}
use Rattle.json_text.proofs.MakingLemmas.{Wrote-same}
use Rattle.totals_json.proofs.printing.put_slot_member.Goals as goal

pub ascii_text-requires : goal.ascii_text-requires
ascii_text-requires g c =
    let same : c.as_slice.result.now ≡ slot_text c.args.slot = search rules in
    let index : c.args.slot.index < 2 ^ 32 = omega arith in
    subst IsAscii (sym same) (slot_text-ascii c.args.slot index)

pub returns : goal.returns
returns g c =
    let same : c.as_slice.result.now ≡ slot_text c.args.slot = search rules in
    Wrote-same _ _ _ _ _ _ (ap (text_member (codes "context")) (c.ascii_text.ensures.characters ∙ same)) c.text_member.ensures
