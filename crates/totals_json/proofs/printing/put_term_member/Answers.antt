use Rattle.std.proofs.Common.{◌≡◌, ◌<◌, ◌^◌, IsAscii, sym, ap, ◌∙◌, subst, arith, rules, codes}
use Rattle.inv_listing.specs.Listing.{term_text}
use Rattle.inv_listing.proofs.AsciiLemmas.{term_text-ascii}
use Rattle.json_text.specs.Making.{text_member}
use Rattle.json_text.proofs.MakingLemmas.{Wrote-same}
use Rattle.totals_json.proofs.printing.put_term_member.Goals as goal

pub ascii_text-requires : goal.ascii_text-requires
ascii_text-requires g c =
    let same : c.as_slice.result.now ≡ term_text c.args.term = search rules in
    let number : c.args.term.number < 2 ^ 16 = omega arith in
    let part : c.args.term.part < 2 ^ 8 = omega arith in
    subst IsAscii (sym same) (term_text-ascii c.args.term number part)

pub returns : goal.returns
returns g c =
    let same : c.as_slice.result.now ≡ term_text c.args.term = search rules in
    Wrote-same _ _ _ _ _ _ (ap (text_member (codes "term")) (c.ascii_text.ensures.characters ∙ same)) c.text_member.ensures
