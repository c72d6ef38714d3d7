use Rattle.std.proofs.Common.{◌≡◌, ◌<◌, ◌^◌, IsAscii, sym, subst, arith, rules}
use Rattle.inv_listing.specs.Listing.{term_text}
use Rattle.inv_listing.proofs.AsciiLemmas.{term_text-ascii}
use Rattle.invoice_json.proofs.printing.put_name.Goals as goal

pub ascii_text-requires : goal.ascii_text-requires
ascii_text-requires g c =
    let same : c.as_slice.result.now ≡ term_text c.args.term = search rules in
    let number : c.args.term.number < 2 ^ 16 = omega arith in
    let part : c.args.term.part < 2 ^ 8 = omega arith in
    subst IsAscii (sym same) (term_text-ascii c.args.term number part)
