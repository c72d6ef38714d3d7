use Rattle.inv_base.proofs.WritingLemmas.{WritesFront-append, WritesFront-more, Writes-append, Writes-at_err}
use Rattle.invoice_cli.proofs.version.write_version.Goals as goal

pub returns-in_err-write_all : goal.returns-in_err-write_all
returns-in_err-write_all g c = Writes-at_err _ _ _ _ c.from_residual.ensures.0 (WritesFront-more _ _ _ _ c.in_err-write_all.ensures)

pub returns-in_err-write_text : goal.returns-in_err-write_text
returns-in_err-write_text g c =
    Writes-at_err _ _ _ _ c.from_residual-in_err-write_text.ensures.0
    (WritesFront-append _ _ _ _ _ c.in_ok-write_all.ensures (WritesFront-more _ _ _ _ c.in_err-write_text.ensures))

pub returns : goal.returns
returns g c = Writes-append _ _ _ _ _ _ c.in_ok-write_all.ensures (Writes-append _ _ _ _ _ _ c.in_ok-write_text.ensures c.write_all-2.ensures)
