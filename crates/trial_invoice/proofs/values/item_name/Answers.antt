use Rattle.std.proofs.Common.{◌≡◌, ◌∙◌, ◌<◌, ◌^◌, sym, ap, subst, arith}
use Rattle.std.specs.Prelude.{IfOk}
use Rattle.std.specs.Str.{chars, IsAscii}
use Rattle.std.proofs.lemmas.Str.{chars-IsAscii}
use Rattle.trial_invoice.proofs.WordLemmas.{item-made, item-ascii}
use Rattle.trial_invoice.proofs.values.item_name.Goals as goal

pub ascii_text-requires : goal.ascii_text-requires
ascii_text-requires c =
    let small : c.args.line < 2 ^ 64 = omega arith in
    let made = c.deref.ensures.value ∙ (c.in_ok-extend_from_slice.ensures.items ∙
    item-made c.args.line _ _ c.in_ok-name.ensures.items (c.as_bytes.ensures.value ∙ c.format.ensures.text)) in
    subst IsAscii (sym made) (item-ascii c.args.line small)

pub returns : goal.returns
returns c =
    let small : c.args.line < 2 ^ 64 = omega arith in
    let made = c.deref.ensures.value ∙ (c.in_ok-extend_from_slice.ensures.items ∙
    item-made c.args.line _ _ c.in_ok-name.ensures.items (c.as_bytes.ensures.value ∙ c.format.ensures.text)) in
    subst (λ text. IfOk c.of.result (λ t. t ≡ text)) (ap chars (c.ascii_text.ensures.bytes ∙ made) ∙ chars-IsAscii _ (item-ascii c.args.line small))
    c.of.ensures
