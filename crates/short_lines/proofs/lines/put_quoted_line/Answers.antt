use Rattle.std.proofs.Common.{[], ◌∷◌, ◌++◌, length, ap, ◌∙◌, arith}
use Rattle.short_lines.proofs.ComposingLemmas.{Composes-append}
use Rattle.short_lines.proofs.PlainLemmas.{quoted-plain}
use Rattle.short_lines.proofs.lines.put_quoted_line.Goals as goal

pub returns : goal.returns
returns c =
    let behind = Composes-append _ (0x22 ∷ 0xA ∷ []) _ _ _ _ _ c.put-2.ensures c.put-3.ensures in
    let all = Composes-append (0x22 ∷ []) _ _ _ _ _ _ c.put.ensures behind in
    let text = ap (λ x. 0x22 ∷ (x ++ 0x22 ∷ 0xA ∷ [])) c.as_bytes.ensures.value ∙ quoted-plain c.args.text.now c.utf8.text c.requires.plain in
    record {
      items = all.items ∙ ap (λ x. c.args.line.now.items ++ x) text;
      room = omega (arith, all.room, ap length c.as_bytes.ensures.value);
    }
