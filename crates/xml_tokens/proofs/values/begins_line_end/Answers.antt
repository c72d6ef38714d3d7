use Rattle.std.proofs.Common.{◌≡◌, ◌&&◌, [], ◌∷◌, ap, sym, ◌∙◌, rules}
use Rattle.std.specs.Str.{chars}
use Rattle.std.proofs.lemmas.Bool.{eq-eqb}
use Rattle.xml_tokens.specs.Searches.{begins_with}
use Rattle.xml_tokens.proofs.ValueLemmas.{newline-told}
use Rattle.xml_tokens.proofs.values.begins_line_end.Goals as goal

pub returns-then-c-eq13 : goal.returns-then-c-eq13
returns-then-c-eq13 c =
    let told : c.begins_with.result ≡ begins_with (0xA ∷ []) c.args.behind.now = search rules in
    told ∙ (sym (newline-told c.args.behind.now c.utf8.behind) ∙
    ap (λ t. t && begins_with (0xA ∷ []) (chars c.args.behind.now)) (sym (eq-eqb c.args.c 13 c.if-c-eq13.true)))
