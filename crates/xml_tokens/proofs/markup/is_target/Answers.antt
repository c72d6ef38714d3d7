use Rattle.std.proofs.Common.{◌≡◌, not, ◌&&◌, map, ap, sym, ◌∙◌, rules}
use Rattle.std.specs.Prelude.{codes}
use Rattle.std.specs.Str.{chars, bytes_eq}
use Rattle.std.specs.Char.{to_ascii_lowercase}
use Rattle.xml_tokens.proofs.NameLemmas.{lower-told}
use Rattle.xml_tokens.proofs.markup.is_target.Goals as goal

pub returns-then-is_ncname : goal.returns-then-is_ncname
returns-then-is_ncname c =
    let told : c.eq_ignore_ascii_case.result ≡ bytes_eq (map to_ascii_lowercase c.args.target.now) (codes "xml") = search rules in
    ap not (told ∙ sym (lower-told c.args.target.now c.utf8.target)) ∙
    ap (λ t. t && not (bytes_eq (map to_ascii_lowercase (chars c.args.target.now)) (codes "xml"))) (sym c.if-is_ncname.true ∙ c.is_ncname.ensures)
