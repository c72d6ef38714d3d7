use Rattle.std.proofs.Common.{◌≡◌, ◌==◌, ℕ, true, List, [], ◌∷◌, ◌++◌, length, chars, refl, ap, sym, ◌∙◌, arith}
use Rattle.std.proofs.lemmas.Bool.{eqb-true}
use Rattle.std.proofs.lemmas.Str.{chars-nil, IsUtf8-string_bytes}
use Rattle.inv_base.proofs.TextLemmas.{chars-append}
use Rattle.inv_base.specs.Strings.{characters}
use Rattle.inv_base.proofs.strings.joined.Goals as goal

no_bytes : (bytes : List ℕ) → (length bytes == 0) ≡ true → bytes ≡ []
no_bytes [] is = refl
no_bytes (b ∷ bytes) is = absurd (omega (arith, eqb-true _ _ is))

pub returns-then-is_empty : goal.returns-then-is_empty
returns-then-is_empty c =
    let none = ap characters c.in-Lent.is ∙ (ap chars (no_bytes c.in-Lent.before.now (sym c.is_empty.ensures ∙ c.if-is_empty.true)) ∙ chars-nil) in
    sym (ap (λ x. x ++ chars c.args.text.now) none)

pub returns-in_ok-push_str-in-Lent : goal.returns-in_ok-push_str-in-Lent
returns-in_ok-push_str-in-Lent c =
    ap chars c.in_ok-push_str-in-Lent.ensures.bytes
    ∙ (chars-append _ c.args.text.now (IsUtf8-string_bytes c.in_ok-joined-in-Lent.joined) c.utf8.text
    ∙ ap (λ x. x ++ chars c.args.text.now) (ap chars c.in_ok-joined-in-Lent.ensures.ok ∙ sym (ap characters c.in-Lent.is)))

pub returns-in_ok-push_str-in-Own : goal.returns-in_ok-push_str-in-Own
returns-in_ok-push_str-in-Own c =
    ap chars c.in_ok-push_str-in-Own.ensures.bytes
    ∙ (chars-append _ c.args.text.now (IsUtf8-string_bytes c.in-Own.before) c.utf8.text
    ∙ ap (λ x. x ++ chars c.args.text.now) (sym (ap characters c.in-Own.is)))
