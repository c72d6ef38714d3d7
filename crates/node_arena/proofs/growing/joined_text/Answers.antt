use Rattle.std.proofs.Common.{sym, ap, ◌∙◌, ◌++◌}
use Rattle.std.specs.Prelude.{string_bytes}
use Rattle.std.proofs.lemmas.Result.{IfOk-weaker}
use Rattle.std.proofs.lemmas.Str.{IsUtf8-string_bytes}
use Rattle.node_arena.proofs.BuilderLemmas.{nothing, lent_alone, copied_alone, lent_joined}
use Rattle.node_arena.proofs.growing.joined_text.Goals as goal

pub returns-then-is_empty : goal.returns-then-is_empty
returns-then-is_empty c = lent_alone _ _ (sym c.as_str-copied.ensures.value ∙ nothing _ c.if-is_empty.ensures)

pub returns-then-is_empty-2 : goal.returns-then-is_empty-2
returns-then-is_empty-2 c =
    IfOk-weaker c.try_alloc_str.result _ _ (λ whole is. copied_alone _ _ _ (nothing _ c.if-is_empty-2.ensures) (is ∙ c.as_str-copied.ensures.value))
    c.try_alloc_str.ensures

pub returns : goal.returns
returns c =
    IfOk-weaker c.try_alloc_str-placed.result _ _
    (λ whole is. lent_joined c.args.lent.now (string_bytes c.args.text.now) _ _
    (c.in_ok-push_str.ensures.bytes ∙ ((λ i. c.in_ok-whole.ensures.ok i ++ c.as_str-copied.result.now) ∙
    ap (λ t. c.args.lent.now ++ t) c.as_str-copied.ensures.value))
    (is ∙ c.as_str.ensures.value) c.utf8.lent (IsUtf8-string_bytes c.args.text.now))
    c.try_alloc_str-placed.ensures
