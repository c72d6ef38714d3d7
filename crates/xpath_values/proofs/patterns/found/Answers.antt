use Rattle.std.proofs.Common.{◌≡◌, Bool, sym, ap, subst, ◌∙◌, List, ℕ, chars}
use Rattle.node_arena.specs.Moves.{tree_nodes}
use Rattle.xpath_items.specs.Faults.{Gives}
use Rattle.xpath_meaning.specs.Functions.{text_argument, yes_or_no}
use Rattle.xpath_meaning.specs.Texts.{finds}
use Rattle.xpath_meaning.specs.Values.{Value, then_}
use Rattle.xpath_values.proofs.patterns.found.Goals as goal

pub returns : goal.returns
unfolding finds
returns c =
    let same : c.in_ok-found.found ≡ finds c.args.pattern.now c.in_ok-s.s = c.in_ok-found.ensures.value ∙ ap (finds c.args.pattern.now) c.as_str.ensures in
    subst (λ (v : Value). Gives c.one.result v)
    (ap yes_or_no same ∙ sym (ap (λ text. then_ text (λ s. yes_or_no (finds c.args.pattern.now s))) c.in_ok-s.ensures)) c.one.ensures
