use Rattle.std.proofs.Common.{sym, ap, subst, ◌∙◌}
use Rattle.std.specs.Prelude.{IfErr}
use Rattle.std.proofs.lemmas.Result.{on_ok_weaker}
use Rattle.node_arena.specs.Document.{Document, node_at}
use Rattle.rule_library.specs.Readings.{Readings}
use Rattle.rule_library.specs.Joining.{with_text}
use Rattle.rule_library.specs.Turns.{Refuses}
use Rattle.rule_library.proofs.TurnLemmas.{at_text}
use Rattle.rule_library.proofs.walk.put_text.Goals as goal

pub returns-in-Ok-put_text-clause-goes : goal.returns-in-Ok-put_text-clause-goes
returns-in-Ok-put_text-clause-goes c =
    let w = c.args.walk.now in
    let text = c.text-text.ensures ∙ ap (λ (d : Document). (node_at d.nodes c.args.n).text) c.top_doc.ensures in
    let joined = c.in-Ok-put_text.ensures ∙ (λ i. with_text (text i) (c.in-Ok.ensures i) w.joined) in
    on_ok_weaker c.settle.result (λ e. e ∙ sym (at_text w c.args.n c.put_text.new.self c.requires.text joined)) c.settle.ensures.goes

pub returns-in-Ok-put_text-clause-fails : goal.returns-in-Ok-put_text-clause-fails
returns-in-Ok-put_text-clause-fails c =
    let w = c.args.walk.now in
    let text = c.text-text.ensures ∙ ap (λ (d : Document). (node_at d.nodes c.args.n).text) c.top_doc.ensures in
    let joined = c.in-Ok-put_text.ensures ∙ (λ i. with_text (text i) (c.in-Ok.ensures i) w.joined) in
    subst (λ (r : Readings). IfErr c.settle.result (Refuses r)) (sym (at_text w c.args.n c.put_text.new.self c.requires.text joined)) c.settle.ensures.fails
