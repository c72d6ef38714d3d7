use Rattle.std.proofs.Common.{◌+◌, drop, sym, ap, subst, ◌∙◌}
use Rattle.std.specs.Prelude.{IfErr}
use Rattle.std.proofs.lemmas.Result.{on_ok_weaker}
use Rattle.node_arena.specs.Document.{node_at}
use Rattle.rule_library.specs.Readings.{File, Readings, file_at}
use Rattle.rule_library.specs.Asked.{given_at}
use Rattle.rule_library.specs.Joining.{with_element}
use Rattle.rule_library.specs.Walk.{own_name}
use Rattle.rule_library.specs.Turns.{Refuses}
use Rattle.rule_library.proofs.TurnLemmas.{left_out, put_in_place}
use Rattle.rule_library.proofs.walk.put_element.Goals as goal

pub returns-then-is_left_out-clause-goes : goal.returns-then-is_left_out-clause-goes
returns-then-is_left_out-clause-goes c = c.pass.ensures.passed ∙ sym (left_out c.args.walk.now c.args.n (sym c.is_left_out.ensures ∙ c.if-is_left_out.true))

pub returns-in-Ok-put_element-clause-goes : goal.returns-in-Ok-put_element-clause-goes
returns-in-Ok-put_element-clause-goes c =
    let w = c.args.walk.now in
    let n = c.args.n in
    let doc = c.doc.ensures ∙ ap (λ (f : File). f.document) (c.file_in.ensures ∙ ap (file_at w.top.file) c.as_slice.ensures.value) in
    let joined = c.in-Ok-put_element.ensures ∙
    (λ i. with_element (own_name (doc i) (node_at (doc i).nodes n)) (given_at (doc i).names (drop (n + 1) (doc i).nodes)) (c.in-Ok.ensures i) w.joined) in
    on_ok_weaker c.settle.result (λ e. e ∙ sym (put_in_place w n c.put_element.new.self (sym c.is_left_out.ensures ∙ c.if-is_left_out.false) joined))
    c.settle.ensures.goes

pub returns-in-Ok-put_element-clause-fails : goal.returns-in-Ok-put_element-clause-fails
returns-in-Ok-put_element-clause-fails c =
    let w = c.args.walk.now in
    let n = c.args.n in
    let doc = c.doc.ensures ∙ ap (λ (f : File). f.document) (c.file_in.ensures ∙ ap (file_at w.top.file) c.as_slice.ensures.value) in
    let joined = c.in-Ok-put_element.ensures ∙
    (λ i. with_element (own_name (doc i) (node_at (doc i).nodes n)) (given_at (doc i).names (drop (n + 1) (doc i).nodes)) (c.in-Ok.ensures i) w.joined) in
    subst (λ (r : Readings). IfErr c.settle.result (Refuses r))
    (sym (put_in_place w n c.put_element.new.self (sym c.is_left_out.ensures ∙ c.if-is_left_out.false) joined)) c.settle.ensures.fails
