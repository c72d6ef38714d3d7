use Rattle.std.proofs.Common.{[], ◌∷◌, sym, ap, ◌∙◌}
use Rattle.term_table.specs.Contexts.{root_context}
use Rattle.json_text.specs.declared.state.Container.TheVariants.{Object}
use Rattle.json_text.specs.Calls.{call_begin}
use Rattle.invoice_json.specs.InvoiceJson.{invoice_json}
use Rattle.invoice_json.specs.Streaming.{stream_calls, closing_calls}
use Rattle.invoice_json.proofs.CallLemmas.{loop-next, loop-end}
use Rattle.invoice_json.proofs.StreamLemmas.{invoice-calls}
use Rattle.json_text.proofs.MadeLemmas.{Made-one, Made-append, Made-same, Ahead-step, Ahead-same, printed}
use Rattle.invoice_json.proofs.printing.print_json.Goals as goal

pub entries-preserved : goal.entries-preserved
entries-preserved g c =
    let next = loop-next c.entries-e-items.result.now c.entries.e-index c.e-item.result c.entries.before (closing_calls c.args.passed_over)
    c.entries-test.true c.e-item.is in
    record {
      ahead = Ahead-step _ _ _ _ _ _ _ _ _
          (Ahead-step _ _ _ _ _ _ _ _ _ (Ahead-same _ _ _ _ _ _ _ next c.entries.invariant.ahead) c.turn.ensures.made)
          c.put_entry.ensures.made;
      depth = c.put_entry.ensures.depth ∙ c.turn.ensures.depth;
    }

pub returns : goal.returns
returns g c =
    let closing = closing_calls c.args.passed_over in
    let last = loop-end c.entries-e-items.result.now c.entries.e-index c.entries.before closing c.entries-test.false in
    let ended = Made-append _ _ _ _ _ _ _ _ c.turn-2.ensures.made
    (Made-append _ _ _ _ _ _ _ _ c.put_passed.ensures.made (Made-one _ _ _ _ _ c.end.ensures.prints c.end.ensures.state)) in
    let streamed = (Ahead-same _ _ _ _ _ _ _ last c.entries.invariant.ahead).leads _ _ ended in
    let all = Made-append (call_begin Object ∷ []) (stream_calls root_context c.entries-e-items.result.now closing) _ _ _ _ _ _
    (Made-one _ _ _ _ _ c.begin.ensures.prints c.begin.ensures.state) streamed in
    let same = ap (λ es. call_begin Object ∷ stream_calls root_context es closing) c.entries-e-items.ensures.entries
    ∙ sym (invoice-calls c.args.i.now c.args.passed_over) in
    printed (invoice_json c.args.i.now c.args.passed_over) c.new-pen.result c.end.new.self _ _ _ _ c.new-pen.ensures.state c.new-pen.ensures.printer
    (c.calls_append_the_layout.ensures.document (invoice_json c.args.i.now c.args.passed_over)) (Made-same _ _ _ _ _ _ same all) c.finish.ensures
