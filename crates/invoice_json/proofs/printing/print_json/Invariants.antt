use Rattle.std.proofs.Common.{◌≡◌, ◌+◌, drop}
use Rattle.term_table.specs.Contexts.{root_context}
use Rattle.invoice_json.specs.Streaming.{stream_calls, closing_calls, context_depth}
use Rattle.json_text.proofs.MadeLemmas.{Ahead}
use Rattle.invoice_json.proofs.printing.print_json.Given as goal

-- The calls of the entries to come are left, and what their contexts have open is open.
abbrev pub invariant-entries : goal.invariant-entries
invariant-entries g l = record {
  ahead : Ahead (stream_calls root_context l.e-items (closing_calls l.fn.passed_over)) l.initial.pen (g.K.Sink.view l.initial.out)
      (stream_calls l.before (drop l.e-index l.e-items) (closing_calls l.fn.passed_over)) l.pen (g.K.Sink.view l.out);
  depth : l.pen.state.depth ≡ 1 + context_depth l.before;
}
