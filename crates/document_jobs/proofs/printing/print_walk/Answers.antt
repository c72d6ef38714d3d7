use Rattle.std.proofs.Common.{ℕ, ◌+◌, take, subst, ap, sym, ◌∙◌, arith}
use Rattle.std.proofs.lemmas.List.{take_all}
use Rattle.inv_base.specs.Printing.{Printed}
use Rattle.document_jobs.proofs.OutlineLemmas.{lines_of, lines_of-more}
use Rattle.document_jobs.proofs.printing.print_walk.Goals as goal

pub nodes-preserved : goal.nodes-preserved
nodes-preserved g c =
    let doc = c.args.doc.now in
    let went = c.in-Some.ensures in
    let more = lines_of-more doc.names doc.nodes c.nodes.at.node c.nodes.invariant.stands.within ∙
    ap (λ (n : ℕ). lines_of doc.names (take n doc.nodes)) (sym went.next) in
    record {
      stands = went.stands;
      printed = subst (λ text. Printed c.print_node.new.printer.failed text (g.K.Sink.view c.args.out.now) (g.K.Sink.view c.print_node.new.out)) more
          (c.print_node.ensures _ _ c.nodes.invariant.printed);
    }

pub returns-in-None : goal.returns-in-None
returns-in-None g c =
    let doc = c.args.doc.now in
    let all = lines_of-more doc.names doc.nodes c.nodes.at.node c.nodes.invariant.stands.within ∙
    ap (lines_of doc.names) (take_all (c.nodes.at.node + 1) doc.nodes (omega (arith, c.in-None.ensures))) in
    subst (λ text. Printed c.print_node.new.printer.failed text (g.K.Sink.view c.args.out.now) (g.K.Sink.view c.print_node.new.out)) all
    (c.print_node.ensures _ _ c.nodes.invariant.printed)
