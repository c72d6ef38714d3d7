use Rattle.std.proofs.Common.{◌∙◌, ap, chars}
use Rattle.inv_base.specs.Tree.{Name}
use Rattle.xml_events.specs.Names.{find_name}
use Rattle.xpath_walks.proofs.TestLemmas.{no_number, number-at, ok_then}
use Rattle.xpath_walks.proofs.test.number_in.Goals as goal

pub returns-in_default : goal.returns-in_default
returns-in_default c = no_number c.args.table.now c.args.doc.now.names c.args.k (λ (name : Name). name.uri) c.in_default.ensures

pub returns-in_default-local : goal.returns-in_default-local
returns-in_default-local c = no_number c.args.table.now c.args.doc.now.names c.args.k (λ (name : Name). name.local) c.in_default-local.ensures

pub returns : goal.returns
returns c = ok_then c.find.result c.find.ensures (λ id is.
    is ∙ (ap (find_name (record { uri = chars c.in-Some.uri.now; local = chars c.in-Some-local.local.now })) c.names.ensures
    ∙ number-at c.args.table.now c.args.doc.now.names c.args.k (chars c.in-Some.uri.now)
    (chars c.in-Some-local.local.now) c.in-Some.ensures c.in-Some-local.ensures))
