-- The built-in rules of a trial, as they are compiled: one rule for each line of an invoice, with an assertion and a report.
use Rattle.std.specs.Prelude.{ℕ, List, [], ◌∷◌, None, codes}
use Rattle.inv_base.specs.Tree.{Name}
use Rattle.xpath_tokens.specs.declared.token.Operator.TheVariants as o
use Rattle.xpath_grammar.specs.declared.step.Axis.TheVariants as a
use Rattle.xpath_grammar.specs.declared.step.KindTest.TheVariants as q
use Rattle.xpath_grammar.specs.declared.functions.Function.TheVariants as f
use Rattle.xpath_meaning.specs.Expressions as x
use Rattle.xpath_meaning.specs.Expressions.{Exp}
use Rattle.schematron_findings.specs.declared.level.Level.TheVariants as levels
use Rattle.schematron_meaning.specs.declared.assertion.AssertionKind.TheVariants as kind
use Rattle.schematron_meaning.specs.Phases.{Active}
use Rattle.schematron_meaning.specs.Rules.{Rules, Rule, Assertion, words}
use Rattle.held_rules.specs.Texts.{Ready}

-- ---- names

abbrev pub aggregate : List ℕ
aggregate = codes "urn:oasis:names:specification:ubl:schema:xsd:CommonAggregateComponents-2"

abbrev pub basic : List ℕ
basic = codes "urn:oasis:names:specification:ubl:schema:xsd:CommonBasicComponents-2"

abbrev pub in_aggregate : List ℕ → Name
in_aggregate local = record { uri = aggregate; local = local }

abbrev pub in_basic : List ℕ → Name
in_basic local = record { uri = basic; local = local }

-- the children of the name
abbrev pub children : Name → Exp
children name = x.stepped (x.axis_step a.Child (x.named name))

abbrev pub line_name : Name
line_name = in_aggregate (codes "InvoiceLine")

-- all lines of the document
abbrev pub all_lines : Exp
all_lines = x.slash (x.slash x.the_root (x.stepped (x.axis_step a.DescendantOrSelf (x.of_kind q.Node)))) (children line_name)

abbrev pub assert_test : Exp
assert_test =
    x.operated o.Equal (x.called f.XsDecimal (x.argument (children (in_basic (codes "LineExtensionAmount"))) x.no_more))
    (x.operated o.Times (children (in_basic (codes "InvoicedQuantity")))
    (x.slash (children (in_aggregate (codes "Price"))) (children (in_basic (codes "PriceAmount")))))

abbrev pub report_test : Exp
report_test = x.operated o.Equal (children (in_basic (codes "ID"))) (x.called f.Count (x.argument all_lines x.no_more))

abbrev pub the_assert : Assertion
the_assert = record {
  kind = kind.Assert;
  test = record { text = codes "xs:decimal(cbc:LineExtensionAmount) = cbc:InvoicedQuantity * cac:Price/cbc:PriceAmount"; expression = assert_test };
  id = None;
  flag = None;
  role = None;
  level = levels.Fatal;
  message = words (codes "\nThe net amount of a line is its quantity times its price.") ∷ [];
}

abbrev pub the_report : Assertion
the_report = record {
  kind = kind.Report;
  test = record { text = codes "cbc:ID = count(//cac:InvoiceLine)"; expression = report_test };
  id = None;
  flag = None;
  role = None;
  level = levels.Fatal;
  message = words (codes "This is the last line.") ∷ [];
}

abbrev pub the_rule : Rule
the_rule = record {
  context = record { text = codes "cac:InvoiceLine"; expression = children line_name };
  lets = [];
  assertions = the_assert ∷ (the_report ∷ []);
}

abbrev pub the_rules : Rules
the_rules = record { default_phase = None; lets = []; phases = []; patterns = record { id = None; lets = []; rules = the_rule ∷ [] } ∷ [] }

-- the only pattern, the first of the file
abbrev pub the_active : Active
the_active = record { phase = None; patterns = 0 ∷ [] }

abbrev pub the_ready : Ready
the_ready = record { rules = the_rules; active = the_active }
