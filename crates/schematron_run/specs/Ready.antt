-- What is judged by, ready for a document, as the definitions have it.
use Rattle.std.specs.Prelude.{◌≡◌, map}
use Rattle.std.specs.List.{All}
use Rattle.node_arena.specs.Document.{Document}
use Rattle.xpath_plan.specs.Plans.{expression}
use Rattle.schematron_meaning.specs.Rules as spec
use Rattle.schematron_rules.specs.Seen.{seen_shown}
use Rattle.schematron_run.specs.declared.ready.ReadyLet.{ReadyLet}
use Rattle.schematron_run.specs.declared.ready.ReadyPart.{ReadyPart}
use Rattle.schematron_run.specs.declared.ready.ReadyPart.TheVariants as p
use Rattle.schematron_run.specs.declared.ready.ReadyAssertion.{ReadyAssertion}
use Rattle.schematron_run.specs.declared.ready.ReadyRule.{ReadyRule}

abbrev pub ready_let : ReadyLet → spec.Let
ready_let x = record { name = x.name.now; value = expression x.run.plan }

abbrev pub ready_part : ReadyPart → spec.Part
ready_part (p.Words text) = spec.words text.now
ready_part (p.Values run) = spec.values (expression run.plan)
ready_part p.Name = spec.the_name

abbrev pub ready_assertion : ReadyAssertion → spec.Assertion
ready_assertion x = record {
  kind = x.source.now.kind;
  test = record { text = x.source.now.test.text; expression = expression x.test.plan };
  id = x.source.now.id;
  flag = x.source.now.flag;
  role = x.source.now.role;
  level = x.source.now.level;
  message = map ready_part x.message.items;
}

abbrev pub ready_rule : ReadyRule → spec.Rule
ready_rule x = record { context = seen_shown x.source.now.context; lets = map ready_let x.lets.items; assertions = map ready_assertion x.assertions.items }

-- Their plans are ready for that document.

abbrev pub IsLetFor : Document → ReadyLet → Type 0
IsLetFor document x = x.run.document ≡ document

abbrev pub IsPartFor : Document → ReadyPart → Type 0
IsPartFor document (p.Words text) = Unit {0}
IsPartFor document (p.Values run) = run.document ≡ document
IsPartFor document p.Name = Unit {0}

pub record IsAssertionFor (document : Document) (x : ReadyAssertion) : Type 0 where
  pub test : x.test.document ≡ document
  pub message : All (IsPartFor document) x.message.items

pub record IsRuleFor (document : Document) (x : ReadyRule) : Type 0 where
  pub lets : All (IsLetFor document) x.lets.items
  pub assertions : All (IsAssertionFor document) x.assertions.items
