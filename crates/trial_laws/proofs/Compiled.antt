-- What the built-in rule file says.
use Rattle.std.proofs.Common.{◌≡◌, List, [], ◌∷◌, Some, None, Ok, refl, ap, ◌∙◌}
use Rattle.std.specs.Prelude.{codes}
use lib.Utf8.{encode}
use Rattle.std.specs.Str.{chars}
use Rattle.inv_base.specs.declared.tree.Kind.TheVariants as kinds
use Rattle.inv_base.specs.Characters.{is_char, is_name_start, is_name_char, is_white_space}
use Rattle.inv_base.specs.Tree.{Node}
use Rattle.node_arena.specs.Document.{built}
use Rattle.node_arena.specs.Moves.{tree_nodes}
use Rattle.xpath_tokens.specs.Longest.{longest, many_then}
use Rattle.xpath_tokens.specs.Words.{words_from, comment_rest, comment_at, separator_length, closes, is_symbol}
use Rattle.xpath_tokens.specs.Tokens.{answer_of_characters, token_of}
use Rattle.xpath_tokens.specs.Tokens as tk
use Rattle.xpath_grammar.specs.Grammar as g
use Rattle.xpath_grammar.specs.Machine.{close, run, append}
use Rattle.xpath_grammar.specs.Patterns as pn
use Rattle.xpath_types.specs.Functions.{function_in, type_in}
use Rattle.xpath_types.specs.Judging as j
use Rattle.xpath_types.specs.Parts as pt
use Rattle.xpath_types.specs.Typing.{typing_of}
use Rattle.xpath_meaning.specs.Resolving.{resolved, operands}
use Rattle.schematron_meaning.specs.Entries.{entries}
use Rattle.schematron_meaning.specs.Bodies.{bodies}
use Rattle.schematron_meaning.specs.Showing.{first_declared}
use Rattle.schematron_meaning.specs.Written.{all_written}
use Rattle.schematron_meaning.specs.Faults.{expression_fault, first_fault}
use Rattle.schematron_meaning.specs.Rules.{rules_of}
use Rattle.held_rules.specs.Texts.{nodes_in, ready_in, unless_refused, unless_faulty, rules_in, by_default}
use Rattle.trial_run.specs.Trials.{trial_rules}
use Rattle.trial_laws.specs.Rules.{the_rules, the_ready}
use Rattle.trial_laws.proofs.RuleText.{rule_events, rule_names, text-read}

abbrev pub rule_nodes : List Node
rule_nodes =
    record { number = 0; kind = kinds.Document; name = None; above = []; text = [] }
    ∷ record {
      number = 1;
      kind = kinds.Element;
      name = Some (record { uri = (codes "http://purl.oclc.org/dsdl/schematron"); local = (codes "schema") });
      above = 0 ∷ [];
      text = [];
    }
    ∷ record {
      number = 2;
      kind = kinds.Attribute;
      name = Some (record { uri = []; local = (codes "queryBinding") });
      above = 1 ∷ 0 ∷ [];
      text =
          (codes "xslt2");
    }
    ∷ record { number = 3; kind = kinds.Text; name = None; above = 1 ∷ 0 ∷ []; text = (codes "\n") }
    ∷ record {
      number = 4;
      kind = kinds.Element;
      name = Some (record { uri = (codes "http://purl.oclc.org/dsdl/schematron"); local = (codes "ns") });
      above =
          1 ∷ 0 ∷ [];
      text = [];
    }
    ∷ record { number = 5; kind = kinds.Attribute; name = Some (record { uri = []; local = (codes "prefix") }); above = 4 ∷ 1 ∷ 0 ∷ []; text = (codes "cac") }
    ∷ record {
      number = 6;
      kind = kinds.Attribute;
      name = Some (record { uri = []; local = (codes "uri") });
      above = 4 ∷ 1 ∷ 0 ∷ [];
      text =
          (codes "urn:oasis:names:specification:ubl:schema:xsd:CommonAggregateComponents-2");
    }
    ∷ record { number = 7; kind = kinds.Text; name = None; above = 1 ∷ 0 ∷ []; text = (codes "\n") }
    ∷ record {
      number = 8;
      kind = kinds.Element;
      name = Some (record { uri = (codes "http://purl.oclc.org/dsdl/schematron"); local = (codes "ns") });
      above =
          1 ∷ 0 ∷ [];
      text = [];
    }
    ∷ record { number = 9; kind = kinds.Attribute; name = Some (record { uri = []; local = (codes "prefix") }); above = 8 ∷ 1 ∷ 0 ∷ []; text = (codes "cbc") }
    ∷ record {
      number = 10;
      kind = kinds.Attribute;
      name = Some (record { uri = []; local = (codes "uri") });
      above = 8 ∷ 1 ∷ 0 ∷ [];
      text =
          (codes "urn:oasis:names:specification:ubl:schema:xsd:CommonBasicComponents-2");
    }
    ∷ record { number = 11; kind = kinds.Text; name = None; above = 1 ∷ 0 ∷ []; text = (codes "\n") }
    ∷ record {
      number = 12;
      kind = kinds.Element;
      name = Some (record { uri = (codes "http://purl.oclc.org/dsdl/schematron"); local = (codes "pattern") });
      above = 1 ∷ 0 ∷ [];
      text = [];
    }
    ∷ record {
      number = 13;
      kind = kinds.Element;
      name = Some (record { uri = (codes "http://purl.oclc.org/dsdl/schematron"); local = (codes "rule") });
      above =
          12 ∷ 1 ∷ 0 ∷ [];
      text = [];
    }
    ∷ record {
      number = 14;
      kind = kinds.Attribute;
      name = Some (record { uri = []; local = (codes "context") });
      above = 13 ∷ 12 ∷ 1 ∷ 0 ∷ [];
      text =
          (codes "cac:InvoiceLine");
    }
    ∷ record { number = 15; kind = kinds.Text; name = None; above = 13 ∷ 12 ∷ 1 ∷ 0 ∷ []; text = (codes "\n") }
    ∷ record {
      number = 16;
      kind = kinds.Element;
      name = Some (record { uri = (codes "http://purl.oclc.org/dsdl/schematron"); local = (codes "assert") });
      above = 13 ∷ 12 ∷ 1 ∷ 0 ∷ [];
      text = [];
    }
    ∷ record {
      number = 17;
      kind = kinds.Attribute;
      name = Some (record { uri = []; local = (codes "test") });
      above = 16 ∷ 13 ∷ 12 ∷ 1 ∷ 0 ∷ [];
      text =
          (codes "xs:decimal(cbc:LineExtensionAmount) = cbc:InvoicedQuantity * cac:Price/cbc:PriceAmount");
    }
    ∷ record {
      number = 18;
      kind = kinds.Text;
      name = None;
      above = 16 ∷ 13 ∷ 12 ∷ 1 ∷ 0 ∷ [];
      text =
          (codes "\nThe net amount of a line is its quantity times its price.");
    }
    ∷ record { number = 19; kind = kinds.Text; name = None; above = 13 ∷ 12 ∷ 1 ∷ 0 ∷ []; text = (codes "\n") }
    ∷ record {
      number = 20;
      kind = kinds.Element;
      name = Some (record { uri = (codes "http://purl.oclc.org/dsdl/schematron"); local = (codes "report") });
      above = 13 ∷ 12 ∷ 1 ∷ 0 ∷ [];
      text = [];
    }
    ∷ record {
      number = 21;
      kind = kinds.Attribute;
      name = Some (record { uri = []; local = (codes "test") });
      above = 20 ∷ 13 ∷ 12 ∷ 1 ∷ 0 ∷ [];
      text =
          (codes "cbc:ID = count(//cac:InvoiceLine)");
    }
    ∷ record { number = 22; kind = kinds.Text; name = None; above = 20 ∷ 13 ∷ 12 ∷ 1 ∷ 0 ∷ []; text = (codes "This is the last line.") }
    ∷ record { number = 23; kind = kinds.Text; name = None; above = 13 ∷ 12 ∷ 1 ∷ 0 ∷ []; text = (codes "\n") }
    ∷ []

nodes-are : tree_nodes (record { nodes = (built rule_events).nodes; names = rule_names }) ≡ rule_nodes
unfolding built
nodes-are = refl

rules-are : rules_of rule_nodes ≡ Ok the_rules
unfolding encode chars is_char is_name_start is_name_char is_white_space longest many_then words_from comment_rest comment_at separator_length closes is_symbol
    answer_of_characters token_of tk.judged
    g.level g.deepest g.written g.parts_written close run append pn.kind_of pn.first_kind pn.all_steps pn.all_paths function_in type_in j.judged j.operands
    pt.placed pt.placed_inside pt.uses pt.uses_of_parts pt.has_free pt.parts_have_free typing_of resolved operands expression_fault
    entries bodies first_declared all_written first_fault rules_of
rules-are = refl

-- The built-in rules are compiled, and these are they.
pub rules-ready : trial_rules ≡ Some the_ready
unfolding trial_rules ready_in nodes_in
rules-ready =
    ap (λ read. by_default (rules_in (unless_refused read))) text-read
    ∙ (ap (λ (nodes : List Node). by_default (rules_in (Some nodes))) nodes-are ∙ ap (λ rules. by_default (unless_faulty rules)) rules-are)
