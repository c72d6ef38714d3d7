-- What is answered of a file is what its document says, and a fault tells one of the document's nodes.
use Rattle.std.proofs.Common.{◌≡◌, subst, ℕ, ◌<◌, List, length, map, Option, Some, None, Result, Ok, Err, IfErr, sym, ap, ◌∙◌}
use Rattle.std.proofs.lemmas.List.{length-map}
use Rattle.inv_base.specs.Tree.{Node}
use Rattle.node_arena.specs.Document.{Document}
use Rattle.node_arena.specs.Moves.{tree_nodes, node_of}
use Rattle.schematron_meaning.specs.declared.fault.Fault.{Fault}
use Rattle.schematron_meaning.specs.Entries.{entries}
use Rattle.schematron_meaning.specs.Expansion.{File, file_of}
use Rattle.schematron_meaning.specs.Faults as f
use Rattle.schematron_meaning.specs.Rules.{rules_of, rules_unless, compiled}
use Rattle.schematron_rules.specs.declared.rules.Compiled.{Compiled}
use Rattle.schematron_entries.specs.Order.{AreInOrder}
use Rattle.schematron_compile.specs.declared.compiling.Refusal.{Refusal}
use Rattle.schematron_compile.specs.declared.compiling.Refusal.TheVariants as refusal
use Rattle.schematron_compile.specs.Answers.{ComesTo, IsOfANode}

first_of : (answer : Option Fault) (file : File) (fault : Fault) → rules_unless answer file ≡ Err fault → answer ≡ Some fault
first_of None file fault e = cc
first_of (Some first) file fault e = cc

refused_first : (nodes : List Node) (fault : Fault) → rules_of nodes ≡ Err fault → f.first_fault nodes ≡ Some fault
unfolding rules_of
refused_first nodes fault e = first_of (f.first_fault nodes) (file_of (entries nodes)) fault e

-- A fault that is answered as it is to be is told of one of the document's nodes.
pub node_is : (document : Document) (answer : Result Compiled Refusal) → AreInOrder (tree_nodes document)
    → ((nodes : List Node) (fault : Fault) → AreInOrder nodes → f.first_fault nodes ≡ Some fault → fault.node < length nodes)
    → ComesTo answer (rules_of (tree_nodes document)) → IfErr answer (IsOfANode (length document.nodes))
node_is document (Ok rules) ordered tells e = tt
node_is document (Err (refusal.Refused fault)) ordered tells e =
    subst (λ n. fault.node < n) (length-map document.nodes (node_of document.names))
    (tells (tree_nodes document) fault ordered (refused_first (tree_nodes document) fault e))
node_is document (Err refusal.Memory) ordered tells e = tt

pub refused_is : (nodes : List Node) (fault : Fault) (found : Option Fault) → found ≡ Some fault → found ≡ f.first_fault nodes → rules_of nodes ≡ Err fault
unfolding rules_of
refused_is nodes fault found is first = ap (λ answer. rules_unless answer (file_of (entries nodes))) (sym first ∙ is)

pub accepted_is : (nodes : List Node) (file : File) (found : Option Fault) (answer : Result Compiled Refusal) → found ≡ None → found ≡ f.first_fault nodes →
    file ≡ file_of (entries nodes)
    → ComesTo answer (Ok (compiled file)) → ComesTo answer (rules_of nodes)
unfolding rules_of
accepted_is nodes file found answer is first of h =
    subst (ComesTo answer) (ap (λ x. Ok (compiled x)) of ∙ sym (ap (λ o. rules_unless o (file_of (entries nodes))) (sym first ∙ is))) h
