-- What is answered to a query: the value of an expression at a document.
use Rattle.std.specs.Prelude.{◌≡◌, ℕ, Bool, true, false, List, [], ◌∷◌, ◌++◌, codes, decimal, Result, Ok, Err}
use Rattle.std.proofs.Common.{◌⊎◌}
use Rattle.inv_base.specs.Outside.{SinkView}
use Rattle.inv_base.specs.Tree.{Node}
use Rattle.inv_base.specs.Writing.{WritesAll, WritesFront}
use Rattle.node_arena.specs.Moves.{tree_nodes}
use Rattle.bind_rows.specs.declared.names.Namespace.{Namespace}
use Rattle.bind_rows.specs.declared.names.Namespace.TheVariants as spaces
use Rattle.bind_rows.specs.Namespaces.{uri_of}
use Rattle.xpath_tokens.specs.declared.token.SyntaxFault.{SyntaxFault}
use Rattle.xpath_tokens.specs.declared.token.SyntaxFault.TheVariants as f
use Rattle.xpath_grammar.specs.Grammar.{Tree}
use Rattle.xpath_syntax.specs.Answers.{answer_of}
use Rattle.xpath_types.specs.declared.fault.TypeFault.{TypeFault}
use Rattle.xpath_types.specs.declared.fault.TypeFault.TheVariants as tf
use Rattle.xpath_types.specs.declared.fault.TypeKind.{TypeKind}
use Rattle.xpath_types.specs.declared.fault.TypeKind.TheVariants as t
use Rattle.xpath_types.specs.Scopes.{Binding, Declared}
use Rattle.xpath_types.specs.Typing.{typing_of}
use Rattle.xpath_meaning.specs.Expressions.{Exp}
use Rattle.xpath_meaning.specs.Meaning.{mean, at_top}
use Rattle.xpath_meaning.specs.Resolving.{resolved}
use Rattle.xpath_plan.specs.Plans.{Planned, expression}
use Rattle.item_listing.specs.Listing.{listed, WritesSome}
use Rattle.job_protocol.specs.declared.status.Status.{Status}
use Rattle.job_protocol.specs.declared.status.Status.TheVariants as statuses
use Rattle.job_protocol.specs.Outside.{TakesOrFails}
use Rattle.job_protocol.specs.Protocol.{Protocol, ends, done, refusal, by_result, document_protocol}
use Rattle.job_protocol.specs.Views.{document_read}
use Rattle.document_jobs.specs.declared.queries.QueryFault.{QueryFault}
use Rattle.document_jobs.specs.declared.queries.QueryFault.TheVariants as q

-- ---- the expression

abbrev pub binding : List ℕ → Namespace → Binding
binding prefix namespace = record { prefix = prefix; uri = uri_of namespace }

-- the prefixes of a query: those of UBL's two roots, and those with which the names of UBL and CII are written
abbrev pub query_scope : Declared
query_scope = record {
  prefixes = binding (codes "ubl") spaces.UblInvoice ∷ binding (codes "cn") spaces.UblCreditNote
      ∷ binding (codes "cac") spaces.UblAggregate ∷ binding (codes "cbc") spaces.UblBasic
      ∷ binding (codes "rsm") spaces.CiiInvoice ∷ binding (codes "ram") spaces.CiiAggregate
      ∷ binding (codes "udt") spaces.CiiUnqualified ∷ binding (codes "qdt") spaces.CiiQualified ∷ [];
  variables = [];
}

-- a kind of fault and its place
abbrev pub placed : List ℕ → ℕ → List ℕ
placed kind place = kind ++ (0x20 ∷ decimal place)

-- why a text is no expression, with the character or the token where there is one
abbrev pub syntax_text : SyntaxFault → List ℕ
syntax_text f.TooLong = codes "TooLong"
syntax_text (f.Lexical place) = placed (codes "Lexical") place
syntax_text f.NumberTooWide = codes "NumberTooWide"
syntax_text (f.Unsupported token) = placed (codes "Unsupported") token
syntax_text f.Syntax = codes "Syntax"
syntax_text f.TooDeep = codes "TooDeep"
syntax_text f.Memory = codes "Memory"

abbrev pub type_text : TypeKind → List ℕ
type_text t.UndeclaredPrefix = codes "UndeclaredPrefix"
type_text t.UndeclaredVariable = codes "UndeclaredVariable"
type_text t.UnknownFunction = codes "UnknownFunction"
type_text t.UnknownType = codes "UnknownType"
type_text t.WrongArity = codes "WrongArity"
type_text t.NotLiteral = codes "NotLiteral"
type_text t.BadPattern = codes "BadPattern"
type_text t.PatternTooLarge = codes "PatternTooLarge"
type_text t.SureTypeError = codes "SureTypeError"

-- the expression of a tree, or why it is refused
unfoldable pub typed_in_query : Tree → Result Exp QueryFault
typed_in_query tree = elim (typing_of query_scope tree) [
  | Err refusal ↦ Err (q.Typing refusal.kind refusal.token)
  | Ok typing ↦ Ok (resolved query_scope [] typing.expression)
]

abbrev pub by_tree : Result Tree SyntaxFault → Result Exp QueryFault
by_tree (Err fault) = Err (q.Syntax fault)
by_tree (Ok tree) = typed_in_query tree

-- the expression of a text, or why it is refused
unfoldable pub expression_of : List ℕ → Result Exp QueryFault
expression_of text = by_tree (answer_of text)

-- ---- the answer

abbrev pub query_fault_text : QueryFault → List ℕ
query_fault_text (q.Syntax fault) = syntax_text fault
query_fault_text (q.Typing kind token) = placed (type_text kind) token
query_fault_text q.Memory = codes "Memory"

abbrev pub expression_line : QueryFault → List ℕ
expression_line fault = codes "einv: expression: " ++ (query_fault_text fault ++ 0xA ∷ [])

-- the lines of an expression's value at the document itself
unfoldable pub answered : Exp → List Node → List ℕ
answered e nodes = listed nodes (mean nodes e (at_top 0 []))

-- what follows by an expression, or its refusal, which comes before any file is opened
abbrev pub by_expression : List ℕ → Result Exp QueryFault → Protocol
by_expression file e = by_result (λ fault. ends (refusal statuses.RulesRefused (expression_line fault)))
    (λ e. document_protocol file (λ found. ends (done (answered e (tree_nodes (document_read found)))))) e

abbrev pub query_protocol : List ℕ → List ℕ → Protocol
query_protocol text file = by_expression file (expression_of text)

-- ---- what the code has

-- a fault of a text as one of a query
abbrev pub fault_of : SyntaxFault → QueryFault
fault_of f.Memory = q.Memory
fault_of fault = q.Syntax fault

-- a refusal of names or kinds as a fault of a query
abbrev pub type_fault_of : TypeFault → QueryFault
type_fault_of (tf.Refused kind token) = q.Typing kind token
type_fault_of tf.Memory = q.Memory

-- the status of an answer that was written, by whether a write failed
abbrev pub status_of : Bool → Status
status_of true = statuses.WriteFault
status_of false = statuses.Done

-- The call answers so, unless memory ran out.
abbrev pub Asks : Result Planned QueryFault → Result Exp QueryFault → Type 0
Asks (Ok plan) e = e ≡ Ok (expression plan)
Asks (Err q.Memory) e = Unit {0}
Asks (Err fault) e = e ≡ Err fault

-- The status of a fault whose line was told; want of memory has none.
abbrev pub IsQueryRefusal : QueryFault → Status → SinkView → SinkView → Type 0
IsQueryRefusal q.Memory status before after = (status ≡ statuses.Memory) × (after ≡ before)
IsQueryRefusal fault status before after = (status ≡ statuses.RulesRefused) × TakesOrFails (expression_line fault) before after

-- The text was written, or a front of it where a write failed or memory ran out.
abbrev pub Answered : Status → List ℕ → SinkView → SinkView → Type 0
Answered status text before after = ((status ≡ statuses.Done) × WritesAll text before after)
    ⊎ (((status ≡ statuses.WriteFault) × WritesFront text before after) ⊎ ((status ≡ statuses.Memory) × WritesSome text before after))
