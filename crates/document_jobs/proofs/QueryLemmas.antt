-- Queries: the expression of a text, and its answer at a document.
use Rattle.std.proofs.Common.{◌≡◌, ℕ, Bool, true, false, List, [], ◌∷◌, Some, None, inl, inr, refl, ap, sym, subst, ◌∙◌, arith, option_map, codes}
use Rattle.std.specs.Prelude.{Result, Ok, Err, chars, nat_lt, ◌&&◌}
use Rattle.std.specs.List.{list_all}
use Rattle.std.specs.Str.{IsAscii}
use Rattle.std.proofs.lemmas.Bool.{ltb-true}
use Rattle.std.proofs.lemmas.Str.{chars-IsAscii}
use Rattle.std.proofs.lemmas.Str.Ascii.{IsAscii-nil, IsAscii-cons}
use Rattle.inv_base.specs.Outside.{ShelfView, SinkView}
use Rattle.inv_base.specs.Printing.{Printed}
use Rattle.inv_base.specs.Tree.{Node}
use Rattle.inv_base.specs.Writing.{WritesAll, WritesFront}
use Rattle.inv_base.proofs.WritingLemmas.{WritesAll-nil, IsFront-nil}
use Rattle.inv_base.specs.Files.{bytes_under}
use Rattle.node_arena.specs.Document.{Document}
use Rattle.node_arena.specs.Moves.{tree_nodes}
use Rattle.xml_document.specs.Loading.{IsLoaded}
use Rattle.xml_profile.specs.Profile as profile
use Rattle.bind_rows.specs.declared.names.Namespace.{Namespace}
use Rattle.bind_rows.specs.declared.names.Namespace.TheVariants as spaces
use Rattle.bind_rows.specs.Namespaces.{uri_of}
use Rattle.xpath_tokens.specs.declared.token.SyntaxFault.{SyntaxFault}
use Rattle.xpath_tokens.specs.declared.token.SyntaxFault.TheVariants as f
use Rattle.xpath_grammar.specs.Grammar.{Tree}
use Rattle.xpath_syntax.specs.Answers.{answer_of, Refused}
use Rattle.xpath_types.specs.declared.fault.TypeKind.{TypeKind}
use Rattle.xpath_types.specs.declared.fault.TypeFault.{TypeFault}
use Rattle.xpath_types.specs.declared.fault.TypeFault.TheVariants as tf
use Rattle.xpath_grammar.specs.View.{view}
use Rattle.xpath_types.specs.Scopes.{Declared, with_prefix}
use Rattle.xpath_types.specs.Typing as typing
use Rattle.xpath_types.specs.Typing.{Typing, TypedExpression, typing_of}
use Rattle.xpath_items.specs.declared.item.Item.TheVariants as i
use Rattle.xpath_meaning.specs.Values.{Value}
use Rattle.xpath_meaning.specs.Expressions.{Exp}
use Rattle.xpath_meaning.specs.Meaning.{mean, at_top}
use Rattle.xpath_meaning.specs.Resolving.{resolved}
use Rattle.xpath_plan.specs.Plans.{Planned, expression}
use Rattle.xpath_steps.specs.Variables as variables
use Rattle.item_listing.specs.Listing.{listed, ValueWithin, WritesSome}
use Rattle.job_protocol.specs.declared.status.Status.{Status}
use Rattle.job_protocol.specs.declared.status.Status.TheVariants as statuses
use Rattle.job_protocol.specs.Outside.{Outside, HasRead}
use Rattle.job_protocol.specs.Protocol.{Protocol, ends, done, refusal, document_limits}
use Rattle.job_protocol.specs.Runs.{RunsInPieces}
use Rattle.job_protocol.proofs.Ends.{written_here, memory_here, pieces_behind_document}
use Rattle.job_protocol.proofs.FileLemmas.{refused_here}
use Rattle.job_protocol.specs.Views.{document_read}
use Rattle.document_jobs.specs.declared.queries.QueryFault.{QueryFault}
use Rattle.document_jobs.specs.declared.queries.QueryFault.TheVariants as q
use Rattle.document_jobs.specs.Queries.{query_scope, typed_in_query, by_tree, expression_of, expression_line, answered, by_expression, query_protocol, fault_of}
use Rattle.document_jobs.specs.Queries.{type_fault_of, status_of, Asks, IsQueryRefusal, Answered}

-- ---- the expression

pub asks_refused : (text : List ℕ) (fault : SyntaxFault) → Refused fault (answer_of text) → Asks (Err (fault_of fault)) (expression_of text)
unfolding expression_of
asks_refused text f.TooLong h = ap by_tree h
asks_refused text (f.Lexical place) h = ap by_tree h
asks_refused text f.NumberTooWide h = ap by_tree h
asks_refused text (f.Unsupported token) h = ap by_tree h
asks_refused text f.Syntax h = ap by_tree h
asks_refused text f.TooDeep h = ap by_tree h
asks_refused text f.Memory h = tt

pub asks_tree : (text : List ℕ) (tree : Tree) (result : Result Planned QueryFault) → answer_of text ≡ Ok tree → Asks result (typed_in_query tree) →
    Asks result (expression_of text)
unfolding expression_of
asks_tree text tree result is asks = subst (Asks result) (sym (ap by_tree is)) asks

answer_is : (o : _) (made found : Typing) → typing.answer o made ≡ Ok found → made ≡ found
answer_is None made found e = cc
answer_is (Some refusal) made found e = cc

declared_is : (d : Declared) (x : Tree) (found : Typing) → typing_of d x ≡ Ok found → d ≡ found.declared
unfolding typing_of
declared_is d x found e = ap (λ (t : Typing). t.declared) (answer_is _ _ found e)

plan_at : (typed : TypedExpression) (r : _) (plan : Planned) → typing.Answers (Ok typed) r → resolved query_scope [] (view typed.expression) ≡ expression plan
    → Asks (Ok plan) (elim r [ Err refusal ↦ Err (q.Typing refusal.kind refusal.token) | Ok found ↦ Ok (resolved query_scope [] found.expression) ])
plan_at typed (Ok found) plan is made =
    let e : found ≡ typing.typing typed = cc in
    ap (λ (t : Typing). Ok (resolved query_scope [] t.expression)) e ∙ ap Ok made
plan_at typed (Err refusal) plan is made = cc

pub asks_plan : (tree : Tree) (typed : TypedExpression) (plan : Planned) → typing.Answers (Ok typed) (typing_of query_scope tree)
    → expression plan ≡ resolved typed.declared [] (view typed.expression) → Asks (Ok plan) (typed_in_query tree)
unfolding typed_in_query
asks_plan tree typed plan is made =
    plan_at typed (typing_of query_scope tree) plan is
    (ap (λ d. resolved d [] (view typed.expression)) (declared_is query_scope tree (typing.typing typed) is) ∙ sym made)

typing_at : (r : _) (kind : TypeKind) (token : ℕ) → typing.Refuses (tf.Refused kind token) r
    → Asks (Err (q.Typing kind token)) (elim r [
      | Err refusal ↦ Err (q.Typing refusal.kind refusal.token)
      | Ok found ↦ Ok (resolved query_scope [] found.expression)
    ])
typing_at (Err refusal) kind token is = cc
typing_at (Ok found) kind token is = cc

pub asks_typing : (tree : Tree) (fault : TypeFault) → typing.Refuses fault (typing_of query_scope tree) → Asks (Err (type_fault_of fault)) (typed_in_query tree)
unfolding typed_in_query
asks_typing tree (tf.Refused kind token) is = typing_at (typing_of query_scope tree) kind token is
asks_typing tree tf.Memory is = tt

both : (a b : Bool) → (a && b) ≡ true → (a ≡ true) × (b ≡ true)
both true b e = (refl, e)
both false b e = cc

ascii : (bytes : List ℕ) → list_all (λ b. nat_lt b 128) bytes ≡ true → IsAscii bytes
ascii [] e = IsAscii-nil
ascii (b ∷ bytes) e = let parts = both (nat_lt b 128) (list_all (λ b. nat_lt b 128) bytes) e in
    IsAscii-cons b bytes (ltb-true b 128 parts.0) (ascii bytes parts.1)

-- the name of a namespace, whose bytes are its characters
pub uri_chars : (namespace : Namespace) → chars (uri_of namespace) ≡ uri_of namespace
uri_chars spaces.UblInvoice = chars-IsAscii (uri_of spaces.UblInvoice) (ascii (uri_of spaces.UblInvoice) refl)
uri_chars spaces.UblCreditNote = chars-IsAscii (uri_of spaces.UblCreditNote) (ascii (uri_of spaces.UblCreditNote) refl)
uri_chars spaces.UblAggregate = chars-IsAscii (uri_of spaces.UblAggregate) (ascii (uri_of spaces.UblAggregate) refl)
uri_chars spaces.UblBasic = chars-IsAscii (uri_of spaces.UblBasic) (ascii (uri_of spaces.UblBasic) refl)
uri_chars spaces.CiiInvoice = chars-IsAscii (uri_of spaces.CiiInvoice) (ascii (uri_of spaces.CiiInvoice) refl)
uri_chars spaces.CiiAggregate = chars-IsAscii (uri_of spaces.CiiAggregate) (ascii (uri_of spaces.CiiAggregate) refl)
uri_chars spaces.CiiUnqualified = chars-IsAscii (uri_of spaces.CiiUnqualified) (ascii (uri_of spaces.CiiUnqualified) refl)
uri_chars spaces.CiiQualified = chars-IsAscii (uri_of spaces.CiiQualified) (ascii (uri_of spaces.CiiQualified) refl)

abbrev bound : Declared → List ℕ → Namespace → Declared
bound d prefix namespace = with_prefix d prefix (uri_of namespace)

abbrev ubl_bound : Declared → Declared
ubl_bound d = bound (bound (bound (bound d (codes "ubl") spaces.UblInvoice) (codes "cn") spaces.UblCreditNote) (codes "cac") spaces.UblAggregate)
    (codes "cbc") spaces.UblBasic

abbrev cii_bound : Declared → Declared
cii_bound d = bound (bound (bound (bound d (codes "rsm") spaces.CiiInvoice) (codes "ram") spaces.CiiAggregate) (codes "udt") spaces.CiiUnqualified)
    (codes "qdt") spaces.CiiQualified

pub ubl_made : (s0 s1 s2 s3 s4 : Declared) → s1 ≡ with_prefix s0 (codes "ubl") (uri_of spaces.UblInvoice) →
    s2 ≡ with_prefix s1 (codes "cn") (uri_of spaces.UblCreditNote)
    → s3 ≡ with_prefix s2 (codes "cac") (uri_of spaces.UblAggregate) → s4 ≡ with_prefix s3 (codes "cbc") (uri_of spaces.UblBasic) → s4 ≡ ubl_bound s0
ubl_made s0 s1 s2 s3 s4 e1 e2 e3 e4 =
    let x2 = e2 ∙ ap (λ d. bound d (codes "cn") spaces.UblCreditNote) e1 in
    let x3 = e3 ∙ ap (λ d. bound d (codes "cac") spaces.UblAggregate) x2 in
    e4 ∙ ap (λ d. bound d (codes "cbc") spaces.UblBasic) x3

pub cii_made : (s0 s1 s2 s3 s4 : Declared) → s1 ≡ with_prefix s0 (codes "rsm") (uri_of spaces.CiiInvoice) →
    s2 ≡ with_prefix s1 (codes "ram") (uri_of spaces.CiiAggregate)
    → s3 ≡ with_prefix s2 (codes "udt") (uri_of spaces.CiiUnqualified) → s4 ≡ with_prefix s3 (codes "qdt") (uri_of spaces.CiiQualified) → s4 ≡ cii_bound s0
cii_made s0 s1 s2 s3 s4 e1 e2 e3 e4 =
    let x2 = e2 ∙ ap (λ d. bound d (codes "ram") spaces.CiiAggregate) e1 in
    let x3 = e3 ∙ ap (λ d. bound d (codes "udt") spaces.CiiUnqualified) x2 in
    e4 ∙ ap (λ d. bound d (codes "qdt") spaces.CiiQualified) x3

pub scope_made : (s0 s1 s2 : Declared) → s0 ≡ record { prefixes = []; variables = [] } → s1 ≡ ubl_bound s0 → s2 ≡ cii_bound s1 → s2 ≡ query_scope
scope_made s0 s1 s2 e0 e1 e2 = e2 ∙ ap cii_bound (e1 ∙ ap ubl_bound e0)

-- ---- the answer

-- The two crates speak of a value's nodes alike.
pub value_within : (count : ℕ) (v : Value) → variables.ValueWithin count v → ValueWithin count v
value_within count (Ok items) h = h
value_within count (Err error) h = h

-- the focus at the top
pub value_at_top : (e : Exp) (nodes : List Node) (n : ℕ) (v : Value) (outer : List (List ℕ × Value)) → n ≡ 0 → outer ≡ []
    → v ≡ mean nodes e (record { focus = record { item = i.Node n; position = 1; last = 1 }; bound = []; outer = outer }) → v ≡ mean nodes e (at_top 0 [])
value_at_top e nodes n v outer zero none is = is ∙ (ap (λ o. mean nodes e (at_top n o)) none ∙ ap (λ m. mean nodes e (at_top m [])) zero)

pub answer_text : (e : Exp) (nodes : List Node) (v : Value) → v ≡ mean nodes e (at_top 0 []) → listed nodes v ≡ answered e nodes
unfolding answered
answer_text e nodes v is = ap (listed nodes) is

pub no_variables : (count : ℕ) (outer : List (List ℕ × Value)) → outer ≡ [] → variables.ValuesWithin count outer
no_variables count outer none = subst (variables.ValuesWithin count) (sym none) tt

pub nothing_answered : (text : List ℕ) (s : SinkView) → Answered statuses.Memory text s s
nothing_answered text s = inr (inr (refl, record { front = []; is_front = IsFront-nil text; writes = WritesAll-nil s }))

pub is_answered : (failed : Bool) (status : Status) (text whole : List ℕ) (from to : SinkView) → status ≡ status_of failed → text ≡ whole →
    Printed failed text from to
    → Answered status whole from to
is_answered true status text whole from to is same printed = rw is (inr (inl (refl, subst (λ t. WritesFront t from to) same printed)))
is_answered false status text whole from to is same printed = rw is (inl (refl, subst (λ t. WritesAll t from to) same printed))

pub some_answered : (text whole : List ℕ) (from to : SinkView) → text ≡ whole → WritesSome text from to → Answered statuses.Memory whole from to
some_answered text whole from to same some = inr (inr (refl, subst (λ t. WritesSome t from to) same some))

-- ---- the job

answered_here : (status : Status) (text : List ℕ) (shelf : ShelfView) (out out' err : SinkView) → Answered status text out out'
    → RunsInPieces (ends (done text)) (record { shelf = shelf; out = out; err = err }) (record { shelf = shelf; out = out'; err = err }) status
answered_here status text shelf out out' err (inl all) = inl (written_here statuses.Done status text shelf out out' err tt (inl all))
answered_here status text shelf out out' err (inr (inl front)) = inl (written_here statuses.Done status text shelf out out' err tt (inr front))
answered_here status text shelf out out' err (inr (inr some)) = inr (record {
  count = 0;
  told = some.0;
  few = λ files is. omega arith;
  read = record { held = refl; opens = refl; faults = refl };
  quiet = some.1.writes.faults;
  front = λ files is. (some.1.front, some.1.is_front, some.1.writes.told);
  no_line = refl;
})

pub query_refused : (text file : List ℕ) (fault : QueryFault) (status : Status) (shelf : ShelfView) (out err err' : SinkView) →
    Asks (Err fault) (expression_of text)
    → IsQueryRefusal fault status err err'
    → RunsInPieces (query_protocol text file) (record { shelf = shelf; out = out; err = err }) (record { shelf = shelf; out = out; err = err' }) status
query_refused text file q.Memory status shelf out err err' asks told =
    rw (told.0, told.1) (inl (memory_here (query_protocol text file) shelf out err))
query_refused text file (q.Syntax fault) status shelf out err err' asks told =
    rw told.0 (subst (λ protocol. RunsInPieces protocol (record { shelf = shelf; out = out; err = err })
    (record { shelf = shelf; out = out; err = err' }) statuses.RulesRefused)
    (sym (ap (by_expression file) asks)) (inl (refused_here statuses.RulesRefused (expression_line (q.Syntax fault)) shelf out err err' tt told.1)))
query_refused text file (q.Typing kind token) status shelf out err err' asks told =
    rw told.0 (subst (λ protocol. RunsInPieces protocol (record { shelf = shelf; out = out; err = err })
    (record { shelf = shelf; out = out; err = err' }) statuses.RulesRefused)
    (sym (ap (by_expression file) asks)) (inl (refused_here statuses.RulesRefused (expression_line (q.Typing kind token)) shelf out err err' tt told.1)))

-- what follows behind the document
abbrev pub query_next : Exp → profile.Document → Protocol
query_next e found = ends (done (answered e (tree_nodes (document_read found))))

pub query_planned : (text file : List ℕ) (plan : Planned) (status : Status) (before after : Outside) → Asks (Ok plan) (expression_of text)
    → RunsInPieces (by_expression file (Ok (expression plan))) before after status → RunsInPieces (query_protocol text file) before after status
query_planned text file plan status before after asks runs = subst (λ protocol. RunsInPieces protocol before after status) (sym (ap (by_expression file)
    asks)) runs

pub query_answered : (file : List ℕ) (plan : Planned) (status : Status) (shelf mid : ShelfView) (out out' err mid_err : SinkView) (doc : Document)
    → HasRead 1 shelf mid → mid_err ≡ err → IsLoaded document_limits (option_map (bytes_under file) shelf.held) doc
    → Answered status (answered (expression plan) (tree_nodes doc)) out out'
    → RunsInPieces (by_expression file (Ok (expression plan))) (record { shelf = shelf; out = out; err = err })
    (record { shelf = mid; out = out'; err = mid_err }) status
query_answered file plan status shelf mid out out' err mid_err doc read quiet found answer =
    pieces_behind_document file shelf mid mid out out' err mid_err mid_err status read quiet (query_next (expression plan)) doc found
    (answered_here status (answered (expression plan) (tree_nodes (document_read found.found))) mid out out' mid_err
    (subst (λ (d : Document). Answered status (answered (expression plan) (tree_nodes d)) out out') found.exactly answer))
