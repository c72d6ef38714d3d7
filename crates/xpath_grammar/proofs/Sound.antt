-- Each step of the machine keeps what its states hold, so that what it finds is what the tokens spell.
use Rattle.std.proofs.Common.{◌≡◌, ℕ, Bool, true, false, not, ◌||◌, ◌≤◌, ◌<◌, List, [], ◌∷◌, ◌++◌, Option, Some, None, IsTrue, nat_eq, nat_lt, refl, sym, ap}
use Rattle.std.proofs.Common.{◌∙◌, subst, arith, leb-true, ltb-true, lit≤, le_trans, le_refl, map, append_assoc, append-nil, is_none}
use Rattle.std.proofs.lemmas.Bool.{and_from, and_parts, false≢true}
use Rattle.std.proofs.lemmas.Option.{none-some}
use Rattle.std.specs.List.{list_all}
use Rattle.xpath_tokens.specs.declared.token.Operator.{Operator}
use Rattle.xpath_tokens.specs.declared.token.Operator.TheVariants as o
use Rattle.xpath_tokens.specs.declared.token.Keyword.{Keyword}
use Rattle.xpath_tokens.specs.declared.token.Keyword.TheVariants as k
use Rattle.xpath_tokens.specs.declared.token.Name.{Name}
use Rattle.xpath_tokens.specs.declared.token.Name.TheVariants as n
use Rattle.xpath_tokens.specs.declared.token.Token.{Token}
use Rattle.xpath_tokens.specs.declared.token.Token.TheVariants as t
use Rattle.xpath_grammar.specs.declared.operators.Production.{Production}
use Rattle.xpath_grammar.specs.declared.operators.Production.TheVariants as p
use Rattle.xpath_grammar.specs.declared.operators.CastWord.{CastWord}
use Rattle.xpath_grammar.specs.declared.operators.CastWord.TheVariants as c
use Rattle.xpath_grammar.specs.declared.operators.Binder.{Binder}
use Rattle.xpath_grammar.specs.declared.operators.Binder.TheVariants as b
use Rattle.xpath_grammar.specs.Grammar as g
use Rattle.xpath_grammar.specs.Grammar.{Leaf, Form, Label, Tree, Parts}
use Rattle.xpath_grammar.specs.Machine as m
use Rattle.xpath_grammar.specs.Machine.{Frame, Mode, State, open_, trees, at}
use Rattle.xpath_grammar.proofs.Facts.{rank_pos, rank_below_path, written_append}
use Rattle.xpath_grammar.proofs.Closing.{Stack, S, and_then}
use Rattle.xpath_grammar.specs.declared.step.Axis.{Axis}
use Rattle.xpath_grammar.specs.declared.step.AxisForm.{AxisForm}
use Rattle.xpath_grammar.specs.declared.step.AxisForm.TheVariants as w
use Rattle.xpath_grammar.specs.declared.step.KindTest.{KindTest}
use Rattle.xpath_grammar.specs.declared.step.Test.TheVariants as e
use Rattle.std.specs.Str.{bytes_eq}
use Rattle.std.proofs.lemmas.Slice.Eq.{bytes_eq-Decides}
use Rattle.xpath_grammar.proofs.Holding.{stack_text, Leads, leads_more, leads_done, place_going_on, place_most, GoodStack, GoodMode, Holds, Held, held_given}
use Rattle.xpath_grammar.proofs.Holding.{Stands, Left, closes_left}

-- a value of the highest rank, behind which the machine stands
abbrev pub held : {s : S} {read tokens : List Token} → Holds s read → read ≡ tokens → Holds s tokens
held {s} h e = subst (Holds s) e h

-- Texts

push : (t m n : List Token) → (t ++ m) ++ n ≡ t ++ (m ++ n)
push t m n = append_assoc t m n

-- the text of the next state, where the stack stays
same_stack : (read : List Token) (st : Stack) (before after : List Token) (token : Token) → read ≡ stack_text st ++ before → before ++ token ∷ [] ≡ after → read
    ++ token ∷ [] ≡ stack_text st ++ after
same_stack read st before after token e f = ap (λ l. l ++ token ∷ []) e ∙ append_assoc (stack_text st) before (token ∷ []) ∙ ap (λ l. stack_text st ++ l) f

-- a frame opens
opened_text : (read : List Token) (st : Stack) (before : List Token) (form : Form) (parts : Parts) (label : Label) (token : Token) → read ≡ stack_text st ++
    before
    → before ++ token ∷ [] ≡ g.parts_written parts ++ g.label_tokens label → read ++ token ∷ [] ≡ stack_text (open_ form parts label ∷ st) ++ []
unfolding stack_text
opened_text read st before form parts label token e f = same_stack read st before (g.parts_written parts ++ g.label_tokens label) token e f ∙
    sym (append-nil (stack_text st ++ (g.parts_written parts ++ g.label_tokens label)))

-- a frame goes on behind its part
gone_on_text : (read : List Token) (st : Stack) (form : Form) (parts : Parts) (before label : Label) (v : Tree) (token : Token) (after : List Token)
    → read ≡ stack_text (open_ form parts before ∷ st) ++ g.written v → g.parts_written (and_then parts before v) ++ token ∷ [] ≡ after → read ++
    token ∷ [] ≡ stack_text st ++ after
unfolding stack_text g.written
gone_on_text read st form parts before label v token after e f = same_stack read st (g.parts_written (and_then parts before v)) after token
    (e ∙ append_assoc (stack_text st) (g.parts_written parts ++ g.label_tokens before) (g.written v) ∙ ap (λ l. stack_text st ++ l)
    (append_assoc (g.parts_written parts) (g.label_tokens before) (g.written v) ∙
    sym (written_append parts (g.more before v g.none) ∙ ap (λ l. g.parts_written parts ++ (g.label_tokens before ++ l)) (append-nil (g.written v))))) f

-- Operators

chain_goes_on : (production : Production) (label : Label) → g.production_of_label label ≡ Some production → g.goes_on (g.chain production) g.first label ≡ true
chain_goes_on production label e = and_from (g.joins production label) (not (g.is_single production) || true)
    (ap (g.is_production production) e ∙ same production) (single (g.is_single production)) where
      same : (production : Production) → nat_eq (g.rank_of production) (g.rank_of production) ≡ true
      same p.Sequence = refl
      same p.Or = refl
      same p.And = refl
      same _ = refl

      single : (x : Bool) → (not x || true) ≡ true
      single true = refl
      single false = refl

written_one : (v : Tree) → g.parts_written (g.more g.first v g.none) ≡ g.written v
unfolding g.written
written_one v = append-nil (g.written v)

-- the value begins a chain
begin_holds : (found : Option Production) (label : Label) (token : Token) (v : Tree) (st : Stack) (read : List Token) → found ≡ g.production_of_label label →
    g.label_tokens label ≡ token ∷ [] → Stands v st read
    → ((production : Production) → found ≡ Some production → g.rank_of production < g.rank v) → Held (m.begin_chain trees found label v st) (read ++ token ∷ [])
unfolding stack_text GoodStack Leads m.append
begin_holds None label token v st read same tokens stands tight = tt
begin_holds (Some production) label token v st read same tokens stands tight = held_given (m.has_place (g.rank_of production) st) _ _ (λ h. record {
  text = opened_text read st (g.written v) (g.chain production) (g.more g.first v g.none) label token stands.text
      (ap (λ l. l ++ token ∷ []) (sym (written_one v)) ∙ ap (λ l. g.parts_written (g.more g.first v g.none) ++ l) (sym tokens));
  stack = (
    (refl, tight production refl, stands.value, chain_goes_on production label (sym same)),
    (let l : g.rank_of production ≤ 14 = rank_below_path production in omega arith),
    leb-true (m.place st) (g.rank_of production) h,
    stands.stack,
  );
  mode = tt;
})

extend_holds : (goes : Bool) (form : Form) (parts : Parts) (before label : Label) (token : Token) (v : Tree) (st : Stack) (read : List Token) →
    goes ≡ g.goes_on form before label → g.label_tokens label ≡ token ∷ []
    → Stands v (open_ form parts before ∷ st) read → ((production : Production) → g.production_of_label label ≡ Some production →
    g.rank_of production < g.rank v)
    → Held (m.extend trees goes form parts before label v st) (read ++ token ∷ [])
unfolding stack_text GoodStack
extend_holds true form parts before label token v st read same tokens stands tight = record {
  text = gone_on_text read st form parts before label v token _ stands.text (ap (λ l. g.parts_written (and_then parts before v) ++ l) (sym tokens)) ∙
      sym (append-nil _);
  stack = (
    leads_more form None parts before label v stands.stack.0 stands.place stands.value (sym same),
    place_going_on form before label (sym same),
    stands.stack.2,
    stands.stack.3,
  );
  mode = tt;
}
extend_holds false form parts before label token v st read same tokens stands tight =
    begin_holds (g.production_of_label label) label token v (open_ form parts before ∷ st) read refl tokens stands tight

link_holds : (label : Label) (token : Token) (v : Tree) (st : Stack) (read : List Token) → g.label_tokens label ≡ token ∷ [] → Stands v st read
    → ((production : Production) → g.production_of_label label ≡ Some production → g.rank_of production < g.rank v) →
    Held (m.link trees label v st) (read ++ token ∷ [])
link_holds label token v [] read tokens stands tight = begin_holds (g.production_of_label label) label token v [] read refl tokens stands tight
link_holds label token v (open_ form parts before ∷ st) read tokens stands tight =
    extend_holds (g.goes_on form before label) form parts before label token v st read refl tokens stands tight

cast_word_is : (operator : Operator) (word : CastWord) → Some word ≡ m.cast_of operator → operator ≡ g.cast_operator word
cast_word_is o.Cast word e = ap g.cast_operator (inner e) where
  inner : Some word ≡ Some c.Cast → c.Cast ≡ word
  inner e = cc
cast_word_is o.Castable word e = ap g.cast_operator (inner e) where
  inner : Some word ≡ Some c.Castable → c.Castable ≡ word
  inner e = cc
cast_word_is _ word e = absurd cc

operator_holds : (found : Option CastWord) (operator : Operator) (v : Tree) (st : Stack) (read : List Token) → found ≡ m.cast_of operator → Stands v st read →
    m.strength_in found (g.production_of operator) < g.rank v
    → Held (m.operator_met trees found operator v st) (read ++ t.Operator operator ∷ [])
operator_holds (Some word) operator v st read same stands tight = held_given (m.has_place (g.rank_of_cast word) st) _ _ (λ h. record {
  text = same_stack read st (g.written v) _ (t.Operator operator) stands.text (ap (λ x. g.written v ++ t.Operator x ∷ []) (cast_word_is operator word same));
  stack = stands.stack;
  mode = (stands.value, tight, leb-true (m.place st) (g.rank_of_cast word) h);
})
operator_holds None operator v st read same stands tight = link_holds (g.link operator) (t.Operator operator) v st read refl stands
    (λ production e. subst (λ f. m.strength_in None f < g.rank v) e tight)

-- Commas, parentheses and brackets

comma_holds : (v : Tree) (st : Stack) (read : List Token) → Stands v st read → 1 < g.rank v → Held (m.comma_met trees v st) (read ++ t.Comma ∷ [])
unfolding stack_text GoodStack
comma_holds v [] read stands tight = link_holds g.comma t.Comma v [] read refl stands
    (λ production e. subst (λ x. g.rank_of x < g.rank v) (inner production e) tight) where
      inner : (production : Production) → Some p.Sequence ≡ Some production → p.Sequence ≡ production
      inner production e = cc
comma_holds v (open_ (g.bound binder) parts (g.binding lead x) ∷ st) read stands tight = record {
  text = gone_on_text read st (g.bound binder) parts (g.binding lead x) (g.binding None x) v t.Comma _ stands.text refl;
  stack = stands.stack.3;
  mode = (
    (λ name full. leads_more (g.bound binder) None parts (g.binding lead x) (g.binding None name) v stands.stack.0 stands.place stands.value full),
    stands.stack.2,
  );
}
comma_holds v (open_ (g.bound binder) parts label ∷ st) read stands tight =
    link_holds g.comma t.Comma v (open_ (g.bound binder) parts label ∷ st) read refl stands
    (λ production e. subst (λ x. g.rank_of x < g.rank v) (inner production e) tight) where
      inner : (production : Production) → Some p.Sequence ≡ Some production → p.Sequence ≡ production
      inner production e = cc
comma_holds v (open_ form parts label ∷ st) read stands tight = link_holds g.comma t.Comma v (open_ form parts label ∷ st) read refl stands
    (λ production e. subst (λ x. g.rank_of x < g.rank v) (inner production e) tight) where
      inner : (production : Production) → Some p.Sequence ≡ Some production → p.Sequence ≡ production
      inner production e = cc

parenthesis_holds : (v : Tree) (st : Stack) (read : List Token) → Stands v st read → Held (m.parenthesis_met trees v st) (read ++ t.RightParenthesis ∷ [])
unfolding stack_text GoodStack g.written g.Grammatical
parenthesis_holds v [] read stands = tt
parenthesis_holds v (open_ g.parens parts label ∷ st) read stands = record {
  text = gone_on_text read st g.parens parts label label v t.RightParenthesis _ stands.text refl;
  stack = stands.stack.3;
  mode = (leads_done g.parens None parts label v stands.stack.0 stands.place stands.value refl, lit≤ tt);
}
parenthesis_holds v (open_ g.call parts label ∷ st) read stands = record {
  text = gone_on_text read st g.call parts label label v t.RightParenthesis _ stands.text refl;
  stack = stands.stack.3;
  mode = (leads_done g.call None parts label v stands.stack.0 stands.place stands.value refl, lit≤ tt);
}
parenthesis_holds v (open_ g.conditional parts g.condition ∷ st) read stands = record {
  text = gone_on_text read st g.conditional parts g.condition g.condition v t.RightParenthesis _ stands.text refl;
  stack = stands.stack.3;
  mode = (leads_more g.conditional None parts g.condition g.then_ v stands.stack.0 stands.place stands.value refl, stands.stack.2);
}
parenthesis_holds v (open_ g.conditional parts _ ∷ st) read stands = tt
parenthesis_holds v (open_ _ parts label ∷ st) read stands = tt

bracket_holds : (v : Tree) (st : Stack) (read : List Token) → Stands v st read → Held (m.bracket_met trees v st) (read ++ t.RightBracket ∷ [])
unfolding stack_text GoodStack g.written g.Grammatical
bracket_holds v [] read stands = tt
bracket_holds v (open_ g.filter parts g.predicate ∷ st) read stands = record {
  text = gone_on_text read st g.filter parts g.predicate g.predicate v t.RightBracket _ stands.text refl;
  stack = stands.stack.3;
  mode = (
    leads_more g.filter None parts g.predicate g.again v stands.stack.0 stands.place stands.value refl,
    leads_done g.filter None parts g.predicate v stands.stack.0 stands.place stands.value refl,
    stands.stack.2,
  );
}
bracket_holds v (open_ g.filter parts g.again ∷ st) read stands = record {
  text = gone_on_text read st g.filter parts g.again g.again v t.RightBracket _ stands.text refl;
  stack = stands.stack.3;
  mode = (
    leads_more g.filter None parts g.again g.again v stands.stack.0 stands.place stands.value refl,
    leads_done g.filter None parts g.again v stands.stack.0 stands.place stands.value refl,
    stands.stack.2,
  );
}
bracket_holds v (open_ g.filter parts _ ∷ st) read stands = tt
bracket_holds v (open_ _ parts label ∷ st) read stands = tt

met_holds : (token : Token) (strength : ℕ) (v : Tree) (st : Stack) (read : List Token) → Stands v st read → m.strength_of token ≡ Some strength →
    strength < g.rank v → Held (m.met trees token v st) (read ++ token ∷ [])
met_holds (t.Operator operator) strength v st read stands e tight =
    operator_holds (m.cast_of operator) operator v st read refl stands (subst (λ x. x < g.rank v) (inner e) tight) where
      inner : Some (m.strength operator) ≡ Some strength → strength ≡ m.strength operator
      inner e = cc
met_holds t.Comma strength v st read stands e tight = comma_holds v st read stands (subst (λ x. x < g.rank v) (inner e) tight) where
  inner : Some 1 ≡ Some strength → strength ≡ 1
  inner e = cc
met_holds t.RightParenthesis strength v st read stands e tight = parenthesis_holds v st read stands
met_holds t.RightBracket strength v st read stands e tight = bracket_holds v st read stands
met_holds _ strength v st read stands e tight = absurd (none-some strength e)

pub behind_holds : (token : Token) (rank : ℕ) (v : Tree) (st : Stack) (read : List Token) → Stands v st read → rank ≤ g.rank v →
    Held (m.behind trees token rank v st) (read ++ token ∷ [])
behind_holds token rank v st read stands fits = by (m.strength_of token) refl where
  stronger : (b : Bool) (strength : ℕ) → b ≡ nat_lt strength rank → m.strength_of token ≡ Some strength →
      Held (m.stronger trees b strength token v st) (read ++ token ∷ [])
  stronger true strength e same = let below : strength < rank = ltb-true strength rank (sym e) in
      let found : Left strength (m.close trees strength v st) read = closes_left strength v st read stands (omega arith) in
      met_holds token strength (m.close trees strength v st).0 (m.close trees strength v st).1 read found.stands same found.tight
  stronger false strength e same = tt

  by : (found : Option ℕ) → m.strength_of token ≡ found → Held (m.behind_of trees found token rank v st) (read ++ token ∷ [])
  by None e = tt
  by (Some strength) e = stronger (nat_lt strength rank) strength refl e

-- Behind operands

stands_have : (v : Tree) (st : Stack) (read : List Token) → read ≡ stack_text st ++ g.written v → GoodStack st → g.Grammatical v → 16 ≤ g.rank v →
    Stands v st read
stands_have v st read text good ok high = record { text = text; stack = good; value = ok; place = le_trans (place_most st good) (le_trans (lit≤ tt) high) }

primary_holds : (token : Token) (v : Tree) (st : Stack) (read : List Token) → Stands v st read → 16 ≤ g.rank v →
    Held (m.behind_primary trees token v st) (read ++ token ∷ [])
unfolding stack_text GoodStack Leads m.append
primary_holds t.LeftBracket v st read stands high = record {
  text = opened_text read st (g.written v) g.filter (g.more g.first v g.none) g.predicate t.LeftBracket stands.text
      (ap (λ l. l ++ t.LeftBracket ∷ []) (sym (written_one v)));
  stack = ((refl, high, stands.value, refl), lit≤ tt, place_most st stands.stack, stands.stack);
  mode = tt;
}
primary_holds token v st read stands high = behind_holds token 16 v st read stands high

filter_holds : (token : Token) (parts : Parts) (st : Stack) (read : List Token) → read ≡ stack_text st ++ (g.parts_written parts ++ t.RightBracket ∷ []) →
    GoodStack st → GoodMode (m.filtered parts) st
    → Held (m.behind_filter trees token parts st) (read ++ token ∷ [])
unfolding stack_text GoodStack g.written g.Grammatical
filter_holds t.LeftBracket parts st read text good mode = record {
  text = opened_text read st _ g.filter parts g.again t.LeftBracket text (append_assoc (g.parts_written parts) (t.RightBracket ∷ []) (t.LeftBracket ∷ []));
  stack = (mode.0, lit≤ tt, mode.2, good);
  mode = tt;
}
filter_holds token parts st read text good mode = behind_holds token 15 (g.node g.filter parts) st read
    (record { text = text; stack = good; value = mode.1; place = mode.2 }) (lit≤ tt)

-- Where an operand stands

leaf_holds : (x : Leaf) (st : Stack) (read : List Token) → read ≡ stack_text st ++ g.leaf_tokens x → GoodStack st → IsTrue (g.fits x) → 16 ≤ g.rank_of_leaf x →
    Holds (at (m.have (g.leaf x)) st) read
unfolding g.written g.Grammatical
leaf_holds x st read text good ok high = record { text = text; stack = good; mode = (ok, high) }

-- a frame opens without parts
open_holds : (form : Form) (label : Label) (st : Stack) (read before : List Token) (token : Token) → read ≡ stack_text st ++ before → before ++
    token ∷ [] ≡ g.label_tokens label → GoodStack st
    → g.begins form label ≡ true → g.place form label ≤ 15 → m.place st ≤ g.rank_of_form form →
    Holds (m.opening trees form g.none label st) (read ++ token ∷ [])
unfolding stack_text GoodStack Leads g.written
open_holds form label st read before token text tokens good begins low place =
    record { text = opened_text read st before form g.none label token text tokens; stack = (begins, low, place, good); mode = tt }

none_text : (read : List Token) (st : Stack) → read ≡ stack_text st ++ [] → read ≡ stack_text st
none_text read st e = e ∙ append-nil (stack_text st)

-- a label that only begins a form
opens : Label → Bool
opens g.opened = true
opens (g.calling name) = true
opens _ = false

never_behind : (form : Form) (before label : Label) → opens label ≡ true → g.goes_on form before label ≡ false
unfolding opens
never_behind (g.chain production) before g.opened h = refl
never_behind (g.chain production) before (g.calling name) h = refl
never_behind (g.bound binder) (g.binding lead x) g.opened h = refl
never_behind (g.bound binder) (g.binding lead x) (g.calling name) h = refl
never_behind (g.bound binder) _ g.opened h = refl
never_behind (g.bound binder) _ (g.calling name) h = refl
never_behind g.conditional g.condition g.opened h = refl
never_behind g.conditional g.condition (g.calling name) h = refl
never_behind g.conditional g.then_ g.opened h = refl
never_behind g.conditional g.then_ (g.calling name) h = refl
never_behind g.conditional _ g.opened h = refl
never_behind g.conditional _ (g.calling name) h = refl
never_behind (g.cast word type optional) before label h = refl
never_behind g.signs before label h = refl
never_behind g.filter g.first g.opened h = refl
never_behind g.filter g.first (g.calling name) h = refl
never_behind g.filter g.predicate g.opened h = refl
never_behind g.filter g.predicate (g.calling name) h = refl
never_behind g.filter g.again g.opened h = refl
never_behind g.filter g.again (g.calling name) h = refl
never_behind g.filter _ g.opened h = refl
never_behind g.filter _ (g.calling name) h = refl
never_behind g.parens before label h = refl
never_behind g.call before g.opened h = refl
never_behind g.call before (g.calling name) h = refl
never_behind _ before _ h = absurd (false≢true h)

never_led : (form : Form) (before : Label) (parts : Parts) (label : Label) → opens label ≡ true → Leads form (Some before) parts label → ⊥
unfolding Leads
never_led form before g.none label h leads = false≢true (sym (never_behind form before label h) ∙ leads)
never_led form before (g.more next x parts) label h leads = never_led form next parts label h leads.3

-- such a label stands before the first part
begins_there : (form : Form) (parts : Parts) (label : Label) → opens label ≡ true → Leads form None parts label → (g.begins form label ≡ true) ×
    (parts ≡ g.none)
unfolding Leads
begins_there form g.none label h leads = (leads, refl)
begins_there form (g.more next x parts) label h leads = absurd (never_led form next parts label h leads.3)

called_fits : (form : Form) (name : Name) → g.begins form (g.calling name) ≡ true → g.is_function name ≡ true
called_fits (g.cast word type optional) name h = absurd (false≢true h)
called_fits g.call name h = h
called_fits _ name h = absurd (false≢true h)

empty_text : (read : List Token) (st : Stack) (form : Form) (parts : Parts) (label : Label) (after : List Token) →
    read ≡ stack_text (open_ form parts label ∷ st) ++ [] → parts ≡ g.none
    → g.label_tokens label ++ t.RightParenthesis ∷ [] ≡ after → read ++ t.RightParenthesis ∷ [] ≡ stack_text st ++ after
unfolding stack_text g.written
empty_text read st form parts label after text same tokens = same_stack read st (g.label_tokens label) after t.RightParenthesis
    (none_text read (open_ form parts label ∷ st) text ∙ ap (λ l. stack_text st ++ (g.parts_written l ++ g.label_tokens label)) same) tokens

close_empty_holds : (st : Stack) (read : List Token) → read ≡ stack_text st ++ [] → GoodStack st →
    Held (m.close_empty trees st) (read ++ t.RightParenthesis ∷ [])
unfolding GoodStack opens
close_empty_holds [] read text good = tt
close_empty_holds (open_ form parts g.opened ∷ st) read text good =
    leaf_holds g.empty st _ (empty_text read st form parts g.opened _ text (begins_there form parts g.opened refl good.0).1 refl) good.3 refl (lit≤ tt)
close_empty_holds (open_ form parts (g.calling name) ∷ st) read text good =
    leaf_holds (g.called name) st _ (empty_text read st form parts (g.calling name) _ text (begins_there form parts (g.calling name) refl good.0).1 refl) good.3
    (called_fits form name (begins_there form parts (g.calling name) refl good.0).0) (lit≤ tt)
close_empty_holds (open_ form parts _ ∷ st) read text good = tt

-- `+` and `-`
first_sign_holds : (operator : Operator) (st : Stack) (read : List Token) → g.is_sign operator ≡ true → read ≡ stack_text st ++ [] → GoodStack st →
    Held (m.first_sign trees operator st) (read ++ t.Operator operator ∷ [])
first_sign_holds operator st read sign text good = held_given (m.has_place 13 st) _ _
    (λ h. open_holds g.signs (g.signed (operator ∷ [])) st read [] (t.Operator operator) text refl good (and_from (g.is_sign operator) true sign refl) (lit≤ tt)
    (leb-true (m.place st) 13 h))

all_more : (done : List Operator) (operator : Operator) → list_all g.is_sign done ≡ true → g.is_sign operator ≡ true →
    list_all g.is_sign (done ++ operator ∷ []) ≡ true
all_more [] operator h sign = and_from (g.is_sign operator) true sign refl
all_more (x ∷ done) operator h sign = and_from (g.is_sign x) _ (and_parts _ _ h).0 (all_more done operator (and_parts _ _ h).1 sign)

signs_more : (done : List Operator) (operator : Operator) → g.is_signs (g.signed done) ≡ true → g.is_sign operator ≡ true →
    g.is_signs (g.signed (done ++ operator ∷ [])) ≡ true
signs_more [] operator h sign = absurd (false≢true h)
signs_more (x ∷ done) operator h sign = all_more (x ∷ done) operator h sign

map_more : (done : List Operator) (operator : Operator) → map t.Operator done ++ t.Operator operator ∷ [] ≡ map t.Operator (done ++ operator ∷ [])
map_more [] operator = refl
map_more (x ∷ done) operator = ap (λ l. t.Operator x ∷ l) (map_more done operator)

signs_led : (parts : Parts) (done : List Operator) (operator : Operator) → g.is_sign operator ≡ true → Leads g.signs None parts (g.signed done) →
    Leads g.signs None parts (g.signed (done ++ operator ∷ []))
unfolding Leads
signs_led g.none done operator sign leads = signs_more done operator leads sign
signs_led (g.more next x parts) done operator sign leads = absurd (nothing_led next parts leads.3) where
  nothing_led : (before : Label) (parts : Parts) → Leads g.signs (Some before) parts (g.signed done) → ⊥
  nothing_led before g.none leads = false≢true leads
  nothing_led before (g.more next x parts) leads = nothing_led next parts leads.3

signs_text : (parts : Parts) (done : List Operator) (operator : Operator) (st : Stack) (read : List Token) →
    read ≡ stack_text (open_ g.signs parts (g.signed done) ∷ st) ++ []
    → read ++ t.Operator operator ∷ [] ≡ stack_text (open_ g.signs parts (g.signed (done ++ operator ∷ [])) ∷ st) ++ []
unfolding stack_text
signs_text parts done operator st read text = same_stack read st (g.parts_written parts ++ map t.Operator done)
    (g.parts_written parts ++ map t.Operator (done ++ operator ∷ [])) (t.Operator operator)
    (none_text read (open_ g.signs parts (g.signed done) ∷ st) text)
    (append_assoc (g.parts_written parts) (map t.Operator done) (t.Operator operator ∷ []) ∙ ap (λ l. g.parts_written parts ++ l) (map_more done operator)) ∙
    sym (append-nil _)

sign_holds : (operator : Operator) (st : Stack) (read : List Token) → g.is_sign operator ≡ true → read ≡ stack_text st ++ [] → GoodStack st →
    Held (m.sign trees operator st) (read ++ t.Operator operator ∷ [])
unfolding GoodStack
sign_holds operator [] read sign text good = first_sign_holds operator [] read sign text good
sign_holds operator (open_ g.signs parts (g.signed done) ∷ st) read sign text good = record {
  text = signs_text parts done operator st read text;
  stack = (signs_led parts done operator sign good.0, good.1, good.2, good.3);
  mode = tt;
}
sign_holds operator (open_ form parts label ∷ st) read sign text good = first_sign_holds operator (open_ form parts label ∷ st) read sign text good

slash_holds : (st : Stack) (read : List Token) → read ≡ stack_text st ++ [] → GoodStack st →
    Held (m.operator_wanted trees o.Slash st) (read ++ t.Operator o.Slash ∷ [])
slash_holds st read text good = held_given (m.has_place 14 st) _ _
    (λ h. record { text = same_stack read st [] _ (t.Operator o.Slash) text refl; stack = good; mode = leb-true (m.place st) 14 h })

operator_wanted_holds : (operator : Operator) (st : Stack) (read : List Token) → read ≡ stack_text st ++ [] → GoodStack st →
    Held (m.operator_wanted trees operator st) (read ++ t.Operator operator ∷ [])
operator_wanted_holds o.Slash st read text good = slash_holds st read text good
operator_wanted_holds o.DoubleSlash st read text good =
    held_given (m.has_place 14 st) _ _ (λ h. open_holds (g.chain p.Path) (g.link o.DoubleSlash) st read [] (t.Operator o.DoubleSlash) text refl good refl
    (lit≤ tt) (leb-true (m.place st) 14 h))
operator_wanted_holds o.Plus st read text good = sign_holds o.Plus st read refl text good
operator_wanted_holds o.Minus st read text good = sign_holds o.Minus st read refl text good
operator_wanted_holds _ st read text good = tt

binds_led : (binder : Binder) (name : Name) → g.is_full name ≡ true → Leads (g.bound binder) None g.none (g.binding (Some binder) name)
unfolding Leads
binds_led b.For name full = full
binds_led b.Some name full = full
binds_led b.Every name full = full

binder_keyword_is : (keyword : Keyword) (binder : Binder) → m.binder_of keyword ≡ Some binder → keyword ≡ g.binder_keyword binder
binder_keyword_is k.If binder e = absurd cc
binder_keyword_is k.For binder e = ap g.binder_keyword (inner e) where
  inner : Some b.For ≡ Some binder → b.For ≡ binder
  inner e = cc
binder_keyword_is k.Some binder e = ap g.binder_keyword (inner e) where
  inner : Some b.Some ≡ Some binder → b.Some ≡ binder
  inner e = cc
binder_keyword_is k.Every binder e = ap g.binder_keyword (inner e) where
  inner : Some b.Every ≡ Some binder → b.Every ≡ binder
  inner e = cc

if_is : (keyword : Keyword) → m.binder_of keyword ≡ None → keyword ≡ k.If
if_is k.If e = refl
if_is k.For e = absurd cc
if_is k.Some e = absurd cc
if_is k.Every e = absurd cc

keyword_holds : (found : Option Binder) (keyword : Keyword) (st : Stack) (read : List Token) → m.binder_of keyword ≡ found → read ≡ stack_text st ++ [] →
    GoodStack st
    → Held (m.keyword_wanted trees found st) (read ++ t.Keyword keyword ∷ [])
unfolding g.written
keyword_holds None keyword st read e text good = held_given (m.has_place 2 st) _ _
    (λ h. record {
      text = same_stack read st [] _ (t.Keyword keyword) text (ap (λ x. t.Keyword x ∷ []) (if_is keyword e));
      stack = good;
      mode =
          leb-true (m.place st) 2 h;
    })
keyword_holds (Some binder) keyword st read e text good = held_given (m.has_place 2 st) _ _ (λ h. record {
  text = same_stack read st [] _ (t.Keyword keyword) text (ap (λ x. t.Keyword x ∷ []) (binder_keyword_is keyword binder e));
  stack = good;
  mode = (binds_led binder, leb-true (m.place st) 2 h);
})

wanted_holds : (token : Token) (st : Stack) (read : List Token) → read ≡ stack_text st ++ [] → GoodStack st →
    Held (m.wanted trees token st) (read ++ token ∷ [])
unfolding g.written
wanted_holds (t.Literal s) st read text good = leaf_holds (g.literal s) st _ (same_stack read st [] _ (t.Literal s) text refl) good refl (lit≤ tt)
wanted_holds (t.Number x) st read text good = leaf_holds (g.number x) st _ (same_stack read st [] _ (t.Number x) text refl) good refl (lit≤ tt)
wanted_holds t.Dot st read text good = leaf_holds g.context st _ (same_stack read st [] _ t.Dot text refl) good refl (lit≤ tt)
wanted_holds t.DoubleDot st read text good = leaf_holds g.parent st _ (same_stack read st [] _ t.DoubleDot text refl) good refl (lit≤ tt)
wanted_holds t.Star st read text good = leaf_holds (g.step w.Unwritten e.Star) st _ (same_stack read st [] _ t.Star text refl) good refl (lit≤ tt)
wanted_holds (t.Name name) st read text good = record { text = same_stack read st [] _ (t.Name name) text refl; stack = good; mode = tt }
wanted_holds t.Dollar st read text good = record { text = same_stack read st [] _ t.Dollar text refl; stack = good; mode = tt }
wanted_holds t.At st read text good = record { text = same_stack read st [] _ t.At text refl; stack = good; mode = tt }
wanted_holds t.LeftParenthesis st read text good = open_holds g.parens g.opened st read [] t.LeftParenthesis text refl good refl (lit≤ tt)
    (le_trans (place_most st good) (lit≤ tt))
wanted_holds t.RightParenthesis st read text good = close_empty_holds st read text good
wanted_holds (t.Operator operator) st read text good = operator_wanted_holds operator st read text good
wanted_holds (t.Keyword keyword) st read text good = keyword_holds (m.binder_of keyword) keyword st read refl text good
wanted_holds _ st read text good = tt

-- Behind the first tokens of an operand

slash_opened : (st : Stack) (read : List Token) → read ≡ stack_text st ++ t.Operator o.Slash ∷ [] →
    read ≡ stack_text (open_ (g.chain p.Path) g.none (g.link o.Slash) ∷ st) ++ []
unfolding stack_text g.written
slash_opened st read text = text ∙ sym (append-nil _)

slash_led : Leads (g.chain p.Path) None g.none (g.link o.Slash)
unfolding Leads
slash_led = refl

behind_slash_holds : (step : Bool) (token : Token) (st : Stack) (read : List Token) → read ≡ stack_text st ++ t.Operator o.Slash ∷ [] → GoodStack st →
    m.place st ≤ 14 → Held (m.behind_slash trees step token st) (read ++ token ∷ [])
unfolding GoodStack g.written g.Grammatical
behind_slash_holds true token st read text good place = wanted_holds token (open_ (g.chain p.Path) g.none (g.link o.Slash) ∷ st) read
    (slash_opened st read text) (slash_led, lit≤ tt, place, good)
behind_slash_holds false token st read text good place =
    behind_holds token 14 (g.leaf g.root) st read (record { text = text; stack = good; value = refl; place = place }) (lit≤ tt)

dollar_holds : (token : Token) (st : Stack) (read : List Token) → read ≡ stack_text st ++ t.Dollar ∷ [] → GoodStack st →
    Held (m.behind_dollar trees token st) (read ++ token ∷ [])
dollar_holds (t.Name name) st read text good = held_given (g.is_full name) _ _
    (λ full. leaf_holds (g.variable name) st _ (same_stack read st (t.Dollar ∷ []) _ (t.Name name) text refl) good full (lit≤ tt))
dollar_holds _ st read text good = tt

found_word : {X : Type 0} (word : X → List ℕ) (xs : List X) (s : List ℕ) (x : X) → g.named_in word xs s ≡ Some x → s ≡ word x
found_word word [] s x e = absurd (none-some x e)
found_word {X} word (y ∷ xs) s x e = by (bytes_eq (word y) s) refl (found_word word xs s x) e where
  inner : Some y ≡ Some x → y ≡ x
  inner e = cc

  by : (t : Bool) → bytes_eq (word y) s ≡ t → (g.named_in word xs s ≡ Some x → s ≡ word x) →
      elim t as (λ _. Option X) [ true ↦ Some y | false ↦ g.named_in word xs s ] ≡ Some x → s ≡ word x
  by true q later e = sym ((bytes_eq-Decides (word y) s).0 q) ∙ ap word (inner e)
  by false q later e = later e

kind_is : (name : Name) (x : KindTest) → g.kind_of name ≡ Some x → name ≡ n.Plain (g.kind_word x)
kind_is (n.Plain s) x e = ap n.Plain (found_word g.kind_word g.kinds s x e)
kind_is _ x e = absurd (none-some x e)

axis_is : (name : Name) (x : Axis) → g.axis_of name ≡ Some x → name ≡ n.Plain (g.axis_word x)
axis_is (n.Plain s) x e = ap n.Plain (found_word g.axis_word g.axes s x e)
axis_is _ x e = absurd (none-some x e)

call_holds : (found : Option KindTest) (name : Name) (st : Stack) (read : List Token) → g.kind_of name ≡ found → read ≡ stack_text st ++ t.Name name ∷ [] →
    GoodStack st
    → Held (m.call_or_kind trees found name st) (read ++ t.LeftParenthesis ∷ [])
call_holds (Some x) name st read e text good =
    record {
      text = same_stack read st (t.Name name ∷ []) _ t.LeftParenthesis text (ap (λ y. t.Name y ∷ t.LeftParenthesis ∷ []) (kind_is name x e));
      stack =
          good;
      mode = tt;
    }
call_holds None name st read e text good = held_given (g.is_full name) _ _
    (λ full. open_holds g.call (g.calling name) st read (t.Name name ∷ []) t.LeftParenthesis text refl good
    (and_from (g.is_full name) _ full (ap is_none e)) (lit≤ tt) (le_trans (place_most st good) (lit≤ tt)))

axis_holds : (found : Option Axis) (name : Name) (st : Stack) (read : List Token) → g.axis_of name ≡ found → read ≡ stack_text st ++ t.Name name ∷ [] →
    GoodStack st
    → Held (m.axis_named trees found st) (read ++ t.DoubleColon ∷ [])
axis_holds None name st read e text good = tt
axis_holds (Some x) name st read e text good =
    record {
      text = same_stack read st (t.Name name ∷ []) _ t.DoubleColon text (ap (λ y. t.Name y ∷ t.DoubleColon ∷ []) (axis_is name x e));
      stack = good;
      mode = tt;
    }

step_stands : (form : AxisForm) (name : Name) (st : Stack) (read : List Token) → read ≡ stack_text st ++ (g.axis_tokens form ++ t.Name name ∷ []) → GoodStack st
    → Stands (g.leaf (g.step form (e.Name name))) st read
unfolding g.written g.Grammatical
step_stands form name st read text good = stands_have (g.leaf (g.step form (e.Name name))) st read text good refl (lit≤ tt)

named_holds : (token : Token) (name : Name) (st : Stack) (read : List Token) → read ≡ stack_text st ++ t.Name name ∷ [] → GoodStack st →
    Held (m.behind_name trees token name st) (read ++ token ∷ [])
named_holds t.LeftParenthesis name st read text good = call_holds (g.kind_of name) name st read refl text good
named_holds t.DoubleColon name st read text good = axis_holds (g.axis_of name) name st read refl text good
named_holds token name st read text good = primary_holds token (g.leaf (g.step w.Unwritten (e.Name name))) st read
    (step_stands w.Unwritten name st read text good) (lit≤ tt)

on_axis_holds : (token : Token) (form : AxisForm) (st : Stack) (read : List Token) → read ≡ stack_text st ++ g.axis_tokens form → GoodStack st →
    Held (m.behind_axis trees token form st) (read ++ token ∷ [])
on_axis_holds (t.Name name) form st read text good = record {
  text = same_stack read st (g.axis_tokens form) _ (t.Name name) text refl;
  stack = good;
  mode =
      tt;
}
on_axis_holds t.Star form st read text good = leaf_holds (g.step form e.Star) st _ (same_stack read st (g.axis_tokens form) _ t.Star text refl) good refl
    (lit≤ tt)
on_axis_holds _ form st read text good = tt

kind_on_holds : (found : Option KindTest) (form : AxisForm) (name : Name) (st : Stack) (read : List Token) → g.kind_of name ≡ found → read ≡ stack_text st ++
    (g.axis_tokens form ++ t.Name name ∷ []) → GoodStack st
    → Held (m.kind_on trees found form st) (read ++ t.LeftParenthesis ∷ [])
kind_on_holds None form name st read e text good = tt
kind_on_holds (Some x) form name st read e text good = record {
  text = same_stack read st (g.axis_tokens form ++ t.Name name ∷ []) _ t.LeftParenthesis text
      (append_assoc (g.axis_tokens form) (t.Name name ∷ []) (t.LeftParenthesis ∷ []) ∙
      ap (λ y. g.axis_tokens form ++ (t.Name y ∷ t.LeftParenthesis ∷ [])) (kind_is name x e));
  stack = good;
  mode = tt;
}

named_on_holds : (token : Token) (form : AxisForm) (name : Name) (st : Stack) (read : List Token) → read ≡ stack_text st ++
    (g.axis_tokens form ++ t.Name name ∷ []) → GoodStack st
    → Held (m.behind_named_on trees token form name st) (read ++ token ∷ [])
named_on_holds t.LeftParenthesis form name st read text good = kind_on_holds (g.kind_of name) form name st read refl text good
named_on_holds token form name st read text good = primary_holds token (g.leaf (g.step form (e.Name name))) st read (step_stands form name st read text good)
    (lit≤ tt)

kind_holds : (token : Token) (form : AxisForm) (x : KindTest) (st : Stack) (read : List Token) → read ≡ stack_text st ++
    (g.axis_tokens form ++ (t.Name (n.Plain (g.kind_word x)) ∷ t.LeftParenthesis ∷ [])) → GoodStack st
    → Held (m.behind_kind trees token form x st) (read ++ token ∷ [])
kind_holds t.RightParenthesis form x st read text good = leaf_holds (g.step form (e.Kind x)) st _ (same_stack read st _ _ t.RightParenthesis text
    (append_assoc (g.axis_tokens form) (t.Name (n.Plain (g.kind_word x)) ∷ t.LeftParenthesis ∷ []) (t.RightParenthesis ∷ []))) good refl (lit≤ tt)
kind_holds _ form x st read text good = tt

-- Words in a row

bind_holds : (token : Token) (binder : Binder) (lead : Option Binder) (parts : Parts) (st : Stack) (read : List Token) →
    Holds (at (m.bind binder lead parts) st) read → Held (m.behind_bind trees token binder lead parts st) (read ++ token ∷ [])
bind_holds t.Dollar binder lead parts st read h =
    record {
      text = same_stack read st _ _ t.Dollar h.text (append_assoc (g.parts_written parts) (g.lead_token lead ∷ []) (t.Dollar ∷ []));
      stack = h.stack;
      mode = h.mode;
    }
bind_holds _ binder lead parts st read h = tt

bind_dollar_holds : (token : Token) (binder : Binder) (lead : Option Binder) (parts : Parts) (st : Stack) (read : List Token) →
    Holds (at (m.bind_dollar binder lead parts) st) read
    → Held (m.behind_bind_dollar trees token binder lead parts st) (read ++ token ∷ [])
bind_dollar_holds (t.Name name) binder lead parts st read h = held_given (g.is_full name) _ _ (λ full. record {
  text = same_stack read st _ _ (t.Name name) h.text (append_assoc (g.parts_written parts) (g.lead_token lead ∷ t.Dollar ∷ []) (t.Name name ∷ []));
  stack = h.stack;
  mode = (h.mode.0 name full, h.mode.1);
})
bind_dollar_holds _ binder lead parts st read h = tt

bind_name_holds : (token : Token) (binder : Binder) (lead : Option Binder) (parts : Parts) (name : Name) (st : Stack) (read : List Token) →
    Holds (at (m.bind_name binder lead parts name) st) read
    → Held (m.behind_bind_name trees token binder lead parts name st) (read ++ token ∷ [])
unfolding GoodStack
bind_name_holds (t.Operator o.In) binder lead parts name st read h = record {
  text = opened_text read st _ (g.bound binder) parts (g.binding lead name) (t.Operator o.In) h.text
      (append_assoc (g.parts_written parts) (g.lead_token lead ∷ t.Dollar ∷ t.Name name ∷ []) (t.Operator o.In ∷ []));
  stack = (h.mode.0, lit≤ tt, h.mode.1, h.stack);
  mode = tt;
}
bind_name_holds (t.Operator _) binder lead parts name st read h = tt
bind_name_holds _ binder lead parts name st read h = tt

if_holds : (token : Token) (st : Stack) (read : List Token) → Holds (at m.if_ st) read → Held (m.behind_if trees token st) (read ++ token ∷ [])
if_holds t.LeftParenthesis st read h = open_holds g.conditional g.condition st read (t.Keyword k.If ∷ []) t.LeftParenthesis h.text refl h.stack refl
    (lit≤ tt) h.mode
if_holds _ st read h = tt

decided_holds : (token : Token) (parts : Parts) (st : Stack) (read : List Token) → Holds (at (m.decided parts) st) read →
    Held (m.behind_decided trees token parts st) (read ++ token ∷ [])
unfolding GoodStack
decided_holds (t.Operator o.Then) parts st read h = record {
  text = opened_text read st _ g.conditional parts g.then_ (t.Operator o.Then) h.text
      (append_assoc (g.parts_written parts) (t.RightParenthesis ∷ []) (t.Operator o.Then ∷ []));
  stack = (h.mode.0, lit≤ tt, h.mode.1, h.stack);
  mode = tt;
}
decided_holds (t.Operator _) parts st read h = tt
decided_holds _ parts st read h = tt

casting_holds : (token : Token) (word : CastWord) (v : Tree) (st : Stack) (read : List Token) → Holds (at (m.casting word v) st) read →
    Held (m.behind_casting trees token word v st) (read ++ token ∷ [])
casting_holds (t.Operator o.As) word v st read h =
    record {
      text = same_stack read st _ _ (t.Operator o.As) h.text
          (append_assoc (g.written v) (t.Operator (g.cast_operator word) ∷ []) (t.Operator o.As ∷ []));
      stack = h.stack;
      mode = h.mode;
    }
casting_holds (t.Operator _) word v st read h = tt
casting_holds _ word v st read h = tt

cast_as_holds : (token : Token) (word : CastWord) (v : Tree) (st : Stack) (read : List Token) → Holds (at (m.cast_as word v) st) read →
    Held (m.behind_cast_as trees token word v st) (read ++ token ∷ [])
cast_as_holds (t.Name name) word v st read h = held_given (g.is_full name) _ _ (λ full. record {
  text = same_stack read st _ _ (t.Name name) h.text (append_assoc (g.written v) (t.Operator (g.cast_operator word) ∷ t.Operator o.As ∷ []) (t.Name name ∷ []));
  stack = h.stack;
  mode = (h.mode.0, h.mode.1, h.mode.2, full);
})
cast_as_holds _ word v st read h = tt

-- a cast that is complete
cast_stands : (word : CastWord) (type : Name) (optional : Bool) (v : Tree) (st : Stack) (read : List Token) → read ≡ stack_text st ++
    (g.written v ++ (t.Operator (g.cast_operator word) ∷ t.Operator o.As ∷ t.Name type ∷ g.question optional))
    → GoodStack st → g.Grammatical v → g.rank_of_cast word < g.rank v → m.place st ≤ g.rank_of_cast word → g.is_full type ≡ true →
    Stands (m.cast_node trees word type optional v) st read
unfolding g.written g.Grammatical m.append
cast_stands word type optional v st read text good ok tight place full = record {
  text = text ∙ ap (λ l. stack_text st ++ (l ++ (t.Operator (g.cast_operator word) ∷ t.Operator o.As ∷ t.Name type ∷ g.question optional)))
      (sym (append-nil (g.written v)));
  stack = good;
  value = (full, tight, ok, refl);
  place = place;
}

typed_holds : (token : Token) (word : CastWord) (v : Tree) (type : Name) (st : Stack) (read : List Token) → Holds (at (m.typed word v type) st) read →
    Held (m.behind_typed trees token word v type st) (read ++ token ∷ [])
typed_holds t.Question word v type st read h = let stands : Stands (m.cast_node trees word type true v) st (read ++ t.Question ∷ []) =
    cast_stands word type true v st _
    (same_stack read st _ _ t.Question h.text (append_assoc (g.written v) (t.Operator (g.cast_operator word) ∷ t.Operator o.As ∷ t.Name type ∷ [])
    (t.Question ∷ []))) h.stack h.mode.0 h.mode.1 h.mode.2 h.mode.3 in
    record { text = stands.text; stack = h.stack; mode = (stands.value, le_refl (g.rank_of_cast word), h.mode.2) }
typed_holds token word v type st read h = behind_holds token (g.rank_of_cast word) (m.cast_node trees word type false v) st read
    (cast_stands word type false v st read h.text h.stack h.mode.0 h.mode.1 h.mode.2 h.mode.3) (le_refl (g.rank_of_cast word))

-- The machine

step_holds : (token : Token) (mode : Mode Tree Parts) (st : Stack) (read : List Token) → Holds (at mode st) read →
    Held (m.step_in trees token mode st) (read ++ token ∷ [])
step_holds token m.want st read h = wanted_holds token st read h.text h.stack
step_holds token m.slash st read h = behind_slash_holds (m.begins_step token) token st read h.text h.stack h.mode
step_holds token m.dollar st read h = dollar_holds token st read h.text h.stack
step_holds token (m.named name) st read h = named_holds token name st read h.text h.stack
step_holds token (m.on_axis form) st read h = on_axis_holds token form st read h.text h.stack
step_holds token (m.named_on form name) st read h = named_on_holds token form name st read h.text h.stack
step_holds token (m.kind form x) st read h = kind_holds token form x st read h.text h.stack
step_holds token (m.have v) st read h = primary_holds token v st read (stands_have v st read h.text h.stack h.mode.0 h.mode.1) h.mode.1
step_holds token (m.filtered parts) st read h = filter_holds token parts st read h.text h.stack h.mode
step_holds token (m.whole rank v) st read h = behind_holds token rank v st read (record { text = h.text; stack = h.stack; value = h.mode.0; place = h.mode.2 })
    h.mode.1
step_holds token (m.bind binder lead parts) st read h = bind_holds token binder lead parts st read h
step_holds token (m.bind_dollar binder lead parts) st read h = bind_dollar_holds token binder lead parts st read h
step_holds token (m.bind_name binder lead parts name) st read h = bind_name_holds token binder lead parts name st read h
step_holds token m.if_ st read h = if_holds token st read h
step_holds token (m.decided parts) st read h = decided_holds token parts st read h
step_holds token (m.casting word v) st read h = casting_holds token word v st read h
step_holds token (m.cast_as word v) st read h = cast_as_holds token word v st read h
step_holds token (m.typed word v type) st read h = typed_holds token word v type st read h

empty_holds : Holds (at m.want []) []
unfolding stack_text GoodStack
empty_holds = record { text = refl; stack = tt; mode = tt }

-- the value, if one stands alone, is spelled by what was read
abbrev Spelled : Option Tree → List Token → Type 0
Spelled None read = Unit {0}
Spelled (Some x) read = g.Spells read x

spelled_alone : (x : Tree) {read : List Token} → Stands x [] read → g.Spells read x
unfolding stack_text
spelled_alone x stands = record { text = stands.text; grammatical = stands.value }

alone_spelled : (v : Tree) (st : Stack) (read : List Token) → Stands v st read → Spelled (m.alone trees (m.close trees 0 v st)) read
alone_spelled v st read stands = by (m.close trees 0 v st).0 (m.close trees 0 v st).1 (closes_left 0 v st read stands (rank_pos v)).stands where
  by : (x : Tree) (st : Stack) → Stands x st read → Spelled (m.alone trees (x, st)) read
  by x [] stands = spelled_alone x stands
  by x (fr ∷ st) stands = tt

ended_spelled : (mode : Mode Tree Parts) (st : Stack) (read : List Token) → Holds (at mode st) read → Spelled (m.ended_in trees mode st) read
unfolding g.written g.Grammatical
ended_spelled m.slash st read h = alone_spelled (g.leaf g.root) st read (record { text = h.text; stack = h.stack; value = refl; place = h.mode })
ended_spelled (m.named name) st read h = alone_spelled _ st read (step_stands w.Unwritten name st read h.text h.stack)
ended_spelled (m.named_on form name) st read h = alone_spelled _ st read (step_stands form name st read h.text h.stack)
ended_spelled (m.have v) st read h = alone_spelled v st read (stands_have v st read h.text h.stack h.mode.0 h.mode.1)
ended_spelled (m.filtered parts) st read h = alone_spelled (g.node g.filter parts) st read
    (record { text = h.text; stack = h.stack; value = h.mode.1; place = h.mode.2 })
ended_spelled (m.whole rank v) st read h = alone_spelled v st read (record { text = h.text; stack = h.stack; value = h.mode.0; place = h.mode.2 })
ended_spelled (m.typed word v type) st read h = alone_spelled _ st read
    (cast_stands word type false v st read h.text h.stack h.mode.0 h.mode.1 h.mode.2 h.mode.3)
ended_spelled _ st read h = tt

run_spelled : (tokens : List Token) (s : S) (read : List Token) → Holds s read → Spelled (m.run trees tokens s) (read ++ tokens)
unfolding m.run
run_spelled [] s read h = subst (Spelled (m.ended trees s)) (sym (append-nil read)) (ended_spelled s.mode s.stack read h)
run_spelled (token ∷ tokens) s read h = by (m.step trees token s) (step_holds token s.mode s.stack read h)
    (λ next held. run_spelled tokens next (read ++ token ∷ []) held) where
      by : (found : Option S) → Held found (read ++ token ∷ []) →
          ((next : S) → Holds next (read ++ token ∷ []) → Spelled (m.run trees tokens next) ((read ++ token ∷ []) ++ tokens))
          → Spelled (elim found as (λ _. Option Tree) [ None ↦ None | Some next ↦ m.run trees tokens next ]) (read ++ token ∷ tokens)
      by None held later = tt
      by (Some next) held later = subst (Spelled (m.run trees tokens next)) (append_assoc read (token ∷ []) tokens) (later next held)

pub tree_spelled : (tokens : List Token) (x : Tree) → m.tree_of tokens ≡ Some x → g.Spells tokens x
tree_spelled tokens x e = subst (λ found. Spelled found tokens) e (run_spelled tokens (at m.want []) [] begins) where
  begins : Holds (at m.want []) []
  begins = empty_holds
