-- What the machine's states hold: the tokens that were read, and parts that stand where they may.
use Rattle.std.proofs.Common.{inl, inr, ◌≡◌, ℕ, Bool, true, false, ◌≤◌, ◌<◌, List, [], ◌∷◌, ◌++◌, Option, Some, None, IsTrue, refl, sym, ap, ◌∙◌, subst, arith}
use Rattle.std.proofs.Common.{ltb-true, lit≤, append_assoc, append-nil}
use Rattle.std.proofs.lemmas.Bool.{and_parts, false≢true, cases_Bool}
use Rattle.xpath_tokens.specs.declared.token.Operator.TheVariants as o
use Rattle.xpath_tokens.specs.declared.token.Keyword.TheVariants as k
use Rattle.xpath_tokens.specs.declared.token.Name.{Name}
use Rattle.xpath_tokens.specs.declared.token.Name.TheVariants as n
use Rattle.xpath_tokens.specs.declared.token.Token.{Token}
use Rattle.xpath_tokens.specs.declared.token.Token.TheVariants as t
use Rattle.xpath_grammar.specs.Grammar as g
use Rattle.xpath_grammar.specs.Grammar.{Leaf, Form, Label, Tree, Parts}
use Rattle.xpath_grammar.specs.Machine as m
use Rattle.xpath_grammar.specs.Machine.{Frame, Mode, State, open_, trees, at}
use Rattle.xpath_grammar.proofs.Facts.{rank_below_path, written_append}
use Rattle.xpath_grammar.proofs.Closing.{Stack, S, and_then, close-goes, close-stays}

-- The tokens that were read

unfoldable pub stack_text : Stack → List Token
stack_text [] = []
stack_text (open_ form parts label ∷ st) = stack_text st ++ (g.parts_written parts ++ g.label_tokens label)

abbrev pub mode_text : Mode Tree Parts → List Token
mode_text m.want = []
mode_text m.slash = t.Operator o.Slash ∷ []
mode_text m.dollar = t.Dollar ∷ []
mode_text (m.named name) = t.Name name ∷ []
mode_text (m.on_axis form) = g.axis_tokens form
mode_text (m.named_on form name) = g.axis_tokens form ++ t.Name name ∷ []
mode_text (m.kind form x) = g.axis_tokens form ++ (t.Name (n.Plain (g.kind_word x)) ∷ t.LeftParenthesis ∷ [])
mode_text (m.have v) = g.written v
mode_text (m.filtered parts) = g.parts_written parts ++ t.RightBracket ∷ []
mode_text (m.whole rank v) = g.written v
mode_text (m.bind binder lead parts) = g.parts_written parts ++ g.lead_token lead ∷ []
mode_text (m.bind_dollar binder lead parts) = g.parts_written parts ++ (g.lead_token lead ∷ t.Dollar ∷ [])
mode_text (m.bind_name binder lead parts name) = g.parts_written parts ++ (g.lead_token lead ∷ t.Dollar ∷ t.Name name ∷ [])
mode_text m.if_ = t.Keyword k.If ∷ []
mode_text (m.decided parts) = g.parts_written parts ++ t.RightParenthesis ∷ []
mode_text (m.casting word v) = g.written v ++ t.Operator (g.cast_operator word) ∷ []
mode_text (m.cast_as word v) = g.written v ++ (t.Operator (g.cast_operator word) ∷ t.Operator o.As ∷ [])
mode_text (m.typed word v type) = g.written v ++ (t.Operator (g.cast_operator word) ∷ t.Operator o.As ∷ t.Name type ∷ [])

-- Parts that stand where they may, with a label behind them

unfoldable pub Leads : Form → Option Label → Parts → Label → Type 0
Leads form before g.none label = IsTrue (g.follows form before label)
Leads form before (g.more next x parts) label = IsTrue (g.follows form before next) × (g.place form next ≤ g.rank x) × g.Grammatical x ×
    Leads form (Some next) parts label

pub leads_more : (form : Form) (before : Option Label) (parts : Parts) (label next : Label) (x : Tree) → Leads form before parts label →
    g.place form label ≤ g.rank x → g.Grammatical x → g.goes_on form label next ≡ true
    → Leads form before (and_then parts label x) next
unfolding Leads m.append
leads_more form before g.none label next x leads tight ok h = (leads, tight, ok, h)
leads_more form before (g.more l y parts) label next x leads tight ok h =
    (leads.0, leads.1, leads.2, leads_more form (Some l) parts label next x leads.3 tight ok h)

pub leads_done : (form : Form) (before : Option Label) (parts : Parts) (label : Label) (x : Tree) → Leads form before parts label →
    g.place form label ≤ g.rank x → g.Grammatical x → g.ends form label ≡ true
    → g.Runs form before (and_then parts label x)
unfolding Leads m.append g.Grammatical
leads_done form before g.none label x leads tight ok h = (leads, tight, ok, h)
leads_done form before (g.more l y parts) label x leads tight ok h = (leads.0, leads.1, leads.2, leads_done form (Some l) parts label x leads.3 tight ok h)

pub place_going_on : (form : Form) (before label : Label) → g.goes_on form before label ≡ true → g.place form label ≤ 15
place_going_on (g.chain production) before label h = let l : g.rank_of production ≤ 14 = rank_below_path production in omega arith
place_going_on (g.bound binder) before label h = lit≤ tt
place_going_on g.conditional before g.condition h = lit≤ tt
place_going_on g.conditional before _ h = lit≤ tt
place_going_on (g.cast word type optional) before label h = absurd (false≢true h)
place_going_on g.signs before label h = absurd (false≢true h)
place_going_on g.filter before g.predicate h = lit≤ tt
place_going_on g.filter before g.again h = lit≤ tt
place_going_on g.filter g.first _ h = absurd (false≢true h)
place_going_on g.filter g.predicate _ h = absurd (false≢true h)
place_going_on g.filter g.again _ h = absurd (false≢true h)
place_going_on g.filter _ _ h = absurd (false≢true h)
place_going_on g.parens before label h = absurd (false≢true h)
place_going_on g.call before label h = lit≤ tt

-- States

unfoldable pub GoodStack : Stack → Type 0
GoodStack [] = Unit {0}
GoodStack (open_ form parts label ∷ st) = Leads form None parts label × (g.place form label ≤ 15) × (m.place st ≤ g.rank_of_form form) × GoodStack st

pub place_most : (st : Stack) → GoodStack st → m.place st ≤ 15
unfolding GoodStack
place_most [] good = lit≤ tt
place_most (open_ form parts label ∷ st) good = good.1

abbrev pub GoodMode : Mode Tree Parts → Stack → Type 0
GoodMode m.slash st = m.place st ≤ 14
GoodMode (m.have v) st = g.Grammatical v × (16 ≤ g.rank v)
GoodMode (m.filtered parts) st = Leads g.filter None parts g.again × g.Runs g.filter None parts × (m.place st ≤ 15)
GoodMode (m.whole rank v) st = g.Grammatical v × (rank ≤ g.rank v) × (m.place st ≤ g.rank v)
GoodMode (m.bind binder lead parts) st = ((name : Name) → g.is_full name ≡ true → Leads (g.bound binder) None parts (g.binding lead name)) × (m.place st ≤ 2)
GoodMode (m.bind_dollar binder lead parts) st = ((name : Name) → g.is_full name ≡ true → Leads (g.bound binder) None parts (g.binding lead name)) ×
    (m.place st ≤ 2)
GoodMode (m.bind_name binder lead parts name) st = Leads (g.bound binder) None parts (g.binding lead name) × (m.place st ≤ 2)
GoodMode m.if_ st = m.place st ≤ 2
GoodMode (m.decided parts) st = Leads g.conditional None parts g.then_ × (m.place st ≤ 2)
GoodMode (m.casting word v) st = g.Grammatical v × (g.rank_of_cast word < g.rank v) × (m.place st ≤ g.rank_of_cast word)
GoodMode (m.cast_as word v) st = g.Grammatical v × (g.rank_of_cast word < g.rank v) × (m.place st ≤ g.rank_of_cast word)
GoodMode (m.typed word v type) st = g.Grammatical v × (g.rank_of_cast word < g.rank v) × (m.place st ≤ g.rank_of_cast word) × (g.is_full type ≡ true)
GoodMode _ st = Unit {0}

pub record Holds (s : S) (read : List Token) : Type 0 where
  pub text : read ≡ stack_text s.stack ++ mode_text s.mode
  pub stack : GoodStack s.stack
  pub mode : GoodMode s.mode s.stack

-- where there is a next state, it holds the tokens
abbrev pub Held : Option S → List Token → Type 0
Held None read = Unit {0}
Held (Some s) read = Holds s read

pub held_given : (b : Bool) (s : S) (read : List Token) → (b ≡ true → Holds s read) → Held (m.given b s) read
held_given true s read h = h refl
held_given false s read h = tt

-- a value on the stack
pub record Stands (v : Tree) (st : Stack) (read : List Token) : Type 0 where
  pub text : read ≡ stack_text st ++ g.written v
  pub stack : GoodStack st
  pub value : g.Grammatical v
  pub place : m.place st ≤ g.rank v

-- a form with its last part
pub stands_node : (form : Form) (parts : Parts) (label : Label) (v : Tree) (st : Stack) (read : List Token) → Stands v (open_ form parts label ∷ st) read →
    g.ends form label ≡ true → g.closing form ≡ []
    → Stands (g.node form (and_then parts label v)) st read
unfolding stack_text GoodStack g.written g.Grammatical
stands_node form parts label v st read stands last closing = record {
  text = stands.text ∙ (append_assoc (stack_text st) (g.parts_written parts ++ g.label_tokens label) (g.written v) ∙ ap (λ l. stack_text st ++ l)
      (append_assoc (g.parts_written parts) (g.label_tokens label) (g.written v) ∙
      sym (ap (λ l. g.parts_written (and_then parts label v) ++ l) closing ∙ append-nil (g.parts_written (and_then parts label v)) ∙
      written_append parts (g.more label v g.none) ∙ ap (λ l. g.parts_written parts ++ (g.label_tokens label ++ l)) (append-nil (g.written v)))));
  stack = stands.stack.3;
  value = leads_done form None parts label v stands.stack.0 stands.place stands.value last;
  place = stands.stack.2;
}

-- what closing leaves
pub record Left (rank : ℕ) (closed : Tree × Stack) (read : List Token) : Type 0 where
  pub stands : Stands closed.0 closed.1 read
  pub tight : rank < g.rank closed.0

closing_none : (form : Form) → m.is_open_ended form ≡ true → g.closing form ≡ []
closing_none (g.chain production) h = refl
closing_none (g.bound binder) h = refl
closing_none g.conditional h = refl
closing_none g.signs h = refl
closing_none _ h = absurd (false≢true h)

pub closes_left : (rank : ℕ) (v : Tree) (st : Stack) (read : List Token) → Stands v st read → rank < g.rank v → Left rank (m.close trees rank v st) read
unfolding m.close
closes_left rank v [] read stands tight = record { stands = stands; tight = tight }
closes_left rank v (open_ form parts label ∷ st) read stands tight = elim (cases_Bool (m.is_closed rank form label)) [
  | inl e ↦ subst (λ x. Left rank x read) (sym (close-goes rank v form parts label st e))
      (closes_left rank (g.node form (and_then parts label v)) st read
      (stands_node form parts label v st read stands (and_parts _ _ (and_parts _ _ e).0).1 (closing_none form (and_parts _ _ (and_parts _ _ e).0).0))
      (ltb-true rank (g.rank_of_form form) (and_parts _ _ e).1))
  | inr e ↦ subst (λ x. Left rank x read) (sym (close-stays rank v form parts label st e)) (record { stands = stands; tight = tight })
]
