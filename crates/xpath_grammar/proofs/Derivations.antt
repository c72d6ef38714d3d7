-- The productions say the same as what a tree writes and where its parts may stand.
use Rattle.std.proofs.Common.{◌≡◌, ℕ, suc, Bool, true, false, not, ◌||◌, ◌≤◌, List, [], ◌∷◌, ◌++◌, Option, Some, None, IsTrue, refl, sym, ap, ◌∙◌, subst, lit≤}
use Rattle.std.proofs.Common.{le_trans, le_refl, map, append_assoc, append-nil}
use Rattle.std.proofs.lemmas.Bool.{and_from, and_parts, false≢true}
use Rattle.xpath_tokens.specs.declared.token.Operator.{Operator}
use Rattle.xpath_tokens.specs.declared.token.Operator.TheVariants as o
use Rattle.xpath_tokens.specs.declared.token.Keyword.TheVariants as k
use Rattle.xpath_tokens.specs.declared.token.Name.{Name}
use Rattle.xpath_tokens.specs.declared.token.Token.{Token}
use Rattle.xpath_tokens.specs.declared.token.Token.TheVariants as t
use Rattle.xpath_grammar.specs.declared.operators.Production.{Production}
use Rattle.xpath_grammar.specs.declared.operators.Production.TheVariants as p
use Rattle.xpath_grammar.specs.declared.operators.Binder.{Binder}
use Rattle.xpath_grammar.specs.declared.operators.Binder.TheVariants as b
use Rattle.xpath_grammar.specs.Grammar as g
use Rattle.xpath_grammar.specs.Grammar.{Leaf, Form, Label, Tree, Parts}
use Rattle.xpath_grammar.specs.Productions as r
use Rattle.xpath_grammar.specs.Productions.{Is, Operands, Arguments, Predicates, Bindings}
use Rattle.xpath_grammar.proofs.Facts.{joins_rank}

-- what a derivation says of its tree
pub record Sound (rank : ℕ) (tokens : List Token) (x : Tree) : Type 0 where
  pub text : tokens ≡ g.written x
  pub grammatical : g.Grammatical x
  pub tight : rank ≤ g.rank x

-- a part and what stands behind it
pub join : (ps c : List Token) {a b w : List Token} → a ≡ w → b ≡ ps ++ c → a ++ b ≡ (w ++ ps) ++ c
join ps c {a} {b} {w} e f = ap (λ l. l ++ b) e ∙ ap (λ l. w ++ l) f ∙ sym (append_assoc w ps c)

join_label : (l m c : List Token) {b : List Token} → b ≡ m ++ c → l ++ b ≡ (l ++ m) ++ c
join_label l m c {b} e = ap (λ x. l ++ x) e ∙ sym (append_assoc l m c)

last_text : {a w : List Token} → a ≡ w → a ≡ (w ++ []) ++ []
last_text {a} {w} e = e ∙ sym (append-nil w) ∙ sym (append-nil (w ++ []))

same_self : (x : Binder) → g.is_same_binder x x ≡ true
same_self b.For = refl
same_self b.Some = refl
same_self b.Every = refl

joined_not_first : (production : Production) (label : Label) → g.joins production label ≡ true → g.is_first label ≡ false
joined_not_first production g.first h = absurd (false≢true h)
joined_not_first production _ h = refl

behind_first : (production : Production) (label : Label) → g.joins production label ≡ true → g.goes_on (g.chain production) g.first label ≡ true
behind_first production label h = and_from (g.joins production label) _ h (either (g.is_single production)) where
  either : (x : Bool) → (not x || true) ≡ true
  either true = refl
  either false = refl

many_go_on : (production : Production) (before label : Label) → g.joins production label ≡ true → g.is_single production ≡ false →
    g.goes_on (g.chain production) before label ≡ true
many_go_on production before label h many = and_from (g.joins production label) _ h (ap (λ x. not x || g.is_first before) many)

ends_behind : (production : Production) (label : Label) → g.joins production label ≡ true → g.ends (g.chain production) label ≡ true
ends_behind production label h = ap not (joined_not_first production label h)

cases : (x : Bool) {P : Type 0} → (x ≡ true → P) → (x ≡ false → P) → P
cases true f g = f refl
cases false f g = g refl

pub record SoundOperands (production : Production) (tokens : List Token) (xs : Parts) : Type 0 where
  pub text : tokens ≡ g.parts_written xs ++ []
  pub runs : (before : Label) → g.joins production before ≡ true → g.is_single production ≡ false → g.Runs (g.chain production) (Some before) xs

pub record SoundArguments (tokens : List Token) (xs : Parts) : Type 0 where
  pub text : tokens ++ t.RightParenthesis ∷ [] ≡ g.parts_written xs ++ t.RightParenthesis ∷ []
  pub runs : (before : Label) → g.Runs g.call (Some before) xs

pub record SoundPredicates (tokens : List Token) (xs : Parts) : Type 0 where
  pub text : t.RightBracket ∷ tokens ≡ g.parts_written xs ++ t.RightBracket ∷ []
  pub first : g.Runs g.filter (Some g.predicate) xs
  pub more : g.Runs g.filter (Some g.again) xs

pub record SoundBindings (binder : Binder) (tokens : List Token) (xs : Parts) : Type 0 where
  pub text : tokens ≡ g.parts_written xs ++ []
  pub runs : (lead : Option Binder) (name : Name) → g.Runs (g.bound binder) (Some (g.binding lead name)) xs

chain_runs : (production : Production) (label : Label) (xs : Parts) → g.joins production label ≡ true → (IsTrue (g.is_single production) → xs ≡ g.none)
    → (g.is_single production ≡ false → g.Runs (g.chain production) (Some label) xs) → g.Runs (g.chain production) (Some label) xs
unfolding g.Grammatical
chain_runs production label xs joins one many = cases (g.is_single production)
    (λ h. subst (λ l. g.Runs (g.chain production) (Some label) l) (sym (one h)) (ends_behind production label joins)) many

leaf_sound : (tokens : List Token) (x : Leaf) → tokens ≡ g.leaf_tokens x → g.fits x ≡ true → 16 ≤ g.rank_of_leaf x → Sound 16 tokens (g.leaf x)
unfolding g.written g.Grammatical
leaf_sound tokens x e h high = record { text = e; grammatical = h; tight = high }

mutual
  unfolding g.written g.Grammatical

  pub derived : {rank : ℕ} {tokens : List Token} {x : Tree} → Is rank tokens x → Sound rank tokens x
  derived (r.as_is loose tight a x h d) = let s : Sound tight a x = derived d in
      record { text = s.text; grammatical = s.grammatical; tight = le_trans h s.tight }
  derived (r.a_literal s) = leaf_sound _ (g.literal s) refl refl (lit≤ tt)
  derived (r.a_number x) = leaf_sound _ (g.number x) refl refl (lit≤ tt)
  derived (r.a_variable name h) = leaf_sound _ (g.variable name) refl h (lit≤ tt)
  derived r.nothing = leaf_sound _ g.empty refl refl (lit≤ tt)
  derived (r.in_parentheses a x d) = let s : Sound r.expr a x = derived d in
      record {
        text = ap (λ l. t.LeftParenthesis ∷ (l ++ t.RightParenthesis ∷ [])) (s.text ∙ sym (append-nil (g.written x)));
        grammatical =
            (refl, s.tight, s.grammatical, refl);
        tight = lit≤ tt;
      }
  derived r.the_context = leaf_sound _ g.context refl refl (lit≤ tt)
  derived (r.a_call_of_none name h) = leaf_sound _ (g.called name) refl h (lit≤ tt)
  derived (r.a_call name a b x xs h d args) = let s : Sound r.single a x = derived d in let u : SoundArguments b xs = derived_arguments args in
      record {
        text = ap (λ l. t.Name name ∷ t.LeftParenthesis ∷ l) (join (g.parts_written xs) (t.RightParenthesis ∷ []) s.text u.text);
        grammatical =
            (h, s.tight, s.grammatical, u.runs (g.calling name));
        tight = lit≤ tt;
      }
  derived (r.a_step axis test) = leaf_sound _ (g.step axis test) refl refl (lit≤ tt)
  derived r.the_parent = leaf_sound _ g.parent refl refl (lit≤ tt)
  derived (r.filtered a b c x y xs d d2 ps) = let s : Sound r.primary a x = derived d in let s2 : Sound r.expr b y = derived d2 in
      let u : SoundPredicates c xs = derived_predicates ps in
      record {
        text = join (t.LeftBracket ∷ (g.written y ++ g.parts_written xs)) (t.RightBracket ∷ []) s.text
            (ap (λ l. t.LeftBracket ∷ l) (join (g.parts_written xs) (t.RightBracket ∷ []) s2.text u.text));
        grammatical =
            (refl, s.tight, s.grammatical, (refl, s2.tight, s2.grammatical, u.first));
        tight = lit≤ tt;
      }
  derived r.the_root = record { text = refl; grammatical = refl; tight = lit≤ tt }
  derived (r.from_root operator a b x xs h d ops) = let s : Sound r.step a x = derived d in let u : SoundOperands p.Path b xs = derived_operands ops in
      record {
        text = ap (λ l. t.Operator operator ∷ l) (join (g.parts_written xs) [] s.text u.text);
        grammatical = (ap (g.is_production p.Path) h, s.tight, s.grammatical, u.runs (g.link operator) (ap (g.is_production p.Path) h) refl);
        tight = lit≤ tt;
      }
  derived (r.with_signs sign signs a x h d) = let s : Sound r.path a x = derived d in
      record {
        text = join_label (map t.Operator (sign ∷ signs)) (g.written x ++ []) [] (last_text s.text);
        grammatical = (h, s.tight, s.grammatical, refl);
        tight = lit≤ tt;
      }
  derived (r.a_cast word type optional a x h d) = let s : Sound (suc (g.rank_of_cast word)) a x = derived d in
      record {
        text = ap (λ l. l ++ (t.Operator (g.cast_operator word) ∷ t.Operator o.As ∷ t.Name type ∷ g.question optional))
            (s.text ∙ sym (append-nil (g.written x)));
        grammatical = (h, s.tight, s.grammatical, refl);
        tight = le_refl (g.rank_of_cast word);
      }
  derived (r.a_chain production label a b c x y xs d joins d2 ops one) = let s : Sound (suc (g.rank_of production)) a x = derived d in
      let s2 : Sound (suc (g.rank_of production)) b y = derived d2 in
      let u : SoundOperands production c xs = derived_operands ops in
      record {
        text = join (g.label_tokens label ++ (g.written y ++ g.parts_written xs)) [] s.text
            (join_label (g.label_tokens label) (g.written y ++ g.parts_written xs) [] (join (g.parts_written xs) [] s2.text u.text));
        grammatical = (
          refl,
          s.tight,
          s.grammatical,
          (behind_first production label joins, s2.tight, s2.grammatical, chain_runs production label xs joins one (u.runs label joins)),
        );
        tight = le_refl (g.rank_of production);
      }
  derived (r.binds binder name a b x xs h d bs) = let s : Sound r.single a x = derived d in let u : SoundBindings binder b xs = derived_bindings bs in
      record {
        text = ap (λ l. t.Keyword (g.binder_keyword binder) ∷ t.Dollar ∷ t.Name name ∷ t.Operator o.In ∷ l) (join (g.parts_written xs) [] s.text u.text);
        grammatical = (and_from (g.is_same_binder binder binder) _ (same_self binder) h, s.tight, s.grammatical, u.runs (Some binder) name);
        tight = lit≤ tt;
      }
  derived (r.decides a b c x y z d d2 d3) = let s : Sound r.expr a x = derived d in let s2 : Sound r.single b y = derived d2 in let s3 : Sound r.single c z =
      derived d3 in
      record {
        text = ap (λ l. t.Keyword k.If ∷ t.LeftParenthesis ∷ l)
            (join (t.RightParenthesis ∷ t.Operator o.Then ∷ (g.written y ++ (t.Operator o.Else ∷ (g.written z ++ [])))) [] s.text
            (ap (λ l. t.RightParenthesis ∷ t.Operator o.Then ∷ l)
            (join (t.Operator o.Else ∷ (g.written z ++ [])) [] s2.text (ap (λ l. t.Operator o.Else ∷ l) (last_text s3.text)))));
        grammatical = (refl, s.tight, s.grammatical, (refl, s2.tight, s2.grammatical, (refl, s3.tight, s3.grammatical, refl)));
        tight = lit≤ tt;
      }

  derived_operands : {production : Production} {tokens : List Token} {xs : Parts} → Operands production tokens xs → SoundOperands production tokens xs
  derived_operands (r.no_operands production) = record { text = refl; runs = λ before joins many. ends_behind production before joins }
  derived_operands (r.an_operand production label a b x xs joins d ops) = let s : Sound (suc (g.rank_of production)) a x = derived d in
      let u : SoundOperands production b xs = derived_operands ops in
      record {
        text = join_label (g.label_tokens label) (g.written x ++ g.parts_written xs) [] (join (g.parts_written xs) [] s.text u.text);
        runs =
            λ before h many. (many_go_on production before label joins many, s.tight, s.grammatical, u.runs label joins many);
      }

  derived_arguments : {tokens : List Token} {xs : Parts} → Arguments tokens xs → SoundArguments tokens xs
  derived_arguments r.no_arguments = record { text = refl; runs = λ before. refl }
  derived_arguments (r.an_argument a b x xs d args) = let s : Sound r.single a x = derived d in let u : SoundArguments b xs = derived_arguments args in
      record {
        text = ap (λ l. t.Comma ∷ l) (append_assoc a b (t.RightParenthesis ∷ []) ∙ join (g.parts_written xs) (t.RightParenthesis ∷ []) s.text u.text);
        runs = λ before. (refl, s.tight, s.grammatical, u.runs g.comma);
      }

  derived_predicates : {tokens : List Token} {xs : Parts} → Predicates tokens xs → SoundPredicates tokens xs
  derived_predicates r.no_predicates = record { text = refl; first = refl; more = refl }
  derived_predicates (r.a_predicate a b x xs d ps) = let s : Sound r.expr a x = derived d in let u : SoundPredicates b xs = derived_predicates ps in
      record {
        text = ap (λ l. t.RightBracket ∷ t.LeftBracket ∷ l) (join (g.parts_written xs) (t.RightBracket ∷ []) s.text u.text);
        first =
            (refl, s.tight, s.grammatical, u.more);
        more = (refl, s.tight, s.grammatical, u.more);
      }

  derived_bindings : {binder : Binder} {tokens : List Token} {xs : Parts} → Bindings binder tokens xs → SoundBindings binder tokens xs
  derived_bindings (r.the_body binder word a x h d) = let s : Sound r.single a x = derived d in
      record { text = ap (λ l. t.Operator word ∷ l) (last_text s.text); runs = λ lead name. (h, s.tight, s.grammatical, refl) }
  derived_bindings (r.a_binding binder name a b x xs h d bs) = let s : Sound r.single a x = derived d in let u : SoundBindings binder b xs =
      derived_bindings bs in
      record {
        text = ap (λ l. t.Comma ∷ t.Dollar ∷ t.Name name ∷ t.Operator o.In ∷ l) (join (g.parts_written xs) [] s.text u.text);
        runs =
            λ lead other. (h, s.tight, s.grammatical, u.runs None name);
      }

-- predicates behind the first
pub record PredicatesOf (xs : Parts) : Type 0 where
  pub tokens : List Token
  pub derived : Predicates tokens xs
  pub text : t.RightBracket ∷ tokens ≡ g.parts_written xs ++ t.RightBracket ∷ []

abbrev pub in_predicates : Label → Bool
in_predicates g.predicate = true
in_predicates g.again = true
in_predicates _ = false

abbrev is_again : Label → Bool
is_again g.again = true
is_again _ = false

only_again : (before label : Label) → in_predicates before ≡ true → g.goes_on_filter before label ≡ true → is_again label ≡ true
only_again g.predicate g.again h i = refl
only_again g.again g.again h i = refl
only_again g.predicate _ h i = absurd (false≢true i)
only_again g.again _ h i = absurd (false≢true i)
only_again _ label h i = absurd (false≢true h)

-- And back: a tree whose parts stand where they may is derived

pub loosely : {tight : ℕ} {a : List Token} {x : Tree} (loose : ℕ) → loose ≤ tight → Is tight a x → Is loose a x
loosely {tight} {a} {x} loose h d = r.as_is loose tight a x h d

is_primary : {rank : ℕ} {a : List Token} {x : Tree} → 16 ≤ rank → Is rank a x → Is r.primary a x
is_primary h d = loosely 16 h d

pub is_text : {rank : ℕ} {a b : List Token} {x : Tree} → a ≡ b → Is rank a x → Is rank b x
is_text {rank} {a} {b} {x} e d = subst (λ l. Is rank l x) e d

leaf_derived : (x : Leaf) → g.fits x ≡ true → Is (g.rank_of_leaf x) (g.leaf_tokens x) (g.leaf x)
leaf_derived (g.literal s) h = r.a_literal s
leaf_derived (g.number x) h = r.a_number x
leaf_derived (g.variable name) h = r.a_variable name h
leaf_derived g.context h = r.the_context
leaf_derived g.parent h = r.the_parent
leaf_derived g.empty h = r.nothing
leaf_derived g.root h = r.the_root
leaf_derived (g.called name) h = r.a_call_of_none name h
leaf_derived (g.step axis test) h = r.a_step axis test

pub never : {P : Type 0} → false ≡ true → P
never h = absurd (false≢true h)

pub production_is : (production : Production) (found : Option Production) → g.is_production production found ≡ true → found ≡ Some production
production_is production None h = never h
production_is production (Some x) h = ap Some (sym (joins_rank production (Some x) x refl h))

-- behind a label that isn't the first, a production with one operator has no more
one_only : (production : Production) (before : Label) (xs : Parts) → g.joins production before ≡ true → g.Runs (g.chain production) (Some before) xs →
    IsTrue (g.is_single production) → xs ≡ g.none
unfolding g.Grammatical
one_only production before g.none joins runs one = refl
one_only production before (g.more label x xs) joins runs one =
    never (sym (more_than_one (g.is_single production) (g.is_first before) one (joined_not_first production before joins)) ∙ (and_parts _ _ runs.0).1) where
      more_than_one : (x y : Bool) → x ≡ true → y ≡ false → (not x || y) ≡ false
      more_than_one x y e f = ap (λ z. not z || y) e ∙ f

bound_derived : (binder word : Binder) (name : Name) (x : Tree) (xs : Parts) → g.is_same_binder binder word ≡ true → IsTrue (g.is_full name) →
    Is r.single (g.written x) x → Bindings binder (g.parts_written xs) xs
    → Is 2 (g.written (g.node (g.bound binder) (g.more (g.binding (Some word) name) x xs))) (g.node (g.bound binder) (g.more (g.binding (Some word) name) x xs))
unfolding g.written
bound_derived b.For b.For name x xs h full d bs = is_text (sym (append-nil _)) (r.binds b.For name (g.written x) (g.parts_written xs) x xs full d bs)
bound_derived b.Some b.Some name x xs h full d bs = is_text (sym (append-nil _)) (r.binds b.Some name (g.written x) (g.parts_written xs) x xs full d bs)
bound_derived b.Every b.Every name x xs h full d bs = is_text (sym (append-nil _)) (r.binds b.Every name (g.written x) (g.parts_written xs) x xs full d bs)
bound_derived _ _ name x xs h full d bs = never h

body_derived : (binder : Binder) (word : Operator) (x : Tree) → g.is_body_word binder word ≡ true → Is r.single (g.written x) x →
    Bindings binder (g.parts_written (g.more (g.link word) x g.none)) (g.more (g.link word) x g.none)
unfolding g.written
body_derived binder word x h d = subst (λ l. Bindings binder (t.Operator word ∷ l) (g.more (g.link word) x g.none)) (sym (append-nil (g.written x)))
    (r.the_body binder word (g.written x) x h d)

mutual
  unfolding g.written g.Grammatical

  pub is_derived : (x : Tree) → g.Grammatical x → Is (g.rank x) (g.written x) x
  is_derived (g.leaf x) ok = leaf_derived x ok
  is_derived (g.node form g.none) ok = never ok
  is_derived (g.node (g.chain production) (g.more g.first x g.none)) ok = never ok.3
  is_derived (g.node (g.chain production) (g.more g.first x (g.more label y xs))) ok = let joins : g.joins production label ≡ true = (and_parts _ _ ok.3.0).0 in
      is_text (sym (append-nil _))
      (r.a_chain production label (g.written x) (g.written y) (g.parts_written xs) x y xs (loosely (suc (g.rank_of production)) ok.1 (is_derived x ok.2)) joins
      (loosely (suc (g.rank_of production)) ok.3.1 (is_derived y ok.3.2)) (operands_derived xs production label joins ok.3.3)
      (one_only production label xs joins ok.3.3))
  is_derived (g.node (g.chain p.Path) (g.more (g.link operator) x xs)) ok =
      is_text (ap (λ l. t.Operator operator ∷ l) (sym (append-nil (g.written x ++ g.parts_written xs))))
      (r.from_root operator (g.written x) (g.parts_written xs) x xs (production_is p.Path (g.production_of operator) ok.0)
      (loosely r.step ok.1 (is_derived x ok.2)) (operands_derived xs p.Path (g.link operator) ok.0 ok.3))
  is_derived (g.node (g.chain _) (g.more _ x xs)) ok = never ok.0
  is_derived (g.node (g.bound binder) (g.more (g.binding (Some word) name) x xs)) ok =
      bound_derived binder word name x xs (and_parts _ _ ok.0).0 (and_parts _ _ ok.0).1 (loosely r.single ok.1 (is_derived x ok.2))
      (bindings_derived xs binder (Some word) name ok.3)
  is_derived (g.node (g.bound binder) (g.more _ x xs)) ok = never ok.0
  is_derived (g.node g.conditional (g.more g.condition x g.none)) ok = never ok.3
  is_derived (g.node g.conditional (g.more g.condition x (g.more g.then_ y g.none))) ok = never ok.3.3
  is_derived (g.node g.conditional (g.more g.condition x (g.more g.then_ y (g.more (g.link o.Else) z g.none)))) ok =
      is_text (ap (λ l. t.Keyword k.If ∷ t.LeftParenthesis ∷ (g.written x ++
      (t.RightParenthesis ∷ t.Operator o.Then ∷ (g.written y ++ (t.Operator o.Else ∷ l))))) (sym (append-nil (g.written z))) ∙ sym (append-nil _))
      (r.decides (g.written x) (g.written y) (g.written z) x y z (loosely r.expr ok.1 (is_derived x ok.2)) (loosely r.single ok.3.1 (is_derived y ok.3.2))
      (loosely r.single ok.3.3.1 (is_derived z ok.3.3.2)))
  is_derived (g.node g.conditional (g.more g.condition x (g.more g.then_ y (g.more (g.link o.Else) z (g.more label other zs))))) ok = never ok.3.3.3.0
  is_derived (g.node g.conditional (g.more g.condition x (g.more g.then_ y (g.more (g.link _) z zs)))) ok = never ok.3.3.0
  is_derived (g.node g.conditional (g.more g.condition x (g.more g.then_ y (g.more _ z zs)))) ok = never ok.3.3.0
  is_derived (g.node g.conditional (g.more g.condition x (g.more _ y ys))) ok = never ok.3.0
  is_derived (g.node g.conditional (g.more _ x xs)) ok = never ok.0
  is_derived (g.node (g.cast word type optional) (g.more g.first x g.none)) ok =
      is_text (ap (λ l. l ++ (t.Operator (g.cast_operator word) ∷ t.Operator o.As ∷ t.Name type ∷ g.question optional)) (sym (append-nil (g.written x))))
      (r.a_cast word type optional (g.written x) x ok.0 (loosely (suc (g.rank_of_cast word)) ok.1 (is_derived x ok.2)))
  is_derived (g.node (g.cast word type optional) (g.more g.first x (g.more label y xs))) ok = never ok.3.0
  is_derived (g.node (g.cast word type optional) (g.more _ x xs)) ok = never ok.0
  is_derived (g.node g.signs (g.more (g.signed (sign ∷ signs)) x g.none)) ok =
      is_text (ap (λ l. map t.Operator (sign ∷ signs) ++ l) (sym (append-nil (g.written x))) ∙ sym (append-nil _))
      (r.with_signs sign signs (g.written x) x ok.0 (loosely r.path ok.1 (is_derived x ok.2)))
  is_derived (g.node g.signs (g.more (g.signed (sign ∷ signs)) x (g.more label y xs))) ok = never ok.3.0
  is_derived (g.node g.signs (g.more _ x xs)) ok = never ok.0
  is_derived (g.node g.filter (g.more g.first x g.none)) ok = never ok.3
  is_derived (g.node g.filter (g.more g.first x (g.more g.predicate y xs))) ok = let found : PredicatesOf xs = predicates_derived xs g.predicate refl ok.3.3 in
      is_text (join (t.LeftBracket ∷ (g.written y ++ g.parts_written xs)) (t.RightBracket ∷ []) refl
      (ap (λ l. t.LeftBracket ∷ l) (join (g.parts_written xs) (t.RightBracket ∷ []) refl found.text)))
      (r.filtered (g.written x) (g.written y) found.tokens x y xs (is_primary ok.1 (is_derived x ok.2))
      (loosely r.expr ok.3.1 (is_derived y ok.3.2)) found.derived)
  is_derived (g.node g.filter (g.more g.first x (g.more _ y xs))) ok = never ok.3.0
  is_derived (g.node g.filter (g.more _ x xs)) ok = never ok.0
  is_derived (g.node g.parens (g.more g.opened x g.none)) ok =
      is_text (ap (λ l. t.LeftParenthesis ∷ (l ++ t.RightParenthesis ∷ [])) (sym (append-nil (g.written x))))
      (r.in_parentheses (g.written x) x (loosely r.expr ok.1 (is_derived x ok.2)))
  is_derived (g.node g.parens (g.more g.opened x (g.more label y xs))) ok = never ok.3.0
  is_derived (g.node g.parens (g.more _ x xs)) ok = never ok.0
  is_derived (g.node g.call (g.more (g.calling name) x xs)) ok =
      is_text (ap (λ l. t.Name name ∷ t.LeftParenthesis ∷ l) (sym (append_assoc (g.written x) (g.parts_written xs) (t.RightParenthesis ∷ []))))
      (r.a_call name (g.written x) (g.parts_written xs) x xs ok.0 (loosely r.single ok.1 (is_derived x ok.2)) (arguments_derived xs (g.calling name) ok.3))
  is_derived (g.node g.call (g.more _ x xs)) ok = never ok.0

  operands_derived : (xs : Parts) (production : Production) (before : Label) → g.joins production before ≡ true → g.Runs (g.chain production) (Some before) xs →
      Operands production (g.parts_written xs) xs
  operands_derived g.none production before joins runs = r.no_operands production
  operands_derived (g.more label x xs) production before joins runs =
      r.an_operand production label (g.written x) (g.parts_written xs) x xs (and_parts _ _ runs.0).0
      (loosely (suc (g.rank_of production)) runs.1 (is_derived x runs.2))
      (operands_derived xs production label (and_parts _ _ runs.0).0 runs.3)

  arguments_derived : (xs : Parts) (before : Label) → g.Runs g.call (Some before) xs → Arguments (g.parts_written xs) xs
  arguments_derived g.none before runs = r.no_arguments
  arguments_derived (g.more g.comma x xs) before runs = r.an_argument (g.written x) (g.parts_written xs) x xs (loosely r.single runs.1 (is_derived x runs.2))
      (arguments_derived xs g.comma runs.3)
  arguments_derived (g.more _ x xs) before runs = never runs.0

  pub predicates_derived : (xs : Parts) (before : Label) → in_predicates before ≡ true → g.Runs g.filter (Some before) xs → PredicatesOf xs
  predicates_derived g.none before inside runs = record { tokens = []; derived = r.no_predicates; text = refl }
  predicates_derived (g.more g.again x xs) before inside runs = let found : PredicatesOf xs = predicates_derived xs g.again refl runs.3 in
      record {
        tokens = t.LeftBracket ∷ (g.written x ++ (t.RightBracket ∷ found.tokens));
        derived = r.a_predicate (g.written x) found.tokens x xs (loosely r.expr runs.1 (is_derived x runs.2)) found.derived;
        text = ap (λ l. t.RightBracket ∷ t.LeftBracket ∷ l) (join (g.parts_written xs) (t.RightBracket ∷ []) refl found.text);
      }
  predicates_derived (g.more label x xs) before inside runs = never (only_again before label inside runs.0)

  bindings_derived : (xs : Parts) (binder : Binder) (lead : Option Binder) (name : Name) → g.Runs (g.bound binder) (Some (g.binding lead name)) xs →
      Bindings binder (g.parts_written xs) xs
  bindings_derived g.none binder lead name runs = never runs
  bindings_derived (g.more (g.binding None other) x xs) binder lead name runs =
      r.a_binding binder other (g.written x) (g.parts_written xs) x xs runs.0 (loosely r.single runs.1 (is_derived x runs.2))
      (bindings_derived xs binder None other runs.3)
  bindings_derived (g.more (g.link word) x g.none) binder lead name runs = body_derived binder word x runs.0 (loosely r.single runs.1 (is_derived x runs.2))
  bindings_derived (g.more (g.link word) x (g.more label y xs)) binder lead name runs = never runs.3.0
  bindings_derived (g.more _ x xs) binder lead name runs = never runs.0
