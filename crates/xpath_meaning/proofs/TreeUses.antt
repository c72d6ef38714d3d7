-- What a resolved expression uses is among what its tree is said to use, and it reads no variable that the tree doesn't
-- leave free.
use Rattle.std.proofs.Common.{◌≡◌, ℕ, ◌+◌, ◌≤◌, Bool, true, false, ◌&&◌, ◌||◌, not, ◌==◌, List, [], ◌∷◌, ◌++◌, length, map, Option, Some, None, refl, sym, ap}
use Rattle.std.proofs.Common.{◌∙◌, subst, arith, length-append, true≢false}
use Rattle.std.specs.Prelude.{nat_lt}
use Rattle.std.specs.List.{list_any}
use Rattle.std.specs.Str.{bytes_eq}
use Rattle.std.proofs.lemmas.Bool.{false≢true, and_parts}
use Rattle.std.proofs.lemmas.Bool.Decides.{nat_tests}
use Rattle.inv_base.specs.Tree.{Node}
use Rattle.xpath_tokens.specs.declared.token.Operator.{Operator}
use Rattle.xpath_tokens.specs.declared.token.Operator.TheVariants as o
use Rattle.xpath_grammar.specs.declared.operators.Production.{Production}
use Rattle.xpath_grammar.specs.declared.operators.Production.TheVariants as q
use Rattle.xpath_grammar.specs.declared.operators.CastWord.{CastWord}
use Rattle.xpath_grammar.specs.declared.operators.Binder.{Binder}
use Rattle.xpath_grammar.specs.declared.step.Axis.{Axis}
use Rattle.xpath_grammar.specs.declared.expr.Leaf.{Leaf}
use Rattle.xpath_grammar.specs.declared.expr.Leaf.TheVariants as l
use Rattle.xpath_grammar.specs.declared.expr.Form.{Form}
use Rattle.xpath_grammar.specs.declared.expr.Form.TheVariants as m
use Rattle.xpath_grammar.specs.declared.expr.Label.{Label}
use Rattle.xpath_grammar.specs.declared.expr.Label.TheVariants as k
use Rattle.xpath_grammar.specs.Grammar as g
use Rattle.xpath_grammar.specs.Grammar.{Tree, Parts}
use Rattle.xpath_types.specs.declared.functions.Resolved.{Resolved}
use Rattle.xpath_types.specs.declared.functions.Resolved.TheVariants as n
use Rattle.xpath_types.specs.Scopes.{Declared, written_name}
use Rattle.xpath_types.specs.Functions.{function_called, type_named}
use Rattle.xpath_types.specs.Judging as j
use Rattle.xpath_types.specs.Parts as p
use Rattle.xpath_meaning.specs.Expressions as x
use Rattle.xpath_meaning.specs.Expressions.{Exp, Exps, NodeTest}
use Rattle.xpath_meaning.specs.Resolving as r
use Rattle.xpath_meaning.specs.Resolving.{Operand}
use Rattle.xpath_items.specs.declared.item.Item.{Item}
use Rattle.xpath_types.specs.Kinds.{is_nodes_alone}
use Rattle.xpath_meaning.specs.Steps.{root_of}
use Rattle.xpath_meaning.specs.Meaning.{Context, at, bound_at, mean}
use Rattle.xpath_meaning.specs.Uses as u
use Rattle.xpath_meaning.specs.Uses.{Uses, uses_of, uses_of_arguments, reads_outside, arguments_read_outside}
use Rattle.xpath_meaning.proofs.KindFacts.{or_left, or_right}
use Rattle.xpath_meaning.proofs.TreeKinds.{Follow, follow}
use Rattle.xpath_meaning.proofs.SameValues.{mean_same}
use Rattle.xpath_meaning.proofs.MovedValues.{positions_free}

-- Free variables

neither : (a b : Bool) → a ≡ false → b ≡ false → (a || b) ≡ false
neither true b h e = h
neither false b h e = e

neither_left : (a b : Bool) → (a || b) ≡ false → a ≡ false
neither_left true b h = h
neither_left false b h = refl

neither_right : (a b : Bool) → (a || b) ≡ false → b ≡ false
neither_right true b h = absurd (true≢false h)
neither_right false b h = h

not_less : (count depth more : ℕ) → count ≡ more + depth → nat_lt count depth ≡ false
not_less count depth more e = grind (arith, nat_tests)

reads_bound : (name : List ℕ) (bs outer : List (List ℕ)) → list_any (bytes_eq name) bs ≡ true →
    reads_outside (length outer) (r.variable_in name (bs ++ outer)) ≡ false
reads_bound name [] outer h = absurd (false≢true h)
reads_bound name (b ∷ bs) outer h = go (bytes_eq name b) h (reads_bound name bs outer)
  where
    go : (t : Bool) → (t || list_any (bytes_eq name) bs) ≡ true →
        (list_any (bytes_eq name) bs ≡ true → reads_outside (length outer) (r.variable_in name (bs ++ outer)) ≡ false)
        → reads_outside (length outer) (elim t as (λ _. Exp) [ true ↦ x.variable (length (bs ++ outer)) | false ↦ r.variable_in name (bs ++ outer) ]) ≡ false
    go true h f = not_less (length (bs ++ outer)) (length outer) (length bs) (length-append bs outer)
    go false h f = f h

abbrev operands_read : ℕ → List Operand → Bool
operands_read depth [] = false
operands_read depth (e ∷ es) = reads_outside depth e.1 || operands_read depth es

by_free : (depth : ℕ) (operator : Operator) (e f : Exp) → reads_outside depth e ≡ false → reads_outside depth f ≡ false →
    reads_outside depth (r.linked_by operator e f) ≡ false
by_free depth o.DoubleSlash e f h i = neither (reads_outside depth e || false) (reads_outside depth f) (neither (reads_outside depth e) false h refl) i
by_free depth _ e f h i = neither (reads_outside depth e) (reads_outside depth f) h i

linked_free : (depth : ℕ) (e : Exp) (label : Label) (f : Exp) → reads_outside depth e ≡ false → reads_outside depth f ≡ false →
    reads_outside depth (r.linked e label f) ≡ false
linked_free depth e (k.Link operator) f h i = by_free depth operator e f h i
linked_free depth e k.Comma f h i = neither (reads_outside depth e) (reads_outside depth f) h i
linked_free depth e _ f h i = refl

chained_on_free : (depth : ℕ) (e : Exp) (es : List Operand) → reads_outside depth e ≡ false → operands_read depth es ≡ false →
    reads_outside depth (r.chained_on e es) ≡ false
chained_on_free depth e [] h i = h
chained_on_free depth e (part ∷ es) h i = chained_on_free depth (r.linked e part.0 part.1) es
    (linked_free depth e part.0 part.1 h (neither_left (reads_outside depth part.1) (operands_read depth es) i))
    (neither_right (reads_outside depth part.1) (operands_read depth es) i)

chained_free : (depth : ℕ) (es : List Operand) → operands_read depth es ≡ false → reads_outside depth (r.chained es) ≡ false
chained_free depth [] h = refl
chained_free depth ((k.Link operator, e) ∷ es) h = chained_on_free depth x.the_root ((k.Link operator, e) ∷ es) refl h
chained_free depth ((_, e) ∷ es) h = chained_on_free depth e es (neither_left (reads_outside depth e) (operands_read depth es) h)
    (neither_right (reads_outside depth e) (operands_read depth es) h)

bound_free : (depth : ℕ) (binder : Binder) (es : List Operand) → operands_read depth es ≡ false → reads_outside depth (r.bound_all binder es) ≡ false
bound_free depth binder [] h = refl
bound_free depth binder (part ∷ []) h = neither_left (reads_outside depth part.1) false h
bound_free depth binder (part ∷ (next ∷ es)) h = neither (reads_outside depth part.1) (reads_outside depth (r.bound_all binder (next ∷ es)))
    (neither_left (reads_outside depth part.1) (operands_read depth (next ∷ es)) h)
    (bound_free depth binder (next ∷ es) (neither_right (reads_outside depth part.1) (operands_read depth (next ∷ es)) h))

chosen_free : (depth : ℕ) (es : List Operand) → operands_read depth es ≡ false → reads_outside depth (r.chosen_of es) ≡ false
chosen_free depth (a ∷ (b ∷ (c ∷ []))) h =
    let behind : (reads_outside depth b.1 || (reads_outside depth c.1 || false)) ≡ false =
    neither_right (reads_outside depth a.1) (reads_outside depth b.1 || (reads_outside depth c.1 || false)) h in
    neither (reads_outside depth a.1) (reads_outside depth b.1 || reads_outside depth c.1)
    (neither_left (reads_outside depth a.1) (reads_outside depth b.1 || (reads_outside depth c.1 || false)) h)
    (neither (reads_outside depth b.1) (reads_outside depth c.1) (neither_left (reads_outside depth b.1) (reads_outside depth c.1 || false) behind)
    (neither_left (reads_outside depth c.1) false (neither_right (reads_outside depth b.1) (reads_outside depth c.1 || false) behind)))
chosen_free depth _ h = refl

first_free : (depth : ℕ) (es : List Operand) → operands_read depth es ≡ false → reads_outside depth (r.first_part es) ≡ false
first_free depth [] h = refl
first_free depth (part ∷ es) h = neither_left (reads_outside depth part.1) (operands_read depth es) h

cast_free : (depth : ℕ) (word : CastWord) (type : Resolved) (optional : Bool) (e : Exp) → reads_outside depth e ≡ false →
    reads_outside depth (r.cast_of word type optional e) ≡ false
cast_free depth word (n.Known function) optional e h = h
cast_free depth word _ optional e h = refl

signed_free : (depth : ℕ) (es : List Operand) → operands_read depth es ≡ false → reads_outside depth (r.signed_of es) ≡ false
signed_free depth [] h = refl
signed_free depth ((k.Signed signs, e) ∷ es) h = neither_left (reads_outside depth e) (operands_read depth es) h
signed_free depth ((_, e) ∷ es) h = refl

kept_free : (depth : ℕ) (e : Exp) (es : List Operand) → reads_outside depth e ≡ false → operands_read depth es ≡ false →
    reads_outside depth (r.kept_of e es) ≡ false
kept_free depth e [] h i = h
kept_free depth e (part ∷ es) h i = kept_free depth (x.filtered e part.1) es
    (neither (reads_outside depth e) (reads_outside depth part.1) h (neither_left (reads_outside depth part.1) (operands_read depth es) i))
    (neither_right (reads_outside depth part.1) (operands_read depth es) i)

axis_free : (depth : ℕ) (e : Exp) → reads_outside depth (r.in_axis_order e) ≡ reads_outside depth e
axis_free depth (x.stepped e) = refl
axis_free depth _ = refl

filtered_free : (depth : ℕ) (is_step : Bool) (es : List Operand) → operands_read depth es ≡ false → reads_outside depth (r.filtered_of is_step es) ≡ false
filtered_free depth is_step [] h = refl
filtered_free depth true (part ∷ es) h = kept_free depth (r.in_axis_order part.1) es
    (axis_free depth part.1 ∙ neither_left (reads_outside depth part.1) (operands_read depth es) h)
    (neither_right (reads_outside depth part.1) (operands_read depth es) h)
filtered_free depth false (part ∷ es) h = kept_free depth part.1 es (neither_left (reads_outside depth part.1) (operands_read depth es) h)
    (neither_right (reads_outside depth part.1) (operands_read depth es) h)

arguments_free : (depth : ℕ) (es : List Operand) → operands_read depth es ≡ false → arguments_read_outside depth (r.arguments_of es) ≡ false
arguments_free depth [] h = refl
arguments_free depth (part ∷ es) h = neither (reads_outside depth part.1) (arguments_read_outside depth (r.arguments_of es))
    (neither_left (reads_outside depth part.1) (operands_read depth es) h)
    (arguments_free depth es (neither_right (reads_outside depth part.1) (operands_read depth es) h))

call_free : (depth : ℕ) (resolved : Resolved) (arguments : Exps) → arguments_read_outside depth arguments ≡ false →
    reads_outside depth (r.call_of resolved arguments) ≡ false
call_free depth (n.Known function) arguments h = h
call_free depth _ arguments h = refl

called_free : (depth : ℕ) (d : Declared) (es : List Operand) → operands_read depth es ≡ false → reads_outside depth (r.called_of d es) ≡ false
called_free depth d [] h = refl
called_free depth d ((k.Calling name, e) ∷ es) h = call_free depth (function_called d name) (r.arguments_of ((k.Calling name, e) ∷ es))
    (arguments_free depth ((k.Calling name, e) ∷ es) h)
called_free depth d ((_, e) ∷ es) h = refl

combined_free : (depth : ℕ) (d : Declared) (form : Form) (is_step : Bool) (es : List Operand) → operands_read depth es ≡ false →
    reads_outside depth (r.combined d form is_step es) ≡ false
combined_free depth d (m.Chain production) is_step es h = chained_free depth es h
combined_free depth d (m.Bound binder) is_step es h = bound_free depth binder es h
combined_free depth d m.Conditional is_step es h = chosen_free depth es h
combined_free depth d (m.Cast word type optional) is_step es h = cast_free depth word (type_named d type) optional (r.first_part es) (first_free depth es h)
combined_free depth d m.Signs is_step es h = signed_free depth es h
combined_free depth d m.Filter is_step es h = filtered_free depth is_step es h
combined_free depth d m.Parentheses is_step es h = first_free depth es h
combined_free depth d m.Call is_step es h = called_free depth d es h

names_bound : (label : Label) (bs outer : List (List ℕ)) → r.names_behind label (bs ++ outer) ≡ p.bound_behind label bs ++ outer
names_bound (k.Binding lead name) bs outer = refl
names_bound _ bs outer = refl

step_free : (depth : ℕ) (axis : Axis) (test : Option NodeTest) → reads_outside depth (r.step_of axis test) ≡ false
step_free depth axis None = refl
step_free depth axis (Some test) = refl

not_not : (t : Bool) → not t ≡ false → t ≡ true
not_not true h = refl
not_not false h = sym h

leaf_free : (d : Declared) (bs outer : List (List ℕ)) (leaf : Leaf) → p.has_free bs (g.leaf leaf) ≡ false →
    reads_outside (length outer) (r.leaf_of d (bs ++ outer) leaf) ≡ false
unfolding p.has_free p.parts_have_free
leaf_free d bs outer (l.Variable name) h = reads_bound (written_name name) bs outer (not_not (list_any (bytes_eq (written_name name)) bs) h)
leaf_free d bs outer (l.Called name) h = call_free (length outer) (function_called d name) x.no_more refl
leaf_free d bs outer (l.Step form test) h = step_free (length outer) (r.axis_of form test) (r.test_of d test)
leaf_free d bs outer _ h = refl

mutual
  unfolding p.has_free p.parts_have_free r.resolved r.operands

  pub tree_free : (d : Declared) (bs outer : List (List ℕ)) (tree : Tree) → p.has_free bs tree ≡ false →
      reads_outside (length outer) (r.resolved d (bs ++ outer) tree) ≡ false
  tree_free d bs outer (g.leaf leaf) h = leaf_free d bs outer leaf h
  tree_free d bs outer (g.node form parts) h = combined_free (length outer) d form (r.begins_with_step parts) (r.operands d (bs ++ outer) parts)
      (parts_free d bs outer parts h)

  parts_free : (d : Declared) (bs outer : List (List ℕ)) (parts : Parts) → p.parts_have_free bs parts ≡ false →
      operands_read (length outer) (r.operands d (bs ++ outer) parts) ≡ false
  parts_free d bs outer g.none h = refl
  parts_free d bs outer (g.more label tree parts) h = neither (reads_outside (length outer) (r.resolved d (bs ++ outer) tree))
      (operands_read (length outer) (r.operands d (r.names_behind label (bs ++ outer)) parts))
      (tree_free d bs outer tree (neither_left (p.has_free bs tree) (p.parts_have_free (p.bound_behind label bs) parts) h))
      (subst (λ ns. operands_read (length outer) (r.operands d ns parts) ≡ false) (sym (names_bound label bs outer))
      (parts_free d (p.bound_behind label bs) outer parts (neither_right (p.has_free bs tree) (p.parts_have_free (p.bound_behind label bs) parts) h)))

-- What is used of the focus

pub record LiesUnder (a b : Uses) : Type 0 where
  pub position : a.position ≡ true → b.position ≡ true
  pub root : a.root ≡ true → b.root ≡ true
  pub item : a.item ≡ true → b.item ≡ true

under_same : (a : Uses) → LiesUnder a a
under_same a = record { position = λ h. h; root = λ h. h; item = λ h. h }

under_nothing : (a : Uses) → LiesUnder u.no_uses a
under_nothing a = record { position = λ h. absurd (false≢true h); root = λ h. absurd (false≢true h); item = λ h. absurd (false≢true h) }

under_left : (a b c : Uses) → LiesUnder a b → LiesUnder a (u.joined b c)
under_left a b c h = record {
  position = λ e. or_left b.position c.position (h.position e);
  root = λ e. or_left b.root c.root (h.root e);
  item =
      λ e. or_left b.item c.item (h.item e);
}

under_right : (a b c : Uses) → LiesUnder a c → LiesUnder a (u.joined b c)
under_right a b c h = record {
  position = λ e. or_right b.position c.position (h.position e);
  root = λ e. or_right b.root c.root (h.root e);
  item =
      λ e. or_right b.item c.item (h.item e);
}

either_holds : (s t c : Bool) → (s ≡ true → c ≡ true) → (t ≡ true → c ≡ true) → (s || t) ≡ true → c ≡ true
either_holds true t c f e h = f refl
either_holds false t c f e h = e h

under_both : (a b c : Uses) → LiesUnder a c → LiesUnder b c → LiesUnder (u.joined a b) c
under_both a b c h i = record {
  position = either_holds a.position b.position c.position h.position i.position;
  root = either_holds a.root b.root c.root h.root i.root;
  item = either_holds a.item b.item c.item h.item i.item;
}

under_chain : (a b c : Uses) → LiesUnder a b → LiesUnder b c → LiesUnder a c
under_chain a b c h i = record { position = λ e. i.position (h.position e); root = λ e. i.root (h.root e); item = λ e. i.item (h.item e) }

abbrev all_uses : List Operand → Uses
all_uses [] = u.no_uses
all_uses (e ∷ es) = u.joined (uses_of e.1) (all_uses es)

-- of the parts that are evaluated at the focus of the whole
abbrev outer_uses : Form → List Operand → Uses
outer_uses form [] = u.no_uses
outer_uses form (e ∷ es) = elim (p.has_outer_focus form e.0) [ true ↦ u.joined (uses_of e.1) (outer_uses form es) | false ↦ outer_uses form es ]

all_outer : (form : Form) → ((label : Label) → p.has_outer_focus form label ≡ true) → (es : List Operand) → LiesUnder (all_uses es) (outer_uses form es)
all_outer form is [] = under_same u.no_uses
all_outer form is (e ∷ es) = subst (λ t. LiesUnder (u.joined (uses_of e.1) (all_uses es))
    (elim t as (λ _. Uses) [ true ↦ u.joined (uses_of e.1) (outer_uses form es) | false ↦ outer_uses form es ])) (sym (is e.0))
    (under_both (uses_of e.1) (all_uses es) (u.joined (uses_of e.1) (outer_uses form es))
    (under_left (uses_of e.1) (uses_of e.1) (outer_uses form es) (under_same (uses_of e.1)))
    (under_right (all_uses es) (uses_of e.1) (outer_uses form es) (all_outer form is es)))

by_under : (operator : Operator) (e f : Exp) (c : Uses) → LiesUnder (uses_of e) c → LiesUnder (uses_of f) c → LiesUnder (uses_of (r.linked_by operator e f)) c
by_under o.Slash e f c h i = h
by_under o.DoubleSlash e f c h i = h
by_under _ e f c h i = under_both (uses_of e) (uses_of f) c h i

linked_under : (e : Exp) (label : Label) (f : Exp) (c : Uses) → LiesUnder (uses_of e) c → LiesUnder (uses_of f) c → LiesUnder (uses_of (r.linked e label f)) c
linked_under e (k.Link operator) f c h i = by_under operator e f c h i
linked_under e k.Comma f c h i = under_both (uses_of e) (uses_of f) c h i
linked_under e _ f c h i = under_nothing c

head_under : (e : Operand) (es : List Operand) (c : Uses) → LiesUnder (all_uses (e ∷ es)) c → LiesUnder (uses_of e.1) c
head_under e es c h = under_chain (uses_of e.1) (all_uses (e ∷ es)) c (under_left (uses_of e.1) (uses_of e.1) (all_uses es) (under_same (uses_of e.1))) h

tail_under : (e : Operand) (es : List Operand) (c : Uses) → LiesUnder (all_uses (e ∷ es)) c → LiesUnder (all_uses es) c
tail_under e es c h = under_chain (all_uses es) (all_uses (e ∷ es)) c (under_right (all_uses es) (uses_of e.1) (all_uses es) (under_same (all_uses es))) h

chained_on_under : (e : Exp) (es : List Operand) (c : Uses) → LiesUnder (uses_of e) c → LiesUnder (all_uses es) c → LiesUnder (uses_of (r.chained_on e es)) c
chained_on_under e [] c h i = h
chained_on_under e (part ∷ es) c h i = chained_on_under (r.linked e part.0 part.1) es c (linked_under e part.0 part.1 c h (head_under part es c i))
    (tail_under part es c i)

-- a chain that doesn't begin with an operator
chained_under : (production : Production) (es : List Operand) → g.is_path production ≡ false → Follow (m.Chain production) None es →
    LiesUnder (uses_of (r.chained es)) (all_uses es)
chained_under production [] path h = under_nothing u.no_uses
chained_under production ((k.Link operator, e) ∷ es) path h =
    absurd (false≢true (sym path ∙ (and_parts (g.is_path production) (g.joins production (k.Link operator)) h.0).0))
chained_under production ((k.First, e) ∷ es) path h = chained_on_under e es (all_uses ((k.First, e) ∷ es))
    (head_under (k.First, e) es (all_uses ((k.First, e) ∷ es)) (under_same (all_uses ((k.First, e) ∷ es))))
    (tail_under (k.First, e) es (all_uses ((k.First, e) ∷ es)) (under_same (all_uses ((k.First, e) ∷ es))))
chained_under production ((label, e) ∷ es) path h = absurd (false≢true h.0)

path_uses : (operator : Operator) (e f : Exp) → g.joins q.Path (k.Link operator) ≡ true → uses_of (r.linked_by operator e f) ≡ uses_of e
path_uses o.Slash e f h = refl
path_uses o.DoubleSlash e f h = refl
path_uses _ e f h = absurd (false≢true h)

path_on_uses : (e : Exp) (before : Label) (es : List Operand) → Follow (m.Chain q.Path) (Some before) es → uses_of (r.chained_on e es) ≡ uses_of e
path_on_uses e before [] h = refl
path_on_uses e before ((k.Link operator, f) ∷ es) h = path_on_uses (r.linked_by operator e f) (k.Link operator) es h.1 ∙
    path_uses operator e f (and_parts (g.joins q.Path (k.Link operator)) true h.0).0
path_on_uses e before ((label, f) ∷ es) h = absurd (false≢true h.0)

abbrev root_uses : Form → List Operand → Uses
root_uses form es = record u.no_uses { root = p.begins_at_root form (map (λ (e : Operand). e.0) es) }

path_under : (es : List Operand) → Follow (m.Chain q.Path) None es →
    LiesUnder (uses_of (r.chained es)) (u.joined (root_uses (m.Chain q.Path) es) (outer_uses (m.Chain q.Path) es))
path_under [] h = under_nothing _
path_under ((k.Link operator, f) ∷ es) h =
    subst (λ a. LiesUnder a (u.joined (root_uses (m.Chain q.Path) ((k.Link operator, f) ∷ es)) (outer_uses (m.Chain q.Path) ((k.Link operator, f) ∷ es))))
    (sym (path_on_uses (r.linked_by operator x.the_root f) (k.Link operator) es h.1 ∙ path_uses operator x.the_root f h.0))
    (under_left (record u.no_uses { root = true }) (record u.no_uses { root = true }) (outer_uses (m.Chain q.Path) ((k.Link operator, f) ∷ es))
    (under_same (record u.no_uses { root = true })))
path_under ((k.First, f) ∷ es) h = subst (λ a. LiesUnder a (u.joined u.no_uses (u.joined (uses_of f) (outer_uses (m.Chain q.Path) es))))
    (sym (path_on_uses f k.First es h.1))
    (under_right (uses_of f) u.no_uses (u.joined (uses_of f) (outer_uses (m.Chain q.Path) es))
    (under_left (uses_of f) (uses_of f) (outer_uses (m.Chain q.Path) es) (under_same (uses_of f))))
path_under ((label, f) ∷ es) h = absurd (false≢true h.0)

bound_under : (binder : Binder) (es : List Operand) → LiesUnder (uses_of (r.bound_all binder es)) (all_uses es)
bound_under binder [] = under_nothing u.no_uses
bound_under binder (part ∷ []) = under_left (uses_of part.1) (uses_of part.1) u.no_uses (under_same (uses_of part.1))
bound_under binder (part ∷ (next ∷ es)) = under_both (uses_of part.1) (uses_of (r.bound_all binder (next ∷ es))) (all_uses (part ∷ (next ∷ es)))
    (under_left (uses_of part.1) (uses_of part.1) (all_uses (next ∷ es)) (under_same (uses_of part.1)))
    (under_right (uses_of (r.bound_all binder (next ∷ es))) (uses_of part.1) (all_uses (next ∷ es)) (bound_under binder (next ∷ es)))

chosen_under : (es : List Operand) → LiesUnder (uses_of (r.chosen_of es)) (all_uses es)
chosen_under (a ∷ (b ∷ (c ∷ []))) = under_both (uses_of a.1) (u.joined (uses_of b.1) (uses_of c.1)) (all_uses (a ∷ (b ∷ (c ∷ []))))
    (under_left (uses_of a.1) (uses_of a.1) (all_uses (b ∷ (c ∷ []))) (under_same (uses_of a.1)))
    (under_right (u.joined (uses_of b.1) (uses_of c.1)) (uses_of a.1) (all_uses (b ∷ (c ∷ [])))
    (under_both (uses_of b.1) (uses_of c.1) (all_uses (b ∷ (c ∷ []))) (under_left (uses_of b.1) (uses_of b.1) (all_uses (c ∷ [])) (under_same (uses_of b.1)))
    (under_right (uses_of c.1) (uses_of b.1) (all_uses (c ∷ [])) (under_left (uses_of c.1) (uses_of c.1) u.no_uses (under_same (uses_of c.1))))))
chosen_under _ = under_nothing _

first_under : (es : List Operand) → LiesUnder (uses_of (r.first_part es)) (all_uses es)
first_under [] = under_nothing u.no_uses
first_under (part ∷ es) = under_left (uses_of part.1) (uses_of part.1) (all_uses es) (under_same (uses_of part.1))

cast_under : (word : CastWord) (type : Resolved) (optional : Bool) (e : Exp) (c : Uses) → LiesUnder (uses_of e) c →
    LiesUnder (uses_of (r.cast_of word type optional e)) c
cast_under word (n.Known function) optional e c h = h
cast_under word _ optional e c h = under_nothing c

signed_under : (es : List Operand) → LiesUnder (uses_of (r.signed_of es)) (all_uses es)
signed_under [] = under_nothing u.no_uses
signed_under ((k.Signed signs, e) ∷ es) = under_left (uses_of e) (uses_of e) (all_uses es) (under_same (uses_of e))
signed_under ((label, e) ∷ es) = under_nothing _

kept_uses : (e : Exp) (es : List Operand) → uses_of (r.kept_of e es) ≡ uses_of e
kept_uses e [] = refl
kept_uses e (part ∷ es) = kept_uses (x.filtered e part.1) es

axis_uses : (e : Exp) → uses_of (r.in_axis_order e) ≡ uses_of e
axis_uses (x.stepped e) = refl
axis_uses _ = refl

filtered_uses : (is_step : Bool) (e : Operand) (es : List Operand) → uses_of (r.filtered_of is_step (e ∷ es)) ≡ uses_of e.1
filtered_uses true e es = kept_uses (r.in_axis_order e.1) es ∙ axis_uses e.1
filtered_uses false e es = kept_uses e.1 es

filtered_under : (is_step : Bool) (es : List Operand) → Follow m.Filter None es → LiesUnder (uses_of (r.filtered_of is_step es)) (outer_uses m.Filter es)
filtered_under is_step [] h = under_nothing u.no_uses
filtered_under is_step ((k.First, e) ∷ es) h = subst (λ a. LiesUnder a (u.joined (uses_of e) (outer_uses m.Filter es)))
    (sym (filtered_uses is_step (k.First, e) es))
    (under_left (uses_of e) (uses_of e) (outer_uses m.Filter es) (under_same (uses_of e)))
filtered_under is_step ((label, e) ∷ es) h = absurd (false≢true h.0)

arguments_under : (es : List Operand) → LiesUnder (uses_of_arguments (r.arguments_of es)) (all_uses es)
arguments_under [] = under_same u.no_uses
arguments_under (part ∷ es) = under_both (uses_of part.1) (uses_of_arguments (r.arguments_of es)) (all_uses (part ∷ es))
    (under_left (uses_of part.1) (uses_of part.1) (all_uses es) (under_same (uses_of part.1)))
    (under_right (uses_of_arguments (r.arguments_of es)) (uses_of part.1) (all_uses es) (arguments_under es))

call_under : (resolved : Resolved) (e : Exp) (arguments : Exps) (c : Uses) → LiesUnder (uses_of_arguments (x.argument e arguments)) c →
    LiesUnder (uses_of (r.call_of resolved (x.argument e arguments))) c
call_under (n.Known function) e arguments c h = h
call_under _ e arguments c h = under_nothing c

called_under : (d : Declared) (es : List Operand) → LiesUnder (uses_of (r.called_of d es)) (all_uses es)
called_under d [] = under_nothing u.no_uses
called_under d ((k.Calling name, e) ∷ es) = call_under (function_called d name) e (r.arguments_of es) (all_uses ((k.Calling name, e) ∷ es))
    (arguments_under ((k.Calling name, e) ∷ es))
called_under d ((label, e) ∷ es) = under_nothing _

-- all parts of the form are evaluated at the focus of the whole
spread : (form : Form) (e : Exp) (es : List Operand) → ((label : Label) → p.has_outer_focus form label ≡ true) → LiesUnder (uses_of e) (all_uses es)
    → LiesUnder (uses_of e) (u.joined (root_uses form es) (outer_uses form es))
spread form e es is h = under_right (uses_of e) (root_uses form es) (outer_uses form es)
    (under_chain (uses_of e) (all_uses es) (outer_uses form es) h (all_outer form is es))

chain_under : (production : Production) (es : List Operand) → Follow (m.Chain production) None es
    → LiesUnder (uses_of (r.chained es)) (u.joined (root_uses (m.Chain production) es) (outer_uses (m.Chain production) es))
chain_under q.Path es h = path_under es h
chain_under q.Sequence es h = spread (m.Chain q.Sequence) (r.chained es) es (λ label. refl) (chained_under q.Sequence es refl h)
chain_under q.Or es h = spread (m.Chain q.Or) (r.chained es) es (λ label. refl) (chained_under q.Or es refl h)
chain_under q.And es h = spread (m.Chain q.And) (r.chained es) es (λ label. refl) (chained_under q.And es refl h)
chain_under q.Comparison es h = spread (m.Chain q.Comparison) (r.chained es) es (λ label. refl) (chained_under q.Comparison es refl h)
chain_under q.Range es h = spread (m.Chain q.Range) (r.chained es) es (λ label. refl) (chained_under q.Range es refl h)
chain_under q.Sum es h = spread (m.Chain q.Sum) (r.chained es) es (λ label. refl) (chained_under q.Sum es refl h)
chain_under q.Product es h = spread (m.Chain q.Product) (r.chained es) es (λ label. refl) (chained_under q.Product es refl h)
chain_under q.Union es h = spread (m.Chain q.Union) (r.chained es) es (λ label. refl) (chained_under q.Union es refl h)
chain_under q.Intersection es h = spread (m.Chain q.Intersection) (r.chained es) es (λ label. refl) (chained_under q.Intersection es refl h)

form_under : (d : Declared) (form : Form) (is_step : Bool) (es : List Operand) → Follow form None es →
    LiesUnder (uses_of (r.combined d form is_step es)) (u.joined (root_uses form es) (outer_uses form es))
form_under d (m.Chain production) is_step es h = chain_under production es h
form_under d (m.Bound binder) is_step es h = spread (m.Bound binder) (r.bound_all binder es) es (λ label. refl) (bound_under binder es)
form_under d m.Conditional is_step es h = spread m.Conditional (r.chosen_of es) es (λ label. refl) (chosen_under es)
form_under d (m.Cast word type optional) is_step es h = spread (m.Cast word type optional) (r.cast_of word (type_named d type) optional (r.first_part es)) es
    (λ label. refl)
    (cast_under word (type_named d type) optional (r.first_part es) (all_uses es) (first_under es))
form_under d m.Signs is_step es h = spread m.Signs (r.signed_of es) es (λ label. refl) (signed_under es)
form_under d m.Filter is_step es h = under_right (uses_of (r.filtered_of is_step es)) (root_uses m.Filter es) (outer_uses m.Filter es)
    (filtered_under is_step es h)
form_under d m.Parentheses is_step es h = spread m.Parentheses (r.first_part es) es (λ label. refl) (first_under es)
form_under d m.Call is_step es h = spread m.Call (r.called_of d es) es (λ label. refl) (called_under d es)

-- what a tree is said to use
abbrev pub used : Declared → Tree → Uses
used d tree = record { position = (p.uses d tree).position; root = (p.uses d tree).root; item = (p.uses d tree).item }

abbrev used_parts : Declared → Form → Parts → Uses
used_parts d form parts = record {
  position = (p.uses_of_parts d form parts).position;
  root = (p.uses_of_parts d form parts).root;
  item =
      (p.uses_of_parts d form parts).item;
}

labels_of : (d : Declared) (names : List (List ℕ)) (parts : Parts) → map (λ (e : Operand). e.0) (r.operands d names parts) ≡ j.labels parts
unfolding r.operands r.resolved
labels_of d names g.none = refl
labels_of d names (g.more label tree parts) = λ i. label ∷ labels_of d (r.names_behind label names) parts i

call_leaf : (resolved : Resolved) → LiesUnder (uses_of (r.call_of resolved x.no_more))
    (record { position = (p.called_uses resolved).position; root = (p.called_uses resolved).root; item = (p.called_uses resolved).item })
call_leaf (n.Known function) = under_same _
call_leaf _ = under_nothing _

step_leaf : (axis : Axis) (test : Option NodeTest) → LiesUnder (uses_of (r.step_of axis test)) (record u.no_uses { item = true })
step_leaf axis None = under_nothing _
step_leaf axis (Some test) = under_same _

variable_leaf : (name : List ℕ) (names : List (List ℕ)) → uses_of (r.variable_in name names) ≡ u.no_uses
variable_leaf name [] = refl
variable_leaf name (inner ∷ names) = go (bytes_eq name inner) (variable_leaf name names)
  where
    go : (t : Bool) → uses_of (r.variable_in name names) ≡ u.no_uses →
        uses_of (elim t as (λ _. Exp) [ true ↦ x.variable (length names) | false ↦ r.variable_in name names ]) ≡ u.no_uses
    go true e = refl
    go false e = e

leaf_under : (d : Declared) (names : List (List ℕ)) (leaf : Leaf) → LiesUnder (uses_of (r.leaf_of d names leaf)) (used d (g.leaf leaf))
unfolding p.uses p.uses_of_parts
leaf_under d names (l.Literal s) = under_same u.no_uses
leaf_under d names (l.Number number) = under_same u.no_uses
leaf_under d names (l.Variable name) = subst (λ a. LiesUnder a u.no_uses) (sym (variable_leaf (written_name name) names)) (under_same u.no_uses)
leaf_under d names l.Context = under_same _
leaf_under d names l.Parent = under_same _
leaf_under d names l.Empty = under_same u.no_uses
leaf_under d names l.Root = under_same _
leaf_under d names (l.Called name) = call_leaf (function_called d name)
leaf_under d names (l.Step form test) = step_leaf (r.axis_of form test) (r.test_of d test)

-- one of two, whose type isn't named here
abbrev choose : {X : Type 0} → Bool → X → X → X
choose t a b = elim t [ true ↦ a | false ↦ b ]

part_under : (d : Declared) (form : Form) (t : Bool) (tree : Tree) (a b : Uses) (parts : Parts) → LiesUnder a (used d tree) →
    LiesUnder b (used_parts d form parts)
    → LiesUnder (elim t as (λ _. Uses) [ true ↦ u.joined a b | false ↦ b ]) (record {
      position = (choose t (p.joined (p.uses d tree) (p.uses_of_parts d form parts)) (p.uses_of_parts d form parts)).position;
      root = (choose t (p.joined (p.uses d tree) (p.uses_of_parts d form parts)) (p.uses_of_parts d form parts)).root;
      item = (choose t (p.joined (p.uses d tree) (p.uses_of_parts d form parts)) (p.uses_of_parts d form parts)).item;
    })
part_under d form true tree a b parts h i = under_both a b (u.joined (used d tree) (used_parts d form parts))
    (under_left a (used d tree) (used_parts d form parts) h) (under_right b (used d tree) (used_parts d form parts) i)
part_under d form false tree a b parts h i = i

mutual
  unfolding p.uses p.uses_of_parts r.resolved r.operands g.Grammatical g.Runs

  pub tree_under : (d : Declared) (names : List (List ℕ)) (tree : Tree) → g.Grammatical tree → LiesUnder (uses_of (r.resolved d names tree)) (used d tree)
  tree_under d names (g.leaf leaf) h = leaf_under d names leaf
  tree_under d names (g.node form parts) h = under_chain (uses_of (r.combined d form (r.begins_with_step parts) (r.operands d names parts)))
      (u.joined (root_uses form (r.operands d names parts)) (outer_uses form (r.operands d names parts))) (used d (g.node form parts))
      (form_under d form (r.begins_with_step parts) (r.operands d names parts) (follow d names form None parts h))
      (under_both (root_uses form (r.operands d names parts)) (outer_uses form (r.operands d names parts)) (used d (g.node form parts))
      (under_left (root_uses form (r.operands d names parts)) (record u.no_uses { root = p.begins_at_root form (j.labels parts) }) (used_parts d form parts)
      (subst (λ labels. LiesUnder (root_uses form (r.operands d names parts)) (record u.no_uses { root = p.begins_at_root form labels }))
      (labels_of d names parts) (under_same (root_uses form (r.operands d names parts)))))
      (under_right (outer_uses form (r.operands d names parts)) (record u.no_uses { root = p.begins_at_root form (j.labels parts) }) (used_parts d form parts)
      (parts_under d names form None parts h)))

  parts_under : (d : Declared) (names : List (List ℕ)) (form : Form) (before : Option Label) (parts : Parts) → g.Runs form before parts →
      LiesUnder (outer_uses form (r.operands d names parts)) (used_parts d form parts)
  parts_under d names form before g.none h = under_same u.no_uses
  parts_under d names form before (g.more label tree parts) h =
      part_under d form (p.has_outer_focus form label) tree (uses_of (r.resolved d names tree))
      (outer_uses form (r.operands d (r.names_behind label names) parts)) parts
      (tree_under d names tree h.2) (parts_under d (r.names_behind label names) form (Some label) parts h.3)

-- A part that depends on the document alone

bound_none : (height : ℕ) (xs : List Item) → length xs ≤ height → bound_at height xs ≡ []
bound_none height [] h = refl
bound_none height (item ∷ xs) h = go (height == length xs) (grind (arith, nat_tests)) (bound_none height xs (grind (arith, nat_tests)))
  where
    go : (t : Bool) → t ≡ false → bound_at height xs ≡ [] → elim t as (λ _. List Item) [ true ↦ item ∷ [] | false ↦ bound_at height xs ] ≡ []
    go true e f = absurd (true≢false e)
    go false e f = f

is_false : (t : Bool) → not t ≡ true → t ≡ false
is_false true h = absurd (false≢true h)
is_false false h = refl

no_such : {X : Type 0} (t : Bool) → not t ≡ true → t ≡ true → X
no_such t h e = absurd (true≢false (sym e ∙ is_false t h))

pub alone_same : (ns : List Node) (at : p.Placed) (names : List (List ℕ)) (c d : Context) → g.Grammatical at.part →
    (p.facts at).depends_on_document_alone ≡ true
    → u.IsAtNode (length names) c → u.IsAtNode (length names) d →
    mean ns (r.resolved at.environment.declared names at.part) c ≡ mean ns (r.resolved at.environment.declared names at.part) d
alone_same ns at names c d h alone one two =
    let declared : Declared = at.environment.declared in
    let e : Exp = r.resolved declared names at.part in
    let under : LiesUnder (uses_of e) (used declared at.part) = tree_under declared names at.part h in
    let kept : (not (p.has_free [] at.part) ≡ true) × (p.is_document_alone at.environment.focus (p.uses declared at.part) ≡ true) = and_parts _ _ alone in
    let position : (not (p.uses declared at.part).position ≡ true) ×
    ((not (p.uses declared at.part).item && (not (p.uses declared at.part).root || is_nodes_alone at.environment.focus)) ≡ true) = and_parts _ _ kept.1 in
    let item : (not (p.uses declared at.part).item ≡ true) × ((not (p.uses declared at.part).root || is_nodes_alone at.environment.focus) ≡ true) =
    and_parts _ _ position.1 in
    mean_same ns (length names) e c d (tree_free declared [] names at.part (is_false (p.has_free [] at.part) kept.0)) (record {
      position = λ t. no_such (p.uses declared at.part).position position.0 (under.position t);
      last = λ t. no_such (p.uses declared at.part).position position.0 (under.position t);
      root = λ t. ap root_of one.item ∙ sym (ap root_of two.item);
      item = λ t. no_such (p.uses declared at.part).item item.0 (under.item t);
      count = one.count ∙ sym two.count;
      bound = λ height l. bound_none height c.bound (subst (λ count. count ≤ height) (sym one.count) l) ∙
          sym (bound_none height d.bound (subst (λ count. count ≤ height) (sym two.count) l));
    })

-- A part that uses no position

none_under : (a b : Bool) → (a ≡ true → b ≡ true) → b ≡ false → a ≡ false
none_under true b h e = absurd (true≢false (sym (h refl) ∙ e))
none_under false b h e = refl

pub position_same : (ns : List Node) (part : p.Placed) (names : List (List ℕ)) (c : Context) (item : Item) (position last position' last' : ℕ) →
    g.Grammatical part.part → (p.facts part).uses_position ≡ false
    → mean ns (r.resolved part.environment.declared names part.part) (at c item position last) ≡ mean ns (r.resolved part.environment.declared names part.part)
    (at c item position' last')
position_same ns part names c item position last position' last' h none =
    let e : Exp = r.resolved part.environment.declared names part.part in
    let uses : Uses = used part.environment.declared part.part in
    positions_free ns e c item position last position' last'
    (none_under (uses_of e).position uses.position (tree_under part.environment.declared names part.part h).position none)
