-- What a kind makes of its parts is what the form makes of them: of what leads to a part only operators and commas tell.
use Rattle.std.proofs.Common.{◌≡◌, ℕ, Bool, true, false, List, [], ◌∷◌, Option, Some, None, map, refl, sym, ap, ◌∙◌, if◌then◌else◌}
use Rattle.std.proofs.lemmas.Bool.{false≢true}
use Rattle.xsd_pattern.specs.declared.fault.PatternFault.{PatternFault}
use Rattle.xsd_pattern.specs.Matching.{fault_of}
use Rattle.xpath_grammar.specs.declared.functions.Function.TheVariants as n
use Rattle.xpath_grammar.specs.declared.operators.Binder.{Binder}
use Rattle.xpath_grammar.specs.declared.operators.CastWord.{CastWord}
use Rattle.xpath_grammar.specs.declared.expr.Form.{Form}
use Rattle.xpath_grammar.specs.declared.expr.Form.TheVariants as f
use Rattle.xpath_grammar.specs.declared.expr.Label.{Label}
use Rattle.xpath_grammar.specs.declared.expr.Label.TheVariants as k
use Rattle.xpath_types.specs.declared.functions.Resolved.{Resolved}
use Rattle.xpath_types.specs.declared.functions.Resolved.TheVariants as r
use Rattle.xpath_types.specs.Functions.{function_called, type_named}
use Rattle.xpath_types.specs.Judging.{is_matches}
use Rattle.xpath_types.specs.Scopes.{Declared}
use Rattle.xpath_meaning.specs.Expressions as e
use Rattle.xpath_meaning.specs.Expressions.{Exp}
use Rattle.xpath_meaning.specs.Resolving.{Operand, linked, chained_on, chained, bound_all, chosen_of, first_part, signed_of, kept_of, in_axis_order}
use Rattle.xpath_meaning.specs.Resolving.{filtered_of, arguments_of, call_of, called_of, cast_of, combined}
use Rattle.xpath_plan.specs.declared.plan_node.Separator.{Separator}
use Rattle.xpath_plan.specs.Plans.{label_of, made}
use Rattle.xpath_plan.specs.Kinds.{link_of, cast_kind, call_kind, pattern_kind, matches_kind, named_kind, kind_of}

-- parts with what is kept of what leads to them, and back
abbrev pub links : List Operand → List (Separator × Exp)
links parts = map (λ part. (link_of part.0, part.1)) parts

abbrev pub labelled : List (Separator × Exp) → List Operand
labelled parts = map (λ part. (label_of part.0, part.1)) parts

-- with what tells of each label
abbrev told : List Operand → List Operand
told parts = labelled (links parts)

linked-told : (x : Exp) (label : Label) (y : Exp) → linked x (label_of (link_of label)) y ≡ linked x label y
linked-told x k.First y = refl
linked-told x (k.Link operator) y = refl
linked-told x k.Comma y = refl
linked-told x (k.Binding lead name) y = refl
linked-told x k.Condition y = refl
linked-told x k.Then y = refl
linked-told x (k.Signed operators) y = refl
linked-told x k.Predicate y = refl
linked-told x k.Again y = refl
linked-told x k.Opened y = refl
linked-told x (k.Calling name) y = refl

chained_on-told : (x : Exp) (parts : List Operand) → chained_on x (told parts) ≡ chained_on x parts
chained_on-told x [] = refl
chained_on-told x (part ∷ parts) = chained_on-told (linked x (label_of (link_of part.0)) part.1) parts ∙
    ap (λ y. chained_on y parts) (linked-told x part.0 part.1)

chained-told : (parts : List Operand) → chained (told parts) ≡ chained parts
chained-told [] = refl
chained-told ((k.First, x) ∷ parts) = chained_on-told x parts
chained-told ((k.Link operator, x) ∷ parts) = chained_on-told e.the_root ((k.Link operator, x) ∷ parts)
chained-told ((k.Comma, x) ∷ parts) = chained_on-told x parts
chained-told ((k.Binding lead name, x) ∷ parts) = chained_on-told x parts
chained-told ((k.Condition, x) ∷ parts) = chained_on-told x parts
chained-told ((k.Then, x) ∷ parts) = chained_on-told x parts
chained-told ((k.Signed operators, x) ∷ parts) = chained_on-told x parts
chained-told ((k.Predicate, x) ∷ parts) = chained_on-told x parts
chained-told ((k.Again, x) ∷ parts) = chained_on-told x parts
chained-told ((k.Opened, x) ∷ parts) = chained_on-told x parts
chained-told ((k.Calling name, x) ∷ parts) = chained_on-told x parts

bound-told : (binder : Binder) (parts : List Operand) → bound_all binder (told parts) ≡ bound_all binder parts
bound-told binder [] = refl
bound-told binder (part ∷ []) = refl
bound-told binder (part ∷ (next ∷ parts)) = ap (e.bound binder part.1) (bound-told binder (next ∷ parts))

chosen-told : (parts : List Operand) → chosen_of (told parts) ≡ chosen_of parts
chosen-told [] = refl
chosen-told (x ∷ []) = refl
chosen-told (x ∷ (y ∷ [])) = refl
chosen-told (x ∷ (y ∷ (z ∷ []))) = refl
chosen-told (x ∷ (y ∷ (z ∷ (other ∷ parts)))) = refl

first-told : (parts : List Operand) → first_part (told parts) ≡ first_part parts
first-told [] = refl
first-told (part ∷ parts) = refl

kept-told : (x : Exp) (parts : List Operand) → kept_of x (told parts) ≡ kept_of x parts
kept-told x [] = refl
kept-told x (part ∷ parts) = kept-told (e.filtered x part.1) parts

filtered-told : (is_step : Bool) (parts : List Operand) → filtered_of is_step (told parts) ≡ filtered_of is_step parts
filtered-told true [] = refl
filtered-told false [] = refl
filtered-told true (part ∷ parts) = ap e.stepped (kept-told (in_axis_order part.1) parts)
filtered-told false (part ∷ parts) = kept-told part.1 parts

arguments-told : (parts : List Operand) → arguments_of (told parts) ≡ arguments_of parts
arguments-told [] = refl
arguments-told (part ∷ parts) = ap (e.argument part.1) (arguments-told parts)

signs-made : (is_step free : Bool) (declared : Declared) (second : Option (List ℕ)) (parts : List Operand) →
    made (kind_of declared f.Signs is_step free second (map (λ part. part.0) parts)) (told parts) ≡ signed_of parts
signs-made is_step free declared second [] = refl
signs-made is_step free declared second ((k.First, x) ∷ parts) = refl
signs-made is_step free declared second ((k.Link operator, x) ∷ parts) = refl
signs-made is_step free declared second ((k.Comma, x) ∷ parts) = refl
signs-made is_step free declared second ((k.Binding lead name, x) ∷ parts) = refl
signs-made is_step free declared second ((k.Condition, x) ∷ parts) = refl
signs-made is_step free declared second ((k.Then, x) ∷ parts) = refl
signs-made is_step free declared second ((k.Signed operators, x) ∷ parts) = refl
signs-made is_step free declared second ((k.Predicate, x) ∷ parts) = refl
signs-made is_step free declared second ((k.Again, x) ∷ parts) = refl
signs-made is_step free declared second ((k.Opened, x) ∷ parts) = refl
signs-made is_step free declared second ((k.Calling name, x) ∷ parts) = refl

call-made : (called : Resolved) (parts : List Operand) → made (call_kind called) (told parts) ≡ call_of called (arguments_of parts)
call-made r.Unbound parts = refl
call-made r.Unknown parts = refl
call-made (r.Known function) parts = ap (e.called function) (arguments-told parts)

-- Patterns

-- There are two parts, the second of which is the text.
abbrev pub IsSecond : List ℕ → List Operand → Type 0
IsSecond text (first ∷ (second ∷ [])) = second.1 ≡ e.text text
IsSecond text _ = ⊥

abbrev pub AreSecond : Option (List ℕ) → List Operand → Type 0
AreSecond None parts = Unit {0}
AreSecond (Some text) parts = IsSecond text parts

pattern-made : (text : List ℕ) (fault : Option PatternFault) (parts : List Operand) → IsSecond text parts →
    made (pattern_kind text fault) (told parts) ≡ e.called n.Matches (arguments_of parts)
pattern-made text fault [] h = absurd h
pattern-made text fault (first ∷ []) h = absurd h
pattern-made text None (first ∷ (second ∷ [])) h = ap (λ x. e.called n.Matches (e.argument first.1 (e.argument x e.no_more))) (sym h)
pattern-made text (Some fault) (first ∷ (second ∷ [])) h = refl
pattern-made text fault (first ∷ (second ∷ (third ∷ parts))) h = absurd h

matches-known : (called : Resolved) → is_matches called ≡ true → called ≡ r.Known n.Matches
matches-known r.Unbound h = absurd (false≢true h)
matches-known r.Unknown h = absurd (false≢true h)
matches-known (r.Known n.Matches) h = refl
matches-known (r.Known function) h = absurd (false≢true h)

matches-made : (called : Resolved) (text : List ℕ) (parts : List Operand) → is_matches called ≡ true → IsSecond text parts →
    made (matches_kind text) (told parts) ≡ call_of called (arguments_of parts)
unfolding matches_kind
matches-made called text parts is h = pattern-made text (fault_of text) parts h ∙
    ap (λ called. call_of called (arguments_of parts)) (sym (matches-known called is))

some-made : (called : Resolved) (text : List ℕ) (parts : List Operand) → IsSecond text parts → (b : Bool) → is_matches called ≡ b
    → made (if b then matches_kind text else call_kind called) (told parts) ≡ call_of called (arguments_of parts)
some-made called text parts h true is = matches-made called text parts is h
some-made called text parts h false is = call-made called parts

named-made : (called : Resolved) (second : Option (List ℕ)) (parts : List Operand) → AreSecond second parts →
    made (named_kind called second) (told parts) ≡ call_of called (arguments_of parts)
named-made called None parts h = call-made called parts
named-made called (Some text) parts h = some-made called text parts h (is_matches called) refl

called-made : (is_step free : Bool) (declared : Declared) (second : Option (List ℕ)) (parts : List Operand) → AreSecond second parts
    → made (kind_of declared f.Call is_step free second (map (λ part. part.0) parts)) (told parts) ≡ called_of declared parts
called-made is_step free declared second [] h = refl
called-made is_step free declared second ((k.First, x) ∷ parts) h = refl
called-made is_step free declared second ((k.Link operator, x) ∷ parts) h = refl
called-made is_step free declared second ((k.Comma, x) ∷ parts) h = refl
called-made is_step free declared second ((k.Binding lead name, x) ∷ parts) h = refl
called-made is_step free declared second ((k.Condition, x) ∷ parts) h = refl
called-made is_step free declared second ((k.Then, x) ∷ parts) h = refl
called-made is_step free declared second ((k.Signed operators, x) ∷ parts) h = refl
called-made is_step free declared second ((k.Predicate, x) ∷ parts) h = refl
called-made is_step free declared second ((k.Again, x) ∷ parts) h = refl
called-made is_step free declared second ((k.Opened, x) ∷ parts) h = refl
called-made is_step free declared second ((k.Calling name, x) ∷ parts) h = named-made (function_called declared name) second ((k.Calling name, x) ∷ parts) h

cast-made : (word : CastWord) (optional : Bool) (named : Resolved) (parts : List Operand) →
    made (cast_kind word optional named) (told parts) ≡ cast_of word named optional (first_part parts)
cast-made word optional r.Unbound parts = refl
cast-made word optional r.Unknown parts = refl
cast-made word optional (r.Known function) parts = ap (e.cast word function optional) (first-told parts)

filter-made : (declared : Declared) (is_step free : Bool) (second : Option (List ℕ)) (parts : List Operand) →
    made (kind_of declared f.Filter is_step free second (map (λ part. part.0) parts)) (told parts) ≡ filtered_of is_step parts
filter-made declared true true second parts = filtered-told true parts
filter-made declared true false second parts = filtered-told true parts
filter-made declared false free second parts = filtered-told false parts

-- the form's kind makes what the form does
pub form-made : (declared : Declared) (form : Form) (is_step free : Bool) (second : Option (List ℕ)) (parts : List Operand) → AreSecond second parts
    → made (kind_of declared form is_step free second (map (λ part. part.0) parts)) (labelled (links parts)) ≡ combined declared form is_step parts
form-made declared (f.Chain production) is_step free second parts h = chained-told parts
form-made declared (f.Bound binder) is_step free second parts h = bound-told binder parts
form-made declared f.Conditional is_step free second parts h = chosen-told parts
form-made declared (f.Cast word type optional) is_step free second parts h = cast-made word optional (type_named declared type) parts
form-made declared f.Signs is_step free second parts h = signs-made is_step free declared second parts
form-made declared f.Filter is_step free second parts h = filter-made declared is_step free second parts
form-made declared f.Parentheses is_step free second parts h = first-told parts
form-made declared f.Call is_step free second parts h = called-made is_step free declared second parts h
