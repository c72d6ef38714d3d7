-- The kinds that say nothing of their parts but their expression.
use Rattle.std.proofs.Common.{◌≡◌, ℕ, Bool, true, false, true≢false, List, [], ◌∷◌, Option, Some, None, refl, if◌then◌else◌}
use Rattle.std.proofs.lemmas.Bool.{false≢true}
use Rattle.xsd_pattern.specs.declared.fault.PatternFault.{PatternFault}
use Rattle.xsd_pattern.specs.Matching.{fault_of}
use Rattle.xpath_grammar.specs.declared.operators.CastWord.{CastWord}
use Rattle.xpath_grammar.specs.declared.expr.Form.{Form}
use Rattle.xpath_grammar.specs.declared.expr.Form.TheVariants as f
use Rattle.xpath_grammar.specs.declared.expr.Label.{Label}
use Rattle.xpath_grammar.specs.declared.expr.Label.TheVariants as k
use Rattle.xpath_types.specs.declared.functions.Resolved.{Resolved}
use Rattle.xpath_types.specs.declared.functions.Resolved.TheVariants as r
use Rattle.xpath_types.specs.Functions.{function_called, type_named}
use Rattle.xpath_types.specs.Judging.{is_matches}
use Rattle.xpath_types.specs.Scopes.{Declared}
use Rattle.xpath_meaning.specs.Resolving.{Operand}
use Rattle.xpath_plan.specs.declared.plan_node.Separator.{Separator}
use Rattle.xpath_plan.specs.declared.plan_node.Operation.{Operation}
use Rattle.xpath_plan.specs.declared.plan_node.Operation.TheVariants as m
use Rattle.xpath_plan.specs.Kinds.{cast_kind, call_kind, pattern_kind, matches_kind, named_kind, signs_kind, called_kind, kind_of, filter_kind}
use Rattle.xpath_plan.specs.Shapes.{Place, value}
use Rattle.xpath_plan.specs.Claims.{Known, own_kept, own_free, shown_of, shown_parts}

abbrev plain : Operation → Bool
plain (m.Once slot height) = false
plain m.FreeStep = false
plain m.FilteredStep = false
plain _ = true

plain-cast : (word : CastWord) (optional : Bool) (named : Resolved) → plain (cast_kind word optional named) ≡ true
plain-cast word optional (r.Known function) = refl
plain-cast word optional _ = refl

plain-signs : (labels : List Label) → plain (signs_kind labels) ≡ true
plain-signs (k.Signed signs ∷ labels) = refl
plain-signs _ = refl

plain-call : (called : Resolved) → plain (call_kind called) ≡ true
plain-call (r.Known function) = refl
plain-call _ = refl

plain-pattern : (text : List ℕ) (fault : Option PatternFault) → plain (pattern_kind text fault) ≡ true
plain-pattern text None = refl
plain-pattern text (Some fault) = refl

plain-matches : (text : List ℕ) → plain (matches_kind text) ≡ true
unfolding matches_kind
plain-matches text = plain-pattern text (fault_of text)

plain-either : (called : Resolved) (text : List ℕ) (b : Bool) → plain (if b then matches_kind text else call_kind called) ≡ true
plain-either called text true = plain-matches text
plain-either called text false = plain-call called

plain-named : (called : Resolved) (second : Option (List ℕ)) → plain (named_kind called second) ≡ true
plain-named called None = plain-call called
plain-named called (Some text) = plain-either called text (is_matches called)

plain-called : (declared : Declared) (second : Option (List ℕ)) (labels : List Label) → plain (called_kind declared second labels) ≡ true
plain-called declared second (k.Calling name ∷ labels) = plain-named (function_called declared name) second
plain-called declared second _ = refl

abbrev pub is_filter : Form → Bool
is_filter f.Filter = true
is_filter _ = false

plain-form : (declared : Declared) (form : Form) (is_step free : Bool) (second : Option (List ℕ)) (labels : List Label) → is_filter form ≡ false →
    plain (kind_of declared form is_step free second labels) ≡ true
plain-form declared (f.Cast word type optional) is_step free second labels h = plain-cast word optional (type_named declared type)
plain-form declared f.Signs is_step free second labels h = plain-signs labels
plain-form declared f.Filter is_step free second labels h = absurd (true≢false h)
plain-form declared f.Call is_step free second labels h = plain-called declared second labels
plain-form declared _ is_step free second labels h = refl

-- It keeps no value, says of no predicate that it tests no position, and its value is no step's.
pub record IsPlain (kind : Operation) : Type 0 where
  pub shown : (place : Place) (parts : List (Separator × Known)) → shown_of kind place parts ≡ record { shape = value; once = false } ∷ shown_parts true parts
  pub kept : (parts : List Operand) → own_kept kind parts ≡ []
  pub free : (parts : List Operand) → own_free kind parts ≡ []

is-plain : (kind : Operation) → plain kind ≡ true → IsPlain kind
is-plain (m.Once slot height) h = absurd (false≢true h)
is-plain m.FreeStep h = absurd (false≢true h)
is-plain m.FilteredStep h = absurd (false≢true h)
is-plain _ h = record { shown = λ place parts. refl; kept = λ parts. refl; free = λ parts. refl }

pub form-plain : (declared : Declared) (form : Form) (is_step free : Bool) (second : Option (List ℕ)) (labels : List Label) → is_filter form ≡ false →
    IsPlain (kind_of declared form is_step free second labels)
form-plain declared form is_step free second labels h = is-plain (kind_of declared form is_step free second labels)
    (plain-form declared form is_step free second labels h)

filter-keeps : (is_step free : Bool) (parts : List Operand) → own_kept (filter_kind is_step free) parts ≡ []
filter-keeps true true parts = refl
filter-keeps true false parts = refl
filter-keeps false free parts = refl

-- A form keeps nothing.
pub form-keeps : (declared : Declared) (form : Form) (is_step free : Bool) (second : Option (List ℕ)) (labels : List Label) (parts : List Operand) →
    own_kept (kind_of declared form is_step free second labels) parts ≡ []
form-keeps declared f.Filter is_step free second labels parts = filter-keeps is_step free parts
form-keeps declared form is_step free second labels parts = (form-plain declared form is_step free second labels refl).kept parts
