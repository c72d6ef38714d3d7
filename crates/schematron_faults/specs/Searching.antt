-- What private functions say while they go over the expressions of a file.
use Rattle.std.specs.Prelude.{◌≡◌, ℕ, Bool, true, false, ◌&&◌, not, List, flat_map, Option, Some, None}
use Rattle.xpath_types.specs.Scopes.{Declared}
use Rattle.schematron_texts.specs.Replacing.{Parameter, replaced}
use Rattle.schematron_meaning.specs.declared.attribute.Attribute.{Attribute}
use Rattle.schematron_meaning.specs.declared.attribute.Attribute.TheVariants as a
use Rattle.schematron_meaning.specs.declared.fault.RuleKind.TheVariants as k
use Rattle.schematron_meaning.specs.declared.fault.ExpressionFault.{ExpressionFault}
use Rattle.schematron_meaning.specs.Expansion.{File, Instance}
use Rattle.schematron_meaning.specs.Written.{Written, outer_scope, pattern_scope, written_pattern}
use Rattle.schematron_meaning.specs.Faults.{expression_fault}
use Rattle.schematron_expansion.specs.declared.found.Found.{Found}
use Rattle.schematron_faults.specs.declared.search.Search.{Search}
use Rattle.schematron_faults.specs.declared.judging.Asked.{Asked}
use Rattle.schematron_faults.specs.declared.patterns.Scopes.{Scopes}
use Rattle.schematron_faults.specs.Least.{is_sooner, is_up_to, soonest}
use Rattle.schematron_faults.specs.Each.{Each}
use Rattle.schematron_faults.specs.Staying.{blanks_of, HaveNames, is_changed, AreTexts}

-- What a search goes by stays.
pub record Keeps (before after : Search) : Type 0 where
  pub last : after.last ≡ before.last
  pub again : after.again ≡ before.again
  pub texts : after.texts ≡ before.texts

-- The expressions of the element are passed over.
abbrev pub is_passed : Search → ℕ → Bool
is_passed search n = search.again && not (is_changed search.texts n)

-- The expression is right.
abbrev pub IsRight : Written → Type 0
IsRight w = expression_fault w.is_pattern w.text w.scope ≡ None

-- The expression is right if it is passed over.
abbrev pub IsKnown : Search → Written → Type 0
IsKnown search w = is_passed search w.holder ≡ true → IsRight w

-- The search has gone over these expressions: where those that are passed over are right, it has the soonest of what it
-- had and of theirs.
pub record Goes (before after : Search) (ws : List Written) : Type 0 where
  pub best : Each (IsKnown before) ws → after.best ≡ soonest before.best before.last ws
  pub keeps : Keeps before after

-- A fault at this element would be told.
abbrev pub wants : Search → ℕ → Bool
wants search at = is_sooner search.best at && is_up_to search.last at

-- the same where all stands at one element, if one is given
abbrev pub wants_at : Search → Option ℕ → Bool
wants_at search None = true
wants_at search (Some at) = wants search at

-- Contexts are patterns.
abbrev pub is_context : Attribute → Bool
is_context a.Context = true
is_context _ = false

-- the expression of an attribute with this text
abbrev pub written_as : Asked → List Parameter → Declared → List ℕ → Written
written_as asked params scope text =
    record { stand = asked.at; holder = asked.node; attribute = asked.name; is_pattern = is_context asked.name; text = replaced params text; scope = scope }

-- the fault of an expression, if it is refused
abbrev pub found_at : Asked → Option ExpressionFault → Option Found
found_at asked None = None
found_at asked (Some fault) = Some (record { at = asked.at; fault = record { kind = k.Expression fault; node = asked.node; attribute = Some asked.name } })

-- All scopes have this.
pub record AreAll (scopes : Scopes) (outer : Declared) : Type 0 where
  pub pattern : scopes.pattern ≡ outer
  pub rule : scopes.rule ≡ outer
  pub all : scopes.all ≡ outer

-- The scopes are those in which a pattern is gone over.
pub record AreFor (file : File) (instance : Instance) (scopes : Scopes) : Type 0 where
  pub pattern : scopes.pattern ≡ outer_scope file.entries
  pub rule : scopes.rule ≡ pattern_scope file.entries (outer_scope file.entries) instance
  pub all : scopes.all ≡ pattern_scope file.entries (outer_scope file.entries) instance

-- A pattern stands behind others of which all was gone over.
pub record IsBehind (file : File) (first now : Search) (earlier : List Instance) (instance : Instance) : Type 0 where
  pub texts : AreTexts (blanks_of file.entries) file.entries now.texts
  pub again : now.again ≡ false
  pub names : HaveNames (blanks_of file.entries) instance.params
  pub earlier_names : Each (λ (other : Instance). HaveNames (blanks_of file.entries) other.params) earlier
  pub gone : Goes first now (flat_map (written_pattern file (outer_scope file.entries)) earlier)
