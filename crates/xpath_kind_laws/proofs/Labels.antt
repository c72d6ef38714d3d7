-- Which labels can't stand behind which.
use Rattle.std.proofs.Common.{◌≡◌, Bool, true, false, Option, Some, None, true≢false}
use Rattle.std.proofs.lemmas.Bool.{false≢true}
use Rattle.xpath_tokens.specs.declared.token.Name.{Name}
use Rattle.xpath_grammar.specs.declared.operators.Binder.{Binder}
use Rattle.xpath_grammar.specs.declared.operators.Production.{Production}
use Rattle.xpath_grammar.specs.declared.operators.Production.TheVariants as p
use Rattle.xpath_grammar.specs.declared.expr.Form.{Form}
use Rattle.xpath_grammar.specs.declared.expr.Form.TheVariants as m
use Rattle.xpath_grammar.specs.declared.expr.Label.{Label}
use Rattle.xpath_grammar.specs.declared.expr.Label.TheVariants as k
use Rattle.xpath_grammar.specs.Grammar as g

-- no first part stands behind another one of a filter
pub no_second_first : (behind : Label) → g.goes_on_filter behind k.First ≡ true → ⊥
no_second_first k.First h = false≢true h
no_second_first k.Predicate h = false≢true h
no_second_first k.Again h = false≢true h
no_second_first _ h = false≢true h

-- only `for`, `some` and `every` bind variables

no_condition_binds : (behind : Label) (lead : Option Binder) (name : Name) → g.goes_on_conditional behind (k.Binding lead name) ≡ true → ⊥
no_condition_binds k.Condition lead name h = false≢true h
no_condition_binds k.Then lead name h = false≢true h
no_condition_binds _ lead name h = false≢true h

no_filter_binds : (behind : Label) (lead : Option Binder) (name : Name) → g.goes_on_filter behind (k.Binding lead name) ≡ true → ⊥
no_filter_binds k.First lead name h = false≢true h
no_filter_binds k.Predicate lead name h = false≢true h
no_filter_binds k.Again lead name h = false≢true h
no_filter_binds _ lead name h = false≢true h

abbrev pub is_binding : Form → Bool
is_binding (m.Bound binder) = true
is_binding form = false

pub no_other_binds : (form : Form) (behind : Option Label) (lead : Option Binder) (name : Name) → is_binding form ≡ false
    → g.follows form behind (k.Binding lead name) ≡ true → ⊥
no_other_binds (m.Bound binder) behind lead name other h = true≢false other
no_other_binds m.Conditional (Some behind) lead name other h = no_condition_binds behind lead name h
no_other_binds m.Filter (Some behind) lead name other h = no_filter_binds behind lead name h
no_other_binds form None lead name other h = false≢true h
no_other_binds form (Some behind) lead name other h = false≢true h

-- `/` joins the parts of paths alone
pub no_slash : (production : Production) → g.is_path production ≡ false → g.is_production production (Some p.Path) ≡ true → ⊥
no_slash p.Path other h = true≢false other
no_slash _ other h = false≢true h
