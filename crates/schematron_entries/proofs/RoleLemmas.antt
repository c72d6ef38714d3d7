-- Which roles stand in which.
use Rattle.std.proofs.Common.{◌≡◌, ℕ, ◌+◌, Bool, true, false, cond, ◌&&◌, ◌⊎◌, inl, inr, List, [], ◌∷◌, Option, Some, None, refl, arith}
use Rattle.std.specs.Prelude.{nat_eq}
use Rattle.std.specs.List.{list_all}
use Rattle.std.specs.Str.{bytes_eq}
use Rattle.std.proofs.lemmas.Bool.{eqb-true, false≢true, and_parts}
use Rattle.inv_base.specs.declared.tree.Kind.{Kind}
use Rattle.inv_base.specs.declared.tree.Kind.TheVariants as kinds
use Rattle.inv_base.specs.Tree.{Name, Node}
use Rattle.schematron_meaning.specs.declared.around.Around.{Around}
use Rattle.schematron_meaning.specs.declared.role.Role.{Role}
use Rattle.schematron_meaning.specs.declared.role.Role.TheVariants as r
use Rattle.schematron_meaning.specs.declared.tag.Tag.{Tag}
use Rattle.schematron_meaning.specs.declared.tag.Tag.TheVariants as t
use Rattle.schematron_meaning.specs.Words.{schematron, tag_word}
use Rattle.schematron_meaning.specs.Entries.{Given, children, role_among, pattern_role, rule_role, by_attributes, root_role, child_role, element_role}
use Rattle.schematron_meaning.specs.Entries.{text_role, named_role, role_of, around_of}
use Rattle.schematron_meaning.specs.Lookup.{is_item}
use Rattle.schematron_entries.specs.Order.{is_document}

-- how many elements an abstract rule's path has down to one of the role; 0 of what isn't on it
abbrev pub rank : Role → ℕ
rank r.Outside = 1
rank r.Schema = 2
rank r.Pattern = 3
rank r.AbstractPattern = 3
rank r.AbstractRule = 4
rank _ = 0

-- in one of the role lets, assertions or `extends` may stand
abbrev pub has_items : Role → Bool
has_items r.Schema = true
has_items r.Phase = true
has_items r.Pattern = true
has_items r.AbstractPattern = true
has_items r.Rule = true
has_items r.AbstractRule = true
has_items _ = false

-- what stands in one of the former role may be one of the latter
abbrev pub fits : Role → Role → Bool
fits p r.Outside = false
fits p r.Schema = nat_eq (rank p) 1
fits p r.Pattern = nat_eq (rank p) 2
fits p r.AbstractPattern = nat_eq (rank p) 2
fits p r.Use = nat_eq (rank p) 2
fits p r.Rule = nat_eq (rank p) 3
fits p r.AbstractRule = nat_eq (rank p) 3
fits p r.Let = has_items p
fits p r.Assert = has_items p
fits p r.Report = has_items p
fits p r.Extends = has_items p
fits p _ = true

-- ---- elements

among : (test : Role → Bool) → test r.Misplaced ≡ true → (table : List (Tag × Role)) → list_all (λ (entry : Tag × Role). test entry.1) table ≡ true →
    (local : List ℕ) → test (role_among table local) ≡ true
among test none [] h local = none
among test none (entry ∷ table) h local =
    let parts : (test entry.1 ≡ true) × (list_all (λ (other : Tag × Role). test other.1) table ≡ true) = and_parts _ _ h in
    by (bytes_eq (tag_word entry.0) local) parts.0 (among test none table parts.1 local)
  where
    by : (b : Bool) → test entry.1 ≡ true → test (role_among table local) ≡ true →
        test (elim b as (λ _. Role) [ true ↦ entry.1 | false ↦ role_among table local ]) ≡ true
    by true here there = here
    by false here there = there

pattern_fits : (p : Role) (b c : Bool) → fits p r.Pattern ≡ true → fits p (pattern_role b c) ≡ true
pattern_fits p true true h = refl
pattern_fits p true false h = h
pattern_fits p false true h = h
pattern_fits p false false h = h

rule_fits : (p : Role) (b : Bool) → fits p r.Rule ≡ true → fits p (rule_role b) ≡ true
rule_fits p true h = h
rule_fits p false h = h

attributes_fit : (p : Role) (given : List Given) (role : Role) → fits p role ≡ true → fits p (by_attributes given role) ≡ true
attributes_fit p given r.Pattern h = pattern_fits p _ _ h
attributes_fit p given r.Rule h = rule_fits p _ h
attributes_fit p given _ h = h

child_fits : (p : Role) (b : Bool) (local : List ℕ) (given : List Given) → list_all (λ (entry : Tag × Role). fits p entry.1) (children p) ≡ true →
    fits p (child_role p b local given) ≡ true
child_fits p true local given h = attributes_fit p given (role_among (children p) local) (among (fits p) refl (children p) h local)
child_fits p false local given h = refl

root_of : (c : Bool) → fits r.Outside (cond c r.Schema r.OtherRoot) ≡ true
root_of true = refl
root_of false = refl

root_fits : (b : Bool) (local : List ℕ) → fits r.Outside (root_role b local) ≡ true
root_fits b local = root_of (b && bytes_eq (tag_word t.Schema) local)

element_fits : (p : Role) (name : Name) (given : List Given) → fits p (element_role p name given) ≡ true
element_fits r.Outside name given = root_fits (bytes_eq name.uri schematron) name.local
element_fits r.OtherRoot name given = refl
element_fits r.Misplaced name given = refl
element_fits r.Passed name given = refl
element_fits p name given = child_fits p (bytes_eq name.uri schematron) name.local given refl

named_fits : (p : Role) (name : Option Name) (given : List Given) → fits p (named_role p name given) ≡ true
named_fits p None given = refl
named_fits p (Some name) given = element_fits p name given

text_fits : (p : Role) → fits p (text_role p) ≡ true
text_fits r.Assert = refl
text_fits r.Report = refl
text_fits r.Wording = refl
text_fits _ = refl

-- A node is the document's own, or its role fits what it stands in.
pub role_fits : (p : Role) (node : Node) (given : List Given) →
    ((is_document node ≡ true) × (role_of p node given ≡ r.Outside)) ⊎ (fits p (role_of p node given) ≡ true)
role_fits p node given = by node.kind
  where
    by : (kind : Kind) → ((elim kind as (λ _. Bool) [ kinds.Document ↦ true | kinds.Element ↦ false | kinds.Attribute ↦ false | kinds.Text ↦ false ] ≡ true)
        × (elim kind as (λ _. Role) [
          | kinds.Document ↦ r.Outside
          | kinds.Element ↦ named_role p node.name given
          | kinds.Attribute ↦ r.Passed
          | kinds.Text ↦ text_role p
        ] ≡ r.Outside))
        ⊎ (fits p (elim kind as (λ _. Role) [
          | kinds.Document ↦ r.Outside
          | kinds.Element ↦ named_role p node.name given
          | kinds.Attribute ↦ r.Passed
          | kinds.Text ↦ text_role p
        ]) ≡ true)
    by kinds.Document = inl (refl, refl)
    by kinds.Element = inr (named_fits p node.name given)
    by kinds.Attribute = inr refl
    by kinds.Text = inr (text_fits p)

-- ---- what follows of one that fits

pub rank_above : (p role : Role) (k : ℕ) → fits p role ≡ true → rank role ≡ k + 2 → rank p ≡ k + 1
rank_above p r.Outside k h e = absurd (omega (arith, e))
rank_above p r.Schema k h e = omega (arith, e, eqb-true (rank p) 1 h)
rank_above p r.Pattern k h e = omega (arith, e, eqb-true (rank p) 2 h)
rank_above p r.AbstractPattern k h e = omega (arith, e, eqb-true (rank p) 2 h)
rank_above p r.AbstractRule k h e = omega (arith, e, eqb-true (rank p) 3 h)
rank_above p _ k h e = absurd (omega (arith, e))

pub rank_one : (p role : Role) → fits p role ≡ true → rank role ≡ 1 → ⊥
rank_one p r.Outside h e = false≢true h
rank_one p _ h e = omega (arith, e)

pub items_in : (p role : Role) → fits p role ≡ true → is_item role ≡ true → has_items p ≡ true
items_in p r.Let h i = h
items_in p r.Assert h i = h
items_in p r.Report h i = h
items_in p r.Extends h i = h
items_in p _ h i = absurd (false≢true i)

-- ---- what a node is to those that stand in it

pub around_role : (parent : Around) (node : Node) (role : Role) → (around_of parent node role).role ≡ role
around_role parent node r.Wording = refl
around_role parent node _ = refl

pub around_number : (parent : Around) (node : Node) (role : Role) → has_items role ≡ true → (around_of parent node role).number ≡ node.number
around_number parent node r.Wording h = absurd (false≢true h)
around_number parent node _ h = refl
