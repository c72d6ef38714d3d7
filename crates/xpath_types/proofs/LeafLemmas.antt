-- Variables that are read: their facts, and what is refused.
use Rattle.std.proofs.Common.{◌≡◌, ℕ, Bool, true, false, not, ◌||◌, List, ◌++◌, Option, Some, None, map, refl, sym, ap, ◌∙◌, append-nil, is_some, if◌then◌else◌}
use Rattle.xpath_tokens.specs.declared.token.Name.{Name}
use Rattle.xpath_types.specs.declared.fault.TypeKind.TheVariants as r
use Rattle.xpath_types.specs.declared.kinds.Kinds.{Kinds}
use Rattle.xpath_types.specs.declared.refusals.Refusal.{Refusal}
use Rattle.xpath_types.specs.declared.variables.Reading.{Reading}
use Rattle.xpath_types.specs.Kinds.{all_kinds}
use Rattle.xpath_types.specs.Scopes.{Declared, declares, written_name}
use Rattle.xpath_types.specs.Refusals.{first_of}
use Rattle.xpath_types.specs.Judging.{is_empty, standing_at, unless, prefix_refusals, variable_kinds, kinds_or_all}
use Rattle.xpath_types.specs.Parts.{no_uses}
use Rattle.xpath_types.specs.Variables.{innermost}
use Rattle.xpath_types.specs.Walking.{height_of, facts_of, variable_facts, variable_refusals_in}
use Rattle.xpath_types.proofs.RefusalLemmas.{first-standing, not-empty-append}
use Rattle.xpath_types.proofs.VariableLemmas.{kinds-read, kinds-outside, kinds-declared}

abbrev outer : Declared → List (List ℕ × Kinds)
outer declared = map (λ name. (name, all_kinds)) declared.variables

module _ (declared : Declared) (bound : List (List ℕ × Kinds)) (name : Name) (text : List ℕ) (is : text ≡ written_name name) where
  module _ (reading : Reading) (found : Some reading ≡ innermost text bound) where
    here : innermost (written_name name) bound ≡ Some reading
    here = sym (found ∙ ap (λ t. innermost t bound) is)

    known : variable_kinds (written_name name) (bound ++ outer declared) ≡ Some reading.kinds
    known = kinds-read (written_name name) bound (outer declared) reading here

    none_more : prefix_refusals declared name ++
        unless (is_some (variable_kinds (written_name name) (bound ++ outer declared))) r.UndeclaredVariable ≡ prefix_refusals declared name
    none_more = ap (λ kinds. prefix_refusals declared name ++ unless (is_some kinds) r.UndeclaredVariable) known ∙ append-nil (prefix_refusals declared name)

    pub bound-facts : (unbound : Bool) → unbound ≡ not (is_empty (prefix_refusals declared name)) →
        facts_of reading.kinds unbound no_uses (Some reading.height) ≡ variable_facts declared bound name
    bound-facts unbound told =
        ap (λ refused. facts_of reading.kinds refused no_uses (Some reading.height)) (told ∙ ap (λ refusals. not (is_empty refusals)) (sym none_more))
        ∙ (ap (λ kinds. facts_of (kinds_or_all kinds)
        (not (is_empty (prefix_refusals declared name ++
        unless (is_some (variable_kinds (written_name name) (bound ++ outer declared))) r.UndeclaredVariable))) no_uses (Some reading.height)) (sym known)
        ∙ ap (λ found. facts_of (kinds_or_all (variable_kinds (written_name name) (bound ++ outer declared)))
        (not (is_empty (prefix_refusals declared name ++
        unless (is_some (variable_kinds (written_name name) (bound ++ outer declared))) r.UndeclaredVariable))) no_uses (Some (height_of found)))
        (sym here))

    pub bound-first : (first after : Option Refusal) (token : ℕ) → after ≡ first_of first (standing_at token (prefix_refusals declared name)) →
        after ≡ first_of first (standing_at token (variable_refusals_in declared bound name))
    bound-first first after token e = e ∙ ap (λ refusals. first_of first (standing_at token refusals)) (sym none_more)

  module _ (found : None ≡ innermost text bound) (is_declared : Bool) (declares-it : is_declared ≡ declares declared text) where
    nowhere : innermost (written_name name) bound ≡ None
    nowhere = sym (found ∙ ap (λ t. innermost t bound) is)

    by_scope : variable_kinds (written_name name) (bound ++ outer declared) ≡ (if is_declared then Some all_kinds else None)
    by_scope = kinds-outside (written_name name) bound (outer declared) nowhere ∙ (kinds-declared (written_name name) declared.variables
        ∙ ap (λ b. if b then Some all_kinds else None) (sym (declares-it ∙ ap (declares declared) is)))

    some_declared : (b : Bool) → is_some (if b then Some all_kinds else None) ≡ b
    some_declared true = refl
    some_declared false = refl

    all_declared : (b : Bool) → kinds_or_all (if b then Some all_kinds else None) ≡ all_kinds
    all_declared true = refl
    all_declared false = refl

    told_so : prefix_refusals declared name ++ unless (is_some (variable_kinds (written_name name) (bound ++ outer declared)))
        r.UndeclaredVariable ≡ prefix_refusals declared name ++ unless is_declared r.UndeclaredVariable
    told_so = ap (λ b. prefix_refusals declared name ++ unless b r.UndeclaredVariable) (ap is_some by_scope ∙ some_declared is_declared)

    pub free-facts : (unbound undeclared : Bool) → unbound ≡ not (is_empty (prefix_refusals declared name)) →
        undeclared ≡ not (is_empty (unless is_declared r.UndeclaredVariable))
        → facts_of all_kinds (unbound || undeclared) no_uses (Some 0) ≡ variable_facts declared bound name
    free-facts unbound undeclared told also =
        ap (λ refused. facts_of all_kinds refused no_uses (Some 0))
        (ap (λ b. b || undeclared) told ∙ (ap (λ b. not (is_empty (prefix_refusals declared name)) || b) also
        ∙ (sym (not-empty-append (prefix_refusals declared name) (unless is_declared r.UndeclaredVariable)) ∙
        ap (λ refusals. not (is_empty refusals)) (sym told_so))))
        ∙ (ap (λ kinds. facts_of kinds
        (not (is_empty (prefix_refusals declared name ++
        unless (is_some (variable_kinds (written_name name) (bound ++ outer declared))) r.UndeclaredVariable))) no_uses (Some 0))
        (sym (ap kinds_or_all by_scope ∙ all_declared is_declared))
        ∙ ap (λ found. facts_of (kinds_or_all (variable_kinds (written_name name) (bound ++ outer declared)))
        (not (is_empty (prefix_refusals declared name ++
        unless (is_some (variable_kinds (written_name name) (bound ++ outer declared))) r.UndeclaredVariable))) no_uses (Some (height_of found)))
        (sym nowhere))

    pub free-first : (first between after : Option Refusal) (token : ℕ) → between ≡ first_of first (standing_at token (prefix_refusals declared name)) →
        after ≡ first_of between (standing_at token (unless is_declared r.UndeclaredVariable))
        → after ≡ first_of first (standing_at token (variable_refusals_in declared bound name))
    free-first first between after token e f = f ∙ (ap (λ first. first_of first (standing_at token (unless is_declared r.UndeclaredVariable))) e
        ∙ (sym (first-standing first token (prefix_refusals declared name) (unless is_declared r.UndeclaredVariable)) ∙
        ap (λ refusals. first_of first (standing_at token refusals)) (sym told_so)))
