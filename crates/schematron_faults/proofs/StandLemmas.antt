-- All expressions of a pattern that uses another stand at it.
use Rattle.std.proofs.Common.{◌≡◌, ℕ, Bool, true, false, List, [], ◌∷◌, map, Option, Some, None, refl, ap, sym, subst}
use Rattle.std.specs.Prelude.{flat_map}
use Rattle.xpath_types.specs.Scopes.{Declared}
use Rattle.schematron_graph.specs.declared.part.Thing.{Thing}
use Rattle.schematron_graph.specs.Rules.{things_put}
use Rattle.schematron_meaning.specs.declared.attribute.Attribute.{Attribute}
use Rattle.schematron_meaning.specs.declared.attribute.Attribute.TheVariants as a
use Rattle.schematron_meaning.specs.declared.role.Role.{Role}
use Rattle.schematron_meaning.specs.declared.role.Role.TheVariants as r
use Rattle.schematron_meaning.specs.Entries.{Entry}
use Rattle.schematron_meaning.specs.Lookup.{attribute, is_let, is_part, is_item, inside, at_node}
use Rattle.schematron_texts.specs.Replacing.{Parameter}
use Rattle.schematron_meaning.specs.Bodies.{put_by}
use Rattle.schematron_meaning.specs.Expansion.{File, Inclusion, Instance, or_itself, put_at_stand, put_at, puts_by, inclusions}
use Rattle.schematron_meaning.specs.Written.{Written, written_text, written, written_let, with_lets, lets_among, written_assertion, written_puts, written_rule}
use Rattle.schematron_meaning.specs.Written.{is_let_or_rule, written_items, pattern_scope, written_pattern}
use Rattle.schematron_faults.specs.Things.{written_put, with_entry, written_item}
use Rattle.schematron_faults.proofs.EachLemmas.{Each, each_all, each-append, each-map, each-flat_map}
use Rattle.schematron_faults.proofs.CopyLemmas.{puts_next}
use Rattle.schematron_faults.proofs.ThereLemmas.{items_next}

abbrev pub IsAt : ℕ → Written → Type 0
IsAt n w = w.stand ≡ n

at_written : (n : ℕ) (name : Attribute) (is_pattern : Bool) (stand : Option ℕ) (params : List Parameter) (scope : Declared) (e : Entry) → stand ≡ Some n →
    Each (IsAt n) (written name is_pattern stand params scope e)
at_written n name is_pattern stand params scope e h = by (attribute name e)
  where
    by : (text : Option (List ℕ)) → Each (IsAt n) (written_text name is_pattern stand params scope e text)
    by None = tt
    by (Some text) = (ap (λ (s : Option ℕ). or_itself s e.number) h, tt)

at_put : (n : ℕ) (es : List Entry) (params : List Parameter) (all before : Declared) (inclusion : Inclusion) → inclusion.stand ≡ Some n →
    Each (IsAt n) (written_put es params all before inclusion)
at_put n es params all before inclusion h = by (is_let inclusion.entry.role)
  where
    by : (test : Bool) → Each (IsAt n) (elim test as (λ _. List Written) [
      | true ↦ written_let inclusion.stand params before inclusion.entry
      | false ↦ written_assertion es params all inclusion
    ])
    by true = at_written n a.Value false inclusion.stand params before inclusion.entry h
    by false = each-append (IsAt n) (written a.Test false inclusion.stand params all inclusion.entry)
        (flat_map (λ (part : Entry). written a.Select false inclusion.stand params all part) (inside is_part es inclusion.entry.number))
        (at_written n a.Test false inclusion.stand params all inclusion.entry h)
        (each-flat_map (IsAt n) (λ (part : Entry). written a.Select false inclusion.stand params all part) (inside is_part es inclusion.entry.number)
        (each_all (λ (part : Entry). Each (IsAt n) (written a.Select false inclusion.stand params all part)) (inside is_part es inclusion.entry.number)
        (λ part. at_written n a.Select false inclusion.stand params all part h)))

abbrev PutAt : ℕ → Inclusion → Type 0
PutAt n inclusion = inclusion.stand ≡ Some n

at_puts : (n : ℕ) (es : List Entry) (params : List Parameter) (all before : Declared) (ps : List Inclusion) → Each (PutAt n) ps →
    Each (IsAt n) (written_puts es params all before ps)
at_puts n es params all before [] h = tt
at_puts n es params all before (inclusion ∷ ps) h = subst (Each (IsAt n)) (sym (puts_next es params all before inclusion ps))
    (each-append (IsAt n) (written_put es params all before inclusion) (written_puts es params all (with_entry params before inclusion.entry) ps)
    (at_put n es params all before inclusion h.0)
    (at_puts n es params all (with_entry params before inclusion.entry) ps h.1))

put_at_all : (file : File) (n : ℕ) (rule : Option ℕ) → Each (PutAt n) (put_at file (Some n) rule)
put_at_all file n None = tt
put_at_all file n (Some rule) = each-flat_map (PutAt n) (λ (thing : Thing). map (put_at_stand (Some n)) (at_node file.entries thing.number))
    (things_put file.bodies rule)
    (each_all (λ (thing : Thing). Each (PutAt n) (map (put_at_stand (Some n)) (at_node file.entries thing.number))) (things_put file.bodies rule)
    (λ thing. each-map (PutAt n) (put_at_stand (Some n)) (at_node file.entries thing.number)
    (each_all (λ (e : Entry). PutAt n (put_at_stand (Some n) e)) (at_node file.entries thing.number) (λ e. refl))))

at_by : (role : Role) (file : File) (n : ℕ) (e : Entry) → Each (PutAt n) (puts_by role file (Some n) e)
at_by r.Extends file n e = put_at_all file n (put_by file.rules e)
at_by _ file n e = (refl, tt)

puts_at : (file : File) (n k : ℕ) → Each (PutAt n) (inclusions file (Some n) k)
puts_at file n k = each-flat_map (PutAt n) (λ (e : Entry). puts_by e.role file (Some n) e) (inside is_item file.entries k)
    (each_all (λ (e : Entry). Each (PutAt n) (puts_by e.role file (Some n) e)) (inside is_item file.entries k) (λ e. at_by e.role file n e))

at_rule : (file : File) (instance : Instance) (n : ℕ) (outer : Declared) (rule : Entry) → instance.stand ≡ Some n →
    Each (IsAt n) (written_rule file instance outer rule)
at_rule file instance n outer rule h = each-append (IsAt n) (written a.Context true instance.stand instance.params outer rule) _
    (at_written n a.Context true instance.stand instance.params outer rule h)
    (at_puts n file.entries instance.params (with_lets instance.params outer (lets_among (inclusions file instance.stand rule.number))) outer
    (inclusions file instance.stand rule.number)
    (subst (λ (s : Option ℕ). Each (PutAt n) (inclusions file s rule.number)) (sym h) (puts_at file n rule.number)))

at_items : (file : File) (instance : Instance) (n : ℕ) (all before : Declared) (items : List Entry) → instance.stand ≡ Some n →
    Each (IsAt n) (written_items file instance all before items)
at_items file instance n all before [] h = tt
at_items file instance n all before (e ∷ items) h = subst (Each (IsAt n)) (sym (items_next file instance all before e items))
    (each-append (IsAt n) (written_item file instance all before e) (written_items file instance all (with_entry instance.params before e) items)
    (by (is_let e.role))
    (at_items file instance n all (with_entry instance.params before e) items h))
  where
    by : (test : Bool) → Each (IsAt n) (elim test as (λ _. List Written) [
      | true ↦ written_let instance.stand instance.params before e
      | false ↦ written_rule file instance all e
    ])
    by true = at_written n a.Value false instance.stand instance.params before e h
    by false = at_rule file instance n all e h

pub at_pattern : (file : File) (instance : Instance) (n : ℕ) (outer : Declared) → instance.stand ≡ Some n → Each (IsAt n) (written_pattern file outer instance)
at_pattern file instance n outer h = at_items file instance n (pattern_scope file.entries outer instance) outer
    (inside is_let_or_rule file.entries instance.body) h
