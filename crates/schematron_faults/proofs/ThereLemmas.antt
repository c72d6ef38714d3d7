-- Faults of expressions stand at entries of the file, and tell some.
use Rattle.std.proofs.Common.{◌≡◌, ℕ, Bool, true, false, List, [], ◌∷◌, ◌++◌, map, Option, Some, None, refl, ap, sym, subst}
use Rattle.std.specs.Prelude.{◌&&◌, nat_eq, filter, flat_map, is_some, option_to_list}
use Rattle.xpath_types.specs.Scopes.{Declared}
use Rattle.schematron_graph.specs.declared.part.Thing.{Thing}
use Rattle.schematron_graph.specs.Rules.{things_put}
use Rattle.schematron_meaning.specs.declared.attribute.Attribute.{Attribute}
use Rattle.schematron_meaning.specs.declared.attribute.Attribute.TheVariants as a
use Rattle.schematron_meaning.specs.declared.role.Role.{Role}
use Rattle.schematron_meaning.specs.declared.role.Role.TheVariants as r
use Rattle.schematron_meaning.specs.Entries.{Entry}
use Rattle.schematron_meaning.specs.Lookup.{attribute, the_schema, is_let, is_phase, is_part, is_item, of_role, inside, at_node}
use Rattle.schematron_texts.specs.Replacing.{Parameter}
use Rattle.schematron_meaning.specs.Bodies.{put_by}
use Rattle.schematron_meaning.specs.Expansion.{File, Inclusion, Instance, or_itself, put_at_stand, put_at, puts_by, inclusions, used_by, pattern_used}
use Rattle.schematron_meaning.specs.Expansion.{instance_by}
use Rattle.schematron_meaning.specs.Expansion.{instance_of, instances}
use Rattle.schematron_meaning.specs.Written.{Written, prefixes, written_text, written, written_let, written_lets, with_let, with_lets, lets_among}
use Rattle.schematron_meaning.specs.Written.{written_assertion, written_puts, written_rule, is_let_or_rule, written_items, pattern_scope, written_pattern}
use Rattle.schematron_meaning.specs.Written.{schema_scope, outer_scope, written_phases, all_written}
use Rattle.schematron_entries.specs.Order.{NumbersRise}
use Rattle.schematron_faults.specs.Read.{entry_at, IsOf}
use Rattle.schematron_faults.specs.Things.{written_put, with_entry, written_item}
use Rattle.schematron_faults.proofs.EachLemmas.{Each, each_all, each-weaker, each-append, each-filter, each-map, each-flat_map}
use Rattle.schematron_faults.proofs.JoinLemmas.{Rising, rising, IsThere}
use Rattle.schematron_faults.proofs.CopyLemmas.{puts_next}
use Rattle.schematron_faults.proofs.PutLemmas.{each_of, found_of_number}

-- What is told of it: where it stands, and what holds it.
pub record IsTold (es : List Entry) (w : Written) : Type 0 where
  pub stand : IsThere es w.stand
  pub holder : IsThere es w.holder

abbrev pub AreTold : List Entry → List Written → Type 0
AreTold es ws = Each (IsTold es) ws

abbrev StandsThere : List Entry → Option ℕ → Type 0
StandsThere es None = Unit {0}
StandsThere es (Some n) = IsThere es n

abbrev pub EntryThere : List Entry → Entry → Type 0
EntryThere es e = IsThere es e.number

-- ---- entries

of_there : (es : List Entry) (e : Entry) → IsOf es e → EntryThere es e
of_there es e h = ap is_some h

pub entries_there : (es : List Entry) → Rising es → Each (EntryThere es) es
entries_there es h = each-weaker (IsOf es) (EntryThere es) es (of_there es) (each_of es h)

filtered_there : (es : List Entry) (test : Entry → Bool) → Rising es → Each (EntryThere es) (filter test es)
filtered_there es test h = each-weaker (λ (e : Entry). IsOf es e × (test e ≡ true)) (EntryThere es) (filter test es) (λ e k. of_there es e k.0)
    (each-filter (IsOf es) test es (each_of es h))

inside_there : (is_so : Role → Bool) (es : List Entry) (n : ℕ) → Rising es → Each (EntryThere es) (inside is_so es n)
inside_there is_so es n h = filtered_there es (λ (e : Entry). is_so e.role && nat_eq e.parent n) h

itself_there : (es : List Entry) (stand : Option ℕ) (n : ℕ) → StandsThere es stand → IsThere es n → IsThere es (or_itself stand n)
itself_there es None n h k = k
itself_there es (Some m) n h k = h

node_there : (es : List Entry) (n : ℕ) → Each (EntryThere es) (at_node es n)
node_there es n = by (entry_at es n) refl
  where
    by : (o : Option Entry) → entry_at es n ≡ o → Each (EntryThere es) (option_to_list o)
    by None h = tt
    by (Some e) h = (of_there es e (found_of_number es n e h), tt)

-- ---- expressions

told_written : (es : List Entry) (name : Attribute) (is_pattern : Bool) (stand : Option ℕ) (params : List Parameter) (scope : Declared) (e : Entry) →
    StandsThere es stand → EntryThere es e
    → AreTold es (written name is_pattern stand params scope e)
told_written es name is_pattern stand params scope e h k = by (attribute name e)
  where
    by : (text : Option (List ℕ)) → AreTold es (written_text name is_pattern stand params scope e text)
    by None = tt
    by (Some text) = (record { stand = itself_there es stand e.number h k; holder = k }, tt)

told_lets : (es : List Entry) (before : Declared) (lets : List Entry) → Each (EntryThere es) lets → AreTold es (written_lets before lets)
told_lets es before [] h = tt
told_lets es before (e ∷ lets) h = each-append (IsTold es) (written_let None [] before e) (written_lets (with_let [] before e) lets)
    (told_written es a.Value false None [] before e tt h.0) (told_lets es (with_let [] before e) lets h.1)

told_parts : (es : List Entry) (stand : Option ℕ) (params : List Parameter) (all : Declared) (parts : List Entry) → StandsThere es stand →
    Each (EntryThere es) parts
    → AreTold es (flat_map (λ (part : Entry). written a.Select false stand params all part) parts)
told_parts es stand params all parts h k = each-flat_map (IsTold es) (λ (part : Entry). written a.Select false stand params all part) parts
    (each-weaker (EntryThere es) (λ (part : Entry). AreTold es (written a.Select false stand params all part)) parts
    (λ part there. told_written es a.Select false stand params all part h there) k)

abbrev PutThere : List Entry → Inclusion → Type 0
PutThere es inclusion = StandsThere es inclusion.stand × EntryThere es inclusion.entry

told_put : (es : List Entry) (params : List Parameter) (all before : Declared) (inclusion : Inclusion) → Rising es → PutThere es inclusion →
    AreTold es (written_put es params all before inclusion)
told_put es params all before inclusion rise h = by (is_let inclusion.entry.role)
  where
    by : (test : Bool) → AreTold es (elim test as (λ _. List Written) [
      | true ↦ written_let inclusion.stand params before inclusion.entry
      | false ↦ written_assertion es params all inclusion
    ])
    by true = told_written es a.Value false inclusion.stand params before inclusion.entry h.0 h.1
    by false = each-append (IsTold es) (written a.Test false inclusion.stand params all inclusion.entry)
        (flat_map (λ (part : Entry). written a.Select false inclusion.stand params all part) (inside is_part es inclusion.entry.number))
        (told_written es a.Test false inclusion.stand params all inclusion.entry h.0 h.1)
        (told_parts es inclusion.stand params all (inside is_part es inclusion.entry.number) h.0 (inside_there is_part es inclusion.entry.number rise))

told_puts : (es : List Entry) (params : List Parameter) (all before : Declared) (ps : List Inclusion) → Rising es → Each (PutThere es) ps →
    AreTold es (written_puts es params all before ps)
told_puts es params all before [] rise h = tt
told_puts es params all before (inclusion ∷ ps) rise h = subst (AreTold es) (sym (puts_next es params all before inclusion ps))
    (each-append (IsTold es) (written_put es params all before inclusion) (written_puts es params all (with_entry params before inclusion.entry) ps)
    (told_put es params all before inclusion rise h.0)
    (told_puts es params all (with_entry params before inclusion.entry) ps rise h.1))

there_put_at : (file : File) (n : ℕ) (rule : Option ℕ) → IsThere file.entries n → Each (PutThere file.entries) (put_at file (Some n) rule)
there_put_at file n None h = tt
there_put_at file n (Some rule) h = each-flat_map (PutThere file.entries) (λ (thing : Thing). map (put_at_stand (Some n)) (at_node file.entries thing.number))
    (things_put file.bodies rule)
    (each_all (λ (thing : Thing). Each (PutThere file.entries) (map (put_at_stand (Some n)) (at_node file.entries thing.number))) (things_put file.bodies rule)
    (λ thing. each-map (PutThere file.entries) (put_at_stand (Some n)) (at_node file.entries thing.number)
    (each-weaker (EntryThere file.entries) (λ (e : Entry). PutThere file.entries (put_at_stand (Some n) e)) (at_node file.entries thing.number) (λ e k. (h, k))
    (node_there file.entries thing.number))))

there_by : (role : Role) (file : File) (stand : Option ℕ) (e : Entry) → StandsThere file.entries stand → EntryThere file.entries e →
    Each (PutThere file.entries) (puts_by role file stand e)
there_by r.Extends file stand e h k = there_put_at file (or_itself stand e.number) (put_by file.rules e) (itself_there file.entries stand e.number h k)
there_by _ file stand e h k = ((h, k), tt)

puts_there : (file : File) (stand : Option ℕ) (n : ℕ) → Rising file.entries → StandsThere file.entries stand
    → Each (PutThere file.entries) (inclusions file stand n)
puts_there file stand n rise h = each-flat_map (PutThere file.entries) (λ (e : Entry). puts_by e.role file stand e) (inside is_item file.entries n)
    (each-weaker (EntryThere file.entries) (λ (e : Entry). Each (PutThere file.entries) (puts_by e.role file stand e)) (inside is_item file.entries n)
    (λ e k. there_by e.role file stand e h k) (inside_there is_item file.entries n rise))

told_rule : (file : File) (instance : Instance) (outer : Declared) (rule : Entry) → Rising file.entries → StandsThere file.entries instance.stand →
    EntryThere file.entries rule → AreTold file.entries (written_rule file instance outer rule)
told_rule file instance outer rule rise h k = each-append (IsTold file.entries) (written a.Context true instance.stand instance.params outer rule) _
    (told_written file.entries a.Context true instance.stand instance.params outer rule h k)
    (told_puts file.entries instance.params (with_lets instance.params outer (lets_among (inclusions file instance.stand rule.number))) outer
    (inclusions file instance.stand rule.number) rise (puts_there file instance.stand rule.number rise h))

pub items_next : (file : File) (instance : Instance) (all before : Declared) (e : Entry) (items : List Entry)
    → written_items file instance all before (e ∷ items) ≡ written_item file instance all before e ++
    written_items file instance all (with_entry instance.params before e) items
items_next file instance all before e items = by (is_let e.role)
  where
    by : (test : Bool)
        → (elim test as (λ _. List Written) [
          | true ↦ written_let instance.stand instance.params before e ++
              written_items file instance all (with_let instance.params before e) items
          | false ↦ written_rule file instance all e ++
              written_items file instance all before items
        ])
        ≡ (elim test as (λ _. List Written) [ true ↦ written_let instance.stand instance.params before e | false ↦ written_rule file instance all e ])
        ++ written_items file instance all (elim test as (λ _. Declared) [ true ↦ with_let instance.params before e | false ↦ before ]) items
    by true = refl
    by false = refl

told_items : (file : File) (instance : Instance) (all before : Declared) (items : List Entry) → Rising file.entries → StandsThere file.entries instance.stand →
    Each (EntryThere file.entries) items
    → AreTold file.entries (written_items file instance all before items)
told_items file instance all before [] rise h k = tt
told_items file instance all before (e ∷ items) rise h k = subst (AreTold file.entries) (sym (items_next file instance all before e items))
    (each-append (IsTold file.entries) (written_item file instance all before e) (written_items file instance all (with_entry instance.params before e) items)
    (by (is_let e.role))
    (told_items file instance all (with_entry instance.params before e) items rise h k.1))
  where
    by : (test : Bool) → AreTold file.entries (elim test as (λ _. List Written) [
      | true ↦ written_let instance.stand instance.params before e
      | false ↦ written_rule file instance all e
    ])
    by true = told_written file.entries a.Value false instance.stand instance.params before e h k.0
    by false = told_rule file instance all e rise h k.0

told_pattern : (file : File) (outer : Declared) (instance : Instance) → Rising file.entries → StandsThere file.entries instance.stand →
    AreTold file.entries (written_pattern file outer instance)
told_pattern file outer instance rise h = told_items file instance (pattern_scope file.entries outer instance) outer
    (inside is_let_or_rule file.entries instance.body) rise h (inside_there is_let_or_rule file.entries instance.body rise)

abbrev InstanceThere : List Entry → Instance → Type 0
InstanceThere es instance = StandsThere es instance.stand

used_there : (es : List Entry) (e : Entry) (body : Option Entry) → EntryThere es e → Each (InstanceThere es) (used_by es e body)
used_there es e None h = tt
used_there es e (Some body) h = (h, tt)

instance_there : (role : Role) (es : List Entry) (e : Entry) → EntryThere es e → Each (InstanceThere es) (instance_by role es e)
instance_there r.Pattern es e h = (tt, tt)
instance_there r.Use es e h = used_there es e (pattern_used es e) h
instance_there _ es e h = tt

instances_there : (es : List Entry) → Rising es → Each (InstanceThere es) (instances es)
instances_there es rise = each-flat_map (InstanceThere es) (instance_of es) es
    (each-weaker (EntryThere es) (λ (e : Entry). Each (InstanceThere es) (instance_of es e)) es (λ e h. instance_there e.role es e h) (entries_there es rise))

-- all expressions of a file
pub told_all : (file : File) → NumbersRise file.entries → AreTold file.entries (all_written file)
unfolding all_written
told_all file rise =
    let es : List Entry = file.entries in
    let up : Rising es = rising es rise in
    each-append (IsTold es) (written_lets (prefixes es) (inside is_let es the_schema))
    (written_phases es ++ flat_map (written_pattern file (outer_scope es)) (instances es))
    (told_lets es (prefixes es) (inside is_let es the_schema) (inside_there is_let es the_schema up))
    (each-append (IsTold es) (written_phases es) (flat_map (written_pattern file (outer_scope es)) (instances es))
    (each-flat_map (IsTold es) (λ (phase : Entry). written_lets (schema_scope es) (inside is_let es phase.number)) (of_role is_phase es)
    (each_all (λ (phase : Entry). AreTold es (written_lets (schema_scope es) (inside is_let es phase.number))) (of_role is_phase es)
    (λ phase. told_lets es (schema_scope es) (inside is_let es phase.number) (inside_there is_let es phase.number up))))
    (each-flat_map (IsTold es) (written_pattern file (outer_scope es)) (instances es)
    (each-weaker (InstanceThere es) (λ (instance : Instance). AreTold es (written_pattern file (outer_scope es) instance)) (instances es)
    (λ instance h. told_pattern file (outer_scope es) instance up h) (instances_there es up))))
