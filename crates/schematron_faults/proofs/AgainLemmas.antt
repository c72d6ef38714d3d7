-- What was right at a use of an abstract pattern is right at a later one, but for what parameters change.
use Rattle.std.proofs.Common.{◌≡◌, ℕ, ◌<◌, ◌≤◌, Bool, true, false, List, [], ◌∷◌, ◌++◌, length, take, get_or, map, Option, Some, None, refl, ap, sym, ◌∙◌}
use Rattle.std.proofs.Common.{subst, arith}
use Rattle.std.specs.Prelude.{◌&&◌, not, nat_eq, flat_map, find, cond, option_to_list}
use Rattle.std.specs.List.{list_any}
use Rattle.std.proofs.lemmas.Bool.{false≢true, and_parts}
use Rattle.std.proofs.lemmas.Bool.Decides.{nat_tests}
use Rattle.xpath_types.specs.Scopes.{Declared}
use Rattle.schematron_graph.specs.declared.part.Thing.{Thing}
use Rattle.schematron_graph.specs.Rules.{things_put}
use Rattle.schematron_meaning.specs.declared.attribute.Attribute.{Attribute}
use Rattle.schematron_meaning.specs.declared.attribute.Attribute.TheVariants as a
use Rattle.schematron_meaning.specs.declared.role.Role.{Role}
use Rattle.schematron_meaning.specs.declared.role.Role.TheVariants as r
use Rattle.schematron_meaning.specs.declared.fault.ExpressionFault.{ExpressionFault}
use Rattle.schematron_meaning.specs.Entries.{Entry}
use Rattle.schematron_meaning.specs.Lookup.{attribute, is_let, is_part, is_item, inside, at_node}
use Rattle.schematron_texts.specs.Replacing.{Parameter, replaced}
use Rattle.schematron_meaning.specs.Bodies.{put_by}
use Rattle.schematron_meaning.specs.Expansion.{File, Inclusion, Instance, put_at_stand, put_at, puts_by, inclusions, instances}
use Rattle.schematron_meaning.specs.Written.{Written, name_of, declare, with_let, with_lets, lets_among, written_text, written, written_let, written_assertion}
use Rattle.schematron_meaning.specs.Written.{written_puts, written_rule, is_let_or_rule, written_items, outer_scope, pattern_scope, written_pattern}
use Rattle.schematron_meaning.specs.Faults.{expression_fault, fault_of_written}
use Rattle.schematron_expansion.specs.declared.found.Found.{Found}
use Rattle.schematron_expansion.specs.declared.instances.Instance.{Instance as Made}
use Rattle.schematron_expansion.specs.Found.{first_at, sooner}
use Rattle.schematron_expansion.specs.Seen.{seen_instance}
use Rattle.schematron_faults.specs.declared.search.Search.{Search}
use Rattle.schematron_faults.specs.declared.texts.Texts.{Texts}
use Rattle.schematron_faults.specs.Least.{found_of, least, is_sooner, is_up_to, up_to, soonest}
use Rattle.schematron_faults.specs.Staying.{blanks_of, Stays, HaveNames, is_expression, ExpressionsStay, NameStays, is_changed, AreTexts}
use Rattle.schematron_faults.specs.Again.{stands_up_to, is_use, is_again}
use Rattle.schematron_faults.specs.Searching.{IsRight, IsKnown, Goes, IsBehind, wants_at}
use Rattle.schematron_faults.specs.Things.{written_put, with_entry, written_item}
use Rattle.schematron_faults.proofs.EachLemmas.{Each, each_all, each-weaker, each-filter, each-map, each-flat_map, each-joined, each-any, each-both}
use Rattle.schematron_faults.proofs.CoverLemmas.{Covers, covers-sooner, covers_behind, soonest-append}
use Rattle.schematron_faults.proofs.CopyLemmas.{up_to_before, puts_next, lets_next}
use Rattle.schematron_faults.proofs.ThereLemmas.{items_next}
use Rattle.schematron_faults.proofs.StandLemmas.{IsAt, at_pattern}
use Rattle.schematron_faults.proofs.SearchLemmas.{none_passed}
use Rattle.schematron_faults.proofs.StayLemmas.{all_names, stays_in}
use Rattle.schematron_faults.proofs.LoopLemmas.{each_taken, each_item}

-- ---- two lists side by side

abbrev Pairs : {X Y : Type 0} → (X → Y → Type 0) → List X → List Y → Type 0
Pairs R [] [] = Unit {0}
Pairs R [] (y ∷ ys) = ⊥
Pairs R (x ∷ xs) [] = ⊥
Pairs R (x ∷ xs) (y ∷ ys) = R x y × Pairs R xs ys

pairs-append : {X Y : Type 0} (R : X → Y → Type 0) (xs xs' : List X) (ys ys' : List Y) → Pairs R xs ys → Pairs R xs' ys' → Pairs R (xs ++ xs') (ys ++ ys')
pairs-append R [] xs' [] ys' h k = k
pairs-append R [] xs' (y ∷ ys) ys' h k = absurd h
pairs-append R (x ∷ xs) xs' [] ys' h k = absurd h
pairs-append R (x ∷ xs) xs' (y ∷ ys) ys' h k = (h.0, pairs-append R xs xs' ys ys' h.1 k)

pairs-flat_map : {X Y Z : Type 0} (R : Y → Z → Type 0) (f : X → List Y) (g : X → List Z) (xs : List X) → Each (λ (x : X). Pairs R (f x) (g x)) xs
    → Pairs R (flat_map f xs) (flat_map g xs)
pairs-flat_map R f g [] h = tt
pairs-flat_map R f g (x ∷ xs) h = pairs-append R (f x) (flat_map f xs) (g x) (flat_map g xs) h.0 (pairs-flat_map R f g xs h.1)

pairs-map : {X Y Z : Type 0} (R : Y → Z → Type 0) (f : X → Y) (g : X → Z) (xs : List X) → ((x : X) → R (f x) (g x)) → Pairs R (map f xs) (map g xs)
pairs-map R f g [] h = tt
pairs-map R f g (x ∷ xs) h = (h x, pairs-map R f g xs h)

each_of_pairs : {X Y : Type 0} (P : X → Type 0) (Q : Y → Type 0) (xs : List X) (ys : List Y) → Pairs (λ (x : X) (y : Y). Q y → P x) xs ys → Each Q ys
    → Each P xs
each_of_pairs P Q [] [] h k = tt
each_of_pairs P Q [] (y ∷ ys) h k = tt
each_of_pairs P Q (x ∷ xs) [] h k = absurd h
each_of_pairs P Q (x ∷ xs) (y ∷ ys) h k = (h.0 k.0, each_of_pairs P Q xs ys h.1 k.1)

-- ---- the same expressions with other parameters

-- Neither of two uses changes the expressions of the element if it is one of these, nor the name of a let.
record IsSteady (is_so : ℕ → Bool) (ps qs : List Parameter) (e : Entry) : Type 0 where
  texts : is_so e.number ≡ true → (name : Attribute) → is_expression name ≡ true → (text : List ℕ) → attribute name e ≡ Some text
      → replaced ps text ≡ replaced qs text
  name : is_let e.role ≡ true → name_of ps e ≡ name_of qs e

-- The first is right if the second is, if it is an expression of one of these elements.
abbrev Repeats : (ℕ → Bool) → Written → Written → Type 0
Repeats is_so w v = IsRight v → is_so w.holder ≡ true → IsRight w

again_written : (is_so : ℕ → Bool) (ps qs : List Parameter) (name : Attribute) (is_pattern : Bool) (s t : Option ℕ) (scope : Declared) (e : Entry)
    → is_expression name ≡ true → IsSteady is_so ps qs e
    → Pairs (Repeats is_so) (written name is_pattern s ps scope e) (written name is_pattern t qs scope e)
again_written is_so ps qs name is_pattern s t scope e x steady = by (attribute name e) refl
  where
    by : (text : Option (List ℕ)) → attribute name e ≡ text
        → Pairs (Repeats is_so) (written_text name is_pattern s ps scope e text) (written_text name is_pattern t qs scope e text)
    by None h = tt
    by (Some text) h = ((λ right so. subst (λ (made : List ℕ). expression_fault is_pattern made scope ≡ None) (sym (steady.texts so name x text h)) right), tt)

again_parts : (is_so : ℕ → Bool) (ps qs : List Parameter) (s t : Option ℕ) (all : Declared) (parts : List Entry) → Each (IsSteady is_so ps qs) parts
    → Pairs (Repeats is_so) (flat_map (λ (part : Entry). written a.Select false s ps all part) parts) (flat_map
    (λ (part : Entry). written a.Select false t qs all part) parts)
again_parts is_so ps qs s t all parts steady = pairs-flat_map (Repeats is_so) (λ (part : Entry). written a.Select false s ps all part)
    (λ (part : Entry). written a.Select false t qs all part) parts
    (each-weaker (IsSteady is_so ps qs) (λ (part : Entry). Pairs (Repeats is_so) (written a.Select false s ps all part)
    (written a.Select false t qs all part)) parts
    (λ part h. again_written is_so ps qs a.Select false s t all part refl h) steady)

steady_inside : (is_so : ℕ → Bool) (ps qs : List Parameter) (test : Role → Bool) (n : ℕ) (es : List Entry) → Each (IsSteady is_so ps qs) es
    → Each (λ (e : Entry). IsSteady is_so ps qs e × ((test e.role && nat_eq e.parent n) ≡ true)) (inside test es n)
steady_inside is_so ps qs test n es steady = each-filter (IsSteady is_so ps qs) (λ (e : Entry). test e.role && nat_eq e.parent n) es steady

again_put : (is_so : ℕ → Bool) (ps qs : List Parameter) (es : List Entry) (all before : Declared) (inclusion : Inclusion) (t : Option ℕ)
    → Each (IsSteady is_so ps qs) es
    → IsSteady is_so ps qs inclusion.entry
    → Pairs (Repeats is_so) (written_put es ps all before inclusion) (written_put es qs all before (put_at_stand t inclusion.entry))
again_put is_so ps qs es all before inclusion t steady h = by (is_let inclusion.entry.role)
  where
    by : (test : Bool)
        → Pairs (Repeats is_so) (elim test as
        (λ _. List Written) [ true ↦ written_let inclusion.stand ps before inclusion.entry | false ↦ written_assertion es ps all inclusion ])
        (elim test as (λ _. List Written) [
          | true ↦ written_let t qs before inclusion.entry
          | false ↦ written_assertion es qs all (put_at_stand t
              inclusion.entry)
        ])
    by true = again_written is_so ps qs a.Value false inclusion.stand t before inclusion.entry refl h
    by false = pairs-append (Repeats is_so) (written a.Test false inclusion.stand ps all inclusion.entry) _ (written a.Test false t qs all inclusion.entry) _
        (again_written is_so ps qs a.Test false inclusion.stand t all inclusion.entry refl h)
        (again_parts is_so ps qs inclusion.stand t all (inside is_part es inclusion.entry.number)
        (each-weaker (λ (e : Entry). IsSteady is_so ps qs e × ((is_part e.role && nat_eq e.parent inclusion.entry.number) ≡ true)) (IsSteady is_so ps qs)
        (inside is_part es inclusion.entry.number) (λ e k. k.0)
        (steady_inside is_so ps qs is_part inclusion.entry.number es steady)))

same_entry_scope : (is_so : ℕ → Bool) (ps qs : List Parameter) (before : Declared) (e : Entry) → IsSteady is_so ps qs e
    → with_entry ps before e ≡ with_entry qs before e
same_entry_scope is_so ps qs before e steady = by (is_let e.role) refl
  where
    by : (test : Bool) → is_let e.role ≡ test
        → (elim test as (λ _. Declared) [ true ↦ with_let ps before e | false ↦ before ]) ≡ (elim test as
        (λ _. Declared) [ true ↦ with_let qs before e | false ↦ before ])
    by true t = ap (declare before) (steady.name t)
    by false t = refl

-- ---- what is put in a rule

abbrev SamePut : Inclusion → Inclusion → Type 0
SamePut p q = q.entry ≡ p.entry

same_put_at : (file : File) (s t : ℕ) (rule : Option ℕ) → Pairs SamePut (put_at file (Some s) rule) (put_at file (Some t) rule)
same_put_at file s t None = tt
same_put_at file s t (Some rule) = pairs-flat_map SamePut (λ (thing : Thing). map (put_at_stand (Some s)) (at_node file.entries thing.number))
    (λ (thing : Thing). map (put_at_stand (Some t)) (at_node file.entries thing.number)) (things_put file.bodies rule)
    (each_all (λ (thing : Thing). Pairs SamePut (map (put_at_stand (Some s)) (at_node file.entries thing.number)) (map (put_at_stand (Some t))
    (at_node file.entries thing.number))) (things_put file.bodies rule)
    (λ thing. pairs-map SamePut (put_at_stand (Some s)) (put_at_stand (Some t)) (at_node file.entries thing.number) (λ e. refl)))

same_by : (role : Role) (file : File) (s t : ℕ) (e : Entry) → Pairs SamePut (puts_by role file (Some s) e) (puts_by role file (Some t) e)
same_by r.Extends file s t e = same_put_at file s t (put_by file.rules e)
same_by _ file s t e = (refl, tt)

same_puts : (file : File) (s t n : ℕ) → Pairs SamePut (inclusions file (Some s) n) (inclusions file (Some t) n)
same_puts file s t n = pairs-flat_map SamePut (λ (e : Entry). puts_by e.role file (Some s) e) (λ (e : Entry). puts_by e.role file (Some t) e)
    (inside is_item file.entries n)
    (each_all (λ (e : Entry). Pairs SamePut (puts_by e.role file (Some s) e) (puts_by e.role file (Some t) e)) (inside is_item file.entries n)
    (λ e. same_by e.role file s t e))

-- what holds of each entry of a file holds of each that is put
each_found : (P : Entry → Type 0) (test : Entry → Bool) (es : List Entry) → Each P es → Each P (option_to_list (find test es))
each_found P test [] h = tt
each_found P test (e ∷ es) h = by (test e) (each_found P test es h.1)
  where
    by : (b : Bool) → Each P (option_to_list (find test es)) → Each P (option_to_list (cond b (Some e) (find test es)))
    by true rest = (h.0, tt)
    by false rest = rest

each_put_at : (P : Entry → Type 0) (file : File) (stand rule : Option ℕ) → Each P file.entries
    → Each (λ (inclusion : Inclusion). P inclusion.entry) (put_at file stand rule)
each_put_at P file stand None h = tt
each_put_at P file stand (Some rule) h = each-flat_map (λ (inclusion : Inclusion). P inclusion.entry) (λ (thing : Thing). map (put_at_stand stand)
    (at_node file.entries thing.number)) (things_put file.bodies rule)
    (each_all (λ (thing : Thing). Each (λ (inclusion : Inclusion). P inclusion.entry) (map (put_at_stand stand) (at_node file.entries thing.number)))
    (things_put file.bodies rule)
    (λ thing. each-map (λ (inclusion : Inclusion). P inclusion.entry) (put_at_stand stand) (at_node file.entries thing.number) (each_found P
    (λ (e : Entry). nat_eq e.number thing.number) file.entries h)))

each_by : (P : Entry → Type 0) (role : Role) (file : File) (stand : Option ℕ) (e : Entry) → Each P file.entries → P e
    → Each (λ (inclusion : Inclusion). P inclusion.entry) (puts_by role file stand e)
each_by P r.Extends file stand e h k = each_put_at P file _ (put_by file.rules e) h
each_by P _ file stand e h k = (k, tt)

each_put : (P : Entry → Type 0) (file : File) (stand : Option ℕ) (n : ℕ) → Each P file.entries
    → Each (λ (inclusion : Inclusion). P inclusion.entry) (inclusions file stand n)
each_put P file stand n h = each-flat_map (λ (inclusion : Inclusion). P inclusion.entry) (λ (e : Entry). puts_by e.role file stand e) (inside is_item
    file.entries n)
    (each-weaker (λ (e : Entry). P e × ((is_item e.role && nat_eq e.parent n) ≡ true)) (λ (e : Entry). Each (λ (inclusion : Inclusion). P inclusion.entry)
    (puts_by e.role file stand e)) (inside is_item file.entries n)
    (λ e k. each_by P e.role file stand e h k.0) (each-filter P (λ (e : Entry). is_item e.role && nat_eq e.parent n) file.entries h))

module _ (is_so : ℕ → Bool) (ps qs : List Parameter) where
  same_lets : (scope : Declared) (found others : List Inclusion) → Pairs SamePut found others
      → Each (λ (inclusion : Inclusion). IsSteady is_so ps qs inclusion.entry) found
      → with_lets ps scope (lets_among found) ≡ with_lets qs scope (lets_among others)
  same_lets scope [] [] h k = refl
  same_lets scope [] (q ∷ others) h k = absurd h
  same_lets scope (p ∷ found) [] h k = absurd h
  same_lets scope (p ∷ found) (q ∷ others) h k = lets_next ps scope p found
      ∙ (same_lets (with_entry ps scope p.entry) found others h.1 k.1
      ∙ (ap (λ (d : Declared). with_lets qs d (lets_among others)) (same_entry_scope is_so ps qs scope p.entry k.0 ∙ ap (with_entry qs scope) (sym h.0)) ∙ sym
      (lets_next qs scope q others)))

  again_puts : (es : List Entry) (all before : Declared) (found others : List Inclusion) → Each (IsSteady is_so ps qs) es → Pairs SamePut found others
      → Each (λ (inclusion : Inclusion). IsSteady is_so ps qs inclusion.entry) found
      → Pairs (Repeats is_so) (written_puts es ps all before found) (written_puts es qs all before others)
  again_puts es all before [] [] steady h k = tt
  again_puts es all before [] (q ∷ others) steady h k = absurd h
  again_puts es all before (p ∷ found) [] steady h k = absurd h
  again_puts es all before (p ∷ found) (q ∷ others) steady h k =
      subst (λ (ws : List Written). Pairs (Repeats is_so) ws (written_puts es qs all before (q ∷ others))) (sym (puts_next es ps all before p found))
      (subst (λ (ws : List Written). Pairs (Repeats is_so) (written_put es ps all before p ++ written_puts es ps all (with_entry ps before p.entry) found) ws)
      (sym (puts_next es qs all before q others))
      (pairs-append (Repeats is_so) (written_put es ps all before p) (written_puts es ps all (with_entry ps before p.entry) found)
      (written_put es qs all before q) (written_puts es qs all (with_entry qs before q.entry) others)
      (subst (λ (e : Entry). Pairs (Repeats is_so) (written_put es ps all before p) (written_put es qs all before (put_at_stand q.stand e))) (sym h.0)
      (again_put is_so ps qs es all before p q.stand steady k.0))
      (subst (λ (d : Declared). Pairs (Repeats is_so) (written_puts es ps all (with_entry ps before p.entry) found) (written_puts es qs all d others))
      (same_entry_scope is_so ps qs before p.entry k.0 ∙ ap (with_entry qs before) (sym h.0))
      (again_puts es all (with_entry ps before p.entry) found others steady h.1 k.1))))

-- ---- a pattern

again_rule : (is_so : ℕ → Bool) (file : File) (i j : Instance) (s t : ℕ) (outer : Declared) (rule : Entry) → i.stand ≡ Some s → j.stand ≡ Some t
    → Each (IsSteady is_so i.params j.params) file.entries
    → IsSteady is_so i.params j.params rule → Pairs (Repeats is_so) (written_rule file i outer rule) (written_rule file j outer rule)
again_rule is_so file i j s t outer rule p q steady h =
    let found : List Inclusion = inclusions file i.stand rule.number in
    let others : List Inclusion = inclusions file j.stand rule.number in
    let same : Pairs SamePut found others = subst (λ (x : Option ℕ). Pairs SamePut (inclusions file x rule.number) others) (sym p) (subst
    (λ (y : Option ℕ). Pairs SamePut (inclusions file (Some s) rule.number) (inclusions file y rule.number)) (sym q) (same_puts file s t rule.number)) in
    let each : Each (λ (inclusion : Inclusion). IsSteady is_so i.params j.params inclusion.entry) found = each_put
    (IsSteady is_so i.params j.params) file i.stand rule.number steady in
    pairs-append (Repeats is_so) (written a.Context true i.stand i.params outer rule) (written_puts file.entries i.params (with_lets i.params outer
    (lets_among found)) outer found)
    (written a.Context true j.stand j.params outer rule) (written_puts file.entries j.params (with_lets j.params outer (lets_among others)) outer others)
    (again_written is_so i.params j.params a.Context true i.stand j.stand outer rule refl h)
    (subst (λ (d : Declared). Pairs (Repeats is_so) (written_puts file.entries i.params (with_lets i.params outer (lets_among found)) outer found)
    (written_puts file.entries j.params d outer others))
    (same_lets is_so i.params j.params outer found others same each)
    (again_puts is_so i.params j.params file.entries (with_lets i.params outer (lets_among found)) outer found others steady same each))

again_items : (is_so : ℕ → Bool) (file : File) (i j : Instance) (s t : ℕ) (all before : Declared) (items : List Entry) → i.stand ≡ Some s → j.stand ≡ Some t
    → Each (IsSteady is_so i.params j.params) file.entries
    → Each (IsSteady is_so i.params j.params) items → Pairs (Repeats is_so) (written_items file i all before items) (written_items file j all before items)
again_items is_so file i j s t all before [] p q steady h = tt
again_items is_so file i j s t all before (e ∷ items) p q steady h =
    subst (λ (ws : List Written). Pairs (Repeats is_so) ws (written_items file j all before (e ∷ items))) (sym (items_next file i all before e items))
    (subst (λ (ws : List Written). Pairs (Repeats is_so) (written_item file i all before e ++ written_items file i all
    (with_entry i.params before e) items) ws) (sym (items_next file j all before e items))
    (pairs-append (Repeats is_so) (written_item file i all before e) (written_items file i all (with_entry i.params before e) items)
    (written_item file j all before e) (written_items file j all (with_entry j.params before e) items)
    (by (is_let e.role))
    (subst (λ (d : Declared). Pairs (Repeats is_so) (written_items file i all (with_entry i.params before e) items) (written_items file j all d items))
    (same_entry_scope is_so i.params j.params before e h.0)
    (again_items is_so file i j s t all (with_entry i.params before e) items p q steady h.1))))
  where
    by : (test : Bool)
        → Pairs (Repeats is_so) (elim test as (λ _. List Written) [ true ↦ written_let i.stand i.params before e | false ↦ written_rule file i all e ])
        (elim test as (λ _. List Written) [ true ↦ written_let j.stand j.params before e | false ↦ written_rule file j all e ])
    by true = again_written is_so i.params j.params a.Value false i.stand j.stand before e refl h.0
    by false = again_rule is_so file i j s t all e p q steady h.0

same_scope : (is_so : ℕ → Bool) (ps qs : List Parameter) (n : ℕ) (scope : Declared) (lets : List Entry)
    → Each (λ (e : Entry). IsSteady is_so ps qs e × ((is_let e.role && nat_eq e.parent n) ≡ true)) lets
    → with_lets ps scope lets ≡ with_lets qs scope lets
same_scope is_so ps qs n scope [] h = refl
same_scope is_so ps qs n scope (e ∷ lets) h = same_scope is_so ps qs n (with_let ps scope e) lets h.1
    ∙ ap (λ (d : Declared). with_lets qs d lets) (ap (declare scope) (h.0.0.name ((and_parts (is_let e.role) (nat_eq e.parent n) h.0.1).0)))

again_pattern : (is_so : ℕ → Bool) (file : File) (i j : Instance) (s t : ℕ) (outer : Declared) → i.stand ≡ Some s → j.stand ≡ Some t → i.body ≡ j.body
    → Each (IsSteady is_so i.params j.params) file.entries
    → Pairs (Repeats is_so) (written_pattern file outer i) (written_pattern file outer j)
again_pattern is_so file i j s t outer p q b steady =
    subst (λ (n : ℕ). Pairs (Repeats is_so) (written_pattern file outer i) (written_items file j (with_lets j.params outer
    (inside is_let file.entries n)) outer (inside is_let_or_rule file.entries n))) b
    (subst (λ (d : Declared). Pairs (Repeats is_so) (written_pattern file outer i) (written_items file j d outer (inside is_let_or_rule file.entries i.body)))
    (same_scope is_so i.params j.params i.body outer (inside is_let file.entries i.body)
    (steady_inside is_so i.params j.params is_let i.body file.entries steady))
    (again_items is_so file i j s t (pattern_scope file.entries outer i) outer (inside is_let_or_rule file.entries i.body) p q steady
    (each-weaker (λ (e : Entry). IsSteady is_so i.params j.params e × ((is_let_or_rule e.role && nat_eq e.parent i.body) ≡ true))
    (IsSteady is_so i.params j.params) (inside is_let_or_rule file.entries i.body) (λ e k. k.0)
    (steady_inside is_so i.params j.params is_let_or_rule i.body file.entries steady))))

-- ---- what no parameter changes

abbrev is_same : Texts → ℕ → Bool
is_same texts n = not (is_changed texts n)

not_false : (b : Bool) → not b ≡ true → b ≡ false
not_false true h = absurd (false≢true h)
not_false false h = refl

steady_one : (es : List Entry) (texts : Texts) (ps qs : List Parameter) (e : Entry) → HaveNames (blanks_of es) ps → HaveNames (blanks_of es) qs
    → (is_changed texts e.number ≡ false → ExpressionsStay (blanks_of es) e) → NameStays (blanks_of es) e → IsSteady (is_same texts) ps qs e
steady_one es texts ps qs e p q expressions name = record {
  texts = λ so which x text h.
      let stays : Stays (blanks_of es) text = expressions (not_false (is_changed texts e.number) so) which x text h in
      stays_in es ps text p stays ∙ sym (stays_in es qs text q stays);
  name = λ t. by (attribute a.Name e) (name t);
}
  where
    by : (given : Option (List ℕ)) → ((text : List ℕ) → given ≡ Some text → Stays (blanks_of es) text)
        → (elim given as (λ _. Option (List ℕ)) [ None ↦ None | Some text ↦ Some (replaced ps text) ]) ≡ (elim given as (λ _. Option
        (List ℕ)) [ None ↦ None | Some text ↦ Some (replaced qs text) ])
    by None h = refl
    by (Some text) h = ap Some (stays_in es ps text p (h text refl) ∙ sym (stays_in es qs text q (h text refl)))

steady_all : (es : List Entry) (texts : Texts) (ps qs : List Parameter) → AreTexts (blanks_of es) es texts → texts.names_stay ≡ true
    → HaveNames (blanks_of es) ps → HaveNames (blanks_of es) qs
    → Each (IsSteady (is_same texts) ps qs) es
steady_all es texts ps qs are stay p q = each-weaker (λ (e : Entry). (is_changed texts e.number ≡ false → ExpressionsStay (blanks_of es) e) × NameStays
    (blanks_of es) e) (IsSteady (is_same texts) ps qs) es
    (λ e h. steady_one es texts ps qs e p q h.0 h.1)
    (each-both (λ (e : Entry). is_changed texts e.number ≡ false → ExpressionsStay (blanks_of es) e) (NameStays (blanks_of es)) es are.expressions
    (are.names stay))

-- ---- what stands before an element of which a fault would be told is right

covers_itself : (best x : Option Found) → Covers (sooner best x) x
covers_itself best None = tt
covers_itself best (Some f) = covers_behind best f f (omega arith)

covered_one : (best : Option Found) (last : Option ℕ) (w : Written) → is_up_to last w.stand ≡ true → Covers (soonest best last (w ∷ [])) (found_of w)
covered_one best last w t = subst (λ (c : Bool). Covers (sooner best (least (cond c (w ∷ []) []))) (found_of w)) (sym t) (by (found_of w))
  where
    by : (x : Option Found) → Covers (sooner best (sooner x None)) x
    by None = tt
    by (Some f) = covers_itself best (Some f)

covered_all : (best : Option Found) (last : Option ℕ) (ws : List Written)
    → Each (λ (w : Written). is_up_to last w.stand ≡ true → Covers (soonest best last ws) (found_of w)) ws
covered_all best last [] = tt
covered_all best last (w ∷ ws) = (
  (λ t. subst (λ (x : Option Found). Covers x (found_of w)) (sym (soonest-append best last (w ∷ []) ws)) (covers-sooner (soonest best last (w ∷ [])) (least
      (up_to last ws)) (found_of w) (covered_one best last w t))),
  subst (λ (x : Option Found). Each (λ (v : Written). is_up_to last v.stand ≡ true → Covers x (found_of v)) ws) (sym (soonest-append best last (w ∷ []) ws))
      (covered_all (soonest best last (w ∷ [])) last ws),
)

right_one : (best : Option Found) (n : ℕ) (w : Written) → is_sooner best n ≡ true → w.stand ≤ n → Covers best (found_of w) → IsRight w
right_one best n w s l c = by (expression_fault w.is_pattern w.text w.scope) refl c
  where
    at : (found : Option Found) (f : Found) → is_sooner found n ≡ true → f.at ≤ n → Covers found (Some f) → ⊥
    at None f s l c = c
    at (Some b) f s l c = grind (arith, nat_tests)

    by : (x : Option ExpressionFault) → expression_fault w.is_pattern w.text w.scope ≡ x → Covers best (first_at w.stand (fault_of_written w x)) → IsRight w
    by None e c = e
    by (Some f) e c = absurd (at best _ s l c)

right_before : (best : Option Found) (last : Option ℕ) (n : ℕ) (ws : List Written) → (is_sooner (soonest best last ws) n && is_up_to last n) ≡ true
    → Each (λ (w : Written). w.stand ≤ n → IsRight w) ws
right_before best last n ws h =
    let both = and_parts (is_sooner (soonest best last ws) n) (is_up_to last n) h in
    each-weaker (λ (w : Written). is_up_to last w.stand ≡ true → Covers (soonest best last ws) (found_of w)) (λ (w : Written). w.stand ≤ n → IsRight w) ws
    (λ w c l. right_one (soonest best last ws) n w both.0 l (c (up_to_before last w.stand n l both.1))) (covered_all best last ws)

-- ---- a pattern behind another use

-- what is known of a pattern that was gone over
abbrev WasRight : File → Declared → ℕ → Instance → Type 0
WasRight file outer n j = HaveNames (blanks_of file.entries) j.params × Each (λ (w : Written). w.stand ≤ n → IsRight w) (written_pattern file outer j)

use_parts : (n : ℕ) (stand : Option ℕ) → stands_up_to n stand ≡ true → (m : ℕ) × (stand ≡ Some m) × (m ≤ n)
use_parts n None h = absurd (false≢true h)
use_parts n (Some m) h = (m, refl, grind (arith, nat_tests))

same_body : (m n : ℕ) → nat_eq m n ≡ true → n ≡ m
same_body m n h = grind (arith, nat_tests)

known_use : (file : File) (outer : Declared) (texts : Texts) (n : ℕ) (i j : Instance) → i.stand ≡ Some n
    → AreTexts (blanks_of file.entries) file.entries texts → texts.names_stay ≡ true → HaveNames (blanks_of file.entries) i.params
    → is_use i.body n j ≡ true → WasRight file outer n j → Each (λ (w : Written). is_same texts w.holder ≡ true → IsRight w) (written_pattern file outer i)
known_use file outer texts n i j stand are stay names uses was =
    let both = and_parts (nat_eq j.body i.body) (stands_up_to n j.stand) uses in
    let at = use_parts n j.stand both.1 in
    each_of_pairs (λ (w : Written). is_same texts w.holder ≡ true → IsRight w) IsRight (written_pattern file outer i) (written_pattern file outer j)
    (again_pattern (is_same texts) file i j n at.0 outer stand at.1 (same_body j.body i.body both.0)
    (steady_all file.entries texts i.params j.params are stay names was.0))
    (each-weaker (λ (w : Written). IsAt at.0 w × (w.stand ≤ n → IsRight w)) IsRight (written_pattern file outer j) (λ w h. h.1 (subst (λ (k : ℕ). k ≤ n)
    (sym h.0) at.2))
    (each-both (IsAt at.0) (λ (w : Written). w.stand ≤ n → IsRight w) (written_pattern file outer j) (at_pattern file j at.0 outer at.1) was.1))

known_again : (file : File) (outer : Declared) (s : Search) (i : Instance) (earlier : List Instance) (stand : Option ℕ) → i.stand ≡ stand
    → AreTexts (blanks_of file.entries) file.entries s.texts
    → s.texts.names_stay ≡ true → HaveNames (blanks_of file.entries) i.params → Each (λ (j : Instance). HaveNames
    (blanks_of file.entries) j.params) earlier → is_again earlier i ≡ true
    → ((n : ℕ) → stand ≡ Some n → Each (λ (w : Written). w.stand ≤ n → IsRight w) (flat_map (written_pattern file outer) earlier))
    → Each (IsKnown (record s { again = true })) (written_pattern file outer i)
known_again file outer s i earlier None e are stay names all again right = absurd (false≢true (sym (ap (λ (x : Option ℕ). elim x as
    (λ _. Bool) [ None ↦ false | Some n ↦ list_any (is_use i.body n) earlier ]) e) ∙ again))
known_again file outer s i earlier (Some n) e are stay names all again right =
    let one = each-any (WasRight file outer n) (is_use i.body n) earlier
    (each-both (λ (j : Instance). HaveNames (blanks_of file.entries) j.params) (λ (j : Instance). Each (λ (w : Written). w.stand ≤ n → IsRight w)
    (written_pattern file outer j)) earlier all
    (each-joined (λ (w : Written). w.stand ≤ n → IsRight w) (written_pattern file outer) earlier (right n refl)))
    (sym (ap (λ (x : Option ℕ). elim x as (λ _. Bool) [ None ↦ false | Some m ↦ list_any (is_use i.body m) earlier ]) e) ∙ again) in
    known_use file outer s.texts n i one.0 e are stay names one.1 one.2

-- What was right where all before was gone over.
right_gone : (file : File) (outer : Declared) (first s : Search) (earlier : List Instance) (stand : Option ℕ) (n : ℕ) → s.again ≡ false
    → wants_at s stand ≡ true → stand ≡ Some n
    → Goes first s (flat_map (written_pattern file outer) earlier) → Each (λ (w : Written). w.stand ≤ n → IsRight w) (flat_map
    (written_pattern file outer) earlier)
right_gone file outer first s earlier stand n a wanted e gone =
    let ws : List Written = flat_map (written_pattern file outer) earlier in
    let best : s.best ≡ soonest first.best first.last ws = gone.best (none_passed first ws (sym gone.keeps.again ∙ a)) in
    right_before first.best first.last n ws
    ((λ k. is_sooner (sym best k) n && is_up_to (sym gone.keeps.last k) n) ∙ (sym (ap (wants_at s) e) ∙ wanted))

known_where : (file : File) (outer : Declared) (s : Search) (again : Bool) (ws : List Written)
    → (again ≡ true → Each (IsKnown (record s { again = true })) ws) → Each (IsKnown (record s { again = again })) ws
known_where file outer s true ws h = h refl
known_where file outer s false ws h = none_passed (record s { again = false }) ws refl

pub goes_instance : (file : File) (instance : Instance) (earlier : List Instance) (first s u : Search) (again : Bool) → again ≡ is_again earlier instance
    → wants_at s instance.stand ≡ true
    → IsBehind file first s earlier instance → Goes (record s { again = s.texts.names_stay && again }) u (written_pattern file
    (outer_scope file.entries) instance)
    → Goes s (record u { again = false }) (written_pattern file (outer_scope file.entries) instance)
goes_instance file instance earlier first s u again is wanted behind goes =
    let outer : Declared = outer_scope file.entries in
    record {
      best = λ known. goes.best (known_where file outer s (s.texts.names_stay && again) (written_pattern file outer instance)
          (λ t. let both = and_parts s.texts.names_stay again t in
          known_again file outer s instance earlier instance.stand refl behind.texts both.0 behind.names behind.earlier_names (sym is ∙ both.1)
          (λ n e. right_gone file outer first s earlier instance.stand n behind.again wanted e behind.gone)));
      keeps = record { last = goes.keeps.last; again = sym behind.again; texts = goes.keeps.texts };
    }

-- ---- the patterns in their order

pub behind_turn : (file : File) (xs ys : List Made) (k : ℕ) (x : Made) (first s : Search) → ys ≡ xs → map seen_instance xs ≡ instances file.entries
    → k < length xs → x ≡ get_or xs k x
    → first.again ≡ false → AreTexts (blanks_of file.entries) file.entries first.texts → Goes first s (flat_map (written_pattern file
    (outer_scope file.entries)) (map seen_instance (take k xs)))
    → IsBehind file first s (map seen_instance (take k ys)) (seen_instance x)
behind_turn file xs ys k x first s same made l at again are gone =
    let HasOwn : Instance → Type 0 = λ j. HaveNames (blanks_of file.entries) j.params in
    let names : Each HasOwn (map seen_instance xs) = subst (Each HasOwn) (sym made) (all_names file.entries) in
    subst (λ (zs : List Made). IsBehind file first s (map seen_instance (take k zs)) (seen_instance x)) (sym same) (record {
      texts = subst (AreTexts (blanks_of file.entries) file.entries) (sym gone.keeps.texts) are;
      again = gone.keeps.again ∙ again;
      names = subst (λ (y : Made). HasOwn (seen_instance y)) (sym at) (each_item HasOwn seen_instance xs k x names l);
      earlier_names = each_taken HasOwn seen_instance xs k names;
      gone = gone;
    })
