-- What is asked of an invoice so that values tell rows apart is known of it, where its entries are as asked.
use Rattle.std.proofs.Common.{◌≡◌, ℕ, Bool, true, false, not, ◌&&◌, ◌||◌, List, [], ◌∷◌, map, flat_map, Option, Some, None, inl, inr, refl, sym, ap, ◌∙◌, subst}
use Rattle.std.proofs.Common.{arith}
use Rattle.std.specs.Prelude.{is_some}
use Rattle.std.specs.Str.{bytes_eq}
use Rattle.std.specs.Cmp.Lexicographic.{pointwise}
use Rattle.std.proofs.lemmas.Bool.{false≢true}
use Rattle.std.proofs.lemmas.Bool.Decides.{nat_tests}
use Rattle.std.proofs.lemmas.Slice.Eq.{bytes_eq-Decides}
use Rattle.term_table.specs.declared.groups.Group.{Group}
use Rattle.term_table.specs.declared.terms.Term.{Term}
use Rattle.term_table.specs.declared.contexts.Context.{Context}
use Rattle.term_table.specs.Contexts.{root_context, outer_context, slot_group, same_groups}
use Rattle.term_table.proofs.GroupLemmas.{same_group_itself}
use Rattle.term_table.specs.SemanticModel.{same_term}
use Rattle.term_table.specs.Rows.{data_type_of}
use Rattle.inv_terms.specs.declared.values.Value.{Value}
use Rattle.inv_terms.specs.declared.entries.Entry.{Entry}
use Rattle.inv_terms.specs.Values.{trimmed, spelled}
use Rattle.inv_terms.specs.Listing.{IsInvoice, Fits, value_in}
use Rattle.bind_rows.specs.declared.names.Leaf.{Leaf}
use Rattle.bind_rows.specs.declared.names.Leaf.TheVariants as leaves
use Rattle.bind_rows.specs.declared.rows.Content.{Content}
use Rattle.bind_rows.specs.declared.rows.Content.TheVariants as contents
use Rattle.bind_rows.specs.declared.rows.Form.TheVariants as forms
use Rattle.bind_rows.specs.declared.rows.Row.{Row}
use Rattle.bind_rows.specs.Same.{same_step}
use Rattle.bind_meaning.specs.Elements.{is_full}
use Rattle.bind_meaning.specs.Trees.{spots}
use Rattle.binding_laws.specs.Apart.{Unlike, Together, is_of_group}
use Rattle.binding_laws.specs.Plain.{is_element, stands_nowhere_else}
use Rattle.binding_laws.specs.Known.{is_trimmed, is_presence_asked, texts_asked, unlike_of, is_main_of, together_by, together_of, at_attributes, known_of}
use Rattle.binding_laws.specs.Known.{is_other_value, has_parts, is_as_known}
use Rattle.binding_laws.proofs.ListLemmas.{both-true, not-true}
use Rattle.binding_laws.proofs.ReachLemmas.{Among, all-is}
use Rattle.binding_laws.proofs.GoneLemmas.{none-of-none}
use Rattle.binding_laws.proofs.KnownLemmas.{Knows}
use Rattle.binding_laws.proofs.FormLemmas.{Laws, whole-back, back-full, trimmed-as-it-is}
use Rattle.binding_laws.proofs.PlaceLemmas.{of-flat_map, of-map}
use Rattle.binding_laws.proofs.PlainLemmas.{IsReachable, spots-reach, context-there, placed-at, fits-among, at-value}

-- ---- which terms are asked about

record IsOfAttribute {X : Type 0} (f : Row → Term → List ℕ → List X) (row : Row) (x : X) : Type 0 where
  term : Term
  local : List ℕ
  data_type : is_trimmed (data_type_of term) ≡ true
  among : Among x (f row term local)

of-attributes : {X : Type 0} (f : Row → Term → List ℕ → List X) (row : Row) (x : X) → Among x (at_attributes f row) → IsOfAttribute f row x
of-attributes {X} f row x a = go row.content row.leaf a
  where
    by-data_type : (term : Term) (local : List ℕ) (b : Bool) → is_trimmed (data_type_of term) ≡ b → Among x (elim b [ true ↦ f row term local | false ↦ [] ]) →
        IsOfAttribute f row x
    by-data_type term local true e m = record { term = term; local = local; data_type = e; among = m }
    by-data_type term local false e m = absurd m

    go : (content : Content) (leaf : Leaf) → Among x (elim content [
      | (contents.Term term) ↦ elim leaf [
        | leaves.Element ↦ []
        | (leaves.Attribute local) ↦ elim (is_trimmed (data_type_of term)) [ true ↦ f row term local | false ↦ [] ]
      ]
      | (contents.Constant text) ↦ []
    ])
        → IsOfAttribute f row x
    go (contents.Term term) leaves.Element m = absurd m
    go (contents.Term term) (leaves.Attribute local) m = by-data_type term local (is_trimmed (data_type_of term)) refl m
    go (contents.Constant text) leaf m = absurd m

unlike-data_type : (rows : List Row) (u : Unlike) → Among u (known_of rows).unlike → is_trimmed (data_type_of u.term) ≡ true
unlike-data_type rows u a =
    let w = of-flat_map (at_attributes (unlike_of rows)) u rows a in
    let v = of-attributes (unlike_of rows) w.0 u w.1.1 in
    let y = of-flat_map (λ (other : Row). map (λ text. record { term = v.term; text = text }) (texts_asked v.local other.path w.0.path)) u rows v.among in
    let z = of-map (λ text. record { term = v.term; text = text }) u (texts_asked v.local y.0.path w.0.path) y.1.1 in
    ap (λ (x : Unlike). is_trimmed (data_type_of x.term)) (sym z.1.1) ∙ v.data_type

record IsTogether (x : Together) : Type 0 where
  data_type : is_trimmed (data_type_of x.part) ≡ true
  nowhere : stands_nowhere_else x.term (Some x.group) None ≡ true

together-is : (rows : List Row) (x : Together) → Among x (known_of rows).together → IsTogether x
together-is rows x a =
    let w = of-flat_map (at_attributes (together_of rows)) x rows a in
    let v = of-attributes (together_of rows) w.0 x w.1.1 in
    by-group w.0 v.term v.local v.data_type w.0.outer v.among
  where
    by-main : (row : Row) (group : Group) (part : Term) → is_trimmed (data_type_of part) ≡ true → (main : Row) (content : Content)
        → Among x (elim content [
          | (contents.Term term) ↦ elim (is_main_of row group main term) [ true ↦ record { group = group; term = term; part = part } ∷ [] | false ↦ [] ]
          | (contents.Constant text) ↦ []
        ])
        → IsTogether x
    by-main row group part data_type main (contents.Constant text) m = absurd m
    by-main row group part data_type main (contents.Term term) m = go (is_main_of row group main term) refl m
      where
        go : (b : Bool) → is_main_of row group main term ≡ b → Among x (elim b [ true ↦ record { group = group; term = term; part = part } ∷ [] | false ↦ [] ])
            → IsTogether x
        go false e k = absurd k
        go true e (inr z) = absurd z
        go true e (inl same) =
            let a = both-true (is_element main.leaf) _ e in
            let b = both-true (is_of_group group main) _ a.1 in
            let d = both-true (pointwise same_step main.path row.path) (stands_nowhere_else term (Some group) None) b.1 in
            subst IsTogether same (record { data_type = data_type; nowhere = d.1 })

    by-test : (row : Row) (group : Group) (part : Term) → is_trimmed (data_type_of part) ≡ true → (b : Bool) →
        Among x (elim b [ true ↦ flat_map (together_by row group part) rows | false ↦ [] ]) → IsTogether x
    by-test row group part data_type false m = absurd m
    by-test row group part data_type true m = let w = of-flat_map (together_by row group part) x rows m in by-main row group part data_type w.0 w.0.content
        w.1.1

    by-group : (row : Row) (part : Term) (local : List ℕ) → is_trimmed (data_type_of part) ≡ true → (o : Option Group) → Among x (elim o [
      | None ↦ []
      | Some group ↦ elim (is_of_group group row && is_presence_asked local row.path) [ true ↦ flat_map (together_by row group part) rows | false ↦ [] ]
    ])
        → IsTogether x
    by-group row part local data_type None m = absurd m
    by-group row part local data_type (Some group) m = by-test row group part data_type (is_of_group group row && is_presence_asked local row.path) m

-- ---- it is known

same-term-itself : (u : Term) → same_term u u ≡ true
same-term-itself u = grind (arith, nat_tests)

some-of : (o : Option Value) → is_some o ≡ true → (v : Value) × (o ≡ Some v)
some-of None h = absurd (false≢true h)
some-of (Some v) h = (v, refl)

outer-reach : (g : Group) (d : Context) → IsReachable (Some g) None d → IsReachable (Some g) None (outer_context d)
outer-reach g d (inl k) = inl (k.0, refl)
outer-reach g d (inr (inl k)) = inr (inl (k.0, refl))
outer-reach g d (inr (inr (inl k))) = inr (inr (inl (k.0, refl)))
outer-reach g d (inr (inr (inr k))) = inr (inr (inr (k.0, refl)))

module _ (law : Laws) (rows : List Row) (es : List Entry) (invoice : IsInvoice es)
    (as_known : (e : Entry) → Among e es → is_as_known (known_of rows) es e ≡ true) where
  known-entry : (term : Term) (d : Context) (v : Value) → value_in es term d ≡ Some v → Among (record { context = d; term = term; value = v }) es
  known-entry term d v at = at-value law es invoice term d v at

  fits : (term : Term) (d : Context) (v : Value) → value_in es term d ≡ Some v → Fits term v
  fits term d v at = fits-among law es invoice term (record { context = d; term = term; value = v }) es invoice.fit (known-entry term d v at)

  other-value : (u : Unlike) → Among u (known_of rows).unlike → (d : Context) (v : Value) → value_in es u.term d ≡ Some v → trimmed (spelled v) ≡ u.text → ⊥
  other-value u a d v at same =
      let e : Entry = record { context = d; term = u.term; value = v } in
      let none = all-is (λ (x : Unlike). not (same_term u.term x.term && bytes_eq x.text (spelled v))) (known_of rows).unlike u
      (both-true (is_other_value (known_of rows) e) (has_parts (known_of rows) es e) (as_known e (known-entry u.term d v at))).0 a in
      let text : u.text ≡ spelled v = sym same ∙ trimmed-as-it-is law u.term v (unlike-data_type rows u a) (fits u.term d v at) in
      false≢true (sym (not-true (same_term u.term u.term && bytes_eq u.text (spelled v)) none) ∙
      (λ i. same-term-itself u.term i && (bytes_eq-Decides u.text (spelled v)).1 text i))

  full-part : (x : Together) → Among x (known_of rows).together → (d : Context) (v : Value) → value_in es x.part d ≡ Some v →
      is_full (trimmed (spelled v)) ≡ true
  full-part x a d v at =
      let f = fits x.part d v at in
      ap is_full (trimmed-as-it-is law x.part v (together-is rows x a).data_type f) ∙
      back-full law forms.Model x.part es d v (whole-back es forms.Model d v refl refl) f

  part-with : (x : Together) → Among x (known_of rows).together → (d : Context) → Among d (spots es root_context (Some x.group)) → (v : Value) →
      value_in es x.term (outer_context d) ≡ Some v
      → (w : Value) × (value_in es x.part (outer_context d) ≡ Some w)
  part-with x a d there v at =
      let e : Entry = record { context = outer_context d; term = x.term; value = v } in
      let known = known-entry x.term (outer_context d) v at in
      let groups = context-there e x.term (Some x.group) None refl (placed-at law es invoice x.term e known) (together-is rows x a).nowhere
      (outer-reach x.group d (spots-reach es x.group d there)) in
      let here = all-is (λ (y : Together). not (same_term x.term y.term && same_groups (slot_group d.outer) (Some y.group)) ||
      is_some (value_in es y.part (outer_context d))) (known_of rows).together x
      (both-true (is_other_value (known_of rows) e) (has_parts (known_of rows) es e) (as_known e known)).1 a in
      some-of (value_in es x.part (outer_context d))
      (sym ((λ i. not (same-term-itself x.term i && same_groups (groups.0 i) (Some x.group)) || is_some (value_in es x.part (outer_context d)))
      ∙ ap (λ b. not b || is_some (value_in es x.part (outer_context d))) (same_group_itself x.group))
      ∙ here)

  pub knows-asked : Knows (known_of rows) es root_context
  knows-asked = record { gone = none-of-none es; unlike = other-value; full = full-part; stands = part-with }
