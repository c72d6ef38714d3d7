-- What a plain row at an attribute picks: the values of its term beside which the main term stands.
use Rattle.std.proofs.Common.{◌≡◌, ℕ, Bool, true, false, ◌&&◌, List, [], ◌∷◌, ◌++◌, map, filter, flat_map, Option, Some, None, refl, sym, ap, ◌∙◌}
use Rattle.std.specs.Prelude.{is_some, option_map}
use Rattle.std.specs.Str.{bytes_eq}
use Rattle.inv_base.specs.Tree.{document_nodes}
use Rattle.term_table.specs.declared.terms.Term.{Term}
use Rattle.term_table.specs.declared.contexts.Context.{Context}
use Rattle.term_table.specs.Contexts.{root_context}
use Rattle.term_table.specs.SemanticModel.{same_term}
use Rattle.term_table.proofs.SeatLemmas.{same_term_is}
use Rattle.inv_terms.specs.declared.values.Value.{Value}
use Rattle.inv_terms.specs.declared.entries.Entry.{Entry}
use Rattle.inv_terms.specs.Listing.{IsInvoice, value_in}
use Rattle.inv_terms.proofs.OrderLemmas.{same_members}
use Rattle.bind_rows.specs.declared.rows.Step.{Step}
use Rattle.bind_rows.specs.declared.rows.Row.{Row}
use Rattle.bind_rows.specs.declared.rows.Content.TheVariants as contents
use Rattle.bind_rows.specs.declared.rows.Written.TheVariants as written
use Rattle.bind_rows.specs.Same.{same_step}
use Rattle.bind_table.specs.Lines.{Cell, Plan, nothing, a_line, plan_of}
use Rattle.bind_meaning.specs.Values.{form_for}
use Rattle.bind_meaning.specs.Currencies.{currency_id}
use Rattle.bind_meaning.specs.Elements.{string_at, is_full}
use Rattle.bind_meaning.specs.Picks.{Pick, nodes_picked}
use Rattle.bind_meaning.specs.Writing.{context_for, slot_for, formed, if_due, filled, value_for, term_text, row_text, writes_entry}
use Rattle.bind_meaning.specs.Trees.{attributes, element_text, holds_further, document_of}
use Rattle.binding_laws.specs.Apart.{is_attribute_named, is_at_attribute, stands_apart}
use Rattle.binding_laws.specs.Written.{Spot, emitted, at_end, spots_below, written_at, values_named}
use Rattle.binding_laws.specs.Plain.{rows_at, is_in_groups, is_written_by, IsPlainAttributeThere}
use Rattle.binding_laws.proofs.TreeLemmas.{Each, each-weaker, filter-same}
use Rattle.binding_laws.proofs.FormLemmas.{Laws, whole-full}
use Rattle.binding_laws.proofs.RowLemmas.{attributes-law}
use Rattle.binding_laws.proofs.ListLemmas.{append-nil, both-true}
use Rattle.binding_laws.proofs.CellLemmas.{own_text, own_strings, in_a_list, line-values}
use Rattle.binding_laws.proofs.ContextLemmas.{Later, each-flat_map, each-filter, all-each, each-both, rising-filter}
use Rattle.binding_laws.proofs.ReachLemmas.{Among, among-filter, own-texts}
use Rattle.binding_laws.proofs.TakenLemmas.{one-untyped, as-modelled}
use Rattle.binding_laws.proofs.ValueLemmas.{text_by}
use Rattle.binding_laws.proofs.PlainLemmas.{IsReachable, reaches, entry_at, entries-of, one-string, listed-entries, entry-known, among-entries, at-value}
use Rattle.binding_laws.proofs.PlainLemmas.{contexts, value_text, text-as, kept, entries-pass, written-spot, listed-filter, of-filter, contains-among}
use Rattle.binding_laws.proofs.PlainLemmas.{among-contains, own-value, fits-among}

pub own-values : (local : List ℕ) → bytes_eq local currency_id ≡ false → (es : List Entry) (row : Row) (plan : Plan) (path : List Step) (held : Bool)
    (c : Context)
    → rows_at (is_at_attribute local) plan path ≡ row ∷ [] → Each (λ (spot : Spot). values_named local spot.attributes ≡ own_strings es spot.context row)
    (spots_below es plan path held c)
own-values local n es row nothing path held c h = tt
own-values local n es row (a_line t cells inside rest) [] held c h = tt
own-values local n es row (a_line t cells inside rest) (s ∷ path) held c h =
    go (λ q d. own-values local n es row inside q (holds_further es cells inside held d) d) (own-values local n es row rest (s ∷ path) held c) (same_step s t) h
  where
    here : ((q : List Step) (d : Context) → rows_at (is_at_attribute local) inside q ≡ row ∷ []
        → Each (λ (spot : Spot). values_named local spot.attributes ≡ own_strings es spot.context row)
        (spots_below es inside q (holds_further es cells inside held d) d))
        → (path : List Step)
        → (elim path [
          | [] ↦ map (λ (cell : Cell). cell.row) (filter (λ (cell : Cell). is_attribute_named local cell.row.leaf) cells)
          | (u ∷ further) ↦ rows_at (is_at_attribute local) inside (u ∷ further)
        ]) ≡ row ∷ []
        → (d : Context) → Each (λ (spot : Spot). values_named local spot.attributes ≡ own_strings es spot.context row)
        (at_end path (record { context = d; attributes = attributes es t cells d; text = element_text es cells d })
        (spots_below es inside path (holds_further es cells inside held d) d))
    here inner [] k d = (line-values local n es t cells d ∙ (ap (flat_map (own_strings es d)) k ∙ append-nil (own_strings es d row)), tt)
    here inner (u ∷ us) k d = inner (u ∷ us) d k

    go : ((q : List Step) (d : Context) → rows_at (is_at_attribute local) inside q ≡ row ∷ []
        → Each (λ (spot : Spot). values_named local spot.attributes ≡ own_strings es spot.context row)
        (spots_below es inside q (holds_further es cells inside held d) d))
        → (rows_at (is_at_attribute local) rest (s ∷ path) ≡ row ∷ [] →
        Each (λ (spot : Spot). values_named local spot.attributes ≡ own_strings es spot.context row) (spots_below es rest (s ∷ path) held c))
        → (b : Bool) → (elim b [
          | true ↦ elim path [
            | [] ↦ map (λ (cell : Cell). cell.row) (filter (λ (cell : Cell). is_attribute_named local cell.row.leaf) cells)
            | (u ∷ further) ↦ rows_at (is_at_attribute local) inside (u ∷ further)
          ]
          | false ↦ rows_at (is_at_attribute local) rest (s ∷ path)
        ]) ≡ row ∷ []
        → Each (λ (spot : Spot). values_named local spot.attributes ≡ own_strings es spot.context row) (elim b [
          | true ↦ flat_map (λ d. at_end path (record { context = d; attributes = attributes es t cells d; text = element_text es cells d })
              (spots_below es inside path (holds_further es cells inside held d) d)) (emitted es t cells inside held c)
          | false ↦ spots_below es rest (s ∷ path) held c
        ])
    go inner later true k =
        each-flat_map (λ (spot : Spot). values_named local spot.attributes ≡ own_strings es spot.context row)
        (λ d. at_end path (record { context = d; attributes = attributes es t cells d; text = element_text es cells d })
        (spots_below es inside path (holds_further es cells inside held d) d))
        (emitted es t cells inside held c) (all-each _ (emitted es t cells inside held c) (here inner path k))
    go inner later false k = later k

-- ---- the law

module _ (law : Laws) (rows : List Row) (es : List Entry) (invoice : IsInvoice es) (row : Row) (term : Term) (main : Row) (main_term : Term)
    (plain : IsPlainAttributeThere rows row term main main_term) where
  abbrev spots : List Spot
  spots = written_at rows es main.path

  abbrev has_main_in : Context → Bool
  has_main_in c = is_written_by main main_term es c

  abbrev has_main : Spot → Bool
  has_main spot = is_written_by main main_term es spot.context

  abbrev wanted_part : Entry → Bool
  wanted_part e = same_term e.term term && is_written_by main main_term es e.context

  same-context : (d : Context) → context_for row d ≡ context_for main d
  same-context d = λ i. record { outer = slot_for (plain.outer i) d.outer; inner = slot_for (plain.inner i) d.inner }

  pub strings-as : (d : Context) →
      own_strings es d row ≡ (elim (value_in es term (context_for main d)) [
        | None ↦ []
        | Some value ↦ formed (form_for row.form term) es (context_for main d) value ∷ []
      ])
  strings-as d =
      ap (λ content. in_a_list (text_by (row_text row es d) content)) plain.content
      ∙ (ap in_a_list written-as ∙ mapped (value_in es term (context_for main d)))
    where
      to-text : (o : Option Value) → ◌≡◌ {A = Option (List ℕ)}
          (elim o [ None ↦ None | Some value ↦ Some (formed (form_for row.form term) es (context_for row d) value) ])
          (option_map (formed (form_for row.form term) es (context_for row d)) o)
      to-text None = refl
      to-text (Some value) = refl

      written-as : row_text row es d ≡ option_map (formed (form_for row.form term) es (context_for main d)) (value_in es term (context_for main d))
      written-as =
          ap (λ content. elim content [ (contents.Term t) ↦ term_text row es t (context_for row d) | (contents.Constant text) ↦ None ]) plain.content
          ∙ (ap (λ rule. elim (value_for row es term (context_for row d)) [
            | None ↦ filled rule es (context_for row d)
            | Some value ↦ if_due rule es term (context_for row d) (formed (form_for row.form term) es (context_for row d) value)
          ]) plain.written
          ∙ (ap (λ o. elim o [
            | None ↦ filled written.Always es (context_for row d)
            | Some value ↦ if_due written.Always es term (context_for row d) (formed (form_for row.form term) es (context_for row d) value)
          ])
          (as-modelled row es term (context_for row d) (one-untyped (form_for row.form term) plain.one_term))
          ∙ (to-text (value_in es term (context_for row d)) ∙ ap (λ c. option_map (formed (form_for row.form term) es c) (value_in es term c))
          (same-context d))))

      mapped : (o : Option Value) → ◌≡◌ {A = List (List ℕ)}
          (elim (option_map (formed (form_for row.form term) es (context_for main d)) o) [ None ↦ [] | Some text ↦ text ∷ [] ])
          (elim o [ None ↦ [] | Some value ↦ formed (form_for row.form term) es (context_for main d) value ∷ [] ])
      mapped None = refl
      mapped (Some value) = refl

  -- the element isn't blank exactly where the main term is written
  full-as : (d : Context) → is_full (elim (has_main_in d) [
    | true ↦ value_text law rows es invoice main main_term plain.beside d (value_in es main_term d)
    | false ↦ []
  ]) ≡ has_main_in d
  full-as d = go (is_in_groups main d) (value_in es main_term d) refl (writes_entry main es d)
    where
      go : (x : Bool) (o : Option Value) → value_in es main_term d ≡ o → (b : Bool)
          → is_full (elim (x && (is_some o && b)) [
            | true ↦ elim o [ None ↦ [] | Some value ↦ formed (form_for main.form main_term) es d value ]
            | false ↦ []
          ]) ≡ (x && (is_some o && b))
      go false o h b = refl
      go true None h b = refl
      go true (Some v) h false = refl
      go true (Some v) h true = whole-full law main.form main_term es d v plain.main_form
          (fits-among law es invoice main_term (record { context = d; term = main_term; value = v }) es invoice.fit (at-value law es invoice main_term d v h))

  pub full-texts : Each (λ (spot : Spot). is_full spot.text ≡ has_main spot) spots
  full-texts =
      each-weaker (λ (spot : Spot). (spot.text ≡ own_text es spot.context main) ×
      ((context_for main spot.context ≡ spot.context) × IsReachable main.outer main.inner spot.context))
      (λ (spot : Spot). is_full spot.text ≡ has_main spot) spots
      (λ spot w. ap is_full (w.0 ∙ text-as law rows es invoice main main_term plain.beside spot.context w.1.0 w.1.1) ∙ full-as spot.context)
      (each-both (λ (spot : Spot). spot.text ≡ own_text es spot.context main) (λ (spot : Spot). (context_for main spot.context ≡ spot.context) ×
      IsReachable main.outer main.inner spot.context) spots
      (own-texts es main (plan_of rows) main.path false root_context plain.beside.own)
      (each-both (λ (spot : Spot). context_for main spot.context ≡ spot.context) (λ (spot : Spot). IsReachable main.outer main.inner spot.context) spots
      (contexts law rows es invoice main main_term plain.beside).own
      (reaches law rows es invoice main main_term plain.beside)))

  strings-of : (xs : List Spot) → Each (λ (spot : Spot). values_named plain.local spot.attributes ≡ own_strings es spot.context row) xs →
      Each (λ (spot : Spot). context_for main spot.context ≡ spot.context) xs
      → flat_map (λ (spot : Spot). filter is_full (values_named plain.local spot.attributes)) xs ≡ map
      (λ (e : Entry). formed (form_for row.form term) es e.context e.value) (entries-of law es invoice term xs)
  strings-of [] h k = refl
  strings-of (spot ∷ xs) h k =
      ap (λ l. filter is_full l ++ flat_map (λ (x : Spot). filter is_full (values_named plain.local x.attributes)) xs)
      (h.0 ∙ (strings-as spot.context ∙ ap (λ c. elim (value_in es term c) [ None ↦ [] | Some value ↦ formed (form_for row.form term) es c value ∷ [] ]) k.0))
      ∙ (ap (λ l. l ++ flat_map (λ (x : Spot). filter is_full (values_named plain.local x.attributes)) xs) (one (value_in es term spot.context) refl)
      ∙ (ap (λ l. map (λ (e : Entry). formed (form_for row.form term) es e.context e.value) (entry_at es term spot.context) ++ l) (strings-of xs h.1 k.1)
      ∙ sym (map-append (entry_at es term spot.context) (flat_map (λ (x : Spot). entry_at es term x.context) xs))))
    where
      one : (o : Option Value) → value_in es term spot.context ≡ o →
          filter is_full (elim o [ None ↦ [] | Some value ↦ formed (form_for row.form term) es spot.context value ∷ [] ])
          ≡ map (λ (e : Entry). formed (form_for row.form term) es e.context e.value)
          (elim o [ None ↦ [] | Some v ↦ record { context = spot.context; term = term; value = v } ∷ [] ])
      one None e = refl
      one (Some v) e = one-string law es invoice term row.form plain.form spot.context (Some v) e

      map-append : (ys zs : List Entry) → map (λ (e : Entry). formed (form_for row.form term) es e.context e.value) (ys ++ zs) ≡ map
          (λ (e : Entry). formed (form_for row.form term) es e.context e.value) ys ++
          map (λ (e : Entry). formed (form_for row.form term) es e.context e.value) zs
      map-append [] zs = refl
      map-append (y ∷ ys) zs = ap (λ l. formed (form_for row.form term) es y.context y.value ∷ l) (map-append ys zs)

  -- ---- the entries

  wanted-known : (x : Entry) → Among x (filter wanted_part es) → Among x (entries-of law es invoice term (filter has_main spots))
  wanted-known x h =
      let w = of-filter wanted_part x es h in
      let k = both-true (same_term x.term term) (has_main_in x.context) w.1 in
      let e : x.term ≡ term = same_term_is x.term term k.0 in
      let v : value_in es term x.context ≡ Some x.value = ap (λ t. value_in es t x.context) (sym e) ∙ own-value es x invoice.listed w.0 in
      among-entries law es invoice term x (filter has_main spots) e v
      (kept law es invoice term has_main_in x.context spots k.1 (written-spot law rows es invoice main main_term plain.beside x.context k.1))

  known-wanted : (x : Entry) → Among x (entries-of law es invoice term (filter has_main spots)) → Among x (filter wanted_part es)
  known-wanted x h =
      let w = of-filter (λ (e : Entry). same_term e.term term) x es (entry-known law es invoice term (filter has_main spots) x h) in
      among-filter wanted_part x es (pair w.1 (entries-pass law es invoice term has_main_in spots x h)) w.0
    where
      pair : {a b : Bool} → a ≡ true → b ≡ true → (a && b) ≡ true
      pair e f = rw (e, f) refl

  same-entries : entries-of law es invoice term (filter has_main spots) ≡ filter wanted_part es
  same-entries =
      same_members (entries-of law es invoice term (filter has_main spots)) (filter wanted_part es)
      (listed-entries law es invoice term (filter has_main spots)
      (rising-filter (λ (a : Spot) (b : Spot). Later a.context b.context) has_main spots (contexts law rows es invoice main main_term plain.beside).rising))
      (listed-filter wanted_part es invoice.listed)
      (λ x. (
        λ h. among-contains x (filter wanted_part es) (known-wanted x (contains-among x (entries-of law es invoice term (filter has_main spots)) h)),
        λ h. among-contains x (entries-of law es invoice term (filter has_main spots)) (wanted-known x (contains-among x (filter wanted_part es) h)),
      ))

  pub part-law : stands_apart rows main.path ≡ true → (k : ℕ) → map (λ (pick : Pick). string_at (document_nodes (document_of rows es)) pick.node)
      (nodes_picked (document_nodes (document_of rows es)) k row)
      ≡ map (λ (e : Entry). formed (form_for row.form term) es e.context e.value)
      (filter (λ (e : Entry). same_term e.term term && is_written_by main main_term es e.context) es)
  part-law apart k =
      attributes-law rows es k row plain.local plain.leaf (ap (λ p. stands_apart rows p) plain.path ∙ apart)
      ∙ (ap (λ p. flat_map (λ (spot : Spot). filter is_full (values_named plain.local spot.attributes))
      (filter (λ (spot : Spot). is_full spot.text) (written_at rows es p))) plain.path
      ∙ (ap (flat_map (λ (spot : Spot). filter is_full (values_named plain.local spot.attributes)))
      (filter-same (λ (spot : Spot). is_full spot.text) has_main spots full-texts)
      ∙ (strings-of (filter has_main spots)
      (each-filter (λ (spot : Spot). values_named plain.local spot.attributes ≡ own_strings es spot.context row) has_main spots
      (own-values plain.local plain.other es row (plan_of rows) main.path false root_context plain.own))
      (each-filter (λ (spot : Spot). context_for main spot.context ≡ spot.context) has_main spots
      (contexts law rows es invoice main main_term plain.beside).own)
      ∙ ap (map (λ (e : Entry). formed (form_for row.form term) es e.context e.value)) same-entries)))
