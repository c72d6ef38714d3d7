-- A placeholder is told from a value: the term beside it is written next to it, so what is picked of it is passed over.
use Rattle.std.proofs.Common.{◌≡◌, ℕ, Bool, true, false, not, ◌&&◌, ◌||◌, List, [], ◌∷◌, map, filter, flat_map, Option, Some, None, inl, inr, All, refl, sym}
use Rattle.std.proofs.Common.{ap, ◌∙◌, subst, arith}
use Rattle.std.specs.Prelude.{if◌then◌else◌, is_some, is_none, length, ◌<◌}
use Rattle.std.specs.List.{list_any}
use Rattle.std.specs.Str.{bytes_eq}
use Rattle.std.proofs.lemmas.Bool.{false≢true}
use Rattle.std.proofs.lemmas.Bool.Decides.{nat_tests}
use Rattle.std.proofs.lemmas.Slice.Eq.{bytes_eq-Decides}
use Rattle.inv_base.specs.Tree.{Node, document_nodes}
use Rattle.term_table.specs.declared.groups.Group.{Group}
use Rattle.term_table.specs.declared.terms.Term.{Term}
use Rattle.term_table.specs.declared.contexts.Context.{Context}
use Rattle.term_table.specs.Contexts.{root_context, same_groups}
use Rattle.term_table.specs.SemanticModel.{same_term}
use Rattle.term_table.specs.Rows.{data_type_of}
use Rattle.inv_terms.specs.declared.entries.Entry.{Entry}
use Rattle.inv_terms.specs.Values.{trimmed}
use Rattle.inv_terms.specs.Listing.{IsInvoice, value_in}
use Rattle.bind_rows.specs.declared.rows.Content.TheVariants as contents
use Rattle.bind_rows.specs.declared.rows.Step.{Step}
use Rattle.bind_rows.specs.declared.rows.Row.{Row}
use Rattle.bind_rows.specs.declared.rows.Placeholder.{Placeholder}
use Rattle.bind_rows.specs.declared.rows.Form.TheVariants as forms
use Rattle.bind_rows.specs.declared.rows.Written.TheVariants as written
use Rattle.bind_rows.specs.Same.{same_step}
use Rattle.bind_table.proofs.SameLemmas.{step-sound}
use Rattle.bind_table.specs.Lines.{Plan, nothing, a_line, plan_of}
use Rattle.bind_meaning.specs.Values.{form_for}
use Rattle.bind_meaning.specs.Elements.{is_full, string_at}
use Rattle.bind_meaning.specs.Currencies.{invoice_currency, accounting_currency}
use Rattle.bind_meaning.specs.Picks.{Pick, has_term, has_any_term, term_in, Numbered, numbered, rows_where, all_picked, around_last, last_of, leaves_of}
use Rattle.bind_meaning.specs.Picks.{picks_of_way, ways, nodes_picked}
use Rattle.bind_meaning.specs.Writing.{context_for, formed, if_so, if_due, filled, term_text, row_text, writes_entry}
use Rattle.bind_meaning.specs.Trees.{spots, is_emitted, holds_further, document_of}
use Rattle.binding_laws.specs.Plain.{is_always, is_spread_in, IsSpread, is_written_by}
use Rattle.binding_laws.specs.Known.{is_trimmed}
use Rattle.binding_laws.specs.Covered.{beside_placeholder, are_beside, is_row_beside, is_told_placeholder, is_joined}
use Rattle.binding_laws.specs.Faultless.{is_model}
use Rattle.binding_laws.specs.Written.{Spot, emitted}
use Rattle.binding_laws.proofs.ListLemmas.{both-true, not-true}
use Rattle.binding_laws.proofs.CellLemmas.{own_text}
use Rattle.binding_laws.proofs.ValueLemmas.{text_by, or_nothing}
use Rattle.binding_laws.proofs.ReachLemmas.{Among, among-flat_map, among-filter, among-map, any-among, own-texts, any-is, none-is}
use Rattle.binding_laws.proofs.FormLemmas.{Laws, IsBack, model-is}
use Rattle.binding_laws.proofs.TakenLemmas.{one-untyped, as-modelled, none-for-none}
use Rattle.binding_laws.proofs.RowLemmas.{At, sized, past, long_of, begin_in, Place, spot_of, behind, last_places, places, places_at, IsAt, placed-at, ends_at}
use Rattle.binding_laws.proofs.RowLemmas.{spot-strings}
use Rattle.binding_laws.proofs.CountLemmas.{each-among}
use Rattle.binding_laws.proofs.PlaceLemmas.{of-flat_map, of-map, own_places, of-own}
use Rattle.binding_laws.proofs.PlacedLemmas.{IsFilled, rule-is, spread-by-test}
use Rattle.binding_laws.proofs.CoverLemmas.{spread-here, spread-covers, spread-writes, among-one, cut-at-root, root-entry, root-value, strings-at, fact-at}
use Rattle.binding_laws.proofs.CoverLemmas.{IsNotTold, to-picked, row-at}

-- ---- paths that end in one element

-- an element with something on the way to it
pub a-way : (es : List Entry) (plan : Plan) (path : List Step) (held : Bool) (c : Context) (n : ℕ) (place : Place) → Among place (places es plan path held c n)
    → (m : ℕ) × ((ms : List ℕ) × (place.way ≡ m ∷ ms))
a-way es nothing path held c n place a = absurd a
a-way es (a_line t cells inside rest) [] held c n place a = absurd a
a-way es (a_line t cells inside rest) (s ∷ path) held c n place a =
    go (a-way es rest (s ∷ path) held c (past (long_of es t cells inside held) (emitted es t cells inside held c) n) place) (same_step s t) a
  where
    here : At → List Place
    here x = map (behind x.number) (last_places path (spot_of es t cells x.context)
        (places es inside path (holds_further es cells inside held x.context) x.context (begin_in es t cells x)))

    go : (Among place (places es rest (s ∷ path) held c (past (long_of es t cells inside held) (emitted es t cells inside held c) n)) → (m : ℕ) ×
        ((ms : List ℕ) × (place.way ≡ m ∷ ms))) → (b : Bool)
        → Among place (elim b [
          | true ↦ flat_map (λ (x : At). map (behind x.number) (last_places path (spot_of es t cells x.context)
              (places es inside path (holds_further es cells inside held x.context) x.context (begin_in es t cells x))))
              (sized (long_of es t cells inside held) (emitted es t cells inside held c) n)
          | false ↦ places es rest (s ∷ path) held c (past (long_of es t cells inside held) (emitted es t cells inside held c) n)
        ])
        → (m : ℕ) × ((ms : List ℕ) × (place.way ≡ m ∷ ms))
    go later true m =
        let w = of-flat_map here place (sized (long_of es t cells inside held) (emitted es t cells inside held c) n) m in
        let v = of-map (behind w.0.number) place (last_places path (spot_of es t cells w.0.context)
        (places es inside path (holds_further es cells inside held w.0.context) w.0.context (begin_in es t cells w.0))) w.1.1 in
        (w.0.number, (v.0.way, ap (λ (q : Place). q.way) (sym v.1.1)))
    go later false m = later m

around-more : (m : ℕ) (way : List ℕ) → (k : ℕ) × ((ks : List ℕ) × (way ≡ k ∷ ks)) → around_last (m ∷ way) ≡ m ∷ around_last way
around-more m way w = ap (λ l. around_last (m ∷ l)) w.1.1 ∙ ap (λ l. m ∷ around_last l) (sym w.1.1)

-- at a path of one step, only its own element is on the way
alone : (es : List Entry) (plan : Plan) (s : Step) (held : Bool) (c : Context) (n : ℕ) (place : Place) → Among place (places es plan (s ∷ []) held c n) →
    around_last place.way ≡ []
alone es nothing s held c n place a = absurd a
alone es (a_line t cells inside rest) s held c n place a = go (λ m b. alone es rest s held c m place b) (same_step s t) a
  where
    go : ((m : ℕ) → Among place (places es rest (s ∷ []) held c m) → around_last place.way ≡ []) → (b : Bool) → Among place (elim b [
      | true ↦ own_places es t cells inside [] held c n
      | false ↦ places es rest (s ∷ []) held c (past (long_of es t cells inside held) (emitted es t cells inside held c) n)
    ])
        → around_last place.way ≡ []
    go later true m =
        let w = of-own es t cells inside [] held c n place m in
        ap (λ (q : Place). around_last q.way) (sym w.is) ∙ at-once w.x.number w.p w.within
      where
        at-once : {spot : Spot} (k : ℕ) (p : Place) → Among p (record { way = []; spot = spot } ∷ []) → around_last (k ∷ p.way) ≡ []
        at-once k p (inl e) = ap (λ (q : Place). around_last (k ∷ q.way)) (sym e)
        at-once k p (inr z) = absurd z
    go later false m = later (past (long_of es t cells inside held) (emitted es t cells inside held c) n) m

-- a line that is no occurrence of a group is written once at most
once : (es : List Entry) (long : Context → ℕ) (there : Context → Bool) (c : Context) (n : ℕ) (o : Option Group) → is_none o ≡ true → (x y : At)
    → Among x (sized long (filter there (spots es c o)) n) → Among y (sized long (filter there (spots es c o)) n) → x ≡ y
once es long there c n (Some g) h x y a b = absurd (false≢true h)
once es long there c n None h x y a b = go (there c) a b
  where
    go : (k : Bool) → Among x (sized long (if k then c ∷ [] else []) n) → Among y (sized long (if k then c ∷ [] else []) n) → x ≡ y
    go true (inl e) (inl f) = sym e ∙ f
    go true (inl e) (inr z) = absurd z
    go true (inr z) b = absurd z
    go false a b = absurd a

pub beside-ways : (es : List Entry) (plan : Plan) (path other : List Step) (held : Bool) (c : Context) (n : ℕ) (p q : Place) → are_beside path other ≡ true
    → Among p (places es plan path held c n) → Among q (places es plan other held c n) → around_last p.way ≡ around_last q.way
beside-ways es nothing path other held c n p q h a b = absurd a
beside-ways es (a_line t cells inside rest) [] other held c n p q h a b = absurd a
beside-ways es (a_line t cells inside rest) (s ∷ path) [] held c n p q h a b = absurd b
beside-ways es (a_line t cells inside rest) (s ∷ []) (v ∷ []) held c n p q h a b = alone es (a_line t cells inside rest) s held c n p a ∙
    sym (alone es (a_line t cells inside rest) v held c n q b)
beside-ways es (a_line t cells inside rest) (s ∷ []) (v ∷ (w ∷ other)) held c n p q h a b = absurd (false≢true h)
beside-ways es (a_line t cells inside rest) (s ∷ (u ∷ path)) (v ∷ []) held c n p q h a b = absurd (false≢true h)
beside-ways es (a_line t cells inside rest) (s ∷ (u ∷ path)) (v ∷ (w ∷ other)) held c n p q h a b =
    let k = both-true (same_step s v) (is_none s.group && are_beside (u ∷ path) (w ∷ other)) h in
    let l = both-true (is_none s.group) (are_beside (u ∷ path) (w ∷ other)) k.1 in
    let same : s ≡ v = step-sound s v k.0 in
    go (λ further d m x y i j. beside-ways es inside (u ∷ path) (w ∷ other) further d m x y l.1 i j)
    (λ m i j. beside-ways es rest (s ∷ (u ∷ path)) (v ∷ (w ∷ other)) held c m p q h i j) l.0 same (same_step s t) refl a
    (subst (λ x. Among q (places es (a_line t cells inside rest) (x ∷ (w ∷ other)) held c n)) (sym same) b)
  where
    next : ℕ
    next = past (long_of es t cells inside held) (emitted es t cells inside held c) n

    own : ((further : Bool) (d : Context) (m : ℕ) (x y : Place) → Among x (places es inside (u ∷ path) further d m) →
        Among y (places es inside (w ∷ other) further d m) → around_last x.way ≡ around_last y.way)
        → is_none t.group ≡ true → Among p (own_places es t cells inside (u ∷ path) held c n) → Among q (own_places es t cells inside (w ∷ other) held c n) →
        around_last p.way ≡ around_last q.way
    own inner none i j =
        let k = of-own es t cells inside (u ∷ path) held c n p i in
        let l = of-own es t cells inside (w ∷ other) held c n q j in
        let same : k.x ≡ l.x = once es (long_of es t cells inside held) (is_emitted es t cells inside held) c n t.group none k.x l.x k.at l.at in
        let there : Among l.p (places es inside (w ∷ other) (holds_further es cells inside held k.x.context) k.x.context (begin_in es t cells k.x)) =
        subst (λ (y : At). Among l.p (places es inside (w ∷ other) (holds_further es cells inside held y.context) y.context (begin_in es t cells y)))
        (sym same) l.within in
        ap (λ (z : Place). around_last z.way) (sym k.is)
        ∙ (around-more k.x.number k.p.way (a-way es inside (u ∷ path) (holds_further es cells inside held k.x.context) k.x.context
        (begin_in es t cells k.x) k.p k.within)
        ∙ ((λ z. (same z).number ∷ inner (holds_further es cells inside held k.x.context) k.x.context (begin_in es t cells k.x) k.p l.p k.within there z)
        ∙ (sym (around-more l.x.number l.p.way (a-way es inside (w ∷ other) (holds_further es cells inside held k.x.context) k.x.context
        (begin_in es t cells k.x) l.p there)) ∙ ap (λ (z : Place). around_last z.way) l.is)))

    go : ((further : Bool) (d : Context) (m : ℕ) (x y : Place) → Among x (places es inside (u ∷ path) further d m) →
        Among y (places es inside (w ∷ other) further d m) → around_last x.way ≡ around_last y.way)
        → ((m : ℕ) → Among p (places es rest (s ∷ (u ∷ path)) held c m) → Among q (places es rest (v ∷ (w ∷ other)) held c m) →
        around_last p.way ≡ around_last q.way)
        → is_none s.group ≡ true → s ≡ v → (b : Bool) → same_step s t ≡ b
        → Among p (elim b [
          | true ↦ own_places es t cells inside (u ∷ path) held c n
          | false ↦ places es rest (s ∷ (u ∷ path)) held c (past (long_of es t cells inside held) (emitted es t cells inside held c) n)
        ])
        → Among q (elim b [
          | true ↦ own_places es t cells inside (w ∷ other) held c n
          | false ↦ places es rest (s ∷ (w ∷ other)) held c (past (long_of es t cells inside held) (emitted es t cells inside held c) n)
        ])
        → around_last p.way ≡ around_last q.way
    go inner later none same true e i j = own inner (ap (λ (z : Step). is_none z.group) (sym (step-sound s t e)) ∙ none) i j
    go inner later none same false e i j = later next i (subst (λ x. Among q (places es rest (x ∷ (w ∷ other)) held c next)) same j)

-- ---- rows with such placeholders

pub record IsToldPlaceholder (rows : List Row) (row : Row) (term : Term) (placeholder : Placeholder) : Type 0 where
  pub other : Row
  pub among : Among other rows
  pub spread : IsSpread rows other placeholder.beside
  pub always : other.written ≡ written.Always
  pub beside : are_beside row.path other.path ≡ true
  pub text : bytes_eq (trimmed placeholder.text) placeholder.text ≡ true
  pub model : form_for row.form term ≡ forms.Model
  pub data_type : is_trimmed (data_type_of term) ≡ true
  pub no_money : (has_term invoice_currency row || has_term accounting_currency row) ≡ false
  pub free : list_any (λ t. has_term t row) (flat_map beside_placeholder rows) ≡ false

pub told-by-test : (rows : List Row) (row : Row) (term : Term) (placeholder : Placeholder) → All (λ (r : Row). 0 < length r.path) rows → row.content
    ≡ contents.Term term
    → row.written ≡ written.OrPlaceholder placeholder → is_joined (plan_of rows) rows row ≡ true
    → IsToldPlaceholder rows row term placeholder
told-by-test rows row term placeholder long content rule h =
    let plan : Plan = plan_of rows in
    let says : is_told_placeholder (plan_of rows) rows row term placeholder ≡ true =
    sym (ap (λ x. elim x [
      | (contents.Term t) ↦ elim row.written [ (written.OrPlaceholder f) ↦ is_told_placeholder (plan_of rows) rows row t f | _ ↦ false ]
      | (contents.Constant text) ↦ false
    ]) content
    ∙ ap (λ x. elim x [ (written.OrPlaceholder f) ↦ is_told_placeholder (plan_of rows) rows row term f | _ ↦ false ]) rule)
    ∙ h in
    let a = both-true (list_any (is_row_beside (plan_of rows) row placeholder) rows) _ says in
    let b = both-true (bytes_eq (trimmed placeholder.text) placeholder.text) _ a.1 in
    let d = both-true (is_model (form_for row.form term)) _ b.1 in
    let e = both-true (is_trimmed (data_type_of term)) _ d.1 in
    let f = both-true (not (has_term invoice_currency row || has_term accounting_currency row))
    (not (list_any (λ t. has_term t row) (flat_map beside_placeholder rows))) e.1 in
    let w = any-is (is_row_beside (plan_of rows) row placeholder) rows a.0 in
    let g = both-true (is_spread_in (plan_of rows) w.0 placeholder.beside) _ w.1.1 in
    let i = both-true (is_always w.0.written) (are_beside row.path w.0.path) g.1 in
    let at = row-at rows w.0 w.1.0 in
    record {
      other = w.0;
      among = w.1.0;
      spread = spread-by-test rows at.0 w.0 placeholder.beside long at.1 g.0;
      always = rule-is w.0.written i.0;
      beside = i.1;
      text = b.0;
      model = model-is (form_for row.form term) d.0;
      data_type = e.0;
      no_money = not-true (has_term invoice_currency row || has_term accounting_currency row) f.0;
      free = not-true (list_any (λ t. has_term t row) (flat_map beside_placeholder rows)) f.1;
    }

module _ (law : Laws) (rows : List Row) (es : List Entry) (invoice : IsInvoice es) where
  abbrev nodes : List Node
  nodes = document_nodes (document_of rows es)

  abbrev all_picks : List Pick
  all_picks = all_picked nodes (rows_where has_any_term rows)

  -- ---- the term beside a placeholder is picked next to it

  -- the pick of the other term
  record IsBesidePick (row other : Row) (placeholder : Placeholder) : Type 0 where
    pick : Pick
    among : Among pick (all_picked nodes (rows_where has_any_term rows))
    has : has_term placeholder.beside pick.row ≡ true
    place : Place
    own : Among place (places_at rows es other.path)
    way : pick.elements ≡ place.way

  written-beside : (other : Row) (term : Term) (p : IsSpread rows other term) → other.written ≡ written.Always → (x : Entry) → Among x es → x.term ≡ term →
      is_written_by other term es x.context ≡ true
  written-beside other term p always x a t =
      let root : x.context ≡ root_context = root-entry law rows es invoice term p.context x a t in
      let value : value_in es term root_context ≡ Some x.value = root-value law rows es invoice x a root term t in
      let writes : writes_entry other es root_context ≡ true =
      ap (λ content. is_some (elim content [ (contents.Term u) ↦ term_text other es u (context_for other root_context) | (contents.Constant text) ↦ None ]))
      p.content
      ∙ (ap (λ c. is_some (term_text other es term c)) (cut-at-root law rows es invoice other p.outer p.inner root_context)
      ∙ (ap (λ o. is_some (elim o [
        | None ↦ filled other.written es root_context
        | Some v ↦ if_due other.written es term root_context (formed (form_for other.form term) es root_context v)
      ]))
      (as-modelled other es term root_context (one-untyped (form_for other.form term) p.form) ∙ value)
      ∙ ap (λ rule. is_some (if_due rule es term root_context (formed (form_for other.form term) es root_context x.value))) always)) in
      ap (is_written_by other term es) root
      ∙ (λ i. (same_groups None (p.outer i) && same_groups None (p.inner i)) && (is_some (value i) && writes i))

  pick-beside : (row : Row) (term : Term) (placeholder : Placeholder) (t : IsToldPlaceholder rows row term placeholder) (x : Entry) → Among x es → x.term
      ≡ placeholder.beside →
      IsBack es (form_for t.other.form placeholder.beside) x.context x.value
      → (n : ℕ) × Among (record { place = n; row = t.other }) (numbered 1 rows) → IsBesidePick row t.other placeholder
  pick-beside row term placeholder t x a is back n =
      let cover = spread-covers law rows es invoice t.other placeholder.beside (spread-here law rows es invoice t.other placeholder.beside t.spread) in
      let r = to-picked law rows es invoice n.0 t.other placeholder.beside cover x a is back
      (spread-writes law rows es invoice t.other placeholder.beside (spread-here law rows es invoice t.other placeholder.beside t.spread) x.context
      (written-beside t.other placeholder.beside t.spread t.always x a is)) in
      let row_of : Among r.picked.place (places_at rows es t.other.path) =
      subst (λ (z : Row). Among r.picked.place (places_at rows es z.path)) r.row_is r.picked.among in
      record {
        pick = r.pick;
        among = among-flat_map (λ (z : Numbered). nodes_picked nodes z.place z.row) (record { place = n.0; row = t.other }) r.pick
            (rows_where has_any_term rows)
            (among-filter (λ (z : Numbered). has_any_term z.row) (record { place = n.0; row = t.other }) (numbered 1 rows)
            (ap (λ content. is_some (term_in content)) t.spread.content) n.1) r.among;
        has = ap (has_term placeholder.beside) r.row_is ∙
            (ap (λ content. elim (term_in content) [ None ↦ false | Some u ↦ same_term u placeholder.beside ]) t.spread.content
            ∙ same-term-itself placeholder.beside);
        place = r.picked.place;
        own = row_of;
        way = r.picked.elements;
      }
    where
      same-term-itself : (u : Term) → same_term u u ≡ true
      same-term-itself u = grind (arith, nat_tests)

  -- ---- what is picked where the value doesn't stand is the placeholder

  placeholder-text : (row : Row) (term : Term) (placeholder : Placeholder) (p : IsFilled rows row term) → row.written ≡ written.OrPlaceholder placeholder →
      value_in es term root_context ≡ None → (d : Context) → is_full (own_text es d row) ≡ true → own_text es d row ≡ placeholder.text
  placeholder-text row term placeholder p rule none d full = go (is_some (value_in es placeholder.beside root_context)) says
    where
      says : own_text es d row ≡ or_nothing (if_so (is_some (value_in es placeholder.beside root_context)) placeholder.text)
      says =
          ap (λ content. or_nothing (text_by (row_text row es d) content)) p.content
          ∙ (ap (λ content. or_nothing (elim content [ (contents.Term u) ↦ term_text row es u (context_for row d) | (contents.Constant text) ↦ None ]))
          p.content
          ∙ (ap (λ c. or_nothing (term_text row es term c)) (cut-at-root law rows es invoice row p.outer p.inner d)
          ∙ (ap (λ o. or_nothing (elim o [
            | None ↦ filled row.written es root_context
            | Some v ↦ if_due row.written es term root_context (formed (form_for row.form term) es root_context v)
          ]))
          (none-for-none row es term root_context none)
          ∙ ap (λ r. or_nothing (filled r es root_context)) rule)))

      go : (b : Bool) → own_text es d row ≡ or_nothing (if_so b placeholder.text) → own_text es d row ≡ placeholder.text
      go true e = e
      go false e = absurd (false≢true (sym (ap is_full e) ∙ full))

  pub placeholders-not-told : (row : Row) (term : Term) (placeholder : Placeholder) (p : IsFilled rows row term) → row.written
      ≡ written.OrPlaceholder placeholder →
      (t : IsToldPlaceholder rows row term placeholder) (x : Entry) → Among x es → x.term ≡ placeholder.beside
      → IsBack es (form_for t.other.form placeholder.beside) x.context x.value → (n : ℕ) × Among (record { place = n; row = t.other }) (numbered 1 rows) →
      value_in es term root_context ≡ None
      → (k : ℕ) (pick : Pick) → Among pick (nodes_picked nodes k row) → IsNotTold law rows es invoice pick
  unfolding ends_at spot-strings
  placeholders-not-told row term placeholder p rule t x x_known x_is back n none k pick a =
      let placed = placed-at rows es row.path p.apart in
      let w = of-flat_map (picks_of_way nodes k row) pick (ways nodes row.path 0) a in
      let v = of-map (λ (q : Place). q.way) w.0 (places_at rows es row.path) (subst (Among w.0) placed.ways_are w.1.0) in
      let place : Place = v.0 in
      let at = each-among (IsAt nodes es) place (places_at rows es row.path) placed.each v.1.0 in
      let u = of-map (λ m. record { place = k; row = row; elements = w.0; node = m }) pick (leaves_of nodes row.leaf (last_of w.0)) w.1.1 in
      let leaf : Among u.0 (leaves_of nodes row.leaf (last_of place.way)) =
      subst (λ way. Among u.0 (leaves_of nodes row.leaf (last_of way))) (sym v.1.1) u.1.0 in
      let string : Among (string_at nodes u.0) (spot-strings row.leaf place.spot) =
      subst (Among (string_at nodes u.0)) (strings-at law rows es invoice row place at)
      (among-map (string_at nodes) u.0 (leaves_of nodes row.leaf (last_of place.way)) leaf) in
      let one = among-one place.spot.text is_full (string_at nodes u.0) (subst (λ l. Among (string_at nodes u.0) (spot-strings l place.spot)) p.leaf string) in
      let text : place.spot.text ≡ own_text es place.spot.context row =
      fact-at law rows es invoice row.path (λ (spot : Spot). spot.text ≡ own_text es spot.context row)
      (own-texts es row (plan_of rows) row.path false root_context p.own) place v.1.0 in
      let is : string_at nodes u.0 ≡ placeholder.text = sym one.0 ∙
      (text ∙ placeholder-text row term placeholder p rule none place.spot.context (ap is_full (sym text) ∙ one.1)) in
      let b = pick-beside row term placeholder t x x_known x_is back n in
      let around : around_last b.pick.elements ≡ around_last w.0 =
      ap around_last b.way ∙ (sym (beside-ways es (plan_of rows) row.path t.other.path false root_context 1 place b.place t.beside v.1.0 b.own) ∙
      ap around_last v.1.1) in
      let stands : list_any (λ (z : Pick). has_term placeholder.beside z.row && bytes_eq (around_last z.elements) (around_last w.0))
      (all_picked nodes (rows_where has_any_term rows)) ≡ true =
      any-among (λ (z : Pick). has_term placeholder.beside z.row && bytes_eq (around_last z.elements) (around_last w.0)) b.pick
      (all_picked nodes (rows_where has_any_term rows))
      ((λ i. b.has i && bytes_eq (around i) (around_last w.0)) ∙ (bytes_eq-Decides (around_last w.0) (around_last w.0)).1 refl) b.among in
      subst (IsNotTold law rows es invoice) u.1.1
      (record {
        out = inr (ap (λ r. elim r [
          | (written.OrPlaceholder f) ↦ elim (bytes_eq (trimmed (string_at nodes u.0)) f.text) [
            | true ↦ list_any (λ (z : Pick). has_term f.beside z.row && bytes_eq (around_last z.elements) (around_last w.0))
                (all_picked nodes (rows_where has_any_term rows))
            | false ↦ false
          ]
          | _ ↦ false
        ]) rule
            ∙ (ap (λ y. elim y [
              | true ↦ list_any (λ (z : Pick). has_term placeholder.beside z.row && bytes_eq (around_last z.elements) (around_last w.0))
                  (all_picked nodes (rows_where has_any_term rows))
              | false ↦ false
            ]) (ap (λ s. bytes_eq (trimmed s) placeholder.text) is ∙ t.text) ∙ stands));
        no_money = t.no_money;
        beside = λ other m. none-is (λ y. has_term y row) (flat_map beside_placeholder rows) other t.free m;
      })
