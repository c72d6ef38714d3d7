-- Layouts and tables have no tag but those of the page, where their labels, classes and words are bare, and show what is visited in them.
use Rattle.std.proofs.Common.{◌≡◌, ℕ, Bool, true, false, ◌&&◌, ◌||◌, List, [], ◌∷◌, ◌++◌, refl, ap, ap₂, sym, subst, map, cond, codes}
use Rattle.std.specs.Prelude.{Option, Some, None, is_some, filter, if◌then◌else◌}
use Rattle.std.specs.List.{flat_map, list_all}
use Rattle.std.proofs.lemmas.Bool.{and_parts, or_parts}
use Rattle.term_table.specs.declared.groups.Group.{Group}
use Rattle.term_table.specs.declared.terms.Term.{Term}
use Rattle.term_table.specs.declared.contexts.Seat.{Seat}
use Rattle.inv_terms.specs.declared.values.Value.{Value}
use Rattle.inv_terms.specs.declared.entries.Entry.{Entry}
use Rattle.inv_terms.specs.Listing.{seat_of}
use Rattle.inv_listing.specs.Listing.{term_text}
use Rattle.page_tables.specs.declared.forms.Form.{Form}
use Rattle.page_tables.specs.declared.forms.Form.TheVariants as forms
use Rattle.page_tables.specs.declared.forms.Meanings.TheVariants as meanings
use Rattle.page_tables.specs.declared.forms.Align.{Align}
use Rattle.page_tables.specs.declared.forms.Align.TheVariants as aligns
use Rattle.page_tables.specs.declared.forms.Holds.{Holds}
use Rattle.page_tables.specs.declared.forms.Holds.TheVariants as holds
use Rattle.page_tables.specs.Tables.{Part, Item, Column, Cell, Row, Section, Table}
use Rattle.page_values.specs.Places.{Place, numbers_to, count_in, occurrence, value_at}
use Rattle.page_values.specs.Values.{plain, shown, value_of}
use Rattle.page_values.specs.Parts.{stands, any_stands, words_before, space_behind, part_text, parts_behind, parts_text}
use Rattle.page_layouts.specs.Layouts.{row, paragraph_start, paragraph, is_added, added_row, added_text, stands_of, item_in, one_in, in_each, item_text, layout}
use Rattle.page_layouts.specs.Tables.{heading_start, column_text, table_start, cell_start, held, held_in, cell_text, table_row, rows_of, rows}
use Rattle.page_layouts.specs.Sections.{section_start, heading, head_of, in_section}
use Rattle.page_laws.specs.Tags.{are_bare, each_begins_one, has_tags_alone, values_in}
use Rattle.page_laws.specs.Visits.{of_term, of_parts, of_form, of_one, of_item, of_layout, of_held, of_cell, of_cells, of_row}
use Rattle.page_laws.proofs.BareLemmas.{Bare, Bare-append}
use Rattle.page_laws.proofs.PlaceLemmas.{IsSafe}
use Rattle.page_laws.proofs.ValueLemmas.{Bare-term_text, Shown-plain, Shown-shown, Shown-value_of}
use Rattle.page_laws.proofs.TagLemmas.{Tagged, known, Tagged-nil, Tagged-append, Tagged-if, Tagged-bare, Tagged-section, Tagged-paragraph}
use Rattle.page_laws.proofs.TagLemmas.{Shown, of-tagged, Shown-nil, Shown-append, Shown-before, Shown-after, Shown-all}

-- ---- texts of the tables

abbrev pub is_bare_part : Part → Bool
is_bare_part part = are_bare part.0

abbrev pub is_bare_item : Item → Bool
is_bare_item item = are_bare item.2 && list_all is_bare_part item.3

abbrev pub is_bare_cell : Cell → Bool
is_bare_cell cell = are_bare cell.2 && (list_all is_bare_part cell.3 && list_all is_bare_item cell.4)

abbrev pub is_bare_row : Row → Bool
is_bare_row row = list_all is_bare_cell row.1

abbrev pub is_bare_section : Section → Bool
is_bare_section section = are_bare section.0 && (are_bare section.1 && list_all is_bare_item section.2)

abbrev pub are_bare_columns : List Column → Bool
are_bare_columns columns = list_all (λ (column : Column). are_bare column.1) columns

abbrev pub is_bare_table : Table → Bool
is_bare_table table = are_bare table.0 && (are_bare table.1 && (are_bare_columns table.2 && list_all is_bare_row table.3))

-- what is so of each of some things
Tagged-each : {X : Type 0} (f : X → List ℕ) (p : X → Bool) → ((x : X) → p x ≡ true → Tagged (f x)) → (xs : List X) → list_all p xs ≡ true
    → Tagged (flat_map f xs)
Tagged-each f p each [] h = Tagged-nil
Tagged-each f p each (x ∷ xs) h =
    let parts = and_parts (p x) (list_all p xs) h in
    Tagged-append (f x) (flat_map f xs) (each x parts.0) (Tagged-each f p each xs parts.1)

pub Shown-each : {X : Type 0} (f : X → List ℕ) (g : X → List Seat) (p : X → Bool) → ((x : X) → p x ≡ true → Shown (f x) (g x)) → (xs : List X)
    → list_all p xs ≡ true → Shown (flat_map f xs) (flat_map g xs)
Shown-each f g p each [] h = Shown-nil
Shown-each f g p each (x ∷ xs) h =
    let parts = and_parts (p x) (list_all p xs) h in
    Shown-append (f x) (flat_map f xs) (g x) (flat_map g xs) (each x parts.0) (Shown-each f g p each xs parts.1)

-- a piece that stands only where something is shown in it
Shown-if : (q : Bool) (text : List ℕ) (seats : List Seat) → Shown text seats → (q ≡ false → seats ≡ []) → Shown (if q then text else []) seats
Shown-if true text seats h none = h
Shown-if false text seats h none = subst (Shown []) (sym (none refl)) Shown-nil

-- ---- parts

Tagged-space : (q : Bool) → Tagged (space_behind q)
Tagged-space q = Tagged-if q (0x20 ∷ []) (Tagged-bare (0x20 ∷ []) refl)

Tagged-words : (words : List ℕ) → Bare words → Tagged (words_before words)
Tagged-words [] h = Tagged-nil
Tagged-words (c ∷ words) h = Tagged-bare ((c ∷ words) ++ 0x20 ∷ []) (Bare-append (c ∷ words) (0x20 ∷ []) h refl)

module _ (place : Place) (safe : IsSafe place) where
  Shown-part : (behind : Bool) (part : Part) → is_bare_part part ≡ true → Shown (part_text behind place part) (of_term place part.1)
  Shown-part behind part h = by (value_at place part.1) refl
    where
      by : (o : Option Value) → value_at place part.1 ≡ o
          → Shown (elim o [ None ↦ [] | Some value ↦ space_behind behind ++ (words_before part.0 ++ shown place part.1 part.2 value) ])
          (if is_some o then record { term = part.1; context = place.context } ∷ [] else [])
      by None e = Shown-nil
      by (Some value) e =
          let seat : Seat = record { term = part.1; context = place.context } in
          Shown-before (space_behind behind) _ (seat ∷ []) (Tagged-space behind)
          (Shown-before (words_before part.0) _ (seat ∷ []) (Tagged-words part.0 h) (Shown-shown place part.1 part.2 value seat safe e))

  Shown-behind : (behind : Bool) (parts : List Part) → list_all is_bare_part parts ≡ true → Shown (parts_behind behind place parts) (of_parts place parts)
  Shown-behind behind [] h = Shown-nil
  Shown-behind behind (part ∷ parts) h =
      let each = and_parts (is_bare_part part) (list_all is_bare_part parts) h in
      Shown-append (part_text behind place part) _ (of_term place part.1) _ (Shown-part behind part each.0)
      (Shown-behind (behind || stands place part) parts each.1)

  Shown-parts : (parts : List Part) → list_all is_bare_part parts ≡ true → Shown (parts_text place parts) (of_parts place parts)
  Shown-parts parts h = Shown-behind false parts h

-- what doesn't stand isn't visited
none-of : (place : Place) (term : Term) → is_some (value_at place term) ≡ false → of_term place term ≡ []
none-of place term h = ap (λ q. if q then record { term = term; context = place.context } ∷ [] else []) h

none-stands : (place : Place) (parts : List Part) → any_stands place parts ≡ false → of_parts place parts ≡ []
none-stands place [] h = refl
none-stands place (part ∷ parts) h =
    let each = or_parts (stands place part) (any_stands place parts) h in
    ap₂ (λ a b. a ++ b) (none-of place part.1 each.0) (none-stands place parts each.1)

-- ---- rows and paragraphs

pub Tagged-row : (label text : List ℕ) → Tagged label → Tagged text → Tagged (row label text)
unfolding has_tags_alone each_begins_one values_in
Tagged-row label text l t =
    Tagged-append (codes "<dl><dt>") _ (known _ refl (λ _. refl))
    (Tagged-append label _ l
    (Tagged-append (codes "</dt><dd>") _ (known _ refl (λ _. refl))
    (Tagged-append text (codes "</dd></dl>\n") t (known _ refl (λ _. refl)))))

Tagged-paragraph_start : (class : List ℕ) → Bare class → Tagged (paragraph_start class)
unfolding has_tags_alone each_begins_one values_in
Tagged-paragraph_start [] h = known (codes "<p>") refl (λ _. refl)
Tagged-paragraph_start (c ∷ class) h = Tagged-paragraph (c ∷ class) h

Shown-paragraph_text : (class text : List ℕ) (seats : List Seat) → Bare class → Shown text seats → Shown (paragraph class text) seats
unfolding has_tags_alone each_begins_one values_in
Shown-paragraph_text class text seats h t =
    Shown-before (paragraph_start class) _ seats (Tagged-paragraph_start class h) (Shown-after text (codes "</p>\n") seats t (known _ refl (λ _. refl)))

-- a row in whose label or in whose text values begin
Shown-row : (label text : List ℕ) (xs ys : List Seat) → Shown label xs → Shown text ys → Shown (row label text) (xs ++ ys)
unfolding has_tags_alone each_begins_one values_in
Shown-row label text xs ys l t =
    Shown-before (codes "<dl><dt>") _ (xs ++ ys) (known _ refl (λ _. refl))
    (Shown-append label _ xs ys l
    (Shown-before (codes "</dt><dd>") _ ys (known _ refl (λ _. refl)) (Shown-after text (codes "</dd></dl>\n") ys t (known _ refl (λ _. refl)))))

Shown-row_text : (label text : List ℕ) (ys : List Seat) → Tagged label → Shown text ys → Shown (row label text) ys
unfolding has_tags_alone each_begins_one values_in
Shown-row_text label text ys l t =
    Shown-before (codes "<dl><dt>") _ ys (known _ refl (λ _. refl))
    (Shown-before label _ ys l
    (Shown-before (codes "</dt><dd>") _ ys (known _ refl (λ _. refl)) (Shown-after text (codes "</dd></dl>\n") ys t (known _ refl (λ _. refl)))))

-- ---- added terms

Shown-added_row : (e : Entry) → Shown (added_row e) (seat_of e ∷ [])
Shown-added_row e =
    Shown-row_text (term_text e.term) (plain e.term meanings.None e.value) (seat_of e ∷ []) (Tagged-bare (term_text e.term) (Bare-term_text e.term))
    (Shown-plain e.term meanings.None e.value (seat_of e))

Shown-added : (place : Place) (es : List Entry) → Shown (flat_map (added_text place) es) (map seat_of (filter (is_added place) es))
Shown-added place [] = Shown-nil
Shown-added place (e ∷ es) = by (is_added place e) (Shown-added place es)
  where
    by : (q : Bool) → Shown (flat_map (added_text place) es) (map seat_of (filter (is_added place) es))
        → Shown ((if q then added_row e else []) ++ flat_map (added_text place) es)
        (map seat_of (cond q (e ∷ filter (is_added place) es) (filter (is_added place) es)))
    by true rest = Shown-append (added_row e) _ (seat_of e ∷ []) _ (Shown-added_row e) rest
    by false rest = rest

-- ---- items

module _ (place : Place) (safe : IsSafe place) where
  Shown-item_in : (form : Form) (label : List ℕ) (parts : List Part) → Bare label → list_all is_bare_part parts ≡ true
      → Shown (item_in place form label parts) (of_form place form parts)
  Shown-item_in forms.Row label parts h p =
      Shown-if (any_stands place parts) _ (of_parts place parts)
      (Shown-row_text label (parts_text place parts) (of_parts place parts) (Tagged-bare label h) (Shown-parts place safe parts p)) (none-stands place parts)
  Shown-item_in (forms.RowOf term) label parts h p =
      Shown-if (stands_of place term parts) _ (of_term place term ++ of_parts place parts)
      (Shown-row (value_of place term meanings.None) (parts_text place parts) (of_term place term) (of_parts place parts)
      (Shown-value_of place term meanings.None safe) (Shown-parts place safe parts p))
      (λ none. let each = or_parts (is_some (value_at place term)) (any_stands place parts) none in
      ap₂ (λ a b. a ++ b) (none-of place term each.0) (none-stands place parts each.1))
  Shown-item_in forms.Paragraph label parts h p =
      Shown-if (any_stands place parts) _ (of_parts place parts)
      (Shown-paragraph_text label (parts_text place parts) (of_parts place parts) h (Shown-parts place safe parts p)) (none-stands place parts)
  Shown-item_in forms.Added label parts h p = Shown-added place place.entries

  Shown-one_in : (item : Item) → is_bare_item item ≡ true → Shown (one_in place item) (of_one place item)
  Shown-one_in item h =
      let parts = and_parts (are_bare item.2) (list_all is_bare_part item.3) h in
      Shown-item_in item.1 item.2 item.3 parts.0 parts.1

-- A place is safe, and so is each occurrence in it.
pub record IsSafeAround (place : Place) : Type 0 where
  pub here : IsSafe place
  pub inside : (group : Group) (k : ℕ) → IsSafe (occurrence place group k)

module _ (place : Place) (safe : IsSafeAround place) where
  Shown-item : (item : Item) → is_bare_item item ≡ true → Shown (item_text place item) (of_item place item)
  Shown-item item h = by item.0
    where
      by : (o : Option Group)
          → Shown (elim o [ None ↦ one_in place item | Some group ↦ in_each place group item ])
          (elim o [ None ↦ of_one place item | Some group ↦ flat_map (λ k. of_one (occurrence place group k) item) (numbers_to (count_in place group)) ])
      by None = Shown-one_in place safe.here item h
      by (Some group) =
          Shown-all (λ k. one_in (occurrence place group k) item) (λ k. of_one (occurrence place group k) item)
          (λ k. Shown-one_in (occurrence place group k) (safe.inside group k) item h) (numbers_to (count_in place group))

  pub Shown-layout : (items : List Item) → list_all is_bare_item items ≡ true → Shown (layout place items) (of_layout place items)
  Shown-layout items h = Shown-each (item_text place) (of_item place) is_bare_item Shown-item items h

-- ---- tables

Tagged-heading_start : (align : Align) → Tagged (heading_start align)
unfolding has_tags_alone each_begins_one values_in
Tagged-heading_start aligns.Texts = known (codes "<th>") refl (λ _. refl)
Tagged-heading_start aligns.Numbers = known (codes "<th class=\"n\">") refl (λ _. refl)

Tagged-column : (column : Column) → are_bare column.1 ≡ true → Tagged (column_text column)
unfolding has_tags_alone each_begins_one values_in
Tagged-column column h =
    Tagged-append (heading_start column.0) _ (Tagged-heading_start column.0)
    (Tagged-append column.1 (codes "</th>\n") (Tagged-bare column.1 h) (known _ refl (λ _. refl)))

Tagged-table_start : (columns : List Column) → are_bare_columns columns ≡ true → Tagged (table_start columns)
unfolding has_tags_alone each_begins_one values_in
Tagged-table_start [] h = Tagged-nil
Tagged-table_start (column ∷ columns) h =
    Tagged-append (codes "<table>\n<thead>\n<tr>\n") _ (known _ refl (λ _. refl))
    (Tagged-append (flat_map column_text (column ∷ columns)) (codes "</tr>\n</thead>\n<tbody>\n")
    (Tagged-each column_text (λ (c : Column). are_bare c.1) Tagged-column (column ∷ columns) h) (known _ refl (λ _. refl)))

Tagged-cell_start : (align : Align) → Tagged (cell_start align)
unfolding has_tags_alone each_begins_one values_in
Tagged-cell_start aligns.Texts = known (codes "<td>") refl (λ _. refl)
Tagged-cell_start aligns.Numbers = known (codes "<td class=\"n\">") refl (λ _. refl)

module _ (place : Place) (safe : IsSafeAround place) where
  Shown-held : (kind : Holds) (words : List ℕ) (parts : List Part) (items : List Item) → Bare words → list_all is_bare_part parts ≡ true
      → list_all is_bare_item items ≡ true → Shown (held place kind words parts items) (of_held place kind parts items)
  Shown-held holds.Words words parts items w p i = of-tagged words (Tagged-bare words w)
  Shown-held holds.Parts words parts items w p i = Shown-parts place safe.here parts p
  Shown-held holds.Layout words parts items w p i =
      Shown-before (0xA ∷ []) (layout place items) _ (Tagged-bare (0xA ∷ []) refl) (Shown-layout place safe items i)

  Shown-cell : (cell : Cell) → is_bare_cell cell ≡ true → Shown (cell_text place cell) (of_cell place cell)
  unfolding has_tags_alone each_begins_one values_in
  Shown-cell cell h =
      let words = and_parts (are_bare cell.2) (list_all is_bare_part cell.3 && list_all is_bare_item cell.4) h in
      let rest = and_parts (list_all is_bare_part cell.3) (list_all is_bare_item cell.4) words.1 in
      Shown-before (cell_start cell.0) _ (of_cell place cell) (Tagged-cell_start cell.0)
      (Shown-after (held_in place cell) (codes "</td>\n") (of_cell place cell)
      (Shown-held cell.1 cell.2 cell.3 cell.4 words.0 rest.0 rest.1) (known _ refl (λ _. refl)))

  Shown-table_row : (cells : List Cell) → list_all is_bare_cell cells ≡ true → Shown (table_row place cells) (of_cells place cells)
  unfolding has_tags_alone each_begins_one values_in
  Shown-table_row cells h =
      Shown-before (codes "<tr>\n") _ (of_cells place cells) (known _ refl (λ _. refl))
      (Shown-after (flat_map (cell_text place) cells) (codes "</tr>\n") (of_cells place cells)
      (Shown-each (cell_text place) (of_cell place) is_bare_cell Shown-cell cells h) (known _ refl (λ _. refl)))

module _ (place : Place) (safe : (group : Group) (k : ℕ) → IsSafeAround (occurrence place group k)) where
  Shown-rows_of : (row : Row) → is_bare_row row ≡ true → Shown (rows_of place row) (of_row place row)
  Shown-rows_of row h =
      Shown-all (λ k. table_row (occurrence place row.0 k) row.1) (λ k. of_cells (occurrence place row.0 k) row.1)
      (λ k. Shown-table_row (occurrence place row.0 k) (safe row.0 k) row.1 h) (numbers_to (count_in place row.0))

  pub Shown-rows : (groups : List Row) → list_all is_bare_row groups ≡ true → Shown (rows place groups) (flat_map (of_row place) groups)
  Shown-rows groups h = Shown-each (rows_of place) (of_row place) is_bare_row Shown-rows_of groups h

-- ---- sections

Tagged-section_start : (class : List ℕ) → Bare class → Tagged (section_start class)
unfolding has_tags_alone each_begins_one values_in
Tagged-section_start [] h = known (codes "<section>\n") refl (λ _. refl)
Tagged-section_start (c ∷ class) h = Tagged-section (c ∷ class) h

Tagged-heading : (text : List ℕ) → Bare text → Tagged (heading text)
unfolding has_tags_alone each_begins_one values_in
Tagged-heading [] h = Tagged-nil
Tagged-heading (c ∷ text) h =
    Tagged-append (codes "<h2>") _ (known _ refl (λ _. refl)) (Tagged-append (c ∷ text) (codes "</h2>\n") (Tagged-bare (c ∷ text) h) (known _ refl (λ _. refl)))

pub Tagged-head_of : (class text : List ℕ) (columns : List Column) → Bare class → Bare text → are_bare_columns columns ≡ true
    → Tagged (head_of class text columns)
Tagged-head_of class text columns c t h =
    Tagged-append (section_start class) _ (Tagged-section_start class c)
    (Tagged-append (heading text) (table_start columns) (Tagged-heading text t) (Tagged-table_start columns h))

pub Shown-in_section : (head text end : List ℕ) (seats : List Seat) → Tagged head → Shown text seats → Tagged end → Shown (in_section head text end) seats
Shown-in_section head [] end seats h t e = t
Shown-in_section head (c ∷ text) end seats h t e = Shown-before head _ seats h (Shown-after (c ∷ text) end seats t e)

pub Tagged-in_section : (head text end : List ℕ) → Tagged head → Tagged text → Tagged end → Tagged (in_section head text end)
Tagged-in_section head [] end h t e = t
Tagged-in_section head (c ∷ text) end h t e = Tagged-append head _ h (Tagged-append (c ∷ text) end t e)
