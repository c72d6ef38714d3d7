-- What is found fits its term.
use Rattle.std.proofs.Common.{◌≡◌, ℕ, Bool, true, false, cond, not, List, [], ◌∷◌, Option, Some, None, find, map, refl, sym, ap, ◌∙◌, subst, All, true≢false, inl, inr, bytes_eq, codes, arith}
use Rattle.std.proofs.lemmas.Bool.{cases_Bool, ltb-true, leb-true}
use Rattle.std.proofs.lemmas.Option.{same_Some}
use Rattle.std.proofs.lemmas.List.Elements.{All-nil, All-cons, All-append}
use Rattle.std.proofs.lemmas.List.Folds.{find_at, find-append}
use Rattle.std.specs.Option.{option_or}
use Rattle.std.specs.Prelude.{option_and_then, option_map, nat_lt, nat_le}
use Rattle.std.specs.List.{position_or_len}
use Rattle.json_reading.specs.declared.item.Item.{Item}
use Rattle.json_reading.specs.declared.item.ItemKind.{ItemKind}
use Rattle.json_reading.specs.declared.item.ItemKind.TheVariants as kinds
use Rattle.json_reading.specs.declared.item.Span.{Span}
use Rattle.term_table.proofs.DataTypeLemmas.{one_type}
use Rattle.term_table.proofs.GroupLemmas.{both}
use Rattle.term_table.specs.declared.groups.Group.{Group}
use Rattle.term_table.specs.declared.terms.TermRow.{TermRow}
use Rattle.term_table.specs.SemanticModel.{terms}
use Rattle.term_table.specs.Contexts.{slot_group}
use Rattle.term_table.specs.Rows.{HasType, added, is_base64}
use Rattle.extension_files.specs.declared.terms.ExtTerm.{ExtTerm}
use Rattle.extension_files.specs.Extensions.{is_extension, are_terms, are_paths}
use Rattle.inv_terms.specs.declared.values.Value.{Value}
use Rattle.inv_terms.specs.Validity.{is_outside, code_in}
use Rattle.inv_terms.specs.Values.{value_of, is_blank}
use Rattle.invoice_data.specs.declared.faults.DataFault.{DataFault}
use Rattle.invoice_data.specs.declared.faults.DataKind.{DataKind}
use Rattle.invoice_data.specs.declared.faults.DataKind.TheVariants.{NotAText, BadValue, CodeNotListed, DuplicateMember}
use Rattle.invoice_data.specs.declared.members.Numbers.{Numbers}
use Rattle.invoice_data.specs.declared.names.Member.{Member}
use Rattle.invoice_data.specs.declared.names.Member.TheVariants as members
use Rattle.invoice_data.specs.declared.names.Room.{Room}
use Rattle.invoice_data.specs.declared.telling.Found.{Found}
use Rattle.invoice_data.specs.Parts.{Part, parts}
use Rattle.invoice_data.specs.Names.{Source, added_row, is_row_named, row_named, array_named, passed_named, passed_named_in, member_named, member_of, name_span, text_at, stands_before}
use Rattle.invoice_data.specs.Told.{Told, nothing, both as joined, one_found, one_fault}
use Rattle.invoice_data.specs.Values.{found, fault_at, refused, value_told, text_told, said_told, said_by_string, said_by_number, term_told_by, term_told}
use Rattle.invoice_data.specs.Members.{Arrays, name_of, member_told, known_told, first_told, members_told, seen_with, lacks_told, object_told, element_by, element_told, room_in, numbers_behind, is_schemed, elements_told, mark, mark_told, array_by, array_told, no_arrays, inner_arrays, outer_arrays, root_room, told_in, told, no_numbers}
use Rattle.invoice_data.specs.Data.{FitsFound}
use Rattle.invoice_data.proofs.GuessLemmas.{added_extension}

none-some : {X : Type 0} (x : X) → None ≡ Some x → ⊥
none-some x e = cc

-- ---- the types of rows

-- The row's term has its type.
abbrev pub HasRowType : TermRow → Type 0
HasRowType row = HasType row.term row.data_type

not_true : (b : Bool) → not b ≡ true → b ≡ false
not_true true h = absurd (true≢false (sym h))
not_true false h = refl

added_type : (before : ℕ) (e : ExtTerm) (more : List ExtTerm) → are_terms before (e ∷ more) ≡ true → HasRowType (added_row e) × (are_terms e.number more ≡ true)
added_type before e more h =
    let a = both (nat_lt before e.number) _ h in
    let b = both (nat_le e.number 99) _ a.1 in
    let c = both (not (is_base64 e.data_type)) _ b.1 in
    let d = both (are_paths e.paths) (are_terms e.number more) c.1 in
    let low = ltb-true before e.number a.0 in
    let high = leb-true e.number 99 b.0 in
    (added (added_extension e.number (omega arith) (omega arith)) (not_true (is_base64 e.data_type) c.0), d.1)

added_typed : (p : TermRow → Bool) (before : ℕ) (es : List ExtTerm) (row : TermRow) → are_terms before es ≡ true → find p (map added_row es) ≡ Some row
    → HasRowType row
added_typed p before [] row fine h = absurd (none-some row h)
added_typed p before (e ∷ es) row fine h =
    let here = added_type before e es fine in
    elim (cases_Bool (p (added_row e))) [
      | inl t ↦ subst HasRowType (same_Some _ _ (sym (ap (λ b. cond b (Some (added_row e)) (find p (map added_row es))) t) ∙ h)) here.0
      | inr f ↦ added_typed p e.number es row here.1 (sym (ap (λ b. cond b (Some (added_row e)) (find p (map added_row es))) f) ∙ h)
    ]

model_typed : (p : TermRow → Bool) (row : TermRow) → find p terms ≡ Some row → HasRowType row
model_typed p row h = one_type (position_or_len p terms) row (sym (find_at p terms) ∙ h)

either_typed : (first second : Option TermRow) (row : TermRow) → (first ≡ Some row → HasRowType row) → (second ≡ Some row → HasRowType row)
    → option_or first second ≡ Some row → HasRowType row
either_typed (Some r) second row a b h = a h
either_typed None second row a b h = b h

row_typed : (source : Source) (room : Room) (name : List ℕ) (row : TermRow) → is_extension source.added ≡ true → row_named source room name ≡ Some row
    → HasRowType row
unfolding row_named
row_typed source room name row fine h =
    either_typed (find (is_row_named room name) terms) (find (is_row_named room name) (map added_row source.added)) row
    (model_typed (is_row_named room name) row) (added_typed (is_row_named room name) 0 source.added row fine)
    (sym (find-append (is_row_named room name) terms (map added_row source.added)) ∙ h)

-- ---- values

abbrev FitAll : Told → Type 0
FitAll t = All FitsFound t.founds

fit_nothing : All FitsFound []
fit_nothing = All-nil FitsFound

fit_one : (f : Found) → FitsFound f → All FitsFound (f ∷ [])
fit_one f h = All-cons FitsFound f [] h (All-nil FitsFound)

fit_both : (a b : Told) → FitAll a → FitAll b → FitAll (joined a b)
unfolding joined
fit_both a b h k = All-append FitsFound a.founds b.founds h k

fit_none : (room : Room) (row : TermRow) → FitsFound (found room row None)
fit_none room row = λ value e. absurd (none-some value e)

fit_refused : (kind : DataKind) (room : Room) (row : TermRow) (at : ℕ) → FitAll (refused kind room row at)
fit_refused kind room row at = fit_one (found room row None) (fit_none room row)

fit_value : (source : Source) (room : Room) (row : TermRow) (at : ℕ) (text : List ℕ) (value : Option Value) → HasRowType row
    → value ≡ value_of row.data_type text → FitAll (value_told source room row at value)
fit_value source room row at text None typed e = fit_refused BadValue room row at
fit_value source room row at text (Some value) typed e = by (is_outside source.lists row.list (code_in value))
  where
    by : (b : Bool) → FitAll (cond b (refused CodeNotListed room row at) (one_found (found room row (Some value))))
    by true = fit_refused CodeNotListed room row at
    by false = fit_one (found room row (Some value)) (λ v is. record { data_type = row.data_type; text = text; typed = typed; read = sym e ∙ is })

fit_text : (source : Source) (room : Room) (row : TermRow) (at : ℕ) (text : List ℕ) → HasRowType row → FitAll (text_told source room row at text)
unfolding text_told
fit_text source room row at text typed = by (is_blank text)
  where
    by : (b : Bool) → FitAll (cond b nothing (value_told source room row at (value_of row.data_type text)))
    by true = fit_nothing
    by false = fit_value source room row at text (value_of row.data_type text) typed refl

fit_said : (source : Source) (room : Room) (row : TermRow) (at : ℕ) (said : Option (List ℕ)) → HasRowType row → FitAll (said_told source room row at said)
unfolding said_told
fit_said source room row at None typed = fit_refused BadValue room row at
fit_said source room row at (Some text) typed = fit_text source room row at text typed

fit_kind : (source : Source) (room : Room) (row : TermRow) (span : Span) (kind : ItemKind) → HasRowType row → FitAll (term_told_by source room row span kind)
fit_kind source room row span kinds.Null typed = fit_nothing
fit_kind source room row span kinds.Text typed = fit_said source room row span.at (said_by_string source.bytes span) typed
fit_kind source room row span kinds.Number typed = fit_said source room row span.at (said_by_number source.bytes span) typed
fit_kind source room row span kinds.True typed = fit_refused NotAText room row span.at
fit_kind source room row span kinds.False typed = fit_refused NotAText room row span.at
fit_kind source room row span kinds.Object typed = fit_refused NotAText room row span.at
fit_kind source room row span kinds.Array typed = fit_refused NotAText room row span.at

fit_term : (source : Source) (room : Room) (row : TermRow) (item : Item) → HasRowType row → FitAll (term_told source room row item)
unfolding term_told
fit_term source room row item typed = fit_kind source room row item.value item.kind typed

-- ---- members

-- If it is a term, its row has the term's type.
abbrev HasMemberType : Option Member → Type 0
HasMemberType m = (row : TermRow) → m ≡ Some (members.Term row) → HasRowType row

abbrev row_in : TermRow → Option Member → TermRow
row_in d None = d
row_in d (Some (members.Term row)) = row
row_in d (Some (members.Array group)) = d
row_in d (Some members.PassedOver) = d

first_typed : (row : Option TermRow) (other : Option Member) → ((r : TermRow) → row ≡ Some r → HasRowType r) → HasMemberType other
    → HasMemberType (option_or (option_map members.Term row) other)
first_typed None other h k = k
first_typed (Some r) other h k = λ row e. subst HasRowType (ap (row_in r) e) (h r refl)

array_typed : (group : Option Group) (other : Option Member) → HasMemberType other → HasMemberType (option_or (option_map members.Array group) other)
array_typed None other k = k
array_typed (Some g) other k = λ row e. absurd (cc)

passed_typed : (room : Room) (name : List ℕ) → HasMemberType (passed_named room name)
passed_typed room name = by (slot_group room.place.outer)
  where
    by_test : (b : Bool) → HasMemberType (cond b (Some members.PassedOver) None)
    by_test true = λ row e. absurd (cc)
    by_test false = λ row e. absurd (none-some _ e)

    by : (outer : Option Group) → HasMemberType (passed_named_in outer name)
    by None = by_test (bytes_eq (codes "passed_over") name)
    by (Some outer) = λ row e. absurd (none-some _ e)

member_typed : (source : Source) (room : Room) (name : List ℕ) → is_extension source.added ≡ true → HasMemberType (member_named source room name)
unfolding member_named
member_typed source room name fine =
    first_typed (row_named source room name) _ (λ row. row_typed source room name row fine)
    (array_typed (array_named room name) (passed_named room name) (passed_typed room name))

item_typed : (source : Source) (room : Room) (item : Item) → is_extension source.added ≡ true → HasMemberType (member_of source room item)
unfolding member_of
item_typed source room item fine = by (text_at source.bytes (name_span item))
  where
    by : (text : Option (List ℕ)) → HasMemberType (option_and_then (member_named source room) text)
    by None = λ row e. absurd (none-some _ e)
    by (Some text) = member_typed source room text fine

-- What arrays tell fits.
abbrev ArraysFit : Arrays → Type 0
ArraysFit arrays = (source : Source) (room : Room) (group : Group) (p : Part) → is_extension source.added ≡ true → FitAll (arrays source room group p)

fit_first : (arrays : Arrays) (source : Source) (room : Room) (p : Part) (m : Member) → ArraysFit arrays → is_extension source.added ≡ true
    → HasMemberType (Some m) → FitAll (first_told arrays source room p m)
fit_first arrays source room p (members.Term row) h fine typed = fit_term source room row p.item (typed row refl)
fit_first arrays source room p (members.Array group) h fine typed = h source room group p fine
fit_first arrays source room p members.PassedOver h fine typed = fit_nothing

fit_known : (arrays : Arrays) (source : Source) (room : Room) (seen : List Member) (p : Part) (m : Member) → ArraysFit arrays → is_extension source.added ≡ true
    → HasMemberType (Some m) → FitAll (known_told arrays source room seen p m)
unfolding known_told
fit_known arrays source room seen p m h fine typed =
    by (stands_before seen m) (fault_at DuplicateMember room (name_of m) (name_span p.item).at)
  where
    by : (b : Bool) (fault : DataFault) → FitAll (cond b (one_fault fault) (first_told arrays source room p m))
    by true fault = fit_nothing
    by false fault = fit_first arrays source room p m h fine typed

fit_member : (arrays : Arrays) (source : Source) (room : Room) (seen : List Member) (p : Part) (m : Option Member) → ArraysFit arrays
    → is_extension source.added ≡ true → HasMemberType m → FitAll (member_told arrays source room seen p m)
fit_member arrays source room seen p None h fine typed = fit_nothing
fit_member arrays source room seen p (Some m) h fine typed = fit_known arrays source room seen p m h fine typed

fit_members : (arrays : Arrays) (source : Source) (room : Room) (seen : List Member) (ps : List Part) → ArraysFit arrays → is_extension source.added ≡ true
    → FitAll (members_told arrays source room seen ps)
fit_members arrays source room seen [] h fine = fit_nothing
fit_members arrays source room seen (p ∷ ps) h fine =
    fit_both _ _ (fit_member arrays source room seen p (member_of source room p.item) h fine (item_typed source room p.item fine))
    (fit_members arrays source room (seen_with seen (member_of source room p.item)) ps h fine)

fit_lacks : (room : Room) (at : ℕ) (founds : List Found) → FitAll (lacks_told room at founds)
unfolding lacks_told
fit_lacks room at founds = fit_nothing

fit_object : (arrays : Arrays) (source : Source) (room : Room) (p : Part) → ArraysFit arrays → is_extension source.added ≡ true
    → FitAll (object_told arrays source room p)
unfolding object_told
fit_object arrays source room p h fine =
    fit_both _ _ (fit_members arrays source room [] (parts p.inside) h fine) (fit_lacks room p.item.value.at _)

fit_element_by : (arrays : Arrays) (source : Source) (room : Room) (p : Part) (kind : ItemKind) → ArraysFit arrays → is_extension source.added ≡ true
    → FitAll (element_by arrays source room p kind)
fit_element_by arrays source room p kinds.Object h fine = fit_object arrays source room p h fine
fit_element_by arrays source room p kinds.Array h fine = fit_nothing
fit_element_by arrays source room p kinds.Text h fine = fit_nothing
fit_element_by arrays source room p kinds.Number h fine = fit_nothing
fit_element_by arrays source room p kinds.True h fine = fit_nothing
fit_element_by arrays source room p kinds.False h fine = fit_nothing
fit_element_by arrays source room p kinds.Null h fine = fit_nothing

fit_element : (arrays : Arrays) (source : Source) (room : Room) (p : Part) → ArraysFit arrays → is_extension source.added ≡ true
    → FitAll (element_told arrays source room p)
unfolding element_told
fit_element arrays source room p h fine = fit_element_by arrays source room p p.item.kind h fine

fit_elements : (arrays : Arrays) (source : Source) (room : Room) (group : Group) (numbers : Numbers) (ps : List Part) → ArraysFit arrays
    → is_extension source.added ≡ true → FitAll (elements_told arrays source room group numbers ps)
fit_elements arrays source room group numbers [] h fine = fit_nothing
fit_elements arrays source room group numbers (p ∷ ps) h fine =
    fit_both _ _ (fit_element arrays source (room_in room group numbers (is_schemed source group p.inside)) p h fine)
    (fit_elements arrays source room group (numbers_behind numbers (is_schemed source group p.inside)) ps h fine)

fit_mark : (room : Room) (group : Group) → FitsFound (mark room group)
fit_mark room group = λ value e. absurd (none-some value e)

fit_mark_told : (room : Room) (group : Group) (items : List Item) → FitAll (mark_told room group items)
fit_mark_told room group [] = fit_nothing
fit_mark_told room group (i ∷ items) = fit_one (mark room group) (fit_mark room group)

fit_array_by : (arrays : Arrays) (source : Source) (room : Room) (group : Group) (p : Part) (kind : ItemKind) → ArraysFit arrays
    → is_extension source.added ≡ true → FitAll (array_by arrays source room group p kind)
fit_array_by arrays source room group p kinds.Null h fine = fit_nothing
fit_array_by arrays source room group p kinds.Array h fine =
    fit_both _ _ (fit_mark_told room group p.inside) (fit_elements arrays source room group no_numbers (parts p.inside) h fine)
fit_array_by arrays source room group p kinds.Object h fine = fit_one (mark room group) (fit_mark room group)
fit_array_by arrays source room group p kinds.Text h fine = fit_one (mark room group) (fit_mark room group)
fit_array_by arrays source room group p kinds.Number h fine = fit_one (mark room group) (fit_mark room group)
fit_array_by arrays source room group p kinds.True h fine = fit_one (mark room group) (fit_mark room group)
fit_array_by arrays source room group p kinds.False h fine = fit_one (mark room group) (fit_mark room group)

fit_array : (arrays : Arrays) → ArraysFit arrays → ArraysFit (array_told arrays)
unfolding array_told
fit_array arrays h = λ source room group p fine. fit_array_by arrays source room group p p.item.kind h fine

fit_no_arrays : ArraysFit no_arrays
unfolding no_arrays
fit_no_arrays = λ source room group p fine. fit_nothing

fit_inner : ArraysFit inner_arrays
unfolding inner_arrays
fit_inner = fit_array no_arrays fit_no_arrays

fit_outer : ArraysFit outer_arrays
unfolding outer_arrays
fit_outer = fit_array inner_arrays fit_inner

-- what the values of a text tell
pub fit_told : (source : Source) (items : List Item) → is_extension source.added ≡ true → All FitsFound (told source items).founds
unfolding told
fit_told source items fine = by (parts items)
  where
    by : (ps : List Part) → FitAll (told_in source ps)
    by [] = fit_nothing
    by (p ∷ ps) = fit_element outer_arrays source root_room p fit_outer fine
