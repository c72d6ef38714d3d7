-- The calls that write what the rows of a line have, row by row, in bytes. No public clause cites it.
use Rattle.std.specs.Prelude.{ℕ, Bool, true, false, ◌&&◌, List, [], ◌∷◌, ◌++◌, Option, Some, None, Result, MatchResult, flat_map, slice_get, encode_utf8_all}
use Rattle.term_table.specs.Contexts.{root_context}
use Rattle.term_table.specs.declared.contexts.Context.{Context}
use Rattle.inv_base.specs.Outside.{SinkView}
use Rattle.inv_terms.specs.declared.entries.Entry.{Entry}
use Rattle.inv_terms.specs.declared.values.Value.{Value}
use Rattle.inv_terms.specs.Listing.{value_in}
use Rattle.inv_terms.specs.Values.{spelled}
use Rattle.xml_write.specs.Calls.{Call, call_attribute, call_text}
use Rattle.xml_write.specs.Writers.{WriterView, Made, Broke}
use Rattle.bind_rows.specs.declared.names.Leaf.{Leaf}
use Rattle.bind_rows.specs.declared.names.Leaf.TheVariants as leaves
use Rattle.bind_rows.specs.declared.rows.Row.{Row}
use Rattle.bind_rows.specs.declared.rows.Step.{Step}
use Rattle.bind_table.specs.declared.lines.Line.{Line}
use Rattle.bind_meaning.specs.Currencies.{currency_id}
use Rattle.bind_meaning.specs.Trees as trees
use Rattle.bind_write.specs.Holding.{writes}

-- ---- attributes

abbrev pub is_at_element : Row → Bool
is_at_element row = trees.is_at_element (record { number = 0; row = row })

-- the call for an attribute, by characters
abbrev pub attribute_with : List ℕ → List ℕ → List Call
attribute_with name value = call_attribute (encode_utf8_all name) (encode_utf8_all value) ∷ []

abbrev pub attribute_if : List ℕ → Option (List ℕ) → List Call
attribute_if name None = []
attribute_if name (Some text) = attribute_with name text

abbrev pub currency_with : Option Value → List Call
currency_with None = []
currency_with (Some value) = attribute_with currency_id (spelled value)

abbrev pub currency_of : List Entry → Row → List Call
currency_of es row = currency_with (value_in es (trees.currency_term row.written) root_context)

abbrev pub shows_currency : List Entry → Step → Context → Row → Bool
shows_currency es s c row = is_at_element row && (trees.shows_currency s row && writes es c row)

abbrev pub calls_if : Bool → List Call → List Call
calls_if true calls = calls
calls_if false calls = []

abbrev pub currency_at : List Entry → Step → Context → Option Row → List Call
currency_at es s c None = []
currency_at es s c (Some row) = calls_if (shows_currency es s c row) (currency_of es row)

abbrev pub currency_calls : List Row → List Entry → Step → Context → ℕ → List Call
currency_calls rows es s c n = currency_at es s c (slice_get rows n)

abbrev pub leaf_calls : Leaf → Option (List ℕ) → List Call
leaf_calls leaves.Element text = []
leaf_calls (leaves.Attribute local) text = attribute_if local text

abbrev pub attribute_at : List Entry → Context → Option Row → List Call
attribute_at es c None = []
attribute_at es c (Some row) = leaf_calls row.leaf (trees.constant_or_text es c row)

abbrev pub attribute_calls : List Row → List Entry → Context → ℕ → List Call
attribute_calls rows es c n = attribute_at es c (slice_get rows n)

-- ---- texts

abbrev pub bytes_or_none : Option (List ℕ) → List ℕ
bytes_or_none None = []
bytes_or_none (Some text) = encode_utf8_all text

abbrev pub row_bytes : List Entry → Context → Row → List ℕ
row_bytes es c row = bytes_or_none (trees.constant_or_text es c row)

abbrev pub bytes_if : Bool → List ℕ → List ℕ
bytes_if true bytes = bytes
bytes_if false bytes = []

abbrev pub text_of : List Entry → Context → Option Row → List ℕ
text_of es c None = []
text_of es c (Some row) = bytes_if (is_at_element row) (row_bytes es c row)

abbrev pub text_at : List Row → List Entry → Context → ℕ → List ℕ
text_at rows es c n = text_of es c (slice_get rows n)

-- the call for a text, none for an empty one
abbrev pub text_calls : List ℕ → List Call
text_calls [] = []
text_calls (b ∷ bytes) = call_text (b ∷ bytes) ∷ []

-- a subject code between two `#`
abbrev pub subject_text : Value → List ℕ
subject_text code = 35 ∷ (spelled code ++ 35 ∷ [])

-- Whatever text had been written before, it and these bytes are written now, as one text.
pub record Joins (w : WriterView) (r : SinkView) (bytes : List ℕ) (v : WriterView) (s : SinkView) : Type 0 where
  pub joins : (u : WriterView) (q : SinkView) (before : List ℕ) → Made u q (text_calls before) w r → Made u q (text_calls (before ++ bytes)) v s

pub record Breaks (w : WriterView) (r : SinkView) (bytes : List ℕ) (s : SinkView) : Type 0 where
  pub breaks : (u : WriterView) (q : SinkView) (before : List ℕ) → Made u q (text_calls before) w r → Broke u q (text_calls (before ++ bytes)) s

abbrev pub GoesOn : {T E : Type 0} → Result T E → WriterView → SinkView → List ℕ → WriterView → SinkView → Type 0
GoesOn result w r bytes v s = MatchResult result (λ _. Joins w r bytes v s) (λ _. Breaks w r bytes s)

-- ---- a line

abbrev pub cell_calls : List Row → List Entry → Line → Context → List Call
cell_calls rows es line c =
    flat_map (currency_calls rows es line.step c) line.rows
    ++ (flat_map (attribute_calls rows es c) line.rows
    ++ text_calls (flat_map (text_at rows es c) line.rows))
