-- The tags of the page, and texts that have no other: whatever begins with `<` is one of them, whole, so that a value of an attribute in
-- it goes up to the quote that the writer put behind it. Texts are bytes of UTF-8.
use Rattle.std.specs.Prelude.{ℕ, suc, Bool, true, false, ◌==◌, ◌&&◌, ◌||◌, not, List, [], ◌∷◌, codes, Option, Some, None, is_some}
use Rattle.std.specs.List.{list_all, list_any}

-- A tag: its pieces, between which values of attributes stand. Each but the first begins with the quote that ends the value.
abbrev pub Tag : Type 0
Tag = List (List ℕ)

-- ---- what a tag is

-- The byte may stand in a value of an attribute: it ends neither the value nor the tag, and begins none.
abbrev pub is_bare : ℕ → Bool
is_bare c = not (c == 0x22 || (c == 0x3C || c == 0x3E))

abbrev pub are_bare : List ℕ → Bool
are_bare text = list_all is_bare text

-- what stands behind the piece, where the text begins with it
abbrev pub behind : List ℕ → List ℕ → Option (List ℕ)
behind [] text = Some text
behind (c ∷ piece) [] = None
behind (c ∷ piece) (d ∷ text) = elim (c == d) [ true ↦ behind piece text | false ↦ None ]

-- what stands behind a value: the first byte that may not stand in it, and the rest
abbrev pub behind_value : List ℕ → Option (List ℕ)
behind_value [] = None
behind_value (c ∷ text) = elim (is_bare c) [ true ↦ behind_value text | false ↦ Some (c ∷ text) ]

-- The text begins with the tag.
abbrev pub begins : Tag → List ℕ → Bool
begins [] text = true
begins (piece ∷ []) text = is_some (behind piece text)
begins (piece ∷ next ∷ pieces) text = elim (behind piece text) [
  | None ↦ false
  | Some value ↦ elim (behind_value value) [ None ↦ false | Some rest ↦ begins (next ∷ pieces) rest ]
]

-- The text begins with one of them.
abbrev pub begins_one : List Tag → List ℕ → Bool
begins_one tags text = list_any (λ (tag : Tag). begins tag text) tags

-- Each such byte of the text begins one of them.
unfoldable pub each_begins_one : ℕ → List Tag → List ℕ → Bool
each_begins_one mark tags [] = true
each_begins_one mark tags (c ∷ text) = elim (c == mark) [
  | true ↦ begins_one tags (c ∷ text) && each_begins_one mark tags text
  | false ↦ each_begins_one mark tags text
]

-- tags without values
abbrev pub fixed : List (List ℕ) → List Tag
fixed [] = []
fixed (text ∷ texts) = (text ∷ []) ∷ fixed texts

-- ---- the tags of the page

abbrev pub fixed_tags : List Tag
fixed_tags =
    fixed (
    codes "<!DOCTYPE html>" ∷ codes "<html lang=\"en\">" ∷ codes "</html>" ∷ codes "<head>" ∷ codes "</head>" ∷ codes "<meta charset=\"utf-8\">"
    ∷ codes "<meta name=\"viewport\" content=\"width=device-width, initial-scale=1\">" ∷ codes "<title>" ∷ codes "</title>" ∷ codes "<style>"
    ∷ codes "</style>" ∷ codes "<body>" ∷ codes "</body>" ∷ codes "<header>" ∷ codes "</header>" ∷ codes "<main>" ∷ codes "</main>" ∷ codes "<footer>"
    ∷ codes "</footer>" ∷ codes "<section>" ∷ codes "</section>" ∷ codes "<div class=\"side\">" ∷ codes "</div>" ∷ codes "<h1>" ∷ codes "</h1>"
    ∷ codes "<h2>" ∷ codes "</h2>" ∷ codes "<p>" ∷ codes "</p>" ∷ codes "<dl>" ∷ codes "</dl>" ∷ codes "<dt>" ∷ codes "</dt>" ∷ codes "<dd>"
    ∷ codes "</dd>" ∷ codes "<table>" ∷ codes "</table>" ∷ codes "<thead>" ∷ codes "</thead>" ∷ codes "<tbody>" ∷ codes "</tbody>" ∷ codes "<tr>"
    ∷ codes "</tr>" ∷ codes "<th>" ∷ codes "<th class=\"n\">" ∷ codes "</th>" ∷ codes "<td>" ∷ codes "<td class=\"n\">" ∷ codes "</td>" ∷ codes "</bdi>"
    ∷ codes "<b>" ∷ codes "</b>" ∷ codes "<i>" ∷ codes "</i>" ∷ codes "</a>" ∷ [])

-- one value: the class of a section or of a paragraph, the title of a value; three: an attached document that a reader can save
abbrev pub section_tag : Tag
section_tag = codes "<section class=\"" ∷ codes "\">" ∷ []

abbrev pub paragraph_tag : Tag
paragraph_tag = codes "<p class=\"" ∷ codes "\">" ∷ []

abbrev pub value_tag : Tag
value_tag = codes "<bdi title=\"" ∷ codes "\">" ∷ []

abbrev pub saved_tag : Tag
saved_tag = codes "<a title=\"" ∷ codes "\" download=\"" ∷ codes "\" href=\"data:" ∷ codes "\">" ∷ []

abbrev pub tags : List Tag
tags = section_tag ∷ paragraph_tag ∷ value_tag ∷ saved_tag ∷ fixed_tags

-- Each `<` of the text begins a tag of the page.
unfoldable pub has_tags_alone : List ℕ → Bool
has_tags_alone text = each_begins_one 0x3C tags text

-- ---- values

-- The text begins an element that shows a value: `bdi`, or `a` where a reader can save it.
abbrev pub begins_value : List ℕ → Bool
begins_value text = is_some (behind (codes "<bdi ") text) || is_some (behind (codes "<a ") text)

-- how many such elements begin in the text
unfoldable pub values_in : List ℕ → ℕ
values_in [] = 0
values_in (c ∷ text) = elim (begins_value (c ∷ text)) [ true ↦ suc (values_in text) | false ↦ values_in text ]

-- ---- references

abbrev pub references : List Tag
references = fixed (codes "&amp;" ∷ codes "&lt;" ∷ codes "&gt;" ∷ codes "&quot;" ∷ [])

-- Each `&` of the text begins a reference.
unfoldable pub has_references_alone : List ℕ → Bool
has_references_alone text = each_begins_one 0x26 references text
