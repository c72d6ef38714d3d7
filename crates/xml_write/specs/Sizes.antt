-- How large canonical text is, for who keeps limits on it: its bytes, its longest tag, and the nodes of its tree. And how the calls
-- of a document are measured one by one.
use Rattle.std.specs.Prelude.{ℕ, ◌+◌, max, min, Bool, true, false, List, [], ◌∷◌, ◌++◌, length, codes, encode_utf8_all, if◌then◌else◌}
use Rattle.inv_base.specs.Tree.{Forest, no_more, a_text, an_element}
use Rattle.xml_write.specs.declared.pen.PenState.{PenState}
use Rattle.xml_write.specs.declared.pen.PenState.TheVariants.{Fresh, InsideTag, PastTag}
use Rattle.xml_write.specs.declared.gauge.Gauge.{Gauge}
use Rattle.xml_write.specs.Canonical.{Declaration, element_name, declarations_text, attributes_text, is_childless}
use Rattle.xml_write.specs.Calls.{Call, call_start, call_attribute, call_declare, call_text, call_end, call_close, start_text, content_text, end_tag, end_text}
use Rattle.xml_write.specs.Calls.{appended_by}

-- the tags of an element by its name, the text of its attributes, whether it has no children, and the tags inside it
abbrev pub element_tags : List ℕ → List ℕ → Bool → List (List ℕ) → List (List ℕ)
element_tags name attributes true inside = (0x3C ∷ (name ++ (attributes ++ codes "/>"))) ∷ []
element_tags name attributes false inside = (0x3C ∷ (name ++ (attributes ++ 0x3E ∷ []))) ∷ (inside ++ end_tag name ∷ [])

-- the tags of what stands inside an element, in the order in which its text has them
abbrev pub forest_tags : List Declaration → Forest → List (List ℕ)
forest_tags declarations no_more = []
forest_tags declarations (a_text characters rest) = forest_tags declarations rest
forest_tags declarations (an_element name attributes inside rest) =
    element_tags (element_name declarations name) (attributes_text declarations attributes) (is_childless inside) (forest_tags declarations inside)
    ++ forest_tags declarations rest

-- the tags of a document: that of the root has the declarations
abbrev pub canonical_tags : List Declaration → Forest → List (List ℕ)
canonical_tags declarations no_more = []
canonical_tags declarations (a_text characters rest) = []
canonical_tags declarations (an_element name attributes inside rest) =
    element_tags (element_name declarations name) (declarations_text declarations ++ attributes_text declarations attributes) (is_childless inside)
    (forest_tags declarations inside)

-- the bytes of the longest of the texts, 0 where there is none
abbrev pub longest : List (List ℕ) → ℕ
longest [] = 0
longest (text ∷ texts) = max (length (encode_utf8_all text)) (longest texts)

-- Where a number of bytes or of nodes stops: past the limits of each document that is read, so that one that has stopped passes
-- them too. A gauge whose bytes have stopped needs to look at no further text.
abbrev pub most_measured : ℕ
most_measured = 268435456

-- where the number of a tag's bytes stops: past the limit on tags
abbrev pub longest_measured : ℕ
longest_measured = 524288

-- a number of bytes or of nodes that stops there
abbrev pub stopped : ℕ → ℕ
stopped n = min n most_measured

-- a number of a tag's bytes that stops there
abbrev pub tag_stopped : ℕ → ℕ
tag_stopped n = min n longest_measured

-- the longest tag once a start or a text has ended the tag that is open, if one is, by its `>`
abbrev pub with_open_tag : PenState → ℕ → ℕ → ℕ
with_open_tag Fresh begun longest_so_far = longest_so_far
with_open_tag InsideTag begun longest_so_far = max longest_so_far (begun + 1)
with_open_tag PastTag begun longest_so_far = longest_so_far

-- the longest tag once an element has ended, by `/>` where its tag is open
abbrev pub with_last_tag : PenState → ℕ → ℕ → ℕ → ℕ
with_last_tag Fresh begun end longest_so_far = max longest_so_far end
with_last_tag InsideTag begun end longest_so_far = max longest_so_far (begun + 2)
with_last_tag PastTag begun end longest_so_far = max longest_so_far end

-- what a gauge has measured before the first call: the document is a node
abbrev pub unmeasured : Gauge
unmeasured = record { state = Fresh; in_text = false; bytes = 0; begun_tag = 0; longest_tag = 0; nodes = 1 }

-- What it has measured behind a call, whose texts are bytes. The bytes of a tag count until what ends it is known.
abbrev pub measured : Gauge → Call → Gauge
measured g (call_start name) = record {
  state = InsideTag;
  in_text = false;
  bytes = g.bytes + length (start_text g.state name);
  begun_tag = 1 + length name;
  longest_tag = with_open_tag g.state g.begun_tag g.longest_tag;
  nodes = g.nodes + 1;
}
measured g (call_attribute name value) = record {
  state = InsideTag;
  in_text = false;
  bytes = g.bytes + length (appended_by g.state (call_attribute name value));
  begun_tag = g.begun_tag + length (appended_by g.state (call_attribute name value));
  longest_tag = g.longest_tag;
  nodes = g.nodes + 1;
}
measured g (call_declare prefix uri) = record {
  state = InsideTag;
  in_text = false;
  bytes = g.bytes + length (appended_by g.state (call_declare prefix uri));
  begun_tag = g.begun_tag + length (appended_by g.state (call_declare prefix uri));
  longest_tag = g.longest_tag;
  nodes = g.nodes;
}
measured g (call_text []) = g
measured g (call_text (c ∷ text)) = record {
  state = PastTag;
  in_text = true;
  bytes = g.bytes + length (content_text g.state (c ∷ text));
  begun_tag = 0;
  longest_tag = with_open_tag g.state g.begun_tag g.longest_tag;
  nodes = if g.in_text then g.nodes else g.nodes + 1;
}
measured g (call_end name) = record {
  state = PastTag;
  in_text = false;
  bytes = g.bytes + length (end_text g.state name);
  begun_tag = 0;
  longest_tag = with_last_tag g.state g.begun_tag (length (end_tag name)) g.longest_tag;
  nodes = g.nodes;
}
measured g call_close = record g { state = PastTag; bytes = g.bytes + 1 }

-- each number stops at its last value
abbrev pub all_stopped : Gauge → Gauge
all_stopped g = record {
  state = g.state;
  in_text = g.in_text;
  bytes = stopped g.bytes;
  begun_tag = tag_stopped g.begun_tag;
  longest_tag = tag_stopped g.longest_tag;
  nodes = stopped g.nodes;
}

-- behind a call, with numbers that stop
abbrev pub gauged : Gauge → Call → Gauge
gauged g call = all_stopped (measured g call)

-- behind calls in a row
abbrev pub gauged_by_all : Gauge → List Call → Gauge
gauged_by_all g [] = g
gauged_by_all g (call ∷ calls) = gauged_by_all (gauged g call) calls
