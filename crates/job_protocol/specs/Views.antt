-- What a job is given, as the definitions have it.
use Rattle.std.specs.Prelude.{ℕ, List, map}
use Rattle.std.specs.Borrow.{Bor}
use Rattle.xml_profile.specs.Profile as profile
use Rattle.node_arena.specs.Document.{Document, built}

-- ---- texts that are lent

abbrev pub text_of : Bor (List ℕ) → List ℕ
text_of text = text.now

abbrev pub texts_of : List (Bor (List ℕ)) → List (List ℕ)
texts_of texts = map text_of texts

-- ---- documents

-- the nodes of a document with their places, and its names
abbrev pub document_read : profile.Document → Document
document_read found = record { nodes = (built found.events).nodes; names = found.names }
