-- A text that is held in memory, loaded.
use Rattle.std.proofs.Common.{◌≡◌, ℕ, true, List, [], ◌∷◌, Option, Some, None, Result, Ok, Err, refl, sym, ap, subst, ◌∙◌}
use Rattle.std.specs.Prelude.{bytes_eq, option_map, if◌then◌else◌}
use Rattle.inv_base.specs.Files.{content_of, bytes_under}
use Rattle.inv_base.specs.Memory.{Kept, shelf_of}
use Rattle.xml_events.specs.Events.{with_events}
use Rattle.xml_state.specs.declared.fault.XmlFault.{XmlFault}
use Rattle.xml_profile.specs.Profile.{document, first_fault, names_of}
use Rattle.xml_profile.specs.Profile as profile
use Rattle.xml_profile.specs.TokenByToken.{read_whole}
use Rattle.node_arena.specs.Document.{Document}
use Rattle.node_arena.specs.Moves.{tree_nodes}
use Rattle.xml_document.specs.Loading.{IsLoaded, IsRefused}
use Rattle.held_rules.specs.Texts.{limits, unless_refused, nodes_in}

-- a document that was loaded has the nodes of its bytes
loaded-nodes : (bytes : List ℕ) (doc : Document) → IsLoaded limits (Some bytes) doc → Some (tree_nodes doc) ≡ nodes_in bytes
unfolding nodes_in
loaded-nodes bytes doc l =
    ap (λ d. Some (tree_nodes d)) l.exactly
    ∙ (sym (ap unless_refused l.is) ∙ ap (λ content. unless_refused (document limits content)) (l.whole bytes refl))

-- a first fault is why the bytes are no document
abbrev by_fault : List ℕ → Option XmlFault → Result profile.Document XmlFault
by_fault bytes f = elim f [
  | (Some fault) ↦ Err fault
  | None ↦ Ok (record { events = with_events [] (read_whole limits bytes).events; names = names_of (read_whole limits bytes).stands })
]

is-refused : (bytes : List ℕ) (fault : XmlFault) → first_fault limits bytes ≡ Some fault → document limits bytes ≡ Err fault
unfolding document
is-refused bytes fault e = ap (by_fault bytes) e

-- bytes that are refused are no document
refused-nodes : (bytes : List ℕ) (fault : XmlFault) → IsRefused limits (Some bytes) fault → None ≡ nodes_in bytes
unfolding nodes_in
refused-nodes bytes fault r =
    sym (ap unless_refused (is-refused r.content fault r.is)) ∙ ap (λ content. unless_refused (document limits content)) (r.whole bytes refl)

-- the one file of a shelf
held-told : (name bytes : List ℕ) (shelf : Kept) → shelf.files ≡ (name, bytes) ∷ [] → bytes_eq name name ≡ true →
    option_map (bytes_under name) (shelf_of shelf).held ≡ Some bytes
held-told name bytes shelf files same =
    ap (λ fs. Some (content_of name fs)) files ∙ ap (λ b. Some (if b then bytes else [])) same

pub loaded-held : (name bytes : List ℕ) (shelf : Kept) (doc : Document)
    → shelf.files ≡ (name, bytes) ∷ [] → bytes_eq name name ≡ true → IsLoaded limits (option_map (bytes_under name) (shelf_of shelf).held) doc
    → Some (tree_nodes doc) ≡ nodes_in bytes
loaded-held name bytes shelf doc files same l =
    loaded-nodes bytes doc (subst (λ told. IsLoaded limits told doc) (held-told name bytes shelf files same) l)

pub refused-held : (name bytes : List ℕ) (shelf : Kept) (fault : XmlFault)
    → shelf.files ≡ (name, bytes) ∷ [] → bytes_eq name name ≡ true → IsRefused limits (option_map (bytes_under name) (shelf_of shelf).held) fault
    → None ≡ nodes_in bytes
refused-held name bytes shelf fault files same r =
    refused-nodes bytes fault (subst (λ told. IsRefused limits told fault) (held-told name bytes shelf files same) r)
