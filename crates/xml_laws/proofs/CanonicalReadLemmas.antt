-- Canonical text is read as the tree that it was written from.
use Rattle.std.proofs.Common.{◌≡◌, ℕ, ◌+◌, ◌≤◌, Bool, true, false, List, [], ◌∷◌, ◌++◌, length, refl, sym, ap, ◌∙◌, arith, subst, Option, Some, None, Result}
use Rattle.std.proofs.Common.{Ok, Err, encode_utf8_all}
use Rattle.std.specs.Prelude.{codes}
use Rattle.std.specs.Str.{is_utf8, chars}
use Rattle.std.proofs.lemmas.List.{append-nil, length-append}
use Rattle.std.proofs.lemmas.Str.{encodes-append}
use lib.Utf8.{encode}
use Rattle.inv_base.specs.Characters.{is_char, is_white_space, is_name_start, is_name_char}
use Rattle.inv_base.specs.Tree.{Name, Attribute, Forest, no_more, an_element, is_joined}
use Rattle.xml_state.specs.declared.fault.XmlFault.{XmlFault}
use Rattle.xml_tokens.specs.Encoding.{character_at}
use Rattle.xml_tokens.specs.Markup.{a_character, an_aside, instruction, is_declaration}
use Rattle.xml_tokens.specs.Beginnings.{good, beginning, extent}
use Rattle.xml_tokens.specs.declared.beginning.Position.TheVariants.{AtStart, Farther}
use Rattle.xml_state.specs.declared.limits.Limits.{Limits}
use Rattle.xml_events.specs.Events.{Event, with_events}
use Rattle.xml_events.specs.Documents.{Tells}
use Rattle.xml_state.specs.States.{State, begin, with_names, state_behind, events_of}
use Rattle.xml_state.specs.Admission.{fault_of}
use Rattle.xml_profile.specs.TokenByToken.{Read, read, resume, read_whole, waits}
use Rattle.xml_profile.specs.Profile.{Document, document, first_fault, fault_of_whole, names_of, IsXml}
use Rattle.xml_write.specs.Canonical.{Declaration, declaration_line, element_name, declarations_text, attributes_text, element_text, is_childless, forest_text}
use Rattle.xml_write.specs.Canonical.{canonical_text}
use Rattle.xml_laws.specs.Writable.{names_in, IsWritable}
use Rattle.xml_laws.proofs.JoinLemmas.{joined_back, with_events-back}
use Rattle.xml_laws.proofs.NameLemmas.{extends-none}
use Rattle.xml_laws.proofs.TellLemmas.{told-tree}
use Rattle.xml_laws.proofs.WritableLemmas.{OfElement, of-element}
use Rattle.xml_laws.proofs.StartTagLemmas.{AreOwn, tag_names}
use Rattle.xml_laws.proofs.StepLemmas.{read-token}
use Rattle.xml_laws.proofs.TextReadLemmas.{inside}
use Rattle.xml_laws.proofs.PieceLemmas.{ReadsAny, any-any}
use Rattle.xml_laws.proofs.BytesLemmas.{element_bytes}
use Rattle.xml_laws.proofs.ForestReadLemmas.{any-element, forest-read}

-- the declaration, without the line end behind it
abbrev line : List ℕ
line = codes "<?xml version=\"1.0\" encoding=\"UTF-8\"?>"

-- behind the first line
abbrev behind_line : State
behind_line = record { position = Farther; open_elements = []; root_seen = false; in_text = false; nodes = 1; names = [] }

line-begins : (rest : List ℕ) → beginning AtStart true (line ++ rest) ≡ good an_aside (length line)
unfolding beginning extent instruction is_declaration is_utf8 chars encode is_char is_white_space is_name_start is_name_char
line-begins rest = refl

feed-begins : (rest : List ℕ) → beginning Farther true ((0xA ∷ []) ++ rest) ≡ good (a_character 0xA) 1
unfolding beginning character_at is_char
feed-begins rest = refl

module _ (limits : Limits) where
  line-read : length line ≤ limits.bytes → ReadsAny limits begin (record begin { position = Farther }) 0 line []
  unfolding fault_of state_behind events_of
  line-read fits = record { is = λ rest. read-token limits begin 0 line rest an_aside (line-begins rest) (omega arith) (omega arith) refl }

  -- a line end outside the root
  feed-read : (seen : Bool) (nodes : ℕ) (names : List Name) (place : ℕ) → place + 1 ≤ limits.bytes
      → ReadsAny limits (record { position = Farther; open_elements = []; root_seen = seen; in_text = false; nodes = nodes; names = names })
      (record { position = Farther; open_elements = []; root_seen = seen; in_text = false; nodes = nodes; names = names }) place (0xA ∷ []) []
  unfolding fault_of state_behind events_of is_white_space
  feed-read seen nodes names place fits =
      let s : State = record { position = Farther; open_elements = []; root_seen = seen; in_text = false; nodes = nodes; names = names } in
      record { is = λ rest. read-token limits s place (0xA ∷ []) rest (a_character 0xA) (feed-begins rest) (omega arith) fits refl }

line-encoded : encode_utf8_all declaration_line ≡ line ++ (0xA ∷ [])
unfolding declaration_line encode
line-encoded = refl

feed-encoded : encode_utf8_all (0xA ∷ []) ≡ 0xA ∷ []
unfolding encode
feed-encoded = refl

text-encoded : (declarations : List Declaration) (name : Name) (attributes : List Attribute) (f : Forest)
    → encode_utf8_all (canonical_text declarations (an_element name attributes f no_more)) ≡ (line ++ (0xA ∷ [])) ++
    (element_bytes declarations declarations name attributes f ++ (0xA ∷ []))
text-encoded declarations name attributes f =
    let element = element_text (element_name declarations name) (declarations_text declarations ++ attributes_text declarations attributes) (is_childless f)
    (forest_text declarations f) in
    encodes-append declaration_line (element ++ (0xA ∷ []))
    ∙ (ap (λ x. x ++ encode_utf8_all (element ++ (0xA ∷ []))) line-encoded
    ∙ ap (λ x. (line ++ (0xA ∷ [])) ++ x) (encodes-append element (0xA ∷ []) ∙ ap (λ x. encode_utf8_all element ++ x) feed-encoded))

-- Whole bytes that are read behind the root, with what they tell.
ends-well : (limits : Limits) (bytes : List ℕ) (nodes : ℕ) (names : List Name) (events : List Event) (tree : Forest) →
    ReadsAny limits begin (inside [] false nodes names) 0 bytes events
    → Tells names tree (joined_back events) → IsXml limits bytes tree
unfolding document first_fault resume read
ends-well limits bytes nodes names events tree r told =
    let end : Read = record { events = []; stands = waits (inside [] false nodes names) (0 + length bytes) [] } in
    let whole : read_whole limits bytes ≡ record { events = events; stands = waits (inside [] false nodes names) (0 + length bytes) [] } =
    ap (read true limits begin 0 0) (sym (append-nil bytes)) ∙
    (r.is [] ∙ ap (λ x. let t : Read = record { events = x; stands = end.stands } in t) (append-nil events)) in
    let none : first_fault limits bytes ≡ None = ap (λ (x : Read). fault_of_whole x.stands) whole in
    let found : Document = record { events = with_events [] events; names = names } in
    record {
      found = found;
      is = ap (answer limits bytes) none ∙
          ap (λ (x : Read). Ok (let d : Document = record { events = with_events [] x.events; names = names_of x.stands } in d)) whole;
      tells = sym (told-tree names tree (with_events [] events) (subst (Tells names tree) (sym (with_events-back events)) told));
    }
  where
    answer : Limits → List ℕ → Option XmlFault → Result Document XmlFault
    answer limits bytes f = elim f [
      | (Some fault) ↦ Err fault
      | None ↦ Ok (record { events = with_events [] (read_whole limits bytes).events; names = names_of (read_whole limits bytes).stands })
    ]

module _ (limits : Limits) (declarations : List Declaration) (name : Name) (attributes : List Attribute) (f : Forest) (joined : is_joined f ≡ true)
    (w : IsWritable limits declarations (an_element name attributes f no_more)) where
  of-root : OfElement limits declarations declarations 0 name attributes f no_more
  of-root =
      let deep = w.within.depth in
      of-element limits declarations declarations 0 name attributes f no_more (record {
        elements = w.elements;
        attributes = w.attributes;
        distinct = w.distinct;
        values = w.values;
        texts = w.texts;
        deep = omega arith;
        tags = w.within.tags;
      })

  root-own : AreOwn limits declarations
  root-own = record { declarable = w.declarable; apart = w.apart; short = of-root.tag.own_short }

  pub root-read : IsXml limits (encode_utf8_all (canonical_text declarations (an_element name attributes f no_more))) (an_element name attributes f no_more)
  root-read =
      let tree = an_element name attributes f no_more in
      let P = element_bytes declarations declarations name attributes f in
      let L = line ++ (0xA ∷ []) in
      let is = text-encoded declarations name attributes f in
      let fits : length (encode_utf8_all (canonical_text declarations tree)) ≤ limits.bytes = w.within.bytes in
      let l : length (encode_utf8_all (canonical_text declarations tree)) ≡ length L + (length P + 1) = ap length is ∙
      (length-append L (P ++ (0xA ∷ [])) ∙ ap (λ n. length L + n) (length-append P (0xA ∷ []))) in
      let nodes = w.within.nodes in
      let names : length (with_names [] (tag_names name attributes ++ names_in f)) ≤ limits.names =
      subst (λ x. length (with_names [] (tag_names name attributes ++ x)) ≤ limits.names) (append-nil (names_in f)) w.within.names in
      let first = line-read limits (omega arith) in
      let feed = feed-read limits false 1 [] (length line) (omega arith) in
      let e = any-element limits declarations w.declarable declarations root-own name attributes of-root.tag behind_line refl refl of-root.deep f of-root.sized
      joined
      (forest-read limits declarations w.declarable f (0 + 1) of-root.inside joined) (length L) (omega arith) names (omega arith) in
      let seen = with_names [] (tag_names name attributes ++ names_in f) in
      let last = feed-read limits true e.after seen (length L + length P) (omega arith) in
      let t = e.told seen (extends-none seen) [] in
      let lead = any-any limits begin behind_line behind_line 0 line (0xA ∷ []) [] [] first feed in
      let last_state = inside [] false e.after seen in
      let tail = any-any limits behind_line last_state last_state (length L) P (0xA ∷ []) e.events [] e.reads last in
      let whole = any-any limits begin behind_line last_state 0 L (P ++ (0xA ∷ [])) [] (e.events ++ []) lead tail in
      let told : Tells seen tree (joined_back (e.events ++ [])) = (t.number, t.place, t.first, t.inner, [], t.numbered, t.is, t.given, t.tells, refl) in
      subst (λ x. IsXml limits x tree) (sym is) (ends-well limits (L ++ (P ++ (0xA ∷ []))) e.after seen (e.events ++ []) tree whole told)

-- Canonical text that can be written within the limits is read as its tree.
pub canonical-read : (limits : Limits) (declarations : List Declaration) (tree : Forest) → IsWritable limits declarations tree →
    IsXml limits (encode_utf8_all (canonical_text declarations tree)) tree
canonical-read limits declarations tree w =
    let d = w.document in
    subst (λ t. IsXml limits (encode_utf8_all (canonical_text declarations t)) t) (sym d.root)
    (root-read limits declarations d.name d.attributes d.inside d.joined (subst (IsWritable limits declarations) d.root w))
