-- An element that canonical text writes is read, where what is inside it is.
use Rattle.std.proofs.Common.{◌≡◌, ℕ, suc, ◌+◌, ◌≤◌, nat_le, Bool, true, false, not, ◌&&◌, List, [], ◌∷◌, ◌++◌, map, length, refl, sym, ap, ◌∙◌, arith, subst}
use Rattle.std.proofs.Common.{encode_utf8_all}
use Rattle.std.specs.List.{list_all}
use Rattle.std.proofs.lemmas.List.{append_assoc, append-nil, length-append}
use Rattle.std.proofs.lemmas.Slice.Eq.{bytes_eq-Decides}
use Rattle.std.proofs.lemmas.Str.{encodes-append}
use Rattle.inv_base.specs.Tree.{Name, Attribute, Forest, no_more, size}
use Rattle.inv_base.proofs.TextLemmas.{both}
use Rattle.xml_tokens.specs.Markup.{Written, an_end_tag}
use Rattle.xml_tokens.specs.Beginnings.{good, beginning, greatest_tag}
use Rattle.xml_state.specs.declared.limits.Limits.{Limits}
use Rattle.xml_events.specs.Names.{number_of, with_name}
use Rattle.xml_events.specs.Events.{Event, starts, ends}
use Rattle.xml_events.specs.Documents.{IsNumberOf, Tells, TellsAttributes}
use Rattle.xml_state.specs.States.{Open, State, is_outside, is_innermost, bindings_here, with_names, attribute_event, state_behind, events_of}
use Rattle.xml_state.specs.Admission.{fault_of, is_long_name, end_tag_causes}
use Rattle.xml_profile.specs.TokenByToken.{telling, read}
use Rattle.xml_write.specs.Canonical.{Declaration, element_name, declarations_text, attributes_text, element_text, is_childless, forest_text}
use Rattle.xml_laws.specs.Writable.{is_declarable, names_in, tags_fit}
use Rattle.xml_laws.proofs.JoinLemmas.{joined_back, before-start, before-end, attributes-back}
use Rattle.xml_laws.proofs.NameLemmas.{Extends, extends-more, extends-with_names, have-with_names, number-extends, attributes-told}
use Rattle.xml_laws.proofs.RestLemmas.{begins_text}
use Rattle.xml_laws.proofs.AttributeLemmas.{IsWrittenName, written_bytes, tag_close}
use Rattle.xml_laws.proofs.TagTokenLemmas.{start_bytes, end-begins}
use Rattle.xml_laws.proofs.BindingLemmas.{binding, bindings_of, element-read}
use Rattle.xml_laws.proofs.TagStateLemmas.{tag_attributes, long-not}
use Rattle.xml_laws.proofs.WritableLemmas.{IsTag, at_most}
use Rattle.xml_laws.proofs.StartTagLemmas.{none-holds, AreOwn, tag_names, start_piece, start-read}
use Rattle.xml_laws.proofs.StepLemmas.{read-token}
use Rattle.xml_laws.proofs.TextReadLemmas.{inside, ReadsPiece}
use Rattle.xml_laws.proofs.PieceLemmas.{ReadsAny, any-any, piece-any}
use Rattle.xml_laws.proofs.BytesLemmas.{attributes-encoded, end_piece, element-empty, element-filled, element_bytes}

pub names-append : (names a b : List Name) → with_names names (a ++ b) ≡ with_names (with_names names a) b
names-append names [] b = refl
names-append names (name ∷ a) b = names-append (with_name names name) a b

pub extends-length : (a b : List Name) → Extends a b → length a ≤ length b
extends-length a b e = let l = ap length e.is ∙ length-append a e.behind in omega arith

-- end tags
pub end-read : (limits : Limits) (e : Open) (outer : List Open) (inner : Bool) (nodes : ℕ) (names : List Name) (place : ℕ) → IsWrittenName e.name →
    is_long_name limits e.name ≡ false
    → length e.name + 3 ≤ greatest_tag → place + length (end_piece e.name) ≤ limits.bytes
    → ReadsAny limits (inside (e ∷ outer) inner nodes names) (inside outer false nodes names) place (end_piece e.name) (ends ∷ [])
unfolding fault_of state_behind events_of
end-read limits e outer inner nodes names place written long short fits = record { is = λ rest. is rest }
  where
    is : (rest : List ℕ) → read true limits (inside (e ∷ outer) inner nodes names) place 0 (end_piece e.name ++ rest) ≡ telling (ends ∷ [])
        (read true limits (inside outer false nodes names) (place + length (end_piece e.name)) 0 rest)
    is rest =
        let s = inside (e ∷ outer) inner nodes names in
        let l : length (end_piece e.name) ≡ length e.name + 3 = let k = length-append e.name (0x3E ∷ []) in omega arith in
        let begins = ap (λ x. beginning s.position true (0x3C ∷ (0x2F ∷ x))) (append_assoc e.name (0x3E ∷ []) rest) ∙
        (end-begins e.name written short s.position rest ∙ ap (good (an_end_tag e.name)) (sym l)) in
        let closes : not (is_innermost s.open_elements e.name) ≡ false = ap not ((bytes_eq-Decides e.name e.name).1 refl) in
        read-token limits s place (end_piece e.name) rest (an_end_tag e.name) begins (omega arith) fits
        (none-holds (end_tag_causes limits s e.name) (long, (closes, tt)))

-- Events that tell an element once joined.
pub record AreElement (final : List Name) (name : Name) (attributes : List Attribute) (inside : Forest) (events more : List Event) : Type 0 where
  pub number : ℕ
  pub place : ℕ
  pub first : List Event
  pub inner : List Event
  pub numbered : IsNumberOf final name number
  pub is : joined_back (events ++ more) ≡ starts number place ∷ (first ++ (inner ++ (ends ∷ joined_back more)))
  pub given : TellsAttributes final attributes first
  pub tells : Tells final inside inner

-- Events that tell a forest once joined, before what is no text.
pub record AreForest (final : List Name) (f : Forest) (events more : List Event) : Type 0 where
  pub told : List Event
  pub tells : Tells final f told
  pub is : joined_back (events ++ more) ≡ told ++ joined_back more

-- What is read of a forest inside an element.
pub record ForestReads (limits : Limits) (declarations : List Declaration) (open_elements : List Open) (inner : Bool) (nodes : ℕ) (names : List Name)
    (place : ℕ) (f : Forest) : Type 0 where
  pub events : List Event
  pub after_text : Bool
  pub after : ℕ
  pub few : after ≤ nodes + size f
  pub reads : ReadsPiece limits (inside open_elements inner nodes names) (inside open_elements after_text after (with_names names (names_in f))) place
      (encode_utf8_all (forest_text declarations f)) events
  pub told : (final : List Name) → Extends (with_names names (names_in f)) final → (more : List Event) → begins_text (joined_back more) ≡ false →
      AreForest final f events more

-- The forest is read inside any elements that have the declarations, in any state that leaves it room.
abbrev pub IsRead : Limits → List Declaration → ℕ → Forest → Type 0
IsRead limits declarations depth f =
    (o : Open) (outer : List Open) → o.bindings ≡ bindings_of declarations → length (o ∷ outer) ≡ depth →
    (inner : Bool) (nodes : ℕ) (names : List Name) (place : ℕ)
    → nodes + size f ≤ limits.nodes → length (with_names names (names_in f)) ≤ limits.names →
    place + length (encode_utf8_all (forest_text declarations f)) ≤ limits.bytes
    → ForestReads limits declarations (o ∷ outer) inner nodes names place f

pub record ElementReads (limits : Limits) (declarations own : List Declaration) (s : State) (place : ℕ) (name : Name) (attributes : List Attribute)
    (f : Forest) : Type 0 where
  pub events : List Event
  pub after : ℕ
  pub few : after ≤ s.nodes + (1 + (length attributes + size f))
  pub reads : ReadsAny limits s (inside s.open_elements false after (with_names s.names (tag_names name attributes ++ names_in f))) place
      (element_bytes declarations own name attributes f) events
  pub told : (final : List Name) → Extends (with_names s.names (tag_names name attributes ++ names_in f)) final → (more : List Event) →
      AreElement final name attributes f events more

start-joins : (names : List Name) (number place : ℕ) (attributes : List Attribute) (end more : List Event)
    → joined_back ((starts number place ∷ (map (attribute_event names) attributes ++ end)) ++
    more) ≡ starts number place ∷ (map (attribute_event names) attributes ++ joined_back (end ++ more))
start-joins names number place attributes end more =
    let told = map (attribute_event names) attributes in
    before-start number place (joined_back ((told ++ end) ++ more))
    ∙ ap (λ x. starts number place ∷ x) (ap joined_back (append_assoc told end more) ∙ attributes-back names attributes (end ++ more))

module _ (limits : Limits) (declarations : List Declaration) (declarable : list_all is_declarable declarations ≡ true) (own : List Declaration)
    (are_own : AreOwn limits own)
    (name : Name) (attributes : List Attribute) (parts : IsTag limits declarations own name attributes) (s : State)
    (bound : map binding own ++ bindings_here s ≡ bindings_of declarations)
    (first : (is_outside s && s.root_seen) ≡ false) (deep : length s.open_elements + 1 ≤ limits.depth) where
  abbrev N : List ℕ
  N = encode_utf8_all (element_name declarations name)

  abbrev W : List Written
  W = tag_attributes declarations own attributes

  abbrev seen : List Name
  seen = with_names s.names (tag_names name attributes)

  -- the length of the tag
  text-length : length (encode_utf8_all (element_name declarations name ++ (declarations_text own ++ attributes_text declarations attributes))) ≡ length N +
      length (written_bytes W)
  text-length =
      ap length (encodes-append (element_name declarations name) (declarations_text own ++ attributes_text declarations attributes))
      ∙ (length-append N (encode_utf8_all (declarations_text own ++ attributes_text declarations attributes)) ∙
      ap (λ x. length N + length x) (attributes-encoded declarations own attributes))

  abbrev T : List ℕ
  T = encode_utf8_all (element_name declarations name ++ (declarations_text own ++ attributes_text declarations attributes))

  start-length : (is_empty : Bool) → length (start_bytes N W is_empty) ≡ length T + length (tag_close is_empty)
  start-length is_empty =
      let t = text-length in
      let l = length-append N (written_bytes W ++ tag_close is_empty) in
      let k = length-append (written_bytes W) (tag_close is_empty) in
      omega arith

  empty-short : tags_fit true N T ≡ true → length (start_bytes N W true) + 2 ≤ greatest_tag
  empty-short sized = let small = at_most (length T + 3) greatest_tag sized in let l = start-length true in omega arith

  filled-short : tags_fit false N T ≡ true → (length (start_bytes N W false) + 2 ≤ greatest_tag) × (length N + 3 ≤ greatest_tag)
  filled-short sized =
      let p = both (nat_le (length T + 2) greatest_tag) (nat_le (length N + 3) greatest_tag) sized in
      let small = at_most (length T + 2) greatest_tag p.0 in
      let l = start-length false in
      (omega arith, at_most (length N + 3) greatest_tag p.1)

  attributes-told-by : (final : List Name) → Extends seen final → TellsAttributes final attributes (map (attribute_event seen) attributes)
  attributes-told-by final e = attributes-told seen final attributes e (have-with_names s.names (tag_names name attributes)).1

  number-by : (final : List Name) → Extends seen final → IsNumberOf final name (number_of name seen)
  number-by final e = number-extends seen final name e (have-with_names s.names (tag_names name attributes)).0

  -- an element with nothing inside
  pub empty-read : tags_fit true N T ≡ true → (place : ℕ) → s.nodes + (1 + length attributes) ≤ limits.nodes → length seen ≤ limits.names →
      place + length (element_bytes declarations own name attributes no_more) ≤ limits.bytes
      → ElementReads limits declarations own s place name attributes no_more
  empty-read sized place nodes names fits =
      let is = element-empty (element_name declarations name) (declarations_text own ++ attributes_text declarations attributes) N W refl
      (attributes-encoded declarations own attributes) [] in
      let fits' : place + length (start_piece N W true) ≤ limits.bytes = subst (λ x. place + length x ≤ limits.bytes) is fits in
      let r = start-read limits declarations declarable own are_own name attributes parts s bound true first deep names nodes (empty-short sized) place fits' in
      let all : seen ≡ with_names s.names (tag_names name attributes ++ []) = ap (with_names s.names) (sym (append-nil (tag_names name attributes))) in
      record {
        events = starts (number_of name seen) place ∷ (map (attribute_event seen) attributes ++ (ends ∷ []));
        after = s.nodes + (1 + length attributes);
        few = omega arith;
        reads = subst (λ x. ReadsAny limits s (inside s.open_elements false (s.nodes + (1 + length attributes))
            (with_names s.names (tag_names name attributes ++ []))) place x
            (starts (number_of name seen) place ∷ (map (attribute_event seen) attributes ++ (ends ∷ [])))) (sym is)
            (subst (λ n. ReadsAny limits s (inside s.open_elements false (s.nodes + (1 + length attributes)) n) place (start_piece N W true)
            (starts (number_of name seen) place ∷ (map (attribute_event seen) attributes ++ (ends ∷ [])))) all r);
        told = λ final e more. let f = subst (λ n. Extends n final) (sym all) e in record {
          number = number_of name seen;
          place = place;
          first = map (attribute_event seen) attributes;
          inner = [];
          numbered = number-by final f;
          is = start-joins seen (number_of name seen) place attributes (ends ∷ []) more
              ∙ ap (λ x. starts (number_of name seen) place ∷ (map (attribute_event seen) attributes ++ x)) (before-end (joined_back more));
          given = attributes-told-by final f;
          tells = refl;
        };
      }

  -- an element with something inside
  module _ (f : Forest) (filled : is_childless f ≡ false) (inside-read : IsRead limits declarations (length s.open_elements + 1) f) where
    abbrev here : Open
    here = record { name = N; bindings = bindings_of declarations }

    pub filled-read : tags_fit false N T ≡ true → (place : ℕ) → s.nodes + (1 + (length attributes + size f)) ≤ limits.nodes →
        length (with_names s.names (tag_names name attributes ++ names_in f)) ≤ limits.names
        → place + length (element_bytes declarations own name attributes f) ≤ limits.bytes → ElementReads limits declarations own s place name attributes f
    filled-read sized place nodes names fits =
        let text = declarations_text own ++ attributes_text declarations attributes in
        let P = start_piece N W false in
        let F = encode_utf8_all (forest_text declarations f) in
        let is : element_bytes declarations own name attributes f ≡ P ++ (F ++ end_piece N) =
        ap (λ t. encode_utf8_all (element_text (element_name declarations name) text t (forest_text declarations f))) filled
        ∙ element-filled (element_name declarations name) text N W refl (attributes-encoded declarations own attributes) (forest_text declarations f) in
        let l : length (element_bytes declarations own name attributes f) ≡ length P + length (F ++ end_piece N) = ap length is ∙
        length-append P (F ++ end_piece N) in
        let k : length (F ++ end_piece N) ≡ length F + length (end_piece N) = length-append F (end_piece N) in
        let all : with_names s.names (tag_names name attributes ++ names_in f) ≡ with_names seen (names_in f) =
        names-append s.names (tag_names name attributes) (names_in f) in
        let many : length (with_names seen (names_in f)) ≤ limits.names = subst (λ x. length x ≤ limits.names) all names in
        let grown : length seen ≤ length (with_names seen (names_in f)) =
        extends-length seen (with_names seen (names_in f)) (extends-with_names seen (names_in f)) in
        let n1 = s.nodes + (1 + length attributes) in
        let r = start-read limits declarations declarable own are_own name attributes parts s bound false first deep (omega arith) (omega arith)
        (filled-short sized).0 place (omega arith) in
        let i = inside-read here s.open_elements refl (let e : suc (length s.open_elements) ≡ length s.open_elements + 1 = omega arith in e) false n1 seen
        (place + length P) (omega arith) many (omega arith) in
        let z = end-read limits here s.open_elements i.after_text i.after (with_names seen (names_in f)) (place + length P + length F)
        (element-read declarations name declarable parts.named).written (long-not limits (element_name declarations name) parts.short) (filled-short sized).1
        (omega arith) in
        let E = starts (number_of name seen) place ∷ (map (attribute_event seen) attributes ++ []) in
        let Z = i.events ++ (ends ∷ []) in
        let few = i.few in
        let last = inside s.open_elements false i.after (with_names seen (names_in f)) in
        let inner = piece-any limits (inside (here ∷ s.open_elements) false n1 seen)
        (inside (here ∷ s.open_elements) i.after_text i.after (with_names seen (names_in f))) last (place + length P) F (0x2F ∷ (N ++ (0x3E ∷ []))) i.events
        (ends ∷ []) i.reads z in
        let whole = any-any limits s (inside (here ∷ s.open_elements) false n1 seen) last place P (F ++ end_piece N) E Z r inner in
        record {
          events = E ++ Z;
          after = i.after;
          few = omega arith;
          reads = subst (λ x. ReadsAny limits s (inside s.open_elements false i.after (with_names s.names (tag_names name attributes ++ names_in f))) place x
              (E ++ Z)) (sym is)
              (subst (λ n. ReadsAny limits s (inside s.open_elements false i.after n) place (P ++ (F ++ end_piece N)) (E ++ Z)) (sym all) whole);
          told = λ final e more.
              let g = subst (λ n. Extends n final) all e in
              let t = extends-more seen (with_names seen (names_in f)) final (extends-with_names seen (names_in f)) g in
              let w = i.told final g (ends ∷ more) (ap begins_text (before-end (joined_back more))) in
              record {
                number = number_of name seen;
                place = place;
                first = map (attribute_event seen) attributes;
                inner = w.told;
                numbered = number-by final t;
                is = ap joined_back (append_assoc E Z more)
                    ∙ (start-joins seen (number_of name seen) place attributes [] (Z ++ more)
                    ∙ ap (λ x. starts (number_of name seen) place ∷ (map (attribute_event seen) attributes ++ x))
                    (ap joined_back (append_assoc i.events (ends ∷ []) more) ∙ (w.is ∙ ap (λ x. w.told ++ x) (before-end (joined_back more)))));
                given = attributes-told-by final t;
                tells = w.tells;
              };
        }
