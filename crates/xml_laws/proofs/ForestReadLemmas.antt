-- What canonical text writes inside an element is read as it was.
use Rattle.std.proofs.Common.{◌≡◌, ℕ, ◌+◌, ◌≤◌, Bool, true, false, not, ◌&&◌, ◌==◌, List, [], ◌∷◌, ◌++◌, map, length, refl, sym, ap, ◌∙◌, arith, subst}
use Rattle.std.proofs.Common.{encode_utf8_all}
use Rattle.std.specs.List.{list_all, flat_map}
use Rattle.std.proofs.lemmas.List.{append_assoc, append-nil, length-append}
use Rattle.std.proofs.lemmas.Str.{encodes-append}
use Rattle.inv_base.specs.Characters.{is_char}
use Rattle.inv_base.specs.Tree.{Name, Attribute, Forest, no_more, a_text, an_element, begins_with_text, is_joined, size}
use Rattle.inv_base.proofs.TextLemmas.{both}
use Rattle.xml_state.specs.declared.limits.Limits.{Limits}
use Rattle.xml_events.specs.Events.{Event, starts, has_text, ends}
use Rattle.xml_events.specs.Documents.{Tells}
use Rattle.xml_state.specs.States.{State, is_outside, bindings_here, with_names}
use Rattle.xml_write.specs.Escapes.{in_text}
use Rattle.xml_write.specs.Canonical.{Declaration, element_name, declarations_text, attributes_text, element_text, is_childless, forest_text}
use Rattle.xml_laws.specs.Writable.{is_declarable, names_in, tags_fit}
use Rattle.xml_laws.proofs.JoinLemmas.{joined_back}
use Rattle.xml_laws.proofs.NameLemmas.{Extends, extends-more, extends-with_names}
use Rattle.xml_laws.proofs.RestLemmas.{begins_text, not_none}
use Rattle.xml_laws.proofs.AttributeLemmas.{not_false}
use Rattle.xml_laws.proofs.BindingLemmas.{binding, bindings_of}
use Rattle.xml_laws.proofs.WritableLemmas.{IsTag, AreTags, of-text, of-element}
use Rattle.xml_laws.proofs.StartTagLemmas.{AreOwn, tag_names}
use Rattle.xml_laws.proofs.TextReadLemmas.{inside, ReadsPiece, reads-nothing, bytes_of_text, text-read}
use Rattle.xml_laws.proofs.PieceLemmas.{any-piece, piece-piece}
use Rattle.xml_laws.proofs.BytesLemmas.{element_bytes, forest-begins}
use Rattle.xml_laws.proofs.ElementReadLemmas.{names-append, extends-length, IsRead, ElementReads, empty-read, filled-read}

childless-none : (f : Forest) → is_joined f ≡ true → is_childless f ≡ true → f ≡ no_more
childless-none no_more j h = refl
childless-none (a_text [] rest) j h = cc
childless-none (a_text (c ∷ cs) rest) j h = cc
childless-none (an_element name attributes inner rest) j h = cc

-- events that tell a forest that begins with no text begin with none
told-begins : (final : List Name) (f : Forest) (told more : List Event) → Tells final f told → begins_with_text f ≡ false → begins_text more ≡ false →
    begins_text (told ++ more) ≡ false
told-begins final no_more told more t h m = ap (λ x. begins_text (x ++ more)) t ∙ m
told-begins final (a_text cs rest) told more t h m = cc
told-begins final (an_element name attributes inner rest) told more t h m = ap (λ x. begins_text (x ++ more)) t.6

no_declarations : (limits : Limits) → AreOwn limits []
no_declarations limits = record { declarable = refl; apart = refl; short = refl }

module _ (limits : Limits) (declarations : List Declaration) (declarable : list_all is_declarable declarations ≡ true) where
  nothing-read : (depth : ℕ) → IsRead limits declarations depth no_more
  nothing-read depth o outer bound deep inner nodes names place few many fits = record {
    events = [];
    after_text = inner;
    after = nodes;
    few = omega arith;
    reads = reads-nothing limits (inside (o ∷ outer) inner nodes names) place;
    told = λ final e more none. record { told = []; tells = refl; is = refl };
  }

  -- a text before what begins with none
  then-read : (cs : List ℕ) (rest : Forest) (depth : ℕ) → not (length cs == 0) ≡ true → begins_with_text rest ≡ false → list_all is_char cs ≡ true →
      IsRead limits declarations depth rest
      → IsRead limits declarations depth (a_text cs rest)
  then-read [] rest depth some apart chars rest_read o outer bound deep inner nodes names place few many fits = cc
  then-read (c ∷ cs) rest depth some apart chars rest_read o outer bound deep inner nodes names place few many fits =
      let T = bytes_of_text (c ∷ cs) in
      let F = encode_utf8_all (forest_text declarations rest) in
      let is : encode_utf8_all (forest_text declarations (a_text (c ∷ cs) rest)) ≡ T ++ F =
      encodes-append (flat_map in_text (c ∷ cs)) (forest_text declarations rest) in
      let l : length (encode_utf8_all (forest_text declarations (a_text (c ∷ cs) rest))) ≡ length T + length F = ap length is ∙ length-append T F in
      let t = text-read limits o outer names nodes (omega arith) inner (c ∷ cs) place some chars (omega arith) in
      let after = t.1 in
      let kept : after ≤ nodes + 1 = t.2 in
      let r = rest_read o outer bound deep true after names (place + length T) (omega arith) many (omega arith) in
      let last = r.few in
      let whole = piece-piece limits (inside (o ∷ outer) inner nodes names) (inside (o ∷ outer) true after names)
      (inside (o ∷ outer) r.after_text r.after (with_names names (names_in rest))) place T F t.0 r.events t.4 r.reads
      (forest-begins declarations rest apart) in
      record {
        events = t.0 ++ r.events;
        after_text = r.after_text;
        after = r.after;
        few = omega arith;
        reads = subst (λ x. ReadsPiece limits (inside (o ∷ outer) inner nodes names)
            (inside (o ∷ outer) r.after_text r.after (with_names names (names_in rest))) place x (t.0 ++ r.events)) (sym is) whole;
        told = λ final e more none.
            let w = r.told final e more none in
            let p = t.3 (r.events ++ more) (ap begins_text w.is ∙ told-begins final rest w.told (joined_back more) w.tells apart none) in
            record {
              told = has_text (c ∷ cs) p.0 ∷ w.told;
              tells = (p.0, w.told, refl, w.tells);
              is = ap joined_back (append_assoc t.0 r.events more) ∙ (p.1 ∙ ap (λ x. has_text (c ∷ cs) p.0 ∷ x) w.is);
            };
      }

  -- an element, by what is inside it
  pub any-element : (own : List Declaration) (are_own : AreOwn limits own) (name : Name) (attributes : List Attribute)
      (parts : IsTag limits declarations own name attributes) (s : State)
      (bound : map binding own ++ bindings_here s ≡ bindings_of declarations) (first : (is_outside s && s.root_seen) ≡ false)
      (deep : length s.open_elements + 1 ≤ limits.depth)
      (f : Forest) → tags_fit (is_childless f) (encode_utf8_all (element_name declarations name))
      (encode_utf8_all (element_name declarations name ++ (declarations_text own ++ attributes_text declarations attributes))) ≡ true → is_joined f ≡ true →
      IsRead limits declarations (length s.open_elements + 1) f
      → (place : ℕ) → s.nodes + (1 + (length attributes + size f)) ≤ limits.nodes →
      length (with_names s.names (tag_names name attributes ++ names_in f)) ≤ limits.names
      → place + length (element_bytes declarations own name attributes f) ≤ limits.bytes → ElementReads limits declarations own s place name attributes f
  any-element own are_own name attributes parts s bound first deep f sized joined inside_read place nodes names fits = by (is_childless f) refl
    where
      fit : (t : Bool) → is_childless f ≡ t → tags_fit t (encode_utf8_all (element_name declarations name))
          (encode_utf8_all (element_name declarations name ++ (declarations_text own ++ attributes_text declarations attributes))) ≡ true
      fit t e = subst (λ b. tags_fit b (encode_utf8_all (element_name declarations name))
          (encode_utf8_all (element_name declarations name ++ (declarations_text own ++ attributes_text declarations attributes))) ≡ true) e sized

      none : f ≡ no_more → is_childless f ≡ true → ElementReads limits declarations own s place name attributes f
      none e childless =
          let empty : s.nodes + (1 + (length attributes + size no_more)) ≤ limits.nodes =
          subst (λ x. s.nodes + (1 + (length attributes + size x)) ≤ limits.nodes) e nodes in
          let seen : length (with_names s.names (tag_names name attributes ++ [])) ≤ limits.names =
          subst (λ x. length (with_names s.names (tag_names name attributes ++ names_in x)) ≤ limits.names) e names in
          let short : place + length (element_bytes declarations own name attributes no_more) ≤ limits.bytes =
          subst (λ x. place + length (element_bytes declarations own name attributes x) ≤ limits.bytes) e fits in
          subst (ElementReads limits declarations own s place name attributes) (sym e)
          (empty-read limits declarations declarable own are_own name attributes parts s bound first deep (fit true childless) place (omega arith)
          (subst (λ x. length (with_names s.names x) ≤ limits.names) (append-nil (tag_names name attributes)) seen) short)

      by : (t : Bool) → is_childless f ≡ t → ElementReads limits declarations own s place name attributes f
      by true e = none (childless-none f joined e) e
      by false e = filled-read limits declarations declarable own are_own name attributes parts s bound first deep f e inside_read
          (fit false e) place nodes names fits

  -- an element before others
  element-then : (name : Name) (attributes : List Attribute) (f rest : Forest) (depth : ℕ) → IsTag limits declarations [] name attributes →
      tags_fit (is_childless f) (encode_utf8_all (element_name declarations name))
      (encode_utf8_all (element_name declarations name ++ (declarations_text [] ++ attributes_text declarations attributes))) ≡ true → depth + 1 ≤ limits.depth
      → is_joined f ≡ true
      → IsRead limits declarations (depth + 1) f → IsRead limits declarations depth rest → IsRead limits declarations depth (an_element name attributes f rest)
  element-then name attributes f rest depth parts sized deeper joined inside_read rest_read o outer bound deep inner nodes names place few many fits =
      let s = inside (o ∷ outer) inner nodes names in
      let P = element_bytes declarations [] name attributes f in
      let F = encode_utf8_all (forest_text declarations rest) in
      let is : encode_utf8_all (forest_text declarations (an_element name attributes f rest)) ≡ P ++ F =
      encodes-append (element_text (element_name declarations name) (attributes_text declarations attributes) (is_childless f) (forest_text declarations f))
      (forest_text declarations rest) in
      let l : length (encode_utf8_all (forest_text declarations (an_element name attributes f rest))) ≡ length P + length F = ap length is ∙
      length-append P F in
      let first : (is_outside s && s.root_seen) ≡ false = ap (λ t. t && true) (not_none (length outer)) in
      let level : depth + 1 ≡ length (o ∷ outer) + 1 = ap (λ n. n + 1) (sym deep) in
      let one = tag_names name attributes ++ names_in f in
      let split : with_names names (names_in (an_element name attributes f rest)) ≡ with_names (with_names names one) (names_in rest) =
      ap (with_names names) (sym (append_assoc (tag_names name attributes) (names_in f) (names_in rest))) ∙ names-append names one (names_in rest) in
      let all : length (with_names (with_names names one) (names_in rest)) ≤ limits.names = subst (λ x. length x ≤ limits.names) split many in
      let grown : length (with_names names one) ≤ length (with_names (with_names names one) (names_in rest)) =
      extends-length (with_names names one) (with_names (with_names names one) (names_in rest))
      (extends-with_names (with_names names one) (names_in rest)) in
      let e = any-element [] (no_declarations limits) name attributes parts s bound first (omega arith) f sized joined
      (subst (λ n. IsRead limits declarations n f) level inside_read) place (omega arith) (omega arith) (omega arith) in
      let kept = e.few in
      let r = rest_read o outer bound deep false e.after (with_names names one) (place + length P) (omega arith) all (omega arith) in
      let last = r.few in
      let end = inside (o ∷ outer) r.after_text r.after (with_names (with_names names one) (names_in rest)) in
      let whole = any-piece limits s (inside (o ∷ outer) false e.after (with_names names one)) end place P F e.events r.events e.reads r.reads in
      record {
        events = e.events ++ r.events;
        after_text = r.after_text;
        after = r.after;
        few = omega arith;
        reads = subst (λ x. ReadsPiece limits s (inside (o ∷ outer) r.after_text r.after (with_names names (names_in (an_element name attributes f rest))))
            place x (e.events ++ r.events)) (sym is)
            (subst (λ n. ReadsPiece limits s (inside (o ∷ outer) r.after_text r.after n) place (P ++ F) (e.events ++ r.events)) (sym split) whole);
        told = λ final g more none.
            let h = subst (λ n. Extends n final) split g in
            let w = r.told final h more none in
            let a = e.told final (extends-more (with_names names one) (with_names (with_names names one) (names_in rest)) final
            (extends-with_names (with_names names one) (names_in rest)) h) (r.events ++ more) in
            record {
              told = starts a.number a.place ∷ (a.first ++ (a.inner ++ (ends ∷ w.told)));
              tells = (a.number, a.place, a.first, a.inner, w.told, a.numbered, refl, a.given, a.tells, w.tells);
              is = ap joined_back (append_assoc e.events r.events more)
                  ∙ (a.is
                  ∙ (ap (λ x. starts a.number a.place ∷ (a.first ++ (a.inner ++ (ends ∷ x)))) w.is
                  ∙ ap (λ x. starts a.number a.place ∷ x)
                  (ap (λ x. a.first ++ x) (sym (append_assoc a.inner (ends ∷ w.told) (joined_back more))) ∙
                  sym (append_assoc a.first (a.inner ++ (ends ∷ w.told)) (joined_back more)))));
            };
      }

  pub forest-read : (f : Forest) (depth : ℕ) → AreTags limits declarations [] depth f → is_joined f ≡ true → IsRead limits declarations depth f
  forest-read no_more depth w j = nothing-read depth
  forest-read (a_text cs rest) depth w j =
      let p = of-text limits declarations [] depth cs rest w in
      let q = both (not (length cs == 0)) (not (begins_with_text rest) && is_joined rest) j in
      let r = both (not (begins_with_text rest)) (is_joined rest) q.1 in
      then-read cs rest depth q.0 (not_false (begins_with_text rest) r.0) p.0 (forest-read rest depth p.1 r.1)
  forest-read (an_element name attributes f rest) depth w j =
      let p = of-element limits declarations [] depth name attributes f rest w in
      let i = both (is_joined f) (is_joined rest) j in
      element-then name attributes f rest depth p.tag p.sized p.deep i.0 (forest-read f (depth + 1) p.inside i.0) (forest-read rest depth p.behind i.1)
