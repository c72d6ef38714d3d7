-- The tree that lines write: its elements, texts, names and levels, whatever the invoice is.
use Rattle.std.proofs.Common.{◌≡◌, ℕ, ◌+◌, ◌≤◌, Bool, true, false, not, ◌&&◌, List, [], ◌∷◌, ◌++◌, map, filter, length, max, inl, inr, refl, ap, subst, suc}
use Rattle.std.proofs.Common.{arith, nat_le}
use Rattle.std.specs.Prelude.{bytes_eq, ◌==◌}
use Rattle.std.specs.List.{list_all}
use Rattle.inv_base.specs.Characters.{is_char}
use Rattle.inv_base.specs.Tree.{Name, Attribute, Forest, no_more, a_text, an_element, begins_with_text, is_joined}
use Rattle.xml_state.specs.declared.limits.Limits.{Limits}
use Rattle.xml_events.specs.Names.{same_name}
use Rattle.xml_state.specs.Admission.{has_twice}
use Rattle.xml_write.specs.Canonical.{Declaration, element_name, attribute_name}
use Rattle.xml_laws.specs.Writable.{is_element_name, is_attribute_name, all_elements, all_texts, depth_of, names_in, is_short}
use Rattle.term_table.specs.declared.contexts.Context.{Context}
use Rattle.inv_terms.specs.declared.entries.Entry.{Entry}
use Rattle.bind_rows.specs.declared.rows.Step.{Step}
use Rattle.bind_table.specs.Lines.{Cell, Plan, nothing, a_line}
use Rattle.bind_meaning.specs.Trees.{spots, name_of, is_at_element, attributes, element_text, with_text, is_emitted, holds_further, elements, written_lines}
use Rattle.written_laws.specs.Readable.{levels, locals, unspaced, names_of, has_chars, all_lines, is_fine_local, is_fine_line}
use Rattle.written_laws.proofs.ListLemmas.{both, and-true, not-true, at-most, Among, Within, each-append, each-weaker, other-than-none, up, left-below}
use Rattle.written_laws.proofs.ListLemmas.{right-below}
use Rattle.written_laws.proofs.ValueLemmas.{IsChars, AreChars}
use Rattle.written_laws.proofs.LineLemmas.{Has, has-few, has-all, has-apart, has-within, line-attributes, line-text}

-- ---- elements that can be written

-- The element can be written, and keeps the limits but for that on its tags.
pub record IsFine (limits : Limits) (declarations : List Declaration) (name : Name) (given : List Attribute) : Type 0 where
  pub named : is_element_name declarations name ≡ true
  pub all_named : list_all (λ (a : Attribute). is_attribute_name declarations a.name) given ≡ true
  pub apart : has_twice (λ (a b : Attribute). same_name a.name b.name) given ≡ false
  pub values : list_all (λ (a : Attribute). list_all is_char a.value) given ≡ true
  pub few : length declarations + length given ≤ limits.attributes
  pub short : is_short limits (element_name declarations name) ≡ true
  pub all_short : list_all (λ (a : Attribute). is_short limits (attribute_name declarations a.name)) given ≡ true

-- Something holds of all elements.
abbrev pub Elements : (Name → List Attribute → Type 0) → Forest → Type 0
Elements P no_more = Unit {0}
Elements P (a_text characters rest) = Elements P rest
Elements P (an_element name given inside rest) = P name given × Elements P inside × Elements P rest

pub elements-pass : (P : Name → List Attribute → Type 0) (test : Name → List Attribute → Bool) →
    ((name : Name) (given : List Attribute) → P name given → test name given ≡ true)
    → (f : Forest) → Elements P f → all_elements test f ≡ true
elements-pass P test h no_more k = refl
elements-pass P test h (a_text characters rest) k = elements-pass P test h rest k
elements-pass P test h (an_element name given inside rest) k =
    and-true (test name given) (all_elements test inside && all_elements test rest) (h name given k.0)
    (and-true (all_elements test inside) (all_elements test rest) (elements-pass P test h inside k.1) (elements-pass P test h rest k.2))

-- ---- a forest that lines write

pub record IsWritten (limits : Limits) (declarations : List Declaration) (names : List Name) (deep : ℕ) (f : Forest) : Type 0 where
  pub elements : Elements (IsFine limits declarations) f
  pub texts : all_texts (list_all is_char) f ≡ true
  pub joined : is_joined f ≡ true
  pub levels_are : depth_of f ≤ deep
  pub named : Within (names_in f) names

-- It is, and begins with no text.
pub record StandsAlone (limits : Limits) (declarations : List Declaration) (names : List Name) (deep : ℕ) (f : Forest) : Type 0 where
  pub written : IsWritten limits declarations names deep f
  pub begins : begins_with_text f ≡ false

-- What the test says of a line.
pub record IsFineLine (limits : Limits) (declarations : List Declaration) (s : Step) (cells : List Cell) : Type 0 where
  pub named : is_element_name declarations (name_of s.name) ≡ true
  pub short : is_short limits (element_name declarations (name_of s.name)) ≡ true
  pub all_fine : list_all (is_fine_local limits declarations) (locals cells) ≡ true
  pub apart : has_twice bytes_eq (locals cells) ≡ false
  pub alone : length (filter is_at_element cells) ≤ 1
  pub few : length declarations + length (locals cells) ≤ limits.attributes
  pub words : list_all has_chars cells ≡ true

back-within : (names xs ys : List Name) → Within (xs ++ ys) names → Within ys names
back-within names [] ys h = h
back-within names (x ∷ xs) ys h = back-within names xs ys h.1

front-within : (names xs ys : List Name) → Within (xs ++ ys) names → Within xs names
front-within names [] ys h = tt
front-within names (x ∷ xs) ys h = (h.0, front-within names xs ys h.1)

from-each : (names : List Name) (n : Name) (xs : List Name) → Within xs names → Among n xs → Among n names
from-each names n [] h a = absurd a
from-each names n (x ∷ xs) h (inl e) = subst (λ y. Among y names) e h.0
from-each names n (x ∷ xs) h (inr a) = from-each names n xs h.1 a

module _ (limits : Limits) (declarations : List Declaration) (names : List Name) where
  abbrev Alone : ℕ → Forest → Type 0
  Alone deep f = StandsAlone limits declarations names deep f

  nothing-alone : (deep : ℕ) → Alone deep no_more
  nothing-alone deep = record {
    written = record { elements = tt; texts = refl; joined = refl; levels_are = let z : 0 ≤ deep = omega arith in z; named = tt };
    begins = refl;
  }

  deeper : (low deep : ℕ) (f : Forest) → low ≤ deep → Alone low f → Alone deep f
  deeper low deep f e k =
      let w = k.written in
      record {
        written = record { elements = w.elements; texts = w.texts; joined = w.joined; levels_are = up (depth_of f) low deep w.levels_are e; named = w.named };
        begins = k.begins;
      }

  text-written : (deep : ℕ) (text : List ℕ) (f : Forest) → IsChars text → Alone deep f → IsWritten limits declarations names deep (with_text text f)
  text-written deep [] f h k = k.written
  text-written deep (c ∷ text) f h k =
      let w = k.written in
      record {
        elements = w.elements;
        texts = and-true (list_all is_char (c ∷ text)) (all_texts (list_all is_char) f) h w.texts;
        joined = and-true (not (length (c ∷ text) == 0)) (not (begins_with_text f) && is_joined f)
            (ap not (other-than-none (length (c ∷ text)) (let z : 1 ≤ suc (length text) = omega arith in z)))
            (and-true (not (begins_with_text f)) (is_joined f) (ap not k.begins) w.joined);
        levels_are = w.levels_are;
        named = w.named;
      }

  element-written : (low deep : ℕ) (name : Name) (given : List Attribute) (inside rest : Forest) → IsFine limits declarations name given → Among name names
      → Within (map (λ (a : Attribute). a.name) given) names → IsWritten limits declarations names low inside → 1 + low ≤ deep → Alone deep rest →
      Alone deep (an_element name given inside rest)
  element-written low deep name given inside rest fine among within w e k =
      let r = k.written in
      record {
        written = record {
          elements = (fine, w.elements, r.elements);
          texts = and-true (all_texts (list_all is_char) inside) (all_texts (list_all is_char) rest) w.texts r.texts;
          joined = and-true (is_joined inside) (is_joined rest) w.joined r.joined;
          levels_are = higher (depth_of inside) (depth_of rest) low deep w.levels_are e r.levels_are;
          named = (
            among,
            each-append (λ n. Among n names) (map (λ (a : Attribute). a.name) given) (names_in inside ++ names_in rest) within
                (each-append (λ n. Among n names) (names_in inside) (names_in rest) w.named r.named),
          );
        };
        begins = refl;
      }
    where
      higher : (a b low deep : ℕ) → a ≤ low → 1 + low ≤ deep → b ≤ deep → max (1 + a) b ≤ deep
      higher a b low deep h k l = omega arith

  all-elements : (deep : ℕ) (is_there : Context → Bool) (make : Context → Forest → Forest) (cs : List Context) (rest : Forest) →
      ((c : Context) (f : Forest) → Alone deep f → Alone deep (make c f))
      → Alone deep rest → Alone deep (elements is_there make cs rest)
  all-elements deep is_there make [] rest h k = k
  all-elements deep is_there make (c ∷ cs) rest h k = go (is_there c) (all-elements deep is_there make cs rest h k)
    where
      go : (b : Bool) → Alone deep (elements is_there make cs rest) →
          Alone deep (elim b [ true ↦ make c (elements is_there make cs rest) | false ↦ elements is_there make cs rest ])
      go true l = h c (elements is_there make cs rest) l
      go false l = l

  -- ---- the test of a line

  fine-line : (s : Step) (cells : List Cell) → is_fine_line limits declarations s cells ≡ true → IsFineLine limits declarations s cells
  fine-line s cells h =
      let named = is_element_name declarations (name_of s.name) in
      let short = is_short limits (element_name declarations (name_of s.name)) in
      let all_fine = list_all (is_fine_local limits declarations) (locals cells) in
      let apart = not (has_twice bytes_eq (locals cells)) in
      let alone = nat_le (length (filter is_at_element cells)) 1 in
      let few = nat_le (length declarations + length (locals cells)) limits.attributes in
      let words = list_all has_chars cells in
      let a = both (named && short) (all_fine && (apart && (alone && (few && words)))) h in
      let b = both named short a.0 in
      let c = both all_fine (apart && (alone && (few && words))) a.1 in
      let d = both apart (alone && (few && words)) c.1 in
      let e = both alone (few && words) d.1 in
      let f = both few words e.1 in
      record {
        named = b.0;
        short = b.1;
        all_fine = c.0;
        apart = not-true (has_twice bytes_eq (locals cells)) d.0;
        alone = at-most (length (filter is_at_element cells)) 1 e.0;
        few = at-most (length declarations + length (locals cells)) limits.attributes f.0;
        words = f.1;
      }

  fine-element : (s : Step) (cells : List Cell) → IsFineLine limits declarations s cells → (given : List Attribute) → Has given (locals cells) →
      IsFine limits declarations (name_of s.name) given
  fine-element s cells line given has =
      record {
        named = line.named;
        all_named = has-all (is_fine_local limits declarations) (λ (a : Attribute). is_attribute_name declarations a.name)
            (λ local value c k. (both (is_attribute_name declarations (unspaced local)) (is_short limits (attribute_name declarations (unspaced local))) k).0)
            given (locals cells) line.all_fine has;
        apart = has-apart given (locals cells) line.apart has;
        values = has-all (is_fine_local limits declarations) (λ (a : Attribute). list_all is_char a.value) (λ local value c k. c) given
            (locals cells) line.all_fine has;
        few = fewer (length declarations) (length given) (length (locals cells)) limits.attributes (has-few given (locals cells) has) line.few;
        short = line.short;
        all_short = has-all (is_fine_local limits declarations) (λ (a : Attribute). is_short limits (attribute_name declarations a.name))
            (λ local value c k. (both (is_attribute_name declarations (unspaced local)) (is_short limits (attribute_name declarations (unspaced local))) k).1)
            given (locals cells) line.all_fine has;
      }
    where
      fewer : (a b c most : ℕ) → b ≤ c → a + c ≤ most → a + b ≤ most
      fewer a b c most h k = omega arith

  -- ---- what lines write

  module _ (es : List Entry) (chars : AreChars es) where
    line-element : (s : Step) (cells : List Cell) (inside rest : Plan) → IsFineLine limits declarations s cells →
        Within (names_of (a_line s cells inside rest)) names
        → (c : Context) (f behind : Forest) → Alone (levels inside) f → Alone (levels (a_line s cells inside rest)) behind
        → Alone (levels (a_line s cells inside rest)) (an_element (name_of s.name) (attributes es s cells c) (with_text (element_text es cells c) f) behind)
    line-element s cells inside rest line within c f behind alone k =
        let has = line-attributes es chars s c cells line.words line.alone in
        let own = front-within names (map unspaced (locals cells)) (names_of inside ++ names_of rest) within.1 in
        element-written (levels inside) (levels (a_line s cells inside rest)) (name_of s.name) (attributes es s cells c)
        (with_text (element_text es cells c) f) behind
        (fine-element s cells line (attributes es s cells c) has) within.0
        (each-weaker (λ n. Among n (map unspaced (locals cells))) (λ n. Among n names) (map (λ (a : Attribute). a.name) (attributes es s cells c))
        (λ n a. from-each names n (map unspaced (locals cells)) own a) (has-within (attributes es s cells c) (locals cells) has))
        (text-written (levels inside) (element_text es cells c) f (line-text es chars s c cells line.words) alone)
        (left-below (1 + levels inside) (levels rest)) k

    pub lines-written : (plan : Plan) (held : Bool) (c : Context) → all_lines (is_fine_line limits declarations) plan ≡ true → Within (names_of plan) names →
        Alone (levels plan) (written_lines es plan held c)
    lines-written nothing held c h within = nothing-alone (levels nothing)
    lines-written (a_line s cells inside rest) held c h within =
        let test = is_fine_line limits declarations in
        let a = both (test s cells) (all_lines test inside && all_lines test rest) h in
        let b = both (all_lines test inside) (all_lines test rest) a.1 in
        let further = back-within names (map unspaced (locals cells)) (names_of inside ++ names_of rest) within.1 in
        all-elements (levels (a_line s cells inside rest)) (is_emitted es s cells inside held)
        (λ d. an_element (name_of s.name) (attributes es s cells d)
        (with_text (element_text es cells d) (written_lines es inside (holds_further es cells inside held d) d)))
        (spots es c s.group) (written_lines es rest held c)
        (λ d f k. line-element s cells inside rest (fine-line s cells a.0) within d (written_lines es inside (holds_further es cells inside held d) d) f
        (lines-written inside (holds_further es cells inside held d) d b.0 (front-within names (names_of inside) (names_of rest) further)) k)
        (deeper (levels rest) (levels (a_line s cells inside rest)) (written_lines es rest held c) (right-below (1 + levels inside) (levels rest))
        (lines-written rest held c b.1 (back-within names (names_of inside) (names_of rest) further)))
