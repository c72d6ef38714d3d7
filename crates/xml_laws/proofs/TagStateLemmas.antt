-- What a tag that canonical text writes says behind a state, and that it is admissible there.
use Rattle.std.proofs.Common.{◌≡◌, ℕ, Bool, true, false, not, ◌&&◌, ◌||◌, ◌==◌, List, [], ◌∷◌, ◌++◌, map, length, refl, sym, ap, ◌∙◌, arith, subst}
use Rattle.std.proofs.Common.{if◌then◌else◌, Option, Some, None, is_none, cond, encode_utf8_all, true≢false}
use Rattle.std.specs.List.{list_all, list_any, cons_option}
use Rattle.std.specs.Str.{bytes_eq}
use Rattle.std.proofs.lemmas.List.Folds.{list_any-append}
use Rattle.std.proofs.lemmas.Bool.Decides.{nat_tests}
use Rattle.std.proofs.lemmas.Option.{same_Some, none-some}
use Rattle.std.proofs.lemmas.Slice.Eq.{bytes_eq-Decides}
use Rattle.std.proofs.lemmas.Str.{encodes_same}
use Rattle.xml_laws.proofs.NameLemmas.{same_self}
use lib.Utf8.{encode}
use Rattle.inv_base.specs.Characters.{is_char}
use Rattle.inv_base.specs.Tree.{Attribute}
use Rattle.inv_base.proofs.TextLemmas.{both}
use Rattle.xml_tokens.specs.Markup.{Written}
use Rattle.xml_state.specs.declared.limits.Limits.{Limits}
use Rattle.xml_events.specs.Names.{same_name}
use Rattle.xml_state.specs.Namespaces.{Binding, xml, xmlns, xml_uri, xmlns_uri, first_bindings, declared_prefix, declared_binding, declared_bindings}
use Rattle.xml_state.specs.Namespaces.{undeclaring, is_bad_binding, is_undeclared, attributes_of}
use Rattle.xml_state.specs.Namespaces as names
use Rattle.xml_state.specs.Admission.{has_twice, is_long_name}
use Rattle.xml_write.specs.Canonical.{Declaration, attribute_name, declaring_name}
use Rattle.xml_laws.specs.Writable.{is_declarable, is_attribute_name, is_short}
use Rattle.xml_laws.proofs.RestLemmas.{not_none}
use Rattle.xml_laws.proofs.AttributeLemmas.{AreWritten, not_false, or_false}
use Rattle.xml_laws.proofs.QualifiedLemmas.{eq-encoded, is_prefix, xmlns-encoded, declaring-written, declaring-declares}
use Rattle.xml_laws.proofs.BindingLemmas.{binding, bindings_of, encoded-some, bytes-same, IsReadAttribute, attribute-read}

-- a declaration, and an attribute of an element, as they are read
abbrev pub declaring : Declaration → Written
declaring d = record { name = encode_utf8_all (declaring_name d.prefix); value = d.uri }

abbrev pub given : List Declaration → Attribute → Written
given declarations a = record { name = encode_utf8_all (attribute_name declarations a.name); value = a.value }

-- the attributes of a tag with declarations of its own
abbrev pub tag_attributes : List Declaration → List Declaration → List Attribute → List Written
tag_attributes declarations own attributes = map declaring own ++ map (given declarations) attributes

-- An attribute that can be written.
abbrev pub is_given : List Declaration → Attribute → Bool
is_given declarations a = is_attribute_name declarations a.name && list_all is_char a.value

declarable-parts : (d : Declaration) → is_declarable d ≡ true → (is_prefix d.prefix ≡ true) × (list_all is_char d.uri ≡ true) ×
    (is_bad_binding (record { prefix = d.prefix; uri = d.uri }) ≡ false)
declarable-parts d h =
    let bad = is_bad_binding (record { prefix = d.prefix; uri = d.uri }) in
    let p = both (is_prefix d.prefix) (list_all is_char d.uri && not bad) h in
    let q = both (list_all is_char d.uri) (not bad) p.1 in
    (p.0, q.0, not_false bad q.1)

-- All attributes of the tag are written as they are to be.
own-written : (own : List Declaration) → list_all is_declarable own ≡ true → (rest : List Written) → AreWritten rest → AreWritten (map declaring own ++ rest)
own-written [] h rest w = w
own-written (d ∷ own) h rest w =
    let p = both (is_declarable d) (list_all is_declarable own) h in
    let q = declarable-parts d p.0 in
    (declaring-written d.prefix q.0, q.1, own-written own p.1 rest w)

-- No element of the list passes, where a test that it implies fails of all.
pub any-apart : {X Y : Type 0} (good p : X → Bool) (q : Y → Bool) (f : X → Y) → ((x : X) → good x ≡ true → q (f x) ≡ true → p x ≡ true) → (xs : List X) →
    list_all good xs ≡ true → list_any p xs ≡ false
    → list_any q (map f xs) ≡ false
any-apart good p q f implies [] g h = refl
any-apart good p q f implies (x ∷ xs) g h =
    let a = both (good x) (list_all good xs) g in
    let b = or_false (p x) (list_any p xs) h in
    ap (λ t. t || list_any q (map f xs)) (by (q (f x)) refl (implies x a.0) b.0) ∙ any-apart good p q f implies xs a.1 b.1
  where
    by : (t : Bool) → q (f x) ≡ t → (q (f x) ≡ true → p x ≡ true) → p x ≡ false → t ≡ false
    by false e i n = refl
    by true e i n = absurd (true≢false (sym (i e) ∙ n))

none-passes : {X : Type 0} (xs : List X) → list_any (λ x. false) xs ≡ false
none-passes [] = refl
none-passes (x ∷ xs) = none-passes xs

-- No element passes, where none that is good does.
pub any-good : {X Y : Type 0} (good : X → Bool) (q : Y → Bool) (f : X → Y) → ((x : X) → good x ≡ true → q (f x) ≡ false) → (xs : List X) →
    list_all good xs ≡ true → list_any q (map f xs) ≡ false
any-good good q f fails xs g = any-apart good (λ x. false) q f (λ x h e. absurd (true≢false (sym e ∙ fails x h))) xs g (none-passes xs)

abbrev bind_then : Option (List ℕ) → List ℕ → List Binding → List Binding
bind_then x uri more = cons_option (elim x [ None ↦ None | (Some prefix) ↦ Some (record { prefix = prefix; uri = uri }) ]) more

-- The tag declares its own declarations.
own-declared : (own : List Declaration) → list_all is_declarable own ≡ true → (rest : List Written) → declared_bindings rest ≡ [] →
    declared_bindings (map declaring own ++ rest) ≡ map binding own
own-declared [] h rest none = none
own-declared (d ∷ own) h rest none =
    let p = both (is_declarable d) (list_all is_declarable own) h in
    ap (λ x. bind_then x d.uri (declared_bindings (map declaring own ++ rest))) (declaring-declares d.prefix (declarable-parts d p.0).0)
    ∙ ap (λ x. binding d ∷ x) (own-declared own p.1 rest none)

own-undeclaring : (own : List Declaration) → list_all is_declarable own ≡ true → (rest : List Written) →
    undeclaring (map declaring own ++ rest) ≡ undeclaring rest
own-undeclaring [] h rest = refl
own-undeclaring (d ∷ own) h rest =
    let p = both (is_declarable d) (list_all is_declarable own) h in
    ap (λ x. cond (is_none x) (declaring d ∷ undeclaring (map declaring own ++ rest)) (undeclaring (map declaring own ++ rest)))
    (declaring-declares d.prefix (declarable-parts d p.0).0)
    ∙ own-undeclaring own p.1 rest

-- No binding of the declarations is bad.
abbrev bad : Bool → Bool → Bool → List ℕ → Bool
bad is_xmlns is_xml is_default uri =
    is_xmlns || ((if is_xml then not (bytes_eq uri xml_uri) else bytes_eq uri xml_uri) || (bytes_eq uri xmlns_uri || (not is_default && length uri == 0)))

xml-encoded : encode_utf8_all xml ≡ xml
unfolding encode
xml-encoded = refl

empty-encoded : (prefix : List ℕ) → (length (encode_utf8_all prefix) == 0) ≡ (length prefix == 0)
empty-encoded [] = refl
empty-encoded (c ∷ prefix) = encoded-some c prefix ∙ sym (not_none (length prefix))

binding-good : (d : Declaration) → is_declarable d ≡ true → is_bad_binding (binding d) ≡ false
binding-good d h =
    ap (λ t. bad t (bytes_eq (encode_utf8_all d.prefix) xml) (length (encode_utf8_all d.prefix) == 0) d.uri)
    (ap (bytes_eq (encode_utf8_all d.prefix)) (sym xmlns-encoded) ∙ eq-encoded d.prefix xmlns)
    ∙ (ap (λ t. bad (bytes_eq d.prefix xmlns) t (length (encode_utf8_all d.prefix) == 0) d.uri) (ap (bytes_eq (encode_utf8_all d.prefix)) (sym xml-encoded) ∙
    eq-encoded d.prefix xml)
    ∙ (ap (λ t. bad (bytes_eq d.prefix xmlns) (bytes_eq d.prefix xml) t d.uri) (empty-encoded d.prefix)
    ∙ (declarable-parts d h).2))

pub bindings-good : (own : List Declaration) → list_all is_declarable own ≡ true → list_any is_bad_binding (map binding own) ≡ false
bindings-good own h = any-good is_declarable is_bad_binding binding binding-good own h

-- Names that are short enough.
pub long-not : (limits : Limits) (w : List ℕ) → is_short limits w ≡ true → is_long_name limits (encode_utf8_all w) ≡ false
long-not limits w h = grind (arith, nat_tests)

pub names-short : (limits : Limits) (declarations own : List Declaration) (attributes : List Attribute) →
    list_all (λ (d : Declaration). is_short limits (declaring_name d.prefix)) own ≡ true
    → list_all (λ (a : Attribute). is_short limits (attribute_name declarations a.name)) attributes ≡ true
    → list_any (λ (a : Written). is_long_name limits a.name) (tag_attributes declarations own attributes) ≡ false
names-short limits declarations own attributes g h =
    let long = λ (a : Written). is_long_name limits a.name in
    list_any-append long (map declaring own) (map (given declarations) attributes)
    ∙ (ap (λ t. t || list_any long (map (given declarations) attributes))
    (any-good (λ (d : Declaration). is_short limits (declaring_name d.prefix)) long declaring (λ d q. long-not limits (declaring_name d.prefix) q) own g)
    ∙ any-good (λ (a : Attribute). is_short limits (attribute_name declarations a.name)) long (given declarations)
    (λ a q. long-not limits (attribute_name declarations a.name) q) attributes h)

-- No two declarations are written with one name.
abbrev pub same_written : Written → Written → Bool
same_written a b = bytes_eq a.name b.name

declaring-same : (d e : Declaration) → is_declarable d ≡ true → is_declarable e ≡ true → same_written (declaring d) (declaring e) ≡ true →
    bytes_eq d.prefix e.prefix ≡ true
declaring-same d e g h s =
    let is = bytes-same (encode_utf8_all (declaring_name d.prefix)) (encode_utf8_all (declaring_name e.prefix)) s in
    let prefixes : encode_utf8_all d.prefix ≡ encode_utf8_all e.prefix =
    same_Some _ _ (sym (declaring-declares d.prefix (declarable-parts d g).0) ∙ (ap declared_prefix is ∙ declaring-declares e.prefix (declarable-parts e h).0))
    in
    (bytes_eq-Decides d.prefix e.prefix).1 (encodes_same d.prefix e.prefix prefixes)

pub own-apart : (own : List Declaration) → list_all is_declarable own ≡ true → has_twice (λ (a b : Declaration). bytes_eq a.prefix b.prefix) own ≡ false →
    (rest : List Written) → has_twice same_written rest ≡ false
    → ((d : Declaration) → is_declarable d ≡ true → list_any (same_written (declaring d)) rest ≡ false) →
    has_twice same_written (map declaring own ++ rest) ≡ false
own-apart [] h t rest r apart = r
own-apart (d ∷ own) h t rest r apart =
    let p = both (is_declarable d) (list_all is_declarable own) h in
    let q = or_false (list_any (λ (e : Declaration). bytes_eq d.prefix e.prefix) own) (has_twice (λ (a b : Declaration). bytes_eq a.prefix b.prefix) own) t in
    let here : list_any (same_written (declaring d)) (map declaring own ++ rest) ≡ false =
    list_any-append (same_written (declaring d)) (map declaring own) rest
    ∙ (ap (λ t. t || list_any (same_written (declaring d)) rest)
    (any-apart is_declarable (λ (e : Declaration). bytes_eq d.prefix e.prefix) (same_written (declaring d)) declaring
    (λ e g s. declaring-same d e p.0 g s) own p.1 q.0)
    ∙ apart d p.0) in
    ap (λ t. t || has_twice same_written (map declaring own ++ rest)) here ∙ own-apart own p.1 q.1 rest r apart

module _ (declarations : List Declaration) (declarable : list_all is_declarable declarations ≡ true) where
  read_as : (a : Attribute) → is_given declarations a ≡ true → IsReadAttribute declarations a.name (encode_utf8_all (attribute_name declarations a.name))
  read_as a h = attribute-read declarations a.name declarable (both (is_attribute_name declarations a.name) (list_all is_char a.value) h).0

  given-written : (attributes : List Attribute) → list_all (is_given declarations) attributes ≡ true → AreWritten (map (given declarations) attributes)
  given-written [] h = tt
  given-written (a ∷ attributes) h =
      let p = both (is_given declarations a) (list_all (is_given declarations) attributes) h in
      ((read_as a p.0).as_name.written, (both (is_attribute_name declarations a.name) (list_all is_char a.value) p.0).1, given-written attributes p.1)

  pub attributes-written : (own : List Declaration) (attributes : List Attribute) → list_all is_declarable own ≡ true →
      list_all (is_given declarations) attributes ≡ true → AreWritten (tag_attributes declarations own attributes)
  attributes-written own attributes g h = own-written own g (map (given declarations) attributes) (given-written attributes h)

  given-declares_not : (a : Attribute) → is_given declarations a ≡ true → declared_prefix (encode_utf8_all (attribute_name declarations a.name)) ≡ None
  given-declares_not a h = (read_as a h).no_declaration

  given-declared : (attributes : List Attribute) → list_all (is_given declarations) attributes ≡ true →
      declared_bindings (map (given declarations) attributes) ≡ []
  given-declared [] h = refl
  given-declared (a ∷ attributes) h =
      let p = both (is_given declarations a) (list_all (is_given declarations) attributes) h in
      ap (λ x. bind_then x a.value (declared_bindings (map (given declarations) attributes))) (given-declares_not a p.0) ∙ given-declared attributes p.1

  pub tag-declared : (own : List Declaration) (attributes : List Attribute) → list_all is_declarable own ≡ true →
      list_all (is_given declarations) attributes ≡ true
      → declared_bindings (tag_attributes declarations own attributes) ≡ map binding own
  tag-declared own attributes g h = own-declared own g (map (given declarations) attributes) (given-declared attributes h)

  given-undeclaring : (attributes : List Attribute) → list_all (is_given declarations) attributes ≡ true →
      undeclaring (map (given declarations) attributes) ≡ map (given declarations) attributes
  given-undeclaring [] h = refl
  given-undeclaring (a ∷ attributes) h =
      let p = both (is_given declarations a) (list_all (is_given declarations) attributes) h in
      let more = undeclaring (map (given declarations) attributes) in
      ap (λ x. cond (is_none x) (given declarations a ∷ more) more) (given-declares_not a p.0) ∙
      ap (λ x. given declarations a ∷ x) (given-undeclaring attributes p.1)

  pub tag-undeclaring : (own : List Declaration) (attributes : List Attribute) → list_all is_declarable own ≡ true →
      list_all (is_given declarations) attributes ≡ true
      → undeclaring (tag_attributes declarations own attributes) ≡ map (given declarations) attributes
  tag-undeclaring own attributes g h = own-undeclaring own g (map (given declarations) attributes) ∙ given-undeclaring attributes h

  -- The attributes of the tag are those of the tree.
  abbrev as_read : Written → Attribute
  as_read w = record { name = names.attribute_name (bindings_of declarations) w.name; value = w.value }

  given-read : (attributes : List Attribute) → list_all (is_given declarations) attributes ≡ true →
      map as_read (map (given declarations) attributes) ≡ attributes
  given-read [] h = refl
  given-read (a ∷ attributes) h =
      let p = both (is_given declarations a) (list_all (is_given declarations) attributes) h in
      ap (λ n. (let r : Attribute = record { name = n; value = a.value } in r) ∷ map as_read (map (given declarations) attributes))
      (read_as a p.0).as_name.expanded_is
      ∙ ap (λ x. a ∷ x) (given-read attributes p.1)

  pub tag-read : (own : List Declaration) (attributes : List Attribute) → list_all is_declarable own ≡ true → list_all (is_given declarations) attributes ≡ true
      → attributes_of (bindings_of declarations) (tag_attributes declarations own attributes) ≡ attributes
  tag-read own attributes g h = ap (map as_read) (tag-undeclaring own attributes g h) ∙ given-read attributes h

  pub tag-bound : (own : List Declaration) (attributes : List Attribute) → list_all is_declarable own ≡ true →
      list_all (is_given declarations) attributes ≡ true
      → list_any (λ (a : Written). is_undeclared (bindings_of declarations) a.name) (undeclaring (tag_attributes declarations own attributes)) ≡ false
  tag-bound own attributes g h =
      ap (list_any (λ (a : Written). is_undeclared (bindings_of declarations) a.name)) (tag-undeclaring own attributes g h)
      ∙ any-good (is_given declarations) (λ (a : Written). is_undeclared (bindings_of declarations) a.name) (given declarations)
      (λ a q. (read_as a q).as_name.declared) attributes h

  -- No two attributes are written with one name.
  given-same : (a b : Attribute) → is_given declarations a ≡ true → is_given declarations b ≡ true →
      same_written (given declarations a) (given declarations b) ≡ true → same_name a.name b.name ≡ true
  given-same a b g h s =
      let is = bytes-same (encode_utf8_all (attribute_name declarations a.name)) (encode_utf8_all (attribute_name declarations b.name)) s in
      let same_names : a.name ≡ b.name = sym (read_as a g).as_name.expanded_is ∙
      (ap (names.attribute_name (bindings_of declarations)) is ∙ (read_as b h).as_name.expanded_is) in
      subst (λ n. same_name a.name n ≡ true) same_names (same_self a.name)

  given-apart : (attributes : List Attribute) → list_all (is_given declarations) attributes ≡ true →
      has_twice (λ (a b : Attribute). same_name a.name b.name) attributes ≡ false
      → has_twice same_written (map (given declarations) attributes) ≡ false
  given-apart [] h t = refl
  given-apart (a ∷ attributes) h t =
      let p = both (is_given declarations a) (list_all (is_given declarations) attributes) h in
      let q = or_false (list_any (λ (b : Attribute). same_name a.name b.name) attributes)
      (has_twice (λ (a b : Attribute). same_name a.name b.name) attributes) t in
      ap (λ t. t || has_twice same_written (map (given declarations) attributes))
      (any-apart (is_given declarations) (λ (b : Attribute). same_name a.name b.name) (same_written (given declarations a)) (given declarations)
      (λ b g s. given-same a b p.0 g s) attributes p.1 q.0)
      ∙ given-apart attributes p.1 q.1

  declaration-apart : (d : Declaration) → is_declarable d ≡ true → (attributes : List Attribute) → list_all (is_given declarations) attributes ≡ true →
      list_any (same_written (declaring d)) (map (given declarations) attributes) ≡ false
  declaration-apart d g attributes h = any-good (is_given declarations) (same_written (declaring d)) (given declarations)
      (λ a q. by a q (same_written (declaring d) (given declarations a)) refl) attributes h
    where
      by : (a : Attribute) → is_given declarations a ≡ true → (t : Bool) → same_written (declaring d) (given declarations a) ≡ t → t ≡ false
      by a q false e = refl
      by a q true e =
          let is = bytes-same (encode_utf8_all (declaring_name d.prefix)) (encode_utf8_all (attribute_name declarations a.name)) e in
          absurd (none-some (encode_utf8_all d.prefix) (sym (given-declares_not a q) ∙
          (ap declared_prefix (sym is) ∙ declaring-declares d.prefix (declarable-parts d g).0)))

  pub tag-apart : (own : List Declaration) (attributes : List Attribute) → list_all is_declarable own ≡ true →
      list_all (is_given declarations) attributes ≡ true
      → has_twice (λ (a b : Declaration). bytes_eq a.prefix b.prefix) own ≡ false → has_twice (λ (a b : Attribute). same_name a.name b.name) attributes ≡ false
      → has_twice same_written (tag_attributes declarations own attributes) ≡ false
  tag-apart own attributes g h t u = own-apart own g t (map (given declarations) attributes) (given-apart attributes h u)
      (λ d q. declaration-apart d q attributes h)
