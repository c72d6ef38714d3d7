-- Attributes, one by one.
use Rattle.std.proofs.Common.{◌≡◌, ℕ, ◌+◌, ◌-◌, ◌<◌, Bool, true, false, List, [], ◌∷◌, length, drop, Option, Some, None, refl, sym, ap, ◌∙◌, arith}
use Rattle.std.specs.Prelude.{◌&&◌, ◌||◌, codes, bytes_eq, nat_lt, encode_utf8_all, if◌then◌else◌}
use Rattle.std.specs.List.{list_all}
use Rattle.std.specs.Str.{chars, IsAscii}
use Rattle.std.proofs.lemmas.Bool.{ltb-true}
use Rattle.std.proofs.lemmas.Str.{chars-IsAscii}
use Rattle.std.proofs.lemmas.Str.Ascii.{IsAscii-nil, IsAscii-cons}
use Rattle.std.proofs.lemmas.List.{length-drop}
use Rattle.inv_base.specs.declared.tree.Kind.TheVariants as kinds
use Rattle.inv_base.specs.Tree.{Name}
use Rattle.inv_base.proofs.TextLemmas.{both}
use Rattle.xml_events.specs.Events.{name_at}
use Rattle.node_arena.specs.Document.{Placed, Document, node_at}
use Rattle.rule_library.specs.Asked.{Given, given_at, is_schematron, is_plain, value_of, Asked, stays, root_of, inside_of, bad, is_good, root_by, inside_by}
use Rattle.rule_library.specs.Asked.{included, extended, takes_roots, takes_insides, asked}
use Rattle.rule_library.specs.Turns.{from}
use Rattle.rule_library.specs.Requests.{IsGiven}
use Rattle.rule_library.specs.declared.asking.Given.{Given as Attribute}
use Rattle.rule_library.proofs.NodeLemmas.{from_node}

given-one : (names : List Name) (node : Placed) (nodes : List Placed) (name : ℕ) → node.kind ≡ kinds.Attribute → node.name ≡ Some name
    → given_at names (node ∷ nodes) ≡ record { name = name_at names name; value = node.text } ∷ given_at names nodes
given-one names node nodes name k e = rw k (rw e refl)

given-unnamed : (names : List Name) (node : Placed) (nodes : List Placed) → node.kind ≡ kinds.Attribute → node.name ≡ None → given_at names (node ∷ nodes) ≡ []
given-unnamed names node nodes k e = rw k (rw e refl)

given-document : (names : List Name) (node : Placed) (nodes : List Placed) → node.kind ≡ kinds.Document → given_at names (node ∷ nodes) ≡ []
given-document names node nodes k = rw k refl

given-element : (names : List Name) (node : Placed) (nodes : List Placed) → node.kind ≡ kinds.Element → given_at names (node ∷ nodes) ≡ []
given-element names node nodes k = rw k refl

given-text : (names : List Name) (node : Placed) (nodes : List Placed) → node.kind ≡ kinds.Text → given_at names (node ∷ nodes) ≡ []
given-text names node nodes k = rw k refl

pub is_given : (document : Document) (n name : ℕ) → n < length document.nodes → name < length document.names → (node_at document.nodes n).kind ≡ kinds.Attribute
    → (node_at document.nodes n).name ≡ Some name
    → IsGiven document (Some n) (record { node = n; name = name })
is_given document n name within named k e = record {
  here = refl;
  node = within;
  name = named;
  is = ap (given_at document.names) (from_node document.nodes n within) ∙
      given-one document.names (node_at document.nodes n) (drop (n + 1) document.nodes) name k e;
}

pub none_given-unnamed : (document : Document) (n : ℕ) → n < length document.nodes → (node_at document.nodes n).kind ≡ kinds.Attribute →
    (node_at document.nodes n).name ≡ None
    → given_at document.names (drop n document.nodes) ≡ []
none_given-unnamed document n within k e = ap (given_at document.names) (from_node document.nodes n within) ∙
    given-unnamed document.names (node_at document.nodes n) (drop (n + 1) document.nodes) k e

pub none_given-document : (document : Document) (n : ℕ) → n < length document.nodes → (node_at document.nodes n).kind ≡ kinds.Document →
    given_at document.names (drop n document.nodes) ≡ []
none_given-document document n within k = ap (given_at document.names) (from_node document.nodes n within) ∙
    given-document document.names (node_at document.nodes n) (drop (n + 1) document.nodes) k

pub none_given-element : (document : Document) (n : ℕ) → n < length document.nodes → (node_at document.nodes n).kind ≡ kinds.Element →
    given_at document.names (drop n document.nodes) ≡ []
none_given-element document n within k = ap (given_at document.names) (from_node document.nodes n within) ∙
    given-element document.names (node_at document.nodes n) (drop (n + 1) document.nodes) k

pub none_given-text : (document : Document) (n : ℕ) → n < length document.nodes → (node_at document.nodes n).kind ≡ kinds.Text →
    given_at document.names (drop n document.nodes) ≡ []
none_given-text document n within k = ap (given_at document.names) (from_node document.nodes n within) ∙
    given-text document.names (node_at document.nodes n) (drop (n + 1) document.nodes) k

pub value-passed : (local : List ℕ) (given : Given) (others : List Given) → is_plain local given ≡ false →
    value_of local (given ∷ others) ≡ value_of local others
value-passed local given others e = rw e refl

pub value-found : (local : List ℕ) (given : Given) (others : List Given) → is_plain local given ≡ true → value_of local (given ∷ others) ≡ Some given.value
value-found local given others e = rw e refl

-- fewer nodes are left behind an attribute
pub fewer_left : (document : Document) (at next : Option ℕ) (given : Attribute) → IsGiven document at given →
    from next document.nodes ≡ drop (given.node + 1) document.nodes
    → length (from next document.nodes) < length (from at document.nodes)
fewer_left document at next given is rest =
    let before : length (from at document.nodes) ≡ length document.nodes - given.node = ap (λ a. length (from a document.nodes)) is.here ∙
    length-drop given.node document.nodes in
    let behind : length (from next document.nodes) ≡ length document.nodes - (given.node + 1) = ap length rest ∙ length-drop (given.node + 1) document.nodes in
    omega (arith, is.node)

-- ---- names beside literals

ascii : (bytes : List ℕ) → list_all (λ b. nat_lt b 128) bytes ≡ true → IsAscii bytes
ascii [] e = IsAscii-nil
ascii (b ∷ bytes) e = let parts = both (nat_lt b 128) (list_all (λ b. nat_lt b 128) bytes) e in
    IsAscii-cons b bytes (ltb-true b 128 parts.0) (ascii bytes parts.1)

-- a literal's characters
pub literal : (bytes : List ℕ) → list_all (λ b. nat_lt b 128) bytes ≡ true → chars bytes ≡ bytes
literal bytes h = chars-IsAscii bytes (ascii bytes h)

-- A name's local part is compared where its URI is the one that is sought.
pub compared : (first second : Bool) (text code uri wanted other local sought : List ℕ) → first ≡ bytes_eq text code → first ≡ true → text ≡ uri → code ≡ wanted
    → second ≡ bytes_eq other sought → other ≡ local → second ≡ (bytes_eq uri wanted && bytes_eq local sought)
compared first second text code uri wanted other local sought e is u w f l =
    f ∙ (ap (λ x. bytes_eq x sought) l ∙ ap (λ b. b && bytes_eq local sought) (sym is ∙ (e ∙ (λ i. bytes_eq (u i) (w i)))))

-- It isn't, where the URI is another.
pub other_uri : (first : Bool) (text code uri wanted local sought : List ℕ) → first ≡ bytes_eq text code → first ≡ false → text ≡ uri → code ≡ wanted
    → first ≡ (bytes_eq uri wanted && bytes_eq local sought)
other_uri first text code uri wanted local sought e is u w = is ∙ ap (λ b. b && bytes_eq local sought) (sym is ∙ (e ∙ (λ i. bytes_eq (u i) (w i))))

or_assoc : (a b c : Bool) → ((a || b) || c) ≡ (a || (b || c))
or_assoc true b c = refl
or_assoc false b c = refl

pub one_of_three : (a b c x y z : Bool) → a ≡ x → b ≡ y → c ≡ z → ((a || b) || c) ≡ (x || (y || z))
one_of_three a b c x y z e f g = (λ i. (e i || f i) || g i) ∙ or_assoc x y z

pub one_of_four : (a b c d x y z u : Bool) → a ≡ x → b ≡ y → c ≡ z → d ≡ u → (((a || b) || c) || d) ≡ (x || (y || (z || u)))
one_of_four a b c d x y z u e f g h = (λ i. ((e i || f i) || g i) || h i) ∙ (or_assoc (x || y) z u ∙ or_assoc x y (z || u))

-- a name compared with one that a literal gives
pub is_named : (r : Bool) (code : List ℕ) (name : Name) → list_all (λ b. nat_lt b 128) code ≡ true → r ≡ is_schematron (chars code) name →
    r ≡ is_schematron code name
is_named r code name plain e = e ∙ ap (λ local. is_schematron local name) (literal code plain)

-- ---- what is asked for

choose : Bool → Bool → Asked → Asked → Asked
choose p q x y = if p then x else (if q then y else stays)

pub asks_root : (parent : Option Name) (name : Name) (given : List Given) (p : Bool) (href : Option (List ℕ)) (r : Asked) → p ≡ true →
    p ≡ (is_schematron (codes "include") name && takes_roots parent)
    → href ≡ value_of (codes "href") given → r ≡ included href → r ≡ asked parent name given
unfolding choose
asks_root parent name given p href r e is h f =
    f ∙ (ap included h ∙ sym (ap (λ b. choose b (is_schematron (codes "extends") name && takes_insides parent) (included (value_of (codes "href") given))
    (extended (value_of (codes "rule") given) (value_of (codes "href") given))) (sym is ∙ e)))

pub asks_inside : (parent : Option Name) (name : Name) (given : List Given) (p q : Bool) (rule href : Option (List ℕ)) (r : Asked) → p ≡ false →
    p ≡ (is_schematron (codes "include") name && takes_roots parent)
    → q ≡ true → q ≡ (is_schematron (codes "extends") name && takes_insides parent)
    → rule ≡ value_of (codes "rule") given → href ≡ value_of (codes "href") given → r ≡ extended rule href → r ≡ asked parent name given
unfolding choose
asks_inside parent name given p q rule href r e is d are k h f =
    f ∙ ((λ i. extended (k i) (h i)) ∙ sym (λ i. choose ((sym is ∙ e) i) ((sym are ∙ d) i) (included (value_of (codes "href") given))
    (extended (value_of (codes "rule") given) (value_of (codes "href") given))))

pub asks_nothing : (parent : Option Name) (name : Name) (given : List Given) (p q : Bool) → p ≡ false →
    p ≡ (is_schematron (codes "include") name && takes_roots parent)
    → q ≡ false → q ≡ (is_schematron (codes "extends") name && takes_insides parent) → stays ≡ asked parent name given
unfolding choose
asks_nothing parent name given p q e is d are =
    sym (λ i. choose ((sym is ∙ e) i) ((sym are ∙ d) i) (included (value_of (codes "href") given))
    (extended (value_of (codes "rule") given) (value_of (codes "href") given)))

-- ---- the name of a file

pub root_good : (href : Option (List ℕ)) (name : List ℕ) → href ≡ Some (chars name) → encode_utf8_all (chars name) ≡ name → is_good name ≡ true →
    root_of name ≡ included href
root_good href name e same good = sym (ap included e ∙ (ap root_by same ∙ ap (λ b. if b then root_of name else bad) good))

pub root_bad : (href : Option (List ℕ)) (name : List ℕ) → href ≡ Some (chars name) → encode_utf8_all (chars name) ≡ name → is_good name ≡ false →
    bad ≡ included href
root_bad href name e same good = sym (ap included e ∙ (ap root_by same ∙ ap (λ b. if b then root_of name else bad) good))

pub inside_good : (rule href : Option (List ℕ)) (name : List ℕ) → rule ≡ None → href ≡ Some (chars name) → encode_utf8_all (chars name) ≡ name →
    is_good name ≡ true
    → inside_of name ≡ extended rule href
inside_good rule href name none e same good =
    sym ((λ i. extended (none i) (e i)) ∙ (ap inside_by same ∙ ap (λ b. if b then inside_of name else bad) good))

pub inside_bad : (rule href : Option (List ℕ)) (name : List ℕ) → rule ≡ None → href ≡ Some (chars name) → encode_utf8_all (chars name) ≡ name →
    is_good name ≡ false
    → bad ≡ extended rule href
inside_bad rule href name none e same good =
    sym ((λ i. extended (none i) (e i)) ∙ (ap inside_by same ∙ ap (λ b. if b then inside_of name else bad) good))
