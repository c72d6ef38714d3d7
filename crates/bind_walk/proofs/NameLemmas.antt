-- The names of namespaces are ASCII, so their bytes are their characters.
use Rattle.std.proofs.Common.{◌≡◌, ℕ, true, List, [], ◌∷◌, Option, refl, ap, ◌∙◌}
use Rattle.std.specs.Prelude.{codes, nat_lt}
use Rattle.std.specs.List.{list_all}
use Rattle.std.specs.Str.{chars, IsAscii}
use Rattle.std.proofs.lemmas.Bool.{ltb-true, and_parts}
use Rattle.std.proofs.lemmas.Str.{chars-IsAscii, chars-nil}
use Rattle.std.proofs.lemmas.Str.Ascii.{IsAscii-nil, IsAscii-cons}
use Rattle.bind_rows.specs.declared.names.Namespace.{Namespace}
use Rattle.bind_rows.specs.declared.names.Namespace.TheVariants as spaces
use Rattle.bind_rows.specs.declared.names.ElementName.{ElementName}
use Rattle.bind_rows.specs.Namespaces.{uri_of}
use Rattle.inv_base.specs.Tree.{Name}
use Rattle.xml_events.specs.Names.{find_name}
use Rattle.node_arena.specs.Document.{Document}
use Rattle.bind_walk.specs.Found.{found_element}

ascii : (bytes : List ℕ) → list_all (λ b. nat_lt b 128) bytes ≡ true → IsAscii bytes
ascii [] e = IsAscii-nil
ascii (b ∷ bytes) e = let parts = and_parts (nat_lt b 128) (list_all (λ b. nat_lt b 128) bytes) e in
    IsAscii-cons b bytes (ltb-true b 128 parts.0) (ascii bytes parts.1)

all_ascii : (space : Namespace) → list_all (λ b. nat_lt b 128) (uri_of space) ≡ true
all_ascii spaces.UblInvoice = refl
all_ascii spaces.UblCreditNote = refl
all_ascii spaces.UblAggregate = refl
all_ascii spaces.UblBasic = refl
all_ascii spaces.CiiInvoice = refl
all_ascii spaces.CiiAggregate = refl
all_ascii spaces.CiiUnqualified = refl
all_ascii spaces.CiiQualified = refl

pub uri-chars : (space : Namespace) → chars (uri_of space) ≡ uri_of space
uri-chars space = chars-IsAscii (uri_of space) (ascii (uri_of space) (all_ascii space))

pub schema-chars : chars (codes "http://www.w3.org/2001/XMLSchema-instance") ≡ codes "http://www.w3.org/2001/XMLSchema-instance"
schema-chars = chars-IsAscii (codes "http://www.w3.org/2001/XMLSchema-instance") (ascii (codes "http://www.w3.org/2001/XMLSchema-instance") refl)

pub element-found : (d : Document) (name : ElementName) (uri local : List ℕ) (names : List Name) (id : Option ℕ) → uri ≡ uri_of name.namespace
    → chars local ≡ name.local → names ≡ d.names
    → id ≡ find_name (record { uri = chars uri; local = chars local }) names → id ≡ found_element d name
element-found d name uri local names id u l n is =
    let both : List ℕ → List ℕ → Name = λ x y. record { uri = x; local = y } in
    is ∙ (ap (λ x. find_name (both x (chars local)) names) (ap chars u ∙ uri-chars name.namespace)
    ∙ (ap (λ x. find_name (both (uri_of name.namespace) x) names) l ∙ ap (find_name (both (uri_of name.namespace) name.local)) n))

pub attribute-found : (d : Document) (text local : List ℕ) (names : List Name) (id : Option ℕ) → chars local ≡ text → names ≡ d.names
    → id ≡ find_name (record { uri = chars []; local = chars local }) names → id ≡ find_name (record { uri = []; local = text }) d.names
attribute-found d text local names id l n is =
    let both : List ℕ → List ℕ → Name = λ x y. record { uri = x; local = y } in
    is ∙ (ap (λ x. find_name (both x (chars local)) names) chars-nil ∙ (ap (λ x. find_name (both [] x) names) l ∙ ap (find_name (both [] text)) n))
