-- Tags by their parts.
use Rattle.std.proofs.Common.{◌≡◌, ℕ, Bool, true, false, ◌&&◌, ◌==◌, List, [], ◌∷◌, ◌++◌, map, length, drop, refl, sym, ap, ◌∙◌, Option, Some, None, option_map}
use Rattle.std.proofs.Common.{Result, Ok, Err, if◌then◌else◌, subst}
use Rattle.std.specs.Prelude.{codes}
use Rattle.std.specs.Borrow.{Bor}
use Rattle.std.specs.List.{list_all}
use Rattle.std.proofs.lemmas.Str.{chars-nil}
use Rattle.std.proofs.lemmas.List.{append-nil}
use Rattle.inv_base.specs.Characters.{is_white_space}
use Rattle.xml_tokens.specs.declared.kind.XmlKind.{XmlKind}
use Rattle.xml_tokens.specs.declared.kind.XmlKind.TheVariants.{BadMarkup, BadReference}
use Rattle.xml_tokens.specs.Searches.{behind_string}
use Rattle.xml_tokens.specs.WrittenNames.{is_qname, is_ncname, name_at_front}
use Rattle.xml_tokens.specs.Markup as markup
use Rattle.xml_tokens.specs.Tags as tags
use Rattle.xml_tokens.specs.Seen.{seen_attribute}
use Rattle.xml_tokens.specs.Told.{Tells, tells_token, tells_kind, AreAttributes, with_all, without_attributes}
use Rattle.xml_tokens.specs.declared.token.Token.{Token}
use Rattle.xml_tokens.specs.declared.token.Token.TheVariants.{StartTag, EndTag}
use Rattle.xml_tokens.specs.declared.tags.Attributes.{Attributes}
use Rattle.xml_tokens.proofs.AttributeLemmas.{inside-last}

-- An end tag.
pub tells-end : (inside : List ℕ) (name : Bor (List ℕ)) (behind : List ℕ) → name.now ≡ name_at_front inside →
    behind ≡ drop (length (name_at_front inside)) inside → (is_qname name.now && list_all is_white_space behind) ≡ true →
    Tells (Ok (EndTag name)) (tags.end_tag inside)
unfolding tags.end_tag
tells-end inside name behind e f h =
    let right : (is_qname (name_at_front inside) && list_all is_white_space (drop (length (name_at_front inside)) inside)) ≡ true =
    ap (λ x. is_qname x && list_all is_white_space (drop (length (name_at_front inside)) inside)) (sym e) ∙
    (ap (λ x. is_qname name.now && list_all is_white_space x) (sym f) ∙ h) in
    subst (λ t. Tells (Ok (EndTag name)) (markup.if_right t (markup.an_end_tag (name_at_front inside)) BadMarkup)) (sym right)
    (subst (λ x. Tells (Ok (EndTag name)) (Ok (markup.an_end_tag x))) e (tells_token (EndTag name)))

pub tells-no-end : (inside name behind : List ℕ) → name ≡ name_at_front inside → behind ≡ drop (length (name_at_front inside)) inside →
    (is_qname name && list_all is_white_space behind) ≡ false → Tells (Err BadMarkup) (tags.end_tag inside)
unfolding tags.end_tag
tells-no-end inside name behind e f h =
    let wrong : (is_qname (name_at_front inside) && list_all is_white_space (drop (length (name_at_front inside)) inside)) ≡ false =
    ap (λ x. is_qname x && list_all is_white_space (drop (length (name_at_front inside)) inside)) (sym e) ∙
    (ap (λ x. is_qname name && list_all is_white_space x) (sym f) ∙ h) in
    subst (λ t. Tells (Err BadMarkup) (markup.if_right t (markup.an_end_tag (name_at_front inside)) BadMarkup)) (sym wrong) (tells_kind BadMarkup)

-- A start tag.
abbrev pub started : Bool → List ℕ → Option tags.Inside → Result markup.Token XmlKind
started t name x = elim t [ false ↦ Err BadMarkup | true ↦ elim x [ None ↦ Err BadMarkup | (Some inside) ↦ tags.tag_with name inside ] ]

pub tells-no-name : (inside name : List ℕ) → name ≡ name_at_front inside → is_qname name ≡ false → Tells (Err BadMarkup) (tags.start_tag inside)
unfolding tags.start_tag
tells-no-name inside name e h =
    subst (λ t. Tells (Err BadMarkup) (started t (name_at_front inside) (tags.tag_inside 0 (drop (length (name_at_front inside)) inside))))
    (sym (ap (λ x. is_qname x) (sym e) ∙ h)) (tells_kind BadMarkup)

-- by the name and what stands behind it
tells-started : (inside name behind : List ℕ) (x : Option tags.Inside) (r : Result Token XmlKind) → name ≡ name_at_front inside →
    behind ≡ drop (length (name_at_front inside)) inside → is_qname name ≡ true → tags.tag_inside 0 behind ≡ x
    → Tells r (started true name x) → Tells r (tags.start_tag inside)
unfolding tags.start_tag
tells-started inside name behind x r e f h g told =
    subst (λ t. Tells r (started t (name_at_front inside) (tags.tag_inside 0 (drop (length (name_at_front inside)) inside))))
    (sym (ap (λ y. is_qname y) (sym e) ∙ h))
    (subst (λ y. Tells r (started true (name_at_front inside) (tags.tag_inside 0 y))) f
    (subst (λ y. Tells r (started true (name_at_front inside) y)) (sym g)
    (subst (λ y. Tells r (started true y x)) e told)))

inside-of : (behind : List ℕ) (attributes : Attributes) (x : Option tags.Inside) (are : AreAttributes behind attributes) → x ≡ tags.tag_rest attributes.rest.now
    → tags.tag_inside 0 behind ≡ option_map (with_all are.stand) x
inside-of behind attributes x are e = are.whole ∙ ap (option_map (with_all are.stand)) (inside-last attributes.rest.now are.last ∙ sym e)

pub tells-no-rest : (inside name behind : List ℕ) (attributes : Attributes) → name ≡ name_at_front inside → behind ≡ drop (length (name_at_front inside)) inside
    → is_qname name ≡ true → AreAttributes behind attributes → None ≡ tags.tag_rest attributes.rest.now
    → Tells (Err BadMarkup) (tags.start_tag inside)
tells-no-rest inside name behind attributes e f h are g = tells-started inside name behind None _ e f h (inside-of behind attributes None are g)
    (tells_kind BadMarkup)

-- the attributes with their values
valued : (stand : List tags.Found) (attributes : Attributes) (t : Bool) → attributes.are_right ≡ t →
    tags.with_values stand ≡ (if attributes.are_right then Some (map seen_attribute attributes.found.items) else None)
    → tags.with_values (stand ++ []) ≡ (if t then Some (map seen_attribute attributes.found.items) else None)
valued stand attributes t e f = ap tags.with_values (append-nil stand) ∙ (f ∙ ap (λ u. if u then Some (map seen_attribute attributes.found.items) else None) e)

abbrev with_valued : List ℕ → Bool → Option (List markup.Written) → Result markup.Token XmlKind
with_valued name is_empty x = elim x [
  | None ↦ Err BadReference
  | (Some attributes) ↦ Ok (markup.a_start_tag (record { name = name; attributes = attributes; is_empty = is_empty }))
]

pub tells-bad-reference : (inside name behind : List ℕ) (attributes : Attributes) (is_empty : Bool) → name ≡ name_at_front inside →
    behind ≡ drop (length (name_at_front inside)) inside → is_qname name ≡ true → AreAttributes behind attributes
    → Some (without_attributes is_empty) ≡ tags.tag_rest attributes.rest.now → attributes.are_right ≡ false → Tells (Err BadReference) (tags.start_tag inside)
tells-bad-reference inside name behind attributes is_empty e f h are g r =
    tells-started inside name behind (Some (with_all are.stand (without_attributes is_empty))) _ e f h
    (inside-of behind attributes (Some (without_attributes is_empty)) are g)
    (subst (λ x. Tells (Err BadReference) (with_valued name is_empty x)) (sym (valued are.stand attributes false r are.values)) (tells_kind BadReference))

pub tells-start : (inside : List ℕ) (name : Bor (List ℕ)) (behind : List ℕ) (attributes : Attributes) (is_empty : Bool) → name.now ≡ name_at_front inside →
    behind ≡ drop (length (name_at_front inside)) inside → is_qname name.now ≡ true → AreAttributes behind attributes
    → Some (without_attributes is_empty) ≡ tags.tag_rest attributes.rest.now → attributes.are_right ≡ true →
    Tells (Ok (StartTag (record { name = name; attributes = attributes.found; is_empty = is_empty }))) (tags.start_tag inside)
tells-start inside name behind attributes is_empty e f h are g r =
    tells-started inside name.now behind (Some (with_all are.stand (without_attributes is_empty))) _ e f h
    (inside-of behind attributes (Some (without_attributes is_empty)) are g)
    (subst (λ x. Tells (Ok (StartTag (record { name = name; attributes = attributes.found; is_empty = is_empty }))) (with_valued name.now is_empty x))
    (sym (valued are.stand attributes true r are.values))
    (tells_token (StartTag (record { name = name; attributes = attributes.found; is_empty = is_empty }))))

-- A tag of either kind.
pub no-name : is_qname [] ≡ false
unfolding is_qname
no-name = ap is_ncname chars-nil

tag-nothing : tags.start_tag [] ≡ Err BadMarkup
unfolding tags.start_tag
tag-nothing = ap (λ t. started t [] (tags.tag_inside 0 [])) no-name

no-slash : (t : Bool) (bytes : List ℕ) → None ≡ (if t then Some bytes else None) → t ≡ false
no-slash false bytes e = refl
no-slash true bytes e = cc

pub start-tag : (bytes : List ℕ) → None ≡ behind_string (codes "/") bytes → tags.start_tag bytes ≡ tags.tag bytes
start-tag [] e = tag-nothing
start-tag (b ∷ bytes) e = sym (ap (λ t. elim t [ true ↦ tags.end_tag bytes | false ↦ tags.start_tag (b ∷ bytes) ])
    (first (b == 0x2F) (no-slash (b == 0x2F && true) bytes e)))
  where
    first : (t : Bool) → (t && true) ≡ false → t ≡ false
    first true e = e
    first false e = refl

pub end-tag : (bytes rest : List ℕ) → Some rest ≡ behind_string (codes "/") bytes → tags.end_tag rest ≡ tags.tag bytes
end-tag [] rest e = cc
end-tag (b ∷ bytes) rest e = by (b == 0x2F) e
  where
    by : (t : Bool) → Some rest ≡ (if t && true then Some bytes else None) →
        tags.end_tag rest ≡ elim t [ true ↦ tags.end_tag bytes | false ↦ tags.start_tag (b ∷ bytes) ]
    by true e = let same : rest ≡ bytes = cc in ap tags.end_tag same
    by false e = cc
