-- Texts with no tag but those of the page, put together.
use Rattle.std.proofs.Common.{◌≡◌, ℕ, Bool, true, false, ◌&&◌, ◌||◌, List, [], ◌∷◌, ◌++◌, refl, ap, sym, subst, ◌∙◌, zero, suc, ◌+◌, length, append_assoc}
use Rattle.std.proofs.Common.{inl, inr, arith}
use Rattle.std.specs.Prelude.{◌==◌, not, Option, Some, None, is_some, slice_get, codes, if◌then◌else◌}
use Rattle.std.specs.List.{flat_map}
use Rattle.std.proofs.lemmas.Bool.{and_parts, and_from, or_left, or_right, eq-eqb, ne_eqb, eqb-false, or_cases}
use Rattle.std.proofs.lemmas.List.{length-append}
use Rattle.std.proofs.lemmas.List.Folds.{list_all-append}
use Rattle.term_table.specs.declared.contexts.Seat.{Seat}
use Rattle.page_laws.specs.Tags.{Tag, is_bare, are_bare, behind, behind_value, begins, begins_one, each_begins_one, section_tag, paragraph_tag, value_tag}
use Rattle.page_laws.specs.Tags.{saved_tag, tags, has_tags_alone, begins_value, values_in}

-- ---- what begins a text begins a longer one

pub behind-more : (piece text rest more : List ℕ) → behind piece text ≡ Some rest → behind piece (text ++ more) ≡ Some (rest ++ more)
behind-more [] text rest more h = cc
behind-more (c ∷ piece) [] rest more h = cc
behind-more (c ∷ piece) (d ∷ text) rest more h = by (c == d) (behind-more piece text rest more) h
  where
    by : (q : Bool) → (behind piece text ≡ Some rest → behind piece (text ++ more) ≡ Some (rest ++ more))
        → elim q [ true ↦ behind piece text | false ↦ None ] ≡ Some rest
        → elim q [ true ↦ behind piece (text ++ more) | false ↦ None ] ≡ Some (rest ++ more)
    by true next e = next e
    by false next e = cc

pub value-more : (text rest more : List ℕ) → behind_value text ≡ Some rest → behind_value (text ++ more) ≡ Some (rest ++ more)
value-more [] rest more h = cc
value-more (c ∷ text) rest more h = by (is_bare c) (value-more text rest more) h
  where
    by : (q : Bool) → (behind_value text ≡ Some rest → behind_value (text ++ more) ≡ Some (rest ++ more))
        → elim q [ true ↦ behind_value text | false ↦ Some (c ∷ text) ] ≡ Some rest
        → elim q [ true ↦ behind_value (text ++ more) | false ↦ Some (c ∷ (text ++ more)) ] ≡ Some (rest ++ more)
    by true next e = next e
    by false next e = cc

begins-more : (tag : Tag) (text more : List ℕ) → begins tag text ≡ true → begins tag (text ++ more) ≡ true
begins-more [] text more h = refl
begins-more (piece ∷ []) text more h = by (behind piece text) refl h
  where
    by : (o : Option (List ℕ)) → behind piece text ≡ o → is_some o ≡ true → is_some (behind piece (text ++ more)) ≡ true
    by None e k = cc
    by (Some rest) e k = ap is_some (behind-more piece text rest more e)
begins-more (piece ∷ next ∷ pieces) text more h = by (behind piece text) refl (λ rest. begins-more (next ∷ pieces) rest more) h
  where
    Goes : Option (List ℕ) → Bool
    Goes o = elim o [ None ↦ false | Some value ↦ elim (behind_value value) [ None ↦ false | Some rest ↦ begins (next ∷ pieces) rest ] ]

    Ends : Option (List ℕ) → Bool
    Ends o = elim o [ None ↦ false | Some rest ↦ begins (next ∷ pieces) rest ]

    On : Type 0
    On = (rest : List ℕ) → begins (next ∷ pieces) rest ≡ true → begins (next ∷ pieces) (rest ++ more) ≡ true

    value : (v : List ℕ) (o : Option (List ℕ)) → behind_value v ≡ o → On → Ends o ≡ true → Ends (behind_value (v ++ more)) ≡ true
    value v None e on k = cc
    value v (Some rest) e on k = ap Ends (value-more v rest more e) ∙ on rest k

    by : (o : Option (List ℕ)) → behind piece text ≡ o → On → Goes o ≡ true → Goes (behind piece (text ++ more)) ≡ true
    by None e on k = cc
    by (Some v) e on k = ap Goes (behind-more piece text v more e) ∙ value v (behind_value v) refl on k

any-more : (tags : List Tag) (text more : List ℕ) → begins_one tags text ≡ true → begins_one tags (text ++ more) ≡ true
any-more [] text more h = h
any-more (tag ∷ tags) text more h = elim (or_cases (begins tag text) (begins_one tags text) h) [
  | inl here ↦ or_left (begins tag (text ++ more)) _ (begins-more tag text more here)
  | inr there ↦ or_right (begins tag (text ++ more)) _ (any-more tags text more there)
]

any-at : (tags : List Tag) (k : ℕ) (tag : Tag) (text : List ℕ) → slice_get tags k ≡ Some tag → begins tag text ≡ true → begins_one tags text ≡ true
any-at [] k tag text e h = cc
any-at (t ∷ tags) zero tag text e h = or_left (begins t text) _ cc
any-at (t ∷ tags) (suc k) tag text e h = or_right (begins t text) _ (any-at tags k tag text e h)

-- ---- texts in a row, in which a byte begins one of some tags

module _ (mark : ℕ) (tags : List Tag) where
  abbrev pub Each : List ℕ → Type 0
  Each text = each_begins_one mark tags text ≡ true

  pub each-nothing : Each []
  unfolding each_begins_one
  each-nothing = refl

  pub each-then : (a b : List ℕ) → Each a → Each b → Each (a ++ b)
  unfolding each_begins_one
  each-then [] b h k = k
  each-then (c ∷ a) b h k = by (c == mark) (λ rest. each-then a b rest k) h
    where
      by : (q : Bool) → (Each a → Each (a ++ b))
          → elim q [ true ↦ begins_one tags (c ∷ a) && each_begins_one mark tags a | false ↦ each_begins_one mark tags a ] ≡ true
          → elim q [ true ↦ begins_one tags (c ∷ (a ++ b)) && each_begins_one mark tags (a ++ b) | false ↦ each_begins_one mark tags (a ++ b) ] ≡ true
      by true next e =
          let parts = and_parts (begins_one tags (c ∷ a)) (each_begins_one mark tags a) e in
          and_from _ _ (any-more tags (c ∷ a) b parts.0) (next parts.1)
      by false next e = next e

  -- a byte that isn't the mark
  pub each-other : (c : ℕ) (text : List ℕ) → (c == mark) ≡ false → Each text → Each (c ∷ text)
  unfolding each_begins_one
  each-other c text h k =
      ap (λ q. elim q [ true ↦ begins_one tags (c ∷ text) && each_begins_one mark tags text | false ↦ each_begins_one mark tags text ]) h ∙ k

  -- the mark, where a tag begins
  pub each-tag : (c : ℕ) (text : List ℕ) → begins_one tags (c ∷ text) ≡ true → Each text → Each (c ∷ text)
  unfolding each_begins_one
  each-tag c text h k = by (c == mark)
    where
      by : (q : Bool) → elim q [ true ↦ begins_one tags (c ∷ text) && each_begins_one mark tags text | false ↦ each_begins_one mark tags text ] ≡ true
      by true = and_from _ _ h k
      by false = k

-- ---- bare texts

not-open : (quote less more : Bool) → not (quote || (less || more)) ≡ true → less ≡ false
not-open true less more h = cc
not-open false true more h = cc
not-open false false more h = refl

-- a value goes up to the quote behind it
pub value-ends : (value rest : List ℕ) → are_bare value ≡ true → behind_value (value ++ 0x22 ∷ rest) ≡ Some (0x22 ∷ rest)
value-ends [] rest h = refl
value-ends (c ∷ value) rest h =
    let parts = and_parts (is_bare c) (are_bare value) h in
    ap (λ q. elim q [ true ↦ behind_value (value ++ 0x22 ∷ rest) | false ↦ Some (c ∷ (value ++ 0x22 ∷ rest)) ]) parts.0 ∙ value-ends value rest parts.1

behind-itself : (piece rest : List ℕ) → behind piece (piece ++ rest) ≡ Some rest
behind-itself [] rest = refl
behind-itself (c ∷ piece) rest =
    ap (λ q. elim q [ true ↦ behind piece (piece ++ rest) | false ↦ None ]) (eq-eqb c c refl) ∙ behind-itself piece rest

-- a tag that goes on behind a value
pub begins-value : (piece next : List ℕ) (pieces : Tag) (value rest : List ℕ) → are_bare value ≡ true
    → begins ((0x22 ∷ next) ∷ pieces) (0x22 ∷ rest) ≡ true → begins (piece ∷ (0x22 ∷ next) ∷ pieces) (piece ++ (value ++ 0x22 ∷ rest)) ≡ true
begins-value piece next pieces value rest bare h =
    let Ends : Option (List ℕ) → Bool = λ o. elim o [ None ↦ false | Some more ↦ begins ((0x22 ∷ next) ∷ pieces) more ] in
    ap (λ o. elim o [ None ↦ false | Some v ↦ Ends (behind_value v) ]) (behind-itself piece (value ++ 0x22 ∷ rest))
    ∙ (ap Ends (value-ends value rest bare) ∙ h)

-- ---- texts with no tag but those of the page

pub record Tagged (text : List ℕ) : Type 0 where
  pub alone : has_tags_alone text ≡ true
  -- no value begins in it
  pub none : (rest : List ℕ) → values_in (text ++ rest) ≡ values_in rest

-- a text as it stands
pub known : (text : List ℕ) → has_tags_alone text ≡ true → ((rest : List ℕ) → values_in (text ++ rest) ≡ values_in rest) → Tagged text
known text h n = record { alone = h; none = n }

pub Tagged-nil : Tagged []
unfolding has_tags_alone
Tagged-nil = known [] (each-nothing 0x3C tags) (λ rest. refl)

alone-append : (a b : List ℕ) → has_tags_alone a ≡ true → has_tags_alone b ≡ true → has_tags_alone (a ++ b) ≡ true
unfolding has_tags_alone
alone-append a b h k = each-then 0x3C tags a b h k

pub Tagged-append : (a b : List ℕ) → Tagged a → Tagged b → Tagged (a ++ b)
Tagged-append a b h k =
    known (a ++ b) (alone-append a b h.alone k.alone)
    (λ rest. ap values_in (append_assoc a b rest) ∙ (h.none (b ++ rest) ∙ k.none rest))

pub Tagged-all : {X : Type 0} (f : X → List ℕ) → ((x : X) → Tagged (f x)) → (xs : List X) → Tagged (flat_map f xs)
Tagged-all f each [] = Tagged-nil
Tagged-all f each (x ∷ xs) = Tagged-append (f x) (flat_map f xs) (each x) (Tagged-all f each xs)

pub Tagged-if : (q : Bool) (text : List ℕ) → Tagged text → Tagged (if q then text else [])
Tagged-if true text h = h
Tagged-if false text h = Tagged-nil

bare-alone : (text : List ℕ) → are_bare text ≡ true → has_tags_alone text ≡ true
unfolding has_tags_alone
bare-alone [] h = each-nothing 0x3C tags
bare-alone (c ∷ text) h =
    let parts = and_parts (is_bare c) (are_bare text) h in
    each-other 0x3C tags c text (not-open (c == 0x22) (c == 0x3C) (c == 0x3E) parts.0) (bare-alone text parts.1)

no-value : (c : ℕ) (text : List ℕ) → (c == 0x3C) ≡ false → begins_value (c ∷ text) ≡ false
no-value c text h =
    let other : (0x3C == c) ≡ false = ne_eqb 0x3C c (λ same. eqb-false c 0x3C h (sym same)) in
    ap (λ q. is_some (elim q [ true ↦ behind (codes "bdi ") text | false ↦ None ]) || is_some (elim q [ true ↦ behind (codes "a ") text | false ↦ None ])) other

bare-none : (text : List ℕ) → are_bare text ≡ true → (rest : List ℕ) → values_in (text ++ rest) ≡ values_in rest
unfolding values_in
bare-none [] h rest = refl
bare-none (c ∷ text) h rest =
    let parts = and_parts (is_bare c) (are_bare text) h in
    ap (λ q. elim q [ true ↦ suc (values_in (text ++ rest)) | false ↦ values_in (text ++ rest) ])
    (no-value c (text ++ rest) (not-open (c == 0x22) (c == 0x3C) (c == 0x3E) parts.0)) ∙ bare-none text parts.1 rest

pub Tagged-bare : (text : List ℕ) → are_bare text ≡ true → Tagged text
Tagged-bare text h = known text (bare-alone text h) (bare-none text h)

-- ---- texts in which values begin

-- The text has no tag but those of the page, and as many values begin in it as there are seats.
pub record Shown (text : List ℕ) (seats : List Seat) : Type 0 where
  pub alone : has_tags_alone text ≡ true
  pub count : (rest : List ℕ) → values_in (text ++ rest) ≡ length seats + values_in rest

pub Shown-nil : Shown [] []
Shown-nil = record { alone = Tagged-nil.alone; count = λ rest. omega arith }

pub of-tagged : (text : List ℕ) → Tagged text → Shown text []
of-tagged text h = record { alone = h.alone; count = λ rest. h.none rest ∙ omega arith }

pub Shown-append : (a b : List ℕ) (xs ys : List Seat) → Shown a xs → Shown b ys → Shown (a ++ b) (xs ++ ys)
Shown-append a b xs ys h k = record {
  alone = alone-append a b h.alone k.alone;
  count = λ rest. ap values_in (append_assoc a b rest) ∙ (h.count (b ++ rest) ∙ (ap (λ n. length xs + n) (k.count rest) ∙
      omega (arith, length-append xs ys)));
}

-- the same behind or before a text without values
pub Shown-before : (a b : List ℕ) (ys : List Seat) → Tagged a → Shown b ys → Shown (a ++ b) ys
Shown-before a b ys h k = record {
  alone = alone-append a b h.alone k.alone;
  count = λ rest. ap values_in (append_assoc a b rest) ∙ (h.none (b ++ rest) ∙ k.count rest);
}

pub Shown-after : (a b : List ℕ) (xs : List Seat) → Shown a xs → Tagged b → Shown (a ++ b) xs
Shown-after a b xs h k = record {
  alone = alone-append a b h.alone k.alone;
  count = λ rest. ap values_in (append_assoc a b rest) ∙ (h.count (b ++ rest) ∙ ap (λ n. length xs + n) (k.none rest));
}

pub Shown-all : {X : Type 0} (f : X → List ℕ) (g : X → List Seat) → ((x : X) → Shown (f x) (g x)) → (xs : List X) → Shown (flat_map f xs) (flat_map g xs)
Shown-all f g each [] = Shown-nil
Shown-all f g each (x ∷ xs) = Shown-append (f x) (flat_map f xs) (g x) (flat_map g xs) (each x) (Shown-all f g each xs)

-- ---- tags with values

tag-alone : (k : ℕ) (tag : Tag) (text : List ℕ) → slice_get tags k ≡ Some tag → begins tag (0x3C ∷ text) ≡ true → has_tags_alone text ≡ true
    → has_tags_alone (0x3C ∷ text) ≡ true
unfolding has_tags_alone
tag-alone k tag text e h rest = each-tag 0x3C tags 0x3C text (any-at tags k tag (0x3C ∷ text) e h) rest

-- a tag of the page and what stands in it, where no value begins, and where one does
Tagged-tag : (k : ℕ) (tag : Tag) (text : List ℕ) → slice_get tags k ≡ Some tag → begins tag (0x3C ∷ text) ≡ true → Tagged text
    → ((more : List ℕ) → begins_value (0x3C ∷ (text ++ more)) ≡ false) → Tagged (0x3C ∷ text)
unfolding values_in
Tagged-tag k tag text e h rest other =
    known (0x3C ∷ text) (tag-alone k tag text e h rest.alone)
    (λ more. ap (λ q. elim q [ true ↦ suc (values_in (text ++ more)) | false ↦ values_in (text ++ more) ]) (other more) ∙ rest.none more)

Shown-tag : (k : ℕ) (tag : Tag) (text : List ℕ) (seat : Seat) → slice_get tags k ≡ Some tag → begins tag (0x3C ∷ text) ≡ true → Tagged text
    → ((more : List ℕ) → begins_value (0x3C ∷ (text ++ more)) ≡ true) → Shown (0x3C ∷ text) (seat ∷ [])
unfolding values_in
Shown-tag k tag text seat e h rest one = record {
  alone = tag-alone k tag text e h rest.alone;
  count = λ more. ap (λ q. elim q [ true ↦ suc (values_in (text ++ more)) | false ↦ values_in (text ++ more) ]) (one more) ∙
      (ap suc (rest.none more) ∙ omega arith);
}

-- a value in a tag, what stands before it and what follows it
around : (before value behind : List ℕ) → Tagged before → are_bare value ≡ true → Tagged behind → Tagged (before ++ (value ++ behind))
around before value behind b v h =
    Tagged-append before (value ++ behind) b (Tagged-append value behind (Tagged-bare value v) h)

pub Tagged-section : (class : List ℕ) → are_bare class ≡ true → Tagged (codes "<section class=\"" ++ (class ++ codes "\">\n"))
unfolding has_tags_alone each_begins_one values_in
Tagged-section class h =
    Tagged-tag 0 section_tag _ refl (begins-value (codes "<section class=\"") (codes ">") [] class (codes ">\n") h refl)
    (around (codes "section class=\"") class (codes "\">\n") (known _ refl (λ _. refl)) h (known _ refl (λ _. refl))) (λ _. refl)

pub Tagged-paragraph : (class : List ℕ) → are_bare class ≡ true → Tagged (codes "<p class=\"" ++ (class ++ codes "\">"))
unfolding has_tags_alone each_begins_one values_in
Tagged-paragraph class h =
    Tagged-tag 1 paragraph_tag _ refl (begins-value (codes "<p class=\"") (codes ">") [] class (codes ">") h refl)
    (around (codes "p class=\"") class (codes "\">") (known _ refl (λ _. refl)) h (known _ refl (λ _. refl))) (λ _. refl)

pub Shown-start : (title : List ℕ) (seat : Seat) → are_bare title ≡ true → Shown (codes "<bdi title=\"" ++ (title ++ codes "\">")) (seat ∷ [])
unfolding has_tags_alone each_begins_one values_in
Shown-start title seat h =
    Shown-tag 2 value_tag _ seat refl (begins-value (codes "<bdi title=\"") (codes ">") [] title (codes ">") h refl)
    (around (codes "bdi title=\"") title (codes "\">") (known _ refl (λ _. refl)) h (known _ refl (λ _. refl))) (λ _. refl)

-- what a reader can save, with a link of one piece
module _ (title name link rest : List ℕ) (t : are_bare title ≡ true) (n : are_bare name ≡ true) (l : are_bare link ≡ true) (r : Tagged rest) where
  abbrev behind_name : List ℕ
  behind_name = codes "\" href=\"data:" ++ (link ++ (codes "\">save</a> " ++ rest))

  abbrev behind_title : List ℕ
  behind_title = codes "\" download=\"" ++ (name ++ behind_name)

  behind-title : Tagged behind_title
  unfolding has_tags_alone each_begins_one values_in
  behind-title =
      around (codes "\" download=\"") name behind_name (known _ refl (λ _. refl)) n
      (around (codes "\" href=\"data:") link (codes "\">save</a> " ++ rest) (known _ refl (λ _. refl)) l
      (Tagged-append (codes "\">save</a> ") rest (known _ refl (λ _. refl)) r))

  begins-saved : begins saved_tag (codes "<a title=\"" ++ (title ++ behind_title)) ≡ true
  begins-saved =
      begins-value (codes "<a title=\"") (codes " download=\"") (codes "\" href=\"data:" ∷ codes "\">" ∷ []) title
      (codes " download=\"" ++ (name ++ behind_name)) t
      (begins-value (codes "\" download=\"") (codes " href=\"data:") (codes "\">" ∷ []) name
      (codes " href=\"data:" ++ (link ++ (codes "\">save</a> " ++ rest))) n
      (begins-value (codes "\" href=\"data:") (codes ">") [] link (codes ">save</a> " ++ rest) l refl))

  saved-link : (seat : Seat) → Shown (codes "<a title=\"" ++ (title ++ behind_title)) (seat ∷ [])
  unfolding has_tags_alone each_begins_one values_in
  saved-link seat =
      Shown-tag 3 saved_tag _ seat refl begins-saved (around (codes "a title=\"") title behind_title (known _ refl (λ _. refl)) t behind-title) (λ _. refl)

-- the same with its type and its text
module _ (title name type text rest : List ℕ) where
  regrouped : (type ++ (codes ";base64," ++ text)) ++ (codes "\">save</a> " ++ rest) ≡ type ++ (codes ";base64," ++ (text ++ (codes "\">save</a> " ++ rest)))
  regrouped =
      append_assoc type (codes ";base64," ++ text) (codes "\">save</a> " ++ rest)
      ∙ ap (λ z. type ++ z) (append_assoc (codes ";base64,") text (codes "\">save</a> " ++ rest))

  pub Shown-saved : (seat : Seat) → are_bare title ≡ true → are_bare name ≡ true → are_bare type ≡ true → are_bare text ≡ true → Tagged rest
      → Shown (codes "<a title=\"" ++ (title ++ (codes "\" download=\"" ++ (name ++ (codes "\" href=\"data:" ++ (type ++ (codes ";base64,"
      ++ (text ++ (codes "\">save</a> " ++ rest))))))))) (seat ∷ [])
  Shown-saved seat t n y x r =
      let link : are_bare (type ++ (codes ";base64," ++ text)) ≡ true =
      list_all-append is_bare type _ ∙ and_from _ _ y (list_all-append is_bare (codes ";base64,") text ∙ and_from _ _ refl x) in
      subst (λ z. Shown (codes "<a title=\"" ++ (title ++ (codes "\" download=\"" ++ (name ++ (codes "\" href=\"data:" ++ z))))) (seat ∷ [])) regrouped
      (saved-link title name (type ++ (codes ";base64," ++ text)) rest t n link r seat)
