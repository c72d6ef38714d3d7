-- What stays of the entries of a file, one entry after the other.
use Rattle.std.proofs.Common.{◌≡◌, ℕ, ◌+◌, ◌<◌, ◌≤◌, ◌≢◌, Bool, true, false, List, [], ◌∷◌, ◌++◌, length, take, drop, get_or, Some, None, Result, Ok, Err, IfOk}
use Rattle.std.proofs.Common.{refl, ap, sym, ◌∙◌, subst, arith}
use Rattle.std.specs.Prelude.{◌&&◌, ◌||◌, nat_eq, cond}
use Rattle.std.specs.List.{list_any}
use Rattle.std.specs.Str.{bytes_eq}
use Rattle.std.proofs.lemmas.Bool.{true≢false, false≢true, and_parts}
use Rattle.std.proofs.lemmas.Bool.Decides.{nat_tests}
use Rattle.std.proofs.lemmas.List.{take_more, drop_more, drop_all, map-append}
use Rattle.std.proofs.lemmas.Slice.Eq.{bytes_eq-Decides}
use Rattle.schematron_texts.specs.Replacing.{Parameter, replaced}
use Rattle.schematron_meaning.specs.declared.attribute.Attribute.{Attribute}
use Rattle.schematron_meaning.specs.declared.attribute.Attribute.TheVariants as a
use Rattle.schematron_meaning.specs.Entries.{Entry}
use Rattle.schematron_meaning.specs.Lookup.{attribute}
use Rattle.schematron_entries.specs.declared.entry.Entry.{Entry as Read}
use Rattle.schematron_entries.specs.Seen.{seen_entry, seen_entries}
use Rattle.schematron_faults.specs.declared.texts.Texts.{Texts}
use Rattle.schematron_faults.specs.Staying.{Stays, StaysAt, is_dollar, is_expression, ExpressionsStay, NameStays, Notes, is_changed, AreTexts}
use Rattle.schematron_faults.proofs.EachLemmas.{each-weaker, each-append}
use Rattle.schematron_faults.proofs.StayLemmas.{without_dollar}

-- ---- elements that are noted

itself : (n : ℕ) → nat_eq n n ≡ true
itself n = grind (arith, nat_tests)

pub notes_new : (old new : List ℕ) (n : ℕ) → ((q : ℕ) → list_any (nat_eq q) new ≡ cond (nat_eq n q) true (list_any (nat_eq q) old)) → Notes old new n false
notes_new old new n more = record {
  others = λ m h. by (nat_eq n m) (list_any (nat_eq m) old) (sym (more m) ∙ h);
  itself = λ h. absurd (true≢false (sym (ap (λ (b : Bool). cond b true (list_any (nat_eq n) old)) (itself n)) ∙ (sym (more n) ∙ h)));
}
  where
    by : (b rest : Bool) → cond b true rest ≡ false → rest ≡ false
    by true rest h = absurd (true≢false h)
    by false rest h = h

pub notes_none : (old : List ℕ) (n : ℕ) → Notes old old n true
notes_none old n = record { others = λ m h. h; itself = λ h. refl }

-- ---- one entry more

pub texts_added : (blanks : List Parameter) (old new : Texts) (e : Entry) (stay name_stays : Bool) → Notes old.changed.keys new.changed.keys e.number stay
    → new.names_stay ≡ (old.names_stay && name_stays)
    → (stay ≡ true → ExpressionsStay blanks e) → (name_stays ≡ true → NameStays blanks e) → (es : List Entry) → AreTexts blanks es old → AreTexts blanks
    (es ++ e ∷ []) new
texts_added blanks old new e stay name_stays notes names expressions name es are = record {
  expressions = each-append (λ (x : Entry). is_changed new x.number ≡ false → ExpressionsStay blanks x) es (e ∷ [])
      (each-weaker (λ (x : Entry). is_changed old x.number ≡ false → ExpressionsStay blanks x)
      (λ (x : Entry). is_changed new x.number ≡ false → ExpressionsStay blanks x) es
      (λ x known h. known (notes.others x.number h)) are.expressions)
      ((λ h. expressions (notes.itself h)), tt);
  names = λ h. let both = and_parts old.names_stay name_stays (sym names ∙ h) in each-append (NameStays blanks) es (e ∷ []) (are.names both.0)
      (name both.1, tt);
}

pub no_texts : (blanks : List Parameter) (texts : Texts) → AreTexts blanks [] texts
no_texts blanks texts = record { expressions = tt; names = λ h. tt }

one_more : (entries : List Read) (i : ℕ) (e : Read) → i < length entries → e ≡ get_or entries i e
    → seen_entries (take (i + 1) entries) ≡ seen_entries (take i entries) ++ seen_entry e ∷ []
one_more entries i e l at = ap seen_entries (take_more entries i e l) ∙ (map-append seen_entry (take i entries) (get_or entries i e ∷ []) ∙ ap
    (λ (x : Read). seen_entries (take i entries) ++ seen_entry x ∷ []) (sym at))

pub texts_on : (blanks : List Parameter) (entries : List Read) (i : ℕ) (e : Read) (old new : Texts) → i < length entries → e ≡ get_or entries i e
    → ((es : List Entry) → AreTexts blanks es old → AreTexts blanks (es ++ seen_entry e ∷ []) new) → AreTexts blanks (seen_entries
    (take i entries)) old → AreTexts blanks (seen_entries (take (i + 1) entries)) new
texts_on blanks entries i e old new l at f are = subst (λ (es : List Entry). AreTexts blanks es new) (sym (one_more entries i e l at)) (f (seen_entries
    (take i entries)) are)

-- ---- one entry

none_some : {X : Type 0} (x : X) → None ≡ Some x → ⊥
none_some x h = cc

some_same : {X : Type 0} (x y : X) → Some x ≡ Some y → x ≡ y
some_same x y h = cc

pub four_stay : (blanks : List Parameter) (e : Entry) (context test value select : Bool) → (context ≡ true → StaysAt blanks a.Context e)
    → (test ≡ true → StaysAt blanks a.Test e) → (value ≡ true → StaysAt blanks a.Value e)
    → (select ≡ true → StaysAt blanks a.Select e) → (((context && test) && value) && select) ≡ true → ExpressionsStay blanks e
four_stay blanks e context test value select c t v s h = by
  where
    parts : ((context && test) && value ≡ true) × (select ≡ true)
    parts = and_parts ((context && test) && value) select h

    more : (context && test ≡ true) × (value ≡ true)
    more = and_parts (context && test) value parts.0

    two : (context ≡ true) × (test ≡ true)
    two = and_parts context test more.0

    by : (name : Attribute) → is_expression name ≡ true → StaysAt blanks name e
    by a.Context x = c two.0
    by a.Test x = t two.1
    by a.Value x = v more.1
    by a.Select x = s parts.1
    by _ x = absurd (false≢true x)

pub stays_given : (blanks : List Parameter) (name : Attribute) (e : Entry) (text : List ℕ) → Some text ≡ attribute name e → Stays blanks text
    → StaysAt blanks name e
stays_given blanks which e text g stays = λ other h. let same : text ≡ other = some_same text other (g ∙ h) in subst (Stays blanks) same stays

pub stays_absent : (blanks : List Parameter) (name : Attribute) (e : Entry) → None ≡ attribute name e → StaysAt blanks name e
stays_absent blanks which e g = λ text h. absurd (none_some text (g ∙ h))

pub stays_same : (blanks : List Parameter) (made text : List ℕ) → made ≡ replaced blanks text → bytes_eq made text ≡ true → Stays blanks text
stays_same blanks made text m h = sym m ∙ (bytes_eq-Decides made text).0 h

pub stays_plain : (blanks : List Parameter) (text : List ℕ) (test : Bool) → test ≡ list_any is_dollar text → test ≡ false → Stays blanks text
stays_plain blanks text test d h = without_dollar blanks text (sym d ∙ h)

-- ---- a text, one character after the other

pub dollar_whole : (text : List ℕ) → list_any is_dollar (drop 0 text) ≡ list_any is_dollar text
dollar_whole text = refl

dollar_turn : (text : List ℕ) (n c : ℕ) → (n < length text) × (c ≡ get_or text n c)
    → list_any is_dollar (drop n text) ≡ (is_dollar c || list_any is_dollar (drop (n + 1) text))
dollar_turn text n c h = ap (list_any is_dollar) (drop_more text n c h.0) ∙ ap (λ (x : ℕ). is_dollar x || list_any is_dollar (drop (n + 1) text)) (sym h.1)

pub dollar_found : (text : List ℕ) (n c : ℕ) → (n < length text) × (c ≡ get_or text n c) → c ≡ 36 → list_any is_dollar (drop n text) ≡ list_any is_dollar text
    → true ≡ list_any is_dollar text
dollar_found text n c turn is h = sym (ap (λ (x : ℕ). is_dollar x || list_any is_dollar (drop (n + 1) text)) is) ∙ (sym (dollar_turn text n c turn) ∙ h)

pub dollar_passed : (text : List ℕ) (n m c : ℕ) → (n < length text) × (c ≡ get_or text n c) → c ≢ 36 → m ≡ n + 1
    → list_any is_dollar (drop n text) ≡ list_any is_dollar text → list_any is_dollar (drop m text) ≡ list_any is_dollar text
dollar_passed text n m c turn differs more h = ap (λ (k : ℕ). list_any is_dollar (drop k text)) more
    ∙ (sym (ap (λ (b : Bool). b || list_any is_dollar (drop (n + 1) text)) (other c differs)) ∙ (sym (dollar_turn text n c turn) ∙ h))
  where
    other : (x : ℕ) → x ≢ 36 → is_dollar x ≡ false
    other x differs = grind (arith, nat_tests)

pub dollar_end : (text : List ℕ) (n : ℕ) → length text ≤ n → list_any is_dollar (drop n text) ≡ list_any is_dollar text → false ≡ list_any is_dollar text
dollar_end text n l h = sym (ap (list_any is_dollar) (drop_all n text l)) ∙ h

pub if_ok : {A E : Type 0} (r : Result A E) {P Q : A → Type 0} → ((x : A) → P x → Q x) → IfOk r P → IfOk r Q
if_ok (Ok x) f p = f x p
if_ok (Err e) f p = tt
