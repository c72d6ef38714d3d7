-- Names keep their numbers while further ones are seen.
use Rattle.std.proofs.Common.{◌≡◌, suc, ◌+◌, ◌<◌, Bool, true, false, ◌&&◌, List, [], ◌∷◌, ◌++◌, map, length, refl, sym, ap, ◌∙◌, arith, if◌then◌else◌, subst}
use Rattle.std.proofs.Common.{true≢false}
use Rattle.std.proofs.lemmas.List.{append_assoc, append-nil}
use Rattle.std.proofs.lemmas.Slice.Eq.{bytes_eq-Decides}
use Rattle.inv_base.specs.Tree.{Name, Attribute}
use Rattle.std.specs.Str.{bytes_eq}
use Rattle.inv_base.proofs.TextLemmas.{both}
use Rattle.xml_events.specs.Events.{name_at}
use Rattle.xml_events.specs.Names.{same_name, number_of, with_name}
use Rattle.xml_state.specs.States.{with_names, attribute_event}
use Rattle.xml_events.specs.Documents.{IsNumberOf, TellsAttributes}

-- names, and others behind them
pub record Extends (names more : List Name) : Type 0 where
  pub behind : List Name
  pub is : more ≡ names ++ behind

pub extends-none : (names : List Name) → Extends names names
extends-none names = record { behind = []; is = sym (append-nil names) }

pub extends-more : (a b c : List Name) → Extends a b → Extends b c → Extends a c
extends-more a b c p q = record {
  behind = p.behind ++ q.behind;
  is = q.is ∙ (ap (λ x. x ++ q.behind) p.is ∙ append_assoc a p.behind q.behind);
}

extends-with_name : (names : List Name) (name : Name) → Extends names (with_name names name)
extends-with_name [] name = record { behind = name ∷ []; is = refl }
extends-with_name (n ∷ names) name = by (same_name n name) (extends-with_name names name)
  where
    by : (t : Bool) → Extends names (with_name names name) → Extends (n ∷ names) (if t then n ∷ names else n ∷ with_name names name)
    by true e = extends-none (n ∷ names)
    by false e = record { behind = e.behind; is = ap (λ x. n ∷ x) e.is }

pub extends-with_names : (names more : List Name) → Extends names (with_names names more)
extends-with_names names [] = extends-none names
extends-with_names names (name ∷ more) = extends-more names (with_name names name) _ (extends-with_name names name)
    (extends-with_names (with_name names name) more)

same_name-is : (a b : Name) → same_name a b ≡ true → a ≡ b
same_name-is a b h =
    let parts = both _ _ h in
    let uri : a.uri ≡ b.uri = (bytes_eq-Decides a.uri b.uri).0 parts.0 in
    let local : a.local ≡ b.local = (bytes_eq-Decides a.local b.local).0 parts.1 in
    ap (λ x. let n : Name = record { uri = x; local = a.local } in n) uri ∙ ap (λ x. let n : Name = record { uri = b.uri; local = x } in n) local

pub same_self : (name : Name) → same_name name name ≡ true
same_self name =
    ap (λ t. t && bytes_eq name.local name.local) ((bytes_eq-Decides name.uri name.uri).1 refl) ∙ (bytes_eq-Decides name.local name.local).1 refl

-- The name has a number among the names.
abbrev pub HasName : List Name → Name → Type 0
HasName names name = IsNumberOf names name (number_of name names)

module _ (n name : Name) (names : List Name) where
  -- behind another name
  has-behind : (same_name n name ≡ false → HasName names name) → HasName (n ∷ names) name
  has-behind h = at (same_name n name) refl h
    where
      at : (t : Bool) → same_name n name ≡ t → (t ≡ false → HasName names name) → IsNumberOf (n ∷ names) name (if t then 0 else 1 + number_of name names)
      at true e h = record { within = omega arith; is = same_name-is n name e }
      at false e h =
          let s : suc (number_of name names) ≡ 1 + number_of name names = omega arith in
          let g = h refl in
          record { within = omega (arith, g.within); is = ap (name_at (n ∷ names)) (sym s) ∙ g.is }

  has-tail : same_name n name ≡ false → HasName (n ∷ names) name → HasName names name
  has-tail e h =
      let s : number_of name (n ∷ names) ≡ suc (number_of name names) = ap (λ t. if t then 0 else 1 + number_of name names) e ∙ omega arith in
      record { within = omega (arith, h.within, s); is = ap (name_at (n ∷ names)) (sym s) ∙ h.is }

pub has-with_name : (names : List Name) (name : Name) → HasName (with_name names name) name
has-with_name [] name = has-behind name name [] (λ e. absurd (true≢false (sym (same_self name) ∙ e)))
has-with_name (n ∷ names) name = by (same_name n name) refl (has-with_name names name)
  where
    by : (t : Bool) → same_name n name ≡ t → HasName (with_name names name) name → HasName (if t then n ∷ names else n ∷ with_name names name) name
    by true e h = has-behind n name names (λ f. absurd (true≢false (sym e ∙ f)))
    by false e h = has-behind n name (with_name names name) (λ f. h)

has-append : (a more : List Name) (name : Name) → HasName a name → HasName (a ++ more) name
has-append [] more name h = absurd (omega (arith, h.within))
has-append (n ∷ a) more name h = has-behind n name (a ++ more) (λ e. has-append a more name (has-tail n name a e h))

number-append : (a more : List Name) (name : Name) → number_of name a < length a → number_of name (a ++ more) ≡ number_of name a
number-append [] more name h = absurd (omega arith)
number-append (n ∷ a) more name h = by (same_name n name) h (number-append a more name)
  where
    by : (t : Bool) → (if t then 0 else 1 + number_of name a) < suc (length a) → (number_of name a < length a → number_of name (a ++ more) ≡ number_of name a)
        → (if t then 0 else 1 + number_of name (a ++ more)) ≡ (if t then 0 else 1 + number_of name a)
    by true h rest = refl
    by false h rest = ap (λ k. 1 + k) (rest (omega arith))

-- A name that has a number among the names keeps it among more.
pub has-extends : (a b : List Name) (name : Name) → Extends a b → HasName a name → HasName b name
has-extends a b name e h = subst (λ x. HasName x name) (sym e.is) (has-append a e.behind name h)

pub number-extends : (a b : List Name) (name : Name) → Extends a b → HasName a name → IsNumberOf b name (number_of name a)
number-extends a b name e h =
    subst (λ k. IsNumberOf b name k) (ap (number_of name) e.is ∙ number-append a e.behind name h.within) (has-extends a b name e h)

abbrev pub HaveNames : List Name → List Name → Type 0
HaveNames names [] = Unit {0}
HaveNames names (name ∷ more) = HasName names name × HaveNames names more

pub have-with_names : (names more : List Name) → HaveNames (with_names names more) more
have-with_names names [] = tt
have-with_names names (name ∷ more) = (
  has-extends (with_name names name) _ name (extends-with_names (with_name names name) more) (has-with_name names name),
  have-with_names (with_name names name) more,
)

-- What attributes tell by a table of names is told of them by any longer one.
pub attributes-told : (names final : List Name) (attributes : List Attribute) → Extends names final →
    HaveNames names (map (λ (a : Attribute). a.name) attributes)
    → TellsAttributes final attributes (map (attribute_event names) attributes)
attributes-told names final [] e h = refl
attributes-told names final (a ∷ attributes) e h = (
  number_of a.name names,
  map (attribute_event names) attributes,
  number-extends names final a.name e h.0,
  refl,
  attributes-told names final attributes e h.1,
)
