-- What is told behind a state: the rest of each open element, and the root where it is still to come.
use Rattle.std.proofs.Common.{◌≡◌, ℕ, suc, ◌+◌, Bool, true, false, not, ◌&&◌, ◌||◌, ◌==◌, List, [], ◌∷◌, ◌++◌, length, refl, sym, ap, ◌∙◌, arith, if◌then◌else◌}
use Rattle.std.proofs.Common.{subst, true≢false}
use Rattle.std.proofs.lemmas.List.{append_assoc}
use Rattle.std.proofs.lemmas.Bool.Decides.{nat_tests}
use Rattle.inv_base.specs.Tree.{Name, Attribute, Forest, no_more, a_text, an_element, begins_with_text, is_joined, IsDocument, size}
use Rattle.inv_base.proofs.TextLemmas.{both}
use Rattle.xml_events.specs.Events.{Event, starts, has_attribute, has_text, ends}
use Rattle.xml_state.specs.States.{Open}
use Rattle.xml_events.specs.Documents.{IsNumberOf, Tells, TellsAttributes}
use Rattle.xml_laws.proofs.JoinLemmas.{before}

-- The events begin with a text.
abbrev pub begins_text : List Event → Bool
begins_text [] = false
begins_text (starts n p ∷ events) = false
begins_text (has_attribute n v ∷ events) = false
begins_text (has_text t p ∷ events) = true
begins_text (ends ∷ events) = false

-- Events of so many nodes end an open element, and others go on behind it.
pub record Inside (names : List Name) (P : List Event → ℕ → Type 0) (events : List Event) (count : ℕ) : Type 0 where
  pub forest : Forest
  pub first : List Event
  pub more : List Event
  pub others : ℕ
  pub joined : is_joined forest ≡ true
  pub tells : Tells names forest first
  pub is : events ≡ first ++ (ends ∷ more)
  pub behind : P more others
  pub counted : count ≡ size forest + others

-- Events of so many nodes tell a document.
pub record IsRoot (names : List Name) (events : List Event) (count : ℕ) : Type 0 where
  pub tree : Forest
  pub document : IsDocument tree
  pub tells : Tells names tree events
  pub counted : count ≡ size tree

pub record IsNothing (events : List Event) (count : ℕ) : Type 0 where
  pub is : events ≡ []
  pub counted : count ≡ 0

-- the rest behind open elements, where the root was seen or not
abbrev pub Rest : List Name → List Open → Bool → List Event → ℕ → Type 0
Rest names [] true events count = IsNothing events count
Rest names [] false events count = IsRoot names events count
Rest names (o ∷ outer) seen events count = Inside names (Rest names outer seen) events count

-- One more node, unless the events begin with a text.
abbrev pub new_text : List Event → ℕ
new_text events = if begins_text events then 0 else 1

pub not_none : (n : ℕ) → (suc n == 0) ≡ false
not_none n = grind (arith, nat_tests)

some-append : (t u : List ℕ) → (length t == 0) ≡ false → not (length (t ++ u) == 0) ≡ true
some-append [] u h = cc
some-append (c ∷ t) u h = ap not (not_none (length (t ++ u)))

module _ (names : List Name) (P : List Event → ℕ → Type 0) (t : List ℕ) (place : ℕ) (some : (length t == 0) ≡ false) where
  -- a text before the rest of an element
  pub text-inside : (events : List Event) (count : ℕ) → Inside names P events count →
      Inside names P (before (has_text t place) events) (count + new_text events)
  text-inside events count r =
      subst (λ x. Inside names P (before (has_text t place) x) (count + new_text x)) (sym r.is) (by r.forest r.first r.joined r.tells r.counted)
    where
      by : (f : Forest) (first : List Event) → is_joined f ≡ true → Tells names f first → count ≡ size f + r.others
          → Inside names P (before (has_text t place) (first ++ (ends ∷ r.more))) (count + new_text (first ++ (ends ∷ r.more)))
      by no_more first joined told counted =
          subst (λ x. Inside names P (before (has_text t place) (x ++ (ends ∷ r.more))) (count + new_text (x ++ (ends ∷ r.more)))) (sym told)
          (record {
            forest = a_text t no_more;
            first = has_text t place ∷ [];
            more = r.more;
            others = r.others;
            joined = ap (λ b. not b && true) some;
            tells = (place, [], refl, refl);
            is = refl;
            behind = r.behind;
            counted = omega arith;
          })
      by (a_text u f) first joined told counted =
          subst (λ x. Inside names P (before (has_text t place) (x ++ (ends ∷ r.more))) (count + new_text (x ++ (ends ∷ r.more)))) (sym told.2)
          (record {
            forest = a_text (t ++ u) f;
            first = has_text (t ++ u) place ∷ told.1;
            more = r.more;
            others = r.others;
            joined = ap (λ b. b && (not (begins_with_text f) && is_joined f)) (some-append t u some) ∙ (both _ _ joined).1;
            tells = (place, told.1, refl, told.3);
            is = refl;
            behind = r.behind;
            counted = omega arith;
          })
      by (an_element name attributes inside f) first joined told counted =
          subst (λ x. Inside names P (before (has_text t place) (x ++ (ends ∷ r.more))) (count + new_text (x ++ (ends ∷ r.more)))) (sym told.6)
          (record {
            forest = a_text t (an_element name attributes inside f);
            first = has_text t place ∷ (starts told.0 told.1 ∷ (told.2 ++ (told.3 ++ (ends ∷ told.4))));
            more = r.more;
            others = r.others;
            joined = ap (λ b. not b && (is_joined inside && is_joined f)) some ∙ joined;
            tells = (
              place,
              starts told.0 told.1 ∷ (told.2 ++ (told.3 ++ (ends ∷ told.4))),
              refl,
              (told.0, told.1, told.2, told.3, told.4, told.5, refl, told.7, told.8, told.9),
            );
            is = refl;
            behind = r.behind;
            counted = omega arith;
          })

-- the end of an element before the rest of those around it
pub end-rest : (names : List Name) (P : List Event → ℕ → Type 0) (events : List Event) (count : ℕ) → P events count → Inside names P (ends ∷ events) count
end-rest names P events count h = record {
  forest = no_more;
  first = [];
  more = events;
  others = count;
  joined = refl;
  tells = refl;
  is = refl;
  behind = h;
  counted = omega arith;
}

-- a start tag before the rest of its element
module _ (names : List Name) (name : Name) (number place : ℕ) (attributes : List Attribute) (told : List Event)
    (numbered : IsNumberOf names name number) (given : TellsAttributes names attributes told) where
  start-root : (events : List Event) (count : ℕ) → Inside names IsNothing events count →
      IsRoot names (starts number place ∷ (told ++ events)) (count + (1 + length attributes))
  start-root events count r = record {
    tree = an_element name attributes r.forest no_more;
    document = record { name = name; attributes = attributes; inside = r.forest; root = refl; joined = r.joined };
    tells = (
      number,
      place,
      told,
      r.first,
      [],
      numbered,
      ap (λ x. starts number place ∷ (told ++ x)) (r.is ∙ ap (λ x. r.first ++ (ends ∷ x)) r.behind.is),
      given,
      r.tells,
      refl,
    );
    counted = omega (arith, r.counted, r.behind.counted);
  }

  start-inside : (P : List Event → ℕ → Type 0) (events : List Event) (count : ℕ) → Inside names (Inside names P) events count
      → Inside names P (starts number place ∷ (told ++ events)) (count + (1 + length attributes))
  start-inside P events count r =
      let o = r.behind in record {
        forest = an_element name attributes r.forest o.forest;
        first = starts number place ∷ (told ++ (r.first ++ (ends ∷ o.first)));
        more = o.more;
        others = o.others;
        joined = ap (λ b. b && is_joined o.forest) r.joined ∙ o.joined;
        tells = (number, place, told, r.first, o.first, numbered, refl, given, r.tells, o.tells);
        is = ap (λ x. starts number place ∷ (told ++ x)) (r.is ∙ ap (λ x. r.first ++ (ends ∷ x)) o.is)
            ∙ ap (λ x. starts number place ∷ x)
            (ap (λ x. told ++ x) (sym (append_assoc r.first (ends ∷ o.first) (ends ∷ o.more))) ∙
            sym (append_assoc told (r.first ++ (ends ∷ o.first)) (ends ∷ o.more)));
        behind = o.behind;
        counted = omega (arith, r.counted, o.counted);
      }

  pub start-rest : (o : Open) (outer : List Open) (seen : Bool) (events : List Event) (count : ℕ) → ((length outer == 0) && seen) ≡ false →
      ((length outer == 0) || seen) ≡ true
      → Rest names (o ∷ outer) true events count → Rest names outer seen (starts number place ∷ (told ++ events)) (count + (1 + length attributes))
  start-rest o [] true events count first h r = absurd (true≢false first)
  start-rest o [] false events count first h r = start-root events count r
  start-rest o (p ∷ outer) true events count first h r = start-inside (Rest names outer true) events count r
  start-rest o (p ∷ outer) false events count first h r = absurd (true≢false (sym h ∙ ap (λ t. t || false) (not_none (length outer))))
