-- A scope that grew by variables is cut back to what it was; lets, each in the scope of those before it.
use Rattle.std.proofs.Common.{◌≡◌, ℕ, Bool, true, false, ◌+◌, ◌<◌, List, [], ◌∷◌, ◌++◌, map, length, get_or, take, drop, Option, Some, None, refl, ap, sym, ◌∙◌}
use Rattle.std.proofs.Common.{append-nil, append_assoc, arith}
use Rattle.std.specs.Prelude.{if◌then◌else◌, flat_map}
use Rattle.std.proofs.lemmas.List.{map-append}
use Rattle.xpath_types.specs.Scopes.{Declared, declares, with_variable}
use Rattle.schematron_texts.specs.Replacing.{Parameter}
use Rattle.schematron_meaning.specs.Entries.{Entry}
use Rattle.schematron_meaning.specs.Lookup.{is_let, inside}
use Rattle.schematron_meaning.specs.Rules.{Let, let_of, lets_behind}
use Rattle.std.specs.Borrow.{Bor}
use Rattle.schematron_entries.specs.declared.entry.Entry.{Entry as Read}
use Rattle.schematron_entries.specs.Seen.{seen_entry}
use Rattle.schematron_rules.specs.declared.rules.Let.{Let as Held}
use Rattle.schematron_rules.specs.Seen.{seen_let, seen_lets}
use Rattle.schematron_compile.specs.Lent.{lent_entries}
use Rattle.schematron_meaning.specs.Written.{name_of, declare, with_let, with_lets}

-- variables were added behind the others
pub record Grows (old new : Declared) : Type 0 where
  pub same : new.prefixes ≡ old.prefixes
  pub more : List (List ℕ)
  pub variables : new.variables ≡ old.variables ++ more

grows-self : (s : Declared) → Grows s s
grows-self s = record { same = refl; more = []; variables = sym (append-nil s.variables) }

grows-on : (a b c : Declared) → Grows a b → Grows b c → Grows a c
grows-on a b c g h = record {
  same = h.same ∙ g.same;
  more = g.more ++ h.more;
  variables = h.variables ∙ (ap (λ xs. xs ++ h.more) g.variables ∙ append_assoc a.variables g.more h.more);
}

grows-variable : (s : Declared) (name : List ℕ) → Grows s (with_variable s name)
grows-variable s name = go (declares s name)
  where
    go : (b : Bool) → Grows s (if b then s else record s { variables = s.variables ++ name ∷ [] })
    go true = grows-self s
    go false = record { same = refl; more = name ∷ []; variables = refl }

grows-declare : (s : Declared) (name : Option (List ℕ)) → Grows s (declare s name)
grows-declare s None = grows-self s
grows-declare s (Some name) = grows-variable s name

pub grows-lets : (params : List Parameter) (s : Declared) (lets : List Entry) → Grows s (with_lets params s lets)
grows-lets params s [] = grows-self s
grows-lets params s (e ∷ lets) =
    grows-on s (with_let params s e) (with_lets params (with_let params s e) lets) (grows-declare s (name_of params e))
    (grows-lets params (with_let params s e) lets)

front : (xs ys : List (List ℕ)) → take (length xs) (xs ++ ys) ≡ xs
front [] ys = refl
front (x ∷ xs) ys = ap (λ zs. x ∷ zs) (front xs ys)

restored : (s t : Declared) → Grows s t → record t { variables = take (length s.variables) t.variables } ≡ s
restored s t g =
    let vs : take (length s.variables) t.variables ≡ s.variables = ap (take (length s.variables)) g.variables ∙ front s.variables g.more in
    λ i. record { prefixes = g.same i; variables = vs i }

-- The scope is as it was before these lets.
pub cut_back : (params : List Parameter) (s grown cut : Declared) (lets : List Entry) (count : ℕ) → count ≡ length s.variables → grown ≡ with_lets params s lets
    → cut ≡ record grown { variables = take count grown.variables } → cut ≡ s
cut_back params s grown cut lets count counted is cutting =
    cutting
    ∙ (ap (λ n. record grown { variables = take n grown.variables }) counted
    ∙ (ap (λ (g : Declared). record g { variables = take (length s.variables) g.variables }) is ∙
    restored s (with_lets params s lets) (grows-lets params s lets)))

-- ---- lets

-- The lets so far, and those to come in the scope so far, are all.
pub record LetsTo (params : List Parameter) (all : List Entry) (start now : Declared) (found : List Let) (rest : List Entry) : Type 0 where
  pub lets : found ++ lets_behind params now rest ≡ lets_behind params start all
  pub scope : with_lets params now rest ≡ with_lets params start all

pub lets_step : (params : List Parameter) (all : List Entry) (start now behind : Declared) (found more : List Let) (e : Entry) (rest others : List Entry) →
    rest ≡ e ∷ others → more ≡ found ++ let_of params now e ∷ []
    → behind ≡ with_let params now e → LetsTo params all start now found rest → LetsTo params all start behind more others
lets_step params all start now behind found more e rest others first m b h = record {
  lets =
      (λ i. m i ++ lets_behind params (b i) others)
      ∙ (append_assoc found (let_of params now e ∷ []) (lets_behind params (with_let params now e) others)
      ∙ (ap (λ es. found ++ lets_behind params now es) (sym first) ∙ h.lets));
  scope = ap (λ s. with_lets params s others) b ∙ (ap (with_lets params now) (sym first) ∙ h.scope);
}

pub lets_end : (params : List Parameter) (all : List Entry) (start now : Declared) (found : List Let) (rest : List Entry) → rest ≡ [] →
    LetsTo params all start now found rest
    → (found ≡ lets_behind params start all) × (now ≡ with_lets params start all)
lets_end params all start now found rest none h = (
  sym (append-nil found) ∙ (ap (λ es. found ++ lets_behind params now es) (sym none) ∙ h.lets),
  ap (with_lets params now) (sym none) ∙ h.scope,
)

-- ---- the same, of what is held and lent

pub lets_begun : (params : List Parameter) (es items : List (Bor Read)) (start : Declared) (found : List Held) → found ≡ [] → items ≡ es →
    LetsTo params (lent_entries es) start start (seen_lets found) (lent_entries items)
lets_begun params es items start found none is = record {
  lets = (λ k. seen_lets (none k) ++ lets_behind params start (lent_entries (is k)));
  scope = ap (λ xs. with_lets params start (lent_entries xs)) is;
}

pub lets_on : (params : List Parameter) (all : List Entry) (start now behind : Declared) (found more : List Held) (x : Held) (e : Bor Read)
    (items others : List (Bor Read)) → items ≡ e ∷ others → more ≡ found ++ x ∷ []
    → seen_let x ≡ let_of params now (seen_entry e.now) → behind ≡ with_let params now (seen_entry e.now) →
    LetsTo params all start now (seen_lets found) (lent_entries items)
    → LetsTo params all start behind (seen_lets more) (lent_entries others)
lets_on params all start now behind found more x e items others first m is b h =
    lets_step params all start now behind (seen_lets found) (seen_lets more) (seen_entry e.now) (lent_entries items) (lent_entries others)
    (ap lent_entries first)
    (ap seen_lets m ∙ (map-append seen_let found (x ∷ []) ∙ ap (λ y. seen_lets found ++ y ∷ []) is)) b h

pub lets_over : (params : List Parameter) (all : List Entry) (start now : Declared) (found : List Let) (items : List (Bor Read)) (len : ℕ) → len ≡ 0 →
    len ≡ length items → LetsTo params all start now found (lent_entries items)
    → (found ≡ lets_behind params start all) × (now ≡ with_lets params start all)
lets_over params all start now found [] len z l h = lets_end params all start now found [] refl h
lets_over params all start now found (e ∷ items) len z l h = absurd (omega (arith, z, l))

pub declared_on : (params : List Parameter) (now behind whole : Declared) (e : Bor Read) (items others : List (Bor Read)) → items ≡ e ∷ others →
    behind ≡ with_let params now (seen_entry e.now)
    → with_lets params now (lent_entries items) ≡ whole → with_lets params behind (lent_entries others) ≡ whole
declared_on params now behind whole e items others first b h =
    ap (λ s. with_lets params s (lent_entries others)) b ∙ (ap (λ xs. with_lets params now (lent_entries xs)) (sym first) ∙ h)

pub declared_over : (params : List Parameter) (now whole : Declared) (items : List (Bor Read)) (len : ℕ) → len ≡ 0 → len ≡ length items →
    with_lets params now (lent_entries items) ≡ whole → now ≡ whole
declared_over params now whole [] len z l h = h
declared_over params now whole (e ∷ items) len z l h = absurd (omega (arith, z, l))

-- ---- lets of phases

abbrev pub lets_of_phases : List Entry → List Entry → List Entry
lets_of_phases es phases = flat_map (λ (phase : Entry). inside is_let es phase.number) phases

lets_in_two : (params : List Parameter) (s : Declared) (lets others : List Entry) →
    with_lets params s (lets ++ others) ≡ with_lets params (with_lets params s lets) others
lets_in_two params s [] others = refl
lets_in_two params s (e ∷ lets) others = lets_in_two params (with_let params s e) lets others

-- one phase less to come
pub phase_declared : (es : List Entry) (now behind whole : Declared) (lets : List Entry) (e : Bor Read) (items others : List (Bor Read)) → items ≡ e ∷ others →
    lets ≡ inside is_let es (seen_entry e.now).number
    → behind ≡ with_lets [] now lets → with_lets [] now (lets_of_phases es (lent_entries items)) ≡ whole →
    with_lets [] behind (lets_of_phases es (lent_entries others)) ≡ whole
phase_declared es now behind whole lets e items others first l b h =
    ap (λ s. with_lets [] s (lets_of_phases es (lent_entries others))) (b ∙ ap (with_lets [] now) l)
    ∙ (sym (lets_in_two [] now (inside is_let es (seen_entry e.now).number) (lets_of_phases es (lent_entries others)))
    ∙ (ap (λ xs. with_lets [] now (lets_of_phases es (lent_entries xs))) (sym first) ∙ h))

pub phases_over : (es : List Entry) (now whole : Declared) (items : List (Bor Read)) (len : ℕ) → len ≡ 0 → len ≡ length items →
    with_lets [] now (lets_of_phases es (lent_entries items)) ≡ whole → now ≡ whole
phases_over es now whole [] len z l h = h
phases_over es now whole (e ∷ items) len z l h = absurd (omega (arith, z, l))
