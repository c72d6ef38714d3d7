-- A rule and a pattern are gone over.
use Rattle.std.proofs.Common.{◌≡◌, ℕ, Bool, true, false, List, [], ◌∷◌, length, take, Option, Some, None, ap, sym, ◌∙◌, subst}
use Rattle.std.specs.Prelude.{◌&&◌, ◌||◌, nat_eq}
use Rattle.std.proofs.lemmas.Bool.{false≢true, and_parts}
use Rattle.xpath_types.specs.Scopes.{Declared}
use Rattle.schematron_texts.specs.Replacing.{Parameter}
use Rattle.schematron_meaning.specs.declared.attribute.Attribute.TheVariants as a
use Rattle.schematron_meaning.specs.Entries.{Entry}
use Rattle.schematron_meaning.specs.Lookup.{is_own_rule, inside}
use Rattle.schematron_meaning.specs.Expansion.{File, Inclusion, Instance, inclusions}
use Rattle.schematron_meaning.specs.Written.{written, written_puts, with_lets, lets_among, written_rule, is_let_or_rule, written_pattern}
use Rattle.schematron_expansion.specs.Seen.{first_puts}
use Rattle.schematron_faults.specs.declared.search.Search.{Search}
use Rattle.schematron_faults.specs.Least.{soonest}
use Rattle.schematron_faults.specs.Read.{IsOf, IsRead, IsRule, IsItem, AreItems}
use Rattle.schematron_faults.specs.Searching.{IsKnown, Goes, wants_at}
use Rattle.schematron_faults.specs.Things.{with_entry, with_entries}
use Rattle.schematron_faults.proofs.EachLemmas.{Each, each-filter}
use Rattle.schematron_faults.proofs.JoinLemmas.{rising}
use Rattle.schematron_faults.proofs.ScopeLemmas.{Wider, wider-refl, wider-trans, wider_lets, cut_back}
use Rattle.schematron_faults.proofs.CopyLemmas.{Keeps, Known, first_lets, first_each, first_copies, wider_entry}
use Rattle.schematron_faults.proofs.PutLemmas.{is_put, each_of, puts_known, puts_climb}
use Rattle.schematron_faults.proofs.StandLemmas.{at_pattern}
use Rattle.schematron_faults.proofs.SearchLemmas.{goes-append, goes_from, goes_past}

-- What goes over first copies goes over all.
pub goes_copies : Keeps → (file : File) (stand : Option ℕ) (params : List Parameter) (outer : Declared) (rule : Entry) (s t : Search) → IsRead file →
    IsRule file.entries rule
    → Goes s t (written_puts file.entries params (with_lets params outer (lets_among (first_puts (inclusions file stand rule.number)))) outer
    (first_puts (inclusions file stand rule.number)))
    → Goes s t (written_puts file.entries params (with_lets params outer (lets_among (inclusions file stand rule.number))) outer (inclusions file stand
    rule.number))
goes_copies keeps file stand params outer rule s t is own g =
    let found : List Inclusion = inclusions file stand rule.number in
    let known : Each (Known file.entries (is_put file.rules stand)) found = puts_known file stand rule is own in
    let lets : with_lets params outer (lets_among (first_puts found)) ≡ with_lets params outer (lets_among found) =
    first_lets file.entries (is_put file.rules stand) params outer found known in
    record {
      best = λ of_all. g.best (subst (λ (d : Declared). Each (IsKnown s) (written_puts file.entries params d outer (first_puts found))) (sym lets)
          (first_each (IsKnown s) file.entries (is_put file.rules stand) params (with_lets params outer (lets_among found)) outer found known of_all))
          ∙ (ap (λ (d : Declared). soonest s.best s.last (written_puts file.entries params d outer (first_puts found))) lets
          ∙ first_copies keeps file.entries (is_put file.rules stand) params (with_lets params outer (lets_among found)) s.best s.last outer found
          (puts_climb file stand rule.number is) known);
      keeps = g.keeps;
    }

-- A rule: its lets are declared, then its context is judged and what is put in it.
pub goes_rule : Keeps → (file : File) (instance : Instance) (outer all before : Declared) (rule : Entry) (firsts : List Inclusion) (s t u v : Search)
    → firsts ≡ first_puts (inclusions file instance.stand rule.number) → all ≡ with_lets instance.params outer (lets_among firsts) → before ≡ outer
    → Goes s t [] → Goes t u (written a.Context true instance.stand instance.params before rule) →
    Goes u v (written_puts file.entries instance.params all before firsts)
    → IsRead file → IsRule file.entries rule → Goes s v (written_rule file instance outer rule)
goes_rule keeps file instance outer all before rule firsts s t u v f d b declared context goes is own =
    goes-append s u v (written a.Context true instance.stand instance.params outer rule) _
    (subst (λ (x : Declared). Goes s u (written a.Context true instance.stand instance.params x rule)) b
    (goes_from s t u (written a.Context true instance.stand instance.params before rule) declared context))
    (goes_copies keeps file instance.stand instance.params outer rule u v is own
    (subst (λ (ps : List Inclusion). Goes u v (written_puts file.entries instance.params (with_lets instance.params outer (lets_among ps)) outer ps)) f
    (subst (λ (x : Declared). Goes u v (written_puts file.entries instance.params x outer firsts)) d
    (subst (λ (x : Declared). Goes u v (written_puts file.entries instance.params all x firsts)) b goes))))

-- ---- scopes

pub wider_entries : (params : List Parameter) (scope : Declared) (es : List Entry) → Wider scope (with_entries params scope es)
wider_entries params scope [] = wider-refl scope
wider_entries params scope (e ∷ es) = wider-trans scope (with_entry params scope e) (with_entries params (with_entry params scope e) es)
    (wider_entry params scope e) (wider_entries params (with_entry params scope e) es)

-- ---- what stands in a pattern

let_or_rule : (es : List Entry) (e : Entry) → IsOf es e → is_let_or_rule e.role ≡ true → IsItem es e
let_or_rule es e of is rule = record { is_of = of; is_own = sym (ap (λ (b : Bool). b || is_own_rule e.role) rule) ∙ is }

are_items : (es xs : List Entry) (n : ℕ) → Each (λ (e : Entry). IsOf es e × ((is_let_or_rule e.role && nat_eq e.parent n) ≡ true)) xs → AreItems es xs
are_items es [] n h = tt
are_items es (e ∷ xs) n h = (let_or_rule es e h.0.0 (and_parts (is_let_or_rule e.role) (nat_eq e.parent n) h.0.1).0, are_items es xs n h.1)

pub items_inside : (file : File) (n : ℕ) → IsRead file → AreItems file.entries (inside is_let_or_rule file.entries n)
items_inside file n is = are_items file.entries (inside is_let_or_rule file.entries n) n
    (each-filter (IsOf file.entries) (λ (e : Entry). is_let_or_rule e.role && nat_eq e.parent n) file.entries
    (each_of file.entries (rising file.entries is.rises)))

-- a pattern of which nothing would be told
pub goes_past_pattern : (file : File) (outer : Declared) (instance : Instance) (s : Search) (stand : Option ℕ) → stand ≡ instance.stand →
    wants_at s stand ≡ false → Goes s s (written_pattern file outer instance)
goes_past_pattern file outer instance s None e h = absurd (false≢true (sym h))
goes_past_pattern file outer instance s (Some n) e h = goes_past s n (written_pattern file outer instance) h (at_pattern file instance n outer (sym e))

-- ---- scopes that are cut back

pub cut_lets : (a b c : Declared) (count : ℕ) (params : List Parameter) (lets : List Entry) → count ≡ length a.variables → b ≡ with_lets params a lets →
    c ≡ record b { variables = take count b.variables } → c ≡ a
cut_lets a b c count params lets n e k = k ∙ cut_back a b count n (subst (Wider a) (sym e) (wider_lets params a lets))

pub cut_entries : (a b c : Declared) (count : ℕ) (params : List Parameter) (es : List Entry) → count ≡ length a.variables → b ≡ with_entries params a es →
    c ≡ record b { variables = take count b.variables } → c ≡ a
cut_entries a b c count params es n e k = k ∙ cut_back a b count n (subst (Wider a) (sym e) (wider_entries params a es))
