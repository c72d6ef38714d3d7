-- All expressions of a file are gone over.
use Rattle.std.proofs.Common.{◌≡◌, false, List, [], ◌++◌, Result, OnOk, ap, ◌∙◌, subst, append_assoc}
use Rattle.xpath_types.specs.Scopes.{Declared}
use Rattle.schematron_meaning.specs.Entries.{Entry}
use Rattle.schematron_meaning.specs.Lookup.{the_schema, is_let, inside}
use Rattle.schematron_meaning.specs.Expansion.{File}
use Rattle.schematron_meaning.specs.Written.{prefixes, with_lets, written_lets, written_phases, all_written}
use Rattle.schematron_faults.specs.declared.search.Search.{Search}
use Rattle.schematron_faults.specs.Least.{soonest}
use Rattle.schematron_faults.specs.Phases.{written_phases_of, written_outside}
use Rattle.schematron_faults.specs.Searching.{Goes}
use Rattle.schematron_faults.specs.Things.{written_patterns}
use Rattle.schematron_faults.proofs.SearchLemmas.{none_passed, goes-append, on_ok}

-- lets of the schema, and of phases
pub goes_outside : {A E : Type 0} (es all : List Entry) (s t u : Search) (scope behind : Declared) (r : Result A E) → scope ≡ prefixes all → all ≡ es →
    behind ≡ with_lets [] scope (inside is_let es the_schema)
    → Goes s t (written_lets scope (inside is_let es the_schema)) → OnOk r (Goes t u (written_phases_of es behind es)) → OnOk r (Goes s u (written_outside es))
goes_outside es all s t u scope behind r p a b lets phases =
    let same : scope ≡ prefixes es = p ∙ ap prefixes a in
    on_ok r (λ g. goes-append s t u (written_lets (prefixes es) (inside is_let es the_schema)) (written_phases es)
    (subst (λ (d : Declared). Goes s t (written_lets d (inside is_let es the_schema))) same lets)
    (subst (λ (d : Declared). Goes t u (written_phases_of es d es)) (b ∙ ap (λ (d : Declared). with_lets [] d (inside is_let es the_schema)) same) g)) phases

written_same : (file : File) → written_outside file.entries ++ written_patterns file ≡ all_written file
unfolding all_written
written_same file = append_assoc (written_lets (prefixes file.entries) (inside is_let file.entries the_schema)) (written_phases file.entries)
    (written_patterns file)

pub all_gone : (file : File) (s t u : Search) → s.again ≡ false → Goes s t (written_outside file.entries) → Goes t u (written_patterns file) →
    u.best ≡ soonest s.best s.last (all_written file)
all_gone file s t u a outside patterns =
    (goes-append s t u (written_outside file.entries) (written_patterns file) outside patterns).best
    (none_passed s (written_outside file.entries ++ written_patterns file) a)
    ∙ ap (soonest s.best s.last) (written_same file)
