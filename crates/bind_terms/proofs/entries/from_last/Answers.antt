use Rattle.std.proofs.Common.{◌≡◌, ℕ, ◌+◌, List, [], ◌∷◌, ◌++◌, length, flat_map, reverse, Option, Some, None, refl, sym, ap, ◌∙◌, append_assoc, arith}
use Rattle.std.proofs.lemmas.Grind.{flat_map-append}
use Rattle.std.proofs.lemmas.List.{reverse-append}
use Rattle.term_table.specs.declared.contexts.Context.{Context}
use Rattle.term_table.specs.declared.terms.Term.{Term}
use Rattle.inv_terms.specs.declared.values.Value.{Value}
use Rattle.inv_terms.specs.declared.entries.Entry.{Entry}
use Rattle.bind_terms.specs.declared.firsts.First.{First}
use Rattle.bind_terms.specs.Entries.{entries_of}
use Rattle.bind_terms.proofs.Tolds.{append-nil}
use Rattle.bind_terms.proofs.entries.from_last.Goals as goal

abbrev entry_alone : Option Value → Context → Term → List Entry
entry_alone value context term = elim value [ None ↦ [] | Some value ↦ record { context = context; term = term; value = value } ∷ [] ]

one : (value : Option Value) (context : Context) (term : Term) → reverse (entry_alone value context term) ≡ entry_alone value context term
one None context term = refl
one (Some value) context term = refl

-- taking the last of what was told, and putting its entry behind the others
moved : (items rest : List First) (first : First) (old new : List Entry) → items ≡ rest ++ first ∷ [] → new ≡ old ++ entries_of first
    → flat_map entries_of rest ++ reverse new ≡ flat_map entries_of items ++ reverse old
moved items rest first old new e f =
    ap (λ l. flat_map entries_of rest ++ reverse l) f
    ∙ (ap (λ l. flat_map entries_of rest ++ l) (reverse-append old (entries_of first) ∙ ap (λ l. l ++ reverse old) (one first.value first.context first.term))
    ∙ (sym (append_assoc (flat_map entries_of rest) (entries_of first) (reverse old))
    ∙ ap (λ l. l ++ reverse old) (ap (λ l. flat_map entries_of rest ++ l) (sym (append-nil (entries_of first))) ∙
    (sym (flat_map-append entries_of rest (first ∷ [])) ∙ ap (flat_map entries_of) (sym e)))))

ends : (items firsts : List First) (entries : List Entry) (len : ℕ) → len ≡ 0 → len ≡ length items → flat_map entries_of items ++
    reverse entries ≡ flat_map entries_of firsts
    → reverse entries ≡ flat_map entries_of firsts
ends [] firsts entries len e l h = h
ends (f ∷ items) firsts entries len e l h = absurd (omega (arith, e, l))

pub firsts-init : goal.firsts-init
firsts-init c = ap (λ l. flat_map entries_of c.args.firsts.items ++ reverse l) c.requires ∙
    append-nil (flat_map entries_of c.args.firsts.items)

pub firsts-preserved : goal.firsts-preserved
firsts-preserved c =
    ap (λ l. flat_map entries_of l ++ reverse c.push_first.new.entries.items) c.give_back.ensures.items
    ∙ (moved c.firsts.rest.items c.pop.new.self.items c.in-Some.first c.firsts.entries.items c.push_first.new.entries.items c.in-Some.ensures.items
    c.in_ok-push_first.ensures
    ∙ c.firsts.invariant)

pub returns : goal.returns
returns c = ends c.firsts.rest.items c.args.firsts.items c.firsts.entries.items _ c.in_default.ensures.cases.0 c.firsts.rest.ok.0 c.firsts.invariant
