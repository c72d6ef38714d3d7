-- The sizes of a document are those of the calls of its root and of its end.
use Rattle.std.proofs.Common.{◌≡◌, ℕ, suc, ◌+◌, Bool, true, false, not, ◌&&◌, List, [], ◌∷◌, ◌++◌, length, map, Some, None, refl, ap, sym, ◌∙◌}
use Rattle.std.proofs.Common.{subst, inl, inr, ◌⊎◌, arith}
use Rattle.std.specs.Prelude.{◌==◌, encode_utf8_all}
use Rattle.std.proofs.lemmas.Bool.Decides.{nat_tests}
use Rattle.inv_base.specs.Tree.{Forest, no_more, a_text, an_element, IsDocument, is_joined, begins_with_text, size}
use Rattle.term_table.specs.declared.contexts.Context.{Context}
use Rattle.term_table.specs.Contexts.{root_context}
use Rattle.inv_terms.specs.declared.entries.Entry.{Entry}
use Rattle.xml_write.specs.declared.gauge.Gauge.{Gauge}
use Rattle.xml_write.specs.Canonical.{Declaration, canonical_text}
use Rattle.xml_write.specs.Calls.{Call, call_close, calls_of, encoded}
use Rattle.xml_write.specs.Writers.{measuring}
use Rattle.xml_write.specs.Sizes.{stopped, tag_stopped, unmeasured, gauged, gauged_by_all, longest, canonical_tags}
use Rattle.bind_rows.specs.declared.rows.Row.{Row}
use Rattle.bind_table.specs.Lines.{Plan, nothing, a_line, plan_of}
use Rattle.bind_meaning.specs.Trees as trees
use Rattle.bind_meaning.specs.Trees.{document_of}
use Rattle.bind_write.specs.Roots.{Rooted, first_root, root_calls}
use Rattle.bind_write.specs.Documents.{declarations_for, document_text, root_alone, node_count, HasSizes}
use Rattle.bind_write.proofs.RootLemmas.{OneRoot, document-calls, no-document}

-- ---- the texts of a document are joined

record Plain (f : Forest) : Type 0 where
  joined : is_joined f ≡ true
  plain : begins_with_text f ≡ false

both_true : (a b : Bool) → a ≡ true → b ≡ true → (a && b) ≡ true
both_true a b p q = rw p q

elements-plain : (is_there : Context → Bool) (make : Context → Forest → Forest) → ((c : Context) (f : Forest) → Plain f → Plain (make c f)) →
    (cs : List Context) (rest : Forest) → Plain rest
    → Plain (trees.elements is_there make cs rest)
elements-plain is_there make made [] rest p = p
elements-plain is_there make made (c ∷ cs) rest p = go (is_there c) (elements-plain is_there make made cs rest p)
  where
    go : (b : Bool) → Plain (trees.elements is_there make cs rest)
        → Plain (elim b [ true ↦ make c (trees.elements is_there make cs rest) | false ↦ trees.elements is_there make cs rest ])
    go true more = made c (trees.elements is_there make cs rest) more
    go false more = more

not_empty : (n : ℕ) → not (suc n == 0) ≡ true
not_empty n = grind (arith, nat_tests)

text-joined : (text : List ℕ) (inside : Forest) → Plain inside → is_joined (trees.with_text text inside) ≡ true
text-joined [] inside p = p.joined
text-joined (c ∷ text) inside p = both_true _ _ (not_empty (length text)) (ap (λ b. not b && is_joined inside) p.plain ∙ p.joined)

lines-plain : (es : List Entry) (plan : Plan) (held : Bool) (c : Context) → Plain (trees.written_lines es plan held c)
lines-plain es nothing held c = record { joined = refl; plain = refl }
lines-plain es (a_line s cells inside rest) held c =
    elements-plain (trees.is_emitted es s cells inside held)
    (λ d f. an_element (trees.name_of s.name) (trees.attributes es s cells d)
    (trees.with_text (trees.element_text es cells d) (trees.written_lines es inside (trees.holds_further es cells inside held d) d)) f)
    (λ d f p. record {
      joined = both_true _ _ (text-joined (trees.element_text es cells d) (trees.written_lines es inside (trees.holds_further es cells inside held d) d)
          (lines-plain es inside (trees.holds_further es cells inside held d) d)) p.joined;
      plain = refl;
    })
    (trees.spots es c s.group) (trees.written_lines es rest held c) (lines-plain es rest held c)

document-plain : (rows : List Row) (es : List Entry) → Plain (document_of rows es)
unfolding document_of
document-plain rows es = lines-plain es (plan_of rows) false root_context

first_of_both : (a b : Bool) → (a && b) ≡ true → a ≡ true
first_of_both true b e = refl
first_of_both false b e = cc

alone : (f : Forest) → Plain f → (f ≡ no_more) ⊎ IsDocument (root_alone f)
alone no_more p = inl refl
alone (a_text characters rest) p = let e = p.plain in cc
alone (an_element name attributes inside rest) p =
    inr (record { name = name; attributes = attributes; inside = inside; root = refl; joined = first_of_both (is_joined inside) (is_joined rest) p.joined })

alone-calls : (ds : List Declaration) (f : Forest) → calls_of ds (root_alone f) ≡ calls_of ds f
alone-calls ds no_more = refl
alone-calls ds (a_text characters rest) = refl
alone-calls ds (an_element name attributes inside rest) = refl

-- ---- what a gauge has measured

gauged-last : (g : Gauge) (calls : List Call) (last : Call) → gauged_by_all g (calls ++ last ∷ []) ≡ gauged (gauged_by_all g calls) last
gauged-last g [] last = refl
gauged-last g (call ∷ calls) last = gauged-last (gauged g call) calls last

-- the laws on gauges
pub record Laws : Type 0 where
  pub bytes : (ds : List Declaration) (document : Forest)
      → (gauged_by_all unmeasured (map encoded (calls_of ds document))).bytes ≡ stopped (length (encode_utf8_all (canonical_text ds document)))
  pub longest_tag : (ds : List Declaration) (document : Forest)
      → (gauged_by_all unmeasured (map encoded (calls_of ds document))).longest_tag ≡ tag_stopped (longest (canonical_tags ds document))
  pub nodes : (ds : List Declaration) (document : Forest) → IsDocument document
      → (gauged_by_all unmeasured (map encoded (calls_of ds document))).nodes ≡ stopped (size document + 1)

no_calls : (calls : List Call) → [] ≡ calls ++ call_close ∷ [] → ⊥
no_calls [] e = cc
no_calls (call ∷ calls) e = cc

module _ (rows : List Row) (es : List Entry) (laws : Laws) where
  abbrev ds : List Declaration
  ds = declarations_for rows

  sizes-of : (calls : List Call) → map encoded (calls_of ds (document_of rows es)) ≡ calls ++ call_close ∷ [] →
      HasSizes rows es (gauged_by_all unmeasured (calls ++ call_close ∷ []))
  unfolding document_text
  sizes-of calls e = record {
    bytes = ap (λ x. (gauged_by_all unmeasured x).bytes) (sym e) ∙ laws.bytes ds (document_of rows es);
    longest_tag = ap (λ x. (gauged_by_all unmeasured x).longest_tag) (sym e) ∙ laws.longest_tag ds (document_of rows es);
    nodes = go (alone (document_of rows es) (document-plain rows es));
  }
    where
      go : (document_of rows es ≡ no_more) ⊎ IsDocument (root_alone (document_of rows es)) →
          (gauged_by_all unmeasured (calls ++ call_close ∷ [])).nodes ≡ stopped (node_count (document_of rows es))
      go (inl none) = absurd (no_calls calls (ap (λ f. map encoded (calls_of ds f)) (sym none) ∙ e))
      go (inr is) = ap (λ x. (gauged_by_all unmeasured x).nodes) (sym (ap (map encoded) (alone-calls ds (document_of rows es)) ∙ e)) ∙
          laws.nodes ds (root_alone (document_of rows es)) is

  module _ (r : OneRoot rows) where
    pub sizes-none : first_root es r.s r.cs r.inside (trees.spots es root_context r.s.group) ≡ None → HasSizes rows es unmeasured
    unfolding document_text
    sizes-none none =
        let e = sym (no-document rows es r none) in
        record {
          bytes = ap (λ f. stopped (length (encode_utf8_all (canonical_text ds f)))) e;
          longest_tag = ap (λ f. tag_stopped (longest (canonical_tags ds f))) e;
          nodes = ap (λ f. stopped (node_count f)) e;
        }

    pub sizes-some : (rooted : Rooted) (calls : List Call) (g closed : Gauge) →
        first_root es r.s r.cs r.inside (trees.spots es root_context r.s.group) ≡ Some rooted
        → calls ≡ root_calls es r.s r.cs r.inside rooted.held rooted.context → g ≡ gauged_by_all unmeasured calls → closed ≡ gauged g call_close →
        HasSizes rows es closed
    sizes-some rooted calls g closed first calls_are measured is =
        let all = document-calls rows es r rooted first ∙ ap (λ x. x ++ call_close ∷ []) (sym calls_are) in
        let whole : closed ≡ gauged_by_all unmeasured (calls ++ call_close ∷ []) = is ∙
        (ap (λ x. gauged x call_close) measured ∙ sym (gauged-last unmeasured calls call_close)) in
        subst (HasSizes rows es) (sym whole) (sizes-of calls all)

-- A gauge behind calls, as the writer that it is.
pub same_gauge : (g h : Gauge) → measuring g ≡ measuring h → g ≡ h
same_gauge g h e = cc
