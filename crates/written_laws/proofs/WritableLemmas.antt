-- The document of an invoice can be written as canonical text within the limits, where its table passes the tests.
use Rattle.std.proofs.Common.{◌≡◌, ◌≤◌, true, false, not, ◌&&◌, List, [], ◌∷◌, length, inl, inr, refl, ap, sym, ◌∙◌, subst, nat_le, bytes_eq, encode_utf8_all}
use Rattle.std.specs.List.{list_all}
use Rattle.inv_base.specs.Characters.{is_char}
use Rattle.inv_base.specs.Tree.{Name, Attribute, Forest, no_more, an_element, is_joined}
use Rattle.xml_tokens.specs.Beginnings.{greatest_tag}
use Rattle.xml_state.specs.declared.limits.Limits.{Limits}
use Rattle.xml_events.specs.Names.{same_name}
use Rattle.xml_state.specs.Admission.{has_twice}
use Rattle.xml_state.specs.States.{with_names}
use Rattle.xml_write.specs.Canonical.{Declaration, declaring_name, canonical_text}
use Rattle.xml_write.specs.Sizes.{longest, canonical_tags}
use Rattle.xml_laws.specs.Writable.{is_declarable, is_element_name, is_attribute_name, depth_of, names_in, is_short, IsWritable}
use Rattle.term_table.specs.Contexts.{root_context}
use Rattle.inv_terms.specs.declared.entries.Entry.{Entry}
use Rattle.bind_table.specs.Lines.{Plan}
use Rattle.bind_meaning.specs.Trees.{holds, name_of, attributes, element_text, with_text, holds_further, written_lines}
use Rattle.bind_write.specs.Documents.{node_count}
use Rattle.written_laws.specs.Readable.{levels, names_of, all_lines, is_fine_line, are_fine, is_one_root, is_readable_plan}
use Rattle.written_laws.proofs.ListLemmas.{both, not-true, not-false, at-most, up, Among, Within}
use Rattle.written_laws.proofs.ValueLemmas.{AreChars}
use Rattle.written_laws.proofs.TreeLemmas.{IsFine, elements-pass, StandsAlone, lines-written}
use Rattle.written_laws.proofs.NameLemmas.{few-names}
use Rattle.written_laws.proofs.TagLemmas.{document-keeps}
use Rattle.written_laws.proofs.RootLemmas.{one-root, root-written}

-- The tree keeps the limits on bytes, on tags and on nodes.
pub record IsSmallTree (limits : Limits) (declarations : List Declaration) (tree : Forest) : Type 0 where
  pub bytes : length (encode_utf8_all (canonical_text declarations tree)) ≤ limits.bytes
  pub tags : longest (canonical_tags declarations tree) ≤ greatest_tag
  pub nodes : node_count tree ≤ limits.nodes

-- What the test says of the plan.
record Passes (limits : Limits) (declarations : List Declaration) (plan : Plan) : Type 0 where
  pub rooted : is_one_root plan ≡ true
  pub declarable : list_all is_declarable declarations ≡ true
  pub apart : has_twice (λ (a b : Declaration). bytes_eq a.prefix b.prefix) declarations ≡ false
  pub short : list_all (λ (d : Declaration). is_short limits (declaring_name d.prefix)) declarations ≡ true
  pub deep : levels plan ≤ limits.depth
  pub few : length (names_of plan) ≤ limits.names
  pub lines : all_lines (is_fine_line limits declarations) plan ≡ true

passes : (limits : Limits) (declarations : List Declaration) (plan : Plan) → is_readable_plan limits declarations plan ≡ true → Passes limits declarations plan
passes limits declarations plan h =
    let rooted = is_one_root plan in
    let fine = are_fine limits declarations in
    let deep = nat_le (levels plan) limits.depth in
    let few = nat_le (length (names_of plan)) limits.names in
    let lines = all_lines (is_fine_line limits declarations) plan in
    let declarable = list_all is_declarable declarations in
    let apart = not (has_twice (λ (a b : Declaration). bytes_eq a.prefix b.prefix) declarations) in
    let short = list_all (λ (d : Declaration). is_short limits (declaring_name d.prefix)) declarations in
    let a = both rooted (fine && (deep && (few && lines))) h in
    let b = both fine (deep && (few && lines)) a.1 in
    let c = both deep (few && lines) b.1 in
    let d = both few lines c.1 in
    let e = both declarable (apart && short) b.0 in
    let f = both apart short e.1 in
    record {
      rooted = a.0;
      declarable = e.0;
      apart = not-true (has_twice (λ (a b : Declaration). bytes_eq a.prefix b.prefix) declarations) f.0;
      short = f.1;
      deep = at-most (levels plan) limits.depth c.0;
      few = at-most (length (names_of plan)) limits.names d.0;
      lines = d.1;
    }

pub rooted-plan : (limits : Limits) (declarations : List Declaration) (plan : Plan) → is_readable_plan limits declarations plan ≡ true → is_one_root plan ≡ true
rooted-plan limits declarations plan h = (passes limits declarations plan h).rooted

all-within : (names : List Name) → Within names names
all-within names = go names names (λ n a. a)
  where
    go : (xs ys : List Name) → ((n : Name) → Among n xs → Among n ys) → Within xs ys
    go [] ys f = tt
    go (x ∷ xs) ys f = (f x (inl refl), go xs ys (λ n a. f n (inr a)))

module _ (limits : Limits) (declarations : List Declaration) where
  -- a root that lines write
  tree-writable : (plan : Plan) → Passes limits declarations plan → (name : Name) (given : List Attribute) (inside : Forest) →
      StandsAlone limits declarations (names_of plan) (levels plan) (an_element name given inside no_more)
      → IsSmallTree limits declarations (an_element name given inside no_more) → IsWritable limits declarations (an_element name given inside no_more)
  tree-writable plan p name given inside alone small =
      let tree = an_element name given inside no_more in
      let w = alone.written in
      record {
        document = record { name = name; attributes = given; inside = inside; root = refl; joined = (both (is_joined inside) true w.joined).0 };
        declarable = p.declarable;
        apart = p.apart;
        elements = elements-pass (IsFine limits declarations) (λ name given. is_element_name declarations name) (λ name given fine. fine.named) tree w.elements;
        attributes = elements-pass (IsFine limits declarations) (λ name given. list_all (λ (a : Attribute). is_attribute_name declarations a.name) given)
            (λ name given fine. fine.all_named) tree w.elements;
        distinct =
            elements-pass (IsFine limits declarations) (λ name given. not (has_twice (λ (a b : Attribute). same_name a.name b.name) given))
            (λ name given fine. not-false (has_twice (λ (a b : Attribute). same_name a.name b.name) given) fine.apart) tree w.elements;
        values = elements-pass (IsFine limits declarations) (λ name given. list_all (λ (a : Attribute). list_all is_char a.value) given)
            (λ name given fine. fine.values) tree w.elements;
        texts = w.texts;
        within = record {
          bytes = small.bytes;
          nodes = small.nodes;
          depth = up (depth_of tree) (levels plan) limits.depth w.levels_are p.deep;
          names = up (length (with_names [] (names_in tree))) (length (names_of plan)) limits.names (few-names (names_of plan) (names_in tree) w.named) p.few;
          tags = document-keeps limits declarations name given inside p.short w.elements small.tags;
        };
      }

  pub document-writable : (es : List Entry) → AreChars es → (plan : Plan) → is_readable_plan limits declarations plan ≡ true → holds es plan root_context ≡ true
      → IsSmallTree limits declarations (written_lines es plan false root_context) → IsWritable limits declarations (written_lines es plan false root_context)
  document-writable es chars plan h there small =
      let p = passes limits declarations plan h in
      let r = one-root plan p.rooted in
      let e : written_lines es plan false root_context
      ≡ an_element (name_of r.step.name) (attributes es r.step r.cells root_context)
      (with_text (element_text es r.cells root_context) (written_lines es r.inside (holds_further es r.cells r.inside false root_context) root_context)) no_more
      =
      ap (λ q. written_lines es q false root_context) r.is ∙
      root-written es r.step r.cells r.inside r.once (subst (λ q. holds es q root_context ≡ true) r.is there) in
      let alone = lines-written limits declarations (names_of plan) es chars plan false root_context p.lines (all-within (names_of plan)) in
      subst (IsWritable limits declarations) (sym e)
      (tree-writable plan p (name_of r.step.name) (attributes es r.step r.cells root_context)
      (with_text (element_text es r.cells root_context) (written_lines es r.inside (holds_further es r.cells r.inside false root_context) root_context))
      (subst (StandsAlone limits declarations (names_of plan) (levels plan)) e alone) (subst (IsSmallTree limits declarations) e small))
