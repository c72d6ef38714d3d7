-- Events that tell a tree leave it.
use Rattle.std.proofs.Common.{◌≡◌, List, [], ◌∷◌, ◌++◌, refl, sym, ap, ◌∙◌}
use Rattle.std.proofs.lemmas.List.{append_assoc, append-nil}
use Rattle.inv_base.specs.Tree.{Name, Attribute, Forest, no_more, a_text, an_element}
use Rattle.xml_events.specs.Events.{Event, ends, Trees, name_at, started, trees_of, tree_of_events}
use Rattle.xml_events.specs.Documents.{Tells, TellsAttributes}

-- a forest before another
pub followed : Forest → Forest → Forest
followed no_more g = g
followed (a_text run f) g = a_text run (followed f g)
followed (an_element name attributes inside rest) g = an_element name attributes inside (followed rest g)

followed-none : (f : Forest) → followed f no_more ≡ f
unfolding followed
followed-none no_more = refl
followed-none (a_text run f) = ap (a_text run) (followed-none f)
followed-none (an_element name attributes inside rest) = ap (an_element name attributes inside) (followed-none rest)

abbrev with_tree : List Attribute → Forest → Trees → Trees
with_tree attributes f trees = record { attributes = attributes ++ trees.attributes; inside = followed f trees.inside; around = trees.around }

attributes-back : (names : List Name) (attributes : List Attribute) (events more : List Event) → TellsAttributes names attributes events
    → trees_of names (events ++ more) ≡ with_tree attributes no_more (trees_of names more)
unfolding followed
attributes-back names [] events more told = ap (λ x. trees_of names (x ++ more)) told
attributes-back names (a ∷ attributes) events more told =
    let step = attributes-back names attributes told.1 more told.4 in
    let trees = trees_of names more in
    ap (λ x. trees_of names (x ++ more)) told.3
    ∙ (ap (λ (t : Trees). let r : Trees = record {
      attributes = record { name = name_at names told.0; value = a.value } ∷ t.attributes;
      inside = t.inside;
      around = t.around;
    } in r) step
    ∙ ap (λ n. let r : Trees = record {
      attributes = record { name = n; value = a.value } ∷ (attributes ++ trees.attributes);
      inside = trees.inside;
      around =
          trees.around;
    } in r) told.2.is)

forest-back : (names : List Name) (f : Forest) (events more : List Event) → Tells names f events → (trees_of names more).attributes ≡ []
    → trees_of names (events ++ more) ≡ with_tree [] f (trees_of names more)
unfolding followed
forest-back names no_more events more told none = ap (λ x. trees_of names (x ++ more)) told
forest-back names (a_text run f) events more told none =
    ap (λ x. trees_of names (x ++ more)) told.2
    ∙ ap (λ (t : Trees). let r : Trees = record { attributes = t.attributes; inside = a_text run t.inside; around = t.around } in r)
    (forest-back names f told.1 more told.3 none)
forest-back names (an_element name attributes inside rest) events more told none =
    let number = told.0 in
    let first = told.2 in
    let inner = told.3 in
    let last = told.4 in
    let trees = trees_of names more in
    let behind = forest-back names rest last more told.9 none in
    let closed : trees_of names (ends ∷ (last ++ more)) ≡ record { attributes = []; inside = no_more; around = followed rest trees.inside ∷ trees.around } =
    ap (λ (t : Trees). let r : Trees = record { attributes = []; inside = no_more; around = t.inside ∷ t.around } in r) behind in
    let filled : trees_of names (inner ++ (ends ∷ (last ++ more))) ≡ record {
      attributes = [];
      inside = followed inside no_more;
      around =
          followed rest trees.inside ∷ trees.around;
    } =
    forest-back names inside inner (ends ∷ (last ++ more)) told.8 refl ∙ ap (λ (t : Trees). with_tree [] inside t) closed in
    let given : trees_of names (first ++ (inner ++ (ends ∷ (last ++ more)))) ≡ record {
      attributes = attributes;
      inside = inside;
      around =
          followed rest trees.inside ∷ trees.around;
    } =
    attributes-back names attributes first (inner ++ (ends ∷ (last ++ more))) told.7
    ∙ (ap (λ (t : Trees). with_tree attributes no_more t) filled
    ∙ (ap (λ x. let r : Trees = record { attributes = x; inside = followed inside no_more; around = followed rest trees.inside ∷ trees.around } in r)
    (append-nil attributes)
    ∙ ap (λ x. let r : Trees = record { attributes = attributes; inside = x; around = followed rest trees.inside ∷ trees.around } in r) (followed-none inside)))
    in
    let regrouped : (first ++ (inner ++ (ends ∷ last))) ++ more ≡ first ++ (inner ++ (ends ∷ (last ++ more))) =
    append_assoc first (inner ++ (ends ∷ last)) more ∙ ap (λ x. first ++ x) (append_assoc inner (ends ∷ last) more) in
    ap (λ x. trees_of names (x ++ more)) told.6
    ∙ (ap (λ x. started (name_at names number) (trees_of names x)) regrouped
    ∙ (ap (started (name_at names number)) given
    ∙ (ap (λ n. let r : Trees = record { attributes = []; inside = an_element n attributes inside (followed rest trees.inside); around = trees.around } in
    r) told.5.is
    ∙ ap (λ x. let r : Trees = record { attributes = x; inside = an_element name attributes inside (followed rest trees.inside); around = trees.around } in r)
    (sym none))))

-- Events tell one tree at most: the one that they leave.
pub told-tree : (names : List Name) (f : Forest) (events : List Event) → Tells names f events → tree_of_events names events ≡ f
unfolding tree_of_events followed
told-tree names f events told =
    ap (λ x. (trees_of names x).inside) (sym (append-nil events))
    ∙ (ap (λ (t : Trees). t.inside) (forest-back names f events [] told refl) ∙ followed-none f)
