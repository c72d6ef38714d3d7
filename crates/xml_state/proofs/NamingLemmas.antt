-- The names of a start tag, as they are read.
use Rattle.std.proofs.Common.{◌≡◌, ℕ, Bool, true, false, ◌||◌, List, [], ◌++◌, Option, Some, None, sym, ap, ◌∙◌, if◌then◌else◌, bytes_eq, nat_eq}
use Rattle.std.proofs.lemmas.Option.{none-some}
use Rattle.inv_base.specs.Tree.{Attribute}
use Rattle.xml_tokens.specs.Markup.{Written, Tag}
use Rattle.xml_tokens.specs.declared.kind.XmlKind.{XmlKind}
use Rattle.xml_tokens.specs.declared.kind.XmlKind.TheVariants.{UndeclaredPrefix, DuplicateAttribute}
use Rattle.xml_state.specs.Admission.{has_twice, has_undeclared_prefix, has_duplicate}
use Rattle.xml_events.specs.Names.{same_name, with_name}
use Rattle.xml_state.specs.Namespaces.{Binding, bindings_inside, declared_bindings, element_name, attributes_of}
use Rattle.xml_state.specs.Scopes.{InScope}
use Rattle.xml_state.specs.StartTags.{ReadsNames, tag_names, attribute_names, numbers_from, written_names, twice_behind, is_duplicated}
use Rattle.xml_state.specs.States.{with_names, bindings_inside_innermost}
use Rattle.xml_events.proofs.FlipLemmas.{bytes_eq-flips, nat_eq-flips}
use Rattle.xml_state.proofs.DuplicateLemmas.{twice_behind-nil, has_twice-map}
use Rattle.xml_state.proofs.NumberLemmas.{numbers-twice}

-- the kind of the first cause of a fault of names, by which of the two hold
abbrev by_names : Bool → Bool → Option XmlKind
by_names undeclared duplicate = if undeclared then Some UndeclaredPrefix else (if duplicate then Some DuplicateAttribute else None)

module _ (old new : InScope) (tag : Tag) (numbers : List ℕ) (attributes : List Written) (same : attributes ≡ tag.attributes)
    (still : new.open_elements ≡ old.open_elements)
    (declared : new.bound ≡ declared_bindings attributes ++ bindings_inside_innermost old.open_elements) where
  abbrev bindings : List Binding
  bindings = bindings_inside (bindings_inside_innermost old.open_elements) tag

  bound : new.bound ≡ bindings
  bound = declared ∙ ap (λ x. declared_bindings x ++ bindings_inside_innermost old.open_elements) same

  pub undeclared-read : has_undeclared_prefix new.bound tag ≡ true → ReadsNames (Some UndeclaredPrefix) old new tag numbers
  undeclared-read h = record {
    fault = sym (ap (λ t. by_names t (has_duplicate bindings tag)) (sym (ap (λ b. has_undeclared_prefix b tag) bound) ∙ h));
    still = still;
    known = λ none. absurd (none-some _ (sym none));
  }

  -- Two attributes are one by the numbers where they are by the names.
  duplicated : numbers ≡ numbers_from old.names (tag_names bindings tag) → is_duplicated tag numbers ≡ has_duplicate bindings tag
  duplicated numbered =
      let more = attribute_names bindings tag.attributes in
      let others = with_name old.names (element_name bindings tag.name) in
      ap (is_duplicated tag) numbered
      ∙ (ap (λ t. t || twice_behind nat_eq [] (numbers_from others more))
      (twice_behind-nil bytes_eq bytes_eq-flips (written_names tag.attributes) ∙
      has_twice-map bytes_eq (λ (attribute : Written). attribute.name) tag.attributes)
      ∙ ap (λ t. has_twice (λ (x y : Written). bytes_eq x.name y.name) tag.attributes || t)
      (twice_behind-nil nat_eq nat_eq-flips (numbers_from others more)
      ∙ (numbers-twice others more ∙ has_twice-map same_name (λ (attribute : Attribute). attribute.name) (attributes_of bindings tag.attributes))))

  module _ (fine : has_undeclared_prefix new.bound tag ≡ false) (known : new.names ≡ with_names old.names (tag_names new.bound tag))
      (numbered : numbers ≡ numbers_from old.names (tag_names new.bound tag)) where
    numbered-inside : numbers ≡ numbers_from old.names (tag_names bindings tag)
    numbered-inside = numbered ∙ ap (λ b. numbers_from old.names (tag_names b tag)) bound

    names-fault : (twice : Bool) → is_duplicated tag numbers ≡ twice →
        by_names (has_undeclared_prefix bindings tag) (has_duplicate bindings tag) ≡ by_names false twice
    names-fault twice h =
        ap (λ t. by_names t (has_duplicate bindings tag)) (sym (ap (λ b. has_undeclared_prefix b tag) bound) ∙ fine) ∙
        ap (by_names false) (sym (duplicated numbered-inside) ∙ h)

    duplicate-read : is_duplicated tag numbers ≡ true → ReadsNames (Some DuplicateAttribute) old new tag numbers
    duplicate-read h = record {
      fault = sym (names-fault true h);
      still = still;
      known = λ none. absurd (none-some _ (sym none));
    }

    names-read : is_duplicated tag numbers ≡ false → ReadsNames None old new tag numbers
    names-read h = record {
      fault = sym (names-fault false h);
      still = still;
      known = λ none. record { bindings = bound; known = known ∙ ap (λ b. with_names old.names (tag_names b tag)) bound; numbered = numbered-inside };
    }

-- What is read once the names are numbered, by what was declared before.
module _ (old declared new : InScope) (tag : Tag) (numbers : List ℕ) (attributes : List Written) (same : attributes ≡ tag.attributes)
    (still : declared.open_elements ≡ old.open_elements)
    (is-declared : declared.bound ≡ declared_bindings attributes ++ bindings_inside_innermost old.open_elements) (no-names : declared.names ≡ old.names)
    (fine : has_undeclared_prefix declared.bound tag ≡ false)
    (named : new ≡ record declared { names = with_names declared.names (tag_names declared.bound tag) })
    (numbered : numbers ≡ numbers_from declared.names (tag_names declared.bound tag)) where
  same-bound : new.bound ≡ declared.bound
  same-bound = ap (λ (s : InScope). s.bound) named

  still-open : new.open_elements ≡ old.open_elements
  still-open = ap (λ (s : InScope). s.open_elements) named ∙ still

  bound-there : new.bound ≡ declared_bindings attributes ++ bindings_inside_innermost old.open_elements
  bound-there = same-bound ∙ is-declared

  fine-there : has_undeclared_prefix new.bound tag ≡ false
  fine-there = ap (λ b. has_undeclared_prefix b tag) same-bound ∙ fine

  known-there : new.names ≡ with_names old.names (tag_names new.bound tag)
  known-there =
      ap (λ (s : InScope). s.names) named
      ∙ (ap (λ n. with_names n (tag_names declared.bound tag)) no-names ∙ ap (λ b. with_names old.names (tag_names b tag)) (sym same-bound))

  numbered-there : numbers ≡ numbers_from old.names (tag_names new.bound tag)
  numbered-there =
      numbered ∙ (ap (λ n. numbers_from n (tag_names declared.bound tag)) no-names ∙ ap (λ b. numbers_from old.names (tag_names b tag)) (sym same-bound))

  pub duplicate-answered : is_duplicated tag numbers ≡ true → ReadsNames (Some DuplicateAttribute) old new tag numbers
  duplicate-answered = duplicate-read old new tag numbers attributes same still-open bound-there fine-there known-there numbered-there

  pub names-told : is_duplicated tag numbers ≡ false → ReadsNames None old new tag numbers
  names-told = names-read old new tag numbers attributes same still-open bound-there fine-there known-there numbered-there
