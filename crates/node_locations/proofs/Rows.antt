-- Locations in a small document: `<r a="1"><b/>x<b xmlns="u'v"/><b/>y</r>`.
use Rattle.std.specs.Prelude.{ℕ, ◌≡◌, List, [], ◌∷◌, ◌++◌, codes, refl}
use Rattle.inv_base.specs.Tree.{Node, Name, no_more, a_text, an_element, document_nodes}
use Rattle.node_locations.specs.Locations.{ordinal, bracketed, step, location}

abbrev named : List ℕ → List ℕ → Name
named uri local = record { uri = uri; local = local }

abbrev small : List Node
small = document_nodes (an_element (named [] (codes "r")) (record { name = named [] (codes "a"); value = codes "1" } ∷ [])
    (an_element (named [] (codes "b")) [] no_more
    (a_text (codes "x")
    (an_element (named (codes "u'v") (codes "b")) [] no_more
    (an_element (named [] (codes "b")) [] no_more
    (a_text (codes "y") no_more)))))
    no_more)

-- an element of another namespace isn't counted, nor a text beside elements
second_b : ordinal small 6 ≡ 2
second_b = refl

other_b : ordinal small 5 ≡ 1
other_b = refl

second_text : ordinal small 7 ≡ 2
second_text = refl

the_document : location small 0 ≡ codes "/"
the_document = refl

the_root : location small 1 ≡ codes "/*:r[namespace-uri()='']" ++ bracketed 1
the_root = refl

the_attribute : location small 2 ≡ step small 1 ++ codes "/@*:a[namespace-uri()='']"
the_attribute = refl

doubled_apostrophe : step small 5 ≡ codes "/*:b[namespace-uri()='u''v']" ++ bracketed 1
doubled_apostrophe = refl

inside_the_root : location small 6 ≡ step small 1 ++ (codes "/*:b[namespace-uri()='']" ++ bracketed 2)
inside_the_root = refl

a_text_in_it : location small 7 ≡ step small 1 ++ (codes "/text()" ++ bracketed 2)
a_text_in_it = refl
