-- What a row picks beside whose path another leads to the same elements: what is written at the one line, then at the other.
use Rattle.std.proofs.Common.{◌≡◌, ℕ, Bool, true, false, not, ◌&&◌, ◌||◌, List, [], ◌∷◌, ◌++◌, map, filter, flat_map, Option, Some, None, ◌⊎◌, inl, inr, refl}
use Rattle.std.proofs.Common.{sym, ap, ◌∙◌, subst}
use Rattle.std.specs.Prelude.{if◌then◌else◌, is_none}
use Rattle.std.specs.Cmp.Lexicographic.{pointwise}
use Rattle.std.proofs.lemmas.Bool.{false≢true}
use Rattle.inv_base.specs.Tree.{Forest, Node, document_nodes}
use Rattle.term_table.specs.declared.groups.Group.{Group}
use Rattle.term_table.specs.declared.contexts.Context.{Context}
use Rattle.term_table.specs.Contexts.{root_context}
use Rattle.inv_terms.specs.declared.entries.Entry.{Entry}
use Rattle.bind_rows.specs.declared.guards.Guard.{Guard}
use Rattle.bind_rows.specs.declared.rows.Step.{Step}
use Rattle.bind_rows.specs.declared.rows.Row.{Row}
use Rattle.bind_rows.specs.Same.{same_name, same_step}
use Rattle.bind_table.proofs.SameLemmas.{name-sound, step-sound}
use Rattle.bind_table.specs.Lines.{Cell, Plan, nothing, a_line, plan_of}
use Rattle.bind_meaning.specs.Elements.{children_named, are_met, met}
use Rattle.bind_meaning.specs.Picks.{ways}
use Rattle.bind_meaning.specs.Trees.{name_of, spots, is_emitted, holds_further, attributes, written_lines, document_of}
use Rattle.binding_laws.specs.Apart as apart
use Rattle.binding_laws.specs.Apart.{is_unguarded, is_nothing, unknown, beyond, meets_all, is_unwritten, is_off, is_clear, is_apart}
use Rattle.binding_laws.specs.Twins.{same_look, same_way, are_twins}
use Rattle.binding_laws.specs.Written.{emitted}
use Rattle.binding_laws.proofs.TreeLemmas.{each-append, Lies}
use Rattle.binding_laws.proofs.NodeLemmas.{Top, tops, is_called, Holds, document-holds}
use Rattle.binding_laws.proofs.ListLemmas.{flat_map-same, map-append, append-nil, each-map, both-true}
use Rattle.binding_laws.proofs.TreeLemmas.{each-weaker}
use Rattle.binding_laws.proofs.GuardLemmas.{met-as, own-met}
use Rattle.binding_laws.proofs.ReachLemmas.{Among}
use Rattle.binding_laws.proofs.KnownLemmas.{knows-nothing, known-inside}
use Rattle.binding_laws.proofs.RowLemmas.{At, sized, past, written_in, long_of, begin_in, Place, spot_of, behind, last_places, places, called-self, found}
use Rattle.binding_laws.proofs.RowLemmas.{found-called, elements-lie, step_ways, inside-ways, inside-element, Silent, Found, clear-line, past-line, clear-found}
use Rattle.binding_laws.proofs.RowLemmas.{IsAt, AreFound, behind-at, ways-behind, IsOwn, own-line, join-own, lines-found, places_at, ArePlaced}

-- ---- two steps that look alike

no-guards : (guards : List Guard) → is_unguarded guards ≡ true → guards ≡ []
no-guards [] h = refl
no-guards (guard ∷ guards) h = absurd (false≢true h)

either-of : (a b : Bool) → (a || b) ≡ true → (a ≡ true) ⊎ (b ≡ true)
either-of true b h = inl refl
either-of false b h = inr h

look-is : (s t : Step) → same_look s t ≡ true → (s.name ≡ t.name) × (s.guards ≡ t.guards)
look-is s t h = elim (either-of (same_step s t) (same_name s.name t.name && (is_unguarded s.guards && is_unguarded t.guards)) h) [
  | inl k ↦ let e = step-sound s t k in (ap (λ (x : Step). x.name) e, ap (λ (x : Step). x.guards) e)
  | inr k ↦ let w = both-true (same_name s.name t.name) (is_unguarded s.guards && is_unguarded t.guards) k in
      let v = both-true (is_unguarded s.guards) (is_unguarded t.guards) w.1 in
      (name-sound s.name t.name w.0, no-guards s.guards v.0 ∙ sym (no-guards t.guards v.1))
]

pub same-ways : (nodes : List Node) (path other : List Step) → same_way path other ≡ true → (n : ℕ) → ways nodes path n ≡ ways nodes other n
same-ways nodes [] [] h n = refl
same-ways nodes [] (t ∷ other) h n = absurd (false≢true h)
same-ways nodes (s ∷ path) [] h n = absurd (false≢true h)
same-ways nodes (s ∷ path) (t ∷ other) h n =
    let w = both-true (same_look s t) (pointwise same_look path other) h in
    let look = look-is s t w.0 in
    (λ i. flat_map (λ m. map (λ way. m ∷ way) (ways nodes path m)) (filter (are_met nodes (look.1 i)) (children_named nodes (look.0 i) n)))
    ∙ flat_map-same (λ m. map (λ way. m ∷ way) (ways nodes path m)) (λ m. map (λ way. m ∷ way) (ways nodes other m))
    (λ m. ap (map (λ way. m ∷ way)) (same-ways nodes path other w.1 m)) (met nodes t n)

same-found : (nodes : List Node) (s : Step) (path : List Step) (v : Step) (other : List Step) → same_look s v ≡ true → same_way path other ≡ true →
    (n : ℕ) (f : Forest)
    → found s.name (step_ways nodes s path) n f ≡ found v.name (step_ways nodes v other) n f
unfolding step_ways
same-found nodes s path v other h k n f =
    let look = look-is s v h in
    flat_map-same (λ (t : Top). step_ways nodes s path t.number) (λ (t : Top). step_ways nodes v other t.number)
    (λ (t : Top). (λ i. elim (are_met nodes (look.1 i) t.number) [ true ↦ map (λ way. t.number ∷ way) (same-ways nodes path other k t.number i) | false ↦ [] ]))
    (filter (is_called s.name) (tops n f))
    ∙ ap (λ name. flat_map (λ (t : Top). step_ways nodes v other t.number) (filter (is_called name) (tops n f))) look.0

-- ---- a line that is written once at most

module _ (es : List Entry) where
  abbrev behind_all : (At → List Place) → List At → List Place
  behind_all p xs = flat_map (λ (x : At). map (behind x.number) (p x)) xs

  in-two : (long : Context → ℕ) (c : Context) (n : ℕ) (p q : At → List Place) (b : Bool)
      → behind_all (λ x. p x ++ q x) (sized long (if b then c ∷ [] else []) n) ≡ behind_all p (sized long (if b then c ∷ [] else []) n) ++
      behind_all q (sized long (if b then c ∷ [] else []) n)
  in-two long c n p q false = refl
  in-two long c n p q true =
      let x : At = record { context = c; number = n } in
      append-nil (map (behind n) (p x ++ q x))
      ∙ (map-append (behind n) (p x) (q x) ∙ (λ i. sym (append-nil (map (behind n) (p x))) i ++ sym (append-nil (map (behind n) (q x))) i))

  in-two-at : (long : Context → ℕ) (c : Context) (n : ℕ) (p q : At → List Place) (there : Context → Bool) (o : Option Group) → is_none o ≡ true
      → behind_all (λ x. p x ++ q x) (sized long (filter there (spots es c o)) n) ≡ behind_all p (sized long (filter there (spots es c o)) n) ++
      behind_all q (sized long (filter there (spots es c o)) n)
  in-two-at long c n p q there None h = in-two long c n p q (there c)
  in-two-at long c n p q there (Some g) h = absurd (false≢true h)

-- ---- the lines of both

module _ (nodes : List Node) (es : List Entry) where
  abbrev own_at : Step → List Cell → Plan → List Step → Bool → Context → ℕ → List Place
  own_at t cells inside path held c n =
      flat_map (λ (x : At). map (behind x.number)
      (last_places path (spot_of es t cells x.context)
      (places es inside path (holds_further es cells inside held x.context) x.context (begin_in es t cells x))))
      (sized (long_of es t cells inside held) (emitted es t cells inside held c) n)

  no-twins : (plan : Plan) (other : List Step) → are_twins plan [] other ≡ true → ⊥
  no-twins nothing other h = false≢true h
  no-twins (a_line t cells inside rest) other h = false≢true h

  no-twins-behind : (plan : Plan) (path : List Step) → are_twins plan path [] ≡ true → ⊥
  no-twins-behind nothing path h = false≢true h
  no-twins-behind (a_line t cells inside rest) [] h = false≢true h
  no-twins-behind (a_line t cells inside rest) (s ∷ path) h = false≢true h

  twins-found : (plan : Plan) (s : Step) (path : List Step) (v : Step) (other : List Step) (held : Bool) (c : Context) (above : List ℕ) (n : ℕ) →
      Lies nodes above n (written_lines es plan held c)
      → same_look s v ≡ true → same_way path other ≡ true → are_twins plan (s ∷ path) (v ∷ other) ≡ true
      → AreFound nodes es s path (written_lines es plan held c) n (places es plan (s ∷ path) held c n ++ places es plan (v ∷ other) held c n)
  unfolding step_ways
  twins-found nothing s path v other held c above n lies look way h = absurd (false≢true h)
  twins-found (a_line t cells inside rest) s path v other held c above n lies look way h =
      go (λ u us w ws further d around m there a b z. twins-found inside u us w ws further d around m there a b z)
      (λ m there z. twins-found rest s path v other held c above m there look way z) (same_step s t) refl (same_step v t) refl h
    where
      long : Context → ℕ
      long = long_of es t cells inside held

      next : ℕ
      next = past (long_of es t cells inside held) (emitted es t cells inside held c) n

      called : same_step s t ≡ true → apart.is_called s.name t.name ≡ true
      called e = ap (λ (x : Step). apart.is_called x.name t.name) (step-sound s t e) ∙ called-self t.name

      -- what is found at the line and behind it
      at-line : same_step s t ≡ true → (them : At → List Place) →
          ((d : Context) → Among d (spots es c t.group) → (m : ℕ) (more : Forest) → is_emitted es t cells inside held d ≡ true →
          Found nodes es t cells inside held above d m more
          → IsOwn nodes es s path m (them (record { context = d; number = m })))
          → (later : List Place) → (Lies nodes above (past (long_of es t cells inside held) (emitted es t cells inside held c) n) (written_lines es rest held c)
          → AreFound nodes es s path (written_lines es rest held c) (past (long_of es t cells inside held) (emitted es t cells inside held c) n) later)
          → AreFound nodes es s path (written_lines es (a_line t cells inside rest) held c) n
          (flat_map (λ (x : At). map (behind x.number) (them x)) (sized (long_of es t cells inside held) (emitted es t cells inside held c) n) ++ later)
      at-line e them each later behind_it =
          let w = elements-lie nodes s.name (step_ways nodes s path) (name_of t.name) (attributes es t cells) (written_in es cells inside held)
          (is_emitted es t cells inside held) (written_lines es rest held c) above
          (λ x. IsOwn nodes es s path x.number (them x)) (spots es c t.group) each n lies in
          let all = join-own nodes es s path them (sized (long_of es t cells inside held) (emitted es t cells inside held c) n) w.0 in
          let own : List Place = flat_map (λ (x : At). map (behind x.number) (them x))
          (sized (long_of es t cells inside held) (emitted es t cells inside held c) n) in
          let further = behind_it w.1 in
          record {
            ways_are = found-called nodes s.name (step_ways nodes s path) (name_of t.name) (attributes es t cells) (written_in es cells inside held)
                (is_emitted es t cells inside held) (written_lines es rest held c) above (called e)
                (spots es c t.group) n
                ∙ ((λ i. all.0 i ++ further.ways_are i) ∙ sym (map-append (λ (place : Place). place.way) own later));
            each = each-append (IsAt nodes es) own later all.1 further.each;
          }

      -- the line is that of both
      shared : ((u : Step) (us : List Step) (w : Step) (ws : List Step) (further : Bool) (d : Context) (around : List ℕ) (m : ℕ) →
          Lies nodes around m (written_lines es inside further d) → same_look u w ≡ true → same_way us ws ≡ true
          → are_twins inside (u ∷ us) (w ∷ ws) ≡ true → AreFound nodes es u us (written_lines es inside further d) m (places es inside (u ∷ us) further d m ++
          places es inside (w ∷ ws) further d m))
          → same_step s t ≡ true → meets_all unknown s.guards t cells inside ≡ true → is_none t.group ≡ true → is_clear unknown rest (s ∷ path) ≡ true →
          are_twins inside path other ≡ true → (path_is other_is : List Step) → path ≡ path_is → other ≡ other_is
          → AreFound nodes es s path (written_lines es (a_line t cells inside rest) held c) n
          (own_at t cells inside path held c n ++ own_at t cells inside other held c n)
      shared inner e meets group clear twins [] other_is p q = absurd (no-twins inside other (subst (λ l. are_twins inside l other ≡ true) p twins))
      shared inner e meets group clear twins (u ∷ us) [] p q = absurd (no-twins-behind inside path (subst (λ l. are_twins inside path l ≡ true) q twins))
      shared inner e meets group clear twins (u ∷ us) (w ∷ ws) p q =
          let same = both-true (same_look u w) (same_way us ws) (sym (λ i. same_way (p i) (q i)) ∙ way) in
          let twin : are_twins inside (u ∷ us) (w ∷ ws) ≡ true = sym (λ i. are_twins inside (p i) (q i)) ∙ twins in
          let one : At → List Place = λ x. last_places path (spot_of es t cells x.context)
          (places es inside path (holds_further es cells inside held x.context) x.context (begin_in es t cells x)) in
          let two : At → List Place = λ x. last_places other (spot_of es t cells x.context)
          (places es inside other (holds_further es cells inside held x.context) x.context (begin_in es t cells x)) in
          subst (AreFound nodes es s path (written_lines es (a_line t cells inside rest) held c) n)
          (append-nil (flat_map (λ (x : At). map (behind x.number) (one x ++ two x))
          (sized (long_of es t cells inside held) (emitted es t cells inside held c) n))
          ∙ in-two-at es (long_of es t cells inside held) c n one two (is_emitted es t cells inside held) t.group group)
          (at-line e (λ x. one x ++ two x) (λ d a m more there lying. here d a m more there lying same.0 same.1 twin) []
          (λ there. record { ways_are = clear-found nodes es unknown rest s path held c (knows-nothing es c) above next there clear; each = tt }))
        where
          here : (d : Context) → Among d (spots es c t.group) → (m : ℕ) (more : Forest) → is_emitted es t cells inside held d ≡ true →
              Found nodes es t cells inside held above d m more → same_look u w ≡ true → same_way us ws ≡ true → are_twins inside (u ∷ us) (w ∷ ws) ≡ true
              → IsOwn nodes es s path m
              (last_places path (spot_of es t cells d)
              (places es inside path (holds_further es cells inside held d) d (begin_in es t cells (record { context = d; number = m })))
              ++ last_places other (spot_of es t cells d)
              (places es inside other (holds_further es cells inside held d) d (begin_in es t cells (record { context = d; number = m }))))
          here d at m more there lying a b z =
              let start : ℕ = begin_in es t cells (record { context = d; number = m }) in
              let inside_it = inside-element nodes es t cells inside held above d m more u us lying in
              let k = inner u us w ws (holds_further es cells inside held d) d (m ∷ above) start inside_it.0 a b z in
              let them : List Place = places es inside (u ∷ us) (holds_further es cells inside held d) d start ++
              places es inside (w ∷ ws) (holds_further es cells inside held d) d start in
              let are-met : are_met nodes s.guards m ≡ true =
              met-as nodes s.guards above m (name_of t.name) (attributes es t cells d) (written_in es cells inside held d) more lying ∙
              own-met es unknown c (knows-nothing es c) s.guards t cells inside held d at meets there in
              subst (λ (l : List Step × List Step). IsOwn nodes es s l.0 m
              (last_places l.0 (spot_of es t cells d)
              (places es inside l.0 (holds_further es cells inside held d) d (begin_in es t cells (record { context = d; number = m })))
              ++ last_places l.1 (spot_of es t cells d)
              (places es inside l.1 (holds_further es cells inside held d) d (begin_in es t cells (record { context = d; number = m })))))
              (λ i. (sym p i, sym q i))
              (record {
                ways_are = ap (λ b. elim b [ true ↦ map (λ way. m ∷ way) (ways nodes (u ∷ us) m) | false ↦ [] ]) are-met ∙
                    (ap (map (λ way. m ∷ way)) (inside_it.1 ∙ k.ways_are) ∙ ways-behind nodes es m them);
                each = each-map (IsAt nodes es) (behind m) them
                    (each-weaker (IsAt nodes es) (λ place. IsAt nodes es (behind m place)) them (λ place. behind-at nodes es m place) k.each);
              })

      -- the line is that of the first, and that of the second is behind it
      parted : same_step s t ≡ true → meets_all unknown s.guards t cells inside ≡ true → is_apart unknown rest (v ∷ other) ≡ true →
          (elim path [ [] ↦ is_nothing inside | (u ∷ further) ↦ is_apart (beyond t.group unknown) inside (u ∷ further) ]) ≡ true
          → AreFound nodes es s path (written_lines es (a_line t cells inside rest) held c) n
          (own_at t cells inside path held c n ++ places es rest (v ∷ other) held c
          (past (long_of es t cells inside held) (emitted es t cells inside held c) n))
      parted e meets behind_it further =
          at-line e (λ x. last_places path (spot_of es t cells x.context)
          (places es inside path (holds_further es cells inside held x.context) x.context (begin_in es t cells x)))
          (own-line nodes es unknown c (knows-nothing es c) s path t cells inside held above
          (λ u us d a around m there z. lines-found nodes es (beyond t.group unknown) inside u us (holds_further es cells inside held d) d
          (known-inside unknown es t.group c d a (knows-nothing es c)) around m there z)
          (ap (λ b. b || is_unwritten [] t cells inside) meets) further)
          (places es rest (v ∷ other) held c next)
          (λ there. let k = lines-found nodes es unknown rest v other held c (knows-nothing es c) above next there behind_it in
          record { ways_are = same-found nodes s path v other look way next (written_lines es rest held c) ∙ k.ways_are; each = k.each })

      -- the line is that of neither
      passed : ((m : ℕ) → Lies nodes above m (written_lines es rest held c) → are_twins rest (s ∷ path) (v ∷ other) ≡ true
          → AreFound nodes es s path (written_lines es rest held c) m (places es rest (s ∷ path) held c m ++ places es rest (v ∷ other) held c m))
          → (apart.is_called s.name t.name ≡ false) ⊎ Silent nodes es (step_ways nodes s path) t cells inside held above c →
          are_twins rest (s ∷ path) (v ∷ other) ≡ true
          → AreFound nodes es s path (written_lines es (a_line t cells inside rest) held c) n
          (places es rest (s ∷ path) held c (past (long_of es t cells inside held) (emitted es t cells inside held c) n)
          ++ places es rest (v ∷ other) held c (past (long_of es t cells inside held) (emitted es t cells inside held c) n))
      passed later off k =
          let p = past-line nodes es s (step_ways nodes s path) t cells inside rest held c above n lies off in
          let w = later next p.0 k in
          record { ways_are = p.1 ∙ w.ways_are; each = w.each }

      by-name : ((m : ℕ) → Lies nodes above m (written_lines es rest held c) → are_twins rest (s ∷ path) (v ∷ other) ≡ true
          → AreFound nodes es s path (written_lines es rest held c) m (places es rest (s ∷ path) held c m ++ places es rest (v ∷ other) held c m))
          → (b : Bool) → apart.is_called s.name t.name ≡ b → (elim b [
            | true ↦ (is_off unknown s.guards t cells inside ||
                elim path [ [] ↦ false | (u ∷ further) ↦ is_clear (beyond t.group unknown) inside (u ∷ further) ]) && are_twins rest (s ∷ path) (v ∷ other)
            | false ↦ are_twins rest (s ∷ path) (v ∷ other)
          ]) ≡ true
          → AreFound nodes es s path (written_lines es (a_line t cells inside rest) held c) n
          (places es rest (s ∷ path) held c (past (long_of es t cells inside held) (emitted es t cells inside held c) n)
          ++ places es rest (v ∷ other) held c (past (long_of es t cells inside held) (emitted es t cells inside held c) n))
      by-name later true e k =
          let w = both-true _ (are_twins rest (s ∷ path) (v ∷ other)) k in
          passed later (inr (clear-line nodes es unknown c (knows-nothing es c) s path t cells inside held above
          (λ u us d a around m there z. clear-found nodes es (beyond t.group unknown) inside u us (holds_further es cells inside held d) d
          (known-inside unknown es t.group c d a (knows-nothing es c)) around m there z) w.0)) w.1
      by-name later false e k = passed later (inl e) k

      go : ((u : Step) (us : List Step) (w : Step) (ws : List Step) (further : Bool) (d : Context) (around : List ℕ) (m : ℕ) →
          Lies nodes around m (written_lines es inside further d) → same_look u w ≡ true → same_way us ws ≡ true
          → are_twins inside (u ∷ us) (w ∷ ws) ≡ true → AreFound nodes es u us (written_lines es inside further d) m (places es inside (u ∷ us) further d m ++
          places es inside (w ∷ ws) further d m))
          → ((m : ℕ) → Lies nodes above m (written_lines es rest held c) → are_twins rest (s ∷ path) (v ∷ other) ≡ true
          → AreFound nodes es s path (written_lines es rest held c) m (places es rest (s ∷ path) held c m ++ places es rest (v ∷ other) held c m))
          → (b : Bool) → same_step s t ≡ b → (d : Bool) → same_step v t ≡ d → (elim b [
            | true ↦ meets_all unknown s.guards t cells inside && elim d [
              | true ↦ is_none t.group && (is_clear unknown rest (s ∷ path) && are_twins inside path other)
              | false ↦ is_apart unknown rest (v ∷ other) &&
                  elim path [ [] ↦ is_nothing inside | (u ∷ further) ↦ is_apart (beyond t.group unknown) inside (u ∷ further) ]
            ]
            | false ↦ not d && elim (apart.is_called s.name t.name) [
              | true ↦ (is_off unknown s.guards t cells inside ||
                  elim path [ [] ↦ false | (u ∷ further) ↦ is_clear (beyond t.group unknown) inside (u ∷ further) ]) && are_twins rest (s ∷ path) (v ∷ other)
              | false ↦ are_twins rest (s ∷ path) (v ∷ other)
            ]
          ]) ≡ true
          → AreFound nodes es s path (written_lines es (a_line t cells inside rest) held c) n
          ((elim b [
            | true ↦ flat_map (λ (x : At). map (behind x.number) (last_places path (spot_of es t cells x.context)
                (places es inside path (holds_further es cells inside held x.context) x.context (begin_in es t cells x))))
                (sized (long_of es t cells inside held) (emitted es t cells inside held c) n)
            | false ↦ places es rest (s ∷ path) held c (past (long_of es t cells inside held) (emitted es t cells inside held c) n)
          ])
          ++ (elim d [
            | true ↦ flat_map (λ (x : At). map (behind x.number) (last_places other (spot_of es t cells x.context)
                (places es inside other (holds_further es cells inside held x.context) x.context (begin_in es t cells x))))
                (sized (long_of es t cells inside held) (emitted es t cells inside held c) n)
            | false ↦ places es rest (v ∷ other) held c (past (long_of es t cells inside held) (emitted es t cells inside held c) n)
          ]))
      go inner later true e true f k =
          let a = both-true (meets_all unknown s.guards t cells inside) _ k in
          let g = both-true (is_none t.group) _ a.1 in
          let l = both-true (is_clear unknown rest (s ∷ path)) (are_twins inside path other) g.1 in
          shared inner e a.0 g.0 l.0 l.1 path other refl refl
      go inner later true e false f k =
          let a = both-true (meets_all unknown s.guards t cells inside) _ k in
          let l = both-true (is_apart unknown rest (v ∷ other)) _ a.1 in
          parted e a.0 l.0 l.1
      go inner later false e true f k = absurd (false≢true k)
      go inner later false e false f k = by-name later (apart.is_called s.name t.name) refl k

-- ---- the document

pub placed-twins : (rows : List Row) (es : List Entry) (path other : List Step) → same_way path other ≡ true → are_twins (plan_of rows) path other ≡ true
    → ArePlaced (document_nodes (document_of rows es)) es path (places_at rows es path ++ places_at rows es other)
unfolding document_of
placed-twins rows es [] other way h = absurd (no-twins [] [] (plan_of rows) other h)
placed-twins rows es (s ∷ path) [] way h = absurd (no-twins-behind [] [] (plan_of rows) (s ∷ path) h)
placed-twins rows es (s ∷ path) (v ∷ other) way h =
    let nodes : List Node = document_nodes (document_of rows es) in
    let f : Forest = written_lines es (plan_of rows) false root_context in
    let holds : Holds nodes 0 [] 1 f = document-holds f in
    let same = both-true (same_look s v) (same_way path other) way in
    let w = twins-found nodes es (plan_of rows) s path v other false root_context (0 ∷ []) 1 holds.lies same.0 same.1 h in
    record { ways_are = inside-ways nodes 0 [] 1 f s path holds ∙ w.ways_are; each = w.each }

-- the second of the two
pub placed-second : (rows : List Row) (es : List Entry) (path other : List Step) → same_way path other ≡ true → are_twins (plan_of rows) path other ≡ true
    → ArePlaced (document_nodes (document_of rows es)) es other (places_at rows es path ++ places_at rows es other)
placed-second rows es path other way h =
    let w = placed-twins rows es path other way h in
    record { ways_are = sym (same-ways (document_nodes (document_of rows es)) path other way 0) ∙ w.ways_are; each = w.each }
