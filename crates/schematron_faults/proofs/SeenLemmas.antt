-- Entries that are gone over by value, as contracts see them.
use Rattle.std.proofs.Common.{◌≡◌, ℕ, ◌+◌, List, [], ◌∷◌, length, map, refl, ap, arith}
use Rattle.std.specs.Borrow.{Bor}
use Rattle.schematron_meaning.specs.Entries.{Entry}
use Rattle.schematron_entries.specs.declared.entry.Entry.{Entry as Read}
use Rattle.schematron_entries.specs.Seen.{seen_entry}

abbrev pub seen_all : List (Bor Read) → List Entry
seen_all items = map (λ (x : Bor Read). seen_entry x.now) items

pub seen_items : (items rest : List (Bor Read)) (e : Bor Read) → items ≡ e ∷ rest → seen_all items ≡ seen_entry e.now ∷ seen_all rest
seen_items items rest e h = ap seen_all h

pub seen_none : (items : List (Bor Read)) (n : ℕ) → n ≡ length items → n ≡ 0 → seen_all items ≡ []
seen_none [] n h k = refl
seen_none (e ∷ items) n h k = absurd (omega (arith, h, k))

pub fewer : {X : Type 0} (items rest : List X) (x : X) (long short : ℕ) → items ≡ x ∷ rest → short + 1 ≡ long → long ≡ length items → short ≡ length rest
fewer items rest x long short e l h = omega (arith, ap length e)
