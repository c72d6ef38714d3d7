-- Pieces of a document that are read one behind another.
use Rattle.std.proofs.Common.{◌≡◌, ℕ, ◌+◌, true, List, ◌∷◌, ◌++◌, length, sym, ap, ◌∙◌, arith}
use Rattle.std.proofs.lemmas.List.{append_assoc, length-append}
use Rattle.xml_state.specs.declared.limits.Limits.{Limits}
use Rattle.xml_events.specs.Events.{Event}
use Rattle.xml_state.specs.States.{State}
use Rattle.xml_profile.specs.TokenByToken.{telling, read}
use Rattle.xml_laws.proofs.StepLemmas.{telling-more}
use Rattle.xml_laws.proofs.TextReadLemmas.{ReadsPiece}

-- What is read of a piece, whatever follows.
pub record ReadsAny (limits : Limits) (s s' : State) (place : ℕ) (piece : List ℕ) (events : List Event) : Type 0 where
  pub is : (rest : List ℕ) → read true limits s place 0 (piece ++ rest) ≡ telling events (read true limits s' (place + length piece) 0 rest)

-- A piece that is nothing, or begins a tag.
pub record BeginsTag (piece : List ℕ) : Type 0 where
  pub more : List ℕ → List ℕ
  pub is : (rest : List ℕ) → piece ++ (0x3C ∷ rest) ≡ 0x3C ∷ more rest

module _ (limits : Limits) (s t u : State) (place : ℕ) (a b : List ℕ) (d e : List Event) where
  both-read : (rest : List ℕ) → read true limits s place 0 (a ++ (b ++ rest)) ≡ telling d (read true limits t (place + length a) 0 (b ++ rest))
      → read true limits t (place + length a) 0 (b ++ rest) ≡ telling e (read true limits u (place + length a + length b) 0 rest)
      → read true limits s place 0 ((a ++ b) ++ rest) ≡ telling (d ++ e) (read true limits u (place + length (a ++ b)) 0 rest)
  both-read rest p q =
      let l = length-append a b in
      let n : place + length a + length b ≡ place + length (a ++ b) = omega arith in
      ap (read true limits s place 0) (append_assoc a b rest)
      ∙ (p
      ∙ (ap (telling d) q
      ∙ (telling-more d e (read true limits u (place + length a + length b) 0 rest)
      ∙ ap (λ k. telling (d ++ e) (read true limits u k 0 rest)) n)))

  pub any-any : ReadsAny limits s t place a d → ReadsAny limits t u (place + length a) b e → ReadsAny limits s u place (a ++ b) (d ++ e)
  any-any p q = record { is = λ rest. both-read rest (p.is (b ++ rest)) (q.is rest) }

  pub any-piece : ReadsAny limits s t place a d → ReadsPiece limits t u (place + length a) b e → ReadsPiece limits s u place (a ++ b) (d ++ e)
  any-piece p q = record { is = λ rest. both-read (0x3C ∷ rest) (p.is (b ++ (0x3C ∷ rest))) (q.is rest) }

  pub piece-piece : ReadsPiece limits s t place a d → ReadsPiece limits t u (place + length a) b e → BeginsTag b → ReadsPiece limits s u place (a ++ b) (d ++ e)
  piece-piece p q g = record { is = λ rest. both-read (0x3C ∷ rest) (at rest) (q.is rest) }
    where
      at : (rest : List ℕ) → read true limits s place 0 (a ++ (b ++ (0x3C ∷ rest))) ≡ telling d (read true limits t (place + length a) 0 (b ++ (0x3C ∷ rest)))
      at rest =
          ap (λ x. read true limits s place 0 (a ++ x)) (g.is rest)
          ∙ (p.is (g.more rest) ∙ ap (λ x. telling d (read true limits t (place + length a) 0 x)) (sym (g.is rest)))

module _ (limits : Limits) (s t u : State) (place : ℕ) (a b : List ℕ) (d e : List Event) where
  pub piece-any : ReadsPiece limits s t place a d → ReadsAny limits t u (place + length a) (0x3C ∷ b) e → ReadsAny limits s u place (a ++ (0x3C ∷ b)) (d ++ e)
  piece-any p q = record { is = λ rest. both-read limits s t u place a (0x3C ∷ b) d e rest (p.is (b ++ rest)) (q.is rest) }
