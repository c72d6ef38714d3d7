use Rattle.std.proofs.Common.{◌≡◌, ℕ, ◌+◌, List, [], ◌∷◌, ◌++◌, length, map, sym, ap, ◌∙◌, append_assoc, append-nil, arith}
use Rattle.rule_library.specs.Library.{Named, named}
use Rattle.rule_library.specs.Readings.{File}
use Rattle.rule_library.proofs.loading.names_of.Goals as goal

begins : (names : List Named) (items files : List File) → names ≡ [] → items ≡ files → names ++ map named items ≡ map named files
begins names items files e f = ap (λ l. l ++ map named items) e ∙ ap (map named) f

goes_on : (old new : List Named) (items rest files : List File) (file : File) (name : Named) → items ≡ file ∷ rest → new ≡ old ++ name ∷ [] → name ≡ named file
    → old ++ map named items ≡ map named files
    → new ++ map named rest ≡ map named files
goes_on old new items rest files file name e f n h =
    ap (λ l. l ++ map named rest) (f ∙ ap (λ x. old ++ x ∷ []) n) ∙
    (append_assoc old (named file ∷ []) (map named rest) ∙ (ap (λ l. old ++ map named l) (sym e) ∙ h))

less : (items rest : List File) (file : File) (len fewer : ℕ) → items ≡ file ∷ rest → fewer + 1 ≡ len → len ≡ length items → fewer ≡ length rest
less items rest file len fewer e l h = omega (arith, ap length e)

ends : (names : List Named) (items files : List File) (len : ℕ) → len ≡ 0 → len ≡ length items → names ++ map named items ≡ map named files →
    names ≡ map named files
ends names [] files len e l h = sym (append-nil names) ∙ h
ends names (file ∷ items) files len e l h = absurd (omega (arith, e, l))

pub files-init : goal.files-init
files-init c =
    let gives = c.into_iter-file-iterator.ensures.into_iter_gives in
    (begins _ _ _ c.new-names.ensures.items gives.0, gives.1 ∙ (c.args.files.ok.0 ∙ sym (ap length gives.0)))

pub files-preserved : goal.files-preserved
files-preserved c = (
  goes_on _ _ _ _ c.args.files.items _ _ c.in-Some.ensures.steps.0 c.in_ok-push.ensures.items c.into_named.ensures c.files.invariant.0,
  less _ _ _ _ _ c.in-Some.ensures.steps.0 c.in-Some.ensures.steps.1 c.files.invariant.1,
)

pub returns : goal.returns
returns c = ends _ _ c.args.files.items _ c.in-None.ensures.steps.0 c.files.invariant.1 c.files.invariant.0
