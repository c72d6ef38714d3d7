-- The rows that check an indicator, as the crates below name them; and the syntax of a document.
use Rattle.std.proofs.Common.{◌≡◌, not, ◌&&◌, List, Option, Some, None, Result, Ok, Err, filter, is_some, refl, ap, ◌∙◌}
use Rattle.inv_base.specs.Tree.{Node}
use Rattle.bind_rows.specs.declared.rows.Row.{Row}
use Rattle.bind_rows.specs.declared.rows.Content.{Content}
use Rattle.bind_rows.specs.declared.rows.Content.TheVariants as contents
use Rattle.bind_rows.specs.declared.rows.Check.{Check}
use Rattle.bind_rows.specs.declared.rows.Check.TheVariants as checks
use Rattle.bind_meaning.specs.declared.fault.BindFault.{BindFault}
use Rattle.bind_meaning.specs.declared.fault.BindKind.TheVariants as kinds
use Rattle.bind_rows.specs.declared.tables.DocumentType.{DocumentType}
use Rattle.bind_meaning.specs.Kept.{all_kept}
use Rattle.bind_meaning.specs.Picks.{Numbered, numbered, rows_where, all_picked, term_in}
use Rattle.bind_meaning.specs.Terms.{Read, in_order}
use Rattle.bind_walk.specs.Picks as walk
use Rattle.bind_terms.specs.Reading as terms
use Rattle.bind_run.specs.Roots.{known, unknown_root}
use Rattle.bind_run.specs.Reading.{IsWholeIfMemory}

same-test : (content : Content) (check : Check) → walk.indicator_in content check ≡ (not (is_some (term_in content)) && terms.is_indicator check)
same-test (contents.Term term) check = refl
same-test (contents.Constant text) checks.Nothing = refl
same-test (contents.Constant text) checks.Scheme = refl
same-test (contents.Constant text) checks.Format = refl
same-test (contents.Constant text) (checks.Indicator term) = refl

pub same-indicators : (nodes : List Node) (rows : List Row)
    → all_kept (in_order nodes (all_picked nodes (rows_where walk.is_indicator rows))) ≡ all_kept (in_order nodes (terms.indicator_picks nodes rows))
same-indicators nodes rows = λ i. all_kept
    (in_order nodes (all_picked nodes (filter (λ (r : Numbered). same-test r.row.content r.row.check i) (numbered 1 rows))))

pub known-ok : (o : Option DocumentType) (table : DocumentType) → known o ≡ Ok table → o ≡ Some table
known-ok None table e = cc
known-ok (Some x) table e = let same : x ≡ table = cc in ap Some same

pub known-err : (o : Option DocumentType) (fault : BindFault) → known o ≡ Err fault → (o ≡ None)
    × (◌≡◌ {A = Result Read BindFault} (Err unknown_root) (Err fault))
known-err None fault e = let same : unknown_root ≡ fault = cc in (refl, ap Err same)
known-err (Some x) fault e = cc

pub known-same : (o : Option DocumentType) (fault : BindFault) → known o ≡ Err fault → (o ≡ None) × (unknown_root ≡ fault)
known-same None fault e = let same : unknown_root ≡ fault = cc in (refl, same)
known-same (Some x) fault e = cc

pub same-node : (a b : BindFault) → ◌≡◌ {A = Result Read BindFault} (Err a) (Err b) → a.node ≡ b.node
same-node a b e = let same : a ≡ b = cc in ap (λ (f : BindFault). f.node) same

-- an unknown root isn't want of memory
pub not-memory : (fault : BindFault) → ◌≡◌ {A = Result Read BindFault} (Err unknown_root) (Err fault) → IsWholeIfMemory fault
not-memory fault e memory =
    let same : unknown_root ≡ fault = cc in
    absurd (let z : kinds.UnknownRoot ≡ kinds.Memory = ap (λ (f : BindFault). f.kind) same ∙ memory in cc)
